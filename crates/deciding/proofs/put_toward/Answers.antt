-- `put_toward` meets its contract. Assumes nothing.
use Rattle.deciding.proofs.Decisions.{put_decides}
use Rattle.deciding.proofs.put_toward.Goals as goal

pub toward-next-requires-clause-curve_len_bound : goal.toward-next-requires-clause-curve_len_bound
toward-next-requires-clause-curve_len_bound c = c.requires.drafts_len.1

pub toward-next-requires-clause-held : goal.toward-next-requires-clause-held
toward-next-requires-clause-held c = c.requires.held

pub returns : goal.returns
returns c =
    let a = c.args in
    put_decides a.ask.sequences a.ask.a a.ask.b _ _ _ _ _ c.toward-next.ensures (c.fill.ensures.after (λ y e. e)) c.requires.drafts_len.0 c.bits.ensures
