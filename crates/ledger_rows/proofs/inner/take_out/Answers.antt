use Rattle.std.proofs.Common.{ℕ, List, ap, ◌∙◌}
use Rattle.ledger_rows.specs.Words.{stored}
use Rattle.ledger_rows.proofs.Shift.{closed_by}
use Rattle.ledger_rows.proofs.inner.take_out.Goals as goal

pub returns : goal.returns
returns c =
    let a = c.args in
    c.put.ensures ∙ ap (λ (l : List ℕ). stored a.end a.values.now l) c.copy_within.ensures.after ∙ closed_by a.words.now a.values.now a.from a.end c.requires.0 c.requires.1
