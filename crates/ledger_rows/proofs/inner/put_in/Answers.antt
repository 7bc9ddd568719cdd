use Rattle.std.proofs.Common.{ℕ, List, ap, ◌∙◌}
use Rattle.ledger_rows.specs.Words.{stored}
use Rattle.ledger_rows.proofs.Shift.{opened_by}
use Rattle.ledger_rows.proofs.inner.put_in.Goals as goal

pub returns : goal.returns
returns c =
    let a = c.args in
    c.put.ensures ∙ ap (λ (l : List ℕ). stored a.from a.values.now l) c.copy_within.ensures.after ∙ opened_by a.words.now a.values.now a.from a.end c.requires.0 c.requires.1
