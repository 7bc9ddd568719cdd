-- `text::same` meets its contract: at each place the answer is that of what follows. Assumes nothing.
use mathlib.Core.Path.{sym}
use Rattle.text.proofs.Laws.{same_lengths}
use Rattle.text.proofs.same.Goals as goal

pub returns-then-a-b : goal.returns-then-a-b
returns-then-a-b c = sym (same_lengths c.args.a.now c.args.b.now c.if-a-b.true)
