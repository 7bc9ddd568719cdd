-- `refusal_words::place_below` meets its contract. Assumes nothing.
use mathlib.Core.Path.{sym, ap}
use mathlib.Core.Bool.{Bool, cond}
use native.Mathlib.Omega.{arith}
use borrow.Author.Tests.{lt-ltb, le-ltb}
use Rattle.refusal_words.proofs.place_below.Goals as goal

pub returns-then-number-count : goal.returns-then-number-count
returns-then-number-count c = sym (ap (λ (b : Bool). cond b c.args.number 0) (lt-ltb c.args.number c.args.count (omega arith)))

pub returns-else-number-count : goal.returns-else-number-count
returns-else-number-count c = sym (ap (λ (b : Bool). cond b c.args.number 0) (le-ltb c.args.number c.args.count (omega arith)))
