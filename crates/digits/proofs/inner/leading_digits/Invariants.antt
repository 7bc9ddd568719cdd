-- `digits::leading_digits` meets its contract: at each place the answer is what was read and the leading digits from there on. Assumes nothing.
use mathlib.Core.Path.{◌≡◌}
use Prim.Native.Nat.{◌≤◌}
use lib.ListN.{drop}
use Rattle.digits.specs.Digits.{leading_digits}
use Rattle.digits.proofs.Leading.{after}
use Rattle.digits.proofs.inner.leading_digits.Given as goal

abbrev pub invariant-loop-count : goal.invariant-loop-count
invariant-loop-count l = (l.number ≤ l.limit) × (leading_digits l.start l.limit l.bytes ≡ after l.count (leading_digits l.number l.limit (drop l.count l.bytes)))
