-- `bank_judge::inner::judge_signals` meets its contract: at each field the judgement is that of the fields from there on. Assumes nothing.
use mathlib.Core.Path.{◌≡◌}
use Prim.Native.Nat.{◌≤◌}
use lib.ListN.{length, drop}
use Rattle.text.specs.Fields.{fields}
use Rattle.bank_judge.specs.Judge.{signals_judged}
use Rattle.bank_judge.proofs.inner.judge_signals.Given as goal

abbrev pub invariant-loop-left : goal.invariant-loop-left
invariant-loop-left l = (length l.rest ≤ length l.line) × (signals_judged (drop l.skip (fields l.line)) ≡ signals_judged (drop l.left (fields l.rest)))

abbrev pub decreases-loop-left : goal.decreases-loop-left
decreases-loop-left l = length l.rest
