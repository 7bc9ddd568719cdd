-- `inner::weigh_all` meets its contract. The loop's invariant is `Trimming`, that the code is in step with the definition, `Counts`, that the
-- passes' counts are those of the widths, and that the tally's rate is that of its sums. The measure is the number of slots that are not weighed yet, at
-- most. Assumes nothing.
use Prim.Native.Nat.{ℕ, ◌*◌, ◌-◌}
use mathlib.Core.List.{List}
use Rattle.verify_prices.specs.Rule.{price_by, rule_of}
use Rattle.verdict.specs.Tallies.{sums_of, Rated}
use Rattle.verdict.specs.declared.inner.Tally.{Tally}
use Rattle.slots.specs.Gate.{State}
use Rattle.trim.specs.Kept.{Counts, listed}
use Rattle.trim.proofs.Trimming.{Trimming}
use Rattle.trim.proofs.inner.weigh_all.Given as goal

abbrev pub state_of : Tally → List ℕ → State
state_of tally widths = record { sums = sums_of tally; widths = widths }

abbrev pub invariant-loop-live : goal.invariant-loop-live
invariant-loop-live l =
    Trimming (listed l.passes) (rule_of l.mode l.curve l.n) l.chains l.depth l.initial.widths l.initial.rank l.initial.seq l.rank l.seq (state_of l.tally l.widths) l.live l.weighed
    × (Counts l.nk l.widths l.depth × Rated (price_by l.mode l.curve l.n) l.tally)

abbrev pub decreases-loop-live : goal.decreases-loop-live
decreases-loop-live l = l.n * 64 - l.weighed
