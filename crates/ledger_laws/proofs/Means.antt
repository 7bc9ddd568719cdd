-- NO MORE IS COMMITTED THAN IS DRAFTED, at every second after any calls within the bounds: committed ≤ drafts ≤ 64 × sequences, and so no mean committed passes
-- the mean draft. Assumes nothing.
use mathlib.Core.Path.{◌≡◌, sym, ◌∙◌}
use mathlib.Core.Bool.{false}
use mathlib.Core.List.{List, []}
use mathlib.Core.Option.{some}
use Prim.Native.Nat.{ℕ, ◌*◌, ◌^◌, ◌≤◌, ◌<◌, max}
use native.Mathlib.Nat.{mul-le-mul_right}
use native.Mathlib.Omega.{arith}
use lib.Dec.{T, ltb, eqb}
use lib.Ieee.{binary64, le, round}
use lib.Ieee.Order.{round_mono}
use lib.ListN.{length, get_or}
use Rattle.decimals.proofs.Rounding.{divided_once}
use Rattle.ledger_rows.proofs.Maps.{none_some}
use Rattle.ledger_rows.proofs.Tests.{by_test}
use Rattle.ledger_series.specs.Series.{mean_of}
use Rattle.ledger_laws.specs.Model.{Sums, Change, sums_at, Call, after, nothing_stands, InDomain}
use Rattle.ledger_laws.specs.Encode.{seconds_given, no_second}
use Rattle.ledger_laws.proofs.Orders.{second_order}
use Rattle.ledger_laws.proofs.SameRows.{row_held}
use Rattle.ledger_laws.proofs.Given.{Sound, Fair, fair, seconds_ascend, held_sums, at_seconds}
use Rattle.ledger_laws.proofs.Theorem.{afresh, reached_nothing}

-- a mean is the quotient rounded once
rounded_once : (sum count : ℕ) → sum < 2 ^ 53 → count < 2 ^ 53 → mean_of sum count ≡ round binary64 false sum (max count 1)
rounded_once sum count h k = divided_once sum (max count 1) h (omega arith) (omega arith)

-- of the same count, the mean of less is not more
pub mean_mono : (less more count : ℕ) → more < 2 ^ 53 → count < 2 ^ 53 → less ≤ more → T (le (mean_of less count) (mean_of more count))
mean_mono less more count h k l =
    rw (rounded_once less count (omega arith) k, rounded_once more count h k)
    (round_mono binary64 less (max count 1) more (max count 1) (omega arith) (omega arith) (mul-le-mul_right (max count 1) l))

pub record Ordered (s : Sums) : Type 0 where
  pub committed_most : s.committed ≤ s.drafts
  pub drafts_most : s.drafts ≤ 64 * s.sequences
  pub mean_most : T (le (mean_of s.committed s.sequences) (mean_of s.drafts s.sequences))

fair_ordered : (s : Sums) → Fair s → Ordered s
fair_ordered s f = record {
  committed_most = f.committed_few;
  drafts_most = f.drafts_few;
  mean_most = mean_mono s.committed s.drafts s.sequences (omega (arith, f.drafts_few, f.sequences_few, f.few)) (omega (arith, f.sequences_few, f.few)) f.committed_few;
}

pub sums_ordered : (t : ℕ) (cs : List Change) → Sound cs → Ordered (sums_at t cs)
sums_ordered t cs s = fair_ordered (sums_at t cs) (fair t cs s)

-- so is each row
held_is : (v s : Sums) → some v ≡ held_sums s → v ≡ s
unfolding held_sums
held_is v s e = by_test (ltb 0 s.steps) (λ q. let z : some v ≡ some s = rw q at e in cc) (λ q. absurd (none_some v (sym (rw q at e))))

pub rows_ordered : (cs : List Change) → Sound cs → (i : ℕ) → i < length (seconds_given cs) → Ordered (get_or (seconds_given cs) i no_second).1
rows_ordered cs s i h =
    let r : ℕ × Sums = get_or (seconds_given cs) i no_second in
    let e : r.1 ≡ sums_at r.0 cs = held_is r.1 (sums_at r.0 cs) (sym (row_held ltb eqb second_order (seconds_given cs) (seconds_ascend cs) no_second i h) ∙ at_seconds r.0 cs) in
    rw e (sums_ordered r.0 cs s)

-- after any calls within the bounds
pub always_ordered : (ks : List Call) → InDomain ks → (t : ℕ) → Ordered (sums_at t (after ks nothing_stands).changes)
always_ordered ks d t = sums_ordered t (after ks nothing_stands).changes (afresh ks nothing_stands [] d reached_nothing).1.sound
