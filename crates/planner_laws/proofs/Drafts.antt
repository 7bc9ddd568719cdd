-- WHAT AN ACCEPTED PLAN ADDS IS SMALL: at most 64 drafts for each of 1 to 1,024 sequences, and no more is committed. The best depth is one of the price curve's,
-- and the record that switching starts from was judged. Assumes nothing.
use mathlib.Core.Path.{◌≡◌}
use mathlib.Core.Bool.{true, false}
use mathlib.Core.List.{List, [], ◌∷◌}
use Prim.Native.Nat.{ℕ, zero, suc, ◌+◌, ◌-◌, ◌*◌, ◌≤◌, zero-le, suc-le-suc}
use native.Mathlib.Nat.{le_trans}
use native.Mathlib.Omega.{arith}
use borrow.Author.Tests.{leb-true}
use lib.Dec.{leb}
use lib.Ieee.{Float}
use lib.ListN.{length}
use Rattle.speculative.specs.Drafter.{loaded_at}
use Rattle.speculative.specs.declared.drafter.Rates.{Rates}
use Rattle.speculative.specs.declared.drafter.DrafterCost.{DrafterCost}
use Rattle.chains.proofs.Fill.{length_scan}
use Rattle.depths.specs.Goodput.{is_best, first_best, best_of}
use Rattle.depths.specs.Pricing.{costs_from, total_cost}
use Rattle.goodput.specs.Depth.{best_priced}
use Rattle.switch_settings.specs.Switch.{is_unconstrained}
use Rattle.switch_settings.specs.declared.SwitchConstraints.{SwitchConstraints}
use Rattle.ledger_rows.specs.declared.layout.Past.{Past}
use Rattle.ledger_rows.proofs.Tests.{by_test}
use Rattle.ledger_laws.specs.Model.{Change, record_of, Small}
use Rattle.ledger_laws.specs.Encode.{past_from}
use Rattle.settings.specs.declared.Settings.{Settings}
use Rattle.asked_rooms.specs.declared.Ask.{Ask}
use Rattle.asking.specs.Asked.{Lent}
use Rattle.verifies.specs.Accepted.{total_of, committed_of}
use Rattle.verifies.proofs.Summing.{accepted_low}
use Rattle.asking.specs.Values.{held_valued}
use Rattle.deciding.proofs.Gated.{Narrow}
use Rattle.deciding.proofs.Narrow.{decided_narrow}
use Rattle.planning.proofs.Writing.{curve_short}
use Rattle.planner.specs.Plan.{curve_of, drawn, best}
use Rattle.planner_laws.specs.Standing.{worker_in, decision_on, step_on}
use Rattle.planner_laws.proofs.Accepted.{left_holds, Passed}

-- ---- the best depth is one of the curve's

module _ (n : ℕ) (es cs : List Float) where
  first_low : (k g : ℕ) → first_best n es cs k g ≤ k + g - 1
  unfolding first_best
  first_low zero g = zero-le
  first_low (suc k) g = by_test (is_best n es cs g)
      (λ l. rw l (omega arith))
      (λ l. rw l (le_trans (first_low k (suc g)) (omega arith)))

  best_low : best_of n es cs ≤ length cs - 1
  unfolding best_of
  best_low = omega (arith, first_low (length cs) 0)

pub priced_low : (kind : DrafterCost) (n : ℕ) (rates : Rates) (loaded es curve : List Float) → best_priced kind n rates loaded es curve ≤ length curve - 1
priced_low kind n rates loaded es curve =
    omega (arith, best_low n es (costs_from kind n rates (loaded_at kind loaded n) 0 curve), length_scan (λ d _. suc d) (total_cost kind n rates (loaded_at kind loaded n)) 0 curve)

-- ---- the drafts together, and no more is committed

pub total_narrow : (gamma : ℕ) (ws : List ℕ) (n : ℕ) → Narrow n gamma ws → total_of ws ≤ n * gamma
unfolding total_of
total_narrow gamma [] n h = zero-le
total_narrow gamma (w ∷ ws) zero h = absurd (let z = h.count in omega arith)
total_narrow gamma (w ∷ ws) (suc n) h =
    let later : total_of ws ≤ n * gamma = total_narrow gamma ws n (record { count = let z = h.count in omega arith; each = λ k l. h.each (suc k) (suc-le-suc l) }) in
    omega (arith, h.each 0 (suc-le-suc zero-le))

pub committed_most : (drafts commits : List ℕ) → committed_of drafts commits ≤ total_of drafts
unfolding committed_of total_of
committed_most [] cs = omega arith
committed_most (d ∷ ds) [] = zero-le
committed_most (d ∷ ds) (c ∷ cs) = omega (arith, accepted_low d c, committed_most ds cs)

-- ---- of an accepted plan

-- the width that is held was judged, where it is read
held_low : (c : SwitchConstraints) (past : Past) → is_unconstrained c ≡ false → past.kind ≡ 2 → held_valued c past ≡ true → past.width ≤ 64
held_low c past free k held = leb-true past.width 64 (left_holds (leb past.width 64) _ (rw (free, k) at held))

-- a draft for each sequence, none above 64
pub drafts_narrow : (s : Settings) (a : Ask) (l : Lent) (cs : List Change) → Passed s a l cs → Narrow a.sequences 64 (decision_on s a l (record_of (worker_in s a l) cs)).drafts
drafts_narrow s a l cs h =
    let past : Past = past_from (record_of (worker_in s a l) cs) in
    decided_narrow (best s a l) s a l (curve_of s a l) h.gamma_most
    (λ es. omega (arith, priced_low s.drafter a.sequences a.rates l.loaded es (curve_of s a l), curve_short s a l h.gamma_most))
    (curve_short s a l h.gamma_most) s.policy past
    (λ p u k. held_low s.switch past u k (rw p at h.values_pass))

pub step_small : (s : Settings) (a : Ask) (l : Lent) (cs : List Change) → Passed s a l cs → Small (step_on s a l (record_of (worker_in s a l) cs))
step_small s a l cs h = record {
  some_sequences = h.sequences_some;
  sequences_small = h.sequences_most;
  drafts_small = omega (arith, total_narrow 64 _ a.sequences (drafts_narrow s a l cs h));
  committed_small = committed_most (decision_on s a l (record_of (worker_in s a l) cs)).drafts (drawn s a l).commits;
}
