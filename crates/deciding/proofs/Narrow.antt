-- NO POLICY DRAFTS ABOVE 64: the best depth and every candidate are depths of the price curve, no width of a gate is above its chain's length, and the record
-- that switching starts from was judged. Assumes nothing.
use mathlib.Core.Path.{◌≡◌, refl}
use mathlib.Core.Bool.{false, cond}
use mathlib.Core.List.{List, [], ◌∷◌}
use Prim.Native.Nat.{ℕ, ◌+◌, ◌≤◌, ◌<◌, zero-le, suc-le-suc}
use native.Mathlib.Nat.{le_trans}
use native.Mathlib.Omega.{arith}
use borrow.Author.Tests.{eqb-true}
use lib.Dec.{eqb}
use lib.Ieee.{Float}
use lib.ListN.{length, get_or}
use Rattle.asking.proofs.Passed.{under_le}
use Rattle.speculative.specs.declared.drafter.Rates.{Rates}
use Rattle.speculative.specs.declared.drafter.DrafterCost.{DrafterCost}
use Rattle.chains.specs.Scan.{scan}
use Rattle.depths.specs.Goodput.{best_from}
use Rattle.depths.specs.Pricing.{depth_over}
use Rattle.depths.proofs.Depths.{over_within}
use Rattle.switch_settings.specs.Switch.{is_unconstrained}
use Rattle.switch_settings.specs.declared.MaxStep.{MaxStep}
use Rattle.switch_settings.specs.declared.SwitchConstraints.{SwitchConstraints}
use Rattle.width_walk.specs.Walk.{walk_candidates}
use Rattle.switching.specs.Deciding.{is_due, candidates_of, decided}
use Rattle.switching.specs.declared.Switching.{Switching}
use Rattle.switching.proofs.Widths.{arrives, candidate_finite}
use Rattle.ledger_rows.specs.declared.layout.Past.{Past}
use Rattle.ledger_rows.proofs.Tests.{by_test}
use Rattle.settings.specs.declared.Policy.{Policy}
use Rattle.settings.specs.declared.Policy.TheVariants.{Fixed, GoodputBudget, GatedBudget, GatedAggregate}
use Rattle.settings.specs.declared.Settings.{Settings}
use Rattle.settings.specs.Settings.{gamma_in}
use Rattle.asked_rooms.specs.declared.Ask.{Ask}
use Rattle.asking.specs.Asked.{Lent}
use Rattle.asking.specs.Values.{held_of}
use Rattle.deciding.specs.Deciding.{toward, all_at, all_put, mean_expected, chains_in, best_in, decided_by}
use Rattle.deciding.proofs.Gated.{Narrow, gate_narrow, equal_narrow}

-- ---- a width of switching is a candidate, the target, or the one that was held

walk_low : (l : List ℕ) (most width target : ℕ) (step : MaxStep) → ((i : ℕ) → i < length l → get_or l i 0 ≤ most) → width ≤ most → walk_candidates l width target step ≤ most
walk_low [] most width target step each h = h
walk_low (c ∷ cs) most width target step each h =
    let r = arrives (c ∷ cs) width target step (suc-le-suc zero-le) in
    omega (arith, r.is, each r.index r.within)

decided_low : (r : Switching) (curve : List Float) (target : ℕ) (c : SwitchConstraints) → length curve ≤ 65 → r.width ≤ 64 → (decided r curve target c).width ≤ 64
decided_low r curve target c h w = by_test (is_due c (r.rounds + 1))
    (λ l. rw l (walk_low (candidates_of curve) 64 r.width target c.max_step (λ i k. omega (arith, (candidate_finite 0 i curve k).0)) w))
    (λ l. rw l w)

toward_low : (c : SwitchConstraints) (curve : List Float) (target : ℕ) (past : Past) → (past.kind ≡ 2 → past.width ≤ 64) → length curve ≤ 65 → target ≤ 64 → (toward c curve target past).width ≤ 64
toward_low c curve target past held h t = by_test (eqb past.kind 2)
    (λ l. rw l (decided_low (held_of past) curve target c h (held (eqb-true past.kind 2 l))))
    (λ l. rw l t)

-- ---- what the loop ends with is a depth of the curve
pub loop_low : (kind : DrafterCost) (n : ℕ) (rates : Rates) (loaded : Float) (es curve : List Float) → length curve ≤ 65 → depth_over kind n rates loaded es curve ≤ 64
unfolding depth_over best_from scan
loop_low kind n rates loaded [] [] h = zero-le
loop_low kind n rates loaded (e ∷ es) [] h = zero-le
loop_low kind n rates loaded es (c ∷ curve) h = omega (arith, over_within kind n rates loaded es (c ∷ curve) (suc-le-suc zero-le))

-- ---- each policy

wider : (n g h : ℕ) (ws : List ℕ) → g ≤ h → Narrow n g ws → Narrow n h ws
wider n g h ws m w = record { count = w.count; each = λ k l. le_trans (w.each k l) m }

-- `best` is a depth of the curve, which has a price for each depth from 0 to 64 at most
module _ (best : List Float → List Float → ℕ) (s : Settings) (a : Ask) (l : Lent) (curve : List Float) (small : s.gamma ≤ 64) (low : (es : List Float) → best es curve ≤ 64) (short : length curve ≤ 65) where
  abbrev target : ℕ
  target = best_in best s a l curve

  equal : (w : ℕ) → w ≤ 64 → Narrow a.sequences 64 (all_at a.sequences w).drafts
  equal w h = wider a.sequences w 64 _ h (equal_narrow a.sequences w)

  aggregate : (past : Past) → (is_unconstrained s.switch ≡ false → past.kind ≡ 2 → past.width ≤ 64)
      → Narrow a.sequences 64 (cond (is_unconstrained s.switch) (all_at a.sequences target) (all_put a.sequences a.a a.b (toward s.switch curve target past))).drafts
  aggregate past held = by_test (is_unconstrained s.switch)
      (λ u. rw u (equal target (low _)))
      (λ u. rw u (equal (toward s.switch curve target past).width (toward_low s.switch curve target past (held u) short (low _))))

  pub decided_narrow : (policy : Policy) (past : Past) → (policy ≡ GatedAggregate → is_unconstrained s.switch ≡ false → past.kind ≡ 2 → past.width ≤ 64)
      → Narrow a.sequences 64 (decided_by best s a l curve policy past).drafts
  unfolding decided_by
  decided_narrow Fixed past held = equal s.gamma small
  decided_narrow GoodputBudget past held = equal (best (mean_expected s.model l.positions l.bank_curve_of a.depth a.sequences (gamma_in s a.depth)) curve) (low _)
  decided_narrow GatedBudget past held = wider a.sequences (gamma_in s a.depth) 64 _ (le_trans (under_le s.policy s.model s.gamma a.depth) small)
      (gate_narrow a.sequences (gamma_in s a.depth) s.prices s.drafter a.rates l.loaded curve (chains_in best s a l curve) target)
  decided_narrow GatedAggregate past held = aggregate past (held refl)
