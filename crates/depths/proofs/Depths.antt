-- The depth of the best goodput: it is within the curve, and it is what the calls gave. Assumes nothing.
use mathlib.Core.Path.{◌≡◌, refl, sym, ap, ◌∙◌}
use mathlib.Core.Bool.{Bool, true, false, cond, ◌&&◌}
use mathlib.Core.List.{List, [], ◌∷◌}
use Prim.Native.Nat.{ℕ, suc, ◌+◌, ◌-◌, ◌≤◌, ◌<◌}
use native.Mathlib.Omega.{arith}
use lib.ListN.{length, take, drop, length-append}
use lib.Seq.{take_at, length-take-le}
use lib.Ieee.{Float, lt}
use Rattle.float.specs.Floats.{is_finite}
use Rattle.speculative.specs.declared.drafter.Rates.{Rates}
use Rattle.speculative.specs.declared.drafter.DrafterCost.{DrafterCost}
use Rattle.chains.specs.Expected.{expected_over}
use Rattle.depths.specs.Goodput.{goodput_of, weigh, best_from, best_depth}
use Rattle.depths.specs.Pricing.{costs_from, depth_over, gate_depth}
use Rattle.depths.specs.declared.inner.Best.{Best}
use Rattle.depths.specs.Worths.{unweighed, raised_from, worths_from, over_worths, seconds_at}
use Rattle.chains.proofs.Fill.{length_scan}
use Rattle.depths.proofs.Worths.{best_raised}

-- ---- the best depth is within the curve
either : (t : Bool) (x y : Best) (D : ℕ) → x.depth ≤ D → y.depth ≤ D → (cond t x y).depth ≤ D
either true x y D p q = p
either false x y D p q = q

best_within : (n g : ℕ) (b : Best) (es cs : List Float) (D : ℕ) → b.depth ≤ D → g + length cs ≤ D + 1 → (best_from n g b es cs).depth ≤ D
unfolding best_from
best_within n g b [] cs D p q = p
best_within n g b (e ∷ es) [] D p q = p
best_within n g b (e ∷ es) (c ∷ cs) D p q =
    best_within n (suc g) (weigh n b g e c) es cs D (either (is_finite c && lt b.worth (goodput_of n e c)) (record { depth = g; worth = goodput_of n e c }) b D (omega arith) p) (omega arith)

depth_within : (n : ℕ) (es cs : List Float) → 0 < length cs → best_depth n es cs ≤ length cs - 1
depth_within n es cs h = best_within n 0 _ es cs (length cs - 1) (omega arith) (omega arith)

-- ---- from what the calls gave to the definitions
-- as long as the curve is what is looked at of the buffer that its worths were written to
pub over_long : (kind : DrafterCost) (n : ℕ) (rates : Rates) (loaded : Float) (es curve out ws : List Float)
    → length curve ≤ length out → ws ≡ over_worths n es (seconds_at kind n rates loaded) curve out → length (take (length curve) ws) ≡ length curve
over_long kind n rates loaded es curve out ws h e =
    let written = worths_from n es (seconds_at kind n rates loaded) 0 curve in
    let l : length written ≡ length curve = length_scan _ _ 0 curve in
    length-take-le (length curve) ws (omega (arith, ap length e, length-append written (drop (length curve) out), l))

pub over_chosen : (kind : DrafterCost) (n : ℕ) (rates : Rates) (loaded : Float) (es curve out ws : List Float) (r : ℕ)
    → length es ≡ length curve → ws ≡ over_worths n es (seconds_at kind n rates loaded) curve out
    → r ≡ (raised_from 0 unweighed (take (length curve) ws)).depth → r ≡ depth_over kind n rates loaded es curve
unfolding depth_over
over_chosen kind n rates loaded es curve out ws r l q e =
    let front : take (length curve) ws ≡ worths_from n es (seconds_at kind n rates loaded) 0 curve
    = ap (take (length curve)) q ∙ take_at (worths_from n es (seconds_at kind n rates loaded) 0 curve) _ (length curve) (length_scan _ _ 0 curve) in
    e ∙ ap (λ (w : List Float). (raised_from 0 unweighed w).depth) front
    ∙ ap (λ (b : Best). b.depth) (sym (best_raised kind n rates loaded es 0 unweighed curve (omega (arith, l))))

-- no depth at all
pub over_none : (kind : DrafterCost) (n : ℕ) (rates : Rates) (loaded : Float) (es curve : List Float)
    → length es ≡ length curve → length curve ≡ 0 → 0 ≡ depth_over kind n rates loaded es curve
unfolding depth_over best_from
over_none kind n rates loaded [] curve l h = refl
over_none kind n rates loaded (e ∷ es) curve l h = absurd (let w : ⊥ = omega (arith, l, h) in w)

pub over_within : (kind : DrafterCost) (n : ℕ) (rates : Rates) (loaded : Float) (es curve : List Float) → 0 < length curve → depth_over kind n rates loaded es curve ≤ length curve - 1
unfolding depth_over
over_within kind n rates loaded es curve h =
    let l : length (costs_from kind n rates loaded 0 curve) ≡ length curve = length_scan _ _ 0 curve in
    omega (arith, depth_within n es (costs_from kind n rates loaded 0 curve) (omega (arith, l)), l)

module _ (kind : DrafterCost) (rates : Rates) (loaded : Float) (lengths : List ℕ) (chains curve es : List Float) (n gamma r : ℕ)
    (en : n ≡ length lengths) (eg : gamma ≡ length curve - 1) (p : es ≡ expected_over gamma lengths chains)
    (e : r ≡ depth_over kind n rates loaded (take (length curve) es) curve) where
  pub gate_chosen : r ≡ gate_depth kind rates loaded lengths chains curve
  unfolding gate_depth
  gate_chosen =
      e ∙ ap (λ (l : List Float). depth_over kind n rates loaded (take (length curve) l) curve) p
      ∙ ap (λ (g : ℕ). depth_over kind n rates loaded (take (length curve) (expected_over g lengths chains)) curve) eg
      ∙ ap (λ (m : ℕ). depth_over kind m rates loaded (take (length curve) (expected_over (length curve - 1) lengths chains)) curve) en

  pub gate_within : 0 < length curve → r ≤ length curve - 1
  gate_within h = omega (arith, e, over_within kind n rates loaded (take (length curve) es) curve h)
