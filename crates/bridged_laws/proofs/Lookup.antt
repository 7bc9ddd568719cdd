-- With kv_delta 0 the bridged price over a table's curve is the table's fractional lookup at the mean width, as far as the curve goes. Assumes nothing.
use mathlib.Core.Path.{◌≡◌, refl, sym, ap, ◌∙◌}
use mathlib.Core.Bool.{Bool, true, false, ◌&&◌}
use mathlib.Core.List.{List}
use Prim.Native.Nat.{ℕ, ◌+◌, ◌-◌, ◌^◌, ◌≤◌, ◌<◌}
use native.Mathlib.Omega.{arith}
use borrow.Author.Tests.{leb-true, le-leb}
use lib.ListN.{length, get_or, take}
use lib.Ieee.{Float, nan, binary64, of_bits, lt, le, neg, is_nan, fits}
use Rattle.laws.proofs.Both.{both, and_false}
use Rattle.float.specs.Floats.{less, over, whole, f0, f1, infinity}
use Rattle.float.specs.Range.{in_signed_range}
use Rattle.float.proofs.Classes.{clash}
use Rattle.float.proofs.Clamped.{clamp_low}
use Rattle.speculative.specs.Drafter.{billion}
use Rattle.cost_rows.specs.Table.{Row}
use Rattle.cost_rows.specs.Lawful.{in_range, lawful}
use Rattle.nearest_row.specs.declared.Nearest.{Nearest}
use Rattle.std.specs.Prelude.{Option, Some, None}
use Rattle.nearest_row.specs.Lookup.{nearest}
use Rattle.batch_ranges.specs.Range.{measures}
use Rattle.step_times.specs.Prices.{price_of, prices}
use Rattle.step_times.specs.Between as looked
use Rattle.step_times.specs.Between.{depths_of, deepest, shallowest, asked, step_time_frac}
use Rattle.verify_prices.specs.Price.{mean_width}
use Rattle.verify_prices.specs.Bridge.{is_measured, lower, upper, straight, foot_of, ceiling_of, bridged, bridged_cost}
use Rattle.gates_laws.proofs.Sizes.{sized_finite}
use Rattle.gates_laws.proofs.Prices.{width_sized, not_below_zero}
use Rattle.gates_laws.proofs.Bridged.{open_straight}
use Rattle.bridged_laws.specs.Rows.{every_row, or_infinity}
use Rattle.bridged_laws.proofs.Around.{Around}
use Rattle.bridged_laws.proofs.Means.{mean_around}
use Rattle.bridged_laws.proofs.Nearest.{Low, High, deepest_low, shallowest_high, lower_at, lower_none, upper_at, upper_none}
use Rattle.bridged_laws.proofs.Rows.{passes, nearest_passes, lawful_every, each_both}
use Rattle.bridged_laws.proofs.Tabled.{seconds_sized, in_force_at, force_long, measured_exactly}
use Rattle.bridged_laws.proofs.Times.{price_of_time}

-- a time in range that an f64 holds, as every number that is lent does
abbrev is_time : Float → Bool
is_time x = in_range x && fits binary64 x

-- ---- both are straight between the same two
same_straight : (w : Float) (low high : ℕ) (a b : Option Nearest) (x y : Float) → passes is_time a ≡ true → passes is_time b ≡ true → x ≡ price_of f0 a → y ≡ price_of f0 b
    → straight w low high x y ≡ or_infinity (looked.straight w low high a b)
unfolding straight looked.straight price_of
same_straight w low high None b x y p q e f = clash p
same_straight w low high (Some i) None x y p q e f = clash q
same_straight w low high (Some i) (Some j) x y p q e f =
    let P = both (in_range i.seconds) (fits binary64 i.seconds) p in
    let Q = both (in_range j.seconds) (fits binary64 j.seconds) q in
    let xs : x ≡ i.seconds = e ∙ price_of_time i.seconds P.0 P.1 in
    let ys : y ≡ j.seconds = f ∙ price_of_time j.seconds Q.0 Q.1 in
    rw (xs, ys, sized_finite (10 ^ 17) i.seconds (seconds_sized i.seconds P.0), sized_finite (10 ^ 17) j.seconds (seconds_sized j.seconds Q.0))

no_answer : (w : Float) (low high : ℕ) (a b : Option Nearest) → passes is_time a ≡ true → passes is_time b ≡ true → looked.straight w low high a b ≡ None → ⊥
unfolding looked.straight
no_answer w low high None b p q h = clash p
no_answer w low high (Some i) None p q h = clash q
no_answer w low high (Some i) (Some j) p q h = let z : ◌≡◌ {A = ℕ} 0 1 = cc in omega arith

no_delta : in_signed_range (neg billion) billion f0 ≡ true
unfolding in_signed_range of_bits neg lt is_nan
no_delta = refl

-- ---- gamma is up to 64, the rows are in order and in range, and an f64 holds each one's seconds
module _ (gamma n : ℕ) (small : gamma ≤ 64) (table : List Row) (law : lawful table ≡ true) (held : every_row (fits binary64) table ≡ true) where
  -- the prices of the depths 0 to gamma by the table, for n sequences and kv_delta 0
  abbrev pub free_curve : List Float
  free_curve = take (gamma + 1) (prices n f0 table)

  last : length free_curve - 1 ≡ gamma
  last = let l = force_long gamma n f0 table small in omega arith

  some : 0 < length free_curve
  some = let l = force_long gamma n f0 table small in omega arith

  same : (g : ℕ) → g ≤ length free_curve - 1 → is_measured free_curve g ≡ measures g table
  same g l = measured_exactly gamma n small f0 no_delta table law g (omega (arith, last))

  is_time_lem : (g : ℕ) → measures g table ≡ true → passes is_time (nearest n g table) ≡ true
  is_time_lem g h = nearest_passes is_time n g table (each_both in_range (fits binary64) table (lawful_every table law) held) h

  both_there : (w : Float) (low high : ℕ) → low ≤ gamma → high ≤ gamma → measures low table ≡ true → measures high table ≡ true
      → bridged free_curve w low high ≡ or_infinity (looked.straight w low high (nearest n low table) (nearest n high table))
  both_there w low high l h p q =
      same_straight w low high (nearest n low table) (nearest n high table) (get_or free_curve low nan) (get_or free_curve high nan) (is_time_lem low p) (is_time_lem high q)
      (in_force_at gamma n f0 table low small l) (in_force_at gamma n f0 table high small h)

  module _ (t : Float) (number : is_nan (mean_width gamma n t) ≡ false) where
    abbrev width : Float
    width = mean_width gamma n t

    abbrev foot : ℕ
    foot = foot_of gamma width

    abbrev top : ℕ
    top = ceiling_of gamma width foot

    at : Around gamma width foot top
    at = mean_around gamma n t small number

    bridged_at : bridged_cost free_curve n t ≡ bridged free_curve width (lower free_curve foot) (upper free_curve top)
    unfolding bridged_cost
    bridged_at = ap (λ (g : ℕ). let w = mean_width g n t in bridged free_curve w (lower free_curve (foot_of g w)) (upper free_curve (ceiling_of g w (foot_of g w)))) last

    is_asked : asked width ≡ true
    unfolding asked
    is_asked =
        rw (sized_finite gamma width (width_sized gamma n t small number), clamp_low (less (over t (whole n)) f1) f0 (whole gamma) (not_below_zero gamma (omega arith)))

    abbrev found : Option Float
    found = looked.between n width table (deepest width None (depths_of table)) (shallowest width None (depths_of table))

    lookup_is : step_time_frac n width table ≡ found
    unfolding step_time_frac
    lookup_is = rw is_asked

    low_is : Low (λ k. measures k table) foot (deepest width None (depths_of table))
    low_is = deepest_low width foot at.at_or_below table

    high_is : High (λ k. measures k table) top (shallowest width None (depths_of table))
    high_is = shallowest_high width top at.at_or_above table

    -- ---- outside
    hole_below : is_measured free_curve (lower free_curve foot) ≡ false → bridged_cost free_curve n t ≡ infinity
    hole_below h =
        bridged_at
        ∙ open_straight width (get_or free_curve (lower free_curve foot) nan) (get_or free_curve (upper free_curve top) nan) (lower free_curve foot) (upper free_curve top)
        (ap (λ (b : Bool). b && is_measured free_curve (upper free_curve top)) h)

    hole_above : is_measured free_curve (upper free_curve top) ≡ false → bridged_cost free_curve n t ≡ infinity
    hole_above h =
        bridged_at
        ∙ open_straight width (get_or free_curve (lower free_curve foot) nan) (get_or free_curve (upper free_curve top) nan) (lower free_curve foot) (upper free_curve top)
        (ap (λ (b : Bool). is_measured free_curve (lower free_curve foot) && b) h ∙ and_false (is_measured free_curve (lower free_curve foot)))

    -- ---- the lookup's two depths are the curve's, where the upper one is on the curve
    abbrev OnCurve : Option ℕ → Type 0
    OnCurve None = Unit {0}
    OnCurve (Some m) = m ≤ gamma

    by_depths : (d u : Option ℕ) → Low (λ k. measures k table) foot d → High (λ k. measures k table) top u → OnCurve u
        → bridged_cost free_curve n t ≡ or_infinity (looked.between n width table d u)
    unfolding looked.between
    by_depths None u l h e = hole_below (lower_none free_curve (λ k. measures k table) some same foot (omega (arith, last, at.foot_low)) l)
    by_depths (Some low) None l h e =
        hole_above (upper_none free_curve (λ k. measures k table) some same top (omega (arith, last, at.top_low)) (λ k m a b. h k m a))
    by_depths (Some low) (Some high) l h e =
        let is_low : lower free_curve foot ≡ low = lower_at free_curve (λ k. measures k table) some same foot low (omega (arith, last, at.foot_low)) l in
        let is_high : upper free_curve top ≡ high = upper_at free_curve (λ k. measures k table) some same top high (omega (arith, last, e)) h in
        bridged_at ∙ ap (λ (x : ℕ). bridged free_curve width x (upper free_curve top)) is_low ∙ ap (λ (y : ℕ). bridged free_curve width low y) is_high
        ∙ both_there width low high (omega (arith, l.1, at.foot_low)) e l.0 h.0

    answered : (low high : ℕ) → measures low table ≡ true → measures high table ≡ true → looked.between n width table (Some low) (Some high) ≡ None → ⊥
    unfolding looked.between
    answered low high l h e = no_answer width low high (nearest n low table) (nearest n high table) (is_time_lem low l) (is_time_lem high h) e

    by_lookup : OnCurve (shallowest width None (depths_of table)) → bridged_cost free_curve n t ≡ or_infinity (step_time_frac n width table)
    by_lookup e = by_depths (deepest width None (depths_of table)) (shallowest width None (depths_of table)) low_is high_is e ∙ ap or_infinity (sym lookup_is)

    -- a depth at or above the mean width is measured, and no deeper than gamma: the bridged price is what the fractional lookup finds at the mean width; and
    -- where the lookup finds nothing, since no depth at or below the mean width is measured, it is +infinity
    pub is_the_lookup : (k : ℕ) → k ≤ gamma → measures k table ≡ true → le width (whole k) ≡ true → bridged_cost free_curve n t ≡ or_infinity (step_time_frac n width table)
    is_the_lookup k l m h = by_lookup (go (shallowest width None (depths_of table)) high_is)
      where
        go : (u : Option ℕ) → High (λ i. measures i table) top u → OnCurve u
        go None q = tt
        go (Some high) q = omega (arith, q.2 k m (leb-true top k (sym (at.at_or_above k) ∙ h)))

    -- a table without rows past gamma: so at every mean width
    pub is_the_lookup_within : ((k : ℕ) → measures k table ≡ true → k ≤ gamma) → bridged_cost free_curve n t ≡ or_infinity (step_time_frac n width table)
    is_the_lookup_within most = by_lookup (go (shallowest width None (depths_of table)) high_is)
      where
        go : (u : Option ℕ) → High (λ i. measures i table) top u → OnCurve u
        go None q = tt
        go (Some high) q = most high q.0

    -- where the lookup finds nothing, the bridged price is +infinity
    pub nothing_found : step_time_frac n width table ≡ None → bridged_cost free_curve n t ≡ infinity
    nothing_found h = go (deepest width None (depths_of table)) (shallowest width None (depths_of table)) low_is high_is (sym lookup_is ∙ h)
      where
        go : (d u : Option ℕ) → Low (λ k. measures k table) foot d → High (λ k. measures k table) top u → looked.between n width table d u ≡ None → bridged_cost free_curve n t ≡ infinity
        go None u l i e = hole_below (lower_none free_curve (λ k. measures k table) some same foot (omega (arith, last, at.foot_low)) l)
        go (Some low) None l i e = hole_above (upper_none free_curve (λ k. measures k table) some same top (omega (arith, last, at.top_low)) (λ k m a b. i k m a))
        go (Some low) (Some high) l i e = absurd (answered low high l.0 i.0 e)

    -- no depth from the mean width to gamma is measured: it is +infinity, though the lookup may find a depth past gamma
    pub nothing_above : ((k : ℕ) → k ≤ gamma → measures k table ≡ true → le width (whole k) ≡ false) → bridged_cost free_curve n t ≡ infinity
    nothing_above none =
        hole_above (upper_none free_curve (λ k. measures k table) some same top (omega (arith, last, at.top_low))
        (λ k m a b. clash (sym (none k (omega (arith, last, b)) m) ∙ at.at_or_above k ∙ le-leb top k a)))
