-- The prices that a table gives: +infinity exactly where it has no row of the depth, else a number from 0 to 2^57. Assumes nothing.
use mathlib.Core.Path.{◌≡◌, refl, sym, ap, ◌∙◌, subst}
use mathlib.Core.Logic.{⊎_elim}
use mathlib.Core.Bool.{Bool, true, false}
use mathlib.Core.List.{List}
use Prim.Native.Nat.{ℕ, zero, suc, ◌+◌, ◌*◌, ◌^◌, ◌≤◌, ◌<◌}
use native.Mathlib.Omega.{arith}
use borrow.Author.Tests.{le-ltb}
use lib.Dec.{T}
use lib.IntN.{pos}
use lib.ListN.{length, get_or, take, length-take}
use lib.Seq.{get_or-take}
use lib.Ieee.{Float, nan, inf, fin, binary64, up, down, round, of_bits, mul, lt, le, neg}
use lib.Ieee.Exact.{HasValue}
use Rattle.laws.proofs.Both.{both}
use Rattle.float.specs.Floats.{plus, times, f0, max_of, infinity, is_finite}
use Rattle.float.specs.Range.{in_signed_range}
use Rattle.float.proofs.Classes.{clash, finite_no_nan}
use Rattle.float.proofs.Order.{nlt_trans}
use Rattle.float.proofs.Ranges.{signed_no_nan, signed_low, signed_high}
use Rattle.float.proofs.Maximum.{max_one, max_right}
use Rattle.speculative.specs.Drafter.{billion}
use Rattle.cost_rows.specs.Table.{Row}
use Rattle.cost_rows.specs.Lawful.{largest, in_range, lawful}
use Rattle.nearest_row.specs.declared.Nearest.{Nearest}
use Rattle.std.specs.Prelude.{Option, Some, None}
use Rattle.nearest_row.specs.Lookup.{nearest}
use Rattle.step_times.specs.Prices.{quarter, price_of, each, prices}
use Rattle.batch_ranges.specs.Range.{measures}
use Rattle.verify_prices.specs.Bridge.{is_measured}
use Rattle.gates_laws.specs.Entries.{is_entry, Curve}
use Rattle.gates_laws.proofs.Sizes.{Sized, sized_finite, sized_more, sign_of, round_positive, under}
use Rattle.gates_laws.proofs.Powers.{Within, within_added, within_times, signed_sized}
use Rattle.gates_laws.proofs.Prices.{within_entry, infinite_entry}
use Rattle.gates_laws.proofs.Bridged.{infinite}
use Rattle.bridged_laws.specs.Rows.{every_row}
use Rattle.bridged_laws.proofs.Rows.{passes, nearest_none, nearest_passes, lawful_every}

-- ---- the price of a measured time
largest_held : HasValue largest false (10 ^ 17) 1
unfolding of_bits
largest_held = (refl, refl)

billion_held : HasValue billion false 1000000000 1
unfolding of_bits
billion_held = (refl, refl)

above_positive : (x : Float) → lt f0 x ≡ true → sign_of x ≡ false
unfolding lt of_bits
above_positive nan h = clash h
above_positive (inf true) h = clash h
above_positive (inf false) h = refl
above_positive (fin true m e) h = clash h
above_positive (fin false m e) h = refl

pub holds : (b : Bool) → b ≡ true → T b
holds true h = tt
holds false h = clash h

pub seconds_sized : (x : Float) → in_range x ≡ true → Sized (10 ^ 17) x
unfolding in_range
seconds_sized x h = let u = both (lt f0 x) (le x largest) h in under x largest (10 ^ 17) (above_positive x u.0) largest_held (holds (le x largest) u.1)

delta_sized : (kv : Float) → in_signed_range (neg billion) billion kv ≡ true → Sized 1000000000 kv
delta_sized kv h = signed_sized 1000000000 kv billion billion_held (signed_no_nan (neg billion) billion kv h) (signed_low (neg billion) billion kv h) (signed_high (neg billion) billion kv h)

quarter_within : Within 0 quarter
unfolding of_bits
quarter_within = let l : 1 * 1 ≤ 1 * 4 = omega arith in l

-- a quarter of a time is not below zero
quarter_low : (x : Float) → lt f0 x ≡ true → lt (times quarter x) f0 ≡ false
unfolding lt mul of_bits
quarter_low nan h = refl
quarter_low (inf true) h = clash h
quarter_low (inf false) h = refl
quarter_low (fin true m e) h = clash h
quarter_low (fin false m e) h = not_below (round binary64 false (1 * 1 * (m * up e)) (4 * down e)) (round_positive binary64 (1 * 1 * (m * up e)) (4 * down e))
  where
    not_below : (y : Float) → sign_of y ≡ false → lt y (fin false 0 (pos 0)) ≡ false
    not_below nan k = refl
    not_below (inf true) k = clash (sym k)
    not_below (inf false) k = refl
    not_below (fin true n d) k = clash (sym k)
    not_below (fin false n d) k = le-ltb (n * up d * 1) (0 * down d) (omega arith)

module _ (kv : Float) (k : in_signed_range (neg billion) billion kv ≡ true) (x : Float) (r : in_range x ≡ true) where
  abbrev dearer : Float
  dearer = max_of (plus x kv) (times quarter x)

  some_seconds : lt f0 x ≡ true
  unfolding in_range
  some_seconds = (both (lt f0 x) (le x largest) r).0

  quarter_sized : Within 57 (times quarter x)
  quarter_sized = within_times 0 57 quarter x (omega arith) quarter_within (sized_more (10 ^ 17) (2 ^ 57) x (omega arith) (seconds_sized x r))

  dearer_within : Within 57 dearer
  dearer_within =
      ⊎_elim (λ (e : dearer ≡ plus x kv). subst (Within 57) (sym e) (within_added 57 (10 ^ 17) 1000000000 x kv (omega arith) (omega arith) (seconds_sized x r) (delta_sized kv k)))
      (λ (e : dearer ≡ times quarter x). subst (Within 57) (sym e) quarter_sized) (max_one (plus x kv) (times quarter x))

  dearer_low : lt dearer f0 ≡ false
  dearer_low = nlt_trans dearer (times quarter x) f0 (finite_no_nan (times quarter x) (sized_finite (2 ^ 57) (times quarter x) quarter_sized)) (max_right (plus x kv) (times quarter x)) (quarter_low x some_seconds)

-- ---- the price of a depth
module _ (batch : ℕ) (kv : Float) (k : in_signed_range (neg billion) billion kv ≡ true) (t : List Row) (law : lawful t ≡ true) where
  abbrev price_at : ℕ → Float
  price_at g = price_of kv (nearest batch g t)

  pub no_row : (g : ℕ) → measures g t ≡ false → price_at g ≡ infinity
  unfolding price_of
  no_row g h = ap (price_of kv) (nearest_none batch g t h)

  -- ---- what holds of the price of a time in range holds where there is a row
  module _ (g : ℕ) (h : measures g t ≡ true) where
    by_row : (p : Float → Bool) (Q : Float → Type 0) → every_row p t ≡ true → ((x : Float) → p x ≡ true → Q (max_of (plus x kv) (times quarter x))) → Q (price_at g)
    unfolding price_of
    by_row p Q all f = go (nearest batch g t) (nearest_passes p batch g t all h)
      where
        go : (best : Option Nearest) → passes p best ≡ true → Q (price_of kv best)
        go None e = clash e
        go (Some near) e = f near.seconds e

    row_within : Within 57 (price_at g)
    row_within = by_row in_range (Within 57) (lawful_every t law) (dearer_within kv k)

    pub row_finite : is_finite (price_at g) ≡ true
    row_finite = sized_finite (2 ^ 57) (price_at g) row_within

    pub row_low : lt (price_at g) f0 ≡ false
    row_low = by_row in_range (λ (y : Float). lt y f0 ≡ false) (lawful_every t law) (dearer_low kv k)

  pub price_is_entry : (g : ℕ) → is_entry (price_at g) ≡ true
  price_is_entry g = go (measures g t) refl
    where
      go : (b : Bool) → measures g t ≡ b → is_entry (price_at g) ≡ true
      go true e = within_entry (price_at g) (row_within g e) (row_low g e)
      go false e = infinite_entry (price_at g) (no_row g e)

-- ---- where it stands in the curve in force
each_at : (f : ℕ → Float) (n s g : ℕ) → g < n → get_or (each f n s) g nan ≡ f (s + g)
unfolding each
each_at f zero s g l = absurd (omega arith)
each_at f (suc n) s zero l = ap f (omega arith)
each_at f (suc n) s (suc g) l = each_at f n (suc s) g (omega arith) ∙ ap f (omega arith)

pub in_force_at : (gamma batch : ℕ) (kv : Float) (t : List Row) (g : ℕ) → gamma ≤ 64 → g ≤ gamma → get_or (take (gamma + 1) (prices batch kv t)) g nan ≡ price_of kv (nearest batch g t)
unfolding prices
in_force_at gamma batch kv t g s l = get_or-take (gamma + 1) (prices batch kv t) g nan (omega arith) ∙ each_at (λ d. price_of kv (nearest batch d t)) 65 0 g (omega arith) ∙ ap (λ (d : ℕ). price_of kv (nearest batch d t)) (let z : 0 + g ≡ g = omega arith in z)

prices_long : (batch : ℕ) (kv : Float) (t : List Row) → length (prices batch kv t) ≡ 65
unfolding prices each
prices_long batch kv t = refl

pub force_long : (gamma batch : ℕ) (kv : Float) (t : List Row) → gamma ≤ 64 → length (take (gamma + 1) (prices batch kv t)) ≡ gamma + 1
force_long gamma batch kv t s = let l = prices_long batch kv t in simp length-take (omega arith)

module _ (gamma batch : ℕ) (small : gamma ≤ 64) (kv : Float) (k : in_signed_range (neg billion) billion kv ≡ true) (t : List Row) (law : lawful t ≡ true) where
  abbrev curve : List Float
  curve = take (gamma + 1) (prices batch kv t)

  -- its measured depths are those that the table has a row of
  pub measured_exactly : (g : ℕ) → g ≤ gamma → is_measured curve g ≡ measures g t
  measured_exactly g l = ap is_finite (in_force_at gamma batch kv t g small l) ∙ go (measures g t) refl
    where
      go : (b : Bool) → measures g t ≡ b → is_finite (price_of kv (nearest batch g t)) ≡ b
      go true e = row_finite batch kv k t law g e
      go false e = ap is_finite (no_row batch kv k t law g e) ∙ infinite

  -- it is a curve of prices up to 2^57 and holes
  pub table_curve : 1 ≤ gamma → Curve curve
  table_curve some =
      let long = force_long gamma batch kv t small in
      record {
        many = omega (arith, long);
        few = omega (arith, long);
        each = λ g l. ap is_entry (in_force_at gamma batch kv t g small (omega (arith, long, l))) ∙ price_is_entry batch kv k t law g;
      }
