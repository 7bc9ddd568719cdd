-- Each way through the code: what is refused, what a question that is not refused has, and the answer. Assumes nothing.
use mathlib.Core.Path.{◌≡◌, refl, sym, ap, ◌∙◌}
use mathlib.Core.Bool.{Bool, true, false, ◌&&◌, cond}
use mathlib.Core.List.{List}
use Prim.Native.Nat.{ℕ, zero, suc, ◌≤◌, ◌<◌}
use native.Mathlib.Nat.{not-suc-le-zero}
use native.Mathlib.Omega.{arith}
use borrow.Author.Tests.{leb-true, le-leb}
use lib.Dec.{leb}
use lib.ListN.{length, take, length-take}
use lib.Ieee.{Float}
use Rattle.laws.proofs.Both.{both}
use Rattle.float.specs.Floats.{f0}
use Rattle.std.specs.Prelude.{Ok, Err}
use Rattle.refusals.specs.declared.Refusal.{Refusal}
use Rattle.refusals.specs.declared.Refusal.TheVariants.{Size, Input, ShortBuffer}
use Rattle.refusals.specs.Refusals.{Judgement, passed_if, number_of}
use Rattle.refusals.proofs.First.{refused_is_no_pass, both_pass}
use Rattle.cost_rows.specs.Table.{Row}
use Rattle.cost_rows.specs.Order.{ordered}
use Rattle.cost_rows.specs.Lawful.{all_in_range, lawful}
use Rattle.step_times.specs.Prices.{prices}
use Rattle.goodput.specs.Curve.{in_force}
use Rattle.goodput.specs.declared.curve.Source.{Source}
use Rattle.goodput.specs.declared.curve.Source.TheVariants.{Roofline, Table}
use Rattle.switch_settings.specs.Switch.{switch_judged}
use Rattle.switching.specs.Deciding.{candidate_slots, most_width}
use Rattle.switching.specs.declared.inner.Candidates.{Candidates}
use Rattle.switching.proofs.Slots.{slots_front, slots_len}
use Rattle.switching.proofs.Widths.{candidates_rise}
use Rattle.settings.specs.declared.Settings.{Settings}
use Rattle.asked_rooms.specs.declared.Ask.{Ask}
use Rattle.asked_rooms.specs.Sizes.{bank_fits, table_fits, sizes_judged}
use Rattle.asked_rooms.specs.Rooms.{price_rooms}
use Rattle.settings.proofs.Cases.{capped_le}
use Rattle.asked_values.specs.Columns.{columns_fit}
use Rattle.asked_values.specs.Values.{prices_valued}
use Rattle.width_way.specs.Way.{settled}
use Rattle.width_way.specs.Indices.{Ready}
use Rattle.width_way.specs.declared.Settling.{Settling}
use Rattle.width_way.specs.declared.Settling.TheVariants.{Refused}
use Rattle.settling.specs.Measured.{Tabled, measured_by}
use Rattle.settling.specs.Settling.{PricesLent, table_in, depth_in, curve_in, candidates_in, most_walks, lengths_in, rooms_in, valued_in, settles_judged, settles_unless, settles}

-- ---- a test that is passed
passes : (t : Bool) (r : Refusal) → passed_if t r ≡ Ok tt → t ≡ true
passes true r e = refl
passes false r e = refused_is_no_pass r e

-- ---- of the sizes
module _ (s : Settings) (a : Ask) (e : sizes_judged s.model s.gamma 0 a.depth 0 a.source a.rows ≡ Ok tt) where
  sized : ((leb s.gamma 64 && leb 0 1024) ≡ true) × ((bank_fits s.model a.depth 0 && table_fits a.source a.rows) ≡ true)
  unfolding sizes_judged
  sized = both (leb s.gamma 64 && leb 0 1024) (bank_fits s.model a.depth 0 && table_fits a.source a.rows) (passes _ Size e)

  pub depth_small : depth_in s a ≤ 64
  depth_small =
      let g = leb-true s.gamma 64 (both (leb s.gamma 64) (leb 0 1024) sized.0).0 in
      let c = capped_le s.model s.gamma a.depth in
      omega (arith, g, c)

  -- with the rooms, the columns of a table
  pub columns_fit_lem : (l : PricesLent) (room : ℕ) → rooms_in s a l room ≡ true → columns_fit a.source a.rows l.depths l.batches l.seconds ≡ true
  columns_fit_lem l room h =
      go a.source (both (bank_fits s.model a.depth 0) (table_fits a.source a.rows) sized.1).1
      (both (price_rooms a.source (depth_in s a) a.rows (lengths_in l)) (leb most_walks room) h).0
    where
      go : (source : Source) → table_fits source a.rows ≡ true → price_rooms source (depth_in s a) a.rows (lengths_in l) ≡ true
          → columns_fit source a.rows l.depths l.batches l.seconds ≡ true
      go Roofline t p = refl
      go Table t p = rw (t, p)

lawful_ordered : (t : List Row) → lawful t ≡ true → ordered t ≡ true
unfolding lawful
lawful_ordered t h = (both (all_in_range t) (ordered t) h).1

-- ---- a question that is not refused
module _ (s : Settings) (a : Ask) (l : PricesLent) (width room : ℕ) (e : settles_judged s a l width room ≡ Ok tt) where
  passed : (sizes_judged s.model s.gamma 0 a.depth 0 a.source a.rows ≡ Ok tt) × ((rooms_in s a l room ≡ true) × (valued_in s a l width ≡ true))
  unfolding settles_judged
  passed =
      let p = both_pass (switch_judged s.switch) _ e in
      let q = both_pass (sizes_judged s.model s.gamma 0 a.depth 0 a.source a.rows) _ p.1 in
      let r = both_pass (passed_if (rooms_in s a l room) ShortBuffer) _ q.1 in
      (q.0, (passes _ ShortBuffer r.0, passes _ Input r.1))

  pub shallow : depth_in s a ≤ 64
  shallow = depth_small s a passed.0

  pub widths_fit : 64 ≤ room
  widths_fit = leb-true 64 room (both (price_rooms a.source (depth_in s a) a.rows (lengths_in l)) (leb 64 room) passed.1.0).1

  pub tabled : Tabled a.source a.rows l.depths l.batches l.seconds
  tabled =
      record {
        long = λ t. long_at a.source t (both (price_rooms a.source (depth_in s a) a.rows (lengths_in l)) (leb most_walks room) passed.1.0).0;
        in_order = λ t. order_at a.source t (both (leb width most_width) (prices_valued a.source (depth_in s a) l.roofline (table_in a l)) passed.1.1).1;
      }
    where
      long_at : (source : Source) → source ≡ Table → price_rooms source (depth_in s a) a.rows (lengths_in l) ≡ true
          → (a.rows ≤ length l.depths) × (a.rows ≤ length l.batches) × (a.rows ≤ length l.seconds)
      long_at source t h =
          let k : (leb a.rows (length l.depths) && (leb a.rows (length l.batches) && leb a.rows (length l.seconds))) ≡ true =
          sym (ap (λ (x : Source). price_rooms x (depth_in s a) a.rows (lengths_in l)) t) ∙ h in
          let p = both (leb a.rows (length l.depths)) (leb a.rows (length l.batches) && leb a.rows (length l.seconds)) k in
          let q = both (leb a.rows (length l.batches)) (leb a.rows (length l.seconds)) p.1 in
          (leb-true _ _ p.0, leb-true _ _ q.0, leb-true _ _ q.1)

      order_at : (source : Source) → source ≡ Table → prices_valued source (depth_in s a) l.roofline (table_in a l) ≡ true → ordered (table_in a l) ≡ true
      order_at source t h = lawful_ordered (table_in a l) (sym (ap (λ (x : Source). prices_valued x (depth_in s a) l.roofline (table_in a l)) t) ∙ h)

-- ---- the curve: the prices that are handed on are read where there is a table alone
module _ (s : Settings) (a : Ask) (l : PricesLent) where
  pub in_force_lem : (curve measured : List Float) (g : ℕ) → g ≡ depth_in s a → measured ≡ measured_by a.source (table_in a l)
      → curve ≡ in_force l.roofline measured a.source g → curve ≡ curve_in s a l
  in_force_lem curve measured g d m e =
      e ∙ ap (λ (n : ℕ). in_force l.roofline measured a.source n) d ∙ ap (λ (x : List Float). in_force l.roofline x a.source (depth_in s a)) m ∙ go a.source
    where
      go : (source : Source) → in_force l.roofline (measured_by source (table_in a l)) source (depth_in s a) ≡ in_force l.roofline (prices 1 f0 (table_in a l)) source (depth_in s a)
      go Roofline = refl
      go Table = refl

  curve_most : depth_in s a ≤ 64 → length (curve_in s a l) ≤ 65
  curve_most h = simp length-take (omega arith)

  pub curve_short : (curve : List Float) → curve ≡ curve_in s a l → depth_in s a ≤ 64 → length curve ≤ 65
  curve_short curve e h = let n = curve_most h in rw e n

  -- no more candidates than entries, and they rise
  pub ready : (c : Candidates) (ws : List ℕ) → c ≡ candidate_slots (curve_in s a l) → depth_in s a ≤ 64 → 64 ≤ length ws → Ready (take c.len c.list) ws
  ready c ws e h room =
      let n = slots_len (curve_in s a l) c e in
      let k = curve_most h in
      let m : length (take c.len c.list) ≤ c.len = simp length-take (omega arith) in
      record { few = omega (arith, n, m, k); rising = rw (slots_front (curve_in s a l) c e) (candidates_rise 0 (curve_in s a l)); roomy = room }

-- ---- the answer
module _ (s : Settings) (a : Ask) (l : PricesLent) (width target : ℕ) (ws : List ℕ) where
  pub refused : (refusal : Refusal) → settles_judged s a l width (length ws) ≡ Err refusal → ◌≡◌ {A = Settling × List ℕ} (Refused (number_of refusal), ws) (settles s a l width target ws)
  unfolding settles
  refused refusal e = sym (ap (λ (j : Judgement). settles_unless j (settled (candidates_in s a l) width target s.switch ws) ws) e)

  pub answered : (c : Candidates) (r : Settling) (out : List ℕ) → settles_judged s a l width (length ws) ≡ Ok tt → c ≡ candidate_slots (curve_in s a l)
      → (r, out) ≡ settled (take c.len c.list) width target s.switch ws → (r, out) ≡ settles s a l width target ws
  unfolding settles
  answered c r out e f g =
      g ∙ ap (λ (m : List ℕ). settled m width target s.switch ws) (slots_front (curve_in s a l) c f)
      ∙ sym (ap (λ (j : Judgement). settles_unless j (settled (candidates_in s a l) width target s.switch ws) ws) e)
