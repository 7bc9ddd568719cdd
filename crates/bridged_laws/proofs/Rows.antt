-- The row that a lookup takes: it passes what every row passes, and there is one exactly where the table measures the depth. Assumes nothing.
use mathlib.Core.Path.{◌≡◌, refl, sym, ap}
use mathlib.Core.Bool.{Bool, true, false, ◌&&◌, ◌||◌, cond}
use mathlib.Core.List.{List, [], ◌∷◌}
use Prim.Native.Nat.{ℕ}
use lib.Dec.{eqb}
use lib.Ieee.{Float}
use Rattle.std.specs.Prelude.{Option, Some, None}
use Rattle.laws.proofs.Both.{both}
use Rattle.float.proofs.Classes.{clash}
use Rattle.cost_rows.specs.Table.{Row, of_depth}
use Rattle.cost_rows.specs.Order.{ordered}
use Rattle.cost_rows.specs.Lawful.{in_range, all_in_range, lawful}
use Rattle.nearest_row.specs.declared.Nearest.{Nearest}
use Rattle.nearest_row.specs.Lookup.{nearer, measured, closer, closest, nearest}
use Rattle.batch_ranges.specs.Range.{measures}
use Rattle.bridged_laws.specs.Rows.{every_row}

-- ---- the row that is nearest passes what every row passes
module _ (p : Float → Bool) where
  -- a row is there, and its seconds pass
  abbrev pub passes : Option Nearest → Bool
  passes None = false
  passes (Some near) = p near.seconds

  closer_passes : (batch : ℕ) (best : Option Nearest) (a : ℕ) (x : Float) → passes best ≡ true → p x ≡ true → passes (closer batch best a x) ≡ true
  unfolding closer
  closer_passes batch None a x h k = k
  closer_passes batch (Some near) a x h k = go (nearer batch a near.batch)
    where
      go : (c : Bool) → passes (cond c (measured a x) (Some near)) ≡ true
      go true = k
      go false = h

  closest_passes : (batch : ℕ) (best : Option Nearest) (t : List Row) → passes best ≡ true → every_row p t ≡ true → passes (closest batch best t) ≡ true
  unfolding closest
  closest_passes batch best [] h k = h
  closest_passes batch best (r ∷ t) h k =
      let u = both (p r.seconds) (every_row p t) k in
      closest_passes batch (closer batch best r.batch r.seconds) t (closer_passes batch best r.batch r.seconds h u.0) u.1

  of_depth_passes : (g : ℕ) (t : List Row) → every_row p t ≡ true → every_row p (of_depth g t) ≡ true
  unfolding of_depth
  of_depth_passes g [] h = refl
  of_depth_passes g (r ∷ t) h = let u = both (p r.seconds) (every_row p t) h in go (eqb r.depth g) u.0 (of_depth_passes g t u.1)
    where
      go : (b : Bool) → p r.seconds ≡ true → every_row p (of_depth g t) ≡ true → every_row p (cond b (r ∷ of_depth g t) (of_depth g t)) ≡ true
      go true k l = rw k l
      go false k l = l

  some_passes : (batch : ℕ) (r : Row) (t : List Row) → every_row p (r ∷ t) ≡ true → passes (closest batch None (r ∷ t)) ≡ true
  unfolding closest closer
  some_passes batch r t h = let u = both (p r.seconds) (every_row p t) h in closest_passes batch (measured r.batch r.seconds) t u.0 u.1

-- ---- rows of a depth are there exactly where the table measures it
none_there : (g : ℕ) (t : List Row) → measures g t ≡ false → of_depth g t ≡ []
unfolding measures of_depth
none_there g [] h = refl
none_there g (r ∷ t) h = go (eqb r.depth g) h (λ k. none_there g t k)
  where
    go : (b : Bool) → (b || measures g t) ≡ false → (measures g t ≡ false → of_depth g t ≡ []) → cond b (r ∷ of_depth g t) (of_depth g t) ≡ []
    go true k later = clash (sym k)
    go false k later = later k

There : List Row → Type 0
There [] = ⊥
There (r ∷ t) = Unit {0}

some_there : (g : ℕ) (t : List Row) → measures g t ≡ true → There (of_depth g t)
unfolding measures of_depth There
some_there g [] h = clash h
some_there g (r ∷ t) h = go (eqb r.depth g) h (λ k. some_there g t k)
  where
    go : (b : Bool) → (b || measures g t) ≡ true → (measures g t ≡ true → There (of_depth g t)) → There (cond b (r ∷ of_depth g t) (of_depth g t))
    go true k later = tt
    go false k later = later k

pub nearest_none : (batch g : ℕ) (t : List Row) → measures g t ≡ false → nearest batch g t ≡ None
unfolding nearest closest
nearest_none batch g t h = ap (closest batch None) (none_there g t h)

pub nearest_passes : (p : Float → Bool) (batch g : ℕ) (t : List Row) → every_row p t ≡ true → measures g t ≡ true → passes p (nearest batch g t) ≡ true
unfolding nearest There
nearest_passes p batch g t all h = go (of_depth g t) (some_there g t h) (of_depth_passes p g t all)
  where
    go : (rows : List Row) → There rows → every_row p rows ≡ true → passes p (closest batch None rows) ≡ true
    go [] k all = absurd k
    go (r ∷ rows) k all = some_passes p batch r rows all

range_every : (t : List Row) → all_in_range t ≡ true → every_row in_range t ≡ true
unfolding all_in_range
range_every [] h = refl
range_every (r ∷ t) h = let u = both (in_range r.seconds) (all_in_range t) h in rw u.0 (range_every t u.1)

pub lawful_every : (t : List Row) → lawful t ≡ true → every_row in_range t ≡ true
unfolding lawful
lawful_every t h = range_every t (both (all_in_range t) (ordered t) h).0

-- two tests that every row passes
pub each_both : (p q : Float → Bool) (t : List Row) → every_row p t ≡ true → every_row q t ≡ true → every_row (λ x. p x && q x) t ≡ true
each_both p q [] h k = refl
each_both p q (r ∷ t) h k =
    let u = both (p r.seconds) (every_row p t) h in
    let v = both (q r.seconds) (every_row q t) k in
    rw (u.0, v.0) (each_both p q t u.1 v.1)
