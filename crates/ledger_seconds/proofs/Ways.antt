-- Each way out of a function, over plain variables: what the callees gave and the tests taken, and what is returned. Assumes nothing.
use mathlib.Core.Path.{◌≡◌, ◌∙◌}
use mathlib.Core.Bool.{Bool, true, false, cond}
use mathlib.Core.List.{List}
use Prim.Native.Nat.{ℕ, zero, suc, ◌-◌, ◌≤◌, ◌<◌}
use native.Mathlib.Nat.{not-suc-le-zero}
use native.Mathlib.Numerals.{sub-one}
use native.Mathlib.Omega.{arith}
use borrow.Author.Tests.{ltb-true, lt-ltb, le-ltb, eq-eqb, ne_eqb}
use lib.Dec.{ltb}
use lib.ListN.{get_or}
use Rattle.ledger_rows.specs.Words.{searched, last_first}
use Rattle.ledger_rows.proofs.Tests.{both}
use Rattle.ledger_rows.proofs.Search.{last_within}
use Rattle.ledger_rows.specs.declared.layout.Place.{Place}
use Rattle.ledger_rows.specs.declared.layout.Step.{Step}
use Rattle.ledger_rows.specs.Layout.{second_at, seconds_held}
use Rattle.ledger_seconds.specs.Seconds.{earlier_second, that_second, second_row, second_place, second_raised, second_inserted, step_added, second_lowered, step_removed}

-- ---- the last row looked at first

module _ (early same : ℕ → Bool) (n : ℕ) where
  last_none : n ≡ 0 → 0 ≡ last_first early same n
  unfolding last_first
  last_none e = rw e

  last_early : 0 < n → early (n - 1) ≡ true → n ≡ last_first early same n
  unfolding last_first
  last_early h e = on n h e
    where
      on : (n : ℕ) → 0 < n → early (n - 1) ≡ true → n ≡ last_first early same n
      on zero h e = absurd (not-suc-le-zero h)
      on (suc m) h e = let f : early m ≡ true = rw sub-one at e in rw f

  last_same : 0 < n → early (n - 1) ≡ false → same (n - 1) ≡ true → n - 1 ≡ last_first early same n
  unfolding last_first
  last_same h e s = on n h e s
    where
      on : (n : ℕ) → 0 < n → early (n - 1) ≡ false → same (n - 1) ≡ true → n - 1 ≡ last_first early same n
      on zero h e s = absurd (not-suc-le-zero h)
      on (suc m) h e s = let f : early m ≡ false = rw sub-one at e in let g : same m ≡ true = rw sub-one at s in rw (f, g, sub-one)

  last_else : (r : ℕ) → 0 < n → early (n - 1) ≡ false → same (n - 1) ≡ false → r ≡ searched early (n - 1) → r ≡ last_first early same n
  unfolding last_first
  last_else r h e s q = q ∙ on n h e s
    where
      on : (n : ℕ) → 0 < n → early (n - 1) ≡ false → same (n - 1) ≡ false → searched early (n - 1) ≡ last_first early same n
      on zero h e s = absurd (not-suc-le-zero h)
      on (suc m) h e s = let f : early m ≡ false = rw sub-one at e in let g : same m ≡ false = rw sub-one at s in rw (f, g, sub-one)

-- ---- the seconds

module _ (ws : List ℕ) (t : ℕ) where
  -- a place that is known is a row
  pub second_in : (p : Place) → p ≡ second_place ws t → p.known ≡ true → p.row < p.rows
  unfolding second_place
  second_in p e k = rw e (ltb-true _ _ (both (ltb (second_row ws t) (seconds_held ws)) _ (rw e at k)))

  pub second_rows : (p : Place) → p ≡ second_place ws t → p.rows ≡ seconds_held ws
  unfolding second_place
  second_rows p e = rw e

  pub second_within : (p : Place) → p ≡ second_place ws t → p.row ≤ p.rows
  unfolding second_place second_row
  second_within p e = rw e (last_within (earlier_second ws t) (that_second ws t) (seconds_held ws))

  second_place_lem : (row rows : ℕ) (known : Bool) → rows ≡ seconds_held ws → row ≡ last_first (earlier_second ws t) (that_second ws t) rows → known ≡ cond (ltb row rows) (that_second ws t row) false
      → record { row = row; rows = rows; known = known } ≡ second_place ws t
  unfolding second_place second_row
  second_place_lem row rows known e f g = rw (g, f, e)

  -- each way in which the place is found, among `rows`
  module _ (rows : ℕ) (is : rows ≡ seconds_held ws) where
    pub place_none : rows ≡ 0 → record { row = 0; rows = rows; known = false } ≡ second_place ws t
    place_none z = second_place_lem 0 rows false is (last_none (earlier_second ws t) (that_second ws t) rows z) (rw (le-ltb 0 rows (omega arith)))

    pub place_after : 0 < rows → get_or ws (second_at (rows - 1)) 0 < t → record { row = rows; rows = rows; known = false } ≡ second_place ws t
    place_after h e = second_place_lem rows rows false is (last_early (earlier_second ws t) (that_second ws t) rows h (lt-ltb _ _ e)) (rw (le-ltb rows rows (omega arith)))

    pub place_newest : 0 < rows → t ≤ get_or ws (second_at (rows - 1)) 0 → get_or ws (second_at (rows - 1)) 0 ≡ t → record { row = rows - 1; rows = rows; known = true } ≡ second_place ws t
    place_newest h e s = second_place_lem (rows - 1) rows true is (last_same (earlier_second ws t) (that_second ws t) rows h (le-ltb _ _ e) (eq-eqb _ _ s)) (rw (lt-ltb (rows - 1) rows (omega arith), eq-eqb (get_or ws (second_at (rows - 1)) 0) t s))

    pub place_else : (row : ℕ) (known : Bool) → 0 < rows → t ≤ get_or ws (second_at (rows - 1)) 0 → (get_or ws (second_at (rows - 1)) 0 ≡ t → ⊥) → row ≡ searched (earlier_second ws t) (rows - 1)
        → known ≡ cond (ltb row rows) (that_second ws t row) false → record { row = row; rows = rows; known = known } ≡ second_place ws t
    place_else row known h e s f g = second_place_lem row rows known is (last_else (earlier_second ws t) (that_second ws t) rows row h (le-ltb _ _ e) (ne_eqb _ _ s) f) g

-- ---- a step added and taken away

module _ (ws : List ℕ) (step : Step) where
  module _ (p : Place) (is : p ≡ second_place ws step.second) (last : List ℕ) where
    pub added_known : p.known ≡ true → last ≡ second_raised ws p.row step → last ≡ step_added ws step
    unfolding step_added
    added_known k e = rw (← is, k) e

    pub added_new : p.known ≡ false → last ≡ second_inserted ws p.row p.rows step → last ≡ step_added ws step
    unfolding step_added
    added_new k e = rw (← is, k) e

    pub removed_known : p.known ≡ true → last ≡ second_lowered ws p.row p.rows step → last ≡ step_removed ws step
    unfolding step_removed
    removed_known k e = rw (← is, k) e

  pub removed_unknown : (p : Place) → p ≡ second_place ws step.second → p.known ≡ false → ws ≡ step_removed ws step
  unfolding step_removed
  removed_unknown p is k = rw (← is, k)
