-- Each turn of the search for a worker's row, over plain variables. Assumes nothing.
use mathlib.Core.Path.{◌≡◌, refl, sym, ◌∙◌}
use mathlib.Core.Bool.{true, false}
use mathlib.Core.List.{List}
use Prim.Native.Nat.{ℕ, zero, suc, ◌+◌, ◌-◌, ◌≤◌, ◌<◌}
use native.Mathlib.Nat.{not-suc-le-zero}
use native.Mathlib.Omega.{arith}
use Rattle.day_shifts.specs.Shifts.{is_of, row_from}

module _ (ws : List ℕ) (a b : ℕ) where
  none_left : (more row : ℕ) → more ≤ 0 → row_from ws a b more row ≡ row
  unfolding row_from
  none_left zero row h = refl
  none_left (suc more) row h = absurd (not-suc-le-zero h)

  pub row_ended : (rows row : ℕ) → rows ≡ row → row_from ws a b rows 0 ≡ row_from ws a b (rows - row) row → rows ≡ row_from ws a b rows 0
  row_ended rows row h e = h ∙ sym (e ∙ none_left (rows - row) row (omega arith))

  pub row_found : (more row : ℕ) → 0 < more → is_of ws a b row ≡ true → row_from ws a b more row ≡ row
  unfolding row_from
  row_found zero row h k = absurd (not-suc-le-zero h)
  row_found (suc more) row h k = rw k

  pub row_next : (more less row : ℕ) → more ≡ less + 1 → is_of ws a b row ≡ false → row_from ws a b more row ≡ row_from ws a b less (row + 1)
  unfolding row_from
  row_next zero less row h k = absurd (omega (arith, h))
  row_next (suc more) less row h k =
      let same : less ≡ more = omega arith in
      rw (k, same)
