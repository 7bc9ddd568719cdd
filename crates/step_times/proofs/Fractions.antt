-- The ways out of the lookup between depths. Assumes nothing.
use mathlib.Core.Path.{◌≡◌}
use mathlib.Core.Bool.{true, false}
use mathlib.Core.List.{List}
use Prim.Native.Nat.{ℕ, ◌≤◌}
use lib.ListN.{length, take}
use lib.Ieee.{Float}
use Rattle.std.specs.Prelude.{Option, Some, None}
use Rattle.nearest_row.specs.declared.Nearest.{Nearest}
use Rattle.cost_rows.specs.Table.{zip}
use Rattle.nearest_row.specs.Lookup.{nearest}
use Rattle.step_times.specs.Between.{depths_of, deepest, shallowest, straight, between, asked, step_time_frac}
use Rattle.step_times.proofs.Turns.{depths_are}

module _ (rows : ℕ) (d b : List ℕ) (s : List Float) (p : (rows ≤ length d) × (rows ≤ length b) × (rows ≤ length s)) (batch : ℕ) (g : Float) where
  same_depths : depths_of (zip rows d b s) ≡ take rows d
  same_depths = depths_are rows d b s p.0 p.1 p.2

  pub not_asked : asked g ≡ false → None ≡ step_time_frac batch g (zip rows d b s)
  unfolding step_time_frac
  not_asked e = rw e

  pub none_below : asked g ≡ true → deepest g None (take rows d) ≡ None → None ≡ step_time_frac batch g (zip rows d b s)
  unfolding step_time_frac between
  none_below e f = rw (e, same_depths, f)

  pub none_above : (low : ℕ) → asked g ≡ true → deepest g None (take rows d) ≡ Some low → shallowest g None (take rows d) ≡ None → None ≡ step_time_frac batch g (zip rows d b s)
  unfolding step_time_frac between
  none_above low e f h = rw (e, same_depths, f, h)

  pub between_both : (low high : ℕ) (x y : Option Nearest) (r : Option Float) → asked g ≡ true → deepest g None (take rows d) ≡ Some low → shallowest g None (take rows d) ≡ Some high → x ≡ nearest batch low (zip rows d b s) → y ≡ nearest batch high (zip rows d b s) → r ≡ straight g low high x y → r ≡ step_time_frac batch g (zip rows d b s)
  unfolding step_time_frac between
  between_both low high x y r e f h k l m = rw (e, same_depths, f, h, m, k, l)
