-- The answer where the width comes to the target, and its rounds. Assumes nothing.
use mathlib.Core.Path.{◌≡◌, ◌∙◌}
use mathlib.Core.Bool.{true}
use mathlib.Core.List.{List, ◌++◌}
use Prim.Native.Nat.{ℕ, ◌*◌, ◌≤◌, ◌<◌}
use native.Mathlib.Omega.{arith}
use lib.ListN.{drop}
use native.Mathlib.Nat.{mul-le-mul_right}
use Rattle.switch_settings.specs.declared.SwitchConstraints.{SwitchConstraints}
use Rattle.width_walk.specs.Walk.{first_at_least, snap_index, Rising}
use Rattle.width_way.specs.Way.{is_candidate, distance, away_from, walks_for, pause, way, arrival}
use Rattle.width_way.specs.Indices.{way_from}
use Rattle.width_way.proofs.Following.{by_index}
use Rattle.width_way.specs.declared.Settling.{Settling}
use Rattle.width_way.specs.declared.Settling.TheVariants.{Within}

-- ---- the answers
module _ (l : List ℕ) (width target : ℕ) (c : SwitchConstraints) (ws : List ℕ) where
  -- where the width comes to the target
  pub arrived : (at to m r : ℕ) (out : List ℕ) → Rising 0 l → is_candidate l target ≡ true → at ≡ snap_index l width → to ≡ first_at_least l target
      → m ≡ walks_for c.max_step (distance at to) → r ≡ pause c → out ≡ way_from c.max_step l to at m ++ drop m ws
      → ◌≡◌ {A = Settling × List ℕ} (Within (m * r) m, out) (arrival l width target c ws)
  arrived at to m r out rising here e f a b o =
      let n : m ≡ walks_for c.max_step (away_from l width target) = a ∙ rw (e, f) in
      let w : out ≡ way c.max_step l target width m ++ drop m ws =
      o ∙ rw (e, f, ← by_index c.max_step l target width m rising here) in
      rw (w, b, n)

-- ---- the rounds fit a word
pub rounds_fit : (m p : ℕ) → m ≤ 64 → p ≤ 4294967295 → m * p < 18446744073709551616
rounds_fit m p h k = let x : m * p ≤ 64 * p = mul-le-mul_right p h in omega (arith, x)
