-- The contract of `settling` leaves one outcome. Assumes nothing.
use mathlib.Core.Path.{◌≡◌}
use mathlib.Core.List.{List}
use Prim.Native.Nat.{ℕ}
use lib.Ieee.{Float}
use Rattle.settings.specs.declared.Settings.{Settings}
use Rattle.asked_rooms.specs.declared.Ask.{Ask}
use Rattle.width_way.specs.declared.Settling.{Settling}
use Rattle.settling.specs.Settling.{settles}
use Rattle.unique.specs.Only.{OnlyTwo}
use Rattle.unique.proofs.Law.{pair_once}

pub settles_once : (settings : Settings) (ask : Ask) (roofline : List Float) (depths batches : List ℕ) (seconds : List Float) (width target : ℕ) (widths : List ℕ) → OnlyTwo (λ (r : Settling) (widths' : List ℕ). (r, widths') ≡ settles settings ask (record { roofline = roofline; depths = depths; batches = batches; seconds = seconds }) width target widths)
settles_once settings ask roofline depths batches seconds width target widths x b y c p q = pair_once p q
