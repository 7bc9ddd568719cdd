-- Each way through the steps, over plain variables. Assumes nothing.
use mathlib.Core.Path.{◌≡◌, sym, ap, ◌∙◌}
use mathlib.Core.Bool.{Bool, true, false, ◌&&◌, cond}
use mathlib.Core.List.{List, []}
use Prim.Native.Nat.{ℕ}
use native.Mathlib.Omega.{arith}
use lib.ListN.{take}
use lib.Ieee.{Float}
use Rattle.goodput.specs.declared.curve.Source.{Source}
use Rattle.goodput.specs.declared.curve.Source.TheVariants.{Roofline, Table}
use Rattle.settings.specs.declared.Settings.{Settings}
use Rattle.settings.specs.Settings.{gamma_in, uses_signals, is_trace}
use Rattle.rounds.specs.Signals.{are_finite}
use Rattle.asked_rooms.specs.declared.Ask.{Ask}
use Rattle.deciding.specs.Ready.{lent_of}
use Rattle.planning.specs.Steps.{signals_refusal}

-- ---- a test that is known
pub test_is : (x y t : Bool) → x ≡ y → x ≡ t → y ≡ t
test_is x y t e h = sym e ∙ h

pub cond_is : (r x y : ℕ) (t b : Bool) → t ≡ b → r ≡ cond b x y → r ≡ cond t x y
cond_is r x y t b e h = h ∙ ap (λ (u : Bool). cond u x y) (sym e)

pub both_sources : {A : Type 0} (x : Source) → x ≡ Roofline → x ≡ Table → A
both_sources x e f = let z : ◌≡◌ {A = ℕ} 0 1 = cc in absurd (let w : ⊥ = omega arith in w)

pub both_tests : {A : Type 0} (x : Bool) → x ≡ false → x ≡ true → A
both_tests x e f = let z : ◌≡◌ {A = ℕ} 0 1 = cc in absurd (let w : ⊥ = omega arith in w)

-- ---- the signals of the drawn rounds
module _ (s : Settings) (a : Ask) (signals : List Float) (indices : List ℕ) (used : Bool) (u : used ≡ (uses_signals s.policy && is_trace s.model)) where
  pub signals_unused : used ≡ false → 0 ≡ signals_refusal s a (lent_of [] [] signals [] indices)
  unfolding signals_refusal
  signals_unused h = rw (sym u ∙ h)

  pub signals_judged : (gamma : ℕ) (drawn : List ℕ) (finite t : Bool) → used ≡ true → gamma ≡ gamma_in s a.depth → drawn ≡ take a.sequences indices → finite ≡ are_finite signals a.depth gamma drawn → finite ≡ t
      → cond t 0 15 ≡ signals_refusal s a (lent_of [] [] signals [] indices)
  unfolding signals_refusal
  signals_judged gamma drawn finite t h g d f e = rw (sym u ∙ h, ← g, ← d, ← f, e)
