-- The value of a position, what is refused before anything is drawn or added up, and what is known of a model that passes: each value lies in the range 0 to 1. Assumes nothing.
use mathlib.Core.Path.{◌≡◌, refl, sym, ap, ◌∙◌}
use mathlib.Core.Bool.{Bool, true, false, ◌&&◌, cond}
use Rattle.std.specs.Prelude.{Ok, Err}
use mathlib.Core.List.{List, [], ◌∷◌}
use Prim.Native.Nat.{ℕ, zero, suc, ◌+◌, ◌≤◌, ◌<◌}
use native.Mathlib.Nat.{not-suc-le-zero, le_of_suc-le-suc}
use native.Mathlib.Omega.{arith}
use borrow.Author.Tests.{le-leb, lt-leb, lt-ltb, le-ltb, ltb-true}
use lib.Dec.{leb, ltb}
use lib.ListN.{length, get_or, drop, drop_of_length-le}
use lib.Ieee.{Float, nan, lt, of_bits}
use Rattle.laws.proofs.Lists.{next}
use Rattle.float.specs.Floats.{f0, f1, is_clear}
use Rattle.float.specs.Range.{in_range}
use Rattle.float.proofs.Classes.{clash}
use Rattle.acceptance.specs.declared.AcceptanceModel.{AcceptanceModel}
use Rattle.acceptance.specs.declared.AcceptanceModel.TheVariants.{Constant, PerPosition, Trace}
use Rattle.refusals.specs.declared.Refusal.{Refusal}
use Rattle.refusals.specs.declared.Refusal.TheVariants.{Size, Setting}
use Rattle.refusals.specs.Refusals.{passed_if, number_in}
use Rattle.acceptance.specs.Acceptance.{most_positions, most_gamma, a_d, is_chance, all_chances, model_judged, model_refusal, acceptance_judged}

-- ---- the value of a position
pub of_model : (model other : AcceptanceModel) (positions : List Float) (d : ℕ) (x : Float) → model ≡ other → x ≡ a_d other positions d → x ≡ a_d model positions d
of_model model other positions d x e v = v ∙ ap (λ (m : AcceptanceModel). a_d m positions d) (sym e)

pub in_list : (positions : List Float) (d : ℕ) → d < length positions → get_or positions d nan ≡ a_d PerPosition positions d
in_list positions d h = rw (lt-ltb d (length positions) h)

pub past_list : (positions : List Float) (d : ℕ) → length positions ≤ d → f0 ≡ a_d PerPosition positions d
past_list positions d h = rw (le-ltb d (length positions) h)

-- ---- the positions from a place on
pub chances_next : (z : Bool) (t : List Float) (i : ℕ) → i < length t → is_chance (get_or t i nan) ≡ z → all_chances (drop i t) ≡ (z && all_chances (drop (i + 1) t))
chances_next z t i h e = ap all_chances (next t i nan h) ∙ ap (λ (b : Bool). b && all_chances (drop (i + 1) t)) e

pub chances_end : (t : List Float) (i : ℕ) → length t ≤ i → all_chances (drop i t) ≡ true
chances_end t i h = ap all_chances (drop_of_length-le t h)

module _ (model : AcceptanceModel) (positions : List Float) where
  -- ---- each way through the judge
  pub too_many : most_positions < length positions → model_judged model positions ≡ Err Setting
  unfolding model_judged
  too_many h = rw (lt-leb (length positions) most_positions h)

  pub no_chances : length positions ≤ most_positions → all_chances positions ≡ false → model_judged model positions ≡ Err Setting
  unfolding model_judged
  no_chances h e = rw (le-leb (length positions) most_positions h, e)

  -- ---- the settings go before gamma
  pub settings_first : (gamma : ℕ) (refusal : Refusal) → model_judged model positions ≡ Err refusal → acceptance_judged model positions gamma ≡ Err refusal
  unfolding acceptance_judged
  settings_first gamma refusal e = rw e

  pub too_deep : (gamma : ℕ) → model_judged model positions ≡ Ok tt → most_gamma < gamma → acceptance_judged model positions gamma ≡ Err Size
  unfolding acceptance_judged
  too_deep gamma e k = rw (e, lt-leb gamma most_gamma k)

  pub none_refused : (gamma : ℕ) → model_judged model positions ≡ Ok tt → gamma ≤ most_gamma → acceptance_judged model positions gamma ≡ Ok tt
  unfolding acceptance_judged
  none_refused gamma e k = rw (e, le-leb gamma most_gamma k)

-- ---- a model that passes
both : (a b d : Bool) → ◌≡◌ {A = ℕ} (number_in (passed_if (a && (b && d)) Setting)) 0 → (b ≡ true) × (d ≡ true)
both true true true e = (refl, refl)
both true true false e = absurd (let w : ⊥ = omega arith in w)
both true false d e = absurd (let w : ⊥ = omega arith in w)
both false b d e = absurd (let w : ⊥ = omega arith in w)

chance_at : (t : List Float) (i : ℕ) → all_chances t ≡ true → i < length t → is_chance (get_or t i nan) ≡ true
chance_at [] i e h = absurd (not-suc-le-zero h)
chance_at (x ∷ t) i e h = go i (is_chance x) refl e h (chance_at t)
  where
    go : (j : ℕ) (z : Bool) → is_chance x ≡ z → (z && all_chances t) ≡ true → j < suc (length t)
        → ((k : ℕ) → all_chances t ≡ true → k < length t → is_chance (get_or t k nan) ≡ true) → is_chance (get_or (x ∷ t) j nan) ≡ true
    go j false k f l ih = clash f
    go zero true k f l ih = k
    go (suc j) true k f l ih = ih j f (le_of_suc-le-suc l)

zero_chance : is_chance f0 ≡ true
unfolding in_range is_clear lt of_bits
zero_chance = refl

-- each value of a model that passes lies in the range 0 to 1
pub value_in_range : (model : AcceptanceModel) (positions : List Float) → model_refusal model positions ≡ 0 → (d : ℕ) → in_range f0 f1 (a_d model positions d) ≡ true
unfolding model_judged
value_in_range (Constant alpha) positions e d = (both (leb (length positions) most_positions) (all_chances positions) (is_chance alpha) e).1
value_in_range PerPosition positions e d = go (ltb d (length positions)) refl
  where
    go : (z : Bool) → ltb d (length positions) ≡ z → is_chance (cond z (get_or positions d nan) f0) ≡ true
    go true h = chance_at positions d (both (leb (length positions) most_positions) (all_chances positions) true e).0 (ltb-true d (length positions) h)
    go false h = zero_chance
value_in_range Trace positions e d = zero_chance
