-- The drafter's seconds: each way through the code, and widths that are all equal. Assumes nothing.
use mathlib.Core.Path.{◌≡◌, refl, sym, ap, ◌∙◌}
use mathlib.Core.Bool.{cond}
use mathlib.Core.List.{List}
use Prim.Native.Nat.{ℕ, ◌+◌, ◌≤◌, ◌<◌}
use native.Mathlib.Numerals.{add-one}
use borrow.Author.Tests.{lt-ltb, le-ltb, eq-eqb, ne_eqb}
use lib.Dec.{ltb}
use lib.ListN.{length, get_or}
use lib.Ieee.{Float, nan}
use Rattle.float.specs.Floats.{plus, whole, f0}
use Rattle.speculative.specs.declared.drafter.Rates.{Rates}
use Rattle.speculative.specs.declared.drafter.DrafterCost.{DrafterCost}
use Rattle.speculative.specs.declared.drafter.DrafterCost.TheVariants.{Autoregressive}
use Rattle.speculative.specs.Drafter.{kind_seconds, drafter_seconds, loaded_at, pass_seconds, pass_at, passes_from, kind_ragged, ragged_seconds}
use Rattle.draft_inputs.specs.Inputs.{largest, still_drafting}

-- ---- one draft
module _ (kind : DrafterCost) (gamma batch : ℕ) (rates : Rates) (verify loaded : Float) where
  pub no_draft : gamma ≡ 0 → f0 ≡ drafter_seconds kind gamma batch rates verify loaded
  no_draft z = rw (eq-eqb gamma 0 z)

  -- each kind's case
  pub some_draft : (k : DrafterCost) (r : Float) → (gamma ≡ 0 → ⊥) → kind ≡ k → r ≡ kind_seconds k (whole gamma) (whole batch) rates verify loaded → r ≡ drafter_seconds kind gamma batch rates verify loaded
  some_draft k r nz e v = rw (ne_eqb gamma 0 nz, e) v

-- ---- the loaded experts
module _ (kind k : DrafterCost) (l : List Float) (batch : ℕ) where
  pub loaded_of : (r : Float) → kind ≡ k → r ≡ loaded_at k l batch → r ≡ loaded_at kind l batch
  loaded_of r e v = v ∙ ap (λ (d : DrafterCost). loaded_at d l batch) (sym e)

pub in_list : (l : List Float) (batch : ℕ) → batch < length l → get_or l batch nan ≡ cond (ltb batch (length l)) (get_or l batch nan) f0
in_list l batch h = rw (lt-ltb batch (length l) h)

pub past_list : (l : List Float) (batch : ℕ) → length l ≤ batch → f0 ≡ cond (ltb batch (length l)) (get_or l batch nan) f0
past_list l batch h = rw (le-ltb batch (length l) h)

-- ---- one pass
module _ (kind k : DrafterCost) (batch : ℕ) (rates : Rates) (loaded : Float) where
  pub pass_of : (r : Float) → kind ≡ k → r ≡ pass_seconds k batch rates loaded → r ≡ pass_seconds kind batch rates loaded
  pass_of r e v = v ∙ ap (λ (d : DrafterCost). pass_seconds d batch rates loaded) (sym e)

module _ (kind : DrafterCost) (dense expert : Float) (experts k shared batch : ℕ) (rates : Rates) (loaded : Float) (e : kind ≡ Autoregressive dense expert experts k shared) where
  pub pass_none : batch ≡ 0 → f0 ≡ pass_seconds kind batch rates loaded
  pass_none z = pass_of kind _ batch rates loaded f0 e (rw (eq-eqb batch 0 z))

  pub pass_some : (r : Float) → (batch ≡ 0 → ⊥) → r ≡ drafter_seconds kind 1 batch rates f0 loaded → r ≡ pass_seconds kind batch rates loaded
  pass_some r nz v = pass_of kind _ batch rates loaded r e (rw (ne_eqb batch 0 nz) (v ∙ ap (λ (d : DrafterCost). drafter_seconds d 1 batch rates f0 loaded) e))

-- ---- the passes
module _ (kind : DrafterCost) (widths : List ℕ) (rates : Rates) (loaded : List Float) where
  pub no_passes : f0 ≡ passes_from kind widths rates loaded 0
  unfolding passes_from
  no_passes = refl

  pub one_pass_more : (k : ℕ) (sum : Float) (n : ℕ) (experts p : Float) → sum ≡ passes_from kind widths rates loaded k
      → n ≡ still_drafting widths (k + 1) → experts ≡ loaded_at kind loaded n → p ≡ pass_seconds kind n rates experts
      → plus sum p ≡ passes_from kind widths rates loaded (k + 1)
  unfolding passes_from
  one_pass_more k sum n experts p s m x q =
      let pass : p ≡ pass_at kind widths rates loaded (k + 1) =
      q ∙ ap (λ (e : Float). pass_seconds kind n rates e) x ∙ ap (λ (i : ℕ). pass_seconds kind i rates (loaded_at kind loaded i)) m in
      rw (s, pass, add-one k)

-- ---- each kind, over widths that differ
module _ (kind : DrafterCost) (widths : List ℕ) (rates : Rates) (verify : Float) (loaded : List Float) (d : ℕ) (e : d ≡ largest widths) where
  pub none_wide : d ≡ 0 → f0 ≡ ragged_seconds kind widths rates verify loaded
  none_wide z = rw (eq-eqb (largest widths) 0 (sym e ∙ z))

  pub some_wide : (r : Float) (k : DrafterCost) → (d ≡ 0 → ⊥) → kind ≡ k → r ≡ kind_ragged k widths rates verify loaded → r ≡ ragged_seconds kind widths rates verify loaded
  some_wide r k nz p q = rw (ne_eqb (largest widths) 0 (λ z. nz (e ∙ z)), p) q

  pub all_passes : (r : Float) (k : DrafterCost) → kind ≡ k → r ≡ passes_from kind widths rates loaded d → r ≡ passes_from k widths rates loaded (largest widths)
  all_passes r k p q = rw (← e, ← p) q
