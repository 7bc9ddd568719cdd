-- Laws of values stored one after the other. Assumes nothing.
use mathlib.Core.Path.{◌≡◌, refl, sym, ap, ◌∙◌, subst}
use mathlib.Core.List.{List, [], ◌∷◌, ◌++◌}
use Prim.Native.Nat.{ℕ, suc, ◌+◌, ◌≤◌, ◌<◌, min}
use native.Mathlib.Nat.{le_trans, le-suc, le_of_eq}
use native.Mathlib.Numerals.{add-one}
use native.Mathlib.Omega.{arith}
use mathlib.Core.Logic.{⊎_elim}
use borrow.Author.Tests.{leb-true, leb-false}
use lib.Dec.{leb}
use lib.ListN.{length, take, drop, set, length-set, length-append}
use lib.Seq.{sets, set_out, length-sets, sets-eq, take-append_seam}
use Rattle.blocks.proofs.Finding.{test}
use Rattle.bank_curve.specs.Curve.{over}

module _ {ℓ} {A : Type ℓ} where
  -- past the end nothing is stored
  pub sets_out : (vs l : List A) (i : ℕ) → length l ≤ i → sets l i vs ≡ l
  sets_out [] l i h = refl
  sets_out (v ∷ vs) l i h =
      ap (λ (m : List A). sets m (suc i) vs) (set_out l i v h) ∙ sets_out vs l (suc i) (le_trans h (le-suc i))

  -- so the place may stop at the end
  pub sets_min : (vs l : List A) (i : ℕ) → sets l (min i (length l)) vs ≡ sets l i vs
  sets_min vs l i =
      ⊎_elim
      (λ t. let h : length l ≤ i = leb-true (length l) i t in
      let m : min i (length l) ≡ length l = omega arith in
      ap (λ (k : ℕ). sets l k vs) m ∙ sets_out vs l (length l) (le_of_eq refl) ∙ sym (sets_out vs l i h))
      (λ t. let h : i < length l = leb-false (length l) i t in
      let m : min i (length l) ≡ i = omega arith in
      ap (λ (k : ℕ). sets l k vs) m)
      (test (leb (length l) i))

  -- one value, and then the others
  pub sets_next : (v : A) (vs l : List A) (i k : ℕ) → k ≡ min (i + 1) (length l) → sets (set l i v) k vs ≡ sets l i (v ∷ vs)
  sets_next v vs l i k e =
      let f : k ≡ min (i + 1) (length (set l i v)) = e ∙ ap (min (i + 1)) (sym (length-set l i v)) in
      ap (λ (n : ℕ). sets (set l i v) n vs) f ∙ sets_min vs (set l i v) (i + 1) ∙ ap (λ (n : ℕ). sets (set l i v) n vs) (add-one i)

  -- some values, and then the others
  pub sets_append : (us vs l : List A) (i : ℕ) → sets l i (us ++ vs) ≡ sets (sets l i us) (i + length us) vs
  sets_append [] vs l i = let z : i + 0 ≡ i = omega arith in ap (λ (n : ℕ). sets l n vs) (sym z)
  sets_append (u ∷ us) vs l i =
      let n : suc i + length us ≡ i + suc (length us) = omega arith in
      sets_append us vs (set l i u) (suc i) ∙ ap (λ (k : ℕ). sets (sets (set l i u) (suc i) us) k vs) n

  pub sets_more : (us vs l : List A) (i k : ℕ) → k ≡ min (i + length us) (length l) → sets (sets l i us) k vs ≡ sets l i (us ++ vs)
  sets_more us vs l i k e =
      let f : k ≡ min (i + length us) (length (sets l i us)) = e ∙ ap (min (i + length us)) (sym (length-sets l i us)) in
      ap (λ (n : ℕ). sets (sets l i us) n vs) f ∙ sets_min vs (sets l i us) (i + length us) ∙ sym (sets_append us vs l i)

  -- where there is room, what is stored from the front on stands over what was there
  pub stored_over : (vs l : List A) → length vs ≤ length l → sets l 0 vs ≡ over vs l
  stored_over vs l h =
      let z : 0 + length vs ≡ length vs = omega arith in
      sets-eq vs l 0 (subst (λ (n : ℕ). n ≤ length l) (sym z) h) ∙ ap (λ (n : ℕ). vs ++ drop n l) z

  pub take_sets : (vs l : List A) → length vs ≤ length l → take (length vs) (sets l 0 vs) ≡ vs
  take_sets vs l h = ap (take (length vs)) (stored_over vs l h) ∙ take-append_seam vs (drop (length vs) l)

  -- a run of stores that is under way: `now` is the buffer, in which `rest` is still to be stored from `at` on, where `values` was from `from` on in `start`.
  -- The place stops at the end
  abbrev pub Storing : List A → List A → ℕ → List A → ℕ → List A → Type ℓ
  Storing values start from now at rest =
      (length now ≡ length start)
      × ((at ≤ length now)
      × ((sets start from values ≡ sets now at rest) × (min (from + length values) (length start) ≡ min (at + length rest) (length start))))

  pub storing_begins : (values start : List A) (from : ℕ) → from ≤ length start → Storing values start from start from values
  storing_begins values start from h = (refl, (h, (refl, refl)))

  module _ (values start : List A) (from : ℕ) (now : List A) (at : ℕ) where
    -- the same under other names
    pub storing_same : (now' : List A) (at' : ℕ) (rest rest' : List A) → now' ≡ now → at' ≡ at → rest ≡ rest'
        → Storing values start from now at rest → Storing values start from now' at' rest'
    storing_same now' at' rest rest' e f g s =
        subst (λ (x : List A). Storing values start from x at' rest') (sym e)
        (subst (λ (k : ℕ). Storing values start from now k rest') (sym f) (subst (λ (r : List A). Storing values start from now at r) g s))

    -- one more value is stored
    pub storing_next : (now' : List A) (at' : ℕ) (v : A) (rest : List A) → now' ≡ set now at v → at' ≡ min (at + 1) (length now)
        → Storing values start from now at (v ∷ rest) → Storing values start from now' at' rest
    storing_next now' at' v rest e f s =
        let l : length now' ≡ length now = ap length e ∙ length-set now at v in
        let k : length now ≡ length start = s.0 in (
          l ∙ k,
          (
            omega arith,
            (
              s.1.1.0 ∙ sym (sets_next v rest now at at' f) ∙ ap (λ (x : List A). sets x at' rest) (sym e),
              s.1.1.1 ∙ omega arith,
            ),
          ),
        )

    -- some more are stored
    pub storing_more : (now' : List A) (at' : ℕ) (vs rest : List A) → now' ≡ sets now at vs → at' ≡ min (at + length vs) (length now)
        → Storing values start from now at (vs ++ rest) → Storing values start from now' at' rest
    storing_more now' at' vs rest e f s =
        let l : length now' ≡ length now = ap length e ∙ length-sets now at vs in
        let k : length now ≡ length start = s.0 in (
          l ∙ k,
          (
            omega arith,
            (
              s.1.1.0 ∙ sym (sets_more vs rest now at at' f) ∙ ap (λ (x : List A). sets x at' rest) (sym e),
              s.1.1.1 ∙ omega (arith, length-append vs rest),
            ),
          ),
        )

    -- nothing is left
    pub storing_ends : Storing values start from now at [] → (at ≡ min (from + length values) (length start)) × (now ≡ sets start from values)
    storing_ends s =
        let k : length now ≡ length start = s.0 in
        let m : min (from + length values) (length start) ≡ min (at + 0) (length start) = s.1.1.1 in
        let h : at ≤ length now = s.1.0 in
        (omega arith, sym s.1.1.0)
