-- Lists with the same first entries: what reads only those reads the same. Assumes nothing.
use mathlib.Core.Path.{◌≡◌, refl, sym, ap, ◌∙◌}
use mathlib.Core.Bool.{cond}
use mathlib.Core.List.{List, [], ◌∷◌}
use Prim.Native.Nat.{ℕ, zero, suc, ◌+◌, ◌<◌, min}
use native.Mathlib.Omega.{arith}
use borrow.Author.Tests.{leb-true, leb-false, le-leb, lt-leb}
use lib.Dec.{leb, ltb}
use lib.Ieee.{Float, nan}
use lib.ListN.{length, get_or, take, length-take}
use lib.Seq.{get_or-take}
use Rattle.float.specs.Floats.{times, whole}
use Rattle.budgets.specs.Budget.{values_from, bank_values}
use Rattle.ledger_rows.proofs.Tests.{by_test}
use Rattle.rounds.specs.Drawing.{Batch, refused_with, and_then, replayed}

-- both have enough of them, or neither
pub enough : {A : Type 0} (k : ℕ) (xs ys : List A) → take k xs ≡ take k ys → leb k (length xs) ≡ leb k (length ys)
enough k xs ys e =
    let m : min k (length xs) ≡ min k (length ys) = sym (length-take k xs) ∙ ap length e ∙ length-take k ys in
    by_test (leb k (length xs))
    (λ q. let h = leb-true k (length xs) q in q ∙ sym (le-leb k (length ys) (omega arith)))
    (λ q. let h = leb-false k (length xs) q in q ∙ sym (lt-leb k (length ys) (omega arith)))

values_same_from : (f g : ℕ → Float) (count from : ℕ) → ((i : ℕ) → i < from + count → f i ≡ g i) → values_from f count from ≡ values_from g count from
unfolding values_from
values_same_from f g zero from h = refl
values_same_from f g (suc count) from h = rw (h from (omega arith)) (ap (λ (l : List Float). g from ∷ l) (values_same_from f g count (suc from) (λ i k. h i (omega arith))))

pub bank_values_lem : (xs ys : List Float) (depth n g : ℕ) → take (g + 1) xs ≡ take (g + 1) ys → bank_values xs depth n g ≡ bank_values ys depth n g
bank_values_lem xs ys depth n g e = values_same_from _ _ (g + 1) 0 (λ i h.
    let low : min i depth < g + 1 = omega arith in
    let same : get_or xs (min i depth) nan ≡ get_or ys (min i depth) nan =
    sym (get_or-take (g + 1) xs (min i depth) nan low) ∙ ap (λ (l : List Float). get_or l (min i depth) nan) e ∙ get_or-take (g + 1) ys (min i depth) nan low in
    ap (times (whole n)) same)

pub replayed_front : (commits : List ℕ) (rounds n : ℕ) (indices : List ℕ) → replayed commits rounds n indices ≡ replayed commits rounds n (take n indices)
unfolding replayed
replayed_front commits rounds zero indices = refl
replayed_front commits rounds (suc n) [] = refl
replayed_front commits rounds (suc n) (i ∷ indices) = ap (λ (b : Batch). cond (ltb i rounds) (and_then (get_or commits i 0) 1 b) (refused_with 14)) (replayed_front commits rounds n indices)
