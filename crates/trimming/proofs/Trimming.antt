-- Laws of trimming: what each turn of a walk from either end does, and what is left. Assumes nothing.
use mathlib.Core.Path.{◌≡◌, refl, sym, ap, ◌∙◌}
use mathlib.Core.Bool.{Bool, true, false, ◌&&◌, cond}
use mathlib.Core.List.{List, [], ◌∷◌, ◌++◌, reverse, reverse-cons, reverse-append, reverse-reverse}
use Prim.Native.Nat.{ℕ, suc, ◌+◌, ◌≤◌, ◌<◌}
use native.Mathlib.Omega.{arith}
use lib.ListN.{length, get_or, take, drop}
use lib.Seq.{take-suc}
use Rattle.laws.proofs.Lists.{next}
use Rattle.trimming.specs.Trim.{is_blank, all_blank, front_trimmed, end_trimmed, trimmed}

-- ---- from the front: the byte at i

pub front_goes_on : (t : List ℕ) (i : ℕ) → i < length t → is_blank (get_or t i 0) ≡ true → front_trimmed (drop i t) ≡ front_trimmed (drop (i + 1) t)
front_goes_on t i h e = ap front_trimmed (next t i 0 h) ∙ ap (λ (z : Bool). cond z (front_trimmed (drop (i + 1) t)) (get_or t i 0 ∷ drop (i + 1) t)) e

pub front_stops : (t : List ℕ) (i : ℕ) → i < length t → is_blank (get_or t i 0) ≡ false → front_trimmed (drop i t) ≡ drop i t
front_stops t i h e = ap front_trimmed (next t i 0 h) ∙ ap (λ (z : Bool). cond z (front_trimmed (drop (i + 1) t)) (get_or t i 0 ∷ drop (i + 1) t)) e ∙ sym (next t i 0 h)

-- ---- from the end: i is the last byte

backwards : (t : List ℕ) (i : ℕ) → i < length t → reverse (take (suc i) t) ≡ get_or t i 0 ∷ reverse (take i t)
backwards t i h = ap reverse (take-suc t i 0 h) ∙ reverse-append (take i t) (get_or t i 0 ∷ [])

pub end_goes_on : (t : List ℕ) (i : ℕ) → i < length t → is_blank (get_or t i 0) ≡ true → end_trimmed (take (suc i) t) ≡ end_trimmed (take i t)
end_goes_on t i h e =
    ap (λ (r : List ℕ). reverse (front_trimmed r)) (backwards t i h)
    ∙ ap (λ (z : Bool). reverse (cond z (front_trimmed (reverse (take i t))) (get_or t i 0 ∷ reverse (take i t)))) e

pub end_stops : (t : List ℕ) (i : ℕ) → i < length t → is_blank (get_or t i 0) ≡ false → end_trimmed (take (suc i) t) ≡ take (suc i) t
end_stops t i h e =
    ap (λ (r : List ℕ). reverse (front_trimmed r)) (backwards t i h)
    ∙ ap (λ (z : Bool). reverse (cond z (front_trimmed (reverse (take i t))) (get_or t i 0 ∷ reverse (take i t)))) e
    ∙ ap reverse (sym (backwards t i h))
    ∙ reverse-reverse (take (suc i) t)

-- ---- trimmed twice is trimmed once

front_twice : (s : List ℕ) → front_trimmed (front_trimmed s) ≡ front_trimmed s
front_twice [] = refl
front_twice (b ∷ s) = go (is_blank b) refl (front_twice s)
  where
    go : (z : Bool) → is_blank b ≡ z → front_trimmed (front_trimmed s) ≡ front_trimmed s → front_trimmed (cond z (front_trimmed s) (b ∷ s)) ≡ cond z (front_trimmed s) (b ∷ s)
    go true e ih = ih
    go false e ih = ap (λ (z : Bool). cond z (front_trimmed s) (b ∷ s)) e

end_twice : (s : List ℕ) → end_trimmed (end_trimmed s) ≡ end_trimmed s
end_twice s = ap (λ (r : List ℕ). reverse (front_trimmed r)) (reverse-reverse (front_trimmed (reverse s))) ∙ ap reverse (front_twice (reverse s))

-- a last byte that is no blank stays, however much is taken off before it
last_stays : (s : List ℕ) (b : ℕ) → is_blank b ≡ false → front_trimmed (s ++ b ∷ []) ≡ front_trimmed s ++ b ∷ []
last_stays [] b e = ap (λ (z : Bool). cond z [] (b ∷ [])) e
last_stays (a ∷ s) b e = go (is_blank a) (last_stays s b e)
  where
    go : (z : Bool) → front_trimmed (s ++ b ∷ []) ≡ front_trimmed s ++ b ∷ [] → cond z (front_trimmed (s ++ b ∷ [])) (a ∷ s ++ b ∷ []) ≡ cond z (front_trimmed s) (a ∷ s) ++ b ∷ []
    go true ih = ih
    go false ih = refl

first_stays : (b : ℕ) (s : List ℕ) → is_blank b ≡ false → end_trimmed (b ∷ s) ≡ b ∷ end_trimmed s
first_stays b s e =
    ap (λ (r : List ℕ). reverse (front_trimmed r)) (reverse-cons b s) ∙ ap reverse (last_stays (reverse s) b e) ∙ reverse-append (front_trimmed (reverse s)) (b ∷ [])

front_stays : (s : List ℕ) → front_trimmed (trimmed s) ≡ trimmed s
front_stays [] = refl
front_stays (b ∷ s) = go (is_blank b) refl (front_stays s)
  where
    go : (z : Bool) → is_blank b ≡ z → front_trimmed (trimmed s) ≡ trimmed s → front_trimmed (end_trimmed (cond z (front_trimmed s) (b ∷ s))) ≡ end_trimmed (cond z (front_trimmed s) (b ∷ s))
    go true e ih = ih
    go false e ih =
        ap front_trimmed (first_stays b s e) ∙ ap (λ (z : Bool). cond z (front_trimmed (end_trimmed s)) (b ∷ end_trimmed s)) e ∙ sym (first_stays b s e)

pub trimmed_again : (s : List ℕ) → trimmed (trimmed s) ≡ trimmed s
trimmed_again s = ap end_trimmed (front_stays s) ∙ end_twice (front_trimmed s)

-- ---- nothing, and nothing but blanks

pub trimmed_none : trimmed [] ≡ []
trimmed_none = refl

front_blanks : (s : List ℕ) → all_blank s ≡ true → front_trimmed s ≡ []
front_blanks [] e = refl
front_blanks (b ∷ s) e = go (is_blank b) e (front_blanks s)
  where
    go : (z : Bool) → (z && all_blank s) ≡ true → (all_blank s ≡ true → front_trimmed s ≡ []) → cond z (front_trimmed s) (b ∷ s) ≡ []
    go true e ih = ih e
    go false e ih = let z : ◌≡◌ {A = ℕ} 0 1 = cc in absurd (omega arith)

pub trimmed_blanks : (s : List ℕ) → all_blank s ≡ true → trimmed s ≡ []
trimmed_blanks s e = ap end_trimmed (front_blanks s e)

-- ---- only blanks are taken off

all_both : (s t : List ℕ) → all_blank s ≡ true → all_blank t ≡ true → all_blank (s ++ t) ≡ true
all_both [] t e f = f
all_both (b ∷ s) t e f = go (is_blank b) e (all_both s t)
  where
    go : (z : Bool) → (z && all_blank s) ≡ true → (all_blank s ≡ true → all_blank t ≡ true → all_blank (s ++ t) ≡ true) → (z && all_blank (s ++ t)) ≡ true
    go true e ih = ih e f
    go false e ih = e

all_backwards : (s : List ℕ) → all_blank s ≡ true → all_blank (reverse s) ≡ true
all_backwards [] e = refl
all_backwards (b ∷ s) e = go (is_blank b) refl e (all_backwards s)
  where
    go : (z : Bool) → is_blank b ≡ z → (z && all_blank s) ≡ true → (all_blank s ≡ true → all_blank (reverse s) ≡ true) → all_blank (reverse (b ∷ s)) ≡ true
    go true i e ih = ap all_blank (reverse-cons b s) ∙ all_both (reverse s) (b ∷ []) (ih e) (ap (λ (z : Bool). z && true) i)
    go false i e ih = let z : ◌≡◌ {A = ℕ} 0 1 = cc in absurd (omega arith)

front_off : (s : List ℕ) → (p : List ℕ) × (s ≡ p ++ front_trimmed s) × (all_blank p ≡ true)
front_off [] = ([], refl, refl)
front_off (b ∷ s) = go (is_blank b) refl (front_off s)
  where
    go : (z : Bool) → is_blank b ≡ z → ((p : List ℕ) × (s ≡ p ++ front_trimmed s) × (all_blank p ≡ true)) → (p : List ℕ) × (b ∷ s ≡ p ++ cond z (front_trimmed s) (b ∷ s)) × (all_blank p ≡ true)
    go true e ih = (b ∷ ih.0, ap (λ (r : List ℕ). b ∷ r) ih.1, ap (λ (z : Bool). z && all_blank ih.0) e ∙ ih.2)
    go false e ih = ([], refl, refl)

end_off : (s : List ℕ) → (q : List ℕ) × (s ≡ end_trimmed s ++ q) × (all_blank q ≡ true)
end_off s =
    let f = front_off (reverse s) in
    (reverse f.0, sym (reverse-reverse s) ∙ ap reverse f.1 ∙ reverse-append f.0 (front_trimmed (reverse s)), all_backwards f.0 f.2)

-- a text is its trimmed text, with blanks before and behind
pub trimmed_within : (s : List ℕ) → (p q : List ℕ) × (s ≡ p ++ (trimmed s ++ q)) × (all_blank p ≡ true) × (all_blank q ≡ true)
trimmed_within s =
    let f = front_off s in
    let e = end_off (front_trimmed s) in
    (f.0, e.0, f.1 ∙ ap (λ (r : List ℕ). f.0 ++ r) e.1, f.2, e.2)
