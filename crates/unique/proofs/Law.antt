-- Two outcomes that are equal to the same definition are equal. Assumes nothing.
use mathlib.Core.Path.{◌≡◌, sym, ap, ◌∙◌}

pub once : {A : Type 0} {d x y : A} → x ≡ d → y ≡ d → x ≡ y
once p q = p ∙ sym q

-- and so are their parts: of two, of four, and of five
pub two_once : {R A B : Type 0} (f : R → A) (g : R → B) {d u v : R} → u ≡ d → v ≡ d → (f u ≡ f v) × (g u ≡ g v)
two_once f g p q = (ap f (once p q), ap g (once p q))

pub four_once : {R A B C D : Type 0} (f : R → A) (g : R → B) (h : R → C) (k : R → D) {d u v : R} → u ≡ d → v ≡ d → (f u ≡ f v) × (g u ≡ g v) × (h u ≡ h v) × (k u ≡ k v)
four_once f g h k p q = (ap f (once p q), ap g (once p q), ap h (once p q), ap k (once p q))

pub pair_once : {A B : Type 0} {d : A × B} {x y : A} {b c : B} → (x, b) ≡ d → (y, c) ≡ d → (x ≡ y) × (b ≡ c)
pair_once {A} {B} p q = two_once (λ (o : A × B). o.0) (λ (o : A × B). o.1) p q

pub tuple_once : {A B C D : Type 0} {o : A × B × C × D} {x y : A} {b b' : B} {c c' : C} {d d' : D} → (x, b, c, d) ≡ o → (y, b', c', d') ≡ o → (x ≡ y) × (b ≡ b') × (c ≡ c') × (d ≡ d')
tuple_once {A} {B} {C} {D} p q = four_once (λ (o : A × B × C × D). o.0) (λ (o : A × B × C × D). o.1) (λ (o : A × B × C × D). o.2) (λ (o : A × B × C × D). o.3) p q

pub five_once : {A B C D E : Type 0} {o : A × B × C × D × E} {x y : A} {b b' : B} {c c' : C} {d d' : D} {e e' : E} → (x, b, c, d, e) ≡ o → (y, b', c', d', e') ≡ o
    → (x ≡ y) × (b ≡ b') × (c ≡ c') × (d ≡ d') × (e ≡ e')
five_once {A} {B} {C} {D} {E} p q = (
  ap (λ (o : A × B × C × D × E). o.0) (once p q),
  ap (λ (o : A × B × C × D × E). o.1) (once p q),
  ap (λ (o : A × B × C × D × E). o.2) (once p q),
  ap (λ (o : A × B × C × D × E). o.3) (once p q),
  ap (λ (o : A × B × C × D × E). o.4) (once p q),
)
