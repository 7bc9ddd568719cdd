-- An answer told beside the buffer that the call left. Assumes nothing.
use mathlib.Core.Path.{◌≡◌, ap, ◌∙◌}
use Rattle.exported.specs.Telling.{on_first}

abbrev beside : {B C : Type 0} → C → B → B × C
beside w b = (b, w)

pub handed : {A B C : Type 0} → (f : A → B) → (r : B) → (x : A) → (w : C) → (p : A × C) → r ≡ f x → (x, w) ≡ p → (r, w) ≡ on_first f p
handed {A = A} {B = B} {C = C} f r x w p h e = ap (λ (b : B). beside w b) h ∙ ap (λ (q : A × C). on_first f q) e
