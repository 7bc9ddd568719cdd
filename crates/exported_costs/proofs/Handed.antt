-- What is told of an answer for a drafter and rates that are known. Assumes nothing.
use mathlib.Core.Path.{◌≡◌, ap, ◌∙◌}
use Rattle.speculative.specs.declared.drafter.DrafterCost.{DrafterCost}
use Rattle.speculative.specs.declared.drafter.Rates.{Rates}

pub asked_of : {A : Type 0} → (f : DrafterCost → Rates → A) → {x : A} {d d' : DrafterCost} {s s' : Rates} → x ≡ f d s → d ≡ d' → s ≡ s' → x ≡ f d' s'
asked_of f {d' = d'} {s = s} e p q = e ∙ (ap (λ (k : DrafterCost). f k s) p ∙ ap (λ (t : Rates). f d' t) q)

pub priced : {A B : Type 0} → (g : A → B) → (f : DrafterCost → Rates → A) → {r : B} {x : A} {d d' : DrafterCost} {s s' : Rates} → r ≡ g x → x ≡ f d s → d ≡ d' → s ≡ s' → r ≡ g (f d' s')
priced g f t e p q = t ∙ ap g (asked_of f e p q)
