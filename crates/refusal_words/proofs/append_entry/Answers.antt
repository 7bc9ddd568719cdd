-- `refusal_words::append_entry` meets its contract. Assumes nothing.
use Prim.Native.Nat.{ℕ, zero, suc, ◌<◌}
use mathlib.Core.Path.{◌≡◌, refl, sym, ap, ◌∙◌}
use mathlib.Core.Bool.{Bool, true, false, cond}
use mathlib.Core.List.{List, [], ◌∷◌}
use native.Mathlib.Omega.{arith}
use borrow.Author.Tests.{ltb-true, ltb-false}
use lib.Dec.{ltb}
use lib.ListN.{length, get_or, get_or-eq_default}
use Rattle.text.specs.Fields.{fields}
use Rattle.refusal_words.specs.Words.{entry}
use Rattle.page.proofs.Adding.{renamed}
use Rattle.refusal_words.proofs.append_entry.Goals as goal

stands : (words : List (List ℕ)) (number : ℕ) (a b : List ℕ) → number < length words → get_or words number a ≡ get_or words number b
stands [] number a b h = absurd (omega arith)
stands (w ∷ words) zero a b h = refl
stands (w ∷ words) (suc number) a b h = stands words number a b (omega arith)

by_test : (words : List (List ℕ)) (number : ℕ) (t : Bool) → ltb number (length words) ≡ t → get_or words (cond t number 0) [] ≡ entry words number
unfolding entry
by_test words number true e = stands words number [] (get_or words 0 []) (ltb-true number (length words) e)
by_test words number false e = sym (get_or-eq_default words (get_or words 0 []) (ltb-false number (length words) e))

entry_is : (words : List (List ℕ)) (number count place : ℕ) → count ≡ length words → place ≡ cond (ltb number count) number 0 → get_or words place [] ≡ entry words number
entry_is words number count place l e =
    ap (λ (n : ℕ). get_or words n []) (e ∙ ap (λ (n : ℕ). cond (ltb number n) number 0) l) ∙ by_test words number (ltb number (length words)) refl

pub returns : goal.returns
returns c =
    renamed (c.field-words.ensures ∙ entry_is (fields c.args.table.now) c.args.number _ _ c.field_count-count.ensures c.place_below.ensures) c.append.ensures
