-- Laws of walks over the fields of a list: a field that passes, one that does not, one whose value is stored. Assumes nothing.
use mathlib.Core.Path.{◌≡◌, sym, ap, ◌∙◌, subst}
use mathlib.Core.Logic.{⊎_elim}
use mathlib.Core.List.{List, ◌∷◌}
use Prim.Native.Nat.{ℕ, suc, ◌+◌, ◌-◌, ◌<◌, min}
use native.Mathlib.Numerals.{add-one}
use native.Mathlib.Omega.{arith}
use borrow.Author.Tests.{ltb-true, ltb-false}
use lib.Dec.{ltb}
use lib.ListN.{length, take, drop, set}
use Rattle.blocks.specs.Blocks.{find}
use Rattle.text.specs.Fields.{fields}
use Rattle.blocks.proofs.Finding.{test}
use Rattle.text.proofs.Walk.{field_last, field_next, drop_more}
use Rattle.bank_curve.proofs.Stores.{Storing, storing_next}
use Rattle.std.specs.Prelude.{⊤, Result, Ok, Err}
use Rattle.refusals.specs.Refusals.{Judgement}
use Rattle.day_walks.specs.declared.WrongNumber.{WrongNumber}
use Rattle.day_walks.specs.Walks.{at_field, unless, fields_judged, each}

-- ---- the walk's turn: the first field of s is its first n bytes, of which the code said m

module _ (judged : List ℕ → Judgement) (place : ℕ) (s : List ℕ) (n : ℕ) (m : Result ⊤ WrongNumber) (fs : List (List ℕ)) (e : fields s ≡ take n s ∷ fs) (f : m ≡ at_field (judged (take n s)) place) where
  -- the answer, with what was said in place
  abbrev opened : Result ⊤ WrongNumber → Result ℕ WrongNumber
  opened said = unless said (fields_judged judged (suc place) fs)

  turn : fields_judged judged place (fields s) ≡ opened m
  turn = ap (fields_judged judged place) e ∙ ap opened (sym f)

  pub walk_passes : (x : ⊤) → m ≡ Ok x → fields_judged judged place (fields s) ≡ fields_judged judged (place + 1) fs
  walk_passes x z = turn ∙ ap opened z ∙ ap (λ (k : ℕ). fields_judged judged k fs) (sym (add-one place))

  pub walk_stops : (q : WrongNumber) → m ≡ Err q → Err q ≡ fields_judged judged place (fields s)
  walk_stops q z = sym (turn ∙ ap opened z)

-- ---- a value v that was read is stored

module _ {A : Type 0} (read : List ℕ → A) (values start : List A) (now : List A) (at : ℕ) where
  pub walk_stores : (now' : List A) (at' : ℕ) (v : A) (s : List ℕ) (n : ℕ) (fs : List (List ℕ)) → fields s ≡ take n s ∷ fs → v ≡ read (take n s) → now' ≡ set now at v
      → at' ≡ min (at + 1) (length now) → Storing values start 0 now at (each read (fields s)) → Storing values start 0 now' at' (each read fs)
  walk_stores now' at' v s n fs e d f g h =
      storing_next values start 0 now at now' at' v (each read fs) f g
      (subst (λ (r : List A). Storing values start 0 now at r) (ap (each read) e ∙ ap (λ (x : A). x ∷ each read fs) (sym d)) h)

-- ---- fields that are passed: n is where the first comma stands

module _ (s : List ℕ) (n left : ℕ) (e : n ≡ find 44 s) (some : 0 < left) (enough : left < length (fields s)) where
  pub comma_inside : n < length s
  comma_inside =
      ⊎_elim
      (λ t. ltb-true n (length s) t)
      (λ t. let l : length (fields s) ≡ 1 = ap length (field_last s n e (ltb-false n (length s) t)) in absurd (omega arith))
      (test (ltb n (length s)))

  pub rest_enough : left - 1 < length (fields (take (length s - (n + 1)) (drop (n + 1) s)))
  rest_enough =
      let l : length (fields s) ≡ suc (length (fields (take (length s - (n + 1)) (drop (n + 1) s)))) = ap length (field_next s n e comma_inside) in
      omega arith

  pub rest_fields : drop left (fields s) ≡ drop (left - 1) (fields (take (length s - (n + 1)) (drop (n + 1) s)))
  rest_fields =
      ap (λ (r : List (List ℕ)). drop left r) (field_next s n e comma_inside)
      ∙ drop_more left (take n s) (fields (take (length s - (n + 1)) (drop (n + 1) s))) some
