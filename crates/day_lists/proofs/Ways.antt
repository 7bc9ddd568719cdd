-- Each way out, over plain variables. Assumes nothing.
use mathlib.Core.Path.{◌≡◌, refl, sym, ap, ◌∙◌}
use mathlib.Core.Bool.{Bool, cond}
use mathlib.Core.List.{List, [], ◌∷◌}
use Prim.Native.Nat.{ℕ, suc, ◌+◌, ◌-◌, ◌≤◌, ◌<◌}
use native.Mathlib.Omega.{arith}
use borrow.Author.Tests.{lt-ltb, le-ltb}
use lib.Dec.{ltb}
use lib.ListN.{length}
use lib.Seq.{sets}
use Rattle.std.specs.Prelude.{Result, Ok, Err}
use Rattle.bank_curve.proofs.Stores.{stored_over}
use Rattle.refusals.specs.Refusals.{Judgement}
use Rattle.day_walks.specs.declared.WrongNumber.{WrongNumber}
use Rattle.day_walks.specs.Walks.{at_field, unless, fields_judged, each}
use Rattle.day_lists.specs.declared.NoList.{NoList}
use Rattle.day_lists.specs.declared.NoList.TheVariants.{TooMany}
use Rattle.day_lists.specs.Lists.{listed_as, left_by, listed_by}

-- ---- where the walk ends: behind the last field

ended_at : Result ℕ WrongNumber → ℕ
ended_at (Ok end) = end
ended_at (Err wrong) = 0

is_wrong : Result ℕ WrongNumber → ℕ
is_wrong (Ok end) = 0
is_wrong (Err wrong) = 1

module _ (judged : List ℕ → Judgement) where
  pub counted : (from : ℕ) (fs : List (List ℕ)) (end : ℕ) → fields_judged judged from fs ≡ Ok end → end ≡ from + length fs
  unfolding ended_at is_wrong
  counted from [] end e =
      let same : from ≡ end = ap ended_at e in
      omega arith
  counted from (f ∷ fs) end e = go (judged f) e (counted (suc from) fs end)
    where
      go : (j : Judgement) → unless (at_field j from) (fields_judged judged (suc from) fs) ≡ Ok end → (fields_judged judged (suc from) fs ≡ Ok end → end ≡ suc from + length fs) → end ≡ from + suc (length fs)
      go (Ok passed) e ih = let h = ih e in omega arith
      go (Err refusal) e ih = let h : ◌≡◌ {A = ℕ} 1 0 = ap is_wrong e in absurd (omega arith)

module _ {A : Type 0} (judged : List ℕ → Judgement) (read : List ℕ → A) (from : ℕ) (list : List (List ℕ)) (old : List A) where
  each_length : (fs : List (List ℕ)) → length (each read fs) ≡ length fs
  each_length [] = refl
  each_length (f ∷ fs) = ap suc (each_length fs)

  -- ---- what the walk said, and what the function makes of it

  module _ (found : Result ℕ WrongNumber) (e : found ≡ fields_judged judged from list) where
    by : (x : Result ℕ WrongNumber) → found ≡ x → left_by (listed_as x (length list) (length old)) (each read list) old ≡ listed_by judged read from list old
    by x t = ap (λ (y : Result ℕ WrongNumber). left_by (listed_as y (length list) (length old)) (each read list) old) (sym t ∙ e)

    module _ (end : ℕ) (t : found ≡ Ok end) where
      many : end ≡ from + length list
      many = counted judged from list end (sym e ∙ t)

      pub ends_behind : from ≤ end
      ends_behind = omega (arith, many)

      roomy : (z : Bool) → ltb (length old) (length list) ≡ z → left_by (cond z (Err TooMany) (Ok (length list))) (each read list) old ≡ listed_by judged read from list old
      roomy z h = ap (λ (b : Bool). left_by (cond b (Err TooMany) (Ok (length list))) (each read list) old) (sym h) ∙ by (Ok end) t

      pub listed_over : length old < end - from → (Err TooMany, old) ≡ listed_by judged read from list old
      listed_over h = roomy _ (lt-ltb (length old) (length list) (omega (arith, many)))

      pub listed_done : (after : List A) → end - from ≤ length old → after ≡ sets old 0 (each read list) → (Ok (end - from), after) ≡ listed_by judged read from list old
      listed_done after h g =
          let fits : length list ≤ length old = omega (arith, many) in
          let n : end - from ≡ length list = omega (arith, many) in
          let room : length (each read list) ≤ length old = rw (each_length list) fits in
          ap {B = Result ℕ NoList × List A} (λ (k : ℕ). (Ok k, after)) n
          ∙ ap {B = Result ℕ NoList × List A} (λ (a : List A). (Ok (length list), a)) (g ∙ stored_over (each read list) old room)
          ∙ roomy _ (le-ltb (length old) (length list) fits)
