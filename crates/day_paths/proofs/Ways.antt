-- Where a path's folder ends, and each way out, over plain variables. Assumes nothing.
use mathlib.Core.Path.{◌≡◌, refl, sym, ap, ◌∙◌}
use mathlib.Core.Bool.{Bool, true, false, cond}
use mathlib.Core.List.{List, [], ◌∷◌, ◌++◌, append_assoc}
use Prim.Native.Nat.{ℕ, zero, suc, ◌+◌, ◌-◌, ◌≤◌, ◌<◌}
use native.Mathlib.Nat.{not-suc-le-zero, le_of_suc-le-suc}
use native.Mathlib.Omega.{arith}
use borrow.Author.Tests.{lt-ltb, le-ltb, eq-eqb, ne_eqb}
use lib.Dec.{ltb, eqb}
use lib.ListN.{length, get_or, take, drop, length-append}
use lib.Seq.{length-take-le, drop-cons}
use Rattle.text.specs.Lines.{starts_with}
use Rattle.day_paths.specs.Paths.{folder_length, kept_of, path_of, placed_beside}

-- ---- where the folder ends

-- a path whose rest has a folder has it there
folder_further : (i : ℕ) (s : List ℕ) → i ≤ length s → 0 < folder_length (drop i s) → folder_length s ≡ i + folder_length (drop i s)
folder_further zero s h k = omega arith
folder_further (suc i) [] h k = absurd (not-suc-le-zero h)
folder_further (suc i) (b ∷ s) h k =
    let ih : folder_length s ≡ i + folder_length (drop i s) = folder_further i s (le_of_suc-le-suc h) k in
    let some : 0 < folder_length s = omega arith in
    ap (λ (z : Bool). cond z (suc (folder_length s)) (cond (eqb b 47) 1 0)) (lt-ltb 0 (folder_length s) some) ∙ omega arith

-- one byte more, of a path whose rest behind it has no folder
module _ (s : List ℕ) (stop : ℕ) (some : 0 < stop) (inside : stop ≤ length s) (none : folder_length (drop stop s) ≡ 0) where
  opened : drop (stop - 1) s ≡ get_or s (stop - 1) 0 ∷ drop stop s
  opened =
      let h : stop - 1 < length s = omega arith in
      let e : suc (stop - 1) ≡ stop = omega arith in
      drop-cons s (stop - 1) 0 h ∙ ap (λ (n : ℕ). get_or s (stop - 1) 0 ∷ drop n s) e

  shown : folder_length (drop (stop - 1) s) ≡ cond (eqb (get_or s (stop - 1) 0) 47) 1 0
  shown =
      let less : folder_length (drop stop s) ≤ 0 = omega arith in
      ap folder_length opened
      ∙ ap (λ (z : Bool). cond z (suc (folder_length (drop stop s))) (cond (eqb (get_or s (stop - 1) 0) 47) 1 0)) (le-ltb 0 (folder_length (drop stop s)) less)

  pub folder_found : get_or s (stop - 1) 0 ≡ 47 → stop ≡ folder_length s
  folder_found e =
      let one : folder_length (drop (stop - 1) s) ≡ 1 = shown ∙ ap (λ (z : Bool). cond z 1 0) (eq-eqb (get_or s (stop - 1) 0) 47 e) in
      let all : folder_length s ≡ stop - 1 + folder_length (drop (stop - 1) s) = folder_further (stop - 1) s (omega arith) (omega arith) in
      omega arith

  pub folder_later : (get_or s (stop - 1) 0 ≡ 47 → ⊥) → folder_length (drop (stop - 1) s) ≡ 0
  folder_later n = shown ∙ ap (λ (z : Bool). cond z 1 0) (ne_eqb (get_or s (stop - 1) 0) 47 n)

pub folder_starts : (s : List ℕ) → folder_length (drop (length s) s) ≡ 0
folder_starts [] = refl
folder_starts (b ∷ s) = folder_starts s

pub folder_none : (s : List ℕ) (stop : ℕ) → stop ≤ 0 → folder_length (drop stop s) ≡ 0 → 0 ≡ folder_length s
folder_none s zero h e = sym e
folder_none s (suc n) h e = absurd (not-suc-le-zero h)

pub folder_le : (s : List ℕ) → folder_length s ≤ length s
folder_le [] = omega arith
folder_le (b ∷ s) = go (ltb 0 (folder_length s)) (eqb b 47) (folder_le s)
  where
    go : (z w : Bool) → folder_length s ≤ length s → cond z (suc (folder_length s)) (cond w 1 0) ≤ suc (length s)
    go true w h = omega arith
    go false true h = omega arith
    go false false h = omega arith

-- ---- how much of the day file's path is kept

module _ (day name : List ℕ) (root : Bool) (e : root ≡ starts_with 47 name) where
  pub kept_none : root ≡ true → 0 ≡ kept_of day name
  kept_none t = sym (ap (λ (z : Bool). cond z 0 (folder_length day)) (sym e ∙ t))

  pub kept_folder : (n : ℕ) → root ≡ false → n ≡ folder_length day → n ≡ kept_of day name
  kept_folder n t f = f ∙ sym (ap (λ (z : Bool). cond z 0 (folder_length day)) (sym e ∙ t))

pub kept_le : (day name : List ℕ) (n : ℕ) → n ≡ kept_of day name → n ≤ length day
kept_le day name n e = go (starts_with 47 name) e (folder_le day)
  where
    go : (z : Bool) → n ≡ cond z 0 (folder_length day) → folder_length day ≤ length day → n ≤ length day
    go true f h = omega arith
    go false f h = omega arith

-- ---- the ways out: n of the day file's path are kept

module _ (day name out : List ℕ) (n : ℕ) (e : n ≡ kept_of day name) where
  long : length (path_of day name) ≡ n + length name
  long =
      length-append (take (kept_of day name) day) name
      ∙ ap (λ (k : ℕ). length (take k day) + length name) (sym e)
      ∙ ap (λ (k : ℕ). k + length name) (length-take-le n day (kept_le day name n e))

  pub folder_too_long : length out < n → (0, out) ≡ placed_beside day name out
  unfolding placed_beside
  folder_too_long h =
      let over : length out < length (path_of day name) = omega (arith, long) in
      rw (lt-ltb (length out) (length (path_of day name)) over)

  pub path_too_long : n ≤ length out → length out - n < length name → (0, out) ≡ placed_beside day name out
  unfolding placed_beside
  path_too_long k h =
      let over : length out < length (path_of day name) = omega (arith, long) in
      rw (lt-ltb (length out) (length (path_of day name)) over)

  pub path_done : n ≤ length out → length name ≤ length out - n → (r : ℕ) (after : List ℕ) → r ≡ length (take n day) + length name
      → after ≡ take n day ++ (name ++ drop (length (take n day) + length name) out) → (r, after) ≡ placed_beside day name out
  unfolding placed_beside
  path_done k h r after f g =
      let same : take n day ++ name ≡ path_of day name = ap (λ (m : ℕ). take m day ++ name) e in
      let fits : length (path_of day name) ≤ length out = omega (arith, long) in
      let whole : r ≡ length (path_of day name) = f ∙ sym (length-append (take n day) name) ∙ ap length same in
      let put : after ≡ path_of day name ++ drop (length (path_of day name)) out =
      g
      ∙ sym (append_assoc (take n day) name (drop (length (take n day) + length name) out))
      ∙ ap (λ (m : ℕ). (take n day ++ name) ++ drop m out) (sym f ∙ whole)
      ∙ ap (λ (p : List ℕ). p ++ drop (length (path_of day name)) out) same in
      rw (le-ltb (length out) (length (path_of day name)) fits, whole, put)
