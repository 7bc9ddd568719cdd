-- Laws of lines and fields: what a reader that goes from the front finds. Assumes nothing.
use mathlib.Core.Path.{◌≡◌, refl, sym, ap, ◌∙◌}
use mathlib.Core.Logic.{⊎_elim}
use mathlib.Core.Bool.{Bool, true, false, ◌&&◌, cond}
use mathlib.Core.List.{List, [], ◌∷◌}
use Prim.Native.Nat.{ℕ, zero, suc, ◌+◌, ◌-◌, ◌≤◌, ◌<◌, zero-le, suc-le-suc}
use native.Mathlib.Nat.{not-suc-le-zero, le_of_suc-le-suc}
use native.Mathlib.Omega.{arith}
use borrow.Author.Tests.{eq-eqb, ne_eqb, eqb-true}
use lib.Dec.{eqb}
use lib.ListN.{length, get_or, take, drop, length-drop, drop_of_length-le}
use Rattle.laws.proofs.Lists.{next}
use Rattle.blocks.specs.Blocks.{find, tally, is_byte}
use Rattle.text.specs.Lines.{starts_with, onto, lines, first_line, after_line}
use Rattle.text.specs.Fields.{fields, same_text}
use Rattle.blocks.proofs.Finding.{test}

-- ---- the fields of a line, from its front

pub fields_last : (s : List ℕ) → length s ≤ find 44 s → fields s ≡ s ∷ []
fields_last [] h = refl
fields_last (b ∷ s) h = go (eqb b 44) h (fields_last s)
  where
    go : (z : Bool) → suc (length s) ≤ cond z 0 (suc (find 44 s)) → (length s ≤ find 44 s → fields s ≡ s ∷ []) → cond z ([] ∷ fields s) (onto b (fields s)) ≡ (b ∷ s) ∷ []
    go true k ih = absurd (not-suc-le-zero k)
    go false k ih = ap (onto b) (ih (le_of_suc-le-suc k))

pub fields_more : (s : List ℕ) → find 44 s < length s → fields s ≡ take (find 44 s) s ∷ fields (drop (suc (find 44 s)) s)
fields_more [] h = absurd (not-suc-le-zero h)
fields_more (b ∷ s) h = go (eqb b 44) h (fields_more s)
  where
    go : (z : Bool) → cond z 0 (suc (find 44 s)) < suc (length s) → (find 44 s < length s → fields s ≡ take (find 44 s) s ∷ fields (drop (suc (find 44 s)) s))
        → cond z ([] ∷ fields s) (onto b (fields s)) ≡ take (cond z 0 (suc (find 44 s))) (b ∷ s) ∷ fields (drop (suc (cond z 0 (suc (find 44 s)))) (b ∷ s))
    go true k ih = refl
    go false k ih = ap (onto b) (ih (le_of_suc-le-suc k))

onto_some : (b : ℕ) (ps : List (List ℕ)) → 0 < length (onto b ps)
onto_some b [] = suc-le-suc zero-le
onto_some b (p ∷ ps) = suc-le-suc zero-le

onto_length : (b : ℕ) (ps : List (List ℕ)) → 0 < length ps → length (onto b ps) ≡ length ps
onto_length b [] h = absurd (not-suc-le-zero h)
onto_length b (p ∷ ps) h = refl

pub fields_some : (s : List ℕ) → 0 < length (fields s)
fields_some [] = suc-le-suc zero-le
fields_some (b ∷ s) = go (eqb b 44)
  where
    go : (z : Bool) → 0 < length (cond z ([] ∷ fields s) (onto b (fields s)))
    go true = suc-le-suc zero-le
    go false = onto_some b (fields s)

-- ---- a line has one field more than commas

pub fields_counted : (s : List ℕ) → length (fields s) ≡ tally (is_byte 44) s + 1
fields_counted [] = refl
fields_counted (b ∷ s) = go (eqb b 44) (fields_counted s)
  where
    some : length (fields s) ≡ tally (is_byte 44) s + 1 → 0 < length (fields s)
    some e = omega arith

    go : (z : Bool) → length (fields s) ≡ tally (is_byte 44) s + 1 → length (cond z ([] ∷ fields s) (onto b (fields s))) ≡ cond z (suc (tally (is_byte 44) s)) (tally (is_byte 44) s) + 1
    go true e = omega arith
    go false e = onto_length b (fields s) (some e) ∙ e

-- ---- two texts

pub same_next : (a b : List ℕ) (i : ℕ) → i < length a → i < length b → get_or a i 0 ≡ get_or b i 0 → same_text (drop i a) (drop i b) ≡ same_text (drop (i + 1) a) (drop (i + 1) b)
same_next a b i h k e = rw (next a i 0 h, next b i 0 k, eq-eqb (get_or a i 0) (get_or b i 0) e)

pub same_differ : (a b : List ℕ) (i : ℕ) → i < length a → i < length b → (get_or a i 0 ≡ get_or b i 0 → ⊥) → same_text (drop i a) (drop i b) ≡ false
same_differ a b i h k n = rw (next a i 0 h, next b i 0 k, ne_eqb (get_or a i 0) (get_or b i 0) n)

pub same_lengths : (a b : List ℕ) → (length a ≡ length b → ⊥) → same_text a b ≡ false
same_lengths [] [] n = absurd (n refl)
same_lengths [] (y ∷ t) n = refl
same_lengths (x ∷ s) [] n = refl
same_lengths (x ∷ s) (y ∷ t) n = go (eqb x y) (same_lengths s t (λ e. n (ap suc e)))
  where
    go : (z : Bool) → same_text s t ≡ false → (z && same_text s t) ≡ false
    go true e = e
    go false e = refl

pub same_equal : (s t : List ℕ) → same_text s t ≡ true → s ≡ t
same_equal [] [] e = refl
same_equal [] (y ∷ t) e = let z : ◌≡◌ {A = ℕ} 0 1 = cc in absurd (omega arith)
same_equal (x ∷ s) [] e = let z : ◌≡◌ {A = ℕ} 0 1 = cc in absurd (omega arith)
same_equal (x ∷ s) (y ∷ t) e = go (eqb x y) refl e (same_equal s t)
  where
    go : (z : Bool) → eqb x y ≡ z → (z && same_text s t) ≡ true → (same_text s t ≡ true → s ≡ t) → x ∷ s ≡ y ∷ t
    go true i e ih = λ k. eqb-true x y i k ∷ ih e k
    go false i e ih = let z : ◌≡◌ {A = ℕ} 0 1 = cc in absurd (omega arith)

-- past the end of both
pub same_ends : (a b : List ℕ) (i : ℕ) → length a ≤ i → length b ≤ i → same_text (drop i a) (drop i b) ≡ true
same_ends a b i h k = ap (λ (r : List ℕ). same_text r (drop i b)) (drop_of_length-le a h) ∙ ap (same_text []) (drop_of_length-le b k)

-- ---- the lines of a text, from its front

-- of a text whose first byte is no LF
past_byte : (b x : ℕ) (s : List ℕ) → lines (x ∷ s) ≡ first_line (x ∷ s) ∷ lines (after_line (x ∷ s))
    → cond (eqb x 10 && eqb b 13) (lines (x ∷ s)) (onto b (lines (x ∷ s))) ≡ cond (eqb x 10 && eqb b 13) [] (b ∷ first_line (x ∷ s)) ∷ lines (after_line (x ∷ s))
past_byte b x s ih = ⊎_elim (λ e. feed e) (λ n. other (eqb x 10 && eqb b 13) (rw n)) (test (eqb x 10))
  where
    choice : (z : Bool) → cond z ([] ∷ lines s) (onto b ([] ∷ lines s)) ≡ cond z [] (b ∷ []) ∷ lines s
    choice true = refl
    choice false = refl

    feed : eqb x 10 ≡ true → cond (eqb x 10 && eqb b 13) (lines (x ∷ s)) (onto b (lines (x ∷ s))) ≡ cond (eqb x 10 && eqb b 13) [] (b ∷ first_line (x ∷ s)) ∷ lines (after_line (x ∷ s))
    feed e = rw e (choice (eqb b 13))

    other : (z : Bool) → z ≡ false → cond z (lines (x ∷ s)) (onto b (lines (x ∷ s))) ≡ cond z [] (b ∷ first_line (x ∷ s)) ∷ lines (after_line (x ∷ s))
    other true e = let z : ◌≡◌ {A = ℕ} 0 1 = cc in absurd (omega arith)
    other false e = ap (onto b) ih

lines_start : (b : ℕ) (s : List ℕ) → lines (b ∷ s) ≡ first_line (b ∷ s) ∷ lines (after_line (b ∷ s))
lines_start b [] = ⊎_elim (λ e. rw e) (λ n. rw n) (test (eqb b 10))
lines_start b (x ∷ s) = ⊎_elim (λ e. rw e) (λ n. rw n (past_byte b x s (lines_start x s))) (test (eqb b 10))

pub lines_first : (s : List ℕ) → 0 < length s → lines s ≡ first_line s ∷ lines (after_line s)
lines_first [] h = absurd (not-suc-le-zero h)
lines_first (b ∷ s) h = lines_start b s

pub first_take : (s : List ℕ) → take (length (first_line s)) s ≡ first_line s
first_take [] = refl
first_take (b ∷ s) = go (eqb b 10) (starts_with 10 s && eqb b 13) (first_take s)
  where
    go : (z w : Bool) → take (length (first_line s)) s ≡ first_line s → take (length (cond z [] (cond w [] (b ∷ first_line s)))) (b ∷ s) ≡ cond z [] (cond w [] (b ∷ first_line s))
    go true w ih = refl
    go false true ih = refl
    go false false ih = ap {B = List ℕ} (λ r. b ∷ r) ih

pub after_find : (s : List ℕ) → after_line s ≡ drop (suc (find 10 s)) s
after_find [] = refl
after_find (b ∷ s) = go (eqb b 10) (after_find s)
  where
    go : (z : Bool) → after_line s ≡ drop (suc (find 10 s)) s → cond z s (after_line s) ≡ drop (suc (cond z 0 (suc (find 10 s)))) (b ∷ s)
    go true ih = refl
    go false ih = ih

pub after_length : (s : List ℕ) → length (after_line s) ≡ length s - suc (find 10 s)
after_length s = ap length (after_find s) ∙ length-drop (suc (find 10 s)) s

pub after_drop : (s : List ℕ) → drop (length s - length (after_line s)) s ≡ after_line s
after_drop [] = refl
after_drop (b ∷ s) = go (eqb b 10) (after_length s) (after_drop s)
  where
    go : (z : Bool) → length (after_line s) ≡ length s - suc (find 10 s) → drop (length s - length (after_line s)) s ≡ after_line s
        → drop (suc (length s) - length (cond z s (after_line s))) (b ∷ s) ≡ cond z s (after_line s)
    go true l ih = let one : suc (length s) - length s ≡ 1 = omega arith in ap (λ (n : ℕ). drop n (b ∷ s)) one
    go false l ih =
        let more : suc (length s) - length (after_line s) ≡ suc (length s - length (after_line s)) = omega arith in
        ap (λ (n : ℕ). drop n (b ∷ s)) more ∙ ih

-- ---- how long the first line is

feed_first : (x : ℕ) (s : List ℕ) → find 10 (x ∷ s) ≡ 0 → eqb x 10 ≡ true
feed_first x s = go (eqb x 10)
  where
    go : (z : Bool) → cond z 0 (suc (find 10 s)) ≡ 0 → z ≡ true
    go true e = refl
    go false e = absurd (omega arith)

feed_later : (x : ℕ) (s : List ℕ) → 0 < find 10 (x ∷ s) → (eqb x 10 ≡ false) × (find 10 (x ∷ s) ≡ suc (find 10 s))
feed_later x s = go (eqb x 10)
  where
    go : (z : Bool) → 0 < cond z 0 (suc (find 10 s)) → (z ≡ false) × (cond z 0 (suc (find 10 s)) ≡ suc (find 10 s))
    go true h = absurd (not-suc-le-zero h)
    go false h = (refl, refl)

pub line_empty : (s : List ℕ) → find 10 s ≡ 0 → length (first_line s) ≡ 0
line_empty [] e = refl
line_empty (b ∷ s) e = rw (feed_first b s e)

no_feed : (s : List ℕ) → length s ≤ find 10 s → starts_with 10 s ≡ false
no_feed [] h = refl
no_feed (x ∷ s) h = (feed_later x s (omega arith)).0

pub line_last : (s : List ℕ) → length s ≤ find 10 s → length (first_line s) ≡ length s
line_last [] h = refl
line_last (b ∷ s) h =
    let l = feed_later b s (omega arith) in
    let k : length s ≤ find 10 s = omega arith in
    rw (l.0, no_feed s k) (ap suc (line_last s k))

-- the LF at m + 1 ends the line: one byte earlier where a CR stands before it
pub line_ended : (m : ℕ) (s : List ℕ) → find 10 s ≡ suc m → suc m < length s → length (first_line s) ≡ cond (eqb (get_or s m 0) 13) m (suc m)
line_ended m [] e h = absurd (not-suc-le-zero h)
line_ended m (b ∷ []) e h = absurd (omega arith)
line_ended zero (b ∷ x ∷ s) e h =
    let l = feed_later b (x ∷ s) (omega arith) in
    let z : find 10 (x ∷ s) ≡ 0 = omega arith in
    rw (l.0, feed_first x s z) (go (eqb b 13))
  where
    go : (z : Bool) → length (cond z [] (b ∷ [])) ≡ cond z 0 1
    go true = refl
    go false = refl
line_ended (suc m) (b ∷ x ∷ s) e h =
    let l = feed_later b (x ∷ s) (omega arith) in
    let z : find 10 (x ∷ s) ≡ suc m = omega arith in
    let k = feed_later x s (omega arith) in
    rw l.0 (go (eqb (get_or (x ∷ s) m 0) 13) (eqb x 10 && eqb b 13) (rw k.0) (line_ended m (x ∷ s) z (le_of_suc-le-suc h)))
  where
    go : (z w : Bool) → w ≡ false → length (first_line (x ∷ s)) ≡ cond z m (suc m) → length (cond w [] (b ∷ first_line (x ∷ s))) ≡ cond z (suc m) (suc (suc m))
    go z true f e = let z : ◌≡◌ {A = ℕ} 0 1 = cc in absurd (omega arith)
    go true false f e = ap suc e
    go false false f e = ap suc e

-- the same for an LF at n: z says whether the byte before it is a CR
pub line_fed : (s : List ℕ) (n : ℕ) → n ≡ find 10 s → 0 < n → n < length s → (z : Bool) → eqb (get_or s (n - 1) 0) 13 ≡ z → cond z (n - 1) n ≡ length (first_line s)
line_fed s n e p h z t =
    let f : find 10 s ≡ suc (n - 1) = omega arith in
    let k : suc (n - 1) ≡ n = omega arith in
    ap (λ (m : ℕ). cond z (n - 1) m) (sym k) ∙ ap (λ (y : Bool). cond y (n - 1) (suc (n - 1))) (sym t) ∙ sym (line_ended (n - 1) s f (omega arith))

-- ---- what a text starts with

pub starts_first : (x : ℕ) (s : List ℕ) → 0 < length s → eqb (get_or s 0 0) x ≡ starts_with x s
starts_first x [] h = absurd (not-suc-le-zero h)
starts_first x (b ∷ s) h = refl

pub starts_none : (x : ℕ) (s : List ℕ) → length s ≤ 0 → false ≡ starts_with x s
starts_none x [] h = refl
starts_none x (b ∷ s) h = absurd (not-suc-le-zero h)
