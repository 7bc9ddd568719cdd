-- What a reader finds at a place, and that the lines it meets from the start are the lines of the text, and the fields those of the line. Assumes nothing.
use mathlib.Core.Path.{◌≡◌, refl, sym, ap, ◌∙◌, subst}
use mathlib.Core.Bool.{Bool, true, false, ◌&&◌, cond}
use mathlib.Core.List.{List, [], ◌∷◌}
use Prim.Native.Nat.{ℕ, zero, suc, ◌+◌, ◌-◌, ◌≤◌, ◌<◌}
use native.Mathlib.Omega.{arith}
use borrow.Author.Tests.{ltb-true, ltb-false, lt-ltb, le-ltb, le-leb, lt-leb}
use lib.Dec.{ltb, leb}
use lib.ListN.{length, take, drop, length-drop, drop_of_length-le}
use lib.Seq.{length-take-le, take_all, take-nil, take-take, drop-drop}
use Rattle.laws.proofs.Lists.{part}
use Rattle.reader.specs.declared.Span.{Span}
use Rattle.blocks.specs.Blocks.{find}
use Rattle.text.specs.Lines.{lines, first_line, after_line}
use Rattle.text.specs.Fields.{fields}
use Rattle.std.specs.Prelude.{Option, Some, None, is_some}
use Rattle.reader.specs.Reading.{between, span, held, met, line_at, field_to, field_at, lines_from, fields_from}
use Rattle.blocks.proofs.Finding.{find_le}
use Rattle.text.proofs.Laws.{lines_first, first_take, after_length, after_drop, fields_last, fields_more}
use Rattle.text.proofs.Walk.{line_stop}

-- ---- the line at a place

pub no_line_at : (text : List ℕ) (at : ℕ) → length text ≤ at → None ≡ line_at text at
unfolding line_at
no_line_at text at h = simp (le-ltb at (length text) h)

-- the line behind it starts where the text behind it does
past_line : (text : List ℕ) (at : ℕ) → at < length text → let s = drop at text in at + (length s - length (after_line s)) ≡ length text - length (after_line s)
past_line text at h = omega (arith, length-drop at text, after_length (drop at text))

-- by what the first line of the rest is: it has stop bytes, and the next one starts next bytes on
pub line_found : (text : List ℕ) (at stop next : ℕ) → at < length text → let s = take (length text - at) (drop at text) in
    stop ≡ length (first_line s) → next ≡ length s - length (after_line s) → Some (span at (at + stop) (at + next)) ≡ line_at text at
unfolding line_at
line_found text at stop next h e f =
    let whole = part at text in
    let stops : stop ≡ length (first_line (drop at text)) = e ∙ ap (λ (r : List ℕ). length (first_line r)) whole in
    let goes_on : at + next ≡ length text - length (after_line (drop at text)) =
    ap (λ (n : ℕ). at + n) (f ∙ ap (λ (r : List ℕ). length r - length (after_line r)) whole) ∙ past_line text at h in
    simp (lt-ltb at (length text) h) (λ i. Some (span at (at + stops i) (goes_on i)))

-- ---- the field at a place

pub no_field_past : (text : List ℕ) (at stop : ℕ) → stop < at → None ≡ field_at text at stop
unfolding field_at
no_field_past text at stop h = simp (lt-leb at stop h)

pub no_field_outside : (text : List ℕ) (at stop : ℕ) → length text < stop → None ≡ field_at text at stop
unfolding field_at
no_field_outside text at stop h = go (leb at stop) (leb stop (length text)) (lt-leb stop (length text) h)
  where
    go : (z w : Bool) → w ≡ false → None ≡ cond (z && w) (Some (field_to at (find 44 (between at stop text)))) None
    go true w e = sym (ap (λ (y : Bool). cond y (Some (field_to at (find 44 (between at stop text)))) None) e)
    go false w e = refl

pub field_found : (text : List ℕ) (at stop n : ℕ) → at ≤ stop → stop ≤ length text → n ≡ find 44 (between at stop text) → Some (field_to at n) ≡ field_at text at stop
unfolding field_at
field_found text at stop n h k e = simp (le-leb at stop h, le-leb stop (length text) k) (ap (λ (k : ℕ). Some (field_to at k)) e)

between_length : (text : List ℕ) (at stop : ℕ) → stop ≤ length text → length (between at stop text) ≡ stop - at
between_length text at stop h = length-take-le (stop - at) (drop at text) (omega (arith, length-drop at text))

-- the comma stands no later than the line's end
pub field_stops : (text : List ℕ) (at stop n : ℕ) → at ≤ stop → stop ≤ length text → n ≡ find 44 (between at stop text) → at + n ≤ stop
field_stops text at stop n h k e = omega (arith, find_le 44 (between at stop text), between_length text at stop k)

-- ---- what stands at a place is the first of the lines from there on, and the others start at next

module _ (text : List ℕ) (at : ℕ) where
  abbrev left : List ℕ
  left = drop at text

  abbrev here : Span
  here = span at (at + length (first_line left)) (length text - length (after_line left))

  none_left : length text ≤ at → lines left ≡ []
  none_left h = ap lines (drop_of_length-le text h)

  some_left : at < length text → lines left ≡ first_line left ∷ lines (after_line left)
  some_left h = lines_first left (omega (arith, length-drop at text))

  here_held : held text here ≡ first_line left
  here_held = let back : at + length (first_line left) - at ≡ length (first_line left) = omega arith in ap (λ (n : ℕ). take n left) back ∙ first_take left

  here_next : at < length text → drop here.next text ≡ after_line left
  here_next h = ap (λ (n : ℕ). drop n text) (sym (past_line text at h)) ∙ sym (drop-drop (length left - length (after_line left)) at text) ∙ after_drop left

  pub line_there : is_some (line_at text at) ≡ ltb 0 (length (lines left))
  unfolding line_at
  line_there = go (ltb at (length text)) refl
    where
      go : (t : Bool) → ltb at (length text) ≡ t → is_some (cond t (Some here) None) ≡ ltb 0 (length (lines left))
      go true e = sym (ap (λ (ls : List (List ℕ)). ltb 0 (length ls)) (some_left (ltb-true _ _ e)) ∙ lt-ltb 0 (suc (length (lines (after_line left)))) (omega arith))
      go false e = sym (ap (λ (ls : List (List ℕ)). ltb 0 (length ls)) (none_left (ltb-false _ _ e)))

  -- a line that is there is the first of those from the place on, the others start at the next place, and it ends inside the text
  pub line_held : (s : Span) → line_at text at ≡ Some s → lines left ≡ held text s ∷ lines (drop s.next text)
  unfolding line_at
  line_held s = go (ltb at (length text)) refl
    where
      go : (t : Bool) → ltb at (length text) ≡ t → ◌≡◌ {A = Option Span} (cond t (Some here) None) (Some s) → lines left ≡ held text s ∷ lines (drop s.next text)
      go true e f =
          let there = ltb-true at (length text) e in
          let same : here ≡ s = cc in
          subst (λ (x : Span). lines left ≡ held text x ∷ lines (drop x.next text)) same
          (some_left there ∙ (λ i. sym here_held i ∷ lines (sym (here_next there) i)))
      go false e f = let z : ◌≡◌ {A = ℕ} 0 1 = cc in absurd (omega arith)

  pub line_inside : (s : Span) → line_at text at ≡ Some s → (at ≤ s.stop) × ((s.stop ≤ length text) × (at < s.next))
  unfolding line_at
  line_inside s = go (ltb at (length text)) refl
    where
      go : (t : Bool) → ltb at (length text) ≡ t → ◌≡◌ {A = Option Span} (cond t (Some here) None) (Some s) → (at ≤ s.stop) × ((s.stop ≤ length text) × (at < s.next))
      go true e f =
          let there = ltb-true at (length text) e in
          let stops : length (first_line left) ≤ length left = line_stop left (length (first_line left)) (length left - length (after_line left)) refl refl in
          let same : here ≡ s = cc in
          subst (λ (x : Span). (at ≤ x.stop) × ((x.stop ≤ length text) × (at < x.next))) same
          (omega arith, (omega (arith, length-drop at text), omega (arith, length-drop at text, after_length left)))
      go false e f = let z : ◌≡◌ {A = ℕ} 0 1 = cc in absurd (omega arith)

-- ---- the lines that a reader meets are the lines of the text

-- one line more
line_met : (n : ℕ) (text : List ℕ) (at : ℕ) → ((next : ℕ) → length text ≤ next + n → lines_from n text next ≡ lines (drop next text)) → length text ≤ at + suc n
    → (t : Bool) → ltb at (length text) ≡ t
    → met text (λ (next : ℕ). lines_from n text next) (cond t (Some (here text at)) None) ≡ lines (drop at text)
line_met n text at rest h false e = sym (none_left text at (ltb-false _ _ e))
line_met n text at rest h true e =
    let there = ltb-true at (length text) e in
    let enough : length text ≤ (here text at).next + n = omega (arith, length-drop at text, after_length (drop at text)) in
    (λ i. here_held text at i ∷ (rest (here text at).next enough ∙ ap lines (here_next text at there)) i) ∙ sym (some_left text at there)

-- from a place on, where n reaches the text's end
pub lines_from_lem : (n : ℕ) (text : List ℕ) (at : ℕ) → length text ≤ at + n → lines_from n text at ≡ lines (drop at text)
unfolding lines_from
lines_from_lem zero text at h = let end : length text ≤ at = omega arith in sym (none_left text at end)
lines_from_lem (suc n) text at h = line_met n text at (lines_from_lem n text) h (ltb at (length text)) refl

pub lines_read : (text : List ℕ) → lines_from (length text) text 0 ≡ lines text
lines_read text = lines_from_lem (length text) text 0 (omega arith)

-- ---- the fields that a reader meets in a line are the fields of the line

drop_take : (m n : ℕ) (s : List ℕ) → drop m (take n s) ≡ take (n - m) (drop m s)
drop_take zero n s = let all : n ≡ n - 0 = omega arith in ap (λ (k : ℕ). take k s) all
drop_take (suc m) zero s = let none : 0 ≡ 0 - suc m = omega arith in ap (λ (k : ℕ). take k (drop (suc m) s)) none
drop_take (suc m) (suc n) [] = sym (take-nil (suc n - suc m))
drop_take (suc m) (suc n) (b ∷ s) = let less : n - m ≡ suc n - suc m = omega arith in drop_take m n s ∙ ap (λ (k : ℕ). take k (drop m s)) less

-- past the line's end there is none
fields_past : (n : ℕ) (text : List ℕ) (at stop : ℕ) → stop < at → fields_from n text at stop ≡ []
unfolding fields_from
fields_past zero text at stop h = refl
fields_past (suc n) text at stop h = simp (lt-leb at stop h)

module _ (text : List ℕ) (at stop : ℕ) (h : at ≤ stop) (k : stop ≤ length text) where
  abbrev line : List ℕ
  line = between at stop text

  -- the bytes before the comma, and those behind it
  field_held : held text (field_to at (find 44 line)) ≡ take (find 44 line) line
  field_held =
      let back : at + find 44 line - at ≡ find 44 line = omega arith in
      let within : find 44 line ≤ stop - at = omega (arith, find_le 44 line, between_length text at stop k) in
      ap (λ (n : ℕ). take n (drop at text)) back ∙ sym (take-take (find 44 line) (stop - at) (drop at text) within)

  behind : between (at + find 44 line + 1) stop text ≡ drop (suc (find 44 line)) line
  behind =
      let next : at + find 44 line + 1 ≡ at + suc (find 44 line) = omega arith in
      let room : stop - (at + suc (find 44 line)) ≡ stop - at - suc (find 44 line) = omega arith in
      ap (λ (n : ℕ). between n stop text) next
      ∙ ap (λ (n : ℕ). take n (drop (at + suc (find 44 line)) text)) room
      ∙ ap (λ (r : List ℕ). take (stop - at - suc (find 44 line)) r) (sym (drop-drop (suc (find 44 line)) at text))
      ∙ sym (drop_take (suc (find 44 line)) (stop - at) (drop at text))

  -- one field more
  field_met : (n : ℕ) → ((next : ℕ) → next ≤ stop → stop < next + n → fields_from n text next stop ≡ fields (between next stop text)) → stop < at + suc n
      → (t : Bool) → ltb (find 44 line) (length line) ≡ t → held text (field_to at (find 44 line)) ∷ fields_from n text (at + find 44 line + 1) stop ≡ fields line
  field_met n rest m true e =
      let there = ltb-true (find 44 line) (length line) e in
      let follows : fields_from n text (at + find 44 line + 1) stop ≡ fields (drop (suc (find 44 line)) line) =
      rest (at + find 44 line + 1) (omega (arith, between_length text at stop k)) (omega arith) ∙ ap fields behind in
      (λ i. field_held i ∷ follows i) ∙ sym (fields_more line there)
  field_met n rest m false e =
      let last = ltb-false (find 44 line) (length line) e in
      let past : stop < at + find 44 line + 1 = omega (arith, between_length text at stop k) in
      let whole : held text (field_to at (find 44 line)) ≡ line = field_held ∙ take_all (find 44 line) line last in
      (λ i. whole i ∷ fields_past n text (at + find 44 line + 1) stop past i) ∙ sym (fields_last line last)

-- from a place of the line on, where n reaches past its end
pub fields_from_lem : (n : ℕ) (text : List ℕ) (at stop : ℕ) → at ≤ stop → stop ≤ length text → stop < at + n → fields_from n text at stop ≡ fields (between at stop text)
unfolding fields_from
fields_from_lem zero text at stop h k m = absurd (omega arith)
fields_from_lem (suc n) text at stop h k m =
    simp (le-leb at stop h, le-leb stop (length text) k)
    (field_met text at stop h k n (λ next i j. fields_from_lem n text next stop i k j) m (ltb (find 44 (between at stop text)) (length (between at stop text))) refl)

pub fields_read : (line : List ℕ) → fields_from (suc (length line)) line 0 (length line) ≡ fields line
fields_read line =
    fields_from_lem (suc (length line)) line 0 (length line) (omega arith) (omega arith) (omega arith) ∙ ap fields (part 0 line)
