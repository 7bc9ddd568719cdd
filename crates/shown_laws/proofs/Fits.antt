-- The longest line, that of a plan of 1,024 sequences, fits the room that is made for a line: no part of it is left out. Assumes nothing.
use Prim.Native.Nat.{ℕ, zero, suc, ◌+◌, ◌-◌, ◌*◌, ◌^◌, ◌≤◌, ◌<◌}
use mathlib.Core.Path.{◌≡◌, refl, subst}
use mathlib.Core.Bool.{Bool, true, false, cond}
use mathlib.Core.List.{List, [], ◌∷◌, ◌++◌}
use mathlib.Core.Logic.{⊎_elim}
use native.Mathlib.Nat.{eq-zero-or-pos}
use native.Mathlib.Omega.{arith}
use borrow.Author.Tests.{ltb-false}
use lib.Dec.{ltb}
use lib.ListN.{length, take, get_or, length-append}
use Rattle.page.proofs.Lengths.{length_digits, places_most}
use Rattle.page.specs.Page.{Added, line_room, roomy}
use Rattle.page.specs.Spelt.{spelt}
use Rattle.page.specs.Numbers.{places_from, decimal}
use Rattle.page.proofs.Adding.{text_after}
use Rattle.line_parts.specs.Parts.{labelled, spaced}
use Rattle.shown.specs.Lines.{plan_head, plan_lists}

-- a number below 10 ^ most takes so many digits
places_below : (more k n most : ℕ) → k ≤ most → n < 10 ^ most → places_from more k n ≤ most
unfolding places_from
places_below zero k n most h l = h
places_below (suc more) k n most h l = by_test (ltb n (10 ^ k)) refl (λ (s : suc k ≤ most). places_below more (suc k) n most s l)
  where
    past : 10 ^ k ≤ n → suc k ≤ most
    past high =
        ⊎_elim
        (λ (z : most - k ≡ 0). absurd (let same : most ≡ k = omega arith in let low : n < 10 ^ k = subst (λ (p : ℕ). n < 10 ^ p) same l in omega arith))
        (λ (z : 0 < most - k). omega arith)
        (eq-zero-or-pos (most - k))

    by_test : (t : Bool) → ltb n (10 ^ k) ≡ t → (suc k ≤ most → places_from more (suc k) n ≤ most) → cond t k (places_from more (suc k) n) ≤ most
    by_test true e next = h
    by_test false e next = next (past (ltb-false n (10 ^ k) e))

pub decimal_most : (n : ℕ) → length (decimal n) ≤ 20
unfolding decimal
decimal_most n = omega (arith, length_digits 10 (places_from 19 1 n) n, places_most 19 1 n)

pub decimal_short : (n : ℕ) → n < 2 ^ 32 → length (decimal n) ≤ 10
unfolding decimal
decimal_short n h = omega (arith, length_digits 10 (places_from 19 1 n) n, places_below 19 1 n 10 (omega arith) (omega arith))

labelled_most : (name : List ℕ) (n : ℕ) → length (name ++ decimal n) ≤ length name + 20
labelled_most name n = omega (arith, length-append name (decimal n), decimal_most n)

spaced_most : (list : List ℕ) → ((i : ℕ) → get_or list i 0 < 2 ^ 32) → length (spaced list) ≤ 11 * length list
unfolding spaced
spaced_most [] h = omega arith
spaced_most (n ∷ list) h =
    omega (arith, length-append (labelled " " n) (spaced list), decimal_short n (h 0), spaced_most list (λ (i : ℕ). h (suc i)))

head_most : (line second sequences draws slots : ℕ) → length (plan_head line second sequences draws slots) ≤ 138
unfolding plan_head
head_most line second sequences draws slots =
    let plan : List ℕ = labelled ",plan,second " second in
    let sizes : List ℕ = labelled ",sequences " sequences in
    let drawn : List ℕ = labelled ",draws " draws in
    let weighed : List ℕ = labelled ",slots " slots in
    omega (
      arith,
      decimal_most line,
      labelled_most (spelt ",plan,second ") second,
      labelled_most (spelt ",sequences ") sequences,
      labelled_most (spelt ",draws ") draws,
      labelled_most (spelt ",slots ") slots,
      length-append (decimal line) plan,
      length-append (decimal line ++ plan) (sizes ++ (drawn ++ weighed)),
      length-append sizes (drawn ++ weighed),
      length-append drawn weighed,
    )

lists_most : (drafts commits : List ℕ) → ((i : ℕ) → get_or drafts i 0 < 2 ^ 32) → ((i : ℕ) → get_or commits i 0 < 2 ^ 32) → length (plan_lists drafts commits) ≤ 16 + 11 * length drafts + 11 * length commits
unfolding plan_lists
lists_most drafts commits d c =
    let named : List ℕ = spelt ",drafts" ++ spaced drafts in
    let kept : List ℕ = spelt ",commits" ++ spaced commits in
    omega (
      arith,
      spaced_most drafts d,
      spaced_most commits c,
      length-append (spelt ",drafts") (spaced drafts),
      length-append (spelt ",commits") (spaced commits),
      length-append named (kept ++ spelt "\n"),
      length-append kept (spelt "\n"),
    )

-- the line of a plan of at most 1,024 sequences, whose drafts and commits are numbers of 32 bits
pub plan_fits : (line second sequences draws slots : ℕ) (drafts commits : List ℕ) → length drafts ≤ 1024 → length commits ≤ 1024 → ((i : ℕ) → get_or drafts i 0 < 2 ^ 32)
    → ((i : ℕ) → get_or commits i 0 < 2 ^ 32) → length (plan_head line second sequences draws slots ++ plan_lists drafts commits) ≤ line_room
plan_fits line second sequences draws slots drafts commits e f d c =
    omega (
      arith,
      length-append (plan_head line second sequences draws slots) (plan_lists drafts commits),
      head_most line second sequences draws slots,
      lists_most drafts commits d c,
    )

-- a page that is as long as a line's room has that room once it is made
pub room_made : (long used : ℕ) → line_room ≤ long → roomy long used + line_room ≤ long
room_made long used h = by_test (ltb long (used + line_room)) refl
  where
    by_test : (t : Bool) → ltb long (used + line_room) ≡ t → cond t 0 used + line_room ≤ long
    by_test true e = omega arith
    by_test false e = omega (arith, ltb-false long (used + line_room) e)

-- so a line that fits is added whole behind the text that is kept
pub never_cut : {page after line : List ℕ} {end : ℕ} (used : ℕ) → line_room ≤ length page → length line ≤ line_room → Added page (roomy (length page) used) line after end
    → take end after ≡ take (roomy (length page) used) page ++ line
never_cut {page} used h l a = text_after (omega (arith, room_made (length page) used h)) a
