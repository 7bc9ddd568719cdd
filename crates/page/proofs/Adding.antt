-- How bytes come to stand on a page one by one, and one text behind another. Assumes nothing.
use Prim.Native.Nat.{ℕ, zero, suc, ◌+◌, ◌-◌, ◌≤◌, ◌<◌, min}
use mathlib.Core.Path.{◌≡◌, refl, sym, ap, subst, ◌∙◌}
use mathlib.Core.List.{List, [], ◌∷◌, ◌++◌}
use native.Mathlib.Omega.{arith}
use lib.ListN.{length, take, drop, length-append}
use Rattle.page.specs.Page.{put, Added}

-- no bytes change nothing
pub put_none : (page : List ℕ) (at : ℕ) → put page at [] ≡ page
unfolding put
put_none [] at = refl
put_none (b ∷ page) zero = refl
put_none (b ∷ page) (suc at) = ap (λ (l : List ℕ). b ∷ l) (put_none page at)

-- past its end a page has no room
pub put_past : (page : List ℕ) (at : ℕ) (bytes : List ℕ) → length page ≤ at → put page at bytes ≡ page
unfolding put
put_past [] at bytes h = refl
put_past (b ∷ page) zero bytes h = absurd (omega arith)
put_past (b ∷ page) (suc at) bytes h = ap (λ (l : List ℕ). b ∷ l) (put_past page at bytes (omega arith))

pub length_put : (page : List ℕ) (at : ℕ) (bytes : List ℕ) → length (put page at bytes) ≡ length page
unfolding put
length_put [] at bytes = refl
length_put (b ∷ page) zero [] = refl
length_put (b ∷ page) zero (x ∷ bytes) = ap suc (length_put page zero bytes)
length_put (b ∷ page) (suc at) bytes = ap suc (length_put page at bytes)

-- what is added behind a page's end
pub nothing_fits : (page : List ℕ) (used : ℕ) (bytes : List ℕ) → length page < used → Added page used bytes page (length page)
nothing_fits page used bytes h = record { ends = omega arith; stands = sym (put_past page used bytes (omega arith)) }

-- so many of the bytes as have room stand there, and behind them what stood there before
put_front : (page bytes : List ℕ) (n : ℕ) → n ≡ min (length bytes) (length page) → take n bytes ++ drop n page ≡ put page 0 bytes
unfolding put
put_front [] bytes zero e = refl
put_front [] bytes (suc n) e = absurd (omega (arith, e))
put_front (b ∷ page) [] zero e = refl
put_front (b ∷ page) [] (suc n) e = absurd (omega (arith, e))
put_front (b ∷ page) (x ∷ bytes) zero e = absurd (omega (arith, e))
put_front (b ∷ page) (x ∷ bytes) (suc n) e = ap (λ (l : List ℕ). x ∷ l) (put_front page bytes n (omega (arith, e)))

put_piece : (page : List ℕ) (at : ℕ) (bytes : List ℕ) (n : ℕ) → at ≤ length page → n ≡ min (length bytes) (length page - at)
    → take at page ++ (take n bytes ++ drop n (drop at page)) ≡ put page at bytes
unfolding put
put_piece page zero bytes n h e = put_front page bytes n (omega (arith, e))
put_piece [] (suc at) bytes n h e = absurd (omega arith)
put_piece (b ∷ page) (suc at) bytes n h e = ap (λ (l : List ℕ). b ∷ l) (put_piece page at bytes n (omega arith) (omega (arith, e)))

pub front_fits : (page : List ℕ) (used : ℕ) (bytes front : List ℕ) (n : ℕ) → used ≤ length page → n ≡ min (length bytes) (length page - used) → front ≡ take n bytes
    → Added page used bytes (take used page ++ (front ++ drop ((used + n) - used) (drop used page))) (used + n)
front_fits page used bytes front n h e f =
    let many : (used + n) - used ≡ n = omega arith in
    record {
      ends = omega (arith, e);
      stands = rw (many, f) (put_piece page used bytes n h e);
    }

-- where a text ends that was put: one step for each byte that had room
ends : List ℕ → ℕ → List ℕ → ℕ
ends [] at bytes = zero
ends (b ∷ page) (suc at) bytes = suc (ends page at bytes)
ends (b ∷ page) zero [] = zero
ends (b ∷ page) zero (x ∷ bytes) = suc (ends page zero bytes)

ends_is : (page : List ℕ) (at : ℕ) (bytes : List ℕ) → ends page at bytes ≡ min (at + length bytes) (length page)
unfolding ends
ends_is [] at bytes = omega arith
ends_is (b ∷ page) zero [] = omega arith
ends_is (b ∷ page) zero (x ∷ bytes) = omega (arith, ends_is page zero bytes)
ends_is (b ∷ page) (suc at) bytes = omega (arith, ends_is page at bytes)

put_ends : (page : List ℕ) (at : ℕ) (x y : List ℕ) → put (put page at x) (ends page at x) y ≡ put page at (x ++ y)
unfolding put ends
put_ends [] at x y = refl
put_ends (b ∷ page) zero [] y = refl
put_ends (b ∷ page) zero (c ∷ x) y = ap (λ (l : List ℕ). c ∷ l) (put_ends page zero x y)
put_ends (b ∷ page) (suc at) x y = ap (λ (l : List ℕ). b ∷ l) (put_ends page at x y)

-- one text behind another
pub both : {page middle after x y : List ℕ} {used half full : ℕ} → Added page used x middle half → Added middle half y after full → Added page used (x ++ y) after full
both {page} {middle} {after} {x} {y} {used} {half} {full} p q =
    let same : length middle ≡ length page = ap length p.stands ∙ length_put page used x in
    let all : length (x ++ y) ≡ length x + length y = length-append x y in
    let there : half ≡ ends page used x = p.ends ∙ sym (ends_is page used x) in
    record {
      ends = omega (arith, p.ends, q.ends);
      stands = q.stands ∙ ap (λ (l : List ℕ). put l half y) p.stands ∙ ap (λ (n : ℕ). put (put page used x) n y) there ∙ put_ends page used x y;
    }

-- the same bytes under another name
pub renamed : {page after bytes named : List ℕ} {used full : ℕ} → bytes ≡ named → Added page used bytes after full → Added page used named after full
renamed {page} {after} {bytes} {named} {used} {full} e a = subst (λ (b : List ℕ). Added page used b after full) e a

whole : (page : List ℕ) (used : ℕ) (bytes : List ℕ) → used + length bytes ≤ length page → take (ends page used bytes) (put page used bytes) ≡ take used page ++ bytes
unfolding put ends
whole [] zero [] h = refl
whole [] zero (x ∷ bytes) h = absurd (omega arith)
whole [] (suc used) bytes h = absurd (omega arith)
whole (b ∷ page) zero [] h = refl
whole (b ∷ page) zero (x ∷ bytes) h = ap (λ (l : List ℕ). x ∷ l) (whole page zero bytes (omega arith))
whole (b ∷ page) (suc used) bytes h = ap (λ (l : List ℕ). b ∷ l) (whole page used bytes (omega arith))

-- where the page has room for them, the text is the old text and then the bytes
pub text_after : {page after bytes : List ℕ} {used full : ℕ} → used + length bytes ≤ length page → Added page used bytes after full → take full after ≡ take used page ++ bytes
text_after {page} {after} {bytes} {used} {full} h a =
    let there : full ≡ ends page used bytes = a.ends ∙ sym (ends_is page used bytes) in
    ap (λ (l : List ℕ). take full l) a.stands ∙ ap (λ (n : ℕ). take n (put page used bytes)) there ∙ whole page used bytes h
