-- Numbers that are added one by one, each behind a blank. Assumes nothing.
use Prim.Native.Nat.{ℕ, zero, suc, ◌+◌, ◌≤◌, ◌<◌}
use mathlib.Core.Path.{◌≡◌, sym, ap, ◌∙◌}
use mathlib.Core.List.{List, [], ◌∷◌, ◌++◌, append-nil, append_assoc}
use native.Mathlib.Numerals.{add-one}
use native.Mathlib.Omega.{arith}
use lib.ListN.{length, take, get_or}
use lib.Seq.{take_all}
use Rattle.page.specs.Page.{Added}
use Rattle.page.proofs.Adding.{put_none, length_put, both, renamed}
use Rattle.page.specs.Numbers.{decimal}
use Rattle.line_parts.specs.Parts.{labelled, spaced}

spaced_next : (list : List ℕ) (k : ℕ) → k < length list → spaced (take k list) ++ labelled " " (get_or list k 0) ≡ spaced (take (suc k) list)
unfolding spaced
spaced_next [] k h = absurd (omega arith)
spaced_next (n ∷ list) zero h = sym (append-nil (labelled " " n))
spaced_next (n ∷ list) (suc k) h =
    append_assoc (labelled " " n) (spaced (take k list)) (labelled " " (get_or list k 0)) ∙ ap (λ (l : List ℕ). labelled " " n ++ l) (spaced_next list k (omega arith))

-- the first k numbers stand on the page
abbrev pub Listed : List ℕ → ℕ → List ℕ → List ℕ → ℕ → ℕ → Type 0
Listed first used list page at k = (k ≤ length list) × Added first used (spaced (take k list)) page at

-- what is added leaves a page's length
pub same_long : {first after bytes : List ℕ} {used end : ℕ} → Added first used bytes after end → length after ≡ length first
same_long {first} {after} {bytes} {used} a = ap length a.stands ∙ length_put first used bytes

-- none yet, where the text ends on the page: behind what was added before
pub none_yet : {first page bytes : List ℕ} {used at : ℕ} (list : List ℕ) → Added first used bytes page at → Listed page at list page at 0
unfolding spaced
none_yet {first} {page} {bytes} {used} {at} list a =
    let same : length page ≡ length first = same_long a in
    (omega arith, record { ends = omega (arith, a.ends); stands = sym (put_none page at) })

pub one_more : {first page after : List ℕ} {used at end : ℕ} (list : List ℕ) (k : ℕ) → Listed first used list page at k → k < length list
    → Added page at (32 ∷ decimal (get_or list k 0)) after end → Listed first used list after end (k + 1)
one_more list k l h a =
    (omega arith, renamed (spaced_next list k h ∙ ap (λ (n : ℕ). spaced (take n list)) (sym (add-one k))) (both l.1 a))

-- all of them, behind what was added before
pub all_listed : {first page after bytes : List ℕ} {used at end : ℕ} (list : List ℕ) (k : ℕ) → Added first used bytes page at → Listed page at list after end k → length list ≤ k
    → Added first used (bytes ++ spaced list) after end
all_listed list k a l h = both a (renamed (ap spaced (take_all k list h)) l.1)
