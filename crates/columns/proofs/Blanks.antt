-- Blanks one behind another, and a text that was first written to a buffer of its own. Assumes nothing.
use Prim.Native.Nat.{ℕ, ◌+◌, ◌-◌, ◌≤◌}
use mathlib.Core.Path.{◌≡◌, sym, ap, ◌∙◌}
use mathlib.Core.List.{List, [], ◌∷◌}
use native.Mathlib.Omega.{arith}
use lib.ListN.{length, take, replicate, replicate-append-replicate}
use lib.Seq.{length-take-le}
use Rattle.page.specs.Page.{Added}
use Rattle.page.proofs.Adding.{put_none, length_put, both, renamed, text_after}
use Rattle.columns.specs.Columns.{blanks, padded}

-- a page keeps its length
pub kept_long : {page after bytes : List ℕ} {used full : ℕ} → Added page used bytes after full → length after ≡ length page
kept_long {page} {after} {bytes} {used} {full} a = ap length a.stands ∙ length_put page used bytes

-- and its text ends in it
pub ends_within : {page after bytes : List ℕ} {used full : ℕ} → Added page used bytes after full → full ≤ length after
ends_within {page} {after} {bytes} {used} {full} a =
    let same : length after ≡ length page = kept_long a in omega (arith, a.ends)

-- where a text ends, nothing can be added
pub none_added : {page after bytes : List ℕ} {used full : ℕ} → Added page used bytes after full → Added after full (blanks 0) after full
none_added {page} {after} {bytes} {used} {full} a =
    let within : full ≤ length after = ends_within a in
    record { ends = omega arith; stands = sym (put_none after full) }

-- one blank more
pub blank_more : {page middle after : List ℕ} {used half full : ℕ} (k : ℕ) → Added page used (blanks k) middle half → Added middle half (32 ∷ []) after full → Added page used (blanks (k + 1)) after full
blank_more k p q = renamed (replicate-append-replicate k 1 32) (both p q)

-- all of them
pub blanks_all : {page middle after : List ℕ} {used half full : ℕ} (k n : ℕ) → k ≡ n → Added page used [] middle half → Added middle half (blanks k) after full → Added page used (blanks n) after full
blanks_all k n e p q = renamed (ap blanks e) (both p q)

-- the blanks and then the text
pub padded_both : {page middle after text : List ℕ} {used half full : ℕ} (width n : ℕ) → n ≡ width - length text → Added page used (blanks n) middle half → Added middle half text after full
    → Added page used (padded width text) after full
unfolding padded
padded_both width n e p q = both (renamed (ap blanks e) p) q

-- a text that a buffer of 32 bytes has room for stands at its front
pub in_front : {after bytes : List ℕ} {full : ℕ} → length bytes ≤ 32 → Added (replicate 32 0) 0 bytes after full → take full after ≡ bytes
in_front {after} {bytes} {full} h a = text_after {used = 0} (omega arith) a

pub front_length : {after bytes : List ℕ} {full : ℕ} → Added (replicate 32 0) 0 bytes after full → full ≡ length (take full after)
front_length {after} {bytes} {full} a = sym (length-take-le full after (ends_within a))

-- and is added from there
pub from_front : {page after front bytes : List ℕ} {used full k : ℕ} (width : ℕ) → length bytes ≤ 32 → Added (replicate 32 0) 0 bytes front k
    → Added page used (padded width (take k front)) after full → Added page used (padded width bytes) after full
from_front width h a p = renamed (ap (padded width) (in_front h a)) p
