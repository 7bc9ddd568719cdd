-- A loop that writes `scan` into an array of k slots, one slot a turn: what the loop keeps (`Filled`), its start, a turn and its end.
-- It holds for any element types and any `scan`. Assumes nothing.
use mathlib.Core.Path.{◌≡◌, refl, sym, ◌∙◌, ap}
use mathlib.Core.List.{List, [], ◌∷◌, ◌++◌, append_assoc, append-nil}
use Prim.Native.Nat.{ℕ, suc, ◌+◌, ◌-◌, ◌≤◌, ◌<◌}
use native.Mathlib.Numerals.{add-one}
use native.Mathlib.Omega.{arith}
use lib.ListN.{length, take, drop, replicate, set, get_or, length-set, drop_of_length-le, take-append-drop}
use lib.Seq.{take-suc-set, drop-cons, drop-set-lt, drop-drop}
use Rattle.chains.specs.Scan.{scan}

-- a store at d, the first blank slot, leaves the slots past it blank
pub blanks_past : {B : Type 0} (blank : B) (k : ℕ) (buf : List B) (d : ℕ) (v : B) → d < k → drop d buf ≡ replicate (k - d) blank
    → drop (suc d) (set buf d v) ≡ replicate (k - suc d) blank
blanks_past blank k buf d v h e =
    let m : k - d ≡ suc (k - suc d) = omega arith in
    drop-set-lt (suc d) buf d v (omega arith) ∙ sym (rw (add-one d) at (drop-drop 1 d buf)) ∙ ap (drop 1) (rw m at e)

module _ {S A B : Type 0} (next : S → A → S) (out : S → A → B) (none : A) (blank : B) (k : ℕ) where
  -- what is written, followed by what is left to come, is W; the slots past d are blank
  pub record Filled (xs : List A) (W buf : List B) (s : S) (d : ℕ) : Type 0 where
    pub low : d ≤ length xs
    pub long : length buf ≡ k
    pub blanks : drop d buf ≡ replicate (k - d) blank
    pub done : take d buf ++ scan next out s (drop d xs) ≡ W

  step : (xs : List A) (W buf : List B) (s : S) (d : ℕ) (v : B) (t : S) → d < length xs → d < length buf → v ≡ out s (get_or xs d none) → t ≡ next s (get_or xs d none)
      → take d buf ++ scan next out s (drop d xs) ≡ W → take (suc d) (set buf d v) ++ scan next out t (drop (suc d) xs) ≡ W
  unfolding scan
  step xs W buf s d v t h l p q e = rw (take-suc-set buf d v, append_assoc, p, q) (rw (drop-cons xs d none) at e)

  -- a turn, as the code has it
  pub fill_turn : {xs : List A} {W buf : List B} {s : S} {d : ℕ} {v : B} {t : S} → length xs ≤ k → d < length xs → v ≡ out s (get_or xs d none) → t ≡ next s (get_or xs d none)
      → Filled xs W buf s d → Filled xs W (set buf d v) t (d + 1)
  fill_turn {xs} {W} {buf} {s} {d} {v} {t} fit h p q inv =
      record {
        low = omega arith;
        long = length-set buf d v ∙ inv.long;
        blanks = rw (add-one d) (blanks_past blank k buf d v (omega arith) inv.blanks);
        done = rw (add-one d) (step xs W buf s d v t h (omega (arith, inv.long)) p q inv.done);
      }

  pub fill_ended : {xs : List A} {W buf : List B} {s : S} {d : ℕ} → length xs ≤ d → Filled xs W buf s d → buf ≡ W ++ replicate (k - length xs) blank
  unfolding scan
  fill_ended {xs} {W} {buf} {s} {d} h inv =
      let all : d ≡ length xs = omega (arith, inv.low) in
      let front : take d buf ≡ W = simp append-nil at (rw (drop_of_length-le xs h) at inv.done) in
      let rest : drop d buf ≡ replicate (k - length xs) blank = inv.blanks ∙ ap (λ (i : ℕ). replicate (k - i) blank) all in
      sym (take-append-drop d buf) ∙ rw (front, rest)

-- as many entries come out as go in
pub length_scan : {S A B : Type 0} (next : S → A → S) (out : S → A → B) (s : S) (xs : List A) → length (scan next out s xs) ≡ length xs
unfolding scan
length_scan next out s [] = refl
length_scan next out s (x ∷ xs) = ap suc (length_scan next out (next s x) xs)
