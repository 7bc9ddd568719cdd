-- A loop that writes what each depth is worth to the front of a buffer, one slot a turn: what the loop keeps, its start, a turn and its end. Assumes nothing.
use mathlib.Core.Path.{◌≡◌, refl, sym, ◌∙◌, ap}
use mathlib.Core.List.{List, ◌++◌, append_assoc, append-nil}
use Prim.Native.Nat.{ℕ, suc, ◌+◌, ◌≤◌, ◌<◌}
use native.Mathlib.Numerals.{add-one}
use native.Mathlib.Omega.{arith}
use lib.ListN.{length, take, drop, set, get_or, length-set, drop_of_length-le, take-append-drop}
use lib.Seq.{take-suc-set, drop-cons, drop-set-lt, drop-drop}
use lib.Ieee.{Float, nan}
use Rattle.chains.specs.Scan.{scan}

-- `f` gives what a depth is worth from its number and its price; `old` is the buffer before
module _ (f : ℕ → Float → Float) (curve old : List Float) where
  abbrev from : ℕ → List Float → List Float
  from g prices = scan (λ d _. suc d) f g prices

  -- the first d are written, and behind them all is as it was
  pub record Written (buf : List Float) (d : ℕ) : Type 0 where
    pub low : d ≤ length curve
    pub long : length buf ≡ length old
    pub done : take d buf ++ from d (drop d curve) ≡ from 0 curve
    pub rest : drop d buf ≡ drop d old

  pub written_none : Written old 0
  written_none = record { low = omega arith; long = refl; done = refl; rest = refl }

  one_more : (buf : List Float) (d : ℕ) (v : Float) → d < length curve → d < length buf → v ≡ f d (get_or curve d nan)
      → take d buf ++ from d (drop d curve) ≡ from 0 curve → take (suc d) (set buf d v) ++ from (suc d) (drop (suc d) curve) ≡ from 0 curve
  unfolding scan
  one_more buf d v h l p e = rw (take-suc-set buf d v, append_assoc, p) (rw (drop-cons curve d nan) at e)

  -- a turn, as the code has it
  pub written_next : {buf : List Float} {d : ℕ} {v : Float} → length curve ≤ length old → d < length curve → v ≡ f d (get_or curve d nan)
      → Written buf d → Written (set buf d v) (d + 1)
  written_next {buf} {d} {v} fit h p inv =
      let behind : drop 1 (drop d buf) ≡ drop 1 (drop d old) = ap (drop 1) inv.rest in
      record {
        low = omega arith;
        long = length-set buf d v ∙ inv.long;
        done = rw (add-one d) (one_more buf d v h (omega (arith, inv.long)) p inv.done);
        rest = drop-set-lt (d + 1) buf d v (omega arith) ∙ sym (drop-drop 1 d buf) ∙ behind ∙ drop-drop 1 d old;
      }

  pub written_all : {buf : List Float} {d : ℕ} → length curve ≤ d → Written buf d → buf ≡ from 0 curve ++ drop (length curve) old
  unfolding scan
  written_all {buf} {d} h inv =
      let all : d ≡ length curve = omega (arith, inv.low) in
      let front : take d buf ≡ from 0 curve = simp append-nil at (rw (drop_of_length-le curve h) at inv.done) in
      let behind : drop d buf ≡ drop (length curve) old = inv.rest ∙ ap (λ (i : ℕ). drop i old) all in
      sym (take-append-drop d buf) ∙ rw (front, behind)

-- ---- depth 0 is written before the loop, which then starts from the buffer with that in it
module _ (f : ℕ → Float → Float) (curve old : List Float) (w : Float) (some : 0 < length curve) (fit : length curve ≤ length old) where
  pub first_written : w ≡ f 0 (get_or curve 0 nan) → Written f curve (set old 0 w) (set old 0 w) 1
  first_written p = record { low = some; long = refl; done = (written_next f curve old fit some p (written_none f curve old)).done; rest = refl }

  pub first_next : {buf : List Float} {d : ℕ} {v : Float} → d < length curve → v ≡ f d (get_or curve d nan)
      → Written f curve (set old 0 w) buf d → Written f curve (set old 0 w) (set buf d v) (d + 1)
  first_next h p inv = written_next f curve (set old 0 w) (omega (arith, length-set old 0 w)) h p inv

  pub first_all : {buf : List Float} {d : ℕ} → length curve ≤ d → Written f curve (set old 0 w) buf d
      → buf ≡ scan (λ k _. suc k) f 0 curve ++ drop (length curve) old
  first_all h inv =
      written_all f curve (set old 0 w) h inv ∙ ap (λ (l : List Float). scan (λ k _. suc k) f 0 curve ++ l) (drop-set-lt (length curve) old 0 w some)
