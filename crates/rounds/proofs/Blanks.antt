-- Laws of lists that hold 0.0 from a place on. Assumes nothing.
use mathlib.Core.Path.{◌≡◌, sym, ap, ◌∙◌}
use mathlib.Core.List.{List, ◌++◌, append_assoc}
use Prim.Native.Nat.{ℕ, ◌+◌, ◌-◌, ◌≤◌}
use native.Mathlib.Omega.{arith}
use lib.ListN.{length, take, drop, replicate, length-append, length-replicate, get_or-replicate, take-append-drop, replicate-append-replicate}
use lib.Seq.{sets, sets-eq, length-sets, length-take-le, drop_at, drop-drop, ext_get_or}
use lib.Ieee.{Float}
use Rattle.float.specs.Floats.{f0}
use Rattle.rounds.specs.Signals.{Zeros}
use Rattle.rounds.proofs.Laid.{stored_more, drop_zeros}

abbrev pub Blank : List Float → ℕ → Type 0
Blank l i = drop i l ≡ replicate (length l - i) f0

pub blank_all : (l : List Float) → Zeros l → Blank l 0
blank_all l z =
    let n : length l ≡ length l - 0 = omega arith in
    ext_get_or f0 l (replicate (length l) f0) (sym (length-replicate (length l) f0)) (λ i h. z i ∙ sym (get_or-replicate (length l) i f0 f0 h))
    ∙ ap (λ (k : ℕ). replicate k f0) n

-- and further on
further : (l : List Float) (i m : ℕ) → i + m ≤ length l → Blank l i → Blank l (i + m)
further l i m h b =
    let n : (length l - i) - m ≡ length l - (i + m) = omega arith in
    sym (drop-drop m i l) ∙ ap (drop m) b ∙ drop_zeros (length l - i) m (omega arith) ∙ ap (λ (k : ℕ). replicate k f0) n

-- what is past the stores is as it was
past_stores : (vs l : List Float) (i : ℕ) → i + length vs ≤ length l → drop (i + length vs) (sets l i vs) ≡ drop (i + length vs) l
past_stores vs l i h =
    let f : length (take i l ++ vs) ≡ i + length vs = length-append (take i l) vs ∙ ap (λ (k : ℕ). k + length vs) (length-take-le i l (omega arith)) in
    ap (drop (i + length vs)) (sets-eq vs l i h)
    ∙ drop_at (take i l ++ vs) (drop (i + length vs) l) (i + length vs) f

pub blank_stored : (vs l : List Float) (i : ℕ) → i + length vs ≤ length l → Blank l i → Blank (sets l i vs) (i + length vs)
blank_stored vs l i h b =
    past_stores vs l i h ∙ further l i (length vs) h b ∙ ap (λ (k : ℕ). replicate (k - (i + length vs)) f0) (sym (length-sets l i vs))

-- 0.0 stored over 0.0
zeros_stored : (l : List Float) (i m : ℕ) → i + m ≤ length l → Blank l i → sets l i (replicate m f0) ≡ l
zeros_stored l i m h b =
    let z : length (replicate m f0) ≡ m = length-replicate m f0 in
    let n : m + (length l - (i + m)) ≡ length l - i = omega arith in
    sets-eq (replicate m f0) l i (omega arith)
    ∙ ap (λ (k : ℕ). take i l ++ replicate m f0 ++ drop (i + k) l) z
    ∙ ap (λ (x : List Float). take i l ++ replicate m f0 ++ x) (further l i m h b)
    ∙ append_assoc (take i l) (replicate m f0) (replicate (length l - (i + m)) f0)
    ∙ ap (λ (x : List Float). take i l ++ x) (replicate-append-replicate m (length l - (i + m)) f0 ∙ ap (λ (k : ℕ). replicate k f0) n ∙ sym b)
    ∙ take-append-drop i l

-- of 64 slots only the first have to be stored
pub front_stored : (front l : List Float) (i : ℕ) → length front ≤ 64 → i + 64 ≤ length l → Blank l i → sets l i (front ++ replicate (64 - length front) f0) ≡ sets l i front
front_stored front l i h r b =
    let m : length (sets l i front) ≡ length l = length-sets l i front in
    stored_more front (replicate (64 - length front) f0) l i
    ∙ zeros_stored (sets l i front) (i + length front) (64 - length front) (omega arith) (blank_stored front l i (omega arith) b)
