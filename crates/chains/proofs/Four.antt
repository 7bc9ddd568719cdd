-- Four chains at a time: one slot of each, and four chains of a batch. Assumes nothing.
use mathlib.Core.Path.{◌≡◌, refl, sym, ap, ◌∙◌}
use mathlib.Core.Bool.{Bool, true, false, ◌&&◌}
use mathlib.Core.List.{List, [], ◌∷◌, ◌++◌, append_assoc}
use Prim.Native.Nat.{ℕ, zero, suc, ◌+◌, ◌-◌, ◌*◌, ◌≤◌, ◌<◌}
use native.Mathlib.Nat.{not-suc-le-zero}
use native.Mathlib.Numerals.{add-one}
use native.Mathlib.Omega.{arith}
use borrow.Author.Tests.{leb-true}
use lib.Dec.{leb}
use lib.ListN.{length, get_or, take, drop, set, length-take, length-drop, length-set, drop_of_length-le, take-append-drop}
use lib.Seq.{take-suc-set, drop-cons, drop-set-lt, drop-drop, take-take, get_or-take, get_or-drop}
use lib.Ieee.{Float, nan}
use Rattle.float.specs.Floats.{plus, f0}
use Rattle.float.proofs.Classes.{clash}
use Rattle.chains.specs.Expected.{add_running, with_chain, sums_with}
use Rattle.chains.specs.Fours.{with_four, four_reach}
use Rattle.chains.proofs.Summed.{sums_next, with_length}

-- ---- one slot of each
abbrev four : Float → Float → Float → Float → List Float → List Float → List Float → List Float → List Float → List Float
four p q r s a b c e sums = add_running s e (add_running r c (add_running q b (add_running p a sums)))

next : (a b c e out : List Float) (p q r s : Float) (d : ℕ) (W : List Float) → d < length a → d < length b → d < length c → d < length e → suc d < length out
    → take (suc d) out ++ four p q r s (drop d a) (drop d b) (drop d c) (drop d e) (drop (suc d) out) ≡ W
    → let x = plus p (get_or a d nan) in
    let y = plus q (get_or b d nan) in
    let z = plus r (get_or c d nan) in
    let u = plus s (get_or e d nan) in
    let v = plus (plus (plus (plus (get_or out (suc d) nan) x) y) z) u in
    take (suc (suc d)) (set out (suc d) v) ++ four x y z u (drop (suc d) a) (drop (suc d) b) (drop (suc d) c) (drop (suc d) e) (drop (suc (suc d)) (set out (suc d) v)) ≡ W
unfolding add_running
next a b c e out p q r s d W ha hb hc he ho h =
    let v = plus (plus (plus (plus (get_or out (suc d) nan) (plus p (get_or a d nan))) (plus q (get_or b d nan))) (plus r (get_or c d nan))) (plus s (get_or e d nan)) in
    rw (take-suc-set out (suc d) v, append_assoc, drop-set-lt (suc (suc d)) out (suc d) v (omega arith))
    (rw (drop-cons a d nan, drop-cons b d nan, drop-cons c d nan, drop-cons e d nan, drop-cons out (suc d) nan) at h)

ended : (a b c e out : List Float) (p q r s : Float) (d : ℕ) (W : List Float) → length a ≤ d → length b ≤ d → length c ≤ d → length e ≤ d
    → take (suc d) out ++ four p q r s (drop d a) (drop d b) (drop d c) (drop d e) (drop (suc d) out) ≡ W → out ≡ W
unfolding add_running
ended a b c e out p q r s d W ha hb hc he h =
    sym (take-append-drop (suc d) out) ∙ rw (drop_of_length-le a ha, drop_of_length-le b hb, drop_of_length-le c hc, drop_of_length-le e he) at h

-- ---- a block of four chains
module _ (width : ℕ) (block : List Float) where
  abbrev A : List Float
  A = take width block

  abbrev B : List Float
  B = take width (drop 64 block)

  abbrev C : List Float
  C = take width (drop 128 block)

  abbrev E : List Float
  E = take width (drop 192 block)

  pub record Added (sums out : List Float) (p q r s : Float) (d : ℕ) : Type 0 where
    pub low : d ≤ width
    pub long : length out ≡ length sums
    pub rest : take (suc d) out ++ four p q r s (drop d A) (drop d B) (drop d C) (drop d E) (drop (suc d) out) ≡ with_four width block sums

  starts : (sums : List Float) → 0 < length sums → take 1 sums ++ four f0 f0 f0 f0 A B C E (drop 1 sums) ≡ with_four width block sums
  starts [] h = absurd (not-suc-le-zero h)
  starts (x ∷ sums) h = refl

  pub four_begins : (sums : List Float) → 0 < length sums → Added sums sums f0 f0 f0 f0 0
  four_begins sums h = record { low = omega arith; long = refl; rest = starts sums h }

  module _ (sums out : List Float) (p q r s : Float) (d : ℕ) (full : length block ≡ 256) (narrow : width ≤ 64) (inv : Added sums out p q r s d) where
    long_a : length A ≡ width
    long_a = length-take width block ∙ omega arith

    long_of : (m : ℕ) → m ≤ 192 → length (take width (drop m block)) ≡ width
    long_of m h = length-take width (drop m block) ∙ omega (arith, length-drop m block)

    at_of : (m : ℕ) → d < width → get_or block (d + m) nan ≡ get_or (take width (drop m block)) d nan
    at_of m h = let k : d + m ≡ m + d = omega arith in ap (λ (i : ℕ). get_or block i nan) k ∙ sym (get_or-drop m block d nan) ∙ sym (get_or-take width (drop m block) d nan h)

    pub four_next : width < length sums → d < width
        → let x = plus p (get_or block d nan) in
        let y = plus q (get_or block (d + 64) nan) in
        let z = plus r (get_or block (d + 128) nan) in
        let u = plus s (get_or block (d + 192) nan) in
        Added sums (set out (d + 1) (plus (plus (plus (plus (get_or out (d + 1) nan) x) y) z) u)) x y z u (d + 1)
    four_next small h = turn (get_or block d nan) (get_or block (d + 64) nan) (get_or block (d + 128) nan) (get_or block (d + 192) nan) (sym (get_or-take width block d nan h)) (at_of 64 h) (at_of 128 h) (at_of 192 h)
      where
        turn : (x y z u : Float) → x ≡ get_or A d nan → y ≡ get_or B d nan → z ≡ get_or C d nan → u ≡ get_or E d nan
            → Added sums (set out (d + 1) (plus (plus (plus (plus (get_or out (d + 1) nan) (plus p x)) (plus q y)) (plus r z)) (plus s u))) (plus p x) (plus q y) (plus r z) (plus s u) (d + 1)
        turn x y z u ex ey ez eu =
            let la = long_a in
            let lb = long_of 64 (omega arith) in
            let lc = long_of 128 (omega arith) in
            let le = long_of 192 (omega arith) in
            let there : suc d < length out = omega (arith, inv.long) in
            record {
              low = omega arith;
              long = length-set out (d + 1) _ ∙ inv.long;
              rest = rw (add-one d, ex, ey, ez, eu) (next A B C E out p q r s d (with_four width block sums) (omega arith) (omega arith) (omega arith) (omega arith) there inv.rest);
            }

    pub four_ended : width ≤ d → out ≡ with_four width block sums
    four_ended h =
        let la = long_a in
        let lb = long_of 64 (omega arith) in
        let lc = long_of 128 (omega arith) in
        let le = long_of 192 (omega arith) in
        ended A B C E out p q r s d (with_four width block sums) (omega arith) (omega arith) (omega arith) (omega arith) inv.rest

-- as many sums as before
pub four_length : (width : ℕ) (block sums : List Float) → length (with_four width block sums) ≡ length sums
four_length width block sums =
    let a = with_chain (take width block) sums in
    let b = with_chain (take width (drop 64 block)) a in
    let c = with_chain (take width (drop 128 block)) b in
    with_length (take width (drop 192 block)) c ∙ with_length (take width (drop 128 block)) b ∙ with_length (take width (drop 64 block)) a ∙ with_length (take width block) sums

-- ---- four chains of a batch, each of gamma slots or more
part_of : (w j m : ℕ) (l : List Float) → j + w ≤ m → take w (drop j (take m l)) ≡ take w (drop j l)
part_of w zero m l h = take-take w m l (omega arith)
part_of w (suc j) zero l h = absurd (let z : ⊥ = omega arith in z)
part_of w (suc j) (suc m) [] h = refl
part_of w (suc j) (suc m) (x ∷ xs) h = part_of w j m xs (omega arith)

reached : (a b c e : Bool) → (a && (b && (c && e))) ≡ true → (a ≡ true) × ((b ≡ true) × ((c ≡ true) × (e ≡ true)))
reached true true true true h = (refl, (refl, (refl, refl)))
reached true true true false h = clash h
reached true true false e h = clash h
reached true false c e h = clash h
reached false b c e h = clash h

module _ (gamma : ℕ) (lengths : List ℕ) (slots W : List Float) where
  step : (k : ℕ) (sums : List Float) → k < length lengths → gamma ≤ get_or lengths k 0 → sums_with gamma (drop k lengths) (drop (k * 64) slots) sums ≡ W
      → sums_with gamma (drop (k + 1) lengths) (drop ((k + 1) * 64) slots) (with_chain (take gamma (drop (k * 64) slots)) sums) ≡ W
  step k sums h l e =
      let q : k * 64 + gamma - k * 64 ≡ gamma = omega arith in
      rw q at (sums_next gamma k (k * 64 + gamma) lengths slots sums W h (omega arith) e)

  module _ (k end : ℕ) (sums : List Float) (low : gamma ≤ 64) (stop : end ≡ k * 64 + 256) where
    block : List Float
    block = take (end - k * 64) (drop (k * 64) slots)

    part : (m at : ℕ) → at ≡ k * 64 + m → m ≤ 192 → take gamma (drop m block) ≡ take gamma (drop at slots)
    unfolding block
    part m at e h =
        part_of gamma m (end - k * 64) (drop (k * 64) slots) (omega arith) ∙ ap (take gamma) (drop-drop m (k * 64) slots) ∙ ap (λ (i : ℕ). take gamma (drop i slots)) (sym e)

    first : take gamma block ≡ take gamma (drop (k * 64) slots)
    unfolding block
    first = take-take gamma (end - k * 64) (drop (k * 64) slots) (omega arith)

    pub fours_next : k + 4 ≤ length lengths → four_reach gamma k lengths ≡ true → sums_with gamma (drop k lengths) (drop (k * 64) slots) sums ≡ W
        → sums_with gamma (drop (k + 4) lengths) (drop ((k + 4) * 64) slots) (with_four gamma (take (end - k * 64) (drop (k * 64) slots)) sums) ≡ W
    unfolding block
    fours_next h t e =
        let g = reached (leb gamma (get_or lengths k 0)) (leb gamma (get_or lengths (k + 1) 0)) (leb gamma (get_or lengths (k + 2) 0)) (leb gamma (get_or lengths (k + 3) 0)) t in
        let two : k + 1 + 1 ≡ k + 2 = omega arith in
        let three : k + 2 + 1 ≡ k + 3 = omega arith in
        let last : k + 3 + 1 ≡ k + 4 = omega arith in
        let s1 = step k sums (omega arith) (leb-true gamma (get_or lengths k 0) g.0) e in
        let s2 = rw two at (step (k + 1) _ (omega arith) (leb-true gamma (get_or lengths (k + 1) 0) g.1.0) s1) in
        let s3 = rw three at (step (k + 2) _ (omega arith) (leb-true gamma (get_or lengths (k + 2) 0) g.1.1.0) s2) in
        let s4 = rw last at (step (k + 3) _ (omega arith) (leb-true gamma (get_or lengths (k + 3) 0) g.1.1.1) s3) in
        rw (part 64 ((k + 1) * 64) (omega arith) (omega arith), part 128 ((k + 2) * 64) (omega arith) (omega arith), part 192 ((k + 3) * 64) (omega arith) (omega arith), first) s4
