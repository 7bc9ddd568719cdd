-- A bank that was read has 1 to 65,536 rounds, a depth of 1 to 64, and a curve that a plan takes: each entry is in 0..64, entry 0 is 0.0, the curve never falls, and a draft of none has 0.0 accepted.
-- Assumes nothing.
use mathlib.Core.Path.{◌≡◌, refl, sym, ap, ◌∙◌, subst}
use mathlib.Core.Bool.{Bool, true, false, ◌&&◌, ◌||◌}
use mathlib.Core.List.{List, [], ◌∷◌}
use Prim.Native.Nat.{ℕ, ◌+◌, ◌*◌, ◌≤◌, ◌<◌, min}
use native.Mathlib.Nat.{zero-lt-suc, mul-one, zero-mul, le_of_lt, mul-le-mul_left, mul-le-mul_right, le_trans, le_of_eq, mul_comm}
use native.Mathlib.Omega.{arith}
use borrow.Author.Tests.{ltb-true, le-ltb, eqb-true}
use lib.Dec.{T, ltb, eqb}
use lib.IntN.{pos}
use lib.ListN.{length, get_or, drop}
use lib.Ieee.{Float, nan, inf, fin, up, down, round, binary64, of_bits, lt, eq, le}
use lib.Ieee.Order.{round_mono}
use lib.Ieee.Scale.{round_same}
use Rattle.float.proofs.Classes.{not_negative}
use Rattle.float.proofs.Rounded.{round_clear}
use Rattle.float.specs.Floats.{f0, is_clear}
use Rattle.float.specs.Range.{in_range}
use Rattle.float.proofs.Ranges.{in_range_lem}
use Rattle.text.specs.Lines.{lines}
use Rattle.std.specs.Prelude.{Ok}
use Rattle.bank_judge.specs.Judge.{sized, judged}
use Rattle.bank_fill.specs.Fill.{commits_of}
use Rattle.bank_curve.specs.Curve.{sum_up_to}
use Rattle.bank.specs.Read.{bank_read}
use Rattle.bank.specs.Acceptance.{most_accepted, expected_accepted}
use Rattle.bank_fill.proofs.Accepted.{accepted, commits_length}
use Rattle.bank_curve.proofs.Curve.{sum_small}
use Rattle.bank.proofs.Lookups.{sizes_fit, in_the_range}
use Rattle.bank.proofs.Places.{curve_placed}

-- ---- a rounded quotient without a sign is between 0 and 64 where it is at most 64

pub le_either : (a b : ℕ) → T (ltb a b || (eqb a b && true)) → a ≤ b
le_either a b t = go (ltb a b) (eqb a b) (ltb-true a b) (eqb-true a b) t
  where
    go : (x y : Bool) → (x ≡ true → a < b) → (y ≡ true → a ≡ b) → T (x || (y && true)) → a ≤ b
    go true y p q u = le_of_lt (p refl)
    go false true p q u = le_of_eq (q refl)
    go false false p q u = absurd u

not_above : (x : Float) → is_clear x ≡ true → T (le x (fin false 1 (pos 6))) → lt (fin false 1 (pos 6)) x ≡ false
unfolding lt eq le is_clear
not_above nan c t = refl
not_above (inf true) c t = refl
not_above (inf false) c t = absurd t
not_above (fin true m e) c t = refl
not_above (fin false m e) c t = le-ltb (1 * 64 * down e) (m * up e * 1) (le_either (m * up e * 1) (1 * 64 * down e) t)

sixty_four : round binary64 false 64 1 ≡ fin false 1 (pos 6)
unfolding round
sixty_four = refl

pub mean_in_range : (s n : ℕ) → 0 < n → s ≤ n * 64 → in_range f0 most_accepted (round binary64 false s n) ≡ true
unfolding of_bits
mean_in_range s n N h =
    let x = round binary64 false s n in
    let c = round_clear binary64 s n in
    let few : s * 1 ≤ 64 * n = le_trans (le_of_eq (mul-one s)) (le_trans h (le_of_eq (mul_comm n 64))) in
    let most : T (le x (fin false 1 (pos 6))) = subst (λ (y : Float). T (le x y)) sixty_four (round_mono binary64 s n 64 1 N (zero-lt-suc 0) few) in
    in_range_lem f0 most_accepted x c (not_negative x c) (not_above x c most)

-- ---- of a bank that was read

above_zero : (n : ℕ) → 0 < n → n ≡ 0 → ⊥
above_zero n h e = omega arith

-- where an entry stands there is one
some_entry : (c : List Float) → get_or c 0 nan ≡ f0 → 0 < length c
unfolding of_bits
some_entry [] e = let z : ◌≡◌ {A = ℕ} 0 1 = cc in omega arith
some_entry (x ∷ c) e = zero-lt-suc (length c)

sum_none : (commits : List ℕ) → sum_up_to 0 commits ≡ 0
sum_none [] = refl
sum_none (c ∷ commits) = let e : min c 0 ≡ 0 = omega arith in rw (e, sum_none commits)

sum_grows : (g : ℕ) (commits : List ℕ) → sum_up_to g commits ≤ sum_up_to (g + 1) commits
sum_grows g [] = omega arith
sum_grows g (c ∷ commits) = let h = sum_grows g commits in let k : min c g ≤ min c (g + 1) = omega arith in omega arith

zero_over : (n : ℕ) → 0 < n → round binary64 false 0 n ≡ f0
unfolding round of_bits
zero_over n N = round_same binary64 false 0 n 0 1 N (zero-lt-suc 0) (sym (zero-mul n))

module _ (text commits : List ℕ) (signals curve : List Float) (depth rounds : ℕ) (e : judged text (length commits) (length signals) (length curve) ≡ sized depth rounds) where
  pub rounds_bounded : (0 < rounds) × (rounds ≤ 65536)
  rounds_bounded = let a = accepted text (length commits) (length signals) (length curve) depth rounds e in (a.some, a.few)

  pub depth_bounded : (0 < depth) × (depth ≤ 64)
  depth_bounded = let a = accepted text (length commits) (length signals) (length curve) depth rounds e in (a.deep, a.shallow)

  rows : List ℕ
  rows = commits_of (drop 1 (lines text))

  rows_length : length rows ≡ rounds
  unfolding rows
  rows_length = commits_length (drop 1 (lines text)) ∙ sym (accepted text (length commits) (length signals) (length curve) depth rounds e).all

  pub curve_in_range : (g : ℕ) → g ≤ depth → in_range f0 most_accepted (get_or (bank_read text commits signals curve).curve g nan) ≡ true
  unfolding rows
  curve_in_range g h =
      let small : sum_up_to g rows ≤ rounds * 64 = le_trans (sum_small g rows) (le_trans (le_of_eq (ap (λ (n : ℕ). n * g) rows_length)) (mul-le-mul_left rounds (le_trans h depth_bounded.1))) in
      ap (in_range f0 most_accepted) (curve_placed text commits signals curve depth rounds e g nan h) ∙ mean_in_range (sum_up_to g rows) rounds rounds_bounded.0 small

  pub curve_starts : get_or (bank_read text commits signals curve).curve 0 nan ≡ f0
  unfolding rows
  curve_starts =
      let none : 0 ≤ depth = omega arith in
      curve_placed text commits signals curve depth rounds e 0 nan none ∙ ap (λ (s : ℕ). round binary64 false s rounds) (sum_none rows) ∙ zero_over rounds rounds_bounded.0

  pub curve_never_falls : (g : ℕ) → g + 1 ≤ depth → T (le (get_or (bank_read text commits signals curve).curve g nan) (get_or (bank_read text commits signals curve).curve (g + 1) nan))
  unfolding rows
  curve_never_falls g h =
      let before : g ≤ depth = omega arith in
      let n = rounds_bounded.0 in
      let k : sum_up_to g rows * rounds ≤ sum_up_to (g + 1) rows * rounds = mul-le-mul_right rounds (sum_grows g rows) in
      subst (λ (x : Float). T (le x (get_or (bank_read text commits signals curve).curve (g + 1) nan))) (sym (curve_placed text commits signals curve depth rounds e g nan before))
      (subst (λ (y : Float). T (le (round binary64 false (sum_up_to g rows) rounds) y)) (sym (curve_placed text commits signals curve depth rounds e (g + 1) nan h))
      (round_mono binary64 (sum_up_to g rows) rounds (sum_up_to (g + 1) rows) rounds n n k))

  -- a draft of none is expected to have none accepted
  pub expected_none : expected_accepted (bank_read text commits signals curve).curve depth 0 ≡ Ok f0
  expected_none =
      let c = (bank_read text commits signals curve).curve in
      let some : depth ≡ 0 → ⊥ = λ z. above_zero depth depth_bounded.0 z in
      let none : 0 ≤ depth = omega arith in
      let first : 0 ≡ min 0 depth = omega arith in
      sym (in_the_range c depth 0 (sizes_fit depth 0 some depth_bounded.1 (omega arith)) 0 first (some_entry c curve_starts) (curve_in_range 0 none)) ∙ ap Ok curve_starts
