-- The seconds of every row that a line says are in range: above 0, and at most 10 ^ 15, which is at most 10 ^ 17. Assumes nothing.
use mathlib.Core.Path.{◌≡◌, refl, sym, ◌∙◌, subst, ap}
use mathlib.Core.Bool.{Bool, true, false}
use mathlib.Core.List.{List, [], ◌∷◌, ◌++◌}
use Prim.Native.Nat.{ℕ, ◌*◌, ◌^◌, ◌≤◌, ◌<◌}
use native.Mathlib.Nat.{le_of_lt, zero-lt-suc, one-le-pow}
use native.Mathlib.Omega.{arith}
use lib.Dec.{T, eqb}
use lib.Ieee.{Float, nan, inf, fin, binary64, low, round, neg, lt, le, of_bits}
use lib.Ieee.Exact.{HasValue}
use lib.Ieee.Order.{round_mono}
use lib.Ieee.Scale.{grid, round_val, round_under}
use lib.ListN.{length, get_or}
use Rattle.laws.proofs.Both.{both}
use Rattle.text.specs.Fields.{fields}
use Rattle.trimming.specs.Trim.{trimmed}
use Rattle.float.specs.Floats.{f0}
use Rattle.float.proofs.Classes.{clash}
use Rattle.decimals.specs.Decimals.{decimal_of}
use Rattle.decimals.proofs.Rounding.{round_neg, quotient_finite}
use Rattle.decimals.proofs.Decimals.{decimal_read}
use Rattle.cost_rows.specs.Table.{Row}
use Rattle.cost_rows.specs.Order.{earlier, insert, sorted}
use Rattle.cost_rows.specs.Prune.{dropped, kept}
use Rattle.cost_rows.proofs.Ordered.{test}
use Rattle.cost_rows.specs.Lawful.{largest, in_range, all_in_range}
use Rattle.std.proofs.Common.{Ok, Err}
use Rattle.numeral.specs.Spelling.{Whole}
use Rattle.decimals.specs.Decimals.{Decimal}
use Rattle.table_line.specs.Line.{said, whole_at, decimal_at, values_read, numbers_read, row_read, line_read}
use Rattle.measured.specs.Fill.{row_of, rows_of}

-- ---- a decimal that is above zero

largest_is : round binary64 false (10 ^ 17) 1 ≡ largest
unfolding round of_bits
largest_is = refl

few_of : (n p : ℕ) → n ≤ 10 ^ 15 → 0 < p → n * 1 ≤ 10 ^ 17 * p
few_of n p h P = omega arith

size_largest : (n k : ℕ) → n ≤ 10 ^ 15 → T (le (round binary64 false n (10 ^ k)) largest)
size_largest n k h =
    subst (λ (x : Float). T (le (round binary64 false n (10 ^ k)) x)) largest_is
    (round_mono binary64 n (10 ^ k) (10 ^ 17) 1 (one-le-pow k 10 (zero-lt-suc 9)) (zero-lt-suc 0) (few_of n (10 ^ k) h (one-le-pow k 10 (zero-lt-suc 9))))

-- a value of clear sign, negated, is not above zero
not_above : (y : Float) (a c : ℕ) → HasValue y false a c → lt f0 (neg y) ≡ true → ⊥
unfolding neg lt of_bits
not_above nan a c v h = v
not_above (inf s) a c v h = v
not_above (fin true m e) a c v h = clash (sym v.0)
not_above (fin false m e) a c v h = clash h

true_of : (b : Bool) → T b → b ≡ true
true_of true t = refl
true_of false t = absurd t

by_sign : (sign : Bool) (n k : ℕ) (x : Float) → n ≤ 10 ^ 15 → round binary64 sign n (10 ^ k) ≡ x → lt f0 x ≡ true → le x largest ≡ true
by_sign false n k x h e p = true_of (le x largest) (subst (λ (y : Float). T (le y largest)) e (size_largest n k h))
by_sign true n k x h e p =
    absurd
    (not_above (round binary64 false n (10 ^ k)) (grid binary64 n (10 ^ k)) (2 ^ low binary64) (round_val binary64 n (10 ^ k) (round_under binary64 n (10 ^ k) (quotient_finite false n k h)))
    (ap (lt f0) (round_neg binary64 n (10 ^ k) ∙ e) ∙ p))

pub decimal_range : (s : List ℕ) (x : Float) → decimal_of s ≡ Ok x → lt f0 x ≡ true → in_range x ≡ true
unfolding in_range
decimal_range s x e p =
    let r = decimal_read s x e in
    rw (p, by_sign r.sign r.digits r.decimals x (le_of_lt r.few) r.value p)

-- ---- the rows of the lines

values_range : (batch tokens : ℕ) (x : Float) (s : List ℕ) → decimal_of s ≡ Ok x → all_in_range (row_of (said (values_read batch tokens x))) ≡ true
unfolding values_read all_in_range
values_range batch tokens x s e =
    test (lt f0 x)
    (λ p. test (eqb tokens 0) (λ q. rw (p, q)) (λ q. rw (p, q, decimal_range s x e p)))
    (λ p. rw p)

numbers_range : (w v : Whole) (s : List ℕ) (y : Decimal) → decimal_of s ≡ y → all_in_range (row_of (said (numbers_read w v y))) ≡ true
unfolding numbers_read all_in_range
numbers_range (Err refusal) v s y e = refl
numbers_range (Ok b) (Err refusal) s y e = refl
numbers_range (Ok b) (Ok t) s (Err refusal) e = refl
numbers_range (Ok b) (Ok t) s (Ok x) e = values_range b t x s e

row_range : (row : List (List ℕ)) → all_in_range (row_of (said (row_read row))) ≡ true
unfolding row_read all_in_range
row_range row =
    test (eqb (length row) 3)
    (λ p. rw p (numbers_range (whole_at 0 row) (whole_at 1 row) (trimmed (get_or row 2 [])) (decimal_at 2 row) refl))
    (λ p. rw p)

line_range : (line : List ℕ) → all_in_range (row_of (line_read line)) ≡ true
unfolding line_read all_in_range
line_range line = test (eqb (length (trimmed line)) 0) (λ p. rw p) (λ p. rw p (row_range (fields line)))

append_range : (a b : List Row) → all_in_range a ≡ true → all_in_range b ≡ true → all_in_range (a ++ b) ≡ true
unfolding all_in_range
append_range [] b e f = f
append_range (r ∷ a) b e f = rw (both (in_range r.seconds) (all_in_range a) e).0 (append_range a b (both (in_range r.seconds) (all_in_range a) e).1 f)

rows_range : (lines : List (List ℕ)) → all_in_range (rows_of lines) ≡ true
unfolding rows_of all_in_range
rows_range [] = refl
rows_range (line ∷ rest) = append_range (row_of (line_read line)) (rows_of rest) (line_range line) (rows_range rest)

-- ---- put in order and cleaned

insert_range : (r : Row) (t : List Row) → in_range r.seconds ≡ true → all_in_range t ≡ true → all_in_range (insert r t) ≡ true
unfolding all_in_range insert
insert_range r [] e f = rw e
insert_range r (s ∷ t) e f =
    test (earlier s r)
    (λ g. rw (g, (both (in_range s.seconds) (all_in_range t) f).0) (insert_range r t e (both (in_range s.seconds) (all_in_range t) f).1))
    (λ g. rw (g, e) f)

sorted_range : (t : List Row) → all_in_range t ≡ true → all_in_range (sorted t) ≡ true
unfolding all_in_range sorted
sorted_range [] f = refl
sorted_range (r ∷ t) f = insert_range r (sorted t) (both (in_range r.seconds) (all_in_range t) f).0 (sorted_range t (both (in_range r.seconds) (all_in_range t) f).1)

kept_range : (t : List Row) → all_in_range t ≡ true → all_in_range (kept t) ≡ true
unfolding all_in_range kept
kept_range [] f = refl
kept_range (r ∷ t) f =
    let ih = kept_range t (both (in_range r.seconds) (all_in_range t) f).1 in
    test (dropped r t) (λ e. rw e ih) (λ e. rw (e, (both (in_range r.seconds) (all_in_range t) f).0) ih)

pub loaded_range : (lines : List (List ℕ)) → all_in_range (kept (sorted (rows_of lines))) ≡ true
loaded_range lines = kept_range (sorted (rows_of lines)) (sorted_range (rows_of lines) (rows_range lines))
