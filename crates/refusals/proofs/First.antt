-- The first of two refusals, and a refusal that hangs on a test. Assumes nothing.
use mathlib.Core.Path.{◌≡◌, refl, sym, ap, ◌∙◌, subst}
use mathlib.Core.Bool.{Bool, true, false, cond}
use lib.Dec.{T}
use Prim.Native.Nat.{ℕ, zero, suc, ◌≤◌, ◌<◌}
use native.Mathlib.Nat.{not-suc-le-zero}
use native.Mathlib.Omega.{arith}
use Rattle.std.specs.Prelude.{Result, Ok, Err, is_ok}
use Rattle.refusals.specs.declared.Refusal.{Refusal}
use Rattle.refusals.specs.declared.Refusal.TheVariants.{NotAscii, EmptyText, WrongHeader, FieldCount, MalformedWhole, MalformedDecimal, LongDecimal, StepSeconds, NoDrafts, NoRows, Size, Setting, AbsentDraw, Draw, Input, ShortBuffer, WorkerRoom, SecondRoom, StepRoom, NoSaneRows, NoWithdrawal}
use Rattle.refusals.specs.Refusals.{Judgement, passed_if, and_then, number_of, number_in, first_of}

-- ---- a test that is known
pub chosen : {a : Bool} (b : Bool) (x y : ℕ) → a ≡ b → cond b x y ≡ cond a x y
chosen b x y e = sym (ap (λ (t : Bool). cond t x y) e)

-- ---- the first of two refusals
pub goes_first : (r a b : ℕ) → r ≡ a → 0 < r → r ≡ first_of a b
goes_first r a b e h = go r h ∙ ap (λ (n : ℕ). first_of n b) e
  where
    go : (n : ℕ) → 0 < n → n ≡ first_of n b
    go zero k = absurd (not-suc-le-zero k)
    go (suc n) k = refl

pub goes_next : (r a b : ℕ) → r ≡ a → r ≤ 0 → b ≡ first_of a b
goes_next r a b e h = go r h ∙ ap (λ (n : ℕ). first_of n b) e
  where
    go : (n : ℕ) → n ≤ 0 → b ≡ first_of n b
    go zero k = refl
    go (suc n) k = absurd (not-suc-le-zero k)

-- ---- judgements
abbrev is_refused : {A : Type 0} → Result A Refusal → Bool
is_refused (Ok value) = false
is_refused (Err refusal) = true

-- what is refused has not passed
pub refused_is_no_answer : {A C : Type 0} (r : Refusal) (x : A) → ◌≡◌ {A = Result A Refusal} (Err r) (Ok x) → C
refused_is_no_answer r x e = absurd (subst T (ap is_refused e) tt)

pub refused_is_no_pass : {C : Type 0} (r : Refusal) → ◌≡◌ {A = Judgement} (Err r) (Ok tt) → C
refused_is_no_pass r e = refused_is_no_answer r tt e

-- two judgements one after the other pass where both do
pub both_pass : (a b : Judgement) → and_then a b ≡ Ok tt → (a ≡ Ok tt) × (b ≡ Ok tt)
both_pass (Ok tt) b e = (refl, e)
both_pass (Err r) b e = refused_is_no_pass r e

-- a test passes where its refusal is not given
pub passes : (t : Bool) (r : Refusal) → passed_if t r ≡ Ok tt → t ≡ true
passes true r e = refl
passes false r e = refused_is_no_pass r e

pub ok_passed : (a : Judgement) → is_ok a ≡ true → a ≡ Ok tt
ok_passed (Ok tt) e = refl
ok_passed (Err r) e = absurd (subst T (sym e) tt)

-- their number is that of the first that refuses
pub number_of_both : {A : Type 0} (a : Judgement) (b : Result A Refusal) → number_in (and_then a b) ≡ first_of (number_in a) (number_in b)
number_of_both (Ok tt) b = refl
number_of_both (Err NotAscii) b = refl
number_of_both (Err EmptyText) b = refl
number_of_both (Err WrongHeader) b = refl
number_of_both (Err FieldCount) b = refl
number_of_both (Err MalformedWhole) b = refl
number_of_both (Err MalformedDecimal) b = refl
number_of_both (Err LongDecimal) b = refl
number_of_both (Err StepSeconds) b = refl
number_of_both (Err NoDrafts) b = refl
number_of_both (Err NoRows) b = refl
number_of_both (Err Size) b = refl
number_of_both (Err Setting) b = refl
number_of_both (Err AbsentDraw) b = refl
number_of_both (Err Draw) b = refl
number_of_both (Err Input) b = refl
number_of_both (Err ShortBuffer) b = refl
number_of_both (Err WorkerRoom) b = refl
number_of_both (Err SecondRoom) b = refl
number_of_both (Err StepRoom) b = refl
number_of_both (Err NoSaneRows) b = refl
number_of_both (Err NoWithdrawal) b = refl

-- no refusal has the number 0
pub no_zero : (r : Refusal) → 0 < number_of r
no_zero NotAscii = omega arith
no_zero EmptyText = omega arith
no_zero WrongHeader = omega arith
no_zero FieldCount = omega arith
no_zero MalformedWhole = omega arith
no_zero MalformedDecimal = omega arith
no_zero LongDecimal = omega arith
no_zero StepSeconds = omega arith
no_zero NoDrafts = omega arith
no_zero NoRows = omega arith
no_zero Size = omega arith
no_zero Setting = omega arith
no_zero AbsentDraw = omega arith
no_zero Draw = omega arith
no_zero Input = omega arith
no_zero ShortBuffer = omega arith
no_zero WorkerRoom = omega arith
no_zero SecondRoom = omega arith
no_zero StepRoom = omega arith
no_zero NoSaneRows = omega arith
no_zero NoWithdrawal = omega arith

-- a number of 0 is no refusal
pub passed_is_zero : (a : Judgement) → number_in a ≡ 0 → a ≡ Ok tt
passed_is_zero (Ok tt) e = refl
passed_is_zero (Err r) e = absurd (let w : ⊥ = omega (arith, no_zero r, e) in w)

-- ---- by number: where neither is given
pub first_zero : (a b : ℕ) → first_of a b ≡ 0 → (a ≡ 0) × (b ≡ 0)
first_zero zero b h = (refl, h)
first_zero (suc a) b h = absurd (let w : ⊥ = omega arith in w)
