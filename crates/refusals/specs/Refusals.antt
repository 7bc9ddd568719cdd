-- Refusals, each by its number, and which of two is given.
use Rattle.std.specs.Prelude.{ℕ, zero, suc, Bool, cond, ⊤, Result, Ok, Err}
use Rattle.refusals.specs.declared.Refusal.{Refusal}
use Rattle.refusals.specs.declared.Refusal.TheVariants.{NotAscii, EmptyText, WrongHeader, FieldCount, MalformedWhole, MalformedDecimal, LongDecimal, StepSeconds, NoDrafts, NoRows, Size, Setting, AbsentDraw, Draw, Input, ShortBuffer, WorkerRoom, SecondRoom, StepRoom, NoSaneRows, NoWithdrawal}

abbrev pub number_of : Refusal → ℕ
number_of NotAscii = 1
number_of EmptyText = 2
number_of WrongHeader = 3
number_of FieldCount = 4
number_of MalformedWhole = 5
number_of MalformedDecimal = 6
number_of LongDecimal = 7
number_of StepSeconds = 8
number_of NoDrafts = 9
number_of NoRows = 10
number_of Size = 11
number_of Setting = 12
number_of AbsentDraw = 13
number_of Draw = 14
number_of Input = 15
number_of ShortBuffer = 16
number_of WorkerRoom = 17
number_of SecondRoom = 18
number_of StepRoom = 19
number_of NoSaneRows = 20
number_of NoWithdrawal = 21

-- what a judge says: nothing, or why not
abbrev pub Judgement : Type 0
Judgement = Result ⊤ Refusal

-- passed where a test holds
abbrev pub passed_if : Bool → Refusal → Judgement
passed_if test refusal = cond test (Ok tt) (Err refusal)

-- the first of two refusals, or the answer where nothing is refused
abbrev pub and_then : {A : Type 0} → Judgement → Result A Refusal → Result A Refusal
and_then (Ok passed) answer = answer
and_then (Err refusal) answer = Err refusal

-- the number of a refusal, 0 where there is none
abbrev pub number_in : {A : Type 0} → Result A Refusal → ℕ
number_in (Ok value) = 0
number_in (Err refusal) = number_of refusal

-- the first of two refusals by number, where 0 is none
abbrev pub first_of : ℕ → ℕ → ℕ
first_of zero second = second
first_of (suc first) second = suc first
