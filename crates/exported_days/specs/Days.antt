-- What is told of the answers about a day file. A name's number is that of its case, counted from 0.
use Rattle.std.specs.Prelude.{ℕ, ⊤, cond, eqb, Option, Some, None, Result, Ok, Err}
use Rattle.refusals.specs.declared.Refusal.{Refusal}
use Rattle.refusals.specs.Refusals.{number_of}
use Rattle.day_names.specs.declared.Command.{Command}
use Rattle.day_names.specs.declared.Command.TheVariants.{Nothing, Gamma, Policy, Acceptance, Drafter, Switch, Rates, Roofline, Table, Loaded, Prices, Plan, Collect, Withdraw, Series, SeriesBits, Day, Settles}
use Rattle.day_names.specs.declared.PolicyName.{PolicyName}
use Rattle.day_names.specs.declared.PolicyName.TheVariants.{Fixed, GoodputBudget, GatedBudget, GatedAggregate}
use Rattle.day_names.specs.declared.AcceptanceName.{AcceptanceName}
use Rattle.day_names.specs.declared.AcceptanceName.TheVariants.{Constant, PerPosition, Trace}
use Rattle.day_names.specs.declared.DrafterName.{DrafterName}
use Rattle.day_names.specs.declared.DrafterName.TheVariants.{Fraction, Autoregressive, BlockParallel, Absent}
use Rattle.day_names.specs.declared.PricesName.{PricesName}
use Rattle.day_names.specs.declared.PricesName.TheVariants.{Default, Bridged}
use Rattle.day_shapes.specs.declared.WrongField.{WrongField}
use Rattle.day_shapes.specs.Shapes.{expected_number}
use Rattle.day_lists.specs.declared.NoList.{NoList}
use Rattle.day_lists.specs.declared.NoList.TheVariants.{TooMany, Wrong}
use Rattle.ledger_sums.specs.declared.answer.Sums.{Sums}
use Rattle.exported.specs.declared.Told.{Told}
use Rattle.exported.specs.Telling.{told}

abbrev pub command_number : Option Command → ℕ
command_number (Some Nothing) = 0
command_number (Some Gamma) = 1
command_number (Some Policy) = 2
command_number (Some Acceptance) = 3
command_number (Some Drafter) = 4
command_number (Some Switch) = 5
command_number (Some Rates) = 6
command_number (Some Roofline) = 7
command_number (Some Table) = 8
command_number (Some Loaded) = 9
command_number (Some Prices) = 10
command_number (Some Plan) = 11
command_number (Some Collect) = 12
command_number (Some Withdraw) = 13
command_number (Some Series) = 14
command_number (Some SeriesBits) = 15
command_number (Some Day) = 16
command_number (Some Settles) = 17
command_number None = 18

abbrev pub policy_number : Option PolicyName → ℕ
policy_number (Some Fixed) = 0
policy_number (Some GoodputBudget) = 1
policy_number (Some GatedBudget) = 2
policy_number (Some GatedAggregate) = 3
policy_number None = 4

abbrev pub acceptance_number : Option AcceptanceName → ℕ
acceptance_number (Some Constant) = 0
acceptance_number (Some PerPosition) = 1
acceptance_number (Some Trace) = 2
acceptance_number None = 3

abbrev pub drafter_number : Option DrafterName → ℕ
drafter_number (Some Fraction) = 0
drafter_number (Some Autoregressive) = 1
drafter_number (Some BlockParallel) = 2
drafter_number (Some Absent) = 3
drafter_number None = 4

abbrev pub prices_number : Option PricesName → ℕ
prices_number (Some Default) = 0
prices_number (Some Bridged) = 1
prices_number None = 2

-- what was expected, and the field that is wrong
abbrev pub judged_told : Result ⊤ WrongField → Told
judged_told (Ok passed) = told 0 0 0
judged_told (Err wrong) = told (expected_number wrong.expected) 0 wrong.field

-- 1 behind no count: there is no room for the numbers
abbrev pub listed_told : Result ℕ NoList → Told
listed_told (Ok count) = told 0 count 0
listed_told (Err TooMany) = told 0 0 1
listed_told (Err (Wrong wrong)) = told (number_of wrong.refusal) 0 wrong.field

-- the number of a row that is asked for: 0 its second, 1 its drafts, 2 its sequences, 3 its committed, else its steps
abbrev pub sum_asked : ℕ → Sums → ℕ
sum_asked asked sums =
    cond (eqb asked 0) sums.second (cond (eqb asked 1) sums.drafts (cond (eqb asked 2) sums.sequences (cond (eqb asked 3) sums.committed sums.steps)))

-- 1 and the number that is asked for, where there is such a row
abbrev pub sums_told : ℕ → Result (Option Sums) Refusal → Told
sums_told asked (Ok (Some sums)) = told 0 1 (sum_asked asked sums)
sums_told asked (Ok None) = told 0 0 0
sums_told asked (Err refusal) = told (number_of refusal) 0 0
