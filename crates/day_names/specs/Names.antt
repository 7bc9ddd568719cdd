-- The names of a day file, as bytes, and what each stands for.
use Rattle.std.specs.Prelude.{ℕ, Bool, ◌&&◌, cond, Option, Some, None, List, [], ◌∷◌, eqb, length}
use Rattle.text.specs.Fields.{same_text}
use Rattle.day_line.specs.DayLine.{uncommented, field_of}
use Rattle.day_names.specs.declared.Command.{Command}
use Rattle.day_names.specs.declared.Command.TheVariants.{Nothing, Gamma, Policy, Acceptance, Drafter, Switch, Rates, Roofline, Table, Loaded, Prices, Plan, Collect, Withdraw, Series, SeriesBits, Day, Settles}
use Rattle.day_names.specs.declared.PolicyName.{PolicyName}
use Rattle.day_names.specs.declared.PolicyName.TheVariants.{Fixed, GoodputBudget, GatedBudget, GatedAggregate}
use Rattle.day_names.specs.declared.AcceptanceName.{AcceptanceName}
use Rattle.day_names.specs.declared.AcceptanceName.TheVariants.{Constant, PerPosition, Trace}
use Rattle.day_names.specs.declared.DrafterName.{DrafterName}
use Rattle.day_names.specs.declared.DrafterName.TheVariants.{Fraction, Autoregressive, BlockParallel, Absent}
use Rattle.day_names.specs.declared.PricesName.{PricesName}
use Rattle.day_names.specs.declared.PricesName.TheVariants.{Default, Bridged}

-- `gamma`
abbrev pub gamma_text : List ℕ
gamma_text = 103 ∷ 97 ∷ 109 ∷ 109 ∷ 97 ∷ []

-- `policy`
abbrev pub policy_text : List ℕ
policy_text = 112 ∷ 111 ∷ 108 ∷ 105 ∷ 99 ∷ 121 ∷ []

-- `acceptance`
abbrev pub acceptance_text : List ℕ
acceptance_text = 97 ∷ 99 ∷ 99 ∷ 101 ∷ 112 ∷ 116 ∷ 97 ∷ 110 ∷ 99 ∷ 101 ∷ []

-- `drafter`
abbrev pub drafter_text : List ℕ
drafter_text = 100 ∷ 114 ∷ 97 ∷ 102 ∷ 116 ∷ 101 ∷ 114 ∷ []

-- `switch`
abbrev pub switch_text : List ℕ
switch_text = 115 ∷ 119 ∷ 105 ∷ 116 ∷ 99 ∷ 104 ∷ []

-- `rates`
abbrev pub rates_text : List ℕ
rates_text = 114 ∷ 97 ∷ 116 ∷ 101 ∷ 115 ∷ []

-- `roofline`
abbrev pub roofline_text : List ℕ
roofline_text = 114 ∷ 111 ∷ 111 ∷ 102 ∷ 108 ∷ 105 ∷ 110 ∷ 101 ∷ []

-- `table`
abbrev pub table_text : List ℕ
table_text = 116 ∷ 97 ∷ 98 ∷ 108 ∷ 101 ∷ []

-- `loaded`
abbrev pub loaded_text : List ℕ
loaded_text = 108 ∷ 111 ∷ 97 ∷ 100 ∷ 101 ∷ 100 ∷ []

-- `prices`
abbrev pub prices_text : List ℕ
prices_text = 112 ∷ 114 ∷ 105 ∷ 99 ∷ 101 ∷ 115 ∷ []

-- `plan`
abbrev pub plan_text : List ℕ
plan_text = 112 ∷ 108 ∷ 97 ∷ 110 ∷ []

-- `collect`
abbrev pub collect_text : List ℕ
collect_text = 99 ∷ 111 ∷ 108 ∷ 108 ∷ 101 ∷ 99 ∷ 116 ∷ []

-- `withdraw`
abbrev pub withdraw_text : List ℕ
withdraw_text = 119 ∷ 105 ∷ 116 ∷ 104 ∷ 100 ∷ 114 ∷ 97 ∷ 119 ∷ []

-- `series`
abbrev pub series_text : List ℕ
series_text = 115 ∷ 101 ∷ 114 ∷ 105 ∷ 101 ∷ 115 ∷ []

-- `bits`
abbrev pub bits_text : List ℕ
bits_text = 98 ∷ 105 ∷ 116 ∷ 115 ∷ []

-- `day`
abbrev pub day_text : List ℕ
day_text = 100 ∷ 97 ∷ 121 ∷ []

-- `settles`
abbrev pub settles_text : List ℕ
settles_text = 115 ∷ 101 ∷ 116 ∷ 116 ∷ 108 ∷ 101 ∷ 115 ∷ []

-- `fixed`
abbrev pub fixed_text : List ℕ
fixed_text = 102 ∷ 105 ∷ 120 ∷ 101 ∷ 100 ∷ []

-- `goodput_budget`
abbrev pub goodput_budget_text : List ℕ
goodput_budget_text = 103 ∷ 111 ∷ 111 ∷ 100 ∷ 112 ∷ 117 ∷ 116 ∷ 95 ∷ 98 ∷ 117 ∷ 100 ∷ 103 ∷ 101 ∷ 116 ∷ []

-- `gated_budget`
abbrev pub gated_budget_text : List ℕ
gated_budget_text = 103 ∷ 97 ∷ 116 ∷ 101 ∷ 100 ∷ 95 ∷ 98 ∷ 117 ∷ 100 ∷ 103 ∷ 101 ∷ 116 ∷ []

-- `gated_aggregate`
abbrev pub gated_aggregate_text : List ℕ
gated_aggregate_text = 103 ∷ 97 ∷ 116 ∷ 101 ∷ 100 ∷ 95 ∷ 97 ∷ 103 ∷ 103 ∷ 114 ∷ 101 ∷ 103 ∷ 97 ∷ 116 ∷ 101 ∷ []

-- `constant`
abbrev pub constant_text : List ℕ
constant_text = 99 ∷ 111 ∷ 110 ∷ 115 ∷ 116 ∷ 97 ∷ 110 ∷ 116 ∷ []

-- `per_position`
abbrev pub per_position_text : List ℕ
per_position_text = 112 ∷ 101 ∷ 114 ∷ 95 ∷ 112 ∷ 111 ∷ 115 ∷ 105 ∷ 116 ∷ 105 ∷ 111 ∷ 110 ∷ []

-- `trace`
abbrev pub trace_text : List ℕ
trace_text = 116 ∷ 114 ∷ 97 ∷ 99 ∷ 101 ∷ []

-- `fraction`
abbrev pub fraction_text : List ℕ
fraction_text = 102 ∷ 114 ∷ 97 ∷ 99 ∷ 116 ∷ 105 ∷ 111 ∷ 110 ∷ []

-- `autoregressive`
abbrev pub autoregressive_text : List ℕ
autoregressive_text = 97 ∷ 117 ∷ 116 ∷ 111 ∷ 114 ∷ 101 ∷ 103 ∷ 114 ∷ 101 ∷ 115 ∷ 115 ∷ 105 ∷ 118 ∷ 101 ∷ []

-- `block_parallel`
abbrev pub block_parallel_text : List ℕ
block_parallel_text = 98 ∷ 108 ∷ 111 ∷ 99 ∷ 107 ∷ 95 ∷ 112 ∷ 97 ∷ 114 ∷ 97 ∷ 108 ∷ 108 ∷ 101 ∷ 108 ∷ []

-- `default`
abbrev pub default_text : List ℕ
default_text = 100 ∷ 101 ∷ 102 ∷ 97 ∷ 117 ∷ 108 ∷ 116 ∷ []

-- `bridged`
abbrev pub bridged_text : List ℕ
bridged_text = 98 ∷ 114 ∷ 105 ∷ 100 ∷ 103 ∷ 101 ∷ 100 ∷ []

-- `none`
abbrev pub none_text : List ℕ
none_text = 110 ∷ 111 ∷ 110 ∷ 101 ∷ []

abbrev pub is_none : List ℕ → Bool
is_none name = same_text name none_text

-- the command of this name that acts or tells, none where there is none
unfoldable pub act_named : List ℕ → Option Command
act_named name =
    cond (same_text name plan_text) (Some Plan)
    (cond (same_text name collect_text) (Some Collect)
    (cond (same_text name withdraw_text) (Some Withdraw)
    (cond (same_text name series_text) (Some Series)
    (cond (same_text name day_text) (Some Day)
    (cond (same_text name settles_text) (Some Settles)
    None)))))

-- the command of this name, none where there is none
unfoldable pub setting_named : List ℕ → Option Command
setting_named name =
    cond (same_text name gamma_text) (Some Gamma)
    (cond (same_text name policy_text) (Some Policy)
    (cond (same_text name acceptance_text) (Some Acceptance)
    (cond (same_text name drafter_text) (Some Drafter)
    (cond (same_text name switch_text) (Some Switch)
    (cond (same_text name rates_text) (Some Rates)
    (cond (same_text name roofline_text) (Some Roofline)
    (cond (same_text name table_text) (Some Table)
    (cond (same_text name loaded_text) (Some Loaded)
    (cond (same_text name prices_text) (Some Prices)
    (act_named name))))))))))

-- `series,bits`
abbrev pub is_bit_series : List ℕ → Bool
is_bit_series line = same_text (field_of line 0) series_text && same_text (field_of line 1) bits_text

-- the command of a line, by its first field, none where that is no command's name; a line that is empty before its comment asks for nothing
unfoldable pub command_of : List ℕ → Option Command
command_of line = cond (eqb (length (uncommented line)) 0) (Some Nothing) (cond (is_bit_series line) (Some SeriesBits) (setting_named (field_of line 0)))

-- the policy of this name, if there is one
unfoldable pub policy_of : List ℕ → Option PolicyName
policy_of name =
    cond (same_text name fixed_text) (Some Fixed)
    (cond (same_text name goodput_budget_text) (Some GoodputBudget)
    (cond (same_text name gated_budget_text) (Some GatedBudget)
    (cond (same_text name gated_aggregate_text) (Some GatedAggregate)
    None)))

-- the way of accepting drafts of this name, if there is one
unfoldable pub acceptance_of : List ℕ → Option AcceptanceName
acceptance_of name =
    cond (same_text name constant_text) (Some Constant)
    (cond (same_text name per_position_text) (Some PerPosition)
    (cond (same_text name trace_text) (Some Trace)
    None))

-- the drafter of this name, if there is one; `none` is no drafter
unfoldable pub drafter_of : List ℕ → Option DrafterName
drafter_of name =
    cond (same_text name fraction_text) (Some Fraction)
    (cond (same_text name autoregressive_text) (Some Autoregressive)
    (cond (same_text name block_parallel_text) (Some BlockParallel)
    (cond (same_text name none_text) (Some Absent)
    None)))

-- the price mode of this name, if there is one
unfoldable pub prices_of : List ℕ → Option PricesName
prices_of name =
    cond (same_text name default_text) (Some Default)
    (cond (same_text name bridged_text) (Some Bridged)
    None)
