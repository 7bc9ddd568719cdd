-- The shape of each command's line.
use Rattle.std.specs.Prelude.{ℕ, ⊤, Option, Some, None, Result, Ok, Err, List, [], ◌∷◌}
use Rattle.text.specs.Fields.{fields}
use Rattle.day_line.specs.DayLine.{uncommented, field_of}
use Rattle.day_names.specs.declared.Command.{Command}
use Rattle.day_names.specs.declared.Command.TheVariants.{Nothing, Gamma, Policy, Acceptance, Drafter, Switch, Rates, Roofline, Table, Loaded, Prices, Plan, Collect, Withdraw, Series, SeriesBits, Day, Settles}
use Rattle.day_names.specs.declared.AcceptanceName.{AcceptanceName}
use Rattle.day_names.specs.declared.AcceptanceName.TheVariants.{Constant, PerPosition, Trace}
use Rattle.day_names.specs.declared.DrafterName.{DrafterName}
use Rattle.day_names.specs.declared.DrafterName.TheVariants.{Fraction, Autoregressive, BlockParallel, Absent}
use Rattle.day_names.specs.Names.{command_of, acceptance_of, drafter_of}
use Rattle.day_shapes.specs.declared.Expected.TheVariants.{OneOfTheNames, KnownCommand}
use Rattle.day_shapes.specs.declared.WrongField.{WrongField}
use Rattle.day_shapes.specs.Shapes.{any_text, whole, decimal, whole_or_none, policy, prices, following, shape_judged}

-- a line judged by a shape, whose first letter is the command's own field
abbrev pub shaped : List ℕ → List ℕ → Result ⊤ WrongField
shaped shape line = shape_judged 0 (any_text ∷ shape) (fields (uncommented line))

-- acceptance: constant,P · per_position,P,P,.. · trace,FILE
abbrev pub acceptance_shaped : Option AcceptanceName → List ℕ → Result ⊤ WrongField
acceptance_shaped (Some Constant) line = shaped (any_text ∷ decimal ∷ []) line
acceptance_shaped (Some PerPosition) line = shaped (any_text ∷ following ∷ []) line
acceptance_shaped (Some Trace) line = shaped (any_text ∷ any_text ∷ []) line
acceptance_shaped None line = Err (record { field = 1; expected = OneOfTheNames })

abbrev pub acceptance_judged : List ℕ → Result ⊤ WrongField
acceptance_judged line = acceptance_shaped (acceptance_of (field_of line 1)) line

-- drafter: fraction,F · autoregressive,DENSE,EXPERT,NUM,PER_TOKEN,SHARED · block_parallel,PARAMS,BLOCK · none
abbrev pub drafter_shaped : Option DrafterName → List ℕ → Result ⊤ WrongField
drafter_shaped (Some Fraction) line = shaped (any_text ∷ decimal ∷ []) line
drafter_shaped (Some Autoregressive) line = shaped (any_text ∷ decimal ∷ decimal ∷ whole ∷ whole ∷ whole ∷ []) line
drafter_shaped (Some BlockParallel) line = shaped (any_text ∷ decimal ∷ whole ∷ []) line
drafter_shaped (Some Absent) line = shaped (any_text ∷ []) line
drafter_shaped None line = Err (record { field = 1; expected = OneOfTheNames })

abbrev pub drafter_judged : List ℕ → Result ⊤ WrongField
drafter_judged line = drafter_shaped (drafter_of (field_of line 1)) line

-- a plan: the worker's two numbers, the end time, the sequences, and what is drawn
abbrev pub command_shaped : Option Command → List ℕ → Result ⊤ WrongField
command_shaped (Some Nothing) line = Ok tt
command_shaped (Some Gamma) line = shaped (whole ∷ []) line
command_shaped (Some Policy) line = shaped (policy ∷ []) line
command_shaped (Some Acceptance) line = acceptance_judged line
command_shaped (Some Drafter) line = drafter_judged line
command_shaped (Some Switch) line = shaped (whole ∷ whole_or_none ∷ decimal ∷ []) line
command_shaped (Some Rates) line = shaped (decimal ∷ decimal ∷ decimal ∷ []) line
command_shaped (Some Roofline) line = shaped (following ∷ []) line
command_shaped (Some Table) line = shaped (any_text ∷ []) line
command_shaped (Some Loaded) line = shaped (following ∷ []) line
command_shaped (Some Prices) line = shaped (prices ∷ []) line
command_shaped (Some Plan) line = shaped (whole ∷ whole ∷ decimal ∷ whole ∷ following ∷ []) line
command_shaped (Some Collect) line = shaped (whole ∷ whole ∷ []) line
command_shaped (Some Withdraw) line = shaped [] line
command_shaped (Some Series) line = shaped [] line
command_shaped (Some SeriesBits) line = shaped (any_text ∷ []) line
command_shaped (Some Day) line = shaped [] line
command_shaped (Some Settles) line = shaped (whole ∷ whole ∷ []) line
command_shaped None line = Err (record { field = 0; expected = KnownCommand })

unfoldable pub line_judged : List ℕ → Result ⊤ WrongField
line_judged line = command_shaped (command_of line) line
