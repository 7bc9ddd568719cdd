-- Worked examples of what a line of a day file asks for, by computation. Assumes nothing.
use mathlib.Core.Path.{◌≡◌, refl}
use mathlib.Core.List.{[], ◌∷◌}
use Rattle.numeral.specs.Spelling.{whole_of}
use Rattle.decimals.specs.Decimals.{is_too_long, of_parts, unsigned_of, decimal_of}
use Rattle.day_line.specs.DayLine.{uncommented}
use Rattle.day_names.specs.declared.Command.TheVariants.{Nothing, Gamma, Rates, Series, SeriesBits}
use Rattle.day_names.specs.Names.{command_of, setting_named, act_named, policy_of, acceptance_of, drafter_of, prices_of}
use Rattle.std.specs.Prelude.{Ok, Err, Some, None}
use Rattle.refusals.specs.declared.Refusal.TheVariants.{MalformedWhole, MalformedDecimal, LongDecimal}
use Rattle.day_shapes.specs.declared.Expected.TheVariants.{MoreFields, NoMoreFields, OneOfTheNames, Number, KnownCommand}
use Rattle.day_shapes.specs.Shapes.{field_judged}
use Rattle.day_fields.specs.Commands.{line_judged}

-- `gamma,4`
gamma_line : command_of (103 ∷ 97 ∷ 109 ∷ 109 ∷ 97 ∷ 44 ∷ 52 ∷ []) ≡ Some Gamma
unfolding uncommented act_named setting_named command_of
gamma_line = refl

-- ` rates , 1,1,0`
blanks_around : command_of (32 ∷ 114 ∷ 97 ∷ 116 ∷ 101 ∷ 115 ∷ 32 ∷ 44 ∷ 32 ∷ 49 ∷ 44 ∷ 49 ∷ 44 ∷ 48 ∷ []) ≡ Some Rates
unfolding uncommented act_named setting_named command_of
blanks_around = refl

-- `series, bits # in hex`
bits_asked : command_of (115 ∷ 101 ∷ 114 ∷ 105 ∷ 101 ∷ 115 ∷ 44 ∷ 32 ∷ 98 ∷ 105 ∷ 116 ∷ 115 ∷ 32 ∷ 35 ∷ 32 ∷ 105 ∷ 110 ∷ 32 ∷ 104 ∷ 101 ∷ 120 ∷ []) ≡ Some SeriesBits
unfolding uncommented act_named setting_named command_of
bits_asked = refl

-- `series`
plain_series : command_of (115 ∷ 101 ∷ 114 ∷ 105 ∷ 101 ∷ 115 ∷ []) ≡ Some Series
unfolding uncommented act_named setting_named command_of
plain_series = refl

-- `# gamma,4`
only_a_comment : command_of (35 ∷ 32 ∷ 103 ∷ 97 ∷ 109 ∷ 109 ∷ 97 ∷ 44 ∷ 52 ∷ []) ≡ Some Nothing
unfolding uncommented act_named setting_named command_of
only_a_comment = refl

-- `Gamma,4`
another_name : command_of (71 ∷ 97 ∷ 109 ∷ 109 ∷ 97 ∷ 44 ∷ 52 ∷ []) ≡ None
unfolding uncommented act_named setting_named command_of
another_name = refl

-- `,4`
no_name : command_of (44 ∷ 52 ∷ []) ≡ None
unfolding uncommented act_named setting_named command_of
no_name = refl

-- `# noon`
comment_is_right : line_judged (35 ∷ 32 ∷ 110 ∷ 111 ∷ 111 ∷ 110 ∷ []) ≡ Ok tt
unfolding uncommented act_named setting_named command_of policy_of acceptance_of drafter_of whole_of is_too_long of_parts unsigned_of decimal_of field_judged line_judged
comment_is_right = refl

-- `gamma,4`
gamma_right : line_judged (103 ∷ 97 ∷ 109 ∷ 109 ∷ 97 ∷ 44 ∷ 52 ∷ []) ≡ Ok tt
unfolding uncommented act_named setting_named command_of policy_of acceptance_of drafter_of whole_of is_too_long of_parts unsigned_of decimal_of field_judged line_judged
gamma_right = refl

-- `gamma,x`
gamma_word : line_judged (103 ∷ 97 ∷ 109 ∷ 109 ∷ 97 ∷ 44 ∷ 120 ∷ []) ≡ Err (record { field = 1; expected = Number MalformedWhole })
unfolding uncommented act_named setting_named command_of policy_of acceptance_of drafter_of whole_of is_too_long of_parts unsigned_of decimal_of field_judged line_judged
gamma_word = refl

-- `gamma`
gamma_alone : line_judged (103 ∷ 97 ∷ 109 ∷ 109 ∷ 97 ∷ []) ≡ Err (record { field = 1; expected = MoreFields })
unfolding uncommented act_named setting_named command_of policy_of acceptance_of drafter_of whole_of is_too_long of_parts unsigned_of decimal_of field_judged line_judged
gamma_alone = refl

-- `gamma,4,5`
gamma_twice : line_judged (103 ∷ 97 ∷ 109 ∷ 109 ∷ 97 ∷ 44 ∷ 52 ∷ 44 ∷ 53 ∷ []) ≡ Err (record { field = 2; expected = NoMoreFields })
unfolding uncommented act_named setting_named command_of policy_of acceptance_of drafter_of whole_of is_too_long of_parts unsigned_of decimal_of field_judged line_judged
gamma_twice = refl

-- `policy,best`
no_policy : line_judged (112 ∷ 111 ∷ 108 ∷ 105 ∷ 99 ∷ 121 ∷ 44 ∷ 98 ∷ 101 ∷ 115 ∷ 116 ∷ []) ≡ Err (record { field = 1; expected = OneOfTheNames })
unfolding uncommented act_named setting_named command_of policy_of acceptance_of drafter_of whole_of is_too_long of_parts unsigned_of decimal_of field_judged line_judged
no_policy = refl

-- `prices,bridged`
bridged_right : line_judged (112 ∷ 114 ∷ 105 ∷ 99 ∷ 101 ∷ 115 ∷ 44 ∷ 98 ∷ 114 ∷ 105 ∷ 100 ∷ 103 ∷ 101 ∷ 100 ∷ []) ≡ Ok tt
unfolding uncommented act_named setting_named command_of prices_of field_judged line_judged
bridged_right = refl

-- `prices,cheap`
no_prices : line_judged (112 ∷ 114 ∷ 105 ∷ 99 ∷ 101 ∷ 115 ∷ 44 ∷ 99 ∷ 104 ∷ 101 ∷ 97 ∷ 112 ∷ []) ≡ Err (record { field = 1; expected = OneOfTheNames })
unfolding uncommented act_named setting_named command_of prices_of field_judged line_judged
no_prices = refl

-- `settles,6,0`
settles_right : line_judged (115 ∷ 101 ∷ 116 ∷ 116 ∷ 108 ∷ 101 ∷ 115 ∷ 44 ∷ 54 ∷ 44 ∷ 48 ∷ []) ≡ Ok tt
unfolding uncommented act_named setting_named command_of whole_of field_judged line_judged
settles_right = refl

-- `settles,6`
settles_one : line_judged (115 ∷ 101 ∷ 116 ∷ 116 ∷ 108 ∷ 101 ∷ 115 ∷ 44 ∷ 54 ∷ []) ≡ Err (record { field = 2; expected = MoreFields })
unfolding uncommented act_named setting_named command_of whole_of field_judged line_judged
settles_one = refl

-- `settles,6,none`
settles_none : line_judged (115 ∷ 101 ∷ 116 ∷ 116 ∷ 108 ∷ 101 ∷ 115 ∷ 44 ∷ 54 ∷ 44 ∷ 110 ∷ 111 ∷ 110 ∷ 101 ∷ []) ≡ Err (record { field = 2; expected = Number MalformedWhole })
unfolding uncommented act_named setting_named command_of whole_of field_judged line_judged
settles_none = refl

-- `gama,4`
no_command : line_judged (103 ∷ 97 ∷ 109 ∷ 97 ∷ 44 ∷ 52 ∷ []) ≡ Err (record { field = 0; expected = KnownCommand })
unfolding uncommented act_named setting_named command_of policy_of acceptance_of drafter_of whole_of is_too_long of_parts unsigned_of decimal_of field_judged line_judged
no_command = refl

-- `switch,2,none,5.0`
unlimited_step : line_judged (115 ∷ 119 ∷ 105 ∷ 116 ∷ 99 ∷ 104 ∷ 44 ∷ 50 ∷ 44 ∷ 110 ∷ 111 ∷ 110 ∷ 101 ∷ 44 ∷ 53 ∷ 46 ∷ 48 ∷ []) ≡ Ok tt
unfolding uncommented act_named setting_named command_of policy_of acceptance_of drafter_of whole_of is_too_long of_parts unsigned_of decimal_of field_judged line_judged
unlimited_step = refl

-- `drafter,fraction,0.05`
fraction_right : line_judged (100 ∷ 114 ∷ 97 ∷ 102 ∷ 116 ∷ 101 ∷ 114 ∷ 44 ∷ 102 ∷ 114 ∷ 97 ∷ 99 ∷ 116 ∷ 105 ∷ 111 ∷ 110 ∷ 44 ∷ 48 ∷ 46 ∷ 48 ∷ 53 ∷ []) ≡ Ok tt
unfolding uncommented act_named setting_named command_of policy_of acceptance_of drafter_of whole_of is_too_long of_parts unsigned_of decimal_of field_judged line_judged
fraction_right = refl

-- `drafter,none`
no_drafter : line_judged (100 ∷ 114 ∷ 97 ∷ 102 ∷ 116 ∷ 101 ∷ 114 ∷ 44 ∷ 110 ∷ 111 ∷ 110 ∷ 101 ∷ []) ≡ Ok tt
unfolding uncommented act_named setting_named command_of policy_of acceptance_of drafter_of whole_of is_too_long of_parts unsigned_of decimal_of field_judged line_judged
no_drafter = refl

-- `drafter,half`
drafter_unnamed : line_judged (100 ∷ 114 ∷ 97 ∷ 102 ∷ 116 ∷ 101 ∷ 114 ∷ 44 ∷ 104 ∷ 97 ∷ 108 ∷ 102 ∷ []) ≡ Err (record { field = 1; expected = OneOfTheNames })
unfolding uncommented act_named setting_named command_of policy_of acceptance_of drafter_of whole_of is_too_long of_parts unsigned_of decimal_of field_judged line_judged
drafter_unnamed = refl

-- `acceptance,constant,0.8.1`
two_points : line_judged (97 ∷ 99 ∷ 99 ∷ 101 ∷ 112 ∷ 116 ∷ 97 ∷ 110 ∷ 99 ∷ 101 ∷ 44 ∷ 99 ∷ 111 ∷ 110 ∷ 115 ∷ 116 ∷ 97 ∷ 110 ∷ 116 ∷ 44 ∷ 48 ∷ 46 ∷ 56 ∷ 46 ∷ 49 ∷ []) ≡ Err (record { field = 2; expected = Number MalformedDecimal })
unfolding uncommented act_named setting_named command_of policy_of acceptance_of drafter_of whole_of is_too_long of_parts unsigned_of decimal_of field_judged line_judged
two_points = refl

-- `acceptance,constant,0.8000000000000001`
too_many_digits : line_judged (97 ∷ 99 ∷ 99 ∷ 101 ∷ 112 ∷ 116 ∷ 97 ∷ 110 ∷ 99 ∷ 101 ∷ 44 ∷ 99 ∷ 111 ∷ 110 ∷ 115 ∷ 116 ∷ 97 ∷ 110 ∷ 116 ∷ 44 ∷ 48 ∷ 46 ∷ 56 ∷ 48 ∷ 48 ∷ 48 ∷ 48 ∷ 48 ∷ 48 ∷ 48 ∷ 48 ∷ 48 ∷ 48 ∷ 48 ∷ 48 ∷ 48 ∷ 48 ∷ 49 ∷ []) ≡ Err (record { field = 2; expected = Number LongDecimal })
unfolding uncommented act_named setting_named command_of policy_of acceptance_of drafter_of whole_of is_too_long of_parts unsigned_of decimal_of field_judged line_judged
too_many_digits = refl

-- `plan,0,0,5.5,2,0.25,x`: what is drawn is judged where it is read
plan_right : line_judged (112 ∷ 108 ∷ 97 ∷ 110 ∷ 44 ∷ 48 ∷ 44 ∷ 48 ∷ 44 ∷ 53 ∷ 46 ∷ 53 ∷ 44 ∷ 50 ∷ 44 ∷ 48 ∷ 46 ∷ 50 ∷ 53 ∷ 44 ∷ 120 ∷ []) ≡ Ok tt
unfolding uncommented act_named setting_named command_of policy_of acceptance_of drafter_of whole_of is_too_long of_parts unsigned_of decimal_of field_judged line_judged
plan_right = refl

-- `plan,0,0,5.5`
plan_short : line_judged (112 ∷ 108 ∷ 97 ∷ 110 ∷ 44 ∷ 48 ∷ 44 ∷ 48 ∷ 44 ∷ 53 ∷ 46 ∷ 53 ∷ []) ≡ Err (record { field = 4; expected = MoreFields })
unfolding uncommented act_named setting_named command_of policy_of acceptance_of drafter_of whole_of is_too_long of_parts unsigned_of decimal_of field_judged line_judged
plan_short = refl

-- `series,words`
other_series : line_judged (115 ∷ 101 ∷ 114 ∷ 105 ∷ 101 ∷ 115 ∷ 44 ∷ 119 ∷ 111 ∷ 114 ∷ 100 ∷ 115 ∷ []) ≡ Err (record { field = 1; expected = NoMoreFields })
unfolding uncommented act_named setting_named command_of policy_of acceptance_of drafter_of whole_of is_too_long of_parts unsigned_of decimal_of field_judged line_judged
other_series = refl
