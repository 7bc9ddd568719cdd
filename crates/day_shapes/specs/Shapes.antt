-- What the fields of a line have to be: a shape has a letter for each of them.
use Rattle.std.specs.Prelude.{ℕ, suc, cond, ⊤, Option, Some, None, Result, Ok, Err, List, [], ◌∷◌, eqb, get_or, drop}
use Rattle.trimming.specs.Trim.{trimmed}
use Rattle.refusals.specs.declared.Refusal.{Refusal}
use Rattle.refusals.specs.Refusals.{number_of}
use Rattle.numeral.specs.Spelling.{whole_of}
use Rattle.decimals.specs.Decimals.{decimal_of}
use Rattle.day_names.specs.Names.{policy_of, prices_of, is_none}
use Rattle.day_shapes.specs.declared.Expected.{Expected}
use Rattle.day_shapes.specs.declared.Expected.TheVariants.{MoreFields, NoMoreFields, OneOfTheNames, Number, KnownCommand}
use Rattle.day_shapes.specs.declared.WrongField.{WrongField}

-- the number that tells what was expected: of a number, that of the refusal
abbrev pub expected_number : Expected → ℕ
expected_number MoreFields = 1
expected_number NoMoreFields = 2
expected_number OneOfTheNames = 3
expected_number (Number refusal) = number_of refusal
expected_number KnownCommand = 8

-- ---- the letters: t, w, d, n, p, m and *
abbrev pub any_text : ℕ
any_text = 116

abbrev pub whole : ℕ
whole = 119

abbrev pub decimal : ℕ
decimal = 100

abbrev pub whole_or_none : ℕ
whole_or_none = 110

abbrev pub policy : ℕ
policy = 112

abbrev pub prices : ℕ
prices = 109

abbrev pub following : ℕ
following = 42

-- ---- one field: passed, or what was expected

-- what was read has to be a number
abbrev pub number_judged : {A : Type 0} → Result A Refusal → Result ⊤ Expected
number_judged (Ok value) = Ok tt
number_judged (Err refusal) = Err (Number refusal)

-- what was named has to be there
abbrev pub name_judged : {A : Type 0} → Option A → Result ⊤ Expected
name_judged (Some name) = Ok tt
name_judged None = Err OneOfTheNames

abbrev pub option_judged : List ℕ → Result ⊤ Expected
option_judged field = cond (is_none field) (Ok tt) (number_judged (whole_of field))

-- no more fields: no letter is left for the field
unfoldable pub field_judged : ℕ → List ℕ → Result ⊤ Expected
field_judged letter field =
    cond (eqb letter any_text) (Ok tt)
    (cond (eqb letter whole) (number_judged (whole_of field))
    (cond (eqb letter decimal) (number_judged (decimal_of field))
    (cond (eqb letter whole_or_none) (option_judged field)
    (cond (eqb letter policy) (name_judged (policy_of field))
    (cond (eqb letter prices) (name_judged (prices_of field))
    (cond (eqb letter following) (Ok tt)
    (Err NoMoreFields)))))))

-- ---- the fields of a line, from the one at a place on

-- a field uses up its letter, but not the one that lets fields follow
abbrev pub step_of : List ℕ → ℕ
step_of [] = 0
step_of (letter ∷ shape) = cond (eqb letter following) 0 1

-- more fields: a letter is left, and no field
abbrev pub end_judged : List ℕ → ℕ → Result ⊤ WrongField
end_judged [] place = Ok tt
end_judged (letter ∷ shape) place = cond (eqb letter following) (Ok tt) (Err (record { field = place; expected = MoreFields }))

abbrev pub or_wrong : Result ⊤ Expected → ℕ → Result ⊤ WrongField → Result ⊤ WrongField
or_wrong (Ok passed) place later = later
or_wrong (Err expected) place later = Err (record { field = place; expected = expected })

abbrev pub shape_judged : ℕ → List ℕ → List (List ℕ) → Result ⊤ WrongField
shape_judged place shape [] = end_judged shape place
shape_judged place shape (field ∷ rest) =
    or_wrong (field_judged (get_or shape 0 0) (trimmed field)) place (shape_judged (suc place) (drop (step_of shape) shape) rest)
