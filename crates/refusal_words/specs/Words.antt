-- The rules' words for each refusal number. They have no comma, so that a line that has them can be split at its commas.
use Rattle.std.specs.Prelude.{ℕ, List, [], ◌∷◌, get_or}
use Rattle.page.specs.Spelt.{spelt}

-- the entry of a number, counted from 0; the first where there are fewer
unfoldable pub entry : List (List ℕ) → ℕ → List ℕ
entry words number = get_or words number (get_or words 0 [])

-- `unknown` for a number that is no refusal's, and then from 1 on
unfoldable pub table : List (List ℕ)
table =
    spelt "unknown"
    ∷ spelt "a text byte is above 127"
    ∷ spelt "the text has length 0"
    ∷ spelt "the header is wrong"
    ∷ spelt "a row's field count differs"
    ∷ spelt "a whole number is malformed or above 4294967295"
    ∷ spelt "a decimal is malformed"
    ∷ spelt "a decimal has over 15 significant digits or over 22 decimals"
    ∷ spelt "step_seconds is not above zero"
    ∷ spelt "num_draft_tokens is 0"
    ∷ spelt "no data rows"
    ∷ spelt "a size is passed"
    ∷ spelt "a setting is out of range"
    ∷ spelt "a needed draw is absent"
    ∷ spelt "a draw is not at least 0 and below 1 or a round index is not below the round count"
    ∷ spelt "a cost input or signal value or chain or expected value or width or bank or table value or lent record is out of range"
    ∷ spelt "a lent buffer is too short"
    ∷ spelt "the worker is new and 256 are held"
    ∷ spelt "the second is new and 4096 are held"
    ∷ spelt "the second already has 1000000 steps"
    ∷ spelt "no rows after sanitisation"
    ∷ spelt "no withdrawal is available"
    ∷ []

unfoldable pub words_of : ℕ → List ℕ
unfolding entry table
words_of number = entry table number
