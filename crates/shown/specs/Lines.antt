-- The lines that the program prints, all but those of a series. Each starts with the day file's line number; fields stand between commas, and a
-- field's words between blanks, its name first.
use Rattle.std.specs.Prelude.{ℕ, List, [], ◌∷◌, ◌++◌}
use Rattle.page.specs.Spelt.{spelt}
use Rattle.page.specs.Numbers.{decimal}
use Rattle.line_parts.specs.Parts.{labelled, headed, spaced}
use Rattle.refusal_words.specs.Words.{entry, words_of}

-- a plan's line is its head and its lists
unfoldable pub plan_head : ℕ → ℕ → ℕ → ℕ → ℕ → List ℕ
plan_head line second sequences draws slots =
    headed line ",plan,second " second ++ (labelled ",sequences " sequences ++ (labelled ",draws " draws ++ labelled ",slots " slots))

unfoldable pub plan_lists : List ℕ → List ℕ → List ℕ
unfolding spaced
plan_lists drafts commits = (spelt ",drafts" ++ spaced drafts) ++ ((spelt ",commits" ++ spaced commits) ++ spelt "\n")

unfoldable pub plan_empty : ℕ → List ℕ
plan_empty line = decimal line ++ spelt ",plan,empty\n"

unfoldable pub refusal_line : ℕ → ℕ → ℕ → List ℕ
unfolding words_of
refusal_line line number row = headed line ",refused " number ++ (spelt "," ++ (words_of number ++ (labelled ",row " row ++ spelt "\n")))

-- `by` is how many seconds a plan's second lies before that of the plan before it
unfoldable pub clock_back : ℕ → ℕ → ℕ → List ℕ
clock_back line by second = headed line ",note,clock went back " by ++ (labelled " s: seconds " second ++ spelt ".. are counted again\n")

unfoldable pub withdrawn_line : ℕ → List ℕ
withdrawn_line line = decimal line ++ spelt ",withdraw,done\n"

-- a setting that was read, by its command's name
unfoldable pub setting_line : ℕ → List ℕ → List ℕ
setting_line line name = (decimal line ++ spelt ",") ++ (name ++ spelt ",set\n")

unfoldable pub bank_line : ℕ → ℕ → ℕ → List ℕ
bank_line line rounds depth = headed line ",acceptance,rounds " rounds ++ (labelled ",depth " depth ++ spelt "\n")

unfoldable pub table_line : ℕ → ℕ → List ℕ
table_line line rows = headed line ",table,rows " rows ++ spelt "\n"

-- what was expected of a field, by its number from 0 on
unfoldable pub expectations : List (List ℕ)
expectations =
    spelt "something else"
    ∷ spelt "more fields"
    ∷ spelt "no more fields"
    ∷ spelt "one of the names"
    ∷ spelt "something else"
    ∷ spelt "a whole number"
    ∷ spelt "a decimal"
    ∷ spelt "a decimal of fewer digits"
    ∷ spelt "a known command"
    ∷ []

-- a line that cannot be read; its fields are counted from 0
unfoldable pub wrong_line : ℕ → ℕ → ℕ → List ℕ
unfolding entry expectations
wrong_line line field expected = headed line ",wrong,field " field ++ (spelt ",expected " ++ (entry expectations expected ++ spelt "\n"))

-- a file that cannot be read
unfoldable pub unreadable_line : ℕ → List ℕ → List ℕ
unreadable_line line name = (decimal line ++ spelt ",unreadable,") ++ (name ++ spelt "\n")
