-- The lines of the workers' clocks. A note starts with the day file's line number and the line of all clocks with 0; fields stand between commas,
-- and a field's words between blanks, its name first. Assumes nothing.
use Rattle.std.specs.Prelude.{ℕ, ◌/◌, cond, List, [], ◌++◌, eqb}
use Rattle.page.specs.Spelt.{spelt}
use Rattle.page.specs.Numbers.{decimal}
use Rattle.line_parts.specs.Parts.{labelled, headed}

-- the day's hour that a second is of
abbrev pub hour_of : ℕ → ℕ
hour_of second = second / 3600

-- a plan's worker and its hour
abbrev pub note_head : ℕ → ℕ → ℕ → ℕ → List ℕ
note_head line a b second = headed line ",note,worker " a ++ (labelled " " b ++ labelled ",hour " (hour_of second))

-- what is told of a number, where it is above 0
abbrev pub if_any : ℕ → List ℕ → List ℕ
if_any n words = cond (eqb n 0) [] words

-- how far a clock went, behind the words that say where
abbrev pub moved : List ℕ → ℕ → List ℕ
moved name seconds = if_any seconds ((name ++ decimal seconds) ++ spelt " s")

abbrev pub went_back : ℕ → List ℕ
went_back seconds = moved (spelt ",clock went back ") seconds

abbrev pub went_forward : ℕ → List ℕ
went_forward seconds = moved (spelt ",clock went forward ") seconds

-- from which second on steps are counted again, and how many of those that stand there are doubled
abbrev pub counted_again : ℕ → ℕ → List ℕ
counted_again second doubled = if_any doubled (labelled ",counted again from second " second ++ labelled ",steps doubled " doubled)

-- what the clock of a plan's worker did
abbrev pub clock_told : ℕ → ℕ → ℕ → ℕ → List ℕ
clock_told second back forward doubled = went_back back ++ (went_forward forward ++ counted_again second doubled)

-- the note on a plan: its worker is a b
unfoldable pub note_line : ℕ → ℕ → ℕ → ℕ → ℕ → ℕ → ℕ → List ℕ
note_line line a b second back forward doubled = note_head line a b second ++ (clock_told second back forward doubled ++ spelt "\n")

-- what a day ends with
unfoldable pub clocks_line : ℕ → ℕ → ℕ → ℕ → List ℕ
clocks_line workers back forward doubled =
    labelled "0,clocks,workers " workers
    ++ (labelled ",went back " back ++ (labelled ",went forward " forward ++ (labelled ",steps counted again " doubled ++ spelt "\n")))
