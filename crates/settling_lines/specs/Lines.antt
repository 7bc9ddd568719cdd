-- The lines of how long a width takes to settle. Each starts with the day file's line number; fields stand between commas, and a field's words
-- between blanks, its name first. Assumes nothing.
use Rattle.std.specs.Prelude.{ℕ, List, [], ◌++◌, take}
use Rattle.page.specs.Spelt.{spelt}
use Rattle.page.specs.Numbers.{decimal}
use Rattle.line_parts.specs.Parts.{labelled, headed, spaced}
use Rattle.width_way.specs.declared.Settling.{Settling}
use Rattle.width_way.specs.declared.Settling.TheVariants.{Within, NoStep, NoCandidate, AtOnce, Refused}

-- the rounds, the walks, and the width after each walk
unfoldable pub way_fields : ℕ → ℕ → List ℕ → List ℕ
unfolding spaced
way_fields rounds walks widths = labelled ",rounds " rounds ++ (labelled ",walks " walks ++ ((spelt ",widths" ++ spaced (take walks widths)) ++ spelt "\n"))

abbrev pub within_line : ℕ → ℕ → ℕ → List ℕ → List ℕ
within_line line rounds walks widths = (decimal line ++ spelt ",settles") ++ way_fields rounds walks widths

-- a width that does not come to the target, and where it stays
abbrev pub stays_line : ℕ → List ℕ → ℕ → List ℕ
stays_line line name width = (decimal line ++ (name ++ decimal width)) ++ spelt "\n"

-- a refusal is told as every refusal is
unfoldable pub answer_line : ℕ → Settling → List ℕ → List ℕ
answer_line line (Within rounds walks) widths = within_line line rounds walks widths
answer_line line (NoStep width) widths = stays_line line (spelt ",settles,never,stays ") width
answer_line line (NoCandidate width) widths = stays_line line (spelt ",settles,no candidate,stays ") width
answer_line line AtOnce widths = decimal line ++ spelt ",settles,at once\n"
answer_line line (Refused number) widths = []

-- a line of the table of the steps: the same with this largest step
unfoldable pub step_line : ℕ → ℕ → ℕ → ℕ → List ℕ → List ℕ
step_line line step rounds walks widths = headed line ",step " step ++ way_fields rounds walks widths
