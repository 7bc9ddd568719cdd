-- `columns::append_blanks` meets its contract: behind the text so many blanks stand as there were turns. Assumes nothing.
use Rattle.page.specs.Page.{Added}
use Rattle.columns.specs.Columns.{blanks}
use Rattle.columns.proofs.append_blanks.Given as goal

abbrev pub invariant-loop : goal.invariant-loop
invariant-loop l = Added l.initial.page l.initial.at (blanks l.counter) l.page l.at
