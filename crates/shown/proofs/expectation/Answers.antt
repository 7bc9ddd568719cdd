-- `shown::expectation` meets its contract: the words stand in one line, in the order of their numbers. Assumes nothing.
use mathlib.Core.Path.{refl}
use Rattle.refusal_words.proofs.Entries.{entry_added}
use Rattle.shown.specs.Lines.{expectations}
use Rattle.shown.proofs.expectation.Goals as goal

pub returns : goal.returns
unfolding expectations
returns c = entry_added c.args.expected _ _ c.append_entry.ensures refl
