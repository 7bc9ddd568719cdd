-- `refusal_words::append_words` meets its contract: the words stand in one line, in the order of their numbers. Assumes nothing.
use mathlib.Core.Path.{refl}
use Rattle.refusal_words.specs.Words.{table, words_of}
use Rattle.refusal_words.proofs.Entries.{entry_added}
use Rattle.refusal_words.proofs.append_words.Goals as goal

pub returns : goal.returns
unfolding table words_of
returns c = entry_added c.args.number _ table c.append_entry.ensures refl
