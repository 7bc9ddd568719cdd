-- `shown::refusal` meets its contract: one part behind another. Assumes nothing.
use Rattle.page.proofs.Adding.{both}
use Rattle.shown.specs.Lines.{refusal_line}
use Rattle.shown.proofs.refusal.Goals as goal

pub returns : goal.returns
unfolding refusal_line
returns c = both c.headed-a.ensures (both c.append-b.ensures (both c.append_words-c.ensures (both c.labelled-d.ensures c.append.ensures)))
