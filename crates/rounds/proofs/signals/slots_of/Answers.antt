-- `signals::slots_of` meets its contract: what is behind the confidences stays 0.0. Assumes nothing.
use lib.ListN.{length}
use Rattle.rounds.proofs.Laid.{drop_zeros}
use Rattle.rounds.proofs.signals.slots_of.Goals as goal

pub returns : goal.returns
returns c = rw (c.copy_from_slice.ensures.after, drop_zeros 64 (length c.args.confidences.now) c.requires)
