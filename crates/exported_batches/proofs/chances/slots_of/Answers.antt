-- `chances::slots_of` meets its contract: the confidences are stored one after the other over 64 zeros. Assumes nothing.
use mathlib.Core.Path.{refl}
use Prim.Native.Nat.{◌-◌}
use native.Mathlib.Omega.{arith}
use Rattle.rounds.specs.Signals.{slots}
use Rattle.rounds.proofs.Laid.{storing_begins, storing_next, storing_ends, stored_slots}
use Rattle.exported_batches.proofs.chances.slots_of.Goals as goal

pub loop-d-init : goal.loop-d-init
loop-d-init c = let v = c.args.confidences.now in storing_begins v (slots v) 64 0 _ refl (stored_slots v c.requires)

pub loop-d-preserved : goal.loop-d-preserved
loop-d-preserved c = storing_next _ _ 64 0 c.loop-d.out c.loop-d.d c.loop-d.d (omega arith) c.loop-d-test.true c.loop-d.invariant

pub returns : goal.returns
returns c = storing_ends _ _ 64 0 c.loop-d.out c.loop-d.d c.loop-d-test.false c.loop-d.invariant
