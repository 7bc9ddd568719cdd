-- `signals::model_slots` meets its contract: the model's values are stored one after the other over 64 zeros. Assumes nothing.
use mathlib.Core.Path.{refl, sym, ◌∙◌}
use Prim.Native.Nat.{◌≤◌, ◌<◌}
use native.Mathlib.Omega.{arith}
use lib.ListN.{length}
use Rattle.rounds.specs.Signals.{slots, values_from}
use Rattle.rounds.proofs.Laid.{storing_begins, storing_value, storing_ends, stored_slots}
use Rattle.rounds.proofs.Parts.{values_length, value_at}
use Rattle.rounds.proofs.signals.model_slots.Goals as goal

pub loop-d-init : goal.loop-d-init
loop-d-init c =
    let a = c.args in
    let v = values_from a.model a.positions.now 0 a.gamma in
    let l : length v ≤ 64 = omega (arith, values_length a.model a.positions.now 0 a.gamma, c.requires) in
    storing_begins v _ _ 0 _ refl (stored_slots v l)

pub loop-d-preserved : goal.loop-d-preserved
loop-d-preserved c =
    let a = c.args in
    let here = c.loop-d in
    let v = values_from a.model a.positions.now 0 a.gamma in
    let l : here.d < length v = omega (arith, values_length a.model a.positions.now 0 a.gamma, c.loop-d-test.true) in
    storing_value v (slots v) 64 0 here.out here.d here.d _ (omega arith) l (c.a_d.ensures ∙ sym (value_at a.model a.positions.now a.gamma here.d c.loop-d-test.true)) here.invariant

pub returns : goal.returns
returns c =
    let a = c.args in
    let v = values_from a.model a.positions.now 0 a.gamma in
    let l : length v ≤ c.loop-d.d = omega (arith, values_length a.model a.positions.now 0 a.gamma, c.loop-d-test.false) in
    storing_ends v (slots v) 64 0 c.loop-d.out c.loop-d.d l c.loop-d.invariant
