-- `follow` meets its contract: each turn writes the width after one walk more. Assumes nothing.
use native.Mathlib.Omega.{arith}
use Rattle.width_way.proofs.Following.{followed_none, next_inside, followed_next, followed_all}
use Rattle.width_way.proofs.follow.Goals as goal

pub loop-k-init : goal.loop-k-init
loop-k-init c =
    let a = c.args in
    followed_none a.step a.candidates.now a.to a.at a.walks _ c.requires.at_in_bounds.0

pub offset_bounds-candidates-i : goal.offset_bounds-candidates-i
offset_bounds-candidates-i c =
    let a = c.args in
    let h = next_inside a.step a.candidates.now a.to a.at a.walks _ c.requires.at_in_bounds.1 c.walk_index-i.ensures c.loop-k.invariant in
    omega (arith, h)

pub bounds-candidates-i : goal.bounds-candidates-i
bounds-candidates-i c =
    let a = c.args in
    next_inside a.step a.candidates.now a.to a.at a.walks _ c.requires.at_in_bounds.1 c.walk_index-i.ensures c.loop-k.invariant

pub loop-k-preserved : goal.loop-k-preserved
loop-k-preserved c =
    let a = c.args in
    followed_next a.step a.candidates.now a.to a.at a.walks _ c.requires.at_in_bounds.1 c.requires.walks_in_bounds c.loop-k-test.true c.walk_index-i.ensures c.loop-k.invariant

pub returns : goal.returns
returns c =
    let a = c.args in
    followed_all a.step a.candidates.now a.to a.at a.walks _ c.loop-k-test.false c.loop-k.invariant
