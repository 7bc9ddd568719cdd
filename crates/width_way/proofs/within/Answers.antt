-- `within` meets its contract. Assumes nothing.
use native.Mathlib.Omega.{arith}
use Rattle.width_way.proofs.Following.{candidate_there}
use Rattle.width_way.proofs.Ways.{arrived, rounds_fit}
use Rattle.width_way.proofs.within.Goals as goal

pub snap_index-at-requires : goal.snap_index-at-requires
snap_index-at-requires c =
    let h = (candidate_there c.args.candidates.now c.args.target c.requires.target_value.0).0 in
    omega (arith, h)

pub walks-walks-requires-clause-at_bound : goal.walks-walks-requires-clause-at_bound
walks-walks-requires-clause-at_bound c = let h = (candidate_there c.args.candidates.now c.args.target c.requires.target_value.0).0 in
    let few = c.requires.ready.few in (omega (arith, few, c.snap_index-at.ensures.upper_bound), omega (arith, few, h, c.first_at_least-to.ensures.value))

pub walks-walks-requires-clause-step_value : goal.walks-walks-requires-clause-step_value
walks-walks-requires-clause-step_value c = let h = (candidate_there c.args.candidates.now c.args.target c.requires.target_value.0).0 in
    let few = c.requires.ready.few in c.requires.target_value.1

pub follow-requires-clause-at_in_bounds : goal.follow-requires-clause-at_in_bounds
follow-requires-clause-at_in_bounds c = let h = (candidate_there c.args.candidates.now c.args.target c.requires.target_value.0).0 in
    let roomy = c.requires.ready.roomy in (c.snap_index-at.ensures.upper_bound, omega (arith, h, c.first_at_least-to.ensures.value))

pub follow-requires-clause-walks_in_bounds : goal.follow-requires-clause-walks_in_bounds
follow-requires-clause-walks_in_bounds c = let h = (candidate_there c.args.candidates.now c.args.target c.requires.target_value.0).0 in
    let roomy = c.requires.ready.roomy in omega (arith, roomy, c.walks-walks.ensures.upper_bound)

pub overflow_mul-rounds : goal.overflow_mul-rounds
overflow_mul-rounds c =
    let h = rounds_fit _ _ c.walks-walks.ensures.upper_bound c.pause.ensures.upper_bound in
    omega (arith, h)

pub returns : goal.returns
returns c =
    let a = c.args in
    arrived a.candidates.now a.width a.target a.constraints _ _ _ _ _ _ c.requires.ready.rising c.requires.target_value.0
    c.snap_index-at.ensures.value c.first_at_least-to.ensures.value c.walks-walks.ensures.value c.pause.ensures.value c.follow.ensures
