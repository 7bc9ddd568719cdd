-- `draws::replay` meets its contract: each way through it. Assumes nothing.
use mathlib.Core.Path.{sym}
use lib.Seq.{length-take-le}
use Rattle.plan_draws.proofs.Late.{index_refused, replay_late, replay_put}
use Rattle.plan_draws.proofs.draws.replay.Goals as goal

pub returns-then-of_indices-gt0 : goal.returns-then-of_indices-gt0
returns-then-of_indices-gt0 c =
    let a = c.args in
    index_refused a.late a.bank_commits.now a.rounds a.n a.indices.now a.commits.now c.index_refusal-of_indices.result c.index_refusal-of_indices.ensures c.if-of_indices-gt0.true

pub returns-then-late-gt0 : goal.returns-then-late-gt0
returns-then-late-gt0 c =
    let a = c.args in
    replay_late a.late a.bank_commits.now a.rounds a.n a.indices.now a.commits.now c.index_refusal-of_indices.result c.index_refusal-of_indices.ensures c.if-of_indices-gt0.false c.if-late-gt0.true

pub slice_bounds-replay_commits-end-2 : goal.slice_bounds-replay_commits-end-2
slice_bounds-replay_commits-end-2 c = sym (length-take-le c.args.n c.args.commits.now c.requires.1)

pub replay_commits-requires : goal.replay_commits-requires
replay_commits-requires c = c.requires.0

pub returns : goal.returns
returns c =
    let a = c.args in
    replay_put a.late a.bank_commits.now a.rounds a.n a.indices.now a.commits.now c.index_refusal-of_indices.result c.index_refusal-of_indices.ensures c.if-of_indices-gt0.false c.if-late-gt0.false c.requires.1 _ _ c.replay_commits.ensures
