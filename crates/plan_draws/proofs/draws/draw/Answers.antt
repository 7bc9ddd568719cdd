-- `draws::draw` meets its contract: a model draws, and a trace replays. Assumes nothing.
use mathlib.Core.Path.{ap}
use mathlib.Core.Logic.{inl, inr}
use Rattle.settings.specs.Settings.{is_trace}
use Rattle.plan_draws.proofs.Ways.{drawn_constant, drawn_positions, drawn_trace}
use Rattle.plan_draws.proofs.draws.draw.Goals as goal

pub replay-requires : goal.replay-requires
replay-requires c = (c.requires.rounds_in_bounds (ap is_trace c.in-Trace.is), c.requires.gamma_bound.2)

pub returns-in-Constant : goal.returns-in-Constant
returns-in-Constant c =
    let a = c.args in
    let drawn = c.draw_model.ensures in
    elim c.in-Constant.is [
      | inl is ↦ drawn_constant a.late a.settings a.ask a.positions.now a.bank_commits.now a.draws.now a.indices.now _ _ _ is.0 is.1 drawn
      | inr is ↦ drawn_positions a.late a.settings a.ask a.positions.now a.bank_commits.now a.draws.now a.indices.now _ _ _ is drawn
    ]

pub returns-in-Trace : goal.returns-in-Trace
returns-in-Trace c =
    let a = c.args in
    drawn_trace a.late a.settings a.ask a.positions.now a.bank_commits.now a.draws.now a.indices.now _ _ _ c.in-Trace.is c.replay.ensures
