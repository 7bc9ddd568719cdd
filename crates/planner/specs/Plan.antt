-- A plan: what it answers, and what it leaves, as `judged_plans`, `planning` and `plan_draws` define it. Assumes nothing.
pub use Rattle.judged_plans.specs.Plan.{Left, held_refusal, unless_refused, nothing_planned, some_planned}
unfoldable pub use Rattle.judged_plans.specs.Plan.{plan_refusal, made, planned}
pub use Rattle.plan_draws.specs.Draws.{drawn, drawn_refusal}
unfoldable pub use Rattle.plan_draws.specs.Draws.{drawn_by}
pub use Rattle.planning.specs.Steps.{depth_of, best, is_put}
unfoldable pub use Rattle.planning.specs.Steps.{curve_of, signals_refusal}
