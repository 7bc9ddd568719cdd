-- `mean::expect` meets its contract, model by model. Assumes nothing.
use mathlib.Core.Path.{sym, ap, ◌∙◌}
use native.Mathlib.Omega.{arith}
use Rattle.acceptance.specs.declared.AcceptanceModel.{AcceptanceModel}
use Rattle.budgets.specs.Budget.{model_values, over}
use Rattle.settings.specs.Settings.{is_trace}
use Rattle.deciding.specs.Deciding.{mean_expected}
use Rattle.deciding.proofs.mean.expect.Goals as goal

pub bank_values-requires-clause-gamma_bound : goal.bank_values-requires-clause-gamma_bound
bank_values-requires-clause-gamma_bound c = let low = c.requires.gamma_in_bounds (ap is_trace c.in-Trace.is) in c.requires.gamma_bound.0

pub bank_values-requires-clause-gamma_in_bounds : goal.bank_values-requires-clause-gamma_in_bounds
bank_values-requires-clause-gamma_in_bounds c = let low = c.requires.gamma_in_bounds (ap is_trace c.in-Trace.is) in c.requires.gamma_bound.1

pub bank_values-requires-clause-depth_in_bounds : goal.bank_values-requires-clause-depth_in_bounds
bank_values-requires-clause-depth_in_bounds c = let low = c.requires.gamma_in_bounds (ap is_trace c.in-Trace.is) in omega (arith, low)

pub returns-in-Constant : goal.returns-in-Constant
returns-in-Constant c =
    let a = c.args in
    let e = c.in-Constant.is in
    c.model_values.ensures
    ∙ ap (λ (m : AcceptanceModel). over (model_values m a.positions.now a.n a.gamma) a.out.now) e
    ∙ ap (λ (m : AcceptanceModel). over (mean_expected m a.positions.now a.bank_curve.now a.depth a.n a.gamma) a.out.now) (sym e)

pub returns-in-PerPosition : goal.returns-in-PerPosition
returns-in-PerPosition c =
    let a = c.args in
    let e = c.in-PerPosition.is in
    c.model_values-in-PerPosition.ensures
    ∙ ap (λ (m : AcceptanceModel). over (model_values m a.positions.now a.n a.gamma) a.out.now) e
    ∙ ap (λ (m : AcceptanceModel). over (mean_expected m a.positions.now a.bank_curve.now a.depth a.n a.gamma) a.out.now) (sym e)

pub returns-in-Trace : goal.returns-in-Trace
returns-in-Trace c =
    let a = c.args in
    let e = c.in-Trace.is in
    c.bank_values.ensures ∙ ap (λ (m : AcceptanceModel). over (mean_expected m a.positions.now a.bank_curve.now a.depth a.n a.gamma) a.out.now) (sym e)
