-- `is_curve` meets its contract. Assumes nothing.
use mathlib.Core.Path.{refl}
use lib.Ieee.{lt, of_bits}
use mathlib.Core.Path.{ap, ◌∙◌}
use mathlib.Core.List.{List}
use lib.Ieee.{Float}
use Rattle.acceptance.specs.declared.AcceptanceModel.{AcceptanceModel}
use Rattle.chains.specs.Tests.{all_of, is_accepted}
use Rattle.asked_values.specs.Values.{curve_valued}
use Rattle.settings.proofs.Cases.{of_case}
use Rattle.asked_values.proofs.inner.is_curve.Goals as goal

pub returns-in-Trace : goal.returns-in-Trace
returns-in-Trace c =
    let a = c.args in
    of_case (λ (m : AcceptanceModel). curve_valued m a.gamma a.curve.now) _ _ _ c.in-Trace.is
    (c.are_up_to.ensures ∙ ap (λ (l : List Float). all_of is_accepted l) c.first_entries.ensures)

pub are_up_to-requires : goal.are_up_to-requires
unfolding lt of_bits
are_up_to-requires c = refl
