-- `are_loaded` meets its contract. Assumes nothing.
use mathlib.Core.Path.{refl}
use lib.Ieee.{lt, of_bits}
use Rattle.speculative.specs.declared.drafter.DrafterCost.{DrafterCost}
use Rattle.asked_values.specs.Values.{loaded_valued}
use Rattle.settings.proofs.Cases.{of_case}
use Rattle.asked_values.proofs.Judges.{loaded_tested}
use Rattle.asked_values.proofs.inner.are_loaded.Goals as goal

pub returns-in-Autoregressive : goal.returns-in-Autoregressive
returns-in-Autoregressive c =
    let a = c.args in
    of_case (λ (d : DrafterCost). loaded_valued d a.n a.loaded.now) _ _ _ c.in-Autoregressive.is (loaded_tested _ _ a.loaded.now a.n c.first_entries.ensures c.are_up_to.ensures)

pub are_up_to-requires : goal.are_up_to-requires
unfolding lt of_bits
are_up_to-requires c = refl
