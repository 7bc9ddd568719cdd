-- The best depth by the mean acceptance, from what the calls gave. Assumes nothing.
use Prim.Native.Nat.{ℕ, ◌+◌}
use mathlib.Core.Path.{◌≡◌, sym, ap, ◌∙◌}
use mathlib.Core.List.{List}
use lib.ListN.{length, take}
use lib.Seq.{take_at}
use lib.Ieee.{Float}
use Rattle.acceptance.specs.declared.AcceptanceModel.{AcceptanceModel}
use Rattle.acceptance.specs.declared.AcceptanceModel.TheVariants.{Constant, PerPosition, Trace}
use Rattle.speculative.specs.Drafter.{loaded_at}
use Rattle.budgets.specs.Budget.{over}
use Rattle.budgets.proofs.Values.{values_length}
use Rattle.depths.specs.Pricing.{depth_over}
use Rattle.settings.specs.declared.Settings.{Settings}
use Rattle.asked_rooms.specs.declared.Ask.{Ask}
use Rattle.deciding.specs.Deciding.{mean_expected}
use Rattle.deciding.specs.Ready.{looped}

pub mean_length : (model : AcceptanceModel) (positions bank : List Float) (depth n gamma : ℕ) → length (mean_expected model positions bank depth n gamma) ≡ gamma + 1
mean_length (Constant alpha) positions bank depth n gamma = values_length _ (gamma + 1) 0
mean_length PerPosition positions bank depth n gamma = values_length _ (gamma + 1) 0
mean_length Trace positions bank depth n gamma = values_length _ (gamma + 1) 0

pub mean_is : (s : Settings) (a : Ask) (gamma : ℕ) (positions loaded bank curve out old : List Float) (x : Float) (r : ℕ)
    → length curve ≡ gamma + 1 → out ≡ over (mean_expected s.model positions bank a.depth a.sequences gamma) old
    → x ≡ loaded_at s.drafter loaded a.sequences → r ≡ depth_over s.drafter a.sequences a.rates x (take (length curve) out) curve
    → r ≡ looped s a loaded (mean_expected s.model positions bank a.depth a.sequences gamma) curve
mean_is s a gamma positions loaded bank curve out old x r c o X e =
    let es = mean_expected s.model positions bank a.depth a.sequences gamma in
    let front : take (length curve) out ≡ es = ap (take (length curve)) o ∙ take_at es _ (length curve) (mean_length s.model positions bank a.depth a.sequences gamma ∙ sym c) in
    e ∙ ap (λ (y : Float). depth_over s.drafter a.sequences a.rates y (take (length curve) out) curve) X
    ∙ ap (λ (l : List Float). depth_over s.drafter a.sequences a.rates (loaded_at s.drafter loaded a.sequences) l curve) front
