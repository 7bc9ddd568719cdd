-- What a price's addition is refused for. Assumes nothing.
use Rattle.std.proofs.Common.{◌≡◌, Bool, true, false, Ok, Err, sym, ◌∙◌}
use lib.Ieee.{Float, neg}
use Rattle.float.specs.Range.{in_signed_range}
use Rattle.refusals.specs.declared.Refusal.TheVariants.{Input}
use Rattle.cost_lookup.specs.Entry.{farthest, delta_judged}

-- kv_delta within 10 ^ 9 of zero, or refused
pub delta_in : (kv : Float) (v : Bool) → v ≡ in_signed_range (neg farthest) farthest kv → v ≡ true → Ok tt ≡ delta_judged kv
delta_in kv v e h = rw (sym e ∙ h)

pub delta_out : (kv : Float) (v : Bool) → v ≡ in_signed_range (neg farthest) farthest kv → v ≡ false → Err Input ≡ delta_judged kv
delta_out kv v e h = rw (sym e ∙ h)
