-- What plain numbers stand for; one that stands for no case is taken for the last one. Assumes nothing.
use Rattle.std.specs.Prelude.{ℕ, cond, eqb, Float}
use Rattle.acceptance.specs.declared.AcceptanceModel.{AcceptanceModel}
use Rattle.acceptance.specs.declared.AcceptanceModel.TheVariants.{Constant, PerPosition, Trace}
use Rattle.speculative.specs.declared.drafter.DrafterCost.{DrafterCost}
use Rattle.speculative.specs.declared.drafter.DrafterCost.TheVariants.{Fraction, Autoregressive, BlockParallel}
use Rattle.speculative.specs.declared.drafter.Rates.{Rates}

unfoldable pub model_of : ℕ → Float → AcceptanceModel
model_of model alpha = cond (eqb model 0) (Constant alpha) (cond (eqb model 1) PerPosition Trace)

-- its sizes p and q, its counts x, y and z
unfoldable pub drafter_of : ℕ → Float → Float → ℕ → ℕ → ℕ → DrafterCost
drafter_of kind p q x y z = cond (eqb kind 0) (Fraction p) (cond (eqb kind 1) (Autoregressive p q x y z) (BlockParallel p x))

unfoldable pub rates_of : Float → Float → Float → Rates
rates_of peak bw kv = record { peak = peak; bw = bw; kv_delta = kv }
