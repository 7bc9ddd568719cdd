-- What is refused of what a call is lent: judged one after the other. Assumes nothing.
use Rattle.std.specs.Prelude.{ℕ, ◌+◌, ◌*◌, min, Bool, ◌&&◌, List, leb, length, take, Float}
use Rattle.float.specs.Floats.{is_finite}
use Rattle.refusals.specs.declared.Refusal.TheVariants.{Size, Input, ShortBuffer}
use Rattle.refusals.specs.Refusals.{Judgement, passed_if, and_then, number_in}
use Rattle.acceptance.specs.Acceptance.{model_judged}
use Rattle.speculative.specs.Drafter.{drafter_judged, inputs_judged}
use Rattle.acceptance.specs.declared.AcceptanceModel.{AcceptanceModel}
use Rattle.speculative.specs.declared.drafter.Rates.{Rates}
use Rattle.speculative.specs.declared.drafter.DrafterCost.{DrafterCost}
use Rattle.chains.specs.Tests.{all_of, is_accepted, is_price, is_expected}
use Rattle.chains.specs.Expected.{are_chains}

-- ---- of a signal
-- 11: the length is above 64. 15: one of the first `length` confidences is not finite
unfoldable pub survival_judged : List Float → ℕ → Judgement
survival_judged signal length = and_then (passed_if (leb length 64) Size) (passed_if (all_of is_finite (take length signal)) Input)

-- ---- of the drafts and the sequences of a call
-- 11: gamma is above 64, or there are more than 1,024 sequences
unfoldable pub counts_judged : ℕ → ℕ → Judgement
counts_judged gamma n = passed_if (leb gamma 64 && leb n 1024) Size

-- ---- of the chains of a batch
-- 11; 16: the chains or the room for the values are too short. 15: a length or a survival is out of range
unfoldable pub chains_judged : List Float → List ℕ → ℕ → ℕ → Judgement
chains_judged slots lengths gamma room =
    and_then (counts_judged gamma (length lengths))
    (and_then (passed_if (leb (length lengths * 64) (length slots) && leb (gamma + 1) room) ShortBuffer) (passed_if (are_chains gamma lengths slots) Input))

-- ---- of an acceptance model, for n sequences
-- 12: the model or its positions are out of range. 11; 16: the room for the values is too short
unfoldable pub model_values_judged : AcceptanceModel → List Float → ℕ → ℕ → ℕ → Judgement
model_values_judged model positions gamma n room =
    and_then (model_judged model positions) (and_then (counts_judged gamma n) (passed_if (leb (gamma + 1) room) ShortBuffer))

-- ---- of a bank's curve, for n sequences
-- 11: the depth is not 1 to 64, gamma is above 64, or there are more than 1,024 sequences
unfoldable pub bank_sizes_judged : ℕ → ℕ → ℕ → Judgement
bank_sizes_judged depth gamma n = and_then (passed_if (leb 1 depth && leb depth 64) Size) (counts_judged gamma n)

-- 11; 16: the curve ends before the last entry that is used, or the room for the values is too short. 15: an entry that is used is out of range
unfoldable pub bank_values_judged : List Float → ℕ → ℕ → ℕ → ℕ → Judgement
bank_values_judged curve depth gamma n room =
    and_then (bank_sizes_judged depth gamma n)
    (and_then (passed_if (leb (min gamma depth + 1) (length curve) && leb (gamma + 1) room) ShortBuffer)
    (passed_if (all_of is_accepted (take (min gamma depth + 1) curve)) Input))

-- ---- of the total cost of a depth
-- 12: the drafter is out of range. 11
unfoldable pub sizes_judged : DrafterCost → ℕ → ℕ → Judgement
sizes_judged kind gamma n = and_then (drafter_judged kind) (counts_judged gamma n)

unfoldable pub cost_judged : DrafterCost → ℕ → ℕ → Rates → Float → List Float → Judgement
cost_judged kind g n rates verify loaded = and_then (sizes_judged kind g n) (inputs_judged kind n rates (is_price verify) loaded)

-- ---- of expected values and prices
abbrev pub is_weighed : List Float → List Float → Bool
is_weighed es curve = all_of is_expected es && all_of is_price curve

-- 12 and 11; 16: the expected values or the curve end before gamma, or the loaded experts before n; 15
unfoldable pub depth_judged : List Float → List Float → ℕ → ℕ → DrafterCost → Rates → List Float → Judgement
depth_judged es curve gamma n kind rates loaded =
    and_then (sizes_judged kind gamma n)
    (and_then (passed_if (leb (gamma + 1) (length es) && leb (gamma + 1) (length curve)) ShortBuffer)
    (inputs_judged kind n rates (is_weighed (take (gamma + 1) es) (take (gamma + 1) curve)) loaded))

-- ---- of chains and prices
abbrev pub is_priced_batch : List Float → List ℕ → ℕ → List Float → Bool
is_priced_batch chains lengths gamma curve = are_chains gamma lengths chains && all_of is_price curve

-- 12 and 11; 16: the chains, the curve or the loaded experts are too short; 15
unfoldable pub aggregate_judged : List Float → List ℕ → List Float → ℕ → DrafterCost → Rates → List Float → Judgement
aggregate_judged chains lengths curve gamma kind rates loaded =
    and_then (sizes_judged kind gamma (length lengths))
    (and_then (passed_if (leb (length lengths * 64) (length chains) && leb (gamma + 1) (length curve)) ShortBuffer)
    (inputs_judged kind (length lengths) rates (is_priced_batch chains lengths gamma (take (gamma + 1) curve)) loaded))

-- ---- their numbers, 0 where they pass
abbrev pub survival_refusal : List Float → ℕ → ℕ
survival_refusal signal length = number_in (survival_judged signal length)

abbrev pub chains_refusal : List Float → List ℕ → ℕ → ℕ → ℕ
chains_refusal slots lengths gamma room = number_in (chains_judged slots lengths gamma room)

abbrev pub model_values_refusal : AcceptanceModel → List Float → ℕ → ℕ → ℕ → ℕ
model_values_refusal model positions gamma n room = number_in (model_values_judged model positions gamma n room)

abbrev pub bank_values_refusal : List Float → ℕ → ℕ → ℕ → ℕ → ℕ
bank_values_refusal curve depth gamma n room = number_in (bank_values_judged curve depth gamma n room)

abbrev pub sizes_refusal : DrafterCost → ℕ → ℕ → ℕ
sizes_refusal kind gamma n = number_in (sizes_judged kind gamma n)

abbrev pub cost_refusal : DrafterCost → ℕ → ℕ → Rates → Float → List Float → ℕ
cost_refusal kind g n rates verify loaded = number_in (cost_judged kind g n rates verify loaded)

abbrev pub depth_refusal : List Float → List Float → ℕ → ℕ → DrafterCost → Rates → List Float → ℕ
depth_refusal es curve gamma n kind rates loaded = number_in (depth_judged es curve gamma n kind rates loaded)

abbrev pub aggregate_refusal : List Float → List ℕ → List Float → ℕ → DrafterCost → Rates → List Float → ℕ
aggregate_refusal chains lengths curve gamma kind rates loaded = number_in (aggregate_judged chains lengths curve gamma kind rates loaded)
