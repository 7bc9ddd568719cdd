-- The expected acceptance of a batch at each depth, written to the front of a lent buffer. Assumes nothing.
use Rattle.std.specs.Prelude.{ℕ, ◌+◌, List, length, take, Float, Ok, Err}
use Rattle.refusals.specs.Refusals.{Judgement, number_in}
use Rattle.acceptance.specs.declared.AcceptanceModel.{AcceptanceModel}
use Rattle.chains.specs.Expected.{expected_over}
use Rattle.budgets.specs.Budget.{model_values, bank_values, over}
use Rattle.goodput_judges.specs.Refusals.{chains_judged, model_values_judged, bank_values_judged}

pub record Left : Type 0 where
  pub answer : Judgement
  pub out : List Float

-- a refusal writes nothing
abbrev pub written : Judgement → List Float → List Float → Left
written (Ok tt) values out = record { answer = Ok tt; out = over values out }
written (Err refusal) values out = record { answer = Err refusal; out = out }

-- of chains: gamma + 1 values
unfoldable pub expected_by_depth : List Float → List ℕ → ℕ → List Float → Left
expected_by_depth slots lengths gamma out = written (chains_judged slots lengths gamma (length out)) (take (gamma + 1) (expected_over gamma lengths slots)) out

-- of an acceptance model, for n sequences
unfoldable pub model_expected : AcceptanceModel → List Float → ℕ → ℕ → List Float → Left
model_expected model positions gamma n out = written (model_values_judged model positions gamma n (length out)) (model_values model positions n gamma) out

-- of a bank's curve, for n sequences
unfoldable pub bank_expected : List Float → ℕ → ℕ → ℕ → List Float → Left
bank_expected curve depth gamma n out = written (bank_values_judged curve depth gamma n (length out)) (bank_values curve depth n gamma) out

-- the refusal number of each answer; 0 where the values are written
abbrev pub answer_number : Judgement → ℕ
answer_number answer = number_in answer
