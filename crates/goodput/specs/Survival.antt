-- The survival chain of a lent signal, and what is refused of it. Assumes nothing.
use Rattle.std.specs.Prelude.{ℕ, List, replicate, Float, Ok, Err}
use Rattle.refusals.specs.Refusals.{Judgement, number_of}
use Rattle.float.specs.Floats.{f0}
use Rattle.chains.specs.Survival.{survival_chain}
use Rattle.goodput_judges.specs.Refusals.{survival_judged}
use Rattle.goodput.specs.declared.survival.Survival.{Survival}

-- a refusal leaves every slot 0.0
abbrev pub survival_unless : Judgement → List Float → Survival
survival_unless (Ok tt) chain = record { refusal = 0; chain = chain }
survival_unless (Err refusal) chain = record { refusal = number_of refusal; chain = replicate 64 f0 }

unfoldable pub survival_of : List Float → ℕ → Survival
survival_of signal length = survival_unless (survival_judged signal length) (survival_chain signal length)
