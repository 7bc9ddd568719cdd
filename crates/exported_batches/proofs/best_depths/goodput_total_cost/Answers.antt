-- `goodput_total_cost` meets its contract: the drafter and the rates are those of their numbers. Assumes nothing.
use Rattle.speculative.specs.declared.drafter.DrafterCost.{DrafterCost}
use Rattle.speculative.specs.declared.drafter.Rates.{Rates}
use Rattle.goodput.specs.Pricing.{cost_of}
use Rattle.exported_costs.proofs.Handed.{priced}
use Rattle.exported_batches.specs.Answers.{cost_told}
use Rattle.exported_batches.proofs.best_depths.goodput_total_cost.Goals as goal

pub returns : goal.returns
returns c =
    let a = c.args in
    priced cost_told (λ (k : DrafterCost). λ (s : Rates). cost_of k a.g a.n s a.verify a.loaded.now) c.of_cost.ensures c.total_cost-answer.ensures c.drafter_of-head.ensures c.rates_of-rates.ensures
