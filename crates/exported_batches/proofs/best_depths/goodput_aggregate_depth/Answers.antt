-- `goodput_aggregate_depth` meets its contract: the drafter and the rates are those of their numbers. Assumes nothing.
use Rattle.speculative.specs.declared.drafter.DrafterCost.{DrafterCost}
use Rattle.speculative.specs.declared.drafter.Rates.{Rates}
use Rattle.goodput.specs.Depth.{aggregate_answer}
use Rattle.exported_costs.proofs.Handed.{priced}
use Rattle.exported_batches.specs.Answers.{depth_told}
use Rattle.exported_batches.proofs.best_depths.goodput_aggregate_depth.Goals as goal

pub returns : goal.returns
returns c =
    let a = c.args in
    priced depth_told (λ (k : DrafterCost). λ (s : Rates). aggregate_answer a.chains.now a.lengths.now a.curve.now a.gamma k s a.loaded.now) c.of_depth.ensures c.aggregate_depth-answer.ensures c.drafter_of-head.ensures c.rates_of-rates.ensures
