-- `survival::survival_chain` meets its contract: refused, or the running products. Assumes nothing.
use mathlib.Core.Path.{sym, ◌∙◌}
use Rattle.goodput_judges.proofs.Passed.{survival_passed}
use Rattle.goodput.proofs.survival.survival_chain.Goals as goal

pub chain-requires : goal.chain-requires
chain-requires c = (survival_passed c.args.signal c.args.length (sym c.judge_survival.ensures ∙ c.in-Ok.is)).0
