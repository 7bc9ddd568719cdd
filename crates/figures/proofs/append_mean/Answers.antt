-- `figures::append_mean` meets its contract. Assumes nothing.
use native.Mathlib.Omega.{arith}
use Rattle.page.proofs.Adding.{renamed}
use Rattle.figures.proofs.Ways.{mean_high, mean_wide, mean_small}
use Rattle.figures.proofs.append_mean.Goals as goal

pub returns-then-sum-gt-LIMIT : goal.returns-then-sum-gt-LIMIT
returns-then-sum-gt-LIMIT c = renamed (mean_high c.args.sum c.args.count (omega arith)) c.append.ensures

pub returns-then-count-gt-LIMIT : goal.returns-then-count-gt-LIMIT
returns-then-count-gt-LIMIT c = renamed (mean_wide c.args.sum c.args.count (omega arith) (omega arith)) c.append-then-count-gt-LIMIT.ensures

pub returns : goal.returns
returns c = renamed (mean_small c.args.sum c.args.count c.mean-millionths.result (omega arith) (omega arith) c.mean-millionths.ensures) c.append_millionths.ensures
