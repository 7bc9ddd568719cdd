-- `figures::append_mean_bar` meets its contract. Assumes nothing.
use native.Mathlib.Omega.{arith}
use Rattle.page.proofs.Adding.{renamed}
use Rattle.figures.proofs.Ways.{bar_high, bar_wide, bar_small}
use Rattle.figures.proofs.append_mean_bar.Goals as goal

pub returns-then-sum-gt-LIMIT : goal.returns-then-sum-gt-LIMIT
returns-then-sum-gt-LIMIT c = renamed (bar_high c.args.sum c.args.count (omega arith)) c.append_bar.ensures

pub returns-then-count-gt-LIMIT : goal.returns-then-count-gt-LIMIT
returns-then-count-gt-LIMIT c = renamed (bar_wide c.args.sum c.args.count (omega arith) (omega arith)) c.append_bar-then-count-gt-LIMIT.ensures

pub returns : goal.returns
returns c = renamed (bar_small c.args.sum c.args.count c.mean-millionths.result (omega arith) (omega arith) c.mean-millionths.ensures) c.append_bar-2.ensures
