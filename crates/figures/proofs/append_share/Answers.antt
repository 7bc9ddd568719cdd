-- `figures::append_share` meets its contract. Assumes nothing.
use native.Mathlib.Omega.{arith}
use Rattle.page.proofs.Adding.{both, renamed}
use Rattle.figures.proofs.Ways.{share_none, share_high, share_wide, share_small}
use Rattle.figures.proofs.append_share.Goals as goal

pub returns-then-whole-lt1 : goal.returns-then-whole-lt1
returns-then-whole-lt1 c = renamed (share_none c.args.part c.args.whole (omega arith)) c.append.ensures

pub returns-then-part-gt-LIMIT : goal.returns-then-part-gt-LIMIT
returns-then-part-gt-LIMIT c = renamed (share_high c.args.part c.args.whole (omega arith) (omega arith)) c.append-then-part-gt-LIMIT.ensures

pub returns-then-whole-gt-LIMIT : goal.returns-then-whole-gt-LIMIT
returns-then-whole-gt-LIMIT c = renamed (share_wide c.args.part c.args.whole (omega arith) (omega arith) (omega arith)) c.append-then-whole-gt-LIMIT.ensures

pub returns : goal.returns
returns c = renamed (share_small c.args.part c.args.whole c.nearest-percent.result (omega arith) (omega arith) (omega arith) c.nearest-percent.ensures) (both c.append_decimal-at.ensures c.append-2.ensures)
