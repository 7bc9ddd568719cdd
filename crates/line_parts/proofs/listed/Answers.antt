-- `line_parts::listed` meets its contract: the numbers passed stand behind the name. Assumes nothing.
use native.Mathlib.Omega.{arith}
use Rattle.line_parts.proofs.Listing.{none_yet, one_more, all_listed}
use Rattle.line_parts.proofs.listed.Goals as goal

pub loop-n-init : goal.loop-n-init
loop-n-init c = none_yet c.args.list.now c.append-at.ensures

pub loop-n-preserved : goal.loop-n-preserved
loop-n-preserved c = one_more _ _ c.loop-n.invariant (omega arith) c.behind_a_blank-at.ensures

pub returns : goal.returns
returns c = all_listed _ _ c.append-at.ensures c.loop-n.invariant (omega arith)
