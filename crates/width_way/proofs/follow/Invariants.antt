-- `follow` meets its contract: each turn writes the width after one walk more. Assumes nothing.
use Rattle.width_way.proofs.Following.{Followed}
use Rattle.width_way.proofs.follow.Given as goal

abbrev pub invariant-loop-k : goal.invariant-loop-k
invariant-loop-k l = Followed l.step l.candidates l.to l.at l.walks l.initial.widths l.widths l.i l.k
