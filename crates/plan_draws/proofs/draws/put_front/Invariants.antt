-- `draws::put_front` stores number after number: the first `k` are stored. Assumes nothing.
use mathlib.Core.Path.{◌≡◌}
use lib.Seq.{paste}
use Rattle.plan_draws.proofs.draws.put_front.Given as goal

abbrev pub invariant-loop-k : goal.invariant-loop-k
invariant-loop-k l = l.commits ≡ paste l.initial.commits 0 l.drawn l.k
