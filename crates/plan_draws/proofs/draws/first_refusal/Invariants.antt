-- `draws::first_refusal` meets its contract: what is left is judged from the index of the sequence on. Assumes nothing.
use mathlib.Core.Path.{◌≡◌}
use Rattle.plan_draws.specs.Draws.{index_refusal}
use Rattle.plan_draws.proofs.Late.{to_judge}
use Rattle.plan_draws.proofs.draws.first_refusal.Given as goal

abbrev pub invariant-loop-k : goal.invariant-loop-k
invariant-loop-k l = index_refusal l.rounds l.n l.indices ≡ to_judge l.rounds l.indices l.n l.k
