-- WORKED OUT AFRESH: the standing plans and collections made again in their order, each with its inputs as lent, over an empty storage. None is refused, the
-- same changes stand, and the words are those of what is held. So a bank, a table or a setting that is altered later alters nothing. Assumes nothing.
use mathlib.Core.Path.{◌≡◌, refl, ap, ◌∙◌}
use mathlib.Core.List.{List, [], ◌∷◌, ◌++◌}
use Prim.Native.Nat.{ℕ, suc, ◌+◌, ◌≤◌, min}
use native.Mathlib.Omega.{arith}
use lib.ListN.{length, drop}
use Rattle.ledger_rows.specs.Layout.{room, changes_most}
use Rattle.ledger.specs.Calls.{emptied}
use Rattle.ledger_laws.specs.Encode.{encode}
use Rattle.planner_laws.specs.Calls.{Call, plan, collect, withdraw, run}
use Rattle.planner_laws.specs.Standing.{Standing, nothing_stands, ledger_of, stands, step, after, oldest_first}
use Rattle.planner_laws.proofs.Theorem.{Lawful, after_holds, demand_3}

after_more : (ks : List Call) (k : Call) (S : Standing) → after (ks ++ (k ∷ [])) S ≡ step k (after ks S)
unfolding after
after_more [] k S = refl
after_more (j ∷ ks) k S = after_more ks k (step j S)

-- a change is accepted again where the same changes stand; how many can be withdrawn does not matter
made_again : (k : Call) (ks : List Call) (left : ℕ) → Lawful (k ∷ ks) → (step k (record { changes = ks; left = left }) ≡ stands k (record { changes = ks; left = left })) × Lawful ks
unfolding step Lawful
made_again (plan s a l ds cs) ks left h = (rw h.0, h.1)
made_again (collect a b) ks left h = (rw h.0, h.1)
made_again withdraw ks left h = absurd h

pub stand_again : (ks : List Call) → Lawful ks → after (oldest_first ks) nothing_stands ≡ record { changes = ks; left = min (length ks) changes_most }
unfolding oldest_first after
stand_again [] h = refl
stand_again (k ∷ ks) h =
    let m : min (min (length ks) changes_most + 1) changes_most ≡ min (suc (length ks)) changes_most = omega arith in
    let again = made_again k ks (min (length ks) changes_most) h in
    after_more (oldest_first ks) k nothing_stands
    ∙ ap (step k) (stand_again ks again.1)
    ∙ again.0
    ∙ ap (λ (n : ℕ). record { changes = k ∷ ks; left = n }) m

-- after any calls, what stands, planned again from an empty planner, stands again
pub stands_anew : (ks : List Call) → after (oldest_first (after ks nothing_stands).changes) nothing_stands
    ≡ record { changes = (after ks nothing_stands).changes; left = min (length (after ks nothing_stands).changes) changes_most }
stands_anew ks = stand_again (after ks nothing_stands).changes (after_holds ks).lawful

-- and gives the same words: the same seconds and the same workers. Only the withdrawals available may be more, since each change makes one
pub planned_anew : (ks : List Call) (ws : List ℕ) → room ≤ length ws
    → run (oldest_first (after ks nothing_stands).changes) (emptied ws).1
    ≡ encode (ledger_of (record { changes = (after ks nothing_stands).changes; left = min (length (after ks nothing_stands).changes) changes_most })) (drop room ws)
planned_anew ks ws h =
    demand_3 (oldest_first (after ks nothing_stands).changes) ws h ∙ ap (λ (S : Standing). encode (ledger_of S) (drop room ws)) (stands_anew ks)
