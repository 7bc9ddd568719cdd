-- The standing changes made anew, in their order, over an empty storage: the same changes stand, so that all that is held is the same. Assumes nothing.
use mathlib.Core.Path.{◌≡◌, refl, ap, ◌∙◌}
use mathlib.Core.List.{List, [], ◌∷◌, ◌++◌}
use Prim.Native.Nat.{ℕ, suc, ◌+◌, ◌≤◌, min}
use native.Mathlib.Omega.{arith}
use lib.ListN.{length, drop}
use Rattle.ledger_rows.specs.Layout.{room, changes_most}
use Rattle.ledger.specs.Calls.{emptied}
use Rattle.ledger_laws.specs.Model.{Change, planned, decided, cleared, Call, plan, decide, collect, back, Standing, refusal, stands, step, after, nothing_stands, InDomain}
use Rattle.ledger_laws.specs.Encode.{encode}
use Rattle.ledger_laws.specs.Run.{run}
use Rattle.ledger_laws.proofs.Given.{Sound}
use Rattle.ledger_laws.proofs.Theorem.{afresh, reached_nothing, demand_3, less_sound}

-- the call that makes a change, and the calls that make changes in their order, the oldest first
unfoldable pub call_of : Change → Call
call_of (planned p) = plan p
call_of (decided p w f) = decide p w f
call_of (cleared w) = collect w

unfoldable pub remade : List Change → List Call
remade [] = []
remade (c ∷ cs) = remade cs ++ (call_of c ∷ [])

after_more : (ks : List Call) (k : Call) (s : Standing) → after (ks ++ (k ∷ [])) s ≡ step k (after ks s)
unfolding after
after_more [] k s = refl
after_more (j ∷ ks) k s = after_more ks k (step j s)

made_again : (c : Change) (cs : List Change) (left : ℕ) → Sound (c ∷ cs) → step (call_of c) (record { changes = cs; left = left }) ≡ stands c (record { changes = cs; left = left })
unfolding step refusal Sound call_of
made_again (planned p) cs left s = rw s.1
made_again (decided p w f) cs left s = rw (s.1, s.2)
made_again (cleared w) cs left s = rw s.0

stand_again : (cs : List Change) → Sound cs → after (remade cs) nothing_stands ≡ record { changes = cs; left = min (length cs) changes_most }
unfolding remade after
stand_again [] s = refl
stand_again (c ∷ cs) s =
    let m : min (min (length cs) changes_most + 1) changes_most ≡ min (suc (length cs)) changes_most = omega arith in
    after_more (remade cs) (call_of c) nothing_stands
    ∙ ap (step (call_of c)) (stand_again cs (less_sound c cs s))
    ∙ made_again c cs (min (length cs) changes_most) s
    ∙ ap (λ (n : ℕ). record { changes = c ∷ cs; left = n }) m

-- they are within the bounds
in_more : (ks : List Call) (k : Call) → InDomain ks → InDomain (k ∷ []) → InDomain (ks ++ (k ∷ []))
unfolding InDomain
in_more [] k d e = e
in_more (plan p ∷ ks) k d e = (d.0, in_more ks k d.1 e)
in_more (decide p w f ∷ ks) k d e = (d.0, in_more ks k d.1 e)
in_more (collect w ∷ ks) k d e = in_more ks k d e
in_more (back ∷ ks) k d e = in_more ks k d e

in_one : (c : Change) (cs : List Change) → Sound (c ∷ cs) → InDomain (call_of c ∷ [])
unfolding InDomain Sound call_of
in_one (planned p) cs s = (s.0, tt)
in_one (decided p w f) cs s = (s.0, tt)
in_one (cleared w) cs s = tt

in_all : (cs : List Change) → Sound cs → InDomain (remade cs)
unfolding InDomain remade
in_all [] s = tt
in_all (c ∷ cs) s = in_more (remade cs) (call_of c) (in_all cs (less_sound c cs s)) (in_one c cs s)

-- after any calls within the bounds, the standing changes made anew over an empty storage stand again, and give its words: the same seconds and the same
-- workers. Only the withdrawals available may be more, since each change makes one
pub made_anew : (ks : List Call) (ws : List ℕ) → room ≤ length ws → InDomain ks
    → run (remade (after ks nothing_stands).changes) (emptied ws).1
    ≡ encode (record { changes = (after ks nothing_stands).changes; left = min (length (after ks nothing_stands).changes) changes_most }) (drop room ws)
made_anew ks ws h d =
    let cs : List Change = (after ks nothing_stands).changes in
    let s : Sound cs = (afresh ks nothing_stands [] d reached_nothing).1.sound in
    demand_3 (remade cs) ws h (in_all cs s) ∙ ap (λ (x : Standing). encode x (drop room ws)) (stand_again cs s)
