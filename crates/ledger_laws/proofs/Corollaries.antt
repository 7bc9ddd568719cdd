-- What follows for what stands: as many withdrawals as changes give the storage from before; a worker's record is that of its own changes alone; the
-- order in which changes came does not matter to the series. Assumes nothing.
use mathlib.Core.Path.{◌≡◌, refl, sym, ap, ◌∙◌}
use mathlib.Core.Bool.{cond}
use mathlib.Core.List.{List, [], ◌∷◌, ◌++◌}
use Prim.Native.Nat.{ℕ, suc, ◌+◌, ◌-◌, ◌≤◌, ◌<◌, min}
use native.Mathlib.Omega.{arith}
use borrow.Author.Tests.{lt-ltb}
use lib.Dec.{ltb, eqb}
use lib.ListN.{length, drop}
use Rattle.ledger_rows.specs.Layout.{room, changes_most}
use Rattle.ledger_rows.proofs.Tests.{by_test}
use Rattle.ledger_workers.specs.Workers.{worker_same, past_of}
use Rattle.ledger.specs.Calls.{emptied}
use Rattle.ledger_laws.specs.Model.{Worker, Plan, Change, planned, decided, cleared, Sums, counted, sums_at, record_of, Call, back, Standing, stands, step, after, nothing_stands, InDomain}
use Rattle.ledger_laws.specs.Encode.{seconds_given, past_from, encode}
use Rattle.ledger_laws.specs.Run.{run}
use Rattle.ledger_laws.proofs.Orders.{second_order}
use Rattle.ledger_laws.proofs.Given.{seconds_ascend, held_sums, at_seconds}
use Rattle.ledger_laws.proofs.SameRows.{same_rows}
use Rattle.ledger_laws.proofs.Theorem.{afresh, reached_nothing, demand_3}
use Rattle.ledger_laws.proofs.Answers.{relied_on}

-- ---- withdrawals

-- changes accepted one after the other, the last of the list first
unfoldable pub all_stand : List Change → Standing → Standing
all_stand [] s = s
all_stand (c ∷ cs) s = stands c (all_stand cs s)

-- as many withdrawals as there are changes
unfoldable pub backs : List Change → List Call
backs [] = []
backs (c ∷ cs) = back ∷ backs cs

stands_all : (cs : List Change) (s : Standing) → s.left ≤ changes_most → all_stand cs s ≡ record { changes = cs ++ s.changes; left = min (s.left + length cs) changes_most }
unfolding all_stand
stands_all [] s few = let m : s.left ≡ min (s.left + 0) changes_most = omega arith in ap (λ (n : ℕ). record { changes = s.changes; left = n }) m
stands_all (c ∷ cs) s few =
    let m : min (min (s.left + length cs) changes_most + 1) changes_most ≡ min (s.left + suc (length cs)) changes_most = omega arith in
    ap (stands c) (stands_all cs s few) ∙ ap (λ (n : ℕ). record { changes = c ∷ (cs ++ s.changes); left = n }) m

back_one : (c : Change) (cs : List Change) (left : ℕ) → 0 < left → step back (record { changes = c ∷ cs; left = left }) ≡ record { changes = cs; left = left - 1 }
unfolding step
back_one c cs left h = rw (lt-ltb 0 left h)

backs_all : (cs base : List Change) (left : ℕ) → length cs ≤ left → after (backs cs) (record { changes = cs ++ base; left = left }) ≡ record { changes = base; left = left - length cs }
unfolding backs after
backs_all [] base left h = let m : left ≡ left - 0 = omega arith in ap (λ (n : ℕ). record { changes = base; left = n }) m
backs_all (c ∷ cs) base left h =
    let m : left - 1 - length cs ≡ left - suc (length cs) = omega arith in
    ap (after (backs cs)) (back_one c (cs ++ base) left (omega arith)) ∙ backs_all cs base (left - 1) (omega arith) ∙ ap (λ (n : ℕ). record { changes = base; left = n }) m

-- withdrawing as often as changes were accepted, 64 at most: the changes that stood before stand again, and so every second and every record is as it was.
-- What may differ is how many of those can be withdrawn in turn: the newest 64 are kept, and the others fell out
pub changes_undone : (cs : List Change) (s : Standing) → length cs ≤ changes_most → s.left ≤ changes_most
    → after (backs cs) (all_stand cs s) ≡ record { changes = s.changes; left = min s.left (changes_most - length cs) }
changes_undone cs s h few =
    let m : min (s.left + length cs) changes_most - length cs ≡ min s.left (changes_most - length cs) = omega arith in
    ap (after (backs cs)) (stands_all cs s few) ∙ backs_all cs s.changes (min (s.left + length cs) changes_most) (omega arith) ∙ ap (λ (n : ℕ). record { changes = s.changes; left = n }) m

-- where none fell out, nothing differs
pub all_undone : (cs : List Change) (s : Standing) → s.left + length cs ≤ changes_most → after (backs cs) (all_stand cs s) ≡ s
all_undone cs s h =
    let m : min s.left (changes_most - length cs) ≡ s.left = omega arith in
    changes_undone cs s (omega arith) (omega arith) ∙ ap (λ (n : ℕ). record { changes = s.changes; left = n }) m

backs_in : (cs : List Change) → InDomain (backs cs)
unfolding backs InDomain
backs_in [] = tt
backs_in (c ∷ cs) = backs_in cs

-- and the storage is as it was, word for word: `first` are the calls from before, `then` calls that were accepted and made the changes cs
pub storage_undone : (first then : List Call) (cs : List Change) (ws : List ℕ) → room ≤ length ws → InDomain first → InDomain then
    → after then (after first nothing_stands) ≡ all_stand cs (after first nothing_stands) → (after first nothing_stands).left + length cs ≤ changes_most
    → run (backs cs) (run then (run first (emptied ws).1)) ≡ run first (emptied ws).1
storage_undone first then cs ws h d f e few =
    let s : Standing = after first nothing_stands in
    let rest : List ℕ = drop room ws in
    let now = afresh then s rest f (afresh first nothing_stands rest d reached_nothing).1 in
    let undone = (afresh (backs cs) (after then s) rest (backs_in cs) now.1).0 in
    let all : after (backs cs) (after then s) ≡ s = ap (after (backs cs)) e ∙ all_undone cs s few in
    rw (demand_3 first ws h d) (ap (run (backs cs)) now.0 ∙ undone ∙ ap (λ (x : Standing). encode x rest) all)

-- ---- a worker's own changes

unfoldable pub own : Worker → List Change → List Change
own w [] = []
own w (planned p ∷ cs) = own w cs
own w (decided p v f ∷ cs) = cond (worker_same v w) (decided p v f ∷ own w cs) (own w cs)
own w (cleared v ∷ cs) = cond (worker_same v w) (cleared v ∷ own w cs) (own w cs)

pub own_record : (w : Worker) (cs : List Change) → record_of w (own w cs) ≡ record_of w cs
unfolding own record_of
own_record w [] = refl
own_record w (planned p ∷ cs) = own_record w cs
own_record w (decided p v f ∷ cs) = by_test (worker_same v w) (λ q. rw q (rw q (rw (own_record w cs)))) (λ q. rw q (own_record w cs))
own_record w (cleared v ∷ cs) = by_test (worker_same v w) (λ q. rw q (rw q (rw (own_record w cs)))) (λ q. rw q (own_record w cs))

-- the record that is read after any calls is that of the worker's own standing changes alone
pub own_read : (w : Worker) (ks : List Call) (ws : List ℕ) → room ≤ length ws → InDomain ks
    → past_of (run ks (emptied ws).1) w.0 w.1 ≡ past_from (record_of w (own w (after ks nothing_stands).changes))
own_read w ks ws h d = (relied_on ks ws h d).record_is w ∙ ap past_from (sym (own_record w (after ks nothing_stands).changes))

-- ---- the order of plans

swapped : (t : ℕ) (p q : Plan) (s : Sums) → counted t p (counted t q s) ≡ counted t q (counted t p s)
unfolding counted
swapped t p q s = by_test (eqb p.second t)
    (λ a. by_test (eqb q.second t)
    (λ b. let d : s.drafts + q.drafts + p.drafts ≡ s.drafts + p.drafts + q.drafts = omega arith in
    let e : s.sequences + q.sequences + p.sequences ≡ s.sequences + p.sequences + q.sequences = omega arith in
    let f : s.committed + q.committed + p.committed ≡ s.committed + p.committed + q.committed = omega arith in
    rw (a, b, d, e, f))
    (λ b. rw (a, b)))
    (λ a. rw a)

-- what a change adds at a second
unfoldable adds : ℕ → Change → Sums → Sums
adds t (planned p) s = counted t p s
adds t (decided p w f) s = counted t p s
adds t (cleared w) s = s

adds_sums : (t : ℕ) (c : Change) (cs : List Change) → sums_at t (c ∷ cs) ≡ adds t c (sums_at t cs)
unfolding sums_at adds
adds_sums t (planned p) cs = refl
adds_sums t (decided p w f) cs = refl
adds_sums t (cleared w) cs = refl

adds_either : (t : ℕ) (c d : Change) (s : Sums) → adds t c (adds t d s) ≡ adds t d (adds t c s)
unfolding adds
adds_either t (planned p) (planned q) s = swapped t p q s
adds_either t (planned p) (decided q w f) s = swapped t p q s
adds_either t (planned p) (cleared w) s = refl
adds_either t (decided p v f) (planned q) s = swapped t p q s
adds_either t (decided p v f) (decided q w g) s = swapped t p q s
adds_either t (decided p v f) (cleared w) s = refl
adds_either t (cleared v) d s = refl

-- changes in another order
pub data Shuffled : List Change → List Change → Type 0 where
  as_they_are : {cs : List Change} → Shuffled cs cs
  under : {cs ds : List Change} (c : Change) → Shuffled cs ds → Shuffled (c ∷ cs) (c ∷ ds)
  swap : {cs : List Change} (c d : Change) → Shuffled (c ∷ d ∷ cs) (d ∷ c ∷ cs)
  also : {cs ds es : List Change} → Shuffled cs ds → Shuffled ds es → Shuffled cs es

-- the order in which changes came does not matter to the sums at any second
pub any_order : (t : ℕ) {cs ds : List Change} → Shuffled cs ds → sums_at t cs ≡ sums_at t ds
any_order t as_they_are = refl
any_order t (under {cs} {ds} c h) = adds_sums t c cs ∙ ap (adds t c) (any_order t h) ∙ sym (adds_sums t c ds)
any_order t (swap {cs} c d) =
    adds_sums t c (d ∷ cs) ∙ ap (adds t c) (adds_sums t d cs) ∙ adds_either t c d (sums_at t cs) ∙ ap (adds t d) (sym (adds_sums t c cs)) ∙ sym (adds_sums t d (c ∷ cs))
any_order t (also h k) = any_order t h ∙ any_order t k

-- so it does not matter to the rows that the series and the day figure are made of
pub any_order_rows : {cs ds : List Change} → Shuffled cs ds → seconds_given cs ≡ seconds_given ds
any_order_rows {cs} {ds} h = same_rows ltb eqb second_order (seconds_given cs) (seconds_given ds) (seconds_ascend cs) (seconds_ascend ds)
    (λ t. at_seconds t cs ∙ ap held_sums (any_order t h) ∙ sym (at_seconds t ds))
