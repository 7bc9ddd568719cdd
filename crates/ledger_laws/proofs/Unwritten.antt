-- A REFUSAL WRITES NOTHING, on any content: each call that writes leaves what it was lent as it was. Assumes nothing.
use mathlib.Core.Path.{◌≡◌, refl, sym}
use mathlib.Core.List.{List}
use Prim.Native.Nat.{ℕ}
use lib.Dec.{ltb, eqb}
use lib.Ieee.{Float}
use lib.ListN.{length}
use Rattle.ledger_rows.specs.Layout.{room, available}
use Rattle.ledger_rows.specs.declared.layout.Past.{Past}
use Rattle.ledger_rows.specs.declared.layout.Step.{Step}
use Rattle.ledger_rows.proofs.Tests.{by_test}
use Rattle.ledger_workers.specs.Workers.{past_of}
use Rattle.std.specs.Prelude.{Ok, Err}
use Rattle.refusals.specs.declared.Refusal.{Refusal}
use Rattle.refusals.specs.Refusals.{Judgement, and_then}
use Rattle.refusals.proofs.First.{refused_is_no_answer}
use Rattle.ledger.specs.declared.answer.Decision.{Decision}
use Rattle.ledger.specs.declared.answer.Decision.TheVariants.{Nothing, Put}
use Rattle.ledger_acts.specs.Acts.{plain_done, decided_done}
use Rattle.ledger.specs.Calls.{step_allowed, worker_allowed, unless, recorded, collected_of, collected, withdrawn, emptied, too_short, series_read}

unless_refused : (j : Judgement) (x : Refusal) (ws after : List ℕ) → (unless j ws after).0 ≡ Err x → (unless j ws after).1 ≡ ws
unless_refused (Ok tt) x ws after e = refused_is_no_answer x tt (sym e)
unless_refused (Err y) x ws after e = refl

pub fresh_refused : (ws : List ℕ) (n : Refusal) → (emptied ws).0 ≡ Err n → (emptied ws).1 ≡ ws
unfolding emptied
fresh_refused ws n e = by_test (ltb (length ws) room) (λ l. rw l) (λ l. refused_is_no_answer n _ (sym (rw l at e)))

pub record_refused : (ws : List ℕ) (p : Step) (change : Decision) (n : Refusal) → (recorded ws p change).0 ≡ Err n → (recorded ws p change).1 ≡ ws
unfolding recorded
record_refused ws p Nothing n e = unless_refused (step_allowed ws p.second) n ws (plain_done ws p) e
record_refused ws p (Put a b width rounds stall) n e =
    unless_refused (and_then (worker_allowed ws a b) (step_allowed ws p.second)) n ws (decided_done ws p a b width rounds stall (past_of ws a b)) e

-- a collection of a long storage is never refused
collected_some : (ws : List ℕ) (a b : ℕ) (p : Past) (n : Refusal) → (collected_of ws a b p).0 ≡ Err n → ⊥
unfolding collected_of
collected_some ws a b p n e = by_test (eqb p.kind 2) (λ l. refused_is_no_answer n _ (sym (rw l at e))) (λ l. refused_is_no_answer n _ (sym (rw l at e)))

pub collect_refused : (ws : List ℕ) (a b : ℕ) (n : Refusal) → (collected ws a b).0 ≡ Err n → (collected ws a b).1 ≡ ws
unfolding collected
collect_refused ws a b n e = by_test (ltb (length ws) room) (λ l. rw l) (λ l. absurd (collected_some ws a b (past_of ws a b) n (rw l at e)))

pub withdraw_refused : (ws : List ℕ) (n : Refusal) → (withdrawn ws).0 ≡ Err n → (withdrawn ws).1 ≡ ws
unfolding withdrawn
withdraw_refused ws n e = by_test (ltb (length ws) room)
    (λ l. rw l)
    (λ l. by_test (ltb 0 (available ws)) (λ m. refused_is_no_answer n _ (sym (rw (l, m) at e))) (λ m. rw (l, m)))

pub series_refused : (ws seconds : List ℕ) (drafts batches committed : List Float) (n : Refusal) → (series_read ws seconds drafts batches committed).0 ≡ Err n
    → ((series_read ws seconds drafts batches committed).1 ≡ seconds) × ((series_read ws seconds drafts batches committed).2 ≡ drafts) × ((series_read ws seconds drafts batches committed).3 ≡ batches) × ((series_read ws seconds drafts batches committed).4 ≡ committed)
unfolding series_read
series_refused ws seconds drafts batches committed n e = by_test (too_short ws (length seconds) (length drafts) (length batches) (length committed))
    (λ l. rw l (refl, refl, refl, refl))
    (λ l. refused_is_no_answer n _ (sym (rw l at e)))
