-- A known worker's stall collected, and an emptied storage, over plain variables. Assumes nothing.
use Rattle.std.proofs.Common.{◌≡◌, ℕ, ◌≤◌, List, ◌++◌, length, take, drop, replicate, Ok, le-ltb, eq-eqb}
use Rattle.std.specs.Prelude.{Result, Float}
use Rattle.std.specs.Float.{binary64}
use Rattle.std.specs.Float.Ieee.{of_bits}
use lib.Seq.{length-take-le}
use Rattle.refusals.specs.declared.Refusal.{Refusal}
use Rattle.refusals.specs.Refusals.{Judgement}
use Rattle.ledger_rows.specs.declared.layout.Past.{Past}
use Rattle.ledger_rows.specs.Layout.{room}
use Rattle.ledger_workers.specs.Workers.{past_of}
use Rattle.ledger_acts.specs.Acts.{collected_done}
use Rattle.ledger.specs.Calls.{collected_of, collected, zeros, emptied}

module _ (ws : List ℕ) (long : room ≤ length ws) where
  pub collected_known : (a b : ℕ) (p : Past) (last : List ℕ) (f : Float) → p ≡ past_of ws a b → p.kind ≡ 2
      → last ≡ collected_done ws a b (record { kind = 2; width = p.width; rounds = p.rounds; stall = p.stall }) → f ≡ of_bits binary64 p.stall
      → ◌≡◌ {A = Result Float Refusal × List ℕ} (Ok f, last) (collected ws a b)
  unfolding collected collected_of collected_done
  collected_known a b p last f e k l q = rw (le-ltb (length ws) room long, ← e, eq-eqb _ _ k, l, q)

  pub emptied_done : (front : List ℕ) → front ≡ replicate (length (take room ws)) 0 → ◌≡◌ {A = Judgement × List ℕ} (Ok tt, front ++ drop room ws) (emptied ws)
  unfolding emptied zeros
  emptied_done front e = rw (le-ltb (length ws) room long, e, length-take-le room ws long)
