-- Laws of a batch that is drawn sequence by sequence: each way through the loops. Assumes nothing.
use mathlib.Core.Path.{◌≡◌, refl, sym, ap, ◌∙◌, subst}
use mathlib.Core.Bool.{Bool, true, false, cond}
use mathlib.Core.List.{List, ◌∷◌}
use Prim.Native.Nat.{ℕ, suc, ◌+◌, ◌-◌, ◌≤◌, ◌<◌}
use native.Mathlib.Omega.{arith}
use lib.Dec.{ltb}
use lib.ListN.{length, get_or, drop, set, drop_of_length-le}
use lib.Seq.{sets, drop-drop}
use lib.Ieee.{Float}
use borrow.Author.Tests.{le-ltb, lt-ltb}
use Rattle.laws.proofs.Lists.{next}
use Rattle.acceptance.specs.Acceptance.{sample_from, used_of}
use Rattle.acceptance.proofs.Draws.{sample_bounded}
use Rattle.acceptance.specs.declared.AcceptanceModel.{AcceptanceModel}
use Rattle.acceptance.specs.declared.Sample.{Sample}
use Rattle.std.specs.Prelude.{Result, Ok, Err}
use Rattle.refusals.specs.declared.Refusal.{Refusal}
use Rattle.refusals.specs.Refusals.{number_of}
use Rattle.rounds.specs.declared.drawing.Drawn.{Drawn}
use Rattle.rounds.specs.declared.drawing.Drawn.TheVariants.{Used, Refused as NotDrawn}
use Rattle.rounds.specs.Drawing.{Batch, none_left, refused_with, and_used, and_then, sequence_then, analytic, replayed, drawn_over}

-- what a buffer is left with, where k commits stand in it, so many draws are used, and the rest is to come
abbrev pub left_from : ℕ → ℕ → List ℕ → Batch → Batch
left_from used k now b = record { answer = and_used used b.answer; commits = sets now k b.commits }

none_more : (a : Drawn) → a ≡ and_used 0 a
none_more (Used u) = ap Used (omega arith)
none_more (NotDrawn r) = refl

more_twice : (u v : ℕ) (a : Drawn) → and_used u (and_used v a) ≡ and_used (u + v) a
more_twice u v (Used w) = ap Used (omega arith)
more_twice u v (NotDrawn r) = refl

starts : (b : Batch) (old : List ℕ) → drawn_over b old ≡ left_from 0 0 old b
starts b old = ap (λ (a : Drawn). record { answer = a; commits = sets old 0 b.commits }) (none_more b.answer)

-- one sequence more
goes_on : (used k : ℕ) (now : List ℕ) (commits more : ℕ) (later : Batch) → left_from used k now (and_then commits more later) ≡ left_from (used + more) (k + 1) (set now k commits) later
goes_on used k now commits more later =
    let s : suc k ≡ k + 1 = omega arith in
    ap (λ (a : Drawn). record { answer = a; commits = sets now k (commits ∷ later.commits) }) (more_twice used more later.answer)
    ∙ ap (λ (i : ℕ). record { answer = and_used (used + more) later.answer; commits = sets (set now k commits) i later.commits }) s

ended : (used k : ℕ) (now : List ℕ) → left_from used k now none_left ≡ record { answer = Used used; commits = now }
ended used k now = let z : used + 0 ≡ used = omega arith in ap (λ (u : ℕ). record { answer = Used u; commits = now }) z

one_left : (n k : ℕ) → k < n → n - k ≡ suc (n - (k + 1))
one_left n k h = omega arith

no_left : (n k : ℕ) → n ≤ k → n - k ≡ 0
no_left n k h = omega arith

all_left : (n : ℕ) → n ≡ n - 0
all_left n = omega arith

-- ---- by an acceptance model
module _ (model : AcceptanceModel) (positions : List Float) (gamma : ℕ) (draws : List Float) (n : ℕ) where
  abbrev pub to_draw : ℕ → ℕ → Batch
  to_draw k used = analytic model positions gamma (n - k) (drop used draws)

  -- a sequence uses at most gamma draws
  pub used_few : (used : ℕ) (s : Sample) → Ok s ≡ sample_from model positions gamma draws used → s.used ≤ gamma
  used_few used s e = subst (λ (r : Result Sample Refusal). used_of r ≤ gamma) (sym e) (sample_bounded model positions gamma draws used).used_gamma

  pub draws_start : (old : List ℕ) → drawn_over (analytic model positions gamma n draws) old ≡ left_from 0 0 old (to_draw 0 0)
  draws_start old =
      starts (analytic model positions gamma n draws) old
      ∙ ap (λ (m : ℕ). left_from 0 0 old (analytic model positions gamma m draws)) (all_left n)

  drawn_next : (k used : ℕ) (s : Result Sample Refusal) → k < n → s ≡ sample_from model positions gamma draws used
      → to_draw k used ≡ sequence_then s (λ more. analytic model positions gamma (n - (k + 1)) (drop more (drop used draws)))
  unfolding analytic
  drawn_next k used s h e =
      ap (λ (m : ℕ). analytic model positions gamma m (drop used draws)) (one_left n k h)
      ∙ ap (λ (t : Result Sample Refusal). sequence_then t (λ more. analytic model positions gamma (n - (k + 1)) (drop more (drop used draws)))) (sym e)

  pub draws_refused : (k used : ℕ) (refusal : Refusal) (number : ℕ) (now : List ℕ) → k < n → Err refusal ≡ sample_from model positions gamma draws used → number ≡ number_of refusal
      → left_from used k now (to_draw k used) ≡ record { answer = NotDrawn number; commits = now }
  draws_refused k used refusal number now h e q =
      ap (left_from used k now) (drawn_next k used (Err refusal) h e) ∙ ap (λ (r : ℕ). record { answer = NotDrawn r; commits = now }) (sym q)

  pub draws_next : (k used : ℕ) (s : Sample) (now : List ℕ) → k < n → Ok s ≡ sample_from model positions gamma draws used
      → left_from used k now (to_draw k used) ≡ left_from (used + s.used) (k + 1) (set now k s.commits) (to_draw (k + 1) (used + s.used))
  draws_next k used s now h e =
      ap (left_from used k now) (drawn_next k used (Ok s) h e)
      ∙ goes_on used k now s.commits s.used (analytic model positions gamma (n - (k + 1)) (drop s.used (drop used draws)))
      ∙ ap (λ (l : List Float). left_from (used + s.used) (k + 1) (set now k s.commits) (analytic model positions gamma (n - (k + 1)) l)) (drop-drop s.used used draws)

  pub draws_end : (k used : ℕ) (now : List ℕ) → n ≤ k → left_from used k now (to_draw k used) ≡ record { answer = Used used; commits = now }
  unfolding analytic
  draws_end k used now h =
      ap (λ (m : ℕ). left_from used k now (analytic model positions gamma m (drop used draws))) (no_left n k h) ∙ ended used k now

-- ---- by a bank's rounds
module _ (bank : List ℕ) (rounds : ℕ) (indices : List ℕ) (n : ℕ) where
  abbrev pub to_replay : ℕ → Batch
  to_replay k = replayed bank rounds (n - k) (drop k indices)

  pub replay_starts : (old : List ℕ) → drawn_over (replayed bank rounds n indices) old ≡ left_from 0 0 old (to_replay 0)
  replay_starts old =
      starts (replayed bank rounds n indices) old
      ∙ ap (λ (m : ℕ). left_from 0 0 old (replayed bank rounds m indices)) (all_left n)

  pub replay_absent : (k : ℕ) (now : List ℕ) → k < n → length indices ≤ k → left_from k k now (to_replay k) ≡ record { answer = NotDrawn 13; commits = now }
  unfolding replayed
  replay_absent k now h l = rw (one_left n k h, drop_of_length-le indices l)

  at_index : (k : ℕ) (b : Bool) → k < n → k < length indices → ltb (get_or indices k 0) rounds ≡ b
      → to_replay k ≡ cond b (and_then (get_or bank (get_or indices k 0) 0) 1 (to_replay (k + 1))) (refused_with 14)
  unfolding replayed
  at_index k b h l e = rw (one_left n k h, next indices k 0 l, e)

  pub replay_refused : (k : ℕ) (now : List ℕ) → k < n → k < length indices → rounds ≤ get_or indices k 0
      → left_from k k now (to_replay k) ≡ record { answer = NotDrawn 14; commits = now }
  replay_refused k now h l e = ap (left_from k k now) (at_index k false h l (le-ltb (get_or indices k 0) rounds e))

  pub replay_next : (k : ℕ) (now : List ℕ) → k < n → k < length indices → get_or indices k 0 < rounds
      → left_from k k now (to_replay k) ≡ left_from (k + 1) (k + 1) (set now k (get_or bank (get_or indices k 0) 0)) (to_replay (k + 1))
  replay_next k now h l e =
      ap (left_from k k now) (at_index k true h l (lt-ltb (get_or indices k 0) rounds e))
      ∙ goes_on k k now (get_or bank (get_or indices k 0) 0) 1 (to_replay (k + 1))

  pub replay_ends : (k : ℕ) (now : List ℕ) → k ≤ n → n ≤ k → left_from k k now (to_replay k) ≡ record { answer = Used n; commits = now }
  unfolding replayed
  replay_ends k now low h =
      let e : k ≡ n = omega arith in
      ap (λ (m : ℕ). left_from k k now (replayed bank rounds m (drop k indices))) (no_left n k h) ∙ ended k k now ∙ ap (λ (u : ℕ). record { answer = Used u; commits = now }) e
