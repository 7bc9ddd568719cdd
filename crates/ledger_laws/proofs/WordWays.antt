-- What the operations on the words come to once a place and the words there are known. Assumes nothing.
use mathlib.Core.Path.{◌≡◌, refl}
use mathlib.Core.Bool.{Bool, true, false, cond}
use mathlib.Core.List.{List, [], ◌∷◌}
use Prim.Native.Nat.{ℕ, ◌+◌, ◌-◌, ◌^◌, ◌≤◌, ◌<◌, min}
use native.Mathlib.Nat.{min-eq_left}
use borrow.Author.Tests.{lt-ltb, le-ltb}
use lib.Dec.{ltb}
use lib.ListN.{length, get_or, set}
use Rattle.ledger_rows.specs.Words.{stored, opened, closed}
use Rattle.ledger_rows.specs.declared.layout.Step.{Step}
use Rattle.ledger_rows.specs.Layout.{room, seconds_most, workers_most, steps_most, second_at, worker_at, drafts_in, sequences_in, committed_in, steps_in, planned_in, kind_in, worker_ain, worker_bin, width_in, rounds_in, stall_in}
use Rattle.ledger_seconds.specs.Seconds.{second_place, second_raised, second_inserted, step_added, second_lowered, step_removed}
use Rattle.ledger_workers.specs.Workers.{worker_place, past_at, past_of, worker_stored, worker_inserted, worker_put, worker_taken, worker_dropped}
use Rattle.ledger_changes.specs.Changes.{newest_at, step_back, record_back, worker_back}
use Rattle.refusals.specs.declared.Refusal.{Refusal}
use Rattle.refusals.specs.declared.Refusal.TheVariants.{WorkerRoom, SecondRoom, StepRoom}
use Rattle.refusals.specs.Refusals.{passed_if, number_of, number_in}
use Rattle.ledger_acts.specs.Acts.{place_allows, step_allows, worker_allows, step_refusal, worker_refusal}
use Rattle.ledger.specs.Calls.{step_allowed, worker_allowed, step_judged, worker_judged}

module _ (ws : List ℕ) (p : Step) (b n : ℕ) where
  abbrev t : ℕ
  t = p.second

  module _ (is : second_place ws t ≡ record { row = b; rows = n; known = true }) (x y v z : ℕ)
      (r1 : get_or ws (second_at b + drafts_in) 0 ≡ x) (r2 : get_or ws (second_at b + sequences_in) 0 ≡ y) (r3 : get_or ws (second_at b + committed_in) 0 ≡ v) (r4 : get_or ws (second_at b + steps_in) 0 ≡ z) where
    pub added_there : x + p.drafts ≤ 2 ^ 64 - 1 → y + p.sequences ≤ 2 ^ 64 - 1 → v + p.committed ≤ 2 ^ 64 - 1 → z + 1 ≤ 2 ^ 64 - 1
        → step_added ws p ≡ stored (second_at b) (t ∷ (x + p.drafts) ∷ (y + p.sequences) ∷ (v + p.committed) ∷ (z + 1) ∷ []) ws
    unfolding step_added second_raised
    added_there h k m l =
        let d : min (x + p.drafts) (2 ^ 64 - 1) ≡ x + p.drafts = min-eq_left h in
        let s : min (y + p.sequences) (2 ^ 64 - 1) ≡ y + p.sequences = min-eq_left k in
        let q : min (v + p.committed) (2 ^ 64 - 1) ≡ v + p.committed = min-eq_left m in
        let c : min (z + 1) (2 ^ 64 - 1) ≡ z + 1 = min-eq_left l in
        rw (is, r1, r2, r3, r4, d, s, q, c)

    pub removed_there : 1 < z → step_removed ws p ≡ stored (second_at b) (t ∷ (x - p.drafts) ∷ (y - p.sequences) ∷ (v - p.committed) ∷ (z - 1) ∷ []) ws
    unfolding step_removed second_lowered
    removed_there h = rw (is, r4, lt-ltb 1 z h, r1, r2, r3)

  pub added_here : second_place ws t ≡ record { row = b; rows = n; known = false } → n < seconds_most
      → step_added ws p ≡ set (opened (second_at b) (second_at n) (t ∷ p.drafts ∷ p.sequences ∷ p.committed ∷ 1 ∷ []) ws) 0 (n + 1)
  unfolding step_added second_inserted
  added_here is h = rw (is, lt-ltb n seconds_most h)

  pub removed_last : second_place ws t ≡ record { row = b; rows = n; known = true } → (z : ℕ) → get_or ws (second_at b + steps_in) 0 ≡ z → z ≤ 1
      → step_removed ws p ≡ set (closed (second_at b) (second_at (n - 1)) (0 ∷ 0 ∷ 0 ∷ 0 ∷ 0 ∷ []) ws) 0 (n - 1)
  unfolding step_removed second_lowered
  removed_last is z r4 h = rw (is, r4, le-ltb 1 z h)

pub judged_step : (ws : List ℕ) (t : ℕ) → room ≤ length ws → step_judged ws t ≡ step_refusal ws t
unfolding step_allowed
judged_step ws t h = rw (le-ltb (length ws) room h)

pub judged_worker : (ws : List ℕ) (a b : ℕ) → room ≤ length ws → worker_judged ws a b ≡ worker_refusal ws a b
unfolding worker_allowed
judged_worker ws a b h = rw (le-ltb (length ws) room h)

-- the number of what hangs on a test
pub passed_number : (b : Bool) (x : Refusal) → number_in (passed_if b x) ≡ cond b 0 (number_of x)
passed_number true x = refl
passed_number false x = refl

pub refused_step : (ws : List ℕ) (t b n : ℕ) (known : Bool) (z : ℕ) → second_place ws t ≡ record { row = b; rows = n; known = known } → (known ≡ true → get_or ws (second_at b + steps_in) 0 ≡ z)
    → step_refusal ws t ≡ cond known (cond (ltb z steps_most) 0 19) (cond (ltb n seconds_most) 0 18)
unfolding step_allows place_allows
refused_step ws t b n true z is r = rw (is, r refl) (passed_number (ltb z steps_most) StepRoom)
refused_step ws t b n false z is r = rw is (passed_number (ltb n seconds_most) SecondRoom)

module _ (ws : List ℕ) (a c b n : ℕ) where
  pub put_there : (width rounds stall : ℕ) → worker_place ws a c ≡ record { row = b; rows = n; known = true } → worker_put ws a c width rounds stall ≡ stored (worker_at b) (a ∷ c ∷ width ∷ rounds ∷ stall ∷ []) ws
  unfolding worker_put worker_stored
  put_there width rounds stall is = rw is

  pub put_here : (width rounds stall : ℕ) → worker_place ws a c ≡ record { row = b; rows = n; known = false } → n < workers_most
      → worker_put ws a c width rounds stall ≡ set (opened (worker_at b) (worker_at n) (a ∷ c ∷ width ∷ rounds ∷ stall ∷ []) ws) 1 (n + 1)
  unfolding worker_put worker_inserted
  put_here width rounds stall is h = rw (is, lt-ltb n workers_most h)

  pub dropped_there : worker_place ws a c ≡ record { row = b; rows = n; known = true } → worker_dropped ws a c ≡ set (closed (worker_at b) (worker_at (n - 1)) (0 ∷ 0 ∷ 0 ∷ 0 ∷ 0 ∷ []) ws) 1 (n - 1)
  unfolding worker_dropped worker_taken
  dropped_there is = rw is

  pub past_there : (x y z : ℕ) → worker_place ws a c ≡ record { row = b; rows = n; known = true }
      → get_or ws (worker_at b + 2) 0 ≡ x → get_or ws (worker_at b + 3) 0 ≡ y → get_or ws (worker_at b + 4) 0 ≡ z → past_of ws a c ≡ record { kind = 2; width = x; rounds = y; stall = z }
  unfolding past_of past_at
  past_there x y z is r2 r3 r4 = rw (is, r2, r3, r4)

  pub past_nowhere : worker_place ws a c ≡ record { row = b; rows = n; known = false } → past_of ws a c ≡ record { kind = 1; width = 0; rounds = 0; stall = 0 }
  unfolding past_of
  past_nowhere is = rw is

  pub refused_worker : (known : Bool) → worker_place ws a c ≡ record { row = b; rows = n; known = known } → worker_refusal ws a c ≡ cond known 0 (cond (ltb n workers_most) 0 17)
  unfolding worker_allows
  refused_worker true is = rw is
  refused_worker false is = rw is (passed_number (ltb n workers_most) WorkerRoom)

-- ---- the newest change taken back

module _ (ws : List ℕ) where
  pub step_plan : (p : Step) → get_or ws (newest_at ws + planned_in) 0 ≡ 1 → get_or ws (newest_at ws) 0 ≡ p.second → get_or ws (newest_at ws + drafts_in) 0 ≡ p.drafts → get_or ws (newest_at ws + sequences_in) 0 ≡ p.sequences
      → get_or ws (newest_at ws + committed_in) 0 ≡ p.committed → step_back ws ≡ step_removed ws p
  unfolding step_back
  step_plan p e f g h i = rw (e, f, g, h, i)

  pub step_none : get_or ws (newest_at ws + planned_in) 0 ≡ 0 → step_back ws ≡ ws
  unfolding step_back
  step_none e = rw e

  pub worker_none : get_or ws (newest_at ws + kind_in) 0 ≡ 0 → worker_back ws ≡ ws
  unfolding worker_back record_back
  worker_none e = rw e

  pub worker_new : (a b : ℕ) → get_or ws (newest_at ws + kind_in) 0 ≡ 1 → get_or ws (newest_at ws + worker_ain) 0 ≡ a → get_or ws (newest_at ws + worker_bin) 0 ≡ b → worker_back ws ≡ worker_dropped ws a b
  unfolding worker_back
  worker_new a b e f g = rw (e, f, g)

  pub worker_old : (a b x y z : ℕ) → get_or ws (newest_at ws + kind_in) 0 ≡ 2 → get_or ws (newest_at ws + worker_ain) 0 ≡ a → get_or ws (newest_at ws + worker_bin) 0 ≡ b
      → get_or ws (newest_at ws + width_in) 0 ≡ x → get_or ws (newest_at ws + rounds_in) 0 ≡ y → get_or ws (newest_at ws + stall_in) 0 ≡ z → worker_back ws ≡ worker_put ws a b x y z
  unfolding worker_back record_back
  worker_old a b x y z e f g h i j = rw (e, f, g, h, i, j)
