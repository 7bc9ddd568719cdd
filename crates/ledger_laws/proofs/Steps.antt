-- A step added and taken away again, a worker's record put and put back, on words that hold what stands. Assumes nothing.
use mathlib.Core.Path.{◌≡◌, refl, sym, ap, ◌∙◌}
use mathlib.Core.Bool.{true, false}
use mathlib.Core.List.{List, [], ◌∷◌}
use mathlib.Core.Option.{Option, none, some}
use Prim.Native.Nat.{ℕ, ◌+◌, ◌-◌, ◌^◌, ◌≤◌, ◌<◌}
use native.Mathlib.Numerals.{add-one}
use native.Mathlib.Omega.{arith}
use lib.Dec.{ltb, eqb}
use lib.ListN.{length, set}
use Rattle.ledger_rows.specs.Words.{stored}
use Rattle.ledger_rows.specs.Map.{at, put_at, without, Ascending, is_held, before}
use Rattle.ledger_rows.proofs.Maps.{at_put, length_put, without_put, put_put, put_there as put_held}
use Rattle.ledger_rows.proofs.Tests.{not_both}
use Rattle.ledger_rows.specs.Layout.{second_at, seconds_most, workers_most, drafts_in, sequences_in, committed_in, steps_in}
use Rattle.ledger_seconds.specs.Seconds.{step_added, step_removed}
use Rattle.ledger_workers.specs.Workers.{worker_less, worker_same, past_of, worker_put, worker_dropped}
use Rattle.ledger_laws.specs.Model.{Worker, Switching, Plan, Sums, more}
use Rattle.ledger_laws.specs.Encode.{second_words, past_from, Newest, laid, first_of, grown, add_plan}
use Rattle.ledger_laws.proofs.Orders.{second_order, worker_order}
use Rattle.ledger_laws.proofs.WordWays.{added_there, added_here, removed_there, removed_last, put_there, put_here, dropped_there, past_there, past_nowhere}
use Rattle.ledger_laws.proofs.Laid.{stored_second, opened_second, closed_second, read_second, set_seconds, place_second, stored_worker, opened_worker, closed_worker, read_worker, set_workers, place_worker}

-- ---- the seconds

module _ (m : ℕ) (ring : Newest) (workers : List (Worker × Switching)) (rest : List ℕ) (p : Plan) (seconds : List (ℕ × Sums)) where
  abbrev S : List (ℕ × Sums) → List ℕ
  S rows = laid (length rows) m ring workers rows rest

  abbrev t : ℕ
  t = p.second

  -- there is room for a first plan, and the sums of one more fit
  unfoldable pub Room : Option Sums → Type 0
  Room none = length seconds < seconds_most
  Room (some u) = (u.drafts + p.drafts ≤ 2 ^ 64 - 1) × (u.sequences + p.sequences ≤ 2 ^ 64 - 1) × (u.committed + p.committed ≤ 2 ^ 64 - 1) × (u.steps + 1 ≤ 2 ^ 64 - 1)

  first_is : at ltb eqb t seconds ≡ none → add_plan p seconds ≡ put_at ltb eqb t (first_of p) seconds
  unfolding add_plan grown
  first_is e = rw e

  more_is : (u : Sums) → at ltb eqb t seconds ≡ some u → add_plan p seconds ≡ put_at ltb eqb t (more p u) seconds
  unfolding add_plan grown
  more_is u e = rw e

  longer : (u : Sums) → at ltb eqb t seconds ≡ none → length (put_at ltb eqb t u seconds) ≡ length seconds + 1
  longer u e = length_put ltb eqb second_order t u seconds ∙ rw e (sym (add-one (length seconds)))

  as_long : (o u : Sums) → at ltb eqb t seconds ≡ some o → length (put_at ltb eqb t u seconds) ≡ length seconds
  as_long o u e = length_put ltb eqb second_order t u seconds ∙ rw e

  pub added : length seconds ≤ seconds_most → Ascending ltb eqb seconds → (o : Option Sums) → at ltb eqb t seconds ≡ o → Room o
      → step_added (S seconds) p ≡ S (add_plan p seconds)
  unfolding Room
  added fits asc none e few =
      let b : ℕ = before ltb eqb t seconds in
      let end : laid (length seconds + 1) m ring workers (put_at ltb eqb t (first_of p) seconds) rest ≡ S (add_plan p seconds) = rw (first_is e, longer (first_of p) e) in
      added_here (S seconds) p b (length seconds) (place_second m ring workers rest t seconds fits asc none e) few
      ∙ ap (λ (l : List ℕ). set l 0 (length seconds + 1)) (opened_second (length seconds) m ring workers rest t seconds fits (first_of p) e few)
      ∙ set_seconds (length seconds) (length seconds + 1) m ring workers (put_at ltb eqb t (first_of p) seconds) rest
      ∙ end
  added fits asc (some u) e h =
      let b : ℕ = before ltb eqb t seconds in
      let end : laid (length seconds) m ring workers (put_at ltb eqb t (more p u) seconds) rest ≡ S (add_plan p seconds) = rw (more_is u e, as_long u (more p u) e) in
      added_there (S seconds) p b (length seconds) (place_second m ring workers rest t seconds fits asc (some u) e) u.drafts u.sequences u.committed u.steps
      (read_second (length seconds) m ring workers rest t seconds fits u e drafts_in (omega arith)) (read_second (length seconds) m ring workers rest t seconds fits u e sequences_in (omega arith)) (read_second (length seconds) m ring workers rest t seconds fits u e committed_in (omega arith)) (read_second (length seconds) m ring workers rest t seconds fits u e steps_in (omega arith))
      h.0 h.1 h.2 h.3
      ∙ stored_second (length seconds) m ring workers rest t seconds fits u (more p u) e
      ∙ end

  -- and taken away again
  removed_from : (now : List (ℕ × Sums)) → length now ≤ seconds_most → Ascending ltb eqb now → (o : Option Sums) → at ltb eqb t seconds ≡ o → now ≡ put_at ltb eqb t (grown p o) seconds → (((u : Sums) → o ≡ some u → 1 ≤ u.steps))
      → step_removed (S now) p ≡ S seconds
  unfolding grown
  removed_from now fits asc none e is some_steps =
      let b : ℕ = before ltb eqb t now in
      let there : at ltb eqb t now ≡ some (first_of p) = rw is (at_put ltb eqb second_order t (first_of p) seconds) in
      let gone : without ltb eqb t now ≡ seconds = rw is (without_put ltb eqb second_order t (first_of p) seconds e) in
      let len : length now - 1 ≡ length seconds = rw (is, longer (first_of p) e) (omega arith) in
      removed_last (S now) p b (length now) (place_second m ring workers rest t now fits asc (some (first_of p)) there) 1 (read_second (length now) m ring workers rest t now fits (first_of p) there steps_in (omega arith)) (omega arith)
      ∙ ap (λ (l : List ℕ). set l 0 (length now - 1)) (closed_second (length now) m ring workers rest t now fits (first_of p) there)
      ∙ set_seconds (length now) (length now - 1) m ring workers (without ltb eqb t now) rest
      ∙ rw (gone, len)
  removed_from now fits asc (some u) e is some_steps =
      let b : ℕ = before ltb eqb t now in
      let there : at ltb eqb t now ≡ some (more p u) = rw is (at_put ltb eqb second_order t (more p u) seconds) in
      let back : put_at ltb eqb t u now ≡ seconds = rw is (put_put ltb eqb second_order t (more p u) u seconds ∙ put_held ltb eqb second_order t u seconds e) in
      let len : length now ≡ length seconds = rw is (as_long u (more p u) e) in
      let d : u.drafts + p.drafts - p.drafts ≡ u.drafts = omega arith in
      let s : u.sequences + p.sequences - p.sequences ≡ u.sequences = omega arith in
      let v : u.committed + p.committed - p.committed ≡ u.committed = omega arith in
      let n : u.steps + 1 - 1 ≡ u.steps = omega arith in
      let one : 1 ≤ u.steps = some_steps u refl in
      let two : 1 < u.steps + 1 = omega arith in
      let fields : (t ∷ (u.drafts + p.drafts - p.drafts) ∷ (u.sequences + p.sequences - p.sequences) ∷ (u.committed + p.committed - p.committed) ∷ (u.steps + 1 - 1) ∷ []) ≡ second_words (t, u) = rw (d, s, v, n) in
      removed_there (S now) p b (length now) (place_second m ring workers rest t now fits asc (some (more p u)) there) (u.drafts + p.drafts) (u.sequences + p.sequences) (u.committed + p.committed) (u.steps + 1)
      (read_second (length now) m ring workers rest t now fits (more p u) there drafts_in (omega arith)) (read_second (length now) m ring workers rest t now fits (more p u) there sequences_in (omega arith)) (read_second (length now) m ring workers rest t now fits (more p u) there committed_in (omega arith)) (read_second (length now) m ring workers rest t now fits (more p u) there steps_in (omega arith))
      two
      ∙ ap (λ (l : List ℕ). stored (second_at b) l (S now)) fields
      ∙ stored_second (length now) m ring workers rest t now fits (more p u) u there
      ∙ rw (back, len)

  pub removed : length (add_plan p seconds) ≤ seconds_most → Ascending ltb eqb (add_plan p seconds) → ((u : Sums) → at ltb eqb t seconds ≡ some u → 1 ≤ u.steps)
      → step_removed (S (add_plan p seconds)) p ≡ S seconds
  unfolding add_plan
  removed fits asc h = removed_from (add_plan p seconds) fits asc (at ltb eqb t seconds) refl refl h

-- ---- the workers

module _ (n : ℕ) (ring : Newest) (seconds : List (ℕ × Sums)) (rest : List ℕ) (w : Worker) (workers : List (Worker × Switching)) where
  abbrev H : List (Worker × Switching) → List ℕ
  H rows = laid n (length rows) ring rows seconds rest

  one_longer : (r : Switching) → at worker_less worker_same w workers ≡ none → length (put_at worker_less worker_same w r workers) ≡ length workers + 1
  one_longer r e = length_put worker_less worker_same worker_order w r workers ∙ rw e (sym (add-one (length workers)))

  just_as_long : (o r : Switching) → at worker_less worker_same w workers ≡ some o → length (put_at worker_less worker_same w r workers) ≡ length workers
  just_as_long o r e = length_put worker_less worker_same worker_order w r workers ∙ rw e

  module _ (fits : length workers ≤ workers_most) (asc : Ascending worker_less worker_same workers) where
    pub put : (r : Switching) (o : Option Switching) → at worker_less worker_same w workers ≡ o → (is_held o ≡ false → length workers < workers_most)
        → worker_put (H workers) w.0 w.1 r.width r.rounds r.stall ≡ H (put_at worker_less worker_same w r workers)
    put r none e few =
        let b : ℕ = before worker_less worker_same w workers in
        put_here (H workers) w.0 w.1 b (length workers) r.width r.rounds r.stall (place_worker n ring seconds rest w workers fits asc none e) (few refl)
        ∙ ap (λ (l : List ℕ). set l 1 (length workers + 1)) (opened_worker n (length workers) ring seconds rest w workers fits r e (few refl))
        ∙ set_workers n (length workers) (length workers + 1) ring (put_at worker_less worker_same w r workers) seconds rest
        ∙ rw (one_longer r e)
    put r (some o) e few =
        let b : ℕ = before worker_less worker_same w workers in
        put_there (H workers) w.0 w.1 b (length workers) r.width r.rounds r.stall (place_worker n ring seconds rest w workers fits asc (some o) e)
        ∙ stored_worker n (length workers) ring seconds rest w workers fits o r e
        ∙ rw (just_as_long o r e)

    pub past : (o : Option Switching) → at worker_less worker_same w workers ≡ o → past_of (H workers) w.0 w.1 ≡ past_from o
    past none e = past_nowhere (H workers) w.0 w.1 (before worker_less worker_same w workers) (length workers) (place_worker n ring seconds rest w workers fits asc none e)
    past (some o) e = past_there (H workers) w.0 w.1 (before worker_less worker_same w workers) (length workers) o.width o.rounds o.stall (place_worker n ring seconds rest w workers fits asc (some o) e)
        (read_worker n (length workers) ring seconds rest w workers fits o e 2 (omega arith)) (read_worker n (length workers) ring seconds rest w workers fits o e 3 (omega arith)) (read_worker n (length workers) ring seconds rest w workers fits o e 4 (omega arith))

  -- a new worker gone again
  pub dropped : (r : Switching) → length (put_at worker_less worker_same w r workers) ≤ workers_most → Ascending worker_less worker_same (put_at worker_less worker_same w r workers) → at worker_less worker_same w workers ≡ none
      → worker_dropped (H (put_at worker_less worker_same w r workers)) w.0 w.1 ≡ H workers
  dropped r fits asc e =
      let now : List (Worker × Switching) = put_at worker_less worker_same w r workers in
      let there : at worker_less worker_same w now ≡ some r = at_put worker_less worker_same worker_order w r workers in
      let gone : without worker_less worker_same w now ≡ workers = without_put worker_less worker_same worker_order w r workers e in
      let len : length now - 1 ≡ length workers = rw (one_longer r e) (omega arith) in
      dropped_there (H now) w.0 w.1 (before worker_less worker_same w now) (length now) (place_worker n ring seconds rest w now fits asc (some r) there)
      ∙ ap (λ (l : List ℕ). set l 1 (length now - 1)) (closed_worker n (length now) ring seconds rest w now fits r there)
      ∙ set_workers n (length now) (length now - 1) ring (without worker_less worker_same w now) seconds rest
      ∙ rw (gone, len)

-- a record put back
pub put_back : (n : ℕ) (ring : Newest) (seconds : List (ℕ × Sums)) (rest : List ℕ) (w : Worker) (workers : List (Worker × Switching)) (r o : Switching)
    → length (put_at worker_less worker_same w r workers) ≤ workers_most → Ascending worker_less worker_same (put_at worker_less worker_same w r workers) → at worker_less worker_same w workers ≡ some o
    → worker_put (laid n (length (put_at worker_less worker_same w r workers)) ring (put_at worker_less worker_same w r workers) seconds rest) w.0 w.1 o.width o.rounds o.stall ≡ laid n (length workers) ring workers seconds rest
put_back n ring seconds rest w workers r o fits asc e =
    let now : List (Worker × Switching) = put_at worker_less worker_same w r workers in
    let there : at worker_less worker_same w now ≡ some r = at_put worker_less worker_same worker_order w r workers in
    let back : put_at worker_less worker_same w o now ≡ workers = put_put worker_less worker_same worker_order w r o workers ∙ put_held worker_less worker_same worker_order w o workers e in
    let held : is_held (some r) ≡ false → length now < workers_most = λ q. absurd (not_both true refl q) in
    put n ring seconds rest w now fits asc o (some r) there held ∙ rw back
