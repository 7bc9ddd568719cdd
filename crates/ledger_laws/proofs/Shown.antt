-- The series and the day figure after any calls within the bounds: they are those of the seconds that have a standing plan, ascending, each with the
-- sums over its plans. Assumes nothing.
use mathlib.Core.Path.{◌≡◌, sym, ap, ◌∙◌}
use mathlib.Core.List.{List, ◌++◌, map}
use Prim.Native.Nat.{ℕ, ◌+◌, ◌≤◌, ◌<◌}
use native.Mathlib.Omega.{arith}
use borrow.Author.Tests.{le-ltb}
use lib.Dec.{ltb, eqb}
use lib.Ieee.{Float}
use lib.ListN.{length, get_or, drop, length-map, get_or-map}
use Rattle.ledger_rows.specs.Map.{at, Ascending}
use Rattle.ledger_rows.specs.Layout.{room, second_wide, second_at, seconds_held, drafts_in, sequences_in, committed_in, steps_in}
use Rattle.ledger_series.specs.Series.{mean_of, second_of, mean_of_drafts, mean_batch, mean_of_committed, up_to, front, figure_of}
use Rattle.ledger_series.proofs.Fronts.{up_is}
use Rattle.std.specs.Prelude.{Ok}
use Rattle.ledger.specs.Calls.{emptied, series_read, day_figure}
use Rattle.ledger_laws.specs.Model.{Sums, sums_at, Call, Standing, after, nothing_stands, InDomain}
use Rattle.ledger_laws.specs.Encode.{seconds_given, workers_given, second_words, no_second, newest_of, encode}
use Rattle.ledger_laws.specs.Run.{run}
use Rattle.ledger_laws.proofs.Given.{seconds_ascend, held_sums, at_seconds}
use Rattle.ledger_laws.proofs.Laid.{row_second, row_word, held_seconds}
use Rattle.ledger_laws.proofs.Forth.{Reached, fit_seconds, wide_enough}
use Rattle.ledger_laws.proofs.Theorem.{afresh, reached_nothing, demand_3}

-- of a second and its sums: the mean draft by sequence, the mean batch by step, and the mean committed by sequence
abbrev pub draft_of : ℕ × Sums → Float
draft_of r = mean_of r.1.drafts r.1.sequences

abbrev pub batch_of : ℕ × Sums → Float
batch_of r = mean_of r.1.sequences r.1.steps

abbrev pub mean_committed_of : ℕ × Sums → Float
mean_committed_of r = mean_of r.1.committed r.1.sequences

-- of words that hold what stands, where `rows` are the seconds with their sums
pub record Shown (s : Standing) (rows : List (ℕ × Sums)) (ws : List ℕ) : Type 0 where
  -- the rows ascend, and are at each second the sums over the standing plans at it, where there is one
  pub ascending : Ascending ltb eqb rows
  pub sums_are : (t : ℕ) → at ltb eqb t rows ≡ held_sums (sums_at t s.changes)
  -- the series is theirs
  pub series_is : (a : List ℕ) (b c d : List Float) → length rows ≤ length a → length rows ≤ length b → length rows ≤ length c → length rows ≤ length d
      → series_read ws a b c d ≡ (Ok (length rows), map (λ r. r.0) rows ++ drop (length rows) a, map draft_of rows ++ drop (length rows) b, map batch_of rows ++ drop (length rows) c, map mean_committed_of rows ++ drop (length rows) d)
  -- the day figure is theirs
  pub figure_is : day_figure ws ≡ Ok (figure_of (map draft_of rows))

module _ (s : Standing) (rest : List ℕ) (r : Reached s) where
  abbrev rows : List (ℕ × Sums)
  rows = seconds_given s.changes

  abbrev E : List ℕ
  E = encode s rest

  held : seconds_held E ≡ length rows
  unfolding encode
  held = held_seconds (length (workers_given s.changes)) (newest_of s) (workers_given s.changes) rest 0 rows (fit_seconds s.changes r.sound) (seconds_ascend s.changes)

  second_at_lem : (i : ℕ) → i < length rows → get_or E (second_at i) 0 ≡ (get_or rows i no_second).0
  unfolding encode
  second_at_lem i h = row_second (length rows) (length (workers_given s.changes)) (newest_of s) (workers_given s.changes) rest rows (fit_seconds s.changes r.sound) i h

  word_of : (i j : ℕ) → i < length rows → j < second_wide → get_or E (second_at i + j) 0 ≡ get_or (second_words (get_or rows i no_second)) j 0
  unfolding encode
  word_of i j h k = row_word (length rows) (length (workers_given s.changes)) (newest_of s) (workers_given s.changes) rest rows (fit_seconds s.changes r.sound) i j h k

  -- a rule that gives each row's value gives the values in order
  all_rows : {A : Type 0} (f : ℕ → A) (g : ℕ × Sums → A) → ((i : ℕ) → i < length rows → f i ≡ g (get_or rows i no_second)) → up_to f (length rows) ≡ map g rows
  all_rows f g h = ap (up_to f) (sym (length-map rows g)) ∙ up_is f (map g rows) (g no_second) (λ i l. h i (rw length-map at l) ∙ sym (get_or-map g rows i no_second))

  seconds_up : up_to (second_of E) (length rows) ≡ map (λ x. x.0) rows
  unfolding second_of
  seconds_up = all_rows (second_of E) (λ x. x.0) (λ i h. second_at_lem i h)

  drafts_up : up_to (mean_of_drafts E) (length rows) ≡ map draft_of rows
  unfolding mean_of_drafts
  drafts_up = all_rows (mean_of_drafts E) draft_of (λ i h.
      let d : get_or E (second_at i + drafts_in) 0 ≡ (get_or rows i no_second).1.drafts = word_of i drafts_in h (omega arith) in
      let q : get_or E (second_at i + sequences_in) 0 ≡ (get_or rows i no_second).1.sequences = word_of i sequences_in h (omega arith) in
      rw (d, q))

  batches_up : up_to (mean_batch E) (length rows) ≡ map batch_of rows
  unfolding mean_batch
  batches_up = all_rows (mean_batch E) batch_of (λ i h.
      let q : get_or E (second_at i + sequences_in) 0 ≡ (get_or rows i no_second).1.sequences = word_of i sequences_in h (omega arith) in
      let n : get_or E (second_at i + steps_in) 0 ≡ (get_or rows i no_second).1.steps = word_of i steps_in h (omega arith) in
      rw (q, n))

  committed_up : up_to (mean_of_committed E) (length rows) ≡ map mean_committed_of rows
  unfolding mean_of_committed
  committed_up = all_rows (mean_of_committed E) mean_committed_of (λ i h.
      let d : get_or E (second_at i + committed_in) 0 ≡ (get_or rows i no_second).1.committed = word_of i committed_in h (omega arith) in
      let q : get_or E (second_at i + sequences_in) 0 ≡ (get_or rows i no_second).1.sequences = word_of i sequences_in h (omega arith) in
      rw (d, q))

  pub shown : Shown s rows E
  unfolding series_read day_figure front
  shown = record {
    ascending = seconds_ascend s.changes;
    sums_are = λ t. at_seconds t s.changes;
    series_is = λ a b c d h k l m. rw (
      le-ltb (length E) room (wide_enough s rest),
      held,
      le-ltb (length a) (length rows) h,
      le-ltb (length b) (length rows) k,
      le-ltb (length c) (length rows) l,
      le-ltb (length d) (length rows) m,
      seconds_up,
      drafts_up,
      batches_up,
      committed_up,
    );
    figure_is = rw (le-ltb (length E) room (wide_enough s rest), held, drafts_up);
  }

-- after any calls within the bounds, from a fresh planner
pub series_shown : (ks : List Call) (ws : List ℕ) → room ≤ length ws → InDomain ks
    → Shown (after ks nothing_stands) (seconds_given (after ks nothing_stands).changes) (run ks (emptied ws).1)
series_shown ks ws h d = rw (demand_3 ks ws h d) (shown (after ks nothing_stands) (drop room ws) (afresh ks nothing_stands (drop room ws) d reached_nothing).1)
