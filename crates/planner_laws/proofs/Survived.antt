-- NO MORE IS COMMITTED THAN IS DRAFTED, after any plans, collections and withdrawals from an empty planner: at every second committed ≤ drafts ≤ 64 × sequences,
-- and no mean committed that the series hands back passes the mean draft beside it. No bound is assumed: what is out of bounds is refused. Assumes nothing.
use mathlib.Core.Path.{◌≡◌, sym, ap, ◌∙◌}
use mathlib.Core.List.{List, ◌++◌, map}
use Prim.Native.Nat.{ℕ, ◌≤◌, ◌<◌}
use lib.Dec.{T}
use lib.Ieee.{Float, le, nan}
use lib.ListN.{length, get_or, drop, length-map, get_or-map, get_or-append}
use Rattle.ledger_rows.specs.Layout.{room}
use Rattle.std.specs.Prelude.{Result}
use Rattle.refusals.specs.declared.Refusal.{Refusal}
use Rattle.ledger.specs.Calls.{emptied, series_read}
use Rattle.ledger_laws.specs.Model.{Sums, Change, sums_at}
use Rattle.ledger_laws.specs.Encode.{seconds_given, no_second}
use Rattle.ledger_laws.proofs.Given.{Sound}
use Rattle.ledger_laws.proofs.Shown.{draft_of, mean_committed_of}
use Rattle.ledger_laws.proofs.Means.{Ordered, sums_ordered, rows_ordered}
use Rattle.planner_laws.specs.Calls.{Call, run}
use Rattle.planner_laws.specs.Standing.{nothing_stands, given, after}
use Rattle.planner_laws.proofs.Theorem.{reached, after_holds}
use Rattle.planner_laws.proofs.Answers.{series_shown}

-- what stands after the calls
abbrev standing : List Call → List Change
standing ks = given (after ks nothing_stands).changes

standing_sound : (ks : List Call) → Sound (standing ks)
standing_sound ks = (reached (after ks nothing_stands) (after_holds ks)).sound

-- at every second
pub always_ordered : (ks : List Call) (t : ℕ) → Ordered (sums_at t (standing ks))
always_ordered ks t = sums_ordered t (standing ks) (standing_sound ks)

-- a value at the front of a buffer
at_front : {A : Type 0} (f : A → Float) (rows : List A) (rest : List Float) (none : A) (i : ℕ) → i < length rows → get_or (map f rows ++ rest) i (f none) ≡ f (get_or rows i none)
at_front f rows rest none i h = get_or-append (map f rows) rest (f none) i (rw (length-map rows f) h) ∙ get_or-map f rows i none

-- in the series: its fifth and its third part are the mean committed and the mean drafts
module _ (ks : List Call) (ws : List ℕ) (h : room ≤ length ws) (seconds : List ℕ) (drafts batches committed : List Float) where
  abbrev rows : List (ℕ × Sums)
  rows = seconds_given (standing ks)

  abbrev handed : Result ℕ Refusal × List ℕ × List Float × List Float × List Float
  handed = series_read (run ks (emptied ws).1) seconds drafts batches committed

  pub series_ordered : length rows ≤ length seconds → length rows ≤ length drafts → length rows ≤ length batches → length rows ≤ length committed → (i : ℕ) → i < length rows
      → T (le (get_or handed.4 i (mean_committed_of no_second)) (get_or handed.2 i (draft_of no_second)))
  series_ordered s d b c i inside =
      rw (
        (series_shown ks ws h).series_is seconds drafts batches committed s d b c,
        at_front mean_committed_of rows (drop (length rows) committed) no_second i inside,
        at_front draft_of rows (drop (length rows) drafts) no_second i inside,
      )
      (rows_ordered (standing ks) (standing_sound ks) i inside).mean_most
