-- The block gate without its second way out of a slot: each slot that pays is taken, and the first one that does not ends the gate. Assumes nothing.
use Rattle.std.specs.Prelude.{ℕ, ◌+◌, List, length, get_or, replicate, Float}
use Rattle.float.specs.Floats.{plus, f1, whole}
use Rattle.heap.specs.Greedy.{Verdict, greedy}
use Rattle.verdict.specs.Decision.{Sums, Decision, stopped, taken_if, rate_of, rate_now, next_seconds}
use Rattle.slots.specs.Slots.{starts, up_to, stacks, survival}
use Rattle.slots.specs.Gate.{State, judged, Chosen, chosen_by}

module _ (price : Float → Float) where
  -- no slot is passed over: this is `slot_at` without its test of the next price
  abbrev pub paying_at : Sums → Float → Decision
  paying_at a s =
      taken_if (rate_now price a) (rate_of (plus a.expected s) (next_seconds price a))
      (record { expected = plus a.expected s; tokens = plus a.tokens f1; drafter = a.drafter }) stopped

module _ (price : Float → Float) (chains : List Float) where
  abbrev pub add_paying : State → ℕ → ℕ → Verdict State
  add_paying a k rank = let w = get_or a.widths k 0 in judged a k (w + 1) (paying_at price a.sums (survival chains k w))

  -- from no slot at all, within blocks of the given depth, which cost `draft` to make
  abbrev pub paying_widths : ℕ → Float → List ℕ → Chosen
  paying_widths depth draft lengths =
      let n = whole (length lengths) in
      chosen_by (greedy add_paying (record { sums = record { expected = n; tokens = n; drafter = draft }; widths = replicate (length lengths) 0 }) (stacks up_to (starts depth lengths) chains))
