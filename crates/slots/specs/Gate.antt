-- What both gates have: the state, what a decision on one slot makes of it, and what the gate leaves. Assumes nothing.
use Rattle.std.specs.Prelude.{ℕ, List, set}
use Rattle.heap.specs.Greedy as greedily
use Rattle.heap.specs.Greedy.{takes, leaves, stops, Outcome}
use Rattle.verdict.specs.Decision.{Sums, Decision, passed, stopped, taken}

-- expected tokens, verify tokens and drafter's seconds so far, and each sequence's width
pub record State : Type 0 where
  pub sums : Sums
  pub widths : List ℕ

-- what the decision on a slot of sequence k means for the gate: w is the sequence's width where the slot is taken
abbrev pub judged : State → ℕ → ℕ → Decision → greedily.Verdict State
judged a k w passed = leaves a
judged a k w stopped = stops a
judged a k w (taken sums) = takes (record { sums = sums; widths = set a.widths k w })

-- the widths, and how many slots were weighed
pub record Chosen : Type 0 where
  pub widths : List ℕ
  pub weighed : ℕ

abbrev pub chosen_by : Outcome State → Chosen
chosen_by o = record { widths = o.state.widths; weighed = o.weighed }
