-- One worker's switching record: what each step makes of it, and what is refused. Assumes nothing.
use Rattle.std.specs.Prelude.{ℕ, suc, ◌+◌, ◌-◌, max, Bool, true, ◌&&◌, cond, List, [], ◌∷◌, ◌++◌, leb, eqb, length, set, replicate, Float, Ok, Err}
use Rattle.std.specs.Float.{binary64}
use Rattle.std.specs.Float.Ieee.{of_bits}
use Rattle.float.specs.Floats.{plus, times, f0, is_finite, is_clear}
use Rattle.float.specs.Range.{in_range_or_infinite}
use Rattle.refusals.specs.declared.Refusal.TheVariants.{Size, Input}
use Rattle.refusals.specs.Refusals.{Judgement, passed_if, and_then, number_in}
use Rattle.draft_inputs.specs.Inputs.{billion}
use Rattle.switch_settings.specs.Switch.{switch_judged}
use Rattle.switch_settings.specs.declared.SwitchConstraints.{SwitchConstraints}
use Rattle.width_walk.specs.Walk.{walk_candidates}
use Rattle.switching.specs.declared.Switching.{Switching}
use Rattle.switching.specs.declared.Decided.{Decided}
use Rattle.switching.specs.declared.Collected.{Collected}
use Rattle.switching.specs.declared.inner.Candidates.{Candidates}

-- ---- the steps

-- 1e-3
abbrev pub milli : Float
milli = of_bits binary64 0x3f50_624d_d2f1_a9fc

abbrev pub is_due : SwitchConstraints → ℕ → Bool
is_due constraints rounds = leb (max constraints.cooldown_rounds 1) rounds

abbrev pub counted : Switching → Switching
counted s = record { width = s.width; rounds = s.rounds + 1; stall = s.stall }

-- the width w, at whose change the stall grows
abbrev pub at_width : Switching → ℕ → SwitchConstraints → Switching
at_width s w constraints =
    record {
      width = w;
      rounds = 0;
      stall = cond (eqb w s.width) s.stall (plus s.stall (times milli constraints.cost_ms));
    }

abbrev pub walked : Switching → List ℕ → ℕ → SwitchConstraints → Switching
walked s candidates target constraints = at_width s (walk_candidates candidates s.width target constraints.max_step) constraints

abbrev pub collected : Switching → Switching
collected s = record { width = s.width; rounds = s.rounds; stall = f0 }

-- the depths of finite price, from g on
unfoldable pub finite_from : ℕ → List Float → List ℕ
finite_from g [] = []
finite_from g (c ∷ cs) = cond (is_finite c) (g ∷ finite_from (suc g) cs) (finite_from (suc g) cs)

abbrev pub candidates_of : List Float → List ℕ
candidates_of curve = finite_from 0 curve

-- once a round is counted, the width walks where that is due
abbrev pub next : Switching → List Float → ℕ → SwitchConstraints → Switching
next t curve target constraints = cond (is_due constraints t.rounds) (walked t (candidates_of curve) target constraints) t

abbrev pub decided : Switching → List Float → ℕ → SwitchConstraints → Switching
decided s curve target constraints = next (counted s) curve target constraints

-- ---- the candidates in 65 slots: 0 past them
abbrev pub with_depth : Candidates → ℕ → Float → Candidates
with_depth c g price = cond (is_finite price) (record { list = set c.list c.len g; len = c.len + 1 }) c

abbrev pub candidate_slots : List Float → Candidates
candidate_slots curve =
    let l = candidates_of curve in record { list = l ++ replicate (65 - length l) 0; len = length l }

-- ---- what is refused
abbrev pub most_width : ℕ
most_width = 64

abbrev pub most_rounds : ℕ
most_rounds = 4294967294

abbrev pub most_depths : ℕ
most_depths = 65

abbrev pub is_record : Switching → Bool
is_record s = leb s.width most_width && (leb s.rounds most_rounds && (is_finite s.stall && is_clear s.stall))

unfoldable pub record_judged : Switching → Judgement
record_judged s = passed_if (is_record s) Input

-- its number, 0 where it passes
abbrev pub record_refusal : Switching → ℕ
record_refusal s = number_in (record_judged s)

abbrev pub all_prices : List Float → Bool
all_prices [] = true
all_prices (c ∷ cs) = in_range_or_infinite f0 billion c && all_prices cs

-- the settings, the size of the curve, the record, then its prices
unfoldable pub decide_judged : Switching → List Float → SwitchConstraints → Judgement
decide_judged s curve constraints =
    and_then (switch_judged constraints) (and_then (passed_if (leb (length curve) most_depths) Size) (and_then (record_judged s) (passed_if (all_prices curve) Input)))

-- ---- the answers, each with the record that stands after it; a refusal keeps the record
abbrev pub at_first : ℕ → Switching
at_first target = record { width = target; rounds = 0; stall = f0 }

-- the first decision is free
unfoldable pub first_decision : ℕ → Decided
first_decision target =
    cond (leb target most_width) (record { answer = Ok target; kept = at_first target }) (record { answer = Err Size; kept = at_first 0 })

abbrev pub decided_if : Judgement → Switching → Switching → Decided
decided_if (Ok passed) s t = record { answer = Ok t.width; kept = t }
decided_if (Err refusal) s t = record { answer = Err refusal; kept = s }

unfoldable pub decision : Switching → List Float → ℕ → SwitchConstraints → Decided
decision s curve target constraints = decided_if (decide_judged s curve constraints) s (decided s curve target constraints)

abbrev pub collected_if : Judgement → Switching → Collected
collected_if (Ok passed) s = record { answer = Ok s.stall; kept = collected s }
collected_if (Err refusal) s = record { answer = Err refusal; kept = s }

unfoldable pub collection : Switching → Collected
collection s = collected_if (record_judged s) s
