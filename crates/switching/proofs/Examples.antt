-- Worked examples of the definitions, by computation. Assumes nothing.
use mathlib.Core.Path.{◌≡◌, refl}
use mathlib.Core.List.{List, [], ◌∷◌}
use Prim.Native.Nat.{ℕ}
use lib.ListN.{replicate}
use lib.Ieee.{Float, nan, binary64, neg, lt, eq, of_bits, add, mul, round}
use Rattle.float.specs.Floats.{f0, f1, infinity, is_clear, is_finite}
use Rattle.float.specs.Range.{in_range, in_range_or_infinite}
use Rattle.switch_settings.specs.declared.MaxStep.TheVariants.{Unlimited, AtMost}
use Rattle.switch_settings.specs.declared.SwitchConstraints.{SwitchConstraints}
use Rattle.width_walk.specs.Walk.{first_at_least, walk_candidates}
use Rattle.switching.specs.Deciding.{finite_from, candidates_of, record_judged, record_refusal, decide_judged, decided, at_first, first_decision, decision, collection}
use Rattle.refusals.specs.declared.Refusal.TheVariants.{Size, Setting, Input}
use Rattle.std.specs.Prelude.{Ok, Err}

abbrev evens : List ℕ
evens = 0 ∷ 2 ∷ 4 ∷ 6 ∷ []

-- from 3 the width snaps to 4, and stays there where the target is no candidate
pub snaps_up : walk_candidates evens 3 5 Unlimited ≡ 4
unfolding first_at_least
snaps_up = refl

-- from 9 it snaps to the last
pub snaps_to_the_last : walk_candidates evens 9 9 Unlimited ≡ 6
unfolding first_at_least
snaps_to_the_last = refl

-- a limit counts candidates, and the snap is free; 0 stays at the snapped index
limits : (walk_candidates evens 6 0 (AtMost 1) ≡ 4) × (walk_candidates evens 1 6 (AtMost 1) ≡ 4) × (walk_candidates evens 3 0 (AtMost 0) ≡ 4) × (walk_candidates evens 0 4 (AtMost 9) ≡ 4) × (walk_candidates [] 3 0 Unlimited ≡ 3)
unfolding first_at_least
limits = (refl, refl, refl, refl, refl)

-- the curve whose candidates these are
abbrev curve : List Float
curve = f1 ∷ infinity ∷ f1 ∷ infinity ∷ f1 ∷ infinity ∷ f1 ∷ []

finite_depths : candidates_of curve ≡ evens
unfolding finite_from is_finite of_bits
finite_depths = refl

-- every second round, one candidate at a time, for nothing
abbrev slow : SwitchConstraints
slow = record { cooldown_rounds = 2; max_step = AtMost 1; cost_ms = f0 }

-- the first width is 6; the target 0 leaves it at 6, then takes it to 4
pub six_then_four : (decision (at_first 6) curve 0 slow ≡ record { answer = Ok 6; kept = record { width = 6; rounds = 1; stall = f0 } }) × (decision (record { width = 6; rounds = 1; stall = f0 }) curve 0 slow ≡ record { answer = Ok 4; kept = record { width = 4; rounds = 0; stall = f0 } })
unfolding decision decide_judged record_judged finite_from first_at_least is_finite is_clear in_range in_range_or_infinite lt eq of_bits add mul round
six_then_four = (refl, refl)

pub first_six : first_decision 6 ≡ record { answer = Ok 6; kept = at_first 6 }
unfolding first_decision
first_six = refl

first_too_wide : first_decision 65 ≡ record { answer = Err Size; kept = at_first 0 }
unfolding first_decision
first_too_wide = refl

-- a change at a cost of 1,000 ms adds 1.0 to the stall; the same width adds nothing
abbrev dear : SwitchConstraints
dear = record { cooldown_rounds = 0; max_step = Unlimited; cost_ms = of_bits binary64 0x408f_4000_0000_0000 }

costs : (decided (at_first 6) curve 2 dear ≡ record { width = 2; rounds = 0; stall = f1 }) × (decided (at_first 6) curve 6 dear ≡ record { width = 6; rounds = 0; stall = f0 })
unfolding finite_from first_at_least is_finite of_bits add mul round
costs = (refl, refl)

-- the stall is collected once
collects : (collection (record { width = 2; rounds = 0; stall = f1 }) ≡ record { answer = Ok f1; kept = at_first 2 }) × (collection (at_first 2) ≡ record { answer = Ok f0; kept = at_first 2 })
unfolding collection record_judged is_finite is_clear of_bits
collects = (refl, refl)

-- the settings, the size, then the input, and the record is kept
refusals : (decision (at_first 65) (nan ∷ []) 0 (record { cooldown_rounds = 0; max_step = Unlimited; cost_ms = nan }) ≡ record { answer = Err Setting; kept = at_first 65 })
    × (decision (at_first 65) (replicate 66 nan) 0 slow ≡ record { answer = Err Size; kept = at_first 65 })
    × (decision (at_first 65) (f1 ∷ []) 0 slow ≡ record { answer = Err Input; kept = at_first 65 })
    × (decision (at_first 6) (f1 ∷ neg f0 ∷ []) 0 slow ≡ record { answer = Err Input; kept = at_first 6 })
unfolding decision decide_judged record_judged is_finite is_clear in_range in_range_or_infinite lt eq neg of_bits
refusals = (refl, refl, refl, refl)

records : (record_refusal (record { width = 64; rounds = 4294967294; stall = f0 }) ≡ 0) × (record_refusal (record { width = 65; rounds = 0; stall = f0 }) ≡ 15) × (record_refusal (record { width = 0; rounds = 4294967295; stall = f0 }) ≡ 15)
    × (record_refusal (record { width = 0; rounds = 0; stall = neg f0 }) ≡ 15) × (record_refusal (record { width = 0; rounds = 0; stall = infinity }) ≡ 15)
unfolding record_judged is_finite is_clear neg of_bits
records = (refl, refl, refl, refl, refl)
