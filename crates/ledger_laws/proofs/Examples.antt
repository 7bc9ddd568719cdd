-- The rules' worked examples P11 and P12, by computation. Assumes nothing.
use mathlib.Core.Path.{◌≡◌, refl}
use mathlib.Core.List.{List, [], ◌∷◌}
use mathlib.Core.Option.{Option, none, some}
use Prim.Native.Nat.{ℕ}
use lib.Ieee.{Float, binary64, lt, eq, of_bits, to_bits, add, mul, round}
use Rattle.float.specs.Floats.{f1, infinity, is_finite}
use Rattle.switch_settings.specs.declared.MaxStep.TheVariants.{AtMost}
use Rattle.switch_settings.specs.declared.SwitchConstraints.{SwitchConstraints}
use Rattle.width_walk.specs.Walk.{first_at_least}
use Rattle.switching.specs.Deciding.{finite_from, at_first, decided}
use Rattle.switching.specs.declared.Switching.{Switching as Kept}
use Rattle.ledger_laws.specs.Model.{Worker, Switching, Plan, Sums, Call, plan, decide, back, sums_at, counted, cleaned_of, record_of, seconds_of, workers_of, step_rule, worker_rule, refusal, step, after, nothing_stands}

-- ---- P11: ends at 5.5, 6.0 and 5.9

-- a plan that ends in second t, of 4 drafts for 2 sequences, 3 of them committed
abbrev pub ends : ℕ → Plan
ends t = record { second = t; drafts = 4; sequences = 2; committed = 3 }

-- the sums at second t after calls on a fresh planner
abbrev pub sums_after : List Call → ℕ → Sums
sums_after calls t = sums_at t (after calls nothing_stands).changes

abbrev pub p11_calls : List Call
p11_calls = plan (ends 5) ∷ plan (ends 6) ∷ plan (ends 5) ∷ []

pub p11 : (sums_after p11_calls 5 ≡ record { drafts = 8; sequences = 4; committed = 6; steps = 2 }) × (sums_after p11_calls 6 ≡ record { drafts = 4; sequences = 2; committed = 3; steps = 1 })
unfolding after step refusal step_rule seconds_of sums_at counted
p11 = (refl, refl)

-- its newest plan withdrawn
p11_withdrawn : sums_after (plan (ends 5) ∷ plan (ends 6) ∷ plan (ends 5) ∷ back ∷ []) 5 ≡ record { drafts = 4; sequences = 2; committed = 3; steps = 1 }
unfolding after step refusal step_rule seconds_of sums_at counted
p11_withdrawn = refl

-- ---- P12: first width 6, cooldown 2, step 1, target 0 twice

-- prices that are finite at the candidates 0, 2, 4 and 6; a changed width costs 1 ms
abbrev pub evens : List Float
evens = f1 ∷ infinity ∷ f1 ∷ infinity ∷ f1 ∷ infinity ∷ f1 ∷ []

abbrev pub slow : SwitchConstraints
slow = record { cooldown_rounds = 2; max_step = AtMost 1; cost_ms = f1 }

-- a record as switching has it, its stall a float, and as it is held, its stall by its bits
abbrev pub opened : Switching → Kept
opened r = record { width = r.width; rounds = r.rounds; stall = of_bits binary64 r.stall }

abbrev pub closed : Kept → Switching
closed s = record { width = s.width; rounds = s.rounds; stall = to_bits binary64 s.stall }

-- what a decision toward a target makes of a worker's record
abbrev pub toward : ℕ → Option Switching → Switching
toward target none = closed (at_first target)
toward target (some r) = closed (decided (opened r) evens target slow)

abbrev pub one : Worker
one = (0, 1)

abbrev pub decides : ℕ → Call
decides target = decide (ends 5) one (toward target)

-- worker one's record after calls on a fresh planner
abbrev pub record_after : List Call → Option Switching
record_after calls = record_of one (after calls nothing_stands).changes

-- 6 with one round counted, then 4 with a stall of 1e-3; withdrawing gives 6, counter 1, stall 0
pub p12 :
    (record_after (decides 6 ∷ decides 0 ∷ []) ≡ some (record { width = 6; rounds = 1; stall = 0 }))
    × (record_after (decides 6 ∷ decides 0 ∷ decides 0 ∷ []) ≡ some (record { width = 4; rounds = 0; stall = to_bits binary64 (of_bits binary64 0x3f50_624d_d2f1_a9fc) }))
    × (record_after (decides 6 ∷ decides 0 ∷ decides 0 ∷ back ∷ []) ≡ some (record { width = 6; rounds = 1; stall = 0 }))
unfolding after step refusal step_rule worker_rule seconds_of workers_of sums_at counted record_of cleaned_of finite_from first_at_least is_finite lt eq of_bits to_bits add mul round
p12 = (refl, refl, refl)
