-- ONE ROUND FEWER DOES NOT DO, by computation. Assumes nothing.
use mathlib.Core.Path.{◌≡◌, refl}
use mathlib.Core.List.{List, [], ◌∷◌}
use mathlib.Core.Option.{Option, some}
use lib.ListN.{replicate}
use lib.Ieee.{Float, of_bits, binary64, to_bits, is_nan, lt, neg, add, mul, div, round, of_int}
use Rattle.float.specs.Floats.{f0, f1, infinity, is_finite, is_clear, max_of, clamp_to}
use Rattle.float.specs.Range.{in_range, in_range_or_infinite, in_signed_range}
use Rattle.numeral.specs.Moment.{second_of}
use Rattle.acceptance.specs.Acceptance.{model_judged, model_refusal, is_draw, sampled}
use Rattle.acceptance.specs.declared.AcceptanceModel.TheVariants.{Constant}
use Rattle.speculative.specs.Drafter.{absent, drafter_judged, drafter_refusal, rates_judged, rates_refusal}
use Rattle.chains.specs.Expected.{add_running, sums_with}
use Rattle.chains.specs.Scan.{scan}
use Rattle.chains.specs.Survival.{survival_chain}
use Rattle.chains.specs.Tests.{all_of}
use Rattle.depths.specs.Goodput.{best_of, exceeded, first_best}
use Rattle.depths.specs.Pricing.{total_cost}
use Rattle.switch_settings.specs.declared.MaxStep.TheVariants.{AtMost}
use Rattle.switch_settings.specs.declared.SwitchConstraints.{SwitchConstraints}
use Rattle.width_walk.specs.Walk.{first_at_least}
use Rattle.switching.specs.Deciding.{finite_from, candidates_of, at_first}
use Rattle.ledger_laws.specs.Model.{Switching, record_of, sums_at, counted, seconds_of, step_rule, worker_rule, workers_of}
use Rattle.verify_prices.specs.declared.PriceMode.TheVariants.{Default}
use Rattle.settings.specs.Settings.{settings_judged, settings_refusal}
use Rattle.settings.specs.declared.Policy.TheVariants.{GatedAggregate}
use Rattle.settings.specs.declared.Settings.{Settings}
use Rattle.rounds.specs.Drawing.{analytic}
use Rattle.rounds.specs.Signals.{same_chains, values_from}
use Rattle.asked_rooms.specs.Rooms.{rooms_judged, rooms_refusal}
use Rattle.asked_rooms.specs.Sizes.{sizes_judged, sizes_refusal}
use Rattle.asking.specs.Asked.{Lent, values_judged, values_refusal}
use Rattle.deciding.specs.Deciding.{decided_by}
use Rattle.planner.specs.Plan.{drawn_by, signals_refusal, curve_of}
use Rattle.planner_laws.proofs.Examples.{half, quarter, ask}
use Rattle.planner_laws.specs.Calls.{Call, plan}
use Rattle.planner_laws.specs.Standing.{given, step, after, nothing_stands, answer_on, refusal_on, change_on}
use Rattle.width_way.specs.Way.{away_from, rounds_for, way}
use Rattle.settling_laws.specs.Record.{after_all}

-- ---- over a record: three walks of one candidate each, every second round
abbrev slow : SwitchConstraints
slow = record { cooldown_rounds = 2; max_step = AtMost 1; cost_ms = f0 }

-- the candidates are 0, 2, 4 and 6
abbrev curve : List Float
curve = f1 ∷ infinity ∷ f1 ∷ infinity ∷ f1 ∷ infinity ∷ f1 ∷ []

-- from 6 to 0
pub six_rounds :
    (rounds_for slow (away_from (candidates_of curve) 6 0) ≡ 6)
    × ((after_all slow 0 (at_first 6) (replicate 5 curve)).width ≡ 2)
    × ((after_all slow 0 (at_first 6) (replicate 6 curve)).width ≡ 0)
    × (way (AtMost 1) (candidates_of curve) 0 6 3 ≡ 4 ∷ 2 ∷ 0 ∷ [])
unfolding finite_from first_at_least is_finite of_bits way
six_rounds = (refl, refl, refl, refl)

-- ---- over the planner's calls: two walks of one candidate each, every round
abbrev hundred : Float
hundred = of_bits binary64 0x4059_0000_0000_0000

abbrev settings : Settings
settings = record { gamma = 2; model = Constant half; policy = GatedAggregate; switch = record { cooldown_rounds = 1; max_step = AtMost 1; cost_ms = f0 }; drafter = absent; prices = Default }

abbrev lent : List Float → Lent
lent roofline = record { positions = []; roofline = roofline; depths = []; batches = []; seconds = []; loaded = []; bank_commits_of = []; signals = []; bank_curve_of = []; draws = quarter ∷ quarter ∷ []; indices = [] }

-- one sequence, where drafting is free, and where it is dear
abbrev free : Call
free = plan settings ask (lent (f1 ∷ f1 ∷ f1 ∷ [])) (0 ∷ []) (0 ∷ [])

abbrev dear : Call
dear = plan settings ask (lent (f1 ∷ hundred ∷ hundred ∷ [])) (0 ∷ []) (0 ∷ [])

-- the record of the worker (0, 1) after calls from fresh
abbrev left : List Call → Option Switching
left ks = record_of (0, 1) (given (after ks nothing_stands).changes)

-- the first width is 2, and then the target is 0
pub two_rounds :
    (rounds_for settings.switch (away_from (0 ∷ 1 ∷ 2 ∷ []) 2 0) ≡ 2)
    × (left (free ∷ dear ∷ []) ≡ some (record { width = 1; rounds = 0; stall = 0 }))
    × (left (free ∷ dear ∷ dear ∷ []) ≡ some (record { width = 0; rounds = 0; stall = 0 }))
unfolding record_of given after step answer_on refusal_on change_on settings_judged model_judged drafter_judged rates_judged in_range in_range_or_infinite in_signed_range is_nan is_clear is_finite max_of clamp_to sizes_judged rooms_judged values_judged signals_refusal drawn_by analytic sampled is_draw step_rule sums_at counted seconds_of worker_rule workers_of second_of decided_by curve_of add_running sums_with scan survival_chain all_of best_of exceeded first_best total_cost same_chains values_from finite_from first_at_least lt neg add mul div round of_bits of_int to_bits
two_rounds = (refl, refl, refl)
