-- The rules' runs that are a planner's, on any storage with room, fresh: alpha 0.5, gamma 3 and the draws 0.25 and 0.5 commit 1 and use 2. Assumes nothing.
use mathlib.Core.Path.{◌≡◌, refl, ◌∙◌}
use mathlib.Core.List.{List, [], ◌∷◌}
use Prim.Native.Nat.{ℕ, ◌≤◌}
use lib.Ieee.{Float, binary64, of_bits, lt, eq, neg}
use lib.ListN.{length}
use Rattle.float.specs.Floats.{f0, f1, is_clear}
use Rattle.float.specs.Range.{in_range}
use Rattle.acceptance.specs.Acceptance.{model_judged, model_refusal, is_draw, sampled}
use Rattle.acceptance.specs.declared.AcceptanceModel.TheVariants.{Constant}
use Rattle.speculative.specs.Drafter.{absent, drafter_judged, drafter_refusal}
use Rattle.goodput.specs.declared.curve.Source.TheVariants.{Roofline}
use Rattle.switch_settings.specs.declared.MaxStep.TheVariants.{Unlimited}
use Rattle.ledger_rows.specs.Layout.{room}
use Rattle.ledger.specs.Calls.{emptied}
use Rattle.ledger_laws.specs.Model.{sums_at, record_of, seconds_of, step_rule}
use Rattle.verify_prices.specs.declared.PriceMode.TheVariants.{Default}
use Rattle.settings.specs.declared.Policy.TheVariants.{Fixed}
use Rattle.settings.specs.declared.Settings.{Settings}
use Rattle.settings.specs.Settings.{settings_judged, settings_refusal}
use Rattle.rounds.specs.Drawing.{analytic}
use Rattle.asked_rooms.specs.declared.Ask.{Ask}
use Rattle.asking.specs.Asked.{Lent, values_judged, values_refusal}
use Rattle.asked_rooms.specs.Sizes.{sizes_judged, sizes_refusal}
use Rattle.asked_rooms.specs.Rooms.{rooms_judged, rooms_refusal}
use Rattle.deciding.specs.Deciding.{decided_by}
use Rattle.judged_plans.specs.declared.Planned.TheVariants.{Plan}
use Rattle.planner.specs.Plan.{drawn_by, drawn, signals_refusal, planned}
use Rattle.planner_laws.specs.Calls.{run}
use Rattle.planner_laws.specs.Standing.{answer_on, refusal_on, given, after}
use Rattle.planner_laws.proofs.Answers.{plan_answers}

-- 0.5, 0.25 and 5.5
abbrev pub half : Float
half = of_bits binary64 0x3fe0_0000_0000_0000

abbrev pub quarter : Float
quarter = of_bits binary64 0x3fd0_0000_0000_0000

abbrev pub moment : Float
moment = of_bits binary64 0x4016_0000_0000_0000

abbrev pub settings : Settings
settings = record { gamma = 3; model = Constant half; policy = Fixed; switch = record { cooldown_rounds = 0; max_step = Unlimited; cost_ms = f0 }; drafter = absent; prices = Default }

-- one sequence of worker (0, 1), whose step ends at 5.5
abbrev pub ask : Ask
ask = record { a = 0; b = 1; sequences = 1; end = moment; rates = record { peak = f1; bw = f1; kv_delta = f0 }; source = Roofline; rows = 0; depth = 0; rounds = 0 }

-- two draws, and nothing else
abbrev pub lent : Lent
lent = record { positions = []; roofline = []; depths = []; batches = []; seconds = []; loaded = []; bank_commits_of = []; signals = []; bank_curve_of = []; draws = quarter ∷ half ∷ []; indices = [] }

-- what the rules say where nothing stands
by_the_rules : answer_on settings ask lent 1 1 [] ≡ Plan 2 0
unfolding answer_on refusal_on settings_judged model_judged drafter_judged in_range sizes_judged rooms_judged values_judged signals_refusal drawn_by analytic sampled is_draw is_clear step_rule sums_at seconds_of decided_by lt eq neg of_bits
by_the_rules = refl

commits_one : (drawn settings ask lent).commits ≡ 1 ∷ []
unfolding drawn_by analytic sampled is_draw is_clear lt of_bits
commits_one = refl

-- on a fresh storage: two draws used, no slot weighed, the uncapped gamma drafted, one committed
pub draws_end : (ws : List ℕ) → room ≤ length ws → (d c : ℕ)
    → ((planned settings ask lent (emptied ws).1 (d ∷ []) (c ∷ [])).answer ≡ Plan 2 0)
    × ((planned settings ask lent (emptied ws).1 (d ∷ []) (c ∷ [])).drafts ≡ 3 ∷ [])
    × ((planned settings ask lent (emptied ws).1 (d ∷ []) (c ∷ [])).commits ≡ 1 ∷ [])
unfolding after run given record_of decided_by
draws_end ws h d c =
    let r = plan_answers [] ws h settings ask lent (d ∷ []) (c ∷ []) in
    (r.answer_is ∙ by_the_rules, r.drafts_are ∙ rw by_the_rules, r.commits_are ∙ rw (by_the_rules, commits_one))
