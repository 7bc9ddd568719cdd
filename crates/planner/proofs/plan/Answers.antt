-- `plan` meets its contract: each judge in its turn, and then a plan of at least one sequence. Assumes nothing.
use Rattle.std.proofs.Common.{arith, ◌∙◌, sym, ap}
use Rattle.refusals.specs.Refusals.{number_in}
use Rattle.refusals.proofs.First.{no_zero}
use Rattle.asking.specs.Asked.{Lent}
use Rattle.judged_plans.proofs.Ways.{settings_refused, some_planned_lem, asked_refused}
use Rattle.planner.proofs.plan.Goals as goal

pub returns-in-Err : goal.returns-in-Err
returns-in-Err c =
    let a = c.args in
    let l : Lent = record { positions = a.positions.now; roofline = a.roofline.now; depths = a.depths.now; batches = a.batches.now; seconds = a.seconds.now; loaded = a.loaded.now; bank_commits_of = a.bank_commits.now; signals = a.signals.now; bank_curve_of = a.bank_curve.now; draws = a.draws.now; indices = a.indices.now } in
    settings_refused a.settings a.ask l a.storage.now a.drafts.now a.commits.now c.number.result (c.number.ensures ∙ sym (ap number_in (sym c.judge_settings.ensures ∙ c.in-Err.is))) (omega (arith, no_zero c.in-Err.refusal, c.number.ensures))

pub returns-in-Err-judge_ask : goal.returns-in-Err-judge_ask
returns-in-Err-judge_ask c =
    let a = c.args in
    let l : Lent = record { positions = a.positions.now; roofline = a.roofline.now; depths = a.depths.now; batches = a.batches.now; seconds = a.seconds.now; loaded = a.loaded.now; bank_commits_of = a.bank_commits.now; signals = a.signals.now; bank_curve_of = a.bank_curve.now; draws = a.draws.now; indices = a.indices.now } in
    let r = c.number-in-Err-judge_ask.result in
    let told = c.number-in-Err-judge_ask.ensures ∙ sym (ap number_in (sym c.judge_ask.ensures ∙ c.in-Err-judge_ask.is)) in
    some_planned_lem a.settings a.ask l a.storage.now a.drafts.now a.commits.now 0 _ (sym (ap number_in (sym c.judge_settings.ensures ∙ c.in_default.is))) (omega arith) (λ n. absurd (omega (arith, n)))
    (asked_refused a.settings a.ask l a.storage.now a.drafts.now a.commits.now r told (omega (arith, no_zero c.in-Err-judge_ask.refusal, c.number-in-Err-judge_ask.ensures)))

pub plan_judged-requires-clause-positions_value : goal.plan_judged-requires-clause-positions_value
plan_judged-requires-clause-positions_value c = ap number_in (sym c.judge_settings.ensures ∙ c.in_default.is)

pub plan_judged-requires-clause-commits_value : goal.plan_judged-requires-clause-commits_value
plan_judged-requires-clause-commits_value c = ap number_in (sym c.judge_ask.ensures ∙ c.in_default-judge_ask.is)

pub returns : goal.returns
returns c =
    let a = c.args in
    let l : Lent = record { positions = a.positions.now; roofline = a.roofline.now; depths = a.depths.now; batches = a.batches.now; seconds = a.seconds.now; loaded = a.loaded.now; bank_commits_of = a.bank_commits.now; signals = a.signals.now; bank_curve_of = a.bank_curve.now; draws = a.draws.now; indices = a.indices.now } in
    some_planned_lem a.settings a.ask l a.storage.now a.drafts.now a.commits.now 0 _ (sym (ap number_in (sym c.judge_settings.ensures ∙ c.in_default.is))) (omega arith) (λ n. absurd (omega (arith, n))) c.plan_judged.ensures
