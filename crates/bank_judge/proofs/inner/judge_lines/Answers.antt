-- `bank_judge::inner::judge_lines` meets its contract: past the header's refusal its width and depth are those of the definition. Assumes nothing.
use Rattle.std.proofs.Common.{rules, Err}
use mathlib.Core.Path.{◌≡◌, sym, ap, ◌∙◌, subst, subst₂}
use Prim.Native.Nat.{ℕ, ◌≤◌, ◌<◌, ◌-◌}
use native.Mathlib.Omega.{arith}
use lib.ListN.{length}
use Rattle.refusals.specs.Refusals.{Judgement}
use Rattle.text.specs.Lines.{lines}
use Rattle.text.specs.Fields.{fields}
use Rattle.bank_judge.specs.Judge.{depth_of, header_judged, at_row, judge_rows, room_for}
use Rattle.bank_judge.proofs.Laws.{lines_facts, depth_width, lines_refused, lines_judged}
use Rattle.bank_judge.proofs.inner.judge_lines.Goals.{After-at_row, After-depth_of-depth}
use Rattle.bank_judge.proofs.inner.judge_lines.Goals as goal

-- what is said of the header
said : (c : After-at_row) → c.at_row.result ≡ at_row (header_judged (fields c.args.header.now) c.args.curve) 1
said c = c.at_row.ensures ∙ ap (λ (j : Judgement). at_row j 1) c.judge_header.ensures

good : (c : After-depth_of-depth)
    → (0 < depth_of (fields c.args.header.now)) × ((depth_of (fields c.args.header.now) ≤ 64) × (depth_of (fields c.args.header.now) < c.args.curve))
good c =
    let a = c.args in
    lines_facts a.header.now (lines a.rows.now) a.commits a.signals a.curve c.at_row.result (c.at_row.ensures ∙ ap (λ (j : Judgement). at_row j 1) c.judge_header.ensures) _ c.in_ok-at_row.was

pub returns-in_err-at_row : goal.returns-in_err-at_row
returns-in_err-at_row c =
    let a = c.args in
    let refused = c.in_err-at_row.field-0.0 in
    let given : c.from_residual.result ≡ Err refused = search rules in
    given ∙ sym (lines_refused a.header.now (lines a.rows.now) a.commits a.signals a.curve c.at_row.result (said (goal.at.returns-in_err-at_row c).After-at_row) refused c.in_err-at_row.was)

pub nonzero_div-signals : goal.nonzero_div-signals
nonzero_div-signals c = subst (λ (d : ℕ). 0 < d) (sym c.depth_of-depth.ensures) (good (goal.at.nonzero_div-signals c).After-depth_of-depth).0

pub overflow_sub-width : goal.overflow_sub-width
overflow_sub-width c =
    let names = fields c.args.header.now in
    subst₂ (λ (d w : ℕ). d ≤ w) (sym c.depth_of-depth.ensures) (sym c.field_count-width.ensures) (depth_width names)

pub overflow_cast-depth : goal.overflow_cast-depth
overflow_cast-depth c =
    let small : c.depth_of-depth.result ≤ 64 = subst (λ (d : ℕ). d ≤ 64) (sym c.depth_of-depth.ensures) (good (goal.at.overflow_cast-depth c).After-depth_of-depth).1.0 in
    omega arith

pub returns : goal.returns
returns c =
    let a = c.args in
    let w = c.field_count-width in
    let d = c.depth_of-depth in
    let room = c.min-room in
    let rows = lines a.rows.now in
    c.judge_rows.ensures
    ∙ ap (λ (r : ℕ). judge_rows w.result (w.result - d.result) d.result r rows 0) room.ensures
    ∙ ap (λ (v : ℕ). judge_rows v (v - d.result) d.result (room_for d.result a.commits a.signals) rows 0) w.ensures
    ∙ ap (λ (k : ℕ). judge_rows (length (fields a.header.now)) (length (fields a.header.now) - k) k (room_for k a.commits a.signals) rows 0) d.ensures
    ∙ sym (lines_judged a.header.now rows a.commits a.signals a.curve c.at_row.result (said (goal.at.returns c).After-at_row) _ c.in_ok-at_row.was)
