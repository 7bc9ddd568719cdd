-- `bank_judge::inner::judge_signals` meets its contract: at each field the judgement is that of the fields from there on. Assumes nothing.
use Rattle.std.proofs.Common.{rules, Err}
use mathlib.Core.Path.{◌≡◌, refl, sym, ap, ◌∙◌}
use mathlib.Core.List.{List, ◌∷◌}
use Prim.Native.Nat.{ℕ, ◌+◌}
use native.Mathlib.Omega.{arith}
use lib.ListN.{drop, take}
use lib.Seq.{drop-nil}
use Rattle.blocks.specs.Blocks.{find}
use Rattle.text.specs.Fields.{fields}
use Rattle.blocks.proofs.Finding.{part_length}
use Rattle.text.proofs.Walk.{field_last, field_next, field_first}
use Rattle.first_field.specs.Front.{field_length}
use Rattle.decimals.specs.Decimals.{without_value, decimal_of}
use Rattle.bank_judge.specs.Judge.{signals_judged}
use Rattle.bank_judge.proofs.Laws.{field_found, signal_skipped, signal_refused, signal_passed}
use Rattle.bank_judge.proofs.inner.judge_signals.Goals.{then-left-gt0, else-left-gt0+in_ok-front, Joined-left-gt0}
use Rattle.bank_judge.proofs.inner.judge_signals.Goals as goal

comma : (c : Joined-left-gt0) → c.if-left-gt0.comma ≡ find 44 c.loop-left.rest.now
comma c = elim c.if-left-gt0.branch [ then-left-gt0 w ↦ w.comma-is ∙ w.find-comma.ensures | else-left-gt0+in_ok-front w ↦ w.comma-is ∙ w.judge-front.ensures.length ∙ field_found c.loop-left.rest.now ]

passed : (c : Joined-left-gt0) (fs : List (List ℕ)) → fields c.loop-left.rest.now ≡ take c.if-left-gt0.comma c.loop-left.rest.now ∷ fs
    → signals_judged (drop c.loop-left.left (fields c.loop-left.rest.now)) ≡ signals_judged (drop c.if-left-gt0.left fs)
passed c fs e =
    let l = c.loop-left in
    let s = l.rest.now in
    let f = take c.if-left-gt0.comma s in
    ap (λ (r : List (List ℕ)). signals_judged (drop l.left r)) e
    ∙ elim c.if-left-gt0.branch [
      | then-left-gt0 w ↦ signal_skipped l.left f fs w.if-left-gt0.true ∙ ap (λ (k : ℕ). signals_judged (drop k fs)) (sym w.left-is)
      | else-left-gt0+in_ok-front w ↦
          signal_passed l.left w.judge-front.result.judged _ f fs w.if-left-gt0.false (w.judge-front.ensures.judged ∙ ap (λ (k : ℕ). without_value (decimal_of (take k s))) (sym (w.comma-is ∙ w.judge-front.ensures.length))) w.in_ok-front.was
          ∙ ap (λ (k : ℕ). signals_judged (drop k fs)) (sym w.left-is)
    ]

pub returns-in_err-front : goal.returns-in_err-front
returns-in_err-front c =
    let l = c.loop-left in
    let s = l.rest.now in
    let refusal = c.in_err-front.field-0.0 in
    let given : c.from_residual.result ≡ Err refusal = search rules in
    given
    ∙ sym
    (l.invariant.1
    ∙ ap (λ (r : List (List ℕ)). signals_judged (drop l.left r)) (field_first s (field_length s) (field_found s))
    ∙ signal_refused l.left c.judge-front.result.judged refusal (take (field_length s) s) (drop 1 (fields s)) c.if-left-gt0.false c.judge-front.ensures.judged c.in_err-front.was)

pub returns-then-rest-comma : goal.returns-then-rest-comma
returns-then-rest-comma c =
    let l = c.loop-left in
    sym (l.invariant.1 ∙ passed (goal.at.returns-then-rest-comma c).Joined-left-gt0 _ (field_last l.rest.now c.if-left-gt0.comma (comma (goal.at.returns-then-rest-comma c).Joined-left-gt0) c.if-rest-comma.true) ∙ ap signals_judged (drop-nil c.if-left-gt0.left))

pub loop-left-preserved : goal.loop-left-preserved
loop-left-preserved c =
    let l = c.loop-left in
    let s = l.rest.now in
    let n = c.if-left-gt0.comma in (
      omega (arith, part_length (n + 1) s, c.if-rest-comma.false),
      l.invariant.1 ∙ passed (goal.at.loop-left-preserved c).Joined-left-gt0 _ (field_next s n (comma (goal.at.loop-left-preserved c).Joined-left-gt0) c.if-rest-comma.false),
    )
