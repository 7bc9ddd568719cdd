-- `bank_fill::inner::fill_row` meets its contract: at each field what is to be stored is that of the fields from there on. Assumes nothing.
use mathlib.Core.Path.{◌≡◌, sym, ap, ◌∙◌, subst}
use mathlib.Core.List.{List, [], ◌∷◌}
use Prim.Native.Nat.{ℕ, zero, suc, ◌≤◌, ◌+◌}
use native.Mathlib.Nat.{not-suc-le-zero}
use native.Mathlib.Omega.{arith}
use lib.Ieee.{Float}
use lib.ListN.{take, drop}
use lib.Seq.{drop-nil}
use Rattle.blocks.specs.Blocks.{find}
use Rattle.text.specs.Fields.{fields}
use Rattle.blocks.proofs.Finding.{part_length}
use Rattle.text.proofs.Walk.{field_last, field_next, drop_more}
use Rattle.decimals.specs.Decimals.{decimal_of}
use Rattle.bank_fill.specs.Fill.{decimal_value, decimals_of}
use Rattle.bank_judge.proofs.Laws.{field_found}
use Rattle.bank_curve.proofs.Stores.{Storing, storing_begins, storing_same, storing_next, storing_ends}
use Rattle.bank_fill.proofs.inner.fill_row.Invariants.{values}
use Rattle.bank_fill.proofs.inner.fill_row.Goals.{Joined-left-gt0, then-left-gt0, else-left-gt0}
use Rattle.bank_fill.proofs.inner.fill_row.Goals as goal

first_decimal : (k k' : ℕ) (f : List ℕ) (fs : List (List ℕ)) (v : Float) → k ≤ 0 → k' ≡ k → v ≡ decimal_value (decimal_of f)
    → decimals_of (drop k (f ∷ fs)) ≡ v ∷ decimals_of (drop k' fs)
first_decimal zero k' f fs v h e d =
    ap (λ (x : Float). x ∷ decimals_of fs) (sym d) ∙ ap (λ (n : ℕ). v ∷ decimals_of (drop n fs)) (sym e)
first_decimal (suc k) k' f fs v h e d = absurd (not-suc-le-zero h)

comma : (c : Joined-left-gt0) → c.if-left-gt0.comma ≡ find 44 c.loop-left.rest.now
comma c =
    elim c.if-left-gt0.branch [
      | then-left-gt0 w ↦ w.comma-is ∙ w.find-comma.ensures
      | else-left-gt0 w ↦ w.comma-is ∙ w.decimal-front.ensures.length ∙ field_found c.loop-left.rest.now
    ]

passed : (c : Joined-left-gt0) (fs : List (List ℕ)) → fields c.loop-left.rest.now ≡ take c.if-left-gt0.comma c.loop-left.rest.now ∷ fs
    → Storing (values c.args.line.now c.args.skip) c.args.signals.now c.args.from c.if-left-gt0.signals c.if-left-gt0.at (decimals_of (drop c.if-left-gt0.left fs))
passed c fs e =
    let a = c.args in
    let l = c.loop-left in
    let s = l.rest.now in
    let f = take c.if-left-gt0.comma s in
    let all = values a.line.now a.skip in
    let opened : Storing all a.signals.now a.from l.signals l.at (decimals_of (drop l.left (f ∷ fs))) =
    subst (λ (r : List (List ℕ)). Storing all a.signals.now a.from l.signals l.at (decimals_of (drop l.left r))) e l.invariant.1 in
    let left = decimals_of (drop c.if-left-gt0.left fs) in
    elim c.if-left-gt0.branch [
      | then-left-gt0 w ↦
          storing_same all a.signals.now a.from l.signals l.at c.if-left-gt0.signals c.if-left-gt0.at (decimals_of (drop l.left (f ∷ fs))) left w.signals-is w.at-is
          (ap decimals_of (drop_more l.left f fs w.if-left-gt0.true ∙ ap (λ (k : ℕ). drop k fs) (sym w.left-is)))
          opened
      | else-left-gt0 w ↦
          storing_next all a.signals.now a.from l.signals l.at c.if-left-gt0.signals c.if-left-gt0.at w.decimal_value.result left (w.signals-is ∙ w.put-at.ensures.stored) (w.at-is ∙ w.put-at.ensures.next)
          (subst (λ (r : List Float). Storing all a.signals.now a.from l.signals l.at r)
          (first_decimal l.left c.if-left-gt0.left f fs w.decimal_value.result w.if-left-gt0.false w.left-is
          (w.decimal_value.ensures ∙ ap decimal_value (w.decimal-front.ensures.decimal ∙ ap (λ (k : ℕ). decimal_of (take k s)) (sym (w.comma-is ∙ w.decimal-front.ensures.length)))))
          opened)
    ]

pub loop-left-init : goal.loop-left-init
loop-left-init c = (omega arith, storing_begins (values c.args.line.now c.args.skip) c.args.signals.now c.args.from c.requires)

pub returns-then-rest-comma-clause-next : goal.returns-then-rest-comma-clause-next
returns-then-rest-comma-clause-next c = let a = c.args in
    let done = passed (goal.at.returns-then-rest-comma-clause-next c).Joined-left-gt0 [] (field_last c.loop-left.rest.now c.if-left-gt0.comma (comma (goal.at.returns-then-rest-comma-clause-next c).Joined-left-gt0) c.if-rest-comma.true) in (storing_ends (values a.line.now a.skip) a.signals.now a.from c.if-left-gt0.signals c.if-left-gt0.at
    (subst (λ (r : List (List ℕ)). Storing (values a.line.now a.skip) a.signals.now a.from c.if-left-gt0.signals c.if-left-gt0.at (decimals_of r)) (drop-nil c.if-left-gt0.left) done)).0

pub returns-then-rest-comma-clause-stored : goal.returns-then-rest-comma-clause-stored
returns-then-rest-comma-clause-stored c = let a = c.args in
    let done = passed (goal.at.returns-then-rest-comma-clause-stored c).Joined-left-gt0 [] (field_last c.loop-left.rest.now c.if-left-gt0.comma (comma (goal.at.returns-then-rest-comma-clause-stored c).Joined-left-gt0) c.if-rest-comma.true) in (storing_ends (values a.line.now a.skip) a.signals.now a.from c.if-left-gt0.signals c.if-left-gt0.at
    (subst (λ (r : List (List ℕ)). Storing (values a.line.now a.skip) a.signals.now a.from c.if-left-gt0.signals c.if-left-gt0.at (decimals_of r)) (drop-nil c.if-left-gt0.left) done)).1

pub loop-left-smaller : goal.loop-left-smaller
loop-left-smaller c = omega (arith, part_length (c.if-left-gt0.comma + 1) c.loop-left.rest.now, c.if-rest-comma.false)

pub loop-left-preserved : goal.loop-left-preserved
loop-left-preserved c =
    let s = c.loop-left.rest.now in
    let n = c.if-left-gt0.comma in
    (omega (arith, part_length (n + 1) s, c.if-rest-comma.false), passed (goal.at.loop-left-preserved c).Joined-left-gt0 _ (field_next s n (comma (goal.at.loop-left-preserved c).Joined-left-gt0) c.if-rest-comma.false))
