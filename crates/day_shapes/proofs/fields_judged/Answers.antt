-- `day_shapes::fields_judged` meets its contract: at each field the answer is that of the fields from there on. Assumes nothing.
use mathlib.Core.Path.{◌≡◌, sym, ap, ◌∙◌}
use mathlib.Core.List.{List, [], ◌∷◌}
use Prim.Native.Nat.{ℕ, ◌+◌, ◌-◌}
use native.Mathlib.Omega.{arith}
use lib.ListN.{length, get_or, take, drop}
use Rattle.std.specs.Prelude.{⊤, Result, Ok}
use Rattle.laws.proofs.Lists.{part}
use Rattle.text.specs.Fields.{fields}
use Rattle.trimming.specs.Trim.{trimmed}
use Rattle.blocks.proofs.Finding.{found_le, part_length}
use Rattle.text.proofs.Walk.{field_last, field_next, field_first}
use Rattle.day_shapes.specs.declared.Expected.{Expected}
use Rattle.day_shapes.specs.Shapes.{field_judged, step_of, shape_judged}
use Rattle.day_shapes.proofs.Turns.{field_passes, field_stops}
use Rattle.day_shapes.proofs.fields_judged.Goals as goal

turn : (place : ℕ) (left s : List ℕ) (n step : ℕ) (r : Result ⊤ Expected) (fs : List (List ℕ)) → fields s ≡ take n s ∷ fs → r ≡ field_judged (get_or left 0 0) (trimmed (take n s)) → r ≡ Ok tt
    → step ≡ step_of left → shape_judged place left (fields s) ≡ shape_judged (place + 1) (take (length left - step) (drop step left)) fs
turn place left s n step r fs e f z g =
    ap (shape_judged place left) e
    ∙ field_passes place left (take n s) fs r f z
    ∙ ap (λ (l : List ℕ). shape_judged (place + 1) l fs) (ap (λ (k : ℕ). drop k left) (sym g) ∙ sym (part step left))

pub judge_to-requires : goal.judge_to-requires
judge_to-requires c = found_le 44 c.loop-expected.rest.now c.find-comma.result c.find-comma.ensures

pub returns-in-Err : goal.returns-in-Err
returns-in-Err c =
    let l = c.loop-expected in
    let s = l.rest.now in
    sym
    (l.invariant.1
    ∙ ap (shape_judged l.place l.left.now) (field_first s c.find-comma.result c.find-comma.ensures)
    ∙ field_stops l.place l.left.now (take c.find-comma.result s) (drop 1 (fields s)) c.judge_to.result c.judge_to.ensures c.in-Err.expected c.in-Err.is)

pub returns-then-rest-comma : goal.returns-then-rest-comma
returns-then-rest-comma c =
    let l = c.loop-expected in
    let s = l.rest.now in
    c.end_judged.ensures
    ∙ sym
    (l.invariant.1
    ∙ turn l.place l.left.now s c.find-comma.result c.step_of-step.result c.judge_to.result [] (field_last s c.find-comma.result c.find-comma.ensures c.if-rest-comma.true) c.judge_to.ensures c.in_default.is c.step_of-step.ensures)

pub loop-expected-preserved : goal.loop-expected-preserved
loop-expected-preserved c =
    let l = c.loop-expected in
    let s = l.rest.now in
    let n = c.find-comma.result in
    let r = take (length s - (n + 1)) (drop (n + 1) s) in (
      (omega (arith, part_length (n + 1) s, c.if-rest-comma.false), omega (arith, part_length c.step_of-step.result l.left.now)),
      l.invariant.1
          ∙ turn l.place l.left.now s n c.step_of-step.result c.judge_to.result (fields r) (field_next s n c.find-comma.ensures c.if-rest-comma.false) c.judge_to.ensures c.in_default.is c.step_of-step.ensures,
    )
