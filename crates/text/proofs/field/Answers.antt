-- `text::field` meets its contract: at each comma the field that is sought is that of the fields from there on. Assumes nothing.
use mathlib.Core.Path.{sym, ap, ◌∙◌}
use mathlib.Core.List.{List, []}
use Prim.Native.Nat.{ℕ, ◌+◌, ◌-◌}
use native.Mathlib.Omega.{arith}
use lib.ListN.{length, get_or, take, drop, drop_of_length-le}
use lib.Seq.{length-take-le}
use Rattle.laws.proofs.Lists.{part}
use Rattle.text.specs.Fields.{fields}
use Rattle.blocks.proofs.Finding.{found_le, part_length}
use Rattle.text.proofs.Walk.{get_or_more, field_last, field_next, field_first}
use Rattle.text.proofs.field.Goals as goal

pub slice_bounds-result-end : goal.slice_bounds-result-end
slice_bounds-result-end c =
    let s = c.loop-left.rest.now in
    let comma = c.find-comma in
    sym (length-take-le comma.result s (found_le 44 s comma.result comma.ensures))

pub returns-then-left-eq0 : goal.returns-then-left-eq0
returns-then-left-eq0 c =
    let here = c.loop-left in
    let s = here.rest.now in
    let comma = c.find-comma in
    sym
    (here.invariant.1
    ∙ ap (λ (k : ℕ). get_or (fields s) k []) c.if-left-eq0.true
    ∙ ap (λ (r : List (List ℕ)). get_or r 0 []) (field_first s comma.result comma.ensures))

pub slice_bounds-result-count : goal.slice_bounds-result-count
slice_bounds-result-count c = found_le 44 c.loop-left.rest.now c.find-comma.result c.find-comma.ensures

pub slice_bounds-result-start : goal.slice_bounds-result-start
slice_bounds-result-start c = found_le 44 c.loop-left.rest.now c.find-comma.result c.find-comma.ensures

pub returns-then-rest-comma : goal.returns-then-rest-comma
returns-then-rest-comma c =
    let here = c.loop-left in
    let s = here.rest.now in
    let comma = c.find-comma in
    part comma.result s
    ∙ drop_of_length-le s c.if-rest-comma.true
    ∙ sym
    (here.invariant.1
    ∙ ap (λ (r : List (List ℕ)). get_or r here.left []) (field_last s comma.result comma.ensures c.if-rest-comma.true)
    ∙ get_or_more here.left (take comma.result s) [] c.if-left-eq0.false)

pub loop-left-preserved : goal.loop-left-preserved
loop-left-preserved c =
    let here = c.loop-left in
    let s = here.rest.now in
    let comma = c.find-comma in
    let next = comma.result + 1 in (
      omega (arith, part_length next s, c.if-rest-comma.false),
      here.invariant.1
          ∙ ap (λ (r : List (List ℕ)). get_or r here.left []) (field_next s comma.result comma.ensures c.if-rest-comma.false)
          ∙ get_or_more here.left (take comma.result s) (fields (take (length s - next) (drop next s))) c.if-left-eq0.false,
    )
