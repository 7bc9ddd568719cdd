-- `bank::judging::depth_of` meets its contract: at each field the depth is what was counted and that of the fields from there on. Assumes nothing.
use mathlib.Core.Path.{◌≡◌, ap}
use mathlib.Core.List.{[]}
use Prim.Native.Nat.{ℕ, ◌+◌, ◌-◌}
use native.Mathlib.Omega.{arith}
use lib.ListN.{length, drop, take}
use Rattle.text.specs.Fields.{fields}
use Rattle.bank_judge.specs.Judge.{depth_of}
use Rattle.blocks.proofs.Finding.{part_length}
use Rattle.text.proofs.Walk.{field_last, field_next}
use Rattle.bank_judge.proofs.Laws.{depth_from}
use mathlib.Core.Bool.{Bool, cond}
use Rattle.bank_judge.proofs.inner.depth_of.Goals.{then-starts_with, else-starts_with}
use Rattle.bank_judge.proofs.inner.depth_of.Goals as goal

abbrev one_if : Bool → ℕ
one_if z = cond z 1 0

pub returns-then-rest-comma : goal.returns-then-rest-comma
returns-then-rest-comma c =
    let l = c.loop-depth in
    let s = l.rest.now in
    let n = c.find-comma in
    let st = c.starts_with in
    let all : depth_of (fields s) ≡ cond st.result 1 0 + 0 = depth_from s n.result st.result [] n.ensures st.ensures (field_last s n.result n.ensures c.if-rest-comma.true) in
    elim c.if-starts_with.branch [ then-starts_with w ↦ omega (arith, ap one_if w.if-starts_with.true) | else-starts_with w ↦ omega (arith, ap one_if w.if-starts_with.false) ]

pub loop-depth-preserved : goal.loop-depth-preserved
loop-depth-preserved c =
    let s = c.loop-depth.rest.now in
    let n = c.find-comma in
    let st = c.starts_with in
    let names = fields (take (length s - (n.result + 1)) (drop (n.result + 1) s)) in
    let all : depth_of (fields s) ≡ cond st.result 1 0 + depth_of names = depth_from s n.result st.result names n.ensures st.ensures (field_next s n.result n.ensures c.if-rest-comma.false) in
    elim c.if-starts_with.branch [
      | then-starts_with w ↦ omega (arith, ap one_if w.if-starts_with.true, part_length (n.result + 1) s)
      | else-starts_with w ↦ omega (arith, ap one_if w.if-starts_with.false, part_length (n.result + 1) s)
    ]

pub loop-depth-smaller : goal.loop-depth-smaller
loop-depth-smaller c =
    let s = c.loop-depth.rest.now in
    let n = c.find-comma.result in
    omega (arith, part_length (n + 1) s, c.if-rest-comma.false)
