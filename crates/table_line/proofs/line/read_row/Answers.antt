-- `table_line::read_row` meets its contract: each way out is a law of the row's fields. Assumes nothing.
use mathlib.Core.Path.{◌≡◌, sym, ◌∙◌}
use mathlib.Core.List.{List, [], ◌∷◌}
use Prim.Native.Nat.{ℕ, ◌+◌, ◌-◌, ◌≤◌, ◌<◌}
use native.Mathlib.Omega.{arith}
use lib.ListN.{length, take, drop}
use lib.Seq.{length-take-le}
use Rattle.blocks.specs.Blocks.{find}
use Rattle.text.specs.Fields.{fields}
use Rattle.text.proofs.Laws.{fields_last}
use Rattle.text.proofs.Walk.{field_next}
use Rattle.table_line.proofs.Laws.{row_of_one, row_of_two, row_of_more, row_of_three}
use Rattle.table_line.proofs.line.read_row.Goals as goal

le_of_lt : {a b : ℕ} → a < b → a ≤ b
le_of_lt h = omega arith

abbrev behind : ℕ → List ℕ → List ℕ
behind n s = take (length s - (n + 1)) (drop (n + 1) s)

whole : (s : List ℕ) (n : ℕ) → n ≡ find 44 s → length s ≤ n → fields s ≡ s ∷ []
whole s n e h = fields_last s (omega (arith, e, h))

pub returns-then-line-first : goal.returns-then-line-first
returns-then-line-first c =
    let s = c.args.line.now in
    sym (row_of_one (fields s) s (whole s c.find-first.result c.find-first.ensures c.if-line-first.true))

pub returns-then-rest-second : goal.returns-then-rest-second
returns-then-rest-second c =
    let s = c.args.line.now in
    let n = c.find-first.result in
    sym (row_of_two (fields s) (take n s) (behind n s) (field_next s n c.find-first.ensures c.if-line-first.false) (behind n s) (whole (behind n s) c.find-second.result c.find-second.ensures c.if-rest-second.true))

pub returns-then-find-last : goal.returns-then-find-last
returns-then-find-last c =
    let s = c.args.line.now in
    let n = c.find-first.result in
    let r = behind n s in
    let m = c.find-second.result in
    let l = behind m r in
    let k = c.find.result in
    sym (row_of_more (fields s) (take n s) r (field_next s n c.find-first.ensures c.if-line-first.false) (take m r) l (field_next r m c.find-second.ensures c.if-rest-second.false) (take k l) (behind k l) (field_next l k c.find.ensures c.if-find-last.true))

pub slice_bounds-fields_read-end : goal.slice_bounds-fields_read-end
slice_bounds-fields_read-end c =
    let s = c.args.line.now in
    let n = c.find-first.result in
    sym (length-take-le n s (le_of_lt c.if-line-first.false))

pub slice_bounds-fields_read-end-2 : goal.slice_bounds-fields_read-end-2
slice_bounds-fields_read-end-2 c =
    let r = behind c.find-first.result c.args.line.now in
    let m = c.find-second.result in
    sym (length-take-le m r (le_of_lt c.if-rest-second.false))

pub returns : goal.returns
returns c =
    let s = c.args.line.now in
    let n = c.find-first.result in
    let r = behind n s in
    let m = c.find-second.result in
    let l = behind m r in
    c.fields_read.ensures
    ∙ sym (row_of_three (fields s) (take n s) r (field_next s n c.find-first.ensures c.if-line-first.false) (take m r) l (field_next r m c.find-second.ensures c.if-rest-second.false) (whole l c.find.result c.find.ensures c.if-find-last.false))
