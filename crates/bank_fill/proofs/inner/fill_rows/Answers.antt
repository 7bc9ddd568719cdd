-- `bank_fill::inner::fill_rows` meets its contract: at each line what is to be stored is that of the lines from there on. Assumes nothing.
use mathlib.Core.Path.{◌≡◌, sym, ap, ◌∙◌, subst}
use mathlib.Core.List.{List, [], ◌∷◌}
use Prim.Native.Nat.{ℕ, ◌-◌, zero-le}
use native.Mathlib.Omega.{arith}
use lib.ListN.{length, take, drop, get_or}
use lib.Seq.{length-take-le}
use Rattle.text.specs.Lines.{lines}
use Rattle.text.specs.Fields.{fields}
use Rattle.blocks.proofs.Finding.{part_length}
use Rattle.text.proofs.Walk.{line_stop, line_next, line_first, lines_none}
use Rattle.numeral.specs.Spelling.{whole_of}
use Rattle.bank_fill.specs.Fill.{whole_value, commits_of, decimals_of, signals_of}
use Rattle.bank_curve.proofs.Stores.{Storing, storing_begins, storing_next, storing_more, storing_ends}
use Rattle.bank_fill.proofs.inner.fill_rows.Goals as goal

next_commit : (all : List (List ℕ)) (row first : List ℕ) (rest : List (List ℕ)) (v : ℕ) → all ≡ row ∷ rest → first ≡ get_or (fields row) 0 [] → v ≡ whole_value (whole_of first)
    → commits_of all ≡ v ∷ commits_of rest
next_commit all row first rest v e f g = ap commits_of e ∙ ap (λ (x : ℕ). x ∷ commits_of rest) (sym (g ∙ ap (λ (t : List ℕ). whole_value (whole_of t)) f))

pub loop-rest-init : goal.loop-rest-init
loop-rest-init c = (storing_begins (commits_of (lines c.args.rows.now)) c.args.commits.now 0 zero-le, storing_begins (signals_of c.args.skip (lines c.args.rows.now)) c.args.signals.now 0 zero-le)

pub slice_bounds-row-end : goal.slice_bounds-row-end
slice_bounds-row-end c =
    let s = c.loop-rest.rest.now in
    sym (length-take-le c.first_line-line.result.stop s (line_stop s c.first_line-line.result.stop c.first_line-line.result.next c.first_line-line.ensures.stop c.first_line-line.ensures.next))

pub loop-rest-smaller : goal.loop-rest-smaller
loop-rest-smaller c =
    let s = c.loop-rest.rest.now in
    omega (arith, part_length c.first_line-line.result.next s, line_next s c.first_line-line.result.stop c.first_line-line.result.next c.first_line-line.ensures.stop c.first_line-line.ensures.next c.loop-rest-test.true)

pub returns-clause-commits : goal.returns-clause-commits
returns-clause-commits c = let a = c.args in
    let l = c.loop-rest in
    let e : lines l.rest.now ≡ [] = lines_none l.rest.now c.loop-rest-test.false in (storing_ends (commits_of (lines a.rows.now)) a.commits.now 0 l.commits l.round
    (subst (Storing (commits_of (lines a.rows.now)) a.commits.now 0 l.commits l.round) (ap commits_of e) l.invariant.0)).1

pub returns-clause-signals : goal.returns-clause-signals
returns-clause-signals c = let a = c.args in
    let l = c.loop-rest in
    let e : lines l.rest.now ≡ [] = lines_none l.rest.now c.loop-rest-test.false in (storing_ends (signals_of a.skip (lines a.rows.now)) a.signals.now 0 l.signals l.at
    (subst (Storing (signals_of a.skip (lines a.rows.now)) a.signals.now 0 l.signals l.at) (ap (signals_of a.skip) e) l.invariant.1)).1

pub loop-rest-preserved : goal.loop-rest-preserved
loop-rest-preserved c =
    let a = c.args in
    let l = c.loop-rest in
    let s = l.rest.now in
    let first = c.field in
    let v = c.whole_value in
    let row = take c.first_line-line.result.stop s in
    let rest = lines (take (length s - c.first_line-line.result.next) (drop c.first_line-line.result.next s)) in
    let e : lines s ≡ row ∷ rest = line_first s c.first_line-line.result.stop c.first_line-line.result.next c.first_line-line.ensures.stop c.first_line-line.ensures.next c.loop-rest-test.true in (
      storing_next (commits_of (lines a.rows.now)) a.commits.now 0 l.commits l.round c.put-round.new.buffer c.put-round.result v.result (commits_of rest) c.put-round.ensures.stored c.put-round.ensures.next
          (subst (Storing (commits_of (lines a.rows.now)) a.commits.now 0 l.commits l.round) (next_commit (lines s) row first.result.now rest v.result e first.ensures v.ensures) l.invariant.0),
      storing_more (signals_of a.skip (lines a.rows.now)) a.signals.now 0 l.signals l.at c.fill_row-at.new.signals c.fill_row-at.result (decimals_of (drop a.skip (fields row))) (signals_of a.skip rest) c.fill_row-at.ensures.stored c.fill_row-at.ensures.next
          (subst (Storing (signals_of a.skip (lines a.rows.now)) a.signals.now 0 l.signals l.at) (ap (signals_of a.skip) e) l.invariant.1),
    )
