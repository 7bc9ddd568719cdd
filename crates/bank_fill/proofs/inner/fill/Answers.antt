-- `bank_fill::inner::fill` meets its contract: the first line is the header, and the lines after it the rows. Assumes nothing.
use Prim.Native.Nat.{◌<◌}
use lib.ListN.{take}
use lib.Seq.{length-sets}
use mathlib.Core.Path.{◌≡◌, sym, ap, ◌∙◌, subst}
use mathlib.Core.List.{List, []}
use Prim.Native.Nat.{ℕ, suc, ◌≤◌, ◌-◌}
use lib.ListN.{length, get_or, drop}
use lib.Seq.{sets, length-take-le}
use Rattle.text.specs.Lines.{lines}
use Rattle.text.specs.Fields.{fields}
use Rattle.text.proofs.Walk.{line_stop}
use Rattle.bank_fill.specs.Fill.{commits_of, signals_of}
use Rattle.bank_curve.specs.Curve.{curve_from}
use Rattle.bank_fill.proofs.Accepted.{header_is, rows_are, commits_kept}
use Rattle.bank_fill.proofs.inner.fill.Goals as goal

pub slice_bounds-field_count-end : goal.slice_bounds-field_count-end
slice_bounds-field_count-end c =
    let s = c.args.text.now in
    sym (length-take-le c.first_line-line.result.stop s (line_stop s c.first_line-line.result.stop c.first_line-line.result.next c.first_line-line.ensures.stop c.first_line-line.ensures.next))

pub overflow_sub-width : goal.overflow_sub-width
overflow_sub-width c =
    let a = c.args in
    let p = c.requires in
    let s = a.text.now in
    subst (λ (n : ℕ). a.depth ≤ n)
    (ap (λ (l : List ℕ). length (fields l)) (header_is s c.first_line-line.result.stop c.first_line-line.result.next c.first_line-line.ensures.stop c.first_line-line.ensures.next p.header) ∙ sym c.field_count-width.ensures)
    p.within

pub returns-clause-commits : goal.returns-clause-commits
returns-clause-commits c = let a = c.args in
    let p = c.requires in
    let s = a.text.now in
    let w = c.field_count-width in
    let header = header_is s c.first_line-line.result.stop c.first_line-line.result.next c.first_line-line.ensures.stop c.first_line-line.ensures.next p.header in
    let rows = rows_are s c.first_line-line.result.stop c.first_line-line.result.next c.first_line-line.ensures.stop c.first_line-line.ensures.next p.header in
    let width : w.result ≡ length (fields (get_or (lines s) 0 [])) = w.ensures ∙ ap (λ (l : List ℕ). length (fields l)) (sym header) in
    let commits : c.fill_rows.new.commits ≡ sets a.commits.now 0 (commits_of (drop 1 (lines s))) = c.fill_rows.ensures.commits ∙ ap (λ (r : List (List ℕ)). sets a.commits.now 0 (commits_of r)) (sym rows) in commits

pub returns-clause-signals : goal.returns-clause-signals
returns-clause-signals c = let a = c.args in
    let p = c.requires in
    let s = a.text.now in
    let w = c.field_count-width in
    let header = header_is s c.first_line-line.result.stop c.first_line-line.result.next c.first_line-line.ensures.stop c.first_line-line.ensures.next p.header in
    let rows = rows_are s c.first_line-line.result.stop c.first_line-line.result.next c.first_line-line.ensures.stop c.first_line-line.ensures.next p.header in
    let width : w.result ≡ length (fields (get_or (lines s) 0 [])) = w.ensures ∙ ap (λ (l : List ℕ). length (fields l)) (sym header) in
    let commits : c.fill_rows.new.commits ≡ sets a.commits.now 0 (commits_of (drop 1 (lines s))) = c.fill_rows.ensures.commits ∙ ap (λ (r : List (List ℕ)). sets a.commits.now 0 (commits_of r)) (sym rows) in c.fill_rows.ensures.signals
    ∙ ap (λ (r : List (List ℕ)). sets a.signals.now 0 (signals_of (w.result - a.depth) r)) (sym rows)
    ∙ ap (λ (n : ℕ). sets a.signals.now 0 (signals_of (n - a.depth) (drop 1 (lines s)))) width

pub returns-clause-curve : goal.returns-clause-curve
returns-clause-curve c = let a = c.args in
    let p = c.requires in
    let s = a.text.now in
    let w = c.field_count-width in
    let header = header_is s c.first_line-line.result.stop c.first_line-line.result.next c.first_line-line.ensures.stop c.first_line-line.ensures.next p.header in
    let rows = rows_are s c.first_line-line.result.stop c.first_line-line.result.next c.first_line-line.ensures.stop c.first_line-line.ensures.next p.header in
    let width : w.result ≡ length (fields (get_or (lines s) 0 [])) = w.ensures ∙ ap (λ (l : List ℕ). length (fields l)) (sym header) in
    let commits : c.fill_rows.new.commits ≡ sets a.commits.now 0 (commits_of (drop 1 (lines s))) = c.fill_rows.ensures.commits ∙ ap (λ (r : List (List ℕ)). sets a.commits.now 0 (commits_of r)) (sym rows) in c.fill_curve.ensures
    ∙ ap (λ (l : List ℕ). sets a.curve.now 0 (curve_from 0 (suc a.depth) l))
    (commits_kept (drop 1 (lines s)) a.commits.now c.fill_rows.new.commits a.rounds commits p.all p.commits_fit)

pub slice_bounds-fill_curve-end-2 : goal.slice_bounds-fill_curve-end-2
slice_bounds-fill_curve-end-2 c =
    let a = c.args in
    let p = c.requires in
    let s = a.text.now in
    let f = c.first_line-line in
    let after = c.fill_rows.new.commits in
    let h : a.rounds ≤ length after = subst (λ (n : ℕ). a.rounds ≤ n) (sym (ap length c.fill_rows.ensures.commits ∙ length-sets a.commits.now 0 (commits_of (lines (take (length s - f.result.next) (drop f.result.next s)))))) p.commits_fit in
    sym (length-take-le a.rounds after h)

pub fill_curve-requires-clause-commits_nonzero : goal.fill_curve-requires-clause-commits_nonzero
fill_curve-requires-clause-commits_nonzero c = let a = c.args in
    let p = c.requires in
    let s = a.text.now in
    let f = c.first_line-line in
    let after = c.fill_rows.new.commits in
    let h : a.rounds ≤ length after = subst (λ (n : ℕ). a.rounds ≤ n) (sym (ap length c.fill_rows.ensures.commits ∙ length-sets a.commits.now 0 (commits_of (lines (take (length s - f.result.next) (drop f.result.next s)))))) p.commits_fit in
    let n : length (take a.rounds after) ≡ a.rounds = length-take-le a.rounds after h in subst (λ (k : ℕ). 0 < k) (sym n) p.some

pub fill_curve-requires-clause-commits_len_bound : goal.fill_curve-requires-clause-commits_len_bound
fill_curve-requires-clause-commits_len_bound c = let a = c.args in
    let p = c.requires in
    let s = a.text.now in
    let f = c.first_line-line in
    let after = c.fill_rows.new.commits in
    let h : a.rounds ≤ length after = subst (λ (n : ℕ). a.rounds ≤ n) (sym (ap length c.fill_rows.ensures.commits ∙ length-sets a.commits.now 0 (commits_of (lines (take (length s - f.result.next) (drop f.result.next s)))))) p.commits_fit in
    let n : length (take a.rounds after) ≡ a.rounds = length-take-le a.rounds after h in subst (λ (k : ℕ). k ≤ 65536) (sym n) p.few

pub fill_curve-requires-clause-depth_bound : goal.fill_curve-requires-clause-depth_bound
fill_curve-requires-clause-depth_bound c = let a = c.args in
    let p = c.requires in
    let s = a.text.now in
    let f = c.first_line-line in
    let after = c.fill_rows.new.commits in
    let h : a.rounds ≤ length after = subst (λ (n : ℕ). a.rounds ≤ n) (sym (ap length c.fill_rows.ensures.commits ∙ length-sets a.commits.now 0 (commits_of (lines (take (length s - f.result.next) (drop f.result.next s)))))) p.commits_fit in
    let n : length (take a.rounds after) ≡ a.rounds = length-take-le a.rounds after h in p.shallow
