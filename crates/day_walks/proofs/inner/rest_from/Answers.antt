-- `day_walks::inner::rest_from` meets its contract: at each comma the fields that are sought are those from there on. Assumes nothing.
use mathlib.Core.Path.{◌≡◌, refl, sym, ap, ◌∙◌}
use mathlib.Core.List.{List}
use Prim.Native.Nat.{ℕ, zero, suc, ◌+◌, ◌-◌, ◌≤◌, ◌<◌}
use native.Mathlib.Nat.{not-suc-le-zero}
use native.Mathlib.Omega.{arith}
use lib.ListN.{length, take, drop}
use Rattle.text.specs.Fields.{fields}
use Rattle.blocks.proofs.Finding.{part_length}
use Rattle.day_walks.proofs.Turns.{comma_inside, rest_enough, rest_fields}
use Rattle.day_walks.proofs.inner.rest_from.Goals.{After-find-next}
use Rattle.day_walks.proofs.inner.rest_from.Goals as goal

none_left : (k : ℕ) (fs : List (List ℕ)) → k ≤ 0 → drop k fs ≡ fs
none_left zero fs h = refl
none_left (suc k) fs h = absurd (not-suc-le-zero h)

inside : (c : After-find-next) → 0 < c.args.from - c.loop-passed.passed → c.find-next.result < length c.loop-passed.rest.now
inside c some = comma_inside c.loop-passed.rest.now c.find-next.result (c.args.from - c.loop-passed.passed) c.find-next.ensures some c.loop-passed.invariant.1.0

pub loop-passed-init : goal.loop-passed-init
loop-passed-init c =
    let a = c.args in
    let whole : a.from ≡ a.from - 0 = omega arith in
    (omega arith, (omega (arith, c.requires), ap (λ (k : ℕ). drop k (fields a.line.now)) whole))

pub overflow_add-next : goal.overflow_add-next
overflow_add-next c = let h = inside (goal.at.overflow_add-next c).After-find-next (omega arith) in omega (arith, h)

pub slice_bounds-rest-count : goal.slice_bounds-rest-count
slice_bounds-rest-count c = let h = inside (goal.at.slice_bounds-rest-count c).After-find-next (omega arith) in omega (arith, h)

pub slice_bounds-rest-start : goal.slice_bounds-rest-start
slice_bounds-rest-start c = let h = inside (goal.at.slice_bounds-rest-start c).After-find-next (omega arith) in omega (arith, h)

pub loop-passed-preserved : goal.loop-passed-preserved
loop-passed-preserved c =
    let l = c.loop-passed in
    let s = l.rest.now in
    let n = c.find-next in
    let left = c.args.from - l.passed in
    let some : 0 < left = omega arith in
    let h = inside (goal.at.loop-passed-preserved c).After-find-next some in
    let long = part_length (n.result + 1) s in
    let fewer : left - 1 ≡ c.args.from - (l.passed + 1) = omega arith in
    let enough = rest_enough s n.result left n.ensures some l.invariant.1.0 in
    let rest = fields (take (length s - (n.result + 1)) (drop (n.result + 1) s)) in (
      omega (arith, h, long),
      (omega (arith, enough, fewer), l.invariant.1.1 ∙ rest_fields s n.result left n.ensures some l.invariant.1.0 ∙ ap (λ (k : ℕ). drop k rest) fewer),
    )

pub returns : goal.returns
returns c =
    let l = c.loop-passed in
    let none : c.args.from - l.passed ≤ 0 = omega arith in
    (sym (l.invariant.1.1 ∙ none_left (c.args.from - l.passed) (fields l.rest.now) none), omega arith)
