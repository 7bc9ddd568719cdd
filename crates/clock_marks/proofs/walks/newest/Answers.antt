-- `clock_marks::walks::newest` meets its contract: each turn looks at one plan. Assumes nothing.
use mathlib.Core.Path.{sym, ◌∙◌}
use Prim.Native.Nat.{◌+◌, ◌-◌}
use native.Mathlib.Omega.{arith}
use Rattle.clock_marks.proofs.Walking.{newest_none, newest_found, newest_next}
use Rattle.clock_marks.proofs.walks.newest.Goals as goal

pub returns-then-is_of : goal.returns-then-is_of
returns-then-is_of c =
    let a = c.args in
    sym (c.loop-newer.invariant ∙ newest_found a.clock.now a.ring a.a a.b _ _ (omega arith) (sym c.is_of.ensures ∙ c.if-is_of.true))

pub loop-newer-preserved : goal.loop-newer-preserved
loop-newer-preserved c =
    let a = c.args in
    let k = c.loop-newer.newer in
    c.loop-newer.invariant ∙ newest_next a.clock.now a.ring a.a a.b (a.among - k) (a.among - (k + 1)) (a.plans - k) (a.plans - (k + 1)) (omega arith) (omega arith) (sym c.is_of.ensures ∙ c.if-is_of.false)

pub returns : goal.returns
returns c =
    let a = c.args in
    sym (c.loop-newer.invariant ∙ newest_none a.clock.now a.ring a.a a.b _ _ (omega arith))
