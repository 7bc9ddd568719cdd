-- `inner::depth_over` meets its contract. Assumes nothing.
use mathlib.Core.Path.{sym}
use native.Mathlib.Omega.{arith}
use lib.ListN.{replicate}
use Rattle.float.specs.Floats.{f0}
use Rattle.depths.proofs.Depths.{over_long, over_chosen, over_none}
use Rattle.depths.proofs.inner.depth_over.Goals as goal

pub returns-then-len-eq0 : goal.returns-then-len-eq0
returns-then-len-eq0 c =
    let a = c.args in
    over_none a.drafter a.n a.rates a.loaded a.expected.now a.curve.now c.requires.expected_len c.if-len-eq0.true

pub fill_worths-requires-clause-expected_len : goal.fill_worths-requires-clause-expected_len
fill_worths-requires-clause-expected_len c = c.requires.expected_len

pub fill_worths-requires-clause-curve_nonzero : goal.fill_worths-requires-clause-curve_nonzero
fill_worths-requires-clause-curve_nonzero c = (omega (arith, c.if-len-eq0.false), c.requires.curve_len_bound)

pub fill_worths-requires-clause-curve_in_bounds : goal.fill_worths-requires-clause-curve_in_bounds
fill_worths-requires-clause-curve_in_bounds c = c.requires.curve_len_bound

pub slice_bounds-best_of-end : goal.slice_bounds-best_of-end
slice_bounds-best_of-end c =
    let a = c.args in
    sym (over_long a.drafter a.n a.rates a.loaded a.expected.now a.curve.now (replicate 65 f0) _ c.requires.curve_len_bound c.fill_worths.ensures)

pub best_of-requires : goal.best_of-requires
best_of-requires c =
    let a = c.args in
    omega (arith, over_long a.drafter a.n a.rates a.loaded a.expected.now a.curve.now (replicate 65 f0) _ c.requires.curve_len_bound c.fill_worths.ensures, c.requires.curve_len_bound)

pub returns : goal.returns
returns c =
    let a = c.args in
    over_chosen a.drafter a.n a.rates a.loaded a.expected.now a.curve.now _ _ _ c.requires.expected_len c.fill_worths.ensures c.best_of.ensures
