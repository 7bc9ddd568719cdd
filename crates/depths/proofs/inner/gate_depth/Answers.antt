-- `inner::gate_depth` meets its contract. Assumes nothing.
use mathlib.Core.Path.{refl}
use Rattle.depths.proofs.Depths.{gate_chosen, gate_within}
use Rattle.depths.proofs.inner.gate_depth.Goals as goal

pub returns-clause-value : goal.returns-clause-value
returns-clause-value c = let a = c.args in gate_chosen a.drafter a.rates a.loaded a.lengths.now a.chains.now a.curve.now _ _ _ _ refl refl c.expected_over-expected.ensures c.depth_over.ensures

pub returns-clause-upper_bound : goal.returns-clause-upper_bound
returns-clause-upper_bound c = let a = c.args in gate_within a.drafter a.rates a.loaded a.lengths.now a.chains.now a.curve.now _ _ _ _ refl refl c.expected_over-expected.ensures c.depth_over.ensures c.requires.curve_nonzero.0
