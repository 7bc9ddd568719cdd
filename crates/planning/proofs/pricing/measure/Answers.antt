-- `pricing::measure` meets its contract: the prices are worked out where they are read. Assumes nothing.
use Rattle.planning.proofs.Ways.{test_is, both_sources, both_tests}
use Rattle.planning.proofs.pricing.measure.Goals as goal

pub prices_to-requires-clause-rows_in_bounds : goal.prices_to-requires-clause-rows_in_bounds
prices_to-requires-clause-rows_in_bounds c = let t = c.requires.tabled (test_is _ _ _ c.uses_costs.ensures c.if-uses_costs.true) c.in-Table.is in (t.deep, t.wide, t.timed)

pub prices_to-requires-clause-seconds_value : goal.prices_to-requires-clause-seconds_value
prices_to-requires-clause-seconds_value c = let t = c.requires.tabled (test_is _ _ _ c.uses_costs.ensures c.if-uses_costs.true) c.in-Table.is in t.ascending

pub prices_to-requires-clause-out_len_bound : goal.prices_to-requires-clause-out_len_bound
prices_to-requires-clause-out_len_bound c = let t = c.requires.tabled (test_is _ _ _ c.uses_costs.ensures c.if-uses_costs.true) c.in-Table.is in c.requires.out_len_bound

pub returns-in-Roofline : goal.returns-in-Roofline
returns-in-Roofline c = λ u t. both_sources _ c.in-Roofline.is t

pub returns-in-Table : goal.returns-in-Table
returns-in-Table c = λ u t. c.prices_to.ensures

pub returns-else-uses_costs : goal.returns-else-uses_costs
returns-else-uses_costs c = λ u t. both_tests _ (test_is _ _ _ c.uses_costs.ensures c.if-uses_costs.false) u
