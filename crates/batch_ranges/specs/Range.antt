-- Whether a depth is measured, and between which batches. Assumes nothing.
use Rattle.std.specs.Prelude.{ℕ, Bool, false, ◌||◌, List, [], ◌∷◌, eqb, Option, Some, None}
use Rattle.batch_ranges.specs.declared.BatchRange.{BatchRange}
use Rattle.cost_rows.specs.Table.{Row, of_depth}

-- whether some row has the depth
unfoldable pub measures : ℕ → List Row → Bool
measures g [] = false
measures g (r ∷ t) = eqb r.depth g || measures g t

-- the first batch stays, the last one is the newest
unfoldable pub widened : Option BatchRange → ℕ → Option BatchRange
widened None b = Some (record { low = b; high = b })
widened (Some range) b = Some (record { low = range.low; high = b })

unfoldable pub range_from : Option BatchRange → List Row → Option BatchRange
unfolding widened
range_from range [] = range
range_from range (r ∷ t) = range_from (widened range r.batch) t

-- the first and the last batch of the depth's rows
unfoldable pub range_of : ℕ → List Row → Option BatchRange
unfolding range_from of_depth
range_of g t = range_from None (of_depth g t)

unfoldable pub highest : Option BatchRange → Option ℕ
highest (Some range) = Some range.high
highest None = None

unfoldable pub max_batch : ℕ → List Row → Option ℕ
unfolding range_of highest
max_batch g t = highest (range_of g t)
