-- An answer as one plain number: zero stands for a refusal.
use Rattle.std.specs.Prelude.{ℕ, cond, List, ltb, get_or, Float, Result, Ok, Err}
use Rattle.std.specs.Float.{nan, binary64}
use Rattle.std.specs.Float.Ieee.{of_bits}
use Rattle.refusals.specs.declared.Refusal.{Refusal}
use Rattle.decimals.specs.Decimals.{Decimal}
use Rattle.bank_judge.specs.Judge.{Answer}
use Rattle.measured.specs.Judge.{Answer as Reading}

unfoldable pub value_of : Decimal → Float
value_of (Ok x) = x
value_of (Err refusal) = of_bits binary64 0

unfoldable pub rounds_of : Answer → ℕ
rounds_of (Ok size) = size.rounds
rounds_of (Err why) = 0

unfoldable pub rows_of : Reading → ℕ
rows_of (Ok rows) = rows
rows_of (Err why) = 0

-- of the 65 prices
unfoldable pub price_at : ℕ → Result (List Float) Refusal → Float
price_at depth (Ok prices) = cond (ltb depth 65) (get_or prices depth nan) (of_bits binary64 0)
price_at depth (Err refusal) = of_bits binary64 0
