-- What a gate decides of one slot, in the Rust's order of operations, under any rule `price` for the verify price of a number of tokens.
-- Assumes nothing.
use Rattle.std.specs.Prelude.{cond, Float}
use Rattle.std.specs.Float.Ieee.{lt, of_bits}
use Rattle.std.specs.Float.{binary64}
use Rattle.float.specs.Floats.{plus, less, over, f1, max_of, is_finite}
use Rattle.verify_prices.specs.Rule.{Rule}

-- 1e-12
abbrev pub tiny : Float
tiny = of_bits binary64 0x3d71_9799_812d_ea11

-- tokens a second: expected / max(seconds, 1e-12)
abbrev pub rate_of : Float → Float → Float
rate_of expected seconds = over expected (max_of seconds tiny)

-- the expected tokens, the verify tokens and the drafter's seconds so far
pub record Sums : Type 0 where
  pub expected : Float
  pub tokens : Float
  pub drafter : Float

-- a slot is passed over, or the gate stops, or the slot is taken
pub data Decision : Type 0 where
  passed : Decision
  stopped : Decision
  taken : Sums → Decision

-- taken where the second rate exceeds the first
unfoldable pub taken_if : Float → Float → Sums → Decision → Decision
taken_if now then sums other = cond (lt now then) (taken sums) other

module _ (price : Float → Float) where
  -- the rate of what there is now
  abbrev pub rate_now : Sums → Float
  rate_now a = rate_of a.expected (plus (price a.tokens) a.drafter)

  -- the ragged gate: a slot of survival s, whose drafting costs `margin`, is given back where the rate is higher without it
  abbrev pub removal_at : Sums → Float → Float → Decision
  removal_at a s margin =
      taken_if (rate_now a) (rate_of (less a.expected s) (less (plus (price (less a.tokens f1)) a.drafter) margin))
      (record { expected = less a.expected s; tokens = less a.tokens f1; drafter = less a.drafter margin }) passed

  -- the seconds of one token more
  abbrev pub next_seconds : Sums → Float
  next_seconds a = plus (price (plus a.tokens f1)) a.drafter

  -- the block gate: a slot is passed over where the next price is not finite, and one that does not pay ends the gate
  abbrev pub slot_at : Sums → Float → Decision
  slot_at a s =
      cond (is_finite (next_seconds a))
      (taken_if (rate_now a) (rate_of (plus a.expected s) (next_seconds a))
      (record { expected = plus a.expected s; tokens = plus a.tokens f1; drafter = a.drafter }) stopped)
      passed

-- the ragged gate under a pricing rule: a slot is passed over where the price without it is shut
abbrev pub removal_under : Rule → Sums → Float → Float → Decision
removal_under rule a s margin = cond (rule.shut (rule.price (less a.tokens f1))) passed (removal_at rule.price a s margin)
