-- The pricing rule of each mode: what a gate is defined and proved over. Assumes nothing.
use Rattle.std.specs.Prelude.{ℕ, ◌+◌, ◌≤◌, ◌<◌, ◌≡◌, Bool, false, not, cond, List, eqb, length, get_or, Float}
use Rattle.float.specs.Floats.{is_finite}
use Rattle.verify_prices.specs.Price.{verify_cost}
use Rattle.verify_prices.specs.Bridge.{lower, upper, bridged_cost}
use Rattle.verify_prices.specs.declared.PriceMode.{PriceMode}
use Rattle.verify_prices.specs.declared.PriceMode.TheVariants.{Default, Bridged}

-- the mode that a number stands for, any but 0 bridged
unfoldable pub mode_of : ℕ → PriceMode
mode_of number = cond (eqb number 0) Default Bridged

-- `price t` is the verify price of t tokens in all; `shut c`: nothing is given back to the price c
pub record Rule : Type 0 where
  pub price : Float → Float
  pub shut : Float → Bool

abbrev pub price_by : PriceMode → List Float → ℕ → Float → Float
price_by Default curve n t = verify_cost curve n t
price_by Bridged curve n t = bridged_cost curve n t

abbrev pub shut_by : PriceMode → Float → Bool
shut_by Default c = false
shut_by Bridged c = not (is_finite c)

-- the rule over a curve, for n sequences
abbrev pub rule_of : PriceMode → List Float → ℕ → Rule
rule_of mode curve n = record { price = price_by mode curve n; shut = shut_by mode }

-- ---- what the code keeps beside a curve

-- the nearest measured depths to each depth: at or below it, and from place 65 on at or above it
abbrev pub Lows : List Float → List ℕ → Type 0
Lows curve spans = (g : ℕ) → g < length curve → get_or spans g 0 ≡ lower curve g

abbrev pub Highs : List Float → List ℕ → Type 0
Highs curve spans = (g : ℕ) → g < length curve → get_or spans (65 + g) 0 ≡ upper curve g

pub record Spanned (curve : List Float) (spans : List ℕ) : Type 0 where
  pub room : length spans ≡ 130
  pub below : Lows curve spans
  pub above : Highs curve spans

-- the first entries are the same
abbrev pub SameTo : ℕ → List ℕ → List ℕ → Type 0
SameTo n a b = (g : ℕ) → g < n → get_or a g 0 ≡ get_or b g 0

-- a curve of the depths 0 to gamma, which is 1 to 64, and where the mode is bridged its spans
pub record Priced (mode : PriceMode) (curve : List Float) (spans : List ℕ) : Type 0 where
  pub many : 1 < length curve
  pub few : length curve ≤ 65
  pub spanned : mode ≡ Bridged → Spanned curve spans
