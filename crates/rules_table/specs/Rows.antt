-- The rules' table: what is given in each row, and what comes of it. Assumes nothing.
use Rattle.std.specs.Prelude.{ℕ, Bool, true, false, ◌&&◌, List, [], ◌∷◌, ◌++◌, map, eqb, replicate, Float}
use Rattle.std.proofs.Math.Option.{Option, none, some}
use Rattle.std.specs.Float.{binary64}
use Rattle.std.specs.Float.Ieee.{of_bits, to_bits}
use Rattle.float.specs.Floats.{f0, f1, infinity, whole}
use Rattle.numeral.specs.Moment.{second_of}
use Rattle.cost_rows.specs.Table as cost
use Rattle.cost_rows.specs.Prune.{kept}
use Rattle.speculative.specs.declared.drafter.Rates.{Rates}
use Rattle.speculative.specs.declared.drafter.DrafterCost.TheVariants.{Fraction, BlockParallel}
use Rattle.switch_settings.specs.declared.MaxStep.TheVariants.{Unlimited, AtMost}
use Rattle.switch_settings.specs.declared.SwitchConstraints.{SwitchConstraints}
use Rattle.width_walk.specs.Walk.{walk_candidates}
use Rattle.switching.specs.Deciding.{candidates_of, at_first, decided}
use Rattle.switching.specs.declared.Switching.{Switching as Kept}
use Rattle.depths.specs.Goodput.{best_of}
use Rattle.slots.specs.Gate.{Chosen}
use Rattle.verify_prices.specs.declared.PriceMode.TheVariants.{Default}
use Rattle.gates.specs.Entry.{ragged_chosen, block_chosen}
use Rattle.ledger_laws.specs.Model.{Switching, Plan, Sums, Call, plan, decide, back, sums_at, record_of, after, nothing_stands}

-- ---- what a row says

pub data Row : Type 0 where
  -- over n sequences, of expected values and total costs: the best depth
  best : (n : ℕ) (expected costs : List Float) (depth : ℕ) → Row
  -- of two chains of one slot each: the widths, and the slots weighed
  ragged : (first second : Float) (widths : List ℕ) (weighed : ℕ) → Row
  block : (first second : Float) (widths : List ℕ) (weighed : ℕ) → Row
  -- over the candidates 0, 2, 4 and 6, from a width toward a target: where the walk arrives
  walk : (width target arrives : ℕ) → Row
  -- of rows of one depth, by batch and seconds: the batches that are kept
  pruned : (rows : List (ℕ × Float)) (batches : List ℕ) → Row
  -- of plans that end at these times, each of 4 drafts, 3 of them committed, and 2 sequences: a second's drafts, sequences, committed and steps
  counted : (ends : List Float) (second drafts sequences committed steps : ℕ) → Row
  -- of decisions toward targets, of which the newest are withdrawn: the width and the counter; the stall is 0
  switched : (targets : List ℕ) (withdrawn : ℕ) (width counter : ℕ) → Row

-- ---- what is given in all rows of a kind

-- prices 1 and 1.25
abbrev pub prices : List Float
prices = f1 ∷ of_bits binary64 0x3ff4_0000_0000_0000 ∷ []

abbrev pub rates : Rates
rates = record { peak = f1; bw = f1; kv_delta = f0 }

abbrev pub two : Float → Float → List Float
two first second = (first ∷ replicate 63 f0) ++ (second ∷ replicate 63 f0)

-- prices that are finite at the candidates
abbrev pub evens : List Float
evens = f1 ∷ infinity ∷ f1 ∷ infinity ∷ f1 ∷ infinity ∷ f1 ∷ []

-- every second round, one candidate at a time, at no cost
abbrev pub slow : SwitchConstraints
slow = record { cooldown_rounds = 2; max_step = AtMost 1; cost_ms = f0 }

abbrev pub of_one_depth : ℕ × Float → cost.Row
of_one_depth r = record { depth = 0; batch = r.0; seconds = r.1 }

abbrev pub ends_at : ℕ → Plan
ends_at t = record { second = t; drafts = 4; sequences = 2; committed = 3 }

abbrev pub planned : Float → Call
planned end = plan (ends_at (second_of end))

-- a record as switching has it, and as it is held, its stall by its bits
abbrev pub opened : Switching → Kept
opened r = record { width = r.width; rounds = r.rounds; stall = of_bits binary64 r.stall }

abbrev pub closed : Kept → Switching
closed s = record { width = s.width; rounds = s.rounds; stall = to_bits binary64 s.stall }

abbrev pub toward : ℕ → Option Switching → Switching
toward target none = closed (at_first target)
toward target (some r) = closed (decided (opened r) evens target slow)

-- one worker's decision
abbrev pub decides : ℕ → Call
decides target = decide (ends_at 0) (0, 0) (toward target)

-- ---- whether it comes of it

abbrev pub same : List ℕ → List ℕ → Bool
same [] [] = true
same [] (y ∷ ys) = false
same (x ∷ xs) [] = false
same (x ∷ xs) (y ∷ ys) = eqb x y && same xs ys

abbrev pub is_chosen : Chosen → List ℕ → ℕ → Bool
is_chosen c widths weighed = same c.widths widths && eqb c.weighed weighed

abbrev pub are_sums : Sums → ℕ → ℕ → ℕ → ℕ → Bool
are_sums s drafts sequences committed steps = eqb s.drafts drafts && (eqb s.sequences sequences && (eqb s.committed committed && eqb s.steps steps))

abbrev pub is_held_as : Option Switching → ℕ → ℕ → Bool
is_held_as none width counter = false
is_held_as (some r) width counter = eqb r.width width && (eqb r.rounds counter && eqb r.stall 0)

abbrev pub meets : Row → Bool
meets (best n es cs depth) = eqb (best_of n es cs) depth
meets (ragged first second widths weighed) = is_chosen (ragged_chosen (two first second) (1 ∷ 1 ∷ []) prices 1 (Fraction f0) rates [] Default) widths weighed
meets (block first second widths weighed) = is_chosen (block_chosen (two first second) (1 ∷ 1 ∷ []) prices 1 (BlockParallel f0 1) rates [] Default) widths weighed
meets (walk width target arrives) = eqb (walk_candidates (candidates_of evens) width target Unlimited) arrives
meets (pruned rows batches) = same (map (λ (r : cost.Row). r.batch) (kept (map of_one_depth rows))) batches
meets (counted ends second drafts sequences committed steps) = are_sums (sums_at second (after (map planned ends) nothing_stands).changes) drafts sequences committed steps
meets (switched targets withdrawn width counter) =
    is_held_as (record_of (0, 0) (after (map decides targets ++ replicate withdrawn back) nothing_stands).changes) width counter

-- ---- the table

-- 0, 2 and 3
abbrev pub zero_two_three : List Float
zero_two_three = whole 0 ∷ whole 2 ∷ whole 3 ∷ []

-- 2.5; 0.875, 0.125 and minus zero; 1.5 and 1.9; 5.5 and 5.9
abbrev pub two_and_ahalf : Float
two_and_ahalf = of_bits binary64 0x4004_0000_0000_0000

abbrev pub likely : Float
likely = of_bits binary64 0x3fec_0000_0000_0000

abbrev pub unlikely : Float
unlikely = of_bits binary64 0x3fc0_0000_0000_0000

abbrev pub minus_zero : Float
minus_zero = of_bits binary64 0x8000_0000_0000_0000

abbrev pub one_point_five : Float
one_point_five = of_bits binary64 0x3ff8_0000_0000_0000

abbrev pub one_point_nine : Float
one_point_nine = of_bits binary64 0x3ffe_6666_6666_6666

abbrev pub five_point_five : Float
five_point_five = of_bits binary64 0x4016_0000_0000_0000

abbrev pub five_point_nine : Float
five_point_nine = of_bits binary64 0x4017_9999_9999_999a

abbrev pub ends : List Float
ends = five_point_five ∷ whole 6 ∷ five_point_nine ∷ []

abbrev pub table : List Row
table =
    -- P1, P2, P3
    best 2 zero_two_three (whole 1 ∷ whole 2 ∷ two_and_ahalf ∷ []) 0
    ∷ best 2 zero_two_three (whole 1 ∷ whole 2 ∷ whole 2 ∷ []) 2
    ∷ best 2 zero_two_three (infinity ∷ infinity ∷ infinity ∷ []) 0
    -- P4, P5, P6, P7
    ∷ ragged likely unlikely (1 ∷ 0 ∷ []) 2
    ∷ block likely unlikely (1 ∷ 0 ∷ []) 2
    ∷ block minus_zero likely (0 ∷ 0 ∷ []) 1
    ∷ block f0 likely (0 ∷ 1 ∷ []) 2
    -- P8, P9
    ∷ walk 3 5 4
    ∷ walk 9 9 6
    -- P10
    ∷ pruned ((1, one_point_nine) ∷ (2, one_point_five) ∷ (4, f1) ∷ []) (1 ∷ 4 ∷ [])
    -- P11: both seconds
    ∷ counted ends 5 8 4 6 2
    ∷ counted ends 6 4 2 3 1
    -- P12: the first decision, then both; and the newest withdrawn
    ∷ switched (6 ∷ 0 ∷ []) 0 6 1
    ∷ switched (6 ∷ 0 ∷ 0 ∷ []) 0 4 0
    ∷ switched (6 ∷ 0 ∷ 0 ∷ []) 1 6 1
    ∷ []
