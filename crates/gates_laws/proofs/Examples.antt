-- The rules' worked gates, P4 to P7, and both gates in both price modes on curves with holes, computed from the definitions. Assumes nothing.
use Prim.Native.Nat.{ℕ}
use mathlib.Core.Path.{◌≡◌, refl}
use mathlib.Core.List.{List, [], ◌∷◌, ◌++◌}
use lib.ListN.{replicate}
use lib.Ieee.{Float, binary64, of_bits, to_bits, of_int, add, sub, mul, div, lt, neg, is_nan, to_unsigned}
use Rattle.float.specs.Floats.{f0, f1, infinity, is_finite, max_of, clamp_to}
use Rattle.speculative.specs.Drafter.{still_drafting, block_seconds}
use Rattle.speculative.specs.declared.drafter.Rates.{Rates}
use Rattle.speculative.specs.declared.drafter.DrafterCost.TheVariants.{Fraction, BlockParallel}
use Rattle.chains.specs.Scan.{scan}
use Rattle.chains.specs.Expected.{add_running, sums_with}
use Rattle.depths.specs.Goodput.{exceeded, first_best, best_of}
use Rattle.depths.specs.Pricing.{total_cost}
use Rattle.heap.specs.Frontier.{next}
use Rattle.heap.specs.Greedy.{run, greedy}
use Rattle.verify_prices.specs.Price.{verify_cost}
use Rattle.verify_prices.specs.Bridge.{bridged_cost, straight, lower, upper_of}
use Rattle.verify_prices.specs.declared.PriceMode.TheVariants.{Default, Bridged}
use Rattle.verdict.specs.Decision.{taken_if}
use Rattle.slots.specs.Slots.{up_to, down_from, stacks}
use Rattle.slots.specs.Gate.{Chosen}
use Rattle.block.specs.Block.{add_slot, block_from, block_widths, block_gate}
use Rattle.trim.specs.Ragged.{sum_from, survivals_from, tokens_from, margin_of, passes_of, full_draft, drop_slot, ragged_widths, ragged_gate}
use Rattle.gates.specs.Entry.{ragged_chosen, block_chosen}

f : ℕ → Float
f b = of_bits binary64 b

-- 0.875, 0.125 and minus zero
likely : Float
likely = f 0x3fec_0000_0000_0000

unlikely : Float
unlikely = f 0x3fc0_0000_0000_0000

minus_zero : Float
minus_zero = f 0x8000_0000_0000_0000

-- prices 1 and 1.25
curve : List Float
curve = f1 ∷ f 0x3ff4_0000_0000_0000 ∷ []

some_rates : Rates
some_rates = record { peak = f1; bw = f1; kv_delta = f0 }

-- two chains of one slot each
two : Float → Float → List Float
two a b = (a ∷ replicate 63 f0) ++ (b ∷ replicate 63 f0)

ones : List ℕ
ones = 1 ∷ 1 ∷ []

ragged : Float → Float → Chosen
ragged a b = ragged_chosen (two a b) ones curve 1 (Fraction f0) some_rates [] Default

block : Float → Float → Chosen
block a b = block_chosen (two a b) ones curve 1 (BlockParallel f0 1) some_rates [] Default

p4 : ragged likely unlikely ≡ record { widths = 1 ∷ 0 ∷ []; weighed = 2 }
unfolding f likely unlikely curve some_rates two ones ragged ragged_chosen sums_with add_running exceeded first_best best_of scan total_cost ragged_gate ragged_widths full_draft survivals_from sum_from tokens_from passes_of still_drafting margin_of drop_slot stacks down_from greedy run next taken_if verify_cost max_of clamp_to is_finite of_bits to_bits of_int add sub mul div lt neg is_nan to_unsigned
p4 = refl

p5 : block likely unlikely ≡ record { widths = 1 ∷ 0 ∷ []; weighed = 2 }
unfolding f likely unlikely curve some_rates two ones block block_chosen sums_with add_running exceeded first_best best_of scan total_cost block_seconds block_gate block_widths block_from add_slot stacks up_to greedy run next taken_if verify_cost max_of clamp_to is_finite of_bits to_bits of_int add sub mul div lt neg is_nan to_unsigned
p5 = refl

-- minus zero has the largest bits, and stops the gate
p6 : block minus_zero likely ≡ record { widths = 0 ∷ 0 ∷ []; weighed = 1 }
unfolding f likely minus_zero curve some_rates two ones block block_chosen sums_with add_running exceeded first_best best_of scan total_cost block_seconds block_gate block_widths block_from add_slot stacks up_to greedy run next taken_if verify_cost max_of clamp_to is_finite of_bits to_bits of_int add sub mul div lt neg is_nan to_unsigned
p6 = refl

p7 : block f0 likely ≡ record { widths = 0 ∷ 1 ∷ []; weighed = 2 }
unfolding f likely curve some_rates two ones block block_chosen sums_with add_running exceeded first_best best_of scan total_cost block_seconds block_gate block_widths block_from add_slot stacks up_to greedy run next taken_if verify_cost max_of clamp_to is_finite of_bits to_bits of_int add sub mul div lt neg is_nan to_unsigned
p7 = refl

-- ---- a hole at the start: the one priced depth is 1, and its price is not the curve's entry but infinity + 1.0 × (1.0 - infinity), a NaN. The ragged
-- gate takes it for 1e-12 seconds and keeps the slot; the block gate passes over the slot, and verifies nothing of the block that it paid for
holed : List Float
holed = infinity ∷ f1 ∷ []

one : List Float
one = likely ∷ replicate 63 f0

hole_ragged : ragged_chosen one (1 ∷ []) holed 1 (Fraction f0) some_rates [] Default ≡ record { widths = 1 ∷ []; weighed = 1 }
unfolding f likely holed one some_rates ragged_chosen sums_with add_running exceeded first_best best_of scan total_cost ragged_gate ragged_widths full_draft survivals_from sum_from tokens_from passes_of still_drafting margin_of drop_slot stacks down_from greedy run next taken_if verify_cost max_of clamp_to is_finite of_bits to_bits of_int add sub mul div lt neg is_nan to_unsigned
hole_ragged = refl

hole_block : block_chosen one (1 ∷ []) holed 1 (BlockParallel f0 1) some_rates [] Default ≡ record { widths = 0 ∷ []; weighed = 1 }
unfolding f likely holed one some_rates block_chosen sums_with add_running exceeded first_best best_of scan total_cost block_seconds block_gate block_widths block_from add_slot stacks up_to greedy run next taken_if verify_cost max_of clamp_to is_finite of_bits to_bits of_int add sub mul div lt neg is_nan to_unsigned
hole_block = refl

-- ---- no sequence, and no draft: nothing is weighed
no_sequence : block_chosen [] [] holed 1 (BlockParallel f0 1) some_rates [] Default ≡ record { widths = []; weighed = 0 }
unfolding f holed some_rates block_chosen sums_with add_running exceeded first_best best_of scan total_cost block_seconds block_gate block_widths block_from add_slot stacks up_to greedy run next taken_if verify_cost max_of clamp_to is_finite of_bits to_bits of_int add sub mul div lt neg is_nan to_unsigned
no_sequence = refl

no_draft : ragged_chosen one (1 ∷ []) (f1 ∷ []) 0 (Fraction f0) some_rates [] Default ≡ record { widths = 0 ∷ []; weighed = 0 }
unfolding f likely one some_rates ragged_chosen sums_with add_running exceeded first_best best_of scan total_cost ragged_gate ragged_widths full_draft survivals_from sum_from tokens_from passes_of still_drafting margin_of drop_slot stacks down_from greedy run next taken_if verify_cost max_of clamp_to is_finite of_bits to_bits of_int add sub mul div lt neg is_nan to_unsigned
no_draft = refl

-- ---- gamma 4, with depths 0 and 4 measured and 1 to 3 not, one sequence, best depth 4. By default the ragged gate, which starts at 4, gives nothing back,
-- and the block gate, which starts at 0, passes its one stack over and verifies nothing
gap : List Float
gap = f1 ∷ infinity ∷ infinity ∷ infinity ∷ f 0x3ff4_0000_0000_0000 ∷ []

-- 0.875, 0.75, 0.5, 0.125
falling : List Float
falling = likely ∷ f 0x3fe8_0000_0000_0000 ∷ f 0x3fe0_0000_0000_0000 ∷ unlikely ∷ replicate 60 f0

gap_ragged : ragged_chosen falling (4 ∷ []) gap 4 (Fraction f0) some_rates [] Default ≡ record { widths = 4 ∷ []; weighed = 1 }
unfolding f likely gap falling unlikely some_rates ragged_chosen sums_with add_running exceeded first_best best_of scan total_cost ragged_gate ragged_widths full_draft survivals_from sum_from tokens_from passes_of still_drafting margin_of drop_slot stacks down_from greedy run next taken_if verify_cost max_of clamp_to is_finite of_bits to_bits of_int add sub mul div lt neg is_nan to_unsigned
gap_ragged = refl

gap_block : block_chosen falling (4 ∷ []) gap 4 (BlockParallel f0 1) some_rates [] Default ≡ record { widths = 0 ∷ []; weighed = 1 }
unfolding f likely gap falling unlikely some_rates block_chosen sums_with add_running exceeded first_best best_of scan total_cost block_seconds block_gate block_widths block_from add_slot stacks up_to greedy run next taken_if verify_cost max_of clamp_to is_finite of_bits to_bits of_int add sub mul div lt neg is_nan to_unsigned
gap_block = refl

-- bridged, both find that the fourth draft is not worth its price: 3 drafts
gap_crossed : ragged_chosen falling (4 ∷ []) gap 4 (Fraction f0) some_rates [] Bridged ≡ record { widths = 3 ∷ []; weighed = 2 }
unfolding f likely gap falling unlikely some_rates ragged_chosen sums_with add_running exceeded first_best best_of scan total_cost ragged_gate ragged_widths full_draft survivals_from sum_from tokens_from passes_of still_drafting margin_of drop_slot stacks down_from greedy run next taken_if verify_cost max_of clamp_to is_finite of_bits to_bits of_int add sub mul div lt neg is_nan to_unsigned bridged_cost straight lower upper_of
gap_crossed = refl

gap_bridged : block_chosen falling (4 ∷ []) gap 4 (BlockParallel f0 1) some_rates [] Bridged ≡ record { widths = 3 ∷ []; weighed = 4 }
unfolding f likely gap falling unlikely some_rates block_chosen sums_with add_running exceeded first_best best_of scan total_cost block_seconds block_gate block_widths block_from add_slot stacks up_to greedy run next taken_if verify_cost max_of clamp_to is_finite of_bits to_bits of_int add sub mul div lt neg is_nan to_unsigned bridged_cost straight lower upper_of
gap_bridged = refl

-- ---- gamma 3, with depths 2 and 3 measured and 0 and 1 not, one sequence, best depth 2. By default the ragged gate gives nothing back to the infinite price of
-- depth 1, and the block gate passes its one stack over and verifies nothing of the block that it paid for
deep : List Float
deep = infinity ∷ infinity ∷ f1 ∷ f 0x3ff4_0000_0000_0000 ∷ []

deep_ragged_default : ragged_chosen falling (3 ∷ []) deep 3 (Fraction f0) some_rates [] Default ≡ record { widths = 2 ∷ []; weighed = 1 }
unfolding f likely deep falling unlikely some_rates ragged_chosen sums_with add_running exceeded first_best best_of scan total_cost ragged_gate ragged_widths full_draft survivals_from sum_from tokens_from passes_of still_drafting margin_of drop_slot stacks down_from greedy run next taken_if verify_cost max_of clamp_to is_finite of_bits to_bits of_int add sub mul div lt neg is_nan to_unsigned
deep_ragged_default = refl

deep_block_default : block_chosen falling (3 ∷ []) deep 3 (BlockParallel f0 1) some_rates [] Default ≡ record { widths = 0 ∷ []; weighed = 1 }
unfolding f likely deep falling unlikely some_rates block_chosen sums_with add_running exceeded first_best best_of scan total_cost block_seconds block_gate block_widths block_from add_slot stacks up_to greedy run next taken_if verify_cost max_of clamp_to is_finite of_bits to_bits of_int add sub mul div lt neg is_nan to_unsigned
deep_block_default = refl

-- bridged, the ragged gate gives nothing back to a price below the first measured depth, and the block gate gives each its block, weighing none
deep_ragged : ragged_chosen falling (3 ∷ []) deep 3 (Fraction f0) some_rates [] Bridged ≡ record { widths = 2 ∷ []; weighed = 1 }
unfolding f likely deep falling unlikely some_rates ragged_chosen sums_with add_running exceeded first_best best_of scan total_cost ragged_gate ragged_widths full_draft survivals_from sum_from tokens_from passes_of still_drafting margin_of drop_slot stacks down_from greedy run next taken_if verify_cost max_of clamp_to is_finite of_bits to_bits of_int add sub mul div lt neg is_nan to_unsigned bridged_cost straight lower upper_of
deep_ragged = refl

deep_block : block_chosen falling (3 ∷ []) deep 3 (BlockParallel f0 1) some_rates [] Bridged ≡ record { widths = 2 ∷ []; weighed = 0 }
unfolding f likely deep falling unlikely some_rates block_chosen sums_with add_running exceeded first_best best_of scan total_cost block_seconds block_gate block_widths block_from add_slot stacks up_to greedy run next taken_if verify_cost max_of clamp_to is_finite of_bits to_bits of_int add sub mul div lt neg is_nan to_unsigned bridged_cost straight lower upper_of
deep_block = refl
