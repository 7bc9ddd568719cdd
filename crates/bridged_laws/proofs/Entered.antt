-- The same of the block gate's entry point: where a bridged call is not refused and depth 0 is measured, no slot is passed over. Assumes nothing.
use mathlib.Core.Path.{◌≡◌}
use mathlib.Core.Bool.{true}
use mathlib.Core.List.{List}
use Prim.Native.Nat.{ℕ, ◌+◌, ◌<◌}
use native.Mathlib.Omega.{arith}
use lib.ListN.{length, get_or, take, length-take}
use lib.Ieee.{Float, nan}
use Rattle.laws.proofs.Both.{both}
use Rattle.refusals.specs.declared.Refusal.TheVariants.{Setting}
use Rattle.refusals.proofs.First.{both_pass, passed_is_zero}
use Rattle.speculative.specs.Drafter.{is_drafter, drafter_judged, drafter_seconds, loaded_at}
use Rattle.speculative.specs.declared.drafter.Rates.{Rates}
use Rattle.speculative.specs.declared.drafter.DrafterCost.{DrafterCost}
use Rattle.speculative.specs.declared.drafter.DrafterCost.TheVariants.{BlockParallel}
use Rattle.chains.specs.Tests.{all_of, is_price}
use Rattle.chains.specs.Expected.{are_chains, expected_over}
use Rattle.chains.proofs.Tested.{all_says}
use Rattle.goodput_judges.specs.Refusals.{aggregate_judged}
use Rattle.goodput_judges.proofs.Judges.{test_passed}
use Rattle.goodput_judges.proofs.Passed.{Priced, aggregate_passed}
use Rattle.verify_prices.specs.Bridge.{is_measured, bridged_cost}
use Rattle.verify_prices.specs.declared.PriceMode.TheVariants.{Bridged}
use Rattle.gates.specs.Entry.{prices, depth_of, room_judged, gate_judged, gate_refusal, block_chosen}
use Rattle.gates_laws.specs.Entries.{Curve}
use Rattle.gates_laws.proofs.Prices.{price_entry}
use Rattle.bridged_laws.specs.Paying.{paying_widths}
use Rattle.bridged_laws.proofs.Chosen.{chosen_measured, measured_on}
use Rattle.bridged_laws.proofs.NeverPasses.{never_passes_judged}

module _ (chains : List Float) (lengths : List ℕ) (curve : List Float) (gamma : ℕ) (params : Float) (block : ℕ) (rates : Rates) (loaded : List Float) (room : ℕ)
    (accepted : gate_refusal chains lengths curve gamma (BlockParallel params block) rates loaded room ≡ 0) where
  abbrev kind : DrafterCost
  kind = BlockParallel params block

  abbrev n : ℕ
  n = length lengths

  abbrev priced : List Float
  priced = prices chains lengths curve gamma kind rates loaded

  abbrev depth : ℕ
  depth = depth_of chains lengths curve gamma kind rates loaded

  -- what was judged
  judged : Priced chains lengths curve gamma kind rates loaded
  unfolding gate_judged
  judged =
      let all = passed_is_zero (gate_judged chains lengths curve gamma kind rates loaded room) accepted in
      aggregate_passed chains lengths curve gamma kind rates loaded (both_pass (room_judged kind gamma n room) (aggregate_judged chains lengths curve gamma kind rates loaded) all).1

  drafter : is_drafter kind ≡ true
  unfolding drafter_judged
  drafter = test_passed (is_drafter kind) Setting judged.sized.drafter

  valued : all_of is_price priced ≡ true
  valued = (both (are_chains gamma lengths chains) (all_of is_price priced) judged.lent.in_range_lem).1

  -- a judged curve of more than one depth is one of prices up to 2^57 and holes
  judged_curve : 1 < length priced → Curve priced
  judged_curve many = record {
    many = many;
    few = let f = judged.sized.shallow in simp length-take (omega arith);
    each = λ g l. price_entry (get_or priced g nan) (all_says is_price nan priced valued g l);
  }

  -- the gate is the one that takes each slot that pays and stops at the first that does not
  pub gate_never_passes : is_measured priced 0 ≡ true → 0 < depth
      → block_chosen chains lengths curve gamma kind rates loaded Bridged ≡ paying_widths (bridged_cost priced n) chains depth (drafter_seconds kind depth n rates (get_or priced depth nan) (loaded_at kind loaded n)) lengths
  unfolding block_chosen
  gate_never_passes first some =
      let best = chosen_measured kind n rates loaded (take (gamma + 1) (expected_over gamma lengths chains)) priced some in
      let on_curve = measured_on priced depth best in
      never_passes_judged priced (judged_curve (omega (arith, on_curve, some))) first depth some (omega (arith, on_curve)) best chains lengths rates loaded params block judged.sized.few drafter judged.lent.streamed
