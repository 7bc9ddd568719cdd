-- What is known of what a judge passes. Assumes nothing.
use mathlib.Core.Path.{◌≡◌}
use mathlib.Core.Bool.{Bool, true, ◌&&◌}
use mathlib.Core.List.{List}
use Prim.Native.Nat.{ℕ, ◌+◌, ◌*◌, ◌≤◌, ◌<◌, min}
use native.Mathlib.Omega.{arith}
use borrow.Author.Tests.{leb-true}
use lib.Dec.{leb}
use lib.ListN.{length, take}
use lib.Ieee.{Float}
use Rattle.std.specs.Prelude.{Ok}
use Rattle.float.specs.Floats.{is_finite}
use Rattle.refusals.specs.declared.Refusal.TheVariants.{Size, Input, ShortBuffer}
use Rattle.refusals.specs.Refusals.{Judgement, passed_if, and_then}
use Rattle.refusals.proofs.First.{both_pass}
use Rattle.acceptance.specs.Acceptance.{model_judged}
use Rattle.acceptance.specs.declared.AcceptanceModel.{AcceptanceModel}
use Rattle.speculative.specs.Drafter.{inputs_judged}
use Rattle.speculative.specs.declared.drafter.Rates.{Rates}
use Rattle.speculative.specs.declared.drafter.DrafterCost.{DrafterCost}
use Rattle.chains.specs.Tests.{all_of, is_accepted}
use Rattle.chains.specs.Expected.{are_chains}
use Rattle.goodput_judges.specs.Refusals.{counts_judged, survival_judged, chains_judged, model_values_judged, bank_sizes_judged, bank_values_judged, sizes_judged, is_weighed, depth_judged, is_priced_batch, aggregate_judged}
use Rattle.goodput_judges.proofs.Judges.{test_passed, both_tests, Counted, counts_passed, Sized, sizes_passed, Lent, inputs_passed}

-- ---- two stages behind a first one
pub three_pass : (a : Judgement) (p q : Bool) (b : Judgement) → and_then a (and_then (passed_if (p && q) ShortBuffer) b) ≡ Ok tt
    → (a ≡ Ok tt) × ((p ≡ true) × ((q ≡ true) × (b ≡ Ok tt)))
three_pass a p q b e =
    let f = both_pass a (and_then (passed_if (p && q) ShortBuffer) b) e in
    let g = both_pass (passed_if (p && q) ShortBuffer) b f.1 in
    let h = both_tests p q ShortBuffer g.0 in
    (f.0, (h.0, (h.1, g.1)))

-- ---- a signal
pub survival_passed : (signal : List Float) (n : ℕ) → survival_judged signal n ≡ Ok tt → (n ≤ 64) × (all_of is_finite (take n signal) ≡ true)
unfolding survival_judged
survival_passed signal n e =
    let p = both_pass (passed_if (leb n 64) Size) (passed_if (all_of is_finite (take n signal)) Input) e in
    (leb-true n 64 (test_passed (leb n 64) Size p.0), test_passed (all_of is_finite (take n signal)) Input p.1)

-- ---- the chains of a batch
pub record Chained (slots : List Float) (lengths : List ℕ) (gamma room : ℕ) : Type 0 where
  pub counted : Counted gamma (length lengths)
  pub there : length lengths * 64 ≤ length slots
  pub wide : gamma < room
  pub tested : are_chains gamma lengths slots ≡ true

pub chains_passed : (slots : List Float) (lengths : List ℕ) (gamma room : ℕ) → chains_judged slots lengths gamma room ≡ Ok tt → Chained slots lengths gamma room
unfolding chains_judged
chains_passed slots lengths gamma room e =
    let p = three_pass (counts_judged gamma (length lengths)) (leb (length lengths * 64) (length slots)) (leb (gamma + 1) room) (passed_if (are_chains gamma lengths slots) Input) e in
    let w : gamma + 1 ≤ room = leb-true (gamma + 1) room p.1.1.0 in
    record {
      counted = counts_passed gamma (length lengths) p.0;
      there = leb-true (length lengths * 64) (length slots) p.1.0;
      wide = omega arith;
      tested = test_passed (are_chains gamma lengths slots) Input p.1.1.1;
    }

-- ---- an acceptance model, for n sequences
pub record Modelled (model : AcceptanceModel) (positions : List Float) (gamma n room : ℕ) : Type 0 where
  pub judged : model_judged model positions ≡ Ok tt
  pub counted : Counted gamma n
  pub wide : gamma < room

pub model_passed : (model : AcceptanceModel) (positions : List Float) (gamma n room : ℕ) → model_values_judged model positions gamma n room ≡ Ok tt → Modelled model positions gamma n room
unfolding model_values_judged
model_passed model positions gamma n room e =
    let p = both_pass (model_judged model positions) (and_then (counts_judged gamma n) (passed_if (leb (gamma + 1) room) ShortBuffer)) e in
    let q = both_pass (counts_judged gamma n) (passed_if (leb (gamma + 1) room) ShortBuffer) p.1 in
    let w : gamma + 1 ≤ room = leb-true (gamma + 1) room (test_passed (leb (gamma + 1) room) ShortBuffer q.1) in
    record { judged = p.0; counted = counts_passed gamma n q.0; wide = omega arith }

-- ---- a bank, for n sequences
pub record Banked (curve : List Float) (depth gamma n room : ℕ) : Type 0 where
  pub low : 1 ≤ depth
  pub deep : depth ≤ 64
  pub counted : Counted gamma n
  pub there : min gamma depth < length curve
  pub wide : gamma < room
  pub in_range_lem : all_of is_accepted (take (min gamma depth + 1) curve) ≡ true

pub bank_passed : (curve : List Float) (depth gamma n room : ℕ) → bank_values_judged curve depth gamma n room ≡ Ok tt → Banked curve depth gamma n room
unfolding bank_values_judged bank_sizes_judged
bank_passed curve depth gamma n room e =
    let all = all_of is_accepted (take (min gamma depth + 1) curve) in
    let p = three_pass (bank_sizes_judged depth gamma n) (leb (min gamma depth + 1) (length curve)) (leb (gamma + 1) room) (passed_if all Input) e in
    let s = both_pass (passed_if (leb 1 depth && leb depth 64) Size) (counts_judged gamma n) p.0 in
    let d = both_tests (leb 1 depth) (leb depth 64) Size s.0 in
    let t : min gamma depth + 1 ≤ length curve = leb-true (min gamma depth + 1) (length curve) p.1.0 in
    let w : gamma + 1 ≤ room = leb-true (gamma + 1) room p.1.1.0 in
    record {
      low = leb-true 1 depth d.0;
      deep = leb-true depth 64 d.1;
      counted = counts_passed gamma n s.1;
      there = omega arith;
      wide = omega arith;
      in_range_lem = test_passed all Input p.1.1.1;
    }

-- ---- expected values and prices
pub record Weighed (es curve : List Float) (gamma n : ℕ) (kind : DrafterCost) (rates : Rates) (loaded : List Float) : Type 0 where
  pub sized : Sized kind gamma n
  pub values : gamma + 1 ≤ length es
  pub prices : gamma + 1 ≤ length curve
  pub lent : Lent kind n rates (is_weighed (take (gamma + 1) es) (take (gamma + 1) curve)) loaded

pub depth_passed : (es curve : List Float) (gamma n : ℕ) (kind : DrafterCost) (rates : Rates) (loaded : List Float) → depth_judged es curve gamma n kind rates loaded ≡ Ok tt
    → Weighed es curve gamma n kind rates loaded
unfolding depth_judged
depth_passed es curve gamma n kind rates loaded e =
    let valued = is_weighed (take (gamma + 1) es) (take (gamma + 1) curve) in
    let p = three_pass (sizes_judged kind gamma n) (leb (gamma + 1) (length es)) (leb (gamma + 1) (length curve)) (inputs_judged kind n rates valued loaded) e in
    record {
      sized = sizes_passed kind gamma n p.0;
      values = leb-true (gamma + 1) (length es) p.1.0;
      prices = leb-true (gamma + 1) (length curve) p.1.1.0;
      lent = inputs_passed kind n rates valued loaded p.1.1.1;
    }

-- ---- chains and prices
pub record Priced (chains : List Float) (lengths : List ℕ) (curve : List Float) (gamma : ℕ) (kind : DrafterCost) (rates : Rates) (loaded : List Float) : Type 0 where
  pub sized : Sized kind gamma (length lengths)
  pub there : length lengths * 64 ≤ length chains
  pub prices : gamma + 1 ≤ length curve
  pub lent : Lent kind (length lengths) rates (is_priced_batch chains lengths gamma (take (gamma + 1) curve)) loaded

pub aggregate_passed : (chains : List Float) (lengths : List ℕ) (curve : List Float) (gamma : ℕ) (kind : DrafterCost) (rates : Rates) (loaded : List Float)
    → aggregate_judged chains lengths curve gamma kind rates loaded ≡ Ok tt → Priced chains lengths curve gamma kind rates loaded
unfolding aggregate_judged
aggregate_passed chains lengths curve gamma kind rates loaded e =
    let n = length lengths in
    let valued = is_priced_batch chains lengths gamma (take (gamma + 1) curve) in
    let p = three_pass (sizes_judged kind gamma n) (leb (n * 64) (length chains)) (leb (gamma + 1) (length curve)) (inputs_judged kind n rates valued loaded) e in
    record {
      sized = sizes_passed kind gamma n p.0;
      there = leb-true (n * 64) (length chains) p.1.0;
      prices = leb-true (gamma + 1) (length curve) p.1.1.0;
      lent = inputs_passed kind n rates valued loaded p.1.1.1;
    }
