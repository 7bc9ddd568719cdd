-- What a batch is expected to accept is a number with a clear sign bit at every depth: by a model that passed, by a bank's curve in range, and by the chains of a model or of finite signals. Assumes nothing.
use Prim.Native.Nat.{ℕ, zero, suc, ◌+◌, ◌-◌, ◌≤◌, ◌<◌, min}
use mathlib.Core.Path.{◌≡◌, refl}
use mathlib.Core.Bool.{Bool, true}
use mathlib.Core.List.{List, [], ◌∷◌, ◌++◌}
use native.Mathlib.Omega.{arith}
use borrow.Author.Tests.{le-leb}
use lib.ListN.{length, take, replicate}
use lib.Seq.{take-append-le, take-nil, drop_at}
use lib.Ieee.{Float, of_bits}
use Rattle.laws.proofs.Both.{both}
use Rattle.float.specs.Floats.{f0, f1, is_finite}
use Rattle.float.proofs.Ranges.{range_finite}
use Rattle.acceptance.specs.Acceptance.{model_judged, model_refusal}
use Rattle.acceptance.specs.declared.AcceptanceModel.{AcceptanceModel}
use Rattle.acceptance.specs.declared.AcceptanceModel.TheVariants.{Constant, PerPosition, Trace}
use Rattle.acceptance.proofs.Judged.{value_in_range}
use Rattle.chains.specs.Tests.{all_of, is_survival, is_accepted}
use Rattle.chains.specs.Survival.{survival_chain}
use Rattle.chains.specs.Expected.{are_chains}
use Rattle.budgets.specs.Budget.{model_values, bank_values}
use Rattle.depth_laws.proofs.Wins.{AllClear}
use Rattle.depth_laws.proofs.Domain.{expected_clear, chains_clear}
use Rattle.std.specs.Prelude.{Ok}
use Rattle.refusals.proofs.First.{passed_is_zero}
use Rattle.goodput_judges.specs.Refusals.{counts_judged, survival_judged, model_values_judged, bank_sizes_judged, bank_values_judged, survival_refusal, model_values_refusal, bank_values_refusal}
use Rattle.goodput_laws.proofs.Bounds.{model_taken, bank_taken}
use Rattle.goodput_laws.proofs.Survivals.{chain_held}
use Rattle.settings.specs.Settings.{is_trace}
use Rattle.rounds.specs.Signals.{slots, values_from, model_chain, same_chains, confidences, are_finite, round_chain, round_chains}
use Rattle.rounds.proofs.Parts.{values_length}
use Rattle.rounds.proofs.Laying.{slots_length, chain_length, round_length}
use Rattle.gating.specs.Chains.{chains_by, chains_expected}
use Rattle.deciding.specs.Deciding.{mean_expected}

-- ---- tests of every entry
module _ (test : Float → Bool) where
  all_append : (xs ys : List Float) → all_of test xs ≡ true → all_of test ys ≡ true → all_of test (xs ++ ys) ≡ true
  unfolding all_of
  all_append [] ys p q = q
  all_append (x ∷ xs) ys p q = let u = both (test x) (all_of test xs) p in rw u.0 (all_append xs ys u.1 q)

  all_take : (k : ℕ) (xs : List Float) → all_of test xs ≡ true → all_of test (take k xs) ≡ true
  unfolding all_of
  all_take zero xs p = refl
  all_take (suc k) [] p = refl
  all_take (suc k) (x ∷ xs) p = let u = both (test x) (all_of test xs) p in rw u.0 (all_take k xs u.1)

  all_replicate : (k : ℕ) (x : Float) → test x ≡ true → all_of test (replicate k x) ≡ true
  unfolding all_of
  all_replicate zero x p = refl
  all_replicate (suc k) x p = rw p (all_replicate k x p)

-- ---- a chain of finite confidences
f0_finite : is_finite f0 ≡ true
unfolding is_finite of_bits
f0_finite = refl

f1_finite : is_finite f1 ≡ true
unfolding is_finite of_bits
f1_finite = refl

signal_passes : (cs : List Float) (gamma : ℕ) → gamma ≤ 64 → all_of is_finite cs ≡ true → survival_refusal (slots cs) gamma ≡ 0
unfolding survival_judged
signal_passes cs gamma h f = rw (le-leb gamma 64 h, all_take is_finite gamma (slots cs) (all_append is_finite cs _ f (all_replicate is_finite (64 - length cs) f0 f0_finite)))

chain_survives : (cs : List Float) (gamma : ℕ) → gamma ≤ 64 → all_of is_finite cs ≡ true → all_of is_survival (survival_chain (slots cs) gamma) ≡ true
chain_survives cs gamma h f = chain_held (slots cs) gamma (signal_passes cs gamma h f)

-- ---- chains one after the other
module _ (gamma : ℕ) (low : gamma ≤ 64) where
  none_are : (n : ℕ) → are_chains gamma (replicate n gamma) [] ≡ true
  unfolding are_chains all_of
  none_are zero = refl
  none_are (suc n) = rw (le-leb gamma 64 low, take-nil {A = Float} (min gamma gamma)) (none_are n)

  one_more : (chain rest : List Float) (n : ℕ) → length chain ≡ 64 → all_of is_survival chain ≡ true → are_chains gamma (replicate n gamma) rest ≡ true
      → are_chains gamma (replicate (suc n) gamma) (chain ++ rest) ≡ true
  unfolding are_chains
  one_more chain rest n l s r =
      let few : min gamma gamma ≤ length chain = omega (arith, l, low) in
      rw (le-leb gamma 64 low, take-append-le (min gamma gamma) chain rest few, all_take is_survival (min gamma gamma) chain s, drop_at chain rest 64 l) r

  same_are : (chain : List Float) (n : ℕ) → length chain ≡ 64 → all_of is_survival chain ≡ true → are_chains gamma (replicate n gamma) (same_chains chain n) ≡ true
  unfolding same_chains are_chains
  same_are chain zero l s = refl
  same_are chain (suc n) l s = one_more chain (same_chains chain n) n l s (same_are chain n l s)

  module _ (signals : List Float) (depth : ℕ) where
    rounds_are : (n : ℕ) (is : List ℕ) → are_finite signals depth gamma is ≡ true → are_chains gamma (replicate n gamma) (round_chains signals depth gamma is) ≡ true
    unfolding round_chains are_finite are_chains
    rounds_are zero is f = refl
    rounds_are (suc n) [] f = none_are (suc n)
    rounds_are (suc n) (i ∷ is) f =
        let u = both (all_of is_finite (confidences signals depth gamma i)) (are_finite signals depth gamma is) f in
        one_more (round_chain signals depth gamma i) (round_chains signals depth gamma is) n (round_length signals depth gamma is i low) (chain_survives (confidences signals depth gamma i) gamma low u.0) (rounds_are n is u.1)

  module _ (model : AcceptanceModel) (positions : List Float) (judged : model_refusal model positions ≡ 0) where
    values_finite : (d left : ℕ) → all_of is_finite (values_from model positions d left) ≡ true
    unfolding values_from all_of
    values_finite d zero = refl
    values_finite d (suc left) = rw (range_finite f0 f1 _ f1_finite (value_in_range model positions judged d)) (values_finite (suc d) left)

    model_are : (n : ℕ) → are_chains gamma (replicate n gamma) (same_chains (model_chain model positions gamma) n) ≡ true
    model_are n =
        let v = values_from model positions 0 gamma in
        same_are (model_chain model positions gamma) n (chain_length (slots v) gamma low (slots_length v (omega (arith, values_length model positions 0 gamma, low)))) (chain_survives v gamma low (values_finite 0 gamma))

  chains_are : (model : AcceptanceModel) (positions signals : List Float) (depth : ℕ) (indices : List ℕ) (n : ℕ) → model_refusal model positions ≡ 0
      → (is_trace model ≡ true → are_finite signals depth gamma (take n indices) ≡ true) → are_chains gamma (replicate n gamma) (chains_by model positions signals depth indices n gamma) ≡ true
  chains_are (Constant alpha) positions signals depth indices n j f = model_are (Constant alpha) positions j n
  chains_are PerPosition positions signals depth indices n j f = model_are PerPosition positions j n
  chains_are Trace positions signals depth indices n j f = rounds_are signals depth n (take n indices) (f refl)

  pub chained_clear : (model : AcceptanceModel) (positions signals : List Float) (depth : ℕ) (indices : List ℕ) (n : ℕ) → model_refusal model positions ≡ 0
      → (is_trace model ≡ true → are_finite signals depth gamma (take n indices) ≡ true) → AllClear (chains_expected n gamma (chains_by model positions signals depth indices n gamma))
  chained_clear model positions signals depth indices n j f = chains_clear gamma (gamma + 1) (replicate n gamma) _ (chains_are model positions signals depth indices n j f)

  -- ---- by the mean
  module _ (n : ℕ) (few : n ≤ 1024) where
    model_passes : (model : AcceptanceModel) (positions : List Float) → model_refusal model positions ≡ 0 → model_values_refusal model positions gamma n 65 ≡ 0
    unfolding model_values_judged counts_judged
    model_passes model positions j =
        let m : model_judged model positions ≡ Ok tt = passed_is_zero (model_judged model positions) j in
        rw (m, le-leb gamma 64 low, le-leb n 1024 few, le-leb (gamma + 1) 65 (omega arith))

    values_clear : (model : AcceptanceModel) (positions : List Float) → model_refusal model positions ≡ 0 → AllClear (model_values model positions n gamma)
    values_clear model positions j = expected_clear (model_values model positions n gamma) (model_taken model positions gamma n 65 (model_passes model positions j))

    -- what is known of a bank whose curve is used
    pub record Bank (bank : List Float) (depth : ℕ) : Type 0 where
      pub some : 1 ≤ depth
      pub shallow : depth ≤ 64
      pub within : gamma ≤ depth
      pub there : gamma < length bank
      pub in_range_lem : all_of is_accepted (take (gamma + 1) bank) ≡ true

    bank_passes : (bank : List Float) (depth : ℕ) → Bank bank depth → bank_values_refusal bank depth gamma n 65 ≡ 0
    unfolding bank_values_judged bank_sizes_judged counts_judged
    bank_passes bank depth b =
        let m : min gamma depth ≡ gamma = omega (arith, b.within) in
        rw (m, le-leb 1 depth b.some, le-leb depth 64 b.shallow, le-leb gamma 64 low, le-leb n 1024 few, le-leb (gamma + 1) (length bank) (omega (arith, b.there)), le-leb (gamma + 1) 65 (omega arith), b.in_range_lem)

    bank_clear : (bank : List Float) (depth : ℕ) → Bank bank depth → AllClear (bank_values bank depth n gamma)
    bank_clear bank depth b = expected_clear (bank_values bank depth n gamma) (bank_taken bank depth gamma n 65 (bank_passes bank depth b))

    pub mean_clear : (model : AcceptanceModel) (positions bank : List Float) (depth : ℕ) → model_refusal model positions ≡ 0 → (is_trace model ≡ true → Bank bank depth)
        → AllClear (mean_expected model positions bank depth n gamma)
    mean_clear (Constant alpha) positions bank depth j b = values_clear (Constant alpha) positions j
    mean_clear PerPosition positions bank depth j b = values_clear PerPosition positions j
    mean_clear Trace positions bank depth j b = bank_clear bank depth (b refl)
