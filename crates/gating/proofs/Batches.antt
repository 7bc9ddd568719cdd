-- The chains of a batch as they are laid, and what the gates make of chains that are all as long as gamma. Assumes nothing.
use Prim.Native.Nat.{ℕ, zero, suc, ◌+◌, ◌-◌, ◌*◌, ◌≤◌}
use mathlib.Core.Path.{◌≡◌, refl, sym, ap, ◌∙◌}
use mathlib.Core.Bool.{Bool, true, false, cond}
use mathlib.Core.List.{List, [], ◌∷◌}
use native.Mathlib.Nat.{not-suc-le-zero, le_of_suc-le-suc}
use native.Mathlib.Omega.{arith}
use lib.ListN.{length, take, get_or, replicate, length-append, length-replicate, get_or-replicate}
use lib.Seq.{sets, sets-eq, take_at, length-take-le}
use lib.Ieee.{Float}
use Rattle.float.specs.Floats.{f0}
use Rattle.acceptance.specs.declared.AcceptanceModel.{AcceptanceModel}
use Rattle.acceptance.specs.declared.AcceptanceModel.TheVariants.{Constant, PerPosition, Trace}
use Rattle.speculative.specs.Drafter.{is_block, loaded_at}
use Rattle.speculative.specs.declared.drafter.Rates.{Rates}
use Rattle.speculative.specs.declared.drafter.DrafterCost.{DrafterCost}
use Rattle.chains.specs.Expected.{AtMost, expected_over, Fits as Chained}
use Rattle.depths.specs.Pricing.{depth_over, gate_depth}
use Rattle.verify_prices.specs.Rule.{rule_of}
use Rattle.verify_prices.specs.declared.PriceMode.{PriceMode}
use Rattle.slots.specs.Slots.{Fits}
use Rattle.slots.specs.Gate.{Chosen}
use Rattle.block.specs.Block.{block_gate}
use Rattle.trim.specs.Ragged.{ragged_gate}
use Rattle.settings.specs.Settings.{is_trace}
use Rattle.rounds.specs.Signals.{slots, Zeros, values_from, model_chain, same_chains, round_chain, round_chains}
use Rattle.rounds.proofs.Parts.{values_length}
use Rattle.rounds.proofs.Laying.{slots_length, chain_length, round_length}
use Rattle.gating.specs.Chains.{chains_by, chains_expected, gate_at}
use Rattle.gating.specs.Batch.{gate_by, gate_over, gate_of}

pub take_same : (n m v : ℕ) → n ≤ m → take n (replicate m v) ≡ replicate n v
take_same zero m v h = refl
take_same (suc n) zero v h = absurd (not-suc-le-zero h)
take_same (suc n) (suc m) v h = ap (λ (l : List ℕ). v ∷ l) (take_same n m v (le_of_suc-le-suc h))

-- ---- how long the chains are
same_long : (chain : List Float) (n : ℕ) → length chain ≡ 64 → length (same_chains chain n) ≡ n * 64
unfolding same_chains
same_long chain zero h = refl
same_long chain (suc n) h = omega (arith, length-append chain (same_chains chain n), h, same_long chain n h)

model_long : (model : AcceptanceModel) (positions : List Float) (gamma n : ℕ) → gamma ≤ 64 → length (same_chains (model_chain model positions gamma) n) ≡ n * 64
model_long model positions gamma n h =
    let v = values_from model positions 0 gamma in
    same_long (model_chain model positions gamma) n (chain_length (slots v) gamma h (slots_length v (omega (arith, values_length model positions 0 gamma, h))))

rounds_long : (signals : List Float) (depth gamma : ℕ) (indices : List ℕ) → gamma ≤ 64 → length (round_chains signals depth gamma indices) ≡ length indices * 64
unfolding round_chains
rounds_long signals depth gamma [] h = refl
rounds_long signals depth gamma (i ∷ is) h =
    omega (arith, length-append (round_chain signals depth gamma i) (round_chains signals depth gamma is), round_length signals depth gamma (i ∷ is) i h, rounds_long signals depth gamma is h)

pub chains_long : (model : AcceptanceModel) (positions signals : List Float) (depth : ℕ) (indices : List ℕ) (n gamma : ℕ)
    → gamma ≤ 64 → (is_trace model ≡ true → n ≤ length indices) → length (chains_by model positions signals depth indices n gamma) ≡ n * 64
chains_long (Constant alpha) positions signals depth indices n gamma h k = model_long (Constant alpha) positions gamma n h
chains_long PerPosition positions signals depth indices n gamma h k = model_long PerPosition positions gamma n h
chains_long Trace positions signals depth indices n gamma h k =
    rounds_long signals depth gamma (take n indices) h ∙ ap (λ (m : ℕ). m * 64) (length-take-le n indices (k refl))

-- values stored at the front of a buffer stand there
pub laid_front : (old cs : List Float) (m : ℕ) → length cs ≡ m → m ≤ length old → take m (sets old 0 cs) ≡ cs
laid_front old cs m e h = ap (take m) (sets-eq cs old 0 (omega arith)) ∙ take_at cs _ m e

-- ---- lengths that are all gamma
module _ (lengths : List ℕ) (n gamma : ℕ) (L : lengths ≡ replicate n gamma) where
  pub many : length lengths ≡ n
  many = ap length L ∙ length-replicate n gamma

  narrow : gamma ≤ 64 → AtMost 64 lengths
  narrow h k l = omega (arith, ap (λ (ls : List ℕ). get_or ls k 0) L, get_or-replicate n k gamma 0 (omega (arith, many, l)), h)

  pub chained : (chains : List Float) → n * 64 ≤ length chains → n ≤ 1024 → gamma ≤ 64 → Chained chains lengths
  chained chains r f h = record { room = omega (arith, r, many); few = omega (arith, f, many); narrow = narrow h }

  pub fitting : (chains : List Float) → n * 64 ≤ length chains → n ≤ 1024 → gamma ≤ 64 → Fits chains lengths (length lengths)
  fitting chains r f h = record { room = omega (arith, r, many); count = refl; few = omega (arith, f, many); narrow = narrow h }

  -- what the calls gave
  module _ (mode : PriceMode) (kind : DrafterCost) (rates : Rates) (loaded curve chains : List Float) (C : length curve ≡ gamma + 1) where
    depth_is : gate_depth kind rates (loaded_at kind loaded (length lengths)) lengths chains curve ≡ depth_over kind n rates (loaded_at kind loaded n) (chains_expected n gamma chains) curve
    unfolding gate_depth
    depth_is =
        let g : gamma + 1 - 1 ≡ gamma = omega arith in
        ap (λ (m : ℕ). depth_over kind m rates (loaded_at kind loaded m) (take (length curve) (expected_over (length curve - 1) lengths chains)) curve) many
        ∙ ap (λ (ls : List ℕ). depth_over kind n rates (loaded_at kind loaded n) (take (length curve) (expected_over (length curve - 1) ls chains)) curve) L
        ∙ ap (λ (m : ℕ). depth_over kind n rates (loaded_at kind loaded n) (take m (expected_over (m - 1) (replicate n gamma) chains)) curve) C
        ∙ ap (λ (m : ℕ). depth_over kind n rates (loaded_at kind loaded n) (take (gamma + 1) (expected_over m (replicate n gamma) chains)) curve) g

    gate_is : (depth : ℕ) → gate_of mode kind rates loaded curve lengths chains depth ≡ gate_at mode kind rates loaded curve n gamma chains depth
    gate_is depth =
        ap (λ (m : ℕ). cond (is_block kind) (block_gate (rule_of mode curve m) chains lengths curve depth kind rates loaded) (ragged_gate (rule_of mode curve m) chains lengths depth kind rates loaded)) many
        ∙ ap (λ (ls : List ℕ). cond (is_block kind) (block_gate (rule_of mode curve n) chains ls curve depth kind rates loaded) (ragged_gate (rule_of mode curve n) chains ls depth kind rates loaded)) L

    module _ (x : Float) (depth : ℕ) (X : x ≡ loaded_at kind loaded (length lengths)) (D : depth ≡ gate_depth kind rates x lengths chains curve) (own : Bool) where
      deep : depth ≡ depth_over kind n rates (loaded_at kind loaded n) (chains_expected n gamma chains) curve
      deep = D ∙ ap (λ (y : Float). gate_depth kind rates y lengths chains curve) X ∙ depth_is

      to_gate : (c : Chosen) (drafts : List ℕ) → c ≡ gate_of mode kind rates loaded curve lengths chains depth → gate_by own depth c drafts ≡ gate_over own mode kind rates loaded curve n gamma chains drafts
      unfolding gate_over
      to_gate c drafts e =
          ap (λ (q : Chosen). gate_by own depth q drafts) (e ∙ gate_is depth)
          ∙ ap (λ (d : ℕ). gate_by own d (gate_at mode kind rates loaded curve n gamma chains d) drafts) deep

      pub own_drafts : (weighed : ℕ) (widths drafts : List ℕ) → own ≡ true → record { widths = widths; weighed = weighed } ≡ gate_of mode kind rates loaded curve lengths chains depth
          → record { depth = depth; weighed = weighed; drafts = widths } ≡ gate_over own mode kind rates loaded curve n gamma chains drafts
      own_drafts weighed widths drafts o e =
          ap (λ (b : Bool). gate_by b depth (record { widths = widths; weighed = weighed }) drafts) (sym o) ∙ to_gate (record { widths = widths; weighed = weighed }) drafts e

      pub no_drafts : (drafts : List ℕ) → own ≡ false → record { depth = depth; weighed = 0; drafts = drafts } ≡ gate_over own mode kind rates loaded curve n gamma chains drafts
      no_drafts drafts o =
          let c = gate_of mode kind rates loaded curve lengths chains depth in
          ap (λ (b : Bool). gate_by b depth c drafts) (sym o) ∙ to_gate c drafts refl

-- an array of one value
pub all_same : (m v : ℕ) → replicate m v ≡ replicate (length (replicate m v)) v
all_same m v = ap (λ (k : ℕ). replicate k v) (sym (length-replicate m v))

-- in an array that is new
pub all_zeros : (n : ℕ) → Zeros (replicate n f0)
all_zeros zero i = refl
all_zeros (suc n) zero = refl
all_zeros (suc n) (suc i) = all_zeros n i

pub front_long : (m : ℕ) (l : List Float) → m ≤ length l → m ≤ length (take m l)
front_long m l h = omega (arith, length-take-le m l h)
