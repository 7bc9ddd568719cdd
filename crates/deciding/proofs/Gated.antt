-- A gate gives each sequence one width, none above its chain's length. Assumes nothing.
use mathlib.Core.Path.{◌≡◌, refl, ◌∙◌}
use mathlib.Core.List.{List}
use Prim.Native.Nat.{ℕ, zero, suc, ◌+◌, ◌-◌, ◌*◌, ◌≤◌, ◌<◌}
use native.Mathlib.Omega.{arith}
use lib.Dec.{eqb}
use lib.Ieee.{Float, nan}
use lib.ListN.{length, get_or, length-set, replicate, length-replicate, get_or-replicate}
use Rattle.laws.proofs.Choices.{either}
use Rattle.speculative.specs.Drafter.{is_block, still_drafting}
use Rattle.speculative.specs.declared.drafter.Rates.{Rates}
use Rattle.speculative.specs.declared.drafter.DrafterCost.{DrafterCost}
use Rattle.verdict.specs.Decision.{Sums, slot_at, removal_under}
use Rattle.verify_prices.specs.Rule.{Rule, rule_of}
use Rattle.verify_prices.specs.declared.PriceMode.{PriceMode}
use Rattle.slots.specs.Slots.{starts, up_to, down_from, stacks, sum, survival}
use Rattle.slots.specs.Gate.{Chosen}
use Rattle.slots.proofs.Stacked.{starts_length, sum_starts}
use Rattle.block.specs.Block.{add_slot, block_from, block_widths, block_gate}
use Rattle.trim.specs.Ragged.{margin_of, full_draft, drop_slot, pass_of, ragged_widths, ragged_gate}
use Rattle.gates_laws.proofs.Widths.{Under, under_lengths, greedy_keeps, block_weighed, block_widths_lem, ragged_weighed, ragged_widths_lem}
use Rattle.gating.specs.Chains.{gate_at}

-- ---- a width for each sequence

module _ (price : Float → Float) (chains : List Float) where
  from_each : (depth : ℕ) (sums : Sums) (lengths : List ℕ) → length (block_from price chains depth sums lengths).widths ≡ length lengths
  unfolding block_from add_slot
  from_each depth sums lengths =
      greedy_keeps (λ a k r. slot_at price a.sums (survival chains k (get_or a.widths k 0))) (λ w. w + 1)
      (λ ws s. length ws ≡ length lengths) (λ ws. length ws ≡ length lengths) (λ ws s p. p) (λ ws s k r e p. simp length-set p) (λ ws s k p. p)
      (record { sums = sums; widths = replicate (length lengths) 0 }) (stacks up_to (starts depth lengths) chains) (length-replicate {A = ℕ} (length lengths) 0)

module _ (rule : Rule) (chains : List Float) where
  block_each : (lengths : List ℕ) (curve : List Float) (depth : ℕ) (kind : DrafterCost) (rates : Rates) (loaded : List Float)
      → length (block_gate rule chains lengths curve depth kind rates loaded).widths ≡ length lengths
  unfolding block_gate block_widths
  block_each lengths curve depth kind rates loaded =
      either {A = Chosen} (eqb depth 0) (λ g. length g.widths ≡ length lengths) _ _ (length-replicate {A = ℕ} (length lengths) 0)
      (either {A = Chosen} (rule.shut (get_or curve 0 nan)) (λ g. length g.widths ≡ length lengths) _ _ (starts_length depth lengths) (from_each rule.price chains depth _ lengths))

  trimmed_each : (pass : ℕ → Float) (depth : ℕ) (ws : List ℕ) → length (ragged_widths pass rule chains depth ws).widths ≡ length ws
  unfolding ragged_widths drop_slot full_draft
  trimmed_each pass depth ws =
      greedy_keeps
      (λ a k r. removal_under rule a.sums (survival chains k (get_or a.widths k 0 - 1)) (margin_of pass (still_drafting a.widths (get_or a.widths k 0))))
      (λ w. w - 1) (λ vs s. length vs ≡ length ws) (λ vs. length vs ≡ length ws) (λ vs s p. p) (λ vs s k r e p. simp length-set p) (λ vs s k p. p)
      (full_draft pass chains depth ws) (stacks down_from ws chains) refl

  ragged_each : (lengths : List ℕ) (depth : ℕ) (kind : DrafterCost) (rates : Rates) (loaded : List Float)
      → length (ragged_gate rule chains lengths depth kind rates loaded).widths ≡ length lengths
  unfolding ragged_gate
  ragged_each lengths depth kind rates loaded =
      either {A = Chosen} (eqb depth 0) (λ g. length g.widths ≡ length lengths) _ _ (length-replicate {A = ℕ} (length lengths) 0)
      (trimmed_each (pass_of kind rates loaded) depth (starts depth lengths) ∙ starts_length depth lengths)

-- ---- of chains that are all as long as gamma

pub record Narrow (n gamma : ℕ) (ws : List ℕ) : Type 0 where
  pub count : length ws ≡ n
  pub each : (k : ℕ) → k < n → get_or ws k 0 ≤ gamma

sum_equal : (gamma n : ℕ) → sum (replicate n gamma) ≡ n * gamma
sum_equal gamma zero = omega arith
sum_equal gamma (suc n) = omega (arith, sum_equal gamma n)

module _ (n gamma : ℕ) where
  narrow : (depth : ℕ) (ws : List ℕ) → length ws ≡ length (replicate n gamma) → Under (starts depth (replicate n gamma)) ws → Narrow n gamma ws
  narrow depth ws e h = record {
    count = e ∙ length-replicate n gamma;
    each = λ k l. omega (arith, under_lengths depth (replicate n gamma) ws h k (omega (arith, length-replicate n gamma)), get_or-replicate n k gamma 0 l);
  }

  pub gate_narrow : (mode : PriceMode) (kind : DrafterCost) (rates : Rates) (loaded curve chains : List Float) (depth : ℕ) → Narrow n gamma (gate_at mode kind rates loaded curve n gamma chains depth).widths
  gate_narrow mode kind rates loaded curve chains depth =
      let rule : Rule = rule_of mode curve n in
      let lengths : List ℕ = replicate n gamma in
      either {A = Chosen} (is_block kind) (λ g. Narrow n gamma g.widths) (block_gate rule chains lengths curve depth kind rates loaded) (ragged_gate rule chains lengths depth kind rates loaded)
      (narrow depth _ (block_each rule chains lengths curve depth kind rates loaded) (block_widths_lem rule chains lengths curve depth kind rates loaded))
      (narrow depth _ (ragged_each rule chains lengths depth kind rates loaded) (ragged_widths_lem rule chains lengths depth kind rates loaded))

  -- no more slots are weighed than the chains have
  pub gate_weighed : (mode : PriceMode) (kind : DrafterCost) (rates : Rates) (loaded curve chains : List Float) (depth : ℕ) → (gate_at mode kind rates loaded curve n gamma chains depth).weighed ≤ n * gamma
  gate_weighed mode kind rates loaded curve chains depth =
      let rule : Rule = rule_of mode curve n in
      let lengths : List ℕ = replicate n gamma in
      either {A = Chosen} (is_block kind) (λ g. g.weighed ≤ n * gamma) (block_gate rule chains lengths curve depth kind rates loaded) (ragged_gate rule chains lengths depth kind rates loaded)
      (omega (arith, block_weighed rule chains lengths curve depth kind rates loaded, sum_starts depth lengths, sum_equal gamma n))
      (omega (arith, ragged_weighed rule chains lengths depth kind rates loaded, sum_starts depth lengths, sum_equal gamma n))

pub equal_narrow : (n w : ℕ) → Narrow n w (replicate n w)
equal_narrow n w = record { count = length-replicate n w; each = λ k l. omega (arith, get_or-replicate n k w 0 l) }
