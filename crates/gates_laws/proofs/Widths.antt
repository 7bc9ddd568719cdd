-- What holds of either gate under any pricing rule: no more slots are weighed than the chains have up to the batch's depth, and no width is above its
-- chain's length, nor above the depth. The ragged gate starts from these widths, so it only lowers them. Assumes nothing.
use Prim.Native.Nat.{ℕ, zero, suc, ◌+◌, ◌-◌, ◌*◌, ◌≤◌, ◌<◌}
use mathlib.Core.Path.{◌≡◌, refl, sym, ap, ◌∙◌}
use mathlib.Core.List.{List, []}
use mathlib.Core.Option.{some}
use native.Mathlib.Decide.{ℕ_discrete}
use native.Mathlib.Omega.{arith}
use lib.Dec.{eqb}
use lib.ListN.{get_or, set, length, drop, length-set, replicate, length-replicate, get_or-replicate, get_or-map}
use lib.Seq.{get_or-set_same, get_or-set_other}
use lib.Ieee.{Float, nan}
use Rattle.laws.proofs.Choices.{either}
use Rattle.speculative.specs.Drafter.{still_drafting}
use Rattle.speculative.specs.declared.drafter.Rates.{Rates}
use Rattle.speculative.specs.declared.drafter.DrafterCost.{DrafterCost}
use Rattle.heap.specs.Frontier.{Choice, nobody, chosen, next}
use Rattle.heap.specs.Greedy as greedily
use Rattle.heap.specs.Greedy.{Stacks, head_of, tail_of, frontier, total, Outcome, afterwards, upon, run, greedy}
use Rattle.heap.proofs.Next.{next_first}
use Rattle.heap.proofs.Steps.{on_head, greedy_bounded}
use Rattle.verify_prices.specs.Rule.{Rule}
use Rattle.verdict.specs.Decision.{Sums, Decision, passed, stopped, taken, slot_at, removal_under}
use Rattle.slots.specs.Slots.{starts, sum, up_to, down_from, stacks, survival}
use Rattle.slots.specs.Gate.{State, judged, Chosen}
use Rattle.block.specs.Block.{add_slot, block_from, block_widths, block_gate}
use Rattle.trim.specs.Ragged.{margin_of, full_draft, drop_slot, pass_of, ragged_widths, ragged_gate}
use Rattle.slots.proofs.Stacked.{stacks_length, stacks_at, stacks_total, starts_length, starts_at, up_short, down_short}

-- no width of ws is above that of `caps`
abbrev pub Under : List ℕ → List ℕ → Type 0
Under caps ws = (k : ℕ) → k < length caps → get_or ws k 0 ≤ get_or caps k 0

pub under_lengths : (depth : ℕ) (lengths ws : List ℕ) → Under (starts depth lengths) ws → Under lengths ws
under_lengths depth lengths ws h k l = omega (arith, h k (omega (arith, starts_length depth lengths)), starts_at depth lengths k l)

pub under_depth : (depth : ℕ) (lengths ws : List ℕ) → Under (starts depth lengths) ws → (k : ℕ) → k < length lengths → get_or ws k 0 ≤ depth
under_depth depth lengths ws h k l = omega (arith, h k (omega (arith, starts_length depth lengths)), starts_at depth lengths k l)

under_zeros : (caps : List ℕ) (n : ℕ) → length caps ≡ n → Under caps (replicate n 0)
under_zeros caps n e k l = omega (arith, get_or-replicate {A = ℕ} n k 0 0 (omega arith))

-- ---- what a gate keeps of its widths and stacks: `new` is what becomes of a width
module _ (decide : State → ℕ → ℕ → Decision) (new : ℕ → ℕ) (P : List ℕ → Stacks → Type 0) (Q : List ℕ → Type 0)
    (ends : (ws : List ℕ) (s : Stacks) → P ws s → Q ws)
    (takes_keeps : (ws : List ℕ) (s : Stacks) (k r : ℕ) → next (frontier s) ≡ chosen k r → P ws s → P (set ws k (new (get_or ws k 0))) (set s k (tail_of (get_or s k []))))
    (leaves_keeps : (ws : List ℕ) (s : Stacks) (k : ℕ) → P ws s → P ws (set s k [])) where
  abbrev weigh : State → ℕ → ℕ → greedily.Verdict State
  weigh a k r = judged a k (new (get_or a.widths k 0)) (decide a k r)

  after_keeps :
      (go : State → Stacks → ℕ → Outcome State) (a : State) (s : Stacks) (w k r : ℕ) → next (frontier s) ≡ chosen k r
      → ((a : State) (s : Stacks) → P a.widths s → Q (go a s (w + 1)).state.widths) → P a.widths s → (v : Decision)
      → Q (afterwards go s w k (judged a k (new (get_or a.widths k 0)) v)).state.widths
  after_keeps go a s w k r e h p passed = h a (set s k []) (leaves_keeps a.widths s k p)
  after_keeps go a s w k r e h p stopped = ends a.widths s p
  after_keeps go a s w k r e h p (taken t) =
      h (record { sums = t; widths = set a.widths k (new (get_or a.widths k 0)) }) (set s k (tail_of (get_or s k []))) (takes_keeps a.widths s k r e p)

  upon_keeps :
      (go : State → Stacks → ℕ → Outcome State) (a : State) (s : Stacks) (w : ℕ) (c : Choice) → next (frontier s) ≡ c
      → ((a : State) (s : Stacks) → P a.widths s → Q (go a s (w + 1)).state.widths) → P a.widths s → Q (upon weigh go a s w c).state.widths
  upon_keeps go a s w nobody e h p = ends a.widths s p
  upon_keeps go a s w (chosen k r) e h p = after_keeps go a s w k r e h p (decide a k r)

  run_keeps : (fuel : ℕ) (a : State) (s : Stacks) (w : ℕ) → P a.widths s → Q (run weigh fuel a s w).state.widths
  unfolding run
  run_keeps zero a s w p = ends a.widths s p
  run_keeps (suc fuel) a s w p = upon_keeps (run weigh fuel) a s w (next (frontier s)) refl (λ a' s' q. run_keeps fuel a' s' (w + 1) q) p

  pub greedy_keeps : (a : State) (s : Stacks) → P a.widths s → Q (greedy weigh a s).state.widths
  unfolding greedy
  greedy_keeps a s p = run_keeps (total s) a s 0 p

-- ---- the block gate: what is taken and what is left of a stack are no more than the chain had
pub record Shared (caps ws : List ℕ) (s : Stacks) : Type 0 where
  pub long : length ws ≡ length caps
  pub stacked : length s ≡ length caps
  pub each : (k : ℕ) → k < length caps → get_or ws k 0 + length (get_or s k []) ≤ get_or caps k 0

shared_ends : (caps ws : List ℕ) (s : Stacks) → Shared caps ws s → Under caps ws
shared_ends caps ws s p k l = omega (arith, p.each k l)

shared_leaves : (caps ws : List ℕ) (s : Stacks) (j : ℕ) → Shared caps ws s → Shared caps ws (set s j [])
shared_leaves caps ws s j p = record { long = p.long; stacked = simp length-set p.stacked; each = λ k l. pick k l (ℕ_discrete k j) }
  where
    pick : (k : ℕ) → k < length caps → Dec (k ≡ j) → get_or ws k 0 + length (get_or (set s j []) k []) ≤ get_or caps k 0
    pick k l (yes e) =
        let z : get_or (set s j []) k [] ≡ [] = ap (λ (i : ℕ). get_or (set s j []) i []) e ∙ get_or-set_same s j [] [] (omega (arith, p.stacked)) in
        omega (arith, p.each k l, ap length z)
    pick k l (no n) = rw (get_or-set_other s j k [] [] n) (p.each k l)

pub shared_takes :
    (caps ws : List ℕ) (s : Stacks) (j r : ℕ) → next (frontier s) ≡ chosen j r → Shared caps ws s
    → Shared caps (set ws j (get_or ws j 0 + 1)) (set s j (tail_of (get_or s j [])))
shared_takes caps ws s j r e p = record { long = simp length-set p.long; stacked = simp length-set p.stacked; each = λ k l. pick k l (ℕ_discrete k j) }
  where
    own : head_of (get_or s j []) ≡ some r
    own = sym (get_or-map head_of s j []) ∙ (next_first (frontier s) j r e).own

    pick : (k : ℕ) → k < length caps → Dec (k ≡ j) → get_or (set ws j (get_or ws j 0 + 1)) k 0 + length (get_or (set s j (tail_of (get_or s j []))) k []) ≤ get_or caps k 0
    pick k l (yes q) =
        let l' : j < length caps = omega arith in
        rw (q, get_or-set_same ws j (get_or ws j 0 + 1) 0 (omega (arith, p.long)), get_or-set_same s j (tail_of (get_or s j [])) [] (omega (arith, p.stacked)))
        (omega (arith, p.each j l', ap length (on_head (get_or s j []) r own)))
    pick k l (no n) = rw (get_or-set_other ws j k (get_or ws j 0 + 1) 0 n, get_or-set_other s j k (tail_of (get_or s j [])) [] n) (p.each k l)

pub shared_starts : (caps : List ℕ) (c : List Float) → Shared caps (replicate (length caps) 0) (stacks up_to caps c)
shared_starts caps c = record {
  long = length-replicate {A = ℕ} (length caps) 0;
  stacked = stacks_length up_to caps c;
  each = λ k l. omega (arith, get_or-replicate {A = ℕ} (length caps) k 0 0 l, ap length (stacks_at up_to caps c k l), up_short (get_or caps k 0) (drop (k * 64) c));
}

module _ (price : Float → Float) (chains : List Float) where
  from_under : (depth : ℕ) (sums : Sums) (lengths : List ℕ) → Under (starts depth lengths) (block_from price chains depth sums lengths).widths
  unfolding block_from add_slot
  from_under depth sums lengths =
      let caps = starts depth lengths in
      greedy_keeps (λ a k r. slot_at price a.sums (survival chains k (get_or a.widths k 0))) (λ w. w + 1) (Shared caps) (Under caps) (shared_ends caps) (shared_takes caps)
      (shared_leaves caps) (record { sums = sums; widths = replicate (length lengths) 0 }) (stacks up_to caps chains) (rw (starts_length depth lengths) at (shared_starts caps chains))

  from_few : (depth : ℕ) (sums : Sums) (lengths : List ℕ) → (block_from price chains depth sums lengths).weighed ≤ sum (starts depth lengths)
  unfolding block_from
  from_few depth sums lengths =
      omega
      (arith, greedy_bounded (add_slot price chains) (record { sums = sums; widths = replicate (length lengths) 0 }) (stacks up_to (starts depth lengths) chains), stacks_total up_to (starts depth lengths) chains up_short)

module _ (rule : Rule) (chains : List Float) (lengths : List ℕ) (curve : List Float) (depth : ℕ) (kind : DrafterCost) (rates : Rates) (loaded : List Float) where
  pub block_weighed : (block_gate rule chains lengths curve depth kind rates loaded).weighed ≤ sum (starts depth lengths)
  unfolding block_gate block_widths
  block_weighed =
      either {A = Chosen} (eqb depth 0) (λ g. g.weighed ≤ sum (starts depth lengths)) _ _ (omega arith)
      (either {A = Chosen} (rule.shut (get_or curve 0 nan)) (λ g. g.weighed ≤ sum (starts depth lengths)) _ _ (omega arith) (from_few rule.price chains depth _ lengths))

  pub block_widths_lem : Under (starts depth lengths) (block_gate rule chains lengths curve depth kind rates loaded).widths
  unfolding block_gate block_widths
  block_widths_lem =
      either {A = Chosen} (eqb depth 0) (λ g. Under (starts depth lengths) g.widths) _ _ (under_zeros (starts depth lengths) (length lengths) (starts_length depth lengths))
      (either {A = Chosen} (rule.shut (get_or curve 0 nan)) (λ g. Under (starts depth lengths) g.widths) _ _ (λ k l. omega arith) (from_under rule.price chains depth _ lengths))

-- ---- the ragged gate: widths only fall
module _ (caps : List ℕ) where
  abbrev Fallen : List ℕ → Stacks → Type 0
  Fallen ws s = (length ws ≡ length caps) × Under caps ws

  fallen_takes : (ws : List ℕ) (s : Stacks) (j r : ℕ) → next (frontier s) ≡ chosen j r → Fallen ws s → Fallen (set ws j (get_or ws j 0 - 1)) (set s j (tail_of (get_or s j [])))
  fallen_takes ws s j r e p = (simp length-set p.0, λ k l. pick k l (ℕ_discrete k j))
    where
      pick : (k : ℕ) → k < length caps → Dec (k ≡ j) → get_or (set ws j (get_or ws j 0 - 1)) k 0 ≤ get_or caps k 0
      pick k l (yes q) =
          let l' : j < length caps = omega arith in
          rw (q, get_or-set_same ws j (get_or ws j 0 - 1) 0 (omega (arith, p.0))) (omega (arith, p.1 j l'))
      pick k l (no n) = rw (get_or-set_other ws j k (get_or ws j 0 - 1) 0 n) (p.1 k l)

module _ (pass : ℕ → Float) (rule : Rule) (chains : List Float) where
  trimmed_under : (depth : ℕ) (ws : List ℕ) → Under ws (ragged_widths pass rule chains depth ws).widths
  unfolding ragged_widths drop_slot full_draft
  trimmed_under depth ws =
      greedy_keeps
      (λ a k r. removal_under rule a.sums (survival chains k (get_or a.widths k 0 - 1)) (margin_of pass (still_drafting a.widths (get_or a.widths k 0))))
      (λ w. w - 1) (Fallen ws) (Under ws) (λ v s p. p.1) (fallen_takes ws) (λ v s k p. p) (full_draft pass chains depth ws) (stacks down_from ws chains)
      (refl, λ k l. omega arith)

  trimmed_few : (depth : ℕ) (ws : List ℕ) → (ragged_widths pass rule chains depth ws).weighed ≤ sum ws
  unfolding ragged_widths
  trimmed_few depth ws =
      omega (arith, greedy_bounded (drop_slot pass rule chains) (full_draft pass chains depth ws) (stacks down_from ws chains), stacks_total down_from ws chains down_short)

module _ (rule : Rule) (chains : List Float) (lengths : List ℕ) (depth : ℕ) (kind : DrafterCost) (rates : Rates) (loaded : List Float) where
  pub ragged_weighed : (ragged_gate rule chains lengths depth kind rates loaded).weighed ≤ sum (starts depth lengths)
  unfolding ragged_gate
  ragged_weighed = either {A = Chosen} (eqb depth 0) (λ g. g.weighed ≤ sum (starts depth lengths)) _ _ (omega arith) (trimmed_few (pass_of kind rates loaded) rule chains depth (starts depth lengths))

  pub ragged_widths_lem : Under (starts depth lengths) (ragged_gate rule chains lengths depth kind rates loaded).widths
  unfolding ragged_gate
  ragged_widths_lem =
      either {A = Chosen} (eqb depth 0) (λ g. Under (starts depth lengths) g.widths) _ _ (under_zeros (starts depth lengths) (length lengths) (starts_length depth lengths))
      (trimmed_under (pass_of kind rates loaded) rule chains depth (starts depth lengths))
