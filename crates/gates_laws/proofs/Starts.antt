-- The ragged gate over sums that start from minus zero, as the Rust's do, answers what the definition does: the tokens of a sequence are 1 or more, no pass
-- is minus zero, and survivals that are all minus zero are added to n. Assumes nothing.
use mathlib.Core.Path.{◌≡◌, refl, sym, ap, ◌∙◌}
use mathlib.Core.Logic.{◌⊎◌, inl, inr}
use mathlib.Core.Bool.{Bool, true, false, ◌&&◌, cond}
use mathlib.Core.List.{List, [], ◌∷◌}
use Prim.Native.Nat.{ℕ, zero, suc, ◌+◌, ◌≤◌, min}
use native.Mathlib.Omega.{arith}
use lib.Dec.{leb, eqb}
use lib.ListN.{length, take, drop, replicate}
use lib.Ieee.{Float, binary64, of_bits}
use Rattle.laws.proofs.Both.{both}
use Rattle.float.specs.Floats.{plus, times, over, f0, f1, f2, whole, is_clear}
use Rattle.float.specs.Range.{in_range}
use Rattle.float.proofs.Ranges.{range_clear}
use Rattle.speculative.specs.Drafter.{still_drafting, with_experts, head_pass, pass_seconds, loaded_at, is_count, is_params, is_drafter, is_streamed, quintillion}
use Rattle.speculative.specs.declared.drafter.Rates.{Rates}
use Rattle.speculative.specs.declared.drafter.DrafterCost.{DrafterCost}
use Rattle.speculative.specs.declared.drafter.DrafterCost.TheVariants.{Fraction, Autoregressive, BlockParallel}
use Rattle.chains.specs.Tests.{all_of, is_survival}
use Rattle.chains.specs.Expected.{are_chains}
use Rattle.depth_laws.proofs.Clear.{no_sign, clear_no_sign, whole_clear, add_no_sign, mul_no_sign, div_no_sign, max_no_sign}
use Rattle.verify_prices.specs.Rule.{Rule}
use Rattle.heap.specs.Greedy.{Verdict, run, greedy}
use Rattle.slots.specs.Slots.{starts, down_from, stacks}
use Rattle.slots.specs.Gate.{State, chosen_by}
use Rattle.slots.proofs.Stacked.{starts_length}
use Rattle.trim.specs.Ragged.{sum_from, survivals_from, tokens_from, passes_of, full_draft, drop_slot, pass_of, ragged_widths, ragged_gate}
use Rattle.trim.proofs.Adding.{still_few}
use Rattle.gates_laws.specs.Starts.{minus_zero, survivals_over, passes_over, draft_over, ragged_over}
use Rattle.gates_laws.proofs.Signs.{Alike, zeros, plus_left, plus_right, with_sum, with_chain}

-- ---- survivals
fewer : (chain : List Float) (j k : ℕ) → j ≤ k → all_of is_survival (take k chain) ≡ true → all_of is_survival (take j chain) ≡ true
unfolding all_of
fewer chain zero k l h = refl
fewer [] (suc j) k l h = refl
fewer (x ∷ chain) (suc j) zero l h = absurd (omega arith)
fewer (x ∷ chain) (suc j) (suc k) l h =
    let u = both (is_survival x) (all_of is_survival (take k chain)) h in
    rw u.0 (fewer chain j k (omega arith) u.1)

survivals_alike :
    (gamma depth : ℕ) → depth ≤ gamma → (lengths : List ℕ) (c : List Float) (a b : Float) → are_chains gamma lengths c ≡ true → Alike a b
    → Alike (survivals_over minus_zero a (starts depth lengths) c) (survivals_from b (starts depth lengths) c)
unfolding are_chains survivals_over survivals_from
survivals_alike gamma depth l [] c a b h at = at
survivals_alike gamma depth l (n ∷ lengths) c a b h at =
    let u = both (leb n 64 && all_of is_survival (take (min gamma n) c)) (are_chains gamma lengths (drop 64 c)) h in
    let v = both (leb n 64) (all_of is_survival (take (min gamma n) c)) u.0 in
    let one = with_chain (take (min depth n) c) minus_zero f0 (fewer c (min depth n) (min gamma n) (omega arith) v.1) zeros in
    survivals_alike gamma depth l lengths (drop 64 c) _ _ u.1 (with_sum a b (sum_from minus_zero (take (min depth n) c)) (sum_from f0 (take (min depth n) c)) at one)

expected_same : (n : ℕ) (x y : Float) → Alike x y → plus (whole n) x ≡ plus (whole n) y
expected_same n x y at = go at.same
  where
    go : ((x ≡ y) ⊎ ((x ≡ minus_zero) × (y ≡ f0))) → plus (whole n) x ≡ plus (whole n) y
    go (inl e) = ap (plus (whole n)) e
    go (inr e) = ap (plus (whole n)) e.0 ∙ plus_right (whole n) (whole_clear n) ∙ ap (plus (whole n)) (sym e.1)

-- ---- tokens
tokens_same : (w : ℕ) (ws : List ℕ) → tokens_from minus_zero (w ∷ ws) ≡ tokens_from f0 (w ∷ ws)
unfolding tokens_from
tokens_same w ws = ap (λ (t : Float). tokens_from t ws) (plus_left (whole (w + 1)) (clear_no_sign (whole (w + 1)) (whole_clear (w + 1))))

-- ---- passes
module _ (pass : ℕ → Float) (ws : List ℕ) (plain : (m : ℕ) → m ≤ length ws → no_sign (pass m) ≡ true) where
  passes_same : (d : ℕ) → passes_over minus_zero pass ws (suc d) ≡ passes_of pass ws (suc d)
  unfolding passes_over passes_of
  passes_same zero = plus_left (pass (still_drafting ws 1)) (plain (still_drafting ws 1) (still_few ws 1))
  passes_same (suc d) = ap (λ (t : Float). plus t (pass (still_drafting ws (suc (suc d))))) (passes_same d)

-- ---- the whole draft, of one sequence or more and one pass or more
module _ (pass : ℕ → Float) (chains : List Float) (gamma d : ℕ) (deep : suc d ≤ gamma) where
  pub draft_same :
      (n : ℕ) (lengths : List ℕ) → ((m : ℕ) → m ≤ length (n ∷ lengths) → no_sign (pass m) ≡ true) → are_chains gamma (n ∷ lengths) chains ≡ true
      → draft_over minus_zero pass chains (suc d) (starts (suc d) (n ∷ lengths)) ≡ full_draft pass chains (suc d) (starts (suc d) (n ∷ lengths))
  unfolding draft_over full_draft
  draft_same n lengths plain h =
      let ws = starts (suc d) (n ∷ lengths) in
      let e = expected_same (length ws) _ _ (survivals_alike gamma (suc d) deep (n ∷ lengths) chains minus_zero f0 h zeros) in
      let t = tokens_same (min (suc d) n) (starts (suc d) lengths) in
      let p = passes_same pass ws (λ m l. plain m (omega (arith, starts_length (suc d) (n ∷ lengths)))) d in
      cc

-- ---- no pass is minus zero
abbrev N : Float → Type 0
N x = no_sign x ≡ true

range_plain : (low high x : Float) → in_range low high x ≡ true → N x
range_plain low high x h = clear_no_sign x (range_clear low high x h)

whole_plain : (n : ℕ) → N (whole n)
whole_plain n = clear_no_sign (whole n) (whole_clear n)

zero_plain : N f0
unfolding no_sign of_bits
zero_plain = refl

two_plain : N f2
unfolding no_sign of_bits
two_plain = refl

module _ (rates : Rates) (streamed : is_streamed rates ≡ true) where
  head_plain : (dense expert : Float) (k shared : ℕ) (b loaded : Float) → N dense → N expert → N b → N loaded → N (head_pass dense expert k shared b rates loaded)
  unfolding head_pass
  head_plain dense expert k shared b loaded d e h l =
      let r = both (in_range f1 quintillion rates.peak) (in_range f1 quintillion rates.bw) streamed in
      let with_experts_lem : (x : Float) → N x → N (with_experts dense expert x) = λ x p. add_no_sign binary64 dense (times x expert) d (mul_no_sign binary64 x expert p e) in
      let active = with_experts dense expert (plus (whole k) (whole shared)) in
      let resident = with_experts dense expert (plus (whole shared) loaded) in
      let p : N active = with_experts_lem _ (add_no_sign binary64 (whole k) (whole shared) (whole_plain k) (whole_plain shared)) in
      let q : N resident = with_experts_lem _ (add_no_sign binary64 (whole shared) loaded (whole_plain shared) l) in
      max_no_sign (over (times (times f2 active) b) rates.peak) (over (times f2 resident) rates.bw)
      (div_no_sign binary64 (times (times f2 active) b) rates.peak (mul_no_sign binary64 (times f2 active) b (mul_no_sign binary64 f2 active two_plain p) h) (range_plain f1 quintillion rates.peak r.0))
      (div_no_sign binary64 (times f2 resident) rates.bw (mul_no_sign binary64 f2 resident two_plain q) (range_plain f1 quintillion rates.bw r.1))

  pass_plain : (kind : DrafterCost) (m : ℕ) (loaded : Float) → is_drafter kind ≡ true → N loaded → N (pass_seconds kind m rates loaded)
  pass_plain (Fraction frac) m loaded d l = zero_plain
  pass_plain (BlockParallel params block) m loaded d l = zero_plain
  pass_plain (Autoregressive dense expert experts k shared) m loaded d l = go (eqb m 0)
    where
      go : (b : Bool) → N (cond b f0 (times (whole 1) (head_pass dense expert k shared (whole m) rates loaded)))
      go true = zero_plain
      go false =
          let e = (both (is_count shared) (is_params dense && is_params expert) (both (is_count k) (is_count shared && (is_params dense && is_params expert)) (both (is_count experts) (is_count k && (is_count shared && (is_params dense && is_params expert))) d).1).1).1 in
          let f = both (is_params dense) (is_params expert) e in
          mul_no_sign binary64 (whole 1) (head_pass dense expert k shared (whole m) rates loaded) (whole_plain 1)
          (head_plain dense expert k shared (whole m) loaded (range_plain f0 quintillion dense f.0) (range_plain f0 quintillion expert f.1) (whole_plain m) l)

-- ---- the gate
no_sequence : (weigh : State → ℕ → ℕ → Verdict State) (a : State) → a.widths ≡ [] → chosen_by (greedy weigh a []) ≡ record { widths = []; weighed = 0 }
unfolding greedy run
no_sequence weigh a e = ap (λ (ws : List ℕ). record { widths = ws; weighed = 0 }) e

over_none : (pass : ℕ → Float) (chains : List Float) (d : ℕ) → (draft_over minus_zero pass chains (suc d) []).widths ≡ []
unfolding draft_over
over_none pass chains d = refl

full_none : (pass : ℕ → Float) (chains : List Float) (d : ℕ) → (full_draft pass chains (suc d) []).widths ≡ []
unfolding full_draft
full_none pass chains d = refl

module _ (rule : Rule) (chains : List Float) (kind : DrafterCost) (rates : Rates) (loaded : List Float) (drafter : is_drafter kind ≡ true) (streamed : is_streamed rates ≡ true) where
  none_alike :
      (d : ℕ) → let pass = pass_of kind rates loaded in chosen_by (greedy (drop_slot pass rule chains) (draft_over minus_zero pass chains (suc d) []) (stacks down_from [] chains)) ≡ chosen_by (greedy (drop_slot pass rule chains) (full_draft pass chains (suc d) []) (stacks down_from [] chains))
  unfolding stacks
  none_alike d =
      let pass = pass_of kind rates loaded in
      no_sequence (drop_slot pass rule chains) (draft_over minus_zero pass chains (suc d) []) (over_none pass chains d)
      ∙ sym (no_sequence (drop_slot pass rule chains) (full_draft pass chains (suc d) []) (full_none pass chains d))

  -- whether its sums start from zero or, as the Rust's, from minus zero, shows nowhere in the gate
  pub starts_alike :
      (gamma depth : ℕ) (lengths : List ℕ) → depth ≤ gamma → are_chains gamma lengths chains ≡ true
      → ((m : ℕ) → m ≤ length lengths → is_clear (loaded_at kind loaded m) ≡ true)
      → ragged_over minus_zero rule chains lengths depth kind rates loaded ≡ ragged_gate rule chains lengths depth kind rates loaded
  unfolding ragged_over ragged_gate ragged_widths
  starts_alike gamma zero lengths l h c = refl
  starts_alike gamma (suc d) [] l h c = ap (cond (eqb (suc d) 0) (record { widths = []; weighed = 0 })) (none_alike d)
  starts_alike gamma (suc d) (n ∷ lengths) l h c =
      let pass = pass_of kind rates loaded in
      let plain : (m : ℕ) → m ≤ length (n ∷ lengths) → N (pass m) = λ m k. pass_plain rates streamed kind m (loaded_at kind loaded m) drafter (clear_no_sign (loaded_at kind loaded m) (c m k)) in
      ap (λ (a : State). cond (eqb (suc d) 0) (record { widths = replicate (length (n ∷ lengths)) 0; weighed = 0 }) (chosen_by (greedy (drop_slot pass rule chains) a (stacks down_from (starts (suc d) (n ∷ lengths)) chains))))
      (draft_same pass chains gamma d l n lengths plain h)
