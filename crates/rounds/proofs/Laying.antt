-- Laws of chains laid one after the other, 64 slots each. Assumes nothing.
use mathlib.Core.Path.{◌≡◌, refl, sym, ap, ◌∙◌, subst}
use mathlib.Core.Bool.{Bool, true, ◌&&◌}
use mathlib.Core.List.{List, [], ◌++◌}
use Prim.Native.Nat.{ℕ, suc, ◌+◌, ◌-◌, ◌*◌, ◌≤◌, ◌<◌}
use native.Mathlib.Omega.{arith}
use lib.ListN.{length, get_or, take, drop, replicate, length-append, length-replicate, length-take, drop_of_length-le}
use lib.Seq.{sets, length-sets, take_at}
use lib.Ieee.{Float}
use Rattle.laws.proofs.Lists.{next}
use Rattle.float.specs.Floats.{f0, f1, is_finite}
use Rattle.acceptance.specs.declared.AcceptanceModel.{AcceptanceModel}
use Rattle.chains.specs.Tests.{all_of}
use Rattle.chains.specs.Survival.{survive, products, survival_chain}
use Rattle.chains.proofs.Fill.{length_scan}
use Rattle.rounds.specs.Signals.{slots, Zeros, values_from, model_chain, same_chains, confidences, are_finite, round_chain, round_chains}
use Rattle.rounds.proofs.Parts.{values_length}
use Rattle.rounds.proofs.Laid.{stored_more}
use Rattle.rounds.proofs.Blanks.{Blank, blank_all, blank_stored, front_stored}

-- ---- a chain has 64 slots
pub slots_length : (xs : List Float) → length xs ≤ 64 → length (slots xs) ≡ 64
slots_length xs h = length-append xs (replicate (64 - length xs) f0) ∙ ap (λ (n : ℕ). length xs + n) (length-replicate (64 - length xs) f0) ∙ omega arith

products_length : (signal : List Float) (gamma : ℕ) → gamma ≤ 64 → length signal ≡ 64 → length (products f1 (take gamma signal)) ≡ gamma
products_length signal gamma h l =
    let t : length (take gamma signal) ≡ gamma = simp length-take (omega arith) in
    length_scan survive survive f1 (take gamma signal) ∙ t

pub chain_length : (signal : List Float) (gamma : ℕ) → gamma ≤ 64 → length signal ≡ 64 → length (survival_chain signal gamma) ≡ 64
unfolding survival_chain
chain_length signal gamma h l =
    let p : length (products f1 (take gamma signal)) ≡ gamma = products_length signal gamma h l in
    length-append (products f1 (take gamma signal)) (replicate (64 - gamma) f0) ∙ omega (arith, p, length-replicate (64 - gamma) f0)

-- its first slots, and 0.0 past them
chain_front : (signal : List Float) (gamma : ℕ) → gamma ≤ 64 → length signal ≡ 64
    → survival_chain signal gamma ≡ products f1 (take gamma signal) ++ replicate (64 - length (products f1 (take gamma signal))) f0
unfolding survival_chain
chain_front signal gamma h l = ap (λ (n : ℕ). products f1 (take gamma signal) ++ replicate (64 - n) f0) (sym (products_length signal gamma h l))

chain_parts : (signal chain : List Float) (gamma : ℕ) → gamma ≤ 64 → length signal ≡ 64 → chain ≡ survival_chain signal gamma
    → chain ≡ take gamma chain ++ replicate (64 - length (take gamma chain)) f0
unfolding survival_chain
chain_parts signal chain gamma h l e =
    let p : length (products f1 (take gamma signal)) ≡ gamma = products_length signal gamma h l in
    let f : take gamma chain ≡ products f1 (take gamma signal) = ap (take gamma) e ∙ take_at (products f1 (take gamma signal)) (replicate (64 - gamma) f0) gamma p in
    e ∙ chain_front signal gamma h l ∙ ap (λ (x : List Float). x ++ replicate (64 - length x) f0) (sym f)

-- ---- chains that are laid over 0.0: k are, and `rest` is to come
pub record Laying (all chains₀ chains : List Float) (k : ℕ) (rest : List Float) : Type 0 where
  pub long : length chains ≡ length chains₀
  pub is : sets chains₀ 0 all ≡ sets chains (k * 64) rest
  pub blank : Blank chains (k * 64)

pub laying_begins : (all chains : List Float) → Zeros chains → Laying all chains chains 0 all
laying_begins all chains z = record { long = refl; is = refl; blank = blank_all chains z }

module _ (all chains₀ chains : List Float) (k : ℕ) where
  -- the first slots of a chain are stored
  pub laying_next : (front rest chains' : List Float) → length front ≤ 64 → k * 64 + 64 ≤ length chains → chains' ≡ sets chains (k * 64) front
      → Laying all chains₀ chains k ((front ++ replicate (64 - length front) f0) ++ rest) → Laying all chains₀ chains' (k + 1) rest
  laying_next front rest chains' l r e s =
      let chain = front ++ replicate (64 - length front) f0 in
      let m : length chain ≡ 64 = slots_length front l in
      let n : k * 64 + length chain ≡ (k + 1) * 64 = omega arith in
      let f : chains' ≡ sets chains (k * 64) chain = e ∙ sym (front_stored front chains (k * 64) l r s.blank) in
      let b : Blank (sets chains (k * 64) chain) (k * 64 + length chain) = blank_stored chain chains (k * 64) (omega arith) s.blank in
      record {
        long = ap length f ∙ length-sets chains (k * 64) chain ∙ s.long;
        is = s.is ∙ stored_more chain rest chains (k * 64) ∙ ap (λ (i : ℕ). sets (sets chains (k * 64) chain) i rest) n ∙ ap (λ (c : List Float). sets c ((k + 1) * 64) rest) (sym f);
        blank = subst (λ (c : List Float). Blank c ((k + 1) * 64)) (sym f) (subst (Blank (sets chains (k * 64) chain)) n b);
      }

  pub laying_is : (rest rest' : List Float) → rest ≡ rest' → Laying all chains₀ chains k rest → Laying all chains₀ chains k rest'
  laying_is rest rest' e s = record { long = s.long; is = s.is ∙ ap (sets chains (k * 64)) e; blank = s.blank }

  pub laying_ends : (rest : List Float) → rest ≡ [] → Laying all chains₀ chains k rest → chains ≡ sets chains₀ 0 all
  laying_ends rest e s = sym (s.is ∙ ap (sets chains (k * 64)) e)

-- ---- the same chain for each of n sequences
pub same_next : (chain : List Float) (n k : ℕ) → k < n → same_chains chain (n - k) ≡ chain ++ same_chains chain (n - (k + 1))
unfolding same_chains
same_next chain n k h = let e : n - k ≡ suc (n - (k + 1)) = omega arith in ap (same_chains chain) e

pub same_ends : (chain : List Float) (n k : ℕ) → n ≤ k → same_chains chain (n - k) ≡ []
unfolding same_chains
same_ends chain n k h = let e : n - k ≡ 0 = omega arith in ap (same_chains chain) e

pub same_all : (chain : List Float) (n : ℕ) → same_chains chain n ≡ same_chains chain (n - 0)
same_all chain n = let e : n ≡ n - 0 = omega arith in ap (same_chains chain) e

-- ---- the chain of a model
module _ (model : AcceptanceModel) (positions : List Float) (gamma : ℕ) (chain : List Float) (h : gamma ≤ 64) (e : chain ≡ model_chain model positions gamma) where
  signal_length : length (slots (values_from model positions 0 gamma)) ≡ 64
  signal_length = slots_length (values_from model positions 0 gamma) (omega (arith, values_length model positions 0 gamma))

  pub model_length : length chain ≡ 64
  model_length = ap length e ∙ chain_length (slots (values_from model positions 0 gamma)) gamma h signal_length

  pub model_parts : chain ≡ take gamma chain ++ replicate (64 - length (take gamma chain)) f0
  model_parts = chain_parts (slots (values_from model positions 0 gamma)) chain gamma h signal_length e

-- ---- the rounds of a bank, from sequence k on
module _ (signals : List Float) (depth gamma : ℕ) (indices : List ℕ) where
  pub rounds_next : (k : ℕ) → k < length indices
      → round_chains signals depth gamma (drop k indices) ≡ round_chain signals depth gamma (get_or indices k 0) ++ round_chains signals depth gamma (drop (k + 1) indices)
  unfolding round_chains
  rounds_next k h = ap (round_chains signals depth gamma) (next indices k 0 h)

  pub rounds_end : (k : ℕ) → length indices ≤ k → round_chains signals depth gamma (drop k indices) ≡ []
  unfolding round_chains
  rounds_end k h = ap (round_chains signals depth gamma) (drop_of_length-le indices h)

  pub finite_next : (k : ℕ) (z : Bool) → k < length indices → all_of is_finite (confidences signals depth gamma (get_or indices k 0)) ≡ z
      → are_finite signals depth gamma (drop k indices) ≡ (z && are_finite signals depth gamma (drop (k + 1) indices))
  unfolding are_finite
  finite_next k z h e = ap (are_finite signals depth gamma) (next indices k 0 h) ∙ ap (λ (b : Bool). b && are_finite signals depth gamma (drop (k + 1) indices)) e

  pub finite_end : (k : ℕ) → length indices ≤ k → are_finite signals depth gamma (drop k indices) ≡ true
  unfolding are_finite
  finite_end k h = ap (are_finite signals depth gamma) (drop_of_length-le indices h)

  pub confidences_few : (i : ℕ) → length (confidences signals depth gamma i) ≤ gamma
  confidences_few i = simp length-take (omega arith)

  pub round_length : (i : ℕ) → gamma ≤ 64 → length (round_chain signals depth gamma i) ≡ 64
  round_length i h = chain_length (slots (confidences signals depth gamma i)) gamma h (slots_length (confidences signals depth gamma i) (omega (arith, confidences_few i)))

  -- its first slots, and 0.0 past them
  pub round_front : (i : ℕ) (c : List Float) → gamma ≤ 64 → c ≡ confidences signals depth gamma i
      → round_chain signals depth gamma i ≡ products f1 (take gamma (slots c)) ++ replicate (64 - length (products f1 (take gamma (slots c)))) f0
  round_front i c h e =
      let l : length c ≤ 64 = omega (arith, ap length e, confidences_few i) in
      ap (λ (x : List Float). survival_chain (slots x) gamma) (sym e) ∙ chain_front (slots c) gamma h (slots_length c l)

  pub front_few : (c : List Float) → gamma ≤ 64 → length (products f1 (take gamma (slots c))) ≤ 64
  front_few c h =
      let t : length (take gamma (slots c)) ≤ gamma = simp length-take (omega arith) in
      omega (arith, length_scan survive survive f1 (take gamma (slots c)), t)
