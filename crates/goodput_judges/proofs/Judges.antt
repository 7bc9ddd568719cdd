-- What is refused of the drafter, the sizes and the inputs of a call. Assumes nothing.
use mathlib.Core.Path.{◌≡◌, refl, sym, ◌∙◌}
use mathlib.Core.Bool.{Bool, true, false, ◌&&◌}
use mathlib.Core.List.{List}
use Prim.Native.Nat.{ℕ, ◌≤◌}
use borrow.Author.Tests.{le-leb, leb-true}
use lib.Dec.{leb}
use lib.Ieee.{Float}
use Rattle.std.specs.Prelude.{Result, Ok, Err}
use Rattle.refusals.specs.declared.Refusal.{Refusal}
use Rattle.refusals.specs.declared.Refusal.TheVariants.{Size, Input}
use Rattle.refusals.specs.Refusals.{Judgement, passed_if, and_then}
use Rattle.refusals.proofs.First.{refused_is_no_pass, refused_is_no_answer, both_pass}
use Rattle.speculative.specs.Drafter.{drafter_judged, loaded_judged, is_streamed, inputs_judged, cost_judged, pass_seconds, loaded_at, draft_pass}
use Rattle.speculative.specs.declared.drafter.Rates.{Rates}
use Rattle.speculative.specs.declared.drafter.DrafterCost.{DrafterCost}
use Rattle.goodput_judges.specs.Refusals.{counts_judged, sizes_judged}

-- ---- a test that was passed
pub test_passed : (test : Bool) (r : Refusal) → passed_if test r ≡ Ok tt → test ≡ true
test_passed true r e = refl
test_passed false r e = refused_is_no_pass r e

pub both_tests : (a b : Bool) (r : Refusal) → passed_if (a && b) r ≡ Ok tt → (a ≡ true) × (b ≡ true)
both_tests true true r e = (refl, refl)
both_tests true false r e = refused_is_no_pass r e
both_tests false b r e = refused_is_no_pass r e

-- ---- the drafts and the sequences
pub record Counted (gamma n : ℕ) : Type 0 where
  pub shallow : gamma ≤ 64
  pub few : n ≤ 1024

pub counts_passed : (gamma n : ℕ) → counts_judged gamma n ≡ Ok tt → Counted gamma n
unfolding counts_judged
counts_passed gamma n e =
    let p = both_tests (leb gamma 64) (leb n 1024) Size e in
    record { shallow = leb-true gamma 64 p.0; few = leb-true n 1024 p.1 }

pub counts_few : (gamma n : ℕ) → counts_judged gamma n ≡ Ok tt → n ≤ 1024
counts_few gamma n e = (counts_passed gamma n e).few

-- ---- the drafter before them
pub record Sized (kind : DrafterCost) (gamma n : ℕ) : Type 0 where
  pub drafter : drafter_judged kind ≡ Ok tt
  pub shallow : gamma ≤ 64
  pub few : n ≤ 1024

pub sizes_passed : (kind : DrafterCost) (gamma n : ℕ) → sizes_judged kind gamma n ≡ Ok tt → Sized kind gamma n
unfolding sizes_judged
sizes_passed kind gamma n e =
    let p = both_pass (drafter_judged kind) (counts_judged gamma n) e in
    let q = counts_passed gamma n p.1 in
    record { drafter = p.0; shallow = q.shallow; few = q.few }

-- ---- the inputs, by what one pass answers
module _ (kind : DrafterCost) (n : ℕ) (rates : Rates) (valued : Bool) (loaded : List Float) (d : drafter_judged kind ≡ Ok tt) (few : n ≤ 1024) (a : Result Float Refusal) (e : a ≡ draft_pass kind n rates loaded) where
  abbrev seconds : Float
  seconds = pass_seconds kind n rates (loaded_at kind loaded n)

  pass_is : a ≡ and_then (inputs_judged kind n rates true loaded) (Ok seconds)
  unfolding draft_pass cost_judged
  pass_is = e ∙ rw (d, le-leb n 1024 few)

  pub inputs_refused : (r : Refusal) → a ≡ Err r → Err r ≡ inputs_judged kind n rates valued loaded
  unfolding inputs_judged
  inputs_refused r g = go (loaded_judged kind n loaded) (is_streamed rates) (sym pass_is ∙ g)
    where
      go : (l : Judgement) (s : Bool) → and_then (and_then l (passed_if (s && true) Input)) (Ok seconds) ≡ Err r → Err r ≡ and_then l (passed_if (s && valued) Input)
      go (Ok tt) true h = refused_is_no_answer r seconds (sym h)
      go (Ok tt) false h = cc
      go (Err q) s h = cc

  pub inputs_answered : (x : Float) → a ≡ Ok x → passed_if valued Input ≡ inputs_judged kind n rates valued loaded
  unfolding inputs_judged
  inputs_answered x g = go (loaded_judged kind n loaded) (is_streamed rates) (sym pass_is ∙ g)
    where
      go : (l : Judgement) (s : Bool) → and_then (and_then l (passed_if (s && true) Input)) (Ok seconds) ≡ Ok x → passed_if valued Input ≡ and_then l (passed_if (s && valued) Input)
      go (Ok tt) true h = refl
      go (Ok tt) false h = refused_is_no_answer Input x h
      go (Err q) s h = refused_is_no_answer q x h

-- where nothing is refused
pub record Lent (kind : DrafterCost) (n : ℕ) (rates : Rates) (valued : Bool) (loaded : List Float) : Type 0 where
  pub loads : loaded_judged kind n loaded ≡ Ok tt
  pub streamed : is_streamed rates ≡ true
  pub in_range_lem : valued ≡ true

pub inputs_passed : (kind : DrafterCost) (n : ℕ) (rates : Rates) (valued : Bool) (loaded : List Float) → inputs_judged kind n rates valued loaded ≡ Ok tt → Lent kind n rates valued loaded
unfolding inputs_judged
inputs_passed kind n rates valued loaded e =
    let p = both_pass (loaded_judged kind n loaded) (passed_if (is_streamed rates && valued) Input) e in
    let q = both_tests (is_streamed rates) valued Input p.1 in
    record { loads = p.0; streamed = q.0; in_range_lem = q.1 }
