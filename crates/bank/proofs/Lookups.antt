-- What a lookup in a bank's curve answers, where the sizes are a bank's. Assumes nothing.
use mathlib.Core.Path.{◌≡◌, ap, ◌∙◌}
use mathlib.Core.Bool.{true, false, ◌&&◌}
use mathlib.Core.List.{List}
use Prim.Native.Nat.{ℕ, min, ◌≤◌, ◌<◌}
use borrow.Author.Tests.{lt-ltb, le-ltb, le-leb, lt-leb}
use lib.Dec.{leb, ltb}
use lib.ListN.{length, get_or}
use lib.Ieee.{Float, nan}
use Rattle.std.specs.Prelude.{Ok, Err}
use Rattle.laws.proofs.Both.{and_false}
use Rattle.refusals.specs.declared.Refusal.TheVariants.{Size, Input, ShortBuffer}
use Rattle.refusals.specs.Refusals.{Judgement, and_then}
use Rattle.decimals.proofs.Outcomes.{above_zero}
use Rattle.float.specs.Floats.{f0}
use Rattle.float.specs.Range.{in_range}
use Rattle.bank.specs.Acceptance.{most_accepted, sizes_judged, entry_of, curve_entry, expected_accepted}

pub sizes_fit : (depth gamma : ℕ) → (depth ≡ 0 → ⊥) → depth ≤ 64 → gamma ≤ 64 → Ok tt ≡ sizes_judged depth gamma
unfolding sizes_judged
sizes_fit depth gamma n h k = rw (lt-ltb 0 depth (above_zero depth n), le-leb depth 64 h, le-leb gamma 64 k)

pub no_depth : (depth gamma : ℕ) → depth ≡ 0 → Err Size ≡ sizes_judged depth gamma
unfolding sizes_judged
no_depth depth gamma e = rw e

pub deep : (depth gamma : ℕ) → 64 < depth → Err Size ≡ sizes_judged depth gamma
unfolding sizes_judged
deep depth gamma h = rw (lt-leb depth 64 h, and_false (ltb 0 depth))

pub far : (depth gamma : ℕ) → 64 < gamma → Err Size ≡ sizes_judged depth gamma
unfolding sizes_judged
far depth gamma h = rw (lt-leb gamma 64 h, and_false (ltb 0 depth && leb depth 64))

module _ (curve : List Float) (depth gamma : ℕ) (fits : Ok tt ≡ sizes_judged depth gamma) (g : ℕ) (k : g ≡ min gamma depth) where
  entry : curve_entry curve g ≡ expected_accepted curve depth gamma
  unfolding expected_accepted
  entry = ap (curve_entry curve) k ∙ ap (λ (j : Judgement). and_then j (curve_entry curve (min gamma depth))) fits

  pub too_short : length curve ≤ g → Err ShortBuffer ≡ expected_accepted curve depth gamma
  unfolding curve_entry
  too_short h = (rw (le-ltb g (length curve) h)) ∙ entry

  there : g < length curve → entry_of (get_or curve g nan) ≡ expected_accepted curve depth gamma
  unfolding curve_entry
  there h = (rw (lt-ltb g (length curve) h)) ∙ entry

  pub in_the_range : g < length curve → in_range f0 most_accepted (get_or curve g nan) ≡ true → Ok (get_or curve g nan) ≡ expected_accepted curve depth gamma
  unfolding entry_of
  in_the_range h r = (rw r) ∙ there h

  pub out_of_range : g < length curve → in_range f0 most_accepted (get_or curve g nan) ≡ false → Err Input ≡ expected_accepted curve depth gamma
  unfolding entry_of
  out_of_range h r = (rw r) ∙ there h
