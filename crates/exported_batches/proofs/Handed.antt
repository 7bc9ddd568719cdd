-- A figure out of a list, by whether there is such a place; and answers with the buffers that a call left. Assumes nothing.
use mathlib.Core.Path.{◌≡◌, ap, ◌∙◌}
use mathlib.Core.List.{List}
use Prim.Native.Nat.{ℕ, ◌≤◌, ◌<◌}
use native.Mathlib.Omega.{arith}
use borrow.Author.Tests.{lt-ltb, le-ltb}
use lib.ListN.{length, take, get_or, length-take}
use lib.Ieee.{Float, nan, binary64, to_bits}
use Rattle.std.specs.Prelude.{Result}
use Rattle.refusals.specs.declared.Refusal.{Refusal}
use Rattle.refusals.specs.Refusals.{Judgement}
use Rattle.goodput.specs.declared.survival.Survival.{Survival}
use Rattle.goodput.specs.Expected.{Left as Values, answer_number}
use Rattle.speculative.specs.declared.drafter.DrafterCost.{DrafterCost}
use Rattle.speculative.specs.declared.drafter.Rates.{Rates}
use Rattle.verify_prices.specs.declared.PriceMode.{PriceMode}
use Rattle.gates.specs.Entry.{Left}
use Rattle.exported.specs.declared.Told.{Told}
use Rattle.exported.specs.Telling.{told}
use Rattle.exported_costs.proofs.Handed.{asked_of}
use Rattle.exported_batches.specs.Answers.{prices_told, survival_told, gated_told, values_left, widths_left}

module _ (at : ℕ) (prices : List Float) where
  pub price_there : (bits : ℕ) → (r : Told) → r ≡ told 0 (length prices) bits → bits ≡ to_bits binary64 (get_or prices at nan) → at < length prices → r ≡ prices_told at prices
  unfolding prices_told
  price_there bits r t b h = rw (lt-ltb at (length prices) h) (t ∙ ap (told 0 (length prices)) b)

  pub price_nowhere : (r : Told) → r ≡ told 0 (length prices) 0 → length prices ≤ at → r ≡ prices_told at prices
  unfolding prices_told
  price_nowhere r t h = rw (le-ltb at (length prices) h) t

module _ (at : ℕ) (found asked : Survival) where
  pub slot_there : (bits : ℕ) → found ≡ asked → bits ≡ to_bits binary64 (get_or found.chain at nan) → at < 64 → told found.refusal bits 0 ≡ survival_told at asked
  unfolding survival_told
  slot_there bits e b h = rw (lt-ltb at 64 h, ← e) (ap (λ (x : ℕ). told found.refusal x 0) b)

  pub slot_nowhere : (r : Told) → found ≡ asked → r ≡ told found.refusal 0 0 → 64 ≤ at → r ≡ survival_told at asked
  unfolding survival_told
  slot_nowhere r e t h = rw (le-ltb at 64 h, ← e) t

-- at most 64 are taken
pub front_short : (signal front : List Float) → front ≡ take 64 signal → length front ≤ 64
front_short signal front e = rw e (simp length-take (omega arith))

abbrev left_of : List Float → ℕ → ℕ × List Float
left_of out r = (r, out)

pub values_handed : (r : ℕ) → (x : Judgement) → (out : List Float) → (o : Values) → r ≡ answer_number x → record { answer = x; out = out } ≡ o → (r, out) ≡ values_left o
values_handed r x out o h e = ap (left_of out) h ∙ ap values_left e

abbrev told_of : List ℕ → Told → Told × List ℕ
told_of widths r = (r, widths)

pub widths_handed : (r : Told) → (x : Result ℕ Refusal) → (widths : List ℕ) → (o : Left) → r ≡ gated_told x → record { answer = x; widths = widths } ≡ o → (r, widths) ≡ widths_left o
widths_handed r x widths o h e = ap (told_of widths) h ∙ ap widths_left e

-- a gate for a drafter, rates and a mode that are known
pub gated_as : (f : DrafterCost → Rates → PriceMode → Left) → {x : Left} {d d' : DrafterCost} {s s' : Rates} {m m' : PriceMode} → x ≡ f d s m → d ≡ d' → s ≡ s' → m ≡ m' → x ≡ f d' s' m'
gated_as f {d' = d'} {s' = s'} {m = m} e p q h = asked_of (λ (k : DrafterCost). λ (t : Rates). f k t m) e p q ∙ ap (f d' s') h
