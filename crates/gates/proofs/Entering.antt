-- The ways out of the entry points, and what is known once nothing is refused. Assumes nothing.
use Prim.Native.Nat.{ℕ, zero, suc, ◌+◌, ◌≤◌, ◌<◌}
use mathlib.Core.Path.{◌≡◌, refl, sym, ap, ◌∙◌}
use mathlib.Core.Bool.{Bool, true, false, ◌&&◌, cond}
use mathlib.Core.List.{List, ◌++◌}
use native.Mathlib.Omega.{arith}
use borrow.Author.Tests.{leb-true}
use lib.Dec.{leb}
use lib.ListN.{length, take, drop}
use lib.Seq.{length-take-le}
use lib.Ieee.{Float}
use Rattle.std.specs.Prelude.{Result, Ok, Err}
use Rattle.float.proofs.Classes.{clash}
use Rattle.refusals.specs.declared.Refusal.{Refusal}
use Rattle.refusals.specs.declared.Refusal.TheVariants.{ShortBuffer}
use Rattle.refusals.specs.Refusals.{Judgement, passed_if, and_then}
use Rattle.refusals.proofs.First.{refused_is_no_answer, both_pass}
use Rattle.speculative.specs.Drafter.{loaded_at}
use Rattle.speculative.specs.declared.drafter.Rates.{Rates}
use Rattle.speculative.specs.declared.drafter.DrafterCost.{DrafterCost}
use Rattle.chains.specs.Tests.{all_of, is_price}
use Rattle.chains.specs.Expected.{are_chains, expected_over}
use Rattle.depths.specs.Goodput.{is_best, first_best, best_of}
use Rattle.depths.specs.Pricing.{costs_from}
use Rattle.goodput.specs.Depth.{aggregate_answer}
use Rattle.goodput_judges.specs.Refusals.{sizes_judged, aggregate_judged}
use Rattle.chains.proofs.Fill.{length_scan}
use Rattle.goodput_judges.proofs.Judges.{test_passed}
use Rattle.goodput_judges.proofs.Passed.{aggregate_passed}
use Rattle.goodput.proofs.Batches.{narrow}
use Rattle.slots.specs.Slots.{Fits}
use Rattle.slots.specs.Gate.{Chosen}
use Rattle.block.specs.Block.{block_gate}
use Rattle.trim.specs.Ragged.{ragged_gate}
use Rattle.verify_prices.specs.Rule.{rule_of}
use Rattle.verify_prices.specs.declared.PriceMode.{PriceMode}
use Rattle.gates.specs.Entry.{Left, room_judged, left_unless, depth_of, gate_judged, ragged_chosen, block_chosen, ragged_answer, block_answer, weighed_by}

-- where nothing is refused there is room
pub roomy : (kind : DrafterCost) (gamma n room : ℕ) → room_judged kind gamma n room ≡ Ok tt → n ≤ room
unfolding room_judged
roomy kind gamma n room e =
    leb-true n room (test_passed (leb n room) ShortBuffer (both_pass (sizes_judged kind gamma n) (passed_if (leb n room) ShortBuffer) e).1)

-- ---- the best depth is one of the curve's
either_low : (b : Bool) (x y D : ℕ) → x < D → y < D → cond b x y < D
either_low true x y D p q = p
either_low false x y D p q = q

first_low : (n : ℕ) (es cs : List Float) (k g D : ℕ) → g + k ≤ D → 0 < D → first_best n es cs k g < D
unfolding first_best
first_low n es cs zero g D h z = z
first_low n es cs (suc k) g D h z = either_low (is_best n es cs g) g (first_best n es cs k (suc g)) D (omega arith) (first_low n es cs k (suc g) D (omega arith) z)

best_low : (n : ℕ) (es cs : List Float) (D : ℕ) → length cs ≡ D → 0 < D → best_of n es cs < D
unfolding best_of
best_low n es cs D e z = first_low n es cs (length cs) 0 D (omega arith) z

-- ---- what the best depth answers
found : (a : Judgement) (g depth : ℕ) → ◌≡◌ {A = Result ℕ Refusal} (Ok depth) (and_then a (Ok g)) → (a ≡ Ok tt) × (depth ≡ g)
found (Ok tt) g depth e = (refl, ap weighed_by e)
found (Err r) g depth e = refused_is_no_answer r depth (sym e)

unfound : (a : Judgement) (g : ℕ) (r : Refusal) → ◌≡◌ {A = Result ℕ Refusal} (Err r) (and_then a (Ok g)) → a ≡ Err r
unfound (Ok tt) g r e = refused_is_no_answer r g e
unfound (Err q) g r e = cc

second : (a b : Bool) → (a && b) ≡ true → a ≡ true
second true b h = refl
second false b h = clash h

-- ---- from the judges and the best depth's answer to the entry point's
module _ (chains : List Float) (lengths : List ℕ) (curve : List Float) (gamma : ℕ) (kind : DrafterCost) (rates : Rates) (loaded : List Float) where
  abbrev judged : Judgement
  judged = aggregate_judged chains lengths curve gamma kind rates loaded

  -- nothing is refused
  pub record Entered (depth : ℕ) : Type 0 where
    pub none : aggregate_judged chains lengths curve gamma kind rates loaded ≡ Ok tt
    pub best : depth ≡ depth_of chains lengths curve gamma kind rates loaded
    pub fits : Fits chains lengths (length lengths)
    pub shallow : gamma ≤ 64
    pub priced : gamma + 1 ≤ length curve
    pub deep : depth < gamma + 1

  pub entered : (depth : ℕ) → Ok depth ≡ aggregate_answer chains lengths curve gamma kind rates loaded → Entered depth
  unfolding aggregate_answer
  entered depth e = go (found judged (depth_of chains lengths curve gamma kind rates loaded) depth e)
    where
      go : (judged ≡ Ok tt) × (depth ≡ depth_of chains lengths curve gamma kind rates loaded) → Entered depth
      go p =
          let n = length lengths in
          let x = aggregate_passed chains lengths curve gamma kind rates loaded p.0 in
          let cs = costs_from kind n rates (loaded_at kind loaded n) 0 (take (gamma + 1) curve) in
          let many : length cs ≡ gamma + 1 = length_scan _ _ 0 (take (gamma + 1) curve) ∙ length-take-le (gamma + 1) curve x.prices in
          let low = best_low n (take (gamma + 1) (expected_over gamma lengths chains)) cs (gamma + 1) many (omega arith) in
          record {
            none = p.0;
            best = p.1;
            fits = record {
              room = x.there;
              count = refl;
              few = x.sized.few;
              narrow = narrow gamma lengths chains (second (are_chains gamma lengths chains) (all_of is_price (take (gamma + 1) curve)) x.lent.in_range_lem);
            };
            shallow = x.sized.shallow;
            priced = x.prices;
            deep = omega (arith, low, p.1);
          }

  module _ (mode : PriceMode) (W : List ℕ) where
    abbrev roomed : Judgement
    roomed = room_judged kind gamma (length lengths) (length W)

    -- no room
    pub ragged_early : (r : Refusal) → roomed ≡ Err r → ◌≡◌ {A = Left} (record { answer = Err r; widths = W }) (ragged_answer chains lengths curve gamma kind rates loaded mode W)
    unfolding ragged_answer gate_judged
    ragged_early r e = rw e

    pub block_early : (r : Refusal) → roomed ≡ Err r → ◌≡◌ {A = Left} (record { answer = Err r; widths = W }) (block_answer chains lengths curve gamma kind rates loaded mode W)
    unfolding block_answer gate_judged
    block_early r e = rw e

    module _ (h : roomed ≡ Ok tt) where
      -- no best depth
      pub ragged_late : (r : Refusal) → Err r ≡ aggregate_answer chains lengths curve gamma kind rates loaded
          → ◌≡◌ {A = Left} (record { answer = Err r; widths = W }) (ragged_answer chains lengths curve gamma kind rates loaded mode W)
      unfolding ragged_answer gate_judged aggregate_answer
      ragged_late r e = let u = unfound judged (depth_of chains lengths curve gamma kind rates loaded) r e in rw (h, u)

      pub block_late : (r : Refusal) → Err r ≡ aggregate_answer chains lengths curve gamma kind rates loaded
          → ◌≡◌ {A = Left} (record { answer = Err r; widths = W }) (block_answer chains lengths curve gamma kind rates loaded mode W)
      unfolding block_answer gate_judged aggregate_answer
      block_late r e = let u = unfound judged (depth_of chains lengths curve gamma kind rates loaded) r e in rw (h, u)

      weighed : (w : ℕ) (after : List ℕ) (q : Chosen) → record { widths = after; weighed = w } ≡ q
          → ◌≡◌ {A = Left} (record { answer = Ok w; widths = after ++ drop (length lengths) W }) (left_unless (Ok tt) (length lengths) q W)
      weighed w after q p = ap (λ (x : Chosen). left_unless (Ok tt) (length lengths) x W) p

      module _ (depth w : ℕ) (after : List ℕ) (x : Entered depth) where
        pub ragged_weighed :
            record { widths = after; weighed = w } ≡ ragged_gate (rule_of mode (take (gamma + 1) curve) (length lengths)) chains lengths depth kind rates loaded
            → ◌≡◌ {A = Left} (record { answer = Ok w; widths = after ++ drop (length lengths) W }) (ragged_answer chains lengths curve gamma kind rates loaded mode W)
        unfolding ragged_answer ragged_chosen gate_judged
        ragged_weighed p =
            rw (h, x.none)
            (weighed w after (ragged_chosen chains lengths curve gamma kind rates loaded mode)
            (p ∙ ap (λ (d : ℕ). ragged_gate (rule_of mode (take (gamma + 1) curve) (length lengths)) chains lengths d kind rates loaded) x.best))

        pub block_weighed :
            record { widths = after; weighed = w } ≡ block_gate (rule_of mode (take (gamma + 1) curve) (length lengths)) chains lengths (take (gamma + 1) curve) depth kind rates loaded
            → ◌≡◌ {A = Left} (record { answer = Ok w; widths = after ++ drop (length lengths) W }) (block_answer chains lengths curve gamma kind rates loaded mode W)
        unfolding block_answer block_chosen gate_judged
        block_weighed p =
            rw (h, x.none)
            (weighed w after (block_chosen chains lengths curve gamma kind rates loaded mode)
            (p ∙ ap (λ (d : ℕ). block_gate (rule_of mode (take (gamma + 1) curve) (length lengths)) chains lengths (take (gamma + 1) curve) d kind rates loaded) x.best))
