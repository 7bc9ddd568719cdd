-- What each depth is worth in a list of its own: each worth, the fold over them, and that its best is the rules' loop's. Assumes nothing.
use mathlib.Core.Path.{◌≡◌, refl, sym, ◌∙◌, ap}
use mathlib.Core.Bool.{Bool, true, false, cond, ◌&&◌}
use mathlib.Core.List.{List, [], ◌∷◌}
use Prim.Native.Nat.{ℕ, suc, ◌+◌, ◌≤◌, ◌<◌}
use native.Mathlib.Omega.{arith}
use lib.ListN.{length, drop, get_or, drop_of_length-le}
use lib.Seq.{drop-cons}
use lib.Ieee.{Float, nan, inf, fin, lt, is_nan, add}
use Rattle.float.specs.Floats.{plus, over, whole, max_of, is_finite}
use Rattle.float.proofs.Order.{nan_not_above}
use Rattle.float.proofs.Classes.{clash}
use Rattle.speculative.specs.declared.drafter.Rates.{Rates}
use Rattle.speculative.specs.declared.drafter.DrafterCost.{DrafterCost}
use Rattle.speculative.specs.Drafter.{drafter_seconds}
use Rattle.depths.specs.declared.inner.Best.{Best}
use Rattle.depths.specs.Goodput.{tiny, goodput_of, weigh, best_from}
use Rattle.depths.specs.Pricing.{total_cost, costs_from}
use Rattle.depths.specs.Worths.{worth_of, raise, raised_from, worths_from, seconds_at}
use Rattle.chains.specs.Scan.{scan}

-- ---- one worth
-- a finite cost is no NaN, so that `max` is one test
finite_max : (c : Float) → is_finite c ≡ true → max_of c tiny ≡ cond (lt c tiny) tiny c
unfolding max_of is_finite is_nan
finite_max nan h = clash h
finite_max (inf s) h = clash h
finite_max (fin s m e) h = refl

pub worth_finite : (n : ℕ) (e c d : Float) → d ≡ cond (lt c tiny) tiny c → is_finite c ≡ true → over (plus e (whole n)) d ≡ worth_of n e c
worth_finite n e c d p h =
    ap (over (plus e (whole n))) (p ∙ sym (finite_max c h)) ∙ sym (ap (λ (b : Bool). cond b (goodput_of n e c) nan) h)

pub worth_none : (n : ℕ) (e c : Float) → is_finite c ≡ false → nan ≡ worth_of n e c
worth_none n e c h = sym (ap (λ (b : Bool). cond b (goodput_of n e c) nan) h)

pub drafted : (n : ℕ) (e v x y r : Float) → x ≡ y → r ≡ worth_of n e (plus v x) → r ≡ worth_of n e (plus v y)
drafted n e v x y r q p = p ∙ ap (λ (z : Float). worth_of n e (plus v z)) q

-- ---- the fold over what is left of a list
pub raised_next : (from g : ℕ) (b : Best) (ws : List Float) → g < length ws
    → raised_from (suc (from + g)) (raise b (from + g) (get_or ws g nan)) (drop (suc g) ws) ≡ raised_from (from + g) b (drop g ws)
unfolding raised_from
raised_next from g b ws h = sym (rw (drop-cons ws g nan))

pub raised_ended : (g k : ℕ) (b : Best) (ws : List Float) → length ws ≤ g → raised_from k b (drop g ws) ≡ b
unfolding raised_from
raised_ended g k b ws h = rw (drop_of_length-le ws h)

-- ---- the best of the list is what the rules' loop ends with
-- a cost that is not finite is passed over, and a NaN wins against nothing
weigh_same : (n : ℕ) (b : Best) (g : ℕ) (e c : Float) → weigh n b g e c ≡ raise b g (worth_of n e c)
weigh_same n b g e c = go (is_finite c)
  where
    go : (z : Bool) → cond (z && lt b.worth (goodput_of n e c)) (record { depth = g; worth = goodput_of n e c }) b ≡ raise b g (cond z (goodput_of n e c) nan)
    go true = refl
    go false = sym (ap (λ (z : Bool). cond z (record { depth = g; worth = nan }) b) (nan_not_above b.worth))

-- nothing added makes it finite
still_none : (v x : Float) → is_finite v ≡ false → is_finite (plus v x) ≡ false
unfolding add is_finite
still_none nan x h = refl
still_none (inf true) nan h = refl
still_none (inf true) (inf true) h = refl
still_none (inf true) (inf false) h = refl
still_none (inf true) (fin t k d) h = refl
still_none (inf false) nan h = refl
still_none (inf false) (inf true) h = refl
still_none (inf false) (inf false) h = refl
still_none (inf false) (fin t k d) h = refl
still_none (fin s m e) x h = clash (sym h)

weigh_added : (n : ℕ) (b : Best) (g : ℕ) (e v x : Float) → weigh n b g e (cond (is_finite v) (plus v x) v) ≡ raise b g (worth_of n e (plus v x))
weigh_added n b g e v x = go (is_finite v) refl ∙ weigh_same n b g e (plus v x)
  where
    passed : (c : Float) → is_finite c ≡ false → weigh n b g e c ≡ b
    passed c h = ap (λ (z : Bool). cond (z && lt b.worth (goodput_of n e c)) (record { depth = g; worth = goodput_of n e c }) b) h

    go : (z : Bool) → is_finite v ≡ z → weigh n b g e (cond z (plus v x) v) ≡ weigh n b g e (plus v x)
    go true h = refl
    go false h = passed v h ∙ sym (passed (plus v x) (still_none v x h))

none_left : (n g : ℕ) (b : Best) (es : List Float) → best_from n g b es [] ≡ b
unfolding best_from
none_left n g b [] = refl
none_left n g b (e ∷ es) = refl

module _ (kind : DrafterCost) (n : ℕ) (rates : Rates) (loaded : Float) (es : List Float) where
  pub best_raised : (g : ℕ) (b : Best) (curve : List Float) → g + length curve ≤ length es
      → best_from n g b (drop g es) (costs_from kind n rates loaded g curve) ≡ raised_from g b (worths_from n es (seconds_at kind n rates loaded) g curve)
  unfolding best_from raised_from scan total_cost
  best_raised g b [] h = none_left n g b (drop g es)
  best_raised g b (v ∷ curve) h =
      let e = get_or es g nan in
      let cs = costs_from kind n rates loaded (suc g) curve in
      ap (λ (l : List Float). best_from n g b l (total_cost kind n rates loaded g v ∷ cs)) (drop-cons es g nan (omega arith))
      ∙ ap (λ (m : Best). best_from n (suc g) m (drop (suc g) es) cs) (weigh_added n b g e v (drafter_seconds kind g n rates v loaded))
      ∙ best_raised (suc g) (raise b g (worth_of n e (plus v (drafter_seconds kind g n rates v loaded)))) curve (omega arith)
