-- The ways through the functions of `figures`. Assumes nothing.
use Prim.Native.Nat.{ℕ, ◌+◌, ◌*◌, ◌/◌, ◌^◌, ◌≤◌, ◌<◌, max}
use mathlib.Core.Path.{◌≡◌, sym, ap, ◌∙◌}
use mathlib.Core.Bool.{Bool, true, false, cond}
use mathlib.Core.List.{List, ◌++◌}
use borrow.Author.Tests.{lt-ltb, le-ltb}
use lib.Dec.{ltb}
use lib.Ieee.{Float, lt}
use Rattle.page.specs.Spelt.{spelt}
use Rattle.page.specs.Numbers.{decimal, six_decimals, bar}
use Rattle.figures.specs.Figures.{limit, too_large, out_of_range, millionths, percent, mean_text, mean_bar, no_share, share_text, zero_figure, high_figure, figure_millionths, figure_text}

-- rounded by the count or 1
pub nearest_is : (twice count by : ℕ) → by ≡ max count 1 → (twice + by) / (2 * by) ≡ (twice + max count 1) / (2 * max count 1)
nearest_is twice count by e = ap (λ (t : ℕ). (twice + t) / (2 * t)) e

-- the sum is too large, or the count, or neither
high : (sum count : ℕ) (f g h : List ℕ) → limit < sum → f ≡ cond (ltb limit sum) f (cond (ltb limit count) g h)
high sum count f g h l = sym (ap (λ (b : Bool). cond b f (cond (ltb limit count) g h)) (lt-ltb limit sum l))

wide : (sum count : ℕ) (f g h : List ℕ) → sum ≤ limit → limit < count → g ≡ cond (ltb limit sum) f (cond (ltb limit count) g h)
wide sum count f g h s l =
    sym (ap (λ (b : Bool). cond b f (cond (ltb limit count) g h)) (le-ltb limit sum s) ∙ ap (λ (b : Bool). cond b g h) (lt-ltb limit count l))

small : (sum count : ℕ) (f g h : List ℕ) → sum ≤ limit → count ≤ limit → h ≡ cond (ltb limit sum) f (cond (ltb limit count) g h)
small sum count f g h s c =
    sym (ap (λ (b : Bool). cond b f (cond (ltb limit count) g h)) (le-ltb limit sum s) ∙ ap (λ (b : Bool). cond b g h) (le-ltb limit count c))

pub mean_high : (sum count : ℕ) → limit < sum → too_large ≡ mean_text sum count
unfolding mean_text
mean_high sum count l = high sum count too_large too_large (six_decimals (millionths sum count)) l

pub mean_wide : (sum count : ℕ) → sum ≤ limit → limit < count → too_large ≡ mean_text sum count
unfolding mean_text
mean_wide sum count s l = wide sum count too_large too_large (six_decimals (millionths sum count)) s l

pub mean_small : (sum count q : ℕ) → sum ≤ limit → count ≤ limit → q ≡ millionths sum count → six_decimals q ≡ mean_text sum count
unfolding mean_text
mean_small sum count q s c e = ap six_decimals e ∙ small sum count too_large too_large (six_decimals (millionths sum count)) s c

pub bar_high : (sum count : ℕ) → limit < sum → bar 0 ≡ mean_bar sum count
unfolding mean_bar
bar_high sum count l = high sum count (bar 0) (bar 0) (bar (millionths sum count / 10 ^ 6)) l

pub bar_wide : (sum count : ℕ) → sum ≤ limit → limit < count → bar 0 ≡ mean_bar sum count
unfolding mean_bar
bar_wide sum count s l = wide sum count (bar 0) (bar 0) (bar (millionths sum count / 10 ^ 6)) s l

pub bar_small : (sum count q : ℕ) → sum ≤ limit → count ≤ limit → q ≡ millionths sum count → bar (q / 10 ^ 6) ≡ mean_bar sum count
unfolding mean_bar
bar_small sum count q s c e = ap (λ (n : ℕ). bar (n / 10 ^ 6)) e ∙ small sum count (bar 0) (bar 0) (bar (millionths sum count / 10 ^ 6)) s c

-- a share as it is written where there is one
abbrev in_percent : ℕ → ℕ → List ℕ
in_percent part whole = decimal (percent part whole) ++ spelt "%"

abbrev written : ℕ → ℕ → List ℕ
written part whole = cond (ltb limit part) too_large (cond (ltb limit whole) too_large (in_percent part whole))

-- of nothing there is no share
pub share_none : (part whole : ℕ) → whole < 1 → no_share ≡ share_text part whole
unfolding share_text
share_none part whole l = sym (ap (λ (b : Bool). cond b no_share (written part whole)) (lt-ltb whole 1 l))

-- of something there is
share_some : (part whole : ℕ) (text : List ℕ) → 1 ≤ whole → text ≡ written part whole → text ≡ share_text part whole
unfolding share_text
share_some part whole text l e = e ∙ sym (ap (λ (b : Bool). cond b no_share (written part whole)) (le-ltb whole 1 l))

pub share_high : (part whole : ℕ) → 1 ≤ whole → limit < part → too_large ≡ share_text part whole
share_high part whole o l = share_some part whole too_large o (high part whole too_large too_large (in_percent part whole) l)

pub share_wide : (part whole : ℕ) → 1 ≤ whole → part ≤ limit → limit < whole → too_large ≡ share_text part whole
share_wide part whole o p l = share_some part whole too_large o (wide part whole too_large too_large (in_percent part whole) p l)

pub share_small : (part whole q : ℕ) → 1 ≤ whole → part ≤ limit → whole ≤ limit → q ≡ percent part whole → decimal q ++ spelt "%" ≡ share_text part whole
share_small part whole q o p w e =
    share_some part whole (decimal q ++ spelt "%") o (ap (λ (n : ℕ). decimal n ++ spelt "%") e ∙ small part whole too_large too_large (in_percent part whole) p w)

-- a float below zero, one that is written, and one that is too large or none
pub figure_low : (x : Float) → lt x zero_figure ≡ true → out_of_range ≡ figure_text x
unfolding figure_text
figure_low x t = sym (ap (λ (b : Bool). cond b out_of_range (cond (lt x high_figure) (six_decimals (figure_millionths x)) out_of_range)) t)

pub figure_written : (x : Float) (q : ℕ) → lt x zero_figure ≡ false → lt x high_figure ≡ true → q ≡ figure_millionths x → six_decimals q ≡ figure_text x
unfolding figure_text
figure_written x q t u e =
    ap six_decimals e
    ∙ sym (ap (λ (b : Bool). cond b out_of_range (cond (lt x high_figure) (six_decimals (figure_millionths x)) out_of_range)) t ∙ ap (λ (b : Bool). cond b (six_decimals (figure_millionths x)) out_of_range) u)

pub figure_high : (x : Float) → lt x zero_figure ≡ false → lt x high_figure ≡ false → out_of_range ≡ figure_text x
unfolding figure_text
figure_high x t u =
    sym (ap (λ (b : Bool). cond b out_of_range (cond (lt x high_figure) (six_decimals (figure_millionths x)) out_of_range)) t ∙ ap (λ (b : Bool). cond b (six_decimals (figure_millionths x)) out_of_range) u)
