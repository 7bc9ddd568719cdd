-- `best_from` over what is left of two curves of one length: one depth, and nothing left. Assumes nothing.
use mathlib.Core.Path.{◌≡◌, sym}
use mathlib.Core.List.{List}
use Prim.Native.Nat.{ℕ, suc, ◌≤◌, ◌<◌}
use lib.ListN.{length, drop, get_or, drop_of_length-le}
use lib.Seq.{drop-cons}
use lib.Ieee.{Float, nan}
use Rattle.depths.specs.declared.inner.Best.{Best}
use Rattle.depths.specs.Goodput.{best_from, weigh}

pub best_next : (n g : ℕ) (b : Best) (es cs : List Float) → g < length es → g < length cs
    → best_from n (suc g) (weigh n b g (get_or es g nan) (get_or cs g nan)) (drop (suc g) es) (drop (suc g) cs) ≡ best_from n g b (drop g es) (drop g cs)
unfolding best_from
best_next n g b es cs h k = sym (rw (drop-cons es g nan, drop-cons cs g nan))

pub best_ended : (n g : ℕ) (b : Best) (es cs : List Float) → length es ≤ g → best_from n g b (drop g es) cs ≡ b
unfolding best_from
best_ended n g b es cs h = rw (drop_of_length-le es h)
