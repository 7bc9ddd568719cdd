-- `page::append_bar` meets its contract: the first of sixty marks. Assumes nothing.
use Prim.Native.Nat.{ℕ, min}
use mathlib.Core.Path.{◌≡◌, ap}
use lib.ListN.{take, replicate}
use Rattle.page.specs.Numbers.{bar}
use Rattle.page.proofs.Adding.{renamed}
use Rattle.page.proofs.append_bar.Goals as goal

bar_is : (n k : ℕ) → k ≡ min n 60 → take k (replicate 60 35) ≡ bar n
unfolding bar
bar_is n k e = ap (λ (j : ℕ). take j (replicate {A = ℕ} 60 35)) e

pub returns : goal.returns
returns c = renamed (bar_is _ _ c.mark_count-k.ensures) c.append.ensures
