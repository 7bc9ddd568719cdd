-- `page::append_millionths` meets its contract: three texts one behind another. Assumes nothing.
use Prim.Native.Nat.{ℕ, ◌/◌, ◌^◌}
use mathlib.Core.Path.{◌≡◌, ap}
use mathlib.Core.List.{List, [], ◌∷◌, ◌++◌}
use Rattle.io.specs.Digits.{last_digits}
use Rattle.page.specs.Page.{Added}
use Rattle.page.specs.Numbers.{decimal, six_decimals}
use Rattle.page.proofs.Adding.{both, renamed}
use Rattle.page.proofs.append_millionths.Goals as goal

three : {page first second after six : List ℕ} {used whole point full : ℕ} (q : ℕ) → Added page used (decimal (q / 10 ^ 6)) first whole → Added first whole (46 ∷ []) second point → Added second point six after full
    → six ≡ last_digits 10 6 q → Added page used (six_decimals q) after full
unfolding six_decimals
three q d p s e = renamed (ap (λ (l : List ℕ). decimal (q / 10 ^ 6) ++ (46 ∷ l)) e) (both d (both p s))

pub returns : goal.returns
returns c = three _ c.append_decimal-whole.ensures c.append-point.ensures c.append.ensures c.six_digits.ensures
