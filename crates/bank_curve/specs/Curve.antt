-- The curve of a bank, and what a buffer holds once values are put at its front.
use Rattle.std.specs.Prelude.{ℕ, zero, suc, ◌+◌, min, false, List, [], ◌∷◌, ◌++◌, Float, length, drop}
use Rattle.std.specs.Float.{binary64}
use Rattle.std.specs.Float.Ieee.{round}

-- the sum of min(commits, g) over the rounds
abbrev pub sum_up_to : ℕ → List ℕ → ℕ
sum_up_to g [] = 0
sum_up_to g (c ∷ commits) = min c g + sum_up_to g commits

-- n entries of the curve from g on: each sum is divided once by the round count
abbrev pub curve_from : ℕ → ℕ → List ℕ → List Float
curve_from g zero commits = []
curve_from g (suc n) commits = round binary64 false (sum_up_to g commits) (length commits) ∷ curve_from (suc g) n commits

-- the new values, and behind them what stood there before
abbrev pub over {ℓ} : {A : Type ℓ} → List A → List A → List A
over new old = new ++ drop (length new) old
