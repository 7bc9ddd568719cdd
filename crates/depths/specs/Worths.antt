-- What each depth is worth, in a list of its own, and the best of such a list. Only functions that this crate keeps to itself are stated so. Assumes nothing.
use Rattle.std.specs.Prelude.{ℕ, suc, ◌≡◌, ◌<◌, cond, List, [], ◌∷◌, ◌++◌, length, get_or, drop, Float}
use Rattle.std.specs.Float.{nan}
use Rattle.std.specs.Float.Ieee.{lt}
use Rattle.float.specs.Floats.{plus, f0, is_finite}
use Rattle.speculative.specs.Drafter.{drafter_seconds}
use Rattle.speculative.specs.declared.drafter.Rates.{Rates}
use Rattle.speculative.specs.declared.drafter.DrafterCost.{DrafterCost}
use Rattle.chains.specs.Scan.{scan}
use Rattle.depths.specs.Goodput.{goodput_of, least}
use Rattle.depths.specs.declared.inner.Best.{Best}

-- the goodput of a finite cost; else a NaN
abbrev pub worth_of : ℕ → Float → Float → Float
worth_of n e c = cond (is_finite c) (goodput_of n e c) nan

-- depth g of worth w against the best so far
abbrev pub raise : Best → ℕ → Float → Best
raise b g w = cond (lt b.worth w) (record { depth = g; worth = w }) b

-- before any depth is weighed
abbrev pub unweighed : Best
unweighed = record { depth = 0; worth = least }

-- the best of depth g and those after it, from the best before them on
unfoldable pub raised_from : ℕ → Best → List Float → Best
raised_from g b [] = b
raised_from g b (w ∷ ws) = raised_from (suc g) (raise b g w) ws

-- `seconds` of drafting at each depth and verify cost
module _ (n : ℕ) (es : List Float) (seconds : ℕ → Float → Float) where
  abbrev pub worth_at : ℕ → Float → Float
  worth_at g verify = worth_of n (get_or es g nan) (plus verify (seconds g verify))

  abbrev pub worths_from : ℕ → List Float → List Float
  worths_from g curve = scan (λ d _. suc d) worth_at g curve

  -- the worths over the front of a buffer
  abbrev pub over_worths : List Float → List Float → List Float
  over_worths curve out = worths_from 0 curve ++ drop (length curve) out

-- the worths are in a buffer that held `old`, for each `seconds` that are none at depth 0 and what `given` gives above it
abbrev pub Filled : (ℕ → Float → Float → Type 0) → ℕ → List Float → List Float → List Float → List Float → Type 0
Filled given n es curve old new =
    (seconds : ℕ → Float → Float) → ((v : Float) → seconds 0 v ≡ f0) → ((g : ℕ) (v x : Float) → 0 < g → given g v x → x ≡ seconds g v)
    → new ≡ over_worths n es seconds curve old

-- the seconds of any drafter
abbrev pub seconds_at : DrafterCost → ℕ → Rates → Float → ℕ → Float → Float
seconds_at kind n rates loaded g verify = drafter_seconds kind g n rates verify loaded
