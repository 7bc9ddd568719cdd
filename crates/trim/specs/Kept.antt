-- What the code of the ragged gate keeps beside its sums. Inner to the gate. Assumes nothing.
use Rattle.std.specs.Prelude.{ℕ, ◌+◌, ◌-◌, ◌*◌, ◌≤◌, ◌<◌, ◌≡◌, Bool, false, not, cond, List, length, get_or, Float}
use Rattle.std.specs.Float.{nan}
use Rattle.std.specs.Float.Ieee.{lt}
use Rattle.float.specs.Floats.{plus, less, f1}
use Rattle.speculative.specs.Drafter.{still_drafting}
use Rattle.chains.specs.Tests.{all_of}
use Rattle.verify_prices.specs.Rule.{Rule}
use Rattle.verdict.specs.Decision.{rate_of}
use Rattle.verdict.specs.declared.inner.Tally.{Tally}
use Rattle.slots.specs.Slots.{survival}
use Rattle.trim.specs.Ragged.{margin_of}

-- how many sequences draft each pass
pub record Counts (nk ws : List ℕ) (depth : ℕ) : Type 0 where
  pub room : length nk ≡ 64
  pub each : (d : ℕ) → d < depth → get_or nk d 0 ≡ still_drafting ws (d + 1)

-- a pass as it stands in a list
abbrev pub listed : List Float → ℕ → Float
listed passes m = get_or passes m nan

-- the passes over 0 to n sequences stand in the list
pub record Passes (pass : ℕ → Float) (passes : List Float) (n : ℕ) : Type 0 where
  pub each : (m : ℕ) → m ≤ n → listed passes m ≡ pass m

-- whether the rate is higher without the deepest slot of sequence k, where vp is the price of one token less; never where that price is shut
abbrev pub pays_at : Bool → Tally → Float → List Float → List Float → List ℕ → List ℕ → ℕ → Bool
pays_at shut t vp chains passes nk ws k =
    let d = get_or ws k 0 - 1 in
    cond shut false (lt t.rate (rate_of (less t.expected (survival chains k d)) (less (plus vp t.drafter) (margin_of (listed passes) (get_or nk d 0)))))

-- the same under a pricing rule
abbrev pub pays_under : Rule → Tally → List Float → List Float → List ℕ → List ℕ → ℕ → Bool
pays_under rule t chains passes nk ws k = let vp = rule.price (less t.tokens f1) in pays_at (rule.shut vp) t vp chains passes nk ws k

-- the test holds of none of them
abbrev pub none_of : (ℕ → Bool) → List ℕ → Bool
none_of p ks = all_of (λ k. not (p k)) ks

-- each of the sequences has its chain, its width and a slot, and the passes that its slot is weighed by are there
abbrev pub Weighable : List Float → List Float → List ℕ → List ℕ → List ℕ → Type 0
Weighable chains passes nk ws left = (i : ℕ) → i < length left → let k = get_or left i 0 in
    (k * 64 + 64 ≤ length chains) × ((k < length ws) × ((0 < get_or ws k 0) × ((get_or ws k 0 ≤ 64) × ((0 < get_or nk (get_or ws k 0 - 1) 0) × (get_or nk (get_or ws k 0 - 1) 0 < length passes)))))
