-- What is known of a batch's chains that are not refused. Assumes nothing.
use mathlib.Core.Path.{◌≡◌, refl}
use mathlib.Core.Bool.{Bool, true, false, ◌&&◌}
use mathlib.Core.List.{List, [], ◌∷◌}
use Prim.Native.Nat.{ℕ, zero, suc, ◌≤◌, ◌<◌, min}
use native.Mathlib.Nat.{not-suc-le-zero, le_of_suc-le-suc}
use borrow.Author.Tests.{leb-true}
use lib.Dec.{leb}
use lib.ListN.{take, drop}
use lib.Ieee.{Float}
use Rattle.std.specs.Prelude.{Ok}
use Rattle.float.proofs.Classes.{clash}
use Rattle.chains.specs.Tests.{all_of, is_survival}
use Rattle.chains.specs.Expected.{AtMost, Fits, are_chains}
use Rattle.goodput_judges.specs.Refusals.{chains_judged}
use Rattle.goodput_judges.proofs.Passed.{chains_passed}

-- ---- the lengths of chains that pass
first : (a b c : Bool) → ((a && b) && c) ≡ true → (a ≡ true) × (c ≡ true)
first true true c h = (refl, h)
first true false c h = clash h
first false b c h = clash h

pub narrow : (gamma : ℕ) (lengths : List ℕ) (slots : List Float) → are_chains gamma lengths slots ≡ true → AtMost 64 lengths
unfolding are_chains
narrow gamma [] slots h k l = absurd (not-suc-le-zero l)
narrow gamma (x ∷ xs) slots h zero l = leb-true x 64 (first (leb x 64) (all_of is_survival (take (min gamma x) slots)) (are_chains gamma xs (drop 64 slots)) h).0
narrow gamma (x ∷ xs) slots h (suc k) l =
    narrow gamma xs (drop 64 slots) (first (leb x 64) (all_of is_survival (take (min gamma x) slots)) (are_chains gamma xs (drop 64 slots)) h).1 k (le_of_suc-le-suc l)

-- ---- what is known where nothing is refused
pub fits : (slots : List Float) (lengths : List ℕ) (gamma room : ℕ) → chains_judged slots lengths gamma room ≡ Ok tt → (gamma ≤ 64) × ((gamma < room) × Fits slots lengths)
fits slots lengths gamma room e =
    let p = chains_passed slots lengths gamma room e in
    (p.counted.shallow, (p.wide, record { room = p.there; few = p.counted.few; narrow = narrow gamma lengths slots p.tested }))
