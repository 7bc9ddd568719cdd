-- The sums that the ragged gate starts from: one turn of each loop, and its end. Assumes nothing.
use Prim.Native.Nat.{ℕ, zero, suc, ◌+◌, ◌-◌, ◌*◌, ◌≤◌, ◌<◌}
use mathlib.Core.Path.{◌≡◌, refl, ◌∙◌}
use mathlib.Core.Bool.{Bool, true, false, cond}
use mathlib.Core.List.{List, [], ◌∷◌}
use native.Mathlib.Decide.{ℕ_discrete}
use native.Mathlib.Numerals.{add-one}
use native.Mathlib.Omega.{arith}
use lib.Dec.{leb}
use lib.ListN.{length, get_or, set, take, drop, length-set, drop_of_length-le}
use lib.Seq.{drop-drop, drop-cons, get_or-set_same, get_or-set_other}
use lib.Ieee.{Float, nan}
use Rattle.float.specs.Floats.{plus, f0, whole}
use Rattle.speculative.specs.Drafter.{still_drafting}
use Rattle.verdict.specs.Decision.{Sums}
use Rattle.trim.specs.Ragged.{sum_from, survivals_from, tokens_from, margin_of, passes_of, full_draft}
use Rattle.trim.specs.Kept.{Counts, Passes, listed}

-- ---- a chain's survivals
pub sum_next : (d : ℕ) (acc : Float) (chain : List Float) → d < length chain → sum_from (plus acc (get_or chain d nan)) (drop (d + 1) chain) ≡ sum_from acc (drop d chain)
unfolding sum_from
sum_next d acc chain h = rw (add-one d, drop-cons chain d nan h)

pub sum_ended : (d : ℕ) (acc : Float) (chain : List Float) → length chain ≤ d → sum_from acc (drop d chain) ≡ acc
unfolding sum_from
sum_ended d acc chain h = rw (drop_of_length-le chain h)

-- ---- all chains' survivals
pub survivals_next :
    (k : ℕ) (acc one : Float) (ws : List ℕ) (c : List Float) → k < length ws → one ≡ sum_from f0 (take (k * 64 + get_or ws k 0 - k * 64) (drop (k * 64) c))
    → survivals_from (plus acc one) (drop (k + 1) ws) (drop ((k + 1) * 64) c) ≡ survivals_from acc (drop k ws) (drop (k * 64) c)
unfolding survivals_from
survivals_next k acc one ws c h e =
    let p : (k + 1) * 64 ≡ k * 64 + 64 = omega arith in
    let q : k * 64 + get_or ws k 0 - k * 64 ≡ get_or ws k 0 = omega arith in
    rw (e, p, q, ← drop-drop 64 (k * 64) c, add-one k, drop-cons ws k 0 h)

pub survivals_ended : (k : ℕ) (acc : Float) (ws : List ℕ) (c : List Float) → length ws ≤ k → survivals_from acc (drop k ws) c ≡ acc
unfolding survivals_from
survivals_ended k acc ws c h = rw (drop_of_length-le ws h)

-- ---- the tokens
pub tokens_next : (k : ℕ) (acc : Float) (ws : List ℕ) → k < length ws → tokens_from (plus acc (whole (get_or ws k 0 + 1))) (drop (k + 1) ws) ≡ tokens_from acc (drop k ws)
unfolding tokens_from
tokens_next k acc ws h = rw (add-one k, drop-cons ws k 0 h)

pub tokens_ended : (k : ℕ) (acc : Float) (ws : List ℕ) → length ws ≤ k → tokens_from acc (drop k ws) ≡ acc
unfolding tokens_from
tokens_ended k acc ws h = rw (drop_of_length-le ws h)

-- ---- the passes
pub passes_none : (pass : ℕ → Float) (ws : List ℕ) → f0 ≡ passes_of pass ws 0
unfolding passes_of
passes_none pass ws = refl

pub passes_next :
    (pass : ℕ → Float) (ws : List ℕ) (d m : ℕ) (sum : Float) → sum ≡ passes_of pass ws d → m ≡ still_drafting ws (d + 1)
    → plus sum (pass m) ≡ passes_of pass ws (d + 1)
unfolding passes_of
passes_next pass ws d m sum s e = rw (s, e, add-one d)

-- no pass is over more sequences than there are
pub still_few : (ws : List ℕ) (k : ℕ) → still_drafting ws k ≤ length ws
unfolding still_drafting
still_few [] k = omega arith
still_few (w ∷ ws) k = omega (arith, still_few ws k, one (leb k w))
  where
    one : (b : Bool) → cond b 1 0 ≤ 1
    one true = omega arith
    one false = omega arith

-- passes that stand in a list
module _ (pass : ℕ → Float) (passes : List Float) (n : ℕ) (at : Passes pass passes n) where
  pub margin_listed : (m : ℕ) → m ≤ n → margin_of (listed passes) m ≡ margin_of pass m
  unfolding margin_of
  margin_listed m h = let a = at.each m h in let b = at.each (m - 1) (omega arith) in rw (a, b)

  pub passes_listed : (ws : List ℕ) (d : ℕ) → length ws ≤ n → passes_of (listed passes) ws d ≡ passes_of pass ws d
  unfolding passes_of
  passes_listed ws zero h = refl
  passes_listed ws (suc d) h =
      let e = passes_listed ws d h in
      let p = at.each (still_drafting ws (suc d)) (omega (arith, still_few ws (suc d))) in
      rw (e, p)

pub passes_start : (pass : ℕ → Float) (passes : List Float) (m : ℕ) → m ≡ 0 → (j : ℕ) → j < m → listed passes j ≡ pass j
passes_start pass passes m e j l = absurd (omega arith)

pub passes_more :
    (pass : ℕ → Float) (passes : List Float) (m : ℕ) (p : Float) → m < length passes → p ≡ pass m → ((j : ℕ) → j < m → listed passes j ≡ pass j)
    → (j : ℕ) → j < m + 1 → listed (set passes m p) j ≡ pass j
passes_more pass passes m p room e at j l = pick (ℕ_discrete j m)
  where
    pick : Dec (j ≡ m) → listed (set passes m p) j ≡ pass j
    pick (yes q) = rw q (get_or-set_same passes m p nan room ∙ e)
    pick (no q) = get_or-set_other passes m j p nan q ∙ at j (omega arith)

-- the three sums together
pub full_sums :
    (pass : ℕ → Float) (chains : List Float) (depth : ℕ) (ws : List ℕ) (s t p : Float) (all : Sums) → s ≡ survivals_from f0 ws chains → t ≡ tokens_from f0 ws
    → p ≡ passes_of pass ws depth → all ≡ record { expected = plus (whole (length ws)) s; tokens = t; drafter = p } → all ≡ (full_draft pass chains depth ws).sums
unfolding full_draft
full_sums pass chains depth ws s t p all a b e q = rw (q, a, b, e)

pub counts_none : (nk ws : List ℕ) → length nk ≡ 64 → Counts nk ws 0
counts_none nk ws h = record { room = h; each = λ d l. absurd (omega arith) }

pub counts_next : (nk ws : List ℕ) (d m : ℕ) → d < 64 → m ≡ still_drafting ws (d + 1) → Counts nk ws d → Counts (set nk d m) ws (d + 1)
counts_next nk ws d m h e at = record { room = simp length-set at.room; each = λ j l. pick j l (ℕ_discrete j d) }
  where
    pick : (j : ℕ) → j < d + 1 → Dec (j ≡ d) → get_or (set nk d m) j 0 ≡ still_drafting ws (j + 1)
    pick j l (yes p) = rw p (get_or-set_same nk d m 0 (omega (arith, at.room)) ∙ e)
    pick j l (no p) = get_or-set_other nk d j m 0 p ∙ at.each j (omega arith)
