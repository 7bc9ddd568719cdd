-- Laws of the two sums over a plan's drafts, while they are under way. Assumes nothing.
use mathlib.Core.Path.{◌≡◌, refl, ap, ◌∙◌}
use mathlib.Core.List.{List, [], ◌∷◌}
use Prim.Native.Nat.{ℕ, ◌+◌, ◌*◌, ◌≤◌, ◌<◌}
use native.Mathlib.Numerals.{add-one}
use native.Mathlib.Omega.{arith}
use lib.ListN.{length, get_or, drop, drop_of_length-le}
use lib.Seq.{drop-cons}
use Rattle.std.proofs.Common.{Some}
use Rattle.verifies.specs.Accepted.{accepted_of, total_of, committed_of, counts_of, Shallow}

-- the first k are summed
pub record Counted (drafts commits : List ℕ) (drafted committed k : ℕ) : Type 0 where
  pub low : k ≤ length drafts
  pub small : drafted ≤ k * 64
  pub less : committed ≤ drafted
  pub drafted_is : total_of drafts ≡ drafted + total_of (drop k drafts)
  pub committed_is : committed_of drafts commits ≡ committed + committed_of (drop k drafts) (drop k commits)

-- ---- what is accepted of one draft

pub accepted_low : (draft commits : ℕ) → accepted_of draft (Some commits) ≤ draft
unfolding accepted_of
accepted_low draft commits = omega arith

-- ---- of none, and of one more

total_none : total_of [] ≡ 0
unfolding total_of
total_none = refl

total_first : (d : ℕ) (ds : List ℕ) → total_of (d ∷ ds) ≡ d + total_of ds
unfolding total_of
total_first d ds = refl

committed_none : (commits : List ℕ) → committed_of [] commits ≡ 0
unfolding committed_of
committed_none commits = refl

committed_first : (d : ℕ) (ds : List ℕ) (c : ℕ) (cs : List ℕ) → committed_of (d ∷ ds) (c ∷ cs) ≡ accepted_of d (Some c) + committed_of ds cs
unfolding committed_of
committed_first d ds c cs = refl

-- ---- the loop

module _ (drafts commits : List ℕ) where
  pub counted_none : Counted drafts commits 0 0 0
  counted_none = record { low = omega arith; small = omega arith; less = omega arith; drafted_is = omega arith; committed_is = omega arith }

  total_next : (k : ℕ) → k < length drafts → total_of (drop k drafts) ≡ get_or drafts k 0 + total_of (drop (k + 1) drafts)
  total_next k h = rw (drop-cons drafts k 0 h, add-one) (total_first (get_or drafts k 0) _)

  committed_next : (k : ℕ) → k < length drafts → k < length commits
      → committed_of (drop k drafts) (drop k commits) ≡ accepted_of (get_or drafts k 0) (Some (get_or commits k 0)) + committed_of (drop (k + 1) drafts) (drop (k + 1) commits)
  committed_next k h m = rw (drop-cons drafts k 0 h, drop-cons commits k 0 m, add-one) (committed_first (get_or drafts k 0) _ (get_or commits k 0) _)

  pub counted_next : (drafted committed k r : ℕ) → k < length drafts → length drafts ≤ length commits → Shallow drafts → r ≡ accepted_of (get_or drafts k 0) (Some (get_or commits k 0))
      → Counted drafts commits drafted committed k → Counted drafts commits (drafted + get_or drafts k 0) (committed + r) (k + 1)
  counted_next drafted committed k r h m shallow e s =
      let low = accepted_low (get_or drafts k 0) (get_or commits k 0) in
      record {
        low = omega arith;
        small = omega (arith, s.small, shallow.each k h);
        less = omega (arith, s.less, e, low);
        drafted_is = omega (arith, s.drafted_is, total_next k h);
        committed_is = omega (arith, s.committed_is, e, committed_next k h (omega arith));
      }

  pub counted_all : (drafted committed k : ℕ) → length drafts ≤ k → Counted drafts commits drafted committed k → record { drafts = drafted; committed = committed } ≡ counts_of drafts commits
  counted_all drafted committed k h s =
      let none : total_of (drop k drafts) ≡ 0 = ap total_of (drop_of_length-le drafts h) ∙ total_none in
      let none' : committed_of (drop k drafts) (drop k commits) ≡ 0 = ap (λ (ds : List ℕ). committed_of ds (drop k commits)) (drop_of_length-le drafts h) ∙ committed_none (drop k commits) in
      let all : drafted ≡ total_of drafts = omega (arith, s.drafted_is, none) in
      let all' : committed ≡ committed_of drafts commits = omega (arith, s.committed_is, none') in
      rw (all, all')
