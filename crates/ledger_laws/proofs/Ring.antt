-- Rows around a ring: how many they are, and what stands in the next slot and in the newest row's. Assumes nothing.
use mathlib.Core.Path.{◌≡◌, refl}
use mathlib.Core.Bool.{true}
use mathlib.Core.List.{List, [], ◌∷◌, ◌++◌, reverse, reverse-cons, reverse-append}
use Prim.Native.Nat.{ℕ, ◌%◌, ◌+◌, ◌-◌, ◌≤◌, ◌<◌}
use native.Mathlib.Numerals.{add-one}
use native.Mathlib.Omega.{arith}
use borrow.Author.Tests.{lt-ltb, ltb-true, ltb-false}
use lib.Dec.{ltb}
use lib.ListN.{length, take, drop, take-append-drop, length-append, length-reverse}
use lib.Seq.{length-take-le, take-append-le, drop-append-le, take_all, drop-length, append_snoc}
use Rattle.ledger_rows.specs.Layout.{changes_most}
use Rattle.ledger_rows.proofs.Tests.{by_test}
use Rattle.ledger_changes.specs.Changes.{following, preceding}
use Rattle.ledger_laws.specs.Model.{Change}
use Rattle.ledger_laws.specs.Encode.{slot_of, around}

-- ---- slots

pub following_inside : (slot : ℕ) → following slot < changes_most
unfolding following
following_inside slot = by_test (ltb (slot + 1) changes_most)
    (λ l. rw l (ltb-true (slot + 1) changes_most l))
    (λ l. rw l (omega arith))

pub preceding_following : (slot : ℕ) → slot < changes_most → preceding (following slot) ≡ slot
unfolding following preceding
preceding_following slot h = by_test (ltb (slot + 1) changes_most)
    (λ l. let pos : ltb 0 (slot + 1) ≡ true = lt-ltb 0 (slot + 1) (omega arith) in rw (l, pos) (omega arith))
    (λ l. let last : changes_most ≤ slot + 1 = ltb-false (slot + 1) changes_most l in rw l (omega arith))

-- the next slot is the number of the standing changes, modulo as many as are kept
pub slot_modulo : (cs : List Change) → slot_of cs ≡ length cs % changes_most
unfolding slot_of following
slot_modulo [] = refl
slot_modulo (c ∷ cs) =
    let before : slot_of cs ≡ length cs % changes_most = slot_modulo cs in
    by_test (ltb (slot_of cs + 1) changes_most)
    (λ l. rw l (omega (arith, ltb-true (slot_of cs + 1) changes_most l)))
    (λ l. rw l (omega (arith, ltb-false (slot_of cs + 1) changes_most l)))

-- ---- rows

-- six changes, numbered from 0, in a ring of four slots: the newest four are left, each in the slot that its number is modulo four
six_in_four : around {R = ℕ} 2 (5 ∷ 4 ∷ 3 ∷ 2 ∷ []) ≡ 4 ∷ 5 ∷ 2 ∷ 3 ∷ []
unfolding around
six_in_four = refl

module _ {R : Type 0} where
  pub length_around : (slot : ℕ) (rows : List R) → length (around slot rows) ≡ length rows
  unfolding around
  length_around slot rows = rw (length-append, length-reverse, length-reverse, ← length-append (take slot rows) (drop slot rows), take-append-drop)

  -- as many as come before the slot
  pub before_slot : (slot : ℕ) (rows : List R) → slot ≤ length rows → length (reverse (take slot rows)) ≡ slot
  before_slot slot rows h = rw (length-reverse, length-take-le slot rows h)

  -- the next slot has the last row
  pub around_next : (slot : ℕ) (l : R) (rows : List R) → slot ≤ length rows → around slot (rows ++ (l ∷ [])) ≡ reverse (take slot rows) ++ l ∷ reverse (drop slot rows)
  unfolding around
  around_next slot l rows h = rw (take-append-le slot rows (l ∷ []) h, drop-append-le slot rows (l ∷ []) h, reverse-append (drop slot rows) (l ∷ []))

  -- the slot that the next one follows has the first row
  pub around_newest : (slot : ℕ) (q : R) (rows : List R) → length rows ≡ changes_most - 1 → slot < changes_most → around (following slot) (q ∷ rows) ≡ reverse (take slot rows) ++ q ∷ reverse (drop slot rows)
  unfolding around following
  around_newest slot q rows long h = by_test (ltb (slot + 1) changes_most)
      (λ l. rw (l, add-one, reverse-cons q (take slot rows)) (append_snoc (reverse (take slot rows)) q (reverse (drop slot rows))))
      (λ l.
      let last : changes_most ≤ slot + 1 = ltb-false (slot + 1) changes_most l in
      let all : slot ≡ length rows = omega arith in
      rw (l, all, take_all (length rows) rows (omega arith), drop-length rows) (reverse-cons q rows))
