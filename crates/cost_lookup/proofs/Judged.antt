-- What a lent table is refused for, and what holds of one that is not. Assumes nothing.
use Rattle.std.proofs.Common.{◌≡◌, ℕ, ◌<◌, ◌≤◌, Bool, true, false, ◌&&◌, leb, List, length, refl, arith, leb-true, le-leb, Ok, Err, ap}
use borrow.Author.Tests.{lt-leb}
use lib.Ieee.{Float}
use Rattle.refusals.specs.declared.Refusal.TheVariants.{Size, Input, ShortBuffer}
use Rattle.refusals.specs.Refusals.{passed_if, and_then, number_in}
use Rattle.cost_rows.specs.Table.{most, zip}
use Rattle.cost_rows.specs.Order.{ordered}
use Rattle.cost_rows.specs.Lawful.{all_in_range, lawful}
use Rattle.cost_lookup.specs.Entry.{room, table_judged}

module _ (rows : ℕ) (d b : List ℕ) (s : List Float) where
  pub too_many : most < rows → Err Size ≡ table_judged rows d b s
  unfolding table_judged
  too_many h = rw (lt-leb rows most h)

  pub too_short : rows ≤ most → room d b s < rows → Err ShortBuffer ≡ table_judged rows d b s
  unfolding table_judged
  too_short h k = rw (le-leb rows most h, lt-leb rows (room d b s) k)

  pub out_of_range : rows ≤ most → rows ≤ room d b s → lawful (zip rows d b s) ≡ false → Err Input ≡ table_judged rows d b s
  unfolding table_judged
  out_of_range h k e = rw (le-leb rows most h, le-leb rows (room d b s) k, e)

  pub in_range_lem : rows ≤ most → rows ≤ room d b s → lawful (zip rows d b s) ≡ true → Ok tt ≡ table_judged rows d b s
  unfolding table_judged
  in_range_lem h k e = rw (le-leb rows most h, le-leb rows (room d b s) k, e)

-- ---- the converse
unrefused : (m r l : Bool) → ◌≡◌ {A = ℕ} (number_in (and_then (passed_if m Size) (and_then (passed_if r ShortBuffer) (passed_if l Input)))) 0 → (m ≡ true) × (r ≡ true) × (l ≡ true)
unrefused true true true h = (refl, refl, refl)
unrefused true true false h = absurd (let w : ⊥ = omega arith in w)
unrefused true false l h = absurd (let w : ⊥ = omega arith in w)
unrefused false r l h = absurd (let w : ⊥ = omega arith in w)

both_second : (x y : Bool) → x && y ≡ true → y ≡ true
both_second true y h = h
both_second false true h = refl
both_second false false h = h

module _ (rows : ℕ) (d b : List ℕ) (s : List Float) (e : table_judged rows d b s ≡ Ok tt) where
  facts : (leb rows most ≡ true) × (leb rows (room d b s) ≡ true) × (lawful (zip rows d b s) ≡ true)
  unfolding table_judged
  facts = unrefused (leb rows most) (leb rows (room d b s)) (lawful (zip rows d b s)) (ap number_in e)

  pub enough : rows ≤ room d b s
  enough = leb-true rows (room d b s) facts.1

  pub is_lawful : lawful (zip rows d b s) ≡ true
  is_lawful = facts.2

  pub is_ordered : ordered (zip rows d b s) ≡ true
  unfolding lawful
  is_ordered = both_second (all_in_range (zip rows d b s)) (ordered (zip rows d b s)) is_lawful

  -- what the inner lookups ask for
  pub lent : (rows ≤ length d) × (rows ≤ length b) × (rows ≤ length s)
  lent = (omega (arith, enough), omega (arith, enough), omega (arith, enough))
