-- Seconds stand in order, and so do workers. Assumes nothing.
use mathlib.Core.Path.{◌≡◌, refl, sym, ap, ◌∙◌}
use mathlib.Core.Bool.{true, false}
use mathlib.Core.Logic.{◌⊎◌, inl, inr, ⊎_elim}
use Prim.Native.Nat.{ℕ, ◌≤◌, ◌<◌}
use native.Mathlib.Nat.{lt_trans, eq-or-lt_of_le}
use native.Mathlib.Omega.{arith}
use borrow.Author.Tests.{ltb-true, ltb-false, lt-ltb, le-ltb, eq-eqb, eqb-true, eqb-false}
use lib.Dec.{ltb, eqb}
use Rattle.ledger_rows.specs.Map.{Order}
use Rattle.ledger_rows.proofs.Tests.{by_test, by_two, not_both}
use Rattle.ledger_workers.specs.Workers.{worker_less, worker_same}

later : (a b : ℕ) → a ≤ b → (b ≡ a → ⊥) → a < b
later a b h n = ⊎_elim (λ e. absurd (n (sym e))) (λ l. l) (eq-or-lt_of_le h)

pub second_order : Order ltb eqb
second_order = record {
  not_itself = λ a. le-ltb a a (omega arith);
  itself = λ a. eq-eqb a a refl;
  equal = λ a b e. eqb-true a b e;
  through = λ a b c h k. lt-ltb a c (lt_trans (ltb-true a b h) (ltb-true b c k));
  either = λ a b h k. lt-ltb b a (later b a (ltb-false a b h) (eqb-false a b k));
}

-- ---- workers

-- a worker comes before another by its first number, or by its second where the first are equal
before_by : (v w : ℕ × ℕ) → worker_less v w ≡ true → (v.0 < w.0) ⊎ ((v.0 ≡ w.0) × (v.1 < w.1))
before_by v w h = by_two (ltb v.0 w.0) (eqb v.0 w.0)
    (λ l. inl (ltb-true v.0 w.0 l))
    (λ l e. inr (eqb-true v.0 w.0 e, ltb-true v.1 w.1 (rw (l, e) at h)))
    (λ l e. absurd (not_both false (rw (l, e) at h) refl))

by_first : (v w : ℕ × ℕ) → v.0 < w.0 → worker_less v w ≡ true
by_first v w h = rw (lt-ltb v.0 w.0 h)

by_second : (v w : ℕ × ℕ) → v.0 ≡ w.0 → v.1 < w.1 → worker_less v w ≡ true
by_second v w e h = let n : ltb v.0 w.0 ≡ false = le-ltb v.0 w.0 (omega arith) in rw (n, eq-eqb v.0 w.0 e, lt-ltb v.1 w.1 h)

same_is : (v w : ℕ × ℕ) → worker_same v w ≡ true → v ≡ w
same_is v w h = by_test (eqb v.0 w.0)
    (λ e. let f : v.0 ≡ w.0 = eqb-true v.0 w.0 e in
    let g : v.1 ≡ w.1 = eqb-true v.1 w.1 (rw e at h) in
    ap (λ (x : ℕ). (x, v.1)) f ∙ ap (λ (y : ℕ). (w.0, y)) g)
    (λ e. absurd (not_both false (rw e at h) refl))

through_workers : (u v w : ℕ × ℕ) → worker_less u v ≡ true → worker_less v w ≡ true → worker_less u w ≡ true
through_workers u v w h k = ⊎_elim
    (λ a. ⊎_elim (λ b. by_first u w (lt_trans a b)) (λ b. let e : v.0 ≡ w.0 = b.0 in by_first u w (omega (arith, a, e))) (before_by v w k))
    (λ a. ⊎_elim (λ b. let e : u.0 ≡ v.0 = a.0 in by_first u w (omega (arith, b, e))) (λ b. by_second u w (a.0 ∙ b.0) (lt_trans a.1 b.1)) (before_by v w k))
    (before_by u v h)

either_worker : (v w : ℕ × ℕ) → worker_less v w ≡ false → worker_same v w ≡ false → worker_less w v ≡ true
either_worker v w h k = by_two (ltb v.0 w.0) (eqb v.0 w.0)
    (λ l. absurd (not_both true refl (rw l at h)))
    (λ l e. by_second w v (sym (eqb-true v.0 w.0 e)) (later w.1 v.1 (ltb-false v.1 w.1 (rw (l, e) at h)) (eqb-false v.1 w.1 (rw e at k))))
    (λ l e. by_first w v (later w.0 v.0 (ltb-false v.0 w.0 l) (eqb-false v.0 w.0 e)))

not_before_itself : (v : ℕ × ℕ) → worker_less v v ≡ false
not_before_itself v =
    let l : ltb v.0 v.0 ≡ false = le-ltb v.0 v.0 (omega arith) in
    let e : eqb v.0 v.0 ≡ true = eq-eqb v.0 v.0 refl in
    let m : ltb v.1 v.1 ≡ false = le-ltb v.1 v.1 (omega arith) in
    rw (l, e, m)

same_itself : (v : ℕ × ℕ) → worker_same v v ≡ true
same_itself v = rw (eq-eqb v.0 v.0 refl, eq-eqb v.1 v.1 refl)

pub worker_order : Order worker_less worker_same
worker_order = record {
  not_itself = not_before_itself;
  itself = same_itself;
  equal = same_is;
  through = through_workers;
  either = either_worker;
}
