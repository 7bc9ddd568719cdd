-- A turn of each loop of the judgement. Assumes nothing.
use Rattle.std.proofs.Common.{◌≡◌, ℕ, zero, suc, ◌+◌, ◌-◌, ◌<◌, ◌≤◌, Bool, true, false, not, ◌&&◌, List, [], ◌∷◌, length, get_or, drop, sym, refl, ap, ◌∙◌, add-one, arith, drop_of_length-le}
use lib.Ieee.{Float, nan}
use Rattle.cost_rows.specs.Table.{Row, zip}
use Rattle.cost_rows.specs.Order.{before, earlier, falls, ordered}
use Rattle.cost_rows.specs.Lawful.{in_range, all_in_range}
use Rattle.cost_rows.proofs.Rows.{row_at, zip_next, zip_length}

-- ---- the order, with the depth and the batch of the row in front held

-- rows in order behind one of depth g and batch a
abbrev pub after : ℕ → ℕ → List Row → Bool
after g a t = ordered (record { depth = g; batch = a; seconds = nan } ∷ t)

falls_any : (r : Row) (x : Float) (t : List Row) → falls r t ≡ falls (record { depth = r.depth; batch = r.batch; seconds = x }) t
unfolding falls earlier
falls_any r x [] = refl
falls_any r x (s ∷ t) = refl

pub after_row : (r : Row) (t : List Row) → ordered (r ∷ t) ≡ after r.depth r.batch t
unfolding ordered
after_row r t = rw (falls_any r nan t)

after_next : (g a : ℕ) (x : Row) (t : List Row) → after g a (x ∷ t) ≡ not (before x.depth x.batch g a) && after x.depth x.batch t
unfolding ordered falls earlier
after_next g a x t = first_next g a x t ∙ ap (λ v. not (before x.depth x.batch g a) && v) (after_row x t)
  where
    first_next : (g a : ℕ) (x : Row) (t : List Row) → after g a (x ∷ t) ≡ not (before x.depth x.batch g a) && ordered (x ∷ t)
    first_next g a x t = refl

after_all : (d b : List ℕ) (s : List Float) (n : ℕ) (z : List Row) → z ≡ drop 0 z → ((0 < n) → z ≡ row_at d b s nan 0 ∷ drop 1 z) → (n ≤ 0 → z ≡ []) → after (get_or d 0 0) (get_or b 0 0) (drop 1 z) ≡ ordered z
unfolding ordered falls
after_all d b s n [] e f h = refl
after_all d b s zero (x ∷ z) e f h = absurd (let k : suc (length z) ≡ 0 = ap length (h (omega arith)) in omega arith)
after_all d b s (suc n) (x ∷ z) e f h = sym (ap ordered (f (omega arith)) ∙ after_row (row_at d b s nan 0) z)

-- ---- whether all rows so far are good
pub good_turn : (whole rest later good v w next : Bool) → (good && rest) ≡ whole → rest ≡ (w && later) → v ≡ w → next ≡ (good && v) → (next && later) ≡ whole
good_turn whole rest later true v w next e f g h = rw (h, g, ← f) e
good_turn whole rest later false v w next e f g h = rw h e

pub good_end : (whole rest good : Bool) → (good && rest) ≡ whole → rest ≡ true → good ≡ whole
good_end whole rest true e f = sym f ∙ e
good_end whole rest false e f = e

module _ (n : ℕ) (d b : List ℕ) (s : List Float) (p : n ≤ length d) (q : n ≤ length b) (r : n ≤ length s) where
  module _ (i : ℕ) (h : i < n) where
    pub seconds_row : all_in_range (drop i (zip n d b s)) ≡ in_range (get_or s i nan) && all_in_range (drop (i + 1) (zip n d b s))
    unfolding all_in_range
    seconds_row = rw (add-one, zip_next n d b s nan i p q r h)

    pub order_row : (g a : ℕ) → after g a (drop i (zip n d b s)) ≡ not (before (get_or d i 0) (get_or b i 0) g a) && after (get_or d (i + 1 - 1) 0) (get_or b (i + 1 - 1) 0) (drop (i + 1) (zip n d b s))
    order_row g a =
        let same : i + 1 - 1 ≡ i = omega arith in
        rw (same, add-one, zip_next n d b s nan i p q r h) (after_next g a (row_at d b s nan i) (drop (suc i) (zip n d b s)))

  pub after_first : after (get_or d 0 0) (get_or b 0 0) (drop 1 (zip n d b s)) ≡ ordered (zip n d b s)
  after_first = after_all d b s n (zip n d b s) refl (λ h. zip_next n d b s nan 0 p q r h) (λ h. drop_of_length-le (zip n d b s) {i = 0} (omega (arith, zip_length n d b s p q r)))

  module _ (i : ℕ) (h : n ≤ i) where
    none : drop i (zip n d b s) ≡ []
    none = drop_of_length-le (zip n d b s) {i = i} (omega (arith, zip_length n d b s p q r))

    pub seconds_end : all_in_range (drop i (zip n d b s)) ≡ true
    unfolding all_in_range
    seconds_end = rw none

    pub order_end : (g a : ℕ) → after g a (drop i (zip n d b s)) ≡ true
    unfolding ordered falls
    order_end g a = rw none
