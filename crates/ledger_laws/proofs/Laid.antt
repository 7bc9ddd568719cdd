-- What the words' operations do to words that hold lists of seconds, of workers and of changes. Assumes nothing.
use mathlib.Core.Path.{◌≡◌, refl, sym, ap, ◌∙◌}
use mathlib.Core.Bool.{false}
use mathlib.Core.List.{List, [], ◌∷◌, ◌++◌, append_assoc, reverse}
use mathlib.Core.Option.{Option, none, some}
use Prim.Native.Nat.{ℕ, suc, ◌+◌, ◌-◌, ◌≤◌, ◌<◌, min}
use native.Mathlib.Nat.{le_refl, min-eq_left}
use native.Mathlib.Numerals.{sub-one}
use native.Mathlib.Omega.{arith}
use lib.Dec.{ltb, eqb}
use lib.ListN.{length, get_or, set, take, drop, length-append}
use Rattle.ledger_rows.specs.Words.{stored, opened, closed}
use Rattle.ledger_rows.specs.Map.{at, put_at, without, Ascending, is_held, before}
use Rattle.ledger_rows.specs.Table.{flat, pad, table, placed}
use Rattle.ledger_rows.proofs.Tests.{not_both}
use Rattle.ledger_rows.proofs.Tables.{length_pad, pad_full, pad_last, pad_snoc, length_flat, word, word_at, key_at, stored_row}
use Rattle.ledger_rows.proofs.Keyed.{found, found_last, known, putting, dropping, reading}
use Rattle.ledger_rows.specs.Layout.{seconds_most, workers_most, changes_most, second_at, worker_at, seconds_held, workers_held, available, next_slot, second_wide, worker_wide, change_wide, change_at, changes_from, workers_from, seconds_from}
use Rattle.ledger_seconds.specs.Seconds.{earlier_second, that_second, second_row, second_place}
use Rattle.ledger_workers.specs.Workers.{worker_less, worker_same, earlier_worker, that_worker, worker_row, worker_place}
use Rattle.ledger_changes.specs.Changes.{following, preceding, newest_slot, newest_at, pushed, popped}
use Rattle.ledger_laws.specs.Model.{Worker, Switching, Change, planned, decided, cleared, Sums}
use Rattle.ledger_laws.specs.Encode.{second_words, worker_words, change_words, no_second, no_worker, no_change, Newest, around, ring_words, laid}
use Rattle.ledger_laws.proofs.Orders.{second_order, worker_order}
use Rattle.ledger_laws.proofs.Ring.{length_around, before_slot, around_next, around_newest, following_inside, preceding_following}

pub wide_second : (r : ℕ × Sums) → length (second_words r) ≡ second_wide
wide_second r = refl

pub wide_worker : (r : Worker × Switching) → length (worker_words r) ≡ worker_wide
wide_worker r = refl

pub wide_change : (r : Change × Option Switching) → length (change_words r) ≡ change_wide
unfolding change_words
wide_change (planned p, o) = refl
wide_change (decided p w f, o) = refl
wide_change (cleared w, none) = refl
wide_change (cleared w, some r) = refl

-- ---- the seconds

module _ (n m : ℕ) (ring : Newest) (workers : List (Worker × Switching)) (rest : List ℕ) where
  abbrev L : List (ℕ × Sums) → List ℕ
  L seconds = laid n m ring workers seconds rest

  -- the words before the seconds
  unfoldable A : List ℕ
  A = n ∷ m ∷ ring.left ∷ ring.slot ∷ (ring_words ring ++ flat worker_words (pad no_worker workers_most workers))

  long : length A ≡ seconds_from
  unfolding A
  long = rw (length-append, length_flat change_words change_wide wide_change, length_flat worker_words worker_wide wide_worker, length_around, length_pad, length_pad)

  as_seconds : (seconds : List (ℕ × Sums)) → L seconds ≡ table second_words no_second A seconds_most seconds rest
  unfolding laid A
  as_seconds seconds = rw (append_assoc (ring_words ring))

  -- a row's second, and its words
  module _ (seconds : List (ℕ × Sums)) (fits : length seconds ≤ seconds_most) where
    pub row_second : (i : ℕ) → i < length seconds → get_or (L seconds) (second_at i) 0 ≡ (get_or seconds i no_second).0
    row_second i h = rw (as_seconds seconds) (key_at second_words no_second second_wide wide_second A seconds_from long seconds_most rest seconds fits i h (omega arith))

    pub row_word : (i j : ℕ) → i < length seconds → j < second_wide → get_or (L seconds) (second_at i + j) 0 ≡ get_or (second_words (get_or seconds i no_second)) j 0
    row_word i j h k = rw (as_seconds seconds) (word_at second_words no_second second_wide wide_second A seconds_from long seconds_most rest seconds fits i j h k)

  module _ (t : ℕ) (seconds : List (ℕ × Sums)) (fits : length seconds ≤ seconds_most) where
    early_is : (i : ℕ) → i < length seconds → earlier_second (L seconds) t i ≡ ltb (get_or seconds i no_second).0 t
    early_is i h = ap (λ (x : ℕ). ltb x t) (row_second seconds fits i h)

    that_is : (i : ℕ) → i < length seconds → that_second (L seconds) t i ≡ eqb (get_or seconds i no_second).0 t
    that_is i h = ap (λ (x : ℕ). eqb x t) (row_second seconds fits i h)

    -- a second's words put where it is held, and where it belongs; and taken out
    put_second : (u : Sums) → (is_held (at ltb eqb t seconds) ≡ false → length seconds < seconds_most)
        → placed second_wide seconds_from (before ltb eqb t seconds) (length seconds) (is_held (at ltb eqb t seconds)) (second_words (t, u)) (L seconds) ≡ L (put_at ltb eqb t u seconds)
    put_second u f = rw (as_seconds seconds, as_seconds (put_at ltb eqb t u seconds)) (putting ltb eqb second_order t second_words no_second second_wide wide_second A seconds_from long seconds_most rest seconds fits u f)

    pub stored_second : (o u : Sums) → at ltb eqb t seconds ≡ some o → stored (second_at (before ltb eqb t seconds)) (second_words (t, u)) (L seconds) ≡ L (put_at ltb eqb t u seconds)
    unfolding placed
    stored_second o u e =
        let h : placed second_wide seconds_from (before ltb eqb t seconds) (length seconds) (is_held (at ltb eqb t seconds)) (second_words (t, u)) (L seconds) ≡ L (put_at ltb eqb t u seconds) =
        put_second u (λ q. absurd (not_both (is_held (at ltb eqb t seconds)) (ap is_held e) q)) in
        rw e at h

    pub opened_second : (u : Sums) → at ltb eqb t seconds ≡ none → length seconds < seconds_most
        → opened (second_at (before ltb eqb t seconds)) (second_at (length seconds)) (second_words (t, u)) (L seconds) ≡ L (put_at ltb eqb t u seconds)
    unfolding placed
    opened_second u e few =
        let h : placed second_wide seconds_from (before ltb eqb t seconds) (length seconds) (is_held (at ltb eqb t seconds)) (second_words (t, u)) (L seconds) ≡ L (put_at ltb eqb t u seconds) = put_second u (λ q. few) in
        rw e at h

    pub closed_second : (o : Sums) → at ltb eqb t seconds ≡ some o
        → closed (second_at (before ltb eqb t seconds)) (second_at (length seconds - 1)) (0 ∷ 0 ∷ 0 ∷ 0 ∷ 0 ∷ []) (L seconds) ≡ L (without ltb eqb t seconds)
    closed_second o e = rw (as_seconds seconds, as_seconds (without ltb eqb t seconds)) (dropping ltb eqb second_order t second_words no_second second_wide wide_second A seconds_from long seconds_most rest seconds fits (ap is_held e))

    pub read_second : (o : Sums) → at ltb eqb t seconds ≡ some o → (j : ℕ) → j < second_wide → get_or (L seconds) (second_at (before ltb eqb t seconds) + j) 0 ≡ get_or (second_words (t, o)) j 0
    read_second o e j h = rw (as_seconds seconds) (reading ltb eqb second_order t second_words no_second second_wide wide_second A seconds_from long seconds_most rest seconds fits o j e h)

-- the count stands before them
pub set_seconds : (n v m : ℕ) (ring : Newest) (workers : List (Worker × Switching)) (seconds : List (ℕ × Sums)) (rest : List ℕ)
    → set (laid n m ring workers seconds rest) 0 v ≡ laid v m ring workers seconds rest
unfolding laid
set_seconds n v m ring workers seconds rest = refl

module _ (m : ℕ) (ring : Newest) (workers : List (Worker × Switching)) (rest : List ℕ) (t : ℕ) (seconds : List (ℕ × Sums)) (fits : length seconds ≤ seconds_most) (asc : Ascending ltb eqb seconds) where
  pub held_seconds : seconds_held (laid (length seconds) m ring workers seconds rest) ≡ length seconds
  unfolding laid
  held_seconds = min-eq_left fits

  pub place_second : (o : Option Sums) → at ltb eqb t seconds ≡ o
      → second_place (laid (length seconds) m ring workers seconds rest) t ≡ record { row = before ltb eqb t seconds; rows = length seconds; known = is_held o }
  unfolding second_place second_row
  place_second o e =
      let ws : List ℕ = laid (length seconds) m ring workers seconds rest in
      rw (
        held_seconds,
        found_last ltb eqb second_order no_second t seconds asc (earlier_second ws t) (early_is (length seconds) m ring workers rest t seconds fits) (that_second ws t) (that_is (length seconds) m ring workers rest t seconds fits),
        known ltb eqb second_order no_second t seconds (that_second ws t) (that_is (length seconds) m ring workers rest t seconds fits),
        e,
      )

-- ---- the workers

module _ (n m : ℕ) (ring : Newest) (seconds : List (ℕ × Sums)) (rest : List ℕ) where
  abbrev W : List (Worker × Switching) → List ℕ
  W workers = laid n m ring workers seconds rest

  -- the words before the workers, and behind them
  unfoldable B : List ℕ
  B = n ∷ m ∷ ring.left ∷ ring.slot ∷ ring_words ring

  unfoldable C : List ℕ
  C = flat second_words (pad no_second seconds_most seconds) ++ rest

  broad : length B ≡ workers_from
  unfolding B
  broad = rw (length_flat change_words change_wide wide_change, length_around, length_pad)

  as_workers : (workers : List (Worker × Switching)) → W workers ≡ table worker_words no_worker B workers_most workers C
  unfolding laid B C
  as_workers workers = refl

  module _ (w : Worker) (workers : List (Worker × Switching)) (fits : length workers ≤ workers_most) where
    key_is : (i : ℕ) → i < length workers → (get_or (W workers) (worker_at i) 0, get_or (W workers) (worker_at i + 1) 0) ≡ (get_or workers i no_worker).0
    key_is i h =
        let f : get_or (W workers) (worker_at i) 0 ≡ (get_or workers i no_worker).0.0 = rw (as_workers workers) (key_at worker_words no_worker worker_wide wide_worker B workers_from broad workers_most C workers fits i h (omega arith)) in
        let g : get_or (W workers) (worker_at i + 1) 0 ≡ (get_or workers i no_worker).0.1 = rw (as_workers workers) (word_at worker_words no_worker worker_wide wide_worker B workers_from broad workers_most C workers fits i 1 h (omega arith)) in
        rw (f, g)

    early_worker : (i : ℕ) → i < length workers → earlier_worker (W workers) w.0 w.1 i ≡ worker_less (get_or workers i no_worker).0 w
    early_worker i h = ap (λ (v : Worker). worker_less v w) (key_is i h)

    that_worker_lem : (i : ℕ) → i < length workers → that_worker (W workers) w.0 w.1 i ≡ worker_same (get_or workers i no_worker).0 w
    that_worker_lem i h = ap (λ (v : Worker). worker_same v w) (key_is i h)

    put_worker : (r : Switching) → (is_held (at worker_less worker_same w workers) ≡ false → length workers < workers_most)
        → placed worker_wide workers_from (before worker_less worker_same w workers) (length workers) (is_held (at worker_less worker_same w workers)) (worker_words (w, r)) (W workers) ≡ W (put_at worker_less worker_same w r workers)
    put_worker r f = rw (as_workers workers, as_workers (put_at worker_less worker_same w r workers)) (putting worker_less worker_same worker_order w worker_words no_worker worker_wide wide_worker B workers_from broad workers_most C workers fits r f)

    pub stored_worker : (o r : Switching) → at worker_less worker_same w workers ≡ some o → stored (worker_at (before worker_less worker_same w workers)) (worker_words (w, r)) (W workers) ≡ W (put_at worker_less worker_same w r workers)
    unfolding placed
    stored_worker o r e =
        let h : placed worker_wide workers_from (before worker_less worker_same w workers) (length workers) (is_held (at worker_less worker_same w workers)) (worker_words (w, r)) (W workers) ≡ W (put_at worker_less worker_same w r workers) =
        put_worker r (λ q. absurd (not_both (is_held (at worker_less worker_same w workers)) (ap is_held e) q)) in
        rw e at h

    pub opened_worker : (r : Switching) → at worker_less worker_same w workers ≡ none → length workers < workers_most
        → opened (worker_at (before worker_less worker_same w workers)) (worker_at (length workers)) (worker_words (w, r)) (W workers) ≡ W (put_at worker_less worker_same w r workers)
    unfolding placed
    opened_worker r e few =
        let h : placed worker_wide workers_from (before worker_less worker_same w workers) (length workers) (is_held (at worker_less worker_same w workers)) (worker_words (w, r)) (W workers) ≡ W (put_at worker_less worker_same w r workers) = put_worker r (λ q. few) in
        rw e at h

    pub closed_worker : (o : Switching) → at worker_less worker_same w workers ≡ some o
        → closed (worker_at (before worker_less worker_same w workers)) (worker_at (length workers - 1)) (0 ∷ 0 ∷ 0 ∷ 0 ∷ 0 ∷ []) (W workers) ≡ W (without worker_less worker_same w workers)
    closed_worker o e = rw (as_workers workers, as_workers (without worker_less worker_same w workers)) (dropping worker_less worker_same worker_order w worker_words no_worker worker_wide wide_worker B workers_from broad workers_most C workers fits (ap is_held e))

    pub read_worker : (o : Switching) → at worker_less worker_same w workers ≡ some o → (j : ℕ) → j < worker_wide → get_or (W workers) (worker_at (before worker_less worker_same w workers) + j) 0 ≡ get_or (worker_words (w, o)) j 0
    read_worker o e j h = rw (as_workers workers) (reading worker_less worker_same worker_order w worker_words no_worker worker_wide wide_worker B workers_from broad workers_most C workers fits o j e h)

pub set_workers : (n m v : ℕ) (ring : Newest) (workers : List (Worker × Switching)) (seconds : List (ℕ × Sums)) (rest : List ℕ)
    → set (laid n m ring workers seconds rest) 1 v ≡ laid n v ring workers seconds rest
unfolding laid
set_workers n m v ring workers seconds rest = refl

module _ (n : ℕ) (ring : Newest) (seconds : List (ℕ × Sums)) (rest : List ℕ) (w : Worker) (workers : List (Worker × Switching)) (fits : length workers ≤ workers_most) (asc : Ascending worker_less worker_same workers) where
  pub held_workers : workers_held (laid n (length workers) ring workers seconds rest) ≡ length workers
  unfolding laid
  held_workers = min-eq_left fits

  pub place_worker : (o : Option Switching) → at worker_less worker_same w workers ≡ o
      → worker_place (laid n (length workers) ring workers seconds rest) w.0 w.1 ≡ record { row = before worker_less worker_same w workers; rows = length workers; known = is_held o }
  unfolding worker_place worker_row
  place_worker o e =
      let ws : List ℕ = laid n (length workers) ring workers seconds rest in
      rw (
        held_workers,
        found worker_less worker_same worker_order no_worker w workers asc (earlier_worker ws w.0 w.1) (early_worker n (length workers) ring seconds rest w workers fits),
        known worker_less worker_same worker_order no_worker w workers (that_worker ws w.0 w.1) (that_worker_lem n (length workers) ring seconds rest w workers fits),
        e,
      )

-- ---- the changes

module _ (n m : ℕ) (workers : List (Worker × Switching)) (seconds : List (ℕ × Sums)) (rest : List ℕ) where
  -- the words behind the changes
  unfoldable D : List ℕ
  D = flat worker_words (pad no_worker workers_most workers) ++ (flat second_words (pad no_second seconds_most seconds) ++ rest)

  -- the words before them
  abbrev F : ℕ → ℕ → List ℕ
  F left slot = n ∷ m ∷ left ∷ slot ∷ []

  -- slots that are given row by row
  abbrev T : ℕ → ℕ → List (Change × Option Switching) → List ℕ
  T left slot rows = table change_words no_change (F left slot) changes_most rows D

  as_changes : (left slot : ℕ) (log rows : List (Change × Option Switching)) → around slot (pad no_change changes_most log) ≡ rows
      → laid n m (record { left = left; slot = slot; log = log }) workers seconds rest ≡ T left slot rows
  unfolding laid D
  as_changes left slot log rows e =
      let full : pad no_change changes_most rows ≡ rows = pad_full no_change changes_most rows (rw (← e, length_around, length_pad)) in
      rw (full, e)

  pub held_changes : (ring : Newest) → ring.left ≤ changes_most → available (laid n m ring workers seconds rest) ≡ ring.left
  unfolding laid
  held_changes ring h = min-eq_left h

  next_is : (ring : Newest) → ring.slot < changes_most → next_slot (laid n m ring workers seconds rest) ≡ ring.slot
  unfolding laid
  next_is ring h = min-eq_left (omega arith)

  -- a change kept as the newest: `now` are the changes that can be withdrawn then
  pub pushed_change : (left slot : ℕ) (q : Change × Option Switching) (log now : List (Change × Option Switching)) → left ≤ changes_most → slot < changes_most
      → q ∷ pad no_change (changes_most - 1) log ≡ pad no_change changes_most now
      → pushed (laid n m (record { left = left; slot = slot; log = log }) workers seconds rest) (change_words q)
      ≡ laid n m (record { left = min (left + 1) changes_most; slot = following slot; log = now }) workers seconds rest
  unfolding pushed
  pushed_change left slot q log now few inside e =
      let Q : List (Change × Option Switching) = pad no_change (changes_most - 1) log in
      let l : Change × Option Switching = get_or (pad no_change changes_most log) (changes_most - 1) no_change in
      let xs : List (Change × Option Switching) = reverse (take slot Q) in
      let ys : List (Change × Option Switching) = reverse (drop slot Q) in
      let so_many : length Q ≡ changes_most - 1 = length_pad no_change (changes_most - 1) log in
      let newer : length xs ≡ slot = before_slot slot Q (omega arith) in
      let before : around slot (pad no_change changes_most log) ≡ xs ++ l ∷ ys = ap (around slot) (pad_last no_change (changes_most - 1) log) ∙ around_next slot l Q (omega arith) in
      let after : around (following slot) (pad no_change changes_most now) ≡ xs ++ q ∷ ys = ap (around (following slot)) (sym e) ∙ around_newest slot q Q so_many inside in
      let full : length (xs ++ l ∷ ys) ≤ changes_most = rw (← before, length_around, length_pad) (le_refl changes_most) in
      let h : stored (change_at slot) (change_words q) (T left slot (xs ++ l ∷ ys)) ≡ T left slot (xs ++ q ∷ ys) =
      ap (λ (i : ℕ). stored (change_at i) (change_words q) (T left slot (xs ++ l ∷ ys))) (sym newer) ∙ stored_row change_words no_change change_wide wide_change (F left slot) changes_from refl changes_most D xs l q ys full in
      rw (held_changes (record { left = left; slot = slot; log = log }) few, next_is (record { left = left; slot = slot; log = log }) inside, as_changes left slot log (xs ++ l ∷ ys) before, h, as_changes (min (left + 1) changes_most) (following slot) now (xs ++ q ∷ ys) after)

  -- the newest of the changes: where it stands, its words, and it no longer kept
  module _ (slot : ℕ) (inside : slot < changes_most) (q : Change × Option Switching) (log : List (Change × Option Switching)) (few : length log ≤ changes_most - 1) where
    abbrev N : ℕ → List ℕ
    N left = laid n m (record { left = left; slot = following slot; log = q ∷ log }) workers seconds rest

    pub newest_is : (left : ℕ) → newest_slot (N left) ≡ slot
    unfolding newest_slot
    newest_is left = ap preceding (next_is (record { left = left; slot = following slot; log = q ∷ log }) (following_inside slot)) ∙ preceding_following slot inside

    abbrev Q : List (Change × Option Switching)
    Q = pad no_change (changes_most - 1) log

    abbrev xs : List (Change × Option Switching)
    xs = reverse (take slot Q)

    abbrev ys : List (Change × Option Switching)
    ys = reverse (drop slot Q)

    so_many : length Q ≡ changes_most - 1
    so_many = length_pad no_change (changes_most - 1) log

    newer : length xs ≡ slot
    newer = before_slot slot Q (rw so_many (omega arith))

    newest : around (following slot) (pad no_change changes_most (q ∷ log)) ≡ xs ++ q ∷ ys
    unfolding pad
    newest = around_newest slot q Q so_many inside

    full : length (xs ++ q ∷ ys) ≤ changes_most
    full = rw (← newest, length_around, length_pad) (le_refl changes_most)

    pub newest_word : (left j : ℕ) → j < change_wide → get_or (N left) (newest_at (N left) + j) 0 ≡ get_or (change_words q) j 0
    newest_word left j h =
        let there : get_or (T left (following slot) (xs ++ q ∷ ys)) (change_at slot + j) 0 ≡ get_or (change_words q) j 0 =
        ap (λ (i : ℕ). get_or (T left (following slot) (xs ++ q ∷ ys)) (change_at i + j) 0) (sym newer) ∙ word change_words no_change change_wide wide_change (F left (following slot)) changes_from refl changes_most D xs q ys j full h in
        rw (newest_is left, as_changes left (following slot) (q ∷ log) (xs ++ q ∷ ys) newest) there

    pub popped_change : (j : ℕ) → popped (N (suc j)) (suc j) ≡ laid n m (record { left = j; slot = slot; log = log }) workers seconds rest
    unfolding popped change_words
    popped_change j =
        let after : around slot (pad no_change changes_most log) ≡ xs ++ no_change ∷ ys = ap (around slot) (sym (pad_snoc no_change (changes_most - 1) log few)) ∙ around_next slot no_change Q (rw so_many (omega arith)) in
        let h : stored (change_at slot) (change_words no_change) (T (suc j) (following slot) (xs ++ q ∷ ys)) ≡ T (suc j) (following slot) (xs ++ no_change ∷ ys) =
        ap (λ (i : ℕ). stored (change_at i) (change_words no_change) (T (suc j) (following slot) (xs ++ q ∷ ys))) (sym newer) ∙ stored_row change_words no_change change_wide wide_change (F (suc j) (following slot)) changes_from refl changes_most D xs q no_change ys full in
        rw (newest_is (suc j), as_changes (suc j) (following slot) (q ∷ log) (xs ++ q ∷ ys) newest, h, as_changes j slot log (xs ++ no_change ∷ ys) after, sub-one)
