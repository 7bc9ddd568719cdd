-- Each way out, over plain variables. Assumes nothing.
use mathlib.Core.Path.{◌≡◌, refl}
use mathlib.Core.List.{List, [], ◌∷◌, ◌++◌}
use Prim.Native.Nat.{ℕ, ◌+◌, ◌-◌, ◌≤◌, ◌<◌}
use native.Mathlib.Nat.{not-suc-le-zero}
use borrow.Author.Tests.{lt-ltb, le-ltb}
use lib.ListN.{length, get_or, drop, set}
use lib.Seq.{slice}
use Rattle.ledger_rows.specs.Words.{opened, closed}
use Rattle.day_clock.specs.Clock.{words, kept_by, mark_of, back_by, pushed, popped, passed_of, changed_of, taken_back_of}

-- ---- a mark put before the others, and the newest gone, as words that move

front_put : (ws : List ℕ) (mark v : ℕ) → words ≤ length ws → set (opened 1 65 (mark ∷ []) ws) 0 v ≡ v ∷ mark ∷ (slice 1 65 ws ++ drop 66 ws)
unfolding opened
front_put [] mark v h = absurd (not-suc-le-zero h)
front_put (w ∷ ws) mark v h = refl

front_gone : (ws : List ℕ) (v : ℕ) → words ≤ length ws → set (closed 1 65 (0 ∷ []) ws) 0 v ≡ v ∷ (slice 2 66 ws ++ (0 ∷ drop 66 ws))
unfolding closed
front_gone [] v h = absurd (not-suc-le-zero h)
front_gone (w ∷ ws) v h = refl

module _ (ws : List ℕ) where
  pub push_done : (mark kept v : ℕ) (after : List ℕ) → words ≤ length ws → kept ≡ kept_by (get_or ws 0 0) → v ≡ kept_by (kept + 1) → after ≡ opened 1 65 (mark ∷ []) ws
      → set after 0 v ≡ pushed mark ws
  unfolding pushed
  push_done mark kept v after h e f g = rw (g, f, e) (front_put ws mark _ h)

  -- ---- too few words

  pub passed_short : (second : ℕ) → length ws < words → (0, ws) ≡ passed_of ws second
  unfolding passed_of
  passed_short second h = rw (lt-ltb (length ws) words h)

  pub changed_short : length ws < words → ws ≡ changed_of ws
  unfolding changed_of
  changed_short h = rw (lt-ltb (length ws) words h)

  pub back_short : length ws < words → ws ≡ taken_back_of ws
  unfolding taken_back_of
  back_short h = rw (lt-ltb (length ws) words h)

  -- ---- enough

  module _ (long : words ≤ length ws) where
    pub passed_done : (second back mark : ℕ) (after : List ℕ) → back ≡ back_by (get_or ws 1 0) second → mark ≡ mark_of second → after ≡ pushed mark ws → (back, after) ≡ passed_of ws second
    unfolding passed_of
    passed_done second back mark after e f g = rw (le-ltb (length ws) words long, g, f, e)

    pub changed_done : (after : List ℕ) → after ≡ pushed (get_or ws 1 0) ws → after ≡ changed_of ws
    unfolding changed_of
    changed_done after g = rw (le-ltb (length ws) words long, g)

    pub back_done : (kept : ℕ) (after : List ℕ) → kept ≡ kept_by (get_or ws 0 0) → 0 < kept → after ≡ closed 1 65 (0 ∷ []) ws → set after 0 (kept - 1) ≡ taken_back_of ws
    unfolding taken_back_of popped
    back_done kept after e h g = rw (le-ltb (length ws) words long, ← e, lt-ltb 0 kept h, g) (front_gone ws (kept - 1) long)

    pub back_none : (kept : ℕ) → kept ≡ kept_by (get_or ws 0 0) → kept ≤ 0 → ws ≡ taken_back_of ws
    unfolding taken_back_of popped
    back_none kept e h = rw (le-ltb (length ws) words long, ← e, le-ltb 0 kept h)
