-- Each way out, over plain variables. Assumes nothing.
use Rattle.std.proofs.Common.{◌≡◌, ℕ, ◌+◌, ◌-◌, ◌%◌, ◌^◌, ◌<◌, ◌≤◌, min, max, Bool, true, false, List, arith, le-ltb, lt-ltb, eq-eqb, ne_eqb}
use Rattle.clock_marks.specs.Marks.{withdrawn, word_at, newest_of, holds_from, standing_from}
use Rattle.clock_reads.specs.declared.stands.Stand.{Stand}
use Rattle.clock_reads.specs.declared.shows.Shown.{Shown}
use Rattle.clock_reads.specs.Reads.{late, hour, back_by, forward_by, moved_by, last_of, stand_of, counted_again, first_again, shown_as, shown_by, shown_of, no_totals, totals_at}

-- ---- one clock

module _ (high second : ℕ) where
  pub back_ahead : high ≤ second → 0 ≡ back_by high second
  back_ahead h =
      let none : high - second < late = omega arith in
      rw (lt-ltb (high - second) late none)

  pub back_late : high - second < late → 0 ≡ back_by high second
  back_late h = rw (lt-ltb (high - second) late h)

  pub back_far : late ≤ high - second → high - second ≡ back_by high second
  back_far h = rw (le-ltb (high - second) late h)

  pub forward_behind : second ≤ high → 0 ≡ forward_by high second
  forward_behind h =
      let none : second - high ≤ hour = omega arith in
      rw (le-ltb hour (second - high) none)

  pub forward_far : hour < second - high → second - high ≡ forward_by high second
  forward_far h = rw (lt-ltb hour (second - high) h)

  pub forward_near : second - high ≤ hour → 0 ≡ forward_by high second
  forward_near h = rw (le-ltb hour (second - high) h)

module _ (old : Stand) (last second : ℕ) where
  pub moved_on : (by high : ℕ) → by ≡ back_by old.high second → by ≡ 0 → high ≡ max old.high second
      → record { high = high; until = old.until; earlier = old.earlier; again = old.again } ≡ moved_by old last second
  unfolding moved_by
  moved_on by high e h f = rw (← e, eq-eqb by 0 h, f)

  pub moved_back : (by earlier : ℕ) → by ≡ back_by old.high second → (by ≡ 0 → ⊥) → earlier ≡ max old.earlier old.high
      → record { high = second; until = last; earlier = earlier; again = 0 } ≡ moved_by old last second
  unfolding moved_by
  moved_back by earlier e h f = rw (← e, ne_eqb by 0 h, f)

-- ---- over the marks

module _ (ws : List ℕ) (ring : ℕ) where
  module _ (plans a b : ℕ) where
    pub last_few : (r : ℕ) → plans < ring - withdrawn → r ≡ newest_of ws ring a b plans plans → r ≡ last_of ws ring plans a b
    last_few r h e =
        let all : min plans (ring - withdrawn) ≡ plans = omega arith in
        rw all e

    pub last_many : (r : ℕ) → ring - withdrawn ≤ plans → r ≡ newest_of ws ring a b (ring - withdrawn) plans → r ≡ last_of ws ring plans a b
    last_many r h e =
        let kept : min plans (ring - withdrawn) ≡ ring - withdrawn = omega arith in
        rw kept e

  pub stand_none : (last second : ℕ) → last ≡ 0 → record { high = second; until = 0; earlier = 0; again = 0 } ≡ stand_of ws ring last second
  unfolding stand_of
  stand_none last second h = rw (eq-eqb last 0 h)

  pub stand_some : (last second high until earlier again : ℕ) → (last ≡ 0 → ⊥) → high ≡ word_at ws ring last 3 → until ≡ word_at ws ring last 4 → earlier ≡ word_at ws ring last 5 → again ≡ word_at ws ring last 7
      → record { high = high; until = until; earlier = earlier; again = again } ≡ stand_of ws ring last second
  unfolding stand_of
  stand_some last second high until earlier again h e f g i = rw (ne_eqb last 0 h, e, f, g, i)

  pub totals_none : (plans : ℕ) → plans ≡ 0 → no_totals ≡ totals_at ws ring plans
  unfolding totals_at
  totals_none plans h = rw (eq-eqb plans 0 h)

  pub totals_some : (plans workers back forward doubled : ℕ) → (plans ≡ 0 → ⊥) → workers ≡ word_at ws ring plans 8 → back ≡ word_at ws ring plans 9 → forward ≡ word_at ws ring plans 10 → doubled ≡ word_at ws ring plans 11
      → record { workers = workers; back = back; forward = forward; doubled = doubled } ≡ totals_at ws ring plans
  unfolding totals_at
  totals_some plans workers back forward doubled h e f g i = rw (ne_eqb plans 0 h, e, f, g, i)

  module _ (plans second : ℕ) (stand : Stand) where
    pub again_later : stand.earlier < second → 0 ≡ counted_again ws ring plans second stand
    unfolding counted_again
    again_later h = rw (lt-ltb stand.earlier second h)

    pub again_holds : (r : Bool) → second ≤ stand.earlier → r ≡ holds_from ws ring plans second (ring - withdrawn) stand.until → r ≡ true → 1 ≡ counted_again ws ring plans second stand
    unfolding counted_again
    again_holds r h e f = rw (le-ltb stand.earlier second h, ← e, f)

    pub again_not : (r : Bool) → second ≤ stand.earlier → r ≡ holds_from ws ring plans second (ring - withdrawn) stand.until → r ≡ false → 0 ≡ counted_again ws ring plans second stand
    unfolding counted_again
    again_not r h e f = rw (le-ltb stand.earlier second h, ← e, f)

    module _ (counted : ℕ) where
      pub first_not : counted ≡ 0 → 0 ≡ first_again ws ring plans second stand counted
      unfolding first_again
      first_not h = rw (eq-eqb counted 0 h)

      pub first_is : (r : ℕ) → (counted ≡ 0 → ⊥) → stand.again ≡ 0 → r ≡ standing_from ws ring plans second (ring - withdrawn) stand.until → r ≡ first_again ws ring plans second stand counted
      unfolding first_again
      first_is r h k e = rw (ne_eqb counted 0 h, eq-eqb stand.again 0 k) e

      pub first_past : (counted ≡ 0 → ⊥) → (stand.again ≡ 0 → ⊥) → 0 ≡ first_again ws ring plans second stand counted
      unfolding first_again
      first_past h k = rw (ne_eqb counted 0 h, ne_eqb stand.again 0 k)

  module _ (plans second : ℕ) where
    pub shown_all : (last back forward counted doubled again : ℕ) (old new : Stand) → back ≡ back_by old.high second → forward ≡ forward_by old.high second → new ≡ moved_by old last second
        → counted ≡ counted_again ws ring plans second new → doubled ≡ first_again ws ring plans second new counted → again ≡ (new.again + counted) % 2 ^ 64
        → record { last = last; back = back; forward = forward; high = new.high; until = new.until; earlier = new.earlier; again = again; counted = counted; doubled = doubled }
        ≡ shown_by ws ring plans second last old
    unfolding shown_as
    shown_all last back forward counted doubled again old new e f g h i j = rw (← g, j, i, h, f, e)

    pub shown_plan : (a b last : ℕ) (old : Stand) (r : Shown) → last ≡ last_of ws ring plans a b → old ≡ stand_of ws ring last second → r ≡ shown_by ws ring plans second last old → r ≡ shown_of ws ring plans a b second
    unfolding shown_of
    shown_plan a b last old r e f g = rw (← e, ← f) g
