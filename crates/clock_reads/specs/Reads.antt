-- What a worker's clock shows at a plan, over the marks of the plans that stand, on any content of the words.
use Rattle.std.specs.Prelude.{ℕ, ◌+◌, ◌-◌, ◌%◌, ◌^◌, min, max, cond, List, ◌==◌, nat_lt}
use Rattle.clock_marks.specs.Marks.{withdrawn, word_at, newest_of, holds_from, standing_from}
use Rattle.clock_reads.specs.declared.stands.Stand.{Stand}
use Rattle.clock_reads.specs.declared.shows.Shown.{Shown}
use Rattle.clock_reads.specs.declared.shows.Totals.{Totals}

-- ---- one clock

-- a report that comes less than so many seconds late is no note; a clock that goes forward by more than an hour is told
abbrev pub late : ℕ
late = 10

abbrev pub hour : ℕ
hour = 3600

-- by how many seconds a clock that stands at `high` goes back, and forward, where it shows a second
abbrev pub back_by : ℕ → ℕ → ℕ
back_by high second = cond (nat_lt (high - second) late) 0 (high - second)

abbrev pub forward_by : ℕ → ℕ → ℕ
forward_by high second = cond (nat_lt hour (second - high)) (second - high) 0

-- how it stands then: where it goes back, it starts anew at the second, and what it showed until then is earlier
unfoldable pub moved_by : Stand → ℕ → ℕ → Stand
moved_by old last second =
    cond (back_by old.high second == 0)
    (record { high = max old.high second; until = old.until; earlier = old.earlier; again = old.again })
    (record { high = second; until = last; earlier = max old.earlier old.high; again = 0 })

-- ---- what a plan shows, over the marks

-- the number of a worker's newest plan among the newest that the ring keeps, 0 where none is that worker's
abbrev pub last_of : List ℕ → ℕ → ℕ → ℕ → ℕ → ℕ
last_of ws ring plans a b = newest_of ws ring a b (min plans (ring - withdrawn)) plans

-- how the worker's clock stood after that plan: at the second at hand where there is none
unfoldable pub stand_of : List ℕ → ℕ → ℕ → ℕ → Stand
stand_of ws ring last second =
    cond (last == 0)
    (record { high = second; until = 0; earlier = 0; again = 0 })
    (record { high = word_at ws ring last 3; until = word_at ws ring last 4; earlier = word_at ws ring last 5; again = word_at ws ring last 7 })

-- 1 where a step is counted again: its second holds a step of the worker from before its clock last went back
unfoldable pub counted_again : List ℕ → ℕ → ℕ → ℕ → Stand → ℕ
counted_again ws ring plans second stand =
    cond (nat_lt stand.earlier second) 0 (cond (holds_from ws ring plans second (ring - withdrawn) stand.until) 1 0)

-- where it is the first since then: how many of those steps stand in its second or a later one
unfoldable pub first_again : List ℕ → ℕ → ℕ → ℕ → Stand → ℕ → ℕ
first_again ws ring plans second stand counted =
    cond (counted == 0) 0 (cond (stand.again == 0) (standing_from ws ring plans second (ring - withdrawn) stand.until) 0)

-- sums of words wrap round
abbrev pub plus : ℕ → ℕ → ℕ
plus x y = (x + y) % 2 ^ 64

-- all of it, from how the worker's clock stood after its plan before, and how it stands now
unfoldable pub shown_as : List ℕ → ℕ → ℕ → ℕ → ℕ → Stand → Stand → Shown
shown_as ws ring plans second last old new = record {
  last = last;
  back = back_by old.high second;
  forward = forward_by old.high second;
  high = new.high;
  until = new.until;
  earlier = new.earlier;
  again = plus new.again (counted_again ws ring plans second new);
  counted = counted_again ws ring plans second new;
  doubled = first_again ws ring plans second new (counted_again ws ring plans second new);
}

abbrev pub shown_by : List ℕ → ℕ → ℕ → ℕ → ℕ → Stand → Shown
shown_by ws ring plans second last old = shown_as ws ring plans second last old (moved_by old last second)

unfoldable pub shown_of : List ℕ → ℕ → ℕ → ℕ → ℕ → ℕ → Shown
shown_of ws ring plans a b second = shown_by ws ring plans second (last_of ws ring plans a b) (stand_of ws ring (last_of ws ring plans a b) second)

-- ---- the day's totals

abbrev pub no_totals : Totals
no_totals = record { workers = 0; back = 0; forward = 0; doubled = 0 }

-- after the newest of so many plans
unfoldable pub totals_at : List ℕ → ℕ → ℕ → Totals
totals_at ws ring plans =
    cond (plans == 0) no_totals
    (record { workers = word_at ws ring plans 8; back = word_at ws ring plans 9; forward = word_at ws ring plans 10; doubled = word_at ws ring plans 11 })
