-- How long until a worker's width settles, by the settings and the prices of its GatedAggregate plans: what is refused, and the answer. Assumes nothing.
use Rattle.std.specs.Prelude.{ℕ, Bool, ◌&&◌, List, leb, length, Float, Ok, Err}
use Rattle.float.specs.Floats.{f0}
use Rattle.refusals.specs.declared.Refusal.TheVariants.{Input, ShortBuffer}
use Rattle.refusals.specs.Refusals.{Judgement, passed_if, and_then, number_of, number_in}
use Rattle.cost_rows.specs.Table.{Row, zip}
use Rattle.step_times.specs.Prices.{prices}
use Rattle.goodput.specs.Curve.{in_force}
use Rattle.switch_settings.specs.Switch.{switch_judged}
use Rattle.switching.specs.Deciding.{candidates_of, most_width}
use Rattle.settings.specs.Settings.{capped_by}
use Rattle.settings.specs.declared.Settings.{Settings}
use Rattle.asked_rooms.specs.declared.Ask.{Ask}
use Rattle.asked_rooms.specs.declared.Lengths.{Lengths}
use Rattle.asked_rooms.specs.Sizes.{sizes_judged}
use Rattle.asked_rooms.specs.Rooms.{price_rooms}
use Rattle.asked_values.specs.Values.{prices_valued}
use Rattle.width_way.specs.Way.{settled}
use Rattle.width_way.specs.declared.Settling.{Settling}
use Rattle.width_way.specs.declared.Settling.TheVariants.{Refused}

-- the lists that are lent: a roofline, and the columns of a table
pub record PricesLent : Type 0 where
  pub roofline : List Float
  pub depths : List ℕ
  pub batches : List ℕ
  pub seconds : List Float

abbrev pub table_in : Ask → PricesLent → List Row
table_in a l = zip a.rows l.depths l.batches l.seconds

-- the depth that such a plan may draft to
abbrev pub depth_in : Settings → Ask → ℕ
depth_in s a = capped_by s.model s.gamma a.depth

-- the prices of its plans. Which depths of a table have a price is the same for every batch and every kv_delta: here it is one sequence, and 0.0
abbrev pub curve_in : Settings → Ask → PricesLent → List Float
curve_in s a l = in_force l.roofline (prices 1 f0 (table_in a l)) a.source (depth_in s a)

abbrev pub candidates_in : Settings → Ask → PricesLent → List ℕ
candidates_in s a l = candidates_of (curve_in s a l)

-- ---- what is refused

-- the most walks: one for each candidate behind the first
abbrev pub most_walks : ℕ
most_walks = 64

-- how long the lists are, as the judge of a plan's rooms takes it; it reads these four
abbrev pub lengths_in : PricesLent → Lengths
lengths_in l = record {
  storage = 0;
  drafts = 0;
  commits = 0;
  roofline = length l.roofline;
  depths = length l.depths;
  batches = length l.batches;
  seconds = length l.seconds;
  loaded = 0;
  bank_commits = 0;
  signals = 0;
  bank_curve = 0;
}

-- the prices are all there, and the widths have room for every way
abbrev pub rooms_in : Settings → Ask → PricesLent → ℕ → Bool
rooms_in s a l room = price_rooms a.source (depth_in s a) a.rows (lengths_in l) && leb most_walks room

abbrev pub valued_in : Settings → Ask → PricesLent → ℕ → Bool
valued_in s a l width = leb width most_width && prices_valued a.source (depth_in s a) l.roofline (table_in a l)

-- the switch settings, the sizes, the rooms, then the values; no sequences and no rounds are asked for
unfoldable pub settles_judged : Settings → Ask → PricesLent → ℕ → ℕ → Judgement
settles_judged s a l width room =
    and_then (switch_judged s.switch)
    (and_then (sizes_judged s.model s.gamma 0 a.depth 0 a.source a.rows)
    (and_then (passed_if (rooms_in s a l room) ShortBuffer) (passed_if (valued_in s a l width) Input)))

-- its number, 0 where it passes
abbrev pub settles_refusal : Settings → Ask → PricesLent → ℕ → ℕ → ℕ
settles_refusal s a l width room = number_in (settles_judged s a l width room)

-- ---- the answer, and the buffer at exit; a refusal keeps it
abbrev pub settles_unless : Judgement → Settling × List ℕ → List ℕ → Settling × List ℕ
settles_unless (Ok passed) answer widths = answer
settles_unless (Err refusal) answer widths = (Refused (number_of refusal), widths)

unfoldable pub settles : Settings → Ask → PricesLent → ℕ → ℕ → List ℕ → Settling × List ℕ
settles s a l width target widths =
    settles_unless (settles_judged s a l width (length widths)) (settled (candidates_in s a l) width target s.switch widths) widths
