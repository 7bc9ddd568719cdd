-- What the code keeps of a gate's sums: with them the rate that they make, so that it is computed once. Inner to the gates. Assumes nothing.
use Rattle.std.specs.Prelude.{◌≡◌, cond, Float}
use Rattle.std.specs.Float.Ieee.{lt}
use Rattle.float.specs.Floats.{plus, less, f1, is_finite}
use Rattle.verdict.specs.Decision.{Sums, Decision, passed, stopped, taken, rate_of, rate_now}
use Rattle.verdict.specs.declared.inner.Tally.{Tally}
use Rattle.verdict.specs.declared.inner.Verdict.{Verdict}
use Rattle.verdict.specs.declared.inner.Verdict.TheVariants.{Pass, Stop, Take}

abbrev pub sums_of : Tally → Sums
sums_of t = record { expected = t.expected; tokens = t.tokens; drafter = t.drafter }

abbrev pub decision_of : Verdict → Decision
decision_of Pass = passed
decision_of Stop = stopped
decision_of (Take t) = taken (sums_of t)

-- the rate is that of the sums
abbrev pub Rated : (Float → Float) → Tally → Type 0
Rated price t = t.rate ≡ rate_now price (sums_of t)

abbrev pub StillRated : (Float → Float) → Verdict → Type 0
StillRated price Pass = Unit {0}
StillRated price Stop = Unit {0}
StillRated price (Take t) = Rated price t

-- with the price of its tokens
abbrev pub tallied : Float → Float → Float → Float → Tally
tallied expected tokens drafter price = record { expected = expected; tokens = tokens; drafter = drafter; rate = rate_of expected (plus price drafter) }

-- without a slot, where vp is the price of one token less
unfoldable pub removed_at : Tally → Float → Float → Float → Verdict
removed_at t s margin vp =
    cond (lt t.rate (rate_of (less t.expected s) (less (plus vp t.drafter) margin)))
    (Take (tallied (less t.expected s) (less t.tokens f1) (less t.drafter margin) vp)) Pass

-- with one more, where vn is the price of one token more
unfoldable pub added_at : Tally → Float → Float → Verdict
added_at t s vn =
    let seconds = plus vn t.drafter in
    let nxt = rate_of (plus t.expected s) seconds in
    cond (is_finite seconds)
    (cond (lt t.rate nxt) (Take (record { expected = plus t.expected s; tokens = plus t.tokens f1; drafter = t.drafter; rate = nxt })) Stop)
    Pass
