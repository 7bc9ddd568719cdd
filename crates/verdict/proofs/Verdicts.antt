-- The ways out of the functions that weigh a slot, and that a tally whose rate is that of its sums decides as the definition does. Assumes nothing.
use mathlib.Core.Path.{◌≡◌, refl, sym, ap, ◌∙◌}
use mathlib.Core.Bool.{Bool, true, false, cond}
use lib.Ieee.{Float, lt}
use Rattle.float.specs.Floats.{plus, less, f1, is_finite}
use Rattle.verify_prices.specs.Rule.{Rule}
use Rattle.verdict.specs.Decision.{Decision, passed, stopped, taken_if, rate_of, removal_at, removal_under, slot_at}
use Rattle.verdict.specs.Tallies.{sums_of, decision_of, Rated, StillRated, tallied, removed_at, added_at}
use Rattle.verdict.specs.declared.inner.Tally.{Tally}
use Rattle.verdict.specs.declared.inner.Verdict.{Verdict}
use Rattle.verdict.specs.declared.inner.Verdict.TheVariants.{Pass, Stop, Take}

-- ---- the ways out
module _ (t : Tally) (s margin vp rem : Float) (q : rem ≡ rate_of (less t.expected s) (less (plus vp t.drafter) margin)) where
  pub removed :
      (new : Tally) → new ≡ tallied (less t.expected s) (less t.tokens f1) (less t.drafter margin) vp → lt t.rate rem ≡ true
      → Take new ≡ removed_at t s margin vp
  unfolding removed_at
  removed new e h = rw (← q, h, e)

  pub kept : lt t.rate rem ≡ false → Pass ≡ removed_at t s margin vp
  unfolding removed_at
  kept h = rw (← q, h)

module _ (t : Tally) (s vn : Float) where
  pub unpriced : is_finite (plus vn t.drafter) ≡ false → Pass ≡ added_at t s vn
  unfolding added_at
  unpriced f = rw f

  module _ (f : is_finite (plus vn t.drafter) ≡ true) (nxt : Float) (q : nxt ≡ rate_of (plus t.expected s) (plus vn t.drafter)) where
    pub added :
        lt t.rate nxt ≡ true
        → Take (record { expected = plus t.expected s; tokens = plus t.tokens f1; drafter = t.drafter; rate = nxt }) ≡ added_at t s vn
    unfolding added_at
    added h = rw (f, ← q, h)

    pub ended : lt t.rate nxt ≡ false → Stop ≡ added_at t s vn
    unfolding added_at
    ended h = rw (f, ← q, h)

-- ---- the decisions
either_decided :
    (b : Bool) (v w : Verdict) (x y : Decision) → decision_of v ≡ x → decision_of w ≡ y → decision_of (cond b v w) ≡ cond b x y
either_decided true v w x y p q = p
either_decided false v w x y p q = q

either_rated : (price : Float → Float) (b : Bool) (v w : Verdict) → StillRated price v → StillRated price w → StillRated price (cond b v w)
either_rated price true v w p q = p
either_rated price false v w p q = q

module _ (price : Float → Float) (t : Tally) (r : Rated price t) where
  module _ (s margin vp : Float) (e : vp ≡ price (less t.tokens f1)) where
    pub removal_decided : decision_of (removed_at t s margin vp) ≡ removal_at price (sums_of t) s margin
    unfolding removed_at taken_if
    removal_decided = rw (← r, ← e) (either_decided (lt t.rate _) _ Pass _ passed refl refl)

    pub removal_rated : StillRated price (removed_at t s margin vp)
    unfolding removed_at
    removal_rated =
        either_rated price (lt t.rate _) (Take (tallied (less t.expected s) (less t.tokens f1) (less t.drafter margin) vp)) Pass
        (ap (λ (x : Float). rate_of (less t.expected s) (plus x (less t.drafter margin))) e) tt

  module _ (s vn : Float) (e : vn ≡ price (plus t.tokens f1)) where
    slot_decided : decision_of (added_at t s vn) ≡ slot_at price (sums_of t) s
    unfolding added_at taken_if
    slot_decided =
        rw (← r, ← e)
        (either_decided (is_finite (plus vn t.drafter)) _ Pass _ passed (either_decided (lt t.rate _) _ Stop _ stopped refl refl) refl)

    slot_rated : StillRated price (added_at t s vn)
    unfolding added_at
    slot_rated =
        let nxt = rate_of (plus t.expected s) (plus vn t.drafter) in
        let new : Tally = record { expected = plus t.expected s; tokens = plus t.tokens f1; drafter = t.drafter; rate = nxt } in
        either_rated price (is_finite (plus vn t.drafter)) (cond (lt t.rate nxt) (Take new) Stop) Pass
        (either_rated price (lt t.rate nxt) (Take new) Stop (ap (λ (x : Float). rate_of (plus t.expected s) (plus x t.drafter)) e) tt) tt

    pub slot_weighed : (v : Verdict) → v ≡ added_at t s vn → (decision_of v ≡ slot_at price (sums_of t) s) × StillRated price v
    slot_weighed v q = rw q (slot_decided, slot_rated)

-- ---- under a pricing rule
module _ (rule : Rule) (t : Tally) (s margin vp : Float) (e : vp ≡ rule.price (less t.tokens f1)) where
  shut_as : (b : Bool) → rule.shut vp ≡ b → cond b passed (removal_at rule.price (sums_of t) s margin) ≡ removal_under rule (sums_of t) s margin
  shut_as b h = ap (λ (x : Bool). cond x passed (removal_at rule.price (sums_of t) s margin)) (sym h ∙ ap rule.shut e)

  pub removal_shut : rule.shut vp ≡ true → (passed ≡ removal_under rule (sums_of t) s margin) × StillRated rule.price Pass
  removal_shut h = (shut_as true h, tt)

  pub removal_open :
      rule.shut vp ≡ false → Rated rule.price t → (v : Verdict) → v ≡ removed_at t s margin vp
      → (decision_of v ≡ removal_under rule (sums_of t) s margin) × StillRated rule.price v
  removal_open h r v q =
      rw q (removal_decided rule.price t r s margin vp e ∙ shut_as false h, removal_rated rule.price t r s margin vp e)

-- what is taken is rated
pub take_rated : (price : Float → Float) (v : Verdict) (t : Tally) → v ≡ Take t → StillRated price v → Rated price t
take_rated price v t e h = rw e at h
