-- A worker's rounds that are asked for alike, and what an answer about its width says of them. Assumes nothing.
use Rattle.std.specs.Prelude.{ℕ, ◌≡◌, true, false, List}
use Rattle.switch_settings.specs.Switch.{is_unconstrained}
use Rattle.width_walk.specs.Walk.{walk_candidates}
use Rattle.settings.specs.declared.Settings.{Settings}
use Rattle.asked_rooms.specs.declared.Ask.{Ask}
use Rattle.asking.specs.Asked.{Lent}
use Rattle.deciding.specs.Deciding.{best_in}
use Rattle.planner.specs.Plan.{curve_of, best}
use Rattle.planner_laws.specs.Calls.{Call, plan, collect, withdraw}
use Rattle.width_way.specs.Way.{is_candidate, stands_still, away_from, walks_for, rounds_for, on_way}
use Rattle.width_way.specs.declared.Settling.{Settling}
use Rattle.width_way.specs.declared.Settling.TheVariants.{Within, NoStep, NoCandidate, AtOnce, Refused}
use Rattle.settling.specs.Settling.{PricesLent, candidates_in}
use Rattle.settling_laws.specs.Rounds.{Moves}

-- the prices among the lists that a plan is lent
abbrev pub prices_of : Lent → PricesLent
prices_of l = record { roofline = l.roofline; depths = l.depths; batches = l.batches; seconds = l.seconds }

module _ (s : Settings) (a : Ask) (p : PricesLent) (target : ℕ) where
  -- a plan with the same gamma, acceptance, switch settings and prices, whose best depth is the target; its batch and its rates may be any
  pub record SameAsked (t : Settings) (b : Ask) (l : Lent) : Type 0 where
    pub gamma_same : t.gamma ≡ s.gamma
    pub model_same : t.model ≡ s.model
    pub switch_same : t.switch ≡ s.switch
    pub depth_same : b.depth ≡ a.depth
    pub source_same : b.source ≡ a.source
    pub rows_same : b.rows ≡ a.rows
    pub prices_same : prices_of l ≡ p
    pub target_same : best_in (best t b l) t b l (curve_of t b l) ≡ target

  abbrev pub AskedAlike : Call → Type 0
  AskedAlike (plan t b l ds cs) = SameAsked t b l
  AskedAlike (collect x y) = Unit {0}
  AskedAlike withdraw = Unit {0}

  abbrev next : ℕ → ℕ
  next width = walk_candidates (candidates_in s a p) width target s.switch.max_step

  -- what each answer about a width says, and what it leaves of the buffer
  abbrev pub Says : ℕ → List ℕ → List ℕ → Settling → Type 0
  Says width widths left (Within rounds walks) =
      let away = away_from (candidates_in s a p) width target in
      Moves s.switch (candidates_in s a p) target
      × (rounds ≡ rounds_for s.switch away)
      × (walks ≡ walks_for s.switch.max_step away)
      × (left ≡ on_way s.switch.max_step (candidates_in s a p) target width walks widths)
  Says width widths left (NoStep w) = (is_unconstrained s.switch ≡ false) × (stands_still s.switch.max_step ≡ true) × (w ≡ next width) × (left ≡ widths)
  Says width widths left (NoCandidate w) = (is_unconstrained s.switch ≡ false) × (is_candidate (candidates_in s a p) target ≡ false) × (w ≡ next width) × (left ≡ widths)
  Says width widths left AtOnce = (is_unconstrained s.switch ≡ true) × (left ≡ widths)
  Says width widths left (Refused refusal) = left ≡ widths
