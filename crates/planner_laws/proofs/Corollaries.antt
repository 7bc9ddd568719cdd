-- What follows for single plans, on any content of the storage: what a plan answers and leaves, that Fixed looks at no cost, how many draws are used and how
-- many slots are weighed. Assumes nothing.
use mathlib.Core.Path.{◌≡◌, refl, sym, ap, ◌∙◌}
use mathlib.Core.Bool.{Bool, true, false, cond}
use mathlib.Core.List.{List, [], ◌∷◌, ◌++◌}
use Prim.Native.Nat.{ℕ, zero, suc, ◌+◌, ◌*◌, ◌≤◌, zero-le}
use native.Mathlib.Omega.{arith}
use lib.Dec.{ltb, eqb}
use lib.Ieee.{Float}
use lib.ListN.{drop, replicate}
use Rattle.acceptance.specs.declared.AcceptanceModel.{AcceptanceModel}
use Rattle.acceptance.specs.declared.AcceptanceModel.TheVariants.{Constant, PerPosition, Trace}
use Rattle.speculative.specs.declared.drafter.Rates.{Rates}
use Rattle.speculative.specs.declared.drafter.DrafterCost.{DrafterCost}
use Rattle.switch_settings.specs.Switch.{is_unconstrained}
use Rattle.switch_settings.specs.declared.SwitchConstraints.{SwitchConstraints}
use Rattle.ledger_rows.specs.declared.layout.Past.{Past}
use Rattle.ledger_rows.proofs.Tests.{by_test}
use Rattle.ledger_workers.specs.Workers.{past_of}
use Rattle.ledger.specs.declared.answer.Decision.TheVariants.{Nothing}
use Rattle.ledger.specs.Calls.{recorded}
use Rattle.verify_prices.specs.declared.PriceMode.{PriceMode}
use Rattle.settings.specs.declared.Policy.{Policy}
use Rattle.settings.specs.declared.Policy.TheVariants.{Fixed, GoodputBudget, GatedBudget, GatedAggregate}
use Rattle.settings.specs.declared.Settings.{Settings}
use Rattle.settings.specs.Settings.{settings_judged, settings_refusal, gamma_in}
use Rattle.rounds.specs.Drawing.{and_used, replayed}
use Rattle.rounds.specs.declared.drawing.Drawn.{Drawn}
use Rattle.rounds.specs.declared.drawing.Drawn.TheVariants.{Used, Refused as NotDrawn}
use Rattle.asked_rooms.specs.declared.Ask.{Ask}
use Rattle.asking.specs.Asked.{Lent, asked_judged, asked_refusal, values_judged, values_refusal}
use Rattle.asked_rooms.specs.Rooms.{rooms_judged, rooms_refusal}
use Rattle.deciding.specs.Deciding.{Decided, chains_in, best_in, decided_by}
use Rattle.judged_plans.specs.declared.Planned.{Planned}
use Rattle.judged_plans.specs.declared.Planned.TheVariants.{Plan, Empty, Refused}
use Rattle.planning.specs.Acting.{step_of}
use Rattle.planner.specs.Plan.{Left, curve_of, drawn_by, drawn, signals_refusal, best, plan_refusal, made, unless_refused, nothing_planned, planned}
use Rattle.deciding.proofs.Gated.{gate_weighed}

-- ---- an accepted plan

module _ (s : Settings) (a : Ask) (l : Lent) (ws ds cs : List ℕ) where
  abbrev pub decision : Decided
  decision = decided_by (best s a l) s a l (curve_of s a l) s.policy (past_of ws a.a a.b)

  pub record Planning (used weighed : ℕ) (left : Left) : Type 0 where
    -- the draws used are those of the rounds, and the slots weighed those of the decision
    pub draws_are : (drawn s a l).answer ≡ Used used
    pub weighed_are : weighed ≡ decision.weighed
    -- the storage has the step and the change; drafts and commits stand at the fronts
    pub storage_is : left.storage ≡ (recorded ws (step_of a decision.drafts (drawn s a l).commits) decision.change).1
    pub drafts_are : left.drafts ≡ decision.drafts ++ drop a.sequences ds
    pub commits_are : left.commits ≡ (drawn s a l).commits ++ drop a.sequences cs

  module _ (used weighed : ℕ) where
    abbrev Is : Left → Type 0
    Is left = left.answer ≡ Plan used weighed → Planning used weighed left

    no_plan : (other : Planned) (left : Left) → left.answer ≡ other → ((u w : ℕ) → other ≡ Plan u w → ⊥) → Is left
    no_plan other left e none q = absurd (none used weighed (sym e ∙ q))

    refused_is : (n : ℕ) → Is (record { answer = Refused n; storage = ws; drafts = ds; commits = cs })
    refused_is n = no_plan (Refused n) _ refl (λ u w e. let z : ◌≡◌ {A = ℕ} 0 1 = cc in omega arith)

    empty_is : Is (nothing_planned s a l ws ds cs)
    empty_is = no_plan Empty _ refl (λ u w e. let z : ◌≡◌ {A = ℕ} 0 1 = cc in omega arith)

    unless_is : (n : ℕ) (left : Left) → Is left → Is (unless_refused s a l ws ds cs n left)
    unless_is zero left h = h
    unless_is (suc n) left h = refused_is (suc n)

    either_is : (b : Bool) (x y : Left) → Is x → Is y → Is (cond b x y)
    either_is true x y p q = p
    either_is false x y p q = q

    made_is : (draws : Drawn) → (drawn s a l).answer ≡ draws → Is (made s a l ws ds cs draws decision)
    unfolding made
    made_is (NotDrawn number) e = refused_is number
    made_is (Used n) e = λ q. record { draws_are = cc; weighed_are = cc; storage_is = refl; drafts_are = refl; commits_are = refl }

    pub plan_is : (planned s a l ws ds cs).answer ≡ Plan used weighed → Planning used weighed (planned s a l ws ds cs)
    unfolding planned
    plan_is =
        let m : Left = made s a l ws ds cs (drawn s a l).answer decision in
        let u : Left = unless_refused s a l ws ds cs (plan_refusal s a l ws ds cs) m in
        unless_is (settings_refusal s l.positions) (cond (eqb a.sequences 0) (nothing_planned s a l ws ds cs) u)
        (either_is (eqb a.sequences 0) (nothing_planned s a l ws ds cs) u empty_is (unless_is (plan_refusal s a l ws ds cs) m (made_is (drawn s a l).answer refl)))

-- ---- slots are weighed by GatedBudget alone

module _ (s : Settings) (a : Ask) (l : Lent) (past : Past) where
  abbrev under : Policy → Decided
  under policy = decided_by (best s a l) s a l (curve_of s a l) policy past

  none_weighed : (policy : Policy) → (policy ≡ GatedBudget → ⊥) → (under policy).weighed ≡ 0
  unfolding decided_by
  none_weighed Fixed h = refl
  none_weighed GoodputBudget h = refl
  none_weighed GatedBudget h = absurd (h refl)
  none_weighed GatedAggregate h = by_test (is_unconstrained s.switch) (λ q. rw q) (λ q. rw q)

  -- an unconstrained GatedAggregate puts no record
  pub record_untouched : is_unconstrained s.switch ≡ true → (under GatedAggregate).change ≡ Nothing
  unfolding decided_by
  record_untouched q = rw q

  -- and no more than the chains have slots
  few_weighed : (policy : Policy) → (under policy).weighed ≤ a.sequences * gamma_in s a.depth
  unfolding decided_by
  few_weighed Fixed = zero-le
  few_weighed GoodputBudget = zero-le
  few_weighed GatedBudget = gate_weighed a.sequences (gamma_in s a.depth) s.prices s.drafter a.rates l.loaded (curve_of s a l) (chains_in (best s a l) s a l (curve_of s a l)) (best_in (best s a l) s a l (curve_of s a l))
  few_weighed GatedAggregate = by_test (is_unconstrained s.switch) (λ q. rw q zero-le) (λ q. rw q zero-le)

-- ---- a trace draws one index for each sequence

and_used_lem : (n m : ℕ) (later : Drawn) → ((u : ℕ) → later ≡ Used u → u ≡ m) → (u : ℕ) → and_used n later ≡ Used u → u ≡ n + m
and_used_lem n m (Used k) h u e = let x : k ≡ m = h k refl in let y : n + k ≡ u = cc in omega arith
and_used_lem n m (NotDrawn number) h u e = absurd (let z : ◌≡◌ {A = ℕ} 0 1 = cc in omega arith)

refused_drawn : (number u : ℕ) → NotDrawn number ≡ Used u → ⊥
refused_drawn number u e = let z : ◌≡◌ {A = ℕ} 0 1 = cc in omega arith

replayed_all : (commits : List ℕ) (rounds n : ℕ) (indices : List ℕ) (u : ℕ) → (replayed commits rounds n indices).answer ≡ Used u → u ≡ n
unfolding replayed
replayed_all commits rounds zero indices u e = cc
replayed_all commits rounds (suc n) [] u e = absurd (refused_drawn 13 u e)
replayed_all commits rounds (suc n) (i ∷ indices) u e = by_test (ltb i rounds)
    (λ q. let z = and_used_lem 1 n (replayed commits rounds n indices).answer (replayed_all commits rounds n indices) u (rw q at e) in omega arith)
    (λ q. absurd (refused_drawn 14 u (rw q at e)))

module _ (s : Settings) (a : Ask) (l : Lent) where
  trace_drawn : (model : AcceptanceModel) (u : ℕ) → model ≡ Trace → (drawn_by s a l model).answer ≡ Used u → u ≡ a.sequences
  unfolding drawn_by
  trace_drawn (Constant alpha) u t e = absurd (let z : ◌≡◌ {A = ℕ} 0 1 = cc in omega arith)
  trace_drawn PerPosition u t e = absurd (let z : ◌≡◌ {A = ℕ} 0 1 = cc in omega arith)
  trace_drawn Trace u t e = replayed_all l.bank_commits_of a.rounds a.sequences l.indices u e

  module _ (ws ds cs : List ℕ) (used weighed : ℕ) where
    pub trace_uses : s.model ≡ Trace → (planned s a l ws ds cs).answer ≡ Plan used weighed → used ≡ a.sequences
    trace_uses t e = trace_drawn s.model used t (plan_is s a l ws ds cs used weighed e).draws_are

    pub weighs_nothing : (s.policy ≡ GatedBudget → ⊥) → (planned s a l ws ds cs).answer ≡ Plan used weighed → weighed ≡ 0
    weighs_nothing h e = (plan_is s a l ws ds cs used weighed e).weighed_are ∙ none_weighed s a l (past_of ws a.a a.b) s.policy h

    pub weighs_few : (planned s a l ws ds cs).answer ≡ Plan used weighed → weighed ≤ a.sequences * gamma_in s a.depth
    weighs_few e = rw (plan_is s a l ws ds cs used weighed e).weighed_are (few_weighed s a l (past_of ws a.a a.b) s.policy)

-- ---- all policies draw alike, and Fixed drafts the uncapped gamma

-- other settings than those of the model
abbrev pub under_policy : Settings → Policy → Settings
under_policy s policy = record { gamma = s.gamma; model = s.model; policy = policy; switch = s.switch; drafter = s.drafter; prices = s.prices }

drawn_alike : (s : Settings) (policy : Policy) (a : Ask) (l : Lent) (model : AcceptanceModel) → drawn_by (under_policy s policy) a l model ≡ drawn_by s a l model
unfolding drawn_by
drawn_alike s policy a l (Constant alpha) = refl
drawn_alike s policy a l PerPosition = refl
drawn_alike s policy a l Trace = refl

pub all_draw_alike : (s : Settings) (policy : Policy) (a : Ask) (l : Lent) → drawn (under_policy s policy) a l ≡ drawn s a l
all_draw_alike s policy a l = drawn_alike s policy a l s.model

fixed_drafts : (s : Settings) (a : Ask) (l : Lent) (past : Past) (policy : Policy) → policy ≡ Fixed → (decided_by (best s a l) s a l (curve_of s a l) policy past).drafts ≡ replicate a.sequences s.gamma
unfolding decided_by
fixed_drafts s a l past Fixed e = refl
fixed_drafts s a l past GoodputBudget e = absurd (let z : ◌≡◌ {A = ℕ} 0 1 = cc in omega arith)
fixed_drafts s a l past GatedBudget e = absurd (let z : ◌≡◌ {A = ℕ} 0 1 = cc in omega arith)
fixed_drafts s a l past GatedAggregate e = absurd (let z : ◌≡◌ {A = ℕ} 0 1 = cc in omega arith)

pub fixed_is_uncapped : (s : Settings) (a : Ask) (l : Lent) (ws ds cs : List ℕ) (used weighed : ℕ) → s.policy ≡ Fixed → (planned s a l ws ds cs).answer ≡ Plan used weighed
    → (planned s a l ws ds cs).drafts ≡ replicate a.sequences s.gamma ++ drop a.sequences ds
fixed_is_uncapped s a l ws ds cs used weighed p e =
    (plan_is s a l ws ds cs used weighed e).drafts_are ∙ ap (λ (x : List ℕ). x ++ drop a.sequences ds) (fixed_drafts s a l (past_of ws a.a a.b) s.policy p)

-- ---- Fixed looks at no cost, no signal and no bank curve

-- other rates
abbrev pub rated : Ask → Rates → Ask
rated a rates = record { a = a.a; b = a.b; sequences = a.sequences; end = a.end; rates = rates; source = a.source; rows = a.rows; depth = a.depth; rounds = a.rounds }

-- other prices, experts, signals and values
abbrev pub priced : Lent → List Float → List ℕ → List ℕ → List Float → List Float → List Float → List Float → Lent
priced l roofline depths batches seconds loaded signals curve = record {
  positions = l.positions;
  roofline = roofline;
  depths = depths;
  batches = batches;
  seconds = seconds;
  loaded = loaded;
  bank_commits_of = l.bank_commits_of;
  signals = signals;
  bank_curve_of = curve;
  draws = l.draws;
  indices = l.indices;
}

module _ (gamma : ℕ) (model : AcceptanceModel) (switch : SwitchConstraints) (drafter : DrafterCost) (prices : PriceMode) where
  abbrev pub fixed : Settings
  fixed = record { gamma = gamma; model = model; policy = Fixed; switch = switch; drafter = drafter; prices = prices }

module _ (gamma : ℕ) (switch : SwitchConstraints) (drafter : DrafterCost) (prices : PriceMode) (a : Ask) (rates : Rates) (l : Lent) (roofline : List Float) (depths batches : List ℕ) (seconds loaded signals curve : List Float) (ws ds cs : List ℕ) where
  abbrev a' : Ask
  a' = rated a rates

  abbrev l' : Lent
  l' = priced l roofline depths batches seconds loaded signals curve

  pub fixed_is_costless : (model : AcceptanceModel) → planned (fixed gamma model switch drafter prices) a' l' ws ds cs ≡ planned (fixed gamma model switch drafter prices) a l ws ds cs
  unfolding planned plan_refusal asked_judged rooms_judged values_judged signals_refusal drawn_by decided_by made
  fixed_is_costless (Constant alpha) = refl
  fixed_is_costless PerPosition = refl
  fixed_is_costless Trace = refl

-- ---- GatedBudget alone reads the price mode: any other plan is the same in both
module _ (gamma : ℕ) (model : AcceptanceModel) (switch : SwitchConstraints) (drafter : DrafterCost) where
  abbrev pub priced_by : PriceMode → Policy → Settings
  priced_by mode policy = record { gamma = gamma; model = model; policy = policy; switch = switch; drafter = drafter; prices = mode }

  pub mode_unread : (a : Ask) (l : Lent) (ws ds cs : List ℕ) (mode other : PriceMode) (policy : Policy) → (policy ≡ GatedBudget → ⊥)
      → planned (priced_by mode policy) a l ws ds cs ≡ planned (priced_by other policy) a l ws ds cs
  unfolding planned plan_refusal asked_judged rooms_judged values_judged signals_refusal drawn_by decided_by made settings_judged curve_of
  mode_unread a l ws ds cs mode other Fixed h = refl
  mode_unread a l ws ds cs mode other GoodputBudget h = refl
  mode_unread a l ws ds cs mode other GatedBudget h = absurd (h refl)
  mode_unread a l ws ds cs mode other GatedAggregate h = refl
