-- From what the calls gave to the decision, policy by policy. Assumes nothing.
use Prim.Native.Nat.{ℕ, ◌+◌}
use mathlib.Core.Path.{◌≡◌, refl, sym, ap, ◌∙◌}
use mathlib.Core.Bool.{Bool, true, false, cond}
use mathlib.Core.List.{List, ◌++◌, append-nil}
use native.Mathlib.Omega.{arith}
use lib.ListN.{length, drop, replicate}
use lib.Seq.{drop-length}
use lib.Ieee.{Float, binary64, to_bits}
use Rattle.asking.proofs.Passed.{gamma_in_le}
use Rattle.switch_settings.specs.Switch.{is_unconstrained}
use Rattle.switching.specs.declared.Switching.{Switching}
use Rattle.ledger_rows.specs.declared.layout.Past.{Past}
use Rattle.ledger.specs.declared.answer.Decision.TheVariants.{Nothing, Put}
use Rattle.settings.specs.declared.Policy.{Policy}
use Rattle.settings.specs.declared.Policy.TheVariants.{Fixed, GoodputBudget, GatedBudget, GatedAggregate}
use Rattle.settings.specs.declared.Settings.{Settings}
use Rattle.settings.specs.Settings.{gamma_in, uses_costs, uses_signals}
use Rattle.asked_rooms.specs.declared.Ask.{Ask}
use Rattle.asking.specs.Asked.{Lent}
use Rattle.deciding.specs.Deciding.{Decided, mean_expected, toward, all_at, all_put, best_in, by_mean, by_gate, by_aggregate, decided_by}
use Rattle.gating.specs.Chains.{chains_by}
use Rattle.gating.specs.Batch.{Gate, gate_over, Batched}
use Rattle.deciding.specs.Ready.{looped, Ready}

-- ---- what a gated policy is ready with
pub batched : (s : Settings) (a : Ask) {past : Past} {bank : List Float} {indices : List ℕ} {curve : List Float} {drafts : List ℕ}
    → Ready s a past bank indices curve drafts → uses_costs s.policy ≡ true → uses_signals s.policy ≡ true → Batched s a (gamma_in s a.depth) indices curve drafts
batched s a r c u = record { shallow = omega (arith, gamma_in_le s a.depth, r.shallow); few = r.few; room = r.room; priced = r.priced c; indexed = r.indexed u }

-- ---- one draft for all
pub filled : (s : List ℕ) (i v : ℕ) → length s ≡ i → replicate i v ++ drop i s ≡ replicate (length s) v
filled s i v e = rw (← e, drop-length s, append-nil)

filled_all : (n m depth depth' : ℕ) (F : List ℕ) → F ≡ replicate m depth → m ≡ n → depth ≡ depth' → record { drafts = F; weighed = 0; change = Nothing } ≡ all_at n depth'
filled_all n m depth depth' F f e d = ap (λ (l : List ℕ). record { drafts = l; weighed = 0; change = Nothing }) (f ∙ ap (λ (k : ℕ). replicate k depth) e ∙ ap (replicate n) d)

-- ---- a new record
pub put_decides : (n a b m bits : ℕ) (r t : Switching) (F : List ℕ) → r ≡ t → F ≡ replicate m r.width → m ≡ n → bits ≡ to_bits binary64 r.stall
    → record { drafts = F; weighed = 0; change = Put a b r.width r.rounds bits } ≡ all_put n a b t
put_decides n a b m bits r t F e f l k =
    ap (λ (x : List ℕ). record { drafts = x; weighed = 0; change = Put a b r.width r.rounds bits }) (f ∙ ap (λ (i : ℕ). replicate i r.width) l)
    ∙ ap (λ (x : ℕ). record { drafts = replicate n r.width; weighed = 0; change = Put a b r.width r.rounds x }) k
    ∙ ap (all_put n a b) e

module _ (s : Settings) (a : Ask) (l : Lent) (curve : List Float) where
  -- ---- by the mean
  pub mean_decides : (g depth m : ℕ) (F : List ℕ) → g ≡ gamma_in s a.depth
      → depth ≡ looped s a l.loaded (mean_expected s.model l.positions l.bank_curve_of a.depth a.sequences g) curve
      → F ≡ replicate m depth → m ≡ a.sequences → record { drafts = F; weighed = 0; change = Nothing } ≡ by_mean (looped s a l.loaded) s a l curve
  mean_decides g depth m F p d f e =
      filled_all a.sequences m depth _ F f e (d ∙ ap (λ (k : ℕ). looped s a l.loaded (mean_expected s.model l.positions l.bank_curve_of a.depth a.sequences k) curve) p)

  -- ---- by the chains
  abbrev gated : Bool → ℕ → List ℕ → Gate
  gated own g drafts =
      gate_over own s.prices s.drafter a.rates l.loaded curve a.sequences g (chains_by s.model l.positions l.signals a.depth l.indices a.sequences g) drafts

  module _ (g depth weighed : ℕ) (D drafts : List ℕ) (p : g ≡ gamma_in s a.depth) where
    pub gate_decides : record { depth = depth; weighed = weighed; drafts = D } ≡ gated true g drafts → record { drafts = D; weighed = weighed; change = Nothing } ≡ by_gate (looped s a l.loaded) s a l curve
    unfolding gate_over
    gate_decides e = ap (λ (x : Gate). record { drafts = x.drafts; weighed = x.weighed; change = Nothing }) (e ∙ ap (λ (k : ℕ). gated true k drafts) p)

    module _ (e : record { depth = depth; weighed = weighed; drafts = D } ≡ gated false g drafts) where
      best_is : depth ≡ best_in (looped s a l.loaded) s a l curve
      unfolding gate_over
      best_is = ap (λ (x : Gate). x.depth) (e ∙ ap (λ (k : ℕ). gated false k drafts) p)

      pub drafts_stay : D ≡ drafts
      unfolding gate_over
      drafts_stay = ap (λ (x : Gate). x.drafts) e

      pub plain_decides : (F : List ℕ) (past : Past) → F ≡ replicate (length D) depth → length drafts ≡ a.sequences → is_unconstrained s.switch ≡ true
          → record { drafts = F; weighed = 0; change = Nothing } ≡ by_aggregate (looped s a l.loaded) s a l curve past
      plain_decides F past f n u =
          let b = best_in (looped s a l.loaded) s a l curve in
          filled_all a.sequences (length D) depth b F f (ap length drafts_stay ∙ n) best_is
          ∙ ap (λ (x : Bool). cond x (all_at a.sequences b) (all_put a.sequences a.a a.b (toward s.switch curve b past))) (sym u)

      pub aggregate_decides : (x : Decided) (past : Past) → x ≡ all_put a.sequences a.a a.b (toward s.switch curve depth past) → is_unconstrained s.switch ≡ false
          → x ≡ by_aggregate (looped s a l.loaded) s a l curve past
      aggregate_decides x past f u =
          let b = best_in (looped s a l.loaded) s a l curve in
          f ∙ ap (λ (d : ℕ). all_put a.sequences a.a a.b (toward s.switch curve d past)) best_is
          ∙ ap (λ (x : Bool). cond x (all_at a.sequences b) (all_put a.sequences a.a a.b (toward s.switch curve b past))) (sym u)

  -- ---- by the policy
  module _ (best : List Float → List Float → ℕ) (past : Past) where
    to_policy : (p q : Policy) → p ≡ q → decided_by best s a l curve q past ≡ decided_by best s a l curve p past
    to_policy p q e = ap (λ (x : Policy). decided_by best s a l curve x past) (sym e)

    pub fixed_policy : (m : ℕ) (F : List ℕ) → F ≡ replicate m s.gamma → m ≡ a.sequences → s.policy ≡ Fixed
        → record { drafts = F; weighed = 0; change = Nothing } ≡ decided_by best s a l curve s.policy past
    unfolding decided_by
    fixed_policy m F f n e = filled_all a.sequences m s.gamma s.gamma F f n refl ∙ to_policy s.policy Fixed e

    pub mean_policy : (x : Decided) → x ≡ by_mean best s a l curve → s.policy ≡ GoodputBudget → x ≡ decided_by best s a l curve s.policy past
    unfolding decided_by
    mean_policy x f e = f ∙ to_policy s.policy GoodputBudget e

    pub gate_policy : (x : Decided) → x ≡ by_gate best s a l curve → s.policy ≡ GatedBudget → x ≡ decided_by best s a l curve s.policy past
    unfolding decided_by
    gate_policy x f e = f ∙ to_policy s.policy GatedBudget e

    pub aggregate_policy : (x : Decided) → x ≡ by_aggregate best s a l curve past → s.policy ≡ GatedAggregate → x ≡ decided_by best s a l curve s.policy past
    unfolding decided_by
    aggregate_policy x f e = f ∙ to_policy s.policy GatedAggregate e
