-- ONLY WHAT IS USED IS LOOKED AT, on any content of the storage: what a plan does not use may hold anything and be of any length, and neither its answer nor anything
-- that it leaves differs. Assumes nothing.
use mathlib.Core.Path.{◌≡◌, refl, sym, ap, ◌∙◌}
use mathlib.Core.Bool.{true, false}
use mathlib.Core.List.{List}
use Prim.Native.Nat.{ℕ, ◌+◌, ◌*◌}
use lib.Dec.{leb}
use lib.Ieee.{Float}
use lib.ListN.{length, take}
use Rattle.acceptance.specs.declared.AcceptanceModel.{AcceptanceModel}
use Rattle.acceptance.specs.declared.AcceptanceModel.TheVariants.{Constant, PerPosition, Trace}
use Rattle.speculative.specs.declared.drafter.DrafterCost.{DrafterCost}
use Rattle.speculative.specs.declared.drafter.DrafterCost.TheVariants.{Fraction, Autoregressive, BlockParallel}
use Rattle.speculative.specs.Drafter.{loaded_at}
use Rattle.speculative.specs.declared.drafter.Rates.{Rates}
use Rattle.chains.specs.Tests.{all_of, is_price, is_accepted}
use Rattle.block.specs.Block.{block_gate}
use Rattle.trim.specs.Ragged.{ragged_gate}
use Rattle.cost_rows.specs.Table.{Row}
use Rattle.step_times.specs.Prices.{prices}
use Rattle.goodput.specs.Curve.{in_force}
use Rattle.goodput.specs.declared.curve.Source.{Source}
use Rattle.goodput.specs.declared.curve.Source.TheVariants.{Roofline, Table}
use Rattle.switch_settings.specs.declared.SwitchConstraints.{SwitchConstraints}
use Rattle.ledger_rows.specs.declared.layout.Past.{Past}
use Rattle.ledger_rows.proofs.Tests.{by_test}
use Rattle.settings.specs.declared.Policy.{Policy}
use Rattle.settings.specs.declared.Policy.TheVariants.{Fixed, GoodputBudget, GatedBudget, GatedAggregate}
use Rattle.settings.specs.declared.Settings.{Settings}
use Rattle.settings.specs.Settings.{gamma_in, uses_costs, uses_signals, is_trace}
use Rattle.rounds.specs.Signals.{round_chains}
use Rattle.asked_rooms.specs.declared.Ask.{Ask}
use Rattle.asking.specs.Asked.{Lent, table_of, lengths_of, costs_valued, values_judged, values_refusal}
use Rattle.asking.specs.Values.{prices_valued, loaded_valued, policy_valued}
use Rattle.asked_rooms.specs.Rooms.{price_rooms, loaded_room, cost_rooms, signal_rooms, bank_rooms}
use Rattle.verify_prices.specs.declared.PriceMode.{PriceMode}
use Rattle.gating.specs.Chains.{chains_by, gate_at}
use Rattle.deciding.specs.Deciding.{mean_expected, each, best_in, decided_by}
use Rattle.planner_laws.specs.Used.{is_table, reads_loaded, reads_curve, SameLists, SameUsed}
use Rattle.planner.specs.Plan.{depth_of, curve_of, drawn_by, drawn, signals_refusal, best, planned}
use Rattle.planner_laws.proofs.Alike.{alike}
use Rattle.planner_laws.proofs.Fronts.{enough, bank_values_lem, replayed_front}

-- ---- the parts, of lists that are the same where they are used

module _ (a : Ask) (l m : Lent) where
  -- prices
  abbrev Tables : Type 0
  Tables = (l.depths ≡ m.depths) × (l.batches ≡ m.batches) × (l.seconds ≡ m.seconds)

  module _ (source : Source) (g : ℕ) (roof : is_table source ≡ false → take (g + 1) l.roofline ≡ take (g + 1) m.roofline) (table : is_table source ≡ true → Tables) where
    price_rooms_lem : (rows n drafts commits : ℕ) → price_rooms source g rows (lengths_of l n drafts commits) ≡ price_rooms source g rows (lengths_of m n drafts commits)
    price_rooms_lem rows n drafts commits = go source roof table
      where
        go : (source : Source) → (is_table source ≡ false → take (g + 1) l.roofline ≡ take (g + 1) m.roofline) → (is_table source ≡ true → Tables)
            → price_rooms source g rows (lengths_of l n drafts commits) ≡ price_rooms source g rows (lengths_of m n drafts commits)
        go Roofline p q = enough (g + 1) l.roofline m.roofline (p refl)
        go Table p q = let t = q refl in cc (t.0, t.1, t.2)

    table_is : is_table source ≡ true → table_of a l ≡ table_of a m
    table_is e = let t = table e in cc (t.0, t.1, t.2)

    prices_valued_lem : prices_valued source g l.roofline (table_of a l) ≡ prices_valued source g m.roofline (table_of a m)
    prices_valued_lem = go source roof table_is
      where
        go : (source : Source) → (is_table source ≡ false → take (g + 1) l.roofline ≡ take (g + 1) m.roofline) → (is_table source ≡ true → table_of a l ≡ table_of a m)
            → prices_valued source g l.roofline (table_of a l) ≡ prices_valued source g m.roofline (table_of a m)
        go Roofline p q = ap (all_of is_price) (p refl)
        go Table p q = ap (λ (x : List Row). prices_valued Table g l.roofline x) (q refl)

    prices_are : in_force l.roofline (prices a.sequences a.rates.kv_delta (table_of a l)) source g ≡ in_force m.roofline (prices a.sequences a.rates.kv_delta (table_of a m)) source g
    prices_are = go source roof table_is
      where
        go : (source : Source) → (is_table source ≡ false → take (g + 1) l.roofline ≡ take (g + 1) m.roofline) → (is_table source ≡ true → table_of a l ≡ table_of a m)
            → in_force l.roofline (prices a.sequences a.rates.kv_delta (table_of a l)) source g ≡ in_force m.roofline (prices a.sequences a.rates.kv_delta (table_of a m)) source g
        go Roofline p q = p refl
        go Table p q = ap (λ (x : List Row). take (g + 1) (prices a.sequences a.rates.kv_delta x)) (q refl)

  -- experts
  loaded_rooms : (kind : DrafterCost) → (reads_loaded kind ≡ true → l.loaded ≡ m.loaded) → (k n drafts commits : ℕ) → loaded_room kind k (lengths_of l n drafts commits) ≡ loaded_room kind k (lengths_of m n drafts commits)
  loaded_rooms (Fraction frac) e k n drafts commits = refl
  loaded_rooms (Autoregressive dense expert experts each shared) e k n drafts commits = ap (λ (x : List Float). leb (k + 1) (length x)) (e refl)
  loaded_rooms (BlockParallel params block) e k n drafts commits = refl

  loaded_valued_lem : (kind : DrafterCost) → (reads_loaded kind ≡ true → l.loaded ≡ m.loaded) → (k : ℕ) → loaded_valued kind k l.loaded ≡ loaded_valued kind k m.loaded
  loaded_valued_lem (Fraction frac) e k = refl
  loaded_valued_lem (Autoregressive dense expert experts each shared) e k = ap (loaded_valued (Autoregressive dense expert experts each shared) k) (e refl)
  loaded_valued_lem (BlockParallel params block) e k = refl

  loaded_is : (kind : DrafterCost) → (reads_loaded kind ≡ true → l.loaded ≡ m.loaded) → (k : ℕ) → loaded_at kind l.loaded k ≡ loaded_at kind m.loaded k
  loaded_is (Fraction frac) e k = refl
  loaded_is (Autoregressive dense expert experts each shared) e k = ap (λ (x : List Float). loaded_at (Autoregressive dense expert experts each shared) x k) (e refl)
  loaded_is (BlockParallel params block) e k = refl

  gate_is : (mode : PriceMode) (kind : DrafterCost) → (reads_loaded kind ≡ true → l.loaded ≡ m.loaded) → (rates : Rates) (curve : List Float) (n g : ℕ) (chains : List Float) (depth : ℕ)
      → gate_at mode kind rates l.loaded curve n g chains depth ≡ gate_at mode kind rates m.loaded curve n g chains depth
  unfolding block_gate ragged_gate
  gate_is mode (Fraction frac) e rates curve n g chains depth = refl
  gate_is mode (Autoregressive dense expert experts each shared) e rates curve n g chains depth = ap (λ (x : List Float). gate_at mode (Autoregressive dense expert experts each shared) rates x curve n g chains depth) (e refl)
  gate_is mode (BlockParallel params block) e rates curve n g chains depth = refl

  -- a bank
  abbrev Rounds : Type 0
  Rounds = (l.bank_commits_of ≡ m.bank_commits_of) × (take a.sequences l.indices ≡ take a.sequences m.indices)

  signal_rooms_lem : (policy : Policy) (g : ℕ) → (reads_curve policy ≡ true → take (g + 1) l.bank_curve_of ≡ take (g + 1) m.bank_curve_of) → (uses_signals policy ≡ true → l.signals ≡ m.signals) → (depth rounds n drafts commits : ℕ)
      → signal_rooms policy g depth rounds (lengths_of l n drafts commits) ≡ signal_rooms policy g depth rounds (lengths_of m n drafts commits)
  signal_rooms_lem Fixed g c e depth rounds n drafts commits = refl
  signal_rooms_lem GoodputBudget g c e depth rounds n drafts commits = enough (g + 1) l.bank_curve_of m.bank_curve_of (c refl)
  signal_rooms_lem GatedBudget g c e depth rounds n drafts commits = ap (λ (x : List Float). leb (rounds * depth) (length x)) (e refl)
  signal_rooms_lem GatedAggregate g c e depth rounds n drafts commits = ap (λ (x : List Float). leb (rounds * depth) (length x)) (e refl)

  bank_rooms_lem : (model : AcceptanceModel) (policy : Policy) (g : ℕ) → (is_trace model ≡ true → Rounds) → (is_trace model ≡ true → reads_curve policy ≡ true → take (g + 1) l.bank_curve_of ≡ take (g + 1) m.bank_curve_of)
      → (is_trace model ≡ true → uses_signals policy ≡ true → l.signals ≡ m.signals) → (depth rounds n drafts commits : ℕ)
      → bank_rooms model policy g depth rounds (lengths_of l n drafts commits) ≡ bank_rooms model policy g depth rounds (lengths_of m n drafts commits)
  bank_rooms_lem (Constant alpha) policy g r c e depth rounds n drafts commits = refl
  bank_rooms_lem PerPosition policy g r c e depth rounds n drafts commits = refl
  bank_rooms_lem Trace policy g r c e depth rounds n drafts commits =
      cc (ap (λ (x : List ℕ). leb rounds (length x)) (r refl).0, signal_rooms_lem policy g (c refl) (e refl) depth rounds n drafts commits)

  policy_valued_lem : (policy : Policy) (model : AcceptanceModel) (g : ℕ) → (is_trace model ≡ true → reads_curve policy ≡ true → take (g + 1) l.bank_curve_of ≡ take (g + 1) m.bank_curve_of) → (switch : SwitchConstraints) (past : Past)
      → policy_valued policy model switch g l.bank_curve_of past ≡ policy_valued policy model switch g m.bank_curve_of past
  policy_valued_lem Fixed model g c switch past = refl
  policy_valued_lem GoodputBudget (Constant alpha) g c switch past = refl
  policy_valued_lem GoodputBudget PerPosition g c switch past = refl
  policy_valued_lem GoodputBudget Trace g c switch past = ap (all_of is_accepted) (c refl refl)
  policy_valued_lem GatedBudget model g c switch past = refl
  policy_valued_lem GatedAggregate model g c switch past = refl

  mean_is : (model : AcceptanceModel) (n g : ℕ) → l.positions ≡ m.positions → (is_trace model ≡ true → take (g + 1) l.bank_curve_of ≡ take (g + 1) m.bank_curve_of)
      → mean_expected model l.positions l.bank_curve_of a.depth n g ≡ mean_expected model m.positions m.bank_curve_of a.depth n g
  mean_is (Constant alpha) n g p c = ap (λ (x : List Float). mean_expected (Constant alpha) x l.bank_curve_of a.depth n g) p
  mean_is PerPosition n g p c = ap (λ (x : List Float). mean_expected PerPosition x l.bank_curve_of a.depth n g) p
  mean_is Trace n g p c = bank_values_lem l.bank_curve_of m.bank_curve_of a.depth n g (c refl)

  chains_are : (model : AcceptanceModel) → l.positions ≡ m.positions → (is_trace model ≡ true → Rounds) → (is_trace model ≡ true → l.signals ≡ m.signals) → (g : ℕ)
      → chains_by model l.positions l.signals a.depth l.indices a.sequences g ≡ chains_by model m.positions m.signals a.depth m.indices a.sequences g
  chains_are (Constant alpha) p r e g = ap (λ (x : List Float). chains_by (Constant alpha) x l.signals a.depth l.indices a.sequences g) p
  chains_are PerPosition p r e g = ap (λ (x : List Float). chains_by PerPosition x l.signals a.depth l.indices a.sequences g) p
  chains_are Trace p r e g =
      ap (λ (x : List Float). round_chains x a.depth g (take a.sequences l.indices)) (e refl) ∙ ap (round_chains m.signals a.depth g) (r refl).1

-- ---- together

module _ (s : Settings) (a : Ask) (l m : Lent) (h : SameLists s a l m) where
  costs_rooms : (n drafts commits : ℕ) → cost_rooms s.policy s.drafter a.source (gamma_in s a.depth) a.sequences a.rows (lengths_of l n drafts commits)
      ≡ cost_rooms s.policy s.drafter a.source (gamma_in s a.depth) a.sequences a.rows (lengths_of m n drafts commits)
  costs_rooms n drafts commits = by_test (uses_costs s.policy)
      (λ q. cc (price_rooms_lem a l m a.source (gamma_in s a.depth) (h.roofline_same q) (h.table_same q) a.rows n drafts commits, loaded_rooms a l m s.drafter (h.loaded_same q) a.sequences n drafts commits))
      (λ q. rw q)

  costs_valued_lem : costs_valued s a l ≡ costs_valued s a m
  costs_valued_lem = by_test (uses_costs s.policy)
      (λ q. cc (prices_valued_lem a l m a.source (gamma_in s a.depth) (h.roofline_same q) (h.table_same q), loaded_valued_lem a l m s.drafter (h.loaded_same q) a.sequences))
      (λ q. rw q)

  values_same : (past : Past) → values_refusal s a l past ≡ values_refusal s a m past
  unfolding values_judged
  values_same past = cc (costs_valued_lem, policy_valued_lem a l m s.policy s.model (gamma_in s a.depth) h.curve_same s.switch past)

  drawn_same : (model : AcceptanceModel) → (is_trace model ≡ false → l.draws ≡ m.draws) → (is_trace model ≡ true → Rounds a l m) → drawn_by s a l model ≡ drawn_by s a m model
  unfolding drawn_by
  drawn_same (Constant alpha) d r = cc (h.positions_same, d refl)
  drawn_same PerPosition d r = cc (h.positions_same, d refl)
  drawn_same Trace d r =
      let t = r refl in
      replayed_front l.bank_commits_of a.rounds a.sequences l.indices
      ∙ cc (t.0, t.1)
      ∙ sym (replayed_front m.bank_commits_of a.rounds a.sequences m.indices)

  signals_refused : signals_refusal s a l ≡ signals_refusal s a m
  unfolding signals_refusal
  signals_refused = by_test (uses_signals s.policy) (λ u. by_test (is_trace s.model)
      (λ t. cc (h.signals_same t u, (h.rounds_same t).1))
      (λ t. rw (u, t)))
      (λ u. rw u)

  curve_is : uses_costs s.policy ≡ true → curve_of s a l ≡ curve_of s a m
  unfolding curve_of
  curve_is q = prices_are a l m a.source (depth_of s a l) (h.roofline_same q) (h.table_same q)

  decided_same : (past : Past) → decided_by (best s a l) s a l (curve_of s a l) s.policy past ≡ decided_by (best s a m) s a m (curve_of s a m) s.policy past
  unfolding decided_by
  decided_same past = go s.policy (λ q. curve_is q) (λ q. h.loaded_same q) (λ q. mean_is a l m s.model n g h.positions_same (λ t. h.curve_same t q))
      (λ q. chains_are a l m s.model h.positions_same h.rounds_same (λ t. h.signals_same t q) g)
    where
      n : ℕ
      n = a.sequences

      g : ℕ
      g = gamma_in s a.depth

      go : (policy : Policy) → (uses_costs policy ≡ true → curve_of s a l ≡ curve_of s a m) → (uses_costs policy ≡ true → reads_loaded s.drafter ≡ true → l.loaded ≡ m.loaded)
          → (reads_curve policy ≡ true → mean_expected s.model l.positions l.bank_curve_of a.depth n g ≡ mean_expected s.model m.positions m.bank_curve_of a.depth n g)
          → (uses_signals policy ≡ true → chains_by s.model l.positions l.signals a.depth l.indices n g ≡ chains_by s.model m.positions m.signals a.depth m.indices n g)
          → decided_by (best s a l) s a l (curve_of s a l) policy past ≡ decided_by (best s a m) s a m (curve_of s a m) policy past
      go Fixed curve loaded mean chains = refl
      go GoodputBudget curve loaded mean chains = rw (curve refl, mean refl, loaded_is a l m s.drafter (loaded refl) n)
      go GatedBudget curve loaded mean chains = rw (curve refl, chains refl, loaded_is a l m s.drafter (loaded refl) n)
          (ap each (gate_is a l m s.prices s.drafter (loaded refl) a.rates (curve_of s a m) n g (chains_by s.model m.positions m.signals a.depth m.indices n g) (best_in (best s a m) s a m (curve_of s a m))))
      go GatedAggregate curve loaded mean chains = rw (curve refl, chains refl, loaded_is a l m s.drafter (loaded refl) n)

  -- lists that are the same where they are used give the same plan, where the rounds drawn are the same
  pub same_drawn : drawn s a l ≡ drawn s a m → (ws ds cs : List ℕ) → planned s a l ws ds cs ≡ planned s a m ws ds cs
  same_drawn e ws ds cs = alike s a l m (record {
    positions_alike = h.positions_same;
    rooms_alike = λ n drafts commits. record {
      costs_alike = costs_rooms n drafts commits;
      bank_alike = bank_rooms_lem a l m s.model s.policy (gamma_in s a.depth) h.rounds_same h.curve_same h.signals_same a.depth a.rounds n drafts commits;
    };
    values_alike = values_same;
    draws_alike = e;
    signals_alike = signals_refused;
    decided_alike = decided_same;
  }) ws ds cs

-- THE THEOREM
pub only_what_is_used : (s : Settings) (a : Ask) (l m : Lent) → SameUsed s a l m → (ws ds cs : List ℕ) → planned s a l ws ds cs ≡ planned s a m ws ds cs
only_what_is_used s a l m h ws ds cs = same_drawn s a l m h.lists_same (drawn_same s a l m h.lists_same s.model h.draws_same h.lists_same.rounds_same) ws ds cs
