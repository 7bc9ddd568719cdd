-- What a plan has that is not refused before its draws. Assumes nothing.
use mathlib.Core.Path.{◌≡◌, refl, sym, ap, ◌∙◌}
use mathlib.Core.Bool.{Bool, true, false, ◌&&◌, ◌||◌, cond}
use mathlib.Core.List.{List}
use Prim.Native.Nat.{ℕ, ◌+◌, ◌*◌, ◌≤◌, ◌<◌}
use native.Mathlib.Omega.{arith}
use borrow.Author.Tests.{leb-true, lt-ltb, eq-eqb}
use lib.Dec.{leb, eqb}
use lib.ListN.{length, take}
use lib.Ieee.{Float}
use Rattle.std.specs.Prelude.{Ok, is_ok}
use Rattle.refusals.specs.declared.Refusal.TheVariants.{Size, Input, ShortBuffer}
use Rattle.refusals.specs.Refusals.{number_in}
use Rattle.refusals.proofs.First.{both_pass, ok_passed, passed_is_zero, passes}
use Rattle.laws.proofs.Both.{both}
use Rattle.float.proofs.Classes.{clash}
use Rattle.acceptance.specs.declared.AcceptanceModel.{AcceptanceModel}
use Rattle.acceptance.specs.declared.AcceptanceModel.TheVariants.{Trace}
use Rattle.speculative.specs.Drafter.{rates_judged, rates_refusal, loaded_judged, loaded_refusal}
use Rattle.speculative.specs.declared.drafter.DrafterCost.{DrafterCost}
use Rattle.speculative.specs.declared.drafter.DrafterCost.TheVariants.{Fraction, Autoregressive, BlockParallel}
use Rattle.goodput.specs.declared.curve.Source.{Source}
use Rattle.goodput.specs.declared.curve.Source.TheVariants.{Roofline, Table}
use Rattle.chains.specs.Tests.{all_of, is_price, is_accepted}
use Rattle.cost_rows.specs.Lawful.{lawful}
use Rattle.switch_settings.specs.Switch.{is_unconstrained}
use Rattle.switching.specs.Deciding.{is_record}
use Rattle.ledger_rows.specs.Layout.{room}
use Rattle.ledger_rows.specs.declared.layout.Past.{Past}
use Rattle.ledger_workers.specs.Workers.{past_of}
use Rattle.settings.specs.declared.Policy.{Policy}
use Rattle.settings.specs.declared.Policy.TheVariants.{Fixed, GoodputBudget, GatedBudget, GatedAggregate}
use Rattle.settings.specs.declared.Settings.{Settings}
use Rattle.settings.specs.Settings.{gamma_under, gamma_in, uses_costs, uses_signals}
use Rattle.asked_rooms.specs.declared.Ask.{Ask}
use Rattle.asked_rooms.specs.declared.Lengths.{Lengths}
use Rattle.asked_rooms.specs.Sizes.{bank_fits, table_fits, sizes_judged}
use Rattle.asked_rooms.specs.Rooms.{own_rooms, price_rooms, loaded_room, cost_rooms, signal_rooms, bank_rooms, rooms_judged}
use Rattle.asking.specs.Values.{prices_valued, loaded_valued, curve_valued, held_of, policy_valued}
use Rattle.asking.specs.Asked.{Lent, table_of, lengths_of, costs_valued, values_judged, asked_judged, asked_refusal}
use Rattle.asked_values.specs.Columns.{columns_fit}
use Rattle.settings.proofs.Cases.{capped_le}
use Rattle.asked_rooms.proofs.Tests.{used}

-- a test of a case that is known
at_case : {A : Type 0} (f : A → Bool) (x y : A) → x ≡ y → f x ≡ true → f y ≡ true
at_case f x y e h = sym (ap f e) ∙ h

-- gamma + 1 entries
has_entry : (gamma n : ℕ) → leb (gamma + 1) n ≡ true → gamma < n
has_entry gamma n h = let k = leb-true (gamma + 1) n h in omega arith

-- ---- the depth that a plan may draft to
pub under_le : (p : Policy) (m : AcceptanceModel) (gamma depth : ℕ) → gamma_under p m gamma depth ≤ gamma
under_le Fixed m gamma depth = omega arith
under_le GoodputBudget m gamma depth = capped_le m gamma depth
under_le GatedBudget m gamma depth = capped_le m gamma depth
under_le GatedAggregate m gamma depth = capped_le m gamma depth

under_depth : (p : Policy) (gamma depth : ℕ) → uses_costs p ≡ true → gamma_under p Trace gamma depth ≤ depth
under_depth Fixed gamma depth u = clash u
under_depth GoodputBudget gamma depth u = omega arith
under_depth GatedBudget gamma depth u = omega arith
under_depth GatedAggregate gamma depth u = omega arith

pub gamma_in_le : (s : Settings) (depth : ℕ) → gamma_in s depth ≤ s.gamma
gamma_in_le s depth = under_le s.policy s.model s.gamma depth

-- ---- the sizes
module _ (model : AcceptanceModel) (gamma n depth rounds : ℕ) (source : Source) (rows : ℕ) (e : sizes_judged model gamma n depth rounds source rows ≡ Ok tt) where
  sized : ((leb gamma 64 ≡ true) × (leb n 1024 ≡ true)) × ((bank_fits model depth rounds ≡ true) × (table_fits source rows ≡ true))
  unfolding sizes_judged
  sized =
      let p = both (leb gamma 64 && leb n 1024) (bank_fits model depth rounds && table_fits source rows) (passes _ Size e) in
      (both (leb gamma 64) (leb n 1024) p.0, both (bank_fits model depth rounds) (table_fits source rows) p.1)

-- ---- the lengths
module _ (s : Settings) (a : Ask) (l : Lengths) (e : rooms_judged s a l ≡ Ok tt) where
  abbrev g : ℕ
  g = gamma_in s a.depth

  roomy : (own_rooms a.sequences l ≡ true) × ((cost_rooms s.policy s.drafter a.source g a.sequences a.rows l ≡ true) × (bank_rooms s.model s.policy g a.depth a.rounds l ≡ true))
  unfolding rooms_judged
  roomy =
      let p = both (own_rooms a.sequences l) (cost_rooms s.policy s.drafter a.source g a.sequences a.rows l && bank_rooms s.model s.policy g a.depth a.rounds l)
      (passes _ ShortBuffer e) in
      (p.0, both (cost_rooms s.policy s.drafter a.source g a.sequences a.rows l) (bank_rooms s.model s.policy g a.depth a.rounds l) p.1)

  pub rooms_storage : room ≤ l.storage
  rooms_storage = leb-true room l.storage (both (leb room l.storage) (leb a.sequences l.drafts && leb a.sequences l.commits) roomy.0).0

-- the columns, as the judge of the values leans on them
pub columns_fit_lem : (s : Settings) (a : Ask) (l : Lengths) (d b : List ℕ) (x : List Float) → l.depths ≡ length d → l.batches ≡ length b → l.seconds ≡ length x
    → sizes_judged s.model s.gamma a.sequences a.depth a.rounds a.source a.rows ≡ Ok tt → rooms_judged s a l ≡ Ok tt
    → cond (uses_costs s.policy) (columns_fit a.source a.rows d b x) true ≡ true
columns_fit_lem s a l d b x p q r e f =
    go (uses_costs s.policy) a.source (sized s.model s.gamma a.sequences a.depth a.rounds a.source a.rows e).1.1 (roomy s a l f).1.0
  where
    go : (u : Bool) (source : Source) → table_fits source a.rows ≡ true
        → cond u (price_rooms source (gamma_in s a.depth) a.rows l && loaded_room s.drafter a.sequences l) true ≡ true → cond u (columns_fit source a.rows d b x) true ≡ true
    go false source t h = refl
    go true Roofline t h = refl
    go true Table t h =
        rw (t, ← p, ← q, ← r)
        (both (leb a.rows l.depths && (leb a.rows l.batches && leb a.rows l.seconds)) (loaded_room s.drafter a.sequences l) h).0

-- ---- all of it
module _ (s : Settings) (a : Ask) (l : Lent) (ws : List ℕ) (drafts commits : ℕ) (e : asked_refusal s a l ws drafts commits ≡ 0) where
  abbrev ls : Lengths
  ls = lengths_of l (length ws) drafts commits

  abbrev past : Past
  past = past_of ws a.a a.b

  abbrev depth : ℕ
  depth = gamma_in s a.depth

  parts : (sizes_judged s.model s.gamma a.sequences a.depth a.rounds a.source a.rows ≡ Ok tt) × ((rooms_judged s a ls ≡ Ok tt) × (values_judged s a l past ≡ Ok tt))
  unfolding asked_judged
  parts = let p = both_pass _ _ (passed_is_zero (asked_judged s a l ws drafts commits) e) in (p.0, both_pass _ _ p.1)

  sizes : ((leb s.gamma 64 ≡ true) × (leb a.sequences 1024 ≡ true)) × ((bank_fits s.model a.depth a.rounds ≡ true) × (table_fits a.source a.rows ≡ true))
  sizes = sized s.model s.gamma a.sequences a.depth a.rounds a.source a.rows parts.0

  rooms : (own_rooms a.sequences ls ≡ true) × ((cost_rooms s.policy s.drafter a.source depth a.sequences a.rows ls ≡ true) × (bank_rooms s.model s.policy depth a.depth a.rounds ls ≡ true))
  rooms = roomy s a ls parts.1.0

  values : (costs_valued s a l ≡ true) × (policy_valued s.policy s.model s.switch depth l.bank_curve_of past ≡ true)
  unfolding values_judged
  values = both (costs_valued s a l) (policy_valued s.policy s.model s.switch depth l.bank_curve_of past) (passes _ Input parts.1.1)

  -- ---- of every plan
  pub gamma_small : s.gamma ≤ 64
  gamma_small = leb-true s.gamma 64 sizes.0.0

  pub sequences_few : a.sequences ≤ 1024
  sequences_few = leb-true a.sequences 1024 sizes.0.1

  pub depth_small : gamma_in s a.depth ≤ 64
  depth_small = let h = gamma_in_le s a.depth in let k = gamma_small in omega arith

  own : (leb room (length ws) ≡ true) × ((leb a.sequences drafts ≡ true) × (leb a.sequences commits ≡ true))
  own =
      let p = both (leb room (length ws)) (leb a.sequences drafts && leb a.sequences commits) rooms.0 in
      (p.0, both (leb a.sequences drafts) (leb a.sequences commits) p.1)

  pub storage_room : room ≤ length ws
  storage_room = leb-true room (length ws) own.0

  pub drafts_room : a.sequences ≤ drafts
  drafts_room = leb-true a.sequences drafts own.1.0

  pub commits_room : a.sequences ≤ commits
  commits_room = leb-true a.sequences commits own.1.1

  -- ---- of a trace
  module _ (m : s.model ≡ Trace) where
    bank : (leb 1 a.depth ≡ true) × ((leb a.depth 64 ≡ true) × (leb a.rounds 65536 ≡ true))
    bank =
        let h = at_case (λ (x : AcceptanceModel). bank_fits x a.depth a.rounds) s.model Trace m sizes.1.0 in
        let p = both (leb 1 a.depth) (leb a.depth 64 && leb a.rounds 65536) h in
        (p.0, both (leb a.depth 64) (leb a.rounds 65536) p.1)

    pub bank_deep : 1 ≤ a.depth
    bank_deep = leb-true 1 a.depth bank.0

    pub bank_shallow : a.depth ≤ 64
    bank_shallow = leb-true a.depth 64 bank.1.0

    pub bank_few : a.rounds ≤ 65536
    bank_few = leb-true a.rounds 65536 bank.1.1

    bank_room : (leb a.rounds (length l.bank_commits_of) ≡ true) × (signal_rooms s.policy depth a.depth a.rounds ls ≡ true)
    bank_room =
        both (leb a.rounds (length l.bank_commits_of)) (signal_rooms s.policy depth a.depth a.rounds ls)
        (at_case (λ (x : AcceptanceModel). bank_rooms x s.policy depth a.depth a.rounds ls) s.model Trace m rooms.1.1)

    pub bank_rounds : a.rounds ≤ length l.bank_commits_of
    bank_rounds = leb-true a.rounds (length l.bank_commits_of) bank_room.0

    pub depth_in_bank : uses_costs s.policy ≡ true → gamma_in s a.depth ≤ a.depth
    depth_in_bank u = rw m (under_depth s.policy s.gamma a.depth u)

    pub bank_signals : uses_signals s.policy ≡ true → a.rounds * a.depth ≤ length l.signals
    bank_signals u = leb-true (a.rounds * a.depth) (length l.signals) (go s.policy u bank_room.1)
      where
        go : (p : Policy) → uses_signals p ≡ true → signal_rooms p depth a.depth a.rounds ls ≡ true → leb (a.rounds * a.depth) (length l.signals) ≡ true
        go Fixed u h = clash u
        go GoodputBudget u h = clash u
        go GatedBudget u h = h
        go GatedAggregate u h = h

    module _ (g : s.policy ≡ GoodputBudget) where
      pub curve_room : gamma_in s a.depth < length l.bank_curve_of
      curve_room = has_entry depth (length l.bank_curve_of) (at_case (λ (p : Policy). signal_rooms p depth a.depth a.rounds ls) s.policy GoodputBudget g bank_room.1)

      pub curve_valued_lem : all_of is_accepted (take (gamma_in s a.depth + 1) l.bank_curve_of) ≡ true
      curve_valued_lem =
          at_case (λ (x : AcceptanceModel). curve_valued x depth l.bank_curve_of) s.model Trace m
          (at_case (λ (p : Policy). policy_valued p s.model s.switch depth l.bank_curve_of past) s.policy GoodputBudget g values.1)

  -- ---- where costs are looked at
  module _ (u : uses_costs s.policy ≡ true) where
    cost_rooms_lem : (price_rooms a.source depth a.rows ls ≡ true) × (loaded_room s.drafter a.sequences ls ≡ true)
    cost_rooms_lem =
        both (price_rooms a.source depth a.rows ls) (loaded_room s.drafter a.sequences ls)
        (used (uses_costs s.policy) (price_rooms a.source depth a.rows ls && loaded_room s.drafter a.sequences ls) u rooms.1.0)

    cost_values : (is_ok (rates_judged a.rates) ≡ true) × ((prices_valued a.source depth l.roofline (table_of a l) ≡ true) × (loaded_valued s.drafter a.sequences l.loaded ≡ true))
    cost_values =
        let h = used (uses_costs s.policy) (is_ok (rates_judged a.rates) && (prices_valued a.source depth l.roofline (table_of a l) && loaded_valued s.drafter a.sequences l.loaded)) u values.0 in
        let p = both (is_ok (rates_judged a.rates)) (prices_valued a.source depth l.roofline (table_of a l) && loaded_valued s.drafter a.sequences l.loaded) h in
        (p.0, both (prices_valued a.source depth l.roofline (table_of a l)) (loaded_valued s.drafter a.sequences l.loaded) p.1)

    pub rates_valued : rates_refusal a.rates ≡ 0
    rates_valued = ap number_in (ok_passed (rates_judged a.rates) cost_values.0)

    pub loaded_valued_lem : loaded_refusal s.drafter a.sequences l.loaded ≡ 0
    unfolding loaded_judged
    loaded_valued_lem = ap number_in (go s.drafter cost_rooms_lem.1 cost_values.1.1)
      where
        go : (d : DrafterCost) → loaded_room d a.sequences ls ≡ true → loaded_valued d a.sequences l.loaded ≡ true → loaded_judged d a.sequences l.loaded ≡ Ok tt
        go (Fraction frac) h k = refl
        go (Autoregressive dense expert experts per shared) h k = rw (lt-ltb a.sequences (length l.loaded) (has_entry a.sequences (length l.loaded) h), k)
        go (BlockParallel params block) h k = refl

    module _ (r : a.source ≡ Roofline) where
      pub roofline_room : gamma_in s a.depth < length l.roofline
      roofline_room = has_entry depth (length l.roofline) (at_case (λ (x : Source). price_rooms x depth a.rows ls) a.source Roofline r cost_rooms_lem.0)

      pub roofline_valued : all_of is_price (take (gamma_in s a.depth + 1) l.roofline) ≡ true
      roofline_valued = at_case (λ (x : Source). prices_valued x depth l.roofline (table_of a l)) a.source Roofline r cost_values.1.0

    module _ (t : a.source ≡ Table) where
      pub table_few : a.rows ≤ 4096
      table_few = leb-true a.rows 4096 (at_case (λ (x : Source). table_fits x a.rows) a.source Table t sizes.1.1)

      pub table_rooms : (a.rows ≤ length l.depths) × (a.rows ≤ length l.batches) × (a.rows ≤ length l.seconds)
      table_rooms =
          let h = at_case (λ (x : Source). price_rooms x depth a.rows ls) a.source Table t cost_rooms_lem.0 in
          let p = both (leb a.rows (length l.depths)) (leb a.rows (length l.batches) && leb a.rows (length l.seconds)) h in
          let q = both (leb a.rows (length l.batches)) (leb a.rows (length l.seconds)) p.1 in
          (leb-true a.rows (length l.depths) p.0, leb-true a.rows (length l.batches) q.0, leb-true a.rows (length l.seconds) q.1)

      pub table_lawful : lawful (table_of a l) ≡ true
      table_lawful = at_case (λ (x : Source). prices_valued x depth l.roofline (table_of a l)) a.source Table t cost_values.1.0

  -- ---- of a worker's record, where the switching is constrained
  pub held_valued : s.policy ≡ GatedAggregate → is_unconstrained s.switch ≡ false → (past_of ws a.a a.b).kind ≡ 2 → is_record (held_of (past_of ws a.a a.b)) ≡ true
  held_valued g c k =
      go (is_unconstrained s.switch) c (eqb past.kind 2) (eq-eqb past.kind 2 k) (at_case (λ (p : Policy). policy_valued p s.model s.switch depth l.bank_curve_of past) s.policy GatedAggregate g values.1)
    where
      go : (x : Bool) → x ≡ false → (y : Bool) → y ≡ true → (x || cond y (is_record (held_of past)) true) ≡ true → is_record (held_of past) ≡ true
      go true f y t h = clash (sym f)
      go false f true t h = h
      go false f false t h = clash t
