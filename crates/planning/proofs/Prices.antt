-- Laws of the prices in force, and of what a decision reads. Assumes nothing.
use mathlib.Core.Path.{◌≡◌, refl, sym, ap, ◌∙◌}
use mathlib.Core.Bool.{true}
use mathlib.Core.List.{List, ◌++◌}
use Prim.Native.Nat.{ℕ, ◌+◌, ◌≤◌, ◌<◌}
use native.Mathlib.Omega.{arith}
use lib.ListN.{length, take, length-take}
use lib.Seq.{length-take-le, take_at}
use lib.Ieee.{Float}
use Rattle.cost_rows.specs.Table.{Row}
use Rattle.step_times.specs.Prices.{prices, each}
use Rattle.goodput.specs.Curve.{in_force}
use Rattle.goodput.specs.declared.curve.Source.{Source}
use Rattle.goodput.specs.declared.curve.Source.TheVariants.{Roofline, Table}
use Rattle.ledger_rows.specs.declared.layout.Past.{Past}
use Rattle.settings.specs.declared.Policy.{Policy}
use Rattle.settings.specs.declared.Policy.TheVariants.{Fixed, GoodputBudget, GatedBudget, GatedAggregate}
use Rattle.settings.specs.declared.Settings.{Settings}
use Rattle.settings.specs.Settings.{gamma_in, uses_costs}
use Rattle.asked_rooms.specs.declared.Ask.{Ask}
use Rattle.asking.specs.Asked.{Lent, table_of}
use Rattle.asking.proofs.Passed.{gamma_in_le}
use Rattle.deciding.specs.Deciding.{decided_by}
use Rattle.deciding.specs.Ready.{lent_of, Ready}
use Rattle.planning.specs.Steps.{curve_of}
use Rattle.planning.specs.Acting.{Priced}

-- ---- a table has a price for each of the depths 0 to 64
prices_long : (batch : ℕ) (kv : Float) (t : List Row) → length (prices batch kv t) ≡ 65
unfolding prices each
prices_long batch kv t = refl

first_long : (n : ℕ) (xs : List Float) → n < length xs → length (take (n + 1) xs) ≡ n + 1
first_long n xs h = simp length-take (omega arith)

-- the first of them stand at the front of what holds them
pub front_priced : (m : ℕ) (part out rest : List Float) (batch : ℕ) (kv : Float) (t : List Row) → length part ≡ m → m ≤ 65 → out ≡ take (length part) (prices batch kv t) → take m (out ++ rest) ≡ take m (prices batch kv t)
front_priced m part out rest batch kv t l h e =
    let f : out ≡ take m (prices batch kv t) = e ∙ ap (λ (k : ℕ). take k (prices batch kv t)) l in
    let n : length out ≡ m = ap length f ∙ length-take-le m (prices batch kv t) (omega (arith, prices_long batch kv t)) in
    take_at out rest m n ∙ f

-- ---- the curve in force has a price for each depth, where costs are used
module _ (s : Settings) (a : Ask) (l : Lent) (past : Past) (drafts : List ℕ) (p : Priced s a past l drafts) where
  pub force_long : (x : Source) → x ≡ a.source → uses_costs s.policy ≡ true → length (in_force l.roofline (prices a.sequences a.rates.kv_delta (table_of a l)) x (gamma_in s a.depth)) ≡ gamma_in s a.depth + 1
  force_long Roofline e u = first_long (gamma_in s a.depth) l.roofline (p.roofed u (sym e))
  force_long Table e u =
      let n : gamma_in s a.depth ≤ 64 = omega (arith, gamma_in_le s a.depth, p.shallow) in
      first_long (gamma_in s a.depth) (prices a.sequences a.rates.kv_delta (table_of a l)) (omega (arith, prices_long a.sequences a.rates.kv_delta (table_of a l)))

-- ---- and it is the one that is worked out
module _ (s : Settings) (a : Ask) (l : Lent) (past : Past) (drafts : List ℕ) (p : Priced s a past l drafts) (measured curve : List Float) (gamma : ℕ) (g : gamma ≡ gamma_in s a.depth)
    (h : curve ≡ in_force l.roofline measured a.source gamma)
    (m : uses_costs s.policy ≡ true → a.source ≡ Table → take (gamma + 1) measured ≡ take (gamma + 1) (prices a.sequences a.rates.kv_delta (table_of a l))) where
  curve_from : (x : Source) → x ≡ a.source → uses_costs s.policy ≡ true → curve ≡ in_force l.roofline measured x gamma → curve ≡ in_force l.roofline (prices a.sequences a.rates.kv_delta (table_of a l)) x (gamma_in s a.depth)
  curve_from Roofline e u f = f ∙ ap (λ (k : ℕ). take (k + 1) l.roofline) g
  curve_from Table e u f = f ∙ m u (sym e) ∙ ap (λ (k : ℕ). take (k + 1) (prices a.sequences a.rates.kv_delta (table_of a l))) g

  pub curve_is : uses_costs s.policy ≡ true → curve ≡ curve_of s a l
  unfolding curve_of
  curve_is u = curve_from a.source refl u h

  curve_long : uses_costs s.policy ≡ true → length curve ≡ gamma_in s a.depth + 1
  unfolding curve_of
  curve_long u = ap length (curve_is u) ∙ force_long s a l past drafts p a.source refl u

  pub is_ready : Ready s a past l.bank_curve_of l.indices curve drafts
  is_ready = record {
    shallow = p.shallow;
    few = p.few;
    room = p.room;
    priced = curve_long;
    banked = p.banked;
    indexed = p.indexed;
    held = p.held;
  }

-- ---- a decision reads five of the lists, and the curve where it uses costs
module _ (best : List Float → List Float → ℕ) (s : Settings) (a : Ask) (l : Lent) (past : Past) (curve curve' : List Float) where
  pub reads_same : (p : Policy) → (uses_costs p ≡ true → curve ≡ curve')
      → decided_by best s a (lent_of l.positions l.loaded l.signals l.bank_curve_of l.indices) curve p past ≡ decided_by best s a l curve' p past
  unfolding decided_by
  reads_same Fixed h = refl
  reads_same GoodputBudget h = ap (λ (c : List Float). decided_by best s a l c GoodputBudget past) (h refl)
  reads_same GatedBudget h = ap (λ (c : List Float). decided_by best s a l c GatedBudget past) (h refl)
  reads_same GatedAggregate h = ap (λ (c : List Float). decided_by best s a l c GatedAggregate past) (h refl)
