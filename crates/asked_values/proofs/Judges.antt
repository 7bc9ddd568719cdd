-- What is refused of the values: each law is one way out of a judge. Assumes nothing.
use mathlib.Core.Path.{◌≡◌, refl, ap, ◌∙◌}
use mathlib.Core.Bool.{Bool, true, false, ◌&&◌, cond}
use mathlib.Core.List.{List, [], ◌∷◌}
use Prim.Native.Nat.{ℕ, ◌+◌, ◌≤◌, ◌<◌}
use native.Mathlib.Omega.{arith}
use borrow.Author.Tests.{le-leb, lt-leb, leb-true, eq-eqb, ne_eqb}
use lib.Dec.{leb, eqb}
use lib.ListN.{length, take}
use lib.Ieee.{Float, binary64, of_bits}
use Rattle.laws.proofs.Both.{both}
use Rattle.float.specs.Floats.{f0, is_finite, is_clear}
use Rattle.float.specs.Range.{in_range}
use Rattle.speculative.specs.Drafter.{all_loaded, million}
use Rattle.chains.specs.Tests.{all_of}
use Rattle.cost_rows.specs.Table.{most, zip}
use Rattle.cost_rows.specs.Lawful.{lawful}
use Rattle.std.specs.Prelude.{is_ok}
use Rattle.refusals.specs.declared.Refusal.TheVariants.{Input}
use Rattle.refusals.specs.Refusals.{Judgement, passed_if}
use Rattle.cost_lookup.specs.Entry.{room, table_judged}
use Rattle.switch_settings.specs.Switch.{is_unconstrained}
use Rattle.switch_settings.specs.declared.SwitchConstraints.{SwitchConstraints}
use Rattle.switching.specs.Deciding.{is_record}
use Rattle.ledger_rows.specs.declared.layout.Past.{Past}
use Rattle.goodput.specs.declared.curve.Source.TheVariants.{Table}
use Rattle.asked_values.specs.Columns.{columns_fit}
use Rattle.asked_values.specs.Values.{held_of, held_valued}

-- ---- loaded experts
all_loaded_lem : (l : List Float) → all_of (in_range f0 million) l ≡ all_loaded l
unfolding all_of
all_loaded_lem [] = refl
all_loaded_lem (x ∷ xs) = ap (λ (b : Bool). in_range f0 million x && b) (all_loaded_lem xs)

pub loaded_tested : (r : Bool) (part loaded : List Float) (n : ℕ) → part ≡ take (n + 1) loaded → r ≡ all_of (in_range f0 million) part → r ≡ all_loaded (take (n + 1) loaded)
loaded_tested r part loaded n e f = f ∙ all_loaded_lem part ∙ ap all_loaded e

-- ---- a table whose sizes are judged
pub table_tested : (rows : ℕ) (d b : List ℕ) (s : List Float) (r : Judgement) → columns_fit Table rows d b s ≡ true → r ≡ table_judged rows d b s → is_ok r ≡ lawful (zip rows d b s)
unfolding table_judged
table_tested rows d b s r h e =
    let p = both (leb rows 4096) (leb rows (length d) && (leb rows (length b) && leb rows (length s))) h in
    let q = both (leb rows (length d)) (leb rows (length b) && leb rows (length s)) p.1 in
    let t = both (leb rows (length b)) (leb rows (length s)) q.1 in
    let few = leb-true rows 4096 p.0 in
    let x = leb-true rows (length d) q.0 in
    let y = leb-true rows (length b) t.0 in
    let z = leb-true rows (length s) t.1 in
    let known : r ≡ passed_if (lawful (zip rows d b s)) Input = e ∙ rw (le-leb rows most few, le-leb rows (room d b s) (omega arith)) in
    ap is_ok known ∙ go (lawful (zip rows d b s))
  where
    go : (l : Bool) → is_ok (passed_if l Input) ≡ l
    go true = refl
    go false = refl

-- ---- a worker's record
module _ (past : Past) where
  abbrev answer : Bool
  answer = cond (eqb past.kind 2) (is_record (held_of past)) true

  pub held_none : (past.kind ≡ 2 → ⊥) → true ≡ answer
  held_none h = rw (ne_eqb past.kind 2 h)

  module _ (h : past.kind ≡ 2) where
    pub held_wide : 64 < past.width → false ≡ answer
    held_wide k = rw (eq-eqb past.kind 2 h, lt-leb past.width 64 k)

    module _ (k : past.width ≤ 64) where
      pub held_long : 4294967294 < past.rounds → false ≡ answer
      held_long l = rw (eq-eqb past.kind 2 h, le-leb past.width 64 k, lt-leb past.rounds 4294967294 l)

      module _ (l : past.rounds ≤ 4294967294) (stall : Float) (e : stall ≡ of_bits binary64 past.stall) where
        pub held_infinite : is_finite stall ≡ false → false ≡ answer
        held_infinite f = rw (eq-eqb past.kind 2 h, le-leb past.width 64 k, le-leb past.rounds 4294967294 l, ← e, f)

        pub held_tested : (r : Bool) → is_finite stall ≡ true → r ≡ is_clear stall → r ≡ answer
        held_tested r f g = rw (eq-eqb past.kind 2 h, le-leb past.width 64 k, le-leb past.rounds 4294967294 l, ← e, f) g

-- it is used where the switching is constrained
pub past_unused : (switch : SwitchConstraints) (past : Past) → is_unconstrained switch ≡ true → true ≡ held_valued switch past
past_unused switch past e = rw e

pub past_used : (switch : SwitchConstraints) (p past : Past) (r : Bool) → is_unconstrained switch ≡ false → p ≡ past → r ≡ cond (eqb p.kind 2) (is_record (held_of p)) true → r ≡ held_valued switch past
past_used switch p past r e f g = g ∙ ap (λ (q : Past). cond (eqb q.kind 2) (is_record (held_of q)) true) f ∙ rw e
