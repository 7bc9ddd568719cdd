-- Laws of what a line says. Assumes nothing.
use mathlib.Core.Path.{◌≡◌, sym, ap, ◌∙◌}
use mathlib.Core.Bool.{true, false}
use mathlib.Core.List.{List, [], ◌∷◌}
use Prim.Native.Nat.{ℕ, suc, ◌-◌}
use native.Mathlib.Omega.{arith}
use borrow.Author.Tests.{eq-eqb, ne_eqb}
use lib.Ieee.{Float, lt}
use lib.ListN.{length}
use Rattle.text.specs.Fields.{fields}
use Rattle.trimming.specs.Trim.{trimmed}
use Rattle.text.proofs.Laws.{fields_some}
use Rattle.float.specs.Floats.{f0}
use Rattle.std.proofs.Common.{Ok, Err, None}
use Rattle.refusals.specs.declared.Refusal.{Refusal}
use Rattle.refusals.specs.declared.Refusal.TheVariants.{FieldCount, StepSeconds, NoDrafts}
use Rattle.numeral.specs.Spelling.{Whole, whole_of}
use Rattle.decimals.specs.Decimals.{Decimal, decimal_of}
use Rattle.table_line.specs.Line.{values_read, numbers_read, row_read, said, line_read}

-- ---- the three numbers of a row

module _ (batch tokens : ℕ) (seconds : Float) where
  pub values_none : lt f0 seconds ≡ true → tokens ≡ 0 → values_read batch tokens seconds ≡ Err NoDrafts
  unfolding values_read
  values_none e z = rw (e, eq-eqb tokens 0 z)

  pub values_row : lt f0 seconds ≡ true → (tokens ≡ 0 → ⊥) → values_read batch tokens seconds ≡ Ok (record { depth = tokens - 1; batch = batch; seconds = seconds })
  unfolding values_read
  values_row e n = rw (e, ne_eqb tokens 0 n)

  pub values_low : lt f0 seconds ≡ false → values_read batch tokens seconds ≡ Err StepSeconds
  unfolding values_read
  values_low e = rw e

-- the numbers one by one, from the left
module _ (a b : Whole) (t : Decimal) where
  pub numbers_batch : (refusal : Refusal) → a ≡ Err refusal → numbers_read a b t ≡ Err refusal
  unfolding numbers_read
  numbers_batch refusal e = ap (λ (u : Whole). numbers_read u b t) e

  module _ (batch : ℕ) (e : a ≡ Ok batch) where
    pub numbers_tokens : (refusal : Refusal) → b ≡ Err refusal → numbers_read a b t ≡ Err refusal
    unfolding numbers_read
    numbers_tokens refusal f = ap (λ (u : Whole). numbers_read u b t) e ∙ ap (λ (u : Whole). numbers_read (Ok batch) u t) f

    pub numbers_time : (tokens : ℕ) → b ≡ Ok tokens → (y : Decimal) → t ≡ y → numbers_read a b t ≡ numbers_read (Ok batch) (Ok tokens) y
    numbers_time tokens f y g =
        ap (λ (u : Whole). numbers_read u b t) e
        ∙ ap (λ (u : Whole). numbers_read (Ok batch) u t) f
        ∙ ap (numbers_read (Ok batch) (Ok tokens)) g

-- ---- the fields of a row

module _ (row : List (List ℕ)) where
  row_fields : (length row ≡ 3 → ⊥) → row_read row ≡ Err FieldCount
  unfolding row_read
  row_fields n = rw (ne_eqb (length row) 3 n)

  -- one field, and no comma
  pub row_of_one : (line : List ℕ) → row ≡ line ∷ [] → row_read row ≡ Err FieldCount
  row_of_one line e = row_fields (λ h. let k : length row ≡ 1 = ap length e in omega (arith, k, h))

  module _ (a rest : List ℕ) (e : row ≡ a ∷ fields rest) where
    pub row_of_two : (b : List ℕ) → fields rest ≡ b ∷ [] → row_read row ≡ Err FieldCount
    row_of_two b f = row_fields (λ h. let k : length row ≡ 2 = ap length (e ∙ ap (λ (r : List (List ℕ)). a ∷ r) f) in omega (arith, k, h))

    module _ (b last : List ℕ) (f : fields rest ≡ b ∷ fields last) where
      row_is : row ≡ a ∷ b ∷ fields last
      row_is = e ∙ ap (λ (r : List (List ℕ)). a ∷ r) f

      pub row_of_more : (c more : List ℕ) → fields last ≡ c ∷ fields more → row_read row ≡ Err FieldCount
      row_of_more c more g =
          row_fields
          (λ h.
          let k : length row ≡ suc (suc (suc (length (fields more)))) = ap length (row_is ∙ ap (λ (r : List (List ℕ)). a ∷ b ∷ r) g) in
          omega (arith, k, h, fields_some more))

      pub row_of_three : fields last ≡ last ∷ [] → row_read row ≡ numbers_read (whole_of (trimmed a)) (whole_of (trimmed b)) (decimal_of (trimmed last))
      unfolding row_read
      row_of_three g = ap row_read (row_is ∙ ap (λ (r : List (List ℕ)). a ∷ b ∷ r) g)

-- ---- a line

module _ (line t : List ℕ) (e : t ≡ trimmed line) where
  pub line_blank : length t ≡ 0 → line_read line ≡ Ok None
  unfolding line_read
  line_blank z = rw (eq-eqb (length (trimmed line)) 0 (sym (ap length e) ∙ z))

  pub line_row : (length t ≡ 0 → ⊥) → line_read line ≡ said (row_read (fields line))
  unfolding line_read
  line_row n = rw (ne_eqb (length (trimmed line)) 0 (λ f. n (ap length e ∙ f)))
