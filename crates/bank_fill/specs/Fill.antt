-- The values of a bank's rows, and what the judge has found of a text that it takes for a bank.
use Rattle.std.specs.Prelude.{ℕ, ◌-◌, ◌*◌, ◌≤◌, ◌<◌, ◌≡◌, List, [], ◌∷◌, ◌++◌, Float, length, get_or, drop, Ok, Err}
use Rattle.std.specs.Float.{binary64}
use Rattle.std.specs.Float.Ieee.{of_bits}
use Rattle.text.specs.Fields.{fields}
use Rattle.numeral.specs.Spelling.{Whole, whole_of}
use Rattle.decimals.specs.Decimals.{Decimal, decimal_of}
use Rattle.bank_judge.specs.Judge.{row_judged}

-- a number's value; 0 where it has none, which is never met in a bank (Spelled of bank/proofs)
abbrev pub whole_value : Whole → ℕ
whole_value (Ok v) = v
whole_value (Err refusal) = 0

abbrev pub decimal_value : Decimal → Float
decimal_value (Ok x) = x
decimal_value (Err refusal) = of_bits binary64 0

-- the first field of each row
abbrev pub commits_of : List (List ℕ) → List ℕ
commits_of [] = []
commits_of (line ∷ rows) = whole_value (whole_of (get_or (fields line) 0 [])) ∷ commits_of rows

abbrev pub decimals_of : List (List ℕ) → List Float
decimals_of [] = []
decimals_of (field ∷ rest) = decimal_value (decimal_of field) ∷ decimals_of rest

-- the fields of each row after the first `skip`, row by row
abbrev pub signals_of : ℕ → List (List ℕ) → List Float
signals_of skip [] = []
signals_of skip (line ∷ rows) = decimals_of (drop skip (fields line)) ++ signals_of skip rows

-- what the judge has found of a text that it takes for a bank: the numbers after the lines are the room in the three buffers
pub record Accepted (text : List (List ℕ)) (commits signals curve depth rounds : ℕ) : Type 0 where
  pub header : 0 < length text
  pub within : depth ≤ length (fields (get_or text 0 []))
  pub deep : 0 < depth
  pub shallow : depth ≤ 64
  pub some : 0 < rounds
  pub few : rounds ≤ 65536
  pub all : rounds ≡ length (drop 1 text)
  pub clean : (i : ℕ) → i < length (drop 1 text)
      → row_judged (length (fields (get_or text 0 []))) (length (fields (get_or text 0 [])) - depth) (fields (get_or (drop 1 text) i [])) ≡ Ok tt
  pub wide : (i : ℕ) → i < length (drop 1 text) → length (fields (get_or (drop 1 text) i [])) ≡ length (fields (get_or text 0 []))
  pub each : length (signals_of (length (fields (get_or text 0 [])) - depth) (drop 1 text)) ≡ rounds * depth
  pub commits_fit : rounds ≤ commits
  pub signals_fit : rounds * depth ≤ signals
  pub curve_fits : depth < curve
