-- Where the values of an accepted text stand, place by place, and that what follows them is as it was: the rules' words, as theorems about the definition.
-- Assumes nothing.
use mathlib.Core.Path.{◌≡◌, refl, sym, ap, ◌∙◌, subst}
use mathlib.Core.Bool.{false}
use mathlib.Core.List.{List, [], ◌∷◌, ◌++◌}
use Prim.Native.Nat.{ℕ, zero, suc, ◌+◌, ◌-◌, ◌*◌, ◌≤◌, ◌<◌, suc-le-suc}
use native.Mathlib.Nat.{not-suc-le-zero, le_of_suc-le-suc, zero-mul, zero-add, suc-mul, suc-add, add-suc, add-zero}
use native.Mathlib.Omega.{arith}
use lib.Ieee.{Float, binary64, round}
use lib.ListN.{length, get_or, drop, length-drop, get_or-append}
use lib.Seq.{get_or-append-add, get_or-drop}
use lib.Arith.{digits_lt}
use Rattle.text.specs.Lines.{lines}
use Rattle.text.specs.Fields.{fields}
use Rattle.numeral.specs.Spelling.{whole_of}
use Rattle.decimals.specs.Decimals.{decimal_of}
use Rattle.bank_fill.specs.Fill.{whole_value, decimal_value, commits_of, decimals_of, signals_of}
use Rattle.bank_curve.specs.Curve.{sum_up_to, curve_from, over}
use Rattle.bank.specs.Read.{filled, bank_read}
use Rattle.bank_judge.specs.Judge.{Answer, sized, judged}
use Rattle.bank_fill.proofs.Accepted.{accepted, commits_length, curve_length, decimals_length}

-- commits[i] is the first field of row i
pub commits_at : (rows : List (List ℕ)) (i d : ℕ) → i < length rows → get_or (commits_of rows) i d ≡ whole_value (whole_of (get_or (fields (get_or rows i [])) 0 []))
commits_at [] i d h = absurd (not-suc-le-zero h)
commits_at (line ∷ rows) zero d h = refl
commits_at (line ∷ rows) (suc i) d h = commits_at rows i d (le_of_suc-le-suc h)

decimals_at : (fs : List (List ℕ)) (j : ℕ) (d : Float) → j < length fs → get_or (decimals_of fs) j d ≡ decimal_value (decimal_of (get_or fs j []))
decimals_at [] j d h = absurd (not-suc-le-zero h)
decimals_at (f ∷ fs) zero d h = refl
decimals_at (f ∷ fs) (suc j) d h = decimals_at fs j d (le_of_suc-le-suc h)

-- value j of one row's signal is its field skip + j
row_at_lem : (width skip : ℕ) (row : List (List ℕ)) (j : ℕ) (d : Float) → length row ≡ width → j < width - skip
    → get_or (decimals_of (drop skip row)) j d ≡ decimal_value (decimal_of (get_or row (skip + j) []))
row_at_lem width skip row j d e h =
    decimals_at (drop skip row) j d (subst (λ (n : ℕ). j < n) (sym (length-drop skip row ∙ ap (λ (n : ℕ). n - skip) e)) h)
    ∙ ap (λ (f : List ℕ). decimal_value (decimal_of f)) (get_or-drop skip row j [])

-- signals[i * depth + j] is field skip + j of row i, where each row has skip + depth fields
pub signals_at : (width skip : ℕ) (rows : List (List ℕ)) → ((i : ℕ) → i < length rows → length (fields (get_or rows i [])) ≡ width) → (i j : ℕ) (d : Float)
    → i < length rows → j < width - skip → get_or (signals_of skip rows) (i * (width - skip) + j) d ≡ decimal_value (decimal_of (get_or (fields (get_or rows i [])) (skip + j) []))
signals_at width skip [] wide i j d h k = absurd (not-suc-le-zero h)
signals_at width skip (line ∷ rows) wide zero j d h k =
    let first = decimals_of (drop skip (fields line)) in
    let l : length first ≡ width - skip = decimals_length (drop skip (fields line)) ∙ length-drop skip (fields line) ∙ ap (λ (n : ℕ). n - skip) (wide 0 h) in
    ap (λ (n : ℕ). get_or (first ++ signals_of skip rows) n d) (ap (λ (n : ℕ). n + j) (zero-mul (width - skip)) ∙ zero-add j)
    ∙ get_or-append first (signals_of skip rows) d j (subst (λ (n : ℕ). j < n) (sym l) k)
    ∙ row_at_lem width skip (fields line) j d (wide 0 h) k
signals_at width skip (line ∷ rows) wide (suc i) j d h k =
    let first = decimals_of (drop skip (fields line)) in
    let l : length first ≡ width - skip = decimals_length (drop skip (fields line)) ∙ length-drop skip (fields line) ∙ ap (λ (n : ℕ). n - skip) (wide 0 (omega arith)) in
    ap (λ (n : ℕ). get_or (first ++ signals_of skip rows) n d) (past (width - skip) i (length first) j l)
    ∙ get_or-append-add first (signals_of skip rows) (i * (width - skip) + j) d
    ∙ signals_at width skip rows (λ m g. wide (suc m) (omega arith)) i j d (le_of_suc-le-suc h) k
  where
    past : (n i l j : ℕ) → l ≡ n → suc i * n + j ≡ l + (i * n + j)
    past n i l j e = ap (λ (x : ℕ). x + j) (suc-mul i n) ∙ step (i * n) n l j e
      where
        step : (p n l j : ℕ) → l ≡ n → p + n + j ≡ l + (p + j)
        step p n l j e = omega arith

-- curve[g] is the mean of min(commits, g)
pub curve_at : (n g i : ℕ) (commits : List ℕ) (d : Float) → i < n → get_or (curve_from g n commits) i d ≡ round binary64 false (sum_up_to (g + i) commits) (length commits)
curve_at zero g i commits d h = absurd (not-suc-le-zero h)
curve_at (suc n) g zero commits d h = ap (λ (k : ℕ). round binary64 false (sum_up_to k commits) (length commits)) (sym (add-zero g))
curve_at (suc n) g (suc i) commits d h =
    curve_at n (suc g) i commits d (le_of_suc-le-suc h) ∙ ap (λ (k : ℕ). round binary64 false (sum_up_to k commits) (length commits)) (suc-add g i ∙ sym (add-suc g i))

-- what is written stands in front, and what follows is as it was
pub over_front {ℓ} : {A : Type ℓ} (new old : List A) (i : ℕ) (d : A) → i < length new → get_or (over new old) i d ≡ get_or new i d
over_front new old i d h = get_or-append new (drop (length new) old) d i h

pub over_behind {ℓ} : {A : Type ℓ} (new old : List A) (i : ℕ) (d : A) → get_or (over new old) (length new + i) d ≡ get_or old (length new + i) d
over_behind new old i d = get_or-append-add new (drop (length new) old) i d ∙ get_or-drop (length new) old i d

-- ---- the same of what reading leaves, where the judge takes the text for a bank

module _ (text commits : List ℕ) (signals curve : List Float) (depth rounds : ℕ) (e : judged text (length commits) (length signals) (length curve) ≡ sized depth rounds) where
  -- the buffers, in which the values stand over the front
  commits_left : (bank_read text commits signals curve).commits ≡ over (commits_of (drop 1 (lines text))) commits
  unfolding bank_read
  commits_left = ap (λ (x : Answer). (filled (lines text) x commits signals curve).commits) e

  signals_left : (bank_read text commits signals curve).signals ≡ over (signals_of (length (fields (get_or (lines text) 0 [])) - depth) (drop 1 (lines text))) signals
  unfolding bank_read
  signals_left = ap (λ (x : Answer). (filled (lines text) x commits signals curve).signals) e

  pub commits_placed : (i d : ℕ) → i < rounds → get_or (bank_read text commits signals curve).commits i d ≡ whole_value (whole_of (get_or (fields (get_or (drop 1 (lines text)) i [])) 0 []))
  commits_placed i d h =
      let a = accepted text (length commits) (length signals) (length curve) depth rounds e in
      let rows = drop 1 (lines text) in
      let k : i < length rows = subst (λ (n : ℕ). i < n) a.all h in
      ap (λ (l : List ℕ). get_or l i d) commits_left
      ∙ over_front (commits_of rows) commits i d (subst (λ (n : ℕ). i < n) (sym (commits_length rows)) k)
      ∙ commits_at rows i d k

  pub signals_placed : (i j : ℕ) (d : Float) → i < rounds → j < depth
      → get_or (bank_read text commits signals curve).signals (i * depth + j) d
      ≡ decimal_value (decimal_of (get_or (fields (get_or (drop 1 (lines text)) i [])) (length (fields (get_or (lines text) 0 [])) - depth + j) []))
  signals_placed i j d h k =
      let a = accepted text (length commits) (length signals) (length curve) depth rounds e in
      let rows = drop 1 (lines text) in
      let width = length (fields (get_or (lines text) 0 [])) in
      let within : depth ≤ width = a.within in
      let deep : width - (width - depth) ≡ depth = omega arith in
      ap (λ (l : List Float). get_or l (i * depth + j) d) signals_left
      ∙ over_front (signals_of (width - depth) rows) signals (i * depth + j) d (subst (λ (n : ℕ). i * depth + j < n) (sym a.each) (digits_lt h k))
      ∙ ap (λ (n : ℕ). get_or (signals_of (width - depth) rows) (i * n + j) d) (sym deep)
      ∙ signals_at width (width - depth) rows a.wide i j d (subst (λ (n : ℕ). i < n) a.all h) (subst (λ (n : ℕ). j < n) (sym deep) k)

  -- past the rounds nothing is written
  pub commits_behind : (i d : ℕ) → get_or (bank_read text commits signals curve).commits (rounds + i) d ≡ get_or commits (rounds + i) d
  commits_behind i d =
      let a = accepted text (length commits) (length signals) (length curve) depth rounds e in
      let rows = drop 1 (lines text) in
      let n : rounds ≡ length (commits_of rows) = a.all ∙ sym (commits_length rows) in
      ap (λ (l : List ℕ). get_or l (rounds + i) d) commits_left
      ∙ ap (λ (k : ℕ). get_or (over (commits_of rows) commits) (k + i) d) n
      ∙ over_behind (commits_of rows) commits i d
      ∙ ap (λ (k : ℕ). get_or commits (k + i) d) (sym n)

  pub signals_behind : (i : ℕ) (d : Float) → get_or (bank_read text commits signals curve).signals (rounds * depth + i) d ≡ get_or signals (rounds * depth + i) d
  signals_behind i d =
      let a = accepted text (length commits) (length signals) (length curve) depth rounds e in
      let values = signals_of (length (fields (get_or (lines text) 0 [])) - depth) (drop 1 (lines text)) in
      ap (λ (l : List Float). get_or l (rounds * depth + i) d) signals_left
      ∙ ap (λ (k : ℕ). get_or (over values signals) (k + i) d) (sym a.each)
      ∙ over_behind values signals i d
      ∙ ap (λ (k : ℕ). get_or signals (k + i) d) a.each

  curve_left : (bank_read text commits signals curve).curve ≡ over (curve_from 0 (suc depth) (commits_of (drop 1 (lines text)))) curve
  unfolding bank_read
  curve_left = ap (λ (x : Answer). (filled (lines text) x commits signals curve).curve) e

  -- curve[g], for g up to the depth, is the sum of min(commits, g) divided once by the round count
  pub curve_placed : (g : ℕ) (d : Float) → g ≤ depth
      → get_or (bank_read text commits signals curve).curve g d ≡ round binary64 false (sum_up_to g (commits_of (drop 1 (lines text)))) rounds
  curve_placed g d h =
      let a = accepted text (length commits) (length signals) (length curve) depth rounds e in
      let cs = commits_of (drop 1 (lines text)) in
      ap (λ (l : List Float). get_or l g d) curve_left
      ∙ over_front (curve_from 0 (suc depth) cs) curve g d (subst (λ (n : ℕ). g < n) (sym (curve_length 0 (suc depth) cs)) (suc-le-suc h))
      ∙ curve_at (suc depth) 0 g cs d (suc-le-suc h)
      ∙ ap (λ (k : ℕ). round binary64 false (sum_up_to k cs) (length cs)) (zero-add g)
      ∙ ap (λ (k : ℕ). round binary64 false (sum_up_to g cs) k) (commits_length (drop 1 (lines text)) ∙ sym a.all)

  pub curve_behind : (i : ℕ) (d : Float) → get_or (bank_read text commits signals curve).curve (suc depth + i) d ≡ get_or curve (suc depth + i) d
  curve_behind i d =
      let values = curve_from 0 (suc depth) (commits_of (drop 1 (lines text))) in
      let n = curve_length 0 (suc depth) (commits_of (drop 1 (lines text))) in
      ap (λ (l : List Float). get_or l (suc depth + i) d) curve_left
      ∙ ap (λ (k : ℕ). get_or (over values curve) (k + i) d) (sym n)
      ∙ over_behind values curve i d
      ∙ ap (λ (k : ℕ). get_or curve (k + i) d) n
