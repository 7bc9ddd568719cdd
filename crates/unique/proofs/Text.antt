-- The contracts of `text` leave one outcome each. Assumes nothing.
use mathlib.Core.Bool.{Bool}
use mathlib.Core.List.{List, []}
use mathlib.Core.Path.{◌∙◌, ◌≡◌, ap}
use Prim.Native.Nat.{◌-◌, ℕ}
use lib.ListN.{get_or, length}
use Rattle.text.specs.Fields.{fields, same_text}
use Rattle.text.specs.Lines.{after_line, first_line, starts_with}
use Rattle.text.specs.declared.Line.{Line}
use Rattle.unique.specs.Only.{OnlyOne}
use Rattle.unique.proofs.Law.{once}

-- a line by its two places
line_same : (x y : Line) → x.stop ≡ y.stop → x.next ≡ y.next → x ≡ y
line_same x y p q = ap (λ (n : ℕ). record { stop = n; next = x.next }) p ∙ ap (λ (n : ℕ). record { stop = y.stop; next = n }) q

pub first_line_once : (s : List ℕ) → OnlyOne (λ (r : Line). (r.stop ≡ length (first_line s)) × (r.next ≡ length s - length (after_line s)))
first_line_once s x y p q = line_same x y (once p.0 q.0) (once p.1 q.1)

pub field_count_once : (s : List ℕ) → OnlyOne (λ (r : ℕ). r ≡ length (fields s))
field_count_once s x y p q = once p q

pub field_once : (s : List ℕ) (place : ℕ) → OnlyOne (λ (r : List ℕ). r ≡ get_or (fields s) place [])
field_once s place x y p q = once p q

pub same_once : (a b : List ℕ) → OnlyOne (λ (r : Bool). r ≡ same_text a b)
same_once a b x y p q = once p q

pub starts_with_once : (s : List ℕ) (byte : ℕ) → OnlyOne (λ (r : Bool). r ≡ starts_with byte s)
starts_with_once s byte x y p q = once p q
