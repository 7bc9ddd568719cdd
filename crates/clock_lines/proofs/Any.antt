-- What is added of a number, where it is above 0. Assumes nothing.
use Prim.Native.Nat.{ℕ}
use mathlib.Core.Path.{◌≡◌, sym, ap}
use mathlib.Core.Bool.{Bool, cond}
use mathlib.Core.List.{List, []}
use borrow.Author.Tests.{eq-eqb, ne_eqb}
use Rattle.page.specs.Page.{Added}
use Rattle.page.proofs.Adding.{renamed}
use Rattle.clock_lines.specs.Lines.{if_any}

pub none : (n : ℕ) (words : List ℕ) {page after : List ℕ} {used full : ℕ} → n ≡ 0 → Added page used [] after full → Added page used (if_any n words) after full
none n words z a = renamed (sym (ap (λ (t : Bool). cond t [] words) (eq-eqb n 0 z))) a

pub some : (n : ℕ) (words : List ℕ) {page after : List ℕ} {used full : ℕ} → (n ≡ 0 → ⊥) → Added page used words after full → Added page used (if_any n words) after full
some n words z a = renamed (sym (ap (λ (t : Bool). cond t [] words) (ne_eqb n 0 z))) a
