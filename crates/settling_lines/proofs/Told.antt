-- What is added for an answer, once it is known which one it is. Assumes nothing.
use mathlib.Core.Path.{◌≡◌, sym, ap}
use mathlib.Core.List.{List}
use Prim.Native.Nat.{ℕ}
use Rattle.page.specs.Page.{Added}
use Rattle.page.proofs.Adding.{renamed}
use Rattle.width_way.specs.declared.Settling.{Settling}

-- s, the answer, is k, whose text was added
pub told : {page after : List ℕ} {used full : ℕ} {s k : Settling} (text : Settling → List ℕ) → s ≡ k → Added page used (text k) after full → Added page used (text s) after full
told text t a = renamed (ap text (sym t)) a
