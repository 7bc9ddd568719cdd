-- The contract of every function that adds to a page leaves one outcome: the page and where its text ends. Assumes nothing.
use Prim.Native.Nat.{ℕ}
use mathlib.Core.Path.{◌≡◌, sym, ◌∙◌}
use mathlib.Core.List.{List}
use Rattle.page.specs.Page.{Added}

pub added_once : {page bytes after after' : List ℕ} {used end end' : ℕ} → Added page used bytes after end → Added page used bytes after' end' → (end ≡ end') × (after ≡ after')
added_once p q = (p.ends ∙ sym q.ends, p.stands ∙ sym q.stands)
