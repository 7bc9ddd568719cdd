-- An entry of a table that is the same under another name. Assumes nothing.
use Prim.Native.Nat.{ℕ}
use mathlib.Core.Path.{◌≡◌, ap}
use mathlib.Core.List.{List}
use Rattle.refusal_words.specs.Words.{entry}
use Rattle.page.specs.Page.{Added}
use Rattle.page.proofs.Adding.{renamed}

pub entry_added : {page after : List ℕ} {used end : ℕ} (number : ℕ) (words named : List (List ℕ)) → Added page used (entry words number) after end → words ≡ named → Added page used (entry named number) after end
entry_added number words named added e = renamed (ap (λ (w : List (List ℕ)). entry w number) e) added
