-- Each turn of a walk over the marks, and each way out of it, over plain variables. Assumes nothing.
use mathlib.Core.Path.{◌≡◌, refl}
use mathlib.Core.Bool.{true, false}
use mathlib.Core.List.{List}
use Prim.Native.Nat.{ℕ, zero, suc, ◌+◌, ◌-◌, ◌<◌, ◌≤◌}
use native.Mathlib.Nat.{not-suc-le-zero}
use native.Mathlib.Omega.{arith}
use borrow.Author.Tests.{eq-eqb, ne_eqb}
use Rattle.clock_marks.specs.Marks.{second_at, previous_at, is_of, is_known, newest_of, holds_from, reaches, standing_from}

-- ---- turns of the walks

one_less : (n less : ℕ) → suc n ≡ less + 1 → less ≡ n
one_less n less h = omega arith

module _ (ws : List ℕ) (ring : ℕ) where
  module _ (a b : ℕ) where
    pub newest_none : (more plan : ℕ) → more ≤ 0 → newest_of ws ring a b more plan ≡ 0
    unfolding newest_of
    newest_none zero plan h = refl
    newest_none (suc more) plan h = absurd (not-suc-le-zero h)

    pub newest_found : (more plan : ℕ) → 0 < more → is_of ws ring a b plan ≡ true → newest_of ws ring a b more plan ≡ plan
    unfolding newest_of
    newest_found zero plan h k = absurd (not-suc-le-zero h)
    newest_found (suc more) plan h k = rw k

    pub newest_next : (more less plan before : ℕ) → more ≡ less + 1 → plan - 1 ≡ before → is_of ws ring a b plan ≡ false → newest_of ws ring a b more plan ≡ newest_of ws ring a b less before
    unfolding newest_of
    newest_next zero less plan before h e k = absurd (omega arith)
    newest_next (suc more) less plan before h e k = rw (k, one_less more less h, e)

  module _ (plans second : ℕ) where
    pub holds_none : (more plan : ℕ) → more ≤ 0 → holds_from ws ring plans second more plan ≡ false
    unfolding holds_from
    holds_none zero plan h = refl
    holds_none (suc more) plan h = absurd (not-suc-le-zero h)

    pub holds_unknown : (more plan : ℕ) → 0 < more → is_known ring plans plan ≡ false → holds_from ws ring plans second more plan ≡ false
    unfolding holds_from
    holds_unknown zero plan h k = absurd (not-suc-le-zero h)
    holds_unknown (suc more) plan h k = rw k

    pub holds_found : (more plan : ℕ) → 0 < more → is_known ring plans plan ≡ true → second_at ws ring plan ≡ second → holds_from ws ring plans second more plan ≡ true
    unfolding holds_from
    holds_found zero plan h k e = absurd (not-suc-le-zero h)
    holds_found (suc more) plan h k e = rw (k, eq-eqb (second_at ws ring plan) second e)

    pub holds_next : (more less plan next : ℕ) → more ≡ less + 1 → is_known ring plans plan ≡ true → (second_at ws ring plan ≡ second → ⊥) → next ≡ previous_at ws ring plan
        → holds_from ws ring plans second more plan ≡ holds_from ws ring plans second less next
    unfolding holds_from
    holds_next zero less plan next h k e f = absurd (omega arith)
    holds_next (suc more) less plan next h k e f = rw (k, ne_eqb (second_at ws ring plan) second e, ← f, one_less more less h)

    pub standing_none : (more plan : ℕ) → more ≤ 0 → standing_from ws ring plans second more plan ≡ 0
    unfolding standing_from
    standing_none zero plan h = refl
    standing_none (suc more) plan h = absurd (not-suc-le-zero h)

    pub standing_unknown : (more plan : ℕ) → 0 < more → is_known ring plans plan ≡ false → standing_from ws ring plans second more plan ≡ 0
    unfolding standing_from
    standing_unknown zero plan h k = absurd (not-suc-le-zero h)
    standing_unknown (suc more) plan h k = rw k

    pub standing_next : (more less plan its one next : ℕ) → more ≡ less + 1 → is_known ring plans plan ≡ true → its ≡ second_at ws ring plan → one ≡ reaches second its → next ≡ previous_at ws ring plan
        → standing_from ws ring plans second more plan ≡ one + standing_from ws ring plans second less next
    unfolding standing_from
    standing_next zero less plan its one next h k e f g = absurd (omega arith)
    standing_next (suc more) less plan its one next h k e f g = rw (k, f, e, g, one_less more less h)
