-- `text::line_to` meets its contract: the line ends at a CR and an LF, at an LF alone, or at the end of the text. Assumes nothing.
use mathlib.Core.Path.{◌≡◌}
use mathlib.Core.Bool.{true, false}
use Prim.Native.Nat.{◌≤◌}
use native.Mathlib.Omega.{arith}
use borrow.Author.Tests.{eq-eqb, ne_eqb}
use lib.ListN.{length}
use Rattle.blocks.specs.Blocks.{find}
use Rattle.text.proofs.Laws.{line_empty, line_last, line_fed, after_length}
use Rattle.blocks.proofs.Finding.{find_le}
use Rattle.text.proofs.line_to.Goals as goal
use Rattle.text.proofs.line_to.Goals.{then-feed-gt0+else-s-last-eq13, else-feed-gt0}

pub returns-then-s-last-eq13-clause-stop : goal.returns-then-s-last-eq13-clause-stop
returns-then-s-last-eq13-clause-stop c = let s = c.args.s.now in line_fed s c.args.feed c.requires c.if-feed-gt0.true c.if-feed-s.true true (eq-eqb _ 13 c.if-s-last-eq13.true)

pub returns-then-s-last-eq13-clause-next : goal.returns-then-s-last-eq13-clause-next
returns-then-s-last-eq13-clause-next c = let s = c.args.s.now in omega (arith, after_length s)

pub returns-then-feed-s-clause-stop : goal.returns-then-feed-s-clause-stop
returns-then-feed-s-clause-stop c =
    let s = c.args.s.now in
    elim c.if-feed-gt0.branch [
      | then-feed-gt0+else-s-last-eq13 w ↦ line_fed s c.args.feed c.requires w.if-feed-gt0.true c.if-feed-s.true false (ne_eqb _ 13 w.if-s-last-eq13.false)
      | else-feed-gt0 w ↦ (let first : find 10 s ≡ 0 = omega arith in omega (arith, line_empty s first))
    ]

pub returns-then-feed-s-clause-next : goal.returns-then-feed-s-clause-next
returns-then-feed-s-clause-next c = let s = c.args.s.now in omega (arith, after_length s)

pub returns-clause-stop : goal.returns-clause-stop
returns-clause-stop c =
    let s = c.args.s.now in
    let none : length s ≤ find 10 s = omega arith in
    omega (arith, line_last s none, find_le 10 s, after_length s)

pub returns-clause-next : goal.returns-clause-next
returns-clause-next c =
    let s = c.args.s.now in
    let none : length s ≤ find 10 s = omega arith in
    omega (arith, line_last s none, find_le 10 s, after_length s)
