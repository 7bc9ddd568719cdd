-- `day_line::uncommented` meets its contract. Assumes nothing.
use mathlib.Core.Path.{sym, ap, ◌∙◌}
use Prim.Native.Nat.{ℕ}
use lib.ListN.{take}
use lib.Seq.{length-take-le}
use Rattle.trimming.specs.Trim.{trimmed}
use Rattle.day_line.specs.DayLine.{uncommented}
use Rattle.blocks.proofs.Finding.{found_le}
use Rattle.day_line.proofs.uncommented.Goals as goal

pub slice_bounds-trim-end : goal.slice_bounds-trim-end
slice_bounds-trim-end c =
    let s = c.args.line.now in
    sym (length-take-le c.find-stop.result s (found_le 35 s c.find-stop.result c.find-stop.ensures))

pub returns : goal.returns
unfolding uncommented
returns c = c.trim.ensures ∙ ap (λ (n : ℕ). trimmed (take n c.args.line.now)) c.find-stop.ensures
