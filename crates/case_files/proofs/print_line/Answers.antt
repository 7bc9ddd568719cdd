use Rattle.case_files.proofs.Places.{counts}
use Rattle.text.proofs.Walk.{line_stop}
use Rattle.case_files.proofs.print_line.Goals as goal

pub slice_bounds-write_all-end-2 : goal.slice_bounds-write_all-end-2
slice_bounds-write_all-end-2 c =
    (counts _ _ (line_stop _ _ _ c.first_line-line.ensures.stop c.first_line-line.ensures.next)).1
