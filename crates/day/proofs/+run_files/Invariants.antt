use Rattle.day.proofs.+run_files.Given as goal

abbrev pub decreases-run_files : goal.decreases-run_files
decreases-run_files l = l.last
