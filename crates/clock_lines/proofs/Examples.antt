-- Lines as they are printed, by computation. Assumes nothing.
use mathlib.Core.Path.{◌≡◌, refl}
use Rattle.page.specs.Spelt.{spelt}
use Rattle.page.specs.Numbers.{places_from, decimal}
use Rattle.clock_lines.specs.Lines.{note_line, clocks_line}

all_at_once : note_line 23 0 1 7200 2700 0 4 ≡ spelt "23,note,worker 0 1,hour 2,clock went back 2700 s,counted again from second 7200,steps doubled 4\n"
unfolding places_from decimal note_line
all_at_once = refl

back_and_nothing_there : note_line 23 0 1 7199 2700 0 0 ≡ spelt "23,note,worker 0 1,hour 1,clock went back 2700 s\n"
unfolding places_from decimal note_line
back_and_nothing_there = refl

forward : note_line 23 0 1 10801 0 3601 0 ≡ spelt "23,note,worker 0 1,hour 3,clock went forward 3601 s\n"
unfolding places_from decimal note_line
forward = refl

counted_later : note_line 24 0 1 7201 0 0 3 ≡ spelt "24,note,worker 0 1,hour 2,counted again from second 7201,steps doubled 3\n"
unfolding places_from decimal note_line
counted_later = refl

a_day : clocks_line 2 2 0 8 ≡ spelt "0,clocks,workers 2,went back 2,went forward 0,steps counted again 8\n"
unfolding places_from decimal clocks_line
a_day = refl
