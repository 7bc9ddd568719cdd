-- Worked examples of the definitions, by computation. Assumes nothing.
use mathlib.Core.Path.{◌≡◌, refl}
use Prim.Native.Nat.{ℕ}
use mathlib.Core.List.{List}
use lib.ListN.{replicate}
use Rattle.day_clock.specs.Clock.{pushed, popped, passed_of, changed_of, taken_back_of}

-- a clock on which nothing has passed
new : List ℕ
new = replicate {A = ℕ} 66 0

-- plans for the seconds 7 and 5: the clock goes back by 2
two_back : (passed_of (passed_of new 7).1 5).0 ≡ 2
unfolding new passed_of pushed
two_back = refl

-- the first plan of a day, and one for a later second, go back by nothing
first_plan : (passed_of new 7).0 ≡ 0
unfolding new passed_of pushed
first_plan = refl

later_plan : (passed_of (passed_of new 7).1 9).0 ≡ 0
unfolding new passed_of pushed
later_plan = refl

-- once the plan for 7 is withdrawn, one for 5 goes back by nothing
withdrawn : (passed_of (taken_back_of (passed_of new 7).1) 5).0 ≡ 0
unfolding new passed_of pushed taken_back_of popped
withdrawn = refl

-- a withdrawal takes back the collection behind the plan, and the plan stands
collected : (passed_of (taken_back_of (changed_of (passed_of new 7).1)) 5).0 ≡ 2
unfolding new passed_of pushed changed_of taken_back_of popped
collected = refl
