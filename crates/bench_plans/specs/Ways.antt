-- How long a width takes to settle, as one plain number, and what it is asked with, from plain numbers.
use Rattle.std.specs.Prelude.{ℕ, Float}
use Rattle.std.specs.Float.{binary64}
use Rattle.std.specs.Float.Ieee.{of_bits}
use Rattle.settings.specs.declared.Settings.{Settings}
use Rattle.asked_rooms.specs.declared.Ask.{Ask}
use Rattle.width_way.specs.declared.Settling.{Settling}
use Rattle.width_way.specs.declared.Settling.TheVariants.{Within, NoStep, NoCandidate, AtOnce, Refused}
use Rattle.bench_plans.specs.Figures.{drafter_of}
use Rattle.bench_plans.specs.Whole.{settings_of, ask_of}

-- what is not asked of the settings is 0
abbrev pub way_settings : ℕ → ℕ → Float → Settings
way_settings gamma cooldown cost =
    settings_of gamma 0 (of_bits binary64 0) 3 cooldown cost (drafter_of 0 (of_bits binary64 0) (of_bits binary64 0) 0 0 0)

abbrev pub way_ask : ℕ → Ask
way_ask rows = ask_of 0 1 (of_bits binary64 0) (of_bits binary64 0) (of_bits binary64 0) rows 0 0

-- the greatest number stands for a width that never is the target, and for a refusal
unfoldable pub rounds_of : Settling → ℕ
rounds_of (Within rounds walks) = rounds
rounds_of (NoStep width) = 18446744073709551615
rounds_of (NoCandidate width) = 18446744073709551615
rounds_of AtOnce = 0
rounds_of (Refused number) = 18446744073709551615
