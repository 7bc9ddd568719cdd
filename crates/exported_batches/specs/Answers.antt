-- What is told of each answer, and what is left of a lent buffer; floats by their bits. Two cases that plain numbers stand for. Assumes nothing.
use Rattle.std.specs.Prelude.{ℕ, cond, List, eqb, ltb, length, get_or, Float, Result, Ok, Err}
use Rattle.std.specs.Float.{nan, binary64}
use Rattle.std.specs.Float.Ieee.{to_bits}
use Rattle.refusals.specs.declared.Refusal.{Refusal}
use Rattle.goodput.specs.declared.curve.Source.{Source}
use Rattle.goodput.specs.declared.curve.Source.TheVariants.{Roofline, Table}
use Rattle.goodput.specs.declared.survival.Survival.{Survival}
use Rattle.goodput.specs.Expected.{Left as Values, answer_number}
use Rattle.gates.specs.Entry.{Left}
use Rattle.exported.specs.declared.Told.{Told}
use Rattle.exported.specs.Telling.{told, refused_told}

-- the source of a number, any but 0 the table
unfoldable pub source_of : ℕ → Source
source_of source = cond (eqb source 0) Roofline Table

-- how many prices, and the one at a place, 0 past the last
unfoldable pub prices_told : ℕ → List Float → Told
prices_told at prices = told 0 (length prices) (cond (ltb at (length prices)) (to_bits binary64 (get_or prices at nan)) 0)

-- a slot of the chain, 0 past its 64
unfoldable pub survival_told : ℕ → Survival → Told
survival_told at s = told s.refusal (cond (ltb at 64) (to_bits binary64 (get_or s.chain at nan)) 0) 0

-- the seconds
unfoldable pub cost_told : Result Float Refusal → Told
cost_told (Ok x) = told 0 (to_bits binary64 x) 0
cost_told (Err refusal) = refused_told refusal

unfoldable pub depth_told : Result ℕ Refusal → Told
depth_told (Ok depth) = told 0 depth 0
depth_told (Err refusal) = refused_told refusal

-- the slots weighed
unfoldable pub gated_told : Result ℕ Refusal → Told
gated_told (Ok slots) = told 0 slots 0
gated_told (Err refusal) = refused_told refusal

-- the number of the refusal, 0 for none, and the values
abbrev pub values_left : Values → ℕ × List Float
values_left o = (answer_number o.answer, o.out)

abbrev pub widths_left : Left → Told × List ℕ
widths_left o = (gated_told o.answer, o.widths)
