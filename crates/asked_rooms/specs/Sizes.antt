-- Which sizes of what a plan is asked with are passed. Assumes nothing.
use Rattle.std.specs.Prelude.{ℕ, Bool, true, ◌&&◌, cond, leb}
use Rattle.refusals.specs.declared.Refusal.TheVariants.{Size}
use Rattle.refusals.specs.Refusals.{Judgement, passed_if, number_in}
use Rattle.acceptance.specs.declared.AcceptanceModel.{AcceptanceModel}
use Rattle.acceptance.specs.declared.AcceptanceModel.TheVariants.{Constant, PerPosition, Trace}
use Rattle.goodput.specs.declared.curve.Source.{Source}
use Rattle.goodput.specs.declared.curve.Source.TheVariants.{Roofline, Table}

-- the bank of a trace has a depth of 1 to 64 and at most 65,536 rounds
abbrev pub bank_fits : AcceptanceModel → ℕ → ℕ → Bool
bank_fits (Constant alpha) depth rounds = true
bank_fits PerPosition depth rounds = true
bank_fits Trace depth rounds = leb 1 depth && (leb depth 64 && leb rounds 65536)

-- a table has at most 4,096 rows
abbrev pub table_fits : Source → ℕ → Bool
table_fits Roofline rows = true
table_fits Table rows = leb rows 4096

-- gamma is at most 64, and there are at most 1,024 sequences
unfoldable pub sizes_judged : AcceptanceModel → ℕ → ℕ → ℕ → ℕ → Source → ℕ → Judgement
sizes_judged model gamma n depth rounds source rows =
    passed_if ((leb gamma 64 && leb n 1024) && (bank_fits model depth rounds && table_fits source rows)) Size

-- its number, 0 where they pass
abbrev pub sizes_refusal : AcceptanceModel → ℕ → ℕ → ℕ → ℕ → Source → ℕ → ℕ
sizes_refusal model gamma n depth rounds source rows = number_in (sizes_judged model gamma n depth rounds source rows)
