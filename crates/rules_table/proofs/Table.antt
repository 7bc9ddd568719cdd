-- The rules' table holds, row by row, by computation. Assumes nothing.
use mathlib.Core.Path.{◌≡◌, refl}
use mathlib.Core.Bool.{true}
use lib.Ieee.{of_bits, to_bits, of_int, add, sub, mul, div, lt, eq, neg, is_nan, to_unsigned, round}
use Rattle.float.specs.Floats.{is_finite, max_of, clamp_to}
use Rattle.numeral.specs.Moment.{second_of}
use Rattle.cost_rows.specs.Prune.{kept, dropped, above}
use Rattle.speculative.specs.Drafter.{still_drafting, block_seconds}
use Rattle.width_walk.specs.Walk.{first_at_least}
use Rattle.switching.specs.Deciding.{finite_from}
use Rattle.chains.specs.Scan.{scan}
use Rattle.chains.specs.Tests.{all_of}
use Rattle.chains.specs.Expected.{add_running, sums_with}
use Rattle.depths.specs.Goodput.{exceeded, first_best, best_of}
use Rattle.depths.specs.Pricing.{total_cost}
use Rattle.heap.specs.Frontier.{next}
use Rattle.heap.specs.Greedy.{run, greedy}
use Rattle.verify_prices.specs.Price.{verify_cost}
use Rattle.verdict.specs.Decision.{taken_if}
use Rattle.slots.specs.Slots.{up_to, down_from, stacks}
use Rattle.block.specs.Block.{add_slot, block_from, block_widths, block_gate}
use Rattle.trim.specs.Ragged.{sum_from, survivals_from, tokens_from, margin_of, passes_of, full_draft, drop_slot, ragged_widths, ragged_gate}
use Rattle.gates.specs.Entry.{ragged_chosen, block_chosen}
use Rattle.ledger_laws.specs.Model.{sums_at, counted, cleaned_of, record_of, seconds_of, workers_of, step_rule, worker_rule, refusal, step, after}
use Rattle.rules_table.specs.Rows.{meets, table}

pub all_hold : all_of meets table ≡ true
unfolding all_of second_of kept dropped above still_drafting block_seconds first_at_least finite_from scan add_running sums_with exceeded first_best best_of total_cost next run greedy verify_cost taken_if up_to down_from stacks add_slot block_from block_widths block_gate sum_from survivals_from tokens_from margin_of passes_of full_draft drop_slot ragged_widths ragged_gate ragged_chosen block_chosen sums_at counted cleaned_of record_of seconds_of workers_of step_rule worker_rule refusal step after is_finite max_of clamp_to of_bits to_bits of_int add sub mul div lt eq neg is_nan to_unsigned round
all_hold = refl
