-- What a depth costs, and the depth that the Rust's loop ends with. Assumes nothing.
use Rattle.std.specs.Prelude.{ℕ, suc, ◌-◌, cond, List, length, take, Float}
use Rattle.float.specs.Floats.{plus, is_finite}
use Rattle.speculative.specs.Drafter.{drafter_seconds}
use Rattle.speculative.specs.declared.drafter.Rates.{Rates}
use Rattle.speculative.specs.declared.drafter.DrafterCost.{DrafterCost}
use Rattle.chains.specs.Scan.{scan}
use Rattle.chains.specs.Expected.{expected_over}
use Rattle.depths.specs.Goodput.{best_depth}

-- n sequences, of which `loaded` routed experts are read
module _ (kind : DrafterCost) (n : ℕ) (rates : Rates) (loaded : Float) where
  -- verify and drafter at depth g; what is not finite stays
  unfoldable pub total_cost : ℕ → Float → Float
  total_cost g verify = cond (is_finite verify) (plus verify (drafter_seconds kind g n rates verify loaded)) verify

  -- the costs of the depths from g on
  abbrev pub costs_from : ℕ → List Float → List Float
  costs_from g curve = scan (λ d _. suc d) total_cost g curve

  -- what the Rust's loop ends with
  unfoldable pub depth_over : List Float → List Float → ℕ
  depth_over es curve = best_depth n es (costs_from 0 curve)

-- the depth that a gate starts from, by the Rust's loop; `loaded`: the routed experts that the whole batch loads
unfoldable pub gate_depth : DrafterCost → Rates → Float → List ℕ → List Float → List Float → ℕ
gate_depth kind rates loaded lengths chains curve =
    depth_over kind (length lengths) rates loaded (take (length curve) (expected_over (length curve - 1) lengths chains)) curve
