-- 15: which of the values that a plan uses are out of range. Assumes nothing.
pub use Rattle.asked_values.specs.Values.{prices_valued, loaded_valued, curve_valued, held_of, held_valued, policy_valued}
