-- The contracts of `day_names` leave one outcome each. Assumes nothing.
use mathlib.Core.Bool.{Bool}
use mathlib.Core.List.{List}
use mathlib.Core.Path.{◌≡◌}
use Prim.Native.Nat.{ℕ}
use Rattle.std.specs.Prelude.{Option}
use Rattle.day_names.specs.Names.{acceptance_of, command_of, drafter_of, is_none, policy_of, prices_of}
use Rattle.day_names.specs.declared.AcceptanceName.{AcceptanceName}
use Rattle.day_names.specs.declared.Command.{Command}
use Rattle.day_names.specs.declared.DrafterName.{DrafterName}
use Rattle.day_names.specs.declared.PolicyName.{PolicyName}
use Rattle.day_names.specs.declared.PricesName.{PricesName}
use Rattle.unique.specs.Only.{OnlyOne}
use Rattle.unique.proofs.Law.{once}

pub command_of_once : (line : List ℕ) → OnlyOne (λ (r : Option Command). r ≡ command_of line)
command_of_once line x y p q = once p q

pub policy_of_once : (name : List ℕ) → OnlyOne (λ (r : Option PolicyName). r ≡ policy_of name)
policy_of_once name x y p q = once p q

pub acceptance_of_once : (name : List ℕ) → OnlyOne (λ (r : Option AcceptanceName). r ≡ acceptance_of name)
acceptance_of_once name x y p q = once p q

pub drafter_of_once : (name : List ℕ) → OnlyOne (λ (r : Option DrafterName). r ≡ drafter_of name)
drafter_of_once name x y p q = once p q

pub prices_of_once : (name : List ℕ) → OnlyOne (λ (r : Option PricesName). r ≡ prices_of name)
prices_of_once name x y p q = once p q

pub is_none_once : (name : List ℕ) → OnlyOne (λ (r : Bool). r ≡ is_none name)
is_none_once name x y p q = once p q
