-- What a drafter shares with the models of acceptance, passed on.
pub use Rattle.acceptance.specs.Acceptance.{most_gamma}
pub use Rattle.refusals.specs.Refusals.{first_of}
