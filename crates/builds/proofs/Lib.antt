-- `Demand3` proves the claim on whole builds, `RefusalsLemmas` what the refusals mean; `Beside` sets a build beside its account,
-- `InTurnLemmas` and `Standing` have what is proved of lists that grow by one for each call.
pub mod Beside
pub mod Demand3
pub mod InTurnLemmas
pub mod RefusalsLemmas
pub mod Standing
