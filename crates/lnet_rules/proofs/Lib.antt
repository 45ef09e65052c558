pub mod JoinLemmas
pub mod CoverLemmas
pub mod RowLemmas
pub mod JoinValues
pub mod RuleValues
