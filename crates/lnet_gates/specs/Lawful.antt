-- Lemmas of the laws that the kinds of networks have.
pub mod OperandLemmas
pub mod FormLaws
pub mod AndForms
pub mod AndLaws
pub mod XorForms
pub mod XorLaws
pub mod MajForms
pub mod MajLaws
pub mod NodeFunctions
pub mod LutTables
pub mod LutLaws
pub mod KindLaws
pub mod AndPhases
