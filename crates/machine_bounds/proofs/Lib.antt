pub mod IntLemmas
pub mod TameLemmas
pub mod AnswerBounds
pub mod ExprBounds
pub mod FormulaBounds
pub mod CodeBounds
