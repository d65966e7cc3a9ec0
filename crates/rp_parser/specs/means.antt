-- What the proofs and the contracts of private functions speak of.
pub mod Marks
pub mod Reading
pub mod Starts
pub mod ExprStarts
pub mod Signs
pub mod StmtStarts
pub mod Sentences
pub mod Blocks
pub mod DeclStarts
pub mod TokenAnswers
