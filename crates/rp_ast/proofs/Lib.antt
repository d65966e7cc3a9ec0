pub mod TypeViews
pub mod ExprViews
pub mod StmtViews
pub mod TypesKnown
pub mod ExprsKnown
pub mod StmtsKnown
pub mod AstKnown
