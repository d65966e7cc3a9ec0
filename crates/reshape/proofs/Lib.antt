pub mod FlattenLaws
pub mod FoundSorts
pub mod PassLaws
pub mod ReshapeLaws
pub mod SomeLaws
