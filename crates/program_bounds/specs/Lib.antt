pub mod UsesView
