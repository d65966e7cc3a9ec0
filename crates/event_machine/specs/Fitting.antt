-- Which values fit a type, and the identifiers and opaque values inside them.
pub use Rattle.crdt_defs.specs.Fitting.{cons_to, fields_of, fits, fields_fit, all_fit, atoms, atoms_in_fields, all_atoms, names_ids, is_id, is_below}
