use Rattle.std.proofs.Common.{Some, ap, arith}
use Rattle.rp_value.specs.declared.tables.Ty.TheVariants as ty
use Rattle.text_tables.specs.Seen.{tables_view}
use Rattle.text_tables.proofs.AtomsLaw.{atom_read, atom_within}
use Rattle.text_tables.proofs.tables.Tables.atom_ty.Goals as goal

pub get-requires : goal.get-requires
get-requires c =
    let tables = c.args.self.now in
    record { within = atom_within (tables_view tables).names tables.atoms c.args.number tables.known.atoms_are (omega (arith, c.requires)) }

pub returns : goal.returns
returns c =
    let tables = c.args.self.now in
    ap (λ k. Some (ty.Atom k)) (atom_read (tables_view tables).names tables.atoms c.args.number c.get.result.now tables.known.atoms_are (omega (arith, c.requires)) c.get.ensures)
