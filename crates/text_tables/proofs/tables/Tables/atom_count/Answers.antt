use Rattle.std.proofs.Common.{length, ap, ◌∙◌, arith}
use Rattle.desugaring.specs.Tables.{atom_number}
use Rattle.text_tables.specs.Seen.{tables_view}
use Rattle.text_tables.proofs.AtomsLaw.{all_counted, atom_read, atom_within}
use Rattle.text_tables.proofs.tables.Tables.atom_count.Goals as goal

pub get-requires : goal.get-requires
get-requires c =
    let tables = c.args.self.now in
    let n = (tables_view tables).names in
    let many = c.type_count.ensures ∙ ap (λ n. length n.types) c.names.ensures in
    record { within = atom_within n tables.atoms c.type_count.result tables.known.atoms_are (omega (arith, many)) }

pub returns : goal.returns
returns c =
    let tables = c.args.self.now in
    let n = (tables_view tables).names in
    let many = c.type_count.ensures ∙ ap (λ n. length n.types) c.names.ensures in
    atom_read n tables.atoms c.type_count.result c.get.result.now tables.known.atoms_are (omega (arith, many)) c.get.ensures
    ∙ ap (atom_number n) many ∙ all_counted n
