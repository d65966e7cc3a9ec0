use Rattle.std.proofs.Common.{◌&&◌, ap₂, sym, ◌∙◌}
use Rattle.std.specs.Prelude.{count_by, nat_le}
use Rattle.text_tables.specs.Seen.{tables_view}
use Rattle.text_tables.specs.means.Limited.{is_declared}
use Rattle.text_tables.proofs.TypesLaw.{few_law}
use Rattle.text_tables.proofs.tables.Tables.has_few_types.Goals as goal

pub returns : goal.returns
returns c = λ cons e.
    let t = tables_view c.args.self.now in
    let declared = c.declared_count-declared.ensures ∙ ap₂ (λ n ks. count_by (is_declared n) ks) c.names.ensures c.as_slice.ensures ∙ sym (few_law t cons e) in
    c.are_few.ensures ∙ ap₂ (λ a b. nat_le a 64 && nat_le b 64) c.atom_count.ensures declared
