use Rattle.std.proofs.Common.{ap₂, sym, ◌∙◌}
use Rattle.text_names.specs.Declarations.{names_view}
use Rattle.text_kinds.specs.means.Rows.{found_in}
use Rattle.text_kinds.proofs.NumbersFound.{numbers_none}
use Rattle.text_kinds.proofs.table.KindTable.numbers.Goals as goal

pub returns-in-Some : goal.returns-in-Some
returns-in-Some c =
    let kind = c.args.kind in
    let table = c.args.self.now in
    c.found_in.ensures
    ∙ ap₂ (λ own maybes. found_in own maybes c.in-Some.place kind.maybes) c.as_slice.ensures.value
    c.as_slice-in-Some.ensures.value
    ∙ table.rows.found kind.base kind.maybes c.in-Some.place (sym c.place_of.ensures ∙ c.in-Some.is)

pub returns-in-None : goal.returns-in-None
returns-in-None c =
    let table = c.args.self.now in
    sym (numbers_none (names_view table.names.now) 0 0 table.kinds c.args.kind (sym c.place_of.ensures ∙ c.in-None.is))
