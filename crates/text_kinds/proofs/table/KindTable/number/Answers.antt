use Rattle.std.proofs.Common.{ap, sym, ◌∙◌}
use Rattle.std.specs.Option.{option_map}
use Rattle.std.proofs.lemmas.Iterator.Adapters.{position_from-zero}
use Rattle.desugaring.specs.Appearances.{same_kind}
use Rattle.text_names.specs.Declarations.{names_view}
use Rattle.text_kinds.specs.declared.numbers.Numbers.{Numbers}
use Rattle.text_kinds.proofs.NumbersFound.{number_is}
use Rattle.text_kinds.proofs.table.KindTable.number.Goals as goal

pub returns-in-Some : goal.returns-in-Some
returns-in-Some c =
    let table = c.args.self.now in
    ap (option_map (λ (r : Numbers). r.number)) (sym c.in-Some.is ∙ c.numbers.ensures)
    ∙ number_is (names_view table.names.now) 0 0 table.kinds c.args.kind
    ∙ sym (position_from-zero (same_kind c.args.kind) table.kinds)

pub returns-in-None : goal.returns-in-None
returns-in-None c =
    let table = c.args.self.now in
    ap (option_map (λ (r : Numbers). r.number)) (sym c.in-None.is ∙ c.numbers.ensures)
    ∙ number_is (names_view table.names.now) 0 0 table.kinds c.args.kind
    ∙ sym (position_from-zero (same_kind c.args.kind) table.kinds)
