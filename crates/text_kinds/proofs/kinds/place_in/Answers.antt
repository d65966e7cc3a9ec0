use Rattle.std.proofs.Common.{ap, sym, ◌∙◌}
use Rattle.std.specs.List.{position_from}
use Rattle.type_rules.specs.Names.{same_name}
use Rattle.type_rules.specs.Matches.{Case}
use Rattle.type_terms.specs.Views.{cases_view}
use Rattle.text_kinds.proofs.NumbersFound.{cons_place}
use Rattle.text_kinds.proofs.kinds.place_in.Goals as goal

pub returns-in-Declared : goal.returns-in-Declared
returns-in-Declared c = λ n.
    let name = c.args.name.now in
    c.number.ensures ∙ cons_place n c.in-Declared.cons.now.cons.now name 0
    ∙ ap (λ cases. position_from (λ (x : Case). same_name x.name name) 0 (cases_view n cases)) (sym c.in-Declared.is)
