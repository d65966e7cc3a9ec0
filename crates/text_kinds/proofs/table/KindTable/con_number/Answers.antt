use Rattle.std.proofs.Common.{◌+◌, ◌<◌, refl, subst, sym, ◌∙◌}
use Rattle.text_names.specs.Declarations.{names_view}
use Rattle.text_kinds.proofs.NumbersFound.{con_absent, con_nowhere, con_there, con_within}
use Rattle.text_kinds.proofs.table.KindTable.con_number.Goals as goal

pub sum_below-requires : goal.sum_below-requires
sum_below-requires c =
    let table = c.args.self.now in
    let n = names_view table.names.now in
    let sum = c.in-Some.numbers.first + c.in-Some-con_in.place in
    let there = con_there n table.kinds c.args.kind c.args.name.now c.in-Some.numbers c.in-Some-con_in.place sum
    (sym c.numbers.ensures ∙ c.in-Some.is) (sym c.con_in.ensures ∙ c.in-Some-con_in.is) refl in
    subst (λ m. sum < m) (sym table.rows.cons_are) (con_within n table.kinds c.args.kind c.args.name.now sum there)

pub returns-in-Some-con_in : goal.returns-in-Some-con_in
returns-in-Some-con_in c =
    let table = c.args.self.now in
    sym (con_there (names_view table.names.now) table.kinds c.args.kind c.args.name.now c.in-Some.numbers c.in-Some-con_in.place
    c.sum_below.result
    (sym c.numbers.ensures ∙ c.in-Some.is) (sym c.con_in.ensures ∙ c.in-Some-con_in.is) c.sum_below.ensures)

pub returns-in-None-con_in : goal.returns-in-None-con_in
returns-in-None-con_in c =
    let table = c.args.self.now in
    sym (con_absent (names_view table.names.now) table.kinds c.args.kind c.args.name.now c.in-Some.numbers
    (sym c.numbers.ensures ∙ c.in-Some.is) (sym c.con_in.ensures ∙ c.in-None-con_in.is))

pub returns-in-None : goal.returns-in-None
returns-in-None c =
    let table = c.args.self.now in
    sym (con_nowhere (names_view table.names.now) table.kinds c.args.kind c.args.name.now (sym c.numbers.ensures ∙ c.in-None.is))
