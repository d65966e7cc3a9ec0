use Rattle.std.proofs.Common.{true, false, map, ap, sym, ◌∙◌}
use Rattle.rp_ast.specs.View.{con_view}
use Rattle.type_rules.specs.Names.{is_among}
use Rattle.type_rules.specs.Matches.{con_case}
use Rattle.type_rules.specs.Rules.{has_every_case}
use Rattle.text_names.proofs.Entries.{drop_past}
use Rattle.type_terms.proofs.Found.{every_next}
use Rattle.type_terms.proofs.cases.has_every_con.Goals as goal

pub returns-then-not-is_arm : goal.returns-then-not-is_arm
returns-then-not-is_arm c = λ n names table.
    let among = ap (λ x. is_among x names) (sym c.as_slice.ensures.items)
    ∙ sym (c.is_arm.ensures names table) ∙ c.if-not-is_arm.true in
    sym (every_next n names c.args.cons.now c.loop-con.con-index c.con-item.result false c.loop-con-test.true c.con-item.is among)
    ∙ c.loop-con.invariant n names table

pub loop-con-preserved : goal.loop-con-preserved
loop-con-preserved c = λ n names table.
    let among = ap (λ x. is_among x names) (sym c.as_slice.ensures.items)
    ∙ sym (c.is_arm.ensures names table) ∙ c.if-not-is_arm.false in
    sym (every_next n names c.args.cons.now c.loop-con.con-index c.con-item.result true c.loop-con-test.true c.con-item.is among)
    ∙ c.loop-con.invariant n names table

pub returns : goal.returns
returns c = λ n names table.
    ap (λ cons. has_every_case names (map (con_case n) (map con_view cons)))
    (sym (drop_past c.args.cons.now c.loop-con.con-index c.loop-con-test.false))
    ∙ c.loop-con.invariant n names table
