use Rattle.std.proofs.Common.{◌+◌, List, drop, map, sym, ap, ◌∙◌}
use Rattle.rp_ast.specs.declared.decl.ConNode.{ConNode}
use Rattle.rp_ast.specs.View.{con_view, params_view}
use Rattle.type_rules.specs.declared.kind.Kind.{Kind}
use Rattle.type_rules.specs.Kinds.{param_kinds}
use Rattle.type_rules.specs.Matches.{con_case}
use Rattle.text_kinds.proofs.Walks.{rest_is}
use Rattle.text_names.proofs.Entries.{drop_past}
use Rattle.text_tables.specs.Seen.{tables_view}
use Rattle.text_tables.specs.means.Limited.{fields_of, sum_told}
use Rattle.text_tables.proofs.PartsLaw.{sum_then}
use Rattle.text_tables.proofs.tables.Tables.con_parts.Goals as goal

pub loop-con-preserved : goal.loop-con-preserved
loop-con-preserved c =
    let t = tables_view c.args.self.now in
    let rows = c.args.before.now in
    let cons = c.args.cons.now in
    let i = c.loop-con.con-index in
    let x = c.con-item.result in
    let now = c.loop-con.sum in
    let ks : List ConNode → List Kind = λ xs. fields_of (map (con_case t.names) (map con_view xs)) in
    sym (sum_then t rows now (con_case t.names (con_view x)).fields (ks (drop (i + 1) cons)) c.in_ok-sum.sum
    (ap (λ ps. sum_told t rows now (param_kinds t.names (params_view ps))) (sym c.as_slice.ensures.items) ∙ c.in_ok-sum.ensures))
    ∙ sym (ap (λ (xs : List ConNode). sum_told t rows now (ks xs)) (rest_is cons i x c.loop-con-test.true c.con-item.is))
    ∙ c.loop-con.invariant

pub returns : goal.returns
returns c =
    let t = tables_view c.args.self.now in
    let rows = c.args.before.now in
    let cons = c.args.cons.now in
    let i = c.loop-con.con-index in
    sym c.loop-con.invariant
    ∙ ap (λ (xs : List ConNode). sum_told t rows c.loop-con.sum (fields_of (map (con_case t.names) (map con_view xs)))) (drop_past cons i c.loop-con-test.false)
