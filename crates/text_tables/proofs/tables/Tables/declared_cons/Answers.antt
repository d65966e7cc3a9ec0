use Rattle.std.proofs.Common.{◌+◌, List, ◌∷◌, [], drop, map, ap}
use Rattle.rp_ast.specs.declared.decl.ConNode.{ConNode}
use Rattle.rp_ast.specs.View.{con_view}
use Rattle.type_rules.specs.Matches.{con_case}
use Rattle.desugaring.specs.Tables.{Con, con_decl}
use Rattle.text_kinds.proofs.Walks.{rest_is}
use Rattle.text_names.proofs.Entries.{drop_past}
use Rattle.text_tables.specs.Seen.{tables_view}
use Rattle.text_tables.specs.means.Cases.{cons_with}
use Rattle.text_tables.proofs.Growing.{grown_end, grown_step}
use Rattle.text_tables.proofs.tables.Tables.declared_cons.Goals as goal

pub loop-con-preserved : goal.loop-con-preserved
loop-con-preserved c =
    let t = tables_view c.args.self.now in
    let all = c.args.declared.now in
    let i = c.loop-con.con-index in
    let x = c.con-item.result in
    let cs : List ConNode → List Con = λ xs. cons_with c.args.kind (map (con_case t.names) (map con_view xs)) in
    grown_step (con_decl t) c.args.cons.now c.loop-con.cons c.declared_con.new.cons (cs all) (cs (drop i all)) (cs (x ∷ [])) (cs (drop (i + 1) all)) c.loop-con.invariant
    (ap cs (rest_is all i x c.loop-con-test.true c.con-item.is)) c.in_ok-declared_con.ensures

pub returns : goal.returns
returns c =
    let t = tables_view c.args.self.now in
    let all = c.args.declared.now in
    let i = c.loop-con.con-index in
    let cs : List ConNode → List Con = λ xs. cons_with c.args.kind (map (con_case t.names) (map con_view xs)) in
    grown_end (con_decl t) c.args.cons.now c.loop-con.cons (cs all) (cs (drop i all)) c.loop-con.invariant (ap cs (drop_past all i c.loop-con-test.false))
