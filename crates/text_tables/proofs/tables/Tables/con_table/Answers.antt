use Rattle.std.proofs.Common.{◌∷◌, ◌≡◌, ◌≤◌, ◌+◌, List, [], drop, get_or, length, ap, subst}
use Rattle.std.specs.List.{flat_map}
use Rattle.std.specs.Option.{option_map}
use Rattle.type_rules.specs.declared.kind.Kind.{Kind}
use Rattle.desugaring.specs.Tables.{Con, con_decl, cons_of, table_with}
use Rattle.std.proofs.lemmas.List.{drop_more}
use Rattle.type_rules.specs.Kinds.{bool_kind}
use Rattle.text_names.proofs.Entries.{drop_past}
use Rattle.text_tables.specs.Seen.{tables_view}
use Rattle.text_tables.proofs.Growing.{from_nothing, grown_end, grown_step}
use Rattle.text_tables.proofs.tables.Tables.con_table.Goals as goal

pub loop-kind-preserved : goal.loop-kind-preserved
loop-kind-preserved c =
    let t = tables_view c.args.self.now in
    let kinds = t.datatypes in
    let all = c.as_slice-kind-items.ensures in
    let i = c.loop-kind.kind-index in
    let x = get_or c.as_slice-kind-items.result.now i bool_kind in
    let cs : List Kind → List Con = λ xs. flat_map (cons_of t.names) xs in
    grown_step (con_decl t) [] c.loop-kind.cons c.add_cons.new.cons (cs kinds) (cs (drop i kinds)) (cons_of t.names x) (cs (drop (i + 1) kinds)) c.loop-kind.invariant
    (ap cs (subst (λ (ks : List Kind). drop i ks ≡ x ∷ drop (i + 1) ks) all (drop_more c.as_slice-kind-items.result.now i bool_kind c.loop-kind-test.true))) c.in_ok-add_cons.ensures

pub returns : goal.returns
returns c =
    let t = tables_view c.args.self.now in
    let kinds = t.datatypes in
    let all = c.as_slice-kind-items.ensures in
    let i = c.loop-kind.kind-index in
    let cs : List Kind → List Con = λ xs. flat_map (cons_of t.names) xs in
    ap (option_map table_with) (from_nothing (con_decl t) (cs kinds) c.loop-kind.cons
    (grown_end (con_decl t) [] c.loop-kind.cons (cs kinds) (cs (drop i kinds)) c.loop-kind.invariant (ap cs (drop_past kinds i (subst (λ (ks : List Kind). length ks ≤ i) all c.loop-kind-test.false)))))
