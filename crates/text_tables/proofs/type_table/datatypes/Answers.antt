use Rattle.std.proofs.Common.{get_or, ◌≡◌, ◌+◌, ◌-◌, ◌++◌, ◌∷◌, [], List, length, drop, sym, ap, ap₂, ◌∙◌, arith}
use Rattle.std.proofs.lemmas.List.{append_assoc, drop_more}
use Rattle.type_rules.specs.declared.kind.Kind.{Kind}
use Rattle.desugaring.specs.Tables.{cons_of, data_decls}
use Rattle.text_names.specs.Declarations.{names_view}
use Rattle.type_rules.specs.Kinds.{bool_kind}
use Rattle.text_tables.specs.means.Texts.{decl_of}
use Rattle.text_tables.proofs.type_table.datatypes.Goals as goal

pub data_decl-requires : goal.data_decl-requires
data_decl-requires c = omega (arith, c.in_ok-end.ensures)

pub loop-kind-preserved : goal.loop-kind-preserved
loop-kind-preserved c =
    let n = names_view c.args.names.now in
    let kinds = c.args.kinds.now in
    let i = c.loop-kind.kind-index in
    let x = get_or kinds i bool_kind in
    let now = c.loop-kind.decls in
    let next = c.loop-kind.next in
    let end = c.in_ok-end.end in
    let decl = c.in_ok-decl.decl in
    let many = length (cons_of n x) in
    let rest : List Kind = drop (i + 1) kinds in
    let end_is : end ≡ next + many = c.in_ok-end.ensures ∙ ap (λ m. next + m) c.con_count.ensures in
    let left : end - next ≡ many = omega (arith, end_is) in
    let decl_is : decl ≡ decl_of n x next many = c.in_ok-decl.ensures ∙ ap (decl_of n x next) left in
    ap (λ ds. ds ++ data_decls n end rest) c.in_ok-push.ensures.ok ∙ append_assoc now (decl ∷ []) (data_decls n end rest)
    ∙ ap₂ (λ d e. now ++ (d ∷ data_decls n e rest)) decl_is end_is
    ∙ sym (ap (λ ks. now ++ data_decls n next ks) (drop_more kinds i bool_kind c.loop-kind-test.true))
    ∙ c.loop-kind.invariant
