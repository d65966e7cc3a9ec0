use Rattle.std.proofs.Common.{◌≡◌, ◌+◌, [], length, map, option_map, sym, ap, subst, ◌∙◌, arith}
use Rattle.std.proofs.lemmas.List.{length_push}
use Rattle.rp_ast.specs.View.{decls_view}
use Rattle.type_rules.specs.Names.{Names}
use Rattle.text_tables.specs.Seen.{tables_view}
use Rattle.query_bodies.specs.Expanded.{Saids}
use Rattle.query_bodies.specs.Seen.{known_in, saids_in}
use Rattle.query_laws.specs.Told.{AreAdded}
use Rattle.query_laws.specs.Whole.{AreBodiesOf, AreOf}
use Rattle.query_laws.proofs.Bodies.{next_bodies, no_bodies}
use Rattle.query_laws.proofs.Names.{names_told}
use Rattle.query_laws.proofs.NextMeasured.{next_added, none_added}
use Rattle.reading.proofs.Declared.{decl_at, is_next, is_next_added, known_before, said_more}
use Rattle.reading.proofs.queries.lower_queries.Goals as goal

pub loop-decl-init : goal.loop-decl-init
loop-decl-init c =
    let t = tables_view c.args.tables.now in
    let tree = decls_view c.args.decls.now in
    let new = c.new-bodies.result in
    let none : saids_in new ≡ [] = ap (map (option_map (λ it. it.said))) c.new-bodies.ensures in (
      subst (λ (b : Saids). AreBodiesOf t tree b) (sym none) (no_bodies t tree),
      subst (λ (b : Saids). AreAdded tree b (known_in new)) (sym none) (none_added tree (known_in new)),
      ap length none,
    )

pub loop-decl-preserved : goal.loop-decl-preserved
loop-decl-preserved c =
    let t = tables_view c.args.tables.now in
    let decls = c.args.decls.now in
    let tree = decls_view decls in
    let old = c.loop-decl.bodies in
    let new = c.lower_decl.new.bodies in
    let was = c.loop-decl.invariant in
    let adds = c.in_ok-lower_decl.ensures in
    let next = option_map (λ it. it.said) adds.next in
    let of : AreOf t.names tree = subst (λ (n : Names). AreOf n tree) (sym c.requires.named) (names_told tree) in
    let there = decl_at decls c.loop-decl.decl-index c.decl-item.result c.loop-decl-test.true c.decl-item.is in
    let seen = said_more old new adds.next adds.behind in (
      subst (λ (b : Saids). AreBodiesOf t tree b) (sym seen)
          (next_bodies t tree (saids_in old) next of was.0
          (is_next t tree old c.loop-decl.decl-index _ adds.next was.2 there adds.gives)),
      subst (λ (b : Saids). AreAdded tree b (known_in new)) (sym seen)
          (next_added tree (saids_in old) (known_in old) (known_in new) next was.1
          (known_before old new adds.next adds.behind)
          (is_next_added t tree old new c.loop-decl.decl-index _ adds was.2 there)),
      ap length seen ∙ length_push (saids_in old) next ∙ ap (λ n. n + 1) was.2,
    )

pub returns-clause-uses : goal.returns-clause-uses
returns-clause-uses c = c.loop-decl.invariant.0

pub returns-clause-measured : goal.returns-clause-measured
returns-clause-measured c = c.loop-decl.invariant.1

pub returns-clause-count : goal.returns-clause-count
returns-clause-count c = c.loop-decl.invariant.2 ∙ omega arith
