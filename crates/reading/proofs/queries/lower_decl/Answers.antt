use Rattle.std.proofs.Common.{refl}
use Rattle.text_tables.specs.Seen.{tables_view}
use Rattle.query_bodies.specs.Views.{body_view}
use Rattle.reading.proofs.Declared.{none_added, on_ok, query_added}
use Rattle.reading.proofs.queries.lower_decl.Goals as goal

pub returns-in-IdType : goal.returns-in-IdType
returns-in-IdType c =
    on_ok c.push_none.result
    (λ e. none_added (tables_view c.args.tables.now) c.args.decl.now _ c.args.bodies.now c.push_none.new.self c.in-IdType.is (λ at. refl) e)
    c.push_none.ensures

pub returns-in-Opaque : goal.returns-in-Opaque
returns-in-Opaque c =
    on_ok c.push_none-in-Opaque.result
    (λ e. none_added (tables_view c.args.tables.now) c.args.decl.now _ c.args.bodies.now c.push_none-in-Opaque.new.self c.in-Opaque.is (λ at. refl) e)
    c.push_none-in-Opaque.ensures

pub returns-in-Datatype : goal.returns-in-Datatype
returns-in-Datatype c =
    on_ok c.push_none-in-Datatype.result
    (λ e. none_added (tables_view c.args.tables.now) c.args.decl.now _ c.args.bodies.now c.push_none-in-Datatype.new.self c.in-Datatype.is (λ at. refl) e)
    c.push_none-in-Datatype.ensures

pub returns-in-Crdt : goal.returns-in-Crdt
returns-in-Crdt c =
    on_ok c.push_none-in-Crdt.result
    (λ e. none_added (tables_view c.args.tables.now) c.args.decl.now _ c.args.bodies.now c.push_none-in-Crdt.new.self c.in-Crdt.is (λ at. refl) e)
    c.push_none-in-Crdt.ensures

pub returns-in-Invariant : goal.returns-in-Invariant
returns-in-Invariant c =
    on_ok c.push_none-in-Invariant.result
    (λ e. none_added (tables_view c.args.tables.now) c.args.decl.now _ c.args.bodies.now c.push_none-in-Invariant.new.self c.in-Invariant.is (λ at. refl) e)
    c.push_none-in-Invariant.ensures

pub returns-in-Proc : goal.returns-in-Proc
returns-in-Proc c =
    on_ok c.push_none-in-Proc.result
    (λ e. none_added (tables_view c.args.tables.now) c.args.decl.now _ c.args.bodies.now c.push_none-in-Proc.new.self c.in-Proc.is (λ at. refl) e)
    c.push_none-in-Proc.ensures

pub returns-in_ok-body-in-Query : goal.returns-in_ok-body-in-Query
returns-in_ok-body-in-Query c =
    on_ok c.add.result
    (λ e. query_added (tables_view c.args.tables.now) c.args.decl.now _ _ (body_view c.in_ok-body-in-Query.body) c.args.bodies.now
    c.add.new.self c.in-Query.is c.len.ensures.length c.in_ok-body-in-Query.ensures e)
    c.add.ensures
