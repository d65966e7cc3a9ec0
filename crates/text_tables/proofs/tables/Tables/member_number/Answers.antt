use Rattle.std.proofs.Common.{◌≡◌, List, ap, ap₂, sym, ◌∙◌}
use Rattle.rp_ast.specs.View.{crdt_view}
use Rattle.rp_ast.proofs.TypeViews.{crdt_view-parts}
use Rattle.rp_lang.specs.Exprs.{Ex}
use Rattle.type_terms.specs.Members.{does_view}
use Rattle.desugaring.specs.Callees.{taking}
use Rattle.desugaring.specs.Objects.{keys_on}
use Rattle.text_kinds.specs.Seen.{kinds_view}
use Rattle.text_tables.specs.Called.{callee_of}
use Rattle.text_tables.specs.declared.object.Object.{Object}
use Rattle.text_tables.specs.means.Placed.{number_at}
use Rattle.std.specs.List.{slice_get}
use Rattle.text_tables.proofs.CalledLaw.{called_law, end_object, end_there}
use Rattle.text_tables.proofs.ObjectLaw.{start_of}
use Rattle.text_tables.proofs.Results.{ok_then}
use Rattle.text_tables.proofs.tables.Tables.member_number.Goals as goal

pub returns : goal.returns
returns c = λ x steps m called leads does e.
    let tables = c.args.self.now in
    let k = kinds_view tables.kinds in
    let crdt = c.args.crdt.now in
    let object = c.in_ok-object.object in
    let there = end_there k x steps (crdt_view crdt) m leads in
    let at = ap (λ (os : List Object). slice_get os there.0) tables.known.objects_are.are ∙ there.1 in
    let from = ap start_of (leads.ends ∙ crdt_view-parts crdt) in
    let is : object ≡ end_object leads = c.in_ok-object.ensures there.0 (end_object leads) at from in
    ok_then (λ number. number ≡ number_at object (does_view c.args.does))
    (λ number. called ≡ taking {X = Ex} (keys_on leads.reached.path) m.args (callee_of m.does number)) c.number_on.result c.number_on.ensures
    (λ number told.
    called_law k x steps (crdt_view crdt) m leads called e
    ∙ ap (λ j. taking {X = Ex} (keys_on leads.reached.path) m.args (callee_of m.does j)) (ap₂ number_at (sym is) does ∙ sym told))
