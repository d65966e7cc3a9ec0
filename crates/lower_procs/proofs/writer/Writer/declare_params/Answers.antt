use Rattle.std.proofs.Common.{◌≡◌, ◌+◌, List, [], ◌∷◌, drop, map, refl, sym, ap, subst, ◌∙◌}
use Rattle.rp_grammar.specs.Trees.{ParamTree}
use Rattle.rp_ast.specs.View.{param_view, params_view, type_view}
use Rattle.type_rules.specs.declared.kind.Kind.{Kind}
use Rattle.type_rules.specs.Kinds.{kind_of, param_kinds}
use Rattle.type_rules.specs.Names.{param_name}
use Rattle.text_names.proofs.Entries.{drop_past}
use Rattle.text_tables.specs.Seen.{tables_view}
use Rattle.reading.proofs.Found.{next_in}
use Rattle.lower_procs.specs.Writing.{HaveSlots}
use Rattle.lower_procs.proofs.Declaring.{Declaring, declaring_begins, declaring_ends_maker, declaring_ends_slots, declaring_goes_on, kinds_are}
use Rattle.lower_procs.proofs.writer.Writer.declare_params.Goals as goal

pub loop-param-init : goal.loop-param-init
loop-param-init c = declaring_begins c.args.self.now _ _

pub loop-param-preserved : goal.loop-param-preserved
loop-param-preserved c =
    let start = c.args.self.now in
    let names = (tables_view start.maker.reader.tables.now).names in
    let params = c.args.params.now in
    let i = c.loop-param.param-index in
    let p = c.param-item.result in
    let now = c.loop-param.self in
    let xs = map param_name (params_view params) in
    let ks = param_kinds names (params_view params) in
    let kind : c.in_ok-kind.kind ≡ kind_of names (type_view p.ty) =
    c.in_ok-kind.ensures ∙ ap (λ m. kind_of m (type_view p.ty)) c.names.ensures
    ∙ ap (λ t. kind_of (tables_view t).names (type_view p.ty)) c.loop-param.invariant.tables in
    let here : Declaring start xs ks now (map param_name (params_view (p ∷ drop (i + 1) params))) (param_kinds names (params_view (p ∷ drop (i + 1) params))) =
    subst (λ (ps : List ParamTree). Declaring start xs ks now (map param_name ps) (param_kinds names ps))
    (next_in params_view params i p c.loop-param-test.true c.param-item.is) c.loop-param.invariant in
    declaring_goes_on here c.in_ok-_slot.ensures.slots kind c.in_ok-_slot.ensures.maker

pub returns-clause-slots : goal.returns-clause-slots
returns-clause-slots c =
    let start = c.args.self.now in
    let names = (tables_view start.maker.reader.tables.now).names in
    let params = params_view c.args.params.now in
    let last = subst (λ (ps : List ParamTree). Declaring start (map param_name params) (param_kinds names params) c.loop-param.self (map param_name ps) (param_kinds names ps))
    (ap params_view (drop_past c.args.params.now c.loop-param.param-index c.loop-param-test.false)) c.loop-param.invariant in
    subst (λ (ks : List Kind). HaveSlots start ks c.loop-param.self) (kinds_are names params) (declaring_ends_slots last)

pub returns-clause-maker : goal.returns-clause-maker
returns-clause-maker c =
    let start = c.args.self.now in
    let names = (tables_view start.maker.reader.tables.now).names in
    let params = params_view c.args.params.now in
    let last = subst (λ (ps : List ParamTree). Declaring start (map param_name params) (param_kinds names params) c.loop-param.self (map param_name ps) (param_kinds names ps))
    (ap params_view (drop_past c.args.params.now c.loop-param.param-index c.loop-param-test.false)) c.loop-param.invariant in
    declaring_ends_maker last
