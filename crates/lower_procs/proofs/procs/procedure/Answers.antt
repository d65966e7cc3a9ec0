use Rattle.std.proofs.Common.{◌≡◌, List, ℕ, Some, ap, subst, ◌∙◌}
use Rattle.std.proofs.lemmas.Result.{err_from_is_err_and}
use Rattle.rp_span.specs.declared.Span.{Span}
use Rattle.rp_ast.specs.View.{params_view, proc_view}
use Rattle.rp_lang.specs.Programs.{Proc}
use Rattle.rp_lang.specs.Views.{stmts_view}
use Rattle.type_rules.specs.Kinds.{param_kinds}
use Rattle.type_rules.specs.Names.{param_name}
use Rattle.desugaring.specs.Programs.{ProcDecl}
use Rattle.lower_procs.specs.Whole.{proc_in}
use Rattle.lower_procs.specs.Writing.{HaveSlots, sight_in, with_slots}
use Rattle.lower_procs.proofs.Simple.{stopped}
use Rattle.lower_procs.proofs.Wholes.{Started, proc_parts, proc_past}
use Rattle.std.proofs.Common.{length, map}
use Rattle.lower_procs.proofs.procs.procedure.Goals as goal

pub returns-in_err-body-clause-nodes : goal.returns-in_err-body-clause-nodes
returns-in_err-body-clause-nodes c d wanted is measured h err =
    let w = c.args.work in
    let p = proc_view c.args.proc.now in
    let start = c.new-writer.result in
    let now = c.declare_params.new.self in
    let names = (sight_in start).tables.names in
    let e = c.new-writer.ensures in
    let items = c.as_slice.ensures.items in
    let s : Started w c.args.passed.now p start now = record {
      work = e.work;
      passed_is = e.passed;
      none = e.vars;
      ready = e.ready measured;
      empty = e.slots;
      slots = subst (λ l. HaveSlots start (param_kinds names (params_view l)) now) items c.in_ok-declare_params.ensures.slots;
      maker = c.in_ok-declare_params.ensures.maker
          ∙ ap (λ l. record start.maker { reader = with_slots start.maker.reader (length start.slots) (map param_name (params_view l)) (param_kinds names (params_view l)) }) items;
    } in
    let there = subst (λ (d : ProcDecl). proc_in w d ≡ Some wanted) is h in
    proc_past c.args.at p wanted s c.in_ok-head.ensures
    (c.in_err-body.ensures.nodes (stopped (err_from_is_err_and c.from_residual-in_err-body.result c.from_residual-in_err-body.ensures.1) err)) there

pub returns-clause-made : goal.returns-clause-made
returns-clause-made c d wanted is measured h on =
    let w = c.args.work in
    let p = proc_view c.args.proc.now in
    let start = c.new-writer.result in
    let now = c.declare_params.new.self in
    let names = (sight_in start).tables.names in
    let e = c.new-writer.ensures in
    let items = c.as_slice.ensures.items in
    let s : Started w c.args.passed.now p start now = record {
      work = e.work;
      passed_is = e.passed;
      none = e.vars;
      ready = e.ready measured;
      empty = e.slots;
      slots = subst (λ l. HaveSlots start (param_kinds names (params_view l)) now) items c.in_ok-declare_params.ensures.slots;
      maker = c.in_ok-declare_params.ensures.maker
          ∙ ap (λ l. record start.maker { reader = with_slots start.maker.reader (length start.slots) (map param_name (params_view l)) (param_kinds names (params_view l)) }) items;
    } in
    let there = subst (λ (d : ProcDecl). proc_in w d ≡ Some wanted) is h in
    let parts = proc_parts c.args.at p wanted s c.in_ok-head.ensures c.in_ok-body.ensures.writes there in
    ap (λ (end : Span). let made : Proc = record {
      name = c.in_ok-head.head.name;
      at = c.args.at;
      end = end;
      params = c.in_ok-head.head.params;
      result = c.in_ok-head.head.result;
      slots = c.block.new.self.slots;
      body = stmts_view c.in_ok-body.body;
    } in made) c.brace_of.ensures
    ∙ parts.built on

pub returns-clause-count : goal.returns-clause-count
returns-clause-count c d wanted is measured h =
    let w = c.args.work in
    let p = proc_view c.args.proc.now in
    let start = c.new-writer.result in
    let now = c.declare_params.new.self in
    let names = (sight_in start).tables.names in
    let e = c.new-writer.ensures in
    let items = c.as_slice.ensures.items in
    let s : Started w c.args.passed.now p start now = record {
      work = e.work;
      passed_is = e.passed;
      none = e.vars;
      ready = e.ready measured;
      empty = e.slots;
      slots = subst (λ l. HaveSlots start (param_kinds names (params_view l)) now) items c.in_ok-declare_params.ensures.slots;
      maker = c.in_ok-declare_params.ensures.maker
          ∙ ap (λ l. record start.maker { reader = with_slots start.maker.reader (length start.slots) (map param_name (params_view l)) (param_kinds names (params_view l)) }) items;
    } in
    let there = subst (λ (d : ProcDecl). proc_in w d ≡ Some wanted) is h in
    let parts = proc_parts c.args.at p wanted s c.in_ok-head.ensures c.in_ok-body.ensures.writes there in
    parts.count

pub returns-clause-passed : goal.returns-clause-passed
returns-clause-passed c d wanted is measured h =
    let w = c.args.work in
    let p = proc_view c.args.proc.now in
    let start = c.new-writer.result in
    let now = c.declare_params.new.self in
    let names = (sight_in start).tables.names in
    let e = c.new-writer.ensures in
    let items = c.as_slice.ensures.items in
    let s : Started w c.args.passed.now p start now = record {
      work = e.work;
      passed_is = e.passed;
      none = e.vars;
      ready = e.ready measured;
      empty = e.slots;
      slots = subst (λ l. HaveSlots start (param_kinds names (params_view l)) now) items c.in_ok-declare_params.ensures.slots;
      maker = c.in_ok-declare_params.ensures.maker
          ∙ ap (λ l. record start.maker { reader = with_slots start.maker.reader (length start.slots) (map param_name (params_view l)) (param_kinds names (params_view l)) }) items;
    } in
    let there = subst (λ (d : ProcDecl). proc_in w d ≡ Some wanted) is h in
    let parts = proc_parts c.args.at p wanted s c.in_ok-head.ensures c.in_ok-body.ensures.writes there in
    parts.passed

pub returns-clause-small : goal.returns-clause-small
returns-clause-small c d wanted is measured h on =
    let w = c.args.work in
    let p = proc_view c.args.proc.now in
    let start = c.new-writer.result in
    let now = c.declare_params.new.self in
    let names = (sight_in start).tables.names in
    let e = c.new-writer.ensures in
    let items = c.as_slice.ensures.items in
    let s : Started w c.args.passed.now p start now = record {
      work = e.work;
      passed_is = e.passed;
      none = e.vars;
      ready = e.ready measured;
      empty = e.slots;
      slots = subst (λ l. HaveSlots start (param_kinds names (params_view l)) now) items c.in_ok-declare_params.ensures.slots;
      maker = c.in_ok-declare_params.ensures.maker
          ∙ ap (λ l. record start.maker { reader = with_slots start.maker.reader (length start.slots) (map param_name (params_view l)) (param_kinds names (params_view l)) }) items;
    } in
    let there = subst (λ (d : ProcDecl). proc_in w d ≡ Some wanted) is h in
    let parts = proc_parts c.args.at p wanted s c.in_ok-head.ensures c.in_ok-body.ensures.writes there in
    parts.small on
