use Rattle.std.proofs.Common.{rules, ◌≡◌, ◌+◌, ◌-◌, List, length, map, arith, true, false, Some, None, sym, ap, subst, ◌∙◌}
use Rattle.std.specs.Result.{IfOk}
use Rattle.std.proofs.lemmas.Grind.{common_steps}
use Rattle.rp_value.specs.Values.{Con}
use Rattle.rp_value.specs.ValueView.{value_view, values_view, vals_of}
use Rattle.rp_value.proofs.ValueViews.{value_view-Con}
use Rattle.rp_lang.specs.ProgramView.{program_view}
use Rattle.schedule_fmt.specs.means.Reading as spec
use Rattle.rp_value.specs.declared.value.Value.{Value}
use Rattle.rp_value.specs.declared.value.Value.TheVariants as made
use Rattle.schedule_fmt.specs.Views.{Added, value_at}
use Rattle.schedule_fmt.proofs.Gathered.{arg_absent, arg_last, arg_bad, arg_more, args_over, pushed_map}
use Rattle.schedule_fmt.proofs.ValueSteps.{value_quoted, value_int, value_atom, value_con, con_args, con_bare}
use Rattle.schedule_fmt.proofs.reader.Reader.+value.Goals as goal

pub args-returns-in_err-to-clause-none : goal.args-returns-in_err-to-clause-none
args-returns-in_err-to-clause-none t c = λ h.
    let text = c.args.self.now.text.now in
    let read = spec.value (program_view c.args.self.now.names.now.program.now) text c.args.depth in
    let tys = c.args.fields.now in
    let none : read c.asked_at.result c.loop-i.at ≡ None = first_of (search rules, grind (arith, common_steps)) in
    arg_absent read text tys (spec.args_by read text tys c.args.from) (length text) c.loop-i.i c.loop-i.at (map value_view c.loop-i.args) (omega arith)
    (subst (λ ty. read ty c.loop-i.at ≡ None) c.asked_at.ensures none) c.loop-i.invariant

pub args-returns-then-next_is-clause-found : goal.args-returns-then-next_is-clause-found
args-returns-then-next_is-clause-found t c =
    let text = c.args.self.now.text.now in
    let read = spec.value (program_view c.args.self.now.names.now.program.now) text c.args.depth in
    let tys = c.args.fields.now in
    let a = c.in_ok-to.ensures.found in
    let v = value_view a.0 in
    let to = c.in_ok-to.to in
    let closes : spec.next_is 41 text to ≡ true = search rules in
    let vs = map value_view c.loop-i.args in
    arg_last read text tys (spec.args_by read text tys c.args.from) (length text) c.loop-i.i c.loop-i.at vs v to (omega arith)
    (subst (λ ty. read ty c.loop-i.at ≡ Some (v, to)) c.asked_at.ensures a.2) closes c.loop-i.invariant
    ∙ ap (λ us. Some (vals_of us, to + 1)) (sym (pushed_map value_view c.loop-i.args c.value.new.values a.0 a.1))

pub args-returns-then-not-next_is-clause-none : goal.args-returns-then-not-next_is-clause-none
args-returns-then-not-next_is-clause-none t c = λ h.
    let text = c.args.self.now.text.now in
    let read = spec.value (program_view c.args.self.now.names.now.program.now) text c.args.depth in
    let tys = c.args.fields.now in
    let a = c.in_ok-to.ensures.found in
    let v = value_view a.0 in
    let to = c.in_ok-to.to in
    let closes : spec.next_is 41 text to ≡ false = search rules in
    let follows : spec.next_is 44 text to ≡ false = search rules in
    arg_bad read text tys (spec.args_by read text tys c.args.from) (length text) c.loop-i.i c.loop-i.at (map value_view c.loop-i.args) v to (omega arith)
    (subst (λ ty. read ty c.loop-i.at ≡ Some (v, to)) c.asked_at.ensures a.2) closes follows c.loop-i.invariant

pub args-loop-i-preserved : goal.args-loop-i-preserved
args-loop-i-preserved t c =
    let text = c.args.self.now.text.now in
    let read = spec.value (program_view c.args.self.now.names.now.program.now) text c.args.depth in
    let tys = c.args.fields.now in
    let a = c.in_ok-to.ensures.found in
    let v = value_view a.0 in
    let to = c.in_ok-to.to in
    let closes : spec.next_is 41 text to ≡ false = search rules in
    let follows : spec.next_is 44 text to ≡ true = search rules in
    arg_more read text tys (spec.args_by read text tys c.args.from) (length text) c.loop-i.i c.loop-i.at (map value_view c.loop-i.args) v to (map value_view c.value.new.values) (omega arith)
    (subst (λ ty. read ty c.loop-i.at ≡ Some (v, to)) c.asked_at.ensures a.2) closes follows
    (pushed_map value_view c.loop-i.args c.value.new.values a.0 a.1) c.loop-i.invariant

pub args-returns-clause-none : goal.args-returns-clause-none
args-returns-clause-none t c = λ h.
    let text = c.args.self.now.text.now in
    let read = spec.value (program_view c.args.self.now.names.now.program.now) text c.args.depth in
    let tys = c.args.fields.now in
    args_over read text tys (spec.args_by read text tys c.args.from) (length text) c.loop-i.i c.loop-i.at (map value_view c.loop-i.args) (omega arith) c.loop-i.invariant

pub con-returns-in_err-args-clause-none : goal.con-returns-in_err-args-clause-none
con-returns-in_err-args-clause-none t c = λ h.
    let p = program_view c.args.self.now.names.now.program.now in
    let text = c.args.self.now.text.now in
    let opens : spec.next_is 40 text c.args.to ≡ true = search rules in
    let read = spec.args_by (spec.value p text (c.args.depth - 1)) text in
    let none : read c.con_fields.result.now (c.args.to + 1) ≡ None = first_of (search rules, grind (arith, common_steps)) in
    con_args p text c.args.depth c.args.asked c.args.at c.args.to c.in-Some.con None (omega arith) (sym c.in-Some.ensures) opens
    (subst (λ tys. read tys (c.args.to + 1) ≡ None) c.con_fields.ensures none)

pub con-returns-clause-found : goal.con-returns-clause-found
con-returns-clause-found t c =
    let p = program_view c.args.self.now.names.now.program.now in
    let text = c.args.self.now.text.now in
    let opens : spec.next_is 40 text c.args.to ≡ true = search rules in
    let read = spec.args_by (spec.value p text (c.args.depth - 1)) text in
    let vs = values_view c.in_ok-args.args in
    let is = con_args p text c.args.depth c.args.asked c.args.at c.args.to c.in-Some.con (Some (vs, c.in_ok-args.end)) (omega arith) (sym c.in-Some.ensures) opens
    (subst (λ tys. read tys (c.args.to + 1) ≡ Some (vs, c.in_ok-args.end)) c.con_fields.ensures c.in_ok-args.ensures.found) in
    (made.Con c.in-Some.con c.in_ok-args.args, c.in_ok-push-2.ensures.ok, is ∙ ap (λ w. Some (w, c.in_ok-args.end)) (sym (value_view-Con c.in-Some.con c.in_ok-args.args)))

pub con-returns-then-not-next_is-clause-found : goal.con-returns-then-not-next_is-clause-found
con-returns-then-not-next_is-clause-found t c =
    let p = program_view c.args.self.now.names.now.program.now in
    let text = c.args.self.now.text.now in
    let closed : spec.next_is 40 text c.args.to ≡ false = search rules in
    let is = con_bare p text c.args.depth c.args.asked c.args.at c.args.to c.in-Some.con (omega arith) (sym c.in-Some.ensures) closed in
    let none = value_view-Con c.in-Some.con c.new.result ∙ ap (λ (xs : List Value). Con c.in-Some.con (values_view xs)) c.new.ensures in
    (made.Con c.in-Some.con c.new.result, c.in_ok-push.ensures.ok, is ∙ ap (λ w. Some (w, c.args.to)) (sym none))

pub value-returns-then-next_is-clause-found : goal.value-returns-then-next_is-clause-found
value-returns-then-next_is-clause-found t c =
    let quote : spec.next_is 34 c.args.self.now.text.now c.args.at ≡ true = search rules in
    let e = value_quoted (program_view c.args.self.now.names.now.program.now) c.args.self.now.text.now c.args.depth c.args.asked c.args.at quote in
    c.added.ensures.found _ (subst (λ o. IfOk c.string_value.result (λ r. o ≡ Some (value_at r))) (sym e) c.string_value.ensures.found)

pub value-returns-then-next_is-clause-none : goal.value-returns-then-next_is-clause-none
value-returns-then-next_is-clause-none t c = λ h.
    let quote : spec.next_is 34 c.args.self.now.text.now c.args.at ≡ true = search rules in
    value_quoted (program_view c.args.self.now.names.now.program.now) c.args.self.now.text.now c.args.depth c.args.asked c.args.at quote ∙ c.string_value.ensures.none (c.added.ensures.none h)

pub value-returns-in-None-clause-found : goal.value-returns-in-None-clause-found
value-returns-in-None-clause-found t c =
    let quote : spec.next_is 34 c.args.self.now.text.now c.args.at ≡ false = search rules in
    let e = value_int (program_view c.args.self.now.names.now.program.now) c.args.self.now.text.now c.args.depth c.args.asked c.args.at quote (sym c.in-None.ensures.is) in
    c.added-in-None.ensures.found _ (subst (λ o. IfOk c.int_value.result (λ r. o ≡ Some (value_at r))) (sym e) c.int_value.ensures.found)

pub value-returns-in-None-clause-none : goal.value-returns-in-None-clause-none
value-returns-in-None-clause-none t c = λ h.
    let quote : spec.next_is 34 c.args.self.now.text.now c.args.at ≡ false = search rules in
    value_int (program_view c.args.self.now.names.now.program.now) c.args.self.now.text.now c.args.depth c.args.asked c.args.at quote (sym c.in-None.ensures.is) ∙ c.int_value.ensures.none (c.added-in-None.ensures.none h)

pub value-returns-then-next_is-2-clause-found : goal.value-returns-then-next_is-2-clause-found
value-returns-then-next_is-2-clause-found t c =
    let quote : spec.next_is 34 c.args.self.now.text.now c.args.at ≡ false = search rules in
    let mark : spec.next_is 35 c.args.self.now.text.now c.in-Some.to ≡ true = search rules in
    let e = value_atom (program_view c.args.self.now.names.now.program.now) c.args.self.now.text.now c.args.depth c.args.asked c.args.at c.in-Some.to quote (sym c.in-Some.ensures.is) mark in
    c.added-then-next_is-2.ensures.found _ (subst (λ o. IfOk c.atom.result (λ r. o ≡ Some (value_at r))) (sym e) c.atom.ensures.found)

pub value-returns-then-next_is-2-clause-none : goal.value-returns-then-next_is-2-clause-none
value-returns-then-next_is-2-clause-none t c = λ h.
    let quote : spec.next_is 34 c.args.self.now.text.now c.args.at ≡ false = search rules in
    let mark : spec.next_is 35 c.args.self.now.text.now c.in-Some.to ≡ true = search rules in
    value_atom (program_view c.args.self.now.names.now.program.now) c.args.self.now.text.now c.args.depth c.args.asked c.args.at c.in-Some.to quote (sym c.in-Some.ensures.is) mark ∙ c.atom.ensures.none (c.added-then-next_is-2.ensures.none h)

pub value-returns-else-next_is-2-clause-found : goal.value-returns-else-next_is-2-clause-found
value-returns-else-next_is-2-clause-found t c =
    let quote : spec.next_is 34 c.args.self.now.text.now c.args.at ≡ false = search rules in
    let mark : spec.next_is 35 c.args.self.now.text.now c.in-Some.to ≡ false = search rules in
    let e = value_con (program_view c.args.self.now.names.now.program.now) c.args.self.now.text.now c.args.depth c.args.asked c.args.at c.in-Some.to quote (sym c.in-Some.ensures.is) mark in
    subst (λ o. IfOk c.con.result (Added o c.args.values.now c.con.new.values)) (sym e) c.con.ensures.found

pub value-returns-else-next_is-2-clause-none : goal.value-returns-else-next_is-2-clause-none
value-returns-else-next_is-2-clause-none t c = λ h.
    let quote : spec.next_is 34 c.args.self.now.text.now c.args.at ≡ false = search rules in
    let mark : spec.next_is 35 c.args.self.now.text.now c.in-Some.to ≡ false = search rules in
    value_con (program_view c.args.self.now.names.now.program.now) c.args.self.now.text.now c.args.depth c.args.asked c.args.at c.in-Some.to quote (sym c.in-Some.ensures.is) mark ∙ c.con.ensures.none h
