use Rattle.std.proofs.Common.{Some, List, map, not, ◌&&◌, ap, sym, ◌∙◌}
use Rattle.std.specs.Prelude.{find}
use Rattle.std.specs.List.{list_any}
use Rattle.rp_value.specs.declared.value.Value.{Value}
use Rattle.rp_value.specs.declared.tables.Ty.{Ty}
use Rattle.rp_value.specs.ValueView.{value_view}
use Rattle.rp_lang.specs.ProgramView.{program_view}
use Rattle.crdt_defs.specs.Fitting.{all_fit, all_atoms, is_id}
use Rattle.crdt_defs.specs.SameValues.{same_val}
use Rattle.event_machine.specs.States as seen
use Rattle.machine_state.proofs.RefusalLemmas.{unknown_first, outside_is, nothing_first, invoke_why}
use Rattle.machine_state.proofs.state.State.refused_invoke.Goals as goal

pub returns-in-Some : goal.returns-in-Some
returns-in-Some c =
    let v = program_view c.args.p.now in
    let vals = map value_view c.args.args.now in
    let fit = sym (c.if-not-are_of.ensures ∙ ap (λ (ts : List Ty). all_fit v ts vals) c.as_slice.ensures.items) in
    let found = c.in-Some.ensures ∙ ap (λ (known : List Value). find (λ x. is_id v x && not (list_any (same_val x) (map value_view known))) (all_atoms vals)) c.as_slice-2.ensures.items in
    ap (λ x. Some (seen.UnknownId (value_view x))) c.in_ok-copy-in-Some.ensures
    ∙ unknown_first _ _ _ _ fit found
    ∙ invoke_why c.args.p.now c.args.self.now c.args.proc c.args.args.now c.get.result.now c.requires.fits c.get.ensures

pub returns-in_ok-copy-in-Some-outside : goal.returns-in_ok-copy-in-Some-outside
returns-in_ok-copy-in-Some-outside c =
    let v = program_view c.args.p.now in
    let vals = map value_view c.args.args.now in
    let fit = sym (c.if-not-are_of.ensures ∙ ap (λ (ts : List Ty). all_fit v ts vals) c.as_slice.ensures.items) in
    let none = c.in-None.ensures ∙ ap (λ (known : List Value). find (λ x. is_id v x && not (list_any (same_val x) (map value_view known))) (all_atoms vals)) c.as_slice-2.ensures.items in
    ap (λ x. Some (seen.OutOfUniverse (value_view x))) c.in_ok-copy-in-Some-outside.ensures
    ∙ outside_is _ _ _ _ fit none c.in-Some-outside.ensures
    ∙ invoke_why c.args.p.now c.args.self.now c.args.proc c.args.args.now c.get.result.now c.requires.fits c.get.ensures

pub returns-in-None-outside : goal.returns-in-None-outside
returns-in-None-outside c =
    let v = program_view c.args.p.now in
    let vals = map value_view c.args.args.now in
    let fit = sym (c.if-not-are_of.ensures ∙ ap (λ (ts : List Ty). all_fit v ts vals) c.as_slice.ensures.items) in
    let none = c.in-None.ensures ∙ ap (λ (known : List Value). find (λ x. is_id v x && not (list_any (same_val x) (map value_view known))) (all_atoms vals)) c.as_slice-2.ensures.items in
    nothing_first _ _ _ fit none c.in-None-outside.ensures
    ∙ invoke_why c.args.p.now c.args.self.now c.args.proc c.args.args.now c.get.result.now c.requires.fits c.get.ensures
