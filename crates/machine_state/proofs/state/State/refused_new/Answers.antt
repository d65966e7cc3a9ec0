use Rattle.std.proofs.Common.{ap, sym, ◌∙◌}
use Rattle.rp_value.specs.ValueView.{value_view}
use Rattle.rp_value.proofs.ValueViews.{value_view-Int, value_view-Str, value_view-Atom, value_view-Con, value_view-Call, value_view-Inv}
use Rattle.rp_lang.specs.ProgramView.{program_view}
use Rattle.event_machine.specs.States.{New}
use Rattle.machine_state.specs.Accessors.{new_left}
use Rattle.machine_state.specs.StateView.{state_view}
use Rattle.machine_state.specs.means.Refusals.{behind, refused_atom}
use Rattle.machine_state.proofs.StateLemmas.{viewed}
use Rattle.machine_state.proofs.FitsLemmas.{told_of}
use Rattle.machine_state.proofs.RefusalLemmas.{is_no_atom, behind_new, behind_no_atom}
use Rattle.machine_state.proofs.state.State.refused_new.Goals as goal

pub returns-in-Atom : goal.returns-in-Atom
returns-in-Atom c =
    let p = c.args.p.now in
    let v = program_view p in
    let s = c.args.self.now in
    let sv = state_view v s in
    let it = viewed v s c.args.i c.requires.fits.kept.runs c.requires.within in
    let asked = told_of p s c.args.i new_left c.new_of.result _ it.is c.new_of.ensures in
    c.refused_atom.ensures v
    ∙ sym (ap (λ o. refused_atom sv o c.in-Atom.ty c.in-Atom.num) asked)
    ∙ sym (behind_new v sv c.args.i c.in-Atom.ty c.in-Atom.num _ it.is)
    ∙ sym (ap (λ x. behind v sv (New c.args.i x)) (ap value_view c.in-Atom.is ∙ value_view-Atom c.in-Atom.ty c.in-Atom.num))

pub returns-in-Int : goal.returns-in-Int
returns-in-Int c =
    let v = program_view c.args.p.now in
    let s = c.args.self.now in
    let it = viewed v s c.args.i c.requires.fits.kept.runs c.requires.within in
    sym (behind_no_atom v (state_view v s) c.args.i (value_view c.args.id.now) _ it.is (ap is_no_atom (ap value_view c.in-Int.is ∙ value_view-Int _)))

pub returns-in-Str : goal.returns-in-Str
returns-in-Str c =
    let v = program_view c.args.p.now in
    let s = c.args.self.now in
    let it = viewed v s c.args.i c.requires.fits.kept.runs c.requires.within in
    sym (behind_no_atom v (state_view v s) c.args.i (value_view c.args.id.now) _ it.is (ap is_no_atom (ap value_view c.in-Str.is ∙ value_view-Str _)))

pub returns-in-Con : goal.returns-in-Con
returns-in-Con c =
    let v = program_view c.args.p.now in
    let s = c.args.self.now in
    let it = viewed v s c.args.i c.requires.fits.kept.runs c.requires.within in
    sym (behind_no_atom v (state_view v s) c.args.i (value_view c.args.id.now) _ it.is (ap is_no_atom (ap value_view c.in-Con.is ∙ value_view-Con _ _)))

pub returns-in-Call : goal.returns-in-Call
returns-in-Call c =
    let v = program_view c.args.p.now in
    let s = c.args.self.now in
    let it = viewed v s c.args.i c.requires.fits.kept.runs c.requires.within in
    sym (behind_no_atom v (state_view v s) c.args.i (value_view c.args.id.now) _ it.is (ap is_no_atom (ap value_view c.in-Call.is ∙ value_view-Call _)))

pub returns-in-Inv : goal.returns-in-Inv
returns-in-Inv c =
    let v = program_view c.args.p.now in
    let s = c.args.self.now in
    let it = viewed v s c.args.i c.requires.fits.kept.runs c.requires.within in
    sym (behind_no_atom v (state_view v s) c.args.i (value_view c.args.id.now) _ it.is (ap is_no_atom (ap value_view c.in-Inv.is ∙ value_view-Inv _)))
