use Rattle.std.proofs.Common.{refl, ap, ◌&&◌, not, ◌∙◌}
use Rattle.rp_ast.specs.View.{type_view}
use Rattle.type_rules.specs.Rules as spec
use Rattle.text_names.specs.Declarations.{names_view}
use Rattle.type_judges.proofs.Noted.{noted}
use Rattle.type_judges.proofs.judge_types.judge_written.Goals as goal

pub returns : goal.returns
returns c =
    let k = c.args.decl in
    let may = spec.takes_calls c.args.role && not (spec.is_maybe_form (spec.form_of (type_view c.args.ty.now))) in
    noted 2 c.note.ensures
    (c.late_type.ensures ∙ ap (spec.late_type (names_view c.args.names.now) k) c.innermost-inside.ensures)
    (noted 6 c.note-best-4.ensures (c.stray_word.ensures ∙ ap (spec.stray_word may) c.innermost-inside.ensures)
    (noted 7 c.note-best-3.ensures (c.in_ok-rule_7.ensures k)
    (noted 8 c.note-best-2.ensures (c.in_ok-rule_8.ensures k)
    (noted 24 c.note-best.ensures (c.in_ok-rule_24.ensures k) refl))))
