use Rattle.std.proofs.Common.{refl}
use Rattle.rp_ast.specs.View.{expr_view}
use Rattle.text_names.specs.Declarations.{names_view}
use Rattle.type_judges.specs.Places.{scope_view, want_view}
use Rattle.type_judges.proofs.Meanings.{unsaid}
use Rattle.type_judges.proofs.Noted.{noted, passed}
use Rattle.type_judges.proofs.judge_places.judge_form.Goals as goal

pub returns : goal.returns
returns c = λ later counted told.
    let want = want_view c.args.want in
    let n = names_view c.args.scope.now.names.now in
    let un = unsaid n (scope_view c.args.scope.now later) want (expr_view c.args.e.now) c.requires in
    passed 3 (passed 4
    (noted 9 c.note.ensures (c.in_ok-rule_9.ensures want later)
    (noted 10 c.note-best-8.ensures (c.in_ok-rule_10.ensures later)
    (noted 11 c.note-best-7.ensures (c.in_ok-rule_11.ensures later told)
    (passed 12
    (noted 13 c.note-best-6.ensures (c.in_ok-rule_13.ensures later)
    (noted 14 c.note-best-5.ensures (c.in_ok-rule_14.ensures later)
    (passed 15 (passed 16
    (noted 18 c.note-best-4.ensures (c.in_ok-rule_18.ensures later)
    (noted 21 c.note-best-3.ensures (c.in_ok-rule_typed-3.ensures later)
    (noted 22 c.note-best-2.ensures (c.in_ok-rule_typed-2.ensures later)
    (noted 23 c.note-best.ensures (c.in_ok-rule_typed.ensures later) refl))))
    un.by16) un.by15)))
    un.by12)))) un.by4) un.by3
