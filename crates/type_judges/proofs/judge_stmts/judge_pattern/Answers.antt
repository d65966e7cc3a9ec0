use Rattle.std.proofs.Common.{◌≡◌, ◌&&◌, ◌||◌, not, refl, sym, ap, ◌∙◌}
use Rattle.std.specs.Option.{is_some, option_map}
use Rattle.rp_ast.specs.View.{ident_view}
use Rattle.type_rules.specs.Names.{is_among}
use Rattle.type_rules.specs.Rules as spec
use Rattle.type_rules.specs.Matches.{cases_of}
use Rattle.type_tables.specs.Tables.{number_in}
use Rattle.text_names.specs.Declarations.{names_view}
use Rattle.type_terms.specs.Views.{cases_view}
use Rattle.type_judges.proofs.Noted.{noted}
use Rattle.type_judges.proofs.judge_stmts.judge_pattern.Goals as goal
use Rattle.type_judges.proofs.judge_stmts.judge_pattern.Goals.{then-again, else-again, then-not-is_con_word, else-not-is_con_word}

pub returns : goal.returns
returns c = λ arms kind table found.
    let n = names_view c.args.names.now in
    let con = c.args.con.now in
    let many = c.args.many in
    let text = c.as_slice-name.ensures.items in
    let stray = not (spec.is_case con.text many (cases_of n kind)) in
    let undeclared = not (spec.is_declared n (ident_view con)) in
    let again =
    c.is_some-again.ensures ∙ ap is_some c.number.ensures ∙ ap (λ x. is_some (number_in c.args.before.now x)) text
    ∙ table con.text in
    let wrong : c.if-again.when ≡ (is_among con.text arms || stray) =
    elim c.if-again.branch [
      | then-again w ↦ w.when-is ∙ w.if-again.true ∙ ap (λ b. b || stray) (sym (sym again ∙ w.if-again.true))
      | else-again w ↦
          w.when-is
          ∙ ap not (w.is_case.ensures n ∙ ap (λ x. spec.is_case x many (option_map (cases_view n) c.args.cases)) text
          ∙ ap (spec.is_case con.text many) found)
          ∙ ap (λ b. b || stray) (sym (sym again ∙ w.if-again.false))
    ] in
    let word = c.is_con_word.ensures ∙ ap spec.is_con_word text in
    let nowhere : c.if-not-is_con_word.nowhere ≡ (not (spec.is_con_word con.text) && undeclared) =
    elim c.if-not-is_con_word.branch [
      | then-not-is_con_word w ↦
          w.nowhere-is ∙ ap not w.is_declared.ensures
          ∙ ap (λ b. not b && undeclared) (sym (sym word ∙ w.if-not-is_con_word.true))
      | else-not-is_con_word w ↦
          w.nowhere-is ∙ ap not w.if-not-is_con_word.false
          ∙ ap (λ b. not b && undeclared) (sym (sym word ∙ w.if-not-is_con_word.false))
    ] in
    noted 4 c.note.ensures (c.when-2.ensures ∙ ap (λ b. spec.when b con.span) nowhere)
    (noted 18 c.note-best.ensures (c.when.ensures ∙ ap (λ b. spec.when b con.span) wrong) refl)
