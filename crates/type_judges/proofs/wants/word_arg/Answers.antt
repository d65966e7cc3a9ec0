use Rattle.std.proofs.Common.{◌<◌, ◌∙◌, subst}
use Rattle.rp_ast.specs.View.{exprs_view}
use Rattle.text_names.specs.Declarations.{names_view}
use Rattle.text_names.proofs.Entries.{if_ok}
use Rattle.type_judges.proofs.Words.{all_alike}
use Rattle.type_judges.proofs.wants.word_arg.Goals as goal

pub returns-then-place-word_takes : goal.returns-then-place-word_takes
returns-then-place-word_takes c =
    let within = subst (λ many. c.args.place < many) c.word_takes.ensures c.if-place-word_takes.true in
    let n = names_view c.args.names.now in
    let args = exprs_view c.args.args.now in
    if_ok c.taken_by.result
    (λ kind e. e ∙ all_alike n c.args.vars.now c.args.word args c.args.place within)
    c.taken_by.ensures
