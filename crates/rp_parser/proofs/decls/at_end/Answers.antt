use Rattle.std.proofs.Common.{ap, subst, ◌∙◌, rules, arith}
use Rattle.rp_ast.specs.View.{decls_view}
use Rattle.rp_tokens.specs.MachineStates.{finished, in_decls}
use Rattle.rp_tokens.specs.MachineDecls.{decls_step}
use Rattle.rp_parser.specs.means.Marks.{terminal_of, toks}
use Rattle.rp_parser.specs.means.DeclStarts.{NoDecl}
use Rattle.rp_parser.proofs.Steps.{takes, refuses, length_toks}
use Rattle.rp_parser.proofs.Moves.{no_decl, not_at_end}
use Rattle.rp_parser.proofs.decls.at_end.Goals as goal

pub returns-in_default-kind : goal.returns-in_default-kind
returns-in_default-kind c =
    let xs = decls_view c.args.decls in
    let first = c.in-Some.first.now in
    refuses (in_decls xs) c.args.marks.now c.in-Some.rest.now first c.in-Some.ensures.cases.0 (no_decl first.kind xs first.span (subst NoDecl c.in-Some.ensures.cases.0 c.requires) c.in_default-kind.not-End)

pub returns-then-not-is_empty : goal.returns-then-not-is_empty
returns-then-not-is_empty c =
    let xs = decls_view c.args.decls in
    let first = c.in-Some.first.now in
    let rest = c.in-Some.rest.now in (
      toks rest,
      takes (in_decls xs) (finished xs) 0 c.args.marks.now rest first c.in-Some.ensures.cases.0 (ap (λ kd. decls_step xs (terminal_of kd) first.span) c.in-End.is) (omega arith)
          ∙ not_at_end xs rest (search rules),
      length_toks rest,
    )
