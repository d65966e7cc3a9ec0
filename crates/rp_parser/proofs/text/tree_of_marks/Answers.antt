use Rattle.rp_ast.specs.View.{decls_view}
use Rattle.std.proofs.Common.{◌-◌, subst}
use Rattle.rp_grammar.specs.Begins.{IsFirstBad, IsTooDeep}
use Rattle.rp_tokens.proofs.Places.{found_tree}
use Rattle.rp_parser.specs.means.Marks.{toks}
use Rattle.rp_parser.proofs.Steps.{length_toks}
use Rattle.rp_parser.proofs.Whole.{bad, too_deep_at, fits}
use Rattle.rp_parser.proofs.text.tree_of_marks.Goals as goal

pub overflow_sub-result : goal.overflow_sub-result
overflow_sub-result c = fits _ _ _ (length_toks c.args.marks.now) ((bad (toks c.args.marks.now) c.in-Err-Syntax.field-0 c.in-Err-Syntax.left c.requires.ends c.in-Err-Syntax.field-0-is c.in-Err-Syntax.ensures).0)

pub overflow_sub-result-in-Err-TooDeep : goal.overflow_sub-result-in-Err-TooDeep
overflow_sub-result-in-Err-TooDeep c = fits _ _ _ (length_toks c.args.marks.now) ((too_deep_at (toks c.args.marks.now) c.in-Err-TooDeep.field-0 c.in-Err-TooDeep.left c.in-Err-TooDeep.field-0-is c.in-Err-TooDeep.ensures).0)

pub returns-in-Ok : goal.returns-in-Ok
returns-in-Ok c = found_tree 64 (toks c.args.marks.now) (decls_view c.in-Ok.decls) c.in-Ok.ensures

pub returns-in-Err-Syntax : goal.returns-in-Err-Syntax
returns-in-Err-Syntax c =
    let ms = c.args.marks.now in
    subst (λ n. IsFirstBad 64 (toks ms) (n - c.in-Err-Syntax.left)) (length_toks ms) ((bad (toks ms) c.in-Err-Syntax.field-0 c.in-Err-Syntax.left c.requires.ends c.in-Err-Syntax.field-0-is c.in-Err-Syntax.ensures).1)

pub returns-in-Err-TooDeep : goal.returns-in-Err-TooDeep
returns-in-Err-TooDeep c =
    let ms = c.args.marks.now in
    subst (λ n. IsTooDeep 64 (toks ms) (n - c.in-Err-TooDeep.left)) (length_toks ms) ((too_deep_at (toks ms) c.in-Err-TooDeep.field-0 c.in-Err-TooDeep.left c.in-Err-TooDeep.field-0-is c.in-Err-TooDeep.ensures).1)
