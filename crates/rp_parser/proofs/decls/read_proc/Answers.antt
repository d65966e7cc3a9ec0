use Rattle.std.proofs.Common.{List, refl, ap, sym, ◌∙◌, Option, map}
use Rattle.rp_grammar.specs.Trees.{Ident, TypeTree, ParamTree, ProcTree, DeclForm, DeclTree}
use Rattle.rp_grammar.specs.Parts.{join}
use Rattle.rp_grammar.specs.Stmts.{block_span}
use Rattle.rp_ast.specs.View.{optional, ident_view, type_view, param_view, block_view}
use Rattle.rp_tokens.specs.MachineTypes.{want_param_list}
use Rattle.rp_tokens.specs.MachineStmts.{want_block}
use Rattle.rp_tokens.specs.MachineDecls.{in_result}
use Rattle.rp_parser.proofs.Rests.{stands_at}
use Rattle.rp_parser.proofs.decls.read_proc.Goals as goal

pub returns-clause-reads : goal.returns-clause-reads
returns-clause-reads c = λ o k is.
    let s = c.args.start in
    let n = ident_view c.name-name.result.0 in
    let ps = map param_view c.read_param_list-params.result.0 in
    let t = optional type_view c.read_result-result.result.0 in
    let body = c.read_block-body.result in
    let b = block_view body.0 in
    let form = DeclForm.proc (ProcTree.proc n ps t b) in
    let bodied = λ (n : Ident) (ps : List ParamTree) (t : Option TypeTree). want_block 0 (λ b. k (DeclTree.node (join s (block_span b)) (DeclForm.proc (ProcTree.proc n ps t b)))) in
    stands_at body.1 (λ v. k (DeclTree.node v form)) (join s (block_span b)) c.join-span.result o (ap (λ v. join s v) (sym c.span_of_block.ensures) ∙ sym c.join-span.ensures)
    (c.read_block-body.ensures.reads o 0 refl (λ b. k (DeclTree.node (join s (block_span b)) (DeclForm.proc (ProcTree.proc n ps t b))))
    (c.read_result-result.ensures.reads o (bodied n ps)
    (c.read_param_list-params.ensures.reads o 0 refl (λ ps. in_result (bodied n ps))
    (c.name-name.ensures.reads o 0 refl (λ n. want_param_list 0 (λ ps. in_result (bodied n ps))) is))))
