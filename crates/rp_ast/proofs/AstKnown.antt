-- Programs are known by what they are seen as.
use Rattle.std.proofs.Common.{◌≡◌, List, [], ◌∷◌, map, Option, Some, None, ap, sym, ◌∙◌, refl}
use Rattle.rp_ast.specs.declared.ident.Ident as code_ident
use Rattle.rp_ast.specs.declared.ty.TypeNode.{TypeNode}
use Rattle.rp_ast.specs.declared.ty.Param.{Param}
use Rattle.rp_ast.specs.declared.expr.ExprNode.{ExprNode}
use Rattle.rp_ast.specs.declared.stmt.Block.{Block}
use Rattle.rp_ast.specs.declared.decl.Ast.{Ast}
use Rattle.rp_ast.specs.declared.decl.Decl.{Decl}
use Rattle.rp_ast.specs.declared.decl.ConNode.{ConNode}
use Rattle.rp_ast.specs.declared.decl.QueryNode.{QueryNode}
use Rattle.rp_ast.specs.declared.decl.ProcNode.{ProcNode}
use Rattle.rp_ast.specs.declared.decl.DeclForm as code_decl
use Rattle.rp_ast.specs.declared.decl.DeclForm.TheVariants as made
use Rattle.rp_grammar.specs.Trees.{ConTree, QueryTree, ProcTree, DeclForm, DeclTree}
use Rattle.rp_ast.specs.View.{optional, ident_view, type_view, con_view, query_view, proc_view, decl_form_view, decl_view, decls_view, ast_view}
use Rattle.rp_ast.proofs.TypesKnown.{ap2, ap3, ident_of, type_node_of, type_back, params_of, params_back, crdt_node_of, crdt_back}
use Rattle.rp_ast.proofs.ExprsKnown.{expr_node_of, expr_back}
use Rattle.rp_ast.proofs.StmtsKnown.{block_node_of, block_back}

abbrev con_of : ConTree → ConNode
con_of (ConTree.con n ps) = record { name = ident_of n; fields = params_of ps }

con_back : (c : ConNode) → con_of (con_view c) ≡ c
con_back c = let node : List Param → ConNode = λ ps. record { name = c.name; fields = ps } in ap node (params_back c.fields)

abbrev cons_of : List ConTree → List ConNode
cons_of [] = []
cons_of (c ∷ cs) = con_of c ∷ cons_of cs

cons_back : (cs : List ConNode) → cons_of (map con_view cs) ≡ cs
cons_back [] = refl
cons_back (c ∷ cs) = ap2 (λ d ds. d ∷ ds) (con_back c) (cons_back cs)

abbrev query_of : QueryTree → QueryNode
query_of (QueryTree.query n ps t e) = record { name = ident_of n; params = params_of ps; result = type_node_of t; body = expr_node_of e }

query_back : (q : QueryNode) → query_of (query_view q) ≡ q
query_back q =
    let node : List Param → TypeNode → ExprNode → QueryNode = λ ps t e. record { name = q.name; params = ps; result = t; body = e } in
    ap3 node (params_back q.params) (type_back q.result) (expr_back q.body)

result_back : (t : Option TypeNode) → optional type_node_of (optional type_view t) ≡ t
result_back None = refl
result_back (Some t) = ap (λ u. Some u) (type_back t)

abbrev proc_of : ProcTree → ProcNode
proc_of (ProcTree.proc n ps t b) = record { name = ident_of n; params = params_of ps; result = optional type_node_of t; body = block_node_of b }

proc_back : (p : ProcNode) → proc_of (proc_view p) ≡ p
proc_back p =
    let node : List Param → Option TypeNode → Block → ProcNode = λ ps t b. record { name = p.name; params = ps; result = t; body = b } in
    ap3 node (params_back p.params) (result_back p.result) (block_back p.body)

label_back : (n : Option code_ident.Ident) → optional ident_of (optional ident_view n) ≡ n
label_back None = refl
label_back (Some n) = refl

abbrev decl_form_of : DeclForm → code_decl.DeclForm
decl_form_of (DeclForm.id_type n) = made.IdType (ident_of n)
decl_form_of (DeclForm.opaque n) = made.Opaque (ident_of n)
decl_form_of (DeclForm.datatype n cs) = made.Datatype (ident_of n) (cons_of cs)
decl_form_of (DeclForm.crdt n c) = made.Crdt (ident_of n) (crdt_node_of c)
decl_form_of (DeclForm.query q) = made.Query (query_of q)
decl_form_of (DeclForm.invariant n e) = made.Invariant (optional ident_of n) (expr_node_of e)
decl_form_of (DeclForm.proc p) = made.Proc (proc_of p)

decl_form_back : (f : code_decl.DeclForm) → decl_form_of (decl_form_view f) ≡ f
decl_form_back (made.IdType n) = refl
decl_form_back (made.Opaque n) = refl
decl_form_back (made.Datatype n cs) = ap (made.Datatype n) (cons_back cs)
decl_form_back (made.Crdt n c) = ap (made.Crdt n) (crdt_back c)
decl_form_back (made.Query q) = ap made.Query (query_back q)
decl_form_back (made.Invariant n e) = ap2 made.Invariant (label_back n) (expr_back e)
decl_form_back (made.Proc p) = ap made.Proc (proc_back p)

abbrev decl_of : DeclTree → Decl
decl_of (DeclTree.node s f) = record { span = s; what = decl_form_of f }

decl_back : (d : Decl) → decl_of (decl_view d) ≡ d
decl_back d = let node : code_decl.DeclForm → Decl = λ f. record { span = d.span; what = f } in ap node (decl_form_back d.what)

abbrev decls_of : List DeclTree → List Decl
decls_of [] = []
decls_of (d ∷ ds) = decl_of d ∷ decls_of ds

decls_back : (ds : List Decl) → decls_of (decls_view ds) ≡ ds
decls_back [] = refl
decls_back (d ∷ ds) = ap2 (λ e es. e ∷ es) (decl_back d) (decls_back ds)

abbrev ast_of : List DeclTree → Ast
ast_of ds = record { decls = decls_of ds }

ast_back : (a : Ast) → ast_of (ast_view a) ≡ a
ast_back a = let node : List Decl → Ast = λ ds. record { decls = ds } in ap node (decls_back a.decls)

pub same_ast_view : (a b : Ast) → ast_view a ≡ ast_view b → a ≡ b
same_ast_view a b e = sym (ast_back a) ∙ ap ast_of e ∙ ast_back b
