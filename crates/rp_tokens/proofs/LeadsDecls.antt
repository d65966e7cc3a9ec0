-- What leads on behind the tokens of declarations leads on from before them.
use Rattle.std.proofs.Common.{◌≡◌, ℕ, List, [], ◌∷◌, ◌++◌, inl, inr, Option, Some, None, refl, sym, ◌∙◌, subst, append_assoc, append-nil}
use Rattle.rp_span.specs.declared.Span.{Span}
use Rattle.rp_grammar.specs.declared.terminal.Word.{Word}
use Rattle.rp_grammar.specs.declared.terminal.Word.TheVariants as word
use Rattle.rp_grammar.specs.declared.terminal.Symbol.TheVariants as symbol
use Rattle.rp_grammar.specs.Terminals.{Terminal, name, word, symbol, end, Placed, on}
use Rattle.rp_grammar.specs.Trees.{ident, TypeTree, ParamTree, ConTree, QueryTree, ProcTree, DeclForm, DeclTree}
use Rattle.rp_grammar.specs.Parts.{join, tree_of}
use Rattle.rp_grammar.specs.Types.{Params, ParamList}
use Rattle.rp_grammar.specs.Exprs.{Expr}
use Rattle.rp_grammar.specs.Stmts.{block_span}
use Rattle.rp_grammar.specs.Decls.{Con, MoreCons, ResultType, Decl, Program}
use Rattle.rp_grammar.specs.Decls as grammar
use Rattle.rp_tokens.specs.MachineStates.{State, want_symbol, want_type, more_cons, in_decls}
use Rattle.rp_tokens.specs.MachineStmts.{want_sentence, want_block}
use Rattle.rp_tokens.specs.MachineDecls.{want_con, in_result, in_type, in_datatype, in_crdt, in_query, in_invariant, in_proc, decl_word, decls_step}
use Rattle.rp_tokens.proofs.Leads.{next, next_name, Leads, Through, Back, weaken, then_symbol}
use Rattle.rp_tokens.proofs.LeadsTypes.{params_back, param_list_back}
use Rattle.rp_tokens.proofs.LeadsExprs.{in_expr_back}
use Rattle.rp_tokens.proofs.LeadsStmts.{sentence_back, block_back}

con_back : (k : ConTree → State) (ts : List Placed) (t : List DeclTree) → Leads (want_con k) ts t → Through Con k ts t
con_back k ts t (n, r, next_name, inl (o, u, next, l)) =
    let (ps, c, w, x, a) = then_symbol (Params 1) symbol.CloseParen refl 0 (λ ps c. k (ConTree.con n ps)) u t (params_back 1 (λ ps. want_symbol symbol.CloseParen refl 0 (λ c. k (ConTree.con n ps))) u t l) in
    (_, w, grammar.with_fields x, a)
con_back k ts t (n, r, next_name, inr l) = (_, r, grammar.plain, l)

pub more_cons_back : (cs : List ConTree) (k : List ConTree → State) (v : Span) (ts : List Placed) (t : List DeclTree) → Leads (want_con (λ c. more_cons (cs ++ c ∷ []) k)) ts t → Leads (more_cons cs k) (on (symbol symbol.Bar) v 0 ∷ ts) t
more_cons_back cs k v ts t l =
    let (c, r, x, (ds, u, m, a)) = con_back (λ c. more_cons (cs ++ c ∷ []) k) ts t l in
    (_, u, grammar.more_cons x m, subst (λ all. Leads (k all) u t) (append_assoc cs (c ∷ []) ds) a)

pub no_more_cons : (cs : List ConTree) (k : List ConTree → State) (ts : List Placed) (t : List DeclTree) → Leads (k cs) ts t → Leads (more_cons cs k) ts t
no_more_cons cs k ts t l = ([], ts, grammar.no_con, subst (λ all. Leads (k all) ts t) (sym (append-nil cs)) l)

result_back : (k : Option TypeTree → State) (ts : List Placed) (t : List DeclTree) → Leads (in_result k) ts t → Through ResultType k ts t
result_back k ts t (inl (c, r, next, (x, u, p, l))) = (_, u, grammar.some_result p, l)
result_back k ts t (inr l) = (None, ts, grammar.no_result, l)

id_type_back : (s : Span) (k : DeclTree → State) (ts : List Placed) (t : List DeclTree) → Leads (in_type DeclForm.id_type s k) ts t → Through Decl k (on (word word.IdType) s 0 ∷ ts) t
id_type_back s k ts t (n, r, next_name, (z, u, next, l)) = (_, u, grammar.id_type, l)

opaque_back : (s : Span) (k : DeclTree → State) (ts : List Placed) (t : List DeclTree) → Leads (in_type DeclForm.opaque s k) ts t → Through Decl k (on (word word.Type) s 0 ∷ ts) t
opaque_back s k ts t (n, r, next_name, (z, u, next, l)) = (_, u, grammar.opaque, l)

datatype_end : (s v q : Span) (n : List ℕ) (k : DeclTree → State) (ts : List Placed) (t : List DeclTree) → Through Con (λ c. more_cons (c ∷ []) (λ cs. want_symbol symbol.Semicolon refl 0 (λ z. k (DeclTree.node (join s z) (DeclForm.datatype (ident n v) cs))))) ts t → Through Decl k (on (word word.Datatype) s 0 ∷ on (name n) v 0 ∷ on (symbol symbol.Assign) q 0 ∷ ts) t
datatype_end s v q n k ts t (c, r, x, (cs, u, m, (z, w, next, l))) = (_, w, grammar.datatype x m, l)

datatype_back : (s : Span) (k : DeclTree → State) (ts : List Placed) (t : List DeclTree) → Leads (in_datatype s k) ts t → Through Decl k (on (word word.Datatype) s 0 ∷ ts) t
datatype_back s k ts t (ident n v, r, next_name, (q, u, next, l)) =
    datatype_end s v q n k u t (con_back (λ c. more_cons (c ∷ []) (λ cs. want_symbol symbol.Semicolon refl 0 (λ z. k (DeclTree.node (join s z) (DeclForm.datatype (ident n v) cs))))) u t l)

crdt_decl_back : (s : Span) (k : DeclTree → State) (ts : List Placed) (t : List DeclTree) → Leads (in_crdt s k) ts t → Through Decl k (on (word word.Crdt) s 0 ∷ ts) t
crdt_decl_back s k ts t (n, r, next_name, (c, u, next, (x, w, p, (z, y, next, l)))) = (_, y, grammar.crdt p, l)

query_end : (s v : Span) (n : List ℕ) (k : DeclTree → State) (ts : List Placed) (t : List DeclTree) (ps : List ParamTree) (us : List Placed) → ParamList 0 ts ps us
    → Leads (want_symbol symbol.Colon refl 0 (λ c. want_type 0 (λ x. want_symbol symbol.Assign refl 0 (λ q. want_sentence 0 (λ e z. k (DeclTree.node (join s z) (DeclForm.query (QueryTree.query (ident n v) ps x e)))))))) us t
    → Through Decl k (on (word word.Query) s 0 ∷ on (name n) v 0 ∷ ts) t
query_end s v n k ts t ps us y (c, r, next, (x, u, p, (q, w, next, l))) =
    let (e, z, b, f, a) = sentence_back 0 (λ e z. k (DeclTree.node (join s z) (DeclForm.query (QueryTree.query (ident n v) ps x e)))) w t l in
    (_, b, grammar.query y p f, a)

query_back : (s : Span) (k : DeclTree → State) (ts : List Placed) (t : List DeclTree) → Leads (in_query s k) ts t → Through Decl k (on (word word.Query) s 0 ∷ ts) t
query_back s k ts t (ident n v, r, next_name, l) =
    let after : List ParamTree → State = λ ps. want_symbol symbol.Colon refl 0 (λ c. want_type 0 (λ x. want_symbol symbol.Assign refl 0 (λ q. want_sentence 0 (λ e z. k (DeclTree.node (join s z) (DeclForm.query (QueryTree.query (ident n v) ps x e))))))) in
    let (ps, u, y, a) = param_list_back 0 after r t l in
    query_end s v n k r t ps u y a

claim_end : (s : Span) (k : DeclTree → State) (ts : List Placed) (t : List DeclTree) → Through (Expr 0) (λ e. want_symbol symbol.Semicolon refl 0 (λ z. k (DeclTree.node (join s z) (DeclForm.invariant None (tree_of e))))) ts t → Through Decl k (on (word word.Invariant) s 0 ∷ ts) t
claim_end s k ts t (e, r, x, (z, u, next, l)) = (_, u, grammar.invariant x, l)

invariant_back : (s : Span) (k : DeclTree → State) (ts : List Placed) (t : List DeclTree) → Leads (in_invariant s k) ts t → Through Decl k (on (word word.Invariant) s 0 ∷ ts) t
invariant_back s k ts t (inl (n, r, next_name, inl (c, u, next, l))) =
    let (e, z, w, x, a) = sentence_back 0 (λ e z. k (DeclTree.node (join s z) (DeclForm.invariant (Some n) e))) u t l in (_, w, grammar.named_invariant x, a)
invariant_back s k ts t (inl (ident n v, r, next_name, inr l)) =
    claim_end s k (on (name n) v 0 ∷ r) t (in_expr_back 0 n v (λ e. want_symbol symbol.Semicolon refl 0 (λ z. k (DeclTree.node (join s z) (DeclForm.invariant None (tree_of e))))) r t l)
invariant_back s k ts t (inr l) =
    let (e, z, w, x, a) = sentence_back 0 (λ e z. k (DeclTree.node (join s z) (DeclForm.invariant None e))) ts t l in (_, w, grammar.invariant x, a)

proc_back : (s : Span) (k : DeclTree → State) (ts : List Placed) (t : List DeclTree) → Leads (in_proc s k) ts t → Through Decl k (on (word word.Proc) s 0 ∷ ts) t
proc_back s k ts t (ident n v, r, next_name, l) =
    let body : List ParamTree → Option TypeTree → State = λ ps x. want_block 0 (λ b. k (DeclTree.node (join s (block_span b)) (DeclForm.proc (ProcTree.proc (ident n v) ps x b)))) in
    let (ps, u, p, a) = param_list_back 0 (λ ps. in_result (body ps)) r t l in
    let (x, w, q, c) = result_back (body ps) u t a in
    let (b, y, z, e) = block_back 0 (λ b. k (DeclTree.node (join s (block_span b)) (DeclForm.proc (ProcTree.proc (ident n v) ps x b)))) w t c in
    (_, y, grammar.proc p q z, e)

decl_word_back : (k : DeclTree → State) (w : Word) (v : Span) → Back (Through Decl k) (word w) v (decl_word k w v)
decl_word_back k word.IdType v = id_type_back v k
decl_word_back k word.Type v = opaque_back v k
decl_word_back k word.Datatype v = datatype_back v k
decl_word_back k word.Crdt v = crdt_decl_back v k
decl_word_back k word.Query v = query_back v k
decl_word_back k word.Invariant v = invariant_back v k
decl_word_back k word.Proc v = proc_back v k
decl_word_back k _ v = tt

more_decls : (xs : List DeclTree) (ts : List Placed) (t : List DeclTree) → Through Decl (λ x. in_decls (xs ++ x ∷ [])) ts t → Leads (in_decls xs) ts t
more_decls xs ts t (x, r, y, (ys, p, e)) = (x ∷ ys, grammar.more_decls y p, e ∙ append_assoc xs (x ∷ []) ys)

empty_after : (ts : List Placed) (v : Span) → ts ≡ [] → Program (on end v 0 ∷ ts) []
empty_after [] v h = grammar.end_
empty_after (x ∷ ts) v h = cc

pub decls_back : (xs : List DeclTree) (x : Terminal) (v : Span) → Back (Leads (in_decls xs)) x v (decls_step xs x v)
decls_back xs (word w) v = let after : DeclTree → State = λ x. in_decls (xs ++ x ∷ []) in weaken (Through Decl after) (Leads (in_decls xs)) (word w) v (decl_word after w v) (more_decls xs) (decl_word_back after w v)
decls_back xs end v = λ ts t (e, is). ([], empty_after ts v e, is ∙ sym (append-nil xs))
decls_back xs _ v = tt
