-- The machine on declarations. They stand at the nesting 0.
use Rattle.std.specs.Prelude.{List, [], ◌∷◌, ◌++◌, refl, Option, Some, None}
use Rattle.rp_span.specs.declared.Span.{Span}
use Rattle.rp_grammar.specs.declared.terminal.Word.{Word}
use Rattle.rp_grammar.specs.declared.terminal.Word.TheVariants as word
use Rattle.rp_grammar.specs.declared.terminal.Symbol.TheVariants as symbol
use Rattle.rp_grammar.specs.Terminals.{Terminal, word, end}
use Rattle.rp_grammar.specs.Trees.{Ident, TypeTree, ConTree, QueryTree, ProcTree, DeclForm, DeclTree}
use Rattle.rp_grammar.specs.Parts.{join, tree_of}
use Rattle.rp_grammar.specs.Stmts.{block_span}
use Rattle.rp_tokens.specs.MachineStates.{State, finished, want_symbol, want_name, if_symbol, if_name, want_type, want_crdt, more_cons, in_decls, Move, to}
use Rattle.rp_tokens.specs.MachineTypes.{want_params, want_param_list}
use Rattle.rp_tokens.specs.MachineExprs.{in_expr}
use Rattle.rp_tokens.specs.MachineStmts.{want_sentence, want_block}

-- NAME ["(" params ")"]
abbrev pub want_con : (ConTree → State) → State
want_con k =
    want_name 0 (λ n.
    if_symbol symbol.OpenParen 0
    (λ o. want_params 1 (λ ps. want_symbol symbol.CloseParen refl 0 (λ c. k (ConTree.con n ps))))
    (k (ConTree.con n [])))

-- con {"|" con}
abbrev pub want_cons : (List ConTree → State) → State
want_cons k = want_con (λ c. more_cons (c ∷ []) k)

-- [":" type]
abbrev pub in_result : (Option TypeTree → State) → State
in_result k = if_symbol symbol.Colon 0 (λ c. want_type 0 (λ t. k (Some t))) (k None)

-- NAME ";" behind the word at s
abbrev pub in_type : (Ident → DeclForm) → Span → (DeclTree → State) → State
in_type f s k = want_name 0 (λ n. want_symbol symbol.Semicolon refl 0 (λ z. k (DeclTree.node (join s z) (f n))))

-- NAME "=" con {"|" con} ";" behind the word at s
abbrev pub in_datatype : Span → (DeclTree → State) → State
in_datatype s k =
    want_name 0 (λ n. want_symbol symbol.Assign refl 0 (λ q. want_cons (λ cs.
    want_symbol symbol.Semicolon refl 0 (λ z. k (DeclTree.node (join s z) (DeclForm.datatype n cs))))))

-- NAME ":" crdt ";" behind the word at s
abbrev pub in_crdt : Span → (DeclTree → State) → State
in_crdt s k =
    want_name 0 (λ n. want_symbol symbol.Colon refl 0 (λ c. want_crdt 0 (λ t.
    want_symbol symbol.Semicolon refl 0 (λ z. k (DeclTree.node (join s z) (DeclForm.crdt n t))))))

-- NAME "(" [params] ")" ":" type "=" expr ";" behind the word at s
abbrev pub in_query : Span → (DeclTree → State) → State
in_query s k =
    want_name 0 (λ n. want_param_list 0 (λ ps. want_symbol symbol.Colon refl 0 (λ c. want_type 0 (λ t.
    want_symbol symbol.Assign refl 0 (λ q. want_sentence 0 (λ e z.
    k (DeclTree.node (join s z) (DeclForm.query (QueryTree.query n ps t e)))))))))

-- expr ";" of an invariant that starts at s
abbrev pub want_claim : Span → Option Ident → (DeclTree → State) → State
want_claim s n k = want_sentence 0 (λ e z. k (DeclTree.node (join s z) (DeclForm.invariant n e)))

-- the same behind a name that begins the expression
abbrev pub in_claim : Span → Ident → (DeclTree → State) → State
in_claim s n k = in_expr 0 n (λ e. want_symbol symbol.Semicolon refl 0 (λ z. k (DeclTree.node (join s z) (DeclForm.invariant None (tree_of e)))))

-- [NAME ":"] expr ";" behind the word at s
abbrev pub in_invariant : Span → (DeclTree → State) → State
in_invariant s k =
    if_name 0
    (λ n. if_symbol symbol.Colon 0 (λ c. want_claim s (Some n) k) (in_claim s n k))
    (want_claim s None k)

-- NAME "(" [params] ")" [":" type] block behind the word at s
abbrev pub in_proc : Span → (DeclTree → State) → State
in_proc s k =
    want_name 0 (λ n. want_param_list 0 (λ ps. in_result (λ t. want_block 0 (λ b.
    k (DeclTree.node (join s (block_span b)) (DeclForm.proc (ProcTree.proc n ps t b)))))))

abbrev pub decl_word : (DeclTree → State) → Word → Span → Option Move
decl_word k word.IdType s = Some (to 0 (in_type DeclForm.id_type s k))
decl_word k word.Type s = Some (to 0 (in_type DeclForm.opaque s k))
decl_word k word.Datatype s = Some (to 0 (in_datatype s k))
decl_word k word.Crdt s = Some (to 0 (in_crdt s k))
decl_word k word.Query s = Some (to 0 (in_query s k))
decl_word k word.Invariant s = Some (to 0 (in_invariant s k))
decl_word k word.Proc s = Some (to 0 (in_proc s k))
decl_word k _ s = None

-- the first token of a declaration, or the end of the text behind these
abbrev pub decls_step : List DeclTree → Terminal → Span → Option Move
decls_step xs (word w) s = decl_word (λ x. in_decls (xs ++ x ∷ [])) w s
decls_step xs end s = Some (to 0 (finished xs))
decls_step xs _ s = None
