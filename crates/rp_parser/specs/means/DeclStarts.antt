-- Where the machine stands behind the first token of a declaration, and inside declarations.
use Rattle.std.specs.Prelude.{◌≡◌, List, [], ◌∷◌, None, refl}
use Rattle.rp_span.specs.declared.Span.{Span}
use Rattle.rp_grammar.specs.declared.terminal.Symbol.TheVariants as symbol
use Rattle.rp_grammar.specs.Trees.{Ident, TypeTree, ParamTree, QueryTree, ProcTree, DeclForm, DeclTree}
use Rattle.rp_grammar.specs.Parts.{join}
use Rattle.rp_grammar.specs.Stmts.{block_span}
use Rattle.rp_tokens.specs.MachineStates.{State, want_symbol, want_type}
use Rattle.rp_tokens.specs.MachineStmts.{want_sentence, want_block}
use Rattle.rp_tokens.specs.MachineDecls.{decl_word, in_result, in_type, in_datatype, in_crdt, in_query, in_invariant, in_proc}
use Rattle.rp_parser.specs.declared.decl_starts.DeclStart.{DeclStart}
use Rattle.rp_parser.specs.declared.decl_starts.DeclStart.TheVariants as start
use Rattle.rp_grammar.specs.declared.terminal.Word.{Word}
use Rattle.rp_parser.specs.declared.mark.Mark.{Mark}
use Rattle.rp_parser.specs.declared.mark.Kind.TheVariants as kind

abbrev pub decl_next : (DeclTree → State) → Span → DeclStart → State
decl_next k s start.IdType = in_type DeclForm.id_type s k
decl_next k s start.Opaque = in_type DeclForm.opaque s k
decl_next k s start.Datatype = in_datatype s k
decl_next k s start.Crdt = in_crdt s k
decl_next k s start.Query = in_query s k
decl_next k s start.Invariant = in_invariant s k
decl_next k s start.Proc = in_proc s k

-- no declaration is next
abbrev pub NoDecl : List Mark → Type 0
NoDecl [] = Unit {0}
NoDecl (m ∷ ms) = (w : Word) → m.kind ≡ kind.Word w → (k : DeclTree → State) (s : Span) → decl_word k w s ≡ None

-- "=" expr ";" of the query n that starts at s, behind its parameters and its type
abbrev pub in_query_body : Span → Ident → List ParamTree → TypeTree → (DeclTree → State) → State
in_query_body s n ps t k = want_symbol symbol.Assign refl 0 (λ q. want_sentence 0 (λ e z. k (DeclTree.node (join s z) (DeclForm.query (QueryTree.query n ps t e)))))

-- ":" type "=" expr ";" of the query n that starts at s, behind its parameters
abbrev pub in_query_type : Span → Ident → List ParamTree → (DeclTree → State) → State
in_query_type s n ps k = want_symbol symbol.Colon refl 0 (λ c. want_type 0 (λ t. in_query_body s n ps t k))

-- [":" type] block of the procedure n that starts at s, behind its parameters
abbrev pub in_proc_result : Span → Ident → List ParamTree → (DeclTree → State) → State
in_proc_result s n ps k = in_result (λ t. want_block 0 (λ b. k (DeclTree.node (join s (block_span b)) (DeclForm.proc (ProcTree.proc n ps t b)))))
