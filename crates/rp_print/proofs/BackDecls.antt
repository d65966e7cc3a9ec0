-- The printed terminals of a program are those of a program with the same trees, spans aside.
use Rattle.std.proofs.Common.{◌≡◌, ℕ, List, [], ◌∷◌, ◌++◌, map, Option, Some, None, refl, sym, ap, ◌∙◌}
use Rattle.rp_span.specs.declared.Span.{Span}
use Rattle.rp_grammar.specs.declared.terminal.Word.TheVariants as word
use Rattle.rp_grammar.specs.declared.terminal.Symbol.TheVariants as symbol
use Rattle.rp_grammar.specs.Terminals.{Terminal, name, word, symbol, end, Tok, at, Placed, on, plain}
use Rattle.rp_grammar.specs.Trees.{ident, TypeTree, ParamTree, CrdtTree, ExprTree, BlockTree, ConTree, QueryTree, ProcTree, DeclForm, DeclTree}
use Rattle.rp_grammar.specs.Types.{Params}
use Rattle.rp_grammar.specs.Decls.{Con, MoreCons, ResultType, Decl, Program}
use Rattle.rp_print.specs.Printed.{behind, con_terminals, result_type_terminals, decl_form_terminals, decl_terminals}
use Rattle.rp_print.specs.Alike.{AllAlike, OptionAlike, TypesAlike, ConsAlike, DeclsAlike, Alike}
use Rattle.rp_grammar.proofs.Formed.{FormedDeclForm, FormedDecl, FormedDecls}
use Rattle.rp_print.proofs.Spells.{terminal_of, Key, key, Then, then_, Empty, empty, Spells, one, none, turned, both, keyed}
use Rattle.rp_print.proofs.BackTypes.{TypeAs, type_back, ParamAs, param_back, MoreParamsAs, more_params_back, ParamListAs, param_list_back, Enclosed, enclosed_in, CrdtAs, crdt_back}
use Rattle.rp_print.proofs.BackExprs.{Whole, whole_back}
use Rattle.rp_print.proofs.BackStmts.{BlockAs, block_back}

abbrev ConAs : ConTree → List Placed → List Placed → Type 0
ConAs c ms r = (e : ConTree) × Con ms e r × ConsAlike c e

abbrev MoreConsAs : List ConTree → List Placed → List Placed → Type 0
MoreConsAs cs ms r = (es : List ConTree) × MoreCons ms es r × AllAlike ConsAlike cs es

plain_ : (i : Span) (n : List ℕ) (ms r : List Placed) → Then (Key (name n) 0) Empty ms r → ConAs (ConTree.con (ident n i) []) ms r
plain_ i n ms r (then_ key empty) = (_, Con.plain, (refl, tt))

with_fields_ : (i : Span) (n : List ℕ) (p : ParamTree) (ps : List ParamTree) (ms r : List Placed) → Then (Key (name n) 0) (Enclosed 0 (Then (ParamAs 1 p) (MoreParamsAs 1 ps))) ms r → ConAs (ConTree.con (ident n i) (p ∷ ps)) ms r
with_fields_ i n p ps ms r (then_ key (then_ key (then_ (then_ x y) key))) = (_, Con.with_fields (Params.params x.1 y.1), (refl, (x.2, y.2)))

con_back : (c : ConTree) → Spells (ConAs c) (con_terminals c)
con_back (ConTree.con (ident n i) []) = turned (plain_ i n) (keyed (name n) 0 none)
con_back (ConTree.con (ident n i) (p ∷ ps)) = turned (with_fields_ i n p ps) (keyed (name n) 0 (enclosed_in 0 (both (param_back 1 p) (more_params_back 1 ps))))

no_cons_ : (ms r : List Placed) → Empty ms r → MoreConsAs [] ms r
no_cons_ ms r empty = ([], MoreCons.no_con, tt)

more_cons_ : (c : ConTree) (cs : List ConTree) (ms r : List Placed) → Then (Key (symbol symbol.Bar) 0) (Then (ConAs c) (MoreConsAs cs)) ms r → MoreConsAs (c ∷ cs) ms r
more_cons_ c cs ms r (then_ key (then_ x y)) = (_, MoreCons.more_cons x.1 y.1, (x.2, y.2))

cons_back : (cs : List ConTree) → Spells (MoreConsAs cs) (behind symbol.Bar (map con_terminals cs))
cons_back [] = turned no_cons_ none
cons_back (c ∷ cs) = turned (more_cons_ c cs) (keyed (symbol symbol.Bar) 0 (both (con_back c) (cons_back cs)))

abbrev ResultAs : Option TypeTree → List Placed → List Placed → Type 0
ResultAs t ms r = (u : Option TypeTree) × ResultType ms u r × OptionAlike TypesAlike t u

no_result_ : (ms r : List Placed) → Empty ms r → ResultAs None ms r
no_result_ ms r empty = (None, ResultType.no_result, tt)

some_result_ : (t : TypeTree) (ms r : List Placed) → Then (Key (symbol symbol.Colon) 0) (TypeAs 0 t) ms r → ResultAs (Some t) ms r
some_result_ t ms r (then_ key x) = (_, ResultType.some_result x.1, x.2)

result_back : (t : Option TypeTree) → Spells (ResultAs t) (result_type_terminals t)
result_back None = turned no_result_ none
result_back (Some t) = turned (some_result_ t) (keyed (symbol symbol.Colon) 0 (type_back 0 t))

abbrev DeclAs : DeclTree → List Placed → List Placed → Type 0
DeclAs d ms r = (e : DeclTree) × Decl ms e r × DeclsAlike d e

abbrev Ended : (List Placed → List Placed → Type 0) → List Placed → List Placed → Type 0
Ended P = Then P (Key (symbol symbol.Semicolon) 0)

ended : {P : List Placed → List Placed → Type 0} {a : List Terminal} → Spells P a → Spells (Ended P) (a ++ symbol symbol.Semicolon ∷ [])
ended p = both p (one (symbol symbol.Semicolon) 0)

id_type_ : (s i : Span) (n : List ℕ) (ms r : List Placed) → Then (Key (word word.IdType) 0) (Then (Key (name n) 0) (Key (symbol symbol.Semicolon) 0)) ms r → DeclAs (DeclTree.node s (DeclForm.id_type (ident n i))) ms r
id_type_ s i n ms r (then_ key (then_ key key)) = (_, Decl.id_type, refl)

opaque_ : (s i : Span) (n : List ℕ) (ms r : List Placed) → Then (Key (word word.Type) 0) (Then (Key (name n) 0) (Key (symbol symbol.Semicolon) 0)) ms r → DeclAs (DeclTree.node s (DeclForm.opaque (ident n i))) ms r
opaque_ s i n ms r (then_ key (then_ key key)) = (_, Decl.opaque, refl)

datatype_ : (s i : Span) (n : List ℕ) (c : ConTree) (cs : List ConTree) (ms r : List Placed)
    → Then (Key (word word.Datatype) 0) (Then (Key (name n) 0) (Then (Key (symbol symbol.Assign) 0) (Ended (Then (ConAs c) (MoreConsAs cs))))) ms r
    → DeclAs (DeclTree.node s (DeclForm.datatype (ident n i) (c ∷ cs))) ms r
datatype_ s i n c cs ms r (then_ key (then_ key (then_ key (then_ (then_ x y) key)))) = (_, Decl.datatype x.1 y.1, (refl, (x.2, y.2)))

crdt_ : (s i : Span) (n : List ℕ) (c : CrdtTree) (ms r : List Placed)
    → Then (Key (word word.Crdt) 0) (Then (Key (name n) 0) (Then (Key (symbol symbol.Colon) 0) (Ended (CrdtAs 0 c)))) ms r
    → DeclAs (DeclTree.node s (DeclForm.crdt (ident n i) c)) ms r
crdt_ s i n c ms r (then_ key (then_ key (then_ key (then_ x key)))) = (_, Decl.crdt x.1, (refl, x.2))

query_ : (s i : Span) (n : List ℕ) (ps : List ParamTree) (t : TypeTree) (e : ExprTree) (ms r : List Placed)
    → Then (Key (word word.Query) 0) (Then (Key (name n) 0) (Then (ParamListAs 0 ps) (Then (Key (symbol symbol.Colon) 0) (Then (TypeAs 0 t) (Then (Key (symbol symbol.Assign) 0) (Ended (Whole 0 e))))))) ms r
    → DeclAs (DeclTree.node s (DeclForm.query (QueryTree.query (ident n i) ps t e))) ms r
query_ s i n ps t e ms r (then_ key (then_ key (then_ x (then_ key (then_ y (then_ key (then_ z key))))))) = let f = z refl in (_, Decl.query x.1 y.1 f.1, (refl, x.2, y.2, f.2))

invariant_ : (s : Span) (e : ExprTree) (ms r : List Placed) → Then (Key (word word.Invariant) 0) (Ended (Whole 0 e)) ms r → DeclAs (DeclTree.node s (DeclForm.invariant None e)) ms r
invariant_ s e ms r (then_ key (then_ x key)) = let f = x refl in (_, Decl.invariant f.1, (tt, f.2))

named_invariant_ : (s i : Span) (n : List ℕ) (e : ExprTree) (ms r : List Placed) → Then (Key (word word.Invariant) 0) (Then (Key (name n) 0) (Then (Key (symbol symbol.Colon) 0) (Ended (Whole 0 e)))) ms r
    → DeclAs (DeclTree.node s (DeclForm.invariant (Some (ident n i)) e)) ms r
named_invariant_ s i n e ms r (then_ key (then_ key (then_ key (then_ x key)))) = let f = x refl in (_, Decl.named_invariant f.1, (refl, f.2))

proc_ : (s i : Span) (n : List ℕ) (ps : List ParamTree) (t : Option TypeTree) (b : BlockTree) (ms r : List Placed)
    → Then (Key (word word.Proc) 0) (Then (Key (name n) 0) (Then (ParamListAs 0 ps) (Then (ResultAs t) (BlockAs 0 b)))) ms r
    → DeclAs (DeclTree.node s (DeclForm.proc (ProcTree.proc (ident n i) ps t b))) ms r
proc_ s i n ps t b ms r (then_ key (then_ key (then_ x (then_ y z)))) = (_, Decl.proc x.1 y.1 z.1, (refl, x.2, y.2, z.2))

-- the terminals of a program, with the end of its text
abbrev pub program_terminals : List DeclTree → List Terminal
program_terminals [] = end ∷ []
program_terminals (d ∷ ds) = decl_terminals d ++ program_terminals ds

-- tokens are those of a program with the same trees, spans aside
abbrev pub ProgramFound : List Tok → List DeclTree → Type 0
ProgramFound us ds = (ms : List Placed) × (map plain ms ≡ us) × (es : List DeclTree) × Program ms es × Alike ds es

no_more : (j k : Terminal) (us : List Terminal) → j ∷ us ≡ k ∷ [] → us ≡ []
no_more j k us e = cc

is_end : (j k : Terminal) (us : List Terminal) → j ∷ us ≡ k ∷ [] → j ≡ k
is_end j k us e = cc

no_tok : (us : List Tok) → map terminal_of us ≡ [] → us ≡ []
no_tok [] e = refl
no_tok (at k s ∷ us) e = cc

end_found : (us : List Tok) → map terminal_of us ≡ end ∷ [] → ProgramFound us []
end_found [] e = cc
end_found (at k s ∷ us) e =
    (on end s 0 ∷ [], ap (λ j. at j s ∷ []) (sym (is_end k end (map terminal_of us) e)) ∙ ap (λ vs. at k s ∷ vs) (sym (no_tok us (no_more k end (map terminal_of us) e))), [], Program.end_, tt)

module _ (L : Terminal → Type 0) where
  decl_form_back : (s : Span) (f : DeclForm) → FormedDeclForm L f → Spells (DeclAs (DeclTree.node s f)) (decl_form_terminals f)
  decl_form_back s (DeclForm.id_type (ident n i)) h = turned (id_type_ s i n) (keyed (word word.IdType) 0 (keyed (name n) 0 (one (symbol symbol.Semicolon) 0)))
  decl_form_back s (DeclForm.opaque (ident n i)) h = turned (opaque_ s i n) (keyed (word word.Type) 0 (keyed (name n) 0 (one (symbol symbol.Semicolon) 0)))
  decl_form_back s (DeclForm.datatype (ident n i) []) h = absurd h
  decl_form_back s (DeclForm.datatype (ident n i) (c ∷ cs)) h = turned (datatype_ s i n c cs) (keyed (word word.Datatype) 0 (keyed (name n) 0 (keyed (symbol symbol.Assign) 0 (ended (both (con_back c) (cons_back cs))))))
  decl_form_back s (DeclForm.crdt (ident n i) c) h = turned (crdt_ s i n c) (keyed (word word.Crdt) 0 (keyed (name n) 0 (keyed (symbol symbol.Colon) 0 (ended (crdt_back L 0 c h.1)))))
  decl_form_back s (DeclForm.query (QueryTree.query (ident n i) ps t e)) h =
      turned (query_ s i n ps t e) (keyed (word word.Query) 0 (keyed (name n) 0 (both (param_list_back 0 ps) (keyed (symbol symbol.Colon) 0 (both (type_back 0 t) (keyed (symbol symbol.Assign) 0 (ended (whole_back L 0 e h.3))))))))
  decl_form_back s (DeclForm.invariant None e) h = turned (invariant_ s e) (keyed (word word.Invariant) 0 (ended (whole_back L 0 e h.1)))
  decl_form_back s (DeclForm.invariant (Some (ident n i)) e) h = turned (named_invariant_ s i n e) (keyed (word word.Invariant) 0 (keyed (name n) 0 (keyed (symbol symbol.Colon) 0 (ended (whole_back L 0 e h.1)))))
  decl_form_back s (DeclForm.proc (ProcTree.proc (ident n i) ps t b)) h = turned (proc_ s i n ps t b) (keyed (word word.Proc) 0 (keyed (name n) 0 (both (param_list_back 0 ps) (both (result_back t) (block_back L 0 b h.3)))))

  decl_back : (d : DeclTree) → FormedDecl L d → Spells (DeclAs d) (decl_terminals d)
  decl_back (DeclTree.node s f) h = decl_form_back s f h

  pub program_back : (ds : List DeclTree) → FormedDecls L ds → (us : List Tok) → map terminal_of us ≡ program_terminals ds → ProgramFound us ds
  program_back [] h us e = end_found us e
  program_back (d ∷ ds) h us e =
      let f = (decl_back d h.0).reads us (program_terminals ds) e in
      let g = program_back ds h.1 f.0 f.1 in
      let x = f.2 g.0 g.1 in
      (x.0, x.1, x.2.0 ∷ g.2, Program.more_decls x.2.1 g.3, (x.2.2, g.4))
