-- Declarations and programs. They stand at the nesting 0.
use Rattle.std.specs.Prelude.{ℕ, List, [], ◌∷◌, Option, Some, None}
use Rattle.rp_span.specs.declared.Span.{Span}
use Rattle.rp_grammar.specs.declared.terminal.Word.TheVariants as word
use Rattle.rp_grammar.specs.declared.terminal.Symbol.TheVariants as symbol
use Rattle.rp_grammar.specs.Terminals.{name, word, symbol, end, Placed, on}
use Rattle.rp_grammar.specs.Trees.{ident, TypeTree, ParamTree, CrdtTree, ExprTree, BlockTree, ConTree, QueryTree, ProcTree, DeclForm, DeclTree}
use Rattle.rp_grammar.specs.Parts.{join, Part, tree_of}
use Rattle.rp_grammar.specs.Types.{TypePhrase, Params, ParamList, Crdt}
use Rattle.rp_grammar.specs.Exprs.{Expr}
use Rattle.rp_grammar.specs.Stmts.{Block, block_span}

-- con = NAME ["(" params ")"]
pub data Con : List Placed → ConTree → List Placed → Type 0 where
  plain : {n : List ℕ} {s : Span} {r : List Placed}
      → Con (on (name n) s 0 ∷ r) (ConTree.con (ident n s) []) r
  with_fields : {n : List ℕ} {s o c : Span} {ts r : List Placed} {ps : List ParamTree}
      → Params 1 ts ps (on (symbol symbol.CloseParen) c 0 ∷ r)
      → Con (on (name n) s 0 ∷ on (symbol symbol.OpenParen) o 0 ∷ ts) (ConTree.con (ident n s) ps) r

-- {"|" con}
pub data MoreCons : List Placed → List ConTree → List Placed → Type 0 where
  no_con : {r : List Placed} → MoreCons r [] r
  more_cons : {b : Span} {ts r u : List Placed} {x : ConTree} {xs : List ConTree}
      → Con ts x r → MoreCons r xs u
      → MoreCons (on (symbol symbol.Bar) b 0 ∷ ts) (x ∷ xs) u

-- [":" type]
pub data ResultType : List Placed → Option TypeTree → List Placed → Type 0 where
  no_result : {r : List Placed} → ResultType r None r
  some_result : {c : Span} {ts r : List Placed} {t : TypeTree}
      → TypePhrase 0 ts t r
      → ResultType (on (symbol symbol.Colon) c 0 ∷ ts) (Some t) r

-- decl = "idtype" NAME ";" | "type" NAME ";" | "datatype" NAME "=" con {"|" con} ";" | "crdt" NAME ":" crdt ";"
--      | "query" NAME "(" [params] ")" ":" type "=" expr ";" | "invariant" [NAME ":"] expr ";" | "proc" NAME "(" [params] ")" [":" type] block
pub data Decl : List Placed → DeclTree → List Placed → Type 0 where
  id_type : {n : List ℕ} {s v z : Span} {r : List Placed}
      → Decl (on (word word.IdType) s 0 ∷ on (name n) v 0 ∷ on (symbol symbol.Semicolon) z 0 ∷ r) (DeclTree.node (join s z) (DeclForm.id_type (ident n v))) r
  opaque : {n : List ℕ} {s v z : Span} {r : List Placed}
      → Decl (on (word word.Type) s 0 ∷ on (name n) v 0 ∷ on (symbol symbol.Semicolon) z 0 ∷ r) (DeclTree.node (join s z) (DeclForm.opaque (ident n v))) r
  datatype : {n : List ℕ} {s v q z : Span} {ts us r : List Placed} {x : ConTree} {xs : List ConTree}
      → Con ts x us → MoreCons us xs (on (symbol symbol.Semicolon) z 0 ∷ r)
      → Decl (on (word word.Datatype) s 0 ∷ on (name n) v 0 ∷ on (symbol symbol.Assign) q 0 ∷ ts) (DeclTree.node (join s z) (DeclForm.datatype (ident n v) (x ∷ xs))) r
  crdt : {n : List ℕ} {s v c z : Span} {ts r : List Placed} {t : CrdtTree}
      → Crdt 0 ts t (on (symbol symbol.Semicolon) z 0 ∷ r)
      → Decl (on (word word.Crdt) s 0 ∷ on (name n) v 0 ∷ on (symbol symbol.Colon) c 0 ∷ ts) (DeclTree.node (join s z) (DeclForm.crdt (ident n v) t)) r
  query : {n : List ℕ} {s v c q z : Span} {ts us vs r : List Placed} {ps : List ParamTree} {t : TypeTree} {e : Part ExprTree}
      → ParamList 0 ts ps (on (symbol symbol.Colon) c 0 ∷ us) → TypePhrase 0 us t (on (symbol symbol.Assign) q 0 ∷ vs)
      → Expr 0 vs e (on (symbol symbol.Semicolon) z 0 ∷ r)
      → Decl (on (word word.Query) s 0 ∷ on (name n) v 0 ∷ ts) (DeclTree.node (join s z) (DeclForm.query (QueryTree.query (ident n v) ps t (tree_of e)))) r
  invariant : {s z : Span} {ts r : List Placed} {e : Part ExprTree}
      → Expr 0 ts e (on (symbol symbol.Semicolon) z 0 ∷ r)
      → Decl (on (word word.Invariant) s 0 ∷ ts) (DeclTree.node (join s z) (DeclForm.invariant None (tree_of e))) r
  named_invariant : {n : List ℕ} {s v c z : Span} {ts r : List Placed} {e : Part ExprTree}
      → Expr 0 ts e (on (symbol symbol.Semicolon) z 0 ∷ r)
      → Decl (on (word word.Invariant) s 0 ∷ on (name n) v 0 ∷ on (symbol symbol.Colon) c 0 ∷ ts) (DeclTree.node (join s z) (DeclForm.invariant (Some (ident n v)) (tree_of e))) r
  proc : {n : List ℕ} {s v : Span} {ts us vs r : List Placed} {ps : List ParamTree} {t : Option TypeTree} {b : BlockTree}
      → ParamList 0 ts ps us → ResultType us t vs → Block 0 vs b r
      → Decl (on (word word.Proc) s 0 ∷ on (name n) v 0 ∷ ts) (DeclTree.node (join s (block_span b)) (DeclForm.proc (ProcTree.proc (ident n v) ps t b))) r

-- program = {decl} and the end of the text
pub data Program : List Placed → List DeclTree → Type 0 where
  end_ : {s : Span} → Program (on end s 0 ∷ []) []
  more_decls : {ts r : List Placed} {x : DeclTree} {xs : List DeclTree}
      → Decl ts x r → Program r xs
      → Program ts (x ∷ xs)
