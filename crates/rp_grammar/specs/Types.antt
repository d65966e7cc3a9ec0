-- Types, parameters and replicated types. `Phrase d ts x r`: at the nesting d, the tokens ts are those of a phrase that spells x, and then the tokens r.
use Rattle.std.specs.Prelude.{ℕ, suc, List, [], ◌∷◌}
use Rattle.rp_span.specs.declared.Span.{Span}
use Rattle.rp_grammar.specs.declared.terminal.Word.TheVariants as word
use Rattle.rp_grammar.specs.declared.terminal.Symbol.TheVariants as symbol
use Rattle.rp_grammar.specs.Terminals.{name, word, symbol, Placed, on}
use Rattle.rp_grammar.specs.Trees.{ident, TypeTree, TypeForm, ParamTree, CrdtTree, CrdtForm, FieldTree, fields}
use Rattle.rp_grammar.specs.Parts.{join}

-- type = NAME | "Bool" | "Int" | "String" | "Maybe" "[" type "]" | "call" | "invocation"
pub data TypePhrase : ℕ → List Placed → TypeTree → List Placed → Type 0 where
  named : {d : ℕ} {n : List ℕ} {s : Span} {r : List Placed}
      → TypePhrase d (on (name n) s d ∷ r) (TypeTree.node s (TypeForm.named n)) r
  bool : {d : ℕ} {s : Span} {r : List Placed}
      → TypePhrase d (on (word word.Bool) s d ∷ r) (TypeTree.node s TypeForm.bool) r
  int : {d : ℕ} {s : Span} {r : List Placed}
      → TypePhrase d (on (word word.Int) s d ∷ r) (TypeTree.node s TypeForm.int) r
  text : {d : ℕ} {s : Span} {r : List Placed}
      → TypePhrase d (on (word word.String) s d ∷ r) (TypeTree.node s TypeForm.text) r
  maybe : {d : ℕ} {s o c : Span} {ts r : List Placed} {t : TypeTree}
      → TypePhrase (suc d) ts t (on (symbol symbol.CloseBracket) c d ∷ r)
      → TypePhrase d (on (word word.Maybe) s d ∷ on (symbol symbol.OpenBracket) o d ∷ ts) (TypeTree.node (join s c) (TypeForm.maybe t)) r
  call : {d : ℕ} {s : Span} {r : List Placed}
      → TypePhrase d (on (word word.Call) s d ∷ r) (TypeTree.node s TypeForm.call) r
  invocation : {d : ℕ} {s : Span} {r : List Placed}
      → TypePhrase d (on (word word.Invocation) s d ∷ r) (TypeTree.node s TypeForm.invocation) r

-- NAME ":" type
pub data Param : ℕ → List Placed → ParamTree → List Placed → Type 0 where
  param : {d : ℕ} {n : List ℕ} {s c : Span} {ts r : List Placed} {t : TypeTree}
      → TypePhrase d ts t r
      → Param d (on (name n) s d ∷ on (symbol symbol.Colon) c d ∷ ts) (ParamTree.param (ident n s) t) r

-- {"," NAME ":" type}
pub data MoreParams : ℕ → List Placed → List ParamTree → List Placed → Type 0 where
  no_param : {d : ℕ} {r : List Placed} → MoreParams d r [] r
  more_params : {d : ℕ} {c : Span} {ts r u : List Placed} {p : ParamTree} {ps : List ParamTree}
      → Param d ts p r → MoreParams d r ps u
      → MoreParams d (on (symbol symbol.Comma) c d ∷ ts) (p ∷ ps) u

-- params = NAME ":" type {"," NAME ":" type}
pub data Params : ℕ → List Placed → List ParamTree → List Placed → Type 0 where
  params : {d : ℕ} {ts r u : List Placed} {p : ParamTree} {ps : List ParamTree}
      → Param d ts p r → MoreParams d r ps u
      → Params d ts (p ∷ ps) u

-- "(" [params] ")"
pub data ParamList : ℕ → List Placed → List ParamTree → List Placed → Type 0 where
  no_params : {d : ℕ} {o c : Span} {r : List Placed}
      → ParamList d (on (symbol symbol.OpenParen) o d ∷ on (symbol symbol.CloseParen) c d ∷ r) [] r
  some_params : {d : ℕ} {o c : Span} {ts r : List Placed} {ps : List ParamTree}
      → Params (suc d) ts ps (on (symbol symbol.CloseParen) c d ∷ r)
      → ParamList d (on (symbol symbol.OpenParen) o d ∷ ts) ps r

mutual
  -- crdt = ("SetAw"|"SetRw"|"Reg"|"MvReg") "[" type "]" | "Counter" | ("MapUw"|"MapDw") "[" type "," crdt "]" | "{" NAME ":" crdt {"," NAME ":" crdt} "}"
  pub data Crdt : ℕ → List Placed → CrdtTree → List Placed → Type 0 where
    set_aw : {d : ℕ} {s o c : Span} {ts r : List Placed} {t : TypeTree}
        → TypePhrase (suc d) ts t (on (symbol symbol.CloseBracket) c d ∷ r)
        → Crdt d (on (word word.SetAw) s d ∷ on (symbol symbol.OpenBracket) o d ∷ ts) (CrdtTree.node (join s c) (CrdtForm.set_aw t)) r
    set_rw : {d : ℕ} {s o c : Span} {ts r : List Placed} {t : TypeTree}
        → TypePhrase (suc d) ts t (on (symbol symbol.CloseBracket) c d ∷ r)
        → Crdt d (on (word word.SetRw) s d ∷ on (symbol symbol.OpenBracket) o d ∷ ts) (CrdtTree.node (join s c) (CrdtForm.set_rw t)) r
    reg : {d : ℕ} {s o c : Span} {ts r : List Placed} {t : TypeTree}
        → TypePhrase (suc d) ts t (on (symbol symbol.CloseBracket) c d ∷ r)
        → Crdt d (on (word word.Reg) s d ∷ on (symbol symbol.OpenBracket) o d ∷ ts) (CrdtTree.node (join s c) (CrdtForm.reg t)) r
    mv_reg : {d : ℕ} {s o c : Span} {ts r : List Placed} {t : TypeTree}
        → TypePhrase (suc d) ts t (on (symbol symbol.CloseBracket) c d ∷ r)
        → Crdt d (on (word word.MvReg) s d ∷ on (symbol symbol.OpenBracket) o d ∷ ts) (CrdtTree.node (join s c) (CrdtForm.mv_reg t)) r
    counter : {d : ℕ} {s : Span} {r : List Placed}
        → Crdt d (on (word word.Counter) s d ∷ r) (CrdtTree.node s CrdtForm.counter) r
    map_uw : {d : ℕ} {s o m c : Span} {ts us r : List Placed} {k : TypeTree} {v : CrdtTree}
        → TypePhrase (suc d) ts k (on (symbol symbol.Comma) m (suc d) ∷ us)
        → Crdt (suc d) us v (on (symbol symbol.CloseBracket) c d ∷ r)
        → Crdt d (on (word word.MapUw) s d ∷ on (symbol symbol.OpenBracket) o d ∷ ts) (CrdtTree.node (join s c) (CrdtForm.map_uw k v)) r
    map_dw : {d : ℕ} {s o m c : Span} {ts us r : List Placed} {k : TypeTree} {v : CrdtTree}
        → TypePhrase (suc d) ts k (on (symbol symbol.Comma) m (suc d) ∷ us)
        → Crdt (suc d) us v (on (symbol symbol.CloseBracket) c d ∷ r)
        → Crdt d (on (word word.MapDw) s d ∷ on (symbol symbol.OpenBracket) o d ∷ ts) (CrdtTree.node (join s c) (CrdtForm.map_dw k v)) r
    struct : {d : ℕ} {o c : Span} {ts us r : List Placed} {x : FieldTree} {xs : List FieldTree}
        → Field (suc d) ts x us → MoreFields (suc d) us xs (on (symbol symbol.CloseBrace) c d ∷ r)
        → Crdt d (on (symbol symbol.OpenBrace) o d ∷ ts) (CrdtTree.node (join o c) (CrdtForm.struct (fields (x ∷ xs)))) r

  -- NAME ":" crdt
  pub data Field : ℕ → List Placed → FieldTree → List Placed → Type 0 where
    field : {d : ℕ} {n : List ℕ} {s c : Span} {ts r : List Placed} {t : CrdtTree}
        → Crdt d ts t r
        → Field d (on (name n) s d ∷ on (symbol symbol.Colon) c d ∷ ts) (FieldTree.field (ident n s) t) r

  -- {"," NAME ":" crdt}
  pub data MoreFields : ℕ → List Placed → List FieldTree → List Placed → Type 0 where
    no_field : {d : ℕ} {r : List Placed} → MoreFields d r [] r
    more_fields : {d : ℕ} {c : Span} {ts r u : List Placed} {x : FieldTree} {xs : List FieldTree}
        → Field d ts x r → MoreFields d r xs u
        → MoreFields d (on (symbol symbol.Comma) c d ∷ ts) (x ∷ xs) u
