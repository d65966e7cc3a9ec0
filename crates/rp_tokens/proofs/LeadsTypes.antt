-- What leads on behind the tokens of types leads on from before them.
use Rattle.std.proofs.Common.{ℕ, suc, List, [], ◌∷◌, ◌++◌, inl, inr, refl, sym, subst, append_assoc, append-nil}
use Rattle.rp_span.specs.declared.Span.{Span}
use Rattle.rp_grammar.specs.declared.terminal.Word.{Word}
use Rattle.rp_grammar.specs.declared.terminal.Word.TheVariants as word
use Rattle.rp_grammar.specs.declared.terminal.Symbol.{Symbol}
use Rattle.rp_grammar.specs.declared.terminal.Symbol.TheVariants as symbol
use Rattle.rp_grammar.specs.Terminals.{Terminal, name, word, symbol, Placed, on}
use Rattle.rp_grammar.specs.Trees.{TypeTree, TypeForm, ParamTree, CrdtTree, CrdtForm, FieldTree, fields, DeclTree}
use Rattle.rp_grammar.specs.Parts.{join}
use Rattle.rp_grammar.specs.Types.{TypePhrase, Param, MoreParams, Params, ParamList, Crdt, Field, MoreFields}
use Rattle.rp_grammar.specs.Types as types
use Rattle.rp_tokens.specs.MachineStates.{State, want_symbol, more_params, more_fields}
use Rattle.rp_tokens.specs.MachineTypes.{want_param, want_params, want_param_list, want_element, type_word, type_step, want_field, want_entry, crdt_word, crdt_symbol, crdt_step}
use Rattle.rp_tokens.proofs.Leads.{next, next_name, Leads, Through, Back, then_symbol}

pub param_back : (d : ℕ) (k : ParamTree → State) (ts : List Placed) (t : List DeclTree) → Leads (want_param d k) ts t → Through (Param d) k ts t
param_back d k ts t (n, r, next_name, (c, u, next, (x, w, p, l))) = (_, w, types.param p, l)

pub params_back : (d : ℕ) (k : List ParamTree → State) (ts : List Placed) (t : List DeclTree) → Leads (want_params d k) ts t → Through (Params d) k ts t
params_back d k ts t l = let (p, r, x, (ps, u, m, a)) = param_back d (λ p. more_params d (p ∷ []) k) ts t l in (p ∷ ps, u, types.params x m, a)

pub param_list_back : (d : ℕ) (k : List ParamTree → State) (ts : List Placed) (t : List DeclTree) → Leads (want_param_list d k) ts t → Through (ParamList d) k ts t
param_list_back d k ts t (o, r, next, inl (c, u, next, l)) = ([], u, types.no_params, l)
param_list_back d k ts t (o, r, next, inr l) =
    let close : List ParamTree → State = λ ps. want_symbol symbol.CloseParen refl d (λ c. k ps) in
    let (ps, c, u, x, a) = then_symbol (Params (suc d)) symbol.CloseParen refl d (λ ps c. k ps) r t (params_back (suc d) close r t l) in
    (ps, u, types.some_params x, a)

-- a type in brackets
pub data Element (d : ℕ) : List Placed → TypeTree → Span → List Placed → Type 0 where
  element : {o c : Span} {ts r : List Placed} {x : TypeTree} → TypePhrase (suc d) ts x (on (symbol symbol.CloseBracket) c d ∷ r) → Element d (on (symbol symbol.OpenBracket) o d ∷ ts) x c r

element_back : (d : ℕ) (s : Span) (k : TypeTree → Span → State) (ts : List Placed) (t : List DeclTree) → Leads (want_element d s k) ts t → (x : TypeTree) × (c : Span) × (r : List Placed) × Element d ts x c r × Leads (k x (join s c)) r t
element_back d s k ts t (o, r, next, (x, u, p, (c, w, next, l))) = (x, c, w, element p, l)

maybe_of : {d : ℕ} {s c : Span} {ts r : List Placed} {x : TypeTree} → Element d ts x c r → TypePhrase d (on (word word.Maybe) s d ∷ ts) (TypeTree.node (join s c) (TypeForm.maybe x)) r
maybe_of (element p) = types.maybe p

type_word_back : (d : ℕ) (k : TypeTree → State) (w : Word) (v : Span) → Back (Through (TypePhrase d) k) (word w) v (type_word d k w v)
type_word_back d k word.Bool v = λ ts t l. (_, ts, types.bool, l)
type_word_back d k word.Int v = λ ts t l. (_, ts, types.int, l)
type_word_back d k word.String v = λ ts t l. (_, ts, types.text, l)
type_word_back d k word.Maybe v = λ ts t l. let (x, c, r, p, a) = element_back d v (λ x e. k (TypeTree.node e (TypeForm.maybe x))) ts t l in (_, r, maybe_of p, a)
type_word_back d k word.Call v = λ ts t l. (_, ts, types.call, l)
type_word_back d k word.Invocation v = λ ts t l. (_, ts, types.invocation, l)
type_word_back d k _ v = tt

pub type_back : (d : ℕ) (k : TypeTree → State) (x : Terminal) (v : Span) → Back (Through (TypePhrase d) k) x v (type_step d k x v)
type_back d k (name n) v = λ ts t l. (_, ts, types.named, l)
type_back d k (word w) v = type_word_back d k w v
type_back d k _ v = tt

pub field_back : (d : ℕ) (k : FieldTree → State) (ts : List Placed) (t : List DeclTree) → Leads (want_field d k) ts t → Through (Field d) k ts t
field_back d k ts t (n, r, next_name, (c, u, next, (x, w, p, l))) = (_, w, types.field p, l)

-- a type and a replicated type in brackets
pub data Entry (d : ℕ) : List Placed → TypeTree → CrdtTree → Span → List Placed → Type 0 where
  entry : {o m c : Span} {ts us r : List Placed} {x : TypeTree} {y : CrdtTree} → TypePhrase (suc d) ts x (on (symbol symbol.Comma) m (suc d) ∷ us) → Crdt (suc d) us y (on (symbol symbol.CloseBracket) c d ∷ r) → Entry d (on (symbol symbol.OpenBracket) o d ∷ ts) x y c r

entry_back : (d : ℕ) (s : Span) (k : TypeTree → CrdtTree → Span → State) (ts : List Placed) (t : List DeclTree) → Leads (want_entry d s k) ts t → (x : TypeTree) × (y : CrdtTree) × (c : Span) × (r : List Placed) × Entry d ts x y c r × Leads (k x y (join s c)) r t
entry_back d s k ts t (o, r, next, (x, u, p, (m, w, next, (y, z, q, (c, b, next, l))))) = (x, y, c, b, entry p q, l)

set_aw_of : {d : ℕ} {s c : Span} {ts r : List Placed} {x : TypeTree} → Element d ts x c r → Crdt d (on (word word.SetAw) s d ∷ ts) (CrdtTree.node (join s c) (CrdtForm.set_aw x)) r
set_aw_of (element p) = types.set_aw p

set_rw_of : {d : ℕ} {s c : Span} {ts r : List Placed} {x : TypeTree} → Element d ts x c r → Crdt d (on (word word.SetRw) s d ∷ ts) (CrdtTree.node (join s c) (CrdtForm.set_rw x)) r
set_rw_of (element p) = types.set_rw p

reg_of : {d : ℕ} {s c : Span} {ts r : List Placed} {x : TypeTree} → Element d ts x c r → Crdt d (on (word word.Reg) s d ∷ ts) (CrdtTree.node (join s c) (CrdtForm.reg x)) r
reg_of (element p) = types.reg p

mv_reg_of : {d : ℕ} {s c : Span} {ts r : List Placed} {x : TypeTree} → Element d ts x c r → Crdt d (on (word word.MvReg) s d ∷ ts) (CrdtTree.node (join s c) (CrdtForm.mv_reg x)) r
mv_reg_of (element p) = types.mv_reg p

map_uw_of : {d : ℕ} {s c : Span} {ts r : List Placed} {x : TypeTree} {y : CrdtTree} → Entry d ts x y c r → Crdt d (on (word word.MapUw) s d ∷ ts) (CrdtTree.node (join s c) (CrdtForm.map_uw x y)) r
map_uw_of (entry p q) = types.map_uw p q

map_dw_of : {d : ℕ} {s c : Span} {ts r : List Placed} {x : TypeTree} {y : CrdtTree} → Entry d ts x y c r → Crdt d (on (word word.MapDw) s d ∷ ts) (CrdtTree.node (join s c) (CrdtForm.map_dw x y)) r
map_dw_of (entry p q) = types.map_dw p q

crdt_word_back : (d : ℕ) (k : CrdtTree → State) (w : Word) (v : Span) → Back (Through (Crdt d) k) (word w) v (crdt_word d k w v)
crdt_word_back d k word.SetAw v = λ ts t l. let (x, c, r, p, a) = element_back d v (λ x e. k (CrdtTree.node e (CrdtForm.set_aw x))) ts t l in (_, r, set_aw_of p, a)
crdt_word_back d k word.SetRw v = λ ts t l. let (x, c, r, p, a) = element_back d v (λ x e. k (CrdtTree.node e (CrdtForm.set_rw x))) ts t l in (_, r, set_rw_of p, a)
crdt_word_back d k word.Reg v = λ ts t l. let (x, c, r, p, a) = element_back d v (λ x e. k (CrdtTree.node e (CrdtForm.reg x))) ts t l in (_, r, reg_of p, a)
crdt_word_back d k word.MvReg v = λ ts t l. let (x, c, r, p, a) = element_back d v (λ x e. k (CrdtTree.node e (CrdtForm.mv_reg x))) ts t l in (_, r, mv_reg_of p, a)
crdt_word_back d k word.Counter v = λ ts t l. (_, ts, types.counter, l)
crdt_word_back d k word.MapUw v = λ ts t l. let (x, y, c, r, p, a) = entry_back d v (λ x y e. k (CrdtTree.node e (CrdtForm.map_uw x y))) ts t l in (_, r, map_uw_of p, a)
crdt_word_back d k word.MapDw v = λ ts t l. let (x, y, c, r, p, a) = entry_back d v (λ x y e. k (CrdtTree.node e (CrdtForm.map_dw x y))) ts t l in (_, r, map_dw_of p, a)
crdt_word_back d k _ v = tt

struct_of : (d : ℕ) (s : Span) (k : CrdtTree → State) (ts : List Placed) (t : List DeclTree) → Through (Field (suc d)) (λ x. more_fields (suc d) (x ∷ []) (λ xs. want_symbol symbol.CloseBrace refl d (λ c. k (CrdtTree.node (join s c) (CrdtForm.struct (fields xs)))))) ts t → Through (Crdt d) k (on (symbol symbol.OpenBrace) s d ∷ ts) t
struct_of d s k ts t (x, u, p, (xs, w, m, (c, r, next, l))) = (_, r, types.struct p m, l)

crdt_symbol_back : (d : ℕ) (k : CrdtTree → State) (m : Symbol) (v : Span) → Back (Through (Crdt d) k) (symbol m) v (crdt_symbol d k m v)
crdt_symbol_back d k symbol.OpenBrace v = λ ts t l. struct_of d v k ts t (field_back (suc d) (λ x. more_fields (suc d) (x ∷ []) (λ xs. want_symbol symbol.CloseBrace refl d (λ c. k (CrdtTree.node (join v c) (CrdtForm.struct (fields xs)))))) ts t l)
crdt_symbol_back d k _ v = tt

pub crdt_back : (d : ℕ) (k : CrdtTree → State) (x : Terminal) (v : Span) → Back (Through (Crdt d) k) x v (crdt_step d k x v)
crdt_back d k (word w) v = crdt_word_back d k w v
crdt_back d k (symbol m) v = crdt_symbol_back d k m v
crdt_back d k _ v = tt

-- the loops' steps

pub more_params_back : (d : ℕ) (ps : List ParamTree) (k : List ParamTree → State) (v : Span) (ts : List Placed) (t : List DeclTree) → Leads (want_param d (λ p. more_params d (ps ++ p ∷ []) k)) ts t → Leads (more_params d ps k) (on (symbol symbol.Comma) v d ∷ ts) t
more_params_back d ps k v ts t l =
    let (p, r, x, (qs, u, m, a)) = param_back d (λ p. more_params d (ps ++ p ∷ []) k) ts t l in
    (p ∷ qs, u, types.more_params x m, subst (λ all. Leads (k all) u t) (append_assoc ps (p ∷ []) qs) a)

pub no_more_params : (d : ℕ) (ps : List ParamTree) (k : List ParamTree → State) (ts : List Placed) (t : List DeclTree) → Leads (k ps) ts t → Leads (more_params d ps k) ts t
no_more_params d ps k ts t l = ([], ts, types.no_param, subst (λ all. Leads (k all) ts t) (sym (append-nil ps)) l)

pub more_fields_back : (d : ℕ) (xs : List FieldTree) (k : List FieldTree → State) (v : Span) (ts : List Placed) (t : List DeclTree) → Leads (want_field d (λ x. more_fields d (xs ++ x ∷ []) k)) ts t → Leads (more_fields d xs k) (on (symbol symbol.Comma) v d ∷ ts) t
more_fields_back d xs k v ts t l =
    let (x, r, y, (ys, u, m, a)) = field_back d (λ x. more_fields d (xs ++ x ∷ []) k) ts t l in
    (x ∷ ys, u, types.more_fields y m, subst (λ all. Leads (k all) u t) (append_assoc xs (x ∷ []) ys) a)

pub no_more_fields : (d : ℕ) (xs : List FieldTree) (k : List FieldTree → State) (ts : List Placed) (t : List DeclTree) → Leads (k xs) ts t → Leads (more_fields d xs k) ts t
no_more_fields d xs k ts t l = ([], ts, types.no_field, subst (λ all. Leads (k all) ts t) (sym (append-nil xs)) l)
