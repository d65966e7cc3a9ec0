-- The printed terminals of a type, of a replicated type and of parameters are those of phrases that spell the same, spans aside.
use Rattle.std.proofs.Common.{ℕ, suc, List, [], ◌∷◌, map, refl}
use Rattle.rp_span.specs.declared.Span.{Span}
use Rattle.rp_grammar.specs.declared.terminal.Word.{Word}
use Rattle.rp_grammar.specs.declared.terminal.Word.TheVariants as word
use Rattle.rp_grammar.specs.declared.terminal.Symbol.TheVariants as symbol
use Rattle.rp_grammar.specs.Terminals.{Terminal, name, word, symbol, Placed}
use Rattle.rp_grammar.specs.Trees.{ident, TypeTree, TypeForm, ParamTree, CrdtTree, CrdtForm, FieldTree, FieldTrees, fields}
use Rattle.rp_grammar.specs.Types.{TypePhrase, Param, MoreParams, Params, ParamList, Crdt, Field, MoreFields}
use Rattle.rp_print.specs.Printed.{type_terminals, type_form_terminals, param_terminals, params_terminals, crdt_terminals, crdt_form_terminals, field_terminals, fields_terminals, behind, in_brackets, in_braces, in_parens}
use Rattle.rp_print.specs.Alike.{TypesAlike, ParamsAlike, AllAlike, CrdtsAlike, FieldAlike, FieldsAlike}
use Rattle.rp_grammar.proofs.Formed.{FormedCrdt, FormedCrdtForm, FormedField, FormedFields}
use Rattle.rp_print.proofs.Spells.{Key, key, Then, then_, Empty, empty, Spells, one, none, turned, both, keyed}

abbrev pub TypeAs : ℕ → TypeTree → List Placed → List Placed → Type 0
TypeAs d t ms r = (u : TypeTree) × TypePhrase d ms u r × TypesAlike t u

named_ : (s : Span) (d : ℕ) (n : List ℕ) (ms r : List Placed) → Key (name n) d ms r → TypeAs d (TypeTree.node s (TypeForm.named n)) ms r
named_ s d n ms r key = (_, TypePhrase.named, refl)

bool_ : (s : Span) (d : ℕ) (ms r : List Placed) → Key (word word.Bool) d ms r → TypeAs d (TypeTree.node s TypeForm.bool) ms r
bool_ s d ms r key = (_, TypePhrase.bool, tt)

int_ : (s : Span) (d : ℕ) (ms r : List Placed) → Key (word word.Int) d ms r → TypeAs d (TypeTree.node s TypeForm.int) ms r
int_ s d ms r key = (_, TypePhrase.int, tt)

text_ : (s : Span) (d : ℕ) (ms r : List Placed) → Key (word word.String) d ms r → TypeAs d (TypeTree.node s TypeForm.text) ms r
text_ s d ms r key = (_, TypePhrase.text, tt)

call_ : (s : Span) (d : ℕ) (ms r : List Placed) → Key (word word.Call) d ms r → TypeAs d (TypeTree.node s TypeForm.call) ms r
call_ s d ms r key = (_, TypePhrase.call, tt)

invocation_ : (s : Span) (d : ℕ) (ms r : List Placed) → Key (word word.Invocation) d ms r → TypeAs d (TypeTree.node s TypeForm.invocation) ms r
invocation_ s d ms r key = (_, TypePhrase.invocation, tt)

-- a word, and what stands in brackets behind it
abbrev pub Bracketed : Word → ℕ → (List Placed → List Placed → Type 0) → List Placed → List Placed → Type 0
Bracketed w d P = Then (Key (word w) d) (Then (Key (symbol symbol.OpenBracket) d) (Then P (Key (symbol symbol.CloseBracket) d)))

pub bracketed : {P : List Placed → List Placed → Type 0} {a : List Terminal} (w : Word) (d : ℕ) → Spells P a → Spells (Bracketed w d P) (word w ∷ in_brackets a)
bracketed w d p = keyed (word w) d (keyed (symbol symbol.OpenBracket) d (both p (one (symbol symbol.CloseBracket) d)))

maybe_ : (s : Span) (d : ℕ) (t : TypeTree) (ms r : List Placed) → Bracketed word.Maybe d (TypeAs (suc d) t) ms r → TypeAs d (TypeTree.node s (TypeForm.maybe t)) ms r
maybe_ s d t ms r (then_ key (then_ key (then_ x key))) = (_, TypePhrase.maybe x.1, x.2)

mutual
  pub type_back : (d : ℕ) (t : TypeTree) → Spells (TypeAs d t) (type_terminals t)
  type_back d (TypeTree.node s f) = form_back d s f

  form_back : (d : ℕ) (s : Span) (f : TypeForm) → Spells (TypeAs d (TypeTree.node s f)) (type_form_terminals f)
  form_back d s (TypeForm.named n) = turned (named_ s d n) (one (name n) d)
  form_back d s TypeForm.bool = turned (bool_ s d) (one (word word.Bool) d)
  form_back d s TypeForm.int = turned (int_ s d) (one (word word.Int) d)
  form_back d s TypeForm.text = turned (text_ s d) (one (word word.String) d)
  form_back d s (TypeForm.maybe t) = turned (maybe_ s d t) (bracketed word.Maybe d (type_back (suc d) t))
  form_back d s TypeForm.call = turned (call_ s d) (one (word word.Call) d)
  form_back d s TypeForm.invocation = turned (invocation_ s d) (one (word word.Invocation) d)

-- # Parameters

abbrev pub ParamAs : ℕ → ParamTree → List Placed → List Placed → Type 0
ParamAs d p ms r = (q : ParamTree) × Param d ms q r × ParamsAlike p q

abbrev pub MoreParamsAs : ℕ → List ParamTree → List Placed → List Placed → Type 0
MoreParamsAs d ps ms r = (qs : List ParamTree) × MoreParams d ms qs r × AllAlike ParamsAlike ps qs

abbrev pub ParamListAs : ℕ → List ParamTree → List Placed → List Placed → Type 0
ParamListAs d ps ms r = (qs : List ParamTree) × ParamList d ms qs r × AllAlike ParamsAlike ps qs

param_ : (i : Span) (d : ℕ) (n : List ℕ) (t : TypeTree) (ms r : List Placed) → Then (Key (name n) d) (Then (Key (symbol symbol.Colon) d) (TypeAs d t)) ms r → ParamAs d (ParamTree.param (ident n i) t) ms r
param_ i d n t ms r (then_ key (then_ key x)) = (_, Param.param x.1, (refl, x.2))

pub param_back : (d : ℕ) (p : ParamTree) → Spells (ParamAs d p) (param_terminals p)
param_back d (ParamTree.param (ident n i) t) = turned (param_ i d n t) (keyed (name n) d (keyed (symbol symbol.Colon) d (type_back d t)))

no_params_ : (d : ℕ) (ms r : List Placed) → Empty ms r → MoreParamsAs d [] ms r
no_params_ d ms r empty = ([], MoreParams.no_param, tt)

more_params_ : (d : ℕ) (p : ParamTree) (ps : List ParamTree) (ms r : List Placed) → Then (Key (symbol symbol.Comma) d) (Then (ParamAs d p) (MoreParamsAs d ps)) ms r → MoreParamsAs d (p ∷ ps) ms r
more_params_ d p ps ms r (then_ key (then_ x y)) = (x.0 ∷ y.0, MoreParams.more_params x.1 y.1, (x.2, y.2))

pub more_params_back : (d : ℕ) (ps : List ParamTree) → Spells (MoreParamsAs d ps) (behind symbol.Comma (map param_terminals ps))
more_params_back d [] = turned (no_params_ d) none
more_params_back d (p ∷ ps) = turned (more_params_ d p ps) (keyed (symbol symbol.Comma) d (both (param_back d p) (more_params_back d ps)))

-- what stands in parentheses
abbrev pub Enclosed : ℕ → (List Placed → List Placed → Type 0) → List Placed → List Placed → Type 0
Enclosed d P = Then (Key (symbol symbol.OpenParen) d) (Then P (Key (symbol symbol.CloseParen) d))

pub enclosed_in : {P : List Placed → List Placed → Type 0} {a : List Terminal} (d : ℕ) → Spells P a → Spells (Enclosed d P) (in_parens a)
enclosed_in d p = keyed (symbol symbol.OpenParen) d (both p (one (symbol symbol.CloseParen) d))

-- what stands in braces
abbrev pub Braced : ℕ → (List Placed → List Placed → Type 0) → List Placed → List Placed → Type 0
Braced d P = Then (Key (symbol symbol.OpenBrace) d) (Then P (Key (symbol symbol.CloseBrace) d))

pub braced : {P : List Placed → List Placed → Type 0} {a : List Terminal} (d : ℕ) → Spells P a → Spells (Braced d P) (in_braces a)
braced d p = keyed (symbol symbol.OpenBrace) d (both p (one (symbol symbol.CloseBrace) d))

no_list_ : (d : ℕ) (ms r : List Placed) → Enclosed d Empty ms r → ParamListAs d [] ms r
no_list_ d ms r (then_ key (then_ empty key)) = ([], ParamList.no_params, tt)

list_ : (d : ℕ) (p : ParamTree) (ps : List ParamTree) (ms r : List Placed) → Enclosed d (Then (ParamAs (suc d) p) (MoreParamsAs (suc d) ps)) ms r → ParamListAs d (p ∷ ps) ms r
list_ d p ps ms r (then_ key (then_ (then_ x y) key)) = (x.0 ∷ y.0, ParamList.some_params (Params.params x.1 y.1), (x.2, y.2))

pub param_list_back : (d : ℕ) (ps : List ParamTree) → Spells (ParamListAs d ps) (in_parens (params_terminals ps))
param_list_back d [] = turned (no_list_ d) (enclosed_in d none)
param_list_back d (p ∷ ps) = turned (list_ d p ps) (enclosed_in d (both (param_back (suc d) p) (more_params_back (suc d) ps)))

-- # Replicated types

abbrev pub CrdtAs : ℕ → CrdtTree → List Placed → List Placed → Type 0
CrdtAs d c ms r = (e : CrdtTree) × Crdt d ms e r × CrdtsAlike c e

abbrev FieldAs : ℕ → FieldTree → List Placed → List Placed → Type 0
FieldAs d f ms r = (g : FieldTree) × Field d ms g r × FieldAlike f g

abbrev FieldsAs : ℕ → FieldTrees → List Placed → List Placed → Type 0
FieldsAs d fs ms r = (gs : List FieldTree) × MoreFields d ms gs r × FieldsAlike fs (fields gs)

set_aw_ : (s : Span) (d : ℕ) (t : TypeTree) (ms r : List Placed) → Bracketed word.SetAw d (TypeAs (suc d) t) ms r → CrdtAs d (CrdtTree.node s (CrdtForm.set_aw t)) ms r
set_aw_ s d t ms r (then_ key (then_ key (then_ x key))) = (_, Crdt.set_aw x.1, x.2)

set_rw_ : (s : Span) (d : ℕ) (t : TypeTree) (ms r : List Placed) → Bracketed word.SetRw d (TypeAs (suc d) t) ms r → CrdtAs d (CrdtTree.node s (CrdtForm.set_rw t)) ms r
set_rw_ s d t ms r (then_ key (then_ key (then_ x key))) = (_, Crdt.set_rw x.1, x.2)

reg_ : (s : Span) (d : ℕ) (t : TypeTree) (ms r : List Placed) → Bracketed word.Reg d (TypeAs (suc d) t) ms r → CrdtAs d (CrdtTree.node s (CrdtForm.reg t)) ms r
reg_ s d t ms r (then_ key (then_ key (then_ x key))) = (_, Crdt.reg x.1, x.2)

mv_reg_ : (s : Span) (d : ℕ) (t : TypeTree) (ms r : List Placed) → Bracketed word.MvReg d (TypeAs (suc d) t) ms r → CrdtAs d (CrdtTree.node s (CrdtForm.mv_reg t)) ms r
mv_reg_ s d t ms r (then_ key (then_ key (then_ x key))) = (_, Crdt.mv_reg x.1, x.2)

counter_ : (s : Span) (d : ℕ) (ms r : List Placed) → Key (word word.Counter) d ms r → CrdtAs d (CrdtTree.node s CrdtForm.counter) ms r
counter_ s d ms r key = (_, Crdt.counter, tt)

abbrev Mapped : ℕ → TypeTree → CrdtTree → List Placed → List Placed → Type 0
Mapped d t c = Then (TypeAs d t) (Then (Key (symbol symbol.Comma) d) (CrdtAs d c))

map_uw_ : (s : Span) (d : ℕ) (t : TypeTree) (c : CrdtTree) (ms r : List Placed) → Bracketed word.MapUw d (Mapped (suc d) t c) ms r → CrdtAs d (CrdtTree.node s (CrdtForm.map_uw t c)) ms r
map_uw_ s d t c ms r (then_ key (then_ key (then_ (then_ x (then_ key y)) key))) = (_, Crdt.map_uw x.1 y.1, (x.2, y.2))

map_dw_ : (s : Span) (d : ℕ) (t : TypeTree) (c : CrdtTree) (ms r : List Placed) → Bracketed word.MapDw d (Mapped (suc d) t c) ms r → CrdtAs d (CrdtTree.node s (CrdtForm.map_dw t c)) ms r
map_dw_ s d t c ms r (then_ key (then_ key (then_ (then_ x (then_ key y)) key))) = (_, Crdt.map_dw x.1 y.1, (x.2, y.2))

struct_ : (s : Span) (d : ℕ) (f : FieldTree) (fs : FieldTrees) (ms r : List Placed) → Braced d (Then (FieldAs (suc d) f) (FieldsAs (suc d) fs)) ms r → CrdtAs d (CrdtTree.node s (CrdtForm.struct (FieldTrees.more_fields f fs))) ms r
struct_ s d f fs ms r (then_ key (then_ (then_ x y) key)) = (_, Crdt.struct x.1 y.1, (x.2, y.2))

field_ : (i : Span) (d : ℕ) (n : List ℕ) (c : CrdtTree) (ms r : List Placed) → Then (Key (name n) d) (Then (Key (symbol symbol.Colon) d) (CrdtAs d c)) ms r → FieldAs d (FieldTree.field (ident n i) c) ms r
field_ i d n c ms r (then_ key (then_ key x)) = (_, Field.field x.1, (refl, x.2))

no_fields_ : (d : ℕ) (ms r : List Placed) → Empty ms r → FieldsAs d FieldTrees.no_fields ms r
no_fields_ d ms r empty = ([], MoreFields.no_field, tt)

more_fields_ : (d : ℕ) (f : FieldTree) (fs : FieldTrees) (ms r : List Placed) → Then (Key (symbol symbol.Comma) d) (Then (FieldAs d f) (FieldsAs d fs)) ms r → FieldsAs d (FieldTrees.more_fields f fs) ms r
more_fields_ d f fs ms r (then_ key (then_ x y)) = (x.0 ∷ y.0, MoreFields.more_fields x.1 y.1, (x.2, y.2))

module _ (L : Terminal → Type 0) where
  mutual
    pub crdt_back : (d : ℕ) (c : CrdtTree) → FormedCrdt L c → Spells (CrdtAs d c) (crdt_terminals c)
    crdt_back d (CrdtTree.node s f) h = crdt_form_back d s f h

    crdt_form_back : (d : ℕ) (s : Span) (f : CrdtForm) → FormedCrdtForm L f → Spells (CrdtAs d (CrdtTree.node s f)) (crdt_form_terminals f)
    crdt_form_back d s (CrdtForm.set_aw t) h = turned (set_aw_ s d t) (bracketed word.SetAw d (type_back (suc d) t))
    crdt_form_back d s (CrdtForm.set_rw t) h = turned (set_rw_ s d t) (bracketed word.SetRw d (type_back (suc d) t))
    crdt_form_back d s (CrdtForm.reg t) h = turned (reg_ s d t) (bracketed word.Reg d (type_back (suc d) t))
    crdt_form_back d s (CrdtForm.mv_reg t) h = turned (mv_reg_ s d t) (bracketed word.MvReg d (type_back (suc d) t))
    crdt_form_back d s CrdtForm.counter h = turned (counter_ s d) (one (word word.Counter) d)
    crdt_form_back d s (CrdtForm.map_uw t c) h = turned (map_uw_ s d t c) (bracketed word.MapUw d (both (type_back (suc d) t) (keyed (symbol symbol.Comma) (suc d) (crdt_back (suc d) c h.1))))
    crdt_form_back d s (CrdtForm.map_dw t c) h = turned (map_dw_ s d t c) (bracketed word.MapDw d (both (type_back (suc d) t) (keyed (symbol symbol.Comma) (suc d) (crdt_back (suc d) c h.1))))
    crdt_form_back d s (CrdtForm.struct FieldTrees.no_fields) h = absurd h
    crdt_form_back d s (CrdtForm.struct (FieldTrees.more_fields f fs)) h = turned (struct_ s d f fs) (braced d (both (field_back (suc d) f h.0) (fields_back (suc d) fs h.1)))

    field_back : (d : ℕ) (f : FieldTree) → FormedField L f → Spells (FieldAs d f) (field_terminals f)
    field_back d (FieldTree.field (ident n i) c) h = turned (field_ i d n c) (keyed (name n) d (keyed (symbol symbol.Colon) d (crdt_back d c h.1)))

    fields_back : (d : ℕ) (fs : FieldTrees) → FormedFields L fs → Spells (FieldsAs d fs) (behind symbol.Comma (fields_terminals fs))
    fields_back d FieldTrees.no_fields h = turned (no_fields_ d) none
    fields_back d (FieldTrees.more_fields f fs) h = turned (more_fields_ d f fs) (keyed (symbol symbol.Comma) d (both (field_back d f h.0) (fields_back d fs h.1)))
