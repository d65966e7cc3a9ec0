-- What a stage's program says of its operations, queries and procedures.
use Rattle.std.proofs.Common.{◌≡◌, ◌<◌, ◌⊎◌, ℕ, zero, suc, List, [], ◌∷◌, length, if◌then◌else◌, Bool, true, false, Option, Some, None, slice_get, refl, sym, ap, ◌∙◌, subst}
use Rattle.std.specs.List.{list_all}
use Rattle.std.proofs.lemmas.Bool.{and_parts, and_from}
use Rattle.std.proofs.lemmas.Option.{none-some, same_Some}
use Rattle.rp_value.specs.declared.tables.Ty.{Ty}
use Rattle.rp_value.specs.declared.tables.Ty.TheVariants as ty
use Rattle.rp_value.specs.declared.tables.TypeTable.{TypeTable}
use Rattle.rp_value.specs.declared.tables.ConTable.{ConTable}
use Rattle.rp_value.specs.Values.{Val}
use Rattle.rp_lang.specs.declared.op.OpDecl.{OpDecl}
use Rattle.rp_lang.specs.declared.op.PathStep.{PathStep}
use Rattle.rp_lang.specs.declared.op.PathStep.TheVariants.{Field, Key}
use Rattle.rp_lang.specs.declared.query.QueryDecl.{QueryDecl}
use Rattle.rp_lang.specs.declared.query.QueryKind.{QueryKind}
use Rattle.rp_lang.specs.declared.query.QueryKind.TheVariants.{Contains, HasKey, GetReg, GetSum}
use Rattle.rp_lang.specs.Crdts.{Cr, SetAw, SetRw, MvReg, Counter, MapUw, MapDw, Struct, CrFields, no_field, also_field}
use Rattle.rp_lang.specs.Types as types
use Rattle.rp_lang.specs.Types.{same_ty, bool_ty, is_ordinary, are_ordinary, is_maybe_of}
use Rattle.rp_lang.specs.Paths.{is_crdt, are_crdts, field_at, field_in, held_at, reached, own_args, root_crdt, is_one_of, members_of, keys_of, value_of, amounts_of, is_maybe_in, query_fits, query_stands, is_query, is_tx, is_op}
use Rattle.rp_lang.specs.Typing.{is_get}
use Rattle.rp_lang.specs.WellFormed.{begins, is_result}
use Rattle.rp_lang.specs.Programs.{Rt, Prog, Proc}
use Rattle.rp_lang.proofs.TypeFacts.{each, is_data, ordinary-data, same-type, is-type}
use Rattle.rp_lang.proofs.ProgramFacts.{Facts, facts, procedure-of, fields-data, nothing, only, op-is, op-data}
use Rattle.rp_logic.proofs.SortLaws.{no}
use Rattle.rp_logic.specs.Truth.{Meaning}
use Rattle.crdt_defs.specs.Calls.{Call}
use Rattle.crdt_defs.specs.Parts.{Info}
use Rattle.crdt_defs.specs.Fitting.{fits, all_fit}
use Rattle.crdt_defs.specs.Truths.{Reading, asked}
use Rattle.crdt_enc.specs.Places.{At}
use Rattle.crdt_enc.specs.FitsParts.{FitsParts, FitsView, FitsValues}
use Rattle.crdt_enc.specs.Stages.{CallFits, InfoFits, Stage}

-- # Types along a path

field-fine : (types : TypeTable) (fields : CrFields) (n : ℕ) (c : Cr) → are_crdts types fields ≡ true → field_at fields n ≡ Some c → is_crdt types c ≡ true
field-fine types no_field n c h e = absurd (none-some c e)
field-fine types (also_field name crdt rest) zero c h e = ap (is_crdt types) (sym (same_Some crdt c e)) ∙ (and_parts _ _ h).0
field-fine types (also_field name crdt rest) (suc n) c h e = field-fine types rest n c (and_parts _ _ h).1 e

pub in-field : (types : TypeTable) (crdt : Cr) (n : ℕ) (c : Cr) → is_crdt types crdt ≡ true → field_in crdt n ≡ Some c → is_crdt types c ≡ true
in-field types (Struct fields) n c h e = field-fine types fields n c (and_parts _ _ h).1 e
in-field types _ n c h e = absurd (none-some c e)

held-fine : (types : TypeTable) (keys t : Ty) (held c : Cr) (b : Bool) → same_ty keys t ≡ b → is_ordinary types keys ≡ true → is_crdt types held ≡ true
    → (if b then Some held else None) ≡ Some c → (is_data t ≡ true) × (is_crdt types c ≡ true)
held-fine types keys t held c true same k h e =
    (ap is_data (sym (same-type keys t same)) ∙ ordinary-data types keys k, ap (is_crdt types) (sym (same_Some held c e)) ∙ h)
held-fine types keys t held c false same k h e = absurd (none-some c e)

at-key : (types : TypeTable) (crdt : Cr) (t : Ty) (c : Cr) → is_crdt types crdt ≡ true → held_at t crdt ≡ Some c → (is_data t ≡ true) × (is_crdt types c ≡ true)
at-key types (MapUw keys held) t c h e = let b = and_parts _ _ h in held-fine types keys t held c (same_ty keys t) refl b.0 b.1 e
at-key types (MapDw keys held) t c h e = let b = and_parts _ _ h in held-fine types keys t held c (same_ty keys t) refl b.0 b.1 e
at-key types _ t c h e = absurd (none-some c e)

-- # Queries

members-data : (types : TypeTable) (crdt : Cr) (ts : List Ty) → is_crdt types crdt ≡ true → is_one_of (members_of crdt) ts ≡ true → list_all is_data ts ≡ true
members-data types crdt ts h e = go (members_of crdt) refl e
  where
    is : (crdt : Cr) (t : Ty) → is_crdt types crdt ≡ true → members_of crdt ≡ Some t → is_data t ≡ true
    is (SetAw u) t h e = ap is_data (sym (same_Some u t e)) ∙ ordinary-data types u h
    is (SetRw u) t h e = ap is_data (sym (same_Some u t e)) ∙ ordinary-data types u h
    is (MvReg u) t h e = ap is_data (sym (same_Some u t e)) ∙ ordinary-data types u h
    is _ t h e = absurd (none-some t e)

    go : (o : Option Ty) → members_of crdt ≡ o → is_one_of o ts ≡ true → list_all is_data ts ≡ true
    go None q e = no e
    go (Some t) q e = ap (list_all is_data) (only t ts e) ∙ and_from (is_data t) true (is crdt t h q) refl

keys-data : (types : TypeTable) (crdt : Cr) (ts : List Ty) → is_crdt types crdt ≡ true → is_one_of (keys_of crdt) ts ≡ true → list_all is_data ts ≡ true
keys-data types (MapUw keys held) ts h e = ap (list_all is_data) (only keys ts e) ∙ and_from (is_data keys) true (ordinary-data types keys (and_parts _ _ h).0) refl
keys-data types (MapDw keys held) ts h e = ap (list_all is_data) (only keys ts e) ∙ and_from (is_data keys) true (ordinary-data types keys (and_parts _ _ h).0) refl
keys-data types _ ts h e = no e

maybe-data : (types : TypeTable) (cons : ConTable) (o : Option Ty) (t : Ty) → is_maybe_in types cons o t ≡ true → is_data t ≡ true
maybe-data types cons None t e = no e
maybe-data types cons (Some u) (ty.Datatype n) e = refl
maybe-data types cons (Some u) _ e = no e

amount-data : (crdt : Cr) (t : Ty) → amounts_of crdt ≡ Some t → is_data t ≡ true
amount-data Counter t e = ap is_data (sym (same_Some _ t e))
amount-data _ t e = absurd (none-some t e)

end-data : (types : TypeTable) (cons : ConTable) (kind : QueryKind) (crdt : Cr) (ts : List Ty) (result : Ty) → is_crdt types crdt ≡ true
    → query_fits types cons kind crdt ts result ≡ true → (list_all is_data ts ≡ true) × (is_data result ≡ true)
end-data types cons Contains crdt ts result h e =
    let b = and_parts _ _ e in (members-data types crdt ts h b.0, ap is_data (same-type result bool_ty b.1))
end-data types cons HasKey crdt ts result h e =
    let b = and_parts _ _ e in (keys-data types crdt ts h b.0, ap is_data (same-type result bool_ty b.1))
end-data types cons GetReg crdt ts result h e =
    let b = and_parts _ _ e in (ap (list_all is_data) (nothing ts b.0), maybe-data types cons (value_of crdt) result b.1)
end-data types cons GetSum crdt ts result h e =
    let b = and_parts _ _ e in (ap (list_all is_data) (nothing ts b.0), amount-data crdt result (is-type (amounts_of crdt) result b.1))

pub none-taken : (types : TypeTable) (cons : ConTable) (kind : QueryKind) (o : Option Cr) (result : Ty) → query_stands types cons kind o None result ≡ false
none-taken types cons kind None result = refl
none-taken types cons kind (Some crdt) result = refl

-- one step to a key: its type is data, and so is what comes behind, where that is
key-data : (types : TypeTable) (cons : ConTable) (kind : QueryKind) (crdt : Cr) (t u : Ty) (path : List PathStep) (ts : List Ty) (result : Ty) → is_crdt types crdt ≡ true
    → ((c : Cr) → is_crdt types c ≡ true → query_stands types cons kind (reached (Some c) path) (own_args path ts) result ≡ true
    → (list_all is_data ts ≡ true) × (is_data result ≡ true))
    → query_stands types cons kind (reached (held_at t crdt) path) (if same_ty u t then own_args path ts else None) result ≡ true
    → (list_all is_data (u ∷ ts) ≡ true) × (is_data result ≡ true)
key-data types cons kind crdt t u path ts result fine behind e = taken (same_ty u t) refl e
  where
    rest : (o : Option Cr) → held_at t crdt ≡ o → query_stands types cons kind (reached o path) (own_args path ts) result ≡ true
        → (is_data t ≡ true) × (list_all is_data ts ≡ true) × (is_data result ≡ true)
    rest None q e = no e
    rest (Some c) q e = let k = at-key types crdt t c fine q in let b = behind c k.1 e in (k.0, b.0, b.1)

    taken : (b : Bool) → same_ty u t ≡ b → query_stands types cons kind (reached (held_at t crdt) path) (if b then own_args path ts else None) result ≡ true
        → (list_all is_data (u ∷ ts) ≡ true) × (is_data result ≡ true)
    taken false q e = no (sym (none-taken types cons kind (reached (held_at t crdt) path) result) ∙ e)
    taken true q e =
        let k = rest (held_at t crdt) refl e in
        (and_from (is_data u) (list_all is_data ts) (ap is_data (same-type u t q) ∙ k.0) k.1, k.2)

asked-data : (types : TypeTable) (cons : ConTable) (kind : QueryKind) (o : Option Cr) → ((c : Cr) → o ≡ Some c → is_crdt types c ≡ true)
    → (path : List PathStep) (ts : List Ty) (result : Ty) → query_stands types cons kind (reached o path) (own_args path ts) result ≡ true
    → (list_all is_data ts ≡ true) × (is_data result ≡ true)
asked-data types cons kind None fine path ts result e = no e
asked-data types cons kind (Some crdt) fine [] ts result e = end-data types cons kind crdt ts result (fine crdt refl) e
asked-data types cons kind (Some crdt) fine (Field n ∷ path) ts result e =
    asked-data types cons kind (field_in crdt n) (λ c q. in-field types crdt n c (fine crdt refl) q) path ts result e
asked-data types cons kind (Some crdt) fine (Key t ∷ path) [] result e =
    no (sym (none-taken types cons kind (reached (held_at t crdt) path) result) ∙ e)
asked-data types cons kind (Some crdt) fine (Key t ∷ path) (u ∷ ts) result e =
    key-data types cons kind crdt t u path ts result (fine crdt refl)
    (λ c k e. asked-data types cons kind (Some c) (λ d x. ap (is_crdt types) (sym (same_Some c d x)) ∙ k) path ts result e) e

pub root-fine : (p : Prog) → Facts p → (o : Option Rt) → ((root : Rt) → o ≡ Some root → is_crdt p.types root.crdt ≡ true) → (c : Cr) → root_crdt o ≡ Some c → is_crdt p.types c ≡ true
root-fine p f None each-root c e = absurd (none-some c e)
root-fine p f (Some root) each-root c e = ap (is_crdt p.types) (sym (same_Some root.crdt c e)) ∙ each-root root refl

pub query-is : (p : Prog) → Facts p → (n : ℕ) (query : QueryDecl) → slice_get p.queries n ≡ Some query → is_query p.types p.cons p.roots query ≡ true
query-is p f n query e = each (is_query p.types p.cons p.roots) p.queries n query f.queries e

pub query-data : (p : Prog) → Facts p → (n : ℕ) (query : QueryDecl) → slice_get p.queries n ≡ Some query → (list_all is_data query.args ≡ true) × (is_data query.result ≡ true)
query-data p f n query e =
    asked-data p.types p.cons query.kind (root_crdt (slice_get p.roots query.root))
    (root-fine p f (slice_get p.roots query.root) (λ root q. each (λ (root : Rt). is_crdt p.types root.crdt) p.roots query.root root (and_parts _ _ f.roots).1 q))
    query.path query.args query.result (and_parts _ _ (query-is p f n query e)).1

-- # Procedures

begun : (types : TypeTable) (ts us : List Ty) → begins ts us ≡ true → are_ordinary types us ≡ true → list_all is_data ts ≡ true
begun types [] us h o = refl
begun types (t ∷ ts) [] h o = no h
begun types (t ∷ ts) (u ∷ us) h o =
    let b = and_parts _ _ h in
    let d = and_parts _ _ o in
    and_from (is_data t) (list_all is_data ts) (ap is_data (sym (same-type u t b.0)) ∙ ordinary-data types u d.0) (begun types ts us b.1 d.1)

-- the parts of the test, the last one outermost
pub params-data : (p : Prog) → Facts p → (n : ℕ) (q : Proc) → slice_get p.procs n ≡ Some q → list_all is_data q.params ≡ true
params-data p f n q e =
    let all = procedure-of p f n q e in
    let four = and_parts _ _ (and_parts _ _ (and_parts _ _ (and_parts _ _ all).0).0).0 in
    let two = and_parts _ _ four.0 in
    begun p.types q.params q.slots two.0 two.1

pub result-data : (p : Prog) → Facts p → (n : ℕ) (q : Proc) (t : Ty) → slice_get p.procs n ≡ Some q → q.result ≡ Some t → is_data t ≡ true
result-data p f n q t e is =
    let all = procedure-of p f n q e in
    let four = and_parts _ _ (and_parts _ _ (and_parts _ _ (and_parts _ _ all).0).0).0 in
    ordinary-data p.types t (subst (λ o. is_result p.types o ≡ true) is four.1)

-- # Together

-- a stage, with what its program says
pub record Staged (r : Reading) (M : Meaning) (at : At) : Type 0 where
  pub parts : FitsParts r.program M at r.parts
  pub view : FitsView M r.parts.calls at.view r.visible
  pub vals : FitsValues r.program M at r
  pub fields : (con : ℕ) → list_all is_data (types.fields_of r.program.cons con) ≡ true
  pub origins : (c : ℕ) (call : Call) → slice_get r.parts.calls c ≡ Some call → call.inv < length r.parts.infos
  pub calls_fit : (c : ℕ) (call : Call) → slice_get r.parts.calls c ≡ Some call → CallFits r.program call
  pub infos_fit : (i : ℕ) (info : Info) → slice_get r.parts.infos i ≡ Some info → InfoFits r.program info
  pub params_data : (n : ℕ) (q : Proc) → slice_get r.program.procs n ≡ Some q → list_all is_data q.params ≡ true
  pub results_data : (n : ℕ) (q : Proc) (t : Ty) → slice_get r.program.procs n ≡ Some q → q.result ≡ Some t → is_data t ≡ true
  pub ops_stand : (n : ℕ) (decl : OpDecl) → slice_get r.program.ops n ≡ Some decl → (is_tx decl ≡ true) ⊎ (is_op r.program.roots decl ≡ true)
  pub queries_stand : (n : ℕ) (query : QueryDecl) → slice_get r.program.queries n ≡ Some query → is_query r.program.types r.program.cons r.program.roots query ≡ true
  pub ops_data : (n : ℕ) (decl : OpDecl) → slice_get r.program.ops n ≡ Some decl → list_all is_data decl.args ≡ true
  pub answers : (n : ℕ) (query : QueryDecl) (args : List Val) → slice_get r.program.queries n ≡ Some query → is_get query.kind ≡ true → all_fit r.program query.args args ≡ true
      → fits r.program query.result (asked r n args) ≡ true
  pub asks_data : (n : ℕ) (query : QueryDecl) → slice_get r.program.queries n ≡ Some query → (list_all is_data query.args ≡ true) × (is_data query.result ≡ true)

pub staged : (r : Reading) (M : Meaning) (at : At) → Stage r M at → Staged r M at
staged r M at stage =
    let f = facts r.program stage.program in
    record {
      parts = stage.parts;
      view = stage.view;
      vals = stage.vals;
      fields = fields-data r.program f;
      origins = stage.origins;
      calls_fit = stage.calls_fit;
      infos_fit = stage.infos_fit;
      params_data = params-data r.program f;
      results_data = result-data r.program f;
      ops_stand = λ n decl e. op-is r.program.roots r.program.ops n decl f.ops e;
      queries_stand = query-is r.program f;
      ops_data = op-data r.program f;
      answers = stage.answers;
      asks_data = query-data r.program f;
    }
