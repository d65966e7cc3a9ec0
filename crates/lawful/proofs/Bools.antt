-- The first entries of the program's tables: `Bool`, its constructors and `tx`.
use Rattle.std.proofs.Common.{◌≡◌, ℕ, true, cond, List, [], ◌∷◌, length, codes, Some, None, refl, ap, subst, sym, ◌∙◌, arith}
use Rattle.std.specs.Prelude.{nat_eq, slice_get, position, flat_map, nat_lt, option_map}
use Rattle.std.specs.Cmp.Lexicographic.{pointwise}
use Rattle.std.proofs.lemmas.Cmp.{nat_list_eq_equiv}
use Rattle.std.proofs.lemmas.Bool.{and_from, lt-ltb}
use Rattle.rp_value.specs.declared.tables.Ty.TheVariants as ty
use Rattle.rp_lang.specs.declared.op.OpDecl.{OpDecl}
use Rattle.rp_lang.specs.Programs.{Prog}
use Rattle.rp_lang.specs.Types.{has_bool, is_bare_con, is_bool_decl, bool_ty, datatype_of, datatype_in, fields_of, fields_in}
use Rattle.rp_lang.specs.Typing.{op_args}
use Rattle.rp_lang.specs.FirstForm.{tx}
use Rattle.type_rules.specs.declared.kind.Kind.{Kind}
use Rattle.type_rules.specs.Kinds.{bool_kind}
use Rattle.desugaring.specs.Parts.{each}
use Rattle.desugaring.specs.Appearances.{same_kind, each_once}
use Rattle.desugaring.specs.Tables.{Tables, Con, cons, cons_of, con_of, con_decl, con_table, type_table, data_decls, datatype_number, ty_of, op_decl, op_table}
use Rattle.desugaring.proofs.Options.{both_there, map_there}
use Rattle.desugaring.proofs.Fields.{each_at, table_there}
use Rattle.lawful.proofs.Forms.{one}
use Rattle.lawful.proofs.Cons.{decl_parts}

-- datatype 0 is `Bool`
abbrev pub BoolFirst : Tables → Type 0
BoolFirst t = (ks : List Kind) × (t.datatypes ≡ each_once (bool_kind ∷ ks))

first_place : (ks : List Kind) → position (same_kind bool_kind) (each_once (bool_kind ∷ ks)) ≡ Some 0
first_place ks =
    ap (λ b. cond b (Some 0) None) (lt-ltb 0 (length (each_once (bool_kind ∷ ks))) (omega arith))

pub bool_number : (t : Tables) → BoolFirst t → datatype_number t bool_kind ≡ Some 0
bool_number t is = ap (position (same_kind bool_kind)) is.1 ∙ first_place is.0

pub bool_is : (t : Tables) → BoolFirst t → ty_of t bool_kind ≡ Some bool_ty
bool_is t is = ap (option_map ty.Datatype) (bool_number t is)

abbrev pub bool_con : List ℕ → Con
bool_con name = record { name = name; of = bool_kind; fields = [] }

first_cons : (t : Tables) → BoolFirst t → (slice_get (cons t) 0 ≡ Some (bool_con (codes "false"))) × (slice_get (cons t) 1 ≡ Some (bool_con (codes "true")))
first_cons t is =
    (ap (λ ds. slice_get (flat_map (cons_of t.names) ds) 0) is.1, ap (λ ds. slice_get (flat_map (cons_of t.names) ds) 1) is.1)

-- a constructor of `Bool`, by its number
abbrev IsBoolCon : Prog → ℕ → Type 0
IsBoolCon p con = (datatype_of p.cons con ≡ Some bool_ty) × (fields_of p.cons con ≡ [])

bool_con_is : (t : Tables) (p : Prog) → con_table t ≡ Some p.cons → BoolFirst t → (con : ℕ) (name : List ℕ) → slice_get (cons t) con ≡ Some (bool_con name)
    → IsBoolCon p con
bool_con_is t p table is con name at =
    let d = each_at (con_decl t) (cons t) p.cons.cons con (bool_con name) (table_there t p.cons table) at in
    let parts = decl_parts t (bool_con name) d.0 d.2 in
    let of : ty.Datatype 0 ≡ ty.Datatype d.0.of = one (sym (bool_is t is) ∙ parts.0) in
    (ap datatype_in d.1 ∙ ap Some (sym of), ap fields_in d.1 ∙ sym (one parts.1))

pub bools_are : (t : Tables) (p : Prog) → con_table t ≡ Some p.cons → BoolFirst t → IsBoolCon p 0 × IsBoolCon p 1
bools_are t p table is =
    let at = first_cons t is in (bool_con_is t p table is 0 _ at.0, bool_con_is t p table is 1 _ at.1)

pub tx_is : (t : Tables) (ops : List OpDecl) → op_table t ≡ Some ops → (nat_lt 0 (length ops) ≡ true) × (op_args (slice_get ops 0) ≡ [])
tx_is t ops e =
    map_there (λ z. (nat_lt 0 (length z) ≡ true) × (op_args (slice_get z 0) ≡ [])) (λ others. tx ∷ others) (each (op_decl t) t.ops) ops e
    (λ others h. (lt-ltb 0 (length (tx ∷ others)) (omega arith), refl))

-- `Bool` stands first, with its constructors
bare_there : (t : Tables) (p : Prog) → con_table t ≡ Some p.cons → (con : ℕ) (name : List ℕ) → slice_get (cons t) con ≡ Some (bool_con name)
    → is_bare_con name (slice_get p.cons.cons con) ≡ true
bare_there t p table con name at =
    let d = each_at (con_decl t) (cons t) p.cons.cons con (bool_con name) (table_there t p.cons table) at in
    let same : is_bare_con name (Some (con_of name 0 [])) ≡ true = and_from (pointwise nat_eq name name) true (nat_list_eq_equiv.refl name) refl in
    subst (λ o. is_bare_con name o ≡ true) (sym d.1)
    (both_there (λ z. is_bare_con name (Some z) ≡ true) (con_of name) (datatype_number t bool_kind) (each (ty_of t) []) d.0 d.2
    (λ of fields a b. subst (λ fs. is_bare_con name (Some (con_of name of fs)) ≡ true) (one b) same))

pub bool_stands : (t : Tables) (p : Prog) → p.types ≡ type_table t → con_table t ≡ Some p.cons → BoolFirst t → has_bool p.types p.cons ≡ true
bool_stands t p types table is =
    let at = first_cons t is in
    let decl : is_bool_decl (slice_get p.types.datatypes 0) ≡ true =
    subst (λ z. is_bool_decl (slice_get z.datatypes 0) ≡ true) (sym types)
    (subst (λ ds. is_bool_decl (slice_get (data_decls t.names 0 ds) 0) ≡ true) (sym is.1) refl) in
    and_from _ _ (and_from _ _ decl (bare_there t p table 0 (codes "false") at.0)) (bare_there t p table 1 (codes "true") at.1)
