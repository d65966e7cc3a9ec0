-- The operations of a lawful text's roots are well formed.
use Rattle.std.proofs.Common.{◌≡◌, ◌+◌, ◌-◌, ℕ, zero, suc, Bool, true, false, cond, List, [], ◌∷◌, ◌++◌, length, Some, None, refl, ap, subst, sym, ◌∙◌, arith, inl, inr}
use Rattle.std.specs.Prelude.{nat_le, option_map, slice_get}
use Rattle.std.specs.List.{list_all, list_any}
use Rattle.std.proofs.lemmas.Bool.{and_from, and_parts, not-false, or_parts}
use Rattle.rp_value.specs.declared.tables.Ty.{Ty}
use Rattle.rp_value.specs.declared.tables.Ty.TheVariants as ty
use Rattle.rp_grammar.specs.Trees.{CrdtTree, CrdtForm, FieldTree, FieldTrees, DeclTree}
use Rattle.rp_lang.specs.declared.limit.LimitName.TheVariants.{PathDepth}
use Rattle.rp_lang.specs.declared.op.OpDecl.{OpDecl}
use Rattle.rp_lang.specs.declared.op.PathStep.{PathStep}
use Rattle.rp_lang.specs.declared.op.PathStep.TheVariants.{Field, Key}
use Rattle.rp_lang.specs.Crdts.{Cr, SetAw, SetRw, Reg, MvReg, MapUw, MapDw, Struct, CrFields, also_field}
use Rattle.rp_lang.specs.FirstForm.{tx}
use Rattle.rp_lang.specs.Paths.{is_op, op_fits, op_stands, own_args, root_crdt, is_one_of}
use Rattle.rp_lang.specs.Paths as paths
use Rattle.rp_lang.specs.Programs.{Prog, Rt}
use Rattle.rp_lang.specs.Types.{is_one, same_ty}
use Rattle.rp_lang.specs.WellFormed.{are_ops}
use Rattle.type_rules.specs.declared.kind.Kind.{Kind}
use Rattle.type_rules.specs.Names.{text_of}
use Rattle.type_rules.specs.Kinds.{int_kind, kind_of}
use Rattle.type_rules.specs.Queries.{names_of}
use Rattle.type_rules.specs.Paths.{form_of}
use Rattle.type_rules.specs.Faults.{IsOneOf}
use Rattle.desugaring.specs.Parts.{each}
use Rattle.desugaring.specs.Objects.{KindStep, field, key, keys_on, op_kinds, ops_at, OwnOp, own_ops, PathOp}
use Rattle.desugaring.specs.Tables.{Tables, cr_of, fields_cr, form_cr, op_decl, op_with, root_of, root_with, step_of, tables_of, ty_of}
use Rattle.desugaring.specs.Limits.{HasProgram, is_past}
use Rattle.desugaring.proofs.Fields.{each_at}
use Rattle.desugaring.proofs.Options.{both_there, each_there, map_there}
use Rattle.lawful.proofs.Calls.{last_types}
use Rattle.lawful.proofs.Forms.{one, same_self}
use Rattle.lawful.proofs.Results.{pointwise_all}
use Rattle.lawful.proofs.RootCalls.{IsOpOf, OnRoot, on_roots, ops_made}
use Rattle.lawful.proofs.Roots.{Reaches, field_at}
use Rattle.lawful.proofs.Within.{within}

-- # Where a path leads

-- what a tree became, and what is reached from it along the program's path
pub record Ends (t : Tables) (cr : Cr) (steps : List PathStep) (d : CrdtTree) : Type 0 where
  pub at : Cr
  pub is : cr_of t d ≡ Some at
  pub reached : paths.reached (Some cr) steps ≡ Some at

field_cr : (t : Tables) (k : ℕ) (parts : FieldTrees) (made : CrFields) (c : CrdtTree) → fields_cr t parts ≡ Some made → field_at k parts ≡ Some c
    → (cr : Cr) × (cr_of t c ≡ Some cr) × (paths.field_at made k ≡ Some cr)
field_cr t k FieldTrees.no_fields made c e is = absurd cc
field_cr t zero (FieldTrees.more_fields (FieldTree.field x first) parts) made c e is =
    both_there (λ z. (cr : Cr) × (cr_of t c ≡ Some cr) × (paths.field_at z zero ≡ Some cr)) (also_field (text_of x)) (cr_of t first) (fields_cr t parts) made e
    (λ cr rest a b. (cr, subst (λ z. cr_of t z ≡ Some cr) (one is) a, refl))
field_cr t (suc k) (FieldTrees.more_fields (FieldTree.field x first) parts) made c e is =
    both_there (λ z. (cr : Cr) × (cr_of t c ≡ Some cr) × (paths.field_at z (suc k) ≡ Some cr)) (also_field (text_of x)) (cr_of t first) (fields_cr t parts) made e
    (λ cr rest a b. field_cr t k parts rest c b is)

same_there : (a b : Ty) (cr : Cr) → a ≡ b → cond (same_ty a b) (Some cr) None ≡ Some cr
same_there a b cr same = ap (λ z. cond z (Some cr) None) (subst (λ z. same_ty a z ≡ true) same (same_self a))

pub ends_at : (t : Tables) (c d : CrdtTree) (path : List KindStep) → Reaches t.names c path d → (cr : Cr) → cr_of t c ≡ Some cr
    → (steps : List PathStep) → each (step_of t) path ≡ Some steps → Ends t cr steps d
ends_at t c d path Reaches.here cr is steps e =
    record { at = cr; is = is; reached = subst (λ z. paths.reached (Some cr) z ≡ Some cr) (one e) refl }
ends_at t c d path (Reaches.at_field {parts = parts} {k = k} {c = inner} {path = rest} found r) cr is steps e =
    both_there (λ z. Ends t cr z d) ◌∷◌ (Some (Field k)) (each (step_of t) rest) steps e
    (λ step others a b.
    map_there (λ z. Ends t z (step ∷ others) d) Struct (fields_cr t parts) cr is
    (λ made m.
    let at = field_cr t k parts made inner m found in
    let whole = ends_at t inner d rest r at.0 at.1 others b in
    record {
      at = whole.at;
      is = whole.is;
      reached = subst (λ z. paths.reached (Some (Struct made)) (z ∷ others) ≡ Some whole.at) (one a)
          (ap (λ o. paths.reached o others) at.2 ∙ whole.reached);
    }))
ends_at t c d path (Reaches.at_key_uw {t = written} {c = inner} {path = rest} r) cr is steps e =
    both_there (λ z. Ends t cr z d) ◌∷◌ (step_of t (key (kind_of t.names written))) (each (step_of t) rest) steps e
    (λ step others a b.
    both_there (λ z. Ends t z (step ∷ others) d) MapUw (ty_of t (kind_of t.names written)) (cr_of t inner) cr is
    (λ of held i m.
    map_there (λ z. Ends t (MapUw of held) (z ∷ others) d) Key (ty_of t (kind_of t.names written)) step a
    (λ other j.
    let whole = ends_at t inner d rest r held m others b in
    record {
      at = whole.at;
      is = whole.is;
      reached = ap (λ o. paths.reached o others) (same_there of other held (one (sym i ∙ j))) ∙ whole.reached;
    })))
ends_at t c d path (Reaches.at_key_dw {t = written} {c = inner} {path = rest} r) cr is steps e =
    both_there (λ z. Ends t cr z d) ◌∷◌ (step_of t (key (kind_of t.names written))) (each (step_of t) rest) steps e
    (λ step others a b.
    both_there (λ z. Ends t z (step ∷ others) d) MapDw (ty_of t (kind_of t.names written)) (cr_of t inner) cr is
    (λ of held i m.
    map_there (λ z. Ends t (MapDw of held) (z ∷ others) d) Key (ty_of t (kind_of t.names written)) step a
    (λ other j.
    let whole = ends_at t inner d rest r held m others b in
    record {
      at = whole.at;
      is = whole.is;
      reached = ap (λ o. paths.reached o others) (same_there of other held (one (sym i ∙ j))) ∙ whole.reached;
    })))

-- # Arguments

-- behind the keys of the path
pub own_are : (t : Tables) (path : List KindStep) (steps : List PathStep) (ks : List Kind) (args tys : List Ty) → each (step_of t) path ≡ Some steps
    → each (ty_of t) (keys_on path ++ ks) ≡ Some args → each (ty_of t) ks ≡ Some tys → own_args steps args ≡ Some tys
own_are t [] steps ks args tys a b c = subst (λ z. own_args z args ≡ Some tys) (one a) (sym b ∙ c)
own_are t (field k ∷ path) steps ks args tys a b c =
    both_there (λ z. own_args z args ≡ Some tys) ◌∷◌ (Some (Field k)) (each (step_of t) path) steps a
    (λ step others i j. subst (λ z. own_args (z ∷ others) args ≡ Some tys) (one i) (own_are t path others ks args tys j b c))
own_are t (key k ∷ path) steps ks args tys a b c =
    both_there (λ z. own_args z args ≡ Some tys) ◌∷◌ (option_map Key (ty_of t k)) (each (step_of t) path) steps a
    (λ step others i j.
    map_there (λ z. own_args (z ∷ others) args ≡ Some tys) Key (ty_of t k) step i
    (λ of m.
    both_there (λ z. own_args (Key of ∷ others) z ≡ Some tys) ◌∷◌ (ty_of t k) (each (ty_of t) (keys_on path ++ ks)) args b
    (λ arg rest u v.
    let first : arg ≡ of = one (sym u ∙ m) in
    let whole = own_are t path others ks rest tys j v c in
    ap (λ z. cond z (own_args others rest) None) (subst (λ z. same_ty arg z ≡ true) first (same_self arg)) ∙ whole)))

pub one_arg : (t : Tables) (k : Kind) (of : Ty) (tys : List Ty) → ty_of t k ≡ Some of → each (ty_of t) (k ∷ []) ≡ Some tys → is_one of tys ≡ true
one_arg t k of tys is e =
    both_there (λ z. is_one of z ≡ true) ◌∷◌ (ty_of t k) (Some []) tys e
    (λ arg rest a b. subst (λ z. is_one of (arg ∷ z) ≡ true) (one b) (subst (λ z. same_ty z of ≡ true) (one (sym is ∙ a)) (same_self of)))

-- # What a type has

abbrev Fits : Tables → Cr → List Ty → OwnOp → Type 0
Fits t cr tys own = op_fits own.kind cr tys ≡ true

takes_one : (t : Tables) (cr : Cr) (first own : OwnOp) (tys : List Ty) → first ≡ own → each (ty_of t) own.args ≡ Some tys
    → (each (ty_of t) first.args ≡ Some tys → Fits t cr tys first) → Fits t cr tys own
takes_one t cr first own tys is args fits_ =
    subst (Fits t cr tys) is (fits_ (subst (λ (z : OwnOp). each (ty_of t) z.args ≡ Some tys) (sym is) args))

op_own : (t : Tables) (form : CrdtForm) (cr : Cr) → form_cr t form ≡ Some cr → (own : OwnOp) → IsOneOf own (own_ops t.names form) → (tys : List Ty)
    → each (ty_of t) own.args ≡ Some tys → op_fits own.kind cr tys ≡ true
op_own t (CrdtForm.set_aw e) cr m own at tys args =
    map_there (λ z. Fits t z tys own) SetAw (ty_of t (kind_of t.names e)) cr m
    (λ of i. elim at [
      | inl is ↦ takes_one t (SetAw of) _ own tys is args (λ h. one_arg t (kind_of t.names e) of tys i h)
      | inr (inl is) ↦ takes_one t (SetAw of) _ own tys is args (λ h. one_arg t (kind_of t.names e) of tys i h)
      | inr (inr is) ↦ absurd is
    ])
op_own t (CrdtForm.set_rw e) cr m own at tys args =
    map_there (λ z. Fits t z tys own) SetRw (ty_of t (kind_of t.names e)) cr m
    (λ of i. elim at [
      | inl is ↦ takes_one t (SetRw of) _ own tys is args (λ h. one_arg t (kind_of t.names e) of tys i h)
      | inr (inl is) ↦ takes_one t (SetRw of) _ own tys is args (λ h. one_arg t (kind_of t.names e) of tys i h)
      | inr (inr is) ↦ absurd is
    ])
op_own t (CrdtForm.reg e) cr m own at tys args =
    map_there (λ z. Fits t z tys own) Reg (ty_of t (kind_of t.names e)) cr m
    (λ of i. elim at [
      | inl is ↦ takes_one t (Reg of) _ own tys is args (λ h. one_arg t (kind_of t.names e) of tys i h)
      | inr is ↦ absurd is
    ])
op_own t (CrdtForm.mv_reg e) cr m own at tys args =
    map_there (λ z. Fits t z tys own) MvReg (ty_of t (kind_of t.names e)) cr m
    (λ of i. elim at [
      | inl is ↦ takes_one t (MvReg of) _ own tys is args (λ h. one_arg t (kind_of t.names e) of tys i h)
      | inr is ↦ absurd is
    ])
op_own t CrdtForm.counter cr m own at tys args =
    subst (λ z. Fits t z tys own) (one m)
    (elim at [
      | inl is ↦ takes_one t _ _ own tys is args (λ h. one_arg t int_kind ty.Int tys refl h)
      | inr is ↦ absurd is
    ])
op_own t (CrdtForm.map_uw e c) cr m own at tys args =
    both_there (λ z. Fits t z tys own) MapUw (ty_of t (kind_of t.names e)) (cr_of t c) cr m
    (λ of held i j. elim at [
      | inl is ↦ takes_one t (MapUw of held) _ own tys is args (λ h. one_arg t (kind_of t.names e) of tys i h)
      | inr is ↦ absurd is
    ])
op_own t (CrdtForm.map_dw e c) cr m own at tys args =
    both_there (λ z. Fits t z tys own) MapDw (ty_of t (kind_of t.names e)) (cr_of t c) cr m
    (λ of held i j. elim at [
      | inl is ↦ takes_one t (MapDw of held) _ own tys is args (λ h. one_arg t (kind_of t.names e) of tys i h)
      | inr is ↦ absurd is
    ])
op_own t (CrdtForm.struct parts) cr m own at tys args = absurd at

tree_own : (t : Tables) (d : CrdtTree) (cr : Cr) → cr_of t d ≡ Some cr → (own : OwnOp) → IsOneOf own (own_ops t.names (form_of d)) → (tys : List Ty)
    → each (ty_of t) own.args ≡ Some tys → op_fits own.kind cr tys ≡ true
tree_own t (CrdtTree.node at form) cr m own there tys args = op_own t form cr m own there tys args

-- # Operations

op_there : (t : Tables) (roots : List Rt) → each (root_of t) t.roots ≡ Some roots → (o : PathOp) (d : OpDecl)
    → OnRoot t.names (λ root. IsOpOf t.names root) 0 t.roots o → op_decl t o ≡ Some d
    → op_stands d.kind (paths.reached (root_crdt (slice_get roots d.root)) d.path) (own_args d.path d.args) ≡ true
op_there t roots made o d on e =
    let root = each_at (root_of t) t.roots roots on.0 on.1 made on.2 in
    let place = on.3 in
    let is = place.3 in
    let standing : o.root ≡ 0 + on.0 = is.root_is in
    let number : o.root ≡ on.0 = omega (arith, standing) in
    both_there (λ z. op_stands z.kind (paths.reached (root_crdt (slice_get roots z.root)) z.path) (own_args z.path z.args) ≡ true) (op_with o)
    (each (step_of t) o.path) (each (ty_of t) (op_kinds o)) d e
    (λ steps args a b.
    map_there (λ (z : Rt). slice_get roots on.0 ≡ Some z
    → op_stands o.own.kind (paths.reached (root_crdt (slice_get roots o.root)) steps) (own_args steps args) ≡ true) (root_with on.1.name) (cr_of t on.1.crdt) root.0 root.2
    (λ cr m at.
    let last = last_types t (keys_on o.path) o.own.args args b in
    let end = ends_at t on.1.crdt place.1 place.0 place.2 cr m steps (subst (λ p. each (step_of t) p ≡ Some steps) is.path_is a) in
    let own = own_are t o.path steps o.own.args args last.0 a b last.1 in
    let there : root_crdt (slice_get roots o.root) ≡ Some cr = ap (λ i. root_crdt (slice_get roots i)) number ∙ ap root_crdt at in
    subst (λ z. op_stands o.own.kind (paths.reached z steps) (own_args steps args) ≡ true) (sym there)
    (subst (λ z. op_stands o.own.kind z (own_args steps args) ≡ true) (sym end.reached)
    (subst (λ z. op_stands o.own.kind (Some end.at) z ≡ true) (sym own) (tree_own t place.1 end.at end.is o.own is.own_is last.0 last.1))))
    root.1)

abbrev stands_in : List Rt → OpDecl → Bool
stands_in roots d = op_stands d.kind (paths.reached (root_crdt (slice_get roots d.root)) d.path) (own_args d.path d.args)

short_enough : (roots : List Rt) (ops : List OpDecl) → list_any (λ (d : OpDecl). is_past PathDepth (length d.path)) ops ≡ false
    → list_all (stands_in roots) ops ≡ true → list_all (is_op roots) ops ≡ true
short_enough roots [] short all = refl
short_enough roots (d ∷ ops) short all =
    let s = or_parts (is_past PathDepth (length d.path)) _ short in
    let a = and_parts (stands_in roots d) _ all in
    and_from (is_op roots d) _ (and_from _ _ (not-false _ s.0) a.0) (short_enough roots ops s.1 a.1)

pub ops_well_formed : (tree : List DeclTree) (p : Prog) → HasProgram tree p → are_ops p.roots p.ops ≡ true
ops_well_formed tree p has =
    let t = tables_of tree in
    let n = names_of tree in
    let is = has.0.1 in
    let w = within p has.1 in
    map_there (λ z. nat_le (length z - 1) 256 ≡ true → list_any (λ (d : OpDecl). is_past PathDepth (length d.path)) z ≡ false → are_ops p.roots z ≡ true)
    (λ ops. tx ∷ ops) (each (op_decl t) t.ops) p.ops is.ops
    (λ ops made few short.
    let on = on_roots n (ops_at n) (λ root. IsOpOf n root) (ops_made n) 0 t.roots in
    let all = pointwise_all (λ (o : PathOp) (d : OpDecl). op_decl t o ≡ Some d) (OnRoot n (λ root. IsOpOf n root) 0 t.roots) (stands_in p.roots) t.ops ops
    (each_there (λ (o : PathOp) (d : OpDecl). op_decl t o ≡ Some d) (op_decl t) (λ o d e. e) t.ops ops made) on
    (λ o d known e. op_there t p.roots is.roots o d known e) in
    let long : length (tx ∷ ops) - 1 ≡ length ops = omega arith in
    and_from _ _ (subst (λ m. nat_le m 256 ≡ true) long few) (short_enough p.roots ops short all))
    w.operations (or_parts _ _ w.paths).0
