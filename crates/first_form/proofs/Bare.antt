-- A program that keeps `Bool` and `tx`, with one datatype, one operation, and no id types, roots, queries and invariants, has
-- procedures alone.
use Rattle.std.proofs.Common.{◌≡◌, ◌↔◌, ◌⊎◌, inl, inr, ℕ, Bool, true, false, true≢false, ◌∙◌, ◌&&◌, ◌==◌, IsTrue, List, [], ◌∷◌, length, codes, Some, slice_get, refl, sym, ap, subst, eqb-true, ◌+◌, arith}
use Rattle.std.proofs.lemmas.Bool.{and_parts, and_from, eq-eqb}
use Rattle.std.proofs.lemmas.Slice.Eq.{bytes_eq-Decides}
use Rattle.std.specs.List.{list_all}
use Rattle.rp_value.specs.declared.tables.DataDecl.{DataDecl}
use Rattle.rp_value.specs.declared.tables.ConDecl.{ConDecl}
use Rattle.rp_value.specs.declared.tables.ConTable.{ConTable}
use Rattle.rp_value.specs.declared.tables.Ty.{Ty}
use Rattle.rp_value.specs.declared.tables.Ty.TheVariants.{Datatype}
use Rattle.rp_lang.specs.declared.op.OpDecl.{OpDecl}
use Rattle.rp_lang.specs.declared.op.OpKind.{OpKind}
use Rattle.rp_lang.specs.declared.op.OpKind.TheVariants.{Tx, Add, Remove, Assign, Increment, Delete}
use Rattle.rp_lang.specs.FirstForm as form
use Rattle.rp_lang.specs.FirstForm.{IsFirstForm, over_truth_values, is_over_truth_values}
use Rattle.rp_lang.specs.declared.op.PathStep.{PathStep}
use Rattle.rp_lang.specs.Paths.{is_tx, is_tx_kind, is_no_path}
use Rattle.rp_lang.specs.Programs.{Prog}
use Rattle.rp_lang.specs.Types.{is_bare_con, is_nothing, is_ty, datatype_in, datatype_of, has_next, is_run, are_numbered, has_bool, is_bool_decl}
use Rattle.rp_lang.specs.Names.{are_value_names, have_names}
use Rattle.rp_lang.specs.WellFormed.{is_well_formed, are_ops}
use Rattle.rp_lang.proofs.ProgramFacts.{facts}
use Rattle.first_form.specs.means.Tests.{has_procs_alone}

none_of : {X : Type 0} (xs : List X) → length xs ≡ 0 → xs ≡ []
none_of [] e = refl
none_of (x ∷ xs) e = grind (arith, e)

one_of : {X : Type 0} (xs : List X) → length xs ≡ 1 → (x : X) × (xs ≡ x ∷ [])
one_of [] e = grind (arith, e)
one_of (x ∷ []) e = (x, refl)
one_of (x ∷ (y ∷ xs)) e = grind (arith, e)

two_of : {X : Type 0} (xs : List X) → length xs ≡ 2 → (x : X) × (y : X) × (xs ≡ x ∷ (y ∷ []))
two_of [] e = grind (arith, e)
two_of (x ∷ []) e = grind (arith, e)
two_of (x ∷ (y ∷ [])) e = (x, y, refl)
two_of (x ∷ (y ∷ (z ∷ xs))) e = grind (arith, e)

-- # Types and constructors

bool_decl : (decl : DataDecl) → is_bool_decl (Some decl) ≡ true → decl ≡ record { name = codes "Bool"; cons = 0 ∷ (1 ∷ []) }
bool_decl decl h =
    let parts = and_parts _ _ h in
    λ i. record {
      name = (bytes_eq-Decides decl.name (codes "Bool")).0 parts.0 i;
      cons = (bytes_eq-Decides decl.cons (0 ∷ (1 ∷ []))).0 parts.1 i;
    }

nothing : (tys : List Ty) → is_nothing tys ≡ true → tys ≡ []
nothing [] h = refl
nothing (t ∷ ts) h = grind (arith, h)

bare_con : (name : List ℕ) (con : ConDecl) → is_bare_con name (Some con) ≡ true → con.of ≡ 0
    → con ≡ record { name = name; of = 0; fields = [] }
bare_con name con h of =
    let parts = and_parts _ _ h in
    λ i. record {
      name = (bytes_eq-Decides con.name name).0 parts.0 i;
      of = of i;
      fields = nothing con.fields parts.1 i;
    }

-- the only datatype has the constructors 0 and 1, and there are no others
pub record IsNumbered (cons : ConTable) : Type 0 where
  pub count : length cons.cons ≡ 2
  pub first : is_ty (datatype_of cons 0) (Datatype 0) ≡ true
  pub second : is_ty (datatype_of cons 1) (Datatype 0) ≡ true

numbered : (cons : ConTable) (list : List ℕ) → list ≡ 0 ∷ (1 ∷ [])
    → (has_next cons 0 0 list && (0 + length list == length cons.cons)) ≡ true
    → IsNumbered cons
numbered cons list e h =
    let two = 0 ∷ (1 ∷ []) in
    let whole : (has_next cons 0 0 two && (2 == length cons.cons)) ≡ true
    = subst (λ list. (has_next cons 0 0 list && (0 + length list == length cons.cons)) ≡ true) e h in
    let parts = and_parts (has_next cons 0 0 two) (2 == length cons.cons) whole in
    let run : is_run cons 0 0 two ≡ true = (and_parts true (is_run cons 0 0 two) parts.0).1 in
    let first = and_parts (is_ty (datatype_of cons 0) (Datatype 0)) (is_run cons 0 1 (1 ∷ [])) run in
    let second = and_parts (is_ty (datatype_of cons 1) (Datatype 0)) true first.1 in
    record {
      count = sym (eqb-true 2 (length cons.cons) parts.1);
      first = first.0;
      second = second.0;
    }

cons_are : (cons : ConTable) → IsNumbered cons → is_bare_con (codes "false") (slice_get cons.cons 0) ≡ true
    → is_bare_con (codes "true") (slice_get cons.cons 1) ≡ true → cons ≡ form.bool_cons
cons_are cons is falses truths =
    let found = two_of cons.cons is.count in
    let x = found.0 in
    let y = found.1 in
    let e = found.2 in
    let of_x = eqb-true x.of 0
    (subst (λ (list : List ConDecl). is_ty (datatype_in (slice_get list 0)) (Datatype 0) ≡ true) e is.first) in
    let of_y = eqb-true y.of 0
    (subst (λ (list : List ConDecl). is_ty (datatype_in (slice_get list 1)) (Datatype 0) ≡ true) e is.second) in
    let x_is = bare_con (codes "false") x
    (subst (λ (list : List ConDecl). is_bare_con (codes "false") (slice_get list 0) ≡ true) e falses) of_x in
    let y_is = bare_con (codes "true") y
    (subst (λ (list : List ConDecl). is_bare_con (codes "true") (slice_get list 1) ≡ true) e truths) of_y in
    let both : cons.cons ≡ form.bool_cons.cons = e ∙ (λ i. x_is i ∷ (y_is i ∷ [])) in
    λ i. record { cons = both i }

-- # Operations

tx_kind : (kind : OpKind) → is_tx_kind kind ≡ true → kind ≡ Tx
tx_kind Tx h = refl
tx_kind Add h = grind (arith, h)
tx_kind Remove h = grind (arith, h)
tx_kind Assign h = grind (arith, h)
tx_kind Increment h = grind (arith, h)
tx_kind Delete h = grind (arith, h)

no_path : (path : List PathStep) → is_no_path path ≡ true → path ≡ []
no_path [] h = refl
no_path (s ∷ ss) h = grind (arith, h)

tx_is : (op : OpDecl) → is_tx op ≡ true → op ≡ form.tx
tx_is op h =
    let args = and_parts _ _ h in
    let path = and_parts _ _ args.0 in
    let root = and_parts _ _ path.0 in
    λ i. record {
      root = eqb-true op.root 0 root.1 i;
      path = no_path op.path path.1 i;
      kind = tx_kind op.kind root.0 i;
      args = nothing op.args args.1 i;
    }

-- # Programs

pub record HasOneEach (p : Prog) : Type 0 where
  pub atoms : length p.types.atoms ≡ 0
  pub datatypes : length p.types.datatypes ≡ 1
  pub roots : length p.roots ≡ 0
  pub ops : length p.ops ≡ 1
  pub queries : length p.queries ≡ 0
  pub invs : length p.invs ≡ 0

-- what each well-formed program keeps of `Bool` and `tx`
pub record KeepsBool (p : Prog) : Type 0 where
  pub numbered : are_numbered p.cons 0 0 p.types.datatypes ≡ true
  pub truths : has_bool p.types p.cons ≡ true
  pub ops : are_ops p.roots p.ops ≡ true

keeps_bool : (p : Prog) → IsTrue (is_well_formed p) → KeepsBool p
keeps_bool p well = let f = facts p well in record { numbered = f.numbered; truths = f.truths; ops = f.ops }

pub procs_alone : (p : Prog) → KeepsBool p → HasOneEach p → p ≡ over_truth_values p.procs
procs_alone p f each =
    let found = one_of p.types.datatypes each.datatypes in
    let decl = found.0 in
    let e = found.1 in
    let truths = and_parts _ _ f.truths in
    let falses = and_parts _ _ truths.0 in
    let decl_is = bool_decl decl (subst (λ (list : List DataDecl). is_bool_decl (slice_get list 0) ≡ true) e falses.0) in
    let cons_is = numbered p.cons decl.cons (ap (λ (decl : DataDecl). decl.cons) decl_is)
    (subst (λ (list : List DataDecl). are_numbered p.cons 0 0 list ≡ true) e f.numbered) in
    let op = one_of p.ops each.ops in
    let only : are_ops p.roots (op.0 ∷ []) ≡ true = subst (λ (list : List OpDecl). are_ops p.roots list ≡ true) op.1 f.ops in
    let op_is = tx_is op.0 (and_parts _ _ (and_parts _ _ only).0).0 in
    let no_atoms = none_of p.types.atoms each.atoms in
    let bools : p.types.datatypes ≡ form.bool_types.datatypes = e ∙ (λ i. decl_is i ∷ []) in
    let types_are : p.types ≡ form.bool_types = λ i. record { atoms = no_atoms i; datatypes = bools i } in
    let cons_are_bool = cons_are p.cons cons_is falses.1 truths.1 in
    let no_roots = none_of p.roots each.roots in
    let ops_are : p.ops ≡ form.tx ∷ [] = op.1 ∙ (λ i. op_is i ∷ []) in
    let no_queries = none_of p.queries each.queries in
    let no_invs = none_of p.invs each.invs in
    λ i. record {
      types = types_are i;
      cons = cons_are_bool i;
      roots = no_roots i;
      ops = ops_are i;
      queries = no_queries i;
      invs = no_invs i;
      procs = p.procs;
    }

pub each_once : (p : Prog) → p ≡ over_truth_values p.procs → HasOneEach p
each_once p e = record {
  atoms = ap (λ (p : Prog). length p.types.atoms) e;
  datatypes = ap (λ (p : Prog). length p.types.datatypes) e;
  roots = ap (λ (p : Prog). length p.roots) e;
  ops = ap (λ (p : Prog). length p.ops) e;
  queries = ap (λ (p : Prog). length p.queries) e;
  invs = ap (λ (p : Prog). length p.invs) e;
}

-- what is known of every program: at most 64 procedures, whose names differ
pub over_truth_values_all : (p : Prog) → IsTrue (is_well_formed p) → list_all is_over_truth_values p.procs ≡ true
    → IsTrue (form.are_over_truth_values p.procs)
over_truth_values_all p well all =
    let f = facts p well in
    let whole : is_well_formed p ≡ true = well in
    let names : have_names p ≡ true = (and_parts _ _ whole).1 in
    let values : are_value_names p ≡ true = (and_parts _ _ (and_parts _ _ names).0).1 in
    let apart = and_parts _ _ values in
    let roots_apart = and_parts _ _ apart.0 in
    let distinct_cons = and_parts _ _ roots_apart.0 in
    let distinct = and_parts _ _ distinct_cons.0 in
    and_from _ _ (and_from _ _ (and_parts _ _ f.procs).0 all) (and_parts _ _ distinct.0).1

-- # The test

one_each : (p : Prog) → has_procs_alone p ≡ true → HasOneEach p
one_each p h =
    let invs = and_parts _ _ h in
    let queries = and_parts _ _ invs.0 in
    let ops = and_parts _ _ queries.0 in
    let roots = and_parts _ _ ops.0 in
    let datatypes = and_parts _ _ roots.0 in
    record {
      atoms = eqb-true (length p.types.atoms) 0 datatypes.0;
      datatypes = eqb-true (length p.types.datatypes) 1 datatypes.1;
      roots = eqb-true (length p.roots) 0 roots.1;
      ops = eqb-true (length p.ops) 1 ops.1;
      queries = eqb-true (length p.queries) 0 queries.1;
      invs = eqb-true (length p.invs) 0 invs.1;
    }

alone_tested : (p : Prog) → HasOneEach p → has_procs_alone p ≡ true
alone_tested p each =
    let atoms = eq-eqb (length p.types.atoms) 0 each.atoms in
    let datatypes = eq-eqb (length p.types.datatypes) 1 each.datatypes in
    let roots = eq-eqb (length p.roots) 0 each.roots in
    let ops = eq-eqb (length p.ops) 1 each.ops in
    let queries = eq-eqb (length p.queries) 0 each.queries in
    let invs = eq-eqb (length p.invs) 0 each.invs in
    and_from _ _ (and_from _ _ (and_from _ _ (and_from _ _ (and_from _ _ atoms datatypes) roots) ops) queries) invs

first_form : (p : Prog) → IsTrue (is_well_formed p) → has_procs_alone p && list_all is_over_truth_values p.procs ≡ true
    → IsFirstForm p
first_form p well tested =
    let both = and_parts _ _ tested in
    record { parts = procs_alone p (keeps_bool p well) (one_each p both.0); procs = over_truth_values_all p well both.1 }

tested : (p : Prog) → IsFirstForm p → has_procs_alone p && list_all is_over_truth_values p.procs ≡ true
tested p first =
    and_from _ _ (alone_tested p (each_once p first.parts)) (and_parts _ _ (and_parts _ _ first.procs).0).1

pub first_form_told : (p : Prog) → IsTrue (is_well_formed p)
    → IsTrue (has_procs_alone p && list_all is_over_truth_values p.procs) ↔ IsFirstForm p
first_form_told p well = (first_form p well, tested p)

-- # Each program is of the first form or not

abbrev is_such : Prog → Bool
is_such p =
    has_procs_alone p && are_numbered p.cons 0 0 p.types.datatypes && has_bool p.types p.cons
    && are_ops p.roots p.ops && form.are_over_truth_values p.procs

such_is : (p : Prog) → is_such p ≡ true → IsFirstForm p
such_is p h =
    let procs = and_parts _ _ h in
    let ops = and_parts _ _ procs.0 in
    let truths = and_parts _ _ ops.0 in
    let numbered = and_parts _ _ truths.0 in
    record {
      parts = procs_alone p (record { numbered = numbered.1; truths = truths.1; ops = ops.1 }) (one_each p numbered.0);
      procs = procs.1;
    }

is_one_such : (p : Prog) → IsFirstForm p → is_such p ≡ true
is_one_such p first =
    let alone = alone_tested p (each_once p first.parts) in
    let numbered : are_numbered p.cons 0 0 p.types.datatypes ≡ true
    = ap (λ (p : Prog). are_numbered p.cons 0 0 p.types.datatypes) first.parts in
    let truths : has_bool p.types p.cons ≡ true = ap (λ (p : Prog). has_bool p.types p.cons) first.parts in
    let ops : are_ops p.roots p.ops ≡ true = ap (λ (p : Prog). are_ops p.roots p.ops) first.parts in
    and_from _ _ (and_from _ _ (and_from _ _ (and_from _ _ alone numbered) truths) ops) first.procs

pub first_form_or_not : (p : Prog) → IsFirstForm p ⊎ (IsFirstForm p → ⊥)
first_form_or_not p = go (is_such p) refl
  where
    go : (b : Bool) → is_such p ≡ b → IsFirstForm p ⊎ (IsFirstForm p → ⊥)
    go true is = inl (such_is p is)
    go false is = inr (λ first. true≢false (sym (is_one_such p first) ∙ is))
