-- `Maybe` of a type in a lawful text's program: its constructors are `none` and `some`, of one field of the type.
use Rattle.std.proofs.Common.{◌≡◌, ◌+◌, ℕ, zero, suc, true, false, ◌&&◌, ◌==◌, cond, List, [], ◌∷◌, ◌++◌, map, length, codes, Some, None, refl, ap, subst, sym, ◌∙◌, arith}
use Rattle.std.specs.Prelude.{flat_map, slice_get, unwrap_or}
use Rattle.std.proofs.lemmas.Bool.{and_from, ne_eqb, or_parts}
use Rattle.rp_value.specs.declared.tables.Ty.{Ty}
use Rattle.rp_value.specs.declared.tables.Ty.TheVariants as ty
use Rattle.rp_value.specs.declared.tables.ConDecl.{ConDecl}
use Rattle.rp_grammar.specs.Trees.{DeclTree}
use Rattle.rp_lang.specs.Programs.{Prog}
use Rattle.rp_lang.specs.Types.{are_none_and_some, cons_of as numbers_of, is_bare_con, is_con_with, is_maybe_of}
use Rattle.type_rules.specs.declared.kind.Kind.{Kind}
use Rattle.type_rules.specs.Names.{Names}
use Rattle.type_rules.specs.Kinds.{is_any, is_open, is_unknown, maybe_of}
use Rattle.type_rules.specs.Matches.{Case, cases_of, maybe_cases}
use Rattle.desugaring.specs.Parts.{each}
use Rattle.desugaring.specs.Tables.{Con, Tables, base_ty, con_decl, con_of, con_table, cons, cons_of, datatype_number, datatype_ty, tables_of, ty_of, up_from}
use Rattle.desugaring.specs.Programs.{IsProgramOf}
use Rattle.desugaring.proofs.Fields.{each_at, table_there}
use Rattle.desugaring.proofs.Options.{both_there, map_there}
use Rattle.lawful.proofs.Basics.{known}
use Rattle.lawful.proofs.Blocks.{decl_at, its_own, start}
use Rattle.lawful.proofs.Forms.{one}
use Rattle.lawful.proofs.RootOps.{one_arg}

-- # Where a constructor stands

pub left_at : {X : Type 0} (xs ys : List X) (i : ℕ) (z : X) → slice_get xs i ≡ Some z → slice_get (xs ++ ys) i ≡ Some z
left_at [] ys i z is = absurd cc
left_at (x ∷ xs) ys zero z is = is
left_at (x ∷ xs) ys (suc i) z is = left_at xs ys i z is

pub right_at : {X : Type 0} (xs ys : List X) (i : ℕ) (z : X) → slice_get ys i ≡ Some z → (c : ℕ) × (c ≡ length xs + i) × (slice_get (xs ++ ys) c ≡ Some z)
right_at [] ys i z is = (i, omega arith, is)
right_at (x ∷ xs) ys i z is = let r = right_at xs ys i z is in (suc r.0, omega (arith, r.1), r.2)

-- a type's constructor stands as far behind the type's first one as among the type's own
pub con_there : (n : Names) (next : ℕ) (ds : List Kind) (j : ℕ) (d : Kind) (i : ℕ) (z : Con) → slice_get ds j ≡ Some d → slice_get (cons_of n d) i ≡ Some z
    → (c : ℕ) × (next + c ≡ start n next ds j + i) × (slice_get (flat_map (cons_of n) ds) c ≡ Some z)
con_there n next [] j d i z at is = absurd cc
con_there n next (e ∷ ds) zero d i z at is =
    (i, refl, left_at (cons_of n e) (flat_map (cons_of n) ds) i z (subst (λ k. slice_get (cons_of n k) i ≡ Some z) (sym (one at)) is))
con_there n next (e ∷ ds) (suc j) d i z at is =
    let r = con_there n (next + length (cons_of n e)) ds j d i z at is in
    let there = right_at (cons_of n e) (flat_map (cons_of n) ds) r.0 z r.2 in
    (there.0, omega (arith, r.1, there.1), there.2)

-- the constructor of the program at that place
pub made_there : (t : Tables) (p : Prog) → con_table t ≡ Some p.cons → (j : ℕ) (d : Kind) (i : ℕ) (z : Con) → slice_get t.datatypes j ≡ Some d
    → slice_get (cons_of t.names d) i ≡ Some z
    → (made : ConDecl) × (slice_get p.cons.cons (start t.names 0 t.datatypes j + i) ≡ Some made) × (con_decl t z ≡ Some made)
made_there t p table j d i z at is =
    let c = con_there t.names 0 t.datatypes j d i z at is in
    let r = each_at (con_decl t) (cons t) p.cons.cons c.0 z (table_there t p.cons table) c.2 in
    let place : c.0 ≡ start t.names 0 t.datatypes j + i = omega (arith, c.1) in
    (r.0, subst (λ m. slice_get p.cons.cons m ≡ Some r.0) place r.1, r.2)

-- # `Maybe`

not_open : (k : Kind) → is_any k.base ≡ false → (is_open k.base && k.maybes == 0) ≡ false
not_open k e = ap (λ b. b && k.maybes == 0) (or_parts (is_unknown k.base) (is_open k.base) e).1

pub maybe_there : (n : Names) (k : Kind) → is_any k.base ≡ false → cases_of n (record { base = k.base; maybes = suc k.maybes }) ≡ Some (maybe_cases k)
maybe_there n k e = ap (λ b. cond b None (Some (maybe_cases k))) (not_open k e)

bare_none : (t : Tables) (of : Kind) (made : ConDecl) → con_decl t (record { name = codes "none"; of = of; fields = [] }) ≡ Some made
    → is_bare_con (codes "none") (Some made) ≡ true
bare_none t of made e =
    both_there (λ z. is_bare_con (codes "none") (Some z) ≡ true) (con_of (codes "none")) (datatype_number t of) (Some []) made e
    (λ m fields a b. subst (λ z. is_bare_con (codes "none") (Some (con_of (codes "none") m z)) ≡ true) (one b) refl)

some_with : (t : Tables) (of k : Kind) (ty : Ty) (made : ConDecl) → ty_of t k ≡ Some ty
    → con_decl t (record { name = codes "some"; of = of; fields = k ∷ [] }) ≡ Some made → is_con_with (codes "some") ty (Some made) ≡ true
some_with t of k ty made is e =
    both_there (λ z. is_con_with (codes "some") ty (Some z) ≡ true) (con_of (codes "some")) (datatype_number t of) (each (ty_of t) (k ∷ [])) made e
    (λ m fields a b. one_arg t k ty fields is b)

pub maybe_fits : (tree : List DeclTree) (p : Prog) → IsProgramOf tree p → (k : Kind) (of result : Ty) → ty_of (tables_of tree) k ≡ Some of
    → ty_of (tables_of tree) (maybe_of k) ≡ Some result → is_maybe_of p.types p.cons of result ≡ true
maybe_fits tree p is k of result known_ e =
    let t = tables_of tree in
    let next : k.maybes + 1 ≡ suc k.maybes = omega arith in
    let whole : Kind = record { base = k.base; maybes = suc k.maybes } in
    let there : ty_of t whole ≡ Some result = subst (λ m. ty_of t (record { base = k.base; maybes = m }) ≡ Some result) next e in
    let data_ : datatype_ty t whole ≡ Some result =
    sym (ap (λ z. cond z (base_ty t k.base) (datatype_ty t whole)) (ne_eqb (suc k.maybes) 0 (omega arith))) ∙ there in
    map_there (λ z. is_maybe_of p.types p.cons of z ≡ true) ty.Datatype (datatype_number t whole) result data_
    (λ n number.
    let cases = maybe_there t.names k (known t k of known_) in
    let own = its_own t whole n number in
    let first = start t.names 0 t.datatypes n in
    let cons_are : cons_of t.names whole ≡ record { name = codes "none"; of = whole; fields = [] } ∷ record { name = codes "some"; of = whole; fields = k ∷ [] } ∷ [] =
    ap (λ o. map (λ (c : Case). record { name = c.name; of = whole; fields = c.fields }) (unwrap_or o [])) cases in
    let none_made = made_there t p is.1.cons n whole 0 (record { name = codes "none"; of = whole; fields = [] }) own.0 (ap (λ xs. slice_get xs 0) cons_are) in
    let some_made = made_there t p is.1.cons n whole 1 (record { name = codes "some"; of = whole; fields = k ∷ [] }) own.0 (ap (λ xs. slice_get xs 1) cons_are) in
    let zeroth : first + 0 ≡ first = omega arith in
    let numbers : numbers_of p.types n ≡ first ∷ (first + 1) ∷ [] =
    subst (λ types. numbers_of types n ≡ first ∷ (first + 1) ∷ []) (sym is.1.types)
    (decl_at t.names 0 t.datatypes n whole own.0 ∙ ap (λ xs. up_from first (length xs)) cons_are) in
    subst (λ xs. are_none_and_some p.cons of xs ≡ true) (sym numbers)
    (and_from _ _
    (subst (λ o. is_bare_con (codes "none") o ≡ true) (sym (subst (λ m. slice_get p.cons.cons m ≡ Some none_made.0) zeroth none_made.1))
    (bare_none t whole none_made.0 none_made.2))
    (subst (λ o. is_con_with (codes "some") of o ≡ true) (sym some_made.1) (some_with t whole k of some_made.0 known_ some_made.2))))
