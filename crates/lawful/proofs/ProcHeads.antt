-- A procedure's first slots are its parameters, and it has few statements.
use Rattle.std.proofs.Common.{◌≡◌, true, false, ◌&&◌, List, [], ◌∷◌, ◌++◌, length, Some, refl, subst, sym, ◌∙◌}
use Rattle.std.specs.Prelude.{nat_le}
use Rattle.std.specs.List.{AllByRecursion, list_all, list_any}
use Rattle.std.proofs.lemmas.Bool.{and_from, and_parts, not-false, or_parts}
use Rattle.rp_value.specs.declared.tables.Ty.{Ty}
use Rattle.rp_grammar.specs.Trees.{DeclTree}
use Rattle.rp_lang.specs.declared.limit.LimitName.TheVariants.{Statements}
use Rattle.rp_lang.specs.Programs.{Proc, Prog}
use Rattle.rp_lang.specs.Sizes.{sts_count}
use Rattle.rp_lang.specs.Types.{same_ty}
use Rattle.rp_lang.specs.WellFormed.{begins, returns_a_value}
use Rattle.type_rules.specs.declared.kind.Kind.{Kind}
use Rattle.desugaring.specs.Parts.{each}
use Rattle.desugaring.specs.Tables.{Tables, tables_of, ty_of}
use Rattle.desugaring.specs.Programs.{ProcDecl, procs_from, kinds_of_params, IsProc}
use Rattle.desugaring.specs.Limits.{is_past, HasProgram}
use Rattle.desugaring.proofs.Options.{both_there}
use Rattle.lawful.proofs.Forms.{one, same_self}
use Rattle.lawful.proofs.Results.{pointwise_all, results_returned}
use Rattle.lawful.proofs.Within.{within}

begins_there : (t : Tables) (ks js : List Kind) (tys slots : List Ty) → each (ty_of t) ks ≡ Some tys → each (ty_of t) (ks ++ js) ≡ Some slots → begins tys slots ≡ true
begins_there t [] js tys slots are whole = subst (λ z. begins z slots ≡ true) (one are) refl
begins_there t (k ∷ ks) js tys slots are whole =
    both_there (λ z. begins z slots ≡ true) ◌∷◌ (ty_of t k) (each (ty_of t) ks) tys are
    (λ of ofs a b. both_there (λ z. begins (of ∷ ofs) z ≡ true) ◌∷◌ (ty_of t k) (each (ty_of t) (ks ++ js)) slots whole
    (λ slot others c d. and_from (same_ty slot of) (begins ofs others) (subst (λ z. same_ty z of ≡ true) (one (sym a ∙ c)) (same_self of)) (begins_there t ks js ofs others b d)))

all_any : (ds : List ProcDecl) → AllByRecursion (λ (d : ProcDecl). Unit {0}) ds
all_any [] = tt
all_any (d ∷ ds) = (tt, all_any ds)

heads : (procs : List Proc) → list_any (λ (q : Proc). is_past Statements (sts_count q.body)) procs ≡ false → list_all (λ (q : Proc). begins q.params q.slots) procs ≡ true
    → list_all returns_a_value procs ≡ true → list_all (λ (q : Proc). begins q.params q.slots && nat_le (sts_count q.body) 200 && returns_a_value q) procs ≡ true
heads [] few begin returned = refl
heads (q ∷ procs) few begin returned =
    let f = or_parts (is_past Statements (sts_count q.body)) _ few in
    let b = and_parts (begins q.params q.slots) _ begin in
    let r = and_parts (returns_a_value q) _ returned in
    and_from (begins q.params q.slots && nat_le (sts_count q.body) 200 && returns_a_value q) _
    (and_from (begins q.params q.slots && nat_le (sts_count q.body) 200) _ (and_from (begins q.params q.slots) _ b.0 (not-false _ f.0)) r.0)
    (heads procs f.1 b.1 r.1)

pub proc_heads : (tree : List DeclTree) (p : Prog) → HasProgram tree p
    → (nat_le (length p.procs) 64 && list_all (λ (q : Proc). begins q.params q.slots && nat_le (sts_count q.body) 200 && returns_a_value q) p.procs) ≡ true
proc_heads tree p has =
    let t = tables_of tree in
    let w = within p has.1 in
    and_from (nat_le (length p.procs) 64) _ w.procs
    (heads p.procs w.statements
    (pointwise_all (IsProc t) (λ (d : ProcDecl). Unit {0}) (λ (q : Proc). begins q.params q.slots) (procs_from 0 tree) p.procs has.0.1.procs (all_any (procs_from 0 tree))
    (λ d q none made. begins_there t (kinds_of_params t.names d) made.further q.params q.slots made.params made.slots))
    (results_returned tree p has.0))
