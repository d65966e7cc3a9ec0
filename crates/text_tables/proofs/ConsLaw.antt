-- Constructors of a datatype, one after the other.
use Rattle.std.proofs.Common.{◌≡◌, ℕ, List, [], ◌∷◌, ◌++◌, Some, None, refl, sym, ap, ◌∙◌}
use Rattle.std.specs.Prelude.{unwrap_or}
use Rattle.rp_value.specs.declared.tables.Ty.{Ty}
use Rattle.rp_value.specs.declared.tables.ConDecl.{ConDecl}
use Rattle.type_rules.specs.declared.kind.Kind.{Kind}
use Rattle.type_rules.specs.Names.{Name, Names}
use Rattle.type_rules.specs.Matches.{Case, cases_of}
use Rattle.desugaring.specs.Parts.{each}
use Rattle.desugaring.specs.Tables.{Tables, con_decl, con_of, cons_of, datatype_number, ty_of}
use Rattle.desugaring.proofs.Options.{both_is}
use Rattle.text_tables.specs.means.Cases.{cons_with}
use Rattle.text_tables.specs.means.Grown.{Grows}
use Rattle.text_tables.proofs.Growing.{grows_both, grows_one}

pub one_con : (t : Tables) (k : Kind) (x : Name) (ks : List Kind) (of : ℕ) (tys : List Ty) (cons new : List ConDecl) → datatype_number t k ≡ Some of
    → each (ty_of t) ks ≡ Some tys → new ≡ cons ++ con_of x of tys ∷ []
    → Grows (con_decl t) cons (record { name = x; of = k; fields = ks } ∷ []) new
one_con t k x ks of tys cons new e h is =
    grows_one (con_decl t) cons (record { name = x; of = k; fields = ks }) (con_of x of tys)
    (both_is (con_of x) (datatype_number t k) (each (ty_of t) ks) of tys e h)
    ∙ ap Some (sym is)

pub two_cons : (t : Tables) (k : Kind) (x y : Name) (ks js : List Kind) (of : ℕ) (tys others : List Ty) (cons mid new : List ConDecl) → datatype_number t k ≡ Some of
    → each (ty_of t) ks ≡ Some tys → each (ty_of t) js ≡ Some others → mid ≡ cons ++ con_of x of tys ∷ [] → new ≡ mid ++ con_of y of others ∷ []
    → Grows (con_decl t) cons (record { name = x; of = k; fields = ks } ∷ record { name = y; of = k; fields = js } ∷ []) new
two_cons t k x y ks js of tys others cons mid new e h g one other =
    grows_both (con_decl t) cons mid new (record { name = x; of = k; fields = ks } ∷ []) (record { name = y; of = k; fields = js } ∷ [])
    (one_con t k x ks of tys cons mid e h one) (one_con t k y js of others mid new e g other)

pub one_ty : (t : Tables) (k : Kind) (ty : Ty) → ty_of t k ≡ Some ty → each (ty_of t) (k ∷ []) ≡ Some (ty ∷ [])
one_ty t k ty e = both_is ◌∷◌ (ty_of t k) (Some []) ty [] e refl

pub cons_are : (n : Names) (k : Kind) (cases : List Case) → cases_of n k ≡ Some cases → cons_of n k ≡ cons_with k cases
cons_are n k cases e = ap (λ o. cons_with k (unwrap_or o [])) e

pub no_cons : (n : Names) (k : Kind) → cases_of n k ≡ None → cons_of n k ≡ []
no_cons n k e = ap (λ o. cons_with k (unwrap_or o [])) e
