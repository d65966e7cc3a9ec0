-- Where an expression stands, and what its place asks of it.
use Rattle.std.proofs.Common.{◌≡◌, ℕ, Bool, true, false, List, Some, refl, subst, sym, ◌∙◌}
use Rattle.std.proofs.lemmas.Bool.{not-false}
use Rattle.rp_value.specs.declared.tables.Ty.{Ty}
use Rattle.rp_value.specs.declared.tables.Ty.TheVariants as ty
use Rattle.rp_grammar.specs.Trees.{ExprTree}
use Rattle.rp_lang.specs.Exprs.{Ex}
use Rattle.rp_lang.specs.Programs.{Prog}
use Rattle.rp_lang.specs.Typing as typing
use Rattle.rp_lang.specs.Typing.{Frame, is_typed}
use Rattle.type_rules.specs.declared.kind.Kind.{Kind}
use Rattle.type_rules.specs.Kinds.{bool_kind, int_kind, fits, is_any}
use Rattle.type_rules.specs.Typing.{type_of}
use Rattle.type_rules.specs.Sites.{Scope, Want, Site}
use Rattle.type_rules.specs.ExprSites.{expr_sites, bool_operand, bool_whole, asks}
use Rattle.desugaring.specs.Tables.{Tables, ty_of}
use Rattle.desugaring.specs.Values.{Value, term, formula, as_formula}
use Rattle.desugaring.specs.Callees.{Vars, vars_of}
use Rattle.lawful.specs.Kept.{AllKept}
use Rattle.lawful.specs.Typed.{IsTerm, Good, Tied, Stands}
use Rattle.lawful.proofs.Basics.{when_not, fits_one, known, same_type}
use Rattle.lawful.proofs.Forms.{head, fit10, fit14, as_truth, int_of, never}

pub record World (t : Tables) : Type 0 where
  pub p : Prog
  pub words : ℕ → Bool
  pub tied : Tied t p words
  pub f : Frame
  pub reads : f.reads ≡ true

abbrev pub In : (t : Tables) → World t → List Ty → Vars → Scope → Type 0
In t g bs vs sc = Stands t g.p g.words g.f bs vs sc

abbrev pub Lawful : (t : Tables) → World t → List Site → Type 0
Lawful t g ss = AllKept t.names g.words ss

abbrev pub Is : (t : Tables) → World t → List Ty → Bool → Kind → Value → Type 0
Is t g bs a k v = Good t g.p g.f bs a k v

-- what is asked at a place, of what stands there
pub seen10 : (t : Tables) (g : World t) (bs : List Ty) (vs : Vars) (sc : Scope) (w : Want) (k : Kind) (e : ExprTree) → w.rule ≡ 10 → w.asked ≡ Some k
    → In t g bs vs sc → Lawful t g (expr_sites t.names sc w e) → fits k (type_of t.names (vars_of vs) (Some k) e) ≡ true
seen10 t g bs vs sc w k e rule asked st kept =
    subst (λ j. fits k j ≡ true) (same_type t g.p g.f bs t.names sc.vars vs st.sees (Some k) e)
    (fit10 t.names g.words sc w k e rule asked (head t.names g.words sc w e kept))

pub seen14 : (t : Tables) (g : World t) (bs : List Ty) (vs : Vars) (sc : Scope) (w : Want) (k : Kind) (e : ExprTree) → w.rule ≡ 14 → w.asked ≡ Some k
    → In t g bs vs sc → Lawful t g (expr_sites t.names sc w e) → fits k (type_of t.names (vars_of vs) (Some k) e) ≡ true
seen14 t g bs vs sc w k e rule asked st kept =
    subst (λ j. fits k j ≡ true) (same_type t g.p g.f bs t.names sc.vars vs st.sees (Some k) e)
    (fit14 t.names g.words sc w k e rule asked (head t.names g.words sc w e kept))

pub seen21 : (t : Tables) (g : World t) (bs : List Ty) (vs : Vars) (sc : Scope) (k : Kind) (e : ExprTree)
    → In t g bs vs sc → Lawful t g (expr_sites t.names sc (asks 21 k) e) → fits k (type_of t.names (vars_of vs) (Some k) e) ≡ true
seen21 t g bs vs sc k e st kept =
    subst (λ j. fits k j ≡ true) (same_type t g.p g.f bs t.names sc.vars vs st.sees (Some k) e)
    (not-false _ (when_not _ _ (head t.names g.words sc (asks 21 k) e kept).t21))

pub seen22 : (t : Tables) (g : World t) (bs : List Ty) (vs : Vars) (sc : Scope) (e : ExprTree)
    → In t g bs vs sc → Lawful t g (expr_sites t.names sc bool_whole e) → fits bool_kind (type_of t.names (vars_of vs) (Some bool_kind) e) ≡ true
seen22 t g bs vs sc e st kept =
    subst (λ j. fits bool_kind j ≡ true) (same_type t g.p g.f bs t.names sc.vars vs st.sees (Some bool_kind) e)
    (not-false _ (when_not _ _ (head t.names g.words sc bool_whole e kept).t22))

-- a term where a known type is asked
pub exactly : (t : Tables) (g : World t) (bs : List Ty) (a : Bool) (k j : Kind) (x : Ex) (of : Ty) → ty_of t k ≡ Some of → fits k j ≡ true
    → IsTerm t g.p g.f bs a j x → IsTerm t g.p g.f bs a k x
exactly t g bs a k j x of is fit good =
    subst (λ h. IsTerm t g.p g.f bs a h x) (sym (fits_one k j (known t k of is) (known t j good.typed.0 good.typed.2) fit)) good

pub weaker : (t : Tables) (g : World t) (bs : List Ty) (a : Bool) (k : Kind) (v : Value) → Is t g bs false k v → Is t g bs a k v
weaker t g bs a k (term x) good = record { typed = good.typed; stands = λ e. never refl (good.stands e) }
weaker t g bs a k (formula h) good = good

pub exactly_value : (t : Tables) (g : World t) (bs : List Ty) (a : Bool) (k j : Kind) (v : Value) (of : Ty) → ty_of t k ≡ Some of → fits k j ≡ true
    → Is t g bs a j v → Is t g bs a k v
exactly_value t g bs a k j (term x) of is fit good = exactly t g bs a k j x of is fit good
exactly_value t g bs a k j (formula h) of is fit good =
    (fits_one k j (known t k of is) (subst (λ z. is_any z.base ≡ false) (sym good.0) refl) fit ∙ good.0, good.1)

-- at a place where a truth is asked, by rule 10 or 22
pub true_at : (t : Tables) (g : World t) (bs : List Ty) (a : Bool) (k : Kind) (v : Value) → Is t g bs a k v → fits bool_kind k ≡ true → is_typed g.p g.f bs (as_formula v) ≡ true
true_at t g bs a k v good fit = as_truth t g.p g.words g.tied g.f bs a k v good fit

pub operand : (t : Tables) (g : World t) (bs : List Ty) (vs : Vars) (e : ExprTree) (v : Value) (sc : Scope)
    → Is t g bs false (type_of t.names (vars_of vs) (Some bool_kind) e) v → In t g bs vs sc
    → Lawful t g (expr_sites t.names sc bool_operand e) → is_typed g.p g.f bs (as_formula v) ≡ true
operand t g bs vs e v sc good st kept = true_at t g bs _ _ v good (seen10 t g bs vs sc bool_operand bool_kind e refl refl st kept)

pub integer : (t : Tables) (g : World t) (bs : List Ty) (vs : Vars) (e : ExprTree) (x : Ex) (a : Bool) (sc : Scope) (w : Want)
    → w.rule ≡ 10 → w.asked ≡ Some int_kind → IsTerm t g.p g.f bs a (type_of t.names (vars_of vs) (Some int_kind) e) x → In t g bs vs sc
    → Lawful t g (expr_sites t.names sc w e) → typing.type_of g.p g.f bs x ≡ Some ty.Int
integer t g bs vs e x a sc w rule asked good st kept = int_of t g.p g.f bs a _ x good (seen10 t g bs vs sc w int_kind e rule asked st kept)
