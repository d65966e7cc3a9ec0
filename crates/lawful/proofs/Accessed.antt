-- Accesses, from their keys and arguments.
use Rattle.std.proofs.Common.{◌≡◌, ℕ, Bool, true, false, not, ◌||◌, List, [], ◌++◌, Option, Some, None, refl, ap, subst, sym, ◌∙◌}
use Rattle.std.specs.Prelude.{is_some, option_map}
use Rattle.std.proofs.lemmas.Bool.{not-false}
use Rattle.rp_span.specs.declared.Span.{Span}
use Rattle.rp_value.specs.declared.tables.Ty.{Ty}
use Rattle.rp_grammar.specs.Trees.{Ident, ParamTree, TypeTree, ExprTree, StepTrees, ArgTrees, QueryTree}
use Rattle.rp_lang.specs.Exprs.{Ex, Exs, no_ex, also_ex}
use Rattle.type_rules.specs.declared.kind.Kind.{Kind}
use Rattle.type_rules.specs.Names.{text_of, entry_named}
use Rattle.type_rules.specs.Kinds.{kind_of}
use Rattle.type_rules.specs.Paths.{Way}
use Rattle.type_rules.specs.Accesses.{Var, access_kind, args_of, of_name, of_entry}
use Rattle.type_rules.specs.Typing.{type_of}
use Rattle.type_rules.specs.Sites.{Scope, Want}
use Rattle.type_rules.specs.ExprSites.{expr_sites, step_sites, given_sites, asks, way_from}
use Rattle.type_rules.specs.DeclSites.{scope_for}
use Rattle.type_rules.specs.Rules.{when, access_stands, is_unset}
use Rattle.desugaring.specs.Parts.{each}
use Rattle.desugaring.specs.Tables.{Tables, ty_of}
use Rattle.desugaring.specs.Values.{Value, term, append}
use Rattle.desugaring.specs.Callees.{Vars, vars_of, Stand, variable, use_of, Called, given, of_access, taking, stand_named, variable_with}
use Rattle.desugaring.specs.Expressions.{with_args}
use Rattle.lawful.specs.Kept.{uses_quietly}
use Rattle.lawful.specs.Typed.{IsTerm, AreTerms, Along, Gives}
use Rattle.lawful.proofs.Basics.{when_not, Looks, split}
use Rattle.lawful.proofs.Forms.{have, one, give_value}
use Rattle.lawful.proofs.Calls.{joined, first_types, last_types, given_good, sees_args}
use Rattle.lawful.proofs.World.{World, In, Lawful, Is, seen21, weaker, exactly_value}

-- a variable, used as it stands
pub var_good : (t : Tables) (g : World t) (bs : List Ty) (a : Bool) (k : Kind) (x : Ex) (es : Exs) (v : Value) → IsTerm t g.p g.f bs false k x
    → variable_with x es ≡ Some v → Is t g bs a k v
var_good t g bs a k x no_ex v is e = give_value t g.p g.f bs a k _ v e (weaker t g bs a k (term x) is)
var_good t g bs a k x (also_ex y ys) v is e = absurd cc

-- what is called where a variable stands is that variable
pub var_called : (t : Tables) (g : World t) (bs : List Ty) (a : Bool) (k : Kind) (x : Ex) (c : Called Ex) (es : Exs) (v : Value) → taking [] [] (variable x) ≡ c
    → IsTerm t g.p g.f bs false k x → given c.what es ≡ Some v → Is t g bs a k v
var_called t g bs a k x c es v e is gives = var_good t g bs a k x es v is (subst (λ z. given z.what es ≡ Some v) (sym e) gives)

pub unset : (b : Bool) (s : Span) → when (not b) s ≡ None → b ≡ true
unset b s e = not-false b (when_not _ s e)

-- the query may speak of calls only where the place may
pub speaks_there : (speaks there : Bool) → (speaks || not there) ≡ true → there ≡ true → speaks ≡ true
speaks_there true there e is = refl
speaks_there false true e is = absurd cc
speaks_there false false e is = absurd cc

pub no_use : (x : Ex) (k : ℕ) (q : QueryTree) → variable x ≡ use_of k q → ⊥
no_use x k q e = absurd cc

-- what the induction gives of keys, arguments and bodies
abbrev pub Keys : (t : Tables) → World t → List Ty → Vars → List Kind → StepTrees → Exs → Scope → Type 0
Keys t g bs vs ks steps xs sc = (way : Way) → Along t.names way steps ks → (tys : List Ty) → each (ty_of t) ks ≡ Some tys → In t g bs vs sc
    → Lawful t g (step_sites t.names sc way steps) → AreTerms t g.p g.f bs ks xs

abbrev pub Args : (t : Tables) → World t → List Ty → Vars → List Kind → ArgTrees → Exs → Scope → Type 0
Args t g bs vs ks args xs sc = (tys : List Ty) → each (ty_of t) ks ≡ Some tys → In t g bs vs sc
    → Lawful t g (given_sites t.names sc ks args) → AreTerms t g.p g.f bs ks xs

abbrev pub Body : (t : Tables) → World t → List Ty → Vars → Kind → ExprTree → Value → Type 0
Body t g bs vs k e v = (sc : Scope) (w : Want) → w.asked ≡ Some k → In t g bs vs sc → Lawful t g (expr_sites t.names sc w e)
    → Is t g bs (is_some w.across) (type_of t.names (vars_of vs) (Some k) e) v

pub access_typed : (t : Tables) (g : World t) (bs : List Ty) (b : ℕ) (vs : Vars) (x : Ident) (steps : StepTrees) (args : ArgTrees) (c : Called Ex) (keys es : Exs) (v : Value)
    → (sc : Scope) (w : Want) → In t g bs vs sc → (o : Option Var) (s : Option (Stand Ex)) (u : Option Var) → Looks t g.p g.f bs o s u
    → stand_named vs (text_of x) ≡ s → of_access t vs x steps (of_name t.names x steps u) ≡ Some c
    → Keys t g bs vs c.keys steps keys sc → Args t g bs vs c.args args es sc → given c.what (append keys es) ≡ Some v
    → access_stands w (of_name t.names x steps o) ≡ true → is_unset o ≡ false
    → Lawful t g (step_sites t.names sc (way_from t.names o x) steps ++ given_sites t.names sc (args_of t.names (of_name t.names x steps o)) args)
    → Is t g bs (is_some w.across) (access_kind t.names (of_name t.names x steps u)) v
access_typed t g bs b vs x StepTrees.no_steps args c keys es v sc w st o s u (Looks.there {kind = kind} {known = meant} is) named found ks as_ gives stands set kept =
    let call = one (subst (λ z. option_map (λ s. taking [] [] (variable s.known)) z ≡ Some c) named found) in
    var_called t g bs _ kind meant c (append keys es) v call (is (not-false _ set)) gives
access_typed t g bs b vs x (StepTrees.more_steps step steps) args c keys es v sc w st o s u (Looks.there is) named found ks as_ gives stands set kept = absurd cc
access_typed t g bs b vs x steps args c keys es v sc w st o s u Looks.nowhere named found ks as_ gives stands set kept =
    let call = g.tied.call vs x steps c found in
    let parts = split t.names g.words _ _ kept in
    let first = first_types t c.keys c.args call.tys call.are in
    let last = last_types t c.keys c.args call.tys call.are in
    let sites = subst (λ z. Lawful t g (given_sites t.names sc z args)) (sym call.args) parts.1 in
    let are = joined t g.p g.f bs c.keys c.args keys es (ks _ call.along first.0 first.1 st parts.0)
    (as_ last.0 last.1 st sites) in
    given_good t g.p g.words g.f bs w _ c c.what call.tys (append keys es) v g.reads stands call.gives
    (have t g.p g.f bs (c.keys ++ c.args) call.tys (append keys es) call.are are) gives

pub use_typed : (t : Tables) (g : World t) (bs : List Ty) (b : ℕ) (vs : Vars) (x : Ident) (steps : StepTrees) (args : ArgTrees) (c : Called Ex) (es : Exs) (k : ℕ)
    (name : Ident) (params : List ParamTree) (result : TypeTree) (body : ExprTree) (v : Value)
    → (sc : Scope) (w : Want) → In t g bs vs sc → (o : Option Var) (s : Option (Stand Ex)) (u : Option Var) → Looks t g.p g.f bs o s u
    → stand_named vs (text_of x) ≡ s → of_access t vs x steps (of_name t.names x steps u) ≡ Some c
    → c.what ≡ use_of k (QueryTree.query name params result body) → Args t g bs vs c.args args es sc
    → Body t g bs (with_args t.names params es) (kind_of t.names result) body v
    → uses_quietly g.words sc.words (of_name t.names x steps o) ≡ true
    → Lawful t g (step_sites t.names sc (way_from t.names o x) steps ++ given_sites t.names sc (args_of t.names (of_name t.names x steps o)) args)
    → Is t g bs (is_some w.across) (access_kind t.names (of_name t.names x steps u)) v
use_typed t g bs b vs x StepTrees.no_steps args c es k name params result body v sc w st o s u (Looks.there {known = meant} is) named found what as_ m quiet kept =
    absurd (no_use meant k _ (ap (λ z. z.what) (one (subst (λ z. option_map (λ s. taking [] [] (variable s.known)) z ≡ Some c) named found)) ∙ what))
use_typed t g bs b vs x (StepTrees.more_steps step steps) args c es k name params result body v sc w st o s u (Looks.there is) named found what as_ m quiet kept = absurd cc
use_typed t g bs b vs x steps args c es k name params result body v sc w st o s u Looks.nowhere named found what as_ m quiet kept =
    let call = g.tied.call vs x steps c found in
    let acc = of_entry t.names x steps (entry_named t.names (text_of x)) in
    let told : Gives t g.p g.words call.tys acc c (use_of k (QueryTree.query name params result body)) =
    subst (Gives t g.p g.words call.tys acc c) what call.gives in
    let parts = split t.names g.words _ _ kept in
    let last = last_types t c.keys c.args call.tys call.are in
    let sites = subst (λ z. Lawful t g (given_sites t.names sc z args)) (sym call.args) parts.1 in
    let are = subst (λ ks. AreTerms t g.p g.f bs ks es) told.2 (as_ last.0 last.1 st sites) in
    let scope = scope_for t.names k (g.words k) params in
    let there : In t g bs (with_args t.names params es) scope = record {
      sees = sees_args t g.p g.f bs params es are;
      speaks = λ h. st.speaks (speaks_there sc.words (g.words k) (subst (λ z. uses_quietly g.words sc.words z ≡ true) told.0 quiet) h);
    } in
    let asked = kind_of t.names result in
    let good = m scope (asks 21 asked) refl there told.4 in
    let fit = seen21 t g bs (with_args t.names params es) scope asked body there told.4 in
    subst (λ z. Is t g bs (is_some w.across) (access_kind t.names z) v) (sym told.0)
    (weaker t g bs _ asked v (exactly_value t g bs false asked _ v told.3.0 told.3.1 fit good))
