-- What calls say, by what the access is.
use Rattle.std.proofs.Common.{◌≡◌, ℕ, List, [], ◌∷◌, ◌++◌, Some, refl, ap, sym, subst, ◌∙◌}
use Rattle.std.specs.Prelude.{option_map}
use Rattle.rp_lang.specs.Exprs.{Ex}
use Rattle.rp_grammar.specs.Trees.{AccessTree, ArgTrees, ConTree, CrdtTree, Ident, ProcTree, QueryTree, StepTrees}
use Rattle.type_rules.specs.declared.kind.Kind.{Kind}
use Rattle.type_rules.specs.declared.kind.Base.TheVariants as base
use Rattle.type_rules.specs.Kinds.{param_kinds, plain_kind}
use Rattle.type_rules.specs.Names.{Name, con_fields, con_name, text_of}
use Rattle.type_rules.specs.Paths.{Member, Way}
use Rattle.type_rules.specs.Accesses.{Access, Var, access_of, find_var, proc_params, proc_result, query_params, result_args}
use Rattle.type_rules.specs.ExprSites.{way_from}
use Rattle.type_terms.specs.declared.members.Does as code_does
use Rattle.type_terms.specs.declared.members.Does.TheVariants as does
use Rattle.type_terms.specs.declared.members.Member as code_member
use Rattle.type_terms.specs.Members.{does_view, member_over, member_view}
use Rattle.text_kinds.specs.Seen.{kinds_view}
use Rattle.text_tables.specs.Called.{LeadsTo, callee_of}
use Rattle.desugaring.specs.Objects.{Reached, follow, keys_on}
use Rattle.desugaring.specs.Tables.{con_number, proc_name, proc_number}
use Rattle.desugaring.specs.Callees.{Callee, Called, Stand, called, constructor, of_access, on_root, outcome, procedure, stand_named, taking, use_of, variable}
use Rattle.desugaring.proofs.Options.{map_there}
use Rattle.query_bodies.specs.Terms as te
use Rattle.query_bodies.specs.Terms.{Said, Te, Tes, said_term}
use Rattle.query_bodies.specs.Views.{tes_of}
use Rattle.query_bodies.specs.Expanded.{IsUse}
use Rattle.query_bodies.specs.Seen.{saids_in}
use Rattle.query_laws.specs.Sight.{IsCall, IsOutcome, Known, known_ex, said_of, vars_in}
use Rattle.query_laws.proofs.Calls.{called_goes, called_map}
use Rattle.query_laws.proofs.Under.{vars_same}
use Rattle.reading.specs.declared.reader.Reader.{Reader}
use Rattle.reading.specs.Reads.{IsCalled, IsKept, sight_of}
use Rattle.reading.proofs.Calling.{callee_is, is_led, leads_to}

-- what the definitions call, where the access is this
there : (r : Reader) → IsKept r → (x : Ident) (steps : StepTrees) (args : ArgTrees) (what : Access) → what ≡ access_of (sight_of r).tables.names r.vars (AccessTree.path x steps args)
    → (c : Called Known) → called (sight_of r).tables (sight_of r).vars (AccessTree.path x steps args) ≡ Some c
    → of_access (sight_of r).tables (sight_of r).vars x steps what ≡ Some c
there r kept x steps args what is c e =
    let s = sight_of r in
    ap (of_access s.tables s.vars x steps)
    (is ∙ ap (λ (vs : List Var). access_of s.tables.names vs (AccessTree.path x steps args)) (sym kept.rules)) ∙ e

pub variable_called : (r : Reader) (x : Ident) (steps : StepTrees) (args : ArgTrees) (v : Var) (es : Tes) (said : Said)
    → (IsKept r → (s : Stand Known) → stand_named (sight_of r).vars (text_of x) ≡ Some s → said ≡ said_term (said_of s.known))
    → IsCalled r (Access.variable v) (AccessTree.path x steps args) es said
variable_called r x steps args v es said says kept is c e =
    map_there (λ (c : Called Known). IsCall (sight_of r).uses c.what es said) (λ (s : Stand Known). taking [] [] (variable s.known))
    (stand_named (sight_of r).vars (text_of x)) c (there r kept x steps args (Access.variable v) is c e) (λ s found. says kept s found)

pub con_called : (r : Reader) (x : Ident) (steps : StepTrees) (args : ArgTrees) (type : ℕ) (con : ConTree) (es : Tes) (said : Said)
    → ((k : ℕ) → con_number (sight_of r).tables (plain_kind (base.Declared type)) (text_of (con_name con)) ≡ Some k → said ≡ said_term (te.Con k es))
    → IsCalled r (Access.constructor type con) (AccessTree.path x steps args) es said
con_called r x steps args type declared es said says kept is c e =
    map_there (λ (c : Called Known). IsCall (sight_of r).uses c.what es said)
    (λ j. taking [] (param_kinds (sight_of r).tables.names (con_fields declared)) (constructor j))
    (con_number (sight_of r).tables (plain_kind (base.Declared type)) (text_of (con_name declared))) c
    (there r kept x steps args (Access.constructor type declared) is c e) says

pub use_called : (r : Reader) (x : Ident) (steps : StepTrees) (args : ArgTrees) (decl : ℕ) (q : QueryTree) (es : Tes) (said : Said)
    → IsUse (saids_in r.bodies.now) said decl es
    → IsCalled r (Access.use_of decl q) (AccessTree.path x steps args) es said
use_called r x steps args decl q es said says kept is c e =
    let made : taking [] (param_kinds (sight_of r).tables.names (query_params q)) (use_of decl q) ≡ c =
    one (there r kept x steps args (Access.use_of decl q) is c e) in
    subst (λ (c : Called Known). IsCall (sight_of r).uses c.what es said) made says
  where
    one : {X : Type 0} {y z : X} → Some y ≡ Some z → y ≡ z
    one e = cc

pub proc_called : (r : Reader) (x : Ident) (steps : StepTrees) (args : ArgTrees) (p : ProcTree) (es : Tes) (said : Said)
    → ((k : ℕ) → proc_number (sight_of r).tables (proc_name p) ≡ Some k → said ≡ said_term (te.InfoTerm k es))
    → IsCalled r (Access.procedure p) (AccessTree.path x steps args) es said
proc_called r x steps args p es said says kept is c e =
    map_there (λ (c : Called Known). IsCall (sight_of r).uses c.what es said)
    (λ j. taking [] (param_kinds (sight_of r).tables.names (proc_params p)) (procedure j))
    (proc_number (sight_of r).tables (proc_name p)) c (there r kept x steps args (Access.procedure p) is c e) says

pub returned_called : (r : Reader) (x : Ident) (steps : StepTrees) (args : ArgTrees) (p : ProcTree) (es : Tes) (said : Said)
    → ((k : ℕ) → proc_number (sight_of r).tables (proc_name p) ≡ Some k → IsOutcome k es said)
    → IsCalled r (Access.returned p) (AccessTree.path x steps args) es said
returned_called r x steps args p es said says kept is c e =
    map_there (λ (c : Called Known). IsCall (sight_of r).uses c.what es said)
    (λ j. taking [] (result_args (sight_of r).tables.names (proc_result p)) (outcome j))
    (proc_number (sight_of r).tables (proc_name p)) c (there r kept x steps args (Access.returned p) is c e) says

over_does : (k : Kind) (d : code_does.Does) → (member_over k d).does ≡ does_view d
over_does k does.Adds = refl
over_does k does.Removes = refl
over_does k does.Assigns = refl
over_does k does.Increments = refl
over_does k does.Deletes = refl
over_does k does.Contains = refl
over_does k does.HasKey = refl
over_does k does.GetsValue = refl
over_does k does.GetsSum = refl

pub member_called : (r : Reader) (x : Ident) (steps : StepTrees) (args : ArgTrees) (mem : code_member.Member) (es : Tes) (said : Said) (end : CrdtTree) (number : ℕ)
    → ((c : CrdtTree) (q : Reached) → way_from (sight_of r).tables.names (find_var r.vars (text_of x)) x ≡ Way.came c
    → follow (sight_of r).tables.names steps c ≡ Some q → end ≡ q.crdt)
    → ((y : Name) (st : StepTrees) (m : Member) (c : Called Ex) (leads : LeadsTo (sight_of r).tables y st end m) → m.does ≡ does_view mem.does
    → on_root (sight_of r).tables m st leads.root ≡ Some c → c ≡ taking (keys_on leads.reached.path) m.args (callee_of m.does number))
    → IsCall (sight_of r).uses (callee_of (does_view mem.does) number) es said
    → IsCalled r (Access.member (member_view (sight_of r).tables.names mem)) (AccessTree.path x steps args) es said
member_called r x steps args mem es said end number ends numbers says kept is c e =
    let s = sight_of r in
    let t = s.tables in
    let n = t.names in
    let m = member_view n mem in
    let path = AccessTree.path x steps args in
    let f = known_ex [] s.binders in
    let found : called t (vars_in s []) path ≡ Some (called_map f c) =
    sym (called_goes f t s.vars path) ∙ ap (option_map (called_map f)) e in
    let at : of_access t (vars_in s []) x steps (Access.member m) ≡ Some (called_map f c) =
    ap (of_access t (vars_in s []) x steps)
    (is ∙ ap (λ (vs : List Var). access_of n vs path) (sym (vars_same s [] ∙ kept.rules))) ∙ found in
    let l = is_led (kinds_view r.tables.now.kinds) (vars_in s []) (find_var r.vars (text_of x)) x steps m (called_map f c) (sym is) at in
    let end_is : end ≡ l.reached.crdt =
    ends l.crdt l.reached l.begins (subst (λ (d : CrdtTree). follow n steps d ≡ Some l.reached) l.same l.follows) in
    let acts : m.does ≡ does_view mem.does = over_does _ mem.does in
    let made = numbers (text_of x) steps m (called_map f c) (leads_to l end end_is) acts l.on in
    let what : c.what ≡ callee_of m.does number =
    callee_is f m.does number c.what (ap (λ (z : Called Ex). z.what) made) in
    subst (λ (w : Callee Known). IsCall s.uses w es said) (sym (what ∙ ap (λ d. callee_of d number) acts)) says

-- of an access that is the same
pub recalled : {r : Reader} {what other : Access} {accessed same : AccessTree} {es : Tes} {said : Said} → what ≡ other → accessed ≡ same
    → IsCalled r other same es said → IsCalled r what accessed es said
recalled {r} {what} {other} {accessed} {same} {es} {said} e i is =
    subst (λ (a : Access). IsCalled r a accessed es said) (sym e) (subst (λ (p : AccessTree). IsCalled r other p es said) (sym i) is)

-- with its last argument
pub outcome_last : (proc : ℕ) (ys : List Te) (v : Te) (made : Said) → made ≡ said_term (te.ResultWith proc v)
    → IsOutcome proc (tes_of (ys ++ v ∷ [])) made
outcome_last proc [] v made is = is
outcome_last proc (y ∷ []) v made is = tt
outcome_last proc (y ∷ z ∷ zs) v made is = tt
