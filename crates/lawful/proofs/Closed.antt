-- No expression of a lawful text has the type of a `none` of which no type is asked.
use Rattle.std.proofs.Common.{◌≡◌, ℕ, zero, suc, Bool, true, false, ◌&&◌, ◌==◌, cond, List, [], ◌∷◌, ◌++◌, map, Option, Some, None, refl}
use Rattle.std.specs.Prelude.{find, nat_eq, slice_get}
use Rattle.std.specs.List.{AllByRecursion}
use Rattle.std.proofs.lemmas.Bool.{and_parts, not-false, not-true, or_parts}
use Rattle.rp_span.specs.declared.Span.{Span}
use Rattle.rp_grammar.specs.declared.operator.CallWord.{CallWord}
use Rattle.rp_grammar.specs.declared.operator.CallWord.TheVariants as called
use Rattle.rp_grammar.specs.Trees.{Ident, TypeTree, TypeForm, ParamTree, ConTree, CrdtTree, CrdtForm, PatternTree, ExprTree, ExprForm, ExprTrees, ExprArmTree, ExprArmTrees, AccessTree, StepTree, StepTrees, ArgTrees, QueryTree, ProcTree}
use Rattle.type_rules.specs.declared.kind.Kind.{Kind}
use Rattle.type_rules.specs.declared.kind.Base.{Base}
use Rattle.type_rules.specs.declared.kind.Base.TheVariants as base
use Rattle.type_rules.specs.Names.{Name, Names, Declared, Entry, TypeEntry, TypeSort, con_fields, entry_named, param_type, same_name, text_of, type_number}
use Rattle.type_rules.specs.Kinds.{form_kind, is_open, kind_of, named_kind, param_kinds, unknown_kind}
use Rattle.type_rules.specs.Accesses.{Access, Var, access_kind, alone, find_var, of_declared, of_entry, of_name, of_proc, of_way}
use Rattle.type_rules.specs.Paths.{MapParts, Member, Way, at_field, form_of, map_parts, member_of, members_of, past_dot, past_key, stepped, to_member, walked}
use Rattle.type_rules.specs.Typing.{called_kind, form_type, none_kind, type_of}
use Rattle.type_rules.specs.Sites.{Scope, Want, Site}
use Rattle.type_rules.specs.Matches.{Case, bound_sites, bound_var, case_fields, case_named, cases_of, con_case, declared_cases, find_case, first_kind, maybe_cases, other_kinds, pattern_kinds, pattern_name, pattern_vars, sort_cases, with_bound}
use Rattle.type_rules.specs.ExprSites.{arg_sites, arm_sites, expr_sites, form_sites, given_sites, held, key_sites, matched, operand_sites, pattern_sites, quantified_var, step_sites, with_pattern, with_var}
use Rattle.type_rules.specs.Rules.{is_maybe_asked, rule, rules, rule10}
use Rattle.lawful.proofs.Basics.{when_not}
use Rattle.lawful.proofs.Places.{Lawfully, all_both, all_parts, is_one_of}

abbrev pub IsClosed : Kind → Type 0
IsClosed k = is_open k.base ≡ false

abbrev pub AllClosed : List Kind → Type 0
AllClosed ks = AllByRecursion IsClosed ks

abbrev pub VarClosed : Var → Type 0
VarClosed v = IsClosed v.kind

abbrev pub VarsClosed : List Var → Type 0
VarsClosed vs = AllByRecursion VarClosed vs

-- # Written types

named_closed : (o : Option ℕ) → IsClosed (named_kind o)
named_closed None = refl
named_closed (Some type) = refl

mutual
  pub written_closed : (n : Names) (t : TypeTree) → IsClosed (kind_of n t)
  written_closed n (TypeTree.node at form) = form_closed n form

  form_closed : (n : Names) (form : TypeForm) → IsClosed (form_kind n form)
  form_closed n (TypeForm.named x) = named_closed (type_number n x)
  form_closed n TypeForm.bool = refl
  form_closed n TypeForm.int = refl
  form_closed n TypeForm.text = refl
  form_closed n (TypeForm.maybe t) = written_closed n t
  form_closed n TypeForm.call = refl
  form_closed n TypeForm.invocation = refl

pub params_closed : (n : Names) (params : List ParamTree) → AllClosed (param_kinds n params)
params_closed n [] = tt
params_closed n (q ∷ params) = (written_closed n (param_type q), params_closed n params)

-- # Fields of constructors

abbrev CaseClosed : Case → Type 0
CaseClosed c = AllClosed c.fields

cons_closed : (n : Names) (cons : List ConTree) → AllByRecursion CaseClosed (map (con_case n) cons)
cons_closed n [] = tt
cons_closed n (c ∷ cons) = (params_closed n (con_fields c), cons_closed n cons)

abbrev CasesClosed : Option (List Case) → Type 0
CasesClosed None = Unit {0}
CasesClosed (Some cs) = AllByRecursion CaseClosed cs

sort_closed : (n : Names) (sort : TypeSort) → CasesClosed (sort_cases n sort)
sort_closed n TypeSort.id_type = tt
sort_closed n TypeSort.opaque = tt
sort_closed n (TypeSort.datatype cons) = cons_closed n cons

declared_closed : (n : Names) (o : Option TypeEntry) → CasesClosed (declared_cases n o)
declared_closed n None = tt
declared_closed n (Some e) = sort_closed n e.sort

cases_closed : (n : Names) (b : Base) (m : ℕ) → is_open b ≡ false → CasesClosed (cases_of n (record { base = b; maybes = m }))
cases_closed n b (suc m) h = by_test (record { base = b; maybes = m }) (is_open b && m == 0) h where
  by_test : (k : Kind) (none : Bool) → IsClosed k → CasesClosed (cond none None (Some (maybe_cases k)))
  by_test k true h = tt
  by_test k false h = (tt, ((h, tt), tt))
cases_closed n base.Bool zero h = (tt, (tt, tt))
cases_closed n (base.Declared type) zero h = declared_closed n (slice_get n.types type)
cases_closed n base.Int zero h = tt
cases_closed n base.Text zero h = tt
cases_closed n base.Call zero h = tt
cases_closed n base.Invocation zero h = tt
cases_closed n base.Operation zero h = tt
cases_closed n base.Info zero h = tt
cases_closed n base.Outcome zero h = tt
cases_closed n base.Unknown zero h = tt
cases_closed n base.Open zero h = absurd cc

found_closed : (cs : List Case) (x : Name) → AllByRecursion CaseClosed cs → AllClosed (case_fields (find_case cs x))
found_closed [] x all = tt
found_closed (c ∷ cs) x all = by_name c cs x (same_name c.name x) all.0 (found_closed cs x all.1) where
  by_name : (c : Case) (cs : List Case) (x : Name) (same : Bool) → CaseClosed c → AllClosed (case_fields (find_case cs x))
      → AllClosed (case_fields (cond same (Some c) (find_case cs x)))
  by_name c cs x true here rest = here
  by_name c cs x false here rest = rest

pub pattern_closed : (n : Names) (k : Kind) (x : Name) → IsClosed k → AllClosed (pattern_kinds n k x)
pattern_closed n k x h = by_cases n x (cases_of n k) (cases_closed n k.base k.maybes h) where
  by_cases : (n : Names) (x : Name) (o : Option (List Case)) → CasesClosed o → AllClosed (case_fields (case_named o x))
  by_cases n x None all = tt
  by_cases n x (Some cs) all = found_closed cs x all

first_closed : (ks : List Kind) → AllClosed ks → IsClosed (first_kind ks)
first_closed [] all = refl
first_closed (k ∷ ks) all = all.0

others_closed : (ks : List Kind) → AllClosed ks → AllClosed (other_kinds ks)
others_closed [] all = tt
others_closed (k ∷ ks) all = all.1

pub bound_closed : (vs : List Var) (xs : List Ident) (ks : List Kind) → VarsClosed vs → AllClosed ks → VarsClosed (with_bound vs xs ks)
bound_closed vs [] ks vars all = vars
bound_closed vs (x ∷ xs) ks vars all =
    bound_closed (vs ++ bound_var x (first_kind ks) ∷ []) xs (other_kinds ks)
    (all_both VarClosed vs (bound_var x (first_kind ks) ∷ []) vars (first_closed ks all, tt)) (others_closed ks all)

-- # Accesses

abbrev MemberClosed : Member → Type 0
MemberClosed m = IsClosed m.result

members_closed : (n : Names) (form : CrdtForm) → AllByRecursion MemberClosed (members_of n form)
members_closed n (CrdtForm.set_aw t) = (refl, (refl, (refl, tt)))
members_closed n (CrdtForm.set_rw t) = (refl, (refl, (refl, tt)))
members_closed n (CrdtForm.reg t) = (refl, (written_closed n t, tt))
members_closed n (CrdtForm.mv_reg t) = (refl, (refl, tt))
members_closed n CrdtForm.counter = (refl, (refl, tt))
members_closed n (CrdtForm.map_uw t c) = (refl, (refl, tt))
members_closed n (CrdtForm.map_dw t c) = (refl, (refl, tt))
members_closed n (CrdtForm.struct parts) = tt

abbrev FoundClosed : Option Member → Type 0
FoundClosed None = Unit {0}
FoundClosed (Some m) = MemberClosed m

member_found : (x : Name) (ms : List Member) → AllByRecursion MemberClosed ms → FoundClosed (find (λ (m : Member). same_name m.name x) ms)
member_found x [] all = tt
member_found x (m ∷ ms) all = by_name x m ms (same_name m.name x) all.0 (member_found x ms all.1) where
  by_name : (x : Name) (m : Member) (ms : List Member) (same : Bool) → MemberClosed m → FoundClosed (find (λ (z : Member). same_name z.name x) ms)
      → FoundClosed (cond same (Some m) (find (λ (z : Member). same_name z.name x) ms))
  by_name x m ms true here rest = here
  by_name x m ms false here rest = rest

abbrev WayClosed : Way → Type 0
WayClosed (Way.came c) = Unit {0}
WayClosed (Way.member m) = MemberClosed m
WayClosed (Way.misfit at) = Unit {0}

to_closed : (x : Ident) (o : Option Member) → FoundClosed o → WayClosed (to_member x o)
to_closed x None h = tt
to_closed x (Some m) h = h

dot_closed : (n : Names) (c : CrdtTree) (x : Ident) (o : Option CrdtTree) → WayClosed (past_dot n c x o)
dot_closed n c x (Some f) = tt
dot_closed n c x None = to_closed x (member_of n c (text_of x)) (member_found (text_of x) (members_of n (form_of c)) (members_closed n (form_of c)))

step_closed : (n : Names) (way : Way) (s : StepTree) → WayClosed (stepped n way s)
step_closed n (Way.came c) (StepTree.dot x) = dot_closed n c x (at_field c (text_of x))
step_closed n (Way.came c) (StepTree.returned at) = tt
step_closed n (Way.came c) (StepTree.key e) = key_closed e (map_parts n c) where
  key_closed : (e : ExprTree) (o : Option MapParts) → WayClosed (past_key e o)
  key_closed e None = tt
  key_closed e (Some parts) = tt
step_closed n (Way.member m) s = tt
step_closed n (Way.misfit at) s = tt

walk_closed : (n : Names) (way : Way) (steps : StepTrees) → WayClosed way → WayClosed (walked n way steps)
walk_closed n way StepTrees.no_steps h = h
walk_closed n way (StepTrees.more_steps s steps) h = walk_closed n (stepped n way s) steps (step_closed n way s)

way_kind : (n : Names) (x : Ident) (way : Way) → WayClosed way → IsClosed (access_kind n (of_way x way))
way_kind n x (Way.came c) h = refl
way_kind n x (Way.member m) h = h
way_kind n x (Way.misfit at) h = refl

alone_closed : (n : Names) (x : Ident) (steps : StepTrees) (a : Access) → IsClosed (access_kind n a) → IsClosed (access_kind n (alone x steps a))
alone_closed n x StepTrees.no_steps a h = h
alone_closed n x (StepTrees.more_steps s steps) a h = refl

proc_closed : (n : Names) (x : Ident) (q : ProcTree) (steps : StepTrees) → IsClosed (access_kind n (of_proc x q steps))
proc_closed n x q StepTrees.no_steps = refl
proc_closed n x q (StepTrees.more_steps (StepTree.returned at) StepTrees.no_steps) = refl
proc_closed n x q (StepTrees.more_steps (StepTree.returned at) (StepTrees.more_steps s steps)) = refl
proc_closed n x q (StepTrees.more_steps (StepTree.dot y) steps) = refl
proc_closed n x q (StepTrees.more_steps (StepTree.key e) steps) = refl

what_closed : (n : Names) (x : Ident) (steps : StepTrees) (k : ℕ) (what : Declared) → IsClosed (access_kind n (of_declared n x steps k what))
what_closed n x steps k (Declared.root c) = way_kind n x (walked n (Way.came c) steps) (walk_closed n (Way.came c) steps tt)
what_closed n x steps k (Declared.query (QueryTree.query y params result body)) =
    alone_closed n x steps (Access.use_of k (QueryTree.query y params result body)) (written_closed n result)
what_closed n x steps k (Declared.proc q) = proc_closed n x q steps
what_closed n x steps k (Declared.con type c) = alone_closed n x steps (Access.constructor type c) refl

entry_closed : (n : Names) (x : Ident) (steps : StepTrees) (o : Option Entry) → IsClosed (access_kind n (of_entry n x steps o))
entry_closed n x steps None = refl
entry_closed n x steps (Some e) = what_closed n x steps e.decl e.what

access_closed : (n : Names) (vs : List Var) (x : Ident) (steps : StepTrees) (y : Name) → VarsClosed vs → IsClosed (access_kind n (of_name n x steps (find_var vs y)))
access_closed n [] x steps y vars = entry_closed n x steps (entry_named n (text_of x))
access_closed n (v ∷ vs) x steps y vars = by_name n v vs x steps y (same_name v.name y) vars.0 (access_closed n vs x steps y vars.1) where
  by_name : (n : Names) (v : Var) (vs : List Var) (x : Ident) (steps : StepTrees) (y : Name) (same : Bool) → VarClosed v
      → IsClosed (access_kind n (of_name n x steps (find_var vs y))) → IsClosed (access_kind n (of_name n x steps (cond same (Some v) (find_var vs y))))
  by_name n v vs x steps y true here rest = alone_closed n x steps (Access.variable v) here
  by_name n v vs x steps y false here rest = rest

-- # Types of expressions

none_closed : (o : Option Kind) → is_maybe_asked o ≡ true → IsClosed (none_kind o)
none_closed None e = absurd cc
none_closed (Some k) e = by_maybes k (nat_eq k.maybes 0) (not-true (is_open k.base) (and_parts _ _ e).0) where
  by_maybes : (k : Kind) (bare : Bool) → IsClosed k → IsClosed (cond bare unknown_kind k)
  by_maybes k true h = refl
  by_maybes k false h = h

word_closed : (w : CallWord) → IsClosed (called_kind w)
word_closed called.Visible = refl
word_closed called.Before = refl
word_closed called.Same = refl
word_closed called.Op = refl
word_closed called.Origin = refl
word_closed called.Info = refl
word_closed called.Result = refl

mutual
  pub type_closed : (n : Names) (sc : Scope) (w : Want) (e : ExprTree) → VarsClosed sc.vars → AllByRecursion (Lawfully n) (expr_sites n sc w e)
      → IsClosed (type_of n sc.vars w.asked e)
  type_closed n sc w (ExprTree.node at form) vars laws = form_type_closed n sc w at form vars laws

  form_type_closed : (n : Names) (sc : Scope) (w : Want) (at : Span) (form : ExprForm) → VarsClosed sc.vars
      → AllByRecursion (Lawfully n) (expr_sites n sc w (ExprTree.node at form)) → IsClosed (form_type n sc.vars w.asked form)
  form_type_closed n sc w at ExprForm.none_word vars laws =
      let parts = or_parts _ _ (or_parts _ _ (when_not _ _ (laws.0 (rule 10 rule10) (is_one_of rules 9 _ refl)))).0 in
      none_closed w.asked (not-false _ parts.1)
  form_type_closed n sc w at (ExprForm.some_of e) vars laws = type_closed n sc (held w.asked) e vars laws.1
  form_type_closed n sc w at (ExprForm.access (AccessTree.path x steps args)) vars laws = access_closed n sc.vars x steps (text_of x) vars
  form_type_closed n sc w at (ExprForm.call word es) vars laws = word_closed word
  form_type_closed n sc w at (ExprForm.implies a b) vars laws = refl
  form_type_closed n sc w at (ExprForm.or es) vars laws = refl
  form_type_closed n sc w at (ExprForm.and es) vars laws = refl
  form_type_closed n sc w at (ExprForm.not e) vars laws = refl
  form_type_closed n sc w at (ExprForm.forall q e) vars laws = refl
  form_type_closed n sc w at (ExprForm.exists q e) vars laws = refl
  form_type_closed n sc w at (ExprForm.compare c a b) vars laws = refl
  form_type_closed n sc w at (ExprForm.plus a b) vars laws = refl
  form_type_closed n sc w at (ExprForm.minus a b) vars laws = refl
  form_type_closed n sc w at (ExprForm.int i) vars laws = refl
  form_type_closed n sc w at (ExprForm.str bytes) vars laws = refl
  form_type_closed n sc w at (ExprForm.truth b) vars laws = refl
  form_type_closed n sc w at ExprForm.unreturned vars laws = refl
  form_type_closed n sc w at ExprForm.tx vars laws = refl
  form_type_closed n sc w at (ExprForm.match e arms) vars laws = refl

-- # All places of an expression

-- the type of what stands at the place
abbrev pub TypeClosed : Names → Site → Type 0
TypeClosed n (Site.place sc w e) = IsClosed (type_of n sc.vars w.asked e)
TypeClosed n _ = Unit {0}

abbrev pub AllTypes : Names → List Site → Type 0
AllTypes n ss = AllByRecursion (TypeClosed n) ss

pub join_types : (n : Names) (ss rs : List Site) → AllTypes n ss → AllTypes n rs → AllTypes n (ss ++ rs)
join_types n ss rs a b = all_both (TypeClosed n) ss rs a b

bound_types : (n : Names) (vs : List Var) (xs : List Ident) (ks : List Kind) → AllTypes n (bound_sites vs xs ks)
bound_types n vs [] ks = tt
bound_types n vs (x ∷ xs) ks = (tt, bound_types n _ xs _)

pub pattern_types : (n : Names) (vs : List Var) (k : Kind) (before : List Name) (q : PatternTree) → AllTypes n (pattern_sites n vs k before q)
pattern_types n vs k before q = (tt, bound_types n vs _ _)

abbrev Laws : Names → List Site → Type 0
Laws n ss = AllByRecursion (Lawfully n) ss

quantified_closed : (n : Names) (sc : Scope) (q : ParamTree) → VarsClosed sc.vars → VarsClosed (with_var sc (quantified_var n q)).vars
quantified_closed n sc q vars = all_both VarClosed sc.vars (quantified_var n q ∷ []) vars (written_closed n (param_type q), tt)

mutual
  pub types_closed : (n : Names) (sc : Scope) (w : Want) (e : ExprTree) → VarsClosed sc.vars → Laws n (expr_sites n sc w e) → AllTypes n (expr_sites n sc w e)
  types_closed n sc w (ExprTree.node at form) vars laws =
      (form_type_closed n sc w at form vars laws, form_types n sc w at form vars laws.1)

  form_types : (n : Names) (sc : Scope) (w : Want) (at : Span) (form : ExprForm) → VarsClosed sc.vars → Laws n (form_sites n sc w at form)
      → AllTypes n (form_sites n sc w at form)
  form_types n sc w at (ExprForm.implies a b) vars laws =
      let p = all_parts (Lawfully n) _ _ laws in join_types n _ _ (types_closed n sc _ a vars p.0) (types_closed n sc _ b vars p.1)
  form_types n sc w at (ExprForm.or es) vars laws = operand_types n sc es vars laws
  form_types n sc w at (ExprForm.and es) vars laws = operand_types n sc es vars laws
  form_types n sc w at (ExprForm.not e) vars laws = types_closed n sc _ e vars laws
  form_types n sc w at (ExprForm.forall q e) vars laws =
      (tt, (tt, types_closed n (with_var sc (quantified_var n q)) _ e (quantified_closed n sc q vars) laws.1.1))
  form_types n sc w at (ExprForm.exists q e) vars laws =
      (tt, (tt, types_closed n (with_var sc (quantified_var n q)) _ e (quantified_closed n sc q vars) laws.1.1))
  form_types n sc w at (ExprForm.compare c a b) vars laws =
      let p = all_parts (Lawfully n) _ _ laws in join_types n _ _ (types_closed n sc _ a vars p.0) (types_closed n sc _ b vars p.1)
  form_types n sc w at (ExprForm.plus a b) vars laws =
      let p = all_parts (Lawfully n) _ _ laws in join_types n _ _ (types_closed n sc _ a vars p.0) (types_closed n sc _ b vars p.1)
  form_types n sc w at (ExprForm.minus a b) vars laws =
      let p = all_parts (Lawfully n) _ _ laws in join_types n _ _ (types_closed n sc _ a vars p.0) (types_closed n sc _ b vars p.1)
  form_types n sc w at (ExprForm.int i) vars laws = tt
  form_types n sc w at (ExprForm.str bytes) vars laws = tt
  form_types n sc w at (ExprForm.truth b) vars laws = tt
  form_types n sc w at ExprForm.none_word vars laws = tt
  form_types n sc w at (ExprForm.some_of e) vars laws = types_closed n sc _ e vars laws
  form_types n sc w at ExprForm.unreturned vars laws = tt
  form_types n sc w at ExprForm.tx vars laws = tt
  form_types n sc w at (ExprForm.call word es) vars laws = arg_types n sc _ _ es vars laws
  form_types n sc w at (ExprForm.match e arms) vars laws =
      let p = all_parts (Lawfully n) (expr_sites n sc matched e) _ laws in
      join_types n (expr_sites n sc matched e) _ (types_closed n sc matched e vars p.0)
      (tt, arm_types n sc (type_of n sc.vars None e) [] arms vars (type_closed n sc matched e vars p.0) p.1.1)
  form_types n sc w at (ExprForm.access (AccessTree.path x steps args)) vars laws =
      let p = all_parts (Lawfully n) _ _ laws in join_types n _ _ (step_types n sc _ steps vars p.0) (given_types n sc _ args vars p.1)

  operand_types : (n : Names) (sc : Scope) (es : ExprTrees) → VarsClosed sc.vars → Laws n (operand_sites n sc es) → AllTypes n (operand_sites n sc es)
  operand_types n sc ExprTrees.no_exprs vars laws = tt
  operand_types n sc (ExprTrees.more_exprs e es) vars laws =
      let p = all_parts (Lawfully n) _ _ laws in join_types n _ _ (types_closed n sc _ e vars p.0) (operand_types n sc es vars p.1)

  arg_types : (n : Names) (sc : Scope) (plain : Bool) (ks : List Kind) (es : ExprTrees) → VarsClosed sc.vars → Laws n (arg_sites n sc plain ks es)
      → AllTypes n (arg_sites n sc plain ks es)
  arg_types n sc plain ks ExprTrees.no_exprs vars laws = tt
  arg_types n sc plain ks (ExprTrees.more_exprs e es) vars laws =
      let p = all_parts (Lawfully n) _ _ laws in join_types n _ _ (types_closed n sc _ e vars p.0) (arg_types n sc plain _ es vars p.1)

  arm_types : (n : Names) (sc : Scope) (k : Kind) (before : List Name) (arms : ExprArmTrees) → VarsClosed sc.vars → IsClosed k
      → Laws n (arm_sites n sc k before arms) → AllTypes n (arm_sites n sc k before arms)
  arm_types n sc k before ExprArmTrees.no_expr_arms vars h laws = tt
  arm_types n sc k before (ExprArmTrees.more_expr_arms (ExprArmTree.arm q e) arms) vars h laws =
      let front = pattern_sites n sc.vars k before q in
      let outer = all_parts (Lawfully n) (front ++ expr_sites n (with_pattern n sc k q) _ e) _ laws in
      let inner = all_parts (Lawfully n) front (expr_sites n (with_pattern n sc k q) _ e) outer.0 in
      let below = bound_closed sc.vars (pattern_vars q) (pattern_kinds n k (pattern_name q)) vars (pattern_closed n k (pattern_name q) h) in
      join_types n (front ++ expr_sites n (with_pattern n sc k q) _ e) _
      (join_types n front (expr_sites n (with_pattern n sc k q) _ e) (pattern_types n sc.vars k before q) (types_closed n (with_pattern n sc k q) _ e below inner.1))
      (arm_types n sc k _ arms vars h outer.1)

  pub step_types : (n : Names) (sc : Scope) (way : Way) (steps : StepTrees) → VarsClosed sc.vars → Laws n (step_sites n sc way steps)
      → AllTypes n (step_sites n sc way steps)
  step_types n sc way StepTrees.no_steps vars laws = tt
  step_types n sc way (StepTrees.more_steps s steps) vars laws =
      let p = all_parts (Lawfully n) (key_sites n sc way s) (step_sites n sc (stepped n way s) steps) laws in
      join_types n (key_sites n sc way s) _ (key_types n sc way s vars p.0) (step_types n sc (stepped n way s) steps vars p.1)

  key_types : (n : Names) (sc : Scope) (way : Way) (s : StepTree) → VarsClosed sc.vars → Laws n (key_sites n sc way s) → AllTypes n (key_sites n sc way s)
  key_types n sc way (StepTree.dot x) vars laws = tt
  key_types n sc way (StepTree.returned at) vars laws = tt
  key_types n sc way (StepTree.key e) vars laws = types_closed n sc _ e vars laws

  pub given_types : (n : Names) (sc : Scope) (ks : List Kind) (args : ArgTrees) → VarsClosed sc.vars → Laws n (given_sites n sc ks args)
      → AllTypes n (given_sites n sc ks args)
  given_types n sc ks ArgTrees.absent vars laws = tt
  given_types n sc ks (ArgTrees.given es) vars laws = arg_types n sc _ _ es vars laws
