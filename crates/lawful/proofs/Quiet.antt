-- Where calls may not be spoken of, the queries that are used don't speak of them.
use Rattle.std.proofs.Common.{◌≡◌, ◌+◌, ◌<◌, ℕ, Bool, true, false, not, ◌&&◌, List, [], ◌∷◌, ◌++◌, Option, Some, None, refl, ap, subst, sym, ◌∙◌, arith, inl, inr}
use Rattle.std.specs.Prelude.{nat_eq, nat_le, slice_get, is_some}
use Rattle.std.specs.List.{AllByRecursion}
use Rattle.std.proofs.lemmas.Bool.{eqb-true, eq-eqb, leb-false, not-false, or_cases, or_left, or_right}
use Rattle.std.proofs.lemmas.List.Folds.{list_any-append}
use Rattle.rp_span.specs.declared.Span.{Span}
use Rattle.rp_grammar.specs.Trees.{Ident, TypeTree, ParamTree, ExprTree, ExprForm, AccessTree, StepTree, StepTrees, QueryTree, ProcTree, DeclForm, DeclTree}
use Rattle.type_rules.specs.declared.role.Role.TheVariants as role
use Rattle.type_rules.specs.Names.{Names, Entry, Declared, text_of, entry_named}
use Rattle.type_rules.specs.Kinds.{kind_of}
use Rattle.type_rules.specs.Paths.{Way, walked}
use Rattle.type_rules.specs.Accesses.{Var, find_var, Access, of_way, of_proc, of_declared, of_entry, of_name, access_of}
use Rattle.type_rules.specs.Queries.{names_of}
use Rattle.type_rules.specs.Sites.{Scope, Site}
use Rattle.type_rules.specs.ExprSites.{asks, expr_sites}
use Rattle.type_rules.specs.DeclSites.{scope_for, param_sites}
use Rattle.type_rules.specs.TextSites.{used_by, used_at, used, is_number_of, sites_of}
use Rattle.type_rules.specs.Rules.{rules, rule, rule03, root_of, is_query, is_late_query, late_query}
use Rattle.type_rules.specs.Faults.{IsLawful}
use Rattle.lawful.specs.Kept.{uses_quietly, is_quiet, uses_behind, may_speak}
use Rattle.lawful.proofs.Basics.{when_not}
use Rattle.lawful.proofs.Places.{Lawfully, all_parts, all_lawful, is_one_of}
use Rattle.lawful.proofs.Behind.{Has, has_left, has_right, query_there, used_behind}
use Rattle.lawful.proofs.Inside.{Inside, AllInside, inside}

abbrev pub AllQuiet : Names → (ℕ → Bool) → List Site → Type 0
AllQuiet n words ss = AllByRecursion (λ s. is_quiet n words s ≡ true) ss

-- # Where calls may be spoken of, every use is quiet

says : (words : ℕ → Bool) (speaks : Bool) (acc : Access) → speaks ≡ true → uses_quietly words speaks acc ≡ true
says words speaks (Access.use_of k q) e = or_left speaks (not (words k)) e
says words speaks _ e = refl

speaks_there : (n : Names) (words : ℕ → Bool) (decl : ℕ) (s : Site) → Inside decl true s → is_quiet n words s ≡ true
speaks_there n words decl (Site.place sc w (ExprTree.node at (ExprForm.access a))) h = says words sc.words (access_of n sc.vars a) h.1
speaks_there n words decl _ h = refl

pub all_speak : (n : Names) (words : ℕ → Bool) (decl : ℕ) (ss : List Site) → AllInside decl true ss → AllQuiet n words ss
all_speak n words decl [] all = tt
all_speak n words decl (s ∷ ss) all = (speaks_there n words decl s all.0, all_speak n words decl ss all.1)

-- # Uses of queries that don't speak are quiet

quiet_access : (words : ℕ → Bool) (speaks : Bool) (acc : Access) → ((j : ℕ) → Has j (used_by acc) → words j ≡ false)
    → uses_quietly words speaks acc ≡ true
quiet_access words speaks (Access.use_of k q) silent =
    or_right speaks (not (words k)) (ap not (silent k (or_left (nat_eq k k) false (eq-eqb k k refl))))
quiet_access words speaks _ silent = refl

quiet_there : (n : Names) (words : ℕ → Bool) (s : Site) → ((j : ℕ) → Has j (used_at n s) → words j ≡ false) → is_quiet n words s ≡ true
quiet_there n words (Site.place sc w (ExprTree.node at (ExprForm.access a))) silent = quiet_access words sc.words (access_of n sc.vars a) silent
quiet_there n words _ silent = refl

pub all_quiet : (n : Names) (words : ℕ → Bool) (ss : List Site) → ((j : ℕ) → Has j (used n ss) → words j ≡ false) → AllQuiet n words ss
all_quiet n words [] silent = tt
all_quiet n words (s ∷ ss) silent = (
  quiet_there n words s (λ j e. silent j (has_left j (used_at n s) (used n ss) e)),
  all_quiet n words ss (λ j e. silent j (has_right j (used_at n s) (used n ss) e)),
)

-- # A query is used behind its declaration

no_way : (x : Ident) (w : Way) (j : ℕ) → Has j (used_by (of_way x w)) → ⊥
no_way x (Way.came c) j e = absurd cc
no_way x (Way.member m) j e = absurd cc
no_way x (Way.misfit at) j e = absurd cc

no_proc : (x : Ident) (p : ProcTree) (steps : StepTrees) (j : ℕ) → Has j (used_by (of_proc x p steps)) → ⊥
no_proc x p StepTrees.no_steps j e = absurd cc
no_proc x p (StepTrees.more_steps (StepTree.returned at) StepTrees.no_steps) j e = absurd cc
no_proc x p (StepTrees.more_steps s steps) j e = absurd cc

by_what : (n : Names) (decl k : ℕ) (x : Ident) (steps : StepTrees) (what : Declared) (j : ℕ) → (is_query what && nat_le decl k) ≡ false
    → Has j (used_by (of_declared n x steps k what)) → j < decl
by_what n decl k x steps (Declared.root c) j early e = absurd (no_way x (walked n (Way.came c) steps) j e)
by_what n decl k x steps (Declared.proc p) j early e = absurd (no_proc x p steps j e)
by_what n decl k x StepTrees.no_steps (Declared.con type c) j early e = absurd cc
by_what n decl k x (StepTrees.more_steps s steps) (Declared.con type c) j early e = absurd cc
by_what n decl k x (StepTrees.more_steps s steps) (Declared.query q) j early e = absurd cc
by_what n decl k x StepTrees.no_steps (Declared.query q) j early e = elim (or_cases (nat_eq j k) false e) [
  | inl h ↦
      let same : j ≡ k = eqb-true j k h in
      let less : k < decl = leb-false decl k early in omega (arith, same, less)
  | inr h ↦ absurd cc
]

by_entry : (n : Names) (decl : ℕ) (x : Ident) (steps : StepTrees) (o : Option Entry) (j : ℕ) → is_late_query decl o ≡ false
    → Has j (used_by (of_entry n x steps o)) → j < decl
by_entry n decl x steps None j early e = absurd cc
by_entry n decl x steps (Some entry) j early e = by_what n decl entry.decl x steps entry.what j early e

by_var : (n : Names) (decl : ℕ) (x : Ident) (steps : StepTrees) (o : Option Var) (j : ℕ)
    → (not (is_some o) && is_late_query decl (entry_named n (text_of x))) ≡ false → Has j (used_by (of_name n x steps o)) → j < decl
by_var n decl x StepTrees.no_steps (Some v) j early e = absurd cc
by_var n decl x (StepTrees.more_steps s steps) (Some v) j early e = absurd cc
by_var n decl x steps None j early e = by_entry n decl x steps (entry_named n (text_of x)) j early e

access_early : (n : Names) (decl : ℕ) (sc : Scope) (a : AccessTree) (j : ℕ) → sc.decl ≡ decl → late_query n sc (root_of a) ≡ None
    → Has j (used_by (access_of n sc.vars a)) → j < decl
access_early n decl sc (AccessTree.path x steps args) j is law e =
    subst (λ d. j < d) is (by_var n sc.decl x steps (find_var sc.vars (text_of x)) j (when_not _ _ law) e)

used_early : (n : Names) (decl : ℕ) (speaks : Bool) (s : Site) → Lawfully n s → Inside decl speaks s → (j : ℕ) → Has j (used_at n s) → j < decl
used_early n decl speaks (Site.place sc w (ExprTree.node at (ExprForm.access a))) law h j e =
    access_early n decl sc a j h.0 (law (rule 3 rule03) (is_one_of rules 2 _ refl)) e
used_early n decl speaks (Site.statement sc a) law h j e =
    access_early n decl sc a j h.0 (law (rule 3 rule03) (is_one_of rules 2 _ refl)) e
used_early n decl speaks _ law h j e = absurd cc

pub all_early : (n : Names) (decl : ℕ) (speaks : Bool) (ss : List Site) → AllByRecursion (Lawfully n) ss → AllInside decl speaks ss
    → (j : ℕ) → Has j (used n ss) → j < decl
all_early n decl speaks [] laws all j e = absurd cc
all_early n decl speaks (s ∷ ss) laws all j e =
    elim (or_cases (is_number_of j (used_at n s)) (is_number_of j (used n ss)) (sym (list_any-append (nat_eq j) (used_at n s) (used n ss)) ∙ e)) [
      | inl h ↦ used_early n decl speaks s laws.0 all.0 j h
      | inr h ↦ all_early n decl speaks ss laws.1 all.1 j h
    ]

-- # The body of a query

-- what is used at some of the places
used_later : (n : Names) (ss rs : List Site) (j : ℕ) → Has j (used n rs) → Has j (used n (ss ++ rs))
used_later n [] rs j e = e
used_later n (s ∷ ss) rs j e = has_right j (used_at n s) (used n (ss ++ rs)) (used_later n ss rs j e)

abbrev pub body_sites : List DeclTree → ℕ → Bool → List ParamTree → TypeTree → ExprTree → List Site
body_sites tree m speaks params result body =
    expr_sites (names_of tree) (scope_for (names_of tree) m speaks params) (asks 21 (kind_of (names_of tree) result)) body

pub body_there : (P : Site → Type 0) (tree : List DeclTree) → AllByRecursion P (sites_of (names_of tree) tree) → (m : ℕ) (at : Span) (name : Ident)
    (params : List ParamTree) (result : TypeTree) (body : ExprTree)
    → slice_get tree m ≡ Some (DeclTree.node at (DeclForm.query (QueryTree.query name params result body)))
    → AllByRecursion P (body_sites tree m (may_speak tree m) params result body)
body_there P tree all m at name params result body there =
    (all_parts P (param_sites (names_of tree) m role.QueryParam params) _
    (query_there P tree all m at (QueryTree.query name params result body) there)).1.1

pub body_quiet : (tree : List DeclTree) → IsLawful tree → (m : ℕ) (at : Span) (name : Ident) (params : List ParamTree) (result : TypeTree) (body : ExprTree)
    → slice_get tree m ≡ Some (DeclTree.node at (DeclForm.query (QueryTree.query name params result body)))
    → AllQuiet (names_of tree) (may_speak tree) (body_sites tree m (may_speak tree m) params result body)
body_quiet tree lawful m at name params result body there =
    by_words tree m at name params result body there (may_speak tree m) refl
    (body_there (Lawfully (names_of tree)) tree (all_lawful tree lawful) m at name params result body there) where
      by_words : (tree : List DeclTree) (m : ℕ) (at : Span) (name : Ident) (params : List ParamTree) (result : TypeTree) (body : ExprTree)
          → slice_get tree m ≡ Some (DeclTree.node at (DeclForm.query (QueryTree.query name params result body)))
          → (speaks : Bool) → may_speak tree m ≡ speaks
          → AllByRecursion (Lawfully (names_of tree)) (body_sites tree m speaks params result body)
          → AllQuiet (names_of tree) (may_speak tree) (body_sites tree m speaks params result body)
      by_words tree m at name params result body there true is laws =
          let n = names_of tree in
          all_speak n (may_speak tree) m (body_sites tree m true params result body)
          (inside m true n (scope_for n m true params) (asks 21 (kind_of n result)) body (refl, refl))
      by_words tree m at name params result body there false is laws =
          let n = names_of tree in
          let here = body_sites tree m false params result body in
          let all = inside m false n (scope_for n m false params) (asks 21 (kind_of n result)) body (refl, refl) in
          let used_too : Has m (uses_behind n 0 tree m) = not-false _ is in
          let number : 0 + m ≡ m = omega arith in
          all_quiet n (may_speak tree) here (λ j e.
          ap not (used_behind n 0 tree m m j j at (DeclForm.query (QueryTree.query name params result body)) number there
          (used_too, used_later n (param_sites n m role.QueryParam params) (Site.written m role.QueryResult result ∷ here) j e)
          (all_early n m false here laws all j e)))
