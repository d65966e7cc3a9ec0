-- What a call is, whatever its variables stand for.
use Rattle.std.proofs.Common.{◌≡◌, ℕ, Bool, true, false, cond, List, [], ◌∷◌, map, Option, Some, None, refl, ap, subst, sym, ◌∙◌}
use Rattle.std.specs.Prelude.{option_map}
use Rattle.rp_grammar.specs.Trees.{Ident, AccessTree, StepTree, StepTrees, ArgTrees, QueryTree, ProcTree}
use Rattle.rp_lang.specs.Typing.{is_get}
use Rattle.type_rules.specs.declared.kind.Kind.{Kind}
use Rattle.type_rules.specs.declared.kind.Base.TheVariants as base
use Rattle.type_rules.specs.Names.{Name, Names, Entry, Declared, same_name, text_of, con_name, con_fields, entry_named}
use Rattle.type_rules.specs.Kinds.{plain_kind, param_kinds}
use Rattle.type_rules.specs.Paths.{Member, Way, is_operation, walked}
use Rattle.type_rules.specs.Accesses.{Var, Access, access_of, alone, of_proc, of_way, of_declared, of_entry, of_name, find_var, query_params, proc_params, proc_result, result_args}
use Rattle.desugaring.specs.Objects.{PathOp, PathQuery, Root, Reached, follow, keys_on, is_op_at, is_query_at}
use Rattle.desugaring.specs.Tables.{Tables, proc_name, proc_number, con_number}
use Rattle.desugaring.specs.Callees.{Stand, stand, var_of, vars_of, stand_named, Callee, variable, constructor, use_of, procedure, outcome, operation, question, value, Called, taking, located, op_called, query_called, member_at, on_root, of_access, called}
use Rattle.desugaring.proofs.Options.{then_there, map_there}
use Rattle.query_laws.specs.Whole.{IsNamed}
use Rattle.desugaring.proofs.Depths.{map_goes, then_goes, same_option}

-- # With other things that variables stand for

abbrev pub callee_map : {X Y : Type 0} → (X → Y) → Callee X → Callee Y
callee_map f (variable e) = variable (f e)
callee_map f (constructor k) = constructor k
callee_map f (use_of k q) = use_of k q
callee_map f (procedure k) = procedure k
callee_map f (outcome k) = outcome k
callee_map f (operation k) = operation k
callee_map f (question k) = question k
callee_map f (value k) = value k

abbrev pub called_map : {X Y : Type 0} → (X → Y) → Called X → Called Y
called_map f c = taking c.keys c.args (callee_map f c.what)

abbrev pub stand_map : {X Y : Type 0} → (X → Y) → Stand X → Stand Y
stand_map f s = stand s.name s.kind (f s.known)

module _ {X Y : Type 0} (f : X → Y) where
  vars_same : (vs : List (Stand X)) → vars_of (map (stand_map f) vs) ≡ vars_of vs
  vars_same [] = refl
  vars_same (v ∷ vs) = ap (λ xs. var_of v ∷ xs) (vars_same vs)

  first_goes : (v : Stand X) (b : Bool) (o : Option (Stand X)) (p : Option (Stand Y)) → option_map (stand_map f) o ≡ p
      → option_map (stand_map f) (cond b (Some v) o) ≡ cond b (Some (stand_map f v)) p
  first_goes v true o p e = refl
  first_goes v false o p e = e

  named_goes : (vs : List (Stand X)) (x : Name)
      → option_map (stand_map f) (stand_named vs x) ≡ stand_named (map (stand_map f) vs) x
  named_goes [] x = refl
  named_goes (v ∷ vs) x = first_goes v (same_name v.name x) (stand_named vs x) (stand_named (map (stand_map f) vs) x)
      (named_goes vs x)

  asked_goes : (b : Bool) (k : ℕ) → callee_map f (cond b (value k) (question k)) ≡ cond b (value k) (question k)
  asked_goes true k = refl
  asked_goes false k = refl

  query_goes : (q : ℕ × PathQuery) → called_map f (query_called q) ≡ query_called q
  query_goes q = ap (taking (keys_on q.1.path) q.1.own.args) (asked_goes (is_get q.1.own.kind) q.0)

  either_goes : (is_op : Bool) (o : Option (ℕ × PathOp)) (p : Option (ℕ × PathQuery))
      → option_map (called_map f) (cond is_op (option_map op_called o) (option_map query_called p))
      ≡ cond is_op (option_map op_called o) (option_map query_called p)
  either_goes true o p = map_goes (called_map f) (λ q. q) op_called op_called o o (same_option o) (λ q. refl)
  either_goes false o p = map_goes (called_map f) (λ q. q) query_called query_called p p (same_option p) query_goes

  member_goes : (t : Tables) (m : Member) (root : ℕ) (r : Reached)
      → option_map (called_map f) (member_at t m root r) ≡ member_at t m root r
  member_goes t m root r =
      either_goes (is_operation m.does) (located (is_op_at root r) t.ops) (located (is_query_at root r) t.queries)

  root_goes : (t : Tables) (m : Member) (steps : StepTrees) (root : ℕ × Root)
      → option_map (called_map f) (on_root t m steps root) ≡ on_root t m steps root
  root_goes t m steps root =
      then_goes (called_map f) (λ r. r) (member_at t m root.0) (member_at t m root.0) (follow t.names steps root.1.crdt) _
      (same_option _) (member_goes t m root.0)

  numbered_goes : (keys args : List Kind) (g : ℕ → Callee X) (h : ℕ → Callee Y) (o : Option ℕ) → ((k : ℕ)
      → callee_map f (g k) ≡ h k)
      → option_map (called_map f) (option_map (λ k. taking keys args (g k)) o) ≡ option_map (λ k. taking keys args (h k)) o
  numbered_goes keys args g h o same =
      map_goes (called_map f) (λ k. k) (λ k. taking keys args (g k)) (λ k. taking keys args (h k)) o o (same_option o)
      (λ k. ap (taking keys args) (same k))

  access_goes : (t : Tables) (vs : List (Stand X)) (x : Ident) (steps : StepTrees) (a : Access)
      → option_map (called_map f) (of_access t vs x steps a) ≡ of_access t (map (stand_map f) vs) x steps a
  access_goes t vs x steps Access.unknown = refl
  access_goes t vs x steps (Access.misfit at) = refl
  access_goes t vs x steps (Access.variable v) =
      map_goes (called_map f) (stand_map f) (λ s. taking [] [] (variable s.known)) (λ s. taking [] [] (variable s.known))
      (stand_named vs (text_of x)) (stand_named (map (stand_map f) vs) (text_of x)) (named_goes vs (text_of x)) (λ s. refl)
  access_goes t vs x steps (Access.constructor type c) =
      numbered_goes [] (param_kinds t.names (con_fields c)) constructor constructor
      (con_number t (plain_kind (base.Declared type)) (text_of (con_name c))) (λ k. refl)
  access_goes t vs x steps (Access.use_of k q) = refl
  access_goes t vs x steps (Access.procedure p) =
      numbered_goes [] (param_kinds t.names (proc_params p)) procedure procedure (proc_number t (proc_name p)) (λ k. refl)
  access_goes t vs x steps (Access.returned p) =
      numbered_goes [] (result_args t.names (proc_result p)) outcome outcome (proc_number t (proc_name p)) (λ k. refl)
  access_goes t vs x steps (Access.member m) =
      then_goes (called_map f) (λ r. r) (on_root t m steps) (on_root t m steps)
      (located (λ root. same_name root.name (text_of x)) t.roots) _
      (same_option _) (root_goes t m steps)

  pub called_goes : (t : Tables) (vs : List (Stand X)) (a : AccessTree)
      → option_map (called_map f) (called t vs a) ≡ called t (map (stand_map f) vs) a
  called_goes t vs (AccessTree.path x steps args) =
      access_goes t vs x steps (access_of t.names (vars_of vs) (AccessTree.path x steps args))
      ∙ ap (λ z. of_access t (map (stand_map f) vs) x steps (access_of t.names z (AccessTree.path x steps args))) (sym
      (vars_same vs))

-- # The cases of a call

-- neither a variable nor a query of the text
abbrev pub IsPlain : {X : Type 0} → Callee X → Type 0
IsPlain (variable e) = ⊥
IsPlain (constructor k) = Unit {0}
IsPlain (use_of k q) = ⊥
IsPlain (procedure k) = Unit {0}
IsPlain (outcome k) = Unit {0}
IsPlain (operation k) = Unit {0}
IsPlain (question k) = Unit {0}
IsPlain (value k) = Unit {0}

module _ {X : Type 0} (P : Called X → Type 0) (t : Tables) (vs : List (Stand X)) (x : Ident) (steps : StepTrees)
    (on_variable : (s : Stand X) → stand_named vs (text_of x) ≡ Some s → P (taking [] [] (variable s.known)))
    (on_plain : (c : Called X) → IsPlain c.what → P c) where
  asked_plain : (b : Bool) (k : ℕ) → IsPlain {X = X} (cond b (value k) (question k))
  asked_plain true k = tt
  asked_plain false k = tt

  member_there : (is_op : Bool) (o : Option (ℕ × PathOp)) (p : Option (ℕ × PathQuery)) (c : Called X)
      → cond is_op (option_map op_called o) (option_map query_called p) ≡ Some c → P c
  member_there true o p c is = map_there P op_called o c is (λ q e. on_plain (op_called q) tt)
  member_there false o p c is =
      map_there P query_called p c is (λ q e. on_plain (query_called q) (asked_plain (is_get q.1.own.kind) q.0))

  pub access_there : (a : Access) (c : Called X)
      → ((k : ℕ) (q : QueryTree) → a ≡ Access.use_of k q → P (taking [] (param_kinds t.names (query_params q)) (use_of k q)))
      → of_access t vs x steps a ≡ Some c → P c
  access_there Access.unknown c on_use is = absurd cc
  access_there (Access.misfit at) c on_use is = absurd cc
  access_there (Access.variable v) c on_use is =
      map_there P (λ s. taking [] [] (variable s.known)) (stand_named vs (text_of x)) c is on_variable
  access_there (Access.constructor type shape) c on_use is =
      map_there P (λ k. taking [] (param_kinds t.names (con_fields shape)) (constructor k)) _ c is (λ k e. on_plain _ tt)
  access_there (Access.use_of k q) c on_use is = subst P (cc) (on_use k q refl)
  access_there (Access.procedure p) c on_use is =
      map_there P (λ k. taking [] (param_kinds t.names (proc_params p)) (procedure k)) _ c is (λ k e. on_plain _ tt)
  access_there (Access.returned p) c on_use is =
      map_there P (λ k. taking [] (result_args t.names (proc_result p)) (outcome k)) _ c is (λ k e. on_plain _ tt)
  access_there (Access.member m) c on_use is =
      then_there (on_root t m steps) _ c is (λ root found at.
      then_there (member_at t m root.0) _ c at (λ r reached there.
      member_there (is_operation m.does) (located (is_op_at root.0 r) t.ops) (located (is_query_at root.0 r) t.queries) c there))

-- # Queries of the text are those that its names tell

alone_used : (x : Ident) (steps : StepTrees) (a : Access) (k : ℕ) (q : QueryTree) → alone x steps a ≡ Access.use_of k q
    → a ≡ Access.use_of k q
alone_used x StepTrees.no_steps a k q e = e
alone_used x (StepTrees.more_steps s steps) a k q e = absurd cc

proc_used : (x : Ident) (p : ProcTree) (steps : StepTrees) (k : ℕ) (q : QueryTree) → of_proc x p steps ≡ Access.use_of k q → ⊥
proc_used x p StepTrees.no_steps k q e = cc
proc_used x p (StepTrees.more_steps (StepTree.returned at) StepTrees.no_steps) k q e = cc
proc_used x p (StepTrees.more_steps (StepTree.returned at) (StepTrees.more_steps s steps)) k q e = cc
proc_used x p (StepTrees.more_steps (StepTree.dot y) steps) k q e = cc
proc_used x p (StepTrees.more_steps (StepTree.key y) steps) k q e = cc

way_used : (x : Ident) (w : Way) (k : ℕ) (q : QueryTree) → of_way x w ≡ Access.use_of k q → ⊥
way_used x (Way.came c) k q e = cc
way_used x (Way.member m) k q e = cc
way_used x (Way.misfit at) k q e = cc

declared_used : (n : Names) (x : Ident) (steps : StepTrees) (entry : Entry) → entry_named n (text_of x) ≡ Some entry
    → (d : Declared)
    → entry.what ≡ d → (k : ℕ) (q : QueryTree) → of_declared n x steps entry.decl d ≡ Access.use_of k q → IsNamed n k q
declared_used n x steps entry there (Declared.root c) what k q e = absurd (way_used x (walked n (Way.came c) steps) k q e)
declared_used n x steps entry there (Declared.proc p) what k q e = absurd (proc_used x p steps k q e)
declared_used n x steps entry there (Declared.con type c) what k q e =
    let whole = alone_used x steps (Access.constructor type c) k q e in absurd cc
declared_used n x steps entry there (Declared.query r) what k q e =
    let whole = alone_used x steps (Access.use_of entry.decl r) k q e in
    let number : entry.decl ≡ k = cc in
    let same : r ≡ q = cc in
    record { name = text_of x; entry = entry; there = there; decl = number; what = what ∙ ap Declared.query same }

entry_used : (n : Names) (x : Ident) (steps : StepTrees) (o : Option Entry) → entry_named n (text_of x) ≡ o
    → (k : ℕ) (q : QueryTree)
    → of_entry n x steps o ≡ Access.use_of k q → IsNamed n k q
entry_used n x steps None is k q e = absurd cc
entry_used n x steps (Some entry) is k q e = declared_used n x steps entry is entry.what refl k q e

name_used : (n : Names) (x : Ident) (steps : StepTrees) (o : Option Var) (k : ℕ) (q : QueryTree)
    → of_name n x steps o ≡ Access.use_of k q → IsNamed n k q
name_used n x steps (Some v) k q e = let whole = alone_used x steps (Access.variable v) k q e in absurd cc
name_used n x steps None k q e = entry_used n x steps (entry_named n (text_of x)) refl k q e

pub use_named : (n : Names) (vs : List Var) (x : Ident) (steps : StepTrees) (args : ArgTrees) (k : ℕ) (q : QueryTree)
    → access_of n vs (AccessTree.path x steps args) ≡ Access.use_of k q → IsNamed n k q
use_named n vs x steps args k q e = name_used n x steps (find_var vs (text_of x)) k q e
