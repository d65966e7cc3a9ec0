-- The depths that are told by a tree are those of what it becomes.
use Rattle.std.proofs.Common.{◌≡◌, ◌≤◌, ◌+◌, ℕ, ℤ, max, Bool, true, false, cond, List, [], ◌∷◌, ◌++◌, map, Option, Some, None, refl, ap, ap₂, subst, sym, ◌∙◌, arith}
use Rattle.std.proofs.lemmas.List.{map-append}
use Rattle.std.specs.Prelude.{option_map, option_and_then}
use Rattle.rp_value.specs.declared.tables.ConTable.{ConTable}
use Rattle.rp_grammar.specs.declared.operator.CompareOp.{CompareOp}
use Rattle.rp_grammar.specs.declared.operator.CompareOp.TheVariants as compare
use Rattle.rp_grammar.specs.declared.operator.CallWord.{CallWord}
use Rattle.rp_grammar.specs.declared.operator.CallWord.TheVariants as word
use Rattle.rp_grammar.specs.Trees.{Ident, ParamTree, AccessTree, StepTrees}
use Rattle.rp_lang.specs.Typing.{is_get}
use Rattle.rp_lang.specs.Exprs.{Ex, Slot, Bound, Int, Str, Con, Plus, Add, Sub, Query, OpOf, OpTerm, OriginOf, InfoOf, InfoTerm, ResultOf, ResultTerm, ResultWith, Unreturned, Exs, no_ex, also_ex}
use Rattle.rp_lang.specs.Sizes.{ex_depth, exs_depth}
use Rattle.type_rules.specs.declared.kind.Kind.{Kind}
use Rattle.type_rules.specs.declared.kind.Base.TheVariants as base
use Rattle.type_rules.specs.Names.{Name, Names, same_name, text_of, param_name, param_type, con_name, con_fields}
use Rattle.type_rules.specs.Kinds.{plain_kind, kind_of, param_kinds}
use Rattle.type_rules.specs.Paths.{Member, is_operation}
use Rattle.type_rules.specs.Accesses.{Access, access_of, proc_params, proc_result, result_args}
use Rattle.type_rules.specs.Matches.{first_kind, other_kinds}
use Rattle.desugaring.specs.Objects.{PathOp, PathQuery, Root, Reached, follow, keys_on, is_op_at, is_query_at}
use Rattle.desugaring.specs.Tables.{Tables, proc_name, proc_number, con_number}
use Rattle.desugaring.specs.Expressions.{raised, under}
use Rattle.desugaring.specs.Expressions as expressions
use Rattle.desugaring.specs.Parts.{both}
use Rattle.desugaring.specs.Values.{Value, term, formula, as_term, literal, sum, sum_behind, sum_in_front, difference, difference_of, lifted, all_lifted, append}
use Rattle.desugaring.specs.Values as values
use Rattle.desugaring.specs.Callees.{Stand, stand, Vars, var_of, vars_of, stand_named, Callee, variable, constructor, use_of, procedure, outcome, operation, question, value, Called}
use Rattle.desugaring.specs.Callees as callee
use Rattle.desugaring.specs.Depths.{Depths, of_term, of_formula, depths_of, depth_of_term, greatest, shade_of, shades}
use Rattle.desugaring.specs.Depths as depths

-- # Options, part by part

pub map_goes : {A B C D : Type 0} (g : B → D) (h : A → C) (f : A → B) (f2 : C → D) (o : Option A) (p : Option C)
    → option_map h o ≡ p
    → ((x : A) → g (f x) ≡ f2 (h x)) → option_map g (option_map f o) ≡ option_map f2 p
map_goes g h f f2 None p e k = subst (λ q. None ≡ option_map f2 q) e refl
map_goes g h f f2 (Some x) p e k = subst (λ q. Some (g (f x)) ≡ option_map f2 q) e (ap Some (k x))

pub then_goes : {A B C D : Type 0} (g : B → D) (h : A → C) (f : A → Option B) (f2 : C → Option D) (o : Option A) (p : Option C)
    → option_map h o ≡ p
    → ((x : A) → option_map g (f x) ≡ f2 (h x)) → option_map g (option_and_then f o) ≡ option_and_then f2 p
then_goes g h f f2 None p e k = subst (λ q. None ≡ option_and_then f2 q) e refl
then_goes g h f f2 (Some x) p e k = subst (λ q. option_map g (f x) ≡ option_and_then f2 q) e (k x)

pub both_goes : {A B C D E F : Type 0} (g : C → F) (h : A → D) (j : B → E) (f : A → B → C) (f2 : D → E → F)
    (o : Option A) (p : Option B) (o2 : Option D) (p2 : Option E) → option_map h o ≡ o2 → option_map j p ≡ p2
    → ((x : A) (y : B) → g (f x y) ≡ f2 (h x) (j y)) → option_map g (both f o p) ≡ both f2 o2 p2
both_goes g h j f f2 None p o2 p2 a b k = subst (λ q. None ≡ both f2 q p2) a refl
both_goes g h j f f2 (Some x) None o2 p2 a b k =
    subst (λ q. None ≡ both f2 q p2) a (subst (λ q. None ≡ both f2 (Some (h x)) q) b refl)
both_goes g h j f f2 (Some x) (Some y) o2 p2 a b k =
    subst (λ q. Some (g (f x y)) ≡ both f2 q p2) a (subst (λ q. Some (g (f x y)) ≡ both f2 (Some (h x)) q) b (ap Some (k x y)))

-- # Terms

pub positive : (e : Ex) → 1 ≤ ex_depth e
positive (Slot s) = omega arith
positive (Bound n) = omega arith
positive (Int n) = omega arith
positive (Str bytes) = omega arith
positive (Con con args) = omega arith
positive (Plus e n) = omega arith
positive (Add a b) = omega arith
positive (Sub a b) = omega arith
positive (Query query args) = omega arith
positive (OpOf call) = omega arith
positive (OpTerm op args) = omega arith
positive (OriginOf call) = omega arith
positive (InfoOf inv) = omega arith
positive (InfoTerm proc args) = omega arith
positive (ResultOf inv) = omega arith
positive (ResultTerm proc) = omega arith
positive (ResultWith proc e) = omega arith
positive Unreturned = omega arith

literal_depth : (e : Ex) (n : ℤ) → literal e ≡ Some n → ex_depth e ≡ 1
literal_depth (Int m) n h = refl
literal_depth (Slot s) n h = refl
literal_depth (Bound m) n h = refl
literal_depth (Str bytes) n h = refl
literal_depth (Con con args) n h = absurd cc
literal_depth (Plus e m) n h = absurd cc
literal_depth (Add a b) n h = absurd cc
literal_depth (Sub a b) n h = absurd cc
literal_depth (Query query args) n h = absurd cc
literal_depth (OpOf call) n h = absurd cc
literal_depth (OpTerm op args) n h = absurd cc
literal_depth (OriginOf call) n h = absurd cc
literal_depth (InfoOf inv) n h = absurd cc
literal_depth (InfoTerm proc args) n h = absurd cc
literal_depth (ResultOf inv) n h = absurd cc
literal_depth (ResultTerm proc) n h = refl
literal_depth (ResultWith proc e) n h = absurd cc
literal_depth Unreturned n h = refl

in_front : (a b : Ex) (o : Option ℤ) → literal a ≡ o → ex_depth (sum_in_front o a b) ≡ 1 + max (ex_depth a) (ex_depth b)
in_front a b (Some n) e = omega (arith, positive b, literal_depth a n e)
in_front a b None e = refl

is_behind : (a b : Ex) (o : Option ℤ) → literal b ≡ o → ex_depth (sum_behind o a b) ≡ 1 + max (ex_depth a) (ex_depth b)
is_behind a b (Some n) e = omega (arith, positive a, literal_depth b n e)
is_behind a b None e = in_front a b (literal a) refl

pub sum_depth : (a b : Ex) → ex_depth (sum a b) ≡ 1 + max (ex_depth a) (ex_depth b)
sum_depth a b = is_behind a b (literal b) refl

is_taken : (a b : Ex) (o : Option ℤ) → literal b ≡ o → ex_depth (difference_of o a b) ≡ 1 + max (ex_depth a) (ex_depth b)
is_taken a b (Some n) e = omega (arith, positive a, literal_depth b n e)
is_taken a b None e = refl

pub difference_depth : (a b : Ex) → ex_depth (difference a b) ≡ 1 + max (ex_depth a) (ex_depth b)
difference_depth a b = is_taken a b (literal b) refl

mutual
  pub lifted_depth : (e : Ex) → ex_depth (lifted e) ≡ ex_depth e
  lifted_depth (Slot s) = refl
  lifted_depth (Bound n) = refl
  lifted_depth (Int n) = refl
  lifted_depth (Str bytes) = refl
  lifted_depth (Con con args) = ap (λ n. 1 + n) (all_lifted_depth args)
  lifted_depth (Plus e n) = ap (λ n. 1 + n) (lifted_depth e)
  lifted_depth (Add a b) = ap₂ (λ m n. 1 + max m n) (lifted_depth a) (lifted_depth b)
  lifted_depth (Sub a b) = ap₂ (λ m n. 1 + max m n) (lifted_depth a) (lifted_depth b)
  lifted_depth (Query query args) = ap (λ n. 1 + n) (all_lifted_depth args)
  lifted_depth (OpOf call) = ap (λ n. 1 + n) (lifted_depth call)
  lifted_depth (OpTerm op args) = ap (λ n. 1 + n) (all_lifted_depth args)
  lifted_depth (OriginOf call) = ap (λ n. 1 + n) (lifted_depth call)
  lifted_depth (InfoOf inv) = ap (λ n. 1 + n) (lifted_depth inv)
  lifted_depth (InfoTerm proc args) = ap (λ n. 1 + n) (all_lifted_depth args)
  lifted_depth (ResultOf inv) = ap (λ n. 1 + n) (lifted_depth inv)
  lifted_depth (ResultTerm proc) = refl
  lifted_depth (ResultWith proc e) = ap (λ n. 1 + n) (lifted_depth e)
  lifted_depth Unreturned = refl

  all_lifted_depth : (es : Exs) → exs_depth (all_lifted es) ≡ exs_depth es
  all_lifted_depth no_ex = refl
  all_lifted_depth (also_ex e es) = ap₂ max (lifted_depth e) (all_lifted_depth es)

-- # Lists of terms

abbrev pub depths_in : Exs → List ℕ
depths_in no_ex = []
depths_in (also_ex e es) = ex_depth e ∷ depths_in es

pub greatest_is : (es : Exs) → exs_depth es ≡ greatest (depths_in es)
greatest_is no_ex = refl
greatest_is (also_ex e es) = ap (max (ex_depth e)) (greatest_is es)

pub append_depths : (ds es : Exs) → depths_in (append ds es) ≡ depths_in ds ++ depths_in es
append_depths no_ex es = refl
append_depths (also_ex d ds) es = ap (λ xs. ex_depth d ∷ xs) (append_depths ds es)

-- # Variables

pub vars_same : (vs : Vars) → vars_of (shades vs) ≡ vars_of vs
vars_same [] = refl
vars_same (v ∷ vs) = ap (λ xs. var_of v ∷ xs) (vars_same vs)

first_goes : (v : Stand Ex) (b : Bool) (o : Option (Stand Ex)) (p : Option (Stand ℕ)) → option_map shade_of o ≡ p
    → option_map shade_of (cond b (Some v) o) ≡ cond b (Some (shade_of v)) p
first_goes v true o p e = refl
first_goes v false o p e = e

named_goes : (vs : Vars) (x : Name) → option_map shade_of (stand_named vs x) ≡ stand_named (shades vs) x
named_goes [] x = refl
named_goes (v ∷ vs) x = first_goes v (same_name v.name x) (stand_named vs x) (stand_named (shades vs) x) (named_goes vs x)

raised_shades : (vs : Vars) → shades (map raised vs) ≡ shades vs
raised_shades [] = refl
raised_shades (v ∷ vs) = ap₂ ◌∷◌ (ap (stand v.name v.kind) (lifted_depth v.known)) (raised_shades vs)

under_shades : (vs : Vars) (x : Name) (k : Kind) → shades (under vs x k) ≡ shades vs ++ depths.shade x k
under_shades vs x k =
    map-append shade_of (map raised vs) (stand x k (Bound 0) ∷ []) ∙ ap (λ z. z ++ depths.shade x k) (raised_shades vs)

pub under_all_shades : (vs : Vars) (xs : List Ident) (ks : List Kind)
    → shades (expressions.under_all vs xs ks) ≡ depths.under_all (shades vs) xs ks
under_all_shades vs [] ks = refl
under_all_shades vs (x ∷ xs) ks =
    under_all_shades (under vs (text_of x) (first_kind ks)) xs (other_kinds ks)
    ∙ ap (λ z. depths.under_all z xs (other_kinds ks)) (under_shades vs (text_of x) (first_kind ks))

pub quantifier_shades : (n : Names) (vs : Vars) (p : ParamTree)
    → shades (expressions.under_quantifier n vs p) ≡ depths.under_quantifier n (shades vs) p
quantifier_shades n vs p = under_shades vs (text_of (param_name p)) (kind_of n (param_type p))

pub args_shades : (n : Names) (params : List ParamTree) (es : Exs)
    → shades (expressions.with_args n params es) ≡ depths.with_args n params (depths_in es)
args_shades n [] es = refl
args_shades n (p ∷ params) no_ex = refl
args_shades n (p ∷ params) (also_ex e es) =
    ap (λ z. stand (text_of (param_name p)) (kind_of n (param_type p)) (ex_depth e) ∷ z) (args_shades n params es)

-- # Calls

abbrev pub callee_depths : Callee Ex → Callee ℕ
callee_depths (variable e) = variable (ex_depth e)
callee_depths (constructor k) = constructor k
callee_depths (use_of k q) = use_of k q
callee_depths (procedure k) = procedure k
callee_depths (outcome k) = outcome k
callee_depths (operation k) = operation k
callee_depths (question k) = question k
callee_depths (value k) = value k

abbrev pub called_depths : Called Ex → Called ℕ
called_depths c = callee.taking c.keys c.args (callee_depths c.what)

pub same_option : {A : Type 0} (o : Option A) → option_map (λ x. x) o ≡ o
same_option None = refl
same_option (Some x) = refl

asked_goes : (b : Bool) (k : ℕ) → callee_depths (cond b (value k) (question k)) ≡ cond b (value k) (question k)
asked_goes true k = refl
asked_goes false k = refl

query_goes : (q : ℕ × PathQuery) → called_depths (callee.query_called q) ≡ callee.query_called q
query_goes q = ap (callee.taking (keys_on q.1.path) q.1.own.args) (asked_goes (is_get q.1.own.kind) q.0)

either_goes : (is_op : Bool) (o : Option (ℕ × PathOp)) (p : Option (ℕ × PathQuery))
    → option_map called_depths (cond is_op (option_map callee.op_called o) (option_map callee.query_called p))
    ≡ cond is_op (option_map callee.op_called o) (option_map callee.query_called p)
either_goes true o p = map_goes called_depths (λ q. q) callee.op_called callee.op_called o o (same_option o) (λ q. refl)
either_goes false o p = map_goes called_depths (λ q. q) callee.query_called callee.query_called p p (same_option p) query_goes

member_goes : (t : Tables) (m : Member) (root : ℕ) (r : Reached)
    → option_map called_depths (callee.member_at t m root r) ≡ callee.member_at t m root r
member_goes t m root r =
    either_goes (is_operation m.does) (callee.located (is_op_at root r) t.ops) (callee.located (is_query_at root r) t.queries)

root_goes : (t : Tables) (m : Member) (steps : StepTrees) (root : ℕ × Root)
    → option_map called_depths (callee.on_root t m steps root) ≡ callee.on_root t m steps root
root_goes t m steps root =
    then_goes called_depths (λ r. r) (callee.member_at t m root.0) (callee.member_at t m root.0)
    (follow t.names steps root.1.crdt) _
    (same_option _) (member_goes t m root.0)

numbered_goes : (keys args : List Kind) (f : ℕ → Callee Ex) (g : ℕ → Callee ℕ) (o : Option ℕ)
    → ((k : ℕ) → callee_depths (f k) ≡ g k)
    → option_map called_depths (option_map (λ k. callee.taking keys args (f k)) o)
    ≡ option_map (λ k. callee.taking keys args (g k)) o
numbered_goes keys args f g o same =
    map_goes called_depths (λ k. k) (λ k. callee.taking keys args (f k)) (λ k. callee.taking keys args (g k)) o o
    (same_option o)
    (λ k. ap (callee.taking keys args) (same k))

access_goes : (t : Tables) (vs : Vars) (x : Ident) (steps : StepTrees) (a : Access)
    → option_map called_depths (callee.of_access t vs x steps a) ≡ callee.of_access t (shades vs) x steps a
access_goes t vs x steps Access.unknown = refl
access_goes t vs x steps (Access.misfit at) = refl
access_goes t vs x steps (Access.variable v) =
    map_goes called_depths shade_of (λ s. callee.taking [] [] (variable s.known)) (λ s. callee.taking [] [] (variable s.known))
    (stand_named vs (text_of x)) (stand_named (shades vs) (text_of x)) (named_goes vs (text_of x)) (λ s. refl)
access_goes t vs x steps (Access.constructor type c) =
    numbered_goes [] (param_kinds t.names (con_fields c)) constructor constructor
    (con_number t (plain_kind (base.Declared type)) (text_of (con_name c))) (λ k. refl)
access_goes t vs x steps (Access.use_of k q) = refl
access_goes t vs x steps (Access.procedure p) =
    numbered_goes [] (param_kinds t.names (proc_params p)) procedure procedure (proc_number t (proc_name p)) (λ k. refl)
access_goes t vs x steps (Access.returned p) =
    numbered_goes [] (result_args t.names (proc_result p)) outcome outcome (proc_number t (proc_name p)) (λ k. refl)
access_goes t vs x steps (Access.member m) =
    then_goes called_depths (λ r. r) (callee.on_root t m steps) (callee.on_root t m steps)
    (callee.located (λ root. same_name root.name (text_of x)) t.roots) _
    (same_option _) (root_goes t m steps)

pub called_goes : (t : Tables) (vs : Vars) (a : AccessTree)
    → option_map called_depths (callee.called t vs a) ≡ callee.called t (shades vs) a
called_goes t vs (AccessTree.path x steps args) =
    access_goes t vs x steps (access_of t.names (vars_of vs) (AccessTree.path x steps args))
    ∙ ap (λ z. callee.of_access t (shades vs) x steps (access_of t.names z (AccessTree.path x steps args))) (sym (vars_same vs))

-- # Values of calls, words and comparisons

of_args : (es : Exs) → Some (of_term (1 + exs_depth es)) ≡ Some (of_term (1 + greatest (depths_in es)))
of_args es = ap (λ n. Some (of_term (1 + n))) (greatest_is es)

pub given_goes : (table : ConTable) (w : Callee Ex) (es : Exs)
    → option_map (depths_of table) (callee.given w es) ≡ depths.given (callee_depths w) (depths_in es)
given_goes table (variable e) no_ex = refl
given_goes table (variable e) (also_ex x es) = refl
given_goes table (constructor k) es = of_args es
given_goes table (use_of k q) es = refl
given_goes table (procedure k) es = of_args es
given_goes table (outcome k) no_ex = refl
given_goes table (outcome k) (also_ex x no_ex) = refl
given_goes table (outcome k) (also_ex x (also_ex y es)) = refl
given_goes table (operation k) es = of_args es
given_goes table (question k) es = ap (λ n. Some (of_formula (1 + (1 + n)) 0)) (greatest_is es)
given_goes table (value k) es = of_args es

one_goes : (table : ConTable) (w : CallWord) (x : Ex)
    → option_map (depths_of table) (values.word_of_one w x) ≡ depths.word_of_one w (ex_depth x)
one_goes table word.Visible x = refl
one_goes table word.Before x = refl
one_goes table word.Same x = refl
one_goes table word.Op x = refl
one_goes table word.Origin x = refl
one_goes table word.Info x = refl
one_goes table word.Result x = refl

two_goes : (table : ConTable) (w : CallWord) (x y : Ex)
    → option_map (depths_of table) (values.word_of_two w x y) ≡ depths.word_of_two w (ex_depth x) (ex_depth y)
two_goes table word.Visible x y = refl
two_goes table word.Before x y = refl
two_goes table word.Same x y = refl
two_goes table word.Op x y = refl
two_goes table word.Origin x y = refl
two_goes table word.Info x y = refl
two_goes table word.Result x y = refl

pub word_goes : (table : ConTable) (w : CallWord) (es : Exs)
    → option_map (depths_of table) (values.word_of w es) ≡ depths.word_of w (depths_in es)
word_goes table w no_ex = refl
word_goes table w (also_ex x no_ex) = one_goes table w x
word_goes table w (also_ex x (also_ex y no_ex)) = two_goes table w x y
word_goes table w (also_ex x (also_ex y (also_ex z es))) = refl

pub compared_goes : (table : ConTable) (c : CompareOp) (x y : Ex)
    → depths_of table (formula (values.compared c x y)) ≡ depths.compared c (ex_depth x) (ex_depth y)
compared_goes table compare.Equal x y = refl
compared_goes table compare.NotEqual x y = refl
compared_goes table compare.Less x y = refl
compared_goes table compare.AtMost x y = refl
compared_goes table compare.Greater x y = refl
compared_goes table compare.AtLeast x y = refl
