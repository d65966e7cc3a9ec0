-- What becomes of expressions is typed in the program.
use Rattle.std.specs.Prelude.{◌≡◌, ℕ, Bool, true, false, List, [], ◌∷◌, ◌++◌, Option, Some, None, slice_get, nat_lt, nat_eq, length}
use Rattle.rp_value.specs.declared.tables.Ty.{Ty}
use Rattle.rp_grammar.specs.Trees.{Ident, StepTree, StepTrees, ExprTree, QueryTree, ProcTree}
use Rattle.rp_lang.specs.Exprs.{Ex, Exs, no_ex, also_ex}
use Rattle.rp_lang.specs.Programs.{Prog}
use Rattle.rp_lang.specs.Types.{fields_of, datatype_of, bool_ty}
use Rattle.rp_lang.specs.Typing as typing
use Rattle.rp_lang.specs.Typing.{Frame, is_typed, is_record_term, op_args, query_args, value_asked, is_asked, is_proc}
use Rattle.type_rules.specs.declared.kind.Kind.{Kind}
use Rattle.type_rules.specs.Names.{Name, Names, Entry, text_of, entry_named}
use Rattle.type_rules.specs.Kinds.{bool_kind, operation_kind, kind_of, param_kinds}
use Rattle.type_rules.specs.Paths.{Member, is_operation, Way, stepped, key_kind}
use Rattle.type_rules.specs.Accesses.{Var, Access, access_kind, args_of, of_entry}
use Rattle.type_rules.specs.Sites.{Scope}
use Rattle.type_rules.specs.Matches.{cases_of, case_named, case_fields, pattern_name, pattern_vars, pattern_kinds}
use Rattle.type_rules.specs.ExprSites.{expr_sites, asks, entry_way}
use Rattle.type_rules.specs.DeclSites.{scope_for}
use Rattle.rp_grammar.specs.Trees.{PatternTree}
use Rattle.desugaring.specs.Parts.{each}
use Rattle.desugaring.specs.Tables.{Tables, ty_of, con_number, arm_number}
use Rattle.desugaring.specs.Values.{Value, term, formula}
use Rattle.desugaring.specs.Callees.{stand, Vars, Callee, Called, variable, constructor, use_of, procedure, outcome, operation, question, value, of_access}
use Rattle.rp_span.specs.declared.Span.{Span}
use Rattle.rp_grammar.specs.Trees.{ExprArmTrees}
use Rattle.rp_lang.specs.Formulas.{Arms}
use Rattle.rp_lang.specs.Typing.{is_range, are_cases, arm_cons}
use Rattle.type_rules.specs.Names.{type_named, type_number}
use Rattle.type_rules.specs.Kinds.{named_kind}
use Rattle.type_rules.specs.Sites.{Site}
use Rattle.type_rules.specs.ExprSites.{arm_names, arm_sites}
use Rattle.type_rules.specs.Rules.{is_datatype, is_datatype_kind}
use Rattle.desugaring.specs.Meanings.{ArmsMean}
use Rattle.lawful.specs.Kept.{Kept, AllKept}

-- # Terms and formulas

abbrev pub HasKind : Tables → Prog → Frame → List Ty → Kind → Ex → Type 0
HasKind t p f bs k x = (ty : Ty) × (typing.type_of p f bs x ≡ Some ty) × (ty_of t k ≡ Some ty)

-- a term of this type; one of a record only where the place is across from a word
pub record IsTerm (t : Tables) (p : Prog) (f : Frame) (bs : List Ty) (across : Bool) (k : Kind) (x : Ex) : Type 0 where
  pub typed : HasKind t p f bs k x
  pub stands : is_record_term x ≡ true → across ≡ true

abbrev pub Good : Tables → Prog → Frame → List Ty → Bool → Kind → Value → Type 0
Good t p f bs across k (term x) = IsTerm t p f bs across k x
Good t p f bs across k (formula g) = (k ≡ bool_kind) × (is_typed p f bs g ≡ true)

-- # The variables in sight, by the type rules and by their terms

pub data Sees (t : Tables) (p : Prog) (f : Frame) (bs : List Ty) : List Var → Vars → Type 0 where
  nothing : Sees t p f bs [] []
  another : {name : Name} {kind : Kind} {set fixed : Bool} {known : Ex} {vs : List Var} {ss : Vars}
      → (set ≡ true → IsTerm t p f bs false kind known) → Sees t p f bs vs ss
      → Sees t p f bs (record { name = name; kind = kind; set = set; fixed = fixed } ∷ vs) (stand name kind known ∷ ss)

-- arguments of these types
pub data AreTerms (t : Tables) (p : Prog) (f : Frame) (bs : List Ty) : List Kind → Exs → Type 0 where
  none : AreTerms t p f bs [] no_ex
  more : {k : Kind} {ks : List Kind} {x : Ex} {xs : Exs} → IsTerm t p f bs false k x → AreTerms t p f bs ks xs → AreTerms t p f bs (k ∷ ks) (also_ex x xs)

-- # What the tables give

-- the constructor is the datatype's of this name
pub record IsCon (t : Tables) (p : Prog) (k : Kind) (x : Name) (con : ℕ) : Type 0 where
  pub ty : Ty
  pub made : datatype_of p.cons con ≡ Some ty
  pub same : ty_of t k ≡ Some ty
  pub fields : each (ty_of t) (case_fields (case_named (cases_of t.names k) x)) ≡ Some (fields_of p.cons con)

-- the keys along the steps behind a root are of these types
pub data Along (n : Names) : Way → StepTrees → List Kind → Type 0 where
  ends : {way : Way} → Along n way StepTrees.no_steps []
  dot : {way : Way} {x : Ident} {steps : StepTrees} {ks : List Kind} → Along n (stepped n way (StepTree.dot x)) steps ks
      → Along n way (StepTrees.more_steps (StepTree.dot x) steps) ks
  returned : {way : Way} {at : Span} {steps : StepTrees} {ks : List Kind} → Along n (stepped n way (StepTree.returned at)) steps ks
      → Along n way (StepTrees.more_steps (StepTree.returned at) steps) ks
  key : {way : Way} {e : ExprTree} {steps : StepTrees} {ks : List Kind} → Along n (stepped n way (StepTree.key e)) steps ks
      → Along n way (StepTrees.more_steps (StepTree.key e) steps) (key_kind n way ∷ ks)

abbrev pub IsKnown : Tables → Kind → Type 0
IsKnown t k = (of : Ty) × (ty_of t k ≡ Some of)

abbrev pub IsOutcome : Option Ty → List Ty → Type 0
IsOutcome None tys = tys ≡ []
IsOutcome (Some ty) tys = tys ≡ ty ∷ []

-- what is called, by what the access is, takes these types
abbrev pub Gives : Tables → Prog → (ℕ → Bool) → (List Ty) → Access → Called Ex → Callee Ex → Type 0
Gives t p words tys acc c (variable e) = ⊥
Gives t p words tys acc c (constructor n) =
    (ty : Ty) × (datatype_of p.cons n ≡ Some ty) × (ty_of t (access_kind t.names acc) ≡ Some ty) × (fields_of p.cons n ≡ tys)
Gives t p words tys acc c (use_of k (QueryTree.query name params result body)) =
    (acc ≡ Access.use_of k (QueryTree.query name params result body)) × (c.keys ≡ []) × (c.args ≡ param_kinds t.names params)
    × (IsKnown t (kind_of t.names result))
    × AllKept t.names words (expr_sites t.names (scope_for t.names k (words k) params) (asks 21 (kind_of t.names result)) body)
Gives t p words tys acc c (procedure n) =
    (q : ProcTree) × (acc ≡ Access.procedure q)
    × (is_proc (slice_get p.procs n) ≡ true) × (typing.proc_params (slice_get p.procs n) ≡ tys)
Gives t p words tys acc c (outcome n) =
    (q : ProcTree) × (acc ≡ Access.returned q) × (is_proc (slice_get p.procs n) ≡ true) × (IsOutcome (typing.proc_result (slice_get p.procs n)) tys)
Gives t p words tys acc c (operation n) =
    (m : Member) × (acc ≡ Access.member m) × (is_operation m.does ≡ true) × (m.result ≡ operation_kind)
    × (nat_lt n (length p.ops) ≡ true) × (op_args (slice_get p.ops n) ≡ tys)
Gives t p words tys acc c (question n) =
    (access_kind t.names acc ≡ bool_kind) × (is_asked (slice_get p.queries n) ≡ true) × (query_args (slice_get p.queries n) ≡ tys)
Gives t p words tys acc c (value n) =
    (ty : Ty) × (value_asked (slice_get p.queries n) ≡ Some ty) × (ty_of t (access_kind t.names acc) ≡ Some ty)
    × (query_args (slice_get p.queries n) ≡ tys)

-- what the name of an access and its steps call, where the name is no variable's but has this entry
pub record IsCall (t : Tables) (p : Prog) (words : ℕ → Bool) (o : Option Entry) (x : Ident) (steps : StepTrees) (c : Called Ex) : Type 0 where
  pub along : Along t.names (entry_way x o) steps c.keys
  pub args : c.args ≡ args_of t.names (of_entry t.names x steps o)
  pub tys : List Ty
  pub are : each (ty_of t) (c.keys ++ c.args) ≡ Some tys
  pub gives : Gives t p words tys (of_entry t.names x steps o) c c.what

-- the program has the tables of the text, and its queries break no rule
pub record Tied (t : Tables) (p : Prog) (words : ℕ → Bool) : Type 0 where
  pub bool : ty_of t bool_kind ≡ Some bool_ty
  pub no_made : datatype_of p.cons 0 ≡ Some bool_ty
  pub no_fields : fields_of p.cons 0 ≡ []
  pub yes_made : datatype_of p.cons 1 ≡ Some bool_ty
  pub yes_fields : fields_of p.cons 1 ≡ []
  pub con : (k : Kind) (x : Name) (con : ℕ) → con_number t k x ≡ Some con → IsCon t p k x con
  pub arm : (k : Kind) (q : PatternTree) (con : ℕ) → arm_number t k q ≡ Some con → IsCon t p k (pattern_name q) con
  pub arm_many : (k : Kind) (q : PatternTree) (con : ℕ) → arm_number t k q ≡ Some con
      → nat_eq (length (pattern_kinds t.names k (pattern_name q))) (length (pattern_vars q)) ≡ true
  pub tx : nat_lt 0 (length p.ops) ≡ true
  pub tx_args : op_args (slice_get p.ops 0) ≡ []
  -- id and opaque types
  pub atom : (x : Name) (of : Ty) → is_datatype (type_named t.names x) ≡ false → ty_of t (named_kind (type_number t.names x)) ≡ Some of
      → (f : Frame) → is_range p f of ≡ true
  -- arms of all constructors, each once
  pub cases : (b : ℕ) (vs : Vars) (k : Kind) (of : Ty) (arms : ExprArmTrees) (made : Arms) (at : Span) (sc : Scope) → ty_of t k ≡ Some of
      → is_datatype_kind t.names k ≡ true
      → ArmsMean t b vs k arms made → Kept t.names words (Site.arms at k (arm_names arms)) → AllKept t.names words (arm_sites t.names sc k [] arms)
      → are_cases p (Some of) (arm_cons made) ≡ true
  pub call : (vs : Vars) (x : Ident) (steps : StepTrees) (c : Called Ex)
      → of_access t vs x steps (of_entry t.names x steps (entry_named t.names (text_of x))) ≡ Some c
      → IsCall t p words (entry_named t.names (text_of x)) x steps c

-- # The theorem

-- The place is lawful, the variables in sight have values of their types where they are set, and calls may be spoken of
-- where the place may.
pub record Stands (t : Tables) (p : Prog) (words : ℕ → Bool) (f : Frame) (bs : List Ty) (vs : Vars) (sc : Scope) : Type 0 where
  pub sees : Sees t p f bs sc.vars vs
  pub speaks : sc.words ≡ true → f.speaks ≡ true
