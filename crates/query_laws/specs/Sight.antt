-- What is in sight of an expression, and what is said of it while uses of queries stand as they are: with all uses put in it is
-- what the definitions make of the tree, where they make something.
use Rattle.std.specs.Prelude.{◌≡◌, ◌<◌, ℕ, ◌+◌, ◌-◌, List, [], ◌∷◌, ◌++◌, map, length, Option, Some, None, unwrap_or}
use Rattle.std.specs.List.{AllByRecursion}
use Rattle.rp_value.specs.declared.tables.Ty.{Ty}
use Rattle.rp_grammar.specs.declared.operator.CompareOp.{CompareOp}
use Rattle.rp_grammar.specs.declared.operator.CompareOp.TheVariants as compare
use Rattle.rp_grammar.specs.declared.operator.CallWord.{CallWord}
use Rattle.rp_grammar.specs.declared.operator.CallWord.TheVariants as word
use Rattle.rp_grammar.specs.Trees.{Ident, PatternTree, ParamTree, ExprTree, ExprTrees, ExprArmTrees, StepTrees, ArgTrees}
use Rattle.rp_lang.specs.Exprs as ex
use Rattle.rp_lang.specs.Exprs.{Ex, Exs}
use Rattle.rp_lang.specs.Formulas.{Fos, Arms}
use Rattle.type_rules.specs.declared.kind.Kind.{Kind}
use Rattle.type_rules.specs.Kinds.{bool_kind, kind_of}
use Rattle.type_rules.specs.Names.{Name, Names, text_of, param_name, param_type}
use Rattle.type_rules.specs.Accesses.{Var}
use Rattle.type_rules.specs.Matches.{pattern_kinds, pattern_name, pattern_vars, first_kind, other_kinds}
use Rattle.desugaring.specs.Tables.{Tables, ty_of}
use Rattle.desugaring.specs.Values.{Value, as_formula}
use Rattle.desugaring.specs.Callees.{Stand, stand, Vars, Callee, variable, constructor, use_of, procedure, outcome, operation, question, value}
use Rattle.desugaring.specs.Expressions as spec
use Rattle.query_bodies.specs.Terms as te
use Rattle.query_bodies.specs.Terms.{Te, Tes, Cl, Cls, ClArms, Said, said_term, said_claim}
use Rattle.query_bodies.specs.Expanded as put
use Rattle.query_bodies.specs.Expanded.{Uses, Given, given_of, given_at, said_under}

-- where the first is there, so is the second, and the same
abbrev pub Follows : {X : Type 0} → Option X → Option X → Type 0
Follows {X = X} o p = (x : X) → o ≡ Some x → p ≡ Some x

-- # Variables

-- what a variable stands for: a slot, a parameter of the query, or the variable of a binder around which stand so many
pub data Known : Type 0 where
  in_slot : (s : ℕ) → Known
  of_param : (p : ℕ) → Known
  at_level : (n : ℕ) → Known

abbrev pub said_of : Known → Te
said_of (in_slot s) = te.Slot s
said_of (of_param p) = te.Param p
said_of (at_level n) = te.Level n

-- under so many binders, where the parameters stand for these
abbrev pub known_ex : Given → ℕ → Known → Ex
known_ex given bound (in_slot s) = ex.Slot s
known_ex given bound (of_param p) = unwrap_or (put.param given bound p) ex.Unreturned
known_ex given bound (at_level n) = ex.Bound (bound - n - 1)

abbrev pub Seen : Type 0
Seen = List (Stand Known)

-- variables with what each of them stands for
abbrev pub seen : List Var → List Known → Seen
seen [] ks = []
seen (v ∷ vs) [] = []
seen (v ∷ vs) (k ∷ ks) = stand v.name v.kind k ∷ seen vs ks

pub record Sight : Type 0 where
  pub tables : Tables
  -- what uses of queries become
  pub uses : Uses
  pub vars : Seen
  -- so many binders stand around
  pub binders : ℕ

abbrev pub stands_for : Given → ℕ → Stand Known → Stand Ex
stands_for given bound s = stand s.name s.kind (known_ex given bound s.known)

abbrev pub vars_in : Sight → Given → Vars
vars_in s given = map (stands_for given s.binders) s.vars

-- the binder of a variable stands around
abbrev pub IsUnder : ℕ → Known → Type 0
IsUnder bound (in_slot s) = Unit {0}
IsUnder bound (of_param p) = Unit {0}
IsUnder bound (at_level n) = n < bound

abbrev pub AreUnder : ℕ → Seen → Type 0
AreUnder bound vars = AllByRecursion (λ (s : Stand Known). IsUnder bound s.known) vars

-- what a parameter stands for is given
abbrev pub IsGiven : Given → Known → Type 0
IsGiven given (in_slot s) = Unit {0}
IsGiven given (of_param p) = (e : Ex) × (given_at given p ≡ Some e)
IsGiven given (at_level n) = Unit {0}

abbrev pub AreGiven : Given → Seen → Type 0
AreGiven given vars = AllByRecursion (λ (s : Stand Known). IsGiven given s.known) vars

-- a parameter is among so many
abbrev pub IsFew : ℕ → Known → Type 0
IsFew n (in_slot s) = Unit {0}
IsFew n (of_param p) = p < n
IsFew n (at_level m) = Unit {0}

abbrev pub AreFew : ℕ → Seen → Type 0
AreFew n vars = AllByRecursion (λ (s : Stand Known). IsFew n s.known) vars

pub record Stands (s : Sight) (given : Given) : Type 0 where
  pub levels : AreUnder s.binders s.vars
  pub args : AreGiven given s.vars

-- # Under binders

-- all variables of binders stand under so many
abbrev mutual
  pub LevelsIn : ℕ → Te → Type 0
  LevelsIn bound (te.Slot s) = Unit {0}
  LevelsIn bound (te.Param p) = Unit {0}
  LevelsIn bound (te.Level n) = n < bound
  LevelsIn bound (te.Int n) = Unit {0}
  LevelsIn bound (te.Str bytes) = Unit {0}
  LevelsIn bound (te.Con con args) = AllLevelsIn bound args
  LevelsIn bound (te.Sum a b) = LevelsIn bound a × LevelsIn bound b
  LevelsIn bound (te.Difference a b) = LevelsIn bound a × LevelsIn bound b
  LevelsIn bound (te.Query query args) = AllLevelsIn bound args
  LevelsIn bound (te.OpOf call) = LevelsIn bound call
  LevelsIn bound (te.OpTerm op args) = AllLevelsIn bound args
  LevelsIn bound (te.OriginOf call) = LevelsIn bound call
  LevelsIn bound (te.InfoOf inv) = LevelsIn bound inv
  LevelsIn bound (te.InfoTerm proc args) = AllLevelsIn bound args
  LevelsIn bound (te.ResultOf inv) = LevelsIn bound inv
  LevelsIn bound (te.ResultTerm proc) = Unit {0}
  LevelsIn bound (te.ResultWith proc e) = LevelsIn bound e
  LevelsIn bound te.Unreturned = Unit {0}
  LevelsIn bound (te.Use decl args) = AllLevelsIn bound args

  pub AllLevelsIn : ℕ → Tes → Type 0
  AllLevelsIn bound te.no_te = Unit {0}
  AllLevelsIn bound (te.also_te e es) = LevelsIn bound e × AllLevelsIn bound es

-- the bodies that are terms stand under no binder
abbrev pub AreClosed : put.Saids → Type 0
AreClosed bodies = (decl : ℕ) (e : Te) → put.said_at bodies decl ≡ Some (said_term e) → LevelsIn 0 e

-- with the variable of a binder more
abbrev pub under : Sight → Name → Kind → Sight
under s x k = record s { vars = s.vars ++ stand x k (at_level s.binders) ∷ []; binders = s.binders + 1 }

-- with the variables of binders from this one on
abbrev pub with_levels : Seen → ℕ → List Ident → List Kind → Seen
with_levels vars n [] ks = vars
with_levels vars n (x ∷ xs) ks =
    with_levels (vars ++ stand (text_of x) (first_kind ks) (at_level n) ∷ []) (n + 1) xs (other_kinds ks)

abbrev pub under_quantifier : Sight → ParamTree → Sight
under_quantifier s p = under s (text_of (param_name p)) (kind_of s.tables.names (param_type p))

abbrev pub under_pattern : Sight → Kind → PatternTree → Sight
under_pattern s k p = record s {
  vars = with_levels s.vars s.binders (pattern_vars p) (pattern_kinds s.tables.names k (pattern_name p));
  binders = s.binders + length (pattern_vars p);
}

-- # In the body of a query

-- its parameters, from number p on
abbrev pub params_from : Names → ℕ → List ParamTree → Seen
params_from n p [] = []
params_from n p (x ∷ params) =
    stand (text_of (param_name x)) (kind_of n (param_type x)) (of_param p) ∷ params_from n (p + 1) params

abbrev pub in_body : Tables → Uses → List ParamTree → Sight
in_body t uses params = record { tables = t; uses = uses; vars = params_from t.names 0 params; binders = 0 }

-- # What is said

abbrev pub uses_with : Uses → spec.Uses
uses_with uses k q es = uses k (given_of es)

abbrev pub value_for : Sight → Given → Option Kind → ExprTree → Option Value
value_for s given asked e = spec.value s.tables (uses_with s.uses) (vars_in s given) asked e

abbrev pub put_in : Sight → Given → Said → Option Value
put_in s given made = said_under s.uses given s.binders made

abbrev pub Says : Sight → Option Kind → ExprTree → Said → Type 0
Says s asked e made = (given : Given) → Stands s given → Follows (value_for s given asked e) (put_in s given made)

abbrev pub SaysTerm : Sight → Option Kind → ExprTree → Te → Type 0
SaysTerm s asked e made = Says s asked e (said_term made)

-- as a formula
abbrev pub SaysClaim : Sight → ExprTree → Cl → Type 0
SaysClaim s e made =
    (given : Given) → Stands s given → (v : Value) → value_for s given (Some bool_kind) e ≡ Some v
    → put.claim s.uses given s.binders made ≡ Some (as_formula v)

abbrev pub SaysClaims : Sight → ExprTrees → Cls → Type 0
SaysClaims s es made =
    (given : Given) → Stands s given
    → Follows {X = Fos} (spec.formulas s.tables (uses_with s.uses) (vars_in s given) es)
    (put.claims s.uses given s.binders made)

-- plain terms of these types
abbrev pub SaysTerms : Sight → List Kind → ExprTrees → Tes → Type 0
SaysTerms s ks es made =
    (given : Given) → Stands s given
    → Follows {X = Exs} (spec.terms s.tables (uses_with s.uses) (vars_in s given) ks es)
    (put.terms s.uses given s.binders made)

abbrev pub SaysArgs : Sight → List Kind → ArgTrees → Tes → Type 0
SaysArgs s ks args made =
    (given : Given) → Stands s given
    → Follows {X = Exs} (spec.arg_terms s.tables (uses_with s.uses) (vars_in s given) ks args)
    (put.terms s.uses given s.binders made)

-- the keys on a path
abbrev pub SaysKeys : Sight → List Kind → StepTrees → Tes → Type 0
SaysKeys s ks steps made =
    (given : Given) → Stands s given
    → Follows {X = Exs} (spec.key_terms s.tables (uses_with s.uses) (vars_in s given) ks steps)
    (put.terms s.uses given s.binders made)

-- arms of a match on a term of this type
abbrev pub SaysArms : Sight → Kind → ExprArmTrees → ClArms → Type 0
SaysArms s k arms made =
    (given : Given) → Stands s given
    → Follows {X = Arms} (spec.arm_formulas s.tables (uses_with s.uses) (vars_in s given) k arms)
    (put.arms_of s.uses given s.binders made)

-- # Calls

-- the outcome of a procedure has one value at most
abbrev pub IsOutcome : ℕ → Tes → Said → Type 0
IsOutcome proc te.no_te made = made ≡ said_term (te.ResultTerm proc)
IsOutcome proc (te.also_te e te.no_te) made = made ≡ said_term (te.ResultWith proc e)
IsOutcome proc (te.also_te e (te.also_te d es)) made = Unit {0}

-- What a call says with these keys and arguments, keys first: a use of a query what the query becomes with them, whatever
-- stands in.
abbrev pub IsCall : Uses → Callee Known → Tes → Said → Type 0
IsCall uses (variable k) es made = made ≡ said_term (said_of k)
IsCall uses (constructor con) es made = made ≡ said_term (te.Con con es)
IsCall uses (use_of decl q) es made =
    (given : Given) (bound : ℕ) → said_under uses given bound made ≡ uses decl (put.arguments uses given bound es)
IsCall uses (procedure proc) es made = made ≡ said_term (te.InfoTerm proc es)
IsCall uses (outcome proc) es made = IsOutcome proc es made
IsCall uses (operation op) es made = made ≡ said_term (te.OpTerm op es)
IsCall uses (question query) es made = made ≡ said_claim (te.Holds (te.Query query es))
IsCall uses (value query) es made = made ≡ said_term (te.Query query es)

abbrev pub append : Tes → Tes → Tes
append te.no_te es = es
append (te.also_te d ds) es = te.also_te d (append ds es)

-- # Comparisons and words

-- what is greater is turned round
abbrev pub compared : CompareOp → Te → Te → Cl
compared compare.Equal a b = te.Equal a b
compared compare.NotEqual a b = te.Not (te.Equal a b)
compared compare.Less a b = te.Less a b
compared compare.AtMost a b = te.AtMost a b
compared compare.Greater a b = te.Less b a
compared compare.AtLeast a b = te.AtMost b a

abbrev pub word_of_one : CallWord → Te → Option Said
word_of_one word.Visible e = Some (said_claim (te.Visible e))
word_of_one word.Before e = None
word_of_one word.Same e = None
word_of_one word.Op e = Some (said_term (te.OpOf e))
word_of_one word.Origin e = Some (said_term (te.OriginOf e))
word_of_one word.Info e = Some (said_term (te.InfoOf e))
word_of_one word.Result e = Some (said_term (te.ResultOf e))

abbrev pub word_of_two : CallWord → Te → Te → Option Said
word_of_two word.Before a b = Some (said_claim (te.Before a b))
word_of_two word.Same a b = Some (said_claim (te.Same a b))
word_of_two _ a b = None

abbrev pub word_of : CallWord → Tes → Option Said
word_of w (te.also_te a te.no_te) = word_of_one w a
word_of w (te.also_te a (te.also_te b te.no_te)) = word_of_two w a b
word_of w _ = None

-- # Types and constructors by their numbers

-- the type is that of the program, where it has a number
abbrev pub IsTyOf : Tables → Kind → Ty → Type 0
IsTyOf t k ty = (wanted : Ty) → ty_of t k ≡ Some wanted → wanted ≡ ty

-- the constructor's number, where it has one
abbrev pub IsNumber : Option ℕ → ℕ → Type 0
IsNumber o con = (wanted : ℕ) → o ≡ Some wanted → wanted ≡ con
