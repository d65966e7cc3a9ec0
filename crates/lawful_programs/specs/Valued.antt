-- What an expression of a lawful place becomes: that it becomes something, and where that is a plain term.
use Rattle.std.specs.Prelude.{◌≡◌, ◌≤◌, ◌<◌, ℕ, ◌+◌, Bool, true, false, List, [], ◌∷◌, length, Option, Some, None}
use Rattle.std.specs.List.{AllByRecursion}
use Rattle.rp_grammar.specs.Trees.{Ident, StepTrees, ArgTrees}
use Rattle.rp_lang.specs.Exprs.{Ex, Exs, no_ex, also_ex}
use Rattle.type_rules.specs.declared.kind.Kind.{Kind}
use Rattle.type_rules.specs.Names.{Name, Names, Entry, text_of, entry_named}
use Rattle.type_rules.specs.Kinds.{bool_kind}
use Rattle.type_rules.specs.Accesses.{Var, Access, access_kind, args_of, of_entry, count}
use Rattle.type_rules.specs.Paths.{Member, is_operation}
use Rattle.type_rules.specs.Typing.{is_plain_access}
use Rattle.type_rules.specs.Sites.{Site}
use Rattle.type_rules.specs.Matches.{pattern_kinds}
use Rattle.type_rules.specs.ExprSites.{entry_way}
use Rattle.type_rules.specs.Rules.{Numbered, rules, is_query, misfit_in}
use Rattle.type_rules.specs.Faults.{IsOneOf}
use Rattle.desugaring.specs.Appearances.{site_kinds}
use Rattle.desugaring.specs.Tables.{Tables}
use Rattle.desugaring.specs.Values.{Value, term, formula}
use Rattle.desugaring.specs.Callees.{operation, stand, Vars, Called, of_access}
use Rattle.desugaring.specs.Expressions.{Uses, called_with}
use Rattle.lawful.specs.Typed.{Along, IsKnown}

-- # Places

-- no rule is broken at the place
abbrev pub BreaksNone : Names → Site → Type 0
BreaksNone n s = (r : Numbered) → IsOneOf r rules → r.rule n s ≡ None

-- the datatypes that it speaks of have numbers
abbrev pub IsNumbered : Tables → Site → Type 0
IsNumbered t s = (c : Kind) → IsOneOf c (site_kinds t.names s) → IsOneOf c t.datatypes

abbrev pub Sound : Tables → Site → Type 0
Sound t s = BreaksNone t.names s × IsNumbered t s

abbrev pub AllSound : Tables → List Site → Type 0
AllSound t ss = AllByRecursion (Sound t) ss

-- # Types of the program

-- the type has a number, and so has what stands inside each of its `Maybe`s
abbrev pub IsWhole : Tables → Kind → Type 0
IsWhole t k = (m : ℕ) → m ≤ k.maybes → IsKnown t (record { base = k.base; maybes = m })

abbrev pub AllWhole : Tables → List Kind → Type 0
AllWhole t ks = AllByRecursion (IsWhole t) ks

abbrev pub VarWhole : Tables → Var → Type 0
VarWhole t v = IsWhole t v.kind

abbrev pub VarsWhole : Tables → List Var → Type 0
VarsWhole t vs = AllByRecursion (VarWhole t) vs

abbrev pub AskedWhole : Tables → Option Kind → Type 0
AskedWhole t None = Unit {0}
AskedWhole t (Some k) = IsWhole t k

-- # Values

-- a formula is a truth, and no plain term
abbrev pub Suits : Kind → Bool → Value → Type 0
Suits k plain (term x) = Unit {0}
Suits k plain (formula f) = (k ≡ bool_kind) × (plain ≡ false)

-- there is a value, a plain term where the expression is one or is no truth
abbrev pub Valued : Kind → Bool → Option Value → Type 0
Valued k plain o = (v : Value) × (o ≡ Some v) × Suits k plain v

-- the variables in sight, by the type rules and by what they stand for: the same names and types
pub data Seen : List Var → Vars → Type 0 where
  nothing : Seen [] []
  another : {name : Name} {kind : Kind} {set fixed : Bool} {known : Ex} {vs : List Var} {ss : Vars} → Seen vs ss
      → Seen (record { name = name; kind = kind; set = set; fixed = fixed } ∷ vs) (stand name kind known ∷ ss)

-- # Calls

abbrev pub count_terms : Exs → ℕ
count_terms no_ex = 0
count_terms (also_ex x xs) = count_terms xs + 1

abbrev pub count_args : ArgTrees → ℕ
count_args ArgTrees.absent = 0
count_args (ArgTrees.given es) = count es

-- what the access calls is there, and gives a value for so many keys and arguments
pub record Callable (t : Tables) (uses : Uses) (vs : Vars) (x : Ident) (steps : StepTrees) (o : Option Entry) : Type 0 where
  pub c : Called Ex
  pub is : of_access t vs x steps (of_entry t.names x steps o) ≡ Some c
  pub along : Along t.names (entry_way x o) steps c.keys
  pub args : c.args ≡ args_of t.names (of_entry t.names x steps o)
  pub keys_whole : AllWhole t c.keys
  pub args_whole : AllWhole t c.args
  pub whole : IsWhole t (access_kind t.names (of_entry t.names x steps o))
  pub gives : (keys es : Exs) → count_terms keys ≡ length c.keys → count_terms es ≡ length c.args
      → Valued (access_kind t.names (of_entry t.names x steps o)) (is_plain_access t.names (of_entry t.names x steps o))
      (called_with uses c.what keys es)
  -- an operation of the store is called by its number
  pub acts : (m : Member) → of_entry t.names x steps o ≡ Access.member m → is_operation m.does ≡ true → (k : ℕ) × (c.what ≡ operation k)

-- what the tables of a text give to the expressions of its declaration of number b
pub record Ready (t : Tables) (b : ℕ) (uses : Uses) : Type 0 where
  pub bool : IsOneOf bool_kind t.datatypes
  pub fields : (k : Kind) (x : Name) → IsWhole t k → AllWhole t (pattern_kinds t.names k x)
  pub call : (vs : Vars) (x : Ident) (steps : StepTrees) (e : Entry) → entry_named t.names (text_of x) ≡ Some e
      → misfit_in (of_entry t.names x steps (Some e)) ≡ None → (is_query e.what ≡ true → e.decl < b)
      → Callable t uses vs x steps (Some e)
