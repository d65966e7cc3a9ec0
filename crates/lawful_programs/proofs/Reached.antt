-- What an access of a lawful place calls.
use Rattle.std.proofs.Common.{◌≡◌, ◌<◌, ℕ, suc, Bool, true, false, not, ◌&&◌, ◌==◌, List, [], ◌∷◌, map, length, Option, Some, None, refl, ap, subst, sym, ◌∙◌, cond, arith}
use Rattle.std.specs.Prelude.{is_some, option_map, nat_le}
use Rattle.std.proofs.lemmas.Bool.{eqb-true, leb-false, ne_eqb, not-false, or_parts}
use Rattle.rp_span.specs.declared.Span.{Span}
use Rattle.rp_grammar.specs.Trees.{Ident, ExprTree, ExprForm, ParamTree, AccessTree, StepTree, StepTrees, ArgTrees}
use Rattle.rp_lang.specs.Exprs.{Ex, Exs, no_ex, also_ex}
use Rattle.type_rules.specs.declared.kind.Kind.{Kind}
use Rattle.type_rules.specs.Names.{Names, Entry, Declared, text_of, entry_named, con_fields, param_type}
use Rattle.type_rules.specs.Kinds.{kind_of}
use Rattle.type_rules.specs.Paths.{Member, Way, is_operation, walked}
use Rattle.type_rules.specs.Accesses.{Var, Access, find_var, access_kind, access_of, args_of, args_fit, alone, con_args_fit, count, has_args, is_bare, of_declared, of_entry, of_name, of_way, proc_params, proc_result, query_params, result_args}
use Rattle.type_rules.specs.Typing.{is_plain_access}
use Rattle.type_rules.specs.Sites.{Scope, Want, Site}
use Rattle.type_rules.specs.ExprSites.{entry_way, way_from}
use Rattle.type_rules.specs.Rules.{rule, rules, rule03, rule04, rule12, rule14, rule15, access_fits, is_declared, is_late_query, is_later, is_query, is_var, late_query, misfit_in, nowhere, root_of, too_early, when}
use Rattle.desugaring.specs.Tables.{Tables}
use Rattle.desugaring.specs.Callees.{operation, Stand, Vars, vars_of, stand_named, Called, of_access, taking, variable}
use Rattle.desugaring.specs.Values.{term}
use Rattle.desugaring.specs.Expressions.{Uses, called_with}
use Rattle.lawful.specs.Typed.{Along}
use Rattle.lawful.proofs.Basics.{when_not}
use Rattle.lawful.proofs.Places.{is_one_of}
use Rattle.lawful_programs.specs.Valued.{Sound, IsWhole, AllWhole, VarsWhole, Seen, Valued, Ready, count_args, count_terms}
use Rattle.lawful_programs.proofs.Looks.{Looks, look}

-- where an expression stands
pub record In (t : Tables) (b : ℕ) (sc : Scope) (vs : Vars) : Type 0 where
  pub decl : sc.decl ≡ b
  pub seen : Seen sc.vars vs
  pub whole : VarsWhole t sc.vars

-- # What the rules say of an access

pub record AccessKept (n : Names) (sc : Scope) (a : AccessTree) : Type 0 where
  pub t03 : late_query n sc (root_of a) ≡ None
  pub t04 : nowhere n sc (root_of a) ≡ None
  pub t12 : misfit_in (access_of n sc.vars a) ≡ None
  pub t14 : access_fits n sc a ≡ true
  pub t15 : too_early n sc (root_of a) ≡ None

pub at_place : (t : Tables) (sc : Scope) (w : Want) (at : Span) (a : AccessTree) → Sound t (Site.place sc w (ExprTree.node at (ExprForm.access a)))
    → AccessKept t.names sc a
at_place t sc w at a sound = record {
  t03 = sound.0 (rule 3 rule03) (is_one_of rules 2 _ refl);
  t04 = sound.0 (rule 4 rule04) (is_one_of rules 3 _ refl);
  t12 = sound.0 (rule 12 rule12) (is_one_of rules 11 _ refl);
  t14 = not-false _ (or_parts _ _ (when_not _ _ (sound.0 (rule 14 rule14) (is_one_of rules 13 _ refl)))).1;
  t15 = sound.0 (rule 15 rule15) (is_one_of rules 14 _ refl);
}

pub at_statement : (t : Tables) (sc : Scope) (a : AccessTree) → Sound t (Site.statement sc a) → AccessKept t.names sc a
at_statement t sc a sound = record {
  t03 = sound.0 (rule 3 rule03) (is_one_of rules 2 _ refl);
  t04 = sound.0 (rule 4 rule04) (is_one_of rules 3 _ refl);
  t12 = sound.0 (rule 12 rule12) (is_one_of rules 11 _ refl);
  t14 = not-false _ (when_not _ _ (sound.0 (rule 14 rule14) (is_one_of rules 13 _ refl)));
  t15 = sound.0 (rule 15 rule15) (is_one_of rules 14 _ refl);
}

-- a name that is no variable's is declared
declared_there : (seen declared later : Bool) (a b : Span) → when (not seen && not declared && not later) a ≡ None
    → when (not seen && not declared && later) b ≡ None → seen ≡ false → declared ≡ true
declared_there true declared later a b e h is = absurd cc
declared_there false true later a b e h is = refl
declared_there false false true a b e h is = absurd cc
declared_there false false false a b e h is = absurd cc

-- # Numbers of arguments

abbrev pub is_nothing : Access → Bool
is_nothing Access.unknown = true
is_nothing _ = false

same_many : (n : Names) (params : List ParamTree) → length (map (λ q. kind_of n (param_type q)) params) ≡ length params
same_many n [] = refl
same_many n (q ∷ params) = ap suc (same_many n params)

params_many : (n : Names) (args : ArgTrees) (params : List ParamTree) → has_args (length params) args ≡ true
    → count_args args ≡ length (map (λ q. kind_of n (param_type q)) params)
params_many n ArgTrees.absent params e = absurd cc
params_many n (ArgTrees.given es) params e = eqb-true (count es) (length params) e ∙ sym (same_many n params)

fields_many : (n : Names) (args : ArgTrees) (params : List ParamTree) → con_args_fit (length params) args ≡ true
    → count_args args ≡ length (map (λ q. kind_of n (param_type q)) params)
fields_many n args [] e = none args e where
  none : (args : ArgTrees) → is_bare args ≡ true → count_args args ≡ 0
  none ArgTrees.absent e = refl
  none (ArgTrees.given es) e = absurd cc
fields_many n args (q ∷ params) e = by_test n args q params (length (q ∷ params) == 0) (ne_eqb (length (q ∷ params)) 0 (omega arith)) e where
  by_test : (n : Names) (args : ArgTrees) (q : ParamTree) (params : List ParamTree) (bare : Bool) → bare ≡ false
      → cond bare (is_bare args) (has_args (length (q ∷ params)) args) ≡ true → count_args args ≡ length (map (λ z. kind_of n (param_type z)) (q ∷ params))
  by_test n args q params true is e = absurd cc
  by_test n args q params false is e = params_many n args (q ∷ params) e

kinds_many : (args : ArgTrees) (ks : List Kind) → has_args (length ks) args ≡ true → count_args args ≡ length ks
kinds_many ArgTrees.absent ks e = absurd cc
kinds_many (ArgTrees.given es) ks e = eqb-true (count es) (length ks) e

args_many : (n : Names) (a : Access) (args : ArgTrees) → args_fit n a args ≡ true → misfit_in a ≡ None → is_nothing a ≡ false
    → count_args args ≡ length (args_of n a)
args_many n Access.unknown args e fit some = absurd cc
args_many n (Access.misfit at) args e fit some = absurd cc
args_many n (Access.variable v) ArgTrees.absent e fit some = refl
args_many n (Access.variable v) (ArgTrees.given es) e fit some = absurd cc
args_many n (Access.constructor type c) args e fit some = fields_many n args (con_fields c) e
args_many n (Access.use_of k q) args e fit some = params_many n args (query_params q) e
args_many n (Access.procedure p) args e fit some = params_many n args (proc_params p) e
args_many n (Access.returned p) args e fit some = kinds_many args (result_args n (proc_result p)) e
args_many n (Access.member m) args e fit some = kinds_many args m.args e

alone_something : (x : Ident) (steps : StepTrees) (a : Access) → is_nothing a ≡ false → is_nothing (alone x steps a) ≡ false
alone_something x StepTrees.no_steps a e = e
alone_something x (StepTrees.more_steps s steps) a e = refl

something : (n : Names) (x : Ident) (steps : StepTrees) (k : ℕ) (what : Declared) → is_nothing (of_declared n x steps k what) ≡ false
something n x steps k (Declared.root c) = by_way x (walked n (Way.came c) steps) where
  by_way : (x : Ident) (way : Way) → is_nothing (of_way x way) ≡ false
  by_way x (Way.came c) = refl
  by_way x (Way.member m) = refl
  by_way x (Way.misfit at) = refl
something n x steps k (Declared.query q) = alone_something x steps (Access.use_of k q) refl
something n x StepTrees.no_steps k (Declared.proc q) = refl
something n x (StepTrees.more_steps (StepTree.returned at) StepTrees.no_steps) k (Declared.proc q) = refl
something n x (StepTrees.more_steps (StepTree.returned at) (StepTrees.more_steps s steps)) k (Declared.proc q) = refl
something n x (StepTrees.more_steps (StepTree.dot y) steps) k (Declared.proc q) = refl
something n x (StepTrees.more_steps (StepTree.key e) steps) k (Declared.proc q) = refl
something n x steps k (Declared.con type c) = alone_something x steps (Access.constructor type c) refl

-- # What is called

-- along these steps, where the rules see it so, and this is found
pub record ReachedBy (t : Tables) (uses : Uses) (steps : StepTrees) (args : ArgTrees) (way : Way) (shown : Access) (found : Option (Called Ex)) : Type 0 where
  pub c : Called Ex
  pub is : found ≡ Some c
  pub along : Along t.names way steps c.keys
  pub args_are : c.args ≡ args_of t.names shown
  pub many : count_args args ≡ length c.args
  pub keys_whole : AllWhole t c.keys
  pub args_whole : AllWhole t c.args
  pub whole : IsWhole t (access_kind t.names shown)
  pub gives : (keys es : Exs) → count_terms keys ≡ length c.keys → count_terms es ≡ length c.args
      → Valued (access_kind t.names shown) (is_plain_access t.names shown) (called_with uses c.what keys es)
  pub acts : (m : Member) → shown ≡ Access.member m → is_operation m.does ≡ true → (k : ℕ) × (c.what ≡ operation k)
  pub some : is_nothing shown ≡ false

no_terms : (uses : Uses) (k : Kind) (plain : Bool) (known : Ex) (keys es : Exs) → count_terms keys ≡ 0 → count_terms es ≡ 0
    → Valued k plain (called_with uses (variable known) keys es)
no_terms uses k plain known no_ex no_ex e h = (term known, refl, tt)
no_terms uses k plain known no_ex (also_ex x xs) e h = absurd (omega (arith, h))
no_terms uses k plain known (also_ex x xs) es e h = absurd (omega (arith, e))

pub before : (b : ℕ) (e : Entry) → is_late_query b (Some e) ≡ false → is_query e.what ≡ true → e.decl < b
before b e late query = leb-false b e.decl (by_query (is_query e.what) (nat_le b e.decl) late query) where
  by_query : (query late : Bool) → (query && late) ≡ false → query ≡ true → late ≡ false
  by_query true late e h = e
  by_query false late e h = absurd cc

of_entries : (t : Tables) (b : ℕ) (uses : Uses) → Ready t b uses → (vs : Vars) (x : Ident) (steps : StepTrees) (args : ArgTrees) (o : Option Entry)
    → entry_named t.names (text_of x) ≡ o → is_some o ≡ true → misfit_in (of_entry t.names x steps o) ≡ None
    → is_late_query b o ≡ false → args_fit t.names (of_entry t.names x steps o) args ≡ true
    → ReachedBy t uses steps args (entry_way x o) (of_entry t.names x steps o) (of_access t vs x steps (of_entry t.names x steps o))
of_entries t b uses ready vs x steps args None is some fit early fits = absurd cc
of_entries t b uses ready vs x steps args (Some e) is some fit early fits =
    let n = t.names in
    let call = ready.call vs x steps e is fit (before b e early) in
    record {
      c = call.c;
      is = call.is;
      along = call.along;
      args_are = call.args;
      many = args_many n (of_entry n x steps (Some e)) args fits fit (something n x steps e.decl e.what) ∙ sym (ap length call.args);
      keys_whole = call.keys_whole;
      args_whole = call.args_whole;
      whole = call.whole;
      gives = call.gives;
      acts = call.acts;
      some = something n x steps e.decl e.what;
    }

pub late_there : (n : Names) (sc : Scope) (x : Ident) (b : ℕ) → sc.decl ≡ b → late_query n sc x ≡ None → is_var sc.vars x ≡ false
    → is_late_query b (entry_named n (text_of x)) ≡ false
late_there n sc x b decl e is =
    subst (λ k. is_late_query k (entry_named n (text_of x)) ≡ false) decl
    (by_var (is_var sc.vars x) (is_late_query sc.decl (entry_named n (text_of x))) _ e is) where
      by_var : (seen late : Bool) (a : Span) → when (not seen && late) a ≡ None → seen ≡ false → late ≡ false
      by_var true late a e is = absurd cc
      by_var false true a e is = absurd cc
      by_var false false a e is = refl

abbrev pub Reaches : Tables → Uses → Vars → Ident → StepTrees → ArgTrees → Option Var → Option Var → Type 0
Reaches t uses vs x steps args o u =
    ReachedBy t uses steps args (way_from t.names o x) (of_name t.names x steps o) (of_access t vs x steps (of_name t.names x steps u))

by_look : (t : Tables) (b : ℕ) (uses : Uses) → Ready t b uses → (sc : Scope) (vs : Vars) → sc.decl ≡ b
    → (x : Ident) (steps : StepTrees) (args : ArgTrees) (o : Option Var) (s : Option (Stand Ex)) (u : Option Var) → Looks t o s u
    → stand_named vs (text_of x) ≡ s → is_var sc.vars x ≡ is_some o → misfit_in (of_name t.names x steps o) ≡ None
    → args_fit t.names (of_name t.names x steps o) args ≡ true → AccessKept t.names sc (AccessTree.path x steps args) → Reaches t uses vs x steps args o u
by_look t b uses ready sc vs decl x StepTrees.no_steps args o s u (Looks.there {name} {kind} {set} {fixed} {known = meant} whole) named seen fit fits kept =
    let v : Var = record { name = name; kind = kind; set = set; fixed = fixed } in
    record {
      c = taking [] [] (variable meant);
      is = ap (option_map (λ z. taking [] [] (variable z.known))) named;
      along = Along.ends;
      args_are = refl;
      many = args_many t.names (Access.variable v) args fits refl refl;
      keys_whole = tt;
      args_whole = tt;
      whole = whole;
      gives = no_terms uses kind true meant;
      acts = λ m e h. absurd cc;
      some = refl;
    }
by_look t b uses ready sc vs decl x (StepTrees.more_steps step steps) args o s u (Looks.there whole) named seen fit fits kept = absurd cc
by_look t b uses ready sc vs decl x steps args o s u Looks.nowhere named seen fit fits kept =
    of_entries t b uses ready vs x steps args (entry_named t.names (text_of x)) refl
    (declared_there (is_var sc.vars x) (is_declared t.names x) (is_later sc x) _ _ kept.t04 kept.t15 seen) fit
    (late_there t.names sc x b decl kept.t03 seen) fits

-- what an access calls, where no rule is broken at its place
pub reached : (t : Tables) (b : ℕ) (uses : Uses) → Ready t b uses → (sc : Scope) (vs : Vars) → In t b sc vs
    → (x : Ident) (steps : StepTrees) (args : ArgTrees) → AccessKept t.names sc (AccessTree.path x steps args)
    → Reaches t uses vs x steps args (find_var sc.vars (text_of x)) (find_var (vars_of vs) (text_of x))
reached t b uses ready sc vs there x steps args kept =
    by_look t b uses ready sc vs there.decl x steps args _ (stand_named vs (text_of x)) _ (look t sc.vars vs (text_of x) there.seen there.whole) refl refl
    kept.t12 kept.t14 kept
