-- What is said of an access, from what it calls and from what is said of its keys and arguments.
use Rattle.std.proofs.Common.{◌≡◌, ℕ, Bool, true, false, cond, List, [], ◌∷◌, Option, Some, None, refl, ap, subst, sym, ◌∙◌}
use Rattle.std.specs.Prelude.{option_map, option_and_then, unwrap_or}
use Rattle.rp_span.specs.declared.Span.{Span}
use Rattle.rp_grammar.specs.Trees.{Ident, ExprTree, ExprForm, ExprTrees, AccessTree, StepTree, StepTrees, ArgTrees}
use Rattle.rp_lang.specs.Exprs as ex
use Rattle.rp_lang.specs.Exprs.{Ex, Exs, no_ex, also_ex}
use Rattle.rp_lang.specs.Formulas as fo
use Rattle.type_rules.specs.declared.kind.Kind.{Kind}
use Rattle.type_rules.specs.Names.{Name, same_name, text_of}
use Rattle.type_rules.specs.Accesses.{access_of}
use Rattle.desugaring.specs.Tables.{Tables}
use Rattle.desugaring.specs.Values as values
use Rattle.desugaring.specs.Values.{Value, term, formula}
use Rattle.desugaring.specs.Callees.{Stand, Vars, vars_of, stand_named, Callee, variable, constructor, use_of, procedure, outcome, operation, question, value, Called, called, variable_with, outcome_with}
use Rattle.desugaring.specs.Expressions as spec
use Rattle.desugaring.specs.Expressions.{called_with, applied}
use Rattle.desugaring.proofs.Options.{then_there, both_there, both_is}
use Rattle.query_bodies.specs.Terms.{Te, Tes, no_te, also_te, Said}
use Rattle.query_bodies.specs.Expanded as put
use Rattle.query_bodies.specs.Expanded.{Uses, Given, given_of, given_at, lifted_by, said_under}
use Rattle.query_laws.specs.Sight.{Known, in_slot, of_param, at_level, said_of, known_ex, Seen, Sight, vars_in, IsGiven, AreGiven, uses_with, Says, SaysTerm, SaysTerms, SaysArgs, SaysKeys, IsOutcome, IsCall, append}
use Rattle.query_laws.proofs.Arguments.{arguments_given}
use Rattle.query_laws.proofs.Calls.{callee_map, called_map, called_goes, IsPlain, access_there}
use Rattle.query_laws.proofs.Said.{term_said}

-- # Keys and arguments

pub no_keys_say : (s : Sight) (ks : List Kind) → SaysKeys s ks StepTrees.no_steps no_te
no_keys_say s [] given st xs e = e
no_keys_say s (k ∷ ks) given st xs e = absurd cc

-- more keys than types become nothing
pub further_keys_say : (s : Sight) (a : ExprTree) (steps : StepTrees) (made : Tes)
    → SaysKeys s [] (StepTrees.more_steps (StepTree.key a) steps) made
further_keys_say s a steps made given st xs e = absurd cc

pub key_says : (s : Sight) (k : Kind) (ks : List Kind) (a : ExprTree) (steps : StepTrees) (x : Te) (xs : Tes)
    → SaysTerm s (Some k) a x
    → SaysKeys s ks steps xs → SaysKeys s (k ∷ ks) (StepTrees.more_steps (StepTree.key a) steps) (also_te x xs)
key_says s k ks a steps x xs first rest given st ys e =
    both_there (λ z. put.terms s.uses given s.binders (also_te x xs) ≡ Some z) also_ex _ _ ys e (λ p q i j.
    both_is also_ex _ _ _ _ (term_said s (Some k) a x first given st p i) (rest given st q j))

pub dot_says : (s : Sight) (ks : List Kind) (x : Ident) (steps : StepTrees) (xs : Tes) → SaysKeys s ks steps xs
    → SaysKeys s ks (StepTrees.more_steps (StepTree.dot x) steps) xs
dot_says s [] x steps xs rest given st = rest given st
dot_says s (k ∷ ks) x steps xs rest given st = rest given st

pub returned_says : (s : Sight) (ks : List Kind) (at : Span) (steps : StepTrees) (xs : Tes) → SaysKeys s ks steps xs
    → SaysKeys s ks (StepTrees.more_steps (StepTree.returned at) steps) xs
returned_says s [] at steps xs rest given st = rest given st
returned_says s (k ∷ ks) at steps xs rest given st = rest given st

pub absent_says : (s : Sight) (ks : List Kind) → SaysArgs s ks ArgTrees.absent no_te
absent_says s [] given st xs e = e
absent_says s (k ∷ ks) given st xs e = absurd cc

pub given_says : (s : Sight) (ks : List Kind) (es : ExprTrees) (xs : Tes) → SaysTerms s ks es xs
    → SaysArgs s ks (ArgTrees.given es) xs
given_says s [] es xs parts given st = parts given st
given_says s (k ∷ ks) es xs parts given st = parts given st

append_put : (u : Uses) (g : Given) (b : ℕ) (keys made : Tes) (ks es : Exs) → put.terms u g b keys ≡ Some ks
    → put.terms u g b made ≡ Some es
    → put.terms u g b (append keys made) ≡ Some (values.append ks es)
append_put u g b no_te made ks es i j =
    subst (λ z. put.terms u g b made ≡ Some (values.append z es)) {x = no_ex} (cc) j
append_put u g b (also_te a keys) made ks es i j =
    both_there (λ z. put.terms u g b (append (also_te a keys) made) ≡ Some (values.append z es)) also_ex _ _ ks i (λ p q l m.
    both_is also_ex _ _ _ _ l (append_put u g b keys made q es m j))

no_keys : (t : Tables) (u : spec.Uses) (vs : Vars) (steps : StepTrees) (ks : Exs) → spec.key_terms t u vs [] steps ≡ Some ks
    → no_ex ≡ ks
no_keys t u vs StepTrees.no_steps ks e = cc
no_keys t u vs (StepTrees.more_steps (StepTree.key a) steps) ks e = absurd cc
no_keys t u vs (StepTrees.more_steps (StepTree.dot x) steps) ks e = no_keys t u vs steps ks e
no_keys t u vs (StepTrees.more_steps (StepTree.returned at) steps) ks e = no_keys t u vs steps ks e

-- # What is known of what is called

-- what a variable stands for is given, and a query of the text takes no keys
abbrev IsSound : Given → Callee Known → List Kind → Type 0
IsSound given (variable k) keys = IsGiven given k
IsSound given (constructor k) keys = Unit {0}
IsSound given (use_of k q) keys = keys ≡ []
IsSound given (procedure k) keys = Unit {0}
IsSound given (outcome k) keys = Unit {0}
IsSound given (operation k) keys = Unit {0}
IsSound given (question k) keys = Unit {0}
IsSound given (value k) keys = Unit {0}

plain_sound : (given : Given) (what : Callee Known) (keys : List Kind) → IsPlain what → IsSound given what keys
plain_sound given (variable k) keys plain = absurd plain
plain_sound given (constructor k) keys plain = tt
plain_sound given (use_of k q) keys plain = absurd plain
plain_sound given (procedure k) keys plain = tt
plain_sound given (outcome k) keys plain = tt
plain_sound given (operation k) keys plain = tt
plain_sound given (question k) keys plain = tt
plain_sound given (value k) keys plain = tt

found_given : (given : Given) (vars : Seen) (x : Name) (s : Stand Known) → AreGiven given vars → stand_named vars x ≡ Some s
    → IsGiven given s.known
found_given given [] x s are e = absurd cc
found_given given (v ∷ vars) x s are e = by_name (same_name v.name x) e (found_given given vars x s are.1) where
  by_name : (same : Bool) → cond same (Some v) (stand_named vars x) ≡ Some s → (stand_named vars x ≡ Some s
      → IsGiven given s.known)
      → IsGiven given s.known
  by_name true here rest = subst (λ (z : Stand Known). IsGiven given z.known) {x = v} {y = s} (cc) are.0
  by_name false here rest = rest here

call_sound : (s : Sight) (given : Given) → AreGiven given s.vars → (a : AccessTree) (c : Called Known)
    → called s.tables s.vars a ≡ Some c
    → IsSound given c.what c.keys
call_sound s given are (AccessTree.path x steps args) c is =
    access_there (λ z. IsSound given z.what z.keys) s.tables s.vars x steps (λ v e. found_given given s.vars (text_of x) v are e)
    (λ z plain. plain_sound given z.what z.keys plain)
    (access_of s.tables.names (vars_of s.vars) (AccessTree.path x steps args)) c (λ k q e. refl) is

-- # What a call becomes

known_said : (u : Uses) (given : Given) (b : ℕ) (k : Known) → IsGiven given k
    → put.term u given b (said_of k) ≡ Some (known_ex given b k)
known_said u given b (in_slot s) is = refl
known_said u given b (of_param p) is =
    ap (option_map (lifted_by b)) is.1
    ∙ ap (λ o. Some (unwrap_or (option_map (lifted_by b) o) ex.Unreturned)) (sym is.1)
known_said u given b (at_level n) is = refl

variable_is : (e : Ex) (xs : Exs) (v : Value) → variable_with e xs ≡ Some v → Some (term e) ≡ Some v
variable_is e no_ex v h = h
variable_is e (also_ex x xs) v h = absurd cc

outcome_is : (u : Uses) (g : Given) (b proc : ℕ) (all : Tes) (xs : Exs) (v : Value) (made : Said) → put.terms u g b all ≡ Some xs
    → outcome_with proc xs ≡ Some v → IsOutcome proc all made → said_under u g b made ≡ Some v
outcome_is u g b proc no_te xs v made i h is =
    ap (said_under u g b) is ∙ ap (outcome_with proc) (sym (nothing_there xs i)) ∙ h where
      nothing_there : (xs : Exs) → Some no_ex ≡ Some xs → xs ≡ no_ex
      nothing_there xs e = cc
outcome_is u g b proc (also_te a no_te) xs v made i h is =
    both_there (λ z. outcome_with proc z ≡ Some v → said_under u g b made ≡ Some v) also_ex _ _ xs i (λ p ps j k.
    subst (λ z. outcome_with proc (also_ex p z) ≡ Some v → said_under u g b made ≡ Some v) {x = no_ex} (cc)
    (λ found. ap (said_under u g b) is ∙ ap (λ o. option_map term (option_map (put.with_value proc) o)) j ∙ found)) h
outcome_is u g b proc (also_te a (also_te d es)) xs v made i h is =
    both_there (λ z. outcome_with proc z ≡ Some v → said_under u g b made ≡ Some v) also_ex _ _ xs i (λ p ps j k.
    both_there (λ z. outcome_with proc (also_ex p z) ≡ Some v → said_under u g b made ≡ Some v) also_ex _ _ ps k (λ q qs l m.
    λ found. absurd cc)) h

call_is : (u : Uses) (given : Given) (b : ℕ) (what : Callee Known) (keys : List Kind) (ks es : Exs) (all : Tes) (v : Value)
    (made : Said)
    → IsSound given what keys → (keys ≡ [] → no_ex ≡ ks) → put.terms u given b all ≡ Some (values.append ks es)
    → called_with (uses_with u) (callee_map (known_ex given b) what) ks es ≡ Some v → IsCall u what all made
    → said_under u given b made ≡ Some v
call_is u given b (variable k) keys ks es all v made sound none i h is =
    ap (said_under u given b) is ∙ ap (option_map term) (known_said u given b k sound)
    ∙ variable_is (known_ex given b k) (values.append ks es) v h
call_is u given b (constructor con) keys ks es all v made sound none i h is =
    ap (said_under u given b) is ∙ ap (λ o. option_map term (option_map (ex.Con con) o)) i ∙ h
call_is u given b (use_of decl q) keys ks es all v made sound none i h is =
    is given b ∙ ap (u decl) (arguments_given u given b all es
    (subst (λ z. put.terms u given b all ≡ Some (values.append z es)) (sym (none sound)) i)) ∙ h
call_is u given b (procedure proc) keys ks es all v made sound none i h is =
    ap (said_under u given b) is ∙ ap (λ o. option_map term (option_map (ex.InfoTerm proc) o)) i ∙ h
call_is u given b (outcome proc) keys ks es all v made sound none i h is =
    outcome_is u given b proc all (values.append ks es) v made i h is
call_is u given b (operation op) keys ks es all v made sound none i h is =
    ap (said_under u given b) is ∙ ap (λ o. option_map term (option_map (ex.OpTerm op) o)) i ∙ h
call_is u given b (question query) keys ks es all v made sound none i h is =
    ap (said_under u given b) is ∙ ap (λ o. option_map formula (option_map fo.Holds (option_map (ex.Query query) o))) i ∙ h
call_is u given b (value query) keys ks es all v made sound none i h is =
    ap (said_under u given b) is ∙ ap (λ o. option_map term (option_map (ex.Query query) o)) i ∙ h

pub access_says : (s : Sight) (asked : Option Kind) (at : Span) (x : Ident) (steps : StepTrees) (args : ArgTrees) (c : Called
    Known)
    (keys made : Tes) (said : Said)
    → called s.tables s.vars (AccessTree.path x steps args) ≡ Some c → SaysKeys s c.keys steps keys → SaysArgs s c.args args made
    → IsCall s.uses c.what (append keys made) said
    → Says s asked (ExprTree.node at (ExprForm.access (AccessTree.path x steps args))) said
access_says s asked at x steps args c keys made said is on_path in_parentheses call given st v e =
    let f = known_ex given s.binders in
    let u = uses_with s.uses in
    let there : called s.tables (vars_in s given) (AccessTree.path x steps args) ≡ Some (called_map f c) =
    sym (called_goes f s.tables s.vars (AccessTree.path x steps args)) ∙ ap (option_map (called_map f)) is in
    let found : applied u (callee_map f c.what) (spec.key_terms s.tables u (vars_in s given) c.keys steps)
    (spec.arg_terms s.tables u (vars_in s given) c.args args) ≡ Some v =
    ap (option_and_then (λ (z : Called Ex). applied u z.what (spec.key_terms s.tables u (vars_in s given) z.keys steps)
    (spec.arg_terms s.tables u (vars_in s given) z.args args))) (sym there) ∙ e in
    then_there _ _ v found (λ ks i h. then_there _ _ v h (λ es j last.
    call_is s.uses given s.binders c.what c.keys ks es (append keys made) v said
    (call_sound s given st.args (AccessTree.path x steps args) c is)
    (λ none. no_keys s.tables u (vars_in s given) steps ks
    (subst (λ ns. spec.key_terms s.tables u (vars_in s given) ns steps ≡ Some ks) none i))
    (append_put s.uses given s.binders keys made ks es (on_path given st ks i) (in_parentheses given st es j)) last call))

-- an access to what isn't there becomes nothing
pub nothing_says : (s : Sight) (asked : Option Kind) (at : Span) (x : Ident) (steps : StepTrees) (args : ArgTrees) (said : Said)
    → called s.tables s.vars (AccessTree.path x steps args) ≡ None
    → Says s asked (ExprTree.node at (ExprForm.access (AccessTree.path x steps args))) said
nothing_says s asked at x steps args said is given st v e =
    let f = known_ex given s.binders in
    let gone : called s.tables (vars_in s given) (AccessTree.path x steps args) ≡ None =
    sym (called_goes f s.tables s.vars (AccessTree.path x steps args)) ∙ ap (option_map (called_map f)) is in
    then_there _ _ v e (λ c there h. let clash = sym there ∙ gone in absurd cc)
