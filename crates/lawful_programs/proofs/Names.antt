-- What is told by a text's names alone doesn't hang on which of its queries aren't plain terms.
use Rattle.std.proofs.Common.{◌≡◌, ◌+◌, ◌<◌, ℕ, zero, suc, Bool, true, false, not, ◌&&◌, List, [], ◌∷◌, ◌++◌, length, Option, Some, None, refl, ap, subst, sym, ◌∙◌, arith}
use Rattle.std.specs.Prelude.{codes, find, is_some, slice_get}
use Rattle.rp_span.specs.declared.Span.{Span}
use Rattle.rp_grammar.specs.Trees.{Ident, TypeTree, TypeForm, ParamTree, CrdtTree, CrdtForm, ExprTree, ExprForm, ExprTrees, AccessTree, StepTree, StepTrees, ArgTrees, DeclTree}
use Rattle.type_rules.specs.declared.kind.Kind.{Kind}
use Rattle.type_rules.specs.Names.{Name, Names, Entry, Declared, entry_named, param_name, param_type, same_name, text_of}
use Rattle.type_rules.specs.Kinds.{maybe_of, kind_of, form_kind}
use Rattle.type_rules.specs.Paths.{Does, Member, Way, at_field, form_of, get, map_members, members_of, operation, past_dot, key_kind, question, set_members, stepped, to_member, walked}
use Rattle.type_rules.specs.Accesses.{Var, Access, alone, find_var, args_of, of_declared, of_entry, of_name, of_way}
use Rattle.type_rules.specs.Typing.{flag, is_plain, is_plain_form, is_plain_access, is_plain_step, is_plain_word, are_plain, are_plain_steps, are_plain_args}
use Rattle.type_rules.specs.Queries.{is_formula_decl, param_var, param_vars, with_flag, with_formulas}
use Rattle.type_rules.specs.Sites.{Scope, Want}
use Rattle.type_rules.specs.Matches.{first_kind, other_kinds}
use Rattle.type_rules.specs.ExprSites.{argument, arg_sites, expr_sites, given_sites, held, int_operand, key_sites, step_sites, way_from, word_args}
use Rattle.type_rules.specs.Rules.{is_late_query, late_query, rule, rules, rule03}
use Rattle.lawful.proofs.Forms.{one}
use Rattle.lawful.proofs.Places.{all_parts, is_one_of}
use Rattle.desugaring.specs.Tables.{Tables}
use Rattle.lawful_programs.specs.Valued.{Sound, AllSound}
use Rattle.lawful_programs.proofs.Reached.{before, late_there}

abbrev pub telling : Names → List Bool → Names
telling n fs = record { types = n.types; entries = n.entries; formulas = fs }

-- # Types and accesses

mutual
  pub kind_stays : (n : Names) (fs : List Bool) (t : TypeTree) → kind_of (telling n fs) t ≡ kind_of n t
  kind_stays n fs (TypeTree.node at form) = form_stays n fs form

  form_stays : (n : Names) (fs : List Bool) (form : TypeForm) → form_kind (telling n fs) form ≡ form_kind n form
  form_stays n fs (TypeForm.named x) = refl
  form_stays n fs TypeForm.bool = refl
  form_stays n fs TypeForm.int = refl
  form_stays n fs TypeForm.text = refl
  form_stays n fs (TypeForm.maybe t) = ap maybe_of (kind_stays n fs t)
  form_stays n fs TypeForm.call = refl
  form_stays n fs TypeForm.invocation = refl

pub vars_stay : (n : Names) (fs : List Bool) (params : List ParamTree) → param_vars (telling n fs) params ≡ param_vars n params
vars_stay n fs [] = refl
vars_stay n fs (q ∷ params) =
    ap (λ k. record { name = text_of (param_name q); kind = k; set = true; fixed = true } ∷ param_vars (telling n fs) params) (kind_stays n fs (param_type q))
    ∙ ap (λ vs. param_var n q ∷ vs) (vars_stay n fs params)

members_stay : (n : Names) (fs : List Bool) (form : CrdtForm) → members_of (telling n fs) form ≡ members_of n form
members_stay n fs (CrdtForm.set_aw t) = ap set_members (kind_stays n fs t)
members_stay n fs (CrdtForm.set_rw t) = ap set_members (kind_stays n fs t)
members_stay n fs (CrdtForm.reg t) =
    ap (λ k. operation (codes "assign") Does.assigns k ∷ get Does.gets_value (maybe_of k) ∷ []) (kind_stays n fs t)
members_stay n fs (CrdtForm.mv_reg t) = ap (λ k. operation (codes "assign") Does.assigns k ∷ question Does.contains k ∷ []) (kind_stays n fs t)
members_stay n fs CrdtForm.counter = refl
members_stay n fs (CrdtForm.map_uw t c) = ap map_members (kind_stays n fs t)
members_stay n fs (CrdtForm.map_dw t c) = ap map_members (kind_stays n fs t)
members_stay n fs (CrdtForm.struct parts) = refl

step_stays : (n : Names) (fs : List Bool) (way : Way) (s : StepTree) → stepped (telling n fs) way s ≡ stepped n way s
step_stays n fs (Way.came c) (StepTree.dot x) = by_field n fs c x (at_field c (text_of x)) where
  by_field : (n : Names) (fs : List Bool) (c : CrdtTree) (x : Ident) (o : Option CrdtTree) → past_dot (telling n fs) c x o ≡ past_dot n c x o
  by_field n fs c x (Some f) = refl
  by_field n fs c x None = ap (λ ms. to_member x (find (λ (m : Member). same_name m.name (text_of x)) ms)) (members_stay n fs (form_of c))
step_stays n fs (Way.came c) (StepTree.returned at) = refl
step_stays n fs (Way.came (CrdtTree.node at (CrdtForm.map_uw t c))) (StepTree.key e) = refl
step_stays n fs (Way.came (CrdtTree.node at (CrdtForm.map_dw t c))) (StepTree.key e) = refl
step_stays n fs (Way.came (CrdtTree.node at (CrdtForm.set_aw t))) (StepTree.key e) = refl
step_stays n fs (Way.came (CrdtTree.node at (CrdtForm.set_rw t))) (StepTree.key e) = refl
step_stays n fs (Way.came (CrdtTree.node at (CrdtForm.reg t))) (StepTree.key e) = refl
step_stays n fs (Way.came (CrdtTree.node at (CrdtForm.mv_reg t))) (StepTree.key e) = refl
step_stays n fs (Way.came (CrdtTree.node at CrdtForm.counter)) (StepTree.key e) = refl
step_stays n fs (Way.came (CrdtTree.node at (CrdtForm.struct parts))) (StepTree.key e) = refl
step_stays n fs (Way.member m) s = refl
step_stays n fs (Way.misfit at) s = refl

walk_stays : (n : Names) (fs : List Bool) (way : Way) (steps : StepTrees) → walked (telling n fs) way steps ≡ walked n way steps
walk_stays n fs way StepTrees.no_steps = refl
walk_stays n fs way (StepTrees.more_steps s steps) =
    walk_stays n fs (stepped (telling n fs) way s) steps ∙ ap (λ w. walked n w steps) (step_stays n fs way s)

access_stays : (n : Names) (fs : List Bool) (x : Ident) (steps : StepTrees) (o : Option Var) → of_name (telling n fs) x steps o ≡ of_name n x steps o
access_stays n fs x steps (Some v) = refl
access_stays n fs x steps None = by_entry n fs x steps (entry_named n (text_of x)) where
  by_what : (n : Names) (fs : List Bool) (x : Ident) (steps : StepTrees) (k : ℕ) (what : Declared) → of_declared (telling n fs) x steps k what ≡ of_declared n x steps k what
  by_what n fs x steps k (Declared.root c) = ap (of_way x) (walk_stays n fs (Way.came c) steps)
  by_what n fs x steps k (Declared.query q) = refl
  by_what n fs x steps k (Declared.proc q) = refl
  by_what n fs x steps k (Declared.con type c) = refl

  by_entry : (n : Names) (fs : List Bool) (x : Ident) (steps : StepTrees) (o : Option Entry) → of_entry (telling n fs) x steps o ≡ of_entry n x steps o
  by_entry n fs x steps None = refl
  by_entry n fs x steps (Some e) = by_what n fs x steps e.decl e.what

-- # Uses of earlier queries

abbrev IsEarly : ℕ → Access → Type 0
IsEarly b (Access.use_of k q) = k < b
IsEarly b _ = Unit {0}

early_access : (n : Names) (sc : Scope) (b : ℕ) (x : Ident) (steps : StepTrees) → sc.decl ≡ b → late_query n sc x ≡ None
    → (o : Option Var) → find_var sc.vars (text_of x) ≡ o → IsEarly b (of_name n x steps o)
early_access n sc b x steps decl t03 (Some v) is = by_steps b x steps v where
  by_steps : (b : ℕ) (x : Ident) (steps : StepTrees) (v : Var) → IsEarly b (alone x steps (Access.variable v))
  by_steps b x StepTrees.no_steps v = tt
  by_steps b x (StepTrees.more_steps s steps) v = tt
early_access n sc b x steps decl t03 None is =
    by_entry n b x steps (entry_named n (text_of x)) (late_there n sc x b decl t03 (ap is_some is)) where
      by_way : (b : ℕ) (x : Ident) (way : Way) → IsEarly b (of_way x way)
      by_way b x (Way.came c) = tt
      by_way b x (Way.member m) = tt
      by_way b x (Way.misfit at) = tt

      by_what : (n : Names) (b : ℕ) (x : Ident) (steps : StepTrees) (name : Name) (k : ℕ) (what : Declared)
          → is_late_query b (Some (record { name = name; decl = k; what = what })) ≡ false → IsEarly b (of_declared n x steps k what)
      by_what n b x steps name k (Declared.root c) late = by_way b x (walked n (Way.came c) steps)
      by_what n b x StepTrees.no_steps name k (Declared.query q) late = before b (record { name = name; decl = k; what = Declared.query q }) late refl
      by_what n b x (StepTrees.more_steps s steps) name k (Declared.query q) late = tt
      by_what n b x StepTrees.no_steps name k (Declared.proc q) late = tt
      by_what n b x (StepTrees.more_steps (StepTree.returned at) StepTrees.no_steps) name k (Declared.proc q) late = tt
      by_what n b x (StepTrees.more_steps (StepTree.returned at) (StepTrees.more_steps s steps)) name k (Declared.proc q) late = tt
      by_what n b x (StepTrees.more_steps (StepTree.dot y) steps) name k (Declared.proc q) late = tt
      by_what n b x (StepTrees.more_steps (StepTree.key e) steps) name k (Declared.proc q) late = tt
      by_what n b x StepTrees.no_steps name k (Declared.con type c) late = tt
      by_what n b x (StepTrees.more_steps s steps) name k (Declared.con type c) late = tt

      by_entry : (n : Names) (b : ℕ) (x : Ident) (steps : StepTrees) (o : Option Entry) → is_late_query b o ≡ false → IsEarly b (of_entry n x steps o)
      by_entry n b x steps None late = tt
      by_entry n b x steps (Some e) late = by_what n b x steps e.name e.decl e.what late

-- of the first queries, so many, both tell the same
abbrev pub Agrees : List Bool → List Bool → ℕ → Type 0
Agrees fs gs b = (k : ℕ) → k < b → slice_get fs k ≡ slice_get gs k

plain_access : (n : Names) (fs : List Bool) (b : ℕ) (a : Access) → Agrees fs n.formulas b → IsEarly b a → is_plain_access (telling n fs) a ≡ is_plain_access n a
plain_access n fs b (Access.use_of k q) same early = ap (λ o. not (flag o)) (same k early)
plain_access n fs b Access.unknown same early = refl
plain_access n fs b (Access.misfit at) same early = refl
plain_access n fs b (Access.variable v) same early = refl
plain_access n fs b (Access.constructor type c) same early = refl
plain_access n fs b (Access.procedure p) same early = refl
plain_access n fs b (Access.returned p) same early = refl
plain_access n fs b (Access.member m) same early = refl

and_same : (a b c d : Bool) → a ≡ c → b ≡ d → (a && b) ≡ (c && d)
and_same a b c d e h = ap (λ z. z && b) e ∙ ap (λ z. c && z) h

module _ (t : Tables) (fs : List Bool) (b : ℕ) (same : Agrees fs t.names.formulas b) where
  mutual
    pub plain_stays : (sc : Scope) (w : Want) (e : ExprTree) → sc.decl ≡ b → AllSound t (expr_sites t.names sc w e)
        → is_plain (telling t.names fs) sc.vars e ≡ is_plain t.names sc.vars e
    plain_stays sc w (ExprTree.node at form) decl sound = form_plain sc w at form decl sound

    form_plain : (sc : Scope) (w : Want) (at : Span) (form : ExprForm) → sc.decl ≡ b → AllSound t (expr_sites t.names sc w (ExprTree.node at form))
        → is_plain_form (telling t.names fs) sc.vars form ≡ is_plain_form t.names sc.vars form
    form_plain sc w at (ExprForm.plus d e) decl sound =
        let p = all_parts (Sound t) (expr_sites t.names sc int_operand d) _ sound.1 in
        and_same _ _ _ _ (plain_stays sc int_operand d decl p.0) (plain_stays sc int_operand e decl p.1)
    form_plain sc w at (ExprForm.minus d e) decl sound =
        let p = all_parts (Sound t) (expr_sites t.names sc int_operand d) _ sound.1 in
        and_same _ _ _ _ (plain_stays sc int_operand d decl p.0) (plain_stays sc int_operand e decl p.1)
    form_plain sc w at (ExprForm.some_of e) decl sound = plain_stays sc (held w.asked) e decl sound.1
    form_plain sc w at (ExprForm.call word es) decl sound =
        ap (λ z. is_plain_word word && z) (args_plain sc false (word_args t.names sc.vars word es) es decl sound.1)
    form_plain sc w at (ExprForm.access (AccessTree.path x steps args)) decl sound =
        let n = t.names in
        let o = find_var sc.vars (text_of x) in
        let p = all_parts (Sound t) (step_sites n sc (way_from n o x) steps) _ sound.1 in
        let t03 = sound.0.0 (rule 3 rule03) (is_one_of rules 2 _ refl) in
        let own = ap (is_plain_access (telling n fs)) (access_stays n fs x steps o)
        ∙ plain_access n fs b (of_name n x steps o) same (early_access n sc b x steps decl t03 o refl) in
        and_same _ _ _ _ (and_same _ _ _ _ own (steps_plain sc (way_from n o x) steps decl p.0))
        (given_plain sc (args_of n (of_name n x steps o)) args decl p.1)
    form_plain sc w at (ExprForm.implies d e) decl sound = refl
    form_plain sc w at (ExprForm.or es) decl sound = refl
    form_plain sc w at (ExprForm.and es) decl sound = refl
    form_plain sc w at (ExprForm.not e) decl sound = refl
    form_plain sc w at (ExprForm.forall q e) decl sound = refl
    form_plain sc w at (ExprForm.exists q e) decl sound = refl
    form_plain sc w at (ExprForm.compare c d e) decl sound = refl
    form_plain sc w at (ExprForm.int i) decl sound = refl
    form_plain sc w at (ExprForm.str bytes) decl sound = refl
    form_plain sc w at (ExprForm.truth holds) decl sound = refl
    form_plain sc w at ExprForm.none_word decl sound = refl
    form_plain sc w at ExprForm.unreturned decl sound = refl
    form_plain sc w at ExprForm.tx decl sound = refl
    form_plain sc w at (ExprForm.match e arms) decl sound = refl

    args_plain : (sc : Scope) (plain : Bool) (ks : List Kind) (es : ExprTrees) → sc.decl ≡ b → AllSound t (arg_sites t.names sc plain ks es)
        → are_plain (telling t.names fs) sc.vars es ≡ are_plain t.names sc.vars es
    args_plain sc plain ks ExprTrees.no_exprs decl sound = refl
    args_plain sc plain ks (ExprTrees.more_exprs e es) decl sound =
        let p = all_parts (Sound t) (expr_sites t.names sc (argument plain (first_kind ks)) e) _ sound in
        and_same _ _ _ _ (plain_stays sc (argument plain (first_kind ks)) e decl p.0) (args_plain sc plain (other_kinds ks) es decl p.1)

    steps_plain : (sc : Scope) (way : Way) (steps : StepTrees) → sc.decl ≡ b → AllSound t (step_sites t.names sc way steps)
        → are_plain_steps (telling t.names fs) sc.vars steps ≡ are_plain_steps t.names sc.vars steps
    steps_plain sc way StepTrees.no_steps decl sound = refl
    steps_plain sc way (StepTrees.more_steps s steps) decl sound =
        let p = all_parts (Sound t) (key_sites t.names sc way s) (step_sites t.names sc (stepped t.names way s) steps) sound in
        and_same _ _ _ _ (step_plain sc way s decl p.0) (steps_plain sc (stepped t.names way s) steps decl p.1)

    step_plain : (sc : Scope) (way : Way) (s : StepTree) → sc.decl ≡ b → AllSound t (key_sites t.names sc way s)
        → is_plain_step (telling t.names fs) sc.vars s ≡ is_plain_step t.names sc.vars s
    step_plain sc way (StepTree.dot x) decl sound = refl
    step_plain sc way (StepTree.returned at) decl sound = refl
    step_plain sc way (StepTree.key e) decl sound = plain_stays sc (argument true (key_kind t.names way)) e decl sound

    given_plain : (sc : Scope) (ks : List Kind) (args : ArgTrees) → sc.decl ≡ b → AllSound t (given_sites t.names sc ks args)
        → are_plain_args (telling t.names fs) sc.vars args ≡ are_plain_args t.names sc.vars args
    given_plain sc ks ArgTrees.absent decl sound = refl
    given_plain sc ks (ArgTrees.given es) decl sound = args_plain sc true ks es decl sound

-- # Which queries of a text aren't plain terms

left_at : (fs gs : List Bool) (j : ℕ) → j < length fs → slice_get (fs ++ gs) j ≡ slice_get fs j
left_at [] gs j e = absurd (omega (arith, e))
left_at (f ∷ fs) gs zero e = refl
left_at (f ∷ fs) gs (suc j) e = left_at fs gs j (omega (arith, e))

end_at : (fs : List Bool) (f : Bool) → slice_get (fs ++ f ∷ []) (length fs) ≡ Some f
end_at [] f = refl
end_at (g ∷ fs) f = end_at fs f

one_longer : (fs : List Bool) (f : Bool) → length (fs ++ f ∷ []) ≡ suc (length fs)
one_longer [] f = refl
one_longer (g ∷ fs) f = ap suc (one_longer fs f)

keeps : (n : Names) (ds : List DeclTree) (j : ℕ) → j < length n.formulas → slice_get (with_formulas n ds).formulas j ≡ slice_get n.formulas j
keeps n [] j e = refl
keeps n (d ∷ ds) j e =
    let f = is_formula_decl n d in
    let longer = one_longer n.formulas f in
    keeps (with_flag n f) ds j (omega (arith, e, longer)) ∙ left_at n.formulas (f ∷ []) j e

-- what is told of a declaration, by those before it
pub record Told (n : Names) (all : List Bool) (m : ℕ) (d : DeclTree) : Type 0 where
  pub fs : List Bool
  pub is : slice_get all m ≡ Some (is_formula_decl (telling n fs) d)
  pub same : Agrees fs all m

pub told_at : (n : Names) (ds : List DeclTree) (k i m : ℕ) (d : DeclTree) → length n.formulas ≡ k → k + i ≡ m → slice_get ds i ≡ Some d
    → Told n (with_formulas n ds).formulas m d
told_at n [] k i m d long number at = absurd cc
told_at n (first ∷ ds) k zero m d long number at =
    let f = is_formula_decl n first in
    let here : length n.formulas ≡ m = omega (arith, long, number) in
    let longer = one_longer n.formulas f in
    let n2 = with_flag n f in
    record {
      fs = n.formulas;
      is = subst (λ j. slice_get (with_formulas n2 ds).formulas j ≡ Some (is_formula_decl n d)) here
          (keeps n2 ds (length n.formulas) (omega (arith, longer)) ∙ end_at n.formulas f ∙ ap (λ z. Some (is_formula_decl n z)) (one at));
      same = λ j e.
          let less : j < length n.formulas = omega (arith, e, here) in
          sym (keeps n2 ds j (omega (arith, less, longer)) ∙ left_at n.formulas (f ∷ []) j less);
    }
told_at n (first ∷ ds) k (suc i) m d long number at =
    let f = is_formula_decl n first in
    let longer = one_longer n.formulas f in
    let r = told_at (with_flag n f) ds (suc k) i m d (omega (arith, longer, long)) (omega (arith, number)) at in
    record { fs = r.fs; is = r.is; same = r.same }
