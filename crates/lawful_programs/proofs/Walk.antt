-- At each place of an expression the type of what stands there has a number.
use Rattle.std.proofs.Common.{◌≡◌, ℕ, Bool, true, false, List, [], ◌∷◌, ◌++◌, length, None, refl, subst, sym, ◌∙◌, arith}
use Rattle.std.specs.List.{AllByRecursion}
use Rattle.rp_span.specs.declared.Span.{Span}
use Rattle.rp_grammar.specs.Trees.{Ident, PatternTree, ExprTree, ExprForm, ExprTrees, ExprArmTree, ExprArmTrees, AccessTree, StepTree, StepTrees, ArgTrees}
use Rattle.type_rules.specs.declared.kind.Kind.{Kind}
use Rattle.type_rules.specs.Names.{Name, text_of, param_type}
use Rattle.type_rules.specs.Paths.{Way, stepped, key_kind}
use Rattle.type_rules.specs.Accesses.{Var, count, find_var}
use Rattle.type_rules.specs.Typing.{type_of}
use Rattle.type_rules.specs.Sites.{Scope, Want, Site}
use Rattle.type_rules.specs.Matches.{bound_sites, bound_var, first_kind, other_kinds, pattern_kinds, pattern_name, pattern_vars}
use Rattle.type_rules.specs.ExprSites.{access_sites, arg_sites, argument, arm_sites, bool_operand, bool_whole, expr_sites, form_sites, given_sites, held, int_operand, left_want, matched, operand_sites, pattern_sites, quantified_var, right_want, step_sites, way_from, with_pattern, with_var, word_args}
use Rattle.type_rules.specs.Rules.{is_datatype_kind, rule, rules, rule14}
use Rattle.desugaring.specs.Tables.{Tables}
use Rattle.desugaring.specs.Callees.{Vars}
use Rattle.desugaring.specs.Expressions.{Uses, under_pattern, under_quantifier}
use Rattle.lawful.specs.Typed.{Along}
use Rattle.lawful.proofs.Basics.{when_not}
use Rattle.lawful.proofs.Places.{all_both, all_parts, is_one_of}
use Rattle.std.proofs.lemmas.Bool.{eqb-true, not-false, or_parts}
use Rattle.lawful_programs.specs.Valued.{Sound, AllSound, IsWhole, AllWhole, AskedWhole, Ready, count_args}
use Rattle.lawful_programs.proofs.Wholes.{int_whole, truth_whole, written_whole}
use Rattle.lawful_programs.proofs.Types.{type_whole}
use Rattle.lawful_programs.proofs.Numbers.{arm_there, inside_whole}
use Rattle.lawful_programs.proofs.Reached.{In, AccessKept, at_place, reached}
use Rattle.lawful_programs.proofs.Parts.{matched_there, word_takes_there}
use Rattle.lawful_programs.proofs.Exprs.{accesses_whole, in_pattern, in_quantifier, one_less}
use Rattle.lawful_programs.proofs.Sides.{sides_whole}

abbrev pub PlaceWhole : Tables → Site → Type 0
PlaceWhole t (Site.place sc w e) = IsWhole t (type_of t.names sc.vars w.asked e)
PlaceWhole t _ = Unit {0}

abbrev pub Wholes : Tables → List Site → Type 0
Wholes t ss = AllByRecursion (PlaceWhole t) ss

pub join : (t : Tables) (ss rs : List Site) → Wholes t ss → Wholes t rs → Wholes t (ss ++ rs)
join t ss rs a b = all_both (PlaceWhole t) ss rs a b

bound_wholes : (t : Tables) (vs : List Var) (xs : List Ident) (ks : List Kind) → Wholes t (bound_sites vs xs ks)
bound_wholes t vs [] ks = tt
bound_wholes t vs (x ∷ xs) ks = (tt, bound_wholes t (vs ++ bound_var x (first_kind ks) ∷ []) xs (other_kinds ks))

pub pattern_wholes : (t : Tables) (vs : List Var) (k : Kind) (before : List Name) (q : PatternTree) → Wholes t (pattern_sites t.names vs k before q)
pattern_wholes t vs k before q = (tt, bound_wholes t vs (pattern_vars q) (pattern_kinds t.names k (pattern_name q)))

module _ (t : Tables) (b : ℕ) (uses : Uses) (ready : Ready t b uses) where
  mutual
    pub wholes : (sc : Scope) (vs : Vars) (w : Want) (e : ExprTree) → In t b sc vs → AskedWhole t w.asked → AllSound t (expr_sites t.names sc w e)
        → Wholes t (expr_sites t.names sc w e)
    wholes sc vs w (ExprTree.node at form) there asked sound = (
      type_whole t ready.bool sc (accesses_whole t b uses ready sc vs there) w (ExprTree.node at form) asked sound,
      form_wholes sc vs w at form there asked sound,
    )

    form_wholes : (sc : Scope) (vs : Vars) (w : Want) (at : Span) (form : ExprForm) → In t b sc vs → AskedWhole t w.asked
        → AllSound t (expr_sites t.names sc w (ExprTree.node at form)) → Wholes t (form_sites t.names sc w at form)
    form_wholes sc vs w at (ExprForm.implies d e) there asked sound =
        let p = all_parts (Sound t) (expr_sites t.names sc bool_operand d) _ sound.1 in
        join t _ _ (wholes sc vs bool_operand d there (truth_whole t ready.bool) p.0) (wholes sc vs bool_operand e there (truth_whole t ready.bool) p.1)
    form_wholes sc vs w at (ExprForm.or es) there asked sound = operand_wholes sc vs es there sound.1
    form_wholes sc vs w at (ExprForm.and es) there asked sound = operand_wholes sc vs es there sound.1
    form_wholes sc vs w at (ExprForm.not e) there asked sound = wholes sc vs bool_operand e there (truth_whole t ready.bool) sound.1
    form_wholes sc vs w at (ExprForm.forall q e) there asked sound =
        let whole = written_whole t ready.bool sc.decl _ (param_type q) sound.1.1.0 in (
          tt,
          (
            tt,
            wholes (with_var sc (quantified_var t.names q)) (under_quantifier t.names vs q) bool_operand e (in_quantifier t b sc vs q whole there)
                (truth_whole t ready.bool) sound.1.1.1,
          ),
        )
    form_wholes sc vs w at (ExprForm.exists q e) there asked sound =
        let whole = written_whole t ready.bool sc.decl _ (param_type q) sound.1.1.0 in (
          tt,
          (
            tt,
            wholes (with_var sc (quantified_var t.names q)) (under_quantifier t.names vs q) bool_operand e (in_quantifier t b sc vs q whole there)
                (truth_whole t ready.bool) sound.1.1.1,
          ),
        )
    form_wholes sc vs w at (ExprForm.compare c d e) there asked sound =
        let left = left_want t.names sc.vars c d e in
        let right = right_want t.names sc.vars c d e in
        let p = all_parts (Sound t) (expr_sites t.names sc left d) (expr_sites t.names sc right e) sound.1 in
        let whole = sides_whole t ready.bool sc (accesses_whole t b uses ready sc vs there) c d e p.0 p.1 in
        join t _ _ (wholes sc vs left d there whole.0 p.0) (wholes sc vs right e there whole.1 p.1)
    form_wholes sc vs w at (ExprForm.plus d e) there asked sound =
        let p = all_parts (Sound t) (expr_sites t.names sc int_operand d) _ sound.1 in
        join t _ _ (wholes sc vs int_operand d there (int_whole t) p.0) (wholes sc vs int_operand e there (int_whole t) p.1)
    form_wholes sc vs w at (ExprForm.minus d e) there asked sound =
        let p = all_parts (Sound t) (expr_sites t.names sc int_operand d) _ sound.1 in
        join t _ _ (wholes sc vs int_operand d there (int_whole t) p.0) (wholes sc vs int_operand e there (int_whole t) p.1)
    form_wholes sc vs w at (ExprForm.int i) there asked sound = tt
    form_wholes sc vs w at (ExprForm.str bytes) there asked sound = tt
    form_wholes sc vs w at (ExprForm.truth holds) there asked sound = tt
    form_wholes sc vs w at ExprForm.none_word there asked sound = tt
    form_wholes sc vs w at (ExprForm.some_of e) there asked sound = wholes sc vs (held w.asked) e there (inside_whole t w.asked asked) sound.1
    form_wholes sc vs w at ExprForm.unreturned there asked sound = tt
    form_wholes sc vs w at ExprForm.tx there asked sound = tt
    form_wholes sc vs w at (ExprForm.call word es) there asked sound =
        let takes = word_takes_there t sc.vars word es in
        let law = or_parts _ _ (when_not _ _ (sound.0.0 (rule 14 rule14) (is_one_of rules 13 _ refl))) in
        arg_wholes sc vs false (word_args t.names sc.vars word es) es there takes.whole (eqb-true (count es) _ (not-false _ law.1) ∙ sym takes.many) sound.1
    form_wholes sc vs w at (ExprForm.match e arms) there asked sound =
        let k = type_of t.names sc.vars None e in
        let p = all_parts (Sound t) (expr_sites t.names sc matched e) _ sound.1 in
        let whole = type_whole t ready.bool sc (accesses_whole t b uses ready sc vs there) matched e tt p.0 in
        join t (expr_sites t.names sc matched e) _ (wholes sc vs matched e there tt p.0)
        (tt, arm_wholes sc vs k [] arms there whole (matched_there t sc matched e refl p.0) p.1.1)
    form_wholes sc vs w at (ExprForm.access (AccessTree.path x steps args)) there asked sound =
        let n = t.names in
        let way = way_from n (find_var sc.vars (text_of x)) x in
        let r = reached t b uses ready sc vs there x steps args (at_place t sc w at (AccessTree.path x steps args) sound.0) in
        let p = all_parts (Sound t) (step_sites n sc way steps) _ sound.1 in
        join t (step_sites n sc way steps) _ (step_wholes sc vs way r.c.keys steps there r.along r.keys_whole p.0)
        (subst (λ ks. Wholes t (given_sites n sc ks args)) r.args_are
        (given_wholes sc vs r.c.args args there r.args_whole r.many (subst (λ ks. AllSound t (given_sites n sc ks args)) (sym r.args_are) p.1)))

    operand_wholes : (sc : Scope) (vs : Vars) (es : ExprTrees) → In t b sc vs → AllSound t (operand_sites t.names sc es) → Wholes t (operand_sites t.names sc es)
    operand_wholes sc vs ExprTrees.no_exprs there sound = tt
    operand_wholes sc vs (ExprTrees.more_exprs e es) there sound =
        let p = all_parts (Sound t) (expr_sites t.names sc bool_operand e) _ sound in
        join t _ _ (wholes sc vs bool_operand e there (truth_whole t ready.bool) p.0) (operand_wholes sc vs es there p.1)

    arg_wholes : (sc : Scope) (vs : Vars) (plain : Bool) (ks : List Kind) (es : ExprTrees) → In t b sc vs → AllWhole t ks → count es ≡ length ks
        → AllSound t (arg_sites t.names sc plain ks es) → Wholes t (arg_sites t.names sc plain ks es)
    arg_wholes sc vs plain ks ExprTrees.no_exprs there whole many sound = tt
    arg_wholes sc vs plain [] (ExprTrees.more_exprs e es) there whole many sound = absurd (omega (arith, many))
    arg_wholes sc vs plain (k ∷ ks) (ExprTrees.more_exprs e es) there whole many sound =
        let p = all_parts (Sound t) (expr_sites t.names sc (argument plain k) e) _ sound in
        join t _ _ (wholes sc vs (argument plain k) e there whole.0 p.0) (arg_wholes sc vs plain ks es there whole.1 (one_less (count es) k ks many) p.1)

    given_wholes : (sc : Scope) (vs : Vars) (ks : List Kind) (args : ArgTrees) → In t b sc vs → AllWhole t ks → count_args args ≡ length ks
        → AllSound t (given_sites t.names sc ks args) → Wholes t (given_sites t.names sc ks args)
    given_wholes sc vs ks ArgTrees.absent there whole many sound = tt
    given_wholes sc vs ks (ArgTrees.given es) there whole many sound = arg_wholes sc vs true ks es there whole many sound

    step_wholes : (sc : Scope) (vs : Vars) (way : Way) (ks : List Kind) (steps : StepTrees) → In t b sc vs → Along t.names way steps ks → AllWhole t ks
        → AllSound t (step_sites t.names sc way steps) → Wholes t (step_sites t.names sc way steps)
    step_wholes sc vs way ks StepTrees.no_steps there along whole sound = tt
    step_wholes sc vs way ks (StepTrees.more_steps (StepTree.dot x) steps) there (Along.dot along) whole sound =
        step_wholes sc vs (stepped t.names way (StepTree.dot x)) ks steps there along whole sound
    step_wholes sc vs way ks (StepTrees.more_steps (StepTree.returned at) steps) there (Along.returned along) whole sound =
        step_wholes sc vs (stepped t.names way (StepTree.returned at)) ks steps there along whole sound
    step_wholes sc vs way ks (StepTrees.more_steps (StepTree.key e) steps) there (Along.key {ks = others} along) whole sound =
        let k = key_kind t.names way in
        let p = all_parts (Sound t) (expr_sites t.names sc (argument true k) e) _ sound in
        join t _ _ (wholes sc vs (argument true k) e there whole.0 p.0)
        (step_wholes sc vs (stepped t.names way (StepTree.key e)) others steps there along whole.1 p.1)

    arm_wholes : (sc : Scope) (vs : Vars) (k : Kind) (before : List Name) (arms : ExprArmTrees) → In t b sc vs → IsWhole t k
        → is_datatype_kind t.names k ≡ true → AllSound t (arm_sites t.names sc k before arms) → Wholes t (arm_sites t.names sc k before arms)
    arm_wholes sc vs k before ExprArmTrees.no_expr_arms there whole data_ sound = tt
    arm_wholes sc vs k before (ExprArmTrees.more_expr_arms (ExprArmTree.arm q e) arms) there whole data_ sound =
        let n = t.names in
        let front = pattern_sites n sc.vars k before q in
        let below = expr_sites n (with_pattern n sc k q) bool_whole e in
        let outer = all_parts (Sound t) (front ++ below) (arm_sites n sc k (pattern_name q ∷ before) arms) sound in
        let inner = all_parts (Sound t) front below outer.0 in
        let arm = arm_there t k before q whole data_ inner.0.0 in
        join t (front ++ below) _ (join t front below (pattern_wholes t sc.vars k before q)
        (wholes (with_pattern n sc k q) (under_pattern n vs k q) bool_whole e
        (in_pattern t b sc vs k q (ready.fields k (pattern_name q) whole) arm.many there) (truth_whole t ready.bool) inner.1))
        (arm_wholes sc vs k (pattern_name q ∷ before) arms there whole data_ outer.1)

  pub access_wholes : (sc : Scope) (vs : Vars) (x : Ident) (steps : StepTrees) (args : ArgTrees) → In t b sc vs → AccessKept t.names sc (AccessTree.path x steps args)
      → AllSound t (access_sites t.names sc (AccessTree.path x steps args)) → Wholes t (access_sites t.names sc (AccessTree.path x steps args))
  access_wholes sc vs x steps args there kept sound =
      let n = t.names in
      let way = way_from n (find_var sc.vars (text_of x)) x in
      let r = reached t b uses ready sc vs there x steps args kept in
      let p = all_parts (Sound t) (step_sites n sc way steps) _ sound in
      join t (step_sites n sc way steps) _ (step_wholes sc vs way r.c.keys steps there r.along r.keys_whole p.0)
      (subst (λ ks. Wholes t (given_sites n sc ks args)) r.args_are
      (given_wholes sc vs r.c.args args there r.args_whole r.many (subst (λ ks. AllSound t (given_sites n sc ks args)) (sym r.args_are) p.1)))
