-- What an expression of a lawful place becomes.
use Rattle.std.proofs.Common.{◌≡◌, ◌+◌, ℕ, Bool, true, false, List, [], ◌∷◌, ◌++◌, length, Option, Some, None, refl, subst, sym, ◌∙◌, arith, inl}
use Rattle.std.proofs.lemmas.Bool.{eqb-true, not-false, or_parts}
use Rattle.rp_span.specs.declared.Span.{Span}
use Rattle.rp_grammar.specs.Trees.{ParamTree, PatternTree, ExprTree, ExprForm, ExprTrees, ExprArmTree, ExprArmTrees, AccessTree, StepTree, StepTrees, ArgTrees}
use Rattle.rp_lang.specs.Exprs.{Ex, Int, Str, Con, OpTerm, Unreturned, Exs, no_ex, also_ex}
use Rattle.rp_lang.specs.Formulas.{Fos, no_fo, Arms, no_arm}
use Rattle.type_rules.specs.declared.kind.Kind.{Kind}
use Rattle.type_rules.specs.Names.{Name, text_of, param_name, param_type}
use Rattle.type_rules.specs.Kinds.{int_kind, kind_of, maybe_of}
use Rattle.type_rules.specs.Paths.{Way, stepped, key_kind}
use Rattle.type_rules.specs.Accesses.{find_var, count}
use Rattle.type_rules.specs.Typing.{type_of, is_plain, are_plain, asked_inside}
use Rattle.type_rules.specs.Sites.{Scope, Want}
use Rattle.type_rules.specs.Matches.{pattern_vars, pattern_name, pattern_kinds}
use Rattle.type_rules.specs.ExprSites.{expr_sites, operand_sites, arg_sites, arm_sites, step_sites, given_sites, pattern_sites, bool_operand, int_operand, bool_whole, argument, held, matched, left_want, right_want, with_var, quantified_var, with_pattern, way_from, word_args}
use Rattle.type_rules.specs.Rules.{rule, rules, rule14, is_datatype_kind}
use Rattle.desugaring.specs.Tables.{Tables, con_number}
use Rattle.desugaring.specs.Values.{term, formula, one_ex, truth, sum, difference, compared, word_of}
use Rattle.desugaring.specs.Callees.{Vars}
use Rattle.desugaring.specs.Expressions.{Uses, value, formulas, terms, arg_terms, key_terms, arm_formulas, term_in, under_quantifier, under_pattern, implied, negated, each_of, one_of, for_all, for_some, constructed, with_formula, with_arm, word_none, word_some}
use Rattle.desugaring.specs.Expressions as made
use Rattle.desugaring.proofs.Options.{both_is, map_is, term_is, then_is, three_is}
use Rattle.lawful.specs.Typed.{Along}
use Rattle.lawful.proofs.Basics.{when_not}
use Rattle.lawful.proofs.Places.{all_parts, all_both, is_one_of}
use Rattle.lawful_programs.specs.Valued.{Sound, AllSound, IsWhole, AllWhole, VarWhole, AskedWhole, Valued, Ready, count_args, count_terms}
use Rattle.lawful_programs.proofs.Wholes.{whole_known, written_whole, int_whole, truth_whole}
use Rattle.lawful_programs.proofs.Types.{AccessesWhole, type_whole}
use Rattle.lawful_programs.proofs.Numbers.{arm_there, inside_whole, none_number, some_number}
use Rattle.lawful_programs.proofs.Looks.{seen_type, seen_under, seen_pattern, whole_pattern}
use Rattle.lawful_programs.proofs.Reached.{In, at_place, reached}
use Rattle.lawful_programs.proofs.Parts.{argument_term, called_value, plain_there, fits10, matched_there, plain_term, other_term, AllTerms, plain_terms, word_takes_there, word_value}
use Rattle.lawful_programs.proofs.Sides.{sides_whole, left_wanted, right_wanted, left_plain, right_plain, words_same}

-- # Variables that an expression binds

pub in_quantifier : (t : Tables) (b : ℕ) (sc : Scope) (vs : Vars) (q : ParamTree) → IsWhole t (kind_of t.names (param_type q)) → In t b sc vs
    → In t b (with_var sc (quantified_var t.names q)) (under_quantifier t.names vs q)
in_quantifier t b sc vs q whole there = record {
  decl = there.decl;
  seen = seen_under sc.vars vs (param_name q) (kind_of t.names (param_type q)) there.seen;
  whole = all_both (VarWhole t) sc.vars (quantified_var t.names q ∷ []) there.whole (whole, tt);
}

pub in_pattern : (t : Tables) (b : ℕ) (sc : Scope) (vs : Vars) (k : Kind) (q : PatternTree) → AllWhole t (pattern_kinds t.names k (pattern_name q))
    → length (pattern_kinds t.names k (pattern_name q)) ≡ length (pattern_vars q) → In t b sc vs
    → In t b (with_pattern t.names sc k q) (under_pattern t.names vs k q)
in_pattern t b sc vs k q whole many there = record {
  decl = there.decl;
  seen = seen_pattern sc.vars vs (pattern_vars q) (pattern_kinds t.names k (pattern_name q)) there.seen;
  whole = whole_pattern t sc.vars (pattern_vars q) (pattern_kinds t.names k (pattern_name q)) there.whole whole many;
}

-- one more argument
add_term : (m : ℕ) (k : Kind) (ks : List Kind) → m ≡ length ks → m + 1 ≡ length (k ∷ ks)
add_term m k ks e = omega (arith, e)

pub one_less : (m : ℕ) (k : Kind) (ks : List Kind) → m + 1 ≡ length (k ∷ ks) → m ≡ length ks
one_less m k ks e = omega (arith, e)

pub accesses_whole : (t : Tables) (b : ℕ) (uses : Uses) → Ready t b uses → (sc : Scope) (vs : Vars) → In t b sc vs → AccessesWhole t sc
accesses_whole t b uses ready sc vs there at w (AccessTree.path x steps args) sound =
    (reached t b uses ready sc vs there x steps args (at_place t sc w at (AccessTree.path x steps args) sound)).whole

module _ (t : Tables) (b : ℕ) (uses : Uses) (ready : Ready t b uses) where
  abbrev pub Terms : List Kind → Option Exs → Type 0
  Terms ks o = (xs : Exs) × (o ≡ Some xs) × (count_terms xs ≡ length ks)

  mutual
    pub valued : (sc : Scope) (vs : Vars) (w : Want) (e : ExprTree) → In t b sc vs → AskedWhole t w.asked → AllSound t (expr_sites t.names sc w e)
        → Valued (type_of t.names sc.vars w.asked e) (is_plain t.names sc.vars e) (value t uses vs w.asked e)
    valued sc vs w (ExprTree.node at form) there asked sound = form_valued sc vs w at form there asked sound

    form_valued : (sc : Scope) (vs : Vars) (w : Want) (at : Span) (form : ExprForm) → In t b sc vs → AskedWhole t w.asked
        → AllSound t (expr_sites t.names sc w (ExprTree.node at form))
        → Valued (type_of t.names sc.vars w.asked (ExprTree.node at form)) (is_plain t.names sc.vars (ExprTree.node at form))
        (value t uses vs w.asked (ExprTree.node at form))
    form_valued sc vs w at (ExprForm.implies d e) there asked sound =
        let p = all_parts (Sound t) (expr_sites t.names sc bool_operand d) _ sound.1 in
        let x = valued sc vs bool_operand d there (truth_whole t ready.bool) p.0 in
        let y = valued sc vs bool_operand e there (truth_whole t ready.bool) p.1 in
        (implied x.0 y.0, both_is implied _ _ x.0 y.0 x.1 y.1, (refl, refl))
    form_valued sc vs w at (ExprForm.or es) there asked sound =
        let r = operands_valued sc vs es there sound.1 in (one_of r.0, map_is one_of _ r.0 r.1, (refl, refl))
    form_valued sc vs w at (ExprForm.and es) there asked sound =
        let r = operands_valued sc vs es there sound.1 in (each_of r.0, map_is each_of _ r.0 r.1, (refl, refl))
    form_valued sc vs w at (ExprForm.not e) there asked sound =
        let x = valued sc vs bool_operand e there (truth_whole t ready.bool) sound.1 in (negated x.0, map_is negated _ x.0 x.1, (refl, refl))
    form_valued sc vs w at (ExprForm.forall q e) there asked sound =
        let whole = written_whole t ready.bool sc.decl _ (param_type q) sound.1.1.0 in
        let of = whole_known t (kind_of t.names (param_type q)) whole in
        let x = valued (with_var sc (quantified_var t.names q)) (under_quantifier t.names vs q) bool_operand e (in_quantifier t b sc vs q whole there)
        (truth_whole t ready.bool) sound.1.1.1 in
        (for_all of.0 x.0, both_is for_all _ _ of.0 x.0 of.1 x.1, (refl, refl))
    form_valued sc vs w at (ExprForm.exists q e) there asked sound =
        let whole = written_whole t ready.bool sc.decl _ (param_type q) sound.1.1.0 in
        let of = whole_known t (kind_of t.names (param_type q)) whole in
        let x = valued (with_var sc (quantified_var t.names q)) (under_quantifier t.names vs q) bool_operand e (in_quantifier t b sc vs q whole there)
        (truth_whole t ready.bool) sound.1.1.1 in
        (for_some of.0 x.0, both_is for_some _ _ of.0 x.0 of.1 x.1, (refl, refl))
    form_valued sc vs w at (ExprForm.compare c d e) there asked sound =
        let n = t.names in
        let left = left_want n sc.vars c d e in
        let right = right_want n sc.vars c d e in
        let p = all_parts (Sound t) (expr_sites n sc left d) (expr_sites n sc right e) sound.1 in
        let whole = sides_whole t ready.bool sc (accesses_whole t b uses ready sc vs there) c d e p.0 p.1 in
        let x = valued sc vs left d there whole.0 p.0 in
        let y = valued sc vs right e there whole.1 p.1 in
        let first = plain_term _ _ _ x (plain_there t sc left d (left_plain n sc.vars c d e) p.0) in
        let second = plain_term _ _ _ y (plain_there t sc right e (right_plain n sc.vars c d e) p.1) in
        let one_ = subst (λ o. value t uses vs o d ≡ Some (term first.0)) (left_wanted n sc.vars vs there.seen c d e) first.1 in
        let two_ = subst (λ o. value t uses vs o e ≡ Some (term second.0)) (right_wanted n sc.vars vs there.seen c d e) second.1 in (
          formula (compared c first.0 second.0),
          both_is (λ u z. formula (compared c u z)) _ _ first.0 second.0 (term_is _ _ one_) (term_is _ _ two_),
          (refl, refl),
        )
    form_valued sc vs w at (ExprForm.plus d e) there asked sound =
        let p = all_parts (Sound t) (expr_sites t.names sc int_operand d) _ sound.1 in
        let x = integer sc vs d there p.0 in
        let y = integer sc vs e there p.1 in
        (term (sum x.0 y.0), both_is (λ u z. term (sum u z)) _ _ x.0 y.0 (term_is _ _ x.1) (term_is _ _ y.1), tt)
    form_valued sc vs w at (ExprForm.minus d e) there asked sound =
        let p = all_parts (Sound t) (expr_sites t.names sc int_operand d) _ sound.1 in
        let x = integer sc vs d there p.0 in
        let y = integer sc vs e there p.1 in
        (term (difference x.0 y.0), both_is (λ u z. term (difference u z)) _ _ x.0 y.0 (term_is _ _ x.1) (term_is _ _ y.1), tt)
    form_valued sc vs w at (ExprForm.int i) there asked sound = (term (Int i), refl, tt)
    form_valued sc vs w at (ExprForm.str bytes) there asked sound = (term (Str bytes), refl, tt)
    form_valued sc vs w at (ExprForm.truth holds) there asked sound = (term (truth holds), refl, tt)
    form_valued sc vs w at ExprForm.none_word there asked sound =
        let whole = type_whole t ready.bool sc (accesses_whole t b uses ready sc vs there) w (ExprTree.node at ExprForm.none_word) asked sound in
        let r = none_number t w.asked whole in
        (term (Con r.0 no_ex), map_is (λ con. term (Con con no_ex)) _ r.0 r.1, tt)
    form_valued sc vs w at (ExprForm.some_of e) there asked sound =
        let n = t.names in
        let whole = type_whole t ready.bool sc (accesses_whole t b uses ready sc vs there) w (ExprTree.node at (ExprForm.some_of e)) asked sound in
        let number = some_number t (type_of n sc.vars (asked_inside w.asked) e) whole in
        let x = valued sc vs (held w.asked) e there (inside_whole t w.asked asked) sound.1 in
        let inner = plain_term _ _ _ x (plain_there t sc (held w.asked) e refl sound.1) in
        let there_ = subst (λ k. con_number t (maybe_of k) word_some ≡ Some number.0) (seen_type n sc.vars vs there.seen (asked_inside w.asked) e) number.1 in
        (term (Con number.0 (one_ex inner.0)), both_is constructed _ _ number.0 inner.0 there_ (term_is _ _ inner.1), tt)
    form_valued sc vs w at ExprForm.unreturned there asked sound = (term Unreturned, refl, tt)
    form_valued sc vs w at ExprForm.tx there asked sound = (term (OpTerm 0 no_ex), refl, tt)
    form_valued sc vs w at (ExprForm.call word es) there asked sound =
        let n = t.names in
        let takes = word_takes_there t sc.vars word es in
        let law = or_parts _ _ (when_not _ _ (sound.0.0 (rule 14 rule14) (is_one_of rules 13 _ refl))) in
        let many = eqb-true (count es) _ (not-false _ law.1) in
        let xs = args_valued sc vs false (word_args n sc.vars word es) es there takes.terms takes.whole (many ∙ sym takes.many) sound.1 in
        let made_ = subst (λ ks. terms t uses vs ks es ≡ Some xs.0) (words_same n sc.vars vs there.seen word es) xs.1 in
        let v = word_value word (are_plain n sc.vars es) xs.0 (xs.2 ∙ takes.many) in
        (v.0, then_is (word_of word) _ xs.0 v.0 made_ v.1, v.2)
    form_valued sc vs w at (ExprForm.match e arms) there asked sound =
        let n = t.names in
        let k = type_of n sc.vars None e in
        let p = all_parts (Sound t) (expr_sites n sc matched e) _ sound.1 in
        let x = valued sc vs matched e there tt p.0 in
        let on = plain_term _ _ _ x (plain_there t sc matched e refl p.0) in
        let whole = type_whole t ready.bool sc (accesses_whole t b uses ready sc vs there) matched e tt p.0 in
        let r = arms_valued sc vs k [] arms there whole (matched_there t sc matched e refl p.0) p.1.1 in
        let made_ = subst (λ z. arm_formulas t uses vs z arms ≡ Some r.0) (seen_type n sc.vars vs there.seen None e) r.1 in
        (made.matched on.0 r.0, both_is made.matched _ _ on.0 r.0 (term_is _ _ on.1) made_, (refl, refl))
    form_valued sc vs w at (ExprForm.access (AccessTree.path x steps args)) there asked sound =
        let n = t.names in
        let r = reached t b uses ready sc vs there x steps args (at_place t sc w at (AccessTree.path x steps args) sound.0) in
        let p = all_parts (Sound t) (step_sites n sc (way_from n (find_var sc.vars (text_of x)) x) steps) _ sound.1 in
        let keys = keys_valued sc vs (way_from n (find_var sc.vars (text_of x)) x) r.c.keys steps there r.along r.keys_whole p.0 in
        let own = given_valued sc vs r.c.args args there r.args_whole r.many (subst (λ ks. AllSound t (given_sites n sc ks args)) (sym r.args_are) p.1) in
        let v = r.gives keys.0 own.0 keys.2 own.2 in
        called_value uses _ _ _ _ _ r.c (λ c. key_terms t uses vs c.keys steps) (λ c. arg_terms t uses vs c.args args) keys.0 own.0 r.is keys.1 own.1 v

    integer : (sc : Scope) (vs : Vars) (e : ExprTree) → In t b sc vs → AllSound t (expr_sites t.names sc int_operand e)
        → (x : Ex) × (value t uses vs (Some int_kind) e ≡ Some (term x))
    integer sc vs (ExprTree.node at form) there sound =
        other_term int_kind _ _ _ (form_valued sc vs int_operand at form there (int_whole t) sound) refl
        (fits10 t sc int_operand int_kind (ExprTree.node at form) refl refl sound)

    operands_valued : (sc : Scope) (vs : Vars) (es : ExprTrees) → In t b sc vs → AllSound t (operand_sites t.names sc es)
        → (fs : Fos) × (formulas t uses vs es ≡ Some fs)
    operands_valued sc vs ExprTrees.no_exprs there sound = (no_fo, refl)
    operands_valued sc vs (ExprTrees.more_exprs e es) there sound =
        let p = all_parts (Sound t) (expr_sites t.names sc bool_operand e) _ sound in
        let x = valued sc vs bool_operand e there (truth_whole t ready.bool) p.0 in
        let r = operands_valued sc vs es there p.1 in
        (with_formula x.0 r.0, both_is with_formula _ _ x.0 r.0 x.1 r.1)

    args_valued : (sc : Scope) (vs : Vars) (plain : Bool) (ks : List Kind) (es : ExprTrees) → In t b sc vs → AllTerms plain ks → AllWhole t ks
        → count es ≡ length ks → AllSound t (arg_sites t.names sc plain ks es) → Terms ks (terms t uses vs ks es)
    args_valued sc vs plain [] ExprTrees.no_exprs there makes whole many sound = (no_ex, refl, refl)
    args_valued sc vs plain (k ∷ ks) ExprTrees.no_exprs there makes whole many sound = absurd (omega (arith, many))
    args_valued sc vs plain [] (ExprTrees.more_exprs e es) there makes whole many sound = absurd (omega (arith, many))
    args_valued sc vs plain (k ∷ ks) (ExprTrees.more_exprs e es) there makes whole many sound =
        let p = all_parts (Sound t) (expr_sites t.names sc (argument plain k) e) _ sound in
        let v = valued sc vs (argument plain k) e there whole.0 p.0 in
        let x = argument_term t sc plain k e _ makes.0 v p.0 in
        let r = args_valued sc vs plain ks es there makes.1 whole.1 (one_less (count es) k ks many) p.1 in
        (also_ex x.0 r.0, both_is also_ex _ _ x.0 r.0 (term_is _ _ x.1) r.1, add_term (count_terms r.0) k ks r.2)

    pub given_valued : (sc : Scope) (vs : Vars) (ks : List Kind) (args : ArgTrees) → In t b sc vs → AllWhole t ks → count_args args ≡ length ks
        → AllSound t (given_sites t.names sc ks args) → Terms ks (arg_terms t uses vs ks args)
    given_valued sc vs [] ArgTrees.absent there whole many sound = (no_ex, refl, refl)
    given_valued sc vs (k ∷ ks) ArgTrees.absent there whole many sound = absurd (omega (arith, many))
    given_valued sc vs [] (ArgTrees.given es) there whole many sound = args_valued sc vs true [] es there tt whole many sound
    given_valued sc vs (k ∷ ks) (ArgTrees.given es) there whole many sound =
        args_valued sc vs true (k ∷ ks) es there (plain_terms (k ∷ ks)) whole many sound

    pub keys_valued : (sc : Scope) (vs : Vars) (way : Way) (ks : List Kind) (steps : StepTrees) → In t b sc vs → Along t.names way steps ks → AllWhole t ks
        → AllSound t (step_sites t.names sc way steps) → Terms ks (key_terms t uses vs ks steps)
    keys_valued sc vs way ks StepTrees.no_steps there Along.ends whole sound = (no_ex, refl, refl)
    keys_valued sc vs way [] (StepTrees.more_steps (StepTree.dot x) steps) there (Along.dot along) whole sound =
        keys_valued sc vs (stepped t.names way (StepTree.dot x)) [] steps there along whole sound
    keys_valued sc vs way (k ∷ ks) (StepTrees.more_steps (StepTree.dot x) steps) there (Along.dot along) whole sound =
        keys_valued sc vs (stepped t.names way (StepTree.dot x)) (k ∷ ks) steps there along whole sound
    keys_valued sc vs way [] (StepTrees.more_steps (StepTree.returned at) steps) there (Along.returned along) whole sound =
        keys_valued sc vs (stepped t.names way (StepTree.returned at)) [] steps there along whole sound
    keys_valued sc vs way (k ∷ ks) (StepTrees.more_steps (StepTree.returned at) steps) there (Along.returned along) whole sound =
        keys_valued sc vs (stepped t.names way (StepTree.returned at)) (k ∷ ks) steps there along whole sound
    keys_valued sc vs way ks (StepTrees.more_steps (StepTree.key e) steps) there (Along.key {ks = others} along) whole sound =
        let k = key_kind t.names way in
        let p = all_parts (Sound t) (expr_sites t.names sc (argument true k) e) _ sound in
        let v = valued sc vs (argument true k) e there whole.0 p.0 in
        let x = argument_term t sc true k e _ (inl refl) v p.0 in
        let r = keys_valued sc vs (stepped t.names way (StepTree.key e)) others steps there along whole.1 p.1 in
        (also_ex x.0 r.0, both_is also_ex _ _ x.0 r.0 (term_is _ _ x.1) r.1, add_term (count_terms r.0) k others r.2)

    arms_valued : (sc : Scope) (vs : Vars) (k : Kind) (before : List Name) (arms : ExprArmTrees) → In t b sc vs → IsWhole t k
        → is_datatype_kind t.names k ≡ true → AllSound t (arm_sites t.names sc k before arms)
        → (fs : Arms) × (arm_formulas t uses vs k arms ≡ Some fs)
    arms_valued sc vs k before ExprArmTrees.no_expr_arms there whole data_ sound = (no_arm, refl)
    arms_valued sc vs k before (ExprArmTrees.more_expr_arms (ExprArmTree.arm q e) arms) there whole data_ sound =
        let n = t.names in
        let front = pattern_sites n sc.vars k before q in
        let below = expr_sites n (with_pattern n sc k q) bool_whole e in
        let outer = all_parts (Sound t) (front ++ below) (arm_sites n sc k (pattern_name q ∷ before) arms) sound in
        let inner = all_parts (Sound t) front below outer.0 in
        let arm = arm_there t k before q whole data_ inner.0.0 in
        let x = valued (with_pattern n sc k q) (under_pattern n vs k q) bool_whole e
        (in_pattern t b sc vs k q (ready.fields k (pattern_name q) whole) arm.many there) (truth_whole t ready.bool) inner.1 in
        let r = arms_valued sc vs k (pattern_name q ∷ before) arms there whole data_ outer.1 in
        (with_arm arm.con x.0 r.0, three_is with_arm _ _ _ arm.con x.0 r.0 arm.is x.1 r.1)
