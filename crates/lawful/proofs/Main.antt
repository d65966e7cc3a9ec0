-- What an expression of a lawful place becomes is typed.
use Rattle.std.proofs.Common.{◌≡◌, ℕ, Bool, true, false, List, [], ◌∷◌, Option, Some, None, refl, ap, subst, sym}
use Rattle.std.specs.Prelude.{is_some, codes}
use Rattle.std.proofs.lemmas.Bool.{and_from, not-false}
use Rattle.rp_value.specs.declared.tables.Ty.{Ty}
use Rattle.rp_value.specs.declared.tables.Ty.TheVariants as ty
use Rattle.rp_grammar.specs.Trees.{ExprTree, ExprTrees, ExprArmTrees, StepTrees, ArgTrees}
use Rattle.rp_lang.specs.Exprs.{Exs, no_ex}
use Rattle.rp_lang.specs.Formulas.{Fos, Arms}
use Rattle.rp_lang.specs.Types.{fields_of}
use Rattle.rp_lang.specs.Typing as typing
use Rattle.rp_lang.specs.Typing.{are_typed, are_typed_arms, arm_cons, are_cases}
use Rattle.type_rules.specs.declared.kind.Kind.{Kind}
use Rattle.type_rules.specs.Names.{Name, text_of}
use Rattle.type_rules.specs.Kinds.{bool_kind, kind_of, maybe_of}
use Rattle.type_rules.specs.Paths.{Way, key_kind}
use Rattle.type_rules.specs.Typing.{type_of, asked_inside, none_kind}
use Rattle.type_rules.specs.Matches.{pattern_vars, pattern_name, pattern_kinds}
use Rattle.type_rules.specs.Sites.{Scope, Want, Site}
use Rattle.type_rules.specs.ExprSites.{expr_sites, operand_sites, arg_sites, step_sites, given_sites, arm_sites, bool_operand, int_operand, bool_whole, argument, held, matched, left_want, right_want, with_var, quantified_var, with_pattern, arm_names}
use Rattle.type_rules.specs.Rules.{is_datatype_kind, is_result_word, is_op_word}
use Rattle.type_rules.specs.Starts.{word_at}
use Rattle.desugaring.specs.Parts.{each}
use Rattle.desugaring.specs.Tables.{Tables, ty_of}
use Rattle.desugaring.specs.Values.{Value, term, one_ex}
use Rattle.desugaring.specs.Callees.{Vars, vars_of}
use Rattle.desugaring.specs.Expressions.{under_quantifier, under_pattern, with_args, word_none, word_some}
use Rattle.desugaring.specs.Meanings.{Means, AllMean, TermsMean, ArgsMean, KeysMean, ArmsMean}
use Rattle.lawful.specs.Kept.{Kept}
use Rattle.lawful.specs.Typed.{AreTerms, none, more, Along}
use Rattle.lawful.proofs.Basics.{when_not, known, look, same_type, split}
use Rattle.desugaring.proofs.Options.{both_there}
use Rattle.lawful.proofs.Forms.{head, sum_good, difference_good, con_good, truth_good, none_fields, some_fields, word_good}
use Rattle.lawful.proofs.Calls.{across}
use Rattle.lawful.proofs.World.{World, In, Lawful, Is, seen14, seen22, exactly, true_at, operand, integer}
use Rattle.lawful.proofs.Words.{takes, word_types, args_same}
use Rattle.lawful.proofs.Binders.{under_one, under_fields, quantified}
use Rattle.lawful.proofs.Sides.{left_wanted, right_wanted, sides}
use Rattle.lawful.proofs.Accessed.{access_typed, use_typed}

mutual
  pub typed : (t : Tables) (g : World t) (bs : List Ty) (b : ℕ) (vs : Vars) (asked : Option Kind) (e : ExprTree) (v : Value) → Means t b vs asked e v
      → (sc : Scope) (w : Want) → w.asked ≡ asked → In t g bs vs sc → Lawful t g (expr_sites t.names sc w e)
      → Is t g bs (is_some w.across) (type_of t.names (vars_of vs) asked e) v
  typed t g bs b vs asked e v (Means.implies m n) sc w is st kept =
      let parts = split t.names g.words _ _ kept.1 in
      (refl, and_from _ _ (operand t g bs vs _ _ sc (typed t g bs b vs _ _ _ m sc bool_operand refl st parts.0) st parts.0) (operand t g bs vs _ _ sc (typed t g bs b vs _ _ _ n sc bool_operand refl st parts.1) st parts.1))
  typed t g bs b vs asked e v (Means.or ms) sc w is st kept = (refl, operands t g bs b vs _ _ ms sc st kept.1)
  typed t g bs b vs asked e v (Means.and ms) sc w is st kept = (refl, operands t g bs b vs _ _ ms sc st kept.1)
  typed t g bs b vs asked e v (Means.not m) sc w is st kept = (refl, operand t g bs vs _ _ sc (typed t g bs b vs _ _ _ m sc bool_operand refl st kept.1) st kept.1)
  typed t g bs b vs asked e v (Means.forall {p = p} {ty = of} is_type m) sc w is st kept =
      let below = under_one t g bs vs sc p of is_type st in (
        refl,
        and_from _ _ (quantified t g bs vs p of sc is_type st kept.1.1.0.t08 _ kept.0.t09)
            (operand t g (of ∷ bs) (under_quantifier t.names vs p) _ _ (with_var sc (quantified_var t.names p))
            (typed t g (of ∷ bs) b (under_quantifier t.names vs p) _ _ _ m (with_var sc (quantified_var t.names p)) bool_operand refl below kept.1.1.1) below kept.1.1.1),
      )
  typed t g bs b vs asked e v (Means.exists {p = p} {ty = of} is_type m) sc w is st kept =
      let below = under_one t g bs vs sc p of is_type st in (
        refl,
        and_from _ _ (quantified t g bs vs p of sc is_type st kept.1.1.0.t08 _ kept.0.t09)
            (operand t g (of ∷ bs) (under_quantifier t.names vs p) _ _ (with_var sc (quantified_var t.names p))
            (typed t g (of ∷ bs) b (under_quantifier t.names vs p) _ _ _ m (with_var sc (quantified_var t.names p)) bool_operand refl below kept.1.1.1) below kept.1.1.1),
      )
  typed t g bs b vs asked e v (Means.compare {c = c} {d = d} {e = r} m n) sc w is st kept =
      let parts = split t.names g.words _ _ kept.1 in (
        refl,
        sides t g bs b vs c d r _ _ sc n (typed t g bs b vs _ _ _ m sc (left_want t.names sc.vars c d r) (left_wanted t g bs vs sc c d r st) st parts.0)
            (typed t g bs b vs _ _ _ n sc (right_want t.names sc.vars c d r) (right_wanted t g bs vs sc c d r st) st parts.1) st parts.0 parts.1,
      )
  typed t g bs b vs asked e v (Means.plus m n) sc w is st kept =
      let parts = split t.names g.words _ _ kept.1 in
      sum_good t g.p g.f bs _ _ _ (integer t g bs vs _ _ _ sc int_operand refl refl (typed t g bs b vs _ _ _ m sc int_operand refl st parts.0) st parts.0) (integer t g bs vs _ _ _ sc int_operand refl refl (typed t g bs b vs _ _ _ n sc int_operand refl st parts.1) st parts.1)
  typed t g bs b vs asked e v (Means.minus m n) sc w is st kept =
      let parts = split t.names g.words _ _ kept.1 in
      difference_good t g.p g.f bs _ _ _ (integer t g bs vs _ _ _ sc int_operand refl refl (typed t g bs b vs _ _ _ m sc int_operand refl st parts.0) st parts.0) (integer t g bs vs _ _ _ sc int_operand refl refl (typed t g bs b vs _ _ _ n sc int_operand refl st parts.1) st parts.1)
  typed t g bs b vs asked e v Means.int sc w is st kept = record { typed = (ty.Int, rw kept.0.number refl, refl); stands = λ h. absurd cc }
  typed t g bs b vs asked e v Means.str sc w is st kept = record { typed = (ty.Str, refl, refl); stands = λ h. absurd cc }
  typed t g bs b vs asked e v (Means.truth_word {holds = holds}) sc w is st kept = truth_good t g.p g.words g.tied g.f bs _ holds
  typed t g bs b vs asked e v (Means.none {con = con} found) sc w is st kept =
      let c = g.tied.con (none_kind asked) word_none con found in
      con_good t g.p g.f bs _ (none_kind asked) con [] c.ty no_ex c.made c.same
      (subst (λ ks. each (ty_of t) ks ≡ Some (fields_of g.p.cons con)) (none_fields t.names asked) c.fields) none
  typed t g bs b vs asked e v (Means.some {e = inner} {con = con} {x = x} found m) sc w is st kept =
      let k = type_of t.names (vars_of vs) (asked_inside asked) inner in
      let c = g.tied.con (maybe_of k) word_some con found in
      let good = typed t g bs b vs (asked_inside asked) inner (term x) m sc (held w.asked) (ap asked_inside is) st kept.1 in
      con_good t g.p g.f bs _ (maybe_of k) con (k ∷ []) c.ty (one_ex x) c.made c.same
      (subst (λ ks. each (ty_of t) ks ≡ Some (fields_of g.p.cons con)) (some_fields t.names k (known t k good.typed.0 good.typed.2)) c.fields) (more good none)
  typed t g bs b vs asked e v Means.unreturned sc w is st kept =
      record { typed = (ty.Outcome, refl, refl); stands = λ h. across is_result_word w (not-false _ (when_not _ _ kept.0.t13)) }
  typed t g bs b vs asked e v Means.tx sc w is st kept =
      record { typed = (ty.Operation, rw (g.tied.tx, g.tied.tx_args) refl, refl); stands = λ h. across is_op_word w (not-false _ (when_not _ _ kept.0.t13)) }
  typed t g bs b vs asked e v (Means.word {w = word} {es = es} {xs = xs} ms found) sc w is st kept =
      let tys = word_types t g (vars_of vs) word es in
      let sites = subst (λ ks. Lawful t g (arg_sites t.names sc false ks es)) (args_same t g bs vs sc word es st) kept.1 in
      word_good t g.p g.f bs _ word _ xs (takes t g (vars_of vs) word es) (terms t g bs b vs _ es xs ms sc false tys.0 tys.1 st sites) v found
  typed t g bs b vs asked e v (Means.match {s = s} {e = on} {arms = arms} {x = x} {made = made} m as_) sc w is st kept =
      let parts = split t.names g.words _ _ kept.1 in
      let same = same_type t g.p g.f bs t.names sc.vars vs st.sees None on in
      let good = typed t g bs b vs None on (term x) m sc matched refl st parts.0 in
      let is_data = subst (λ k. is_datatype_kind t.names k ≡ true) same (not-false _ (when_not _ _ (head t.names g.words sc matched on parts.0).t18)) in
      let here = subst (λ k. Kept t.names g.words (Site.arms (word_at (codes "match") s) k (arm_names arms))) same parts.1.0 in
      let sites = subst (λ k. Lawful t g (arm_sites t.names sc k [] arms)) same parts.1.1 in (
        refl,
        and_from _ _ (subst (λ o. are_cases g.p o (arm_cons made) ≡ true) (sym good.typed.1)
            (g.tied.cases b vs _ good.typed.0 arms made _ sc good.typed.2 is_data as_ here sites))
            (branches t g bs b vs _ arms made as_ sc [] st sites),
      )
  typed t g bs b vs asked e v (Means.access {x = x} {steps = steps} {args = args} {c = c} {keys = keys} {es = es} found ks as_ gives) sc w is st kept =
      access_typed t g bs b vs x steps args c keys es v sc w st _ _ _ (look t g.p g.f bs sc.vars vs (text_of x) st.sees) refl found
      (keys_typed t g bs b vs c.keys steps keys ks sc) (args_typed t g bs b vs c.args args es as_ sc) gives
      (not-false _ (when_not _ _ kept.0.t13)) (when_not _ _ kept.0.t16) kept.1
  typed t g bs b vs asked e v (Means.expands {x = x} {steps = steps} {args = args} {c = c} {es = es} {k = k} {name = name} {params = params} {result = result} {body = body} found what ks as_ lt m) sc w is st kept =
      use_typed t g bs b vs x steps args c es k name params result body v sc w st _ _ _ (look t g.p g.f bs sc.vars vs (text_of x) st.sees) refl found what
      (args_typed t g bs b vs c.args args es as_ sc) (typed t g bs k (with_args t.names params es) (Some (kind_of t.names result)) body _ m)
      kept.0.quiet kept.1

  operands : (t : Tables) (g : World t) (bs : List Ty) (b : ℕ) (vs : Vars) (es : ExprTrees) (fs : Fos) → AllMean t b vs es fs → (sc : Scope) → In t g bs vs sc
      → Lawful t g (operand_sites t.names sc es) → are_typed g.p g.f bs fs ≡ true
  operands t g bs b vs es fs AllMean.no_operand sc st kept = refl
  operands t g bs b vs es fs (AllMean.more_operands m ms) sc st kept =
      let parts = split t.names g.words _ _ kept in
      and_from _ _ (operand t g bs vs _ _ sc (typed t g bs b vs _ _ _ m sc bool_operand refl st parts.0) st parts.0) (operands t g bs b vs _ _ ms sc st parts.1)

  -- arguments of types that are known
  terms : (t : Tables) (g : World t) (bs : List Ty) (b : ℕ) (vs : Vars) (ks : List Kind) (es : ExprTrees) (xs : Exs) → TermsMean t b vs ks es xs
      → (sc : Scope) (plain : Bool) (tys : List Ty) → each (ty_of t) ks ≡ Some tys → In t g bs vs sc
      → Lawful t g (arg_sites t.names sc plain ks es) → AreTerms t g.p g.f bs ks xs
  terms t g bs b vs ks es xs TermsMean.no_term sc plain tys is st kept = none
  terms t g bs b vs ks es xs (TermsMean.more_terms {k} {ks = rest} {e} {x = x} m ms) sc plain tys is st kept =
      let parts = split t.names g.words _ _ kept in
      both_there (λ z. AreTerms t g.p g.f bs ks xs) ◌∷◌ (ty_of t k) (each (ty_of t) rest) tys is (λ of ofs i j.
      more (exactly t g bs false k _ x of i (seen14 t g bs vs sc (argument plain k) k e refl refl st parts.0)
      (typed t g bs b vs (Some k) e (term x) m sc (argument plain k) refl st parts.0))
      (terms t g bs b vs rest _ _ ms sc plain ofs j st parts.1))

  pub keys_typed : (t : Tables) (g : World t) (bs : List Ty) (b : ℕ) (vs : Vars) (ks : List Kind) (steps : StepTrees) (xs : Exs) → KeysMean t b vs ks steps xs
      → (sc : Scope) (way : Way) → Along t.names way steps ks → (tys : List Ty) → each (ty_of t) ks ≡ Some tys → In t g bs vs sc
      → Lawful t g (step_sites t.names sc way steps) → AreTerms t g.p g.f bs ks xs
  keys_typed t g bs b vs ks steps xs KeysMean.no_key sc way al tys is st kept = none
  keys_typed t g bs b vs ks steps xs (KeysMean.past_dot m) sc way (Along.dot al) tys is st kept =
      keys_typed t g bs b vs ks _ xs m sc _ al tys is st kept
  keys_typed t g bs b vs ks steps xs (KeysMean.past_returned m) sc way (Along.returned al) tys is st kept =
      keys_typed t g bs b vs ks _ xs m sc _ al tys is st kept
  keys_typed t g bs b vs ks steps xs (KeysMean.key {ks = rest} {e} {x = x} m ms) sc way (Along.key al) tys is st kept =
      let parts = split t.names g.words _ _ kept in
      let k = key_kind t.names way in
      both_there (λ z. AreTerms t g.p g.f bs ks xs) ◌∷◌ (ty_of t k) (each (ty_of t) rest) tys is (λ of ofs i j.
      more (exactly t g bs false k _ x of i (seen14 t g bs vs sc (argument true k) k e refl refl st parts.0)
      (typed t g bs b vs (Some k) e (term x) m sc (argument true k) refl st parts.0))
      (keys_typed t g bs b vs rest _ _ ms sc _ al ofs j st parts.1))

  pub args_typed : (t : Tables) (g : World t) (bs : List Ty) (b : ℕ) (vs : Vars) (ks : List Kind) (args : ArgTrees) (xs : Exs) → ArgsMean t b vs ks args xs
      → (sc : Scope) (tys : List Ty) → each (ty_of t) ks ≡ Some tys → In t g bs vs sc
      → Lawful t g (given_sites t.names sc ks args) → AreTerms t g.p g.f bs ks xs
  args_typed t g bs b vs ks args xs ArgsMean.absent sc tys is st kept = none
  args_typed t g bs b vs ks args xs (ArgsMean.given_args ms) sc tys is st kept = terms t g bs b vs ks _ xs ms sc true tys is st kept

  branches : (t : Tables) (g : World t) (bs : List Ty) (b : ℕ) (vs : Vars) (k : Kind) (arms : ExprArmTrees) (made : Arms) → ArmsMean t b vs k arms made
      → (sc : Scope) (before : List Name) → In t g bs vs sc → Lawful t g (arm_sites t.names sc k before arms) → are_typed_arms g.p g.f bs made ≡ true
  branches t g bs b vs k arms made ArmsMean.no_arms sc before st kept = refl
  branches t g bs b vs k arms made (ArmsMean.more_arms {p = q} {e} {con = con} {v = v} found m ms) sc before st kept =
      let parts = split t.names g.words _ _ kept.1 in
      let rest = split t.names g.words _ _ parts.0 in
      let c = g.tied.arm k q con found in
      let below : In t g (typing.under (fields_of g.p.cons con) bs) (under_pattern t.names vs k q) (with_pattern t.names sc k q) = record {
        sees = under_fields t g bs vs sc.vars (pattern_vars q) (pattern_kinds t.names k (pattern_name q)) (fields_of g.p.cons con) (g.tied.arm_many k q con found) c.fields st.sees;
        speaks = st.speaks;
      } in
      and_from _ _ (true_at t g _ _ _ v (typed t g _ b _ (Some bool_kind) e v m (with_pattern t.names sc k q) bool_whole refl below rest.1)
      (seen22 t g _ _ (with_pattern t.names sc k q) e below rest.1))
      (branches t g bs b vs k _ _ ms sc _ st parts.1)
