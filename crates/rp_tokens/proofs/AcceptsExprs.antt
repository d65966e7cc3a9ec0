-- The machine takes every expression, access and pattern of the grammar.
use Rattle.std.proofs.Common.{ℕ, suc, ◌<◌, List, [], ◌∷◌, ◌++◌, refl, sym, ap, ◌∙◌, append_assoc, append-nil, arith}
use Rattle.rp_span.specs.declared.Span.{Span}
use Rattle.rp_grammar.specs.declared.terminal.Symbol.TheVariants as symbol
use Rattle.rp_grammar.specs.Terminals.{symbol, Placed, on}
use Rattle.rp_grammar.specs.Trees.{Ident, ident, PatternTree, ExprTree, ExprForm, ExprArmTree, AccessTree, StepTree, exprs, expr_arms}
use Rattle.rp_grammar.specs.Parts.{join, Part, tree_of, extent_of, trees_of, reach, built, in_parens}
use Rattle.rp_grammar.specs.Exprs.{Quantifier, MoreNames, Pattern, and_part, or_part, not_part, quantifier_part, between, Expr, ImpliesMore, Orx, OrMore, Andx, AndMore, Notx, Quant, Bound, Cmp, CmpMore, Sum, SumMore, Prim, Exprs, MoreExprs, ExprArm, MoreExprArms, Access, Steps, Step, AccessArgs}
use Rattle.rp_grammar.specs.Exprs as grammar
use Rattle.rp_tokens.specs.MachineStates.{is_symbol, State, want_symbol, more_names, want_pattern, want_operand, want_prim, more_and, more_or, more_implies, more_cmp, more_sum, stopping, more_exprs, more_expr_arms, in_access}
use Rattle.rp_tokens.specs.MachineExprs.{want_andx, want_orx, want_expr, want_sum, want_exprs, want_expr_arm, want_bound, access_part, compare_or, not_called, called_with, in_args}
use Rattle.rp_tokens.specs.Machine.{step}
use Rattle.rp_tokens.proofs.Tests.{cond_false, loose, not_next, no_comparison, stops_loose}
use Rattle.rp_tokens.proofs.Comes.{Comes, then_comes, stays, reads, same_step, no_symbol, stops_here}
use Rattle.rp_tokens.proofs.FirstTokens.{before_implies, before_or, before_and, before_cmp, before_sum, before_exprs, before_arms, compares, calls, con_name, begins_with_prim, opens_exprs}
use Rattle.rp_tokens.proofs.AcceptsTypes.{takes_type}

takes_more_names : {d : ℕ} {ts r : List Placed} {ns : List Ident} → MoreNames d ts ns r → (acc : List Ident) (k : List Ident → State) → Comes (more_names d acc k) ts (more_names d (acc ++ ns) k) r
takes_more_names (grammar.no_name {d = d} {r = r}) acc k = stays _ _ r (ap (λ ns. more_names d ns k) (sym (append-nil acc)))
takes_more_names (grammar.more_names {d = d} {n = n} {s = s} {r = r} {ns = ns} m) acc k =
    then_comes (reads _ _ _ _ _ _ refl) (then_comes (reads _ _ _ _ _ _ refl)
    (then_comes (takes_more_names m (acc ++ ident n s ∷ []) k) (stays _ _ r (ap (λ all. more_names d all k) (append_assoc acc (ident n s ∷ []) ns)))))

pub takes_pattern : {d : ℕ} {ts r : List Placed} {p : PatternTree} → Pattern d ts p r → 1 < loose r → (k : PatternTree → State) → Comes (want_pattern d k) ts (k p) r
takes_pattern (grammar.bare {d = d} {s = s} {r = r} c) h k =
    then_comes (reads _ _ _ _ _ _ (con_name c d k s)) (no_symbol symbol.OpenParen r _ _ _ refl (not_next symbol.OpenParen r h) (λ x v. refl))
takes_pattern (grammar.binding {d = d} {n = n} {v = v} {s = s} {t = t} c m) h k =
    then_comes (reads _ _ _ _ _ _ (con_name c d k s)) (then_comes (reads _ _ _ _ _ _ refl) (then_comes (reads _ _ _ _ _ _ refl)
    (then_comes (takes_more_names m (ident v t ∷ []) (λ vs. want_symbol symbol.CloseParen refl d (λ c. k (PatternTree.pattern (ident n s) vs)))) (reads _ _ _ _ _ _ refl))))

no_compare : (d : ℕ) (a : Part ExprTree) (k : Part ExprTree → State) (us : List Placed) → 3 < loose us → Comes (more_cmp d a k) us (k a) us
no_compare d a k [] h = record { runs = refl; placed = λ h. refl }
no_compare d a k (on x v n ∷ r) h = same_step _ _ x v n r (ap (λ c. compare_or d a k c (step (k a) x v)) (no_comparison x h))

no_operator : (d : ℕ) (a : Part ExprTree) (k : Part ExprTree → State) (us : List Placed) → 2 < loose us → Comes (more_sum d a k) us (k a) us
no_operator d a k [] h = record { runs = refl; placed = λ h. refl }
no_operator d a k (on x v n ∷ r) h =
    let us : List Placed = on x v n ∷ r in
    same_step _ _ x v n r (cond_false (is_symbol symbol.Plus x) _ _ (not_next symbol.Plus us h) ∙ cond_false (is_symbol symbol.Minus x) _ _ (not_next symbol.Minus us h))

not_going_on : (d : ℕ) (n : Ident) (xs : List StepTree) (s : Span) (k : Part AccessTree → State) (us : List Placed) → 1 < loose us → Comes (in_access d n xs s k) us (k (not_called n xs s)) us
not_going_on d n xs s k [] h = record { runs = refl; placed = λ h. refl }
not_going_on d n xs s k (on (symbol symbol.Dot) v e ∷ r) h = absurd (omega arith)
not_going_on d n xs s k (on (symbol symbol.OpenBracket) v e ∷ r) h = absurd (omega arith)
not_going_on d n xs s k (on (symbol symbol.OpenParen) v e ∷ r) h = absurd (omega arith)
not_going_on d n xs s k (on (symbol _) v e ∷ r) h = same_step _ _ _ v e r refl
not_going_on d n xs s k (on _ v e ∷ r) h = same_step _ _ _ v e r refl

mutual
  pub takes_expr : {d : ℕ} {ts r : List Placed} {e : Part ExprTree} → Expr d ts e r → 6 < loose r → (k : Part ExprTree → State) → Comes (want_expr d k) ts (k e) r
  takes_expr (grammar.expr {d = d} o m) h k = then_comes (takes_orx o (before_implies m h) (λ a. more_implies d a k)) (takes_implies m h k)

  pub takes_implies : {d : ℕ} {a e : Part ExprTree} {ts r : List Placed} → ImpliesMore d a ts e r → 6 < loose r → (k : Part ExprTree → State) → Comes (more_implies d a k) ts (k e) r
  takes_implies (grammar.no_right {r = r}) h k = no_symbol symbol.Implies r _ _ _ refl (not_next symbol.Implies r h) (λ x v. refl)
  takes_implies (grammar.right {a = a} x) h k = then_comes (reads _ _ _ _ _ _ refl) (takes_expr x h (λ b. k (between ExprForm.implies a b)))

  pub takes_orx : {d : ℕ} {ts r : List Placed} {e : Part ExprTree} → Orx d ts e r → 5 < loose r → (k : Part ExprTree → State) → Comes (want_orx d k) ts (k e) r
  takes_orx (grammar.or {d = d} {e = e} a m) h k = then_comes (takes_andx a (before_or m h) (λ f. more_or d f [] k)) (takes_or_more m h e [] k)

  pub takes_or_more : {d : ℕ} {ts r : List Placed} {es : List (Part ExprTree)} → OrMore d ts es r → 5 < loose r → (e : Part ExprTree) (acc : List (Part ExprTree)) (k : Part ExprTree → State) → Comes (more_or d e acc k) ts (k (or_part e (acc ++ es))) r
  takes_or_more (grammar.no_or {r = r}) h e acc k =
      then_comes (no_symbol symbol.Or r _ _ _ refl (not_next symbol.Or r h) (λ x v. refl)) (stays _ _ r (ap (λ es. k (or_part e es)) (sym (append-nil acc))))
  takes_or_more (grammar.or_more {d = d} {u = u} {e = f} {es = es} a m) h e acc k =
      then_comes (reads _ _ _ _ _ _ refl) (then_comes (takes_andx a (before_or m h) (λ f. more_or d e (acc ++ f ∷ []) k))
      (then_comes (takes_or_more m h e (acc ++ f ∷ []) k) (stays _ _ u (ap (λ all. k (or_part e all)) (append_assoc acc (f ∷ []) es)))))

  pub takes_andx : {d : ℕ} {ts r : List Placed} {e : Part ExprTree} → Andx d ts e r → 4 < loose r → (k : Part ExprTree → State) → Comes (want_andx d k) ts (k e) r
  takes_andx (grammar.and {d = d} {e = e} a m) h k = then_comes (takes_notx a (before_and m h) (λ f. more_and d f [] k)) (takes_and_more m h e [] k)

  pub takes_and_more : {d : ℕ} {ts r : List Placed} {es : List (Part ExprTree)} → AndMore d ts es r → 4 < loose r → (e : Part ExprTree) (acc : List (Part ExprTree)) (k : Part ExprTree → State) → Comes (more_and d e acc k) ts (k (and_part e (acc ++ es))) r
  takes_and_more (grammar.no_and {r = r}) h e acc k =
      then_comes (no_symbol symbol.And r _ _ _ refl (not_next symbol.And r h) (λ x v. refl)) (stays _ _ r (ap (λ es. k (and_part e es)) (sym (append-nil acc))))
  takes_and_more (grammar.and_more {d = d} {u = u} {e = f} {es = es} a m) h e acc k =
      then_comes (reads _ _ _ _ _ _ refl) (then_comes (takes_notx a (before_and m h) (λ f. more_and d e (acc ++ f ∷ []) k))
      (then_comes (takes_and_more m h e (acc ++ f ∷ []) k) (stays _ _ u (ap (λ all. k (and_part e all)) (append_assoc acc (f ∷ []) es)))))

  pub takes_notx : {d : ℕ} {ts r : List Placed} {e : Part ExprTree} → Notx d ts e r → 3 < loose r → (k : Part ExprTree → State) → Comes (want_operand d k) ts (k e) r
  takes_notx (grammar.negated {s = s} x) h k = then_comes (reads _ _ _ _ _ _ refl) (takes_notx x h (λ e. k (not_part s e)))
  takes_notx (grammar.quantifier x) h k = takes_quant x h k
  takes_notx (grammar.comparison x) h k = takes_cmp x h k

  takes_quant : {d : ℕ} {ts r : List Placed} {e : Part ExprTree} → Quant d ts e r → 3 < loose r → (k : Part ExprTree → State) → Comes (want_operand d k) ts (k e) r
  takes_quant (grammar.for_all {r = r} x s) h k =
      then_comes (reads _ _ _ _ _ _ refl) (then_comes (reads _ _ _ _ _ _ refl) (then_comes (takes_bound x (stops_loose r s h) (λ e. stopping (k e))) (stops_here _ r s)))
  takes_quant (grammar.for_some {r = r} x s) h k =
      then_comes (reads _ _ _ _ _ _ refl) (then_comes (reads _ _ _ _ _ _ refl) (then_comes (takes_bound x (stops_loose r s h) (λ e. stopping (k e))) (stops_here _ r s)))

  pub takes_bound : {q : Quantifier} {d : ℕ} {s : Span} {n : Ident} {ts r : List Placed} {e : Part ExprTree} → Bound q d s n ts e r → 6 < loose r → (k : Part ExprTree → State) → Comes (want_bound q d s n k) ts (k e) r
  takes_bound (grammar.last_variable {q = q} {s = s} {n = n} {t = t} x y) h k =
      then_comes (reads _ _ _ _ _ _ refl) (then_comes (takes_type x _) (then_comes (reads _ _ _ _ _ _ refl) (takes_expr y h (λ e. k (quantifier_part q s n t e)))))
  takes_bound (grammar.next_variable {q = q} {s = s} {n = n} {t = t} x y) h k =
      then_comes (reads _ _ _ _ _ _ refl) (then_comes (takes_type x _) (then_comes (reads _ _ _ _ _ _ refl) (then_comes (reads _ _ _ _ _ _ refl)
      (takes_bound y h (λ e. k (quantifier_part q s n t e))))))

  takes_cmp : {d : ℕ} {ts r : List Placed} {e : Part ExprTree} → Cmp d ts e r → 3 < loose r → (k : Part ExprTree → State) → Comes (want_operand d k) ts (k e) r
  takes_cmp (grammar.cmp {d = d} x m) h k =
      then_comes (begins_with_prim x k) (then_comes (takes_sum x (before_cmp m h) (λ b. more_cmp d b k)) (takes_cmp_more m h k))

  pub takes_cmp_more : {d : ℕ} {a e : Part ExprTree} {ts r : List Placed} → CmpMore d a ts e r → 3 < loose r → (k : Part ExprTree → State) → Comes (more_cmp d a k) ts (k e) r
  takes_cmp_more (grammar.no_cmp {d = d} {a = a} {r = r}) h k = no_compare d a k r h
  takes_cmp_more (grammar.compared {d = d} {k = m} {c = c} {a = a} {s = s} p x) h k =
      then_comes (reads _ _ _ _ _ _ (ap (λ o. compare_or d a k o (step (k a) (symbol m) s)) (compares p))) (takes_sum x (omega arith) (λ b. k (between (ExprForm.compare c) a b)))

  pub takes_sum : {d : ℕ} {ts r : List Placed} {e : Part ExprTree} → Sum d ts e r → 2 < loose r → (k : Part ExprTree → State) → Comes (want_sum d k) ts (k e) r
  takes_sum (grammar.sum {d = d} x m) h k = then_comes (takes_prim x (before_sum m h) (λ a. more_sum d a k)) (takes_sum_more m h k)

  pub takes_sum_more : {d : ℕ} {a e : Part ExprTree} {ts r : List Placed} → SumMore d a ts e r → 2 < loose r → (k : Part ExprTree → State) → Comes (more_sum d a k) ts (k e) r
  takes_sum_more (grammar.no_sum {d = d} {a = a} {r = r}) h k = no_operator d a k r h
  takes_sum_more (grammar.plus {d = d} {a = a} x m) h k =
      then_comes (reads _ _ _ _ _ _ refl) (then_comes (takes_prim x (before_sum m h) (λ b. more_sum (suc d) (between ExprForm.plus a b) k)) (takes_sum_more m h k))
  takes_sum_more (grammar.minus {d = d} {a = a} x m) h k =
      then_comes (reads _ _ _ _ _ _ refl) (then_comes (takes_prim x (before_sum m h) (λ b. more_sum (suc d) (between ExprForm.minus a b) k)) (takes_sum_more m h k))

  pub takes_prim : {d : ℕ} {ts r : List Placed} {e : Part ExprTree} → Prim d ts e r → 1 < loose r → (k : Part ExprTree → State) → Comes (want_prim d k) ts (k e) r
  takes_prim grammar.number h k = reads _ _ _ _ _ _ refl
  takes_prim grammar.negative h k = then_comes (reads _ _ _ _ _ _ refl) (reads _ _ _ _ _ _ refl)
  takes_prim grammar.text h k = reads _ _ _ _ _ _ refl
  takes_prim grammar.true_ h k = reads _ _ _ _ _ _ refl
  takes_prim grammar.false_ h k = reads _ _ _ _ _ _ refl
  takes_prim grammar.none_ h k = reads _ _ _ _ _ _ refl
  takes_prim (grammar.some_ {d = d} {s = s} x) h k =
      then_comes (reads _ _ _ _ _ _ refl) (then_comes (reads _ _ _ _ _ _ refl)
      (then_comes (takes_expr x (omega arith) (λ e. want_symbol symbol.CloseParen refl d (λ c. k (built (join s c) (ExprForm.some_of (tree_of e)))))) (reads _ _ _ _ _ _ refl)))
  takes_prim grammar.unreturned h k = reads _ _ _ _ _ _ refl
  takes_prim grammar.tx h k = reads _ _ _ _ _ _ refl
  takes_prim (grammar.call {d = d} {w = w} {s = s} c x) h k =
      then_comes (reads _ _ _ _ _ _ (calls c d k s)) (then_comes (reads _ _ _ _ _ _ refl)
      (then_comes (takes_exprs x (omega arith) (λ es. want_symbol symbol.CloseParen refl d (λ c. k (built (join s c) (ExprForm.call w (exprs es)))))) (reads _ _ _ _ _ _ refl)))
  takes_prim (grammar.match {d = d} {s = s} {e = e} {a = a} x y m) h k =
      let close : List ExprArmTree → State = λ as_. want_symbol symbol.CloseBrace refl d (λ c. k (built (join s c) (ExprForm.match (tree_of e) (expr_arms as_)))) in
      then_comes (reads _ _ _ _ _ _ refl) (then_comes (reads _ _ _ _ _ _ refl)
      (then_comes (takes_expr x (omega arith) _) (then_comes (reads _ _ _ _ _ _ refl) (then_comes (reads _ _ _ _ _ _ refl)
      (then_comes (takes_arm y (before_arms m (omega arith)) (λ b. more_expr_arms (suc d) (b ∷ []) close)) (then_comes (takes_more_arms m (omega arith) (a ∷ []) close) (reads _ _ _ _ _ _ refl)))))))
  takes_prim (grammar.access x) h k = takes_access x h k
  takes_prim (grammar.parens {d = d} {o = o} x) h k =
      then_comes (reads _ _ _ _ _ _ refl) (then_comes (takes_expr x (omega arith) (λ e. want_symbol symbol.CloseParen refl d (λ c. k (in_parens o c e)))) (reads _ _ _ _ _ _ refl))

  -- up to where more of them may come
  pub takes_exprs : {d : ℕ} {ts r : List Placed} {es : List ExprTree} → Exprs d ts es r → 6 < loose r → (k : List ExprTree → State) → Comes (want_exprs d k) ts (more_exprs d es k) r
  takes_exprs (grammar.some_exprs {d = d} {e = e} x m) h k = then_comes (takes_expr x (before_exprs m h) (λ e. more_exprs d (tree_of e ∷ []) k)) (takes_more_exprs m h (tree_of e ∷ []) k)

  takes_more_exprs : {d : ℕ} {ts r : List Placed} {es : List ExprTree} → MoreExprs d ts es r → 6 < loose r → (acc : List ExprTree) (k : List ExprTree → State) → Comes (more_exprs d acc k) ts (more_exprs d (acc ++ es) k) r
  takes_more_exprs (grammar.no_expr {d = d} {r = r}) h acc k = stays _ _ r (ap (λ es. more_exprs d es k) (sym (append-nil acc)))
  takes_more_exprs (grammar.more_exprs {d = d} {u = u} {e = e} {es = es} x m) h acc k =
      then_comes (reads _ _ _ _ _ _ refl) (then_comes (takes_expr x (before_exprs m h) (λ e. more_exprs d (acc ++ tree_of e ∷ []) k))
      (then_comes (takes_more_exprs m h (acc ++ tree_of e ∷ []) k) (stays _ _ u (ap (λ all. more_exprs d all k) (append_assoc acc (tree_of e ∷ []) es)))))

  takes_arm : {d : ℕ} {ts r : List Placed} {a : ExprArmTree} → ExprArm d ts a r → 6 < loose r → (k : ExprArmTree → State) → Comes (want_expr_arm d k) ts (k a) r
  takes_arm (grammar.arm {d = d} {p = p} x y) h k =
      then_comes (takes_pattern x (omega arith) (λ p. want_symbol symbol.Arrow refl d (λ a. want_expr d (λ e. k (ExprArmTree.arm p (tree_of e))))))
      (then_comes (reads _ _ _ _ _ _ refl) (takes_expr y h (λ e. k (ExprArmTree.arm p (tree_of e)))))

  takes_more_arms : {d : ℕ} {ts r : List Placed} {as_ : List ExprArmTree} → MoreExprArms d ts as_ r → 6 < loose r → (acc : List ExprArmTree) (k : List ExprArmTree → State) → Comes (more_expr_arms d acc k) ts (more_expr_arms d (acc ++ as_) k) r
  takes_more_arms (grammar.no_arm {d = d} {r = r}) h acc k = stays _ _ r (ap (λ all. more_expr_arms d all k) (sym (append-nil acc)))
  takes_more_arms (grammar.more_arms {d = d} {u = u} {a = a} {as_ = as_} x m) h acc k =
      then_comes (reads _ _ _ _ _ _ refl) (then_comes (takes_arm x (before_arms m h) (λ b. more_expr_arms d (acc ++ b ∷ []) k))
      (then_comes (takes_more_arms m h (acc ++ a ∷ []) k) (stays _ _ u (ap (λ all. more_expr_arms d all k) (append_assoc acc (a ∷ []) as_)))))

  takes_access : {d : ℕ} {ts r : List Placed} {a : Part AccessTree} → Access d ts a r → 1 < loose r → (k : Part ExprTree → State) → Comes (want_prim d k) ts (k (access_part a)) r
  takes_access (grammar.rooted {n = n} {s = s} {xs = xs} x y) h k =
      then_comes (reads _ _ _ _ _ _ refl) (then_comes (takes_steps x (ident n s) [] s (λ a. k (access_part a))) (takes_args y h (λ a. k (access_part a))))

  pub takes_steps : {d : ℕ} {ts r : List Placed} {xs : List (Part StepTree)} → Steps d ts xs r → (n : Ident) (acc : List StepTree) (s : Span) (k : Part AccessTree → State) → Comes (in_access d n acc s k) ts (in_access d n (acc ++ trees_of xs) (reach s xs) k) r
  takes_steps (grammar.no_step {d = d} {r = r}) n acc s k = stays _ _ r (ap (λ xs. in_access d n xs s k) (sym (append-nil acc)))
  takes_steps (grammar.more_steps {d = d} {u = u} {x = x} {xs = xs} y m) n acc s k =
      then_comes (takes_step y n acc s k) (then_comes (takes_steps m n (acc ++ tree_of x ∷ []) (join s (extent_of x)) k)
      (stays _ _ u (ap (λ all. in_access d n all (reach s (x ∷ xs)) k) (append_assoc acc (tree_of x ∷ []) (trees_of xs)))))

  takes_step : {d : ℕ} {ts r : List Placed} {x : Part StepTree} → Step d ts x r → (n : Ident) (acc : List StepTree) (s : Span) (k : Part AccessTree → State) → Comes (in_access d n acc s k) ts (in_access d n (acc ++ tree_of x ∷ []) (join s (extent_of x)) k) r
  takes_step grammar.dot n acc s k = then_comes (reads _ _ _ _ _ _ refl) (reads _ _ _ _ _ _ refl)
  takes_step grammar.returned n acc s k = then_comes (reads _ _ _ _ _ _ refl) (reads _ _ _ _ _ _ refl)
  takes_step (grammar.key x) n acc s k = then_comes (reads _ _ _ _ _ _ refl) (then_comes (takes_expr x (omega arith) _) (reads _ _ _ _ _ _ refl))

  pub takes_args : {d : ℕ} {n : Ident} {xs : List StepTree} {s : Span} {ts r : List Placed} {a : Part AccessTree} → AccessArgs d n xs s ts a r → 1 < loose r → (k : Part AccessTree → State) → Comes (in_access d n xs s k) ts (k a) r
  takes_args (grammar.not_called {d = d} {n = n} {xs = xs} {s = s} {r = r}) h k = not_going_on d n xs s k r h
  takes_args grammar.no_args h k = then_comes (reads _ _ _ _ _ _ refl) (reads _ _ _ _ _ _ refl)
  takes_args (grammar.some_args {d = d} {n = n} {xs = xs} {s = s} {ts = ts} x) h k =
      let close : List ExprTree → State = λ es. want_symbol symbol.CloseParen refl d (λ c. k (called_with n xs s es c)) in
      then_comes (reads _ _ _ _ _ _ refl) (then_comes (no_symbol symbol.CloseParen ts (in_args d n xs s k) (want_exprs (suc d) close) _ refl (opens_exprs x).not_close (λ x v. refl))
      (then_comes (takes_exprs x (omega arith) close) (reads _ _ _ _ _ _ refl)))
