use Rattle.std.proofs.Common.{List, length, ◌<◌, ◌+◌, arith, rules, refl, ap, sym, subst, ◌∙◌, suc, add-one, [], ◌∷◌, ◌++◌, map}
use Rattle.rp_span.specs.declared.Span.{Span}
use Rattle.rp_grammar.specs.declared.terminal.Symbol.TheVariants as symbol
use Rattle.rp_grammar.specs.Trees.{ident, PatternTree, ParamTree, ExprTree, ExprForm, ExprArmTree, AccessTree, ArgTrees, StepTree, exprs, expr_arms, steps}
use Rattle.rp_grammar.specs.Parts.{Part, part, tree_of, join, built, in_parens}
use Rattle.rp_grammar.specs.Exprs.{between, quantified, quantifier_part, and_part, or_part}
use Rattle.rp_ast.specs.View.{ident_view, type_view, pattern_view, expr_view, expr_arm_view, access_view, step_view}
use Rattle.rp_tokens.specs.MachineStates.{ident_span, want_symbol, want_prim, want_operand, want_type, have_bound, stopping, more_and, more_or, more_implies, more_cmp, more_sum, more_exprs, more_expr_arms, in_access}
use Rattle.rp_tokens.specs.MachineExprs.{want_bound, want_expr, want_args, want_expr_arms, called_with, access_part}
use Rattle.rp_tokens.specs.Machine.{bounded}
use Rattle.rp_parser.specs.means.Marks.{toks}
use Rattle.rp_parser.specs.means.Reading.{left}
use Rattle.rp_parser.specs.means.ExprStarts.{operand_next, prim_next, quantifier_of, leaf_form, IsWithin}
use Rattle.rp_parser.specs.means.Signs.{sum_form, bound_next, step_next}
use Rattle.rp_parser.proofs.Chains.{chain_pushed, reach_last, and_node, or_node}
use Rattle.rp_parser.proofs.Rests.{within_failed, stands_failed, stands_left, stands_at, stands_if, stands_stops, faults_from, if_left, is_left, grown, begun, two_begun, ok_named}
use Rattle.rp_parser.proofs.+exprs.Goals as goal

pub exprs::read_expr-returns-then-ends_expr-clause-reads : goal.exprs::read_expr-returns-then-ends_expr-clause-reads
exprs::read_expr-returns-then-ends_expr-clause-reads t c = λ o d h k is.
    c.if-ends_expr.ensures.reads refl o d (part (expr_view c.read_operand-first.result.0) c.read_operand-first.result.1) k (c.read_operand-first.ensures.reads o d h (λ e. more_and d e [] (λ f. more_or d f [] (λ a. more_implies d a k))) is)

pub exprs::read_expr-returns-clause-reads : goal.exprs::read_expr-returns-clause-reads
exprs::read_expr-returns-clause-reads t c = λ o d h k is.
    c.read_expr_behind.ensures.reads o d h k (c.read_operand-first.ensures.reads o d h (λ e. more_and d e [] (λ f. more_or d f [] (λ a. more_implies d a k))) is)

pub exprs::read_expr_behind-returns-in_default-clause-reads : goal.exprs::read_expr_behind-returns-in_default-clause-reads
exprs::read_expr_behind-returns-in_default-clause-reads t c = λ o d h k is.
    c.in_default.ensures.reads o d h (part (expr_view c.read_or_behind-left.result.0) c.read_or_behind-left.result.1) k (c.read_or_behind-left.ensures.reads o d h (λ a. more_implies d a k) is)

pub exprs::read_expr_behind-returns-clause-reads : goal.exprs::read_expr_behind-returns-clause-reads
exprs::read_expr_behind-returns-clause-reads t c = λ o d h k is.
    let deeper = ap suc h ∙ sym (add-one c.args.depth) in
    let left = part (expr_view c.read_or_behind-left.result.0) c.read_or_behind-left.result.1 in
    let right = c.read_expr-right.result in
    let behind = c.read_expr-right.ensures.reads o (suc d) deeper (λ b. k (between ExprForm.implies left b))
    (c.in-Some.ensures.reads o d h left k (c.read_or_behind-left.ensures.reads o d h (λ a. more_implies d a k) is)) in
    c.extended.ensures.reads o (ExprTree.node c.join-span.result (ExprForm.implies (expr_view c.read_or_behind-left.result.0) (expr_view right.0))) k c.implies-node.ensures
    (stands_at right.2 (λ v. k (built v (ExprForm.implies (expr_view c.read_or_behind-left.result.0) (expr_view right.0)))) (join c.read_or_behind-left.result.1 right.1) c.join-span.result o (sym c.join-span.ensures) behind)

pub exprs::read_or_behind-returns-in_default-clause-reads : goal.exprs::read_or_behind-returns-in_default-clause-reads
exprs::read_or_behind-returns-in_default-clause-reads t c = λ o d h k is.
    c.in_default.ensures.reads o d h (part (expr_view c.read_and_behind-member.result.0) c.read_and_behind-member.result.1) [] k (c.read_and_behind-member.ensures.reads o d h (λ e. more_or d e [] k) is)

pub exprs::read_or_behind-returns-clause-reads : goal.exprs::read_or_behind-returns-clause-reads
exprs::read_or_behind-returns-clause-reads t c = λ o d h k is.
    c.read_or_chain.ensures.reads o d h k
    (c.in-Some.ensures.reads o d h (part (expr_view c.read_and_behind-member.result.0) c.read_and_behind-member.result.1) [] k (c.read_and_behind-member.ensures.reads o d h (λ e. more_or d e [] k) is))

pub exprs::read_or_chain-members-init : goal.exprs::read_or_chain-members-init
exprs::read_or_chain-members-init t c =
    let e = part (expr_view c.args.first) c.args.first_extent in
    let second = c.read_and-second.result in
    record {
      no_and = c.pushed-behind.ensures.next symbol.And (c.pushed-after.ensures.next symbol.And c.read_and-second.ensures.no_and);
      within = c.pushed-behind.ensures.within c.args.depth (c.pushed-after.ensures.within c.args.depth c.read_and-second.ensures.within);
      no_longer = omega (arith, c.pushed-behind.ensures.no_longer, c.pushed-after.ensures.no_longer, c.read_and-second.ensures.no_longer);
      reads = (
        [],
        part (expr_view second.0) second.1,
        two_begun _ _ _ expr_view c.pushed-behind.new.list c.pushed-after.new.list c.new-members.result c.args.first second.0 c.new-members.ensures c.pushed-after.ensures.pushes c.pushed-behind.ensures.pushes,
        sym c.join-extent.ensures,
        λ o d h k is. c.pushed-behind.ensures.reads o _ (c.pushed-after.ensures.reads o _ (c.read_and-second.ensures.reads o d h (λ f. more_or d e (f ∷ []) k) is)),
      );
    }

pub exprs::read_or_chain-members-preserved : goal.exprs::read_or_chain-members-preserved
exprs::read_or_chain-members-preserved t c =
    let (es, f, seen, far, reads) = c.members.invariant.reads in
    let e = part (expr_view c.args.first) c.args.first_extent in
    let member = c.read_and-member.result in
    let g = part (expr_view member.0) member.1 in
    record {
      no_and = c.pushed-behind-in-members.ensures.next symbol.And c.read_and-member.ensures.no_and;
      within = c.pushed-behind-in-members.ensures.within c.args.depth c.read_and-member.ensures.within;
      no_longer = omega (arith, c.pushed-behind-in-members.ensures.no_longer, c.read_and-member.ensures.no_longer, c.in-Some.ensures.shorter, c.members.invariant.no_longer);
      reads = (
        es ++ f ∷ [],
        g,
        if_left _ (λ added. chain_pushed c.pushed-behind-in-members.new.list c.members.members member.0 (expr_view c.args.first) (es ++ f ∷ []) g added.1 (is_left _ _ c.in-Some.ensures.shorter seen) refl) c.pushed-behind-in-members.ensures.pushes,
        reach_last c.args.first_extent (es ++ f ∷ []) g ∙ ap (λ s. join s member.1) far ∙ sym c.join-extent-in-members.ensures,
        λ o d h k is. c.pushed-behind-in-members.ensures.reads o _ (c.read_and-member.ensures.reads o d h (λ g. more_or d e ((es ++ f ∷ []) ++ g ∷ []) k) (c.in-Some.ensures.reads o d h e (es ++ f ∷ []) k (reads o d h k is))),
      );
    }

pub exprs::read_or_chain-returns-in_default-clause-reads : goal.exprs::read_or_chain-returns-in_default-clause-reads
exprs::read_or_chain-returns-in_default-clause-reads t c = λ o d h k is.
    let (es, f, seen, far, reads) = c.members.invariant.reads in
    let e = part (expr_view c.args.first) c.args.first_extent in
    stands_if c.members.behind k (or_part e (es ++ f ∷ [])) (part (expr_view c.or.result) c.members.extent) o
    (if_left c.members.behind (λ seen. or_node e es f c.members.members c.members.extent (expr_view c.or.result) far seen c.or.ensures) seen)
    (c.in_default.ensures.reads o d h e (es ++ f ∷ []) k (reads o d h k is))

pub exprs::read_and_chain-members-init : goal.exprs::read_and_chain-members-init
exprs::read_and_chain-members-init t c =
    let e = part (expr_view c.args.first) c.args.first_extent in
    let second = c.read_operand-second.result in
    record {
      within = c.pushed-behind.ensures.within c.args.depth (c.pushed-after.ensures.within c.args.depth c.read_operand-second.ensures.within);
      no_longer = omega (arith, c.pushed-behind.ensures.no_longer, c.pushed-after.ensures.no_longer, c.read_operand-second.ensures.no_longer);
      reads = (
        [],
        part (expr_view second.0) second.1,
        two_begun _ _ _ expr_view c.pushed-behind.new.list c.pushed-after.new.list c.new-members.result c.args.first second.0 c.new-members.ensures c.pushed-after.ensures.pushes c.pushed-behind.ensures.pushes,
        sym c.join-extent.ensures,
        λ o d h k is. c.pushed-behind.ensures.reads o _ (c.pushed-after.ensures.reads o _ (c.read_operand-second.ensures.reads o d h (λ f. more_and d e (f ∷ []) k) is)),
      );
    }

pub exprs::read_and_chain-members-preserved : goal.exprs::read_and_chain-members-preserved
exprs::read_and_chain-members-preserved t c =
    let (es, f, seen, far, reads) = c.members.invariant.reads in
    let e = part (expr_view c.args.first) c.args.first_extent in
    let member = c.read_operand-member.result in
    let g = part (expr_view member.0) member.1 in
    record {
      within = c.pushed-behind-in-members.ensures.within c.args.depth c.read_operand-member.ensures.within;
      no_longer = omega (arith, c.pushed-behind-in-members.ensures.no_longer, c.read_operand-member.ensures.no_longer, c.in-Some.ensures.shorter, c.members.invariant.no_longer);
      reads = (
        es ++ f ∷ [],
        g,
        if_left _ (λ added. chain_pushed c.pushed-behind-in-members.new.list c.members.members member.0 (expr_view c.args.first) (es ++ f ∷ []) g added.1 (is_left _ _ c.in-Some.ensures.shorter seen) refl) c.pushed-behind-in-members.ensures.pushes,
        reach_last c.args.first_extent (es ++ f ∷ []) g ∙ ap (λ s. join s member.1) far ∙ sym c.join-extent-in-members.ensures,
        λ o d h k is. c.pushed-behind-in-members.ensures.reads o _ (c.read_operand-member.ensures.reads o d h (λ g. more_and d e ((es ++ f ∷ []) ++ g ∷ []) k) (c.in-Some.ensures.reads o d h e (es ++ f ∷ []) k (reads o d h k is))),
      );
    }

pub exprs::read_and_chain-returns-in_default-clause-reads : goal.exprs::read_and_chain-returns-in_default-clause-reads
exprs::read_and_chain-returns-in_default-clause-reads t c = λ o d h k is.
    let (es, f, seen, far, reads) = c.members.invariant.reads in
    let e = part (expr_view c.args.first) c.args.first_extent in
    stands_if c.members.behind k (and_part e (es ++ f ∷ [])) (part (expr_view c.and.result) c.members.extent) o
    (if_left c.members.behind (λ seen. and_node e es f c.members.members c.members.extent (expr_view c.and.result) far seen c.and.ensures) seen)
    (c.in_default.ensures.reads o d h e (es ++ f ∷ []) k (reads o d h k is))

pub exprs::read_and-returns-clause-reads : goal.exprs::read_and-returns-clause-reads
exprs::read_and-returns-clause-reads t c = λ o d h k is. c.read_and_behind.ensures.reads o d h k (c.read_operand-first.ensures.reads o d h (λ e. more_and d e [] k) is)

pub exprs::read_and_behind-returns-in_default-clause-reads : goal.exprs::read_and_behind-returns-in_default-clause-reads
exprs::read_and_behind-returns-in_default-clause-reads t c = λ o d h k is. c.in_default.ensures.reads o d h (part (expr_view c.args.first) c.args.first_extent) [] k is

pub exprs::read_and_behind-returns-clause-reads : goal.exprs::read_and_behind-returns-clause-reads
exprs::read_and_behind-returns-clause-reads t c = λ o d h k is. c.read_and_chain.ensures.reads o d h k (c.in-Some.ensures.reads o d h (part (expr_view c.args.first) c.args.first_extent) [] k is)

pub exprs::read_operand-returns-in_default-clause-within : goal.exprs::read_operand-returns-in_default-clause-within
exprs::read_operand-returns-in_default-clause-within t c = within_failed _ _ _ c.in_default.is

pub exprs::read_operand-returns-in_default-clause-reads : goal.exprs::read_operand-returns-in_default-clause-reads
exprs::read_operand-returns-in_default-clause-reads t c = λ o d h k is. stands_failed _ _ _ _ _ c.in_default.is is

pub exprs::read_operand-returns-in-Not-clause-reads : goal.exprs::read_operand-returns-in-Not-clause-reads
exprs::read_operand-returns-in-Not-clause-reads t c = λ o d h k is.
    c.read_not.ensures.reads o d h k (stands_left c.args.rest c.in-Left.marks (want_operand d k) o c.in-Left.is is ∙ c.in-Ok.ensures.reads d h k ∙ ap (λ x. bounded 64 (operand_next d k x) (toks c.in-Ok.after.now)) c.in-Not.is)

pub exprs::read_operand-read_not-requires : goal.exprs::read_operand-read_not-requires
exprs::read_operand-read_not-requires t c =
    let w = subst (IsWithin c.args.depth (length c.in-Left.marks.now) (length c.in-Ok.after.now)) c.in-Not.is c.in-Ok.ensures.within in
    search (rules, w.0, w.1)

pub exprs::read_operand-returns-in-Quantifier-clause-reads : goal.exprs::read_operand-returns-in-Quantifier-clause-reads
exprs::read_operand-returns-in-Quantifier-clause-reads t c = λ o d h k is.
    c.read_quantified.ensures.reads o d h k (stands_left c.args.rest c.in-Left.marks (want_operand d k) o c.in-Left.is is ∙ c.in-Ok.ensures.reads d h k ∙ ap (λ x. bounded 64 (operand_next d k x) (toks c.in-Ok.after.now)) c.in-Quantifier.is)

pub exprs::read_operand-read_quantified-requires : goal.exprs::read_operand-read_quantified-requires
exprs::read_operand-read_quantified-requires t c =
    let w = subst (IsWithin c.args.depth (length c.in-Left.marks.now) (length c.in-Ok.after.now)) c.in-Quantifier.is c.in-Ok.ensures.within in
    search (rules, w.0, w.1)

pub exprs::read_operand-returns-in-Comparison-clause-reads : goal.exprs::read_operand-returns-in-Comparison-clause-reads
exprs::read_operand-returns-in-Comparison-clause-reads t c = λ o d h k is.
    c.read_comparison.ensures.reads o d h k (stands_left c.args.rest c.in-Left.marks (want_operand d k) o c.in-Left.is is ∙ c.in-Ok.ensures.reads d h k ∙ ap (λ x. bounded 64 (operand_next d k x) (toks c.in-Ok.after.now)) c.in-Comparison.is)

pub exprs::read_operand-returns-in-Err-clause-reads : goal.exprs::read_operand-returns-in-Err-clause-reads
exprs::read_operand-returns-in-Err-clause-reads t c = λ o d h k is.
    faults_from _ _ _ (stands_left c.args.rest c.in-Left.marks (want_operand d k) o c.in-Left.is is) (c.in-Err.ensures.reads d h k)

pub exprs::read_not-returns-clause-reads : goal.exprs::read_not-returns-clause-reads
exprs::read_not-returns-clause-reads t c = λ o d h k is.
    let deeper = ap suc h ∙ sym (add-one c.args.depth) in
    let operand = c.read_operand-operand.result in
    let behind = c.read_operand-operand.ensures.reads o (suc d) deeper _ is in
    c.extended.ensures.reads o (ExprTree.node c.join-span.result (ExprForm.not (expr_view operand.0))) k c.not-node.ensures
    (stands_at operand.2 (λ v. k (built v (ExprForm.not (expr_view operand.0)))) (join c.args.start operand.1) c.join-span.result o (sym c.join-span.ensures) behind)

pub exprs::read_quantified-returns-clause-reads : goal.exprs::read_quantified-returns-clause-reads
exprs::read_quantified-returns-clause-reads t c = λ o d h k is.
    let deeper = ap suc h ∙ sym (add-one c.args.depth) in
    let q = quantifier_of c.args.quantifier in
    let node = c.read_bound.result in
    stands_stops (k (part (expr_view node.0) node.1)) node.2 o c.read_bound.ensures.no_and c.read_bound.ensures.no_or c.read_bound.ensures.no_implies
    (c.read_bound.ensures.reads o (suc d) deeper (λ e. stopping (k e))
    (c.name-name.ensures.reads o (suc d) deeper (λ n. want_bound q (suc d) c.args.start n (λ e. stopping (k e))) is))

pub exprs::read_bound-returns-clause-reads : goal.exprs::read_bound-returns-clause-reads
exprs::read_bound-returns-clause-reads t c = λ o d h k is.
    let q = quantifier_of c.args.quantifier in
    let s = c.args.start in
    let n = ident_view c.args.name in
    let t = type_view c.read_type-ty.result.0 in
    let body = c.read_scope-body.result in
    let behind = c.read_scope-body.ensures.reads o d h s n t k
    (c.read_type-ty.ensures.reads o d h (λ t. have_bound q d s n t k) (c.symbol_within.ensures.reads o d h refl (λ _. want_type d (λ t. have_bound q d s n t k)) is)) in
    c.extended.ensures.reads o (ExprTree.node c.join-span.result (quantified q (ParamTree.param n t) (expr_view body.0))) k c.quantified-node.ensures
    (stands_at body.2 (λ v. k (built v (quantified q (ParamTree.param n t) (expr_view body.0)))) (join s body.1) c.join-span.result o (sym c.join-span.ensures) behind)

pub exprs::read_scope-returns-in_default-clause-within : goal.exprs::read_scope-returns-in_default-clause-within
exprs::read_scope-returns-in_default-clause-within t c = within_failed _ _ _ c.in_default.is

pub exprs::read_scope-returns-in_default-clause-reads : goal.exprs::read_scope-returns-in_default-clause-reads
exprs::read_scope-returns-in_default-clause-reads t c = λ o d h v n t k is. stands_failed _ _ _ _ _ c.in_default.is is

pub exprs::read_scope-returns-in-Body-clause-reads : goal.exprs::read_scope-returns-in-Body-clause-reads
exprs::read_scope-returns-in-Body-clause-reads t c = λ o d h v n t k is.
    let q = quantifier_of c.args.quantifier in
    c.read_expr.ensures.reads o d h (λ e. k (quantifier_part q v n t e))
    (stands_left c.args.rest c.in-Left.marks (have_bound q d v n t k) o c.in-Left.is is ∙ c.in-Ok.ensures.reads d h q v n t k ∙ ap (λ x. bounded 64 (bound_next q d v n t k x) (toks c.in-Ok.after.now)) c.in-Body.is)

pub exprs::read_scope-returns-in-Variable-clause-reads : goal.exprs::read_scope-returns-in-Variable-clause-reads
exprs::read_scope-returns-in-Variable-clause-reads t c = λ o d h v n t k is.
    let q = quantifier_of c.args.quantifier in
    c.read_further.ensures.reads o d h (λ e. k (quantifier_part q v n t e))
    (stands_left c.args.rest c.in-Left.marks (have_bound q d v n t k) o c.in-Left.is is ∙ c.in-Ok.ensures.reads d h q v n t k ∙ ap (λ x. bounded 64 (bound_next q d v n t k x) (toks c.in-Ok.after.now)) c.in-Variable.is)

pub exprs::read_scope-returns-in-Err-clause-reads : goal.exprs::read_scope-returns-in-Err-clause-reads
exprs::read_scope-returns-in-Err-clause-reads t c = λ o d h v n t k is.
    let q = quantifier_of c.args.quantifier in
    faults_from _ _ _ (stands_left c.args.rest c.in-Left.marks (have_bound q d v n t k) o c.in-Left.is is) (c.in-Err.ensures.reads d h q v n t k)

pub exprs::read_further-returns-clause-reads : goal.exprs::read_further-returns-clause-reads
exprs::read_further-returns-clause-reads t c = λ o d h k is.
    let deeper = ap suc h ∙ sym (add-one c.args.depth) in
    let q = quantifier_of c.args.quantifier in
    c.read_bound.ensures.reads o (suc d) deeper k (c.name-name.ensures.reads o d h (λ n. want_bound q (suc d) (ident_span n) n k) is)

pub sums::read_comparison-returns-then-ends_comparison-clause-reads : goal.sums::read_comparison-returns-then-ends_comparison-clause-reads
sums::read_comparison-returns-then-ends_comparison-clause-reads t c = λ o d h k is.
    c.if-ends_comparison.ensures.reads refl o d (part (expr_view c.read_prim-first.result.0) c.read_prim-first.result.1) k (c.read_prim-first.ensures.reads o d h (λ a. more_sum d a (λ b. more_cmp d b k)) is)

pub sums::read_comparison-returns-clause-reads : goal.sums::read_comparison-returns-clause-reads
sums::read_comparison-returns-clause-reads t c = λ o d h k is. c.read_comparison_behind.ensures.reads o d h k (c.read_prim-first.ensures.reads o d h (λ a. more_sum d a (λ b. more_cmp d b k)) is)

pub sums::read_comparison_behind-returns-in_default-clause-reads : goal.sums::read_comparison_behind-returns-in_default-clause-reads
sums::read_comparison_behind-returns-in_default-clause-reads t c = λ o d h k is.
    c.in_default.ensures.reads o d h (part (expr_view c.read_sum_behind-left.result.0) c.read_sum_behind-left.result.1) k (c.read_sum_behind-left.ensures.reads o d h (λ a. more_cmp d a k) is)

pub sums::read_comparison_behind-returns-clause-reads : goal.sums::read_comparison_behind-returns-clause-reads
sums::read_comparison_behind-returns-clause-reads t c = λ o d h k is.
    let left = part (expr_view c.read_sum_behind-left.result.0) c.read_sum_behind-left.result.1 in
    let right = c.read_sum-right.result in
    let form = ExprForm.compare c.in-Some.op in
    let behind = c.read_sum-right.ensures.reads o d h (λ b. k (between form left b))
    (c.in-Some.ensures.reads o d h left k (c.read_sum_behind-left.ensures.reads o d h (λ a. more_cmp d a k) is)) in
    c.extended.ensures.reads o (ExprTree.node c.join-span.result (form (expr_view c.read_sum_behind-left.result.0) (expr_view right.0))) k c.compare-node.ensures
    (stands_at right.2 (λ v. k (built v (form (expr_view c.read_sum_behind-left.result.0) (expr_view right.0)))) (join c.read_sum_behind-left.result.1 right.1) c.join-span.result o (sym c.join-span.ensures) behind)

pub sums::read_sum-returns-clause-reads : goal.sums::read_sum-returns-clause-reads
sums::read_sum-returns-clause-reads t c = λ o d h k is. c.read_sum_behind.ensures.reads o d h k (c.read_prim-first.ensures.reads o d h (λ a. more_sum d a k) is)

pub sums::read_sum_behind-returns-in_default-clause-reads : goal.sums::read_sum_behind-returns-in_default-clause-reads
sums::read_sum_behind-returns-in_default-clause-reads t c = λ o d h k is. c.in_default.ensures.reads o d h (part (expr_view c.args.first) c.args.first_extent) k is

pub sums::read_sum_behind-returns-clause-reads : goal.sums::read_sum_behind-returns-clause-reads
sums::read_sum_behind-returns-clause-reads t c = λ o d h k is.
    let deeper = ap suc h ∙ sym (add-one c.args.depth) in
    let first = part (expr_view c.args.first) c.args.first_extent in
    let right = c.read_prim-right.result in
    let form = sum_form c.in-Some.sign in
    let behind = c.read_prim-right.ensures.reads o (suc d) deeper (λ b. more_sum (suc d) (between form first b) k) (c.in-Some.ensures.reads o d h first k is) in
    c.read_sum_behind.ensures.reads o (suc d) deeper k
    (c.extended-left.ensures.reads o (ExprTree.node c.join-span.result (form (expr_view c.args.first) (expr_view right.0))) (λ a. more_sum (suc d) a k) c.sum-node.ensures
    (stands_at right.2 (λ v. more_sum (suc d) (built v (form (expr_view c.args.first) (expr_view right.0))) k) (join c.args.first_extent right.1) c.join-span.result o (sym c.join-span.ensures) behind))

pub sums::read_prim-returns-in_default-clause-within : goal.sums::read_prim-returns-in_default-clause-within
sums::read_prim-returns-in_default-clause-within t c = within_failed _ _ _ c.in_default.is

pub sums::read_prim-returns-in_default-clause-reads : goal.sums::read_prim-returns-in_default-clause-reads
sums::read_prim-returns-in_default-clause-reads t c = λ o d h k is. stands_failed _ _ _ _ _ c.in_default.is is

pub sums::read_prim-returns-in-Ok-clause-reads : goal.sums::read_prim-returns-in-Ok-clause-reads
sums::read_prim-returns-in-Ok-clause-reads t c = λ o d h k is. c.read_prim_behind.ensures.reads o d h k (stands_left c.args.rest c.in-Left.marks (want_prim d k) o c.in-Left.is is ∙ c.in-Ok.ensures.reads d h k)

pub sums::read_prim-returns-in-Err-clause-reads : goal.sums::read_prim-returns-in-Err-clause-reads
sums::read_prim-returns-in-Err-clause-reads t c = λ o d h k is. faults_from _ _ _ (stands_left c.args.rest c.in-Left.marks (want_prim d k) o c.in-Left.is is) (c.in-Err.ensures.reads d h k)

pub sums::read_prim_behind-returns-in-Leaf-clause-reads : goal.sums::read_prim_behind-returns-in-Leaf-clause-reads
sums::read_prim_behind-returns-in-Leaf-clause-reads t c = λ o d h k is.
    c.extended.ensures.reads o (ExprTree.node c.args.start_span (leaf_form c.in-Leaf.leaf)) k c.leaf_node-node.ensures (stands_at c.args.rest (λ x. prim_next d k c.args.start_span x) _ _ o c.in-Leaf.is is)

pub sums::read_prim_behind-returns-in-Minus-clause-reads : goal.sums::read_prim_behind-returns-in-Minus-clause-reads
sums::read_prim_behind-returns-in-Minus-clause-reads t c = λ o d h k is. c.read_negative.ensures.reads o d h k (stands_at c.args.rest (λ x. prim_next d k c.args.start_span x) _ _ o c.in-Minus.is is)

pub sums::read_prim_behind-returns-in-Some-clause-reads : goal.sums::read_prim_behind-returns-in-Some-clause-reads
sums::read_prim_behind-returns-in-Some-clause-reads t c = λ o d h k is. c.read_some.ensures.reads o d h k (stands_at c.args.rest (λ x. prim_next d k c.args.start_span x) _ _ o c.in-Some.is is)

pub sums::read_prim_behind-returns-in-Call-clause-reads : goal.sums::read_prim_behind-returns-in-Call-clause-reads
sums::read_prim_behind-returns-in-Call-clause-reads t c = λ o d h k is. c.read_call.ensures.reads o d h k (stands_at c.args.rest (λ x. prim_next d k c.args.start_span x) _ _ o c.in-Call.is is)

pub sums::read_prim_behind-returns-in-Match-clause-reads : goal.sums::read_prim_behind-returns-in-Match-clause-reads
sums::read_prim_behind-returns-in-Match-clause-reads t c = λ o d h k is. c.read_match.ensures.reads o d h k (stands_at c.args.rest (λ x. prim_next d k c.args.start_span x) _ _ o c.in-Match.is is)

pub sums::read_prim_behind-returns-in-Name-clause-reads : goal.sums::read_prim_behind-returns-in-Name-clause-reads
sums::read_prim_behind-returns-in-Name-clause-reads t c = λ o d h k is. c.read_name.ensures.reads o d h k (stands_at c.args.rest (λ x. prim_next d k c.args.start_span x) _ _ o c.in-Name.is is)

pub sums::read_prim_behind-returns-in-Paren-clause-reads : goal.sums::read_prim_behind-returns-in-Paren-clause-reads
sums::read_prim_behind-returns-in-Paren-clause-reads t c = λ o d h k is. c.read_paren.ensures.reads o d h k (stands_at c.args.rest (λ x. prim_next d k c.args.start_span x) _ _ o c.in-Paren.is is)

pub operands::read_some-returns-clause-reads : goal.operands::read_some-returns-clause-reads
operands::read_some-returns-clause-reads t c = λ o d h k is.
    let value = c.read_closed-value.result in
    let behind = c.read_closed-value.ensures.reads o d h (λ e v. k (built (join c.args.start v) (ExprForm.some_of (tree_of e)))) (c.symbol.ensures.reads o d h refl _ is) in
    c.extended.ensures.reads o (ExprTree.node c.join-span.result (ExprForm.some_of (expr_view value.0))) k c.some_of-node.ensures
    (stands_at value.3 (λ v. k (built v (ExprForm.some_of (expr_view value.0)))) (join c.args.start value.2) c.join-span.result o (sym c.join-span.ensures) behind)

pub operands::read_call-returns-clause-reads : goal.operands::read_call-returns-clause-reads
operands::read_call-returns-clause-reads t c = λ o d h k is.
    let args = c.read_args-args.result in
    let form = ExprForm.call c.args.word (exprs (map expr_view args.0)) in
    stands_at args.2 k (built (join c.args.start args.1) form) (part (expr_view c.call.result) c.join-span.result) o
    (ap (λ v. built v form) (sym c.join-span.ensures) ∙ ap (λ x. part x c.join-span.result) (sym c.call.ensures))
    (c.read_args-args.ensures.reads o d h (λ es v. k (built (join c.args.start v) (ExprForm.call c.args.word (exprs es)))) (c.symbol.ensures.reads o d h refl _ is))

pub operands::read_name-returns-clause-reads : goal.operands::read_name-returns-clause-reads
operands::read_name-returns-clause-reads t c = λ o d h k is.
    let access = c.read_access-access.result in
    c.extended.ensures.reads o (ExprTree.node access.1 (ExprForm.access (access_view access.0))) k c.access-node.ensures
    (c.read_access-access.ensures.reads o d h (λ a. k (access_part a))
    (c.made-root.ensures.reads o (λ n. in_access d (ident_view n) [] n.span (λ a. k (access_part a))) (in_access d (ident c.args.bytes.now c.args.start) [] c.args.start (λ a. k (access_part a)))
    (ok_named c.ident-root.result (λ n s. in_access d n [] s (λ a. k (access_part a))) _ _ c.ident-root.ensures.view c.ident-root.ensures.span) is))

pub operands::read_paren-returns-clause-reads : goal.operands::read_paren-returns-clause-reads
operands::read_paren-returns-clause-reads t c = λ o d h k is.
    let inside = c.read_closed-inside.result in
    stands_at inside.3 (λ v. k (part (expr_view inside.0) v)) (join c.args.start inside.2) c.join.result o (sym c.join.ensures)
    (c.read_closed-inside.ensures.reads o d h (λ (e : Part ExprTree) (v : Span). k (in_parens c.args.start v e)) is)

pub operands::read_closed-returns-clause-reads : goal.operands::read_closed-returns-clause-reads
operands::read_closed-returns-clause-reads t c = λ o d h k is.
    let deeper = ap suc h ∙ sym (add-one c.args.depth) in
    c.symbol.ensures.reads o d h refl (λ v. k (part (expr_view c.read_expr-inside.result.0) c.read_expr-inside.result.1) v)
    (c.read_expr-inside.ensures.reads o (suc d) deeper (λ e. want_symbol symbol.CloseParen refl d (λ v. k e v)) is)

pub operands::read_exprs-members-init : goal.operands::read_exprs-members-init
operands::read_exprs-members-init t c = record {
  within = c.pushed-behind.ensures.within c.args.depth c.read_expr-first.ensures.within;
  no_longer = omega (arith, c.pushed-behind.ensures.no_longer, c.read_expr-first.ensures.no_longer);
  reads = λ o d h k is.
      begun _ _ expr_view (λ xs. more_exprs d xs k) c.pushed-behind.new.list c.new-members.result c.read_expr-first.result.0 o c.new-members.ensures c.pushed-behind.ensures.pushes
      (c.pushed-behind.ensures.reads o _ (c.read_expr-first.ensures.reads o d h (λ e. more_exprs d (tree_of e ∷ []) k) is));
}

pub operands::read_exprs-members-preserved : goal.operands::read_exprs-members-preserved
operands::read_exprs-members-preserved t c =
    let xs = map expr_view c.members.members in
    record {
      within = c.pushed-behind-in-members.ensures.within c.args.depth c.read_expr-member.ensures.within;
      no_longer = omega (arith, c.pushed-behind-in-members.ensures.no_longer, c.read_expr-member.ensures.no_longer, c.in-Some.ensures.shorter, c.members.invariant.no_longer);
      reads = λ o d h k is.
          grown _ _ expr_view (λ xs. more_exprs d xs k) c.pushed-behind-in-members.new.list c.members.members c.read_expr-member.result.0 o c.pushed-behind-in-members.ensures.pushes
          (c.pushed-behind-in-members.ensures.reads o _ (c.read_expr-member.ensures.reads o d h (λ e. more_exprs d (xs ++ tree_of e ∷ []) k) (c.in-Some.ensures.exprs o d h xs k (c.members.invariant.reads o d h k is))));
    }

pub operands::read_exprs-returns-in_default-clause-reads : goal.operands::read_exprs-returns-in_default-clause-reads
operands::read_exprs-returns-in_default-clause-reads t c = λ o d h k is. c.in_default.ensures.exprs o d h (map expr_view c.members.members) k (c.members.invariant.reads o d h k is)

pub operands::read_args-returns-clause-reads : goal.operands::read_args-returns-clause-reads
operands::read_args-returns-clause-reads t c = λ o d h k is.
    let deeper = ap suc h ∙ sym (add-one c.args.depth) in
    c.symbol.ensures.reads o d h refl (λ v. k (map expr_view c.read_exprs-args.result.0) v)
    (c.read_exprs-args.ensures.reads o (suc d) deeper (λ es. want_symbol symbol.CloseParen refl d (λ v. k es v)) is)

pub operands::read_match-returns-clause-reads : goal.operands::read_match-returns-clause-reads
operands::read_match-returns-clause-reads t c = λ o d h k is.
    let deeper = ap suc h ∙ sym (add-one c.args.depth) in
    let s = c.args.start in
    let closed = λ (e : ExprTree) (as_ : List ExprArmTree). want_symbol symbol.CloseBrace refl d (λ x. k (built (join s x) (ExprForm.match e (expr_arms as_)))) in
    let value = expr_view c.read_closed-value.result.0 in
    let arms = map expr_arm_view c.read_arms-arms.result.0 in
    let close = c.symbol-3.result in
    let behind = c.symbol-3.ensures.reads o d h refl (λ x. k (built (join s x) (ExprForm.match value (expr_arms arms))))
    (c.read_arms-arms.ensures.reads o (suc d) deeper (closed value)
    (c.symbol-2.ensures.reads o d h refl (λ _. want_expr_arms (suc d) (closed value))
    (c.read_closed-value.ensures.reads o d h (λ e v. want_symbol symbol.OpenBrace refl d (λ _. want_expr_arms (suc d) (closed (tree_of e))))
    (c.symbol.ensures.reads o d h refl _ is)))) in
    c.extended.ensures.reads o (ExprTree.node c.join-span.result (ExprForm.match value (expr_arms arms))) k c.match_-node.ensures
    (stands_at close.1 (λ v. k (built v (ExprForm.match value (expr_arms arms)))) (join s close.0) c.join-span.result o (sym c.join-span.ensures) behind)

pub operands::read_arms-arms-init : goal.operands::read_arms-arms-init
operands::read_arms-arms-init t c = record {
  within = c.pushed-behind.ensures.within c.args.depth c.read_arm-first.ensures.within;
  no_longer = omega (arith, c.pushed-behind.ensures.no_longer, c.read_arm-first.ensures.no_longer);
  reads = λ o d h k is.
      begun _ _ expr_arm_view (λ xs. more_expr_arms d xs k) c.pushed-behind.new.list c.new-arms.result c.read_arm-first.result.0 o c.new-arms.ensures c.pushed-behind.ensures.pushes
      (c.pushed-behind.ensures.reads o _ (c.read_arm-first.ensures.reads o d h (λ a. more_expr_arms d (a ∷ []) k) is));
}

pub operands::read_arms-arms-preserved : goal.operands::read_arms-arms-preserved
operands::read_arms-arms-preserved t c =
    let xs = map expr_arm_view c.arms.arms in
    record {
      within = c.pushed-behind-in-arms.ensures.within c.args.depth c.read_arm-arm.ensures.within;
      no_longer = omega (arith, c.pushed-behind-in-arms.ensures.no_longer, c.read_arm-arm.ensures.no_longer, c.in-Some.ensures.shorter, c.arms.invariant.no_longer);
      reads = λ o d h k is.
          grown _ _ expr_arm_view (λ xs. more_expr_arms d xs k) c.pushed-behind-in-arms.new.list c.arms.arms c.read_arm-arm.result.0 o c.pushed-behind-in-arms.ensures.pushes
          (c.pushed-behind-in-arms.ensures.reads o _ (c.read_arm-arm.ensures.reads o d h (λ a. more_expr_arms d (xs ++ a ∷ []) k) (c.in-Some.ensures.arms o d h xs k (c.arms.invariant.reads o d h k is))));
    }

pub operands::read_arms-returns-in_default-clause-reads : goal.operands::read_arms-returns-in_default-clause-reads
operands::read_arms-returns-in_default-clause-reads t c = λ o d h k is. c.in_default.ensures.arms o d h (map expr_arm_view c.arms.arms) k (c.arms.invariant.reads o d h k is)

pub operands::read_arm-returns-clause-reads : goal.operands::read_arm-returns-clause-reads
operands::read_arm-returns-clause-reads t c = λ o d h k is.
    let bodied = λ (p : PatternTree). want_expr d (λ e. k (ExprArmTree.arm p (tree_of e))) in
    let p = pattern_view c.read_arm_pattern-pattern.result.0 in
    stands_at c.read_expr-body.result.2 k (ExprArmTree.arm p (expr_view c.read_expr-body.result.0)) (expr_arm_view c.arm.result) o (sym c.arm.ensures)
    (c.read_expr-body.ensures.reads o d h (λ e. k (ExprArmTree.arm p (tree_of e))) (c.read_arm_pattern-pattern.ensures.reads o d h bodied is))

pub accesses::read_access-returns-in_default-clause-reads : goal.accesses::read_access-returns-in_default-clause-reads
accesses::read_access-returns-in_default-clause-reads t c = λ o d h k is.
    let n = ident_view c.args.root in
    let steps_read = c.read_steps-steps.result in
    let xs = map step_view steps_read.0 in
    stands_at steps_read.2 (λ x. k (part x steps_read.1)) (AccessTree.path n (steps xs) ArgTrees.absent) (access_view c.path.result) o (sym c.path.ensures)
    (c.in_default.ensures.reads o d h n xs steps_read.1 k (c.read_steps-steps.ensures.reads o d h n k is))

pub accesses::read_access-returns-clause-reads : goal.accesses::read_access-returns-clause-reads
accesses::read_access-returns-clause-reads t c = λ o d h k is.
    let n = ident_view c.args.root in
    let steps_read = c.read_steps-steps.result in
    let xs = map step_view steps_read.0 in
    let args = c.read_access_args-args.result in
    let es = map expr_view args.0 in
    stands_at args.2 k (called_with n xs steps_read.1 es args.1) (part (access_view c.path-2.result) c.join-span.result) o
    (ap (λ s. part (AccessTree.path n (steps xs) (ArgTrees.given (exprs es))) s) (sym c.join-span.ensures) ∙ ap (λ a. part a c.join-span.result) (sym c.path-2.ensures))
    (c.read_access_args-args.ensures.reads o d h n xs steps_read.1 k (c.in-Some.ensures.reads o d h n xs steps_read.1 k (c.read_steps-steps.ensures.reads o d h n k is)))

pub accesses::read_steps-returns-in_default-clause-reads : goal.accesses::read_steps-returns-in_default-clause-reads
accesses::read_steps-returns-in_default-clause-reads t c = λ o d h n k is.
    stands_at c.args.rest (λ xs. in_access d n xs c.args.root_span k) [] (map step_view c.new-steps.result) o (sym (ap (map step_view) c.new-steps.ensures)) is

pub accesses::read_steps-steps-init : goal.accesses::read_steps-steps-init
accesses::read_steps-steps-init t c =
    let first = c.read_step-first.result in
    record {
      within = c.pushed-behind.ensures.within c.args.depth c.read_step-first.ensures.within;
      no_longer = omega (arith, c.pushed-behind.ensures.no_longer, c.read_step-first.ensures.no_longer, c.in-Some.ensures.shorter);
      reads = λ o d h n k is.
          stands_at c.pushed-behind.result (λ v. in_access d n (map step_view c.pushed-behind.new.list) v k) (join c.args.root_span first.1) c.join-extent.result o (sym c.join-extent.ensures)
          (begun _ _ step_view (λ xs. in_access d n xs (join c.args.root_span first.1) k) c.pushed-behind.new.list c.new-steps.result first.0 o c.new-steps.ensures c.pushed-behind.ensures.pushes
          (c.pushed-behind.ensures.reads o _ (c.read_step-first.ensures.reads o d h n [] c.args.root_span k (c.in-Some.ensures.reads o d h n [] c.args.root_span k is))));
    }

pub accesses::read_steps-steps-preserved : goal.accesses::read_steps-steps-preserved
accesses::read_steps-steps-preserved t c =
    let xs = map step_view c.steps.steps in
    let step = c.read_step-step.result in
    record {
      within = c.pushed-behind-in-steps.ensures.within c.args.depth c.read_step-step.ensures.within;
      no_longer = omega (arith, c.pushed-behind-in-steps.ensures.no_longer, c.read_step-step.ensures.no_longer, c.in-Some-step_sign.ensures.shorter, c.steps.invariant.no_longer);
      reads = λ o d h n k is.
          stands_at c.pushed-behind-in-steps.result (λ v. in_access d n (map step_view c.pushed-behind-in-steps.new.list) v k) (join c.steps.extent step.1) c.join-extent-in-steps.result o (sym c.join-extent-in-steps.ensures)
          (grown _ _ step_view (λ xs. in_access d n xs (join c.steps.extent step.1) k) c.pushed-behind-in-steps.new.list c.steps.steps step.0 o c.pushed-behind-in-steps.ensures.pushes
          (c.pushed-behind-in-steps.ensures.reads o _ (c.read_step-step.ensures.reads o d h n xs c.steps.extent k (c.in-Some-step_sign.ensures.reads o d h n xs c.steps.extent k (c.steps.invariant.reads o d h n k is)))));
    }

pub accesses::read_step-returns-in-Dot-clause-reads : goal.accesses::read_step-returns-in-Dot-clause-reads
accesses::read_step-returns-in-Dot-clause-reads t c = λ o d h n xs v k is. c.dot_step.ensures.reads o d h n xs v k (stands_at c.args.rest (λ x. step_next d n xs v k x) _ _ o c.in-Dot.is is)

pub accesses::read_step-returns-in-Key-clause-reads : goal.accesses::read_step-returns-in-Key-clause-reads
accesses::read_step-returns-in-Key-clause-reads t c = λ o d h n xs v k is. c.read_key.ensures.reads o d h n xs v k (stands_at c.args.rest (λ x. step_next d n xs v k x) _ _ o c.in-Key.is is)

pub accesses::read_key-returns-clause-reads : goal.accesses::read_key-returns-clause-reads
accesses::read_key-returns-clause-reads t c = λ o d h n xs v k is.
    let deeper = ap suc h ∙ sym (add-one c.args.depth) in
    let key = c.read_expr-key.result in
    let close = c.symbol.result in
    stands_at close.1 (λ x. in_access d n (xs ++ x ∷ []) (join v close.0) k) (StepTree.key (expr_view key.0)) (step_view c.key.result) o (sym c.key.ensures)
    (c.symbol.ensures.reads o d h refl (λ e. in_access d n (xs ++ StepTree.key (expr_view key.0) ∷ []) (join v e) k)
    (c.read_expr-key.ensures.reads o (suc d) deeper (λ x. want_symbol symbol.CloseBracket refl d (λ e. in_access d n (xs ++ StepTree.key (tree_of x) ∷ []) (join v e) k)) is))

pub accesses::read_access_args-returns-in-Some-clause-reads : goal.accesses::read_access_args-returns-in-Some-clause-reads
accesses::read_access_args-returns-in-Some-clause-reads t c = λ o d h n xs v k is.
    let with_args = λ (es : List ExprTree) (s : Span). k (called_with n xs v es s) in
    c.in-Some.ensures.reads o d h (λ s. k (called_with n xs v [] s)) (want_args d with_args) is
    ∙ ap (λ es. bounded 64 (with_args es c.in-Some.close) (toks c.in-Some.end.now)) (sym (ap (map expr_view) c.new.ensures))

pub accesses::read_access_args-returns-clause-reads : goal.accesses::read_access_args-returns-clause-reads
accesses::read_access_args-returns-clause-reads t c = λ o d h n xs v k is.
    let with_args = λ (es : List ExprTree) (s : Span). k (called_with n xs v es s) in
    c.read_args.ensures.reads o d h with_args (c.in_default.ensures.reads o d h (λ s. k (called_with n xs v [] s)) (want_args d with_args) is)

pub exprs::read_bound-returns-clause-within : goal.exprs::read_bound-returns-clause-within
exprs::read_bound-returns-clause-within t c = c.extended.ensures.within c.args.depth c.read_scope-body.ensures.within

pub sums::read_sum_behind-read_sum_behind-requires : goal.sums::read_sum_behind-read_sum_behind-requires
sums::read_sum_behind-read_sum_behind-requires t c =
    let less : left c.extended-left.result.2 < left c.args.rest = omega (arith, c.extended-left.ensures.no_longer, c.read_prim-right.ensures.no_longer, c.in-Some.ensures.shorter) in
    (search (rules, less), (omega (arith, c.in-Some.ensures.within), c.extended-left.ensures.within (c.args.depth + 1) c.read_prim-right.ensures.within))
