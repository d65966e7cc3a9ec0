use Rattle.std.proofs.Common.{◌≡◌, ℕ, false, ◌+◌, ◌*◌, ◌≤◌, List, [], ◌∷◌, ◌++◌, map}
use Rattle.rp_grammar.specs.declared.terminal.Symbol.TheVariants as symbol
use Rattle.rp_grammar.specs.Trees.{Ident, ExprTree, ExprArmTree, AccessTree}
use Rattle.rp_grammar.specs.Parts.{Part, part, trees_of, reach}
use Rattle.rp_ast.specs.View.{expr_view, expr_arm_view, step_view}
use Rattle.rp_tokens.specs.MachineStates.{State, want_operand, more_and, more_or, more_exprs, more_expr_arms, in_access}
use Rattle.rp_tokens.specs.MachineExprs.{want_andx, want_exprs, want_expr_arms}
use Rattle.rp_tokens.specs.Machine.{Bounded}
use Rattle.rp_parser.specs.means.Reading.{Stands, Within, left, IfLeft, next_of}
use Rattle.rp_parser.proofs.+exprs.Given as goal

abbrev pub decreases-sums::read_prim : goal.decreases-sums::read_prim
decreases-sums::read_prim l = 10 * left l.rest

abbrev pub decreases-sums::read_sum : goal.decreases-sums::read_sum
decreases-sums::read_sum l = 10 * left l.rest + 2

abbrev pub decreases-sums::read_comparison : goal.decreases-sums::read_comparison
decreases-sums::read_comparison l = 10 * left l.rest + 3

abbrev pub decreases-exprs::read_operand : goal.decreases-exprs::read_operand
decreases-exprs::read_operand l = 10 * left l.rest + 4

abbrev pub decreases-sums::read_sum_behind : goal.decreases-sums::read_sum_behind
decreases-sums::read_sum_behind l = 10 * left l.rest + 1

abbrev pub decreases-sums::read_comparison_behind : goal.decreases-sums::read_comparison_behind
decreases-sums::read_comparison_behind l = 10 * left l.rest + 2

abbrev pub decreases-exprs::read_and : goal.decreases-exprs::read_and
decreases-exprs::read_and l = 10 * left l.rest + 5

abbrev pub decreases-exprs::read_and_behind : goal.decreases-exprs::read_and_behind
decreases-exprs::read_and_behind l = 10 * left l.rest + 1

abbrev pub decreases-exprs::read_or_behind : goal.decreases-exprs::read_or_behind
decreases-exprs::read_or_behind l = 10 * left l.rest + 2

abbrev pub decreases-exprs::read_expr_behind : goal.decreases-exprs::read_expr_behind
decreases-exprs::read_expr_behind l = 10 * left l.rest + 3

abbrev pub decreases-exprs::read_and_chain : goal.decreases-exprs::read_and_chain
decreases-exprs::read_and_chain l = 10 * left l.rest + 5

abbrev pub decreases-exprs::read_or_chain : goal.decreases-exprs::read_or_chain
decreases-exprs::read_or_chain l = 10 * left l.rest + 6

abbrev pub decreases-exprs::read_expr : goal.decreases-exprs::read_expr
decreases-exprs::read_expr l = 10 * left l.rest + 5

abbrev pub decreases-operands::read_closed : goal.decreases-operands::read_closed
decreases-operands::read_closed l = 10 * left l.rest + 6

abbrev pub decreases-operands::read_exprs : goal.decreases-operands::read_exprs
decreases-operands::read_exprs l = 10 * left l.rest + 6

abbrev pub decreases-operands::read_args : goal.decreases-operands::read_args
decreases-operands::read_args l = 10 * left l.rest + 7

abbrev pub decreases-accesses::read_step : goal.decreases-accesses::read_step
decreases-accesses::read_step l = 10 * left l.rest + 7

abbrev pub decreases-accesses::read_key : goal.decreases-accesses::read_key
decreases-accesses::read_key l = 10 * left l.rest + 6

abbrev pub decreases-accesses::read_access_args : goal.decreases-accesses::read_access_args
decreases-accesses::read_access_args l = 10 * left l.rest + 8

abbrev pub decreases-accesses::read_steps : goal.decreases-accesses::read_steps
decreases-accesses::read_steps l = 10 * left l.rest + 1

abbrev pub decreases-accesses::read_access : goal.decreases-accesses::read_access
decreases-accesses::read_access l = 10 * left l.rest + 2

abbrev pub decreases-operands::read_some : goal.decreases-operands::read_some
decreases-operands::read_some l = 10 * left l.rest + 7

abbrev pub decreases-operands::read_call : goal.decreases-operands::read_call
decreases-operands::read_call l = 10 * left l.rest + 8

abbrev pub decreases-operands::read_name : goal.decreases-operands::read_name
decreases-operands::read_name l = 10 * left l.rest + 3

abbrev pub decreases-operands::read_paren : goal.decreases-operands::read_paren
decreases-operands::read_paren l = 10 * left l.rest + 7

abbrev pub decreases-operands::read_match : goal.decreases-operands::read_match
decreases-operands::read_match l = 10 * left l.rest + 8

abbrev pub decreases-operands::read_arm : goal.decreases-operands::read_arm
decreases-operands::read_arm l = 10 * left l.rest + 6

abbrev pub decreases-operands::read_arms : goal.decreases-operands::read_arms
decreases-operands::read_arms l = 10 * left l.rest + 7

abbrev pub decreases-exprs::read_bound : goal.decreases-exprs::read_bound
decreases-exprs::read_bound l = 10 * left l.rest + 2

abbrev pub decreases-exprs::read_scope : goal.decreases-exprs::read_scope
decreases-exprs::read_scope l = 10 * left l.rest + 1

abbrev pub decreases-exprs::read_further : goal.decreases-exprs::read_further
decreases-exprs::read_further l = 10 * left l.rest + 3

abbrev pub decreases-sums::read_prim_behind : goal.decreases-sums::read_prim_behind
decreases-sums::read_prim_behind l = 10 * left l.rest + 9

abbrev pub decreases-exprs::read_not : goal.decreases-exprs::read_not
decreases-exprs::read_not l = 10 * left l.rest + 5

abbrev pub decreases-exprs::read_quantified : goal.decreases-exprs::read_quantified
decreases-exprs::read_quantified l = 10 * left l.rest + 3

abbrev pub invariant-exprs::read_or_chain-members : goal.invariant-exprs::read_or_chain-members
invariant-exprs::read_or_chain-members l = record {
  no_and : next_of symbol.And l.behind ≡ false;
  within : Within l.depth l.behind;
  no_longer : left l.behind ≤ left l.fn.rest;
  reads : (es : List (Part ExprTree)) × (f : Part ExprTree) × IfLeft l.behind (map expr_view l.members ≡ expr_view l.fn.first ∷ trees_of (es ++ f ∷ [])) × (reach l.fn.first_extent (es ++ f ∷ []) ≡ l.extent)
      × ((o : Bounded) (d : ℕ) → d ≡ l.depth → (k : Part ExprTree → State) → Stands l.fn.rest (want_andx d (λ f. more_or d (part (expr_view l.fn.first) l.fn.first_extent) (f ∷ []) k)) o → Stands l.behind (more_or d (part (expr_view l.fn.first) l.fn.first_extent) (es ++ f ∷ []) k) o);
}

abbrev pub decreases-exprs::read_or_chain-members : goal.decreases-exprs::read_or_chain-members
decreases-exprs::read_or_chain-members l = left l.behind

abbrev pub invariant-exprs::read_and_chain-members : goal.invariant-exprs::read_and_chain-members
invariant-exprs::read_and_chain-members l = record {
  within : Within l.depth l.behind;
  no_longer : left l.behind ≤ left l.fn.rest;
  reads : (es : List (Part ExprTree)) × (f : Part ExprTree) × IfLeft l.behind (map expr_view l.members ≡ expr_view l.fn.first ∷ trees_of (es ++ f ∷ [])) × (reach l.fn.first_extent (es ++ f ∷ []) ≡ l.extent)
      × ((o : Bounded) (d : ℕ) → d ≡ l.depth → (k : Part ExprTree → State) → Stands l.fn.rest (want_operand d (λ f. more_and d (part (expr_view l.fn.first) l.fn.first_extent) (f ∷ []) k)) o → Stands l.behind (more_and d (part (expr_view l.fn.first) l.fn.first_extent) (es ++ f ∷ []) k) o);
}

abbrev pub decreases-exprs::read_and_chain-members : goal.decreases-exprs::read_and_chain-members
decreases-exprs::read_and_chain-members l = left l.behind

abbrev pub invariant-operands::read_exprs-members : goal.invariant-operands::read_exprs-members
invariant-operands::read_exprs-members l = record {
  within : Within l.depth l.behind;
  no_longer : left l.behind ≤ left l.fn.rest;
  reads : (o : Bounded) (d : ℕ) → d ≡ l.depth → (k : List ExprTree → State) → Stands l.fn.rest (want_exprs d k) o → Stands l.behind (more_exprs d (map expr_view l.members) k) o;
}

abbrev pub decreases-operands::read_exprs-members : goal.decreases-operands::read_exprs-members
decreases-operands::read_exprs-members l = left l.behind

abbrev pub invariant-operands::read_arms-arms : goal.invariant-operands::read_arms-arms
invariant-operands::read_arms-arms l = record {
  within : Within l.depth l.behind;
  no_longer : left l.behind ≤ left l.fn.rest;
  reads : (o : Bounded) (d : ℕ) → d ≡ l.depth → (k : List ExprArmTree → State) → Stands l.fn.rest (want_expr_arms d k) o → Stands l.behind (more_expr_arms d (map expr_arm_view l.arms) k) o;
}

abbrev pub decreases-operands::read_arms-arms : goal.decreases-operands::read_arms-arms
decreases-operands::read_arms-arms l = left l.behind

abbrev pub invariant-accesses::read_steps-steps : goal.invariant-accesses::read_steps-steps
invariant-accesses::read_steps-steps l = record {
  within : Within l.depth l.behind;
  no_longer : left l.behind ≤ left l.fn.rest;
  reads : (o : Bounded) (d : ℕ) → d ≡ l.depth → (n : Ident) (k : Part AccessTree → State) → Stands l.fn.rest (in_access d n [] l.fn.root_span k) o → Stands l.behind (in_access d n (map step_view l.steps) l.extent k) o;
}

abbrev pub decreases-accesses::read_steps-steps : goal.decreases-accesses::read_steps-steps
decreases-accesses::read_steps-steps l = left l.behind
