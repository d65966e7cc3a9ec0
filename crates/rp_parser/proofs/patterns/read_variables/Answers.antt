use Rattle.std.proofs.Common.{List, refl, ap, sym, ◌∙◌, suc, add-one, [], ◌∷◌, map}
use Rattle.rp_grammar.specs.declared.terminal.Symbol.TheVariants as symbol
use Rattle.rp_grammar.specs.Trees.{Ident, PatternTree}
use Rattle.rp_ast.specs.View.{ident_view}
use Rattle.rp_tokens.specs.MachineStates.{want_symbol, want_name, more_names}
use Rattle.rp_parser.proofs.Rests.{stands_at}
use Rattle.rp_parser.proofs.patterns.read_variables.Goals as goal

pub returns-in_default-clause-reads : goal.returns-in_default-clause-reads
returns-in_default-clause-reads c = λ o d h k is.
    let n = ident_view c.args.con in
    let close = λ (vs : List Ident). want_symbol symbol.CloseParen refl d (λ _. k (PatternTree.pattern n vs)) in
    stands_at c.args.rest (λ vs. k (PatternTree.pattern n vs)) [] (map ident_view c.new-vars.result) o (sym (ap (map ident_view) c.new-vars.ensures))
    (c.in_default.ensures.reads o d h (λ _. want_name (suc d) (λ v. more_names (suc d) (v ∷ []) close)) (k (PatternTree.pattern n [])) is)

pub returns-clause-reads : goal.returns-clause-reads
returns-clause-reads c = λ o d h k is.
    let n = ident_view c.args.con in
    let deeper = ap suc h ∙ sym (add-one c.args.depth) in
    let close = λ (vs : List Ident). want_symbol symbol.CloseParen refl d (λ _. k (PatternTree.pattern n vs)) in
    c.symbol.ensures.reads o d h refl (λ _. k (PatternTree.pattern n (map ident_view c.read_names-vars.result.0)))
    (c.read_names-vars.ensures.reads o (suc d) deeper close
    (c.in-Some.ensures.reads o d h (λ _. want_name (suc d) (λ v. more_names (suc d) (v ∷ []) close)) (k (PatternTree.pattern n [])) is))
