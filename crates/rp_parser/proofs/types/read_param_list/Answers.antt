use Rattle.std.proofs.Common.{List, refl, ap, sym, ◌∙◌, suc, add-one, [], map}
use Rattle.rp_grammar.specs.declared.terminal.Symbol.TheVariants as symbol
use Rattle.rp_grammar.specs.Trees.{ParamTree}
use Rattle.rp_ast.specs.View.{param_view}
use Rattle.rp_tokens.specs.MachineStates.{want_symbol}
use Rattle.rp_tokens.specs.MachineTypes.{want_params, in_param_list}
use Rattle.rp_tokens.specs.Machine.{bounded}
use Rattle.rp_parser.specs.means.Marks.{toks}
use Rattle.rp_parser.proofs.types.read_param_list.Goals as goal

pub returns-in-Some-clause-reads : goal.returns-in-Some-clause-reads
returns-in-Some-clause-reads c = λ o d h k is.
    let closed = λ (ps : List ParamTree). want_symbol symbol.CloseParen refl d (λ _. k ps) in
    let behind = c.symbol.ensures.reads o d h refl (λ _. in_param_list d k) is in
    c.in-Some.ensures.reads o d h (λ _. k []) (want_params (suc d) closed) behind ∙ ap (λ ps. bounded 64 (k ps) (toks c.in-Some.end.now)) (sym (ap (map param_view) c.new.ensures))

pub returns-clause-reads : goal.returns-clause-reads
returns-clause-reads c = λ o d h k is.
    let deeper = ap suc h ∙ sym (add-one c.args.depth) in
    let closed = λ (ps : List ParamTree). want_symbol symbol.CloseParen refl d (λ _. k ps) in
    let behind = c.symbol.ensures.reads o d h refl (λ _. in_param_list d k) is in
    c.symbol-2.ensures.reads o d h refl (λ _. k (map param_view c.read_params-params.result.0))
    (c.read_params-params.ensures.reads o (suc d) deeper closed (c.in_default.ensures.reads o d h (λ _. k []) (want_params (suc d) closed) behind))
