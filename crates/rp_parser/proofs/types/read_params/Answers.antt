use Rattle.std.proofs.Common.{arith, [], ◌∷◌, ◌++◌, map}
use Rattle.rp_ast.specs.View.{param_view}
use Rattle.rp_tokens.specs.MachineStates.{more_params}
use Rattle.rp_parser.proofs.Rests.{grown, begun}
use Rattle.rp_parser.proofs.types.read_params.Goals as goal

pub params-init : goal.params-init
params-init c = record {
  within = c.pushed-rest.ensures.within c.args.depth c.read_param-first.ensures.within;
  no_longer = omega (arith, c.pushed-rest.ensures.no_longer, c.read_param-first.ensures.no_longer);
  reads = λ o d h k is.
      let p = c.read_param-first.result.0 in
      begun _ _ param_view (λ ps. more_params d ps k) c.pushed-rest.new.list c.new-params.result p o c.new-params.ensures c.pushed-rest.ensures.pushes
      (c.pushed-rest.ensures.reads o _ (c.read_param-first.ensures.reads o d h (λ p. more_params d (p ∷ []) k) is));
}

pub params-preserved : goal.params-preserved
params-preserved c =
    let ps = map param_view c.params.params in
    let p = c.read_param-param.result.0 in
    record {
      within = c.pushed-rest-in-params.ensures.within c.args.depth c.read_param-param.ensures.within;
      no_longer = omega (arith, c.pushed-rest-in-params.ensures.no_longer, c.read_param-param.ensures.no_longer, c.in-Some.ensures.shorter, c.params.invariant.no_longer);
      reads = λ o d h k is.
          grown _ _ param_view (λ ps. more_params d ps k) c.pushed-rest-in-params.new.list c.params.params p o c.pushed-rest-in-params.ensures.pushes
          (c.pushed-rest-in-params.ensures.reads o _ (c.read_param-param.ensures.reads o d h (λ p. more_params d (ps ++ p ∷ []) k) (c.in-Some.ensures.params o d h ps k (c.params.invariant.reads o d h k is))));
    }

pub returns-in_default-clause-reads : goal.returns-in_default-clause-reads
returns-in_default-clause-reads c = λ o d h k is. c.in_default.ensures.params o d h (map param_view c.params.params) k (c.params.invariant.reads o d h k is)
