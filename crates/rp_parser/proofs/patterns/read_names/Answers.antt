use Rattle.std.proofs.Common.{arith, [], ◌∷◌, ◌++◌, map}
use Rattle.rp_ast.specs.View.{ident_view}
use Rattle.rp_tokens.specs.MachineStates.{more_names}
use Rattle.rp_parser.proofs.Rests.{grown, begun}
use Rattle.rp_parser.proofs.patterns.read_names.Goals as goal

pub names-init : goal.names-init
names-init c = record {
  within = c.pushed-rest.ensures.within c.args.depth c.name-first.ensures.within;
  no_longer = omega (arith, c.pushed-rest.ensures.no_longer, c.name-first.ensures.no_longer);
  reads = λ o d h k is.
      begun _ _ ident_view (λ ns. more_names d ns k) c.pushed-rest.new.list c.new-names.result c.name-first.result.0 o c.new-names.ensures c.pushed-rest.ensures.pushes
      (c.pushed-rest.ensures.reads o _ (c.name-first.ensures.reads o d h (λ n. more_names d (n ∷ []) k) is));
}

pub names-preserved : goal.names-preserved
names-preserved c =
    let ns = map ident_view c.names.names in
    record {
      within = c.pushed-rest-in-names.ensures.within c.args.depth c.name-name.ensures.within;
      no_longer = omega (arith, c.pushed-rest-in-names.ensures.no_longer, c.name-name.ensures.no_longer, c.in-Some.ensures.shorter, c.names.invariant.no_longer);
      reads = λ o d h k is.
          grown _ _ ident_view (λ ns. more_names d ns k) c.pushed-rest-in-names.new.list c.names.names c.name-name.result.0 o c.pushed-rest-in-names.ensures.pushes
          (c.pushed-rest-in-names.ensures.reads o _ (c.name-name.ensures.reads o d h (λ n. more_names d (ns ++ n ∷ []) k) (c.in-Some.ensures.names o d h ns k (c.names.invariant.reads o d h k is))));
    }

pub returns-in_default-clause-reads : goal.returns-in_default-clause-reads
returns-in_default-clause-reads c = λ o d h k is. c.in_default.ensures.names o d h (map ident_view c.names.names) k (c.names.invariant.reads o d h k is)
