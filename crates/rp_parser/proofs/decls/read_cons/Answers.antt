use Rattle.std.proofs.Common.{arith, [], ◌∷◌, ◌++◌, map}
use Rattle.rp_ast.specs.View.{con_view}
use Rattle.rp_tokens.specs.MachineStates.{more_cons}
use Rattle.rp_parser.proofs.Rests.{grown, begun}
use Rattle.rp_parser.proofs.decls.read_cons.Goals as goal

pub cons-init : goal.cons-init
cons-init c = record {
  no_longer = omega (arith, c.pushed-behind.ensures.no_longer, c.read_con-first.ensures.no_longer);
  reads = λ o k is.
      begun _ _ con_view (λ xs. more_cons xs k) c.pushed-behind.new.list c.new-cons.result c.read_con-first.result.0 o c.new-cons.ensures c.pushed-behind.ensures.pushes
      (c.pushed-behind.ensures.reads o _ (c.read_con-first.ensures.reads o (λ x. more_cons (x ∷ []) k) is));
}

pub cons-preserved : goal.cons-preserved
cons-preserved c =
    let xs = map con_view c.cons.cons in
    record {
      no_longer = omega (arith, c.pushed-behind-in-cons.ensures.no_longer, c.read_con-con.ensures.no_longer, c.in-Some.ensures.shorter, c.cons.invariant.no_longer);
      reads = λ o k is.
          grown _ _ con_view (λ xs. more_cons xs k) c.pushed-behind-in-cons.new.list c.cons.cons c.read_con-con.result.0 o c.pushed-behind-in-cons.ensures.pushes
          (c.pushed-behind-in-cons.ensures.reads o _ (c.read_con-con.ensures.reads o (λ x. more_cons (xs ++ x ∷ []) k) (c.in-Some.ensures.reads o xs k (c.cons.invariant.reads o k is))));
    }

pub returns-in_default-clause-reads : goal.returns-in_default-clause-reads
returns-in_default-clause-reads c = λ o k is.
    c.in_default.ensures.reads o (map con_view c.cons.cons) k (c.cons.invariant.reads o k is)
