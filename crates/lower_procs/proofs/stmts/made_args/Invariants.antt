use Rattle.std.proofs.Common.{◌≡◌, length, reverse, Some}
use Rattle.rp_lang.specs.Exprs.{Exs}
use Rattle.rp_lang.specs.Views.{exprs_view}
use Rattle.query_bodies.specs.Views.{terms_view}
use Rattle.lower_exprs.specs.Making.{AreMeasuredIn}
use Rattle.lower_procs.specs.Writing.{terms_in}
use Rattle.lower_procs.proofs.Terms.{ArgsWay}
use Rattle.lower_procs.proofs.stmts.made_args.Given as goal

abbrev pub invariant-loop-arg : goal.invariant-loop-arg
invariant-loop-arg l =
    AreMeasuredIn l.fn.maker.work → (wanted : Exs) → terms_in l.fn.maker (terms_view l.fn.args) ≡ Some wanted
    → ArgsWay l.fn.maker wanted (terms_view (reverse l.turned)) l.maker (exprs_view l.made)

abbrev pub decreases-loop-arg : goal.decreases-loop-arg
decreases-loop-arg l = length l.turned
