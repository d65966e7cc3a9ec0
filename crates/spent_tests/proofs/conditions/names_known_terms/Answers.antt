use Rattle.std.proofs.Common.{arith}
use Rattle.rp_logic.specs.SigView.{sig_view}
use Rattle.refute_defs.specs.Views.{use_view}
use Rattle.spent_tests.specs.Views.{ranked_view}
use Rattle.spent_tests.proofs.NamedTerms.{known_unless_new}
use Rattle.spent_tests.proofs.conditions.names_known_terms.Goals as goal

pub returns-else-u-eq4 : goal.returns-else-u-eq4
returns-else-u-eq4 c =
    known_unless_new (sig_view c.args.sig.now) (ranked_view c.args.b.now) (use_view c.args.u.now)
    c.knows_all.result (λ e. omega (arith, e)) c.knows_all.ensures
