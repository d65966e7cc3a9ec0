use Rattle.std.proofs.Common.{length, arith}
use Rattle.rp_logic.specs.Scopes.{scope_view}
use Rattle.rp_logic.specs.Views.{term_view}
use Rattle.refute_defs.specs.Same.{same_tm}
use Rattle.spent_tests.proofs.SameLists.{terms_differ}
use Rattle.spent_tests.proofs.matching.+fits.Goals as goal

pub all_fit-returns-then-ss-us : goal.all_fit-returns-then-ss-us
all_fit-returns-then-ss-us t c =
    terms_differ same_tm (term_view c.args.t.now) (length (scope_view c.args.inner.now))
    c.args.ss.now c.args.us.now (λ e. omega (arith, e))
