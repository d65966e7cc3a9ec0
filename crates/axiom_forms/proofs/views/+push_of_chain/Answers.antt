use Rattle.std.proofs.Common.{arith}
use Rattle.rp_lang.specs.ProgramView.{program_view}
use Rattle.axiom_forms.proofs.ViewSteps.{chain_none, chain_some}
use Rattle.axiom_forms.proofs.views.+push_of_chain.Goals as goal

pub returns-then-n-lt2 : goal.returns-then-n-lt2
returns-then-n-lt2 t c = chain_none (program_view c.args.p.now) c.args.n _ (omega (arith, c.if-n-lt2.true))

pub returns-in_ok-push_of_chain : goal.returns-in_ok-push_of_chain
returns-in_ok-push_of_chain t c = chain_some (program_view c.args.p.now) c.args.n _ _ _ (λ h. omega (arith, h, c.if-n-lt2.false)) c.in_ok-push_link.ensures c.in_ok-push_of_chain.ensures
