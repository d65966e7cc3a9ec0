use Rattle.std.proofs.Common.{◌≡◌, take, map}
use Rattle.rp_logic.specs.SigView.{sig_view}
use Rattle.rp_logic.specs.Views.{term_view}
use Rattle.refute_defs.specs.Branches.{formula_alone}
use Rattle.refute_defs.specs.Parts.{built_with}
use Rattle.refute_rules.specs.Added.{addition_view}
use Rattle.refute_rules.proofs.additions.one_for_each_con.Given as goal

abbrev pub invariant-loop-con : goal.invariant-loop-con
invariant-loop-con l = map addition_view l.adds ≡ map
    (λ con. formula_alone (built_with (sig_view l.sig) (term_view l.t) con))
    (take l.con-index l.cons)
