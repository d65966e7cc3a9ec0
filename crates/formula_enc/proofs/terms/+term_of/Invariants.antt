use Rattle.std.proofs.Common.{◌≡◌, ◌+◌, ◌*◌, map, take}
use Rattle.rp_lang.specs.ProgramView.{program_view}
use Rattle.rp_lang.specs.Sizes.{ex_nodes, exs_nodes}
use Rattle.rp_lang.specs.Views.{expr_view, exprs_view}
use Rattle.rp_logic.specs.Views.{term_view}
use Rattle.crdt_enc.specs.FormulaFormulas.{term_of}
use Rattle.formula_enc.specs.Settings.{place_view, around_view}
use Rattle.formula_enc.proofs.terms.+term_of.Given as goal

abbrev pub invariant-terms_of-loop-e : goal.invariant-terms_of-loop-e
invariant-terms_of-loop-e l = map term_view l.made ≡ map (λ e. term_of (program_view l.s.program.now) (place_view l.s.at) (around_view l.s l.bounds) (expr_view e)) (take l.e-index l.exprs)

abbrev pub decreases-term_of : goal.decreases-term_of
decreases-term_of l = 2 * ex_nodes (expr_view l.e.now)

abbrev pub decreases-terms_of : goal.decreases-terms_of
decreases-terms_of l = 2 * exs_nodes (exprs_view l.exprs.now) + 1
