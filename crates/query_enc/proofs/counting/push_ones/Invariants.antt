use Rattle.std.proofs.Common.{◌≡◌, drop}
use Rattle.rp_logic.specs.Views.{formulas_view}
use Rattle.reshape.specs.Joined.{joined}
use Rattle.query_enc.specs.means.Such.{such_view, ones}
use Rattle.query_enc.proofs.counting.push_ones.Given as goal

abbrev pub invariant-loop-decl : goal.invariant-loop-decl
invariant-loop-decl l = (l.op ≡ l.decl-index) × (joined (formulas_view l.out) (ones l.sign (such_view l.s) (formulas_view l.kept) (formulas_view l.rest) l.decl-index (drop l.decl-index l.s.program.now.ops)) ≡ joined (formulas_view l.fn.out) (ones l.sign (such_view l.s) (formulas_view l.kept) (formulas_view l.rest) 0 l.s.program.now.ops))
