use Rattle.std.proofs.Common.{rules, ◌≡◌, [], ◌∷◌, map, false}
use Rattle.rp_logic.specs.Dual.{duals}
use Rattle.rp_logic.specs.Formulas.{also_fm}
use Rattle.rp_logic.specs.Terms as tm
use Rattle.rp_logic.specs.Views.{formula_view, formulas_view}
use Rattle.rp_logic.proofs.FormulaViews.{formula_views}
use Rattle.reshape.specs.Joined.{joined}
use Rattle.crdt_enc.specs.Builders as builders
use Rattle.query_enc.specs.means.Such as such
use Rattle.query_enc.proofs.Joins.{put_each}
use Rattle.query_enc.proofs.counting.each_one.Goals as goal

pub returns : goal.returns
returns c =
    let call : map formula_view c.push_call.new.out ≡ builders.over_one false c.args.s.now.view (tm.Var 0) ∷ such.is_call_of (such.such_view c.args.s.now) false c.args.op c.args.decl.now ∷ [] = search (rules, c.in_ok-push_call.ensures, c.new-parts.ensures) in
    let all : formulas_view c.push_copies.new.out ≡ joined (also_fm (builders.over_one false c.args.s.now.view (tm.Var 0)) (also_fm (such.is_call_of (such.such_view c.args.s.now) false c.args.op c.args.decl.now) (duals (formulas_view c.args.kept.now)))) (formulas_view c.args.rest.now) = put_each _ _ _ _ _ _ _ call c.in_ok-push_duals.ensures c.in_ok-push_copies.ensures in
    search (rules, formula_views, all, c.in_ok-body.ensures)
