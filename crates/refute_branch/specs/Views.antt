-- A branch and what is lent of it, as definitions speak of them.
use Rattle.std.specs.Prelude.{ℤ, map}
use Rattle.rp_logic.specs.Terms.{Tm}
use Rattle.rp_logic.specs.Views.{term_view, formula_view}
use Rattle.refute_defs.specs.Branches.{Branch}
use Rattle.refute_branch.specs.declared.branch.OpenBranch.{OpenBranch}
use Rattle.refute_branch.specs.declared.form.Sides.{Sides}
use Rattle.refute_branch.specs.declared.form.Order.{Order}

abbrev pub branch_view : OpenBranch → Branch
branch_view b = record { formulas = map formula_view b.formulas; added = b.added }

-- the sides of an equality
abbrev pub sides_view : Sides → Tm × Tm
sides_view e = (term_view e.left.now, term_view e.right.now)

-- a, b and k of a <= b + k
abbrev pub order_view : Order → Tm × Tm × ℤ
order_view o = (term_view o.a.now, term_view o.b.now, o.k)
