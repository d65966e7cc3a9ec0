-- What a node adds for its children, by the conclusion of its rule.
use Rattle.std.specs.Prelude.{ℤ, ◌+ℤ◌, true, false, if◌then◌else◌, List, [], ◌∷◌, Option, None}
use Rattle.rp_logic.specs.Terms.{Tm, Const, At}
use Rattle.rp_logic.specs.Formulas.{Fm, Lit}
use Rattle.rp_logic.specs.Instance.{instance}
use Rattle.rp_logic.specs.SigView.{sig_view}
use Rattle.rp_logic.specs.Views.{term_view, atom_view, formula_view, formulas_view}
use Rattle.refute_defs.specs.Branches.{Addition, formula_alone}
use Rattle.refute_defs.specs.Numbers.{within}
use Rattle.refute_defs.specs.Same.{same_tm}
use Rattle.refute_defs.specs.Parts.{equal}
use Rattle.refute_defs.specs.Children.{one_child, child_for_each, child_for_each_con, bringing, at_most}
use Rattle.refute_branch.specs.declared.form.Order.{Order}
use Rattle.refute_rules.specs.declared.conclusion.Conclusion.{Conclusion}
use Rattle.refute_rules.specs.declared.conclusion.Conclusion.TheVariants.{Closed, Part, Each, Instance, Named, Cut, Equal, AtMost, Built}

-- two children, with the atom and with its negation
abbrev pub cut_children : At → List Addition
cut_children atom = formula_alone (Lit true atom) ∷ formula_alone (Lit false atom) ∷ []

abbrev pub concluded : Conclusion → List Addition
concluded Closed = []
concluded (Part f) = one_child (formula_view f.now)
concluded (Each parts) = child_for_each (formulas_view parts.now)
concluded (Instance body t) = one_child (instance (term_view t.now) (formula_view body.now))
concluded (Named body c sort) = bringing c sort (instance (Const c) (formula_view body.now))
concluded (Cut atom) = cut_children (atom_view atom.now)
concluded (Equal a b) = one_child (equal (term_view a.now) (term_view b.now))
concluded (AtMost o) = one_child (at_most (term_view o.a.now) (term_view o.b.now) o.k)
concluded (Built sig t cons) = child_for_each_con (sig_view sig.now) (term_view t.now) cons.now

-- the formula a <= b + k
abbrev pub bounds_formula : Order → Fm
bounds_formula o = at_most (term_view o.a.now) (term_view o.b.now) o.k

-- the sum with the number of an order that begins with a
abbrev pub sum_after : Tm → ℤ → Tm × Tm × ℤ → Option ℤ
sum_after a sum o = if same_tm a o.0 then within (sum +ℤ o.2) else None
