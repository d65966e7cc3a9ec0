-- Additions of the code, as definitions speak of them.
use Rattle.rp_logic.specs.Views.{formula_view}
use Rattle.refute_defs.specs.Branches as spec
use Rattle.refute_rules.specs.declared.additions.Addition.{Addition}

abbrev pub addition_view : Addition → spec.Addition
addition_view a = record { formula = formula_view a.formula; brings = a.brings }
