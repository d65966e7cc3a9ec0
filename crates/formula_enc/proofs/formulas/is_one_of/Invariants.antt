use Rattle.std.proofs.Common.{◌≡◌, drop}
use Rattle.rp_lang.specs.Typing.{is_among}
use Rattle.formula_enc.proofs.formulas.is_one_of.Given as goal

abbrev pub invariant-loop-other : goal.invariant-loop-other
invariant-loop-other l = is_among l.con l.cons ≡ is_among l.con (drop l.other-index l.cons)
