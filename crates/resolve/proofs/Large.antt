-- What is past a limit on one expression has too many nodes, where it is neither too deep nor binds too much.
use Rattle.std.proofs.Common.{◌≡◌, Bool, true, false, [], refl, ap, ap₂, ◌∙◌}
use Rattle.std.specs.Prelude.{◌||◌, ◌&&◌, not, nat_le}
use Rattle.rp_value.specs.declared.tables.ConTable.{ConTable}
use Rattle.rp_lang.specs.Exprs.{Ex}
use Rattle.rp_lang.specs.Formulas.{Fo}
use Rattle.rp_lang.specs.Programs.{Prog}
use Rattle.rp_lang.specs.Sizes.{ex_depth, ex_nodes, fo_depth}
use Rattle.rp_lang.specs.Bounds.{fo_binders, fo_weight}
use Rattle.desugaring.specs.Limits.{is_deep, binds_much, is_large, some_expression}
use Rattle.lower_procs.specs.Whole.{is_large_in}
use Rattle.resolve.specs.Adds.{some_passes}
use Rattle.resolve.proofs.Firsts.{IsKept}
use Rattle.resolve.proofs.Splits.{Split, passes_split}

not_both : (x y : Bool) → not (x && y) ≡ (not x || (false || not y))
not_both true y = refl
not_both false y = refl

not_all : (x y z : Bool) → not (x && y && z) ≡ (not x || (not y || not z))
not_all true true z = refl
not_all true false z = refl
not_all false y z = refl

term_split : (p : Prog) (e : Ex) → Split (is_large_in p.cons) is_deep (binds_much p) (is_large p) (λ x. x.of_term e)
term_split p e = not_both (nat_le (ex_depth e) 64) (nat_le (ex_nodes e) 100000)

formula_split : (p : Prog) (f : Fo) → Split (is_large_in p.cons) is_deep (binds_much p) (is_large p) (λ x. x.of_formula f)
formula_split p f = not_all (nat_le (fo_depth f) 64) (nat_le (fo_binders p.cons f) 16) (nat_le (fo_weight p.cons [] f) 100000)

pub large_nodes : (p : Prog) (cons : ConTable) → cons ≡ p.cons → IsKept p
    → some_passes (is_large_in cons) p.invs p.procs ≡ some_expression (is_large p) p
large_nodes p cons same k =
    ap (λ (cs : ConTable). some_passes (is_large_in cs) p.invs p.procs) same
    ∙ passes_split (is_large_in p.cons) is_deep (binds_much p) (is_large p) (term_split p) (formula_split p) p.invs p.procs
    ∙ ap₂ (λ x y. x || (y || some_expression (is_large p) p)) k.deep k.binds
