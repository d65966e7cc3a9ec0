-- The program of a lawful text that passes no limit is well formed.
use Rattle.std.proofs.Common.{◌≡◌, ℕ, true, List}
use Rattle.std.proofs.lemmas.Bool.{and_from}
use Rattle.rp_grammar.specs.Trees.{DeclTree}
use Rattle.rp_grammar.specs.Texts.{IsText}
use Rattle.rp_lang.specs.Names.{have_names}
use Rattle.rp_lang.specs.Programs.{Prog}
use Rattle.rp_lang.specs.Types.{are_tables}
use Rattle.rp_lang.specs.WellFormed.{is_well_formed}
use Rattle.desugaring.specs.Limits.{HasProgram}
use Rattle.desugaring.specs.Tables.{tables_of}
use Rattle.lawful.proofs.Bools.{bool_stands}
use Rattle.lawful.proofs.Crdts.{roots_well_formed}
use Rattle.lawful.proofs.DataFields.{fields_ordinary}
use Rattle.lawful.proofs.InvNames.{invariant_names}
use Rattle.lawful.proofs.Numbering.{constructors_numbered}
use Rattle.lawful.proofs.Procedures.{procs_well_formed}
use Rattle.lawful.proofs.RootOps.{ops_well_formed}
use Rattle.lawful.proofs.RootQueries.{queries_well_formed}
use Rattle.lawful.proofs.Tables.{begins}
use Rattle.lawful.proofs.TypeNames.{type_names}
use Rattle.lawful.proofs.ValueNames.{value_names}
use Rattle.lawful.proofs.Within.{invs_well_formed, within}

pub names_stand : (bytes : List ℕ) (tree : List DeclTree) → IsText bytes tree → (p : Prog) → HasProgram tree p
    → have_names p ≡ true
names_stand bytes tree text p has =
    and_from _ _ (and_from _ _ (type_names bytes tree text p has.0) (value_names tree p has.0)) (invariant_names bytes tree text p has)

pub tables_stand : (bytes : List ℕ) (tree : List DeclTree) → IsText bytes tree → (p : Prog) → HasProgram tree p
    → are_tables p.types p.cons ≡ true
tables_stand bytes tree text p has =
    let w = within p has.1 in
    and_from _ _ (and_from _ _ (and_from _ _ (and_from _ _ (constructors_numbered bytes tree text p has.0)
    (bool_stands (tables_of tree) p has.0.1.types has.0.1.cons (begins tree))) (fields_ordinary tree p has.0)) w.types) w.parts

pub well_formed : (bytes : List ℕ) (tree : List DeclTree) → IsText bytes tree → (p : Prog) → HasProgram tree p
    → is_well_formed p ≡ true
well_formed bytes tree text p has =
    and_from _ _ (and_from _ _ (and_from _ _ (and_from _ _ (and_from _ _ (and_from _ _ (tables_stand bytes tree text p has) (roots_well_formed bytes tree text p has))
    (ops_well_formed tree p has)) (queries_well_formed bytes tree text p has)) (invs_well_formed bytes tree text p has)) (procs_well_formed bytes tree text p has))
    (names_stand bytes tree text p has)
