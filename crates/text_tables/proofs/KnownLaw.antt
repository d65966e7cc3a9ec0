-- What is kept of the declarations are the tables of the text's names.
use Rattle.std.proofs.Common.{◌≡◌, ℕ, List, sym, ap, subst, ◌∙◌}
use Rattle.rp_grammar.specs.Trees.{DeclTree}
use Rattle.type_rules.specs.Names.{Names}
use Rattle.type_rules.specs.Queries.{names_of}
use Rattle.type_tables.specs.Tables.{Entries}
use Rattle.desugaring.specs.Appearances.{datatypes_of}
use Rattle.desugaring.specs.Tables.{tables_of}
use Rattle.text_kinds.specs.Numbered.{Numbered, numbered}
use Rattle.text_tables.specs.Seen.{tables_with}
use Rattle.text_tables.specs.declared.object.Object.{Object}
use Rattle.text_tables.specs.means.Counted.{crdts_in}
use Rattle.text_tables.specs.means.Kept.{AreAtoms, AreObjects, AreProcs, AreTables, crdts_of, procs_in, procs_of}
use Rattle.text_tables.proofs.DeclaredLaw.{crdts_are, procs_are}

pub known : (n : Names) (ds : List DeclTree) (atoms : List ℕ) (procs : Entries) (count : ℕ) (objects : List Object) (ops roots : ℕ) → n ≡ names_of ds
    → AreAtoms n atoms → AreProcs (procs_in ds) procs count → AreObjects (crdts_in ds) objects ops roots
    → AreTables n atoms procs count objects ops roots
known n ds atoms procs count objects ops roots is as_ ps os = record {
  atoms_are = as_;
  procs_are = subst (λ all. AreProcs all procs count) (sym (ap procs_of is ∙ procs_are ds)) ps;
  objects_are = subst (λ all. AreObjects all objects ops roots) (sym (ap crdts_of is ∙ crdts_are ds)) os;
}

pub seen : (k : Numbered) (n : Names) (ds : List DeclTree) → k ≡ numbered n (datatypes_of n ds) → n ≡ names_of ds → tables_with k ≡ tables_of ds
seen k n ds is named = ap tables_with is ∙ ap (λ n. tables_with (numbered n (datatypes_of n ds))) named
