-- The program of a lawful text has its tables.
use Rattle.std.proofs.Common.{◌≡◌, ℕ, Bool, true, false, List, ◌∷◌, Option, Some, None, refl, subst, sym, ◌∙◌}
use Rattle.rp_grammar.specs.Trees.{Ident, StepTrees, DeclTree}
use Rattle.rp_grammar.specs.Texts.{IsText}
use Rattle.rp_grammar.proofs.Formed.{FormedDecls}
use Rattle.rp_grammar.proofs.FormedTexts.{Lexable, text_formed}
use Rattle.rp_lang.specs.Exprs.{Ex}
use Rattle.rp_lang.specs.Programs.{Prog}
use Rattle.type_rules.specs.Names.{Entry, text_of, entry_named}
use Rattle.type_rules.specs.Kinds.{bool_kind}
use Rattle.type_rules.specs.Accesses.{of_entry}
use Rattle.type_rules.specs.Queries.{names_of}
use Rattle.type_rules.specs.Rules.{is_query}
use Rattle.desugaring.specs.Appearances.{kinds_from}
use Rattle.desugaring.specs.Tables.{tables_of}
use Rattle.desugaring.specs.Callees.{Vars, Called, of_access}
use Rattle.desugaring.specs.Programs.{IsProgramOf}
use Rattle.lawful.specs.Kept.{may_speak}
use Rattle.lawful.specs.Typed.{IsCall, Tied}
use Rattle.lawful.proofs.Forms.{one}
use Rattle.lawful.proofs.Cons.{con_is, arm_is, arm_many_is}
use Rattle.lawful.proofs.Blocks.{kinds_differ}
use Rattle.lawful.proofs.Arms.{cases_are}
use Rattle.lawful.proofs.Places.{cases_differ}
use Rattle.lawful.proofs.Bools.{BoolFirst, bool_is, bools_are, tx_is}
use Rattle.lawful.proofs.Atoms.{atom_is}
use Rattle.lawful.proofs.Called.{call_is}
use Rattle.lawful.proofs.UsedQueries.{query_called}

by_entry : (tree : List DeclTree) (p : Prog) → IsProgramOf tree p → FormedDecls Lexable tree
    → (vs : Vars) (x : Ident) (steps : StepTrees) (c : Called Ex) (o : Option Entry) → entry_named (names_of tree) (text_of x) ≡ o
    → of_access (tables_of tree) vs x steps (of_entry (names_of tree) x steps o) ≡ Some c
    → IsCall (tables_of tree) p (may_speak tree) o x steps c
by_entry tree p is formed vs x steps c None found e = absurd cc
by_entry tree p is formed vs x steps c (Some entry) found e = by_query tree p is formed vs x steps c entry (is_query entry.what) refl found e where
  by_query : (tree : List DeclTree) (p : Prog) → IsProgramOf tree p → FormedDecls Lexable tree
      → (vs : Vars) (x : Ident) (steps : StepTrees) (c : Called Ex) (entry : Entry) (query : Bool) → is_query entry.what ≡ query
      → entry_named (names_of tree) (text_of x) ≡ Some entry
      → of_access (tables_of tree) vs x steps (of_entry (names_of tree) x steps (Some entry)) ≡ Some c
      → IsCall (tables_of tree) p (may_speak tree) (Some entry) x steps c
  by_query tree p is formed vs x steps c entry true query found e = query_called tree p is.0 formed vs x steps c entry found query e
  by_query tree p is formed vs x steps c entry false query found e =
      subst (λ o. IsCall (tables_of tree) p (may_speak tree) o x steps c) found
      (call_is tree p is (may_speak tree) vs x steps c
      (subst (λ o. of_access (tables_of tree) vs x steps (of_entry (names_of tree) x steps o) ≡ Some c) (sym found) e)
      (λ other h. subst (λ z. is_query z.what ≡ false) (one (sym found ∙ h)) query))

pub begins : (tree : List DeclTree) → BoolFirst (tables_of tree)
begins tree = (kinds_from (names_of tree) 0 0 tree, refl)

pub tied : (bytes : List ℕ) (tree : List DeclTree) → IsText bytes tree → (p : Prog) → IsProgramOf tree p → Tied (tables_of tree) p (may_speak tree)
tied bytes tree text p is =
    let t = tables_of tree in
    let bools = bools_are t p is.1.cons (begins tree) in
    let marker = tx_is t p.ops is.1.ops in
    record {
      bool = bool_is t (begins tree);
      no_made = bools.0.0;
      no_fields = bools.0.1;
      yes_made = bools.1.0;
      yes_fields = bools.1.1;
      con = con_is t p is.1.cons;
      arm = arm_is t p is.1.cons;
      arm_many = arm_many_is t p is.1.cons;
      tx = marker.0;
      tx_args = marker.1;
      atom = atom_is t p is.1.types;
      cases = cases_are t p (may_speak tree) is.1.cons is.1.types (kinds_differ (bool_kind ∷ kinds_from (names_of tree) 0 0 tree)) (cases_differ tree is.0);
      call = λ vs x steps c e. by_entry tree p is (text_formed bytes tree text) vs x steps c (entry_named (names_of tree) (text_of x)) refl e;
    }
