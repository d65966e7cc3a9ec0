-- What the declarations of a text declare, and what the expressions in it pass.
use Rattle.std.specs.Prelude.{◌≡◌, ℕ, ◌+◌, Bool, true, false, ◌||◌, List, [], ◌++◌, map, length, Some}
use Rattle.std.specs.List.{list_any}
use Rattle.rp_grammar.specs.Trees.{DeclTree}
use Rattle.rp_lang.specs.Programs.{Inv, Proc}
use Rattle.rp_lang.specs.Sizes.{sts_count}
use Rattle.rp_lang.specs.Views.{inv_view, proc_view}
use Rattle.desugaring.specs.Limits.{Test}
use Rattle.desugaring.specs.Parts.{each}
use Rattle.desugaring.specs.Programs.{invs_from, procs_from}
use Rattle.lower_exprs.specs.Making.{AreMeasuredIn}
use Rattle.lower_exprs.specs.declared.values.Work.{Work}
use Rattle.lower_procs.specs.Whole.{IsPassedBy, inv_in, inv_passing, is_large_in, proc_in, proc_passing}
use Rattle.resolve.specs.declared.decls.Declared.{Declared}

-- some expression of these passes a test
abbrev pub some_passes : Test → List Inv → List Proc → Bool
some_passes test invs procs = list_any (λ inv. inv_passing inv test) invs || list_any (λ proc. proc_passing proc test) procs

abbrev pub counts : List Proc → List ℕ
counts procs = map (λ p. sts_count p.body) procs

abbrev pub nothing : Declared
nothing = record { invs = []; procs = []; passed = record { depth = 0; binders = 0 } }

-- These invariants and procedures were added where all is built, and else as many, with as many statements.
pub record Adds (w : Work) (old : Declared) (invs : List Inv) (procs : List Proc) (new : Declared) : Type 0 where
  pub inv_count : length new.invs ≡ length old.invs + length invs
  pub proc_counts : counts (map proc_view new.procs) ≡ counts (map proc_view old.procs) ++ counts procs
  pub passed : IsPassedBy w old.passed (λ test. some_passes test invs procs) new.passed
  pub small : w.building ≡ true → some_passes (is_large_in w.cons.now) invs procs ≡ false
  pub invs_are : w.building ≡ true → map inv_view new.invs ≡ map inv_view old.invs ++ invs
  pub procs_are : w.building ≡ true → map proc_view new.procs ≡ map proc_view old.procs ++ procs

-- what declarations become by the bodies of the queries, those from declaration k and invariant `number` on
pub record Become (w : Work) (k number : ℕ) (tree : List DeclTree) (invs : List Inv) (procs : List Proc) : Type 0 where
  pub measured : AreMeasuredIn w
  pub invs_are : each (inv_in w) (invs_from k number tree) ≡ Some invs
  pub procs_are : each (proc_in w) (procs_from k tree) ≡ Some procs

abbrev pub AreWanted : Work → List DeclTree → List Inv → List Proc → Type 0
AreWanted w tree invs procs = Become w 0 1 tree invs procs

-- what these declarations become was added
pub record Declares (w : Work) (old : Declared) (tree : List DeclTree) (new : Declared) : Type 0 where
  pub adds : (k : ℕ) (invs : List Inv) (procs : List Proc) → Become w k (length old.invs + 1) tree invs procs
      → Adds w old invs procs new

-- some expression in what they become is past a limit on one expression
pub record IsTooLarge (w : Work) (old : Declared) (tree : List DeclTree) : Type 0 where
  pub past : (k : ℕ) (invs : List Inv) (procs : List Proc) → Become w k (length old.invs + 1) tree invs procs
      → some_passes (is_large_in w.cons.now) invs procs ≡ true
