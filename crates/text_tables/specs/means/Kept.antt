-- What the code keeps of the tables of a text.
use Rattle.std.specs.Prelude.{◌≡◌, ◌≤◌, ◌<◌, ℕ, true, List, length, map, Option, Some, None, filter_map, slice_get}
use Rattle.rp_grammar.specs.Trees.{CrdtTree, DeclForm, DeclTree, ProcTree}
use Rattle.type_rules.specs.Names.{Names}
use Rattle.type_tables.specs.Tables.{Entries, IsIndexOf}
use Rattle.desugaring.specs.Objects.{roots_of}
use Rattle.desugaring.specs.Tables.{atom_number, proc_in, proc_name}
use Rattle.text_tables.specs.declared.object.Object.{Object}
use Rattle.text_tables.specs.means.Counted.{many_of, objects_of}

abbrev pub procs_of : Names → List ProcTree
procs_of n = filter_map (λ entry. proc_in entry.what) n.entries

abbrev pub proc_of : DeclTree → Option ProcTree
proc_of (DeclTree.node at (DeclForm.proc p)) = Some p
proc_of (DeclTree.node at (DeclForm.id_type x)) = None
proc_of (DeclTree.node at (DeclForm.opaque x)) = None
proc_of (DeclTree.node at (DeclForm.datatype x cons)) = None
proc_of (DeclTree.node at (DeclForm.crdt x c)) = None
proc_of (DeclTree.node at (DeclForm.query q)) = None
proc_of (DeclTree.node at (DeclForm.invariant x e)) = None

-- the procedures that declarations declare
abbrev pub procs_in : List DeclTree → List ProcTree
procs_in ds = filter_map proc_of ds

-- of each type, and of the end, how many id types and opaque types are declared before it
abbrev pub AreAtoms : Names → List ℕ → Type 0
AreAtoms n numbers = (k : ℕ) → k ≤ length n.types → slice_get numbers k ≡ Some (atom_number n k)

-- the numbers of procedures by their names
pub record AreProcs (procs : List ProcTree) (numbers : Entries) (count : ℕ) : Type 0 where
  pub found : IsIndexOf numbers (map proc_name procs)
  pub many : count ≡ length procs

-- Each number stands once, and all are below the end.
pub record AreOnce (starts : List ℕ) (end : ℕ) : Type 0 where
  pub below : (i x : ℕ) → slice_get starts i ≡ Some x → x < end
  pub once : (i j x : ℕ) → slice_get starts i ≡ Some x → slice_get starts j ≡ Some x → i ≡ j

-- objects are found by the bytes at which they begin
pub record AreFound (starts : List ℕ) (end : ℕ) (objects : List Object) : Type 0 where
  pub are : starts ≡ map (λ o. o.from) objects
  pub once : AreOnce starts end

-- the replicated types of the roots
abbrev pub crdts_of : Names → List CrdtTree
crdts_of n = map (λ root. root.crdt) (roots_of n)

-- the objects of these types, of which there are so many, with so many operations
pub record AreObjects (crdts : List CrdtTree) (objects : List Object) (ops roots : ℕ) : Type 0 where
  pub are : objects ≡ objects_of 0 0 crdts
  pub ops_are : ops ≡ many_of true crdts
  pub roots_are : roots ≡ length crdts

pub record AreTables (n : Names) (atoms : List ℕ) (procs : Entries) (proc_count : ℕ) (objects : List Object)
    (ops roots : ℕ) : Type 0 where
  pub atoms_are : AreAtoms n atoms
  pub procs_are : AreProcs (procs_of n) procs proc_count
  pub objects_are : AreObjects (crdts_of n) objects ops roots
