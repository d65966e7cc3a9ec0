-- Where a walk stands, what it finds from there, and where it comes.
use Rattle.std.specs.Prelude.{◌≡◌, ℕ, ◌+◌, ◌-◌, Bool, false, not, List, [], ◌∷◌, ◌++◌, Option, Some, None}
use Rattle.std.specs.List.{count_by}
use Rattle.rp_grammar.specs.Trees.{AccessTree, BlockArmTree, ExprTree, ExprForm, StmtTree, StmtForm}
use Rattle.type_rules.specs.declared.kind.Kind.{Kind}
use Rattle.type_rules.specs.declared.fault.Fault.{Fault}
use Rattle.type_rules.specs.Names.{Name, Names, same_name, text_of}
use Rattle.type_rules.specs.Sites.{Scope, Site}
use Rattle.type_rules.specs.Flow.{Sight, in_pattern}
use Rattle.type_rules.specs.ExprSites.{pattern_sites}
use Rattle.type_rules.specs.StmtSites.{Frame, block_sites}
use Rattle.type_rules.specs.Faults.{first, sooner}
use Rattle.type_rules.specs.TextSites.{used}
use Rattle.type_tables.specs.Counts.{IsCounted, count_in}
use Rattle.type_tables.specs.Flags.{flag_at}
use Rattle.type_tables.specs.Marks.{with_marks}
use Rattle.text_names.specs.Declarations.{names_view}
use Rattle.type_faults.specs.declared.walk.Walk.{Walk}
use Rattle.type_faults.specs.declared.stmts.Frame as code_frame

-- # Where a walk stands

pub record Stand : Type 0 where
  pub names : Names
  -- the number of the declaration
  pub decl : ℕ
  -- the words on calls and invocations may stand here
  pub words : Bool
  pub sight : Sight

abbrev pub names_at : Walk → Names
names_at w = names_view w.names.now

abbrev pub sight_of : Walk → Sight
sight_of w = record { vars = w.vars; live = w.live }

abbrev pub stand_of : Walk → Stand
stand_of w = record { names = names_at w; decl = w.decl; words = w.words; sight = sight_of w }

-- with this in sight
abbrev pub seeing : Stand → Sight → Stand
seeing p g = record p { sight = g }

-- what an expression is read with, where these names are declared later
abbrev pub scope_at : List Name → Stand → Scope
scope_at later p = record { vars = p.sight.vars; later = later; decl = p.decl; words = p.words }

-- the same where the words on calls and invocations mayn't stand
abbrev pub quiet_at : List Name → Stand → Scope
quiet_at later p = record { vars = p.sight.vars; later = later; decl = p.decl; words = false }

-- what a statement is read with
abbrev pub frame_at : List Name → code_frame.Frame → Stand → Frame
frame_at later f p = record { decl = p.decl; result = f.result; inside_atomic = f.inside_atomic; later = later }

-- # What it does

-- The walk has found the first fault of these places, and marked the queries that are used there. Now this is in sight, and these
-- names are declared later.
pub record Walks (later : List Name) (old new : Walk) (fault : Option Fault) (sites : Stand → List Site) (to : Stand → Sight) : Type 0 where
  pub fault_is : fault ≡ first (names_at old) (sites (stand_of old))
  pub marks : flag_at new.used ≡ with_marks (not old.words) (used (names_at old) (sites (stand_of old))) (flag_at old.used)
  pub stands : stand_of new ≡ seeing (stand_of old) (to (stand_of old))
  pub counted : IsCounted new.later later

-- The same, and the fault is the first of its own and another.
pub record Follows (later : List Name) (old new : Walk) (best fault : Option Fault) (sites : Stand → List Site) (to : Stand → Sight) : Type 0 where
  pub own : Option Fault
  pub walks : Walks later old new own sites to
  pub fault_is : fault ≡ sooner best own

-- All but what is in sight is as before.
pub record Turns (old new : Walk) (to : Stand → Sight) : Type 0 where
  pub stands : stand_of new ≡ seeing (stand_of old) (to (stand_of old))
  pub later : new.later ≡ old.later
  pub used : new.used ≡ old.used

-- These queries are marked, where marks are made, and all else is as before.
pub record Marks (old new : Walk) (numbers : List ℕ) : Type 0 where
  pub marked : flag_at new.used ≡ with_marks (not old.words) numbers (flag_at old.used)
  pub stands : stand_of new ≡ stand_of old
  pub later : new.later ≡ old.later

-- # Variables that are declared later

-- the variable that a statement itself declares
abbrev pub own_names : StmtTree → List Name
own_names (StmtTree.node at (StmtForm.var x t e)) = text_of x ∷ []
own_names (StmtTree.node at form) = []

-- the names are declared later once more each
pub record Raises (old new : Walk) (names : List Name) : Type 0 where
  pub counts : (x : Name) → count_in new.later x ≡ count_in old.later x + count_by (same_name x) names
  pub stands : stand_of new ≡ stand_of old
  pub used : new.used ≡ old.used

-- once less
pub record Lowers (old new : Walk) (names : List Name) : Type 0 where
  pub counts : (x : Name) → count_in new.later x ≡ count_in old.later x - count_by (same_name x) names
  pub stands : stand_of new ≡ stand_of old
  pub used : new.used ≡ old.used

abbrev pub listed : Option Name → List Name
listed None = []
listed (Some x) = x ∷ []

-- # Queries that are used

abbrev pub numbered : Option ℕ → List ℕ
numbered None = []
numbered (Some k) = k ∷ []

-- the access that an expression is
abbrev pub accessed_in : ExprTree → Option AccessTree
accessed_in (ExprTree.node at (ExprForm.access a)) = Some a
accessed_in (ExprTree.node at form) = None

-- # Arms

-- the places of one arm
abbrev pub arm_own_sites : Names → Frame → Sight → Kind → List Name → BlockArmTree → List Site
arm_own_sites n f g k before (BlockArmTree.arm p b) = pattern_sites n g.vars k before p ++ block_sites n f (in_pattern n g k p) b
