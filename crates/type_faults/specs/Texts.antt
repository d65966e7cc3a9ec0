-- Names that have to differ, and the places inside declarations.
use Rattle.std.specs.Prelude.{◌≡◌, ℕ, ◌+◌, List, [], ◌∷◌, ◌++◌, Option}
use Rattle.rp_grammar.specs.Trees.{Ident, DeclForm, DeclTree}
use Rattle.type_rules.specs.declared.fault.Fault.{Fault}
use Rattle.type_rules.specs.Names.{Name, Names, text_of}
use Rattle.type_rules.specs.Sites.{Site}
use Rattle.type_rules.specs.DeclSites.{named_all, proc_sites}
use Rattle.type_rules.specs.TextSites.{Seen, inner_sites, name_sites, used, used_from, with_decl, with_query}
use Rattle.type_rules.specs.Faults.{first}
use Rattle.type_tables.specs.Counts.{IsCounted}
use Rattle.type_tables.specs.Marks.{IsMarked}
use Rattle.type_tables.specs.Tables.{Entries}
use Rattle.type_terms.specs.Views.{IsTableOf}
use Rattle.type_faults.specs.Walks.{names_at}
use Rattle.type_faults.specs.declared.walk.Walk.{Walk}
use Rattle.type_faults.specs.declared.names.Seen as code_seen

-- # Names

-- these names with those before
abbrev pub seen_with : List Name → List Ident → List Name
seen_with before [] = before
seen_with before (x ∷ xs) = seen_with (text_of x ∷ before) xs

-- the first fault of these names behind others, and a table that has them all
pub record Differ (n : Names) (table : Entries) (before : List Name) (fault : Option Fault) (own : List Ident) : Type 0 where
  pub fault_is : fault ≡ first n (named_all before own)
  pub table_is : IsTableOf table (seen_with before own)

-- the tables have just these names
pub record AreSeen (tables : code_seen.Seen) (seen : Seen) : Type 0 where
  pub types : IsTableOf tables.types seen.types
  pub others : IsTableOf tables.others seen.others
  pub invariants : IsTableOf tables.invariants seen.invariants

-- the first fault of a declaration's names, and tables that have them too
pub record AreNamed (n : Names) (tables : code_seen.Seen) (seen : Seen) (fault : Option Fault) (form : DeclForm) : Type 0 where
  pub fault_is : fault ≡ first n (name_sites seen form)
  pub tables_are : AreSeen tables (with_decl seen form)

-- the names of these declarations
abbrev pub named_from : Seen → List DeclTree → List Site
named_from seen [] = []
named_from seen (DeclTree.node at form ∷ ds) = name_sites seen form ++ named_from (with_decl seen form) ds

-- # Inside declarations

-- what stands inside the declarations from number k on
abbrev pub inner_from : Names → ℕ → List DeclTree → List Site
inner_from n k [] = []
inner_from n k (DeclTree.node at form ∷ ds) = inner_sites n k (used_from n (k + 1) ds) form ++ inner_from n (k + 1) ds

-- the queries that procedures use from the declaration of this number on
abbrev pub used_with : Names → ℕ → DeclForm → List ℕ → List ℕ
used_with n k (DeclForm.query q) behind = with_query n k q behind
used_with n k (DeclForm.proc p) behind = used n (proc_sites n k p) ++ behind
used_with n k (DeclForm.id_type x) behind = behind
used_with n k (DeclForm.opaque x) behind = behind
used_with n k (DeclForm.datatype x cons) behind = behind
used_with n k (DeclForm.crdt x c) behind = behind
used_with n k (DeclForm.invariant x e) behind = behind

-- The walk has found the first fault inside a declaration, behind which procedures use these queries, and marked those that it uses.
pub record Enters (behind : List ℕ) (k : ℕ) (old new : Walk) (fault : Option Fault) (form : DeclForm) : Type 0 where
  pub fault_is : fault ≡ first (names_at old) (inner_sites (names_at old) k behind form)
  pub marked : IsMarked new.used (used_with (names_at old) k form behind)
  pub names : names_at new ≡ names_at old
  pub counted : IsCounted new.later []
