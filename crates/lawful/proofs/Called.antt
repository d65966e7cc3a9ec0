-- What an access calls is typed as it is asked, unless it uses a query of the text.
use Rattle.std.proofs.Common.{◌≡◌, ℕ, Bool, true, false, List, Option, Some, None, refl}
use Rattle.std.specs.Prelude.{slice_get}
use Rattle.rp_grammar.specs.Trees.{Ident, StepTrees, DeclTree}
use Rattle.rp_lang.specs.Exprs.{Ex}
use Rattle.rp_lang.specs.Programs.{Prog}
use Rattle.type_rules.specs.Names.{Name, Entry, Declared, same_name, text_of, entry_named}
use Rattle.type_rules.specs.Accesses.{of_entry}
use Rattle.type_rules.specs.Queries.{names_of}
use Rattle.type_rules.specs.Rules.{is_query}
use Rattle.desugaring.specs.Tables.{tables_of}
use Rattle.desugaring.specs.Callees.{Vars, Called, of_access}
use Rattle.desugaring.specs.Programs.{IsProgramOf}
use Rattle.lawful.specs.Typed.{IsCall}
use Rattle.lawful.proofs.Distinct.{at_place}
use Rattle.lawful.proofs.Places.{cases_differ}
use Rattle.lawful.proofs.Entries.{entry_there, con_entries, IsConIn}
use Rattle.lawful.proofs.Constructors.{entry_of, con_called, proc_called}
use Rattle.lawful.proofs.RootCalled.{root_called}

by_what : (tree : List DeclTree) (p : Prog) → IsProgramOf tree p → (words : ℕ → Bool) (vs : Vars) (x : Ident) (steps : StepTrees) (i : ℕ)
    (name : Name) (decl : ℕ) (what : Declared) → slice_get (names_of tree).entries i ≡ Some (entry_of name decl what) → same_name name (text_of x) ≡ true
    → is_query what ≡ false → (c : Called Ex) → of_access (tables_of tree) vs x steps (of_entry (names_of tree) x steps (Some (entry_of name decl what))) ≡ Some c
    → IsCall (tables_of tree) p words (Some (entry_of name decl what)) x steps c
by_what tree p is words vs x steps i name decl (Declared.root crdt) there named other c e =
    root_called tree p words is.0 is.1.ops is.1.queries vs x steps i name decl crdt there named c e
by_what tree p is words vs x steps i name decl (Declared.query q) there named other c e = absurd cc
by_what tree p is words vs x steps i name decl (Declared.proc q) there named other c e =
    proc_called tree p words is.0 is.1.procs vs x steps i name decl q there c e
by_what tree p is words vs x steps i name decl (Declared.con type made) there named other c e =
    con_called (tables_of tree) p words is.1.cons (cases_differ tree is.0) vs x steps name decl type made
    (at_place (IsConIn (names_of tree).types) (names_of tree).entries i _ (con_entries tree) there) c e

by_entry : (tree : List DeclTree) (p : Prog) → IsProgramOf tree p → (words : ℕ → Bool) (vs : Vars) (x : Ident) (steps : StepTrees) (c : Called Ex)
    → (o : Option Entry) → entry_named (names_of tree) (text_of x) ≡ o → of_access (tables_of tree) vs x steps (of_entry (names_of tree) x steps o) ≡ Some c
    → ((e : Entry) → o ≡ Some e → is_query e.what ≡ false) → IsCall (tables_of tree) p words o x steps c
by_entry tree p is words vs x steps c None found e other = absurd cc
by_entry tree p is words vs x steps c (Some entry) found e other =
    let s = entry_there (names_of tree).entries (text_of x) entry found in
    by_what tree p is words vs x steps s.place entry.name entry.decl entry.what s.there s.named (other entry refl) c e

pub call_is : (tree : List DeclTree) (p : Prog) → IsProgramOf tree p → (words : ℕ → Bool) (vs : Vars) (x : Ident) (steps : StepTrees) (c : Called Ex)
    → of_access (tables_of tree) vs x steps (of_entry (names_of tree) x steps (entry_named (names_of tree) (text_of x))) ≡ Some c
    → ((e : Entry) → entry_named (names_of tree) (text_of x) ≡ Some e → is_query e.what ≡ false)
    → IsCall (tables_of tree) p words (entry_named (names_of tree) (text_of x)) x steps c
call_is tree p is words vs x steps c e other = by_entry tree p is words vs x steps c (entry_named (names_of tree) (text_of x)) refl e other
