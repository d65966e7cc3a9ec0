-- Structures that fit the parts of a state: its calls and invocations are elements, and what is said of them holds there.
use Rattle.std.specs.Prelude.{◌+ℤ◌, ◌-ℤ◌, ◌≡◌, ◌<◌, IsTrue, ℕ, Bool, true, ◌&&◌, nat_lt, List, length, Some, slice_get}
use Rattle.rp_lang.specs.Programs.{Prog}
use Rattle.rp_value.specs.Values.{Val}
use Rattle.rp_lang.specs.declared.query.QueryDecl.{QueryDecl}
use Rattle.rp_lang.specs.Typing.{is_get}
use Rattle.crdt_defs.specs.Parts.{Parts, Info, is_committed}
use Rattle.crdt_defs.specs.Fitting.{all_fit}
use Rattle.crdt_defs.specs.Truths.{Reading, asked, ended, Meant, Plain, Operation, Invoked, Running, Ended, EndedWith}
use Rattle.rp_logic.specs.Elements.{Elem, Elems, Point, Whole, Made, no_elem, also_elem}
use Rattle.rp_logic.specs.Structures.{is_elem, apply, is_related, first_number, second_number}
use Rattle.rp_logic.specs.Truth.{Meaning}
use Rattle.crdt_defs.specs.Calls.{Call}
use Rattle.crdt_defs.specs.Histories.{before, same_tx}
use Rattle.rp_symbols.specs.Numbers.{call_sort, inv_sort, atom_sort, before_rel, same_rel, op_fn, origin_fn, info_fn, add_fn, sub_fn, op_con, info_con, outcome_con, unreturned_con}
use Rattle.crdt_enc.specs.Places.{At}
use Rattle.rp_symbols.specs.Numbers.{val_fn}
use Rattle.crdt_enc.specs.Elements.{elem_of, elems_in, elems_of}

-- the element is one of the sort
abbrev pub Is : Meaning → ℕ → Elem → Type 0
Is M sort e = IsTrue (is_elem M.sig M.structure.sizes sort e)

-- the relation holds of the element
abbrev pub holds_of : Meaning → ℕ → Elem → Bool
holds_of M r e = is_related (slice_get M.structure.rels r) (also_elem e no_elem)

-- the relation holds of the two elements
abbrev pub holds_of_two : Meaning → ℕ → Elem → Elem → Bool
holds_of_two M r e d = is_related (slice_get M.structure.rels r) (also_elem e (also_elem d no_elem))

-- the function's value at the element
abbrev pub value_at : Meaning → ℕ → Elem → Elem
value_at M f e = apply (slice_get M.structure.fns f) (also_elem e no_elem)

-- The structure has the calls of the history, and maybe later ones, which aren't in the view.
pub record FitsCalls (p : Prog) (M : Meaning) (h : List Call) : Type 0 where
  pub calls : (c : ℕ) → c < length h → Is M call_sort (Point c)
  pub points : (e : Elem) → Is M call_sort e → (c : ℕ) × (e ≡ Point c)
  pub before : (c d : ℕ) → c < length h → d < length h → holds_of_two M before_rel (Point c) (Point d) ≡ before h c d
  pub ops : (c : ℕ) (call : Call) → slice_get h c ≡ Some call
      → value_at M op_fn (Point c) ≡ Made (op_con p call.op) (elems_of call.args)

-- The relation is the set of visible calls. Later calls aren't visible.
pub record FitsView (M : Meaning) (h : List Call) (view : ℕ) (visible : ℕ → Bool) : Type 0 where
  pub visible_calls : (c : ℕ) → Is M call_sort (Point c) → holds_of M view (Point c) ≡ (visible c && nat_lt c (length h))

-- # All parts

-- the element of what an expression stands for
abbrev pub elem_meant : Prog → Meant → Elem
elem_meant p (Plain v) = elem_of v
elem_meant p (Operation op args) = Made (op_con p op) (elems_in args)
elem_meant p (Invoked proc args) = Made (info_con p proc) (elems_in args)
elem_meant p Running = Made (unreturned_con p) no_elem
elem_meant p (Ended proc) = Made (outcome_con p proc) no_elem
elem_meant p (EndedWith proc v) = Made (outcome_con p proc) (also_elem (elem_of v) no_elem)

-- the function's value at these elements
abbrev pub applied_to : Meaning → ℕ → Elems → Elem
applied_to M f xs = apply (slice_get M.structure.fns f) xs

-- The structure has the calls, the invocations and the atoms of the parts, and maybe later calls and invocations, of
-- which none is committed or exists there.
pub record FitsParts (p : Prog) (M : Meaning) (at : At) (parts : Parts) : Type 0 where
  pub calls : FitsCalls p M parts.calls
  pub committed : (c : ℕ) → Is M call_sort (Point c) → holds_of M at.calls (Point c) ≡ is_committed parts c
  pub invs : (i : ℕ) → i < length parts.infos → Is M inv_sort (Point i)
  pub inv_points : (e : Elem) → Is M inv_sort e → (i : ℕ) × (e ≡ Point i)
  pub existing : (i : ℕ) → Is M inv_sort (Point i) → holds_of M at.invs (Point i) ≡ nat_lt i (length parts.infos)
  pub atoms : (n k : ℕ) → n < length p.types.atoms → k < parts.universe → Is M (atom_sort n) (Point k)
  pub atom_points : (n : ℕ) (e : Elem) → n < length p.types.atoms → Is M (atom_sort n) e
      → (k : ℕ) × (e ≡ Point k) × (k < parts.universe)
  pub same : (c d : ℕ) → c < length parts.calls → d < length parts.calls
      → holds_of_two M same_rel (Point c) (Point d) ≡ same_tx parts.calls c d
  pub origins : (c : ℕ) (call : Call) → slice_get parts.calls c ≡ Some call → value_at M origin_fn (Point c) ≡ Point call.inv
  pub infos : (i : ℕ) (info : Info) → slice_get parts.infos i ≡ Some info
      → value_at M info_fn (Point i) ≡ Made (info_con p info.proc) (elems_of info.args)
  pub results : (i : ℕ) (info : Info) → slice_get parts.infos i ≡ Some info
      → value_at M at.results (Point i) ≡ elem_meant p (ended info.proc info.result)
  pub sums : (xs : Elems) → applied_to M add_fn xs ≡ Whole (first_number xs +ℤ second_number xs)
  pub differences : (xs : Elems) → applied_to M sub_fn xs ≡ Whole (first_number xs -ℤ second_number xs)

-- the `val` functions of the view give what the queries answer there
pub record FitsValues (p : Prog) (M : Meaning) (at : At) (r : Reading) : Type 0 where
  pub asked_is : (n : ℕ) (query : QueryDecl) (args : List Val) → slice_get p.queries n ≡ Some query → is_get query.kind ≡ true
      → all_fit p query.args args ≡ true → applied_to M (val_fn p at.view n) (elems_of args) ≡ elem_of (asked r n args)
