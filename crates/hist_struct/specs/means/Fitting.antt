-- A structure that fits the parts of a state, in two halves: all but atoms, and atoms.
use Rattle.std.specs.Prelude.{◌+ℤ◌, ◌-ℤ◌, ◌≡◌, ◌<◌, ℕ, nat_lt, length, Some, slice_get}
use Rattle.rp_lang.specs.Programs.{Prog}
use Rattle.crdt_defs.specs.Parts.{Parts, Info, is_committed}
use Rattle.crdt_defs.specs.Truths.{ended}
use Rattle.crdt_defs.specs.Calls.{Call}
use Rattle.crdt_defs.specs.Histories.{same_tx}
use Rattle.rp_logic.specs.Elements.{Elem, Elems, Point, Whole, Made}
use Rattle.rp_logic.specs.Structures.{first_number, second_number}
use Rattle.rp_logic.specs.Truth.{Meaning}
use Rattle.rp_symbols.specs.Numbers.{call_sort, inv_sort, atom_sort, same_rel, origin_fn, info_fn, add_fn, sub_fn, info_con}
use Rattle.crdt_enc.specs.Places.{At}
use Rattle.crdt_enc.specs.Elements.{elems_of}
use Rattle.crdt_enc.specs.FitsParts.{FitsCalls, Is, holds_of, holds_of_two, value_at, elem_meant, applied_to}

-- all but the sorts of atoms
pub record FitsMost (p : Prog) (M : Meaning) (at : At) (parts : Parts) : Type 0 where
  pub calls : FitsCalls p M parts.calls
  pub committed : (c : ℕ) → Is M call_sort (Point c) → holds_of M at.calls (Point c) ≡ is_committed parts c
  pub invs : (i : ℕ) → i < length parts.infos → Is M inv_sort (Point i)
  pub inv_points : (e : Elem) → Is M inv_sort e → (i : ℕ) × (e ≡ Point i)
  pub existing : (i : ℕ) → Is M inv_sort (Point i) → holds_of M at.invs (Point i) ≡ nat_lt i (length parts.infos)
  pub same : (c d : ℕ) → c < length parts.calls → d < length parts.calls → holds_of_two M same_rel (Point c) (Point d) ≡ same_tx parts.calls c d
  pub origins : (c : ℕ) (call : Call) → slice_get parts.calls c ≡ Some call → value_at M origin_fn (Point c) ≡ Point call.inv
  pub infos : (i : ℕ) (info : Info) → slice_get parts.infos i ≡ Some info → value_at M info_fn (Point i) ≡ Made (info_con p info.proc) (elems_of info.args)
  pub results : (i : ℕ) (info : Info) → slice_get parts.infos i ≡ Some info → value_at M at.results (Point i) ≡ elem_meant p (ended info.proc info.result)
  pub sums : (xs : Elems) → applied_to M add_fn xs ≡ Whole (first_number xs +ℤ second_number xs)
  pub differences : (xs : Elems) → applied_to M sub_fn xs ≡ Whole (first_number xs -ℤ second_number xs)

-- the sorts of atoms have the universe's numbers
pub record FitsAtoms (p : Prog) (M : Meaning) (universe : ℕ) : Type 0 where
  pub atoms : (n k : ℕ) → n < length p.types.atoms → k < universe → Is M (atom_sort n) (Point k)
  pub atom_points : (n : ℕ) (e : Elem) → n < length p.types.atoms → Is M (atom_sort n) e → (k : ℕ) × (e ≡ Point k) × (k < universe)
