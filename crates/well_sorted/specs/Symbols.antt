-- What encoded formulas ask of a signature: the symbols of a program, and those of the place where a formula is meant.
use Rattle.std.specs.Prelude.{◌≡◌, IsTrue, ℕ, Bool, true, List, [], ◌∷◌, map, Some, slice_get}
use Rattle.rp_value.specs.declared.tables.Ty.{Ty}
use Rattle.rp_lang.specs.declared.query.QueryDecl.{QueryDecl}
use Rattle.rp_lang.specs.Typing.{Frame, slot_ty, is_get}
use Rattle.rp_lang.specs.Types.{is_ordinary}
use Rattle.rp_lang.specs.Programs.{Prog}
use Rattle.rp_logic.specs.declared.sort.NewConst.{NewConst}
use Rattle.rp_logic.specs.Signatures.{Signature, is_signature}
use Rattle.rp_logic.specs.Sorted.{has_sort}
use Rattle.rp_logic.specs.Terms.{Tm}
use Rattle.rp_symbols.specs.Numbers.{call_sort, inv_sort, int_sort, op_sort, info_sort, outcome_sort, before_rel, same_rel, op_fn, origin_fn, info_fn, add_fn, sub_fn, val_fn}
use Rattle.rp_symbols.specs.Signatures.{sort_of, sorts_of, con_decls, set_decl, fn_of}
use Rattle.crdt_enc.specs.Places.{At}
use Rattle.crdt_enc.specs.FormulaFormulas.{Around, or_false_tm}

-- it keeps what a signature keeps
abbrev pub is_kept : Signature → Bool
is_kept S = is_signature S.sorts S.consts S.fns S.rels S.cons

-- The signature has the sorts and constructors of the program, what is before what, which calls are of one transaction, what
-- calls and invocations are, and the sum and the difference.
pub record HasSymbols (p : Prog) (S : Signature) : Type 0 where
  pub sorts : S.sorts ≡ sorts_of p
  pub cons : S.cons ≡ con_decls p
  pub before : slice_get S.rels before_rel ≡ Some (call_sort ∷ call_sort ∷ [])
  pub same : slice_get S.rels same_rel ≡ Some (call_sort ∷ call_sort ∷ [])
  pub op : slice_get S.fns op_fn ≡ Some (fn_of (call_sort ∷ []) (op_sort p))
  pub origin : slice_get S.fns origin_fn ≡ Some (fn_of (call_sort ∷ []) inv_sort)
  pub info : slice_get S.fns info_fn ≡ Some (fn_of (inv_sort ∷ []) (info_sort p))
  pub add : slice_get S.fns add_fn ≡ Some (fn_of (int_sort p ∷ int_sort p ∷ []) (int_sort p))
  pub sub : slice_get S.fns sub_fn ≡ Some (fn_of (int_sort p ∷ int_sort p ∷ []) (int_sort p))

-- The place's snapshot and committed calls are sets of calls, those that exist a set of invocations, results are outcomes, and
-- each query that gives a value has its function there.
pub record HasPlace (p : Prog) (S : Signature) (at : At) : Type 0 where
  pub view : slice_get S.rels at.view ≡ Some set_decl
  pub calls : slice_get S.rels at.calls ≡ Some set_decl
  pub invs : slice_get S.rels at.invs ≡ Some (inv_sort ∷ [])
  pub results : slice_get S.fns at.results ≡ Some (fn_of (inv_sort ∷ []) (outcome_sort p))
  pub vals : (n : ℕ) (query : QueryDecl) → slice_get p.queries n ≡ Some query → is_get query.kind ≡ true
      → slice_get S.fns (val_fn p at.view n) ≡ Some (fn_of (map (sort_of p) query.args) (sort_of p query.result))

-- the slots that have a value are of types of data, and their terms are closed and of the types' sorts
abbrev pub SlotsSorted : Prog → Signature → List NewConst → Frame → List Tm → Type 0
SlotsSorted p S added frame slots =
    (s : ℕ) (t : Ty) → slot_ty frame s ≡ Some t
    → IsTrue (is_ordinary p.types t) × IsTrue (has_sort S added [] (sort_of p t) (or_false_tm (slice_get slots s)))

-- what a procedure evaluates stands under no quantifier
abbrev pub with_slots : List Tm → Around
with_slots slots = record { slots = slots; bounds = [] }
