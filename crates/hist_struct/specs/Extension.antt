-- When one structure extends to another: there are more calls and invocations, none of the invocation that acts, and what that
-- one may speak of stays.
use Rattle.std.specs.Prelude.{◌≡◌, ◌<◌, ◌≤◌, ◌⊎◌, IsTrue, ℕ, Bool, true, false, List, [], map, Some, slice_get}
use Rattle.rp_lang.specs.declared.query.QueryDecl.{QueryDecl}
use Rattle.rp_lang.specs.Typing.{is_get}
use Rattle.rp_lang.specs.Programs.{Prog}
use Rattle.rp_logic.specs.Elements.{Elem, Elems, also_elem, no_elem, same_elem}
use Rattle.rp_logic.specs.Formulas.{Fm}
use Rattle.rp_logic.specs.Signatures.{Signature}
use Rattle.rp_logic.specs.Structures.{Structure, Is, are_elems, apply, is_related, default_of, selected_at, own_consts}
use Rattle.rp_logic.specs.Truth.{Holds, meaning}
use Rattle.rp_symbols.specs.Numbers.{call_sort, inv_sort, self_const, before_rel, stamp_rel, same_rel, seen_rel, read_rel, added_rel, op_fn, origin_fn, info_fn, add_fn, sub_fn, val_fn}
use Rattle.rp_symbols.specs.Signatures.{sort_of}

-- what is seen or read from a begin on, or read after a further own call
abbrev pub IsOwnSet : Prog → ℕ → ℕ → ℕ → Type 0
IsOwnSet p begins reads r =
    ((k : ℕ) × (k < begins) × (r ≡ seen_rel p k)) ⊎ ((k : ℕ) × (k < begins) × (r ≡ read_rel p k)) ⊎ ((j : ℕ) × (j < reads) × (r ≡ added_rel p begins j))

abbrev pub in_set : Structure → ℕ → Elem → Bool
in_set M r e = is_related (slice_get M.rels r) (also_elem e no_elem)

abbrev pub are_related : Structure → ℕ → Elem → Elem → Bool
are_related M r c d = is_related (slice_get M.rels r) (also_elem c (also_elem d no_elem))

abbrev pub at_one : Structure → ℕ → Elem → Elem
at_one M f e = apply (slice_get M.fns f) (also_elem e no_elem)

-- the relation is the same of any two calls of M
abbrev pub SamePairs : Signature → Structure → Structure → ℕ → Type 0
SamePairs S M N r = (c d : Elem) → Is S M call_sort c → Is S M call_sort d → are_related M r c d ≡ are_related N r c d

-- the function is the same at each element of the sort in M
abbrev pub SameAt : Signature → Structure → Structure → ℕ → ℕ → Type 0
SameAt S M N s f = (e : Elem) → Is S M s e → at_one M f e ≡ at_one N f e

-- With so many begins and so many reading sets that a path adds, and these facts of what is private.
pub record Extends (p : Prog) (begins reads : ℕ) (S : Signature) (privacy : List Fm) (M N : Structure) : Type 0 where
  -- each element stays, and only calls and invocations come
  pub stays : (s : ℕ) (e : Elem) → Is S M s e → Is S N s e
  pub others : (s : ℕ) (e : Elem) → 2 ≤ s → Is S N s e → Is S M s e
  pub consts : (c : ℕ) → own_consts M c ≡ own_consts N c
  pub defaults : (s : ℕ) (e : Elem) → Is S M s e → default_of M s ≡ default_of N s
  pub selectors : (con i : ℕ) → selected_at M.selected con i ≡ selected_at N.selected con i
  pub sums : (xs : Elems) → apply (slice_get M.fns add_fn) xs ≡ apply (slice_get N.fns add_fn) xs
  pub differences : (xs : Elems) → apply (slice_get M.fns sub_fn) xs ≡ apply (slice_get N.fns sub_fn) xs
  -- what is seen and read is the same set, and queries give the same there
  pub sets : (r : ℕ) → IsOwnSet p begins reads r → (e : Elem) → in_set M r e ≡ in_set N r e
  pub values : (r : ℕ) → IsOwnSet p begins reads r → (n : ℕ) (query : QueryDecl) → slice_get p.queries n ≡ Some query → is_get query.kind ≡ true
      → (xs : Elems) → IsTrue (are_elems S M.sizes (map (sort_of p) query.args) xs)
      → apply (slice_get M.fns (val_fn p r n)) xs ≡ apply (slice_get N.fns (val_fn p r n)) xs
  pub before : SamePairs S M N before_rel
  pub stamps : SamePairs S M N stamp_rel
  pub same : SamePairs S M N same_rel
  pub ops : SameAt S M N call_sort op_fn
  pub origins : SameAt S M N call_sort origin_fn
  pub infos : SameAt S M N inv_sort info_fn
  -- a call that came isn't of the invocation that acts, and is before no call that was there
  pub foreign : (c : Elem) → Is S N call_sort c → (Is S M call_sort c → ⊥) → same_elem (at_one N origin_fn c) (own_consts N self_const) ≡ false
  pub later : (c d : Elem) → Is S N call_sort c → (Is S M call_sort c → ⊥) → Is S M call_sort d → are_related N before_rel c d ≡ false
  pub private : (n : ℕ) (f : Fm) → slice_get privacy n ≡ Some f → Holds (meaning S M) [] f → Holds (meaning S N) [] f
