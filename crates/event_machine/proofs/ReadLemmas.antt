-- The identifiers and opaque values inside what an expression of a procedure gives stand in its slots, or in a call that
-- it sees.
use Rattle.std.proofs.Common.{◌≡◌, ℕ, zero, suc, Bool, true, false, List, [], ◌∷◌, ◌++◌, refl, ap, sym, ◌∙◌, slice_get, ◌⊎◌, inl, inr, true≢false}
use Rattle.std.specs.List.{list_any}
use Rattle.std.specs.declared.option.Option.{Option}
use Rattle.std.specs.declared.option.Option.TheVariants.{None, Some}
use Rattle.std.proofs.lemmas.Option.{none-some, same_Some}
use Rattle.std.proofs.lemmas.List.Folds.{list_any-append}
use Rattle.rp_value.specs.Values.{Val, Vals, no_val, also_val}
use Rattle.rp_lang.specs.Exprs.{Ex, Exs, Slot, Con, Query, OriginOf, no_ex, also_ex}
use Rattle.rp_lang.specs.declared.op.OpDecl.{OpDecl}
use Rattle.crdt_defs.specs.Calls.{Call}
use Rattle.crdt_defs.specs.Doing.{own_of, own_argument, keys_in}
use Rattle.crdt_defs.specs.SameValues.{same_val}
use Rattle.crdt_defs.specs.Truths.{Reading, truth_val, slot_value, or_false, list_of, asked, origin_of, call_at, value, values}
use Rattle.crdt_defs.proofs.AskedLemmas.{asked_is}
use Rattle.event_machine.specs.Fitting.{atoms, all_atoms, atoms_in_fields}
use Rattle.event_machine.specs.WellFormed.{At, In, Inside, StandsIn, InSlots}
use Rattle.event_machine.proofs.PlaceLemmas.{or-cases, or-left, or-right}

pub any-append : (x : Val) (a b : List Val) → list_any (same_val x) (a ++ b) ≡ true → (list_any (same_val x) a ≡ true) ⊎ (list_any (same_val x) b ≡ true)
any-append x a b h = or-cases (list_any (same_val x) a) (list_any (same_val x) b) (sym (list_any-append (same_val x) a b) ∙ h)

pub any-left : (x : Val) (a b : List Val) → list_any (same_val x) a ≡ true → list_any (same_val x) (a ++ b) ≡ true
any-left x a b h = list_any-append (same_val x) a b ∙ or-left (list_any (same_val x) a) (list_any (same_val x) b) h

pub any-right : (x : Val) (a b : List Val) → list_any (same_val x) b ≡ true → list_any (same_val x) (a ++ b) ≡ true
any-right x a b h = list_any-append (same_val x) a b ∙ or-right (list_any (same_val x) a) (list_any (same_val x) b) h

-- what stands in one of some values stands in them
pub inside-at : (x : Val) (vs : List Val) (k : ℕ) (v : Val) → At vs k v → StandsIn x v → Inside x vs
inside-at x [] k v a h = absurd (none-some v a)
inside-at x (w ∷ vs) zero v a h = any-left x (atoms w) (all_atoms vs) (ap (λ v. list_any (same_val x) (atoms v)) (same_Some w v a) ∙ h)
inside-at x (w ∷ vs) (suc k) v a h = any-right x (atoms w) (all_atoms vs) (inside-at x vs k v a h)

pub inside-found : (x : Val) (vs : List Val) → Inside x vs → (k : ℕ) × (v : Val) × At vs k v × StandsIn x v
inside-found x [] h = absurd (true≢false (sym h))
inside-found x (v ∷ vs) h = elim (any-append x (atoms v) (all_atoms vs) h) [
  | inl here ↦ (zero, v, refl, here)
  | inr later ↦ let f = inside-found x vs later in (suc f.0, f.1, f.2, f.3)
]

-- # Expressions

-- it stands in a slot, or in a visible call
abbrev pub From : Reading → Val → Type 0
From r x = InSlots x r.slots ⊎ ((c : ℕ) × (call : Call) × At r.parts.calls c call × In c r.visible × Inside x call.args)

slot-from : (x : Val) (slots : List (Option Val)) (s : ℕ) → StandsIn x (slot_value (slice_get slots s)) → InSlots x slots
slot-from x slots s h = go (slice_get slots s) refl h
  where
    go : (o : Option (Option Val)) → slice_get slots s ≡ o → StandsIn x (slot_value o) → InSlots x slots
    go None is h = absurd (true≢false (sym h))
    go (Some None) is h = absurd (true≢false (sym h))
    go (Some (Some v)) is h = (s, v, is, h)

no_origin : (x : Val) (o : Option Call) → StandsIn x (origin_of o) → ⊥
no_origin x None h = true≢false (sym h)
no_origin x (Some call) h = true≢false (sym h)

no_truth : (x : Val) (b : Bool) → StandsIn x (truth_val b) → ⊥
no_truth x true h = true≢false (sym h)
no_truth x false h = true≢false (sym h)

own-inside : (x : Val) (ops : List OpDecl) (call : Call) → StandsIn x (or_false (own_argument ops (Some call))) → Inside x call.args
own-inside x ops call h = by_op (slice_get ops call.op) h
  where
    by_arg : (k : ℕ) (o : Option Val) → slice_get call.args k ≡ o → StandsIn x (or_false o) → Inside x call.args
    by_arg k None is h = absurd (true≢false (sym h))
    by_arg k (Some v) is h = inside-at x call.args k v is h

    by_op : (o : Option OpDecl) → StandsIn x (or_false (own_of call o)) → Inside x call.args
    by_op None h = absurd (true≢false (sym h))
    by_op (Some op) h = by_arg (keys_in op.path) (slice_get call.args (keys_in op.path)) refl h

only : (x : Val) (a : List Val) → list_any (same_val x) (a ++ []) ≡ true → list_any (same_val x) a ≡ true
only x a h = elim (any-append x a [] h) [ inl k ↦ k | inr none ↦ absurd (true≢false (sym none)) ]

asked-from : (r : Reading) (x : Val) (query : ℕ) (args : List Val) → StandsIn x (asked r query args) → From r x
asked-from r x query args h = elim (asked_is r query args) [
  | inl truth ↦ absurd (no_truth x truth.0 (ap (λ v. list_any (same_val x) (atoms v)) (sym truth.1) ∙ h))
  | inr others ↦ elim others [
    | inl number ↦ absurd (true≢false (sym h ∙ ap (λ v. list_any (same_val x) (atoms v)) number.1))
    | inr others ↦ elim others [
      | inl none ↦ absurd (true≢false (sym h ∙ ap (λ v. list_any (same_val x) (atoms v)) none.1))
      | inr some ↦
          by_call some.1 some.2 (slice_get r.parts.calls some.1) refl
          (only x (atoms (or_false (own_argument r.program.ops (slice_get r.parts.calls some.1)))) (ap (λ v. list_any (same_val x) (atoms v)) (sym some.3) ∙ h))
    ]
  ]
]
  where
    by_call : (c : ℕ) → In c r.visible → (o : Option Call) → slice_get r.parts.calls c ≡ o → StandsIn x (or_false (own_argument r.program.ops o)) → From r x
    by_call c seen None is h = absurd (true≢false (sym h))
    by_call c seen (Some call) is h = inr (c, call, is, seen, own-inside x r.program.ops call h)

mutual
  pub value-from : (r : Reading) (x : Val) (e : Ex) → StandsIn x (value r [] e) → From r x
  value-from r x (Slot s) h = inl (slot-from x r.slots s h)
  value-from r x (Con con args) h = values-from r x args h
  value-from r x (Query query args) h = asked-from r x query (list_of (values r [] args)) h
  value-from r x (OriginOf call) h = absurd (no_origin x (call_at r.parts (value r [] call)) h)
  value-from r x _ h = absurd (true≢false (sym h))

  values-from : (r : Reading) (x : Val) (es : Exs) → list_any (same_val x) (atoms_in_fields (values r [] es)) ≡ true → From r x
  values-from r x no_ex h = absurd (true≢false (sym h))
  values-from r x (also_ex e es) h = elim (any-append x (atoms (value r [] e)) (atoms_in_fields (values r [] es)) h) [
    | inl k ↦ value-from r x e k
    | inr k ↦ values-from r x es k
  ]

fields-inside : (x : Val) (vs : Vals) → Inside x (list_of vs) → list_any (same_val x) (atoms_in_fields vs) ≡ true
fields-inside x no_val h = h
fields-inside x (also_val v vs) h = elim (any-append x (atoms v) (all_atoms (list_of vs)) h) [
  | inl k ↦ any-left x (atoms v) (atoms_in_fields vs) k
  | inr k ↦ any-right x (atoms v) (atoms_in_fields vs) (fields-inside x vs k)
]

-- the arguments of an operation
pub list-from : (r : Reading) (x : Val) (es : Exs) → Inside x (list_of (values r [] es)) → From r x
list-from r x es h = values-from r x es (fields-inside x (values r [] es) h)
