-- Values that become known, one at a time.
use Rattle.std.proofs.Common.{◌≡◌, ℕ, ◌+◌, ◌<◌, ◌≤◌, Bool, true, false, ◌||◌, refl, sym, ◌∙◌, ap, subst, List, [], ◌∷◌, ◌++◌, length, map, get_or, take}
use Rattle.std.specs.List.{list_any}
use Rattle.std.proofs.lemmas.List.{append-nil, append_assoc, map-append, take_more, take_all}
use Rattle.std.proofs.Math.Bool.{or-false, or_assoc}
use Rattle.std.proofs.Math.Seq.{take-append_seam}
use Rattle.std.proofs.lemmas.List.Folds.{list_any-append}
use Rattle.rp_value.specs.Values.{Val}
use Rattle.rp_value.specs.ValueView.{value_view, values_view}
use Rattle.rp_value.specs.declared.value.Value.{Value}
use Rattle.crdt_defs.specs.Fitting.{atoms, atoms_in_fields, all_atoms}
use Rattle.crdt_defs.specs.SameValues.{same_val}
use Rattle.crdt_defs.proofs.SameLemmas.{same_val_is}
use Rattle.machine_returns.specs.Known.{has, Extends, Knows}
use Rattle.machine_tests.proofs.AtomLemmas.{atoms_listed}

-- # What was known stands in front

pub extends_same : (old : List Value) → Extends old old
extends_same old = record { more = []; is = sym (append-nil old) }

pub extends_more : (old mid new : List Value) → Extends old mid → Extends mid new → Extends old new
extends_more old mid new first second = record {
  more = first.more ++ second.more;
  is = second.is ∙ ap (λ xs. xs ++ second.more) first.is ∙ append_assoc old first.more second.more;
}

-- what is behind may be taken away again
pub extends_cut : (old new : List Value) (n : ℕ) → n ≡ length old → Extends old new → take n new ≡ old
extends_cut old new n is ext = ap (λ n. take n new) is ∙ ap (take (length old)) ext.is ∙ take-append_seam old ext.more

-- # What is known

pub knows_nothing : (old : List Value) → Knows old [] old
knows_nothing old x = sym (or-false (has old x))

known_already : (a b : Bool) → (b ≡ true → a ≡ true) → a ≡ (a || (b || false))
known_already true b h = refl
known_already false true h = h refl
known_already false false h = refl

pub knows_already : (old : List Value) (v : Val) → has old v ≡ true → Knows old (v ∷ []) old
knows_already old v known x =
    known_already (has old x) (same_val x v) (λ same. ap (has old) (same_val_is x v same) ∙ known)

pub knows_one : (old : List Value) (v : Value) (w : Val) → value_view v ≡ w → Knows old (w ∷ []) (old ++ v ∷ [])
knows_one old v w is x =
    ap (list_any (same_val x)) (map-append value_view old (v ∷ []))
    ∙ list_any-append (same_val x) (map value_view old) (value_view v ∷ [])
    ∙ ap (λ w. has old x || (same_val x w || false)) is

pub knows_more : (old mid new : List Value) (some more : List Val) → Knows old some mid → Knows mid more new → Knows old (some ++ more) new
knows_more old mid new some more first second x =
    second x
    ∙ ap (λ b. b || list_any (same_val x) more) (first x)
    ∙ or_assoc (has old x) (list_any (same_val x) some) (list_any (same_val x) more)
    ∙ ap (λ b. has old x || b) (sym (list_any-append (same_val x) some more))

all_push : (vs : List Value) (v : Value) → all_atoms (map value_view (vs ++ v ∷ [])) ≡ all_atoms (map value_view vs) ++ atoms (value_view v)
all_push [] v = append-nil (atoms (value_view v))
all_push (w ∷ vs) v =
    ap (λ xs. atoms (value_view w) ++ xs) (all_push vs v) ∙ sym (append_assoc (atoms (value_view w)) (all_atoms (map value_view vs)) (atoms (value_view v)))

-- those in one value more
all_more : (vs : List Value) (i : ℕ) (v : Value) → i < length vs → v ≡ get_or vs i v
    → all_atoms (map value_view (take (i + 1) vs)) ≡ all_atoms (map value_view (take i vs)) ++ atoms (value_view v)
all_more vs i v lt is =
    ap (λ xs. all_atoms (map value_view xs)) (take_more vs i v lt ∙ ap (λ x. take i vs ++ x ∷ []) (sym is)) ∙ all_push (take i vs) v

pub knows_next : (old mid new vs : List Value) (i : ℕ) (v : Value) → i < length vs → v ≡ get_or vs i v → Knows old (all_atoms (map value_view (take i vs))) mid → Knows mid (atoms (value_view v)) new
    → Knows old (all_atoms (map value_view (take (i + 1) vs))) new
knows_next old mid new vs i v lt is before here =
    subst (λ vals. Knows old vals new) (sym (all_more vs i v lt is)) (knows_more old mid new (all_atoms (map value_view (take i vs))) (atoms (value_view v)) before here)

pub knows_all : (old new vs : List Value) (i : ℕ) → length vs ≤ i → Knows old (all_atoms (map value_view (take i vs))) new → Knows old (atoms_in_fields (values_view vs)) new
knows_all old new vs i end known =
    subst (λ vals. Knows old vals new) (ap (λ xs. all_atoms (map value_view xs)) (take_all i vs end) ∙ sym (atoms_listed vs)) known
