-- Variables that stand for slots before the next one, and those of a pattern, which stand for the next ones.
use Rattle.std.proofs.Common.{◌≡◌, ◌+◌, ◌-◌, ◌<◌, ◌≤◌, ℕ, Bool, true, false, ◌||◌, cond, List, [], ◌∷◌, ◌++◌, length, Option, Some, None, refl, ap, subst, sym, ◌∙◌, arith}
use Rattle.std.specs.Prelude.{is_some}
use Rattle.std.specs.List.{AllByRecursion}
use Rattle.std.proofs.lemmas.Bool.{or_parts, or_right, true≢false}
use Rattle.std.proofs.lemmas.List.{append-nil, append_assoc}
use Rattle.rp_grammar.specs.Trees.{Ident}
use Rattle.rp_lang.specs.Exprs.{Ex, Slot}
use Rattle.rp_lang.specs.Blocks.{is_slot}
use Rattle.type_rules.specs.declared.kind.Kind.{Kind}
use Rattle.type_rules.specs.Names.{Name, same_name, text_of}
use Rattle.type_rules.specs.Accesses.{Var, find_var}
use Rattle.type_rules.specs.Matches.{first_kind, other_kinds, bound_var, with_bound}
use Rattle.desugaring.specs.Tables.{up_from}
use Rattle.desugaring.specs.Callees.{Vars, Stand, stand, stand_named}
use Rattle.desugaring.specs.Statements.{slot_in, slotted}
use Rattle.lawful.specs.Slots.{InSlots, nothing, another}
use Rattle.lawful.proofs.Forms.{one}
use Rattle.lawful.proofs.Distinct.{up_in, up_at}
use Rattle.lawful.proofs.Places.{all_both}
use Rattle.lawful.proofs.Alike.{Alike}

-- each stands for a slot before the next one
abbrev pub IsBefore : ℕ → Stand Ex → Type 0
IsBefore next s = (slot : ℕ) × (s.known ≡ Slot slot) × (slot < next)

abbrev pub Slotted : ℕ → Vars → Type 0
Slotted next vs = AllByRecursion (IsBefore next) vs

-- the slots from the next one on may be assigned
abbrev pub Free : (ℕ → Bool) → ℕ → Type 0
Free fixed next = (s : ℕ) → next ≤ s → fixed s ≡ false

pub slotted_more : (next further : ℕ) (vs : Vars) → next ≤ further → Slotted next vs → Slotted further vs
slotted_more next further [] h all = tt
slotted_more next further (v ∷ vs) h all =
    let less : all.0.0 < further = omega (arith, h, all.0.2) in ((all.0.0, all.0.1, less), slotted_more next further vs h all.1)

pub slotted_push : (next slot : ℕ) (vs : Vars) (name : Name) (kind : Kind) → slot < next → Slotted next vs
    → Slotted next (vs ++ stand name kind (Slot slot) ∷ [])
slotted_push next slot vs name kind less all = all_both (IsBefore next) vs (stand name kind (Slot slot) ∷ []) all ((slot, refl, less), tt)

-- # Lists of both kinds

pub slots_alike : (set fixed : ℕ → Bool) (vs : List Var) (ss : Vars) → InSlots set fixed vs ss → Alike vs ss
slots_alike set fixed vs ss nothing = Alike.nothing
slots_alike set fixed vs ss (another told free rest) = Alike.another (slots_alike set fixed _ _ rest)

pub slots_length : (set fixed : ℕ → Bool) (vs : List Var) (ss : Vars) → InSlots set fixed vs ss → length vs ≡ length ss
slots_length set fixed vs ss nothing = refl
slots_length set fixed vs ss (another {vs = vars} {ss = stands} told free rest) =
    let r = slots_length set fixed vars stands rest in omega (arith, r)

-- one variable more
pub slots_push : (set fixed : ℕ → Bool) (vs : List Var) (ss : Vars) (name : Name) (kind : Kind) (has no_more : Bool) (slot : ℕ)
    → (has ≡ true → set slot ≡ true) → (no_more ≡ false → fixed slot ≡ false) → InSlots set fixed vs ss
    → InSlots set fixed (vs ++ record { name = name; kind = kind; set = has; fixed = no_more } ∷ []) (ss ++ stand name kind (Slot slot) ∷ [])
slots_push set fixed vs ss name kind has no_more slot told free nothing = another told free nothing
slots_push set fixed vs ss name kind has no_more slot told free (another first frees rest) =
    another first frees (slots_push set fixed _ _ name kind has no_more slot told free rest)

-- # Names

none_of : (o : Option Var) → is_some o ≡ false → o ≡ None
none_of None e = refl
none_of (Some v) e = absurd cc

unnamed_there : (set fixed : ℕ → Bool) (vs : List Var) (ss : Vars) (x : Name) → find_var vs x ≡ None → InSlots set fixed vs ss → stand_named ss x ≡ None
unnamed_there set fixed vs ss x e nothing = refl
unnamed_there set fixed vs ss x e (another {name} {kind} {has} {no_more} {slot} {vs = vars} {ss = stands} told free rest) =
    by_name (record { name = name; kind = kind; set = has; fixed = no_more }) (stand name kind (Slot slot)) (find_var vars x) (stand_named stands x)
    (same_name name x) e (λ h. unnamed_there set fixed vars stands x h rest) where
      by_name : (v : Var) (s : Stand Ex) (o : Option Var) (r : Option (Stand Ex)) (same : Bool) → cond same (Some v) o ≡ None → (o ≡ None → r ≡ None)
          → cond same (Some s) r ≡ None
      by_name v s o r true e rest = absurd cc
      by_name v s o r false e rest = rest e

-- no variable in sight has the name
pub unnamed : (set fixed : ℕ → Bool) (vs : List Var) (ss : Vars) (x : Name) → is_some (find_var vs x) ≡ false → InSlots set fixed vs ss → stand_named ss x ≡ None
unnamed set fixed vs ss x e slots = unnamed_there set fixed vs ss x (none_of (find_var vs x) e) slots

pub named_last : (ss : Vars) (s : Stand Ex) (x : Name) → stand_named ss x ≡ None → same_name s.name x ≡ true → stand_named (ss ++ s ∷ []) x ≡ Some s
named_last [] s x none e = ap (λ b. cond b (Some s) None) e
named_last (y ∷ ys) s x none e = by_name y s (stand_named ys x) (stand_named (ys ++ s ∷ []) x) (same_name y.name x) none (λ h. named_last ys s x h e) where
  by_name : (y s : Stand Ex) (o r : Option (Stand Ex)) (same : Bool) → cond same (Some y) o ≡ None → (o ≡ None → r ≡ Some s) → cond same (Some y) r ≡ Some s
  by_name y s o r true none rest = absurd cc
  by_name y s o r false none rest = rest none

-- # Slots of a pattern

pub no_slot_below : (s next many : ℕ) → s < next → is_slot s (up_from next many) ≡ false
no_slot_below s next many less = by_test s next many less (is_slot s (up_from next many)) refl where
  by_test : (s next many : ℕ) → s < next → (among : Bool) → is_slot s (up_from next many) ≡ among → is_slot s (up_from next many) ≡ false
  by_test s next many less false is = is
  by_test s next many less true is = let u = up_in next many s is in absurd (omega (arith, less, u.2))

pub no_slot_above : (s next many : ℕ) → next + many ≤ s → is_slot s (up_from next many) ≡ false
no_slot_above s next many least = by_test s next many least (is_slot s (up_from next many)) refl where
  by_test : (s next many : ℕ) → next + many ≤ s → (among : Bool) → is_slot s (up_from next many) ≡ among → is_slot s (up_from next many) ≡ false
  by_test s next many least false is = is
  by_test s next many least true is = let u = up_in next many s is in absurd (omega (arith, least, u.1, u.2))

pub slot_within : (s next many : ℕ) → next ≤ s → s < next + many → is_slot s (up_from next many) ≡ true
slot_within s next many least less =
    let i = up_at next many (s - next) in
    let within : s - next < many = omega (arith, least, less) in
    let same : next + (s - next) ≡ s = omega (arith, least) in
    subst (λ z. is_slot z (up_from next many) ≡ true) same (i within)

pub slots_bound : (set fixed : ℕ → Bool) (vs : List Var) (ss : Vars) (next : ℕ) (xs : List Ident) (ks : List Kind)
    → ((s : ℕ) → next ≤ s → s < next + length xs → set s ≡ true) → InSlots set fixed vs ss → InSlots set fixed (with_bound vs xs ks) (slotted ss next xs ks)
slots_bound set fixed vs ss next [] ks told slots = slots
slots_bound set fixed vs ss next (x ∷ xs) ks told slots =
    let first : next < next + length (x ∷ xs) = omega arith in
    slots_bound set fixed (vs ++ bound_var x (first_kind ks) ∷ []) (ss ++ stand (text_of x) (first_kind ks) (Slot next) ∷ []) (next + 1) xs (other_kinds ks)
    (λ s least less. told s (omega (arith, least)) (omega (arith, less)))
    (slots_push set fixed vs ss (text_of x) (first_kind ks) true true next (λ h. told next (omega arith) first) (λ h. absurd (true≢false h)) slots)

-- the variables of a pattern stand behind those in sight
pub slotted_is : (ss : Vars) (next : ℕ) (xs : List Ident) (ks : List Kind) → (own : Vars) × (slotted ss next xs ks ≡ ss ++ own)
slotted_is ss next [] ks = ([], sym (append-nil ss))
slotted_is ss next (x ∷ xs) ks =
    let s = stand (text_of x) (first_kind ks) (Slot next) in
    let r = slotted_is (ss ++ s ∷ []) (next + 1) xs (other_kinds ks) in
    (s ∷ r.0, r.1 ∙ append_assoc ss (s ∷ []) r.0)

pub bound_slotted : (ss : Vars) (next : ℕ) (xs : List Ident) (ks : List Kind) → Slotted next ss → Slotted (next + length xs) (slotted ss next xs ks)
bound_slotted ss next [] ks all = slotted_more next (next + 0) ss (omega arith) all
bound_slotted ss next (x ∷ xs) ks all =
    let same : next + 1 + length xs ≡ next + length (x ∷ xs) = omega arith in
    subst (λ m. Slotted m (slotted ss next (x ∷ xs) ks)) same
    (bound_slotted (ss ++ stand (text_of x) (first_kind ks) (Slot next) ∷ []) (next + 1) xs (other_kinds ks)
    (slotted_push (next + 1) next ss (text_of x) (first_kind ks) (omega arith) (slotted_more next (next + 1) ss (omega arith) all)))

-- # Into an arm, and out of it

below_next : (slot next : ℕ) (name : Name) (kind : Kind) → IsBefore next (stand name kind (Slot slot)) → slot < next
below_next slot next name kind is =
    let same : slot ≡ is.0 = one (ap slot_in is.1) in omega (arith, same, is.2)

pub slots_into : (set fixed : ℕ → Bool) (next many : ℕ) (vs : List Var) (ss : Vars) → Slotted next ss → InSlots set fixed vs ss
    → InSlots (λ s. is_slot s (up_from next many) || set s) (λ s. is_slot s (up_from next many) || fixed s) vs ss
slots_into set fixed next many vs ss below nothing = nothing
slots_into set fixed next many vs ss below (another {name} {kind} {slot = slot} told free rest) =
    let apart = no_slot_below slot next many (below_next slot next name kind below.0) in
    another (λ h. or_right (is_slot slot (up_from next many)) (set slot) (told h))
    (λ h. ap (λ b. b || fixed slot) apart ∙ free h) (slots_into set fixed next many _ _ below.1 rest)

pub slots_out : (set fixed body : ℕ → Bool) (next many : ℕ) (vs : List Var) (ss : Vars) → Slotted next ss
    → InSlots (λ s. is_slot s (up_from next many) || set s || body s) (λ s. is_slot s (up_from next many) || fixed s) vs ss
    → InSlots (λ s. set s || body s) fixed vs ss
slots_out set fixed body next many vs ss below nothing = nothing
slots_out set fixed body next many vs ss below (another {name} {kind} {slot = slot} told free rest) =
    let apart = no_slot_below slot next many (below_next slot next name kind below.0) in
    another (λ h. sym (ap (λ b. b || set slot || body slot) apart) ∙ told h)
    (λ h. (or_parts (is_slot slot (up_from next many)) (fixed slot) (free h)).1) (slots_out set fixed body next many _ _ below.1 rest)
