-- Frames of statements: slots of known types, and what their variables are seen as.
use Rattle.std.proofs.Common.{◌≡◌, ◌+◌, ℕ, Bool, true, false, not, ◌&&◌, cond, List, [], ◌∷◌, ◌++◌, length, Option, Some, None, refl, ap, subst, sym, ◌∙◌, arith}
use Rattle.std.specs.Prelude.{slice_get}
use Rattle.std.specs.List.{AllByRecursion, IsDistinct}
use Rattle.std.proofs.lemmas.Bool.{and_from, not-false}
use Rattle.rp_span.specs.declared.Span.{Span}
use Rattle.rp_value.specs.declared.tables.Ty.{Ty}
use Rattle.rp_grammar.specs.Trees.{Ident, ExprTree}
use Rattle.rp_lang.specs.Exprs.{Ex, Slot}
use Rattle.rp_lang.specs.Formulas.{Fo, Holds}
use Rattle.rp_lang.specs.Stmts.{St, Sts}
use Rattle.rp_lang.specs.Programs.{Prog}
use Rattle.rp_lang.specs.Types.{agree, bool_ty, is_id_type}
use Rattle.rp_lang.specs.Bounds.{is_small_ex, is_small_fo}
use Rattle.rp_lang.specs.Typing.{Frame, type_of, is_typed, are_cases}
use Rattle.rp_lang.specs.Blocks.{is_condition, is_stmt, plain_type, takes}
use Rattle.type_rules.specs.declared.kind.Kind.{Kind}
use Rattle.type_rules.specs.Names.{Name, type_named, text_of}
use Rattle.type_rules.specs.Kinds.{bool_kind, fits}
use Rattle.type_rules.specs.Accesses.{Var}
use Rattle.type_rules.specs.Flow.{Sight}
use Rattle.type_rules.specs.Matches.{cases_of, first_kind, other_kinds}
use Rattle.type_rules.specs.Rules.{is_complete, is_datatype_kind}
use Rattle.type_rules.specs.Rules as rules
use Rattle.type_rules.specs.Sites.{Scope}
use Rattle.type_rules.specs.ExprSites.{asks, bool_whole, expr_sites}
use Rattle.type_rules.specs.StmtSites as sites
use Rattle.type_rules.specs.StmtSites.{scope_in}
use Rattle.type_rules.specs.Typing as kinds
use Rattle.desugaring.specs.Parts.{Pointwise}
use Rattle.desugaring.specs.Tables.{Tables, ty_of}
use Rattle.desugaring.specs.Values.{Value, term, formula, as_formula, reads, ex_reads, fo_reads}
use Rattle.desugaring.specs.Callees.{Vars, Stand, stand, vars_of}
use Rattle.desugaring.specs.Statements.{assigned, block_of_one, id_named, slot_in, slot_kinds, slotted}
use Rattle.desugaring.specs.Meanings.{Means}
use Rattle.desugaring.specs.Limits.{Test, some_in, some_in_all}
use Rattle.lawful.specs.Slots.{InSlots}
use Rattle.lawful.specs.Typed.{IsTerm, Sees, Tied}
use Rattle.lawful.proofs.Arms.{IsNumber, flipped}
use Rattle.lawful.proofs.Basics.{same_type, when_not}
use Rattle.lawful.proofs.Calls.{given_is}
use Rattle.lawful.proofs.Forms.{head, is_of, never, of_type, one, same_self}
use Rattle.lawful.proofs.Main.{typed}
use Rattle.lawful.proofs.Places.{all_both}
use Rattle.lawful.proofs.Readless.{type_readless, typed_readless}
use Rattle.lawful.proofs.StmtRows.{one_fine}
use Rattle.lawful.proofs.World.{World, In, Lawful, Is, exactly_value, seen22, true_at}

-- # A procedure

-- the constructors of arms of these names are those of the matched datatype, each once
abbrev pub CasesFit : Tables → Prog → Type 0
CasesFit t p = (k : Kind) (of : Ty) (names : List Name) (found : List ℕ) → ty_of t k ≡ Some of → is_datatype_kind t.names k ≡ true
    → Pointwise (IsNumber t k) names found → IsDistinct flipped names → is_complete names (cases_of t.names k) ≡ true
    → are_cases p (Some of) found ≡ true

-- the id type of that name is one of the program's
abbrev pub IdsFit : Tables → Prog → Type 0
IdsFit t p = (x : Name) (n : ℕ) → id_named t x ≡ Some n → rules.is_id_type (type_named t.names x) ≡ true → is_id_type (slice_get p.types.atoms n) ≡ true

-- the program, and what doesn't change within a procedure
pub record Body (t : Tables) : Type 0 where
  pub p : Prog
  pub words : ℕ → Bool
  pub tied : Tied t p words
  pub cases : CasesFit t p
  pub ids : IdsFit t p
  pub slots : List Ty
  pub result : Option Ty

abbrev pub frame_at : List Ty → Option Ty → (ℕ → Bool) → (ℕ → Bool) → Bool → Frame
frame_at slots result set fixed may_read = record { slots = slots; set = set; fixed = fixed; reads = may_read; speaks = false; result = result }

abbrev pub frame_in : (t : Tables) → Body t → (ℕ → Bool) → (ℕ → Bool) → Bool → Frame
frame_in t w set fixed may_read = frame_at w.slots w.result set fixed may_read

abbrev pub world : (t : Tables) → Body t → (ℕ → Bool) → (ℕ → Bool) → World t
world t w set fixed = record { p = w.p; words = w.words; tied = w.tied; f = frame_in t w set fixed true; reads = refl }

-- # Slots of known types

abbrev pub HasSlot : Tables → List Ty → Kind → ℕ → Type 0
HasSlot t slots k s = (of : Ty) × (slice_get slots s ≡ Some of) × (ty_of t k ≡ Some of)

-- the slots from the next one on are of these types
abbrev pub Brought : Tables → List Ty → ℕ → List Kind → Type 0
Brought t slots next [] = Unit {0}
Brought t slots next (k ∷ ks) = HasSlot t slots k next × Brought t slots (next + 1) ks

pub brought_parts : (t : Tables) (slots : List Ty) (next : ℕ) (ks js : List Kind) → Brought t slots next (ks ++ js)
    → Brought t slots next ks × Brought t slots (next + length ks) js
brought_parts t slots next [] js all =
    let same : next ≡ next + 0 = omega arith in (tt, subst (λ m. Brought t slots m js) same all)
brought_parts t slots next (k ∷ ks) js all =
    let r = brought_parts t slots (next + 1) ks js all.1 in
    let same : next + 1 + length ks ≡ next + length (k ∷ ks) = omega arith in ((all.0, r.0), subst (λ m. Brought t slots m js) same r.1)

-- the variable stands for a slot of its type
abbrev pub HasType : Tables → List Ty → Stand Ex → Type 0
HasType t slots s = (slot : ℕ) × (s.known ≡ Slot slot) × HasSlot t slots s.kind slot

abbrev pub TypedVars : Tables → List Ty → Vars → Type 0
TypedVars t slots vs = AllByRecursion (HasType t slots) vs

pub typed_push : (t : Tables) (slots : List Ty) (vs : Vars) (name : Name) (kind : Kind) (slot : ℕ) → HasSlot t slots kind slot → TypedVars t slots vs
    → TypedVars t slots (vs ++ stand name kind (Slot slot) ∷ [])
typed_push t slots vs name kind slot has all = all_both (HasType t slots) vs (stand name kind (Slot slot) ∷ []) all ((slot, refl, has), tt)

pub bound_typed : (t : Tables) (slots : List Ty) (next : ℕ) (vs : Vars) (xs : List Ident) (ks : List Kind) → Brought t slots next (slot_kinds xs ks)
    → TypedVars t slots vs → TypedVars t slots (slotted vs next xs ks)
bound_typed t slots next vs [] ks brought all = all
bound_typed t slots next vs (x ∷ xs) ks brought all =
    bound_typed t slots (next + 1) (vs ++ stand (text_of x) (first_kind ks) (Slot next) ∷ []) xs (other_kinds ks) brought.1
    (typed_push t slots vs (text_of x) (first_kind ks) next brought.0 all)

slot_there : (slots : List Ty) (s : ℕ) (has : Bool) (of : Ty) → has ≡ true → slice_get slots s ≡ Some of → cond has (slice_get slots s) None ≡ Some of
slot_there slots s true of e is = is
slot_there slots s false of e is = absurd cc

pub slot_typed : (p : Prog) (f : Frame) (bs : List Ty) (s : ℕ) (of : Ty) → f.set s ≡ true → slice_get f.slots s ≡ Some of → type_of p f bs (Slot s) ≡ Some of
slot_typed p f bs s of e is = slot_there f.slots s (f.set s) of e is

pub slot_term : (t : Tables) (p : Prog) (f : Frame) (k : Kind) (s : ℕ) → f.set s ≡ true → HasSlot t f.slots k s → IsTerm t p f [] false k (Slot s)
slot_term t p f k s e has = record { typed = (has.0, slot_typed p f [] s has.0 e has.1, has.2); stands = λ h. absurd cc }

pub slot_same : (t : Tables) (slots : List Ty) (name : Name) (kind : Kind) (slot : ℕ) → HasType t slots (stand name kind (Slot slot)) → HasSlot t slots kind slot
slot_same t slots name kind slot has =
    let same : has.0 ≡ slot = one (sym (ap slot_in has.1)) in subst (HasSlot t slots kind) same has.2

pub sees_slots : (t : Tables) (p : Prog) (f : Frame) (fixed : ℕ → Bool) (vars : List Var) (vs : Vars) → InSlots f.set fixed vars vs → TypedVars t f.slots vs
    → Sees t p f [] vars vs
sees_slots t p f fixed vars vs InSlots.nothing all = Sees.nothing
sees_slots t p f fixed vars vs (InSlots.another {name} {kind} {slot = slot} told free rest) all =
    Sees.another (λ has. slot_term t p f kind slot (told has) (slot_same t f.slots name kind slot all.0)) (sees_slots t p f fixed _ _ rest all.1)

pub in_scope : (t : Tables) (w : Body t) (set fixed : ℕ → Bool) (f : sites.Frame) (g : Sight) (vs : Vars) → InSlots set fixed g.vars vs
    → TypedVars t w.slots vs → In t (world t w set fixed) [] vs (scope_in f g)
in_scope t w set fixed f g vs slots all = record {
  sees = sees_slots t w.p (frame_in t w set fixed true) fixed g.vars vs slots all;
  speaks = λ h. never refl h;
}

-- # What places of statements ask

pub seen23 : (t : Tables) (g : World t) (vs : Vars) (sc : Scope) (k : Kind) (e : ExprTree) → In t g [] vs sc → Lawful t g (expr_sites t.names sc (asks 23 k) e)
    → fits k (kinds.type_of t.names (vars_of vs) (Some k) e) ≡ true
seen23 t g vs sc k e st kept =
    subst (λ j. fits k j ≡ true) (same_type t g.p g.f [] t.names sc.vars vs st.sees (Some k) e)
    (not-false _ (when_not _ _ (head t.names g.words sc (asks 23 k) e kept).t23))

-- a value of the type that is asked
pub value_good : (t : Tables) (g : World t) (b : ℕ) (vs : Vars) (sc : Scope) (k : Kind) (e : ExprTree) (v : Value) (of : Ty) → ty_of t k ≡ Some of
    → Means t b vs (Some k) e v → In t g [] vs sc → Lawful t g (expr_sites t.names sc (asks 23 k) e) → Is t g [] false k v
value_good t g b vs sc k e v of is m st kept =
    exactly_value t g [] false k _ v of is (seen23 t g vs sc k e st kept) (typed t g [] b vs (Some k) e v m sc (asks 23 k) refl st kept)

-- a truth value where one is asked
pub truth_good : (t : Tables) (g : World t) (b : ℕ) (vs : Vars) (sc : Scope) (e : ExprTree) (v : Value) → Means t b vs (Some bool_kind) e v
    → In t g [] vs sc → Lawful t g (expr_sites t.names sc bool_whole e) → Is t g [] false bool_kind v
truth_good t g b vs sc e v m st kept =
    exactly_value t g [] false bool_kind _ v bool_ty g.tied.bool (seen22 t g [] vs sc e st kept)
    (typed t g [] b vs (Some bool_kind) e v m sc bool_whole refl st kept)

pub condition_good : (t : Tables) (g : World t) (b : ℕ) (vs : Vars) (sc : Scope) (e : ExprTree) (v : Value) → Means t b vs (Some bool_kind) e v
    → In t g [] vs sc → Lawful t g (expr_sites t.names sc bool_whole e) → is_typed g.p g.f [] (as_formula v) ≡ true
condition_good t g b vs sc e v m st kept = true_at t g [] false bool_kind v (truth_good t g b vs sc e v m st kept) refl

-- # Limits

abbrev pub over : Prog → Test
over p = record { of_term = λ e. not (is_small_ex e); of_formula = λ f. not (is_small_fo p.cons f) }

-- each expression of the statements is within the limits
abbrev pub Small : Prog → Sts → Type 0
Small p sts = some_in_all (over p) sts ≡ false

-- # Statements one by one

pub reads_same : (v : Value) → fo_reads (as_formula v) ≡ reads v
reads_same (term x) = refl
reads_same (formula h) = refl

-- what doesn't read the store is typed where it may not be read
pub here_typed : (t : Tables) (w : Body t) (set fixed : ℕ → Bool) (inside : Bool) (h : Fo) → (not inside && fo_reads h) ≡ false
    → is_typed w.p (frame_in t w set fixed true) [] h ≡ true → is_typed w.p (frame_in t w set fixed inside) [] h ≡ true
here_typed t w set fixed true h near is = is
here_typed t w set fixed false h near is = sym (typed_readless w.p (frame_in t w set fixed false) [] h near) ∙ is

pub here_type : (t : Tables) (w : Body t) (set fixed : ℕ → Bool) (inside : Bool) (x : Ex) (of : Ty) → (not inside && ex_reads x) ≡ false
    → type_of w.p (frame_in t w set fixed true) [] x ≡ Some of → type_of w.p (frame_in t w set fixed inside) [] x ≡ Some of
here_type t w set fixed true x of near is = is
here_type t w set fixed false x of near is = sym (type_readless w.p (frame_in t w set fixed false) [] x near) ∙ is

pub plain_is : (p : Prog) (f : Frame) (x : Ex) (of : Ty) → not (is_small_ex x) ≡ false → type_of p f [] x ≡ Some of → plain_type p f x ≡ Some of
plain_is p f x of small is = given_is (is_small_ex x) (type_of p f [] x) of (not-false _ small) is

pub agree_is : (found there : Option Ty) (of : Ty) → found ≡ Some of → there ≡ Some of → agree found there ≡ true
agree_is found there of e h =
    subst (λ z. agree z there ≡ true) (sym e) (subst (λ z. agree (Some of) z ≡ true) (sym h) (same_self of))

pub takes_it : (f : Frame) (slot : ℕ) (found : Option Ty) (of : Ty) → f.fixed slot ≡ false → slice_get f.slots slot ≡ Some of → found ≡ Some of
    → takes f slot found ≡ true
takes_it f slot found of unfixed there is = and_from (not (f.fixed slot)) (agree found (slice_get f.slots slot)) (ap not unfixed) (agree_is found _ of is there)

pub condition_here : (t : Tables) (w : Body t) (set fixed : ℕ → Bool) (inside : Bool) (h : Fo) → (not inside && fo_reads h) ≡ false
    → not (is_small_fo w.p.cons h) ≡ false → is_typed w.p (frame_in t w set fixed true) [] h ≡ true
    → is_condition w.p (frame_in t w set fixed inside) h ≡ true
condition_here t w set fixed inside h near small is = and_from (is_small_fo w.p.cons h) _ (not-false _ small) (here_typed t w set fixed inside h near is)

pub assigned_fine : (t : Tables) (w : Body t) (set fixed : ℕ → Bool) (inside : Bool) (at : Span) (slot : ℕ) (k : Kind) (v : Value) → HasSlot t w.slots k slot
    → fixed slot ≡ false → Is t (world t w set fixed) [] false k v → (not inside && reads v) ≡ false → some_in (over w.p) (assigned at slot v) ≡ false
    → is_stmt w.p (frame_in t w set fixed inside) (assigned at slot v) ≡ true
assigned_fine t w set fixed inside at slot k (term x) has unfixed good near small =
    let f = frame_in t w set fixed inside in
    takes_it f slot (plain_type w.p f x) has.0 unfixed has.1
    (plain_is w.p f x has.0 small
    (here_type t w set fixed inside x has.0 near (of_type t w.p (frame_in t w set fixed true) [] k x has.0 good.typed has.2)))
assigned_fine t w set fixed inside at slot k (formula h) has unfixed good near small =
    let f = frame_in t w set fixed inside in
    let bool : has.0 ≡ bool_ty = one (sym has.2 ∙ ap (ty_of t) good.0 ∙ w.tied.bool) in
    and_from (takes f slot (Some bool_ty)) (is_condition w.p f h)
    (takes_it f slot (Some bool_ty) has.0 unfixed has.1 (ap Some (sym bool))) (condition_here t w set fixed inside h near small good.1)

-- a statement in an atomic block of its own
pub apart_fine : (t : Tables) (w : Body t) (set fixed : ℕ → Bool) (inside : Bool) (at : Span) (st : St) → inside ≡ false
    → is_stmt w.p (frame_in t w set fixed true) st ≡ true → is_stmt w.p (frame_in t w set fixed inside) (block_of_one at st) ≡ true
apart_fine t w set fixed inside at st out is = and_from (not inside) _ (ap not out) (one_fine w.p (frame_in t w set fixed true) st is)

-- the slot of a truth value, as a condition
pub slot_condition : (t : Tables) (w : Body t) (set fixed : ℕ → Bool) (inside : Bool) (s : ℕ) → set s ≡ true → HasSlot t w.slots bool_kind s
    → is_condition w.p (frame_in t w set fixed inside) (Holds (Slot s)) ≡ true
slot_condition t w set fixed inside s e has =
    let f = frame_in t w set fixed inside in
    is_of t w.p f [] bool_kind (Slot s) bool_ty (slot_term t w.p f bool_kind s e has).typed w.tied.bool
