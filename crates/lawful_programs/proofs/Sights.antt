-- Where a statement stands: the variables in sight are slots, of types that have numbers.
use Rattle.std.proofs.Common.{◌≡◌, ◌+◌, ℕ, Bool, true, false, not, ◌&&◌, ◌||◌, cond, List, [], ◌∷◌, ◌++◌, length, Option, Some, None, refl, ap, subst, sym, ◌∙◌, arith}
use Rattle.std.specs.Prelude.{is_some, slice_get, option_and_then}
use Rattle.std.specs.List.{AllByRecursion}
use Rattle.std.proofs.lemmas.Bool.{or_parts, true≢false}
use Rattle.std.proofs.lemmas.Cmp.{nat_list_eq_equiv}
use Rattle.rp_span.specs.declared.Span.{Span}
use Rattle.rp_grammar.specs.Trees.{Ident, PatternTree, TypeTree}
use Rattle.rp_lang.specs.Exprs.{Ex, Slot}
use Rattle.type_rules.specs.declared.kind.Kind.{Kind}
use Rattle.type_rules.specs.Names.{Name, TypeEntry, TypeSort, first_type, same_name, text_of, type_named, type_number, type_number_from}
use Rattle.type_rules.specs.Kinds.{kind_of, named_kind}
use Rattle.type_rules.specs.Accesses.{Var, find_var}
use Rattle.type_rules.specs.Sites.{Site}
use Rattle.type_rules.specs.Matches.{pattern_kinds, pattern_name, pattern_vars}
use Rattle.type_rules.specs.Flow as flow
use Rattle.type_rules.specs.Flow.{Sight}
use Rattle.type_rules.specs.StmtSites.{Frame, scope_in, var_kind}
use Rattle.type_rules.specs.Rules.{is_declared, is_id_sort, is_id_type, is_later, is_taken, is_var, rule, rules, rule04, rule15, when}
use Rattle.desugaring.specs.Tables.{Tables, atom_number, sort_ty, ty_of}
use Rattle.desugaring.specs.Callees.{Stand, Vars, stand, stand_named}
use Rattle.desugaring.specs.Statements.{id_named, id_number, in_pattern, slot_for, slot_in, slotted, with_slot}
use Rattle.lawful.proofs.Atoms.{finds}
use Rattle.lawful.proofs.Basics.{when_not}
use Rattle.lawful.proofs.Places.{all_both, is_one_of}
use Rattle.lawful_programs.specs.Valued.{Sound, IsWhole, AllWhole, VarsWhole}
use Rattle.lawful_programs.proofs.Looks.{Looks, look}
use Rattle.lawful_programs.proofs.Reached.{In}
use Rattle.lawful_programs.proofs.Paths.{found_among}
use Rattle.lawful_programs.proofs.Roots.{at_member}
use Rattle.lawful_programs.proofs.Flow.{Begins, Exact, exact_seen, exact_declared, exact_slotted}

abbrev pub StandWhole : Tables → Stand Ex → Type 0
StandWhole t s = IsWhole t s.kind × ((i : ℕ) × (s.known ≡ Slot i))

abbrev pub StandsWhole : Tables → Vars → Type 0
StandsWhole t vs = AllByRecursion (StandWhole t) vs

pub record Here (t : Tables) (b : ℕ) (f : Frame) (g : Sight) (vs : Vars) : Type 0 where
  pub decl : f.decl ≡ b
  pub exact : Exact g.vars vs
  pub whole : StandsWhole t vs

pub vars_whole : (t : Tables) (ws : List Var) (vs : Vars) → Begins ws vs → length ws ≡ length vs → StandsWhole t vs → VarsWhole t ws
vars_whole t [] vs b many whole = tt
vars_whole t (w ∷ ws) [] b many whole = absurd (omega (arith, many))
vars_whole t (w ∷ ws) (s ∷ vs) b many whole = (subst (IsWhole t) (sym b.1) whole.0.0, vars_whole t ws vs b.2 (omega (arith, many)) whole.1)

pub in_sight : (t : Tables) (b : ℕ) (f : Frame) (g : Sight) (vs : Vars) → Here t b f g vs → In t b (scope_in f g) vs
in_sight t b f g vs here = record {
  decl = here.decl;
  seen = exact_seen g.vars vs here.exact.begins here.exact.many;
  whole = vars_whole t g.vars vs here.exact.begins here.exact.many here.whole;
}

-- # More variables

pub declared_here : (t : Tables) (b : ℕ) (f : Frame) (g : Sight) (set : Bool) (vs : Vars) (next : ℕ) (x : Ident) (ty : TypeTree) → IsWhole t (kind_of t.names ty)
    → Here t b f g vs → Here t b f (flow.with_declared t.names g set x ty) (with_slot t.names vs next x ty)
declared_here t b f g set vs next x ty whole here = record {
  decl = here.decl;
  exact = exact_declared t.names g set vs next x ty here.exact;
  whole = all_both (StandWhole t) vs (stand (text_of x) (kind_of t.names ty) (Slot next) ∷ []) here.whole ((whole, (next, refl)), tt);
}

pub slotted_whole : (t : Tables) (vs : Vars) (next : ℕ) (xs : List Ident) (ks : List Kind) → StandsWhole t vs → AllWhole t ks → length ks ≡ length xs
    → StandsWhole t (slotted vs next xs ks)
slotted_whole t vs next [] ks stands whole many = stands
slotted_whole t vs next (x ∷ xs) [] stands whole many = absurd (omega (arith, many))
slotted_whole t vs next (x ∷ xs) (k ∷ ks) stands whole many =
    slotted_whole t (vs ++ stand (text_of x) k (Slot next) ∷ []) (next + 1) xs ks
    (all_both (StandWhole t) vs (stand (text_of x) k (Slot next) ∷ []) stands ((whole.0, (next, refl)), tt)) whole.1 (omega (arith, many))

pub pattern_here : (t : Tables) (b : ℕ) (f : Frame) (g : Sight) (vs : Vars) (next : ℕ) (k : Kind) (q : PatternTree)
    → AllWhole t (pattern_kinds t.names k (pattern_name q)) → length (pattern_kinds t.names k (pattern_name q)) ≡ length (pattern_vars q)
    → Here t b f g vs → Here t b f (flow.in_pattern t.names g k q) (in_pattern t.names vs next k q)
pattern_here t b f g vs next k q whole many here = record {
  decl = here.decl;
  exact = exact_slotted g.vars vs next (pattern_vars q) (pattern_kinds t.names k (pattern_name q)) here.exact;
  whole = slotted_whole t vs next (pattern_vars q) (pattern_kinds t.names k (pattern_name q)) here.whole whole many;
}

-- # An assigned variable

pub record Assigned (t : Tables) (vs : Vars) (x : Name) (o : Option Var) : Type 0 where
  pub s : Stand Ex
  pub is : stand_named vs x ≡ Some s
  pub slot : ℕ
  pub at : slot_for s ≡ Some slot
  pub whole : IsWhole t s.kind
  pub same : var_kind o ≡ s.kind

pub slot_there : (t : Tables) (vs : Vars) (x : Name) (s : Stand Ex) → StandsWhole t vs → stand_named vs x ≡ Some s → (i : ℕ) × (slot_for s ≡ Some i)
slot_there t vs x s whole is =
    let among = found_among (λ (z : Stand Ex). same_name z.name x) vs s is in
    let own = at_member (StandWhole t) vs s whole among.0 in
    (own.1.0, ap slot_in own.1.1)

by_look : (t : Tables) (vs : Vars) (x : Name) (o : Option Var) (s : Option (Stand Ex)) (u : Option Var) → Looks t o s u → StandsWhole t vs
    → stand_named vs x ≡ s → is_some o ≡ true → Assigned t vs x o
by_look t vs x o s u Looks.nowhere stands is seen = absurd cc
by_look t vs x o s u (Looks.there {name} {kind} {known = meant} whole) stands is seen =
    let own = slot_there t vs x (stand name kind meant) stands is in
    record { s = stand name kind meant; is = is; slot = own.0; at = own.1; whole = whole; same = refl }

is_assigned : (seen declared later : Bool) (a b : Span) → when (not seen && not declared && not later) a ≡ None → when (not seen && (declared || later)) b ≡ None
    → seen ≡ true
is_assigned true declared later a b e h = refl
is_assigned false true later a b e h = absurd cc
is_assigned false false true a b e h = absurd cc
is_assigned false false false a b e h = absurd cc

pub assigned_there : (t : Tables) (b : ℕ) (f : Frame) (g : Sight) (vs : Vars) (x : Ident) → Here t b f g vs → Sound t (Site.assigns (scope_in f g) x)
    → Assigned t vs (text_of x) (find_var g.vars (text_of x))
assigned_there t b f g vs x here sound =
    let there = in_sight t b f g vs here in
    let sc = scope_in f g in
    let seen = is_assigned (is_var g.vars x) (is_declared t.names x) (is_later sc x) _ _ (sound.0 (rule 4 rule04) (is_one_of rules 3 _ refl))
    (sound.0 (rule 15 rule15) (is_one_of rules 14 _ refl)) in
    by_look t vs (text_of x) _ _ _ (look t g.vars vs (text_of x) there.seen there.whole) here.whole refl seen

-- a declared variable is found by its name
stand_last : (vs : Vars) (x : Name) (s : Stand Ex) → stand_named vs x ≡ None → same_name s.name x ≡ true → stand_named (vs ++ s ∷ []) x ≡ Some s
stand_last [] x s none named = rw named refl
stand_last (z ∷ vs) x s none named = by_name z vs x s (same_name z.name x) refl none named (stand_last vs x s) where
  by_name : (z : Stand Ex) (vs : Vars) (x : Name) (s : Stand Ex) (same : Bool) → same_name z.name x ≡ same → cond same (Some z) (stand_named vs x) ≡ None
      → same_name s.name x ≡ true → (stand_named vs x ≡ None → same_name s.name x ≡ true → stand_named (vs ++ s ∷ []) x ≡ Some s)
      → cond same (Some z) (stand_named (vs ++ s ∷ []) x) ≡ Some s
  by_name z vs x s true is none named rest = absurd cc
  by_name z vs x s false is none named rest = rest none named

no_stand : (t : Tables) (o : Option Var) (s : Option (Stand Ex)) (u : Option Var) → Looks t o s u → is_some o ≡ false → s ≡ None
no_stand t o s u Looks.nowhere seen = refl
no_stand t o s u (Looks.there whole) seen = absurd cc

pub declared_found : (t : Tables) (b : ℕ) (f : Frame) (g : Sight) (vs : Vars) (next : ℕ) (x : Ident) (ty : TypeTree) → Here t b f g vs → Sound t (Site.declares g.vars x)
    → stand_named (with_slot t.names vs next x ty) (text_of x) ≡ Some (stand (text_of x) (kind_of t.names ty) (Slot next))
declared_found t b f g vs next x ty here sound =
    let there = in_sight t b f g vs here in
    let fresh = (or_parts (is_var g.vars x) (is_taken t.names x) (when_not _ _ (sound.0 (rule 15 rule15) (is_one_of rules 14 _ refl)))).0 in
    stand_last vs (text_of x) (stand (text_of x) (kind_of t.names ty) (Slot next))
    (no_stand t _ _ _ (look t g.vars vs (text_of x) there.seen there.whole) fresh) (nat_list_eq_equiv.refl (text_of x))

-- # The type of a new identifier

no_first : (es : List TypeEntry) (x : Name) (from : ℕ) → type_number_from from es x ≡ None → first_type es x ≡ None
no_first [] x from e = refl
no_first (entry ∷ es) x from e = by_name entry es x from (same_name entry.name x) e (no_first es x (from + 1)) where
  by_name : (entry : TypeEntry) (es : List TypeEntry) (x : Name) (from : ℕ) (same : Bool) → cond same (Some from) (type_number_from (from + 1) es x) ≡ None
      → (type_number_from (from + 1) es x ≡ None → first_type es x ≡ None) → cond same (Some entry) (first_type es x) ≡ None
  by_name entry es x from true e rest = absurd cc
  by_name entry es x from false e rest = rest e

pub id_there : (t : Tables) (x : Name) → is_id_type (type_named t.names x) ≡ true → (k : ℕ) × (id_named t x ≡ Some k)
id_there t x e = by_number t x (type_number t.names x) refl e where
  by_sort : (t : Tables) (type : ℕ) (sort : TypeSort) → is_id_sort sort ≡ true → (k : ℕ) × (option_and_then id_number (sort_ty t type sort) ≡ Some k)
  by_sort t type TypeSort.id_type e = (atom_number t.names type, refl)
  by_sort t type TypeSort.opaque e = absurd cc
  by_sort t type (TypeSort.datatype cons) e = absurd cc

  by_number : (t : Tables) (x : Name) (o : Option ℕ) → type_number t.names x ≡ o → is_id_type (type_named t.names x) ≡ true
      → (k : ℕ) × (option_and_then id_number (ty_of t (named_kind o)) ≡ Some k)
  by_number t x None is e = absurd (true≢false (sym e ∙ ap is_id_type (no_first t.names.types x 0 is)))
  by_number t x (Some type) is e =
      let f = finds t.names.types x 0 type is in
      let place : f.place ≡ type = omega (arith, f.number) in
      let there = subst (λ i. slice_get t.names.types i ≡ Some f.entry) place f.there in
      let r = by_sort t type f.entry.sort (subst (λ o. is_id_type o ≡ true) f.named e) in
      (r.0, ap (λ o. option_and_then id_number (option_and_then (λ (z : TypeEntry). sort_ty t type z.sort) o)) there ∙ r.1)
