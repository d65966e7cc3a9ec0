-- Assignments, new identifiers, operations and returns are well typed.
use Rattle.std.proofs.Common.{◌≡◌, ◌+◌, ℕ, Bool, true, false, not, ◌&&◌, cond, List, [], ◌∷◌, ◌++◌, length, Option, Some, None, refl, ap, subst, sym, ◌∙◌, arith}
use Rattle.std.specs.Prelude.{nat_lt, option_and_then, option_map, slice_get}
use Rattle.std.proofs.lemmas.Bool.{and_from, and_parts, lt-ltb, not-false, not-true, or_left, or_parts, or_right, true≢false}
use Rattle.rp_span.specs.declared.Span.{Span}
use Rattle.rp_value.specs.declared.tables.Ty.{Ty}
use Rattle.rp_value.specs.declared.tables.Ty.TheVariants as ty
use Rattle.rp_grammar.specs.Trees.{Ident, ExprTree, QueryTree, StepTrees, ArgTrees}
use Rattle.rp_lang.specs.Exprs.{Ex, Slot, OpTerm, Exs, no_ex, also_ex}
use Rattle.rp_lang.specs.Stmts.{St, New, ReturnWith, Put, Decide, Sts, also_st}
use Rattle.rp_lang.specs.Programs.{Prog}
use Rattle.rp_lang.specs.Flow.{sets}
use Rattle.rp_lang.specs.Bounds.{are_small_exs, is_small_ex}
use Rattle.rp_lang.specs.Typing.{Frame, have_types, op_args}
use Rattle.rp_lang.specs.Blocks.{are_stmts, behind, can_operate, is_return, is_stmt, plain_type, take_fields, takes}
use Rattle.type_rules.specs.declared.kind.Kind.{Kind}
use Rattle.type_rules.specs.Names.{Name, entry_named, same_name, text_of, type_named, type_number}
use Rattle.type_rules.specs.Kinds.{fits, named_kind}
use Rattle.type_rules.specs.Accesses.{Access, Var, args_of, find_var, of_entry, of_name}
use Rattle.type_rules.specs.ExprSites.{asks, expr_sites, given_sites, step_sites, way_from}
use Rattle.type_rules.specs.Rules.{is_fixed, is_id_type, is_made_wrong, is_other_type, is_statement}
use Rattle.type_rules.specs.Sites.{Scope}
use Rattle.type_rules.specs.Paths.{Member, is_operation}
use Rattle.rp_lang.specs.Typing.{is_get}
use Rattle.desugaring.specs.Objects.{Reached, follow, is_op_at, is_query_at}
use Rattle.desugaring.specs.Parts.{each}
use Rattle.desugaring.specs.Tables.{Tables, ty_of, up_from}
use Rattle.desugaring.specs.Values.{Value, append, term, formula, reads}
use Rattle.desugaring.specs.Callees.{Callee, Called, Stand, Vars, constructor, given, of_access, op_called, operation, outcome, procedure, question, stand, stand_named, use_of, value, variable, taking, located, member_at, on_root, query_called}
use Rattle.desugaring.specs.Statements.{Place, assigned, block_of_one, id_named, id_number, one_st, slot_for, slot_kinds}
use Rattle.desugaring.specs.Meanings.{Means}
use Rattle.desugaring.specs.Runs.{Assigns, Returns}
use Rattle.desugaring.specs.Limits.{some_in, some_term}
use Rattle.desugaring.proofs.Options.{both_there, map_there}
use Rattle.lawful.specs.Slots.{InSlots}
use Rattle.lawful.specs.Typed.{Gives}
use Rattle.lawful.proofs.Accessed.{Args, Keys}
use Rattle.lawful.proofs.Basics.{Looks, fits_one, known, split}
use Rattle.lawful.proofs.Calls.{first_types, joined, last_types}
use Rattle.lawful.proofs.Flows.{set_there}
use Rattle.lawful.proofs.Forms.{have, one, of_type}
use Rattle.lawful.proofs.Slotted.{Free, no_slot_below}
use Rattle.lawful.proofs.StmtFrames.{Body, Brought, HasSlot, Small, TypedVars, agree_is, apart_fine, assigned_fine, frame_in, here_type, over, plain_is, slot_same, slot_typed, takes_it, value_good, world}
use Rattle.lawful.proofs.StmtRows.{goes_on, one_fine, before_fine}
use Rattle.lawful.proofs.World.{In, Lawful}

-- the statements are well typed, and none but the last one of a block returns
pub record Fine (p : Prog) (f : Frame) (last : Bool) (sts : Sts) : Type 0 where
  pub are : are_stmts p f sts ≡ true
  pub on : last ≡ false → goes_on sts ≡ true

pub fine_one : (p : Prog) (f : Frame) (last : Bool) (st : St) → is_return st ≡ false → is_stmt p f st ≡ true → Fine p f last (one_st st)
fine_one p f last st on is = record { are = one_fine p f st is; on = λ h. ap (λ b. not b && true) on }

pub no_return : (at : Span) (slot : ℕ) (v : Value) → is_return (assigned at slot v) ≡ false
no_return at slot (term x) = refl
no_return at slot (formula h) = refl

-- outside `atomic`, and it reads
pub is_out : (inside reading : Bool) → (not inside && reading) ≡ true → inside ≡ false
is_out inside reading e = not-true inside (and_parts (not inside) reading e).0

-- # The variable that gets a value

pub record Aims (t : Tables) (slots : List Ty) (fixed : ℕ → Bool) (vars : List Var) (x : Name) (s : Stand Ex) (slot : ℕ) : Type 0 where
  pub of : Var
  pub named : find_var vars x ≡ Some of
  pub kind : of.kind ≡ s.kind
  pub unfixed : of.fixed ≡ false → fixed slot ≡ false
  pub has : HasSlot t slots s.kind slot

pub aims : (t : Tables) (slots : List Ty) (set fixed : ℕ → Bool) (vars : List Var) (vs : Vars) (x : Name) (s : Stand Ex) (slot : ℕ) → InSlots set fixed vars vs
    → TypedVars t slots vs → stand_named vs x ≡ Some s → slot_for s ≡ Some slot → Aims t slots fixed vars x s slot
aims t slots set fixed vars vs x s slot InSlots.nothing all named stands = absurd cc
aims t slots set fixed vars vs x s slot (InSlots.another {name} {kind} {has} {no_more} {slot = own} {vs = others} {ss = rest} told free more) all named stands =
    by_name (same_name name x) refl named (λ h. aims t slots set fixed others rest x s slot more all.1 h stands) where
      first : Var
      first = record { name = name; kind = kind; set = has; fixed = no_more }

      by_name : (same : Bool) → same_name name x ≡ same → cond same (Some (stand name kind (Slot own))) (stand_named rest x) ≡ Some s
          → (stand_named rest x ≡ Some s → Aims t slots fixed others x s slot)
          → Aims t slots fixed (record { name = name; kind = kind; set = has; fixed = no_more } ∷ others) x s slot
      by_name true is e next =
          let this : stand name kind (Slot own) ≡ s = one e in
          let at : own ≡ slot = one (ap slot_for this ∙ stands) in
          record {
            of = record { name = name; kind = kind; set = has; fixed = no_more };
            named = ap (λ b. cond b (Some (record { name = name; kind = kind; set = has; fixed = no_more })) (find_var others x)) is;
            kind = ap (λ (z : Stand Ex). z.kind) this;
            unfixed = λ h. subst (λ z. fixed z ≡ false) at (free h);
            has = subst (λ z. HasSlot t slots z slot) (ap (λ (z : Stand Ex). z.kind) this) (subst (HasSlot t slots kind) at (slot_same t slots name kind own all.0));
          }
      by_name false is e next =
          let r = next e in
          record {
            of = r.of;
            named = ap (λ b. cond b (Some (record { name = name; kind = kind; set = has; fixed = no_more })) (find_var others x)) is ∙ r.named;
            kind = r.kind;
            unfixed = r.unfixed;
            has = r.has;
          }

-- # Assignments

-- a slot that may take a value of the type
pub record Target (t : Tables) (w : Body t) (fixed : ℕ → Bool) (k : Kind) (s : Stand Ex) (slot : ℕ) : Type 0 where
  pub kind : s.kind ≡ k
  pub unfixed : fixed slot ≡ false
  pub has : HasSlot t w.slots k slot

assigned_there : (t : Tables) (w : Body t) (set fixed : ℕ → Bool) (b : ℕ) (vs : Vars) (sc : Scope) (k : Kind) (e : ExprTree) (at : Span) (s : Stand Ex) (slot : ℕ)
    (v : Value) (inside : Bool) → In t (world t w set fixed) [] vs sc → Lawful t (world t w set fixed) (expr_sites t.names sc (asks 23 k) e) → Target t w fixed k s slot
    → Means t b vs (Some s.kind) e v → (not inside && reads v) ≡ false → some_in (over w.p) (assigned at slot v) ≡ false
    → is_stmt w.p (frame_in t w set fixed inside) (assigned at slot v) ≡ true
assigned_there t w set fixed b vs sc k e at s slot v inside st kept target m near small =
    let g = world t w set fixed in
    let good = value_good t g b vs sc k e v target.has.0 target.has.2 (subst (λ z. Means t b vs (Some z) e v) target.kind m) st kept in
    assigned_fine t w set fixed inside at slot k v target.has target.unfixed good near small

pub assign_typed : (t : Tables) (w : Body t) (set fixed : ℕ → Bool) (b : ℕ) (p : Place) (vs : Vars) (at : Span) (x : Ident) (e : ExprTree) (sts : Sts)
    → Assigns t b p vs at x e sts → (sc : Scope) (k : Kind) → In t (world t w set fixed) [] vs sc
    → Lawful t (world t w set fixed) (expr_sites t.names sc (asks 23 k) e)
    → ((s : Stand Ex) (slot : ℕ) → stand_named vs (text_of x) ≡ Some s → slot_for s ≡ Some slot → Target t w fixed k s slot)
    → Small w.p sts → (last : Bool) → Fine w.p (frame_in t w set fixed p.inside_atomic) last sts
assign_typed t w set fixed b p vs at x e sts (Assigns.in_place {s = s} {slot = slot} {v = v} named stands m near) sc k st kept target small last =
    fine_one w.p (frame_in t w set fixed p.inside_atomic) last (assigned at slot v) (no_return at slot v)
    (assigned_there t w set fixed b vs sc k e at s slot v p.inside_atomic st kept (target s slot named stands) m near (or_parts _ _ small).0)
assign_typed t w set fixed b p vs at x e sts (Assigns.apart {s = s} {slot = slot} {v = v} named stands m out) sc k st kept target small last =
    fine_one w.p (frame_in t w set fixed p.inside_atomic) last (block_of_one at (assigned at slot v)) refl
    (apart_fine t w set fixed p.inside_atomic at (assigned at slot v) (is_out p.inside_atomic (reads v) out)
    (assigned_there t w set fixed b vs sc k e at s slot v true st kept (target s slot named stands) m refl (or_parts _ _ (or_parts _ _ small).0).0))

-- # New identifiers

pub then_there : {X Y : Type 0} (f : X → Option Y) (o : Option X) (y : Y) → option_and_then f o ≡ Some y → (x : X) × (o ≡ Some x) × (f x ≡ Some y)
then_there f None y e = absurd cc
then_there f (Some x) y e = (x, refl, e)

atom_of : (of : Ty) (n : ℕ) → id_number of ≡ Some n → of ≡ ty.Atom n
atom_of (ty.Atom m) n e = ap ty.Atom (one e)
atom_of ty.Int n e = absurd cc
atom_of ty.Str n e = absurd cc
atom_of (ty.Datatype m) n e = absurd cc
atom_of ty.Call n e = absurd cc
atom_of ty.Inv n e = absurd cc
atom_of ty.Operation n e = absurd cc
atom_of ty.Info n e = absurd cc
atom_of ty.Outcome n e = absurd cc

both_hold : (a b : Bool) → (a && b) ≡ false → a ≡ true → b ≡ false
both_hold true b e h = e
both_hold false b e h = absurd cc

pub new_typed : (t : Tables) (w : Body t) (set fixed : ℕ → Bool) (vars : List Var) (vs : Vars) (at : Span) (x id : Ident) (slot n : ℕ) (inside : Bool)
    → InSlots set fixed vars vs → TypedVars t w.slots vs → option_and_then slot_for (stand_named vs (text_of x)) ≡ Some slot
    → id_named t (text_of id) ≡ Some n → is_fixed (find_var vars (text_of x)) ≡ false → is_id_type (type_named t.names (text_of id)) ≡ true
    → is_made_wrong t.names (find_var vars (text_of x)) id ≡ false → is_stmt w.p (frame_in t w set fixed inside) (New at slot n) ≡ true
new_typed t w set fixed vars vs at x id slot n inside slots all found is unfixed_ is_id wrong =
    let s = then_there slot_for (stand_named vs (text_of x)) slot found in
    let aim = aims t w.slots set fixed vars vs (text_of x) s.0 slot slots all s.1 s.2 in
    let unfixed = aim.unfixed (subst (λ o. is_fixed o ≡ false) aim.named unfixed_) in
    let k = named_kind (type_number t.names (text_of id)) in
    let of = then_there id_number (ty_of t k) n is in
    let atom : ty_of t k ≡ Some (ty.Atom n) = of.1 ∙ ap Some (atom_of of.0 n of.2) in
    let other : is_other_type k (find_var vars (text_of x)) ≡ false = both_hold _ _ wrong is_id in
    let fit : fits aim.of.kind k ≡ true = not-false _ (subst (λ o. is_other_type k o ≡ false) aim.named other) in
    let same : s.0.kind ≡ k = fits_one s.0.kind k (known t s.0.kind aim.has.0 aim.has.2) (known t k (ty.Atom n) atom) (subst (λ z. fits z k ≡ true) aim.kind fit) in
    let here : aim.has.0 ≡ ty.Atom n = one (sym aim.has.2 ∙ ap (ty_of t) same ∙ atom) in
    let f = frame_in t w set fixed inside in
    and_from (takes f slot (Some (ty.Atom n))) _ (takes_it f slot (Some (ty.Atom n)) aim.has.0 unfixed aim.has.1 (ap Some (sym here))) (w.ids (text_of id) n is is_id)

-- # Operations

-- only an operation gives the term of one
record Operated (t : Tables) (p : Prog) (f : Frame) (what : Callee Ex) (es : Exs) (op : ℕ) (args : Exs) : Type 0 where
  pub is : what ≡ operation op
  pub within : nat_lt op (length p.ops) ≡ true
  pub fit : have_types p f [] (op_args (slice_get p.ops op)) args ≡ true

abbrev operation_of : Ex → ℕ
operation_of (OpTerm op args) = op
operation_of _ = 0

abbrev arguments_of : Ex → Exs
arguments_of (OpTerm op args) = args
arguments_of _ = no_ex

abbrev term_of : Value → Ex
term_of (term x) = x
term_of (formula h) = Slot 0

operated : (t : Tables) (p : Prog) (words : ℕ → Bool) (f : Frame) (tys : List Ty) (acc : Access) (c : Called Ex) (what : Callee Ex) (es : Exs) (op : ℕ) (args : Exs)
    → Gives t p words tys acc c what → given what es ≡ Some (term (OpTerm op args)) → have_types p f [] tys es ≡ true → Operated t p f what es op args
operated t p words f tys acc c (variable e) es op args gives is have_ = absurd gives
operated t p words f tys acc c (constructor n) es op args gives is have_ = absurd cc
operated t p words f tys acc c (use_of k q) es op args gives is have_ = absurd cc
operated t p words f tys acc c (procedure n) es op args gives is have_ = absurd cc
operated t p words f tys acc c (outcome n) no_ex op args gives is have_ = absurd cc
operated t p words f tys acc c (outcome n) (also_ex x no_ex) op args gives is have_ = absurd cc
operated t p words f tys acc c (outcome n) (also_ex x (also_ex y ys)) op args gives is have_ = absurd cc
operated t p words f tys acc c (question n) es op args gives is have_ = absurd cc
operated t p words f tys acc c (value n) es op args gives is have_ = absurd cc
operated t p words f tys acc c (operation n) es op args gives is have_ =
    let number : n ≡ op = ap (λ z. operation_of (term_of z)) (one is) in
    let same : es ≡ args = ap (λ z. arguments_of (term_of z)) (one is) in
    record {
      is = ap operation number;
      within = subst (λ z. nat_lt z (length p.ops) ≡ true) number gives.4;
      fit = subst (λ z. have_types p f [] (op_args (slice_get p.ops z)) args ≡ true) number
          (subst (λ z. have_types p f [] (op_args (slice_get p.ops n)) z ≡ true) same (subst (λ z. have_types p f [] z es ≡ true) (sym gives.5) have_));
    }

abbrev called_number : Callee Ex → ℕ
called_number (operation n) = n
called_number _ = 0

no_operation : (get : Bool) (n op : ℕ) → cond {A = Callee Ex} get (value n) (question n) ≡ operation op → nat_lt 0 op ≡ true
no_operation true n op e = absurd cc
no_operation false n op e = absurd cc

-- an operation of a root isn't `tx`
counted : (t : Tables) (vs : Vars) (x : Ident) (steps : StepTrees) (acc : Access) (c : Called Ex) (op : ℕ) → of_access t vs x steps acc ≡ Some c
    → c.what ≡ operation op → nat_lt 0 op ≡ true
counted t vs x steps Access.unknown c op found is = absurd cc
counted t vs x steps (Access.misfit at) c op found is = absurd cc
counted t vs x steps (Access.variable v) c op found is =
    map_there (λ z. z.what ≡ operation op → nat_lt 0 op ≡ true) (λ (s : Stand Ex). taking [] [] (variable s.known)) (stand_named vs (text_of x)) c found
    (λ s e h. absurd cc) is
counted t vs x steps (Access.constructor type k) c op found is =
    map_there (λ z. z.what ≡ operation op → nat_lt 0 op ≡ true) _ _ c found (λ n e h. absurd cc) is
counted t vs x steps (Access.use_of k q) c op found is = absurd cc
counted t vs x steps (Access.procedure q) c op found is =
    map_there (λ z. z.what ≡ operation op → nat_lt 0 op ≡ true) _ _ c found (λ n e h. absurd cc) is
counted t vs x steps (Access.returned q) c op found is =
    map_there (λ z. z.what ≡ operation op → nat_lt 0 op ≡ true) _ _ c found (λ n e h. absurd cc) is
counted t vs x steps (Access.member m) c op found is =
    let root = then_there (on_root t m steps) (located (λ r. same_name r.name (text_of x)) t.roots) c found in
    let reached = then_there (member_at t m root.0.0) (follow t.names steps root.0.1.crdt) c root.2 in
    by_kind t m root.0.0 reached.0 c op (is_operation m.does) reached.2 is where
      by_kind : (t : Tables) (m : Member) (root : ℕ) (r : Reached) (c : Called Ex) (op : ℕ) (does : Bool)
          → cond does (option_map op_called (located (is_op_at root r) t.ops)) (option_map query_called (located (is_query_at root r) t.queries)) ≡ Some c
          → c.what ≡ operation op → nat_lt 0 op ≡ true
      by_kind t m root r c op true found is =
          map_there (λ z. z.what ≡ operation op → nat_lt 0 op ≡ true) op_called (located (is_op_at root r) t.ops) c found
          (λ o e h. subst (λ n. nat_lt 0 n ≡ true) (ap called_number h) (lt-ltb 0 (o.0 + 1) (omega arith))) is
      by_kind t m root r c op false found is =
          map_there (λ z. z.what ≡ operation op → nat_lt 0 op ≡ true) query_called (located (is_query_at root r) t.queries) c found
          (λ q e h. no_operation (is_get q.1.own.kind) q.0 op h) is

small_args : (p : Prog) (es : Exs) → some_term (over p) es ≡ false → are_small_exs es ≡ true
small_args p no_ex e = refl
small_args p (also_ex x es) e = let h = or_parts (not (is_small_ex x)) (some_term (over p) es) e in and_from _ _ (not-false _ h.0) (small_args p es h.1)

pub can_here : (t : Tables) (w : Body t) (set fixed : ℕ → Bool) (inside : Bool) (op : ℕ) (args : Exs) → inside ≡ true → nat_lt 0 op ≡ true
    → nat_lt op (length w.p.ops) ≡ true → have_types w.p (frame_in t w set fixed true) [] (op_args (slice_get w.p.ops op)) args ≡ true
    → some_term (over w.p) args ≡ false → can_operate w.p (frame_in t w set fixed inside) op args ≡ true
can_here t w set fixed true op args in_ some_ within fit small =
    and_from _ _ (and_from _ _ (and_from (nat_lt 0 op) _ some_ within) (small_args w.p args small)) fit
can_here t w set fixed false op args in_ some_ within fit small = absurd cc

pub operate_typed : (t : Tables) (w : Body t) (set fixed : ℕ → Bool) (vs : Vars) (x : Ident) (steps : StepTrees) (args : ArgTrees) (c : Called Ex) (keys es : Exs)
    (op : ℕ) (own : Exs) (inside : Bool) (sc : Scope) → In t (world t w set fixed) [] vs sc → (o : Option Var) (s : Option (Stand Ex)) (u : Option Var)
    → Looks t w.p (frame_in t w set fixed true) [] o s u → TypedVars t w.slots vs → stand_named vs (text_of x) ≡ s
    → of_access t vs x steps (of_name t.names x steps u) ≡ Some c
    → Keys t (world t w set fixed) [] vs c.keys steps keys sc → Args t (world t w set fixed) [] vs c.args args es sc
    → given c.what (append keys es) ≡ Some (term (OpTerm op own)) → is_statement (of_name t.names x steps o) ≡ true
    → Lawful t (world t w set fixed) (step_sites t.names sc (way_from t.names o x) steps ++ given_sites t.names sc (args_of t.names (of_name t.names x steps o)) args)
    → inside ≡ true → some_term (over w.p) own ≡ false → can_operate w.p (frame_in t w set fixed inside) op own ≡ true
operate_typed t w set fixed vs x StepTrees.no_steps args c keys es op own inside sc st o s u (Looks.there is) all named found ks as_ gives stands kept in_ small = absurd cc
operate_typed t w set fixed vs x (StepTrees.more_steps step steps) args c keys es op own inside sc st o s u (Looks.there is) all named found ks as_ gives stands kept in_ small = absurd cc
operate_typed t w set fixed vs x steps args c keys es op own inside sc st o s u Looks.nowhere all named found ks as_ gives stands kept in_ small =
    let g = world t w set fixed in
    let call = w.tied.call vs x steps c found in
    let parts = split t.names w.words _ _ kept in
    let first = first_types t c.keys c.args call.tys call.are in
    let last = last_types t c.keys c.args call.tys call.are in
    let sites = subst (λ z. Lawful t g (given_sites t.names sc z args)) (sym call.args) parts.1 in
    let are = joined t w.p g.f [] c.keys c.args keys es (ks _ call.along first.0 first.1 st parts.0) (as_ last.0 last.1 st sites) in
    let acc = of_entry t.names x steps (entry_named t.names (text_of x)) in
    let is = operated t w.p w.words g.f call.tys acc c c.what (append keys es) op own call.gives gives
    (have t w.p g.f [] (c.keys ++ c.args) call.tys (append keys es) call.are are) in
    can_here t w set fixed inside op own in_ (counted t vs x steps acc c op found is.is) is.within is.fit small

-- the use of a query is no statement
pub no_use_there : (t : Tables) (w : Body t) (f : Frame) (vs : Vars) (x : Ident) (steps : StepTrees) (c : Called Ex) (k : ℕ) (q : QueryTree)
    (o : Option Var) (s : Option (Stand Ex)) (u : Option Var) → Looks t w.p f [] o s u → stand_named vs (text_of x) ≡ s
    → of_access t vs x steps (of_name t.names x steps u) ≡ Some c → c.what ≡ use_of k q → is_statement (of_name t.names x steps o) ≡ true → ⊥
no_use_there t w f vs x StepTrees.no_steps c k q o s u (Looks.there is) named found what stands = absurd cc
no_use_there t w f vs x (StepTrees.more_steps step steps) c k q o s u (Looks.there is) named found what stands = absurd cc
no_use_there t w f vs x steps c k (QueryTree.query name params result body) o s u Looks.nowhere named found what stands =
    let acc = of_entry t.names x steps (entry_named t.names (text_of x)) in
    let call = w.tied.call vs x steps c found in
    let told : Gives t w.p w.words call.tys acc c (use_of k (QueryTree.query name params result body)) = subst (Gives t w.p w.words call.tys acc c) what call.gives in
    true≢false (sym stands ∙ ap is_statement told.0)

-- # Returns

-- a value that went through a hidden slot
through : (t : Tables) (w : Body t) (set fixed : ℕ → Bool) (at : Span) (next : ℕ) (k : Kind) (first : St) (of : Ty) → is_return first ≡ false
    → is_stmt w.p (frame_in t w set fixed false) first ≡ true → sets next first ≡ true → HasSlot t w.slots k next → ty_of t k ≡ Some of
    → w.result ≡ Some of → are_stmts w.p (frame_in t w set fixed false) (also_st first (one_st (ReturnWith at (Slot next)))) ≡ true
through t w set fixed at next k first of on is sets_ has kind result =
    let f = frame_in t w set fixed false in
    let then_ = behind first f in
    let here : has.0 ≡ of = one (sym has.2 ∙ kind) in
    before_fine w.p f first (one_st (ReturnWith at (Slot next))) on is
    (one_fine w.p then_ (ReturnWith at (Slot next))
    (agree_is (plain_type w.p then_ (Slot next)) w.result of
    (plain_is w.p then_ (Slot next) of refl (slot_typed w.p then_ [] next of (or_right (set next) _ sets_) (has.1 ∙ ap Some here))) result))

pub return_typed : (t : Tables) (w : Body t) (set fixed : ℕ → Bool) (b : ℕ) (vs : Vars) (next : ℕ) (at : Span) (k : Kind) (e : ExprTree) (sts : Sts) (ks : List Kind)
    → Returns t b vs next at k e sts ks → (sc : Scope) → In t (world t w set fixed) [] vs sc
    → Lawful t (world t w set fixed) (expr_sites t.names sc (asks 23 k) e) → (of : Ty) → ty_of t k ≡ Some of → w.result ≡ Some of
    → fixed next ≡ false → Brought t w.slots next ks → Small w.p sts → are_stmts w.p (frame_in t w set fixed false) sts ≡ true
return_typed t w set fixed b vs next at k e sts ks (Returns.of_term {x = x} m near) sc st kept of kind result unfixed brought small =
    let g = world t w set fixed in
    let f = frame_in t w set fixed false in
    let good = value_good t g b vs sc k e (term x) of kind m st kept in
    one_fine w.p f (ReturnWith at x)
    (agree_is (plain_type w.p f x) w.result of
    (plain_is w.p f x of (or_parts _ _ small).0 (here_type t w set fixed false x of near (of_type t w.p g.f [] k x of good.typed kind))) result)
return_typed t w set fixed b vs next at k e sts ks (Returns.of_reading_term {x = x} m reading) sc st kept of kind result unfixed brought small =
    let g = world t w set fixed in
    let good = value_good t g b vs sc k e (term x) of kind m st kept in
    through t w set fixed at next k (block_of_one at (Put at next x)) of refl
    (apart_fine t w set fixed false at (Put at next x) refl
    (assigned_fine t w set fixed true at next k (term x) brought.0 unfixed good refl (or_parts _ _ (or_parts _ _ small).0).0))
    (or_left _ _ (set_there at next (term x))) brought.0 kind result
return_typed t w set fixed b vs next at k e sts ks (Returns.of_formula {f = h} m near) sc st kept of kind result unfixed brought small =
    let g = world t w set fixed in
    let good = value_good t g b vs sc k e (formula h) of kind m st kept in
    through t w set fixed at next k (Decide at next h) of refl
    (assigned_fine t w set fixed false at next k (formula h) brought.0 unfixed good near (or_parts _ _ small).0)
    (set_there at next (formula h)) brought.0 kind result
return_typed t w set fixed b vs next at k e sts ks (Returns.of_reading_formula {f = h} m reading) sc st kept of kind result unfixed brought small =
    let g = world t w set fixed in
    let good = value_good t g b vs sc k e (formula h) of kind m st kept in
    through t w set fixed at next k (block_of_one at (Decide at next h)) of refl
    (apart_fine t w set fixed false at (Decide at next h) refl
    (assigned_fine t w set fixed true at next k (formula h) brought.0 unfixed good refl (or_parts _ _ (or_parts _ _ small).0).0))
    (or_left _ _ (set_there at next (formula h))) brought.0 kind result

-- # Fields of arms

pub takes_fields : (t : Tables) (f : Frame) (next : ℕ) (xs : List Ident) (ks : List Kind) (fields : List Ty) → length ks ≡ length xs
    → each (ty_of t) ks ≡ Some fields → Brought t f.slots next (slot_kinds xs ks) → Free f.fixed next → take_fields f (up_from next (length xs)) fields ≡ true
takes_fields t f next [] [] fields long are brought free = subst (λ z. take_fields f [] z ≡ true) (one are) refl
takes_fields t f next [] (k ∷ ks) fields long are brought free = absurd (omega (arith, long))
takes_fields t f next (x ∷ xs) [] fields long are brought free = absurd (omega (arith, long))
takes_fields t f next (x ∷ xs) (k ∷ ks) fields long are brought free =
    both_there (λ z. take_fields f (up_from next (length (x ∷ xs))) z ≡ true) ◌∷◌ (ty_of t k) (each (ty_of t) ks) fields are
    (λ of ofs i j.
    let first = no_slot_below next (next + 1) (length xs) (omega arith) in
    let here : brought.0.0 ≡ of = one (sym brought.0.2 ∙ i) in
    and_from _ _ (and_from _ _ (ap not first) (takes_it f next (Some of) brought.0.0 (free next (omega arith)) brought.0.1 (ap Some (sym here))))
    (takes_fields t f (next + 1) xs ks ofs (omega (arith, long)) j brought.1 (λ s least. free s (omega (arith, least)))))
