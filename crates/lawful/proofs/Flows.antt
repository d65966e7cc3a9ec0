-- Which variables have a value, by the type rules, have a slot that is set.
use Rattle.std.proofs.Common.{◌≡◌, ◌+◌, ◌≤◌, ℕ, Bool, true, false, not, ◌&&◌, ◌||◌, List, [], ◌∷◌, ◌++◌, length, take, Option, Some, None, refl, ap, subst, sym, ◌∙◌, arith, inl, inr}
use Rattle.std.specs.Prelude.{option_and_then}
use Rattle.std.specs.List.{AllByRecursion}
use Rattle.std.proofs.lemmas.Bool.{and_from, eq-eqb, not-true, or_left, or_parts, or_right}
use Rattle.std.proofs.lemmas.Cmp.{nat_list_eq_equiv}
use Rattle.std.proofs.lemmas.List.{append-nil, append_assoc}
use Rattle.rp_span.specs.declared.Span.{Span}
use Rattle.rp_grammar.specs.Trees.{Ident, ExprTree, PatternTree, BlockTree, StmtTree, StmtForm, StmtTrees, ElseTree, BlockArmTrees}
use Rattle.rp_lang.specs.Exprs.{Ex, Slot}
use Rattle.rp_lang.specs.Formulas.{Fo, Holds}
use Rattle.rp_lang.specs.Stmts.{St, Put, If, Match, Atomic, Sts, no_st, also_st, StArms, also_st_arm}
use Rattle.rp_lang.specs.Flow.{sets, all_set, arms_set}
use Rattle.rp_lang.specs.Blocks.{is_slot}
use Rattle.rp_grammar.proofs.Formed.{FormedStmt, FormedBlock, FormedStmts, FormedElse, FormedBlockArms}
use Rattle.rp_grammar.proofs.FormedTexts.{Lexable}
use Rattle.type_rules.specs.declared.kind.Kind.{Kind}
use Rattle.type_rules.specs.Names.{Name, Names, text_of}
use Rattle.type_rules.specs.Kinds.{kind_of}
use Rattle.type_rules.specs.Accesses.{Var}
use Rattle.type_rules.specs.Typing.{type_of}
use Rattle.type_rules.specs.Sites.{Site}
use Rattle.type_rules.specs.Matches.{pattern_vars, pattern_name, pattern_kinds, bound_sites}
use Rattle.type_rules.specs.ExprSites.{bool_whole, matched, expr_sites}
use Rattle.type_rules.specs.Flow as flow
use Rattle.type_rules.specs.Flow.{Sight, after, after_stmts, after_block, after_else, after_arms}
use Rattle.type_rules.specs.StmtSites.{Frame, scope_in, before_stmts, is_last, stmt_sites, block_sites, stmts_sites, else_sites, arm_sites}
use Rattle.type_rules.specs.Rules.{rule, rules, rule15, is_var, is_taken}
use Rattle.desugaring.specs.Tables.{Tables, up_from}
use Rattle.desugaring.specs.Values.{Value, term, formula, as_formula}
use Rattle.desugaring.specs.Callees.{Vars, Stand, stand, stand_named}
use Rattle.desugaring.specs.Statements.{Place, one_st, append, assigned, block_of_one, slot_for, slotted, behind, in_pattern}
use Rattle.desugaring.specs.Runs.{Assigns, Runs, BlockRuns, AllRun, ElseRuns, ArmsRun}
use Rattle.lawful.specs.Slots.{InSlots}
use Rattle.lawful.proofs.Basics.{when_not}
use Rattle.lawful.proofs.Forms.{one}
use Rattle.lawful.proofs.Places.{Lawfully, all_parts, is_one_of}
use Rattle.lawful.proofs.Alike.{alike_type}
use Rattle.lawful.proofs.SlotLaws.{Grows, IsSlotOf, slots_more, slots_give, slots_both, slots_dead, slots_leave}
use Rattle.lawful.proofs.Slotted.{Slotted, Free, slotted_more, slotted_push, slots_alike, slots_length, slots_push, unnamed, named_last, no_slot_above, slot_within, slots_bound, slotted_is, bound_slotted, slots_into, slots_out}
use Rattle.lawful.proofs.Ends.{Dies, set_append, value_returns, stmt_dies}

-- what holds at a statement
pub record Here (set fixed : ℕ → Bool) (g : Sight) (vs : Vars) (next : ℕ) : Type 0 where
  pub slots : InSlots set fixed g.vars vs
  pub dead : g.live ≡ false → (s : ℕ) → set s ≡ true
  pub below : Slotted next vs
  pub free : Free fixed next

-- the slots that are set behind the statements
abbrev pub With : (ℕ → Bool) → Sts → ℕ → Bool
With set sts j = set j || all_set j sts

abbrev pub Laws : Names → List Site → Type 0
Laws n ss = AllByRecursion (Lawfully n) ss

pub here_later : (set fixed : ℕ → Bool) (g : Sight) (vs : Vars) (next further : ℕ) → next ≤ further → Here set fixed g vs next → Here set fixed g vs further
here_later set fixed g vs next further h here = record {
  slots = here.slots;
  dead = here.dead;
  below = slotted_more next further vs h here.below;
  free = λ s least. here.free s (omega (arith, h, least));
}

grows_with : (set : ℕ → Bool) (sts : Sts) → Grows set (With set sts)
grows_with set sts s h = or_left (set s) (all_set s sts) h

-- # Assignments

pub set_there : (at : Span) (slot : ℕ) (v : Value) → sets slot (assigned at slot v) ≡ true
set_there at slot (term x) = eq-eqb slot slot refl
set_there at slot (formula f) = eq-eqb slot slot refl

-- an assignment gives the variable's slot a value
pub record IsAssigned (vs : Vars) (x : Ident) (sts : Sts) : Type 0 where
  pub of : Stand Ex
  pub slot : ℕ
  pub named : stand_named vs (text_of x) ≡ Some of
  pub stands : slot_for of ≡ Some slot
  pub set : all_set slot sts ≡ true

assigns_set : (t : Tables) (b : ℕ) (p : Place) (vs : Vars) (at : Span) (x : Ident) (e : ExprTree) (sts : Sts) → Assigns t b p vs at x e sts → IsAssigned vs x sts
assigns_set t b p vs at x e sts (Assigns.in_place {s = s} {slot = slot} {v = v} named stands m none) =
    record { of = s; slot = slot; named = named; stands = stands; set = or_left (sets slot (assigned at slot v)) false (set_there at slot v) }
assigns_set t b p vs at x e sts (Assigns.apart {s = s} {slot = slot} {v = v} named stands m some_) = record {
  of = s;
  slot = slot;
  named = named;
  stands = stands;
  set = or_left (sets slot (block_of_one at (assigned at slot v))) false (or_left (sets slot (assigned at slot v)) false (set_there at slot v));
}

assigned_flow : (set fixed : ℕ → Bool) (x : Ident) (vars : List Var) (vs : Vars) (sts : Sts) → IsAssigned vs x sts → InSlots set fixed vars vs
    → InSlots (With set sts) fixed (flow.give (text_of x) vars) vs
assigned_flow set fixed x vars vs sts is slots =
    slots_give set (With set sts) fixed (text_of x) is.slot vars vs (grows_with set sts) (or_right (set is.slot) (all_set is.slot sts) is.set)
    (subst (λ o. IsSlotOf o is.slot) (sym is.named) is.stands) slots

slot_is : (o : Option (Stand Ex)) (slot : ℕ) → option_and_then slot_for o ≡ Some slot → IsSlotOf o slot
slot_is None slot e = absurd cc
slot_is (Some s) slot e = e

-- a variable that is declared with a value
declared_flow : (set fixed : ℕ → Bool) (g : Sight) (vs : Vars) (next : ℕ) (x : Ident) (kind : Kind) (sts : Sts) (has : Bool) → Here set fixed g vs next
    → (has ≡ true → With set sts next ≡ true)
    → InSlots (With set sts) fixed (g.vars ++ record { name = text_of x; kind = kind; set = has; fixed = false } ∷ []) (vs ++ stand (text_of x) kind (Slot next) ∷ [])
declared_flow set fixed g vs next x kind sts has here told =
    slots_push (With set sts) fixed g.vars vs (text_of x) kind has false next told (λ h. here.free next (omega arith))
    (slots_more set (With set sts) fixed g.vars vs (grows_with set sts) here.slots)

own_slot : (set fixed : ℕ → Bool) (g : Sight) (vs : Vars) (next : ℕ) (x : Ident) (kind : Kind) (n : Names) (sts : Sts) → Here set fixed g vs next
    → Lawfully n (Site.declares g.vars x) → IsAssigned (vs ++ stand (text_of x) kind (Slot next) ∷ []) x sts → With set sts next ≡ true
own_slot set fixed g vs next x kind n sts here law is =
    let unseen = (or_parts (is_var g.vars x) (is_taken n x) (when_not _ _ (law (rule 15 rule15) (is_one_of rules 14 _ refl)))).0 in
    let none = unnamed set fixed g.vars vs (text_of x) unseen here.slots in
    let s = stand (text_of x) kind (Slot next) in
    let last = named_last vs s (text_of x) none (nat_list_eq_equiv.refl (text_of x)) in
    let same : s ≡ is.of = one (sym last ∙ is.named) in
    let slot : next ≡ is.slot = one (ap slot_for same ∙ is.stands) in
    or_right (set next) (all_set next sts) (subst (λ z. all_set z sts ≡ true) (sym slot) is.set)

-- # Branches

meets : (a b c : Bool) → (a || b) ≡ true → (a || c) ≡ true → (a || (b && c)) ≡ true
meets true b c e h = refl
meets false b c e h = and_from b c e h

wider : (a b c : Bool) → (b ≡ true → c ≡ true) → (a || b) ≡ true → (a || c) ≡ true
wider true b c f e = refl
wider false b c f e = f e

pub either_false : (a b : Bool) → a ≡ false → b ≡ false → (a || b) ≡ false
either_false true b e h = absurd cc
either_false false b e h = h

both_flow : (set fixed : ℕ → Bool) (at : Span) (f : Fo) (first second : Sts) (vars others : List Var) (vs : Vars)
    → InSlots (With set first) fixed vars vs → InSlots (With set second) fixed others vs
    → InSlots (With set (one_st (If at f first second))) fixed (flow.both vars others) vs
both_flow set fixed at f first second vars others vs left right =
    slots_both (With set first) (With set second) (With set (one_st (If at f first second))) fixed vars others vs
    (λ s e h. wider (set s) (all_set s first && all_set s second) (all_set s (one_st (If at f first second)))
    (λ is. or_left (all_set s first && all_set s second) false is) (meets (set s) (all_set s first) (all_set s second) e h)) left right

later_flow : (set fixed : ℕ → Bool) (st : St) (rest : Sts) (vars : List Var) (vs : Vars) → InSlots (With set rest) fixed vars vs
    → InSlots (With set (also_st st rest)) fixed vars vs
later_flow set fixed st rest vars vs slots =
    slots_more (With set rest) (With set (also_st st rest)) fixed vars vs
    (λ s h. wider (set s) (all_set s rest) (all_set s (also_st st rest)) (λ is. or_right (sets s st) (all_set s rest) is) h) slots

-- one statement that sets what its parts set
one_flow : (set fixed part : ℕ → Bool) (st : St) (vars : List Var) (vs : Vars) → ((s : ℕ) → part s ≡ sets s st)
    → InSlots (λ s. set s || part s) fixed vars vs → InSlots (With set (one_st st)) fixed vars vs
one_flow set fixed part st vars vs same slots =
    slots_more (λ s. set s || part s) (With set (one_st st)) fixed vars vs
    (λ s h. wider (set s) (part s) (all_set s (one_st st)) (λ is. or_left (sets s st) false (sym (same s) ∙ is)) h) slots

-- # Statements in a row

pub is_if : (n : Names) (vs : Vars) (next : ℕ) (s : StmtTree) → FormedElse Lexable (ElseTree.else_if s) → FormedStmt Lexable s × (behind n vs next s ≡ vs)
is_if n vs next (StmtTree.node at (StmtForm.if_ e b other)) h = (h, refl)
is_if n vs next (StmtTree.node at _) h = absurd h

-- a declared variable stands last
pub behind_is : (n : Names) (vs : Vars) (next : ℕ) (s : StmtTree) → (own : Vars) × (behind n vs next s ≡ vs ++ own)
behind_is n vs next (StmtTree.node at (StmtForm.var x ty e)) = (stand (text_of x) (kind_of n ty) (Slot next) ∷ [], refl)
behind_is n vs next (StmtTree.node at _) = ([], sym (append-nil vs))

behind_slotted : (t : Tables) (b : ℕ) (p : Place) (vs : Vars) (next : ℕ) (s : StmtTree) (sts : Sts) (ks : List Kind) → Runs t b p vs next s sts ks
    → Slotted next vs → Slotted (next + length ks) (behind t.names vs next s)
behind_slotted t b p vs next (StmtTree.node at (StmtForm.var x ty None)) sts ks Runs.declares below =
    slotted_push (next + 1) next vs (text_of x) (kind_of t.names ty) (omega arith) (slotted_more next (next + 1) vs (omega arith) below)
behind_slotted t b p vs next (StmtTree.node at (StmtForm.var x ty (Some e))) sts ks (Runs.declares_with a) below =
    slotted_push (next + 1) next vs (text_of x) (kind_of t.names ty) (omega arith) (slotted_more next (next + 1) vs (omega arith) below)
behind_slotted t b p vs next (StmtTree.node at _) sts ks run below = slotted_more next (next + length ks) vs (omega arith) below

pub row_here : (t : Tables) (b : ℕ) (p : Place) (vs : Vars) (next : ℕ) (s : StmtTree) (sts : Sts) (ks : List Kind) → Runs t b p vs next s sts ks
    → (set fixed : ℕ → Bool) (g : Sight) → Here set fixed g vs next → InSlots (With set sts) fixed (after t.names g s).vars (behind t.names vs next s)
    → Here (With set sts) fixed (after t.names g s) (behind t.names vs next s) (next + length ks)
row_here t b p vs next s sts ks run set fixed g here slots = record {
  slots = slots;
  dead = λ none j. by_end set sts g j here.dead (stmt_dies t b p vs next s sts ks run g none);
  below = behind_slotted t b p vs next s sts ks run here.below;
  free = λ j least. here.free j (omega (arith, least));
} where
  by_end : (set : ℕ → Bool) (sts : Sts) (g : Sight) (j : ℕ) → (g.live ≡ false → (s : ℕ) → set s ≡ true) → Dies g sts → With set sts j ≡ true
  by_end set sts g j dead (inl none) = or_left (set j) (all_set j sts) (dead none j)
  by_end set sts g j dead (inr ends) = or_right (set j) (all_set j sts) (ends.0 j)

row_flow : (set fixed : ℕ → Bool) (first rest : Sts) (vars : List Var) (vs : Vars) → InSlots (With (With set first) rest) fixed vars vs
    → InSlots (With set (append first rest)) fixed vars vs
row_flow set fixed first rest vars vs slots =
    slots_more (With (With set first) rest) (With set (append first rest)) fixed vars vs
    (λ s h. ap (λ b. set s || b) (set_append s first rest) ∙ three (set s) (all_set s first) (all_set s rest) ∙ h) slots where
      three : (a b c : Bool) → (a || (b || c)) ≡ (a || b || c)
      three true b c = refl
      three false b c = refl

-- # Arms

pub arm_here : (set fixed : ℕ → Bool) (n : Names) (g : Sight) (vs : Vars) (next : ℕ) (k seen : Kind) (q : PatternTree) → seen ≡ k → Here set fixed g vs next
    → Here (λ s. is_slot s (up_from next (length (pattern_vars q))) || set s) (λ s. is_slot s (up_from next (length (pattern_vars q))) || fixed s)
    (flow.in_pattern n g seen q) (in_pattern n vs next k q) (next + length (pattern_vars q))
arm_here set fixed n g vs next k seen q same here =
    let xs = pattern_vars q in
    let many = length xs in
    let set_ : ℕ → Bool = λ s. is_slot s (up_from next many) || set s in
    let fixed_ : ℕ → Bool = λ s. is_slot s (up_from next many) || fixed s in
    let kinds : pattern_kinds n seen (pattern_name q) ≡ pattern_kinds n k (pattern_name q) = ap (λ z. pattern_kinds n z (pattern_name q)) same in
    record {
      slots = subst (λ ks. InSlots set_ fixed_ (flow.in_pattern n g seen q).vars (slotted vs next xs ks)) kinds
          (slots_bound set_ fixed_ g.vars vs next xs (pattern_kinds n seen (pattern_name q))
          (λ s least less. or_left (is_slot s (up_from next many)) (set s) (slot_within s next many least less))
          (slots_into set fixed next many g.vars vs here.below here.slots));
      dead = λ none s. or_right (is_slot s (up_from next many)) (set s) (here.dead none s);
      below = bound_slotted vs next xs (pattern_kinds n k (pattern_name q)) here.below;
      free = λ s least. either_false (is_slot s (up_from next many)) (fixed s) (no_slot_above s next many least) (here.free s (omega (arith, least)));
    }

-- behind an arm, whose own variables stand last
arm_left : (set fixed : ℕ → Bool) (n : Names) (g : Sight) (vs : Vars) (next : ℕ) (k : Kind) (q : PatternTree) (body : Sts) (vars : List Var)
    → Here set fixed g vs next
    → InSlots (λ s. is_slot s (up_from next (length (pattern_vars q))) || set s || all_set s body)
    (λ s. is_slot s (up_from next (length (pattern_vars q))) || fixed s) vars (in_pattern n vs next k q)
    → InSlots (With set body) fixed (take (length g.vars) vars) vs
arm_left set fixed n g vs next k q body vars here slots =
    let many = length (pattern_vars q) in
    let set_ : ℕ → Bool = λ s. is_slot s (up_from next many) || set s || all_set s body in
    let fixed_ : ℕ → Bool = λ s. is_slot s (up_from next many) || fixed s in
    let own = slotted_is vs next (pattern_vars q) (pattern_kinds n k (pattern_name q)) in
    slots_out set fixed (λ s. all_set s body) next many (take (length g.vars) vars) vs here.below
    (subst (λ m. InSlots set_ fixed_ (take m vars) vs) (sym (slots_length set fixed g.vars vs here.slots))
    (slots_leave set_ fixed_ vars vs own.0 (subst (InSlots set_ fixed_ vars) own.1 slots)))

arms_meet : (set fixed : ℕ → Bool) (con : ℕ) (slots_ : List ℕ) (body : Sts) (rest : StArms) (vars others : List Var) (vs : Vars)
    → InSlots (With set body) fixed vars vs → InSlots (λ s. set s || arms_set s rest) fixed others vs
    → InSlots (λ s. set s || arms_set s (also_st_arm con slots_ body rest)) fixed (flow.both vars others) vs
arms_meet set fixed con slots_ body rest vars others vs left right =
    slots_both (With set body) (λ s. set s || arms_set s rest) (λ s. set s || arms_set s (also_st_arm con slots_ body rest)) fixed vars others vs
    (λ s e h. meets (set s) (all_set s body) (arms_set s rest) e h) left right

-- # The induction

mutual
  pub stmt_flow : (t : Tables) (b : ℕ) (p : Place) (vs : Vars) (next : ℕ) (s : StmtTree) (sts : Sts) (ks : List Kind) → Runs t b p vs next s sts ks
      → (f : Frame) (g : Sight) (last : Bool) → FormedStmt Lexable s → Laws t.names (stmt_sites t.names f g last s)
      → (set fixed : ℕ → Bool) → Here set fixed g vs next → InSlots (With set sts) fixed (after t.names g s).vars (behind t.names vs next s)
  stmt_flow t b p vs next s sts ks (Runs.declares {x = x} {ty = ty}) f g last formed laws set fixed here =
      declared_flow set fixed g vs next x (kind_of t.names ty) no_st (not g.live) here
      (λ h. or_left (set next) false (here.dead (not-true g.live h) next))
  stmt_flow t b p vs next s sts ks (Runs.declares_with {at = at} {x = x} {ty = ty} {e = e} {sts = sts_} a) f g last formed laws set fixed here =
      let is = assigns_set t b p _ at x e sts_ a in
      let own = own_slot set fixed g vs next x (kind_of t.names ty) t.names sts_ here laws.0 is in
      declared_flow set fixed g vs next x (kind_of t.names ty) sts_ true here (λ h. own)
  stmt_flow t b p vs next s sts ks (Runs.news {x = x} {slot = slot} found id) f g last formed laws set fixed here =
      slots_give set (With set sts) fixed (text_of x) slot g.vars vs (grows_with set sts)
      (or_right (set slot) (all_set slot sts) (or_left _ false (eq-eqb slot slot refl))) (slot_is (stand_named vs (text_of x)) slot found) here.slots
  stmt_flow t b p vs next s sts ks (Runs.assigns {at = at} {x = x} {e = e} a) f g last formed laws set fixed here =
      assigned_flow set fixed x g.vars vs sts (assigns_set t b p vs at x e sts a) here.slots
  stmt_flow t b p vs next s sts ks (Runs.operates m h) f g last formed laws set fixed here =
      slots_more set (With set sts) fixed g.vars vs (grows_with set sts) here.slots
  stmt_flow t b p vs next s sts ks (Runs.operates_apart m h) f g last formed laws set fixed here =
      slots_more set (With set sts) fixed g.vars vs (grows_with set sts) here.slots
  stmt_flow t b p vs next s sts ks (Runs.branches {at = at} {e = e} {then_ = then_} {other = other} {v = v} {first = first} {second = second} {ks = is} m h run else_) f g last formed laws set fixed here =
      let n = t.names in
      let outer = all_parts (Lawfully n) (expr_sites n (scope_in f g) bool_whole e ++ block_sites n f g then_) (else_sites n f g other) laws in
      let inner = all_parts (Lawfully n) (expr_sites n (scope_in f g) bool_whole e) (block_sites n f g then_) outer.0 in
      both_flow set fixed at (as_formula v) first second (after_block n g then_).vars (after_else n g other).vars vs (block_flow t b p vs next then_ first is run f g formed.1 inner.1 set fixed here)
      (else_flow t b p vs (next + length is) other second _ else_ f g formed.2 outer.1 set fixed (here_later set fixed g vs next (next + length is) (omega arith) here))
  stmt_flow t b p vs next s sts ks (Runs.branches_apart {at = at} {e = e} {then_ = then_} {other = other} {v = v} {first = first} {second = second} {ks = is} m h run else_) f g last formed laws set fixed here =
      let n = t.names in
      let outer = all_parts (Lawfully n) (expr_sites n (scope_in f g) bool_whole e ++ block_sites n f g then_) (else_sites n f g other) laws in
      let inner = all_parts (Lawfully n) (expr_sites n (scope_in f g) bool_whole e) (block_sites n f g then_) outer.0 in
      later_flow set fixed (block_of_one at (assigned at next v)) (one_st (If at (Holds (Slot next)) first second)) (flow.both (after_block n g then_).vars (after_else n g other).vars) vs
      (both_flow set fixed at (Holds (Slot next)) first second (after_block n g then_).vars (after_else n g other).vars vs (block_flow t b p vs (next + 1) then_ first is run f g formed.1 inner.1 set fixed (here_later set fixed g vs next (next + 1) (omega arith) here))
      (else_flow t b p vs (next + 1 + length is) other second _ else_ f g formed.2 outer.1 set fixed (here_later set fixed g vs next (next + 1 + length is) (omega arith) here)))
  stmt_flow t b p vs next s sts ks (Runs.matches {at = at} {e = e} {arms = arms} {x = x} {made = made} m h run) f g last formed laws set fixed here =
      let n = t.names in
      let parts = all_parts (Lawfully n) (expr_sites n (scope_in f g) matched e) _ laws in
      one_flow set fixed (λ j. arms_set j made) (Match at x made) (after_arms n g (type_of n g.vars None e) arms).vars vs (λ j. refl)
      (arms_flow t b p vs next _ arms made ks run f g (type_of n g.vars None e) [] (alike_type n g.vars vs (slots_alike set fixed g.vars vs here.slots) None e) formed.1 parts.1.1 set fixed here)
  stmt_flow t b p vs next s sts ks (Runs.matches_apart {at = at} {e = e} {arms = arms} {x = x} {made = made} {ks = is} m h run) f g last formed laws set fixed here =
      let n = t.names in
      let parts = all_parts (Lawfully n) (expr_sites n (scope_in f g) matched e) _ laws in
      later_flow set fixed (block_of_one at (Put at next x)) (one_st (Match at (Slot next) made)) (after_arms n g (type_of n g.vars None e) arms).vars vs
      (one_flow set fixed (λ j. arms_set j made) (Match at (Slot next) made) (after_arms n g (type_of n g.vars None e) arms).vars vs (λ j. refl)
      (arms_flow t b p vs (next + 1) _ arms made is run f g (type_of n g.vars None e) [] (alike_type n g.vars vs (slots_alike set fixed g.vars vs here.slots) None e) formed.1 parts.1.1 set fixed
      (here_later set fixed g vs next (next + 1) (omega arith) here)))
  stmt_flow t b p vs next s sts ks (Runs.is_atomic {at = at} {body = body} {sts = inner} run) f g last formed laws set fixed here =
      one_flow set fixed (λ j. all_set j inner) (Atomic at inner) (after_block t.names g body).vars vs (λ j. refl)
      (block_flow t b _ vs next body inner ks run (record f { inside_atomic = true }) g formed laws.1 set fixed here)
  stmt_flow t b p vs next s sts ks (Runs.asserts m h) f g last formed laws set fixed here =
      slots_more set (With set sts) fixed g.vars vs (grows_with set sts) here.slots
  stmt_flow t b p vs next s sts ks (Runs.asserts_apart m h) f g last formed laws set fixed here =
      slots_more set (With set sts) fixed g.vars vs (grows_with set sts) here.slots
  stmt_flow t b p vs next s sts ks Runs.returns f g last formed laws set fixed here =
      slots_dead set (With set sts) fixed g.vars vs (λ j. or_right (set j) true refl) here.slots
  stmt_flow t b p vs next s sts ks (Runs.returns_with h r) f g last formed laws set fixed here =
      slots_dead set (With set sts) fixed g.vars vs (λ j. or_right (set j) (all_set j sts) ((value_returns t b vs next _ _ _ sts ks r).0 j)) here.slots

  pub block_flow : (t : Tables) (b : ℕ) (p : Place) (vs : Vars) (next : ℕ) (body : BlockTree) (sts : Sts) (ks : List Kind) → BlockRuns t b p vs next body sts ks
      → (f : Frame) (g : Sight) → FormedBlock Lexable body → Laws t.names (block_sites t.names f g body)
      → (set fixed : ℕ → Bool) → Here set fixed g vs next → InSlots (With set sts) fixed (after_block t.names g body).vars vs
  block_flow t b p vs next body sts ks (BlockRuns.block {stmts = stmts} run) f g formed laws set fixed here =
      let r = stmts_flow t b p vs next stmts sts ks run f g formed laws set fixed here in
      let vars = (after_stmts t.names g stmts).vars in
      subst (λ m. InSlots (With set sts) fixed (take m vars) vs) (sym (slots_length set fixed g.vars vs here.slots))
      (slots_leave (With set sts) fixed vars vs r.0 r.1)

  stmts_flow : (t : Tables) (b : ℕ) (p : Place) (vs : Vars) (next : ℕ) (stmts : StmtTrees) (sts : Sts) (ks : List Kind) → AllRun t b p vs next stmts sts ks
      → (f : Frame) (g : Sight) → FormedStmts Lexable stmts → Laws t.names (stmts_sites t.names f g stmts)
      → (set fixed : ℕ → Bool) → Here set fixed g vs next → (own : Vars) × InSlots (With set sts) fixed (after_stmts t.names g stmts).vars (vs ++ own)
  stmts_flow t b p vs next stmts sts ks AllRun.no_stmt f g formed laws set fixed here =
      ([], subst (InSlots (With set no_st) fixed g.vars) (sym (append-nil vs)) (slots_more set (With set no_st) fixed g.vars vs (grows_with set no_st) here.slots))
  stmts_flow t b p vs next stmts sts ks (AllRun.more_stmts {s = s} {stmts = others} {first = first} {rest = rest} {ks = is} {js = js} run runs) f g formed laws set fixed here =
      let n = t.names in
      let parts = all_parts (Lawfully n) (stmt_sites n (before_stmts f others) g (is_last others) s) (stmts_sites n f (after n g s) others) laws in
      let here_ = row_here t b p vs next s first is run set fixed g here
      (stmt_flow t b p vs next s first is run (before_stmts f others) g (is_last others) formed.0 parts.0 set fixed here) in
      let r = stmts_flow t b p (behind n vs next s) (next + length is) others rest js runs f (after n g s) formed.1 parts.1 (With set first) fixed here_ in
      let front = behind_is n vs next s in
      let whole : behind n vs next s ++ r.0 ≡ vs ++ (front.0 ++ r.0) = ap (λ z. z ++ r.0) front.1 ∙ append_assoc vs front.0 r.0 in
      (front.0 ++ r.0, subst (InSlots (With set (append first rest)) fixed (after_stmts n (after n g s) others).vars) whole (row_flow set fixed first rest (after_stmts n (after n g s) others).vars (behind n vs next s ++ r.0) r.1))

  else_flow : (t : Tables) (b : ℕ) (p : Place) (vs : Vars) (next : ℕ) (other : ElseTree) (sts : Sts) (ks : List Kind) → ElseRuns t b p vs next other sts ks
      → (f : Frame) (g : Sight) → FormedElse Lexable other → Laws t.names (else_sites t.names f g other)
      → (set fixed : ℕ → Bool) → Here set fixed g vs next → InSlots (With set sts) fixed (after_else t.names g other).vars vs
  else_flow t b p vs next other sts ks ElseRuns.no_else f g formed laws set fixed here =
      slots_more set (With set no_st) fixed g.vars vs (grows_with set no_st) here.slots
  else_flow t b p vs next other sts ks (ElseRuns.else_block {body = body} run) f g formed laws set fixed here =
      block_flow t b p vs next body sts ks run f g formed laws set fixed here
  else_flow t b p vs next other sts ks (ElseRuns.else_if {s = s} run) f g formed laws set fixed here =
      let is = is_if t.names vs next s formed in
      subst (InSlots (With set sts) fixed (after t.names g s).vars) is.1
      (stmt_flow t b p vs next s sts ks run f g true is.0 laws set fixed here)

  arms_flow : (t : Tables) (b : ℕ) (p : Place) (vs : Vars) (next : ℕ) (k : Kind) (arms : BlockArmTrees) (made : StArms) (ks : List Kind)
      → ArmsRun t b p vs next k arms made ks → (f : Frame) (g : Sight) (seen : Kind) (before : List Name) → seen ≡ k → FormedBlockArms Lexable arms
      → Laws t.names (arm_sites t.names f g seen before arms) → (set fixed : ℕ → Bool) → Here set fixed g vs next
      → InSlots (λ j. set j || arms_set j made) fixed (after_arms t.names g seen arms).vars vs
  arms_flow t b p vs next k arms made ks ArmsRun.no_arm f g seen before same formed laws set fixed here =
      slots_dead set (λ j. set j || true) fixed g.vars vs (λ j. or_right (set j) true refl) here.slots
  arms_flow t b p vs next k arms made ks (ArmsRun.more_arms {pattern = q} {body = body} {arms = others} {con = con} {sts = sts} {rest = rest} {ks = is} {js = js} found run runs) f g seen before same formed laws set fixed here =
      let n = t.names in
      let xs = pattern_vars q in
      let bound = bound_sites g.vars xs (pattern_kinds n seen (pattern_name q)) in
      let h = flow.in_pattern n g seen q in
      let outer = all_parts (Lawfully n) (bound ++ block_sites n f h body) (arm_sites n f g seen (pattern_name q ∷ before) others) laws.1 in
      let inner = all_parts (Lawfully n) bound (block_sites n f h body) outer.0 in
      let in_arm = arm_here set fixed n g vs next k seen q same here in
      let left = block_flow t b p (in_pattern n vs next k q) (next + length xs) body sts is run f h formed.0.1 inner.1
      (λ s. is_slot s (up_from next (length xs)) || set s) (λ s. is_slot s (up_from next (length xs)) || fixed s) in_arm in
      let right = arms_flow t b p vs (next + length xs + length is) k others rest js runs f g seen (pattern_name q ∷ before) same formed.1 outer.1 set fixed
      (here_later set fixed g vs next (next + length xs + length is) (omega arith) here) in
      arms_meet set fixed con (up_from next (length xs)) sts rest (take (length g.vars) (after_block n h body).vars) (after_arms n g seen others).vars vs (arm_left set fixed n g vs next k q sts (after_block n h body).vars here left) right
