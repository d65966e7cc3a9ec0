-- What the statements of a lawful procedure become is well typed.
use Rattle.std.proofs.Common.{◌≡◌, ◌+◌, ◌≤◌, ℕ, Bool, true, false, not, ◌&&◌, ◌||◌, List, [], ◌∷◌, ◌++◌, length, Option, Some, None, refl, ap, subst, sym, ◌∙◌, arith}
use Rattle.std.specs.Prelude.{is_none, slice_get}
use Rattle.std.proofs.lemmas.Bool.{and_from, and_parts, eqb-true, not-false, not-true, or_left, or_parts, or_right, true≢false}
use Rattle.std.proofs.lemmas.Cmp.{nat_list_eq_equiv}
use Rattle.std.proofs.lemmas.List.{length-append}
use Rattle.rp_span.specs.declared.Span.{Span}
use Rattle.rp_value.specs.declared.tables.Ty.{Ty}
use Rattle.rp_grammar.specs.Trees.{Ident, ExprTree, ExprForm, AccessTree, QueryTree, BlockTree, StmtTree, StmtForm, StmtTrees, ElseTree, BlockArmTree, BlockArmTrees}
use Rattle.rp_grammar.proofs.Formed.{FormedStmt, FormedBlock, FormedStmts, FormedElse, FormedBlockArms}
use Rattle.rp_grammar.proofs.FormedTexts.{Lexable}
use Rattle.rp_lang.specs.Exprs.{Ex, Exs, Slot, OpTerm}
use Rattle.rp_lang.specs.Formulas.{Holds}
use Rattle.rp_lang.specs.Stmts.{Put, If, Match, Atomic, Assert, Operate, New, Return, Sts, StArms}
use Rattle.rp_lang.specs.Flow.{sets}
use Rattle.rp_lang.specs.Types.{fields_of}
use Rattle.rp_lang.specs.Typing.{are_cases}
use Rattle.rp_lang.specs.Blocks.{are_stmts, are_stmt_arms, can_operate, is_end, is_slot, plain_type, st_arm_cons}
use Rattle.type_rules.specs.declared.kind.Kind.{Kind}
use Rattle.type_rules.specs.Names.{Name, Names, same_name, text_of}
use Rattle.type_rules.specs.Kinds.{bool_kind, kind_of}
use Rattle.type_rules.specs.Accesses.{find_var}
use Rattle.type_rules.specs.Typing.{type_of}
use Rattle.type_rules.specs.Sites.{Site}
use Rattle.type_rules.specs.Matches.{pattern_vars, pattern_name, pattern_kinds, bound_sites, cases_of, other_kinds}
use Rattle.type_rules.specs.ExprSites.{asks, bool_whole, matched, expr_sites, access_sites, pattern_sites}
use Rattle.type_rules.specs.Flow as flow
use Rattle.type_rules.specs.Flow.{Sight, after, with_declared}
use Rattle.type_rules.specs.StmtSites.{Frame, scope_in, before_stmts, is_last, is_there, var_kind, result_kind, arm_names, stmt_sites, block_sites, stmts_sites, else_sites, arm_sites}
use Rattle.type_rules.specs.Rules.{Numbered, rule, rules, rule05, rule13, rule15, rule17, rule19, rule20, rule23, is_var, is_taken, is_fixed, is_complete, is_datatype_kind}
use Rattle.desugaring.specs.Parts.{Pointwise, no_members, more_members}
use Rattle.desugaring.specs.Tables.{Tables, ty_of, up_from}
use Rattle.desugaring.specs.Values.{Value, term, as_formula, reads, fo_reads}
use Rattle.desugaring.specs.Callees.{Vars, Stand, stand, vars_of}
use Rattle.desugaring.specs.Meanings.{Means}
use Rattle.desugaring.specs.Statements.{Place, inside, one_st, assigned, block_of_one, slot_for, behind as vars_behind, in_pattern, pattern_slots, slot_kinds}
use Rattle.desugaring.specs.Runs.{Runs, BlockRuns, AllRun, ElseRuns, ArmsRun}
use Rattle.desugaring.specs.Limits.{some_in_all, some_in_arms, some_term}
use Rattle.desugaring.proofs.Fields.{arm_con}
use Rattle.lawful.specs.Kept.{AllKept}
use Rattle.lawful.proofs.Alike.{alike_type}
use Rattle.lawful.proofs.Arms.{IsNumber}
use Rattle.lawful.proofs.Basics.{look, split, when_not}
use Rattle.lawful.proofs.Distinct.{Fresh, fresh_distinct}
use Rattle.lawful.proofs.Flows.{Here, Laws, With, arm_here, here_later, is_if, row_here, set_there, stmt_flow}
use Rattle.lawful.proofs.Forms.{head, one}
use Rattle.lawful.proofs.Main.{typed, keys_typed, args_typed}
use Rattle.lawful.proofs.Places.{Lawfully, all_parts, is_one_of}
use Rattle.lawful.proofs.SlotLaws.{Grows, slots_more}
use Rattle.lawful.proofs.Slotted.{named_last, slots_alike, slots_push, unnamed}
use Rattle.lawful.proofs.StmtFrames.{Body, Brought, HasSlot, Small, TypedVars, apart_fine, truth_good, assigned_fine, bound_typed, brought_parts, condition_good, condition_here, frame_in, here_type, in_scope, over, plain_is, reads_same, slot_condition, slot_typed, typed_push, world}
use Rattle.lawful.proofs.StmtForms.{Fine, aims, assign_typed, fine_one, is_out, new_typed, no_use_there, operate_typed, return_typed, takes_fields}
use Rattle.lawful.proofs.StmtRows.{after_all, after_with, before_fine, goes_on, one_fine, row_fine, some_append}
use Rattle.lawful.proofs.World.{In}

-- the type of what the procedure returns
abbrev pub IsResult : Tables → Option Kind → Option Ty → Type 0
IsResult t None result = result ≡ None
IsResult t (Some k) result = (of : Ty) × (result ≡ Some of) × (ty_of t k ≡ Some of)

-- what holds at a statement
pub record At (t : Tables) (w : Body t) (p : Place) (f : Frame) (g : Sight) (vs : Vars) (next : ℕ) (set fixed : ℕ → Bool) : Type 0 where
  pub here : Here set fixed g vs next
  pub typed : TypedVars t w.slots vs
  pub inside : f.inside_atomic ≡ p.inside_atomic
  pub result : f.result ≡ p.result
  pub gives : IsResult t p.result w.result

at_later : (t : Tables) (w : Body t) (p : Place) (f : Frame) (g : Sight) (vs : Vars) (next further : ℕ) (set fixed : ℕ → Bool) → next ≤ further
    → At t w p f g vs next set fixed → At t w p f g vs further set fixed
at_later t w p f g vs next further set fixed h at =
    record { here = here_later set fixed g vs next further h at.here; typed = at.typed; inside = at.inside; result = at.result; gives = at.gives }

here_more : (set more_ fixed : ℕ → Bool) (g : Sight) (vs : Vars) (next : ℕ) → Grows set more_ → Here set fixed g vs next → Here more_ fixed g vs next
here_more set more_ fixed g vs next grows here = record {
  slots = slots_more set more_ fixed g.vars vs grows here.slots;
  dead = λ none s. grows s (here.dead none s);
  below = here.below;
  free = here.free;
}

at_more : (t : Tables) (w : Body t) (p : Place) (f : Frame) (g : Sight) (vs : Vars) (next : ℕ) (set more_ fixed : ℕ → Bool) → Grows set more_
    → At t w p f g vs next set fixed → At t w p f g vs next more_ fixed
at_more t w p f g vs next set more_ fixed grows at =
    record { here = here_more set more_ fixed g vs next grows at.here; typed = at.typed; inside = at.inside; result = at.result; gives = at.gives }

scope_there : (t : Tables) (w : Body t) (p : Place) (f : Frame) (g : Sight) (vs : Vars) (next : ℕ) (set fixed : ℕ → Bool) → At t w p f g vs next set fixed
    → In t (world t w set fixed) [] vs (scope_in f g)
scope_there t w p f g vs next set fixed at = in_scope t w set fixed f g vs at.here.slots at.typed

near : (inside : Bool) (v : Value) → (not inside && reads v) ≡ false → (not inside && fo_reads (as_formula v)) ≡ false
near inside v e = ap (λ b. not inside && b) (reads_same v) ∙ e

-- # Rules that statements meet

law : (n : Names) (s : Site) → Lawfully n s → (i : ℕ) (r : Numbered) → slice_get rules i ≡ Some r → r.rule n s ≡ None
law n s laws i r is = laws r (is_one_of rules i r is)

-- behind a statement the variables have slots of their types
behind_typed : (t : Tables) (w : Body t) (b : ℕ) (p : Place) (vs : Vars) (next : ℕ) (s : StmtTree) (sts : Sts) (ks : List Kind) → Runs t b p vs next s sts ks
    → Brought t w.slots next ks → TypedVars t w.slots vs → TypedVars t w.slots (vars_behind t.names vs next s)
behind_typed t w b p vs next (StmtTree.node at (StmtForm.var x ty None)) sts ks Runs.declares brought all =
    typed_push t w.slots vs (text_of x) (kind_of t.names ty) next brought.0 all
behind_typed t w b p vs next (StmtTree.node at (StmtForm.var x ty (Some e))) sts ks (Runs.declares_with a) brought all =
    typed_push t w.slots vs (text_of x) (kind_of t.names ty) next brought.0 all
behind_typed t w b p vs next (StmtTree.node at _) sts ks run brought all = all

ends_row : (t : Tables) (b : ℕ) (p : Place) (vs : Vars) (next : ℕ) (stmts : StmtTrees) (sts : Sts) (ks : List Kind) → AllRun t b p vs next stmts sts ks
    → is_last stmts ≡ true → is_end sts ≡ true
ends_row t b p vs next stmts sts ks AllRun.no_stmt e = refl
ends_row t b p vs next stmts sts ks (AllRun.more_stmts run runs) e = absurd cc

goes : (last ends on : Bool) → (last ≡ true → ends ≡ true) → (last ≡ false → on ≡ true) → (ends || on) ≡ true
goes true ends on h k = or_left ends on (h refl)
goes false ends on h k = or_right ends on (k refl)

-- # Arms

arm_numbers : (t : Tables) (b : ℕ) (p : Place) (vs : Vars) (next : ℕ) (k : Kind) (arms : BlockArmTrees) (made : StArms) (ks : List Kind)
    → ArmsRun t b p vs next k arms made ks → Pointwise (IsNumber t k) (arm_names arms) (st_arm_cons made)
arm_numbers t b p vs next k arms made ks ArmsRun.no_arm = no_members
arm_numbers t b p vs next k arms made ks (ArmsRun.more_arms {pattern = q} {con = con} found run runs) =
    more_members (arm_con t k q con found).0 (arm_numbers t b p vs _ k _ _ _ runs)

arms_fresh : (n : Names) (words : ℕ → Bool) (f : Frame) (g : Sight) (k : Kind) (before : List Name) (arms : BlockArmTrees)
    → AllKept n words (arm_sites n f g k before arms) → Fresh same_name before (arm_names arms)
arms_fresh n words f g k before BlockArmTrees.no_block_arms kept = tt
arms_fresh n words f g k before (BlockArmTrees.more_block_arms (BlockArmTree.arm q body) arms) kept =
    let rest = split n words (pattern_sites n g.vars k before q ++ block_sites n f (flow.in_pattern n g k q) body) _ kept in
    ((or_parts _ _ (when_not _ _ rest.0.0.t18)).0, arms_fresh n words f g k (pattern_name q ∷ before) arms rest.1)

-- as many types of slots as variables
slots_long : (xs : List Ident) (ks : List Kind) → length (slot_kinds xs ks) ≡ length xs
slots_long [] ks = refl
slots_long (x ∷ xs) ks = let r = slots_long xs (other_kinds ks) in omega (arith, r)

-- # Operations

operation_typed : (t : Tables) (w : Body t) (b : ℕ) (vs : Vars) (span : Span) (a : AccessTree) (op : ℕ) (own : Exs) (v : Value)
    → Means t b vs None (ExprTree.node span (ExprForm.access a)) v → v ≡ term (OpTerm op own) → (f : Frame) (g : Sight)
    → Lawfully t.names (Site.statement (scope_in f g) a) → AllKept t.names w.words (access_sites t.names (scope_in f g) a) → (set fixed : ℕ → Bool)
    → In t (world t w set fixed) [] vs (scope_in f g) → TypedVars t w.slots vs → (inside : Bool) → inside ≡ true → some_term (over w.p) own ≡ false
    → can_operate w.p (frame_in t w set fixed inside) op own ≡ true
operation_typed t w b vs span a op own v (Means.access {x = x} {steps = steps} {args = args} {c = c} {keys = keys} {es = es} found ks as_ gives) is f g laws kept set fixed st all inside in_ small =
    let n = t.names in
    let gw = world t w set fixed in
    let sc = scope_in f g in
    operate_typed t w set fixed vs x steps args c keys es op own inside sc st _ _ _ (look t w.p gw.f [] g.vars vs (text_of x) st.sees) all refl found
    (keys_typed t gw [] b vs c.keys steps keys ks sc) (args_typed t gw [] b vs c.args args es as_ sc) (gives ∙ ap Some is)
    (not-false _ (when_not _ _ (law n _ laws 12 (rule 13 rule13) refl))) kept in_ small
operation_typed t w b vs span a op own v (Means.expands {x = x} {steps = steps} {c = c} {k = k} {name = name} {params = params} {result = result} {body = body} found what ks as_ lt m) is f g laws kept set fixed st all inside in_ small =
    let n = t.names in
    let gw = world t w set fixed in
    absurd (no_use_there t w gw.f vs x steps c k (QueryTree.query name params result body) _ _ _ (look t w.p gw.f [] g.vars vs (text_of x) st.sees) refl found what
    (not-false _ (when_not _ _ (law n _ laws 12 (rule 13 rule13) refl))))

-- # Returns

no_result : (t : Tables) (o : Option Kind) (result : Option Ty) → IsResult t o result → not (is_there o) ≡ true → is_none result ≡ true
no_result t None result gives e = ap is_none gives
no_result t (Some k) result gives e = absurd cc

-- # The induction

mutual
  pub stmt_typed : (t : Tables) (w : Body t) (b : ℕ) (p : Place) (vs : Vars) (next : ℕ) (s : StmtTree) (sts : Sts) (ks : List Kind) → Runs t b p vs next s sts ks
      → (f : Frame) (g : Sight) (last : Bool) → FormedStmt Lexable s → Laws t.names (stmt_sites t.names f g last s)
      → AllKept t.names w.words (stmt_sites t.names f g last s) → (set fixed : ℕ → Bool) → At t w p f g vs next set fixed → Brought t w.slots next ks
      → Small w.p sts → Fine w.p (frame_in t w set fixed p.inside_atomic) last sts
  stmt_typed t w b p vs next s sts ks Runs.declares f g last formed laws kept set fixed at brought small = record { are = refl; on = λ h. refl }
  stmt_typed t w b p vs next s sts ks (Runs.declares_with {at = span} {x = x} {ty = ty} {e = e} {sts = made} a) f g last formed laws kept set fixed at brought small =
      let n = t.names in
      let kind = kind_of n ty in
      let own = stand (text_of x) kind (Slot next) in
      let free = at.here.free next (omega arith) in
      let slots = slots_push set fixed g.vars vs (text_of x) kind (not g.live) false next (λ h. at.here.dead (not-true g.live h) next) (λ h. free) at.here.slots in
      let unseen = (or_parts (is_var g.vars x) (is_taken n x) (when_not _ _ (law n _ laws.0 14 (rule 15 rule15) refl))).0 in
      let none = unnamed set fixed g.vars vs (text_of x) unseen at.here.slots in
      let there = named_last vs own (text_of x) none (nat_list_eq_equiv.refl (text_of x)) in
      let sees = in_scope t w set fixed f (with_declared n g false x ty) (vs ++ own ∷ []) slots (typed_push t w.slots vs (text_of x) kind next brought.0 at.typed) in
      assign_typed t w set fixed b p (vs ++ own ∷ []) span x e made a (scope_in f (with_declared n g false x ty)) kind sees kept.1.1
      (λ s slot named stands.
      let same : own ≡ s = one (sym there ∙ named) in
      let slot_is : next ≡ slot = one (ap slot_for same ∙ stands) in
      record {
        kind = sym (ap (λ (z : Stand Ex). z.kind) same);
        unfixed = subst (λ z. fixed z ≡ false) slot_is free;
        has = subst (HasSlot t w.slots kind) slot_is brought.0;
      })
      small last
  stmt_typed t w b p vs next s sts ks (Runs.news {at = span} {x = x} {id = id} {slot = slot} {n = number} found is) f g last formed laws kept set fixed at brought small =
      let n = t.names in
      fine_one w.p (frame_in t w set fixed p.inside_atomic) last (New span slot number) refl
      (new_typed t w set fixed g.vars vs span x id slot number p.inside_atomic at.here.slots at.typed found is
      (when_not _ _ (law n _ laws.0 16 (rule 17 rule17) refl)) (not-false _ (when_not _ _ (law n _ laws.1.0 4 (rule 5 rule05) refl)))
      (when_not _ _ (law n _ laws.1.0 22 (rule 23 rule23) refl)))
  stmt_typed t w b p vs next s sts ks (Runs.assigns {at = span} {x = x} {e = e} a) f g last formed laws kept set fixed at brought small =
      let n = t.names in
      let kind = var_kind (find_var g.vars (text_of x)) in
      let unfixed = when_not _ _ (law n _ laws.0 16 (rule 17 rule17) refl) in
      assign_typed t w set fixed b p vs span x e sts a (scope_in f g) kind (scope_there t w p f g vs next set fixed at) kept.1
      (λ s slot named stands.
      let aim = aims t w.slots set fixed g.vars vs (text_of x) s slot at.here.slots at.typed named stands in
      let same : s.kind ≡ kind = sym (ap var_kind aim.named ∙ aim.kind) in
      record {
        kind = same;
        unfixed = aim.unfixed (subst (λ o. is_fixed o ≡ false) aim.named unfixed);
        has = subst (λ k. HasSlot t w.slots k slot) same aim.has;
      })
      small last
  stmt_typed t w b p vs next s sts ks (Runs.operates {at = span} {a = a} {op = op} {args = args} m in_) f g last formed laws kept set fixed at brought small =
      fine_one w.p (frame_in t w set fixed p.inside_atomic) last (Operate span op args) refl
      (operation_typed t w b vs span a op args (term (OpTerm op args)) m refl f g laws.0 kept.1 set fixed (scope_there t w p f g vs next set fixed at) at.typed p.inside_atomic in_ (or_parts _ _ small).0)
  stmt_typed t w b p vs next s sts ks (Runs.operates_apart {at = span} {a = a} {op = op} {args = args} m out) f g last formed laws kept set fixed at brought small =
      fine_one w.p (frame_in t w set fixed p.inside_atomic) last (block_of_one span (Operate span op args)) refl
      (apart_fine t w set fixed p.inside_atomic span (Operate span op args) out
      (operation_typed t w b vs span a op args (term (OpTerm op args)) m refl f g laws.0 kept.1 set fixed (scope_there t w p f g vs next set fixed at) at.typed true refl (or_parts _ _ (or_parts _ _ small).0).0))
  stmt_typed t w b p vs next s sts ks (Runs.branches {at = span} {e = e} {then_ = then_} {other = other} {v = v} {first = first} {second = second} {ks = is} {js = js} m h run else_) f g last formed laws kept set fixed at brought small =
      let n = t.names in
      let cond_sites = expr_sites n (scope_in f g) bool_whole e in
      let outer = all_parts (Lawfully n) (cond_sites ++ block_sites n f g then_) (else_sites n f g other) laws in
      let inner = all_parts (Lawfully n) cond_sites (block_sites n f g then_) outer.0 in
      let outer_kept = split n w.words (cond_sites ++ block_sites n f g then_) (else_sites n f g other) kept in
      let inner_kept = split n w.words cond_sites (block_sites n f g then_) outer_kept.0 in
      let parts = brought_parts t w.slots next is js brought in
      let whole = or_parts _ _ (or_parts _ _ small).0 in
      let small_ = or_parts _ _ whole.0 in
      let frame = frame_in t w set fixed p.inside_atomic in
      let is_true = condition_good t (world t w set fixed) b vs (scope_in f g) e v m (scope_there t w p f g vs next set fixed at) inner_kept.0 in
      fine_one w.p frame last (If span (as_formula v) first second) refl
      (and_from _ _ (and_from _ _ (condition_here t w set fixed p.inside_atomic (as_formula v) (near p.inside_atomic v h) small_.0 is_true)
      (block_typed t w b p vs next then_ first is run f g formed.1 inner.1 inner_kept.1 set fixed at parts.0 small_.1))
      (else_typed t w b p vs (next + length is) other second js else_ f g formed.2 outer.1 outer_kept.1 set fixed
      (at_later t w p f g vs next (next + length is) set fixed (omega arith) at) parts.1 whole.1))
  stmt_typed t w b p vs next s sts ks (Runs.branches_apart {at = span} {e = e} {then_ = then_} {other = other} {v = v} {first = first} {second = second} {ks = is} {js = js} m h run else_) f g last formed laws kept set fixed at brought small =
      let n = t.names in
      let cond_sites = expr_sites n (scope_in f g) bool_whole e in
      let outer = all_parts (Lawfully n) (cond_sites ++ block_sites n f g then_) (else_sites n f g other) laws in
      let inner = all_parts (Lawfully n) cond_sites (block_sites n f g then_) outer.0 in
      let outer_kept = split n w.words (cond_sites ++ block_sites n f g then_) (else_sites n f g other) kept in
      let inner_kept = split n w.words cond_sites (block_sites n f g then_) outer_kept.0 in
      let parts = brought_parts t w.slots (next + 1) is js brought.1 in
      let rows = or_parts _ _ small in
      -- a slot alone is within the limits
      let small_ = or_parts (some_in_all (over w.p) first) (some_in_all (over w.p) second) (or_parts _ _ rows.1).0 in
      let put = block_of_one span (assigned span next v) in
      let set_ : ℕ → Bool = λ s. set s || sets s put in
      let at_ = at_more t w p f g vs next set set_ fixed (λ s is. or_left (set s) (sets s put) is) at in
      let frame = frame_in t w set fixed p.inside_atomic in
      let now : set_ next ≡ true = or_right (set next) (sets next put) (or_left (sets next (assigned span next v)) false (set_there span next v)) in
      record {
        are = before_fine w.p frame put (one_st (If span (Holds (Slot next)) first second)) refl
            (apart_fine t w set fixed p.inside_atomic span (assigned span next v) (is_out p.inside_atomic (reads v) h)
            (assigned_fine t w set fixed true span next bool_kind v brought.0 (at.here.free next (omega arith))
            (truth_good t (world t w set fixed) b vs (scope_in f g) e v m (scope_there t w p f g vs next set fixed at) inner_kept.0) refl (or_parts _ _ rows.0).0))
            (one_fine w.p (frame_in t w set_ fixed p.inside_atomic) (If span (Holds (Slot next)) first second)
            (and_from _ _ (and_from _ _ (slot_condition t w set_ fixed p.inside_atomic next now brought.0)
            (block_typed t w b p vs (next + 1) then_ first is run f g formed.1 inner.1 inner_kept.1 set_ fixed
            (at_later t w p f g vs next (next + 1) set_ fixed (omega arith) at_) parts.0 small_.0))
            (else_typed t w b p vs (next + 1 + length is) other second js else_ f g formed.2 outer.1 outer_kept.1 set_ fixed
            (at_later t w p f g vs next (next + 1 + length is) set_ fixed (omega arith) at_) parts.1 small_.1)));
        on = λ e. refl;
      }
  stmt_typed t w b p vs next s sts ks (Runs.matches {at = span} {e = e} {arms = arms} {x = x} {made = made} m h run) f g last formed laws kept set fixed at brought small =
      let n = t.names in
      let k = type_of n (vars_of vs) None e in
      let same : type_of n g.vars None e ≡ k = alike_type n g.vars vs (slots_alike set fixed g.vars vs at.here.slots) None e in
      let parts = all_parts (Lawfully n) (expr_sites n (scope_in f g) matched e) _ laws in
      let kept_ = split n w.words (expr_sites n (scope_in f g) matched e) _ kept in
      let good = typed t (world t w set fixed) [] b vs None e (term x) m (scope_in f g) matched refl (scope_there t w p f g vs next set fixed at) kept_.0 in
      let arms_kept = subst (λ z. AllKept n w.words (arm_sites n f g z [] arms)) same kept_.1.1 in
      let frame = frame_in t w set fixed p.inside_atomic in
      let small_ = or_parts _ _ (or_parts _ _ small).0 in
      let plain : plain_type w.p frame x ≡ Some good.typed.0 = plain_is w.p frame x good.typed.0 small_.0 (here_type t w set fixed p.inside_atomic x good.typed.0 h good.typed.1) in
      fine_one w.p frame last (Match span x made) refl
      (and_from _ _ (subst (λ o. are_cases w.p o (st_arm_cons made) ≡ true) (sym plain)
      (w.cases k good.typed.0 (arm_names arms) (st_arm_cons made) good.typed.2
      (subst (λ z. is_datatype_kind n z ≡ true) same (not-false _ (when_not _ _ (head n w.words (scope_in f g) matched e kept_.0).t18)))
      (arm_numbers t b p vs next k arms made ks run) (fresh_distinct same_name [] (arm_names arms) (arms_fresh n w.words f g k [] arms arms_kept)).1
      (subst (λ z. is_complete (arm_names arms) (cases_of n z) ≡ true) same (not-false _ (when_not _ _ kept_.1.0.t18)))))
      (arms_typed t w b p vs next k arms made ks run f g [] formed.1 (subst (λ z. Laws n (arm_sites n f g z [] arms)) same parts.1.1) arms_kept set fixed at brought small_.1))
  stmt_typed t w b p vs next s sts ks (Runs.matches_apart {at = span} {e = e} {arms = arms} {x = x} {made = made} {ks = is} m h run) f g last formed laws kept set fixed at brought small =
      let n = t.names in
      let k = type_of n (vars_of vs) None e in
      let same : type_of n g.vars None e ≡ k = alike_type n g.vars vs (slots_alike set fixed g.vars vs at.here.slots) None e in
      let parts = all_parts (Lawfully n) (expr_sites n (scope_in f g) matched e) _ laws in
      let kept_ = split n w.words (expr_sites n (scope_in f g) matched e) _ kept in
      let good = typed t (world t w set fixed) [] b vs None e (term x) m (scope_in f g) matched refl (scope_there t w p f g vs next set fixed at) kept_.0 in
      let arms_kept = subst (λ z. AllKept n w.words (arm_sites n f g z [] arms)) same kept_.1.1 in
      let put = block_of_one span (Put span next x) in
      let set_ : ℕ → Bool = λ s. set s || sets s put in
      let at_ = at_more t w p f g vs next set set_ fixed (λ s is_set. or_left (set s) (sets s put) is_set) at in
      let now : set_ next ≡ true = or_right (set next) (sets next put) (or_left (sets next (Put span next x)) false (set_there span next (term x))) in
      let frame = frame_in t w set fixed p.inside_atomic in
      let then_ = frame_in t w set_ fixed p.inside_atomic in
      let rows = or_parts _ _ small in
      -- a slot alone is within the limits
      let small_ : some_in_arms (over w.p) made ≡ false = (or_parts (some_in_arms (over w.p) made) false rows.1).0 in
      let has = brought.0 in
      let plain : plain_type w.p then_ (Slot next) ≡ Some has.0 = plain_is w.p then_ (Slot next) has.0 refl (slot_typed w.p then_ [] next has.0 now has.1) in
      record {
        are = before_fine w.p frame put (one_st (Match span (Slot next) made)) refl
            (apart_fine t w set fixed p.inside_atomic span (Put span next x) (is_out p.inside_atomic (reads (term x)) h)
            (assigned_fine t w set fixed true span next k (term x) has (at.here.free next (omega arith)) good refl (or_parts _ _ rows.0).0))
            (one_fine w.p then_ (Match span (Slot next) made)
            (and_from _ _ (subst (λ o. are_cases w.p o (st_arm_cons made) ≡ true) (sym plain)
            (w.cases k has.0 (arm_names arms) (st_arm_cons made) has.2
            (subst (λ z. is_datatype_kind n z ≡ true) same (not-false _ (when_not _ _ (head n w.words (scope_in f g) matched e kept_.0).t18)))
            (arm_numbers t b p vs (next + 1) k arms made is run) (fresh_distinct same_name [] (arm_names arms) (arms_fresh n w.words f g k [] arms arms_kept)).1
            (subst (λ z. is_complete (arm_names arms) (cases_of n z) ≡ true) same (not-false _ (when_not _ _ kept_.1.0.t18)))))
            (arms_typed t w b p vs (next + 1) k arms made is run f g [] formed.1 (subst (λ z. Laws n (arm_sites n f g z [] arms)) same parts.1.1) arms_kept set_ fixed
            (at_later t w p f g vs next (next + 1) set_ fixed (omega arith) at_) brought.1 small_)));
        on = λ e_. refl;
      }
  stmt_typed t w b p vs next s sts ks (Runs.is_atomic {at = span} {body = body} {sts = inner} run) f g last formed laws kept set fixed at brought small =
      let out : p.inside_atomic ≡ false = sym at.inside ∙ when_not _ _ (law t.names _ laws.0 18 (rule 19 rule19) refl) in
      let at_ : At t w (inside p) (record f { inside_atomic = true }) g vs next set fixed =
      record { here = at.here; typed = at.typed; inside = refl; result = at.result; gives = at.gives } in
      fine_one w.p (frame_in t w set fixed p.inside_atomic) last (Atomic span inner) refl
      (and_from (not p.inside_atomic) _ (ap not out)
      (block_typed t w b (inside p) vs next body inner ks run (record f { inside_atomic = true }) g formed laws.1 kept.1 set fixed at_ brought (or_parts _ _ small).0))
  stmt_typed t w b p vs next s sts ks (Runs.asserts {at = span} {e = e} {v = v} m h) f g last formed laws kept set fixed at brought small =
      fine_one w.p (frame_in t w set fixed p.inside_atomic) last (Assert span (as_formula v)) refl
      (condition_here t w set fixed p.inside_atomic (as_formula v) (near p.inside_atomic v h) (or_parts _ _ small).0
      (condition_good t (world t w set fixed) b vs (scope_in f g) e v m (scope_there t w p f g vs next set fixed at) kept))
  stmt_typed t w b p vs next s sts ks (Runs.asserts_apart {at = span} {e = e} {v = v} m h) f g last formed laws kept set fixed at brought small =
      fine_one w.p (frame_in t w set fixed p.inside_atomic) last (block_of_one span (Assert span (as_formula v))) refl
      (apart_fine t w set fixed p.inside_atomic span (Assert span (as_formula v)) (is_out p.inside_atomic (reads v) h)
      (condition_here t w set fixed true (as_formula v) refl (or_parts _ _ (or_parts _ _ small).0).0
      (condition_good t (world t w set fixed) b vs (scope_in f g) e v m (scope_there t w p f g vs next set fixed at) kept)))
  stmt_typed t w b p vs next s sts ks (Runs.returns {at = span}) f g last formed laws kept set fixed at brought small =
      let may = and_parts _ _ (not-false _ (when_not _ _ (law t.names _ laws.0 19 (rule 20 rule20) refl))) in
      let out = and_parts (not f.inside_atomic) last may.0 in
      record {
        are = one_fine w.p (frame_in t w set fixed p.inside_atomic) (Return span)
            (and_from (not p.inside_atomic) _ (subst (λ z. not z ≡ true) at.inside out.0)
            (no_result t p.result w.result at.gives (subst (λ o. not (is_there o) ≡ true) at.result may.1)));
        on = λ e. absurd (true≢false (sym out.1 ∙ e));
      }
  stmt_typed t w b p vs next s sts ks (Runs.returns_with {at = span} {k = k} {e = e} is r) f g last formed laws kept set fixed at brought small =
      let n = t.names in
      let may = and_parts _ _ (not-false _ (when_not _ _ (law n _ laws.0 19 (rule 20 rule20) refl))) in
      let out = and_parts (not f.inside_atomic) last may.0 in
      let gives : IsResult t (Some k) w.result = subst (λ o. IsResult t o w.result) is at.gives in
      let sites = subst (λ o. AllKept n w.words (expr_sites n (scope_in f g) (asks 23 (result_kind o)) e)) (at.result ∙ is) kept.1 in
      let outside : p.inside_atomic ≡ false = sym at.inside ∙ not-true f.inside_atomic out.0 in
      record {
        are = subst (λ z. are_stmts w.p (frame_in t w set fixed z) sts ≡ true) (sym outside)
            (return_typed t w set fixed b vs next span k e sts ks r (scope_in f g) (scope_there t w p f g vs next set fixed at) sites gives.0 gives.2 gives.1
            (at.here.free next (omega arith)) brought small);
        on = λ e_. absurd (true≢false (sym out.1 ∙ e_));
      }

  pub block_typed : (t : Tables) (w : Body t) (b : ℕ) (p : Place) (vs : Vars) (next : ℕ) (body : BlockTree) (sts : Sts) (ks : List Kind) → BlockRuns t b p vs next body sts ks
      → (f : Frame) (g : Sight) → FormedBlock Lexable body → Laws t.names (block_sites t.names f g body) → AllKept t.names w.words (block_sites t.names f g body)
      → (set fixed : ℕ → Bool) → At t w p f g vs next set fixed → Brought t w.slots next ks → Small w.p sts
      → are_stmts w.p (frame_in t w set fixed p.inside_atomic) sts ≡ true
  block_typed t w b p vs next body sts ks (BlockRuns.block {stmts = stmts} run) f g formed laws kept set fixed at brought small =
      stmts_typed t w b p vs next stmts sts ks run f g formed laws kept set fixed at brought small

  stmts_typed : (t : Tables) (w : Body t) (b : ℕ) (p : Place) (vs : Vars) (next : ℕ) (stmts : StmtTrees) (sts : Sts) (ks : List Kind) → AllRun t b p vs next stmts sts ks
      → (f : Frame) (g : Sight) → FormedStmts Lexable stmts → Laws t.names (stmts_sites t.names f g stmts) → AllKept t.names w.words (stmts_sites t.names f g stmts)
      → (set fixed : ℕ → Bool) → At t w p f g vs next set fixed → Brought t w.slots next ks → Small w.p sts
      → are_stmts w.p (frame_in t w set fixed p.inside_atomic) sts ≡ true
  stmts_typed t w b p vs next stmts sts ks AllRun.no_stmt f g formed laws kept set fixed at brought small = refl
  stmts_typed t w b p vs next stmts sts ks (AllRun.more_stmts {s = s} {stmts = others} {first = first} {rest = rest} {ks = is} {js = js} run runs) f g formed laws kept set fixed at brought small =
      let n = t.names in
      let own = stmt_sites n (before_stmts f others) g (is_last others) s in
      let parts = all_parts (Lawfully n) own (stmts_sites n f (after n g s) others) laws in
      let kept_ = split n w.words own (stmts_sites n f (after n g s) others) kept in
      let slots = brought_parts t w.slots next is js brought in
      let small_ = some_append (over w.p) first rest small in
      let at_own : At t w p (before_stmts f others) g vs next set fixed =
      record { here = at.here; typed = at.typed; inside = at.inside; result = at.result; gives = at.gives } in
      let fine = stmt_typed t w b p vs next s first is run (before_stmts f others) g (is_last others) formed.0 parts.0 kept_.0 set fixed at_own slots.0 small_.0 in
      let then_ = row_here t b p vs next s first is run set fixed g at.here
      (stmt_flow t b p vs next s first is run (before_stmts f others) g (is_last others) formed.0 parts.0 set fixed at.here) in
      let set_ = after_all first set in
      let at_then : At t w p f (after n g s) (vars_behind n vs next s) (next + length is) set_ fixed = record {
        here = here_more (With set first) set_ fixed (after n g s) (vars_behind n vs next s) (next + length is) (after_with first set) then_;
        typed = behind_typed t w b p vs next s first is run slots.0 at.typed;
        inside = at.inside;
        result = at.result;
        gives = at.gives;
      } in
      row_fine w.p (frame_in t w set fixed p.inside_atomic) first rest fine.are
      (goes (is_last others) (is_end rest) (goes_on first) (ends_row t b p (vars_behind n vs next s) (next + length is) others rest js runs) fine.on)
      (stmts_typed t w b p (vars_behind n vs next s) (next + length is) others rest js runs f (after n g s) formed.1 parts.1 kept_.1 set_ fixed at_then slots.1 small_.1)

  else_typed : (t : Tables) (w : Body t) (b : ℕ) (p : Place) (vs : Vars) (next : ℕ) (other : ElseTree) (sts : Sts) (ks : List Kind) → ElseRuns t b p vs next other sts ks
      → (f : Frame) (g : Sight) → FormedElse Lexable other → Laws t.names (else_sites t.names f g other) → AllKept t.names w.words (else_sites t.names f g other)
      → (set fixed : ℕ → Bool) → At t w p f g vs next set fixed → Brought t w.slots next ks → Small w.p sts
      → are_stmts w.p (frame_in t w set fixed p.inside_atomic) sts ≡ true
  else_typed t w b p vs next other sts ks ElseRuns.no_else f g formed laws kept set fixed at brought small = refl
  else_typed t w b p vs next other sts ks (ElseRuns.else_block {body = body} run) f g formed laws kept set fixed at brought small =
      block_typed t w b p vs next body sts ks run f g formed laws kept set fixed at brought small
  else_typed t w b p vs next other sts ks (ElseRuns.else_if {s = s} run) f g formed laws kept set fixed at brought small =
      (stmt_typed t w b p vs next s sts ks run f g true (is_if t.names vs next s formed).0 laws kept set fixed at brought small).are

  arms_typed : (t : Tables) (w : Body t) (b : ℕ) (p : Place) (vs : Vars) (next : ℕ) (k : Kind) (arms : BlockArmTrees) (made : StArms) (ks : List Kind)
      → ArmsRun t b p vs next k arms made ks → (f : Frame) (g : Sight) (before : List Name) → FormedBlockArms Lexable arms
      → Laws t.names (arm_sites t.names f g k before arms) → AllKept t.names w.words (arm_sites t.names f g k before arms)
      → (set fixed : ℕ → Bool) → At t w p f g vs next set fixed → Brought t w.slots next ks → some_in_arms (over w.p) made ≡ false
      → are_stmt_arms w.p (frame_in t w set fixed p.inside_atomic) made ≡ true
  arms_typed t w b p vs next k arms made ks ArmsRun.no_arm f g before formed laws kept set fixed at brought small = refl
  arms_typed t w b p vs next k arms made ks (ArmsRun.more_arms {pattern = q} {body = body} {arms = others} {con = con} {sts = sts} {rest = rest} {ks = is} {js = js} found run runs) f g before formed laws kept set fixed at brought small =
      let n = t.names in
      let xs = pattern_vars q in
      let kinds = pattern_kinds n k (pattern_name q) in
      let bound = bound_sites g.vars xs kinds in
      let h = flow.in_pattern n g k q in
      let outer = all_parts (Lawfully n) (bound ++ block_sites n f h body) (arm_sites n f g k (pattern_name q ∷ before) others) laws.1 in
      let inner = all_parts (Lawfully n) bound (block_sites n f h body) outer.0 in
      let outer_kept = split n w.words (bound ++ block_sites n f h body) (arm_sites n f g k (pattern_name q ∷ before) others) kept.1 in
      let inner_kept = split n w.words bound (block_sites n f h body) outer_kept.0 in
      let whole = brought_parts t w.slots next (pattern_slots n k q ++ is) js brought in
      let first = brought_parts t w.slots next (pattern_slots n k q) is whole.0 in
      let long = slots_long xs kinds in
      let both_long = length-append (pattern_slots n k q) is in
      let for_body = subst (λ m. Brought t w.slots (next + m) is) long first.1 in
      let behind_all : next + length (pattern_slots n k q ++ is) ≡ next + length xs + length is = omega (arith, long, both_long) in
      let for_rest = subst (λ m. Brought t w.slots m js) behind_all whole.1 in
      let own = up_from next (length xs) in
      let frame = frame_in t w set fixed p.inside_atomic in
      let small_ = or_parts _ _ small in
      let at_arm : At t w p f h (in_pattern n vs next k q) (next + length xs) (λ s. is_slot s own || set s) (λ s. is_slot s own || fixed s) = record {
        here = arm_here set fixed n g vs next k k q refl at.here;
        typed = bound_typed t w.slots next vs xs kinds first.0 at.typed;
        inside = at.inside;
        result = at.result;
        gives = at.gives;
      } in
      and_from _ _ (and_from _ _ (takes_fields t frame next xs kinds (fields_of w.p.cons con) (eqb-true (length kinds) (length xs) (w.tied.arm_many k q con found))
      (w.tied.arm k q con found).fields first.0 at.here.free)
      (block_typed t w b p (in_pattern n vs next k q) (next + length xs) body sts is run f h formed.0.1 inner.1 inner_kept.1 (λ s. is_slot s own || set s)
      (λ s. is_slot s own || fixed s) at_arm for_body small_.0))
      (arms_typed t w b p vs (next + length xs + length is) k others rest js runs f g (pattern_name q ∷ before) formed.1 outer.1 outer_kept.1 set fixed
      (at_later t w p f g vs next (next + length xs + length is) set fixed (omega arith) at) for_rest small_.1)
