-- What a statement of a lawful place becomes.
use Rattle.std.proofs.Common.{◌≡◌, ◌+◌, ℕ, Bool, true, false, List, [], ◌∷◌, ◌++◌, length, Option, Some, None, refl, ap, subst, sym, ◌∙◌, arith}
use Rattle.std.specs.Prelude.{option_map, option_and_then}
use Rattle.std.proofs.lemmas.Bool.{and_parts, not-false}
use Rattle.rp_span.specs.declared.Span.{Span}
use Rattle.rp_grammar.specs.Trees.{Ident, ExprTree, ExprForm, AccessTree, BlockTree, StmtTree, StmtForm, StmtTrees, ElseTree, BlockArmTree, BlockArmTrees}
use Rattle.rp_lang.specs.Exprs.{Ex, OpTerm, Slot}
use Rattle.rp_lang.specs.Stmts.{New, Return, no_st, no_st_arm}
use Rattle.type_rules.specs.declared.kind.Kind.{Kind}
use Rattle.type_rules.specs.Names.{Name, text_of}
use Rattle.type_rules.specs.Kinds.{bool_kind, kind_of}
use Rattle.type_rules.specs.Paths.{Member, is_operation}
use Rattle.type_rules.specs.Accesses.{Access, find_var}
use Rattle.type_rules.specs.Typing.{type_of}
use Rattle.type_rules.specs.Sites.{Scope, Site}
use Rattle.type_rules.specs.Matches.{pattern_kinds, pattern_name, pattern_vars}
use Rattle.type_rules.specs.ExprSites.{access_sites, asks, bool_whole, expr_sites, given_sites, matched, pattern_sites, step_sites, way_from}
use Rattle.type_rules.specs.Flow as flow
use Rattle.type_rules.specs.Flow.{Sight, after}
use Rattle.type_rules.specs.StmtSites.{Frame, arm_sites, before_stmts, block_sites, else_sites, is_last, is_there, result_kind, scope_in, stmt_sites, stmts_sites, value_for}
use Rattle.type_rules.specs.Rules.{is_statement, misfit_in, rule, rules, rule05, rule13, rule20, same_truth, is_datatype_kind}
use Rattle.type_rules.specs.Faults.{IsOneOf}
use Rattle.desugaring.specs.Tables.{Tables}
use Rattle.desugaring.specs.Values.{Value, term, formula, append, reads}
use Rattle.desugaring.specs.Callees.{Vars, stand, stand_named, vars_of}
use Rattle.desugaring.specs.Expressions.{Uses, applied, arg_terms, called_with, key_terms, value}
use Rattle.desugaring.specs.Statements.{Place, Made, MadeArms, arm_with, arms_made, asserted, assigned_to, assignment_to, atomic, before, behind, block, branching, else_made, in_pattern, inside, is_apart, just, made, matching, operating, past_hidden, pattern_slots, returning, returning_term, slot_for, slot_kinds, stmt, stmts_made, with_kind, with_slot}
use Rattle.desugaring.proofs.Options.{both_is, map_is, term_is, then_is}
use Rattle.lawful.proofs.Basics.{when_not}
use Rattle.lawful.proofs.Places.{all_both, all_parts, is_one_of}
use Rattle.lawful_programs.specs.Valued.{Sound, AllSound, IsWhole, AllWhole, AskedWhole, Ready}
use Rattle.lawful_programs.proofs.Wholes.{truth_whole, written_whole}
use Rattle.lawful_programs.proofs.Types.{type_whole}
use Rattle.lawful_programs.proofs.Numbers.{arm_there}
use Rattle.lawful_programs.proofs.Looks.{seen_type}
use Rattle.lawful_programs.proofs.Reached.{In, at_statement, is_nothing, reached}
use Rattle.lawful_programs.proofs.Parts.{matched_there, plain_term, plain_there}
use Rattle.lawful_programs.proofs.Exprs.{accesses_whole, given_valued, keys_valued, valued}
use Rattle.lawful_programs.proofs.Flow.{stmt_after}
use Rattle.lawful_programs.proofs.Sights.{Here, StandWhole, StandsWhole, assigned_there, declared_found, declared_here, id_there, in_sight, pattern_here}

-- there are statements, whose slots are of types that have numbers
abbrev pub Makes : Tables → Option Made → Type 0
Makes t o = (m : Made) × (o ≡ Some m) × AllWhole t m.slots

abbrev pub MakesArms : Tables → Option MadeArms → Type 0
MakesArms t o = (m : MadeArms) × (o ≡ Some m) × AllWhole t m.slots

-- # Slots of what is made

branching_slots : (t : Tables) (apart : Bool) (at : Span) (next : ℕ) (v : Value) (left right : Made) → IsWhole t bool_kind → AllWhole t left.slots → AllWhole t right.slots
    → AllWhole t (branching apart at next v left right).slots
branching_slots t false at next v left right bool a b = all_both (IsWhole t) left.slots right.slots a b
branching_slots t true at next v left right bool a b = (bool, all_both (IsWhole t) left.slots right.slots a b)

matching_slots : (t : Tables) (apart : Bool) (at : Span) (next : ℕ) (k : Kind) (x : Ex) (arms : MadeArms) → IsWhole t k → AllWhole t arms.slots
    → AllWhole t (matching apart at next k x arms).slots
matching_slots t false at next k x arms whole all = all
matching_slots t true at next k x arms whole all = (whole, all)

returning_slots : (t : Tables) (at : Span) (next : ℕ) (k : Kind) (v : Value) → IsWhole t k → AllWhole t (returning at next k v).slots
returning_slots t at next k (term x) whole = by_reads t at next k x whole (reads (term x)) where
  by_reads : (t : Tables) (at : Span) (next : ℕ) (k : Kind) (x : Ex) → IsWhole t k → (apart : Bool) → AllWhole t (returning_term apart at next k x).slots
  by_reads t at next k x whole false = tt
  by_reads t at next k x whole true = (whole, tt)
returning_slots t at next k (formula f) whole = (whole, tt)

pattern_whole : (t : Tables) (xs : List Ident) (ks : List Kind) → AllWhole t ks → length ks ≡ length xs → AllWhole t (slot_kinds xs ks)
pattern_whole t [] ks whole many = tt
pattern_whole t (x ∷ xs) [] whole many = absurd (omega (arith, many))
pattern_whole t (x ∷ xs) (k ∷ ks) whole many = (whole.0, pattern_whole t xs ks whole.1 (omega (arith, many)))

-- # Operations

acts_there : (a : Access) → is_statement a ≡ true → misfit_in a ≡ None → is_nothing a ≡ false → (m : Member) × (a ≡ Access.member m) × (is_operation m.does ≡ true)
acts_there (Access.member m) e fit some = (m, refl, e)
acts_there Access.unknown e fit some = absurd cc
acts_there (Access.misfit at) e fit some = absurd cc
acts_there (Access.variable v) e fit some = absurd cc
acts_there (Access.constructor type c) e fit some = absurd cc
acts_there (Access.use_of k q) e fit some = absurd cc
acts_there (Access.procedure p) e fit some = absurd cc
acts_there (Access.returned p) e fit some = absurd cc

-- a result that is given is asked
pub result_there : (o : Option Kind) → same_truth true (is_there o) ≡ true → (k : Kind) × (o ≡ Some k)
result_there None e = absurd cc
result_there (Some k) e = (k, refl)

pub behind_whole : (t : Tables) → IsOneOf bool_kind t.datatypes → (f : Frame) (g : Sight) (last : Bool) (vs : Vars) (next : ℕ) (s : StmtTree) → StandsWhole t vs
    → AllSound t (stmt_sites t.names f g last s) → StandsWhole t (behind t.names vs next s)
behind_whole t bool f g last vs next (StmtTree.node at (StmtForm.var x ty e)) whole sound =
    all_both (StandWhole t) vs (stand (text_of x) (kind_of t.names ty) (Slot next) ∷ []) whole ((written_whole t bool f.decl _ ty sound.1.0, (next, refl)), tt)
behind_whole t bool f g last vs next (StmtTree.node at (StmtForm.new x id)) whole sound = whole
behind_whole t bool f g last vs next (StmtTree.node at (StmtForm.assign x e)) whole sound = whole
behind_whole t bool f g last vs next (StmtTree.node at (StmtForm.access a)) whole sound = whole
behind_whole t bool f g last vs next (StmtTree.node at (StmtForm.if_ e body other)) whole sound = whole
behind_whole t bool f g last vs next (StmtTree.node at (StmtForm.match e arms)) whole sound = whole
behind_whole t bool f g last vs next (StmtTree.node at (StmtForm.atomic body)) whole sound = whole
behind_whole t bool f g last vs next (StmtTree.node at (StmtForm.assert e)) whole sound = whole
behind_whole t bool f g last vs next (StmtTree.node at (StmtForm.return e)) whole sound = whole

module _ (t : Tables) (b : ℕ) (uses : Uses) (ready : Ready t b uses) where
  operation_there : (sc : Scope) (vs : Vars) (p : Place) (at : Span) (a : AccessTree) → In t b sc vs → AllSound t (Site.statement sc a ∷ access_sites t.names sc a)
      → (m : Made) × (option_and_then (operating p at) (value t uses vs None (ExprTree.node at (ExprForm.access a))) ≡ Some m) × AllWhole t m.slots
  operation_there sc vs p at (AccessTree.path x steps args) there sound =
      let n = t.names in
      let kept = at_statement t sc (AccessTree.path x steps args) sound.0 in
      let r = reached t b uses ready sc vs there x steps args kept in
      let parts = all_parts (Sound t) (step_sites n sc (way_from n (find_var sc.vars (text_of x)) x) steps) _ sound.1 in
      let keys = keys_valued t b uses ready sc vs (way_from n (find_var sc.vars (text_of x)) x) r.c.keys steps there r.along r.keys_whole parts.0 in
      let own = given_valued t b uses ready sc vs r.c.args args there r.args_whole r.many (subst (λ ks. AllSound t (given_sites n sc ks args)) (sym r.args_are) parts.1) in
      let law = not-false _ (when_not _ _ (sound.0.0 (rule 13 rule13) (is_one_of rules 12 _ refl))) in
      let acts = acts_there _ law kept.t12 r.some in
      let k = r.acts acts.0 acts.1 acts.2 in
      let v = OpTerm k.0 (append keys.0 own.0) in
      let gives : called_with uses r.c.what keys.0 own.0 ≡ Some (term v) = ap (λ w. called_with uses w keys.0 own.0) k.1 in (
        _,
        then_is (operating p at) _ (term v) _
            (then_is (λ c. applied uses c.what (key_terms t uses vs c.keys steps) (arg_terms t uses vs c.args args)) _ r.c (term v) r.is
            (then_is _ (key_terms t uses vs r.c.keys steps) keys.0 (term v) keys.1 (then_is _ (arg_terms t uses vs r.c.args args) own.0 (term v) own.1 gives))) refl,
        tt,
      )

  mutual
    pub stmt_there : (f : Frame) (g : Sight) (last : Bool) (p : Place) (vs : Vars) (next : ℕ) (s : StmtTree) → p.result ≡ f.result → AskedWhole t f.result → Here t b f g vs
        → AllSound t (stmt_sites t.names f g last s) → Makes t (stmt t uses p vs next s)
    stmt_there f g last p vs next (StmtTree.node at (StmtForm.var x ty None)) result asked here sound =
        let whole = written_whole t ready.bool f.decl _ ty sound.1.0 in
        (with_kind (kind_of t.names ty) (made no_st []), refl, (whole, tt))
    stmt_there f g last p vs next (StmtTree.node at (StmtForm.var x ty (Some e))) result asked here sound =
        let n = t.names in
        let k = kind_of n ty in
        let whole = written_whole t ready.bool f.decl _ ty sound.1.0 in
        let below = declared_here t b f g false vs next x ty whole here in
        let ws = with_slot n vs next x ty in
        let v = valued t b uses ready (scope_in f (flow.with_declared n g false x ty)) ws (asks 23 k) e
        (in_sight t b f (flow.with_declared n g false x ty) ws below) whole sound.1.1 in
        let own = assigned_to p at next v.0 in (
          with_kind k own,
          map_is (with_kind k) _ own (then_is (assignment_to t uses p ws at e) (stand_named ws (text_of x)) _ own
              (declared_found t b f g vs next x ty here sound.0) (both_is (assigned_to p at) (Some next) _ next v.0 refl v.1)),
          (whole, tt),
        )
    stmt_there f g last p vs next (StmtTree.node at (StmtForm.new x id)) result asked here sound =
        let a = assigned_there t b f g vs x here sound.0 in
        let law = not-false _ (when_not _ _ (sound.1.0.0 (rule 5 rule05) (is_one_of rules 4 _ refl))) in
        let k = id_there t (text_of id) law in
        (_, both_is (λ slot m. just (New at slot m)) _ _ a.slot k.0 (then_is slot_for (stand_named vs (text_of x)) a.s a.slot a.is a.at) k.1, tt)
    stmt_there f g last p vs next (StmtTree.node at (StmtForm.assign x e)) result asked here sound =
        let a = assigned_there t b f g vs x here sound.0 in
        let v = valued t b uses ready (scope_in f g) vs (value_for (find_var g.vars (text_of x))) e (in_sight t b f g vs here)
        (subst (IsWhole t) (sym a.same) a.whole) sound.1 in
        let found = subst (λ k. value t uses vs (Some k) e ≡ Some v.0) a.same v.1 in (
          assigned_to p at a.slot v.0,
          then_is (assignment_to t uses p vs at e) (stand_named vs (text_of x)) a.s _ a.is
              (both_is (assigned_to p at) _ _ a.slot v.0 a.at found),
          tt,
        )
    stmt_there f g last p vs next (StmtTree.node at (StmtForm.access a)) result asked here sound =
        operation_there (scope_in f g) vs p at a (in_sight t b f g vs here) sound
    stmt_there f g last p vs next (StmtTree.node at (StmtForm.if_ e body other)) result asked here sound =
        let n = t.names in
        let first = expr_sites n (scope_in f g) bool_whole e in
        let outer = all_parts (Sound t) (first ++ block_sites n f g body) (else_sites n f g other) sound in
        let inner = all_parts (Sound t) first (block_sites n f g body) outer.0 in
        let v = valued t b uses ready (scope_in f g) vs bool_whole e (in_sight t b f g vs here) (truth_whole t ready.bool) inner.0 in
        let start = past_hidden (is_apart p v.0) next in
        let left = block_there f g p vs start body result asked here inner.1 in
        let right = else_there f g p vs (start + length left.0.slots) other result asked here outer.1 in (
          branching (is_apart p v.0) at next v.0 left.0 right.0,
          then_is _ _ v.0 _ v.1 (then_is _ _ left.0 _ left.1 (map_is (branching (is_apart p v.0) at next v.0 left.0) _ right.0 right.1)),
          branching_slots t (is_apart p v.0) at next v.0 left.0 right.0 (truth_whole t ready.bool) left.2 right.2,
        )
    stmt_there f g last p vs next (StmtTree.node at (StmtForm.match e arms)) result asked here sound =
        let n = t.names in
        let there = in_sight t b f g vs here in
        let sc = scope_in f g in
        let k = type_of n g.vars None e in
        let j = type_of n (vars_of vs) None e in
        let same : k ≡ j = seen_type n g.vars vs there.seen None e in
        let parts = all_parts (Sound t) (expr_sites n sc matched e) _ sound in
        let v = valued t b uses ready sc vs matched e there tt parts.0 in
        let x = plain_term _ _ _ v (plain_there t sc matched e refl parts.0) in
        let whole = type_whole t ready.bool sc (accesses_whole t b uses ready sc vs there) matched e tt parts.0 in
        let start = past_hidden (is_apart p (term x.0)) next in
        let r = subst (λ z. MakesArms t (arms_made t uses p vs start z arms)) same
        (arms_there f g [] p vs start k arms result asked here whole (matched_there t sc matched e refl parts.0) parts.1.1) in (
          matching (is_apart p (term x.0)) at next j x.0 r.0,
          then_is _ _ x.0 _ (term_is _ _ x.1) (map_is (matching (is_apart p (term x.0)) at next j x.0) _ r.0 r.1),
          matching_slots t (is_apart p (term x.0)) at next j x.0 r.0 (subst (IsWhole t) same whole) r.2,
        )
    stmt_there f g last p vs next (StmtTree.node at (StmtForm.atomic body)) result asked here sound =
        let inner : Here t b (record f { inside_atomic = true }) g vs = record { decl = here.decl; exact = here.exact; whole = here.whole } in
        let r = block_there (record f { inside_atomic = true }) g (inside p) vs next body result asked inner sound.1 in
        (atomic at r.0, map_is (atomic at) _ r.0 r.1, r.2)
    stmt_there f g last p vs next (StmtTree.node at (StmtForm.assert e)) result asked here sound =
        let v = valued t b uses ready (scope_in f g) vs bool_whole e (in_sight t b f g vs here) (truth_whole t ready.bool) sound in
        (asserted p at v.0, map_is (asserted p at) _ v.0 v.1, tt)
    stmt_there f g last p vs next (StmtTree.node at (StmtForm.return None)) result asked here sound = (just (Return at), refl, tt)
    stmt_there f g last p vs next (StmtTree.node at (StmtForm.return (Some e))) result asked here sound =
        let law = not-false _ (when_not _ _ (sound.0.0 (rule 20 rule20) (is_one_of rules 19 _ refl))) in
        let k = result_there f.result (and_parts _ _ law).1 in
        let whole : IsWhole t k.0 = subst (AskedWhole t) k.1 asked in
        let at_result : result_kind f.result ≡ k.0 = ap result_kind k.1 in
        let v = valued t b uses ready (scope_in f g) vs (asks 23 (result_kind f.result)) e (in_sight t b f g vs here) (subst (IsWhole t) (sym at_result) whole) sound.1 in
        let found = subst (λ z. value t uses vs (Some z) e ≡ Some v.0) at_result v.1 in (
          returning at next k.0 v.0,
          then_is (λ z. option_map (returning at next z) (value t uses vs (Some z) e)) p.result k.0 _ (result ∙ k.1) (map_is (returning at next k.0) _ v.0 found),
          returning_slots t at next k.0 v.0 whole,
        )

    pub block_there : (f : Frame) (g : Sight) (p : Place) (vs : Vars) (next : ℕ) (body : BlockTree) → p.result ≡ f.result → AskedWhole t f.result → Here t b f g vs
        → AllSound t (block_sites t.names f g body) → Makes t (block t uses p vs next body)
    block_there f g p vs next (BlockTree.block at stmts) result asked here sound = stmts_there f g p vs next stmts result asked here sound

    stmts_there : (f : Frame) (g : Sight) (p : Place) (vs : Vars) (next : ℕ) (stmts : StmtTrees) → p.result ≡ f.result → AskedWhole t f.result → Here t b f g vs
        → AllSound t (stmts_sites t.names f g stmts) → Makes t (stmts_made t uses p vs next stmts)
    stmts_there f g p vs next StmtTrees.no_stmts result asked here sound = (made no_st [], refl, tt)
    stmts_there f g p vs next (StmtTrees.more_stmts s stmts) result asked here sound =
        let n = t.names in
        let own = stmt_sites n (before_stmts f stmts) g (is_last stmts) s in
        let parts = all_parts (Sound t) own (stmts_sites n f (after n g s) stmts) sound in
        let at_s : Here t b (before_stmts f stmts) g vs = record { decl = here.decl; exact = here.exact; whole = here.whole } in
        let first = stmt_there (before_stmts f stmts) g (is_last stmts) p vs next s result asked at_s parts.0 in
        let past : Here t b f (after n g s) (behind n vs next s) = record {
          decl = here.decl;
          exact = stmt_after n g vs next s here.exact;
          whole = behind_whole t ready.bool (before_stmts f stmts) g (is_last stmts) vs next s here.whole parts.0;
        } in
        let rest = stmts_there f (after n g s) p (behind n vs next s) (next + length first.0.slots) stmts result asked past parts.1 in (
          before first.0 rest.0,
          then_is _ _ first.0 _ first.1 (map_is (before first.0) _ rest.0 rest.1),
          all_both (IsWhole t) first.0.slots rest.0.slots first.2 rest.2,
        )

    else_there : (f : Frame) (g : Sight) (p : Place) (vs : Vars) (next : ℕ) (other : ElseTree) → p.result ≡ f.result → AskedWhole t f.result → Here t b f g vs
        → AllSound t (else_sites t.names f g other) → Makes t (else_made t uses p vs next other)
    else_there f g p vs next ElseTree.no_else result asked here sound = (made no_st [], refl, tt)
    else_there f g p vs next (ElseTree.else_block body) result asked here sound = block_there f g p vs next body result asked here sound
    else_there f g p vs next (ElseTree.else_if s) result asked here sound = stmt_there f g true p vs next s result asked here sound

    arms_there : (f : Frame) (g : Sight) (past : List Name) (p : Place) (vs : Vars) (next : ℕ) (k : Kind) (arms : BlockArmTrees) → p.result ≡ f.result
        → AskedWhole t f.result → Here t b f g vs → IsWhole t k → is_datatype_kind t.names k ≡ true
        → AllSound t (arm_sites t.names f g k past arms) → MakesArms t (arms_made t uses p vs next k arms)
    arms_there f g past p vs next k BlockArmTrees.no_block_arms result asked here whole data_ sound = (record { arms = no_st_arm; slots = [] }, refl, tt)
    arms_there f g past p vs next k (BlockArmTrees.more_block_arms (BlockArmTree.arm q body) arms) result asked here whole data_ sound =
        let n = t.names in
        let kinds = pattern_kinds n k (pattern_name q) in
        let h = flow.in_pattern n g k q in
        let front = pattern_sites n g.vars k past q in
        let outer = all_parts (Sound t) (front ++ block_sites n f h body) (arm_sites n f g k (pattern_name q ∷ past) arms) sound in
        let inner = all_parts (Sound t) front (block_sites n f h body) outer.0 in
        let arm = arm_there t k past q whole data_ inner.0.0 in
        let fields = ready.fields k (pattern_name q) whole in
        let own = block_there f h p (in_pattern n vs next k q) (next + length (pattern_vars q)) body result asked
        (pattern_here t b f g vs next k q fields arm.many here) inner.1 in
        let rest = arms_there f g (pattern_name q ∷ past) p vs (next + length (pattern_vars q) + length own.0.slots) k arms result asked here whole data_ outer.1 in
        let slots = pattern_slots n k q in (
          arm_with q next slots arm.con own.0 rest.0,
          then_is _ _ arm.con _ arm.is (then_is _ _ own.0 _ own.1 (map_is (arm_with q next slots arm.con own.0) _ rest.0 rest.1)),
          all_both (IsWhole t) (slots ++ own.0.slots) rest.0.slots
              (all_both (IsWhole t) slots own.0.slots (pattern_whole t (pattern_vars q) kinds fields arm.many) own.2) rest.2,
        )
