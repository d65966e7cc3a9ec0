-- At each place of a statement the type of what stands there has a number.
use Rattle.std.proofs.Common.{◌≡◌, ℕ, Bool, true, false, List, [], ◌∷◌, ◌++◌, Some, None, refl, ap, subst, sym}
use Rattle.std.proofs.lemmas.Bool.{and_parts, not-false}
use Rattle.rp_grammar.specs.Trees.{StmtTree, StmtForm, StmtTrees, BlockTree, ElseTree, BlockArmTree, BlockArmTrees, AccessTree}
use Rattle.type_rules.specs.declared.kind.Kind.{Kind}
use Rattle.type_rules.specs.Names.{Name, text_of}
use Rattle.type_rules.specs.Kinds.{kind_of}
use Rattle.type_rules.specs.Accesses.{find_var}
use Rattle.type_rules.specs.Typing.{type_of}
use Rattle.type_rules.specs.Matches.{pattern_name}
use Rattle.type_rules.specs.ExprSites.{asks, bool_whole, expr_sites, matched, pattern_sites}
use Rattle.type_rules.specs.Flow as flow
use Rattle.type_rules.specs.Flow.{Sight, after}
use Rattle.type_rules.specs.StmtSites.{Frame, arm_sites, before_stmts, block_sites, else_sites, is_last, result_kind, scope_in, stmt_sites, stmts_sites, value_for}
use Rattle.type_rules.specs.Rules.{is_datatype_kind, rule, rules, rule20}
use Rattle.desugaring.specs.Tables.{Tables}
use Rattle.desugaring.specs.Callees.{Vars}
use Rattle.desugaring.specs.Expressions.{Uses}
use Rattle.desugaring.specs.Statements.{behind, in_pattern, with_slot}
use Rattle.lawful.proofs.Basics.{when_not}
use Rattle.lawful.proofs.Places.{all_parts, is_one_of}
use Rattle.lawful_programs.specs.Valued.{Sound, AllSound, IsWhole, AskedWhole, Ready}
use Rattle.lawful_programs.proofs.Wholes.{truth_whole, written_whole}
use Rattle.lawful_programs.proofs.Types.{type_whole}
use Rattle.lawful_programs.proofs.Numbers.{arm_there}
use Rattle.lawful_programs.proofs.Reached.{at_statement}
use Rattle.lawful_programs.proofs.Parts.{matched_there}
use Rattle.lawful_programs.proofs.Exprs.{accesses_whole}
use Rattle.lawful_programs.proofs.Flow.{stmt_after}
use Rattle.lawful_programs.proofs.Sights.{Here, assigned_there, declared_here, in_sight, pattern_here}
use Rattle.lawful_programs.proofs.Stmts.{behind_whole, result_there}
use Rattle.lawful_programs.proofs.Walk.{Wholes, access_wholes, join, pattern_wholes, wholes}

module _ (t : Tables) (b : ℕ) (uses : Uses) (ready : Ready t b uses) where
  mutual
    pub stmt_wholes : (f : Frame) (g : Sight) (last : Bool) (vs : Vars) (s : StmtTree) → AskedWhole t f.result → Here t b f g vs
        → AllSound t (stmt_sites t.names f g last s) → Wholes t (stmt_sites t.names f g last s)
    stmt_wholes f g last vs (StmtTree.node at (StmtForm.var x ty None)) asked here sound = (tt, (tt, tt))
    stmt_wholes f g last vs (StmtTree.node at (StmtForm.var x ty (Some e))) asked here sound =
        let n = t.names in
        let whole = written_whole t ready.bool f.decl _ ty sound.1.0 in
        let below = declared_here t b f g false vs 0 x ty whole here in (
          tt,
          (
            tt,
            wholes t b uses ready (scope_in f (flow.with_declared n g false x ty)) (with_slot n vs 0 x ty) (asks 23 (kind_of n ty)) e
                (in_sight t b f (flow.with_declared n g false x ty) (with_slot n vs 0 x ty) below) whole sound.1.1,
          ),
        )
    stmt_wholes f g last vs (StmtTree.node at (StmtForm.new x id)) asked here sound = (tt, (tt, tt))
    stmt_wholes f g last vs (StmtTree.node at (StmtForm.assign x e)) asked here sound =
        let a = assigned_there t b f g vs x here sound.0 in (
          tt,
          wholes t b uses ready (scope_in f g) vs (value_for (find_var g.vars (text_of x))) e (in_sight t b f g vs here)
              (subst (IsWhole t) (sym a.same) a.whole) sound.1,
        )
    stmt_wholes f g last vs (StmtTree.node at (StmtForm.access (AccessTree.path x steps args))) asked here sound = (
      tt,
      access_wholes t b uses ready (scope_in f g) vs x steps args (in_sight t b f g vs here)
          (at_statement t (scope_in f g) (AccessTree.path x steps args) sound.0) sound.1,
    )
    stmt_wholes f g last vs (StmtTree.node at (StmtForm.if_ e body other)) asked here sound =
        let n = t.names in
        let first = expr_sites n (scope_in f g) bool_whole e in
        let outer = all_parts (Sound t) (first ++ block_sites n f g body) (else_sites n f g other) sound in
        let inner = all_parts (Sound t) first (block_sites n f g body) outer.0 in
        join t (first ++ block_sites n f g body) (else_sites n f g other)
        (join t first (block_sites n f g body)
        (wholes t b uses ready (scope_in f g) vs bool_whole e (in_sight t b f g vs here) (truth_whole t ready.bool) inner.0)
        (block_wholes f g vs body asked here inner.1))
        (else_wholes f g vs other asked here outer.1)
    stmt_wholes f g last vs (StmtTree.node at (StmtForm.match e arms)) asked here sound =
        let n = t.names in
        let there = in_sight t b f g vs here in
        let sc = scope_in f g in
        let parts = all_parts (Sound t) (expr_sites n sc matched e) _ sound in
        let whole = type_whole t ready.bool sc (accesses_whole t b uses ready sc vs there) matched e tt parts.0 in
        join t (expr_sites n sc matched e) _ (wholes t b uses ready sc vs matched e there tt parts.0)
        (tt, arms_wholes f g [] vs (type_of n g.vars None e) arms asked here whole (matched_there t sc matched e refl parts.0) parts.1.1)
    stmt_wholes f g last vs (StmtTree.node at (StmtForm.atomic body)) asked here sound =
        let inner : Here t b (record f { inside_atomic = true }) g vs = record { decl = here.decl; exact = here.exact; whole = here.whole } in
        (tt, block_wholes (record f { inside_atomic = true }) g vs body asked inner sound.1)
    stmt_wholes f g last vs (StmtTree.node at (StmtForm.assert e)) asked here sound =
        wholes t b uses ready (scope_in f g) vs bool_whole e (in_sight t b f g vs here) (truth_whole t ready.bool) sound
    stmt_wholes f g last vs (StmtTree.node at (StmtForm.return None)) asked here sound = (tt, tt)
    stmt_wholes f g last vs (StmtTree.node at (StmtForm.return (Some e))) asked here sound =
        let law = not-false _ (when_not _ _ (sound.0.0 (rule 20 rule20) (is_one_of rules 19 _ refl))) in
        let k = result_there f.result (and_parts _ _ law).1 in
        let whole : IsWhole t k.0 = subst (AskedWhole t) k.1 asked in (
          tt,
          wholes t b uses ready (scope_in f g) vs (asks 23 (result_kind f.result)) e (in_sight t b f g vs here)
              (subst (IsWhole t) (sym (ap result_kind k.1)) whole) sound.1,
        )

    pub block_wholes : (f : Frame) (g : Sight) (vs : Vars) (body : BlockTree) → AskedWhole t f.result → Here t b f g vs
        → AllSound t (block_sites t.names f g body) → Wholes t (block_sites t.names f g body)
    block_wholes f g vs (BlockTree.block at stmts) asked here sound = stmts_wholes f g vs stmts asked here sound

    stmts_wholes : (f : Frame) (g : Sight) (vs : Vars) (stmts : StmtTrees) → AskedWhole t f.result → Here t b f g vs
        → AllSound t (stmts_sites t.names f g stmts) → Wholes t (stmts_sites t.names f g stmts)
    stmts_wholes f g vs StmtTrees.no_stmts asked here sound = tt
    stmts_wholes f g vs (StmtTrees.more_stmts s stmts) asked here sound =
        let n = t.names in
        let own = stmt_sites n (before_stmts f stmts) g (is_last stmts) s in
        let parts = all_parts (Sound t) own (stmts_sites n f (after n g s) stmts) sound in
        let at_s : Here t b (before_stmts f stmts) g vs = record { decl = here.decl; exact = here.exact; whole = here.whole } in
        let past : Here t b f (after n g s) (behind n vs 0 s) = record {
          decl = here.decl;
          exact = stmt_after n g vs 0 s here.exact;
          whole = behind_whole t ready.bool (before_stmts f stmts) g (is_last stmts) vs 0 s here.whole parts.0;
        } in
        join t own (stmts_sites n f (after n g s) stmts) (stmt_wholes (before_stmts f stmts) g (is_last stmts) vs s asked at_s parts.0)
        (stmts_wholes f (after n g s) (behind n vs 0 s) stmts asked past parts.1)

    else_wholes : (f : Frame) (g : Sight) (vs : Vars) (other : ElseTree) → AskedWhole t f.result → Here t b f g vs
        → AllSound t (else_sites t.names f g other) → Wholes t (else_sites t.names f g other)
    else_wholes f g vs ElseTree.no_else asked here sound = tt
    else_wholes f g vs (ElseTree.else_block body) asked here sound = block_wholes f g vs body asked here sound
    else_wholes f g vs (ElseTree.else_if s) asked here sound = stmt_wholes f g true vs s asked here sound

    arms_wholes : (f : Frame) (g : Sight) (past : List Name) (vs : Vars) (k : Kind) (arms : BlockArmTrees) → AskedWhole t f.result → Here t b f g vs
        → IsWhole t k → is_datatype_kind t.names k ≡ true → AllSound t (arm_sites t.names f g k past arms) → Wholes t (arm_sites t.names f g k past arms)
    arms_wholes f g past vs k BlockArmTrees.no_block_arms asked here whole data_ sound = tt
    arms_wholes f g past vs k (BlockArmTrees.more_block_arms (BlockArmTree.arm q body) arms) asked here whole data_ sound =
        let n = t.names in
        let h = flow.in_pattern n g k q in
        let front = pattern_sites n g.vars k past q in
        let outer = all_parts (Sound t) (front ++ block_sites n f h body) (arm_sites n f g k (pattern_name q ∷ past) arms) sound in
        let inner = all_parts (Sound t) front (block_sites n f h body) outer.0 in
        let arm = arm_there t k past q whole data_ inner.0.0 in
        join t (front ++ block_sites n f h body) (arm_sites n f g k (pattern_name q ∷ past) arms)
        (join t front (block_sites n f h body) (pattern_wholes t g.vars k past q)
        (block_wholes f h (in_pattern n vs 0 k q) body asked (pattern_here t b f g vs 0 k q (ready.fields k (pattern_name q) whole) arm.many here) inner.1))
        (arms_wholes f g (pattern_name q ∷ past) vs k arms asked here whole data_ outer.1)
