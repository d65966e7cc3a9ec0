-- The slots and the result of a lawful text's procedures are of types of data.
use Rattle.std.proofs.Common.{◌≡◌, ◌+◌, ℕ, Bool, true, ◌||◌, List, [], ◌∷◌, ◌++◌, length, Some, None, refl, ap, subst, sym, ◌∙◌, arith}
use Rattle.std.specs.List.{AllByRecursion}
use Rattle.std.proofs.lemmas.Bool.{and_parts, not-false}
use Rattle.rp_span.specs.declared.Span.{Span}
use Rattle.rp_value.specs.declared.tables.Ty.{Ty}
use Rattle.rp_grammar.specs.Trees.{Ident, ExprTree, TypeTree, PatternTree, BlockTree, StmtTree, StmtTrees, ElseTree, BlockArmTrees}
use Rattle.rp_grammar.proofs.Formed.{FormedStmt, FormedBlock, FormedStmts, FormedElse, FormedBlockArms}
use Rattle.rp_grammar.proofs.FormedTexts.{Lexable}
use Rattle.rp_lang.specs.Blocks.{is_slot}
use Rattle.rp_lang.specs.Stmts.{Sts, StArms}
use Rattle.rp_lang.specs.Programs.{Prog}
use Rattle.rp_lang.specs.Types.{are_ordinary, fields_of, is_ordinary}
use Rattle.type_rules.specs.declared.kind.Kind.{Kind}
use Rattle.type_rules.specs.declared.kind.Base.TheVariants as base
use Rattle.type_rules.specs.declared.role.Role.TheVariants as role
use Rattle.type_rules.specs.Names.{Name, Names}
use Rattle.type_rules.specs.Kinds.{is_any, kind_of}
use Rattle.type_rules.specs.Typing.{type_of}
use Rattle.type_rules.specs.Sites.{Site}
use Rattle.type_rules.specs.Matches.{bound_sites, cases_of, pattern_kinds, pattern_name, pattern_vars}
use Rattle.type_rules.specs.ExprSites.{bool_whole, expr_sites, matched}
use Rattle.type_rules.specs.Flow as flow
use Rattle.type_rules.specs.Flow.{Sight, after, after_block}
use Rattle.type_rules.specs.StmtSites.{Frame, scope_in, before_stmts, is_last, stmt_sites, block_sites, stmts_sites, else_sites, arm_sites}
use Rattle.type_rules.specs.Rules.{is_datatype_kind, rule, rules, rule18, rule24}
use Rattle.desugaring.specs.Parts.{each}
use Rattle.desugaring.specs.Tables.{Tables, arm_number, ty_of, type_table, up_from}
use Rattle.desugaring.specs.Callees.{Vars, vars_of}
use Rattle.desugaring.specs.Statements.{Place, behind, in_pattern, inside, pattern_slots, slot_kinds}
use Rattle.desugaring.specs.Runs.{Returns, Runs, BlockRuns, AllRun, ElseRuns, ArmsRun}
use Rattle.desugaring.proofs.Options.{both_there}
use Rattle.lawful.proofs.Alike.{alike_type}
use Rattle.lawful.proofs.Arms.{there_are_cases}
use Rattle.lawful.proofs.Basics.{known, when_not}
use Rattle.lawful.proofs.Cons.{ty_parts}
use Rattle.lawful.proofs.Crdts.{data_ordinary, kind_ordinary}
use Rattle.lawful.proofs.Flows.{Here, Laws, With, arm_here, here_later, is_if, row_here, stmt_flow}
use Rattle.lawful.proofs.Forms.{one}
use Rattle.lawful.proofs.Places.{Lawfully, all_both, all_parts, is_one_of}
use Rattle.lawful.proofs.Slotted.{slots_alike}

-- the type of the kind is one of data
abbrev pub IsOrdinary : Tables → Prog → Kind → Type 0
IsOrdinary t p k = (of : Ty) → ty_of t k ≡ Some of → is_ordinary p.types of ≡ true

abbrev pub AllOrdinary : Tables → Prog → List Kind → Type 0
AllOrdinary t p ks = AllByRecursion (IsOrdinary t p) ks

-- what the tables give
pub record Tabled (t : Tables) (p : Prog) : Type 0 where
  pub types : p.types ≡ type_table t
  pub fields : (con : ℕ) → are_ordinary p.types (fields_of p.cons con) ≡ true
  pub arm : (k : Kind) (q : PatternTree) (con : ℕ) → arm_number t k q ≡ Some con
      → each (ty_of t) (pattern_kinds t.names k (pattern_name q)) ≡ Some (fields_of p.cons con)
  pub arm_many : (k : Kind) (q : PatternTree) (con : ℕ) → arm_number t k q ≡ Some con
      → length (pattern_kinds t.names k (pattern_name q)) ≡ length (pattern_vars q)

pub written_ordinary : (t : Tables) (p : Prog) → p.types ≡ type_table t → (decl : ℕ) (ty : TypeTree) → Lawfully t.names (Site.written decl role.Variable ty)
    → IsOrdinary t p (kind_of t.names ty)
written_ordinary t p types decl ty law of is =
    let k = kind_of t.names ty in
    kind_ordinary t p types k.base k.maybes of (not-false _ (when_not _ _ (law (rule 24 rule24) (is_one_of rules 23 _ refl)))) is

-- what a `match` is on
data_there : (t : Tables) (p : Prog) → p.types ≡ type_table t → (k : Kind) → is_datatype_kind t.names k ≡ true → IsOrdinary t p k
data_there t p types k is_data of is =
    let cs = there_are_cases (is_any k.base) (cases_of t.names k) (known t k of is) is_data in
    data_ordinary t p types k of (sym (ty_parts t k.base k.maybes cs.0 cs.1) ∙ is)

each_ordinary : (t : Tables) (p : Prog) (ks : List Kind) (tys : List Ty) → each (ty_of t) ks ≡ Some tys → are_ordinary p.types tys ≡ true → AllOrdinary t p ks
each_ordinary t p [] tys e all = tt
each_ordinary t p (k ∷ ks) tys e all =
    both_there (λ z. are_ordinary p.types z ≡ true → AllOrdinary t p (k ∷ ks)) ◌∷◌ (ty_of t k) (each (ty_of t) ks) tys e
    (λ of ofs i j h.
    let parts = and_parts (is_ordinary p.types of) (are_ordinary p.types ofs) h in
    ((λ other is. subst (λ z. is_ordinary p.types z ≡ true) (one (sym i ∙ is)) parts.0), each_ordinary t p ks ofs j parts.1))
    all

slots_are : (xs : List Ident) (ks : List Kind) → length ks ≡ length xs → slot_kinds xs ks ≡ ks
slots_are [] [] long = refl
slots_are [] (k ∷ ks) long = absurd (omega (arith, long))
slots_are (x ∷ xs) [] long = absurd (omega (arith, long))
slots_are (x ∷ xs) (k ∷ ks) long = ap (λ z. k ∷ z) (slots_are xs ks (omega (arith, long)))

abbrev pub Results : Tables → Prog → Place → Type 0
Results t p place = (k : Kind) → place.result ≡ Some k → IsOrdinary t p k

returned : (t : Tables) (p : Prog) (b : ℕ) (vs : Vars) (next : ℕ) (at : Span) (k : Kind) (e : ExprTree) (sts : Sts) (ks : List Kind)
    → Returns t b vs next at k e sts ks → IsOrdinary t p k → AllOrdinary t p ks
returned t p b vs next at k e sts ks (Returns.of_term m near) is = tt
returned t p b vs next at k e sts ks (Returns.of_reading_term m reading) is = (is, tt)
returned t p b vs next at k e sts ks (Returns.of_formula m near) is = (is, tt)
returned t p b vs next at k e sts ks (Returns.of_reading_formula m reading) is = (is, tt)

matched_data : (n : Names) (f : Frame) (g : Sight) (e : ExprTree) → AllByRecursion (Lawfully n) (expr_sites n (scope_in f g) matched e)
    → is_datatype_kind n (type_of n g.vars None e) ≡ true
matched_data n f g (ExprTree.node at form) laws = not-false _ (when_not _ _ (laws.0 (rule 18 rule18) (is_one_of rules 17 _ refl)))

mutual
  stmt_slots : (t : Tables) (q : Prog) → Tabled t q → (b : ℕ) (p : Place) → Results t q p → (vs : Vars) (next : ℕ) (s : StmtTree) (sts : Sts) (ks : List Kind)
      → Runs t b p vs next s sts ks → (f : Frame) (g : Sight) (last : Bool) → FormedStmt Lexable s → Laws t.names (stmt_sites t.names f g last s)
      → (set fixed : ℕ → Bool) → Here set fixed g vs next → AllOrdinary t q ks
  stmt_slots t q is b p res vs next s sts ks (Runs.declares {ty = ty}) f g last formed laws set fixed here =
      (written_ordinary t q is.types f.decl ty laws.1.0, tt)
  stmt_slots t q is b p res vs next s sts ks (Runs.declares_with {ty = ty} a) f g last formed laws set fixed here =
      (written_ordinary t q is.types f.decl ty laws.1.0, tt)
  stmt_slots t q is b p res vs next s sts ks (Runs.news found id) f g last formed laws set fixed here = tt
  stmt_slots t q is b p res vs next s sts ks (Runs.assigns a) f g last formed laws set fixed here = tt
  stmt_slots t q is b p res vs next s sts ks (Runs.operates m h) f g last formed laws set fixed here = tt
  stmt_slots t q is b p res vs next s sts ks (Runs.operates_apart m h) f g last formed laws set fixed here = tt
  stmt_slots t q is b p res vs next s sts ks (Runs.branches {e = e} {then_ = then_} {other = other} {first = first} {second = second} {ks = ks_} {js = js} m h run else_) f g last formed laws set fixed here =
      let n = t.names in
      let outer = all_parts (Lawfully n) (expr_sites n (scope_in f g) bool_whole e ++ block_sites n f g then_) (else_sites n f g other) laws in
      let inner = all_parts (Lawfully n) (expr_sites n (scope_in f g) bool_whole e) (block_sites n f g then_) outer.0 in
      all_both (IsOrdinary t q) ks_ js (block_slots t q is b p res vs next then_ first ks_ run f g formed.1 inner.1 set fixed here)
      (else_slots t q is b p res vs (next + length ks_) other second js else_ f g formed.2 outer.1 set fixed (here_later set fixed g vs next (next + length ks_) (omega arith) here))
  stmt_slots t q is b p res vs next s sts ks (Runs.branches_apart {e = e} {then_ = then_} {other = other} {first = first} {second = second} {ks = ks_} {js = js} m h run else_) f g last formed laws set fixed here =
      let n = t.names in
      let outer = all_parts (Lawfully n) (expr_sites n (scope_in f g) bool_whole e ++ block_sites n f g then_) (else_sites n f g other) laws in
      let inner = all_parts (Lawfully n) (expr_sites n (scope_in f g) bool_whole e) (block_sites n f g then_) outer.0 in (
        (λ of e_. kind_ordinary t q is.types base.Bool 0 of refl e_),
        all_both (IsOrdinary t q) ks_ js
            (block_slots t q is b p res vs (next + 1) then_ first ks_ run f g formed.1 inner.1 set fixed (here_later set fixed g vs next (next + 1) (omega arith) here))
            (else_slots t q is b p res vs (next + 1 + length ks_) other second js else_ f g formed.2 outer.1 set fixed
            (here_later set fixed g vs next (next + 1 + length ks_) (omega arith) here)),
      )
  stmt_slots t q is b p res vs next s sts ks (Runs.matches {e = e} {arms = arms} {made = made} m h run) f g last formed laws set fixed here =
      let n = t.names in
      let same = alike_type n g.vars vs (slots_alike set fixed g.vars vs here.slots) None e in
      let parts = all_parts (Lawfully n) (expr_sites n (scope_in f g) matched e) _ laws in
      arms_slots t q is b p res vs next _ arms made ks run f g [] formed.1 (subst (λ z. Laws n (arm_sites n f g z [] arms)) same parts.1.1) set fixed here
  stmt_slots t q is b p res vs next s sts ks (Runs.matches_apart {e = e} {arms = arms} {made = made} {ks = ks_} m h run) f g last formed laws set fixed here =
      let n = t.names in
      let k = type_of n (vars_of vs) None e in
      let same : type_of n g.vars None e ≡ k = alike_type n g.vars vs (slots_alike set fixed g.vars vs here.slots) None e in
      let parts = all_parts (Lawfully n) (expr_sites n (scope_in f g) matched e) _ laws in (
        data_there t q is.types k (subst (λ z. is_datatype_kind n z ≡ true) same (matched_data n f g e parts.0)),
        arms_slots t q is b p res vs (next + 1) k arms made ks_ run f g [] formed.1 (subst (λ z. Laws n (arm_sites n f g z [] arms)) same parts.1.1) set fixed
            (here_later set fixed g vs next (next + 1) (omega arith) here),
      )
  stmt_slots t q is b p res vs next s sts ks (Runs.is_atomic {body = body} {sts = inner} run) f g last formed laws set fixed here =
      block_slots t q is b (inside p) res vs next body inner ks run (record f { inside_atomic = true }) g formed laws.1 set fixed here
  stmt_slots t q is b p res vs next s sts ks (Runs.asserts m h) f g last formed laws set fixed here = tt
  stmt_slots t q is b p res vs next s sts ks (Runs.asserts_apart m h) f g last formed laws set fixed here = tt
  stmt_slots t q is b p res vs next s sts ks Runs.returns f g last formed laws set fixed here = tt
  stmt_slots t q is b p res vs next s sts ks (Runs.returns_with {at = at} {k = k} {e = e} h r) f g last formed laws set fixed here =
      returned t q b vs next at k e sts ks r (res k h)

  pub block_slots : (t : Tables) (q : Prog) → Tabled t q → (b : ℕ) (p : Place) → Results t q p → (vs : Vars) (next : ℕ) (body : BlockTree) (sts : Sts) (ks : List Kind)
      → BlockRuns t b p vs next body sts ks → (f : Frame) (g : Sight) → FormedBlock Lexable body → Laws t.names (block_sites t.names f g body)
      → (set fixed : ℕ → Bool) → Here set fixed g vs next → AllOrdinary t q ks
  block_slots t q is b p res vs next body sts ks (BlockRuns.block {stmts = stmts} run) f g formed laws set fixed here =
      stmts_slots t q is b p res vs next stmts sts ks run f g formed laws set fixed here

  stmts_slots : (t : Tables) (q : Prog) → Tabled t q → (b : ℕ) (p : Place) → Results t q p → (vs : Vars) (next : ℕ) (stmts : StmtTrees) (sts : Sts) (ks : List Kind)
      → AllRun t b p vs next stmts sts ks → (f : Frame) (g : Sight) → FormedStmts Lexable stmts → Laws t.names (stmts_sites t.names f g stmts)
      → (set fixed : ℕ → Bool) → Here set fixed g vs next → AllOrdinary t q ks
  stmts_slots t q is b p res vs next stmts sts ks AllRun.no_stmt f g formed laws set fixed here = tt
  stmts_slots t q is b p res vs next stmts sts ks (AllRun.more_stmts {s = s} {stmts = others} {first = first} {rest = rest} {ks = ks_} {js = js} run runs) f g formed laws set fixed here =
      let n = t.names in
      let parts = all_parts (Lawfully n) (stmt_sites n (before_stmts f others) g (is_last others) s) (stmts_sites n f (after n g s) others) laws in
      let then_ = row_here t b p vs next s first ks_ run set fixed g here
      (stmt_flow t b p vs next s first ks_ run (before_stmts f others) g (is_last others) formed.0 parts.0 set fixed here) in
      all_both (IsOrdinary t q) ks_ js
      (stmt_slots t q is b p res vs next s first ks_ run (before_stmts f others) g (is_last others) formed.0 parts.0 set fixed here)
      (stmts_slots t q is b p res (behind n vs next s) (next + length ks_) others rest js runs f (after n g s) formed.1 parts.1 (With set first) fixed then_)

  else_slots : (t : Tables) (q : Prog) → Tabled t q → (b : ℕ) (p : Place) → Results t q p → (vs : Vars) (next : ℕ) (other : ElseTree) (sts : Sts) (ks : List Kind)
      → ElseRuns t b p vs next other sts ks → (f : Frame) (g : Sight) → FormedElse Lexable other → Laws t.names (else_sites t.names f g other)
      → (set fixed : ℕ → Bool) → Here set fixed g vs next → AllOrdinary t q ks
  else_slots t q is b p res vs next other sts ks ElseRuns.no_else f g formed laws set fixed here = tt
  else_slots t q is b p res vs next other sts ks (ElseRuns.else_block {body = body} run) f g formed laws set fixed here =
      block_slots t q is b p res vs next body sts ks run f g formed laws set fixed here
  else_slots t q is b p res vs next other sts ks (ElseRuns.else_if {s = s} run) f g formed laws set fixed here =
      stmt_slots t q is b p res vs next s sts ks run f g true (is_if t.names vs next s formed).0 laws set fixed here

  arms_slots : (t : Tables) (q : Prog) → Tabled t q → (b : ℕ) (p : Place) → Results t q p → (vs : Vars) (next : ℕ) (k : Kind) (arms : BlockArmTrees) (made : StArms)
      (ks : List Kind) → ArmsRun t b p vs next k arms made ks → (f : Frame) (g : Sight) (before : List Name) → FormedBlockArms Lexable arms
      → Laws t.names (arm_sites t.names f g k before arms) → (set fixed : ℕ → Bool) → Here set fixed g vs next → AllOrdinary t q ks
  arms_slots t q is b p res vs next k arms made ks ArmsRun.no_arm f g before formed laws set fixed here = tt
  arms_slots t q is b p res vs next k arms made ks (ArmsRun.more_arms {pattern = shape} {body = body} {arms = others} {con = con} {sts = sts} {rest = rest} {ks = ks_} {js = js} found run runs) f g before formed laws set fixed here =
      let n = t.names in
      let xs = pattern_vars shape in
      let kinds = pattern_kinds n k (pattern_name shape) in
      let bound = bound_sites g.vars xs kinds in
      let h = flow.in_pattern n g k shape in
      let outer = all_parts (Lawfully n) (bound ++ block_sites n f h body) (arm_sites n f g k (pattern_name shape ∷ before) others) laws.1 in
      let inner = all_parts (Lawfully n) bound (block_sites n f h body) outer.0 in
      let own = subst (AllOrdinary t q) (sym (slots_are xs kinds (is.arm_many k shape con found)))
      (each_ordinary t q kinds (fields_of q.cons con) (is.arm k shape con found) (is.fields con)) in
      all_both (IsOrdinary t q) (pattern_slots n k shape ++ ks_) js
      (all_both (IsOrdinary t q) (pattern_slots n k shape) ks_ own
      (block_slots t q is b p res (in_pattern n vs next k shape) (next + length xs) body sts ks_ run f h formed.0.1 inner.1
      (λ s. is_slot s (up_from next (length xs)) || set s) (λ s. is_slot s (up_from next (length xs)) || fixed s)
      (arm_here set fixed n g vs next k k shape refl here)))
      (arms_slots t q is b p res vs (next + length xs + length ks_) k others rest js runs f g (pattern_name shape ∷ before) formed.1 outer.1 set fixed
      (here_later set fixed g vs next (next + length xs + length ks_) (omega arith) here))
