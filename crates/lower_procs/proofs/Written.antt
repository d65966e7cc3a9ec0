-- Statements with blocks, by what was written of their parts.
use Rattle.std.proofs.Common.{◌≡◌, ℕ, ◌+◌, Bool, true, false, ◌||◌, List, [], ◌∷◌, ◌++◌, length, map, Option, Some, None, refl, ap, ap₂, sym, subst, ◌∙◌, arith, length-append}
use Rattle.std.proofs.lemmas.List.{map_push}
use Rattle.rp_span.specs.declared.Span.{Span}
use Rattle.rp_grammar.specs.Trees.{BlockArmTree, BlockArmTrees, BlockTree, ElseTree, ExprTree, PatternTree, StmtForm, StmtTree, StmtTrees}
use Rattle.rp_lang.specs.declared.expr.Expr.{Expr}
use Rattle.rp_lang.specs.declared.formula.Formula.{Formula}
use Rattle.rp_lang.specs.declared.stmt.StmtArm.{StmtArm}
use Rattle.rp_lang.specs.Exprs.{Ex}
use Rattle.rp_lang.specs.Stmts.{Atomic, If, Match, StArms, Sts, also_st_arm, no_st, no_st_arm}
use Rattle.rp_lang.specs.Views.{StArmView, expr_view, formula_view, st_arms_of, stmt_arm_view, stmt_arms_view}
use Rattle.type_rules.specs.declared.kind.Kind.{Kind}
use Rattle.type_rules.specs.Kinds.{bool_kind}
use Rattle.type_rules.specs.Matches.{pattern_kinds, pattern_name, pattern_vars}
use Rattle.type_rules.specs.Typing.{type_of}
use Rattle.desugaring.specs.Callees as callees
use Rattle.desugaring.specs.Limits.{some_in_all, some_in_arms}
use Rattle.desugaring.specs.Statements as spec
use Rattle.desugaring.specs.Statements.{Made, MadeArms, append, atomic, branching, inside, matching, one_st, past_hidden}
use Rattle.desugaring.specs.Tables.{Tables, arm_number}
use Rattle.desugaring.specs.Values.{Value, formula, term}
use Rattle.desugaring.proofs.Options.{map_there, term_there, then_there}
use Rattle.query_laws.specs.Sight.{uses_with, vars_in}
use Rattle.reading.specs.declared.reader.Reader.{Reader}
use Rattle.reading.specs.Reads.{IsKept, back_to, sight_of}
use Rattle.lower_exprs.specs.declared.values.Work.{Work}
use Rattle.lower_exprs.specs.declared.values.Maker.{Maker}
use Rattle.lower_exprs.specs.Making.{IsReady}
use Rattle.lower_procs.specs.declared.writer.Frame as code_frame
use Rattle.lower_procs.specs.declared.writer.Writer.{Writer}
use Rattle.lower_procs.specs.Noting.{IsNoted, Passing, is_large_in, none_passing}
use Rattle.lower_procs.specs.Writing.{Adds, AddsArm, AddsArms, ArePast, AreStmts, ArmIsPast, ArmsArePast, Asks, AsksCondition, AsksTerm, Brings, ConditionIsPast, HaveSlots, TermIsPast, WritesArms, WritesBlock, arm_body_in, arms_at, arms_in, asking, block_at, block_in, else_at, else_in, hidden_kinds, on_of, place_view, sight_in, stmt_in, test_of, value_in, with_slots}
use Rattle.lower_procs.proofs.Noted.{noted_none, or_first, or_none, or_second}
use Rattle.lower_procs.proofs.Slots.{brings_both, have_long}
use Rattle.lower_procs.proofs.Sights.{extends_slots, gone, ready_as, ready_slots, vars_seen}
use Rattle.lower_procs.proofs.Rows.{branching_is, matching_is, some_branching, some_matching}
use Rattle.lower_procs.proofs.Added.{atomic_adds, block_is, if_adds, match_adds, same_sight}
use Rattle.lower_procs.proofs.Ways.{StmtsWay, append_arms, arm_block, arms_push, kinds_long, way_ends}

-- # States between parts

hidden_long : (b : Bool) (n : ℕ) (k : Kind) → n + length (hidden_kinds b k) ≡ past_hidden b n
hidden_long true n k = refl
hidden_long false n k = omega arith

-- of a part whose reader is the old one
ready_after : {a b : Writer} {ks : List Kind} {p : Passing} → Brings a ks p b → b.maker.reader ≡ a.maker.reader → IsReady a.maker → IsReady b.maker
ready_after {a} {b} brings same ready = ready_as a.maker b.maker brings.noted.work same ready

back_past : (ss : Sts) {w v : Work} → v ≡ w → some_in_all (is_large_in v.cons.now) ss ≡ true → some_in_all (is_large_in w.cons.now) ss ≡ true
back_past ss work h = subst (λ (w : Work). some_in_all (is_large_in w.cons.now) ss ≡ true) work h

-- # Atomic blocks

pub atomic_written : {a d : Writer} {body after before : Sts} (f g : code_frame.Frame) (at : Span) (b : BlockTree) (m : Made)
    → place_view g ≡ inside (place_view f) → IsReady a.maker → WritesBlock a (block_in a g b) d body
    → after ≡ append before (one_st (Atomic at body)) → stmt_in a f (StmtTree.node at (StmtForm.atomic b)) ≡ Some m
    → Adds a m a.maker.reader before d after
atomic_written {a} {d} {body} {after} {before} f g at b m frame ready writes is h =
    map_there (λ (y : Made). Adds a y a.maker.reader before d after) (atomic at) _ m h (λ n there.
    atomic_adds at (writes ready n (ap (λ p. spec.block (sight_in a).tables (uses_with (sight_in a).uses) p (vars_in (sight_in a) []) (length a.slots) b) frame ∙ there)) is)

pub atomic_past : (a : Writer) (f g : code_frame.Frame) (at : Span) (b : BlockTree) → place_view g ≡ inside (place_view f)
    → ArePast a (block_in a g b) → ArePast a (stmt_in a f (StmtTree.node at (StmtForm.atomic b)))
atomic_past a f g at b frame past ready m h =
    map_there (λ (y : Made). some_in_all (is_large_in a.maker.work.cons.now) y.body ≡ true) (atomic at) _ m h (λ n there.
    or_none _ ∙ past ready n (ap (λ p. spec.block (sight_in a).tables (uses_with (sight_in a).uses) p (vars_in (sight_in a) []) (length a.slots) b) frame ∙ there))

-- # An `if`

-- what is behind the condition
record Behind (a b : Writer) (k : Kind) (apart : Bool) : Type 0 where
  ready : IsReady b.maker
  reader : b.maker.reader ≡ a.maker.reader
  long : length b.slots ≡ past_hidden apart (length a.slots)
  work : b.maker.work ≡ a.maker.work

behind_asks : {a b : Writer} {apart : Bool} {at : Span} {k : Kind} {v asked made : Value} {before after : Sts} → IsReady a.maker
    → Asks a apart at k v asked before b after made → Behind a b k apart
behind_asks {a} {b} {apart} {at} {k} ready asks = record {
  ready = ready_after asks.brings asks.reader ready;
  reader = asks.reader;
  long = have_long asks.brings.slots ∙ hidden_long apart (length a.slots) k;
  work = asks.brings.noted.work;
}

pub if_written : {a b d e : Writer} {before mid lefts rights after : Sts} (f : code_frame.Frame) (at : Span) (cond : ExprTree) (body : BlockTree)
    (other : ElseTree) (test : Formula) (m : Made) → IsReady a.maker → AsksCondition a f at cond before b mid test
    → WritesBlock b (block_in b f body) d lefts → WritesBlock d (else_in d f other) e rights
    → after ≡ append mid (one_st (If at (formula_view test) lefts rights))
    → stmt_in a f (StmtTree.node at (StmtForm.if_ cond body other)) ≡ Some m → Adds a m a.maker.reader before e after
if_written {a} {b} {d} {e} {before} {mid} {lefts} {rights} {after} f at cond body other test m ready asked left right is h =
    let next = length a.slots in
    let r = a.maker.reader in
    then_there _ (value_in a.maker (Some bool_kind) cond) m h (λ v v_is h2.
    let apart = spec.is_apart (place_view f) v in
    let asks = asked ready v v_is in
    let there = behind_asks ready asks in
    then_there _ (block_at f r (past_hidden apart next) body) m h2 (λ l l_is h3.
    let l_adds = left there.ready l (ap₂ (λ (x : Reader) n. block_at f x n body) there.reader there.long ∙ l_is) in
    let same : d.maker.reader ≡ r = l_adds.reader ∙ there.reader in
    let long : length d.slots ≡ past_hidden apart next + length l.slots = have_long l_adds.brings.slots ∙ ap (λ n. n + length l.slots) there.long in
    map_there (λ (y : Made). Adds a y r before e after) (branching apart at next v l) (else_at f r (past_hidden apart next + length l.slots) other) m h3
    (λ o o_is.
    let o_adds = right (ready_after l_adds.brings l_adds.reader there.ready) o
    (ap₂ (λ (x : Reader) n. else_at f x n other) same long ∙ o_is) in
    if_adds apart at asks l_adds o_adds is)))

-- the condition is past a limit
pub if_past : (a : Writer) (f : code_frame.Frame) (at : Span) (cond : ExprTree) (body : BlockTree) (other : ElseTree)
    → ConditionIsPast a f at cond → ArePast a (stmt_in a f (StmtTree.node at (StmtForm.if_ cond body other)))
if_past a f at cond body other past ready m h =
    let test = is_large_in a.maker.work.cons.now in
    let next = length a.slots in
    let r = a.maker.reader in
    then_there _ (value_in a.maker (Some bool_kind) cond) m h (λ v v_is h2.
    let apart = spec.is_apart (place_view f) v in
    then_there _ (block_at f r (past_hidden apart next) body) m h2 (λ l l_is h3.
    map_there (λ (y : Made). some_in_all test y.body ≡ true) (branching apart at next v l) (else_at f r (past_hidden apart next + length l.slots) other) m h3
    (λ o o_is.
    ap (λ (y : Made). some_in_all test y.body) (branching_is apart at next v l o) ∙ some_branching test apart at next v l.body o.body
    ∙ or_first _ (some_in_all test o.body) (or_first _ (some_in_all test l.body) (past ready v v_is)))))

-- an expression of the block is
pub if_past_left : {a b : Writer} {before mid : Sts} (f : code_frame.Frame) (at : Span) (cond : ExprTree) (body : BlockTree) (other : ElseTree)
    (test : Formula) → AsksCondition a f at cond before b mid test → ArePast b (block_in b f body)
    → ArePast a (stmt_in a f (StmtTree.node at (StmtForm.if_ cond body other)))
if_past_left {a} {b} {before} {mid} f at cond body other formula_ asked past ready m h =
    let test = is_large_in a.maker.work.cons.now in
    let next = length a.slots in
    let r = a.maker.reader in
    then_there _ (value_in a.maker (Some bool_kind) cond) m h (λ v v_is h2.
    let apart = spec.is_apart (place_view f) v in
    let there = behind_asks ready (asked ready v v_is) in
    then_there _ (block_at f r (past_hidden apart next) body) m h2 (λ l l_is h3.
    let here = back_past l.body there.work (past there.ready l (ap₂ (λ (x : Reader) n. block_at f x n body) there.reader there.long ∙ l_is)) in
    map_there (λ (y : Made). some_in_all test y.body ≡ true) (branching apart at next v l) (else_at f r (past_hidden apart next + length l.slots) other) m h3
    (λ o o_is.
    ap (λ (y : Made). some_in_all test y.body) (branching_is apart at next v l o) ∙ some_branching test apart at next v l.body o.body
    ∙ or_first _ (some_in_all test o.body) (or_second _ (some_in_all test l.body) here))))

-- an expression behind the `else` is
pub if_past_right : {a b d : Writer} {before mid lefts : Sts} (f : code_frame.Frame) (at : Span) (cond : ExprTree) (body : BlockTree) (other : ElseTree)
    (test : Formula) → AsksCondition a f at cond before b mid test → WritesBlock b (block_in b f body) d lefts → ArePast d (else_in d f other)
    → ArePast a (stmt_in a f (StmtTree.node at (StmtForm.if_ cond body other)))
if_past_right {a} {b} {d} {before} {mid} {lefts} f at cond body other formula_ asked left past ready m h =
    let test = is_large_in a.maker.work.cons.now in
    let next = length a.slots in
    let r = a.maker.reader in
    then_there _ (value_in a.maker (Some bool_kind) cond) m h (λ v v_is h2.
    let apart = spec.is_apart (place_view f) v in
    let there = behind_asks ready (asked ready v v_is) in
    then_there _ (block_at f r (past_hidden apart next) body) m h2 (λ l l_is h3.
    let l_adds = left there.ready l (ap₂ (λ (x : Reader) n. block_at f x n body) there.reader there.long ∙ l_is) in
    let same : d.maker.reader ≡ r = l_adds.reader ∙ there.reader in
    let long : length d.slots ≡ past_hidden apart next + length l.slots = have_long l_adds.brings.slots ∙ ap (λ n. n + length l.slots) there.long in
    map_there (λ (y : Made). some_in_all test y.body ≡ true) (branching apart at next v l) (else_at f r (past_hidden apart next + length l.slots) other) m h3
    (λ o o_is.
    let here = back_past o.body (l_adds.brings.noted.work ∙ there.work)
    (past (ready_after l_adds.brings l_adds.reader there.ready) o (ap₂ (λ (x : Reader) n. else_at f x n other) same long ∙ o_is)) in
    ap (λ (y : Made). some_in_all test y.body) (branching_is apart at next v l o) ∙ some_branching test apart at next v l.body o.body
    ∙ or_second _ (some_in_all test o.body) here)))

-- # A `match`

-- the type of the term
abbrev pub kind_on : Writer → ExprTree → Kind
kind_on w e = type_of (sight_in w).tables.names (callees.vars_of (vars_in (sight_in w) [])) None e

pub match_written : {a b d : Writer} {before mid after : Sts} {made : StArms} (f : code_frame.Frame) (at : Span) (e : ExprTree) (arms : BlockArmTrees)
    (on : Expr) (m : Made) → IsReady a.maker → AsksTerm a f at (kind_on a e) e before b mid on
    → WritesArms b (arms_in b f (kind_on a e) arms) d made → after ≡ append mid (one_st (Match at (expr_view on) made))
    → stmt_in a f (StmtTree.node at (StmtForm.match e arms)) ≡ Some m → Adds a m a.maker.reader before d after
match_written {a} {b} {d} {before} {mid} {after} {made} f at e arms on m ready asked writes is h =
    let next = length a.slots in
    let r = a.maker.reader in
    let k = kind_on a e in
    then_there _ _ m h (λ x x_is h2.
    let apart = spec.is_apart (place_view f) (term x) in
    let asks = asked ready x (term_there (value_in a.maker None e) x x_is) in
    let there = behind_asks ready asks in
    map_there (λ (y : Made). Adds a y r before d after) (matching apart at next k x) (arms_at f r (past_hidden apart next) k arms) m h2 (λ n n_is.
    match_adds apart at k asks
    (writes there.ready n (ap₂ (λ (y : Reader) i. arms_at f y i k arms) there.reader there.long ∙ n_is)) is))

pub match_past : (a : Writer) (f : code_frame.Frame) (at : Span) (e : ExprTree) (arms : BlockArmTrees)
    → TermIsPast a f at e → ArePast a (stmt_in a f (StmtTree.node at (StmtForm.match e arms)))
match_past a f at e arms past ready m h =
    let test = is_large_in a.maker.work.cons.now in
    let next = length a.slots in
    let r = a.maker.reader in
    let k = kind_on a e in
    then_there _ _ m h (λ x x_is h2.
    let apart = spec.is_apart (place_view f) (term x) in
    map_there (λ (y : Made). some_in_all test y.body ≡ true) (matching apart at next k x) (arms_at f r (past_hidden apart next) k arms) m h2 (λ n n_is.
    ap (λ (y : Made). some_in_all test y.body) (matching_is apart at next k x n) ∙ some_matching test apart at next x n.arms
    ∙ or_first _ (some_in_arms test n.arms) (past ready x (term_there (value_in a.maker None e) x x_is))))

pub match_past_arms : {a b : Writer} {before mid : Sts} (f : code_frame.Frame) (at : Span) (e : ExprTree) (arms : BlockArmTrees) (on : Expr)
    → AsksTerm a f at (kind_on a e) e before b mid on → ArmsArePast b (arms_in b f (kind_on a e) arms)
    → ArePast a (stmt_in a f (StmtTree.node at (StmtForm.match e arms)))
match_past_arms {a} {b} {before} {mid} f at e arms on asked past ready m h =
    let test = is_large_in a.maker.work.cons.now in
    let next = length a.slots in
    let r = a.maker.reader in
    let k = kind_on a e in
    then_there _ _ m h (λ x x_is h2.
    let apart = spec.is_apart (place_view f) (term x) in
    let there = behind_asks ready (asked ready x (term_there (value_in a.maker None e) x x_is)) in
    map_there (λ (y : Made). some_in_all test y.body ≡ true) (matching apart at next k x) (arms_at f r (past_hidden apart next) k arms) m h2 (λ n n_is.
    let here = subst (λ (w : Work). some_in_arms (is_large_in w.cons.now) n.arms ≡ true) there.work
    (past there.ready n (ap₂ (λ (y : Reader) i. arms_at f y i k arms) there.reader there.long ∙ n_is)) in
    ap (λ (y : Made). some_in_all test y.body) (matching_is apart at next k x n) ∙ some_matching test apart at next x n.arms
    ∙ or_second _ (some_in_arms test n.arms) here))

-- # An arm

pub arms_pushed : (old new : List StmtArm) (x : StmtArm) → new ≡ old ++ x ∷ []
    → stmt_arms_view new ≡ append_arms (stmt_arms_view old) (also_st_arm (stmt_arm_view x).0 (stmt_arm_view x).1 (stmt_arm_view x).2 no_st_arm)
arms_pushed old new x is =
    ap (λ l. stmt_arms_view l) is ∙ ap st_arms_of (map_push stmt_arm_view old x) ∙ arms_push (map stmt_arm_view old) (stmt_arm_view x)

-- the variables of the pattern have the next slots
pub record InSlots (a : Writer) (k : Kind) (shape : PatternTree) (b : Writer) : Type 0 where
  pub slots : HaveSlots a (spec.pattern_slots (sight_in a).tables.names k shape) b
  pub maker : b.maker ≡ record a.maker {
    reader = with_slots a.maker.reader (length a.slots) (pattern_vars shape) (pattern_kinds (sight_in a).tables.names k (pattern_name shape));
  }

in_ready : {a b : Writer} {k : Kind} {shape : PatternTree} → InSlots a k shape b → IsReady a.maker → IsReady b.maker
in_ready {a} {b} {k} {shape} in_ ready =
    subst (λ (m : Maker). IsReady m) (sym in_.maker)
    (ready_slots a.maker (length a.slots) (pattern_vars shape) (pattern_kinds (sight_in a).tables.names k (pattern_name shape)) ready)

in_body : {a b : Writer} {k : Kind} {shape : PatternTree} (f : code_frame.Frame) (body : BlockTree) → InSlots a k shape b → IsReady a.maker
    → block_in b f body ≡ arm_body_in a f k shape body
in_body {a} {b} {k} {shape} f body in_ ready =
    let kinds = pattern_kinds (sight_in a).tables.names k (pattern_name shape) in
    let long : length b.slots ≡ length a.slots + length (pattern_vars shape) =
    have_long in_.slots ∙ ap (λ n. length a.slots + n) (kinds_long (pattern_vars shape) kinds) in
    ap₂ (λ (m : Maker) n. block_at f m.reader n body) in_.maker long ∙ arm_block f a k shape body ready.kept

pub arm_past : {a b : Writer} {k : Kind} {shape : PatternTree} (f : code_frame.Frame) (body : BlockTree) → InSlots a k shape b
    → ArePast b (block_in b f body) → ArmIsPast a f k (BlockArmTree.arm shape body)
arm_past {a} {b} {k} {shape} f body in_ past ready m h =
    back_past m.body (ap (λ (x : Maker). x.work) in_.maker) (past (in_ready in_ ready) m (in_body f body in_ ready ∙ h))

in_brings : {a b : Writer} {k : Kind} {shape : PatternTree} → InSlots a k shape b
    → Brings a (spec.pattern_slots (sight_in a).tables.names k shape) none_passing b
in_brings {a} {b} in_ = record {
  slots = in_.slots;
  noted = let none = noted_none a.maker in
      subst (λ (m : Maker). IsNoted a.maker none_passing m) (sym in_.maker) (record { work = refl; passed = none.passed; small = none.small });
}

-- the block of an arm, behind which its variables went out of sight
pub arm_written : {a b d : Writer} {k : Kind} {shape : PatternTree} {sts : Sts} {x : StArmView} (f : code_frame.Frame) (body : BlockTree) (len : ℕ)
    (r : Reader) (con : ℕ) (m : Made) → IsReady a.maker → InSlots a k shape b → WritesBlock b (block_in b f body) d sts
    → len ≡ length a.maker.reader.vars → r ≡ back_to len 0 d.maker.reader → x.0 ≡ con
    → x.1 ≡ Rattle.desugaring.specs.Tables.up_from (length a.slots) (length (pattern_vars shape)) → x.2 ≡ sts
    → arm_body_in a f k shape body ≡ Some m → AddsArm a k shape con m (record d { maker = record d.maker { reader = r } }) x
arm_written {a} {b} {d} {k} {shape} {sts} {x} f body len r con m ready in_ writes is back con_is slots_are body_is h =
    let kinds = pattern_kinds (sight_in a).tables.names k (pattern_name shape) in
    let adds = writes (in_ready in_ ready) m (in_body f body in_ ready ∙ h) in
    let brings = brings_both (in_brings in_) adds.brings (ap (λ (y : Maker). (sight_of y.reader).tables) in_.maker
    ∙ ap (λ (y : Reader). (sight_of y).tables) (extends_slots a.maker.reader (length a.slots) (pattern_vars shape) kinds).is) in
    let are : AreStmts b m.body sts = block_is adds in
    record {
      con_is = con_is;
      slots_are = slots_are;
      body_is = record {
        built = λ on. body_is ∙ are.built (ap (λ (y : Maker). y.work.building) in_.maker ∙ on);
        count = ap Rattle.rp_lang.specs.Sizes.sts_count body_is ∙ are.count;
      };
      reader = back ∙ ap (back_to len 0) (adds.reader ∙ ap (λ (y : Maker). y.reader) in_.maker)
          ∙ gone a.maker.reader _ len ready.kept is ready.binders (extends_slots a.maker.reader (length a.slots) (pattern_vars shape) kinds);
      brings = record {
        slots = record { tys = brings.slots.tys; are = brings.slots.are; behind = brings.slots.behind };
        noted = record { work = brings.noted.work; passed = brings.noted.passed; small = brings.noted.small };
      };
    }

-- # A block

-- behind its statements the variables go out of sight
pub block_written : {m : Made} {after : Sts} {f : code_frame.Frame} (a d : Writer) (len : ℕ) (r : Reader) → IsReady a.maker
    → len ≡ length a.maker.reader.vars → r ≡ back_to len 0 d.maker.reader → StmtsWay a f m StmtTrees.no_stmts d after
    → Adds a m a.maker.reader no_st (record d { maker = record d.maker { reader = r } }) after
block_written {m} {after} {f} a d len r ready is back way =
    let adds = way_ends way in
    let brings = adds.brings in
    record {
      made = adds.made;
      is = adds.is;
      are = adds.are;
      reader = back ∙ gone a.maker.reader d.maker.reader len ready.kept is ready.binders way.more;
      brings = record {
        slots = record { tys = brings.slots.tys; are = brings.slots.are; behind = brings.slots.behind };
        noted = record { work = brings.noted.work; passed = brings.noted.passed; small = brings.noted.small };
      };
    }
