-- Loops over statements and over arms: what is done, and what is left.
use Rattle.std.proofs.Common.{◌≡◌, ℕ, ◌+◌, Bool, true, false, ◌||◌, List, [], ◌∷◌, ◌++◌, length, map, Option, Some, refl, ap, ap₂, sym, subst, ◌∙◌, append_assoc, append-nil, length-append, arith}
use Rattle.rp_grammar.specs.Trees.{BlockArmTree, BlockArmTrees, BlockTree, Ident, PatternTree, StmtTree, StmtTrees}
use Rattle.rp_lang.specs.Exprs.{Ex, Exs, no_ex, also_ex}
use Rattle.rp_lang.specs.Stmts.{Sts, no_st, also_st, StArms, no_st_arm, also_st_arm}
use Rattle.rp_lang.specs.Sizes.{sts_count, st_arms_count}
use Rattle.rp_lang.specs.Views.{StArmView, st_arms_of}
use Rattle.type_rules.specs.declared.kind.Kind.{Kind}
use Rattle.type_rules.specs.Matches.{other_kinds, pattern_kinds, pattern_name, pattern_vars}
use Rattle.desugaring.specs.Limits.{Test, some_in_all, some_in_arms, some_term}
use Rattle.desugaring.specs.Callees.{Vars}
use Rattle.desugaring.specs.Statements as spec
use Rattle.desugaring.specs.Statements.{Made, MadeArms, append}
use Rattle.desugaring.specs.Tables.{Tables, arm_number, up_from}
use Rattle.desugaring.specs.Values as values
use Rattle.desugaring.proofs.Options.{map_there, then_there}
use Rattle.query_bodies.specs.Expanded.{Uses}
use Rattle.query_laws.specs.Sight.{uses_with, vars_in}
use Rattle.reading.specs.declared.reader.Reader.{Reader}
use Rattle.reading.specs.Reads.{IsKept, sight_of}
use Rattle.lower_exprs.specs.declared.values.Work.{Work}
use Rattle.lower_exprs.specs.declared.values.Maker.{Maker}
use Rattle.lower_exprs.specs.Making.{IsReady}
use Rattle.lower_procs.specs.declared.writer.Frame as code_frame
use Rattle.lower_procs.specs.declared.writer.Writer.{Writer}
use Rattle.lower_procs.specs.Noting.{is_large_in}
use Rattle.lower_procs.specs.Writing.{Adds, AddsArm, AddsArms, ArePast, AreArms, ArmIsPast, Brings, Writes, WritesArm, arm_body_at, arm_body_in, arms_at, arms_in, behind, block_at, place_view, stmt_at, stmt_in, stmts_at, with_slots}
use Rattle.lower_procs.proofs.Noted.{or_assoc, or_first, or_none, or_second}
use Rattle.lower_procs.proofs.Slots.{brings_as, brings_both, brings_none, have_long}
use Rattle.lower_procs.proofs.Sights.{Extends, extends_behind, extends_none, extends_then, extends_to, ready_as, ready_behind, vars_behind, vars_slots, extends_slots}
use Rattle.lower_procs.proofs.Rows.{append_append, append_none, some_append}
use Rattle.lower_procs.proofs.Added.{nothing_added, same_sight, same_tables, then_adds}

-- # What the definitions make further on

-- with more in sight, of which these are the variables
pub moved : {X : Type 0} (F : Tables → Uses → Vars → X) (r new : Reader) (vs : Vars) → Extends r new → vars_in (sight_of new) [] ≡ vs
    → F (sight_of new).tables (sight_of new).uses (vars_in (sight_of new) []) ≡ F (sight_of r).tables (sight_of r).uses vs
moved F r new vs e is =
    ap₂ (λ (t : Tables) (u : Uses). F t u (vars_in (sight_of new) []))
    (ap (λ (r : Reader). (sight_of r).tables) e.is) (ap (λ (r : Reader). (sight_of r).uses) e.is)
    ∙ ap (F (sight_of r).tables (sight_of r).uses) is

stmts_behind : (f : code_frame.Frame) (r : Reader) (next n : ℕ) (s : StmtTree) (rest : StmtTrees) → IsKept r
    → stmts_at f (behind next r s) n rest
    ≡ spec.stmts_made (sight_of r).tables (uses_with (sight_of r).uses) (place_view f)
    (spec.behind (sight_of r).tables.names (vars_in (sight_of r) []) next s) n rest
stmts_behind f r next n s rest kept =
    moved (λ (t : Tables) (u : Uses) (vs : Vars). spec.stmts_made t (uses_with u) (place_view f) vs n rest) r (behind next r s) _
    (extends_behind r next s) (vars_behind r next s kept)

-- the block of an arm, where the variables of its pattern are in sight
pub arm_block : (f : code_frame.Frame) (w : Writer) (k : Kind) (shape : PatternTree) (b : BlockTree) → IsKept w.maker.reader
    → block_at f (with_slots w.maker.reader (length w.slots) (pattern_vars shape)
    (pattern_kinds (sight_of w.maker.reader).tables.names k (pattern_name shape))) (length w.slots + length (pattern_vars shape)) b
    ≡ arm_body_in w f k shape b
arm_block f w k shape b kept =
    let r = w.maker.reader in
    let xs = pattern_vars shape in
    let ks = pattern_kinds (sight_of r).tables.names k (pattern_name shape) in
    let n = length w.slots in
    moved (λ (t : Tables) (u : Uses) (vs : Vars). spec.block t (uses_with u) (place_view f) vs (n + length xs) b) r (with_slots r n xs ks) _
    (extends_slots r n xs ks) (vars_slots r n xs ks kept)

-- # Statements

before_before : (a b d : Made) → spec.before a (spec.before b d) ≡ spec.before (spec.before a b) d
before_before a b d =
    ap₂ (λ body slots. spec.made body slots) (sym (append_append a.body b.body d.body)) (sym (append_assoc a.slots b.slots d.slots))

before_nothing : (a : Made) → spec.before a (spec.made no_st []) ≡ a
before_nothing a = ap₂ (λ body slots. spec.made body slots) (append_none a.body) (append-nil a.slots)

pub record StmtsWay (start : Writer) (f : code_frame.Frame) (m : Made) (rest : StmtTrees) (now : Writer) (after : Sts) : Type 0 where
  pub done : Made
  pub left : Made
  pub is : m ≡ spec.before done left
  pub adds : Adds start done now.maker.reader no_st now after
  pub more : Extends start.maker.reader now.maker.reader
  pub ready : IsReady now.maker
  pub next : stmts_at f now.maker.reader (length now.slots) rest ≡ Some left

pub way_begins : (w : Writer) (f : code_frame.Frame) (m : Made) (all : StmtTrees) → IsReady w.maker
    → stmts_at f w.maker.reader (length w.slots) all ≡ Some m → StmtsWay w f m all w no_st
way_begins w f m all ready e = record {
  done = spec.made no_st [];
  left = m;
  is = refl;
  adds = nothing_added w no_st;
  more = extends_none w.maker.reader;
  ready = ready;
  next = e;
}

way_stmt : {start now new : Writer} {f : code_frame.Frame} {m : Made} {s : StmtTree} {rest : StmtTrees} {after later : Sts}
    → (way : StmtsWay start f m (StmtTrees.more_stmts s rest) now after)
    → Writes now (stmt_in now f s) (behind (length now.slots) now.maker.reader s) after new later
    → (first left : Made) → stmt_in now f s ≡ Some first
    → spec.stmts_made (sight_of now.maker.reader).tables (uses_with (sight_of now.maker.reader).uses) (place_view f)
    (spec.behind (sight_of now.maker.reader).tables.names (vars_in (sight_of now.maker.reader) []) (length now.slots) s)
    (length now.slots + length first.slots) rest ≡ Some left
    → way.left ≡ spec.before first left
    → StmtsWay start f m rest new later
way_stmt {start} {now} {new} {f} {m} {s} {rest} {after} {later} way writes first left here there is =
    let r = now.maker.reader in
    let next = length now.slots in
    let adds = writes way.ready first here in
    let on : new.maker.reader ≡ behind next r s = adds.reader in
    let more = extends_to (extends_then way.more (extends_behind r next s)) on in
    record {
      done = spec.before way.done first;
      left = left;
      is = way.is ∙ ap (spec.before way.done) is ∙ before_before way.done first left;
      adds = subst (λ (x : Reader). Adds start (spec.before way.done first) x no_st new later) (sym on)
          (then_adds way.adds adds (same_tables way.more));
      more = more;
      ready = ready_as (record now.maker { reader = behind next r s }) new.maker adds.brings.noted.work on (ready_behind now.maker next s way.ready);
      next = ap₂ (λ (x : Reader) n. stmts_at f x n rest) on (have_long adds.brings.slots)
          ∙ stmts_behind f r next (next + length first.slots) s rest way.ready.kept ∙ there;
    }

pub way_goes_on : {start now new : Writer} {f : code_frame.Frame} {m : Made} {s : StmtTree} {rest : StmtTrees} {after later : Sts}
    → StmtsWay start f m (StmtTrees.more_stmts s rest) now after
    → Writes now (stmt_in now f s) (behind (length now.slots) now.maker.reader s) after new later → StmtsWay start f m rest new later
way_goes_on {start} {now} {new} {f} {m} {s} {rest} {after} {later} way writes =
    then_there _ (stmt_in now f s) way.left way.next (λ first here more.
    map_there (λ (l : Made). way.left ≡ l → StmtsWay start f m rest new later) (spec.before first) _ way.left more
    (λ left there is. way_stmt way writes first left here there is) refl)

pub way_ends : {start now : Writer} {f : code_frame.Frame} {m : Made} {after : Sts} → StmtsWay start f m StmtTrees.no_stmts now after
    → Adds start m now.maker.reader no_st now after
way_ends {start} {now} {f} {m} {after} way =
    let none : spec.made no_st [] ≡ way.left = cc in
    subst (λ (x : Made). Adds start x now.maker.reader no_st now after)
    (sym (before_nothing way.done) ∙ ap (spec.before way.done) none ∙ sym way.is) way.adds

-- an expression of the next statement that is past a limit is one of them all
pub way_past : {start now : Writer} {f : code_frame.Frame} {m : Made} {s : StmtTree} {rest : StmtTrees} {after : Sts}
    → StmtsWay start f m (StmtTrees.more_stmts s rest) now after → ArePast now (stmt_in now f s)
    → some_in_all (is_large_in start.maker.work.cons.now) m.body ≡ true
way_past {start} {now} {f} {m} {s} {rest} {after} way past =
    let test = is_large_in start.maker.work.cons.now in
    then_there _ (stmt_in now f s) way.left way.next (λ first here more.
    map_there (λ (l : Made). way.left ≡ l → some_in_all test m.body ≡ true) (spec.before first) _ way.left more
    (λ left there is.
    let here_past : some_in_all test first.body ≡ true =
    subst (λ (w : Work). some_in_all (is_large_in w.cons.now) first.body ≡ true) way.adds.brings.noted.work (past way.ready first here) in
    ap (λ (x : Made). some_in_all test x.body) (way.is ∙ ap (spec.before way.done) is)
    ∙ some_append test way.done.body (append first.body left.body)
    ∙ or_second (some_in_all test way.done.body) _ (some_append test first.body left.body ∙ or_first _ (some_in_all test left.body) here_past)) refl)

-- # Arms

abbrev pub append_arms : StArms → StArms → StArms
append_arms no_st_arm rest = rest
append_arms (also_st_arm con slots body more) rest = also_st_arm con slots body (append_arms more rest)

arms_append_none : (a : StArms) → append_arms a no_st_arm ≡ a
arms_append_none no_st_arm = refl
arms_append_none (also_st_arm con slots body more) = ap (also_st_arm con slots body) (arms_append_none more)

arms_append : (a b d : StArms) → append_arms (append_arms a b) d ≡ append_arms a (append_arms b d)
arms_append no_st_arm b d = refl
arms_append (also_st_arm con slots body more) b d = ap (also_st_arm con slots body) (arms_append more b d)

pub arms_push : (made : List StArmView) (x : StArmView)
    → st_arms_of (made ++ x ∷ []) ≡ append_arms (st_arms_of made) (also_st_arm x.0 x.1 x.2 no_st_arm)
arms_push [] x = refl
arms_push (y ∷ made) x = ap (also_st_arm y.0 y.1 y.2) (arms_push made x)

count_arms : (a b : StArms) → st_arms_count (append_arms a b) ≡ st_arms_count a + st_arms_count b
count_arms no_st_arm b = omega arith
count_arms (also_st_arm con slots body more) b = let h = count_arms more b in omega (arith, h)

some_arms : (test : Test) (a b : StArms) → some_in_arms test (append_arms a b) ≡ (some_in_arms test a || some_in_arms test b)
some_arms test no_st_arm b = refl
some_arms test (also_st_arm con slots body more) b =
    ap (λ x. some_in_all test body || x) (some_arms test more b)
    ∙ or_assoc (some_in_all test body) (some_in_arms test more) (some_in_arms test b)

abbrev arms_made : StArms → List Kind → MadeArms
arms_made arms slots = record { arms = arms; slots = slots }

abbrev arms_before : MadeArms → MadeArms → MadeArms
arms_before a b = arms_made (append_arms a.arms b.arms) (a.slots ++ b.slots)

pub record ArmsWay (start : Writer) (f : code_frame.Frame) (k : Kind) (m : MadeArms) (rest : BlockArmTrees) (now : Writer) (made : StArms) : Type 0 where
  pub done : MadeArms
  pub left : MadeArms
  pub is : m ≡ arms_before done left
  pub adds : AddsArms start done now made
  pub ready : IsReady now.maker
  pub next : arms_at f start.maker.reader (length now.slots) k rest ≡ Some left

pub arms_begin : (w : Writer) (f : code_frame.Frame) (k : Kind) (m : MadeArms) (all : BlockArmTrees) → IsReady w.maker
    → arms_in w f k all ≡ Some m → ArmsWay w f k m all w no_st_arm
arms_begin w f k m all ready e = record {
  done = arms_made no_st_arm [];
  left = m;
  is = refl;
  adds = record { are = record { built = λ on. refl; count = refl }; reader = refl; brings = brings_none w };
  ready = ready;
  next = e;
}

-- an arm by itself
arm_adds : {a b : Writer} {k : Kind} {shape : PatternTree} {con : ℕ} {body : Made} {x : StArmView} → AddsArm a k shape con body b x
    → AreArms a (also_st_arm con (up_from (length a.slots) (length (pattern_vars shape))) body.body no_st_arm)
    (also_st_arm x.0 x.1 x.2 no_st_arm)
arm_adds {a} {b} {k} {shape} {con} {body} {x} adds = record {
  built = λ on.
      ap₂ (λ n (s : List ℕ). also_st_arm n s x.2 no_st_arm) adds.con_is adds.slots_are
      ∙ ap (λ (t : Sts). also_st_arm con (up_from (length a.slots) (length (pattern_vars shape))) t no_st_arm) (adds.body_is.built on);
  count = ap (λ n. n + 0) adds.body_is.count;
}

arms_both : {a b : Writer} {x y z w : StArms} → AreArms a x y → AreArms b z w → b.maker.work ≡ a.maker.work
    → AreArms a (append_arms x z) (append_arms y w)
arms_both {a} {b} {x} {y} {z} {w} first second work = record {
  built = λ on. ap₂ append_arms (first.built on) (second.built (ap (λ (w : Work). w.building) work ∙ on));
  count = count_arms y w ∙ ap₂ (λ m n. m + n) first.count second.count ∙ sym (count_arms x z);
}

pub kinds_long : (xs : List Ident) (ks : List Kind) → length (spec.slot_kinds xs ks) ≡ length xs
kinds_long [] ks = refl
kinds_long (x ∷ xs) ks = let h = kinds_long xs (other_kinds ks) in omega (arith, h)

arms_arm : {start now new : Writer} {f : code_frame.Frame} {k : Kind} {m : MadeArms} {shape : PatternTree} {b : BlockTree}
    {rest : BlockArmTrees} {made : StArms} {x : StArmView}
    → (way : ArmsWay start f k m (BlockArmTrees.more_block_arms (BlockArmTree.arm shape b) rest) now made)
    → (con : ℕ) (body : Made) (left : MadeArms) → AddsArm now k shape con body new x
    → arms_at f start.maker.reader (length now.slots + length (pattern_vars shape) + length body.slots) k rest ≡ Some left
    → way.left ≡ spec.arm_with shape (length now.slots) (spec.pattern_slots (sight_of start.maker.reader).tables.names k shape) con body left
    → ArmsWay start f k m rest new (append_arms made (also_st_arm x.0 x.1 x.2 no_st_arm))
arms_arm {start} {now} {new} {f} {k} {m} {shape} {b} {rest} {made} {x} way con body left adds there is =
    let names = (sight_of start.maker.reader).tables.names in
    let kinds = spec.pattern_slots names k shape in
    let next = length now.slots in
    let one = also_st_arm con (up_from next (length (pattern_vars shape))) body.body no_st_arm in
    let done = way.done in
    let same = same_sight way.adds.reader in
    let brings : Brings now (kinds ++ body.slots) (λ test. some_in_all test body.body) new =
    subst (λ (t : Tables). Brings now (spec.pattern_slots t.names k shape ++ body.slots) (λ test. some_in_all test body.body) new) same adds.brings in
    let long : length new.slots ≡ next + length (pattern_vars shape) + length body.slots =
    let many = have_long brings.slots in
    let sum = length-append kinds body.slots in
    let each = kinds_long (pattern_vars shape) (pattern_kinds names k (pattern_name shape)) in
    omega (arith, many, sum, each) in
    record {
      done = arms_before done (arms_made one (kinds ++ body.slots));
      left = left;
      is = way.is ∙ ap (arms_before done) is
          ∙ ap₂ (λ (a : StArms) (s : List Kind). arms_made a s) (sym (arms_append done.arms one left.arms))
          (sym (append_assoc done.slots (kinds ++ body.slots) left.slots));
      adds = record {
        are = arms_both way.adds.are (arm_adds adds) way.adds.brings.noted.work;
        reader = adds.reader ∙ way.adds.reader;
        brings = brings_as (λ test. some_in_arms test (append_arms done.arms one)) (brings_both way.adds.brings brings same)
            (λ test none. some_arms test done.arms one ∙ ap (λ y. some_in_arms test done.arms || y) (or_none (some_in_all test body.body)));
      };
      ready = ready_as now.maker new.maker adds.brings.noted.work adds.reader way.ready;
      next = ap (λ n. arms_at f start.maker.reader n k rest) long ∙ there;
    }

pub arms_go_on : {start now new : Writer} {f : code_frame.Frame} {k : Kind} {m : MadeArms} {shape : PatternTree} {b : BlockTree}
    {rest : BlockArmTrees} {made : StArms} {x : StArmView}
    → ArmsWay start f k m (BlockArmTrees.more_block_arms (BlockArmTree.arm shape b) rest) now made
    → WritesArm now f k (BlockArmTree.arm shape b) new x
    → ArmsWay start f k m rest new (append_arms made (also_st_arm x.0 x.1 x.2 no_st_arm))
arms_go_on {start} {now} {new} {f} {k} {m} {shape} {b} {rest} {made} {x} way writes =
    let on = sym way.adds.reader in
    then_there _ (arm_number (sight_of start.maker.reader).tables k shape) way.left way.next (λ con con_is more.
    then_there _ (arm_body_at f start.maker.reader (length now.slots) k shape b) way.left more (λ body body_is last.
    map_there (λ (l : MadeArms). way.left ≡ l → ArmsWay start f k m rest new (append_arms made (also_st_arm x.0 x.1 x.2 no_st_arm)))
    (spec.arm_with shape (length now.slots) (spec.pattern_slots (sight_of start.maker.reader).tables.names k shape) con body) _ way.left last
    (λ left there is.
    arms_arm way con body left
    (writes way.ready con body (subst (λ (r : Reader). arm_number (sight_of r).tables k shape ≡ Some con) on con_is)
    (subst (λ (r : Reader). arm_body_at f r (length now.slots) k shape b ≡ Some body) on body_is))
    there is) refl))

pub arms_end : {start now : Writer} {f : code_frame.Frame} {k : Kind} {m : MadeArms} {made : StArms}
    → ArmsWay start f k m BlockArmTrees.no_block_arms now made → AddsArms start m now made
arms_end {start} {now} {f} {k} {m} {made} way =
    let none : arms_made no_st_arm [] ≡ way.left = cc in
    subst (λ (x : MadeArms). AddsArms start x now made)
    (sym (ap₂ (λ (a : StArms) (s : List Kind). arms_made a s) (arms_append_none way.done.arms) (append-nil way.done.slots))
    ∙ ap (arms_before way.done) none ∙ sym way.is) way.adds

pub arms_past : {start now : Writer} {f : code_frame.Frame} {k : Kind} {m : MadeArms} {shape : PatternTree} {b : BlockTree}
    {rest : BlockArmTrees} {made : StArms}
    → ArmsWay start f k m (BlockArmTrees.more_block_arms (BlockArmTree.arm shape b) rest) now made
    → ArmIsPast now f k (BlockArmTree.arm shape b) → some_in_arms (is_large_in start.maker.work.cons.now) m.arms ≡ true
arms_past {start} {now} {f} {k} {m} {shape} {b} {rest} {made} way past =
    let test = is_large_in start.maker.work.cons.now in
    let on = sym way.adds.reader in
    then_there _ (arm_number (sight_of start.maker.reader).tables k shape) way.left way.next (λ con con_is more.
    then_there _ (arm_body_at f start.maker.reader (length now.slots) k shape b) way.left more (λ body body_is last.
    map_there (λ (l : MadeArms). way.left ≡ l → some_in_arms test m.arms ≡ true)
    (spec.arm_with shape (length now.slots) (spec.pattern_slots (sight_of start.maker.reader).tables.names k shape) con body) _ way.left last
    (λ left there is.
    let here : some_in_all test body.body ≡ true =
    subst (λ (w : Work). some_in_all (is_large_in w.cons.now) body.body ≡ true) way.adds.brings.noted.work
    (past way.ready body (subst (λ (r : Reader). arm_body_at f r (length now.slots) k shape b ≡ Some body) on body_is)) in
    ap (λ (x : MadeArms). some_in_arms test x.arms) (way.is ∙ ap (arms_before way.done) is)
    ∙ some_arms test way.done.arms _
    ∙ or_second (some_in_arms test way.done.arms) _ (or_first (some_in_all test body.body) (some_in_arms test left.arms) here)) refl))
