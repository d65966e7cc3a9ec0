-- Statements, arms and ways that meet.
use Rattle.std.proofs.Common.{◌≡◌, ℕ, ◌+◌, ◌-◌, ◌<◌, Bool, ◌||◌, nat_eq, List, [], ◌∷◌, ◌++◌, length, drop, Option, None, refl, sym, ap, ap₂, ◌∙◌, subst, append_assoc, append-nil, arith, length-drop}
use Rattle.std.proofs.lemmas.Bool.Decides.{nat_tests}
use Rattle.rp_grammar.specs.Trees.{StmtTree, StmtForm, StmtTrees, BlockArmTree, BlockArmTrees, ExprArmTree, ExprArmTrees}
use Rattle.rp_ast.specs.declared.stmt.StmtNode.{StmtNode}
use Rattle.rp_ast.specs.View.{stmt_form_view, stmt_view, stmts_view}
use Rattle.rp_ast.proofs.StmtViews.{stmt_view-parts}
use Rattle.type_rules.specs.declared.kind.Kind.{Kind}
use Rattle.type_rules.specs.declared.fault.Fault.{Fault}
use Rattle.type_rules.specs.Names.{Name}
use Rattle.type_rules.specs.Sites.{Site}
use Rattle.type_rules.specs.Flow.{Sight, after, after_arm, after_arms, after_form, after_stmts, both as both_vars, dead, in_pattern, join}
use Rattle.type_rules.specs.Matches.{pattern_name}
use Rattle.type_rules.specs.ExprSites as exprs
use Rattle.type_rules.specs.ExprSites.{pattern_sites}
use Rattle.type_rules.specs.StmtSites.{arm_sites, block_sites, declared_in, is_last, stmt_form_sites, stmt_sites, stmts_sites}
use Rattle.type_rules.specs.Faults.{sooner}
use Rattle.type_tables.specs.Counts.{IsCounted}
use Rattle.type_tables.specs.Tables.{Entries, number_in, with_first}
use Rattle.type_tables.specs.Variables.{with_flags, and_flags}
use Rattle.type_terms.specs.Views.{IsTableOf}
use Rattle.type_faults.specs.declared.walk.Walk.{Walk}
use Rattle.type_faults.specs.declared.blocks.Flow as code_flow
use Rattle.type_faults.specs.declared.stmts.Frame as code_frame
use Rattle.type_faults.specs.Flows.{IsFlowOf, bare, joined, restored}
use Rattle.type_faults.specs.Walks.{Stand, Turns, Walks, arm_own_sites, frame_at, names_at, own_names, scope_at, seeing, sight_of, stand_of}
use Rattle.type_faults.proofs.Flows.{arm_keeps, both_bare, dead_bare, dead_before, dead_behind, arms_keep, flags_back, join_assoc, joined_is, or_comm}
use Rattle.type_faults.proofs.Lists.{no_names, table_more}
use Rattle.type_faults.proofs.Walked.{both, here, recast, then_turned, turned}

-- # Two ways

-- A way that was walked from where the flow was that of g meets the one that led here.
pub met : {later : List Name} {a b c d : Walk} {f : Option Fault} {ys : Stand → List Site} {t : Stand → Sight} {before behind : code_flow.Flow}
    (g : Sight) → IsCounted a.later later → IsFlowOf before g → IsFlowOf behind (sight_of a) → bare a.vars ≡ bare g.vars
    → Turns a b (λ p. restored before p.sight) → Walks later b c f ys t → Turns c d (λ p. joined behind p.sight)
    → bare (t (seeing (stand_of a) g)).vars ≡ bare g.vars
    → Walks later a d f (λ p. ys (seeing p g)) (λ p. join p.sight (t (seeing p g)))
met {later} {a} {b} {c} {d} {f} {ys} {t} {before} {behind} g counted was now like back walk meet kept =
    let p = stand_of a in
    let to = t (seeing p g) in
    let start : restored before (sight_of a) ≡ g =
    ap₂ (λ vs l. record { vars = vs; live = l }) (ap (with_flags a.vars) was.set ∙ flags_back a.vars g.vars like) was.live in
    let vars : and_flags to.vars behind.set ≡ both_vars a.vars to.vars =
    ap (and_flags to.vars) now.set ∙ joined_is a.vars to.vars (like ∙ sym kept) in
    let live : (to.live || behind.live) ≡ (a.live || to.live) = ap (λ l. to.live || l) now.live ∙ or_comm to.live a.live in
    recast (λ p. ys (seeing p g)) (λ p. join p.sight (t (seeing p g)))
    (then_turned (both {before = later} (turned {later = later} back counted) walk refl) meet)
    (ap (λ g. ys (seeing p g)) start)
    (ap (λ g. joined behind (t (seeing p g))) start ∙ ap₂ (λ vs l. record { vars = vs; live = l }) vars live)

-- # Statements one behind another

pub record StmtsWalked (later : List Name) (frame : code_frame.Frame) (a b : Walk) (best : Option Fault) (rest all : StmtTrees) : Type 0 where
  pub done : Stand → List Site
  pub to : Stand → Sight
  pub walks : Walks (declared_in rest ++ later) a b best done to
  pub whole : done (stand_of a) ++ stmts_sites (names_at a) (frame_at later frame (stand_of a)) (to (stand_of a)) rest
      ≡ stmts_sites (names_at a) (frame_at later frame (stand_of a)) (sight_of a) all
  pub ends : after_stmts (names_at a) (to (stand_of a)) rest ≡ after_stmts (names_at a) (sight_of a) all

pub stmts_started : {later : List Name} {frame : code_frame.Frame} {a b : Walk} {all : StmtTrees}
    → Walks (declared_in all ++ later) a b None (λ p. []) (λ p. p.sight) → StmtsWalked later frame a b None all all
stmts_started w = record { done = λ p. []; to = λ p. p.sight; walks = w; whole = refl; ends = refl }

pub declared_own : (s : StmtTree) (rest : StmtTrees) → declared_in (StmtTrees.more_stmts s rest) ≡ own_names s ++ declared_in rest
declared_own (StmtTree.node at (StmtForm.var x t e)) rest = refl
declared_own (StmtTree.node at (StmtForm.new x t)) rest = refl
declared_own (StmtTree.node at (StmtForm.assign x e)) rest = refl
declared_own (StmtTree.node at (StmtForm.access a)) rest = refl
declared_own (StmtTree.node at (StmtForm.if_ e b other)) rest = refl
declared_own (StmtTree.node at (StmtForm.match e arms)) rest = refl
declared_own (StmtTree.node at (StmtForm.atomic b)) rest = refl
declared_own (StmtTree.node at (StmtForm.assert e)) rest = refl
declared_own (StmtTree.node at (StmtForm.return e)) rest = refl

pub counted_own : (entries : Entries) (s : StmtTree) (rest : StmtTrees) (later : List Name)
    → IsCounted entries (declared_in (StmtTrees.more_stmts s rest) ++ later) → IsCounted entries (own_names s ++ (declared_in rest ++ later))
counted_own entries s rest later counted =
    subst (IsCounted entries) (ap (λ l. l ++ later) (declared_own s rest) ∙ append_assoc (own_names s) (declared_in rest) later) counted

pub stmts_next : {later : List Name} {frame : code_frame.Frame} {a b c d : Walk} {best f h : Option Fault} {s : StmtTree} {rest all : StmtTrees}
    → StmtsWalked later frame a b best (StmtTrees.more_stmts s rest) all
    → Walks (declared_in rest ++ later) b c None (λ p. []) (λ p. p.sight)
    → Walks (declared_in rest ++ later) c d f
    (λ p. stmt_sites p.names (frame_at (declared_in rest ++ later) frame p) p.sight (is_last rest) s) (λ p. after p.names p.sight s)
    → h ≡ sooner best f → StmtsWalked later frame a d h rest all
stmts_next {later} {frame} {a} {b} {c} {d} {best} {f} {h} {s} {rest} {all} v pass walk e =
    let p = stand_of a in
    let own = stmt_sites p.names (frame_at (declared_in rest ++ later) frame p) (v.to p) (is_last rest) s in
    let next = stmts_sites p.names (frame_at later frame p) (after p.names (v.to p) s) rest in
    record {
      done = λ p. v.done p ++ stmt_sites p.names (frame_at (declared_in rest ++ later) frame p) (v.to p) (is_last rest) s;
      to = λ p. after p.names (v.to p) s;
      walks = both v.walks (both pass walk refl) e;
      whole = append_assoc (v.done p) own next ∙ v.whole;
      ends = v.ends;
    }

pub stmts_ended : {later : List Name} {frame : code_frame.Frame} {a b : Walk} {best : Option Fault} (all : StmtTrees)
    → StmtsWalked later frame a b best StmtTrees.no_stmts all
    → Walks later a b best (λ p. stmts_sites p.names (frame_at later frame p) p.sight all) (λ p. after_stmts p.names p.sight all)
stmts_ended {later} {frame} {a} all v =
    recast (λ p. stmts_sites p.names (frame_at later frame p) p.sight all) (λ p. after_stmts p.names p.sight all) v.walks
    (sym (append-nil (v.done (stand_of a))) ∙ v.whole) v.ends

-- the last is the one behind which none stands
pub last_is : (ss : List StmtNode) (i : ℕ) → i < length ss → is_last (stmts_view (drop (i + 1) ss)) ≡ nat_eq (i + 1) (length ss)
last_is ss i h = by (drop (i + 1) ss) (length-drop (i + 1) ss)
  where
    by : (l : List StmtNode) → length l ≡ length ss - (i + 1) → is_last (stmts_view l) ≡ nat_eq (i + 1) (length ss)
    by [] e = grind (arith, nat_tests)
    by (s ∷ l) e = grind (arith, nat_tests)

-- # Arms

abbrev pub arm_name : BlockArmTree → Name
arm_name (BlockArmTree.arm p b) = pattern_name p

pub record ArmsWalked (later : List Name) (frame : code_frame.Frame) (kind : Kind) (g : Sight) (table : Entries) (a b : Walk) (best : Option Fault) (rest all : BlockArmTrees) : Type 0 where
  pub names : List Name
  pub table_is : IsTableOf table names
  pub done : Stand → List Site
  pub to : Stand → Sight
  pub walks : Walks later a b best done to
  pub whole : done (stand_of a) ++ arm_sites (names_at a) (frame_at later frame (stand_of a)) g kind names rest
      ≡ arm_sites (names_at a) (frame_at later frame (stand_of a)) g kind [] all
  pub bare_is : bare (to (stand_of a)).vars ≡ bare g.vars
  pub ends : join (to (stand_of a)) (after_arms (names_at a) g kind rest) ≡ after_arms (names_at a) g kind all

pub arms_started : {later : List Name} {frame : code_frame.Frame} {kind : Kind} {table : Entries} {a : Walk} (g : Sight) (all : BlockArmTrees)
    → Walks later a a None (λ p. []) (λ p. p.sight) → IsTableOf table [] → sight_of a ≡ dead g
    → ArmsWalked later frame kind g table a a None all all
arms_started {later} {frame} {kind} {table} {a} g all w t e = record {
  names = [];
  table_is = t;
  done = λ p. [];
  to = λ p. p.sight;
  walks = w;
  whole = refl;
  bare_is = ap (λ (g : Sight). bare g.vars) e ∙ dead_bare g.vars;
  ends = ap (λ h. join h (after_arms (names_at a) g kind all)) e
      ∙ dead_before g (after_arms (names_at a) g kind all) (arms_keep (names_at a) g kind all);
}

-- the variables are those of the start
pub arms_alike : {later : List Name} {frame : code_frame.Frame} {kind : Kind} {g : Sight} {table : Entries} {a b : Walk} {best : Option Fault} {rest all : BlockArmTrees}
    → ArmsWalked later frame kind g table a b best rest all → bare b.vars ≡ bare g.vars
arms_alike v = ap (λ (p : Stand). bare p.sight.vars) v.walks.stands ∙ v.bare_is

pub arms_next : {later : List Name} {frame : code_frame.Frame} {kind : Kind} {g : Sight} {table after_table : Entries} {a b c : Walk} {best f h : Option Fault} {rest all : BlockArmTrees}
    (arm : BlockArmTree) (v : ArmsWalked later frame kind g table a b best (BlockArmTrees.more_block_arms arm rest) all)
    → Walks later b c f (λ p. arm_own_sites p.names (frame_at later frame p) g kind v.names arm) (λ p. join p.sight (after_arm p.names g kind arm))
    → h ≡ sooner best f → number_in after_table ≡ with_first (number_in table) (arm_name arm) 0
    → ArmsWalked later frame kind g after_table a c h rest all
arms_next {later} {frame} {kind} {g} {table} {after_table} {a} {b} {c} {best} {f} {h} {rest} {all} (BlockArmTree.arm x body) v walk e more =
    let p = stand_of a in
    let arm = BlockArmTree.arm x body in
    let fr = frame_at later frame p in
    let one = pattern_sites p.names g.vars kind v.names x in
    let two = block_sites p.names fr (in_pattern p.names g kind x) body in
    let next = arm_sites p.names fr g kind (pattern_name x ∷ v.names) rest in
    let behind = after_arm p.names g kind arm in
    record {
      names = pattern_name x ∷ v.names;
      table_is = table_more table after_table v.names (pattern_name x) 0 v.table_is more;
      done = λ p. v.done p ++ arm_own_sites p.names (frame_at later frame p) g kind v.names arm;
      to = λ p. join (v.to p) (after_arm p.names g kind arm);
      walks = both v.walks walk e;
      whole = append_assoc (v.done p) (one ++ two) next ∙ v.whole;
      bare_is = both_bare (v.to p).vars behind.vars []
          (arm_keeps p.names g kind arm ∙ sym v.bare_is ∙ sym (append-nil (bare (v.to p).vars))) ∙ v.bare_is;
      ends = join_assoc (v.to p) behind (after_arms p.names g kind rest) ∙ v.ends;
    }

pub arms_ended : {later : List Name} {frame : code_frame.Frame} {kind : Kind} {g : Sight} {table : Entries} {a b : Walk} {best : Option Fault} (all : BlockArmTrees)
    → ArmsWalked later frame kind g table a b best BlockArmTrees.no_block_arms all
    → Walks later a b best (λ p. arm_sites p.names (frame_at later frame p) g kind [] all) (λ p. after_arms p.names g kind all)
arms_ended {later} {frame} {kind} {g} {table} {a} all v =
    recast (λ p. arm_sites p.names (frame_at later frame p) g kind [] all) (λ p. after_arms p.names g kind all) v.walks
    (sym (append-nil (v.done (stand_of a))) ∙ v.whole)
    (sym (dead_behind g (v.to (stand_of a)) v.bare_is) ∙ v.ends)

-- of an expression

pub record ExprArmsWalked (later : List Name) (kind : Kind) (table : Entries) (a b : Walk) (best : Option Fault) (rest all : ExprArmTrees) : Type 0 where
  pub names : List Name
  pub table_is : IsTableOf table names
  pub done : Stand → List Site
  pub walks : Walks later a b best done (λ p. p.sight)
  pub whole : done (stand_of a) ++ exprs.arm_sites (names_at a) (scope_at later (stand_of a)) kind names rest
      ≡ exprs.arm_sites (names_at a) (scope_at later (stand_of a)) kind [] all

-- the places of one arm
abbrev pub expr_arm_own : List Name → Kind → List Name → ExprArmTree → Stand → List Site
expr_arm_own later kind names (ExprArmTree.arm x e) p =
    pattern_sites p.names p.sight.vars kind names x
    ++ exprs.expr_sites p.names (scope_at later (seeing p (in_pattern p.names p.sight kind x))) exprs.bool_whole e

abbrev pub expr_arm_name : ExprArmTree → Name
expr_arm_name (ExprArmTree.arm x e) = pattern_name x

pub expr_arms_next : {later : List Name} {kind : Kind} {table after_table : Entries} {a b c : Walk} {best f h : Option Fault} {rest all : ExprArmTrees}
    (arm : ExprArmTree) (v : ExprArmsWalked later kind table a b best (ExprArmTrees.more_expr_arms arm rest) all)
    → Walks later b c f (expr_arm_own later kind v.names arm) (λ p. p.sight)
    → h ≡ sooner best f → number_in after_table ≡ with_first (number_in table) (expr_arm_name arm) 0
    → ExprArmsWalked later kind after_table a c h rest all
expr_arms_next {later} {kind} {table} {after_table} {a} {b} {c} {best} {f} {h} {rest} {all} (ExprArmTree.arm x e) v walk is more =
    let p = stand_of a in
    let one = pattern_sites p.names p.sight.vars kind v.names x in
    let two = exprs.expr_sites p.names (scope_at later (seeing p (in_pattern p.names p.sight kind x))) exprs.bool_whole e in
    let next = exprs.arm_sites p.names (scope_at later p) kind (pattern_name x ∷ v.names) rest in
    record {
      names = pattern_name x ∷ v.names;
      table_is = table_more table after_table v.names (pattern_name x) 0 v.table_is more;
      done = λ p. v.done p ++ expr_arm_own later kind v.names (ExprArmTree.arm x e) p;
      walks = both v.walks walk is;
      whole = append_assoc (v.done p) (one ++ two) next ∙ v.whole;
    }

pub expr_arms_started : {later : List Name} {kind : Kind} {table : Entries} {a : Walk} {all : ExprArmTrees} → IsCounted a.later later → table ≡ []
    → ExprArmsWalked later kind table a a None all all
expr_arms_started {later} {kind} {table} {a} {all} counted e = record {
  names = [];
  table_is = no_names e;
  done = λ p. [];
  walks = here {later = later} (λ p. []) refl refl counted;
  whole = refl;
}

pub expr_arms_ended : {later : List Name} {kind : Kind} {table : Entries} {a b : Walk} {best : Option Fault} {rest : ExprArmTrees} (all : ExprArmTrees)
    → ExprArmsWalked later kind table a b best rest all → rest ≡ ExprArmTrees.no_expr_arms
    → Walks later a b best (λ p. exprs.arm_sites p.names (scope_at later p) kind [] all) (λ p. p.sight)
expr_arms_ended {later} {kind} {table} {a} all v e =
    let p = stand_of a in
    recast (λ p. exprs.arm_sites p.names (scope_at later p) kind [] all) (λ p. p.sight) v.walks
    (sym (append-nil (v.done p)) ∙ ap (λ rest. v.done p ++ exprs.arm_sites p.names (scope_at later p) kind v.names rest) (sym e) ∙ v.whole)
    refl

-- of a statement of another form
pub stmt_formed : {later : List Name} {a b : Walk} {f : Option Fault} (frame : code_frame.Frame) (last : Bool) (s : StmtNode) {y : StmtForm}
    → stmt_form_view s.what ≡ y
    → Walks later a b f (λ p. stmt_form_sites p.names (frame_at later frame p) p.sight last s.span y) (λ p. after_form p.names p.sight y)
    → Walks later a b f (λ p. stmt_sites p.names (frame_at later frame p) p.sight last (stmt_view s)) (λ p. after p.names p.sight (stmt_view s))
stmt_formed {later} {a} {b} {f} frame last s e walks =
    subst (λ tree. Walks later a b f (λ p. stmt_sites p.names (frame_at later frame p) p.sight last tree) (λ p. after p.names p.sight tree))
    (sym (stmt_view-parts s ∙ ap (λ form. StmtTree.node s.span form) e)) walks
