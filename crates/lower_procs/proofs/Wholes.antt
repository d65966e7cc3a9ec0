-- Invariants and procedures, by what was made of their parts.
use Rattle.std.proofs.Common.{◌≡◌, ℕ, ◌+◌, Bool, true, false, List, [], ◌∷◌, ◌++◌, length, map, Option, Some, None, refl, ap, ap₂, sym, subst, ◌∙◌, arith}
use Rattle.std.specs.Prelude.{option_map}
use Rattle.std.proofs.lemmas.List.{length-map}
use Rattle.rp_span.specs.declared.Span.{Span}
use Rattle.rp_value.specs.declared.tables.Ty.{Ty}
use Rattle.rp_grammar.specs.Trees.{ExprTree, ParamTree, ProcTree}
use Rattle.rp_lang.specs.Formulas.{Fo}
use Rattle.rp_lang.specs.Programs.{Inv, Proc}
use Rattle.rp_lang.specs.Sizes.{sts_count}
use Rattle.rp_lang.specs.Stmts.{Sts}
use Rattle.type_rules.specs.declared.kind.Kind.{Kind}
use Rattle.type_rules.specs.Accesses.{Var, proc_params, proc_result}
use Rattle.type_rules.specs.Kinds.{bool_kind, param_kinds}
use Rattle.type_rules.specs.Names.{param_name}
use Rattle.type_rules.specs.Starts.{brace_of}
use Rattle.desugaring.specs.Callees.{Vars}
use Rattle.desugaring.specs.Expressions as spec
use Rattle.desugaring.specs.Limits.{some_in_all}
use Rattle.desugaring.specs.Parts.{each}
use Rattle.desugaring.specs.Programs.{InvTree, ProcDecl, body_place, inv_with, param_stands, proc_body, proc_made, proc_with, result_ty}
use Rattle.desugaring.specs.Statements as statements
use Rattle.desugaring.specs.Statements.{Made, Place, slotted}
use Rattle.desugaring.specs.Tables.{Tables, proc_name, ty_of}
use Rattle.desugaring.specs.Values.{Value, as_formula, formula}
use Rattle.desugaring.proofs.Options.{map_there, then_there, three_there}
use Rattle.text_tables.specs.Seen.{tables_view}
use Rattle.text_tables.specs.declared.tables.Tables as code_tables
use Rattle.query_bodies.specs.declared.bodies.Bodies.{Bodies}
use Rattle.query_bodies.specs.Expanded.{Uses, all_uses, uses_of}
use Rattle.query_bodies.specs.Seen.{saids_in}
use Rattle.query_laws.specs.Sight.{Known, Seen, seen, stands_for, uses_with, vars_in}
use Rattle.reading.specs.declared.reader.Reader.{Reader}
use Rattle.reading.specs.Reads.{known_view, sight_of}
use Rattle.lower_exprs.specs.declared.values.Passed.{Passed}
use Rattle.lower_exprs.specs.declared.values.Work.{Work}
use Rattle.lower_exprs.specs.declared.values.Made as code_made
use Rattle.lower_exprs.specs.declared.values.Maker.{Maker}
use Rattle.lower_exprs.specs.Making.{IsReady, value_view}
use Rattle.lower_procs.specs.declared.procs.Head as code_head
use Rattle.lower_procs.specs.declared.writer.Frame as code_frame
use Rattle.lower_procs.specs.declared.writer.Writer.{Writer}
use Rattle.lower_procs.specs.Heads.{IsHead}
use Rattle.lower_procs.specs.Noting.{IsNoted, IsPassedBy, Passing, is_large_in, none_passing, value_passing}
use Rattle.lower_procs.specs.Whole.{inv_in, inv_passing, proc_in, proc_passing}
use Rattle.lower_procs.specs.Writing.{Adds, ArePast, HaveSlots, IsPast, NotesValue, Turns, WritesBlock, block_at, block_in, claim_in, place_view, sight_in, value_in, with_slots}
use Rattle.lower_procs.proofs.Noted.{noted_both, noted_none, noted_value}
use Rattle.lower_procs.proofs.Slots.{have_both, have_long}
use Rattle.lower_procs.proofs.Sights.{Extends, extends_slots, ready_slots, vars_slots}
use Rattle.lower_procs.proofs.Added.{block_is, same_sight, same_tables}
use Rattle.lower_procs.proofs.Simple.{claim_there, same_some}
use Rattle.lower_procs.proofs.Ways.{moved}

-- # Where nothing is in sight

nothing_seen : (r : Reader) → r.vars ≡ [] → vars_in (sight_of r) [] ≡ []
nothing_seen r none = ap (λ (vs : List Var). map (stands_for [] r.binders) (seen vs (map known_view r.known))) none

-- what an expression becomes there
pub value_alone : (m : Maker) (w : Work) (e : ExprTree) → m.work ≡ w → m.reader.vars ≡ [] → IsReady m
    → value_in m (Some bool_kind) e
    ≡ spec.value (tables_view w.tables.now) (uses_with (all_uses (saids_in w.bodies.now))) [] (Some bool_kind) e
value_alone m w e work none ready =
    ap₂ (λ (t : code_tables.Tables) (b : Bodies). spec.value (tables_view t) (uses_with (uses_of b)) (vars_in (sight_of m.reader) []) (Some bool_kind) e)
    (ready.tables ∙ ap (λ (x : Work). x.tables.now) work) (ready.bodies ∙ ap (λ (x : Work). x.bodies.now) work)
    ∙ ap (λ (vs : Vars). spec.value (tables_view w.tables.now) (uses_with (uses_of w.bodies.now)) vs (Some bool_kind) e) (nothing_seen m.reader none)

-- # Invariants

pub record InvParts (w : Work) (old new : Passed) (d : InvTree) (wanted : Inv) (body : Fo) : Type 0 where
  pub built : w.building ≡ true → (let made : Inv = record { name = d.name; at = d.at; body = body } in made ≡ wanted)
  pub passed : IsPassedBy w old (inv_passing wanted) new
  pub small : w.building ≡ true → inv_passing wanted (is_large_in w.cons.now) ≡ false

pub inv_parts : (m new : Maker) (w : Work) (made : code_made.Made) (d : InvTree) (wanted : Inv) (body : Fo) → m.work ≡ w → m.reader.vars ≡ []
    → IsReady m → Turns m (claim_in m d.body) made → NotesValue m (claim_in m d.body) new → body ≡ as_formula (value_view made.value)
    → inv_in w d ≡ Some wanted → InvParts w m.passed new.passed d wanted body
inv_parts m new w made d wanted body work none ready turns notes is h =
    map_there (λ (y : Inv). InvParts w m.passed new.passed d y body) (inv_with d) _ wanted h (λ v there.
    let claim = claim_there m d.body v (value_alone m w d.body work none ready ∙ there) in
    let stands = turns ready (formula (as_formula v)) claim in
    let noted = noted_value m new (formula (as_formula v)) made stands (notes ready (formula (as_formula v)) claim) in
    let small = subst (λ (x : Work). x.building ≡ true → value_passing (formula (as_formula v)) (is_large_in x.cons.now) ≡ false) work noted.small in
    let passed = subst (λ (x : Work). IsPassedBy x m.passed (value_passing (formula (as_formula v))) new.passed) work noted.passed in
    record {
      built = λ on. ap (λ (f : Fo). let made : Inv = record { name = d.name; at = d.at; body = f } in made)
          (is ∙ ap as_formula (stands.value.whole (ap (λ (x : Work). x.building) work ∙ on)));
      passed = record { depth = passed.depth; binders = passed.binders };
      small = small;
    })

pub inv_past : (m : Maker) (w : Work) (d : InvTree) (wanted : Inv) → m.work ≡ w → m.reader.vars ≡ [] → IsReady m → IsPast m (claim_in m d.body)
    → inv_in w d ≡ Some wanted → inv_passing wanted (is_large_in w.cons.now) ≡ true
inv_past m w d wanted work none ready past h =
    map_there (λ (y : Inv). inv_passing y (is_large_in w.cons.now) ≡ true) (inv_with d) _ wanted h (λ v there.
    subst (λ (x : Work). value_passing (formula (as_formula v)) (is_large_in x.cons.now) ≡ true) work
    (ap Rattle.std.proofs.Common.not (past ready (formula (as_formula v)) (claim_there m d.body v (value_alone m w d.body work none ready ∙ there)))))

-- # Procedures

-- the parameters are declared
pub record Started (w : Work) (passed : Passed) (p : ProcTree) (start now : Writer) : Type 0 where
  pub work : start.maker.work ≡ w
  pub passed_is : start.maker.passed ≡ passed
  pub none : start.maker.reader.vars ≡ []
  pub ready : IsReady start.maker
  pub empty : start.slots ≡ []
  pub slots : HaveSlots start (param_kinds (sight_in start).tables.names (proc_params p)) now
  pub maker : now.maker ≡ record start.maker {
    reader = with_slots start.maker.reader (length start.slots) (map param_name (proc_params p)) (param_kinds (sight_in start).tables.names (proc_params p));
  }

tables_started : {w : Work} {passed : Passed} {p : ProcTree} {start now : Writer} → Started w passed p start now
    → (sight_in start).tables ≡ tables_view w.tables.now
tables_started s = ap (λ (t : code_tables.Tables). tables_view t) (s.ready.tables ∙ ap (λ (x : Work). x.tables.now) s.work)

uses_started : {w : Work} {passed : Passed} {p : ProcTree} {start now : Writer} → Started w passed p start now
    → (sight_in start).uses ≡ all_uses (saids_in w.bodies.now)
uses_started s = ap uses_of (s.ready.bodies ∙ ap (λ (x : Work). x.bodies.now) s.work)

ready_started : {w : Work} {passed : Passed} {p : ProcTree} {start now : Writer} → Started w passed p start now → IsReady now.maker
ready_started {w} {passed} {p} {start} {now} s =
    subst (λ (m : Maker). IsReady m) (sym s.maker)
    (ready_slots start.maker (length start.slots) (map param_name (proc_params p)) (param_kinds (sight_in start).tables.names (proc_params p)) s.ready)

-- the block as the definitions have it
abbrev block_of : Work → ProcTree → Option Made
block_of w p =
    statements.block (tables_view w.tables.now) (uses_with (all_uses (saids_in w.bodies.now)))
    (body_place (tables_view w.tables.now).names (record { decl = 0; at = record { from = 0; to = 0 }; tree = p }))
    (param_stands (tables_view w.tables.now).names (record { decl = 0; at = record { from = 0; to = 0 }; tree = p }))
    (length (proc_params p)) (proc_body p)

block_started : {w : Work} {passed : Passed} {p : ProcTree} {start now : Writer} {head : code_head.Head} → Started w passed p start now
    → IsHead (tables_view w.tables.now) p head → block_in now head.frame (proc_body p) ≡ block_of w p
block_started {w} {passed} {p} {start} {now} {head} s is =
    let t = tables_view w.tables.now in
    let u = all_uses (saids_in w.bodies.now) in
    let r = start.maker.reader in
    let xs = map param_name (proc_params p) in
    let ks = param_kinds (sight_in start).tables.names (proc_params p) in
    let zero_slots : length start.slots ≡ 0 = ap length s.empty in
    let many : length ks ≡ length (proc_params p) = length-map (proc_params p) _ in
    let have = have_long s.slots in
    let long : length now.slots ≡ length (proc_params p) = omega (arith, zero_slots, many, have) in
    let vars : vars_in (sight_of (with_slots r (length start.slots) xs ks)) [] ≡ slotted [] 0 xs ks =
    vars_slots r (length start.slots) xs ks s.ready.kept ∙ ap₂ (λ (vs : Vars) n. slotted vs n xs ks) (nothing_seen r s.none) zero_slots in
    ap₂ (λ (m : Maker) n. block_at head.frame m.reader n (proc_body p)) s.maker long
    ∙ moved (λ (t : Tables) (u : Uses) (vs : Vars). statements.block t (uses_with u) (place_view head.frame) vs (length (proc_params p)) (proc_body p)) r
    (with_slots r (length start.slots) xs ks) (slotted [] 0 xs ks) (extends_slots r (length start.slots) xs ks) vars
    ∙ ap₂ (λ (t : Tables) (u : Uses). statements.block t (uses_with u) (place_view head.frame)
    (slotted [] 0 xs (param_kinds t.names (proc_params p))) (length (proc_params p)) (proc_body p)) (tables_started s) (uses_started s)
    ∙ ap (λ (place : Place). statements.block t (uses_with u) place (slotted [] 0 xs (param_kinds t.names (proc_params p))) (length (proc_params p)) (proc_body p))
    is.place

pub record ProcParts (w : Work) (old new : Passed) (wanted made : Proc) : Type 0 where
  pub built : w.building ≡ true → made ≡ wanted
  pub count : sts_count made.body ≡ sts_count wanted.body
  pub passed : IsPassedBy w old (proc_passing wanted) new
  pub small : w.building ≡ true → proc_passing wanted (is_large_in w.cons.now) ≡ false

-- the procedure with this head, these slots and this block
abbrev pub proc_of : Span → ProcTree → code_head.Head → List Ty → Sts → Proc
proc_of at p head slots body = record {
  name = head.name;
  at = at;
  end = brace_of (proc_body p);
  params = head.params;
  result = head.result;
  slots = slots;
  body = body;
}

noted_started : {w : Work} {passed : Passed} {p : ProcTree} {start now : Writer} {new : Maker} {q : Passing} → Started w passed p start now
    → IsNoted now.maker q new → IsNoted start.maker q new
noted_started {w} {passed} {p} {start} {now} {new} {q} s noted =
    let none = noted_none start.maker in
    let first : IsNoted start.maker none_passing now.maker =
    subst (λ (m : Maker). IsNoted start.maker none_passing m) (sym s.maker) (record { work = refl; passed = none.passed; small = none.small }) in
    noted_both first noted

pub proc_parts : {w : Work} {passed : Passed} {start now new : Writer} {head : code_head.Head} {sts : Sts} (at : Span) (p : ProcTree)
    (wanted : Proc) → Started w passed p start now → IsHead (tables_view w.tables.now) p head
    → WritesBlock now (block_in now head.frame (proc_body p)) new sts → proc_in w (record { decl = 0; at = at; tree = p }) ≡ Some wanted
    → ProcParts w passed new.maker.passed wanted (proc_of at p head new.slots sts)
proc_parts {w} {passed} {start} {now} {new} {head} {sts} at p wanted s is writes h =
    let t = tables_view w.tables.now in
    let d : ProcDecl = record { decl = 0; at = at; tree = p } in
    then_there (proc_made t d) (block_of w p) wanted h (λ m m_is made.
    let adds = writes (ready_started s) m (block_started s is ∙ m_is) in
    let noted = noted_started s adds.brings.noted in
    let all = have_both s.slots adds.brings.slots (ap (λ (y : Maker). (sight_of y.reader).tables) s.maker
    ∙ ap (λ (y : Reader). (sight_of y).tables) (extends_slots start.maker.reader (length start.slots) (map param_name (proc_params p))
    (param_kinds (sight_in start).tables.names (proc_params p))).is) in
    let slots : each (ty_of t) (param_kinds t.names (proc_params p) ++ m.slots) ≡ Some new.slots =
    subst (λ (x : Tables). each (ty_of x) (param_kinds x.names (proc_params p) ++ m.slots) ≡ Some all.tys) (tables_started s) all.are
    ∙ ap (λ l. Some l) (sym (all.behind ∙ ap (λ (l : List Ty). l ++ all.tys) s.empty)) in
    let are = block_is adds in
    let on_building : w.building ≡ true → now.maker.work.building ≡ true = λ on.
    ap (λ (y : Maker). y.work.building) s.maker ∙ ap (λ (x : Work). x.building) s.work ∙ on in
    three_there (λ (y : Proc). ProcParts w passed new.maker.passed y (proc_of at p head new.slots sts)) (proc_with d m)
    (each (ty_of t) (param_kinds t.names (proc_params p))) (result_ty t (proc_result p)) (each (ty_of t) (param_kinds t.names (proc_params p) ++ m.slots))
    wanted made (λ params result tys params_is result_is tys_is.
    record {
      built = λ on.
          ap₂ (λ name body. proc_of at p (record head { name = name }) new.slots body) is.name (are.built (on_building on))
          ∙ ap₂ (λ (l : List Ty) (o : Option Ty). let made : Proc = record {
            name = proc_name p;
            at = at;
            end = brace_of (proc_body p);
            params = l;
            result = o;
            slots = new.slots;
            body = m.body;
          } in made) (same_some (sym is.params ∙ params_is)) (same_some (sym is.result ∙ result_is))
          ∙ ap (λ (l : List Ty). proc_with d m params result l) (same_some (sym slots ∙ tys_is));
      count = are.count;
      passed = let noted_passed = subst (λ (x : Passed). IsPassedBy start.maker.work x (λ test. some_in_all test m.body) new.maker.passed) s.passed_is noted.passed in
          let there = subst (λ (x : Work). IsPassedBy x passed (λ test. some_in_all test m.body) new.maker.passed) s.work noted_passed in
          record { depth = there.depth; binders = there.binders };
      small = subst (λ (x : Work). x.building ≡ true → some_in_all (is_large_in x.cons.now) m.body ≡ false) s.work noted.small;
    }))

pub proc_past : {w : Work} {passed : Passed} {start now : Writer} {head : code_head.Head} (at : Span) (p : ProcTree) (wanted : Proc)
    → Started w passed p start now → IsHead (tables_view w.tables.now) p head → ArePast now (block_in now head.frame (proc_body p))
    → proc_in w (record { decl = 0; at = at; tree = p }) ≡ Some wanted → proc_passing wanted (is_large_in w.cons.now) ≡ true
proc_past {w} {passed} {start} {now} {head} at p wanted s is past h =
    let t = tables_view w.tables.now in
    let d : ProcDecl = record { decl = 0; at = at; tree = p } in
    then_there (proc_made t d) (block_of w p) wanted h (λ m m_is made.
    let here = subst (λ (x : Work). some_in_all (is_large_in x.cons.now) m.body ≡ true) (ap (λ (y : Maker). y.work) s.maker ∙ s.work)
    (past (ready_started s) m (block_started s is ∙ m_is)) in
    three_there (λ (y : Proc). proc_passing y (is_large_in w.cons.now) ≡ true) (proc_with d m)
    (each (ty_of t) (param_kinds t.names (proc_params p))) (result_ty t (proc_result p)) (each (ty_of t) (param_kinds t.names (proc_params p) ++ m.slots))
    wanted made (λ params result tys params_is result_is tys_is. here))
