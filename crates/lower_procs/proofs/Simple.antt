-- Statements without blocks.
use Rattle.std.proofs.Common.{◌≡◌, ℕ, ◌+◌, Bool, true, false, ◌&&◌, ◌||◌, not, List, [], ◌∷◌, length, Option, Some, None, Result, Err, IsErrOf, refl, ap, ap₂, sym, subst, ◌∙◌}
use Rattle.std.specs.Prelude.{option_and_then, option_map}
use Rattle.rp_span.specs.declared.Span.{Span}
use Rattle.rp_value.specs.declared.tables.ConTable.{ConTable}
use Rattle.rp_grammar.specs.Trees.{ExprTree}
use Rattle.rp_lang.specs.Exprs as ex
use Rattle.rp_lang.specs.Exprs.{Ex, Exs}
use Rattle.rp_lang.specs.Stmts.{St, Sts, Assert, New, Operate, ReturnWith}
use Rattle.rp_lang.specs.Sizes.{st_count}
use Rattle.type_rules.specs.declared.kind.Kind.{Kind}
use Rattle.type_rules.specs.Kinds.{bool_kind}
use Rattle.desugaring.specs.Limits.{Test, some_in, some_in_all, some_term}
use Rattle.desugaring.specs.Statements as spec
use Rattle.desugaring.specs.Statements.{Made, append, asserted, assigned, assigned_to, just, one_st, returning, set_apart}
use Rattle.desugaring.specs.Values as values
use Rattle.desugaring.specs.Values.{Value, as_formula, formula, reads, term}
use Rattle.desugaring.proofs.Options.{map_is, map_there}
use Rattle.query_bodies.specs.declared.bodies.Bodies.{Bodies}
use Rattle.query_bodies.specs.Terms as te
use Rattle.query_bodies.specs.Terms.{Said, Tes, said_term}
use Rattle.query_bodies.specs.Expanded as put
use Rattle.query_bodies.specs.Expanded.{said_under, uses_of}
use Rattle.query_laws.specs.Sight.{Says}
use Rattle.reading.specs.declared.reader.Reader.{Reader}
use Rattle.reading.specs.Reads.{sight_of}
use Rattle.lower_exprs.specs.declared.stop.Stop.{Stop}
use Rattle.lower_exprs.specs.declared.stop.Stop.TheVariants as stop
use Rattle.lower_exprs.specs.declared.values.Work.{Work}
use Rattle.lower_exprs.specs.declared.values.Made as code_made
use Rattle.lower_exprs.specs.declared.values.Maker.{Maker}
use Rattle.lower_exprs.specs.Making.{IsReady, Notes, StandsFor, is_small, value_view}
use Rattle.lower_procs.specs.declared.writer.Frame as code_frame
use Rattle.lower_procs.specs.declared.writer.Writer.{Writer}
use Rattle.lower_procs.specs.Noting.{IsNoted, is_large_in, none_passing, value_passing}
use Rattle.lower_procs.specs.Writing.{Adds, AreTerms, claim_in, is_plain, place_view, terms_in, value_in}
use Rattle.lower_procs.proofs.Noted.{PassesNoSlot, large_value, noted_none, noted_value, or_none}
use Rattle.lower_procs.proofs.Rows.{count_assigned, some_apart, some_assigned}
use Rattle.lower_procs.proofs.Added.{put_adds}
use Rattle.lower_procs.proofs.Asked.{apart_is, returning_plain}
use Rattle.lower_procs.proofs.Sights.{ready_as}
use Rattle.lower_procs.proofs.Terms.{plain_term}

-- # Why nothing more is made

-- where a call stopped, what called it stopped by the same
pub stopped : {T U : Type 0} {r : Result U Stop} {e : Stop} → (y : Stop) × (r ≡ Err y) × (y ≡ e) → r ≡ Err stop.Nodes
    → IsErrOf {T = T} {E = Stop} (Err e) stop.Nodes
stopped {T} {U} {r} {e} p h = let same : e ≡ stop.Nodes = cc in ap (λ (x : Stop). Err x) same

-- # A variable gets a value

pub assigned_adds : {old new : Writer} {v : Value} {m : code_made.Made} {before after : Sts} (f : code_frame.Frame) (at : Span) (slot : ℕ)
    (mine : Bool) (t : St) → StandsFor old.maker.work v m → Notes old.maker v new.maker → new.slots ≡ old.slots
    → mine ≡ (not f.inside_atomic && m.reads) → after ≡ append before (one_st (set_apart mine at t)) → t ≡ assigned at slot (value_view m.value)
    → Adds old (assigned_to (place_view f) at slot v) old.maker.reader before new after
assigned_adds {old} {new} {v} {m} {before} {after} f at slot mine t stands notes slots apart is same =
    put_adds (spec.is_apart (place_view f) v) mine at (assigned at slot v) t is (sym (apart_is f old.maker.work v m mine stands apart))
    (λ on. same ∙ ap (assigned at slot) (stands.value.whole on))
    (ap st_count same ∙ count_assigned at slot (value_view m.value) ∙ sym (count_assigned at slot v)) notes.same slots
    (noted_value old.maker new.maker v m stands notes) (λ test none. some_assigned test at slot v)

pub assigned_past : (w : Work) (f : code_frame.Frame) (at : Span) (slot : ℕ) (v : Value) → is_small w.cons.now v ≡ false
    → some_in_all (is_large_in w.cons.now) (assigned_to (place_view f) at slot v).body ≡ true
assigned_past w f at slot v h =
    some_apart (is_large_in w.cons.now) (spec.is_apart (place_view f) v) at (assigned at slot v)
    ∙ some_assigned (is_large_in w.cons.now) at slot v ∙ large_value w.cons.now v h

-- # Assertions

reads_as_formula : (v : Value) → reads v ≡ reads (formula (as_formula v))
reads_as_formula (term e) = refl
reads_as_formula (formula f) = refl

pub asserted_adds : {old new : Writer} {m : code_made.Made} {before after : Sts} (v : Value) (f : code_frame.Frame) (at : Span)
    (mine : Bool) (t : St) → StandsFor old.maker.work (formula (as_formula v)) m → Notes old.maker (formula (as_formula v)) new.maker
    → new.slots ≡ old.slots → mine ≡ (not f.inside_atomic && m.reads) → after ≡ append before (one_st (set_apart mine at t))
    → t ≡ Assert at (as_formula (value_view m.value))
    → Adds old (asserted (place_view f) at v) old.maker.reader before new after
asserted_adds {old} {new} {m} {before} {after} v f at mine t stands notes slots apart is same =
    put_adds (spec.is_apart (place_view f) v) mine at (Assert at (as_formula v)) t is
    (sym (apart_is f old.maker.work (formula (as_formula v)) m mine stands apart)
    ∙ ap (λ r. not f.inside_atomic && r) (sym (reads_as_formula v)))
    (λ on. same ∙ ap (λ (x : Value). Assert at (as_formula x)) (stands.value.whole on))
    (ap st_count same) notes.same slots
    (noted_value old.maker new.maker (formula (as_formula v)) m stands notes) (λ test none. refl)

pub asserted_past : (w : Work) (f : code_frame.Frame) (at : Span) (v : Value) → is_small w.cons.now (formula (as_formula v)) ≡ false
    → some_in_all (is_large_in w.cons.now) (asserted (place_view f) at v).body ≡ true
asserted_past w f at v h =
    some_apart (is_large_in w.cons.now) (spec.is_apart (place_view f) v) at (Assert at (as_formula v)) ∙ ap not h

-- what an expression becomes, as a formula
pub claim_there : (m : Maker) (e : ExprTree) (v : Value) → value_in m (Some bool_kind) e ≡ Some v
    → claim_in m e ≡ Some (formula (as_formula v))
claim_there m e v is = map_is (λ (x : Value). formula (as_formula x)) (value_in m (Some bool_kind) e) v is

-- # New ids

pub generated_adds : {w : Writer} {before after : Sts} (at : Span) (slot n : ℕ) (t : St) → after ≡ append before (one_st t) → t ≡ New at slot n
    → Adds w (just (New at slot n)) w.maker.reader before w after
generated_adds {w} {before} {after} at slot n t is same =
    put_adds {p = none_passing} false false at (New at slot n) t is refl (λ on. same) (ap st_count same) refl refl (noted_none w.maker)
    (λ test none. refl)

-- # Operations

pub operation_there : (m : Maker) (e : ExprTree) (said : Said) (op : ℕ) (ts : Tes) (v : Value) → IsReady m → Says (sight_of m.reader) None e said
    → said ≡ said_term (te.OpTerm op ts) → value_in m None e ≡ Some v
    → (es : Exs) × (v ≡ term (ex.OpTerm op es)) × (terms_in m ts ≡ Some es)
operation_there m e said op ts v ready says is h =
    let there : said_under (uses_of m.work.bodies.now) [] 0 (said_term (te.OpTerm op ts)) ≡ Some v =
    ap (said_under (uses_of m.work.bodies.now) [] 0) (sym is)
    ∙ sym (ap₂ (λ (b : Bodies) n. said_under (uses_of b) [] n said) ready.bodies ready.binders) ∙ says [] ready.stands v h in
    map_there (λ (v : Value). (es : Exs) × (v ≡ term (ex.OpTerm op es)) × (terms_in m ts ≡ Some es)) term
    (option_map (ex.OpTerm op) (terms_in m ts)) v there
    (λ x is. map_there (λ (x : Ex). (es : Exs) × (term x ≡ term (ex.OpTerm op es)) × (terms_in m ts ≡ Some es)) (ex.OpTerm op)
    (terms_in m ts) x is (λ es there. (es, refl, there)))

pub operated_adds : {old new : Writer} {es made : Exs} {before after : Sts} (mid : Maker) (f : code_frame.Frame) (at : Span) (op : ℕ) (t : St)
    → mid.work ≡ old.maker.work → mid.passed ≡ old.maker.passed → mid.reader ≡ old.maker.reader → AreTerms mid es new.maker made
    → new.slots ≡ old.slots → after ≡ append before (one_st (set_apart (not f.inside_atomic) at t)) → t ≡ Operate at op made
    → Adds old (just (set_apart (not f.inside_atomic) at (Operate at op es))) old.maker.reader before new after
operated_adds {old} {new} {es} {made} {before} {after} mid f at op t work passed reader terms slots is same =
    let noted : IsNoted old.maker (λ test. some_term test es) new.maker =
    subst (λ (x : Maker). IsNoted x (λ test. some_term test es) new.maker)
    (λ i. record { work = work i; reader = reader i; passed = passed i }) terms.noted in
    put_adds (not f.inside_atomic) (not f.inside_atomic) at (Operate at op es) t is refl
    (λ on. same ∙ ap (Operate at op) (terms.built (ap (λ (w : Work). w.building) work ∙ on)))
    (ap st_count same) (terms.reader ∙ reader) slots noted (λ test none. refl)

pub operated_past : (cons : ConTable) (f : code_frame.Frame) (at : Span) (op : ℕ) (es : Exs) → some_term (is_large_in cons) es ≡ true
    → some_in_all (is_large_in cons) (one_st (set_apart (not f.inside_atomic) at (Operate at op es))) ≡ true
operated_past cons f at op es h = some_apart (is_large_in cons) (not f.inside_atomic) at (Operate at op es) ∙ h

-- # A `return`

-- a statement that isn't set apart, of no expression
pub returned_adds : {w : Writer} {before after : Sts} (at : Span) (s : St) → ((test : Test) → PassesNoSlot test → some_in test s ≡ false)
    → after ≡ append before (one_st s) → Adds w (just s) w.maker.reader before w after
returned_adds {w} {before} {after} at s none is =
    put_adds {p = none_passing} false false at s s is refl (λ on. refl) refl refl refl (noted_none w.maker) none

-- with a plain term that reads nothing
pub plain_adds : {old new : Writer} {m : code_made.Made} {d : Ex} {before after : Sts} (at : Span) (k : Kind) (v : Value) → is_plain v ≡ true
    → StandsFor old.maker.work v m → Notes old.maker v new.maker → values.as_term (value_view m.value) ≡ Some d → new.slots ≡ old.slots
    → after ≡ append before (one_st (ReturnWith at d)) → Adds old (returning at (length old.slots) k v) old.maker.reader before new after
plain_adds {old} {new} {m} {d} {before} {after} at k (formula f) plain stands notes is slots after_is = absurd cc
plain_adds {old} {new} {m} {d} {before} {after} at k (term e) plain stands notes is slots after_is =
    subst (λ (y : Made). Adds old y old.maker.reader before new after) (sym (returning_plain at (length old.slots) k e plain))
    (put_adds false false at (ReturnWith at e) (ReturnWith at d) after_is refl
    (λ on. ap (ReturnWith at) (plain_term (value_view m.value) d e is (stands.value.whole on))) refl notes.same slots
    (noted_value old.maker new.maker (term e) m stands notes) (λ test none. refl))

pub same_some : {X : Type 0} {x y : X} → Some x ≡ Some y → x ≡ y
same_some h = cc

-- # What is asked of a maker that made something before

pub then_ready : (m new : Maker) (v : Value) → Notes m v new → IsReady m → IsReady new
then_ready m new v notes ready = ready_as m new notes.work notes.same ready

pub then_claim : (m new : Maker) (e : ExprTree) (v : Value) → Notes m v new → value_in m (Some bool_kind) e ≡ Some v
    → claim_in new e ≡ Some (formula (as_formula v))
then_claim m new e v notes is =
    claim_there new e v (subst (λ (r : Reader). value_in (record m { reader = r }) (Some bool_kind) e ≡ Some v) (sym notes.same) is)

pub operation_is : (f : code_frame.Frame) (at : Span) (op : ℕ) (es : Exs) (v : Value) (m : Made) → v ≡ term (ex.OpTerm op es)
    → spec.operating (place_view f) at v ≡ Some m → just (set_apart (not f.inside_atomic) at (Operate at op es)) ≡ m
operation_is f at op es v m is h =
    same_some (subst (λ (x : Value). spec.operating (place_view f) at x ≡ Some m) is h)
