-- Values that go through a hidden slot, and those that are asked themselves.
use Rattle.std.proofs.Common.{◌≡◌, ℕ, ◌+◌, Bool, true, false, ◌&&◌, ◌||◌, not, List, [], ◌∷◌, length, Option, Some, None, refl, ap, ap₂, sym, subst, ◌∙◌}
use Rattle.std.specs.Prelude.{option_map}
use Rattle.rp_span.specs.declared.Span.{Span}
use Rattle.rp_value.specs.declared.tables.ConTable.{ConTable}
use Rattle.rp_grammar.specs.Trees.{ExprTree}
use Rattle.rp_lang.specs.Exprs.{Ex, Slot}
use Rattle.rp_lang.specs.Formulas.{Fo, Holds}
use Rattle.rp_lang.specs.Stmts.{St, Sts, no_st, also_st, ReturnWith}
use Rattle.rp_lang.specs.Sizes.{st_count, sts_count}
use Rattle.type_rules.specs.declared.kind.Kind.{Kind}
use Rattle.type_rules.specs.Kinds.{bool_kind}
use Rattle.desugaring.specs.Limits.{Test, some_in, some_in_all}
use Rattle.desugaring.specs.Statements as spec
use Rattle.desugaring.specs.Statements.{Made, append, assigned, just, made, one_st, returning, set_apart, through_slot}
use Rattle.desugaring.specs.Values as values
use Rattle.desugaring.specs.Values.{Value, as_formula, formula, reads, term}
use Rattle.reading.specs.declared.reader.Reader.{Reader}
use Rattle.reading.specs.Reads.{sight_of}
use Rattle.lower_exprs.specs.declared.values.Work.{Work}
use Rattle.lower_exprs.specs.declared.values.Made as code_made
use Rattle.lower_exprs.specs.declared.values.Maker.{Maker}
use Rattle.lower_exprs.specs.Making.{Notes, StandsFor, is_small, same_form, value_view}
use Rattle.lower_procs.specs.declared.writer.Frame as code_frame
use Rattle.lower_procs.specs.declared.writer.Writer.{Writer}
use Rattle.lower_procs.specs.Noting.{IsNoted, Passing, is_large_in, value_passing}
use Rattle.lower_procs.specs.Writing.{Adds, AreStmts, Asks, HaveSlots, asking, formula_of, hidden, is_plain, is_term, on_of, place_view, sight_in, test_of}
use Rattle.lower_procs.proofs.Noted.{PassesNoSlot, large_holds, large_value, noted_as, noted_holds, noted_value, or_first, or_none}
use Rattle.lower_procs.proofs.Slots.{have_from, have_none, have_to}
use Rattle.lower_procs.proofs.Rows.{append_append, append_none, count_apart, count_assigned, count_hidden, some_apart, some_assigned}
use Rattle.lower_procs.proofs.Terms.{plain_term}

-- # Whether a value stands apart

pub apart_is : (f : code_frame.Frame) (w : Work) (v : Value) (m : code_made.Made) (result : Bool) → StandsFor w v m
    → result ≡ (not f.inside_atomic && m.reads) → spec.is_apart (place_view f) v ≡ result
apart_is f w v m result stands is = sym (is ∙ ap (λ r. not f.inside_atomic && r) stands.reads_is)

-- # Through a slot

to_maker : {a m n : Maker} {p : Passing} → IsNoted a p m → n ≡ m → IsNoted a p n
to_maker {a} {m} {n} {p} noted is = subst (λ (x : Maker). IsNoted a p x) (sym is) noted

-- the statement that puts it there
hidden_are : {w : Writer} {v : Value} {m : code_made.Made} (at : Span) (next : ℕ) → StandsFor w.maker.work v m
    → AreStmts w (hidden true at next v) (hidden true at next (value_view m.value))
hidden_are {w} {v} {m} at next stands = record {
  built = λ on. ap (hidden true at next) (stands.value.whole on);
  count = count_hidden true at next (value_view m.value) v;
}

pub hidden_asks : {old mid new : Writer} {k : Kind} {v asked mine : Value} {m : code_made.Made} {before after : Sts} (at : Span)
    → StandsFor old.maker.work v m → Notes old.maker v mid.maker → mid.slots ≡ old.slots → HaveSlots mid (k ∷ []) new
    → new.maker ≡ mid.maker → after ≡ append before (hidden true at (length old.slots) (value_view m.value)) → mine ≡ asked
    → ((test : Test) → PassesNoSlot test → value_passing asked test ≡ false)
    → Asks old true at k v asked before new after mine
hidden_asks {old} {mid} {new} {k} {v} {asked} {mine} {m} {before} {after} at stands notes slots have maker is same none =
    let next = length old.slots in
    record {
      stmts = hidden true at next (value_view m.value);
      is = is;
      are = hidden_are at next stands;
      value = λ on. same;
      reader = ap (λ (x : Maker). x.reader) maker ∙ notes.same;
      brings = record {
        slots = have_from have (ap (λ (r : Reader). (sight_of r).tables) notes.same) slots;
        noted = noted_as (asking true at next v asked) (to_maker (noted_value old.maker mid.maker v m stands notes) maker)
            (λ test blind.
            ap₂ (λ x y. x || y) (some_apart test true at (assigned at next v) ∙ some_assigned test at next v) (none test blind)
            ∙ or_none (value_passing v test));
      };
    }

-- # Asked itself

pub visible_asks : {old new : Writer} {k : Kind} {v asked mine : Value} {before : Sts} (at : Span) → IsNoted old.maker (value_passing asked) new.maker
    → new.maker.reader ≡ old.maker.reader → new.slots ≡ old.slots → (old.maker.work.building ≡ true → mine ≡ asked)
    → Asks old false at k v asked before new before mine
visible_asks {old} {new} {k} {v} {asked} {mine} {before} at noted reader slots built = record {
  stmts = no_st;
  is = sym (append_none before);
  are = record { built = λ on. refl; count = refl };
  value = built;
  reader = reader;
  brings = record { slots = have_to (have_none old) slots; noted = noted };
}

pub formula_there : (v : Value) (f : Fo) → Some f ≡ formula_of v → v ≡ formula f
formula_there (term e) f h = absurd cc
formula_there (formula g) f h = let same : g ≡ f = cc in ap formula same

pub term_there : (v : Value) → None ≡ formula_of v → (e : Ex) × (v ≡ term e)
term_there (term e) h = (e, refl)
term_there (formula g) h = absurd cc

-- what is a formula as it stands
pub formula_asks : {old new : Writer} {v : Value} {m : code_made.Made} {f : Fo} {before : Sts} (at : Span) → value_view m.value ≡ formula f
    → StandsFor old.maker.work v m → Notes old.maker v new.maker → new.slots ≡ old.slots
    → Asks old false at bool_kind v (formula (as_formula v)) before new before (formula f)
formula_asks {old} {new} {v} {m} {f} {before} at is stands notes slots =
    by v stands notes (subst (λ (x : Value). same_form x v ≡ true) is stands.value.form) where
      by : (v : Value) → StandsFor old.maker.work v m → Notes old.maker v new.maker → same_form (formula f) v ≡ true
          → Asks old false at bool_kind v (formula (as_formula v)) before new before (formula f)
      by (term e) stands notes form = absurd cc
      by (formula g) stands notes form =
          visible_asks at (noted_value old.maker new.maker (formula g) m stands notes) notes.same slots
          (λ on. sym is ∙ stands.value.whole on)

-- a term, made again as the formula that it is true
pub term_asks : {old new : Writer} {v : Value} {m n : code_made.Made} {e : Ex} {f : Fo} {before : Sts} (mid : Maker) (at : Span)
    → value_view m.value ≡ term e → StandsFor old.maker.work v m → Notes old.maker v mid
    → StandsFor mid.work (formula (as_formula v)) n → Notes mid (formula (as_formula v)) new.maker → new.slots ≡ old.slots
    → f ≡ as_formula (value_view n.value)
    → Asks old false at bool_kind v (formula (as_formula v)) before new before (formula f)
term_asks {old} {new} {v} {m} {n} {e} {f} {before} mid at is stands notes again more slots same =
    by v stands notes again more (subst (λ (x : Value). same_form x v ≡ true) is stands.value.form) where
      by : (v : Value) → StandsFor old.maker.work v m → Notes old.maker v mid → StandsFor mid.work (formula (as_formula v)) n
          → Notes mid (formula (as_formula v)) new.maker → same_form (term e) v ≡ true
          → Asks old false at bool_kind v (formula (as_formula v)) before new before (formula f)
      by (formula g) stands notes again more form = absurd cc
      by (term x) stands notes again more form =
          visible_asks at
          (noted_holds x (noted_value old.maker mid (term x) m stands notes) (noted_value mid new.maker (formula (Holds x)) n again more))
          (more.same ∙ notes.same) slots
          (λ on. ap formula (same ∙ ap as_formula (again.value.whole (ap (λ (w : Work). w.building) notes.work ∙ on))))

-- a term that is matched on
pub plain_asks : {old new : Writer} {k : Kind} {x d : Ex} {m : code_made.Made} {before : Sts} (at : Span)
    → values.as_term (value_view m.value) ≡ Some d → StandsFor old.maker.work (term x) m → Notes old.maker (term x) new.maker
    → new.slots ≡ old.slots → Asks old false at k (term x) (term x) before new before (term d)
plain_asks {old} {new} {k} {x} {d} {m} {before} at is stands notes slots =
    visible_asks at (noted_value old.maker new.maker (term x) m stands notes) notes.same slots
    (λ on. ap term (plain_term (value_view m.value) d x is (stands.value.whole on)))

-- # Past a limit on one expression

pub condition_past : (b : Bool) (at : Span) (next : ℕ) (v : Value) (cons : ConTable) → is_small cons v ≡ false
    → asking b at next v (formula (test_of b next v)) (is_large_in cons) ≡ true
condition_past true at next v cons h =
    or_first _ (value_passing (formula (Holds (Slot next))) (is_large_in cons))
    (some_apart (is_large_in cons) true at (assigned at next v) ∙ some_assigned (is_large_in cons) at next v ∙ large_value cons v h)
condition_past false at next (term e) cons h = ap not (large_holds cons e h)
condition_past false at next (formula f) cons h = ap not h

pub matched_past : (b : Bool) (at : Span) (next : ℕ) (x : Ex) (cons : ConTable) → is_small cons (term x) ≡ false
    → asking b at next (term x) (term (on_of b next x)) (is_large_in cons) ≡ true
matched_past true at next x cons h =
    or_first _ (value_passing (term (Slot next)) (is_large_in cons)) (or_first _ false (or_first _ false (ap not h)))
matched_past false at next x cons h = ap not h

-- # Behind a `return`

pub plain_is : (v w : Value) (m : Bool) → same_form w v ≡ true → m ≡ reads v → is_plain v ≡ (is_term w && not m)
plain_is (term e) (term d) m form is = ap not (sym is)
plain_is (formula f) (formula g) m form is = refl
plain_is (term e) (formula g) m form is = absurd cc
plain_is (formula f) (term d) m form is = absurd cc

pub returning_plain : (at : Span) (next : ℕ) (k : Kind) (e : Ex) → is_plain (term e) ≡ true
    → returning at next k (term e) ≡ just (ReturnWith at e)
returning_plain at next k e h = by (reads (term e)) h where
  by : (b : Bool) → not b ≡ true → spec.returning_term b at next k e ≡ just (ReturnWith at e)
  by true h = absurd cc
  by false h = refl

pub returning_hidden : (at : Span) (next : ℕ) (k : Kind) (v : Value) → is_plain v ≡ false
    → returning at next k v ≡ through_slot at next k (set_apart (reads v) at (assigned at next v))
returning_hidden at next k (formula f) h = refl
returning_hidden at next k (term e) h = by (reads (term e)) h where
  by : (b : Bool) → not b ≡ false → spec.returning_term b at next k e ≡ through_slot at next k (set_apart b at (assigned at next (term e)))
  by true h = refl
  by false h = absurd cc

some_through : (test : Test) (at : Span) (next : ℕ) (b : Bool) (v : Value) → PassesNoSlot test
    → some_in_all test (also_st (set_apart b at (assigned at next v)) (one_st (ReturnWith at (Slot next)))) ≡ value_passing v test
some_through test at next b v none =
    ap (λ x. some_in test (set_apart b at (assigned at next v)) || (x || false)) (none next).0
    ∙ some_apart test b at (assigned at next v) ∙ some_assigned test at next v

pub through_adds : {old mid new : Writer} {k : Kind} {v : Value} {m : code_made.Made} {before between after : Sts} (at : Span)
    → StandsFor old.maker.work v m → Notes old.maker v mid.maker → mid.slots ≡ old.slots → HaveSlots mid (k ∷ []) new
    → new.maker ≡ mid.maker
    → between ≡ append before (one_st (set_apart m.reads at (assigned at (length old.slots) (value_view m.value))))
    → after ≡ append between (one_st (ReturnWith at (Slot (length old.slots)))) → is_plain v ≡ false
    → Adds old (returning at (length old.slots) k v) old.maker.reader before new after
through_adds {old} {mid} {new} {k} {v} {m} {before} {between} {after} at stands notes slots have maker first is plain =
    let next = length old.slots in
    let last = one_st (ReturnWith at (Slot next)) in
    let mine = one_st (set_apart m.reads at (assigned at next (value_view m.value))) in
    subst (λ (x : Made). Adds old x old.maker.reader before new after) (sym (returning_hidden at next k v plain)) (record {
      made = append mine last;
      is = is ∙ ap (λ x. append x last) first ∙ append_append before mine last;
      are = record {
        built = λ on. ap₂ (λ b w. also_st (set_apart b at (assigned at next w)) last) stands.reads_is (stands.value.whole on);
        count = ap (λ b. st_count (set_apart b at (assigned at next (value_view m.value))) + (1 + 0)) stands.reads_is
            ∙ ap (λ n. n + (1 + 0)) (count_apart (reads v) at (assigned at next (value_view m.value)) (assigned at next v)
            (count_assigned at next (value_view m.value) ∙ sym (count_assigned at next v)));
      };
      reader = ap (λ (x : Maker). x.reader) maker ∙ notes.same;
      brings = record {
        slots = have_from have (ap (λ (r : Reader). (sight_of r).tables) notes.same) slots;
        noted = noted_as (λ test. some_in_all test (also_st (set_apart (reads v) at (assigned at next v)) last))
            (to_maker (noted_value old.maker mid.maker v m stands notes) maker) (λ test none. some_through test at next (reads v) v none);
      };
    })

pub through_past : (at : Span) (next : ℕ) (k : Kind) (v : Value) (cons : ConTable) → is_small cons v ≡ false
    → some_in_all (is_large_in cons) (returning at next k v).body ≡ true
through_past at next k v cons h = by (is_plain v) refl where
  by_value : (v : Value) → is_small cons v ≡ false → is_plain v ≡ true → some_in_all (is_large_in cons) (returning at next k v).body ≡ true
  by_value (term e) h plain =
      ap (λ (x : Made). some_in_all (is_large_in cons) x.body) (returning_plain at next k e plain)
      ∙ or_first _ false (ap not h)
  by_value (formula f) h plain = absurd cc

  by : (b : Bool) → is_plain v ≡ b → some_in_all (is_large_in cons) (returning at next k v).body ≡ true
  by true plain = by_value v h plain
  by false plain =
      ap (λ (x : Made). some_in_all (is_large_in cons) x.body) (returning_hidden at next k v plain)
      ∙ some_through (is_large_in cons) at next (reads v) v (λ n. (refl, refl)) ∙ large_value cons v h
