-- What is written, one behind another.
use Rattle.std.proofs.Common.{◌≡◌, ℕ, ◌+◌, Bool, true, false, ◌||◌, List, [], ◌∷◌, ◌++◌, length, Option, Some, refl, ap, ap₂, sym, subst, ◌∙◌, append-nil}
use Rattle.rp_span.specs.declared.Span.{Span}
use Rattle.rp_grammar.specs.Trees.{StmtTree}
use Rattle.rp_lang.specs.Formulas.{Fo}
use Rattle.rp_lang.specs.Exprs.{Ex}
use Rattle.rp_lang.specs.Stmts.{St, Sts, no_st, StArms, Atomic, If, Match}
use Rattle.rp_lang.specs.Sizes.{st_count, sts_count, st_arms_count}
use Rattle.type_rules.specs.declared.kind.Kind.{Kind}
use Rattle.type_rules.specs.Kinds.{bool_kind}
use Rattle.desugaring.specs.Limits.{Test, some_in, some_in_all, some_in_arms}
use Rattle.desugaring.specs.Statements as spec
use Rattle.desugaring.specs.Statements.{Made, MadeArms, append, branching, just, matching, made, one_st, set_apart}
use Rattle.desugaring.specs.Tables.{Tables}
use Rattle.desugaring.specs.Values.{Value, formula, term}
use Rattle.text_tables.specs.Seen.{tables_view}
use Rattle.reading.specs.declared.reader.Reader.{Reader}
use Rattle.reading.specs.Reads.{sight_of}
use Rattle.lower_exprs.specs.declared.values.Work.{Work}
use Rattle.lower_exprs.specs.declared.values.Maker.{Maker}
use Rattle.lower_procs.specs.declared.writer.Writer.{Writer}
use Rattle.lower_procs.specs.Noting.{IsNoted, Passing, none_passing}
use Rattle.lower_procs.specs.Writing.{Adds, AddsArms, AreArms, AreStmts, Asks, Brings, HaveSlots, asking, hidden, hidden_kinds, on_of, sight_in, test_of}
use Rattle.lower_procs.proofs.Noted.{PassesNoSlot, noted_as, noted_value, or_none}
use Rattle.lower_procs.proofs.Slots.{brings_as, brings_both, brings_none, have_none, have_to}
use Rattle.lower_procs.proofs.Sights.{Extends}
use Rattle.lower_procs.proofs.Rows.{append_append, append_none, branching_is, count_apart, count_both, matching_is, some_apart, some_append, some_branching, some_matching}

-- the tables in sight are the same where no more came than variables
pub same_sight : {r new : Reader} → new ≡ r → (sight_of new).tables ≡ (sight_of r).tables
same_sight {r} {new} is = ap (λ (x : Reader). (sight_of x).tables) is

pub same_tables : {r new : Reader} → Extends r new → (sight_of new).tables ≡ (sight_of r).tables
same_tables e = same_sight e.is ∙ refl

-- # One statement

-- it stands apart or not, and brings no slot
pub put_adds : {old new : Writer} {before after : Sts} {p : Passing} (b mine : Bool) (at : Span) (s t : St)
    → after ≡ append before (one_st (set_apart mine at t)) → mine ≡ b → (old.maker.work.building ≡ true → t ≡ s)
    → st_count t ≡ st_count s → new.maker.reader ≡ old.maker.reader → new.slots ≡ old.slots → IsNoted old.maker p new.maker
    → ((test : Test) → PassesNoSlot test → some_in test s ≡ p test)
    → Adds old (just (set_apart b at s)) old.maker.reader before new after
put_adds {old} {new} {before} {after} {p} b mine at s t is same built count reader slots noted passing = record {
  made = one_st (set_apart b at t);
  is = is ∙ ap (λ x. append before (one_st (set_apart x at t))) same;
  are = record {
    built = λ on. ap (λ x. one_st (set_apart b at x)) (built on);
    count = ap (λ n. n + 0) (count_apart b at t s count);
  };
  reader = reader;
  brings = record {
    slots = have_to (have_none old) slots;
    noted = noted_as (λ test. some_in_all test (one_st (set_apart b at s))) noted (λ test none. some_apart test b at s ∙ passing test none);
  };
}

-- # Rows

pub nothing_added : (w : Writer) (before : Sts) → Adds w (made no_st []) w.maker.reader before w before
nothing_added w before = record {
  made = no_st;
  is = sym (append_none before);
  are = record { built = λ on. refl; count = refl };
  reader = refl;
  brings = brings_none w;
}

are_both : {a b : Writer} {x y z w : Sts} → AreStmts a x z → AreStmts b y w → b.maker.work ≡ a.maker.work → AreStmts a (append x y) (append z w)
are_both {a} {b} {x} {y} {z} {w} first second work = record {
  built = λ on. ap₂ append (first.built on) (second.built (ap (λ (w : Work). w.building) work ∙ on));
  count = count_both z w x y first.count second.count;
}

pub then_adds : {a b d : Writer} {m n : Made} {r s : Reader} {before mid after : Sts} → Adds a m r before b mid → Adds b n s mid d after
    → (sight_in b).tables ≡ (sight_in a).tables → Adds a (spec.before m n) s before d after
then_adds {a} {b} {d} {m} {n} {r} {s} {before} {mid} {after} first second same = record {
  made = append first.made second.made;
  is = second.is ∙ ap (λ x. append x second.made) first.is ∙ append_append before first.made second.made;
  are = are_both first.are second.are first.brings.noted.work;
  reader = second.reader;
  brings = brings_as (λ test. some_in_all test (append m.body n.body)) (brings_both first.brings second.brings same)
      (λ test none. some_append test m.body n.body);
}

-- behind slots that came alone
pub behind_slots : {a b d : Writer} {ks : List Kind} {m : Made} {s : Reader} {before after : Sts} → Brings a ks none_passing b
    → Adds b m s before d after → (sight_in b).tables ≡ (sight_in a).tables
    → Adds a (made m.body (ks ++ m.slots)) s before d after
behind_slots {a} {b} {d} {ks} {m} {s} {before} {after} slots adds same = record {
  made = adds.made;
  is = adds.is;
  are = record {
    built = λ on. adds.are.built (ap (λ (w : Work). w.building) slots.noted.work ∙ on);
    count = adds.are.count;
  };
  reader = adds.reader;
  brings = brings_both slots adds.brings same;
}

-- # Blocks

-- of a list of its own
pub block_is : {a b : Writer} {m : Made} {r : Reader} {after : Sts} → Adds a m r no_st b after → AreStmts a m.body after
block_is {a} {b} {m} {r} {after} adds = subst (λ x. AreStmts a m.body x) (sym adds.is) adds.are

pub atomic_adds : {a b : Writer} {m : Made} {r : Reader} {before body after : Sts} (at : Span) → Adds a m r no_st b body
    → after ≡ append before (one_st (Atomic at body)) → Adds a (spec.atomic at m) r before b after
atomic_adds {a} {b} {m} {r} {before} {body} {after} at adds is = record {
  made = one_st (Atomic at body);
  is = is;
  are = let are = block_is adds in record {
    built = λ on. ap (λ x. one_st (Atomic at x)) (are.built on);
    count = ap (λ n. 1 + n + 0) are.count;
  };
  reader = adds.reader;
  brings = brings_as (λ test. some_in_all test (one_st (Atomic at m.body))) adds.brings (λ test none. or_none (some_in_all test m.body));
}

-- # An `if` and a `match`

formula_same : (f g : Fo) → formula f ≡ formula g → f ≡ g
formula_same f g e = cc

term_same : (d e : Ex) → term d ≡ term e → d ≡ e
term_same d e h = cc

on_work : {w v : Work} → v ≡ w → w.building ≡ true → v.building ≡ true
on_work work on = ap (λ (w : Work). w.building) work ∙ on

if_are : {a b d : Writer} {h hm l lm r rm : Sts} (at : Span) (f fm : Fo) → AreStmts a h hm → (a.maker.work.building ≡ true → fm ≡ f)
    → AreStmts b l lm → b.maker.work ≡ a.maker.work → AreStmts d r rm → d.maker.work ≡ a.maker.work
    → AreStmts a (append h (one_st (If at f l r))) (append hm (one_st (If at fm lm rm)))
if_are {a} {b} {d} {h} {hm} {l} {lm} {r} {rm} at f fm first test left lwork right rwork = record {
  built = λ on.
      ap₂ append (first.built on)
      (ap (λ (t : Fo). one_st (If at t lm rm)) (test on) ∙ ap (λ (t : Sts). one_st (If at f t rm)) (left.built (on_work lwork on))
      ∙ ap (λ (t : Sts). one_st (If at f l t)) (right.built (on_work rwork on)));
  count = count_both hm (one_st (If at fm lm rm)) h (one_st (If at f l r)) first.count
      (ap₂ (λ m n. 1 + m + n + 0) left.count right.count);
}

pub if_adds : {a b d e : Writer} {v : Value} {l r : Made} {fm : Fo} {before mid lefts rights after : Sts} (apart : Bool) (at : Span)
    → Asks a apart at bool_kind v (formula (test_of apart (length a.slots) v)) before b mid (formula fm)
    → Adds b l b.maker.reader no_st d lefts → Adds d r d.maker.reader no_st e rights
    → after ≡ append mid (one_st (If at fm lefts rights))
    → Adds a (branching apart at (length a.slots) v l r) a.maker.reader before e after
if_adds {a} {b} {d} {e} {v} {l} {r} {fm} {before} {mid} {lefts} {rights} {after} apart at asks left right is =
    let next = length a.slots in
    let test = test_of apart next v in
    let first : b.maker.work ≡ a.maker.work = asks.brings.noted.work in
    let second : d.maker.work ≡ a.maker.work = left.brings.noted.work ∙ first in
    let same : d.maker.reader ≡ a.maker.reader = left.reader ∙ asks.reader in
    subst (λ (m : Made). Adds a m a.maker.reader before e after) (sym (branching_is apart at next v l r)) (record {
      made = append asks.stmts (one_st (If at fm lefts rights));
      is = is ∙ ap (λ x. append x (one_st (If at fm lefts rights))) asks.is ∙ append_append before asks.stmts (one_st (If at fm lefts rights));
      are = if_are at test fm asks.are (λ on. formula_same fm test (asks.value on)) (block_is left) first (block_is right) second;
      reader = right.reader ∙ same;
      brings = brings_as (λ t. some_in_all t (append (hidden apart at next v) (one_st (If at test l.body r.body))))
          (brings_both (brings_both asks.brings left.brings (same_sight asks.reader)) right.brings (same_sight same))
          (λ t none. some_branching t apart at next v l.body r.body);
    })

match_are : {a b : Writer} {h hm : Sts} {arms armsm : StArms} (at : Span) (x xm : Ex) → AreStmts a h hm
    → (a.maker.work.building ≡ true → xm ≡ x) → AreArms b arms armsm → b.maker.work ≡ a.maker.work
    → AreStmts a (append h (one_st (Match at x arms))) (append hm (one_st (Match at xm armsm)))
match_are {a} {b} {h} {hm} {arms} {armsm} at x xm first on_is are work = record {
  built = λ on.
      ap₂ append (first.built on)
      (ap (λ (t : Ex). one_st (Match at t armsm)) (on_is on) ∙ ap (λ (t : StArms). one_st (Match at x t)) (are.built (on_work work on)));
  count = count_both hm (one_st (Match at xm armsm)) h (one_st (Match at x arms)) first.count (ap (λ n. 1 + n + 0) are.count);
}

pub match_adds : {a b d : Writer} {x xm : Ex} {arms : MadeArms} {before mid after : Sts} {armsm : StArms} (apart : Bool) (at : Span) (k : Kind)
    → Asks a apart at k (term x) (term (on_of apart (length a.slots) x)) before b mid (term xm)
    → AddsArms b arms d armsm → after ≡ append mid (one_st (Match at xm armsm))
    → Adds a (matching apart at (length a.slots) k x arms) a.maker.reader before d after
match_adds {a} {b} {d} {x} {xm} {arms} {before} {mid} {after} {armsm} apart at k asks added is =
    let next = length a.slots in
    let on = on_of apart next x in
    subst (λ (m : Made). Adds a m a.maker.reader before d after) (sym (matching_is apart at next k x arms)) (record {
      made = append asks.stmts (one_st (Match at xm armsm));
      is = is ∙ ap (λ y. append y (one_st (Match at xm armsm))) asks.is ∙ append_append before asks.stmts (one_st (Match at xm armsm));
      are = match_are at on xm asks.are (λ b. term_same xm on (asks.value b)) added.are asks.brings.noted.work;
      reader = added.reader ∙ asks.reader;
      brings = brings_as (λ t. some_in_all t (append (hidden apart at next (term x)) (one_st (Match at on arms.arms))))
          (brings_both asks.brings added.brings (same_sight asks.reader))
          (λ t none. some_matching t apart at next x arms.arms);
    })
