-- Where one look tells that a place is right, no rule is broken there.
use Rattle.std.proofs.Common.{◌≡◌, ℕ, Bool, true, false, not, ◌&&◌, ◌||◌, [], ◌++◌, Option, Some, None, refl, sym, ap, ap₂, ◌∙◌, true≢false}
use Rattle.std.specs.Prelude.{◌==◌, if◌then◌else◌}
use Rattle.std.specs.Option.{is_some}
use Rattle.rp_span.specs.declared.Span.{Span}
use Rattle.rp_grammar.specs.Trees.{AccessTree, ArgTrees, ExprTree, ExprForm, Ident, StepTrees}
use Rattle.type_rules.specs.declared.kind.Kind.{Kind}
use Rattle.type_rules.specs.Names.{Names, entry_named, text_of}
use Rattle.type_rules.specs.Kinds.{bool_kind, int_kind}
use Rattle.type_rules.specs.Accesses.{Var, access_kind, args_fit, find_var, of_name}
use Rattle.type_rules.specs.Typing.{is_plain, is_plain_access, type_of}
use Rattle.type_rules.specs.Sites.{Scope, Site, Want}
use Rattle.type_rules.specs.Starts.{span_of, start}
use Rattle.type_rules.specs.ExprSites.{expr_sites}
use Rattle.type_rules.specs.TextSites.{used, used_by}
use Rattle.type_rules.specs.Faults.{first, judged, sooner}
use Rattle.type_rules.specs.Rules as spec
use Rattle.type_judges.specs.Meant.{is_access, is_other}
use Rattle.type_judges.proofs.Meanings.{other, unsaid}
use Rattle.type_judges.proofs.Noted.{passed}
use Rattle.type_faults.specs.RightPlaces.{leaf_kind, operator_kind, read_kind, takes, takes_own}

-- # What a place takes

record Taken (w : Want) (k : Kind) (plain : Bool) : Type 0 where
  pub no_match : (w.rule == 18) ≡ false
  pub same : is_other w.asked k ≡ false
  pub told : (w.plain && not plain) ≡ false

parts : (a b c d : Bool) → ((not a && not b) && (c || not d)) ≡ true → (a ≡ false) × (b ≡ false) × ((d && not c) ≡ false)
parts true b c d h = absurd (true≢false (sym h))
parts false true c d h = absurd (true≢false (sym h))
parts false false true true h = (refl, refl, refl)
parts false false true false h = (refl, refl, refl)
parts false false false true h = absurd (true≢false (sym h))
parts false false false false h = (refl, refl, refl)

taken : (w : Want) (k : Kind) (plain : Bool) → takes w k plain ≡ true → Taken w k plain
taken w k plain h =
    let all = parts (w.rule == 18) (is_other w.asked k) plain w.plain h in
    record { no_match = all.0; same = all.1; told = all.2 }

-- # No rule

-- the rules that look at expressions say nothing of one
record Quiet (n : Names) (s : Site) : Type 0 where
  pub by3 : spec.rule03 n s ≡ None
  pub by4 : spec.rule04 n s ≡ None
  pub by9 : spec.rule09 n s ≡ None
  pub by10 : spec.rule10 n s ≡ None
  pub by11 : spec.rule11 n s ≡ None
  pub by12 : spec.rule12 n s ≡ None
  pub by13 : spec.rule13 n s ≡ None
  pub by14 : spec.rule14 n s ≡ None
  pub by15 : spec.rule15 n s ≡ None
  pub by16 : spec.rule16 n s ≡ None
  pub by18 : spec.rule18 n s ≡ None
  pub by21 : spec.rule21 n s ≡ None
  pub by22 : spec.rule22 n s ≡ None
  pub by23 : spec.rule23 n s ≡ None

quiet : (n : Names) (sc : Scope) (w : Want) (e : ExprTree) → Quiet n (Site.place sc w e) → None ≡ judged n (Site.place sc w e)
quiet n sc w e q =
    passed 3 (passed 4 (passed 9 (passed 10 (passed 11 (passed 12 (passed 13 (passed 14 (passed 15 (passed 16 (passed 18 (passed 21 (passed 22 (passed 23 refl q.by23) q.by22) q.by21) q.by18) q.by16) q.by15) q.by14) q.by13) q.by12) q.by11) q.by10) q.by9) q.by4) q.by3

no_more : (b : Bool) → (b && false) ≡ false
no_more true = refl
no_more false = refl

-- one that fits its place is of no wrong type
fitting : (rule : ℕ) (n : Names) (sc : Scope) (w : Want) (e : ExprTree) (k : Kind) → type_of n sc.vars w.asked e ≡ k → is_other w.asked k ≡ false
    → spec.is_wrong rule n sc w e ≡ false
fitting rule n sc w e k typed same =
    ap (λ b. (w.rule == rule) && b) (sym (other n sc w e) ∙ ap (is_other w.asked) typed ∙ same) ∙ no_more (w.rule == rule)

-- # Operators and written values

-- what is so of an expression that is no access, and has this type wherever it stands
record Own (n : Names) (sc : Scope) (w : Want) (e : ExprTree) (k : Kind) : Type 0 where
  pub no_access : is_access e ≡ false
  pub no_word : spec.word_in e ≡ None
  pub no_none : spec.is_lone_none w e ≡ false
  pub no_some : spec.is_some_of_no_data n sc w e ≡ false
  pub stands : spec.expr_stands n sc w e ≡ true
  pub fit : spec.has_its_arguments n sc e ≡ true
  pub typed : type_of n sc.vars w.asked e ≡ k

unless_none : (b : Bool) → spec.unless b None ≡ None
unless_none true = refl
unless_none false = refl

own_quiet : (n : Names) (sc : Scope) (w : Want) (e : ExprTree) (k : Kind) → Own n sc w e k → takes w k (is_plain n sc.vars e) ≡ true
    → None ≡ judged n (Site.place sc w e)
own_quiet n sc w e k own h =
    let t = taken w k (is_plain n sc.vars e) h in
    let un = unsaid n sc w e own.no_access in
    let wrong = λ (rule : ℕ). fitting rule n sc w e k own.typed t.same in
    quiet n sc w e (record {
      by3 = un.by3;
      by4 = un.by4;
      by9 = ap (spec.unless sc.words) own.no_word ∙ unless_none sc.words;
      by10 = ap₂ (λ a b. spec.when (a || b) (start e)) (ap₂ (λ a b. a || b) (wrong 10) own.no_none) own.no_some;
      by11 = ap (λ b. spec.when b (start e)) t.told;
      by12 = un.by12;
      by13 = ap (λ b. spec.when (not b) (start e)) own.stands;
      by14 = ap₂ (λ a b. spec.when (a || not b) (start e)) (wrong 14) own.fit;
      by15 = un.by15;
      by16 = un.by16;
      by18 = ap (λ b. spec.when (b && not (spec.is_datatype_kind n (type_of n sc.vars w.asked e))) (start e)) t.no_match;
      by21 = ap (λ b. spec.when b (start e)) (wrong 21);
      by22 = ap (λ b. spec.when b (start e)) (wrong 22);
      by23 = ap (λ b. spec.when b (start e)) (wrong 23);
    })

-- an operator whose place takes it
pub operator_quiet : (n : Names) (sc : Scope) (w : Want) (e : ExprTree) → takes_own w (operator_kind e) (is_plain n sc.vars e) ≡ true
    → None ≡ judged n (Site.place sc w e)
operator_quiet n sc w (ExprTree.node at (ExprForm.implies a b)) h =
    own_quiet n sc w (ExprTree.node at (ExprForm.implies a b)) bool_kind (record { no_access = refl; no_word = refl; no_none = refl; no_some = refl; stands = refl; fit = refl; typed = refl }) h
operator_quiet n sc w (ExprTree.node at (ExprForm.or es)) h =
    own_quiet n sc w (ExprTree.node at (ExprForm.or es)) bool_kind (record { no_access = refl; no_word = refl; no_none = refl; no_some = refl; stands = refl; fit = refl; typed = refl }) h
operator_quiet n sc w (ExprTree.node at (ExprForm.and es)) h =
    own_quiet n sc w (ExprTree.node at (ExprForm.and es)) bool_kind (record { no_access = refl; no_word = refl; no_none = refl; no_some = refl; stands = refl; fit = refl; typed = refl }) h
operator_quiet n sc w (ExprTree.node at (ExprForm.not e)) h =
    own_quiet n sc w (ExprTree.node at (ExprForm.not e)) bool_kind (record { no_access = refl; no_word = refl; no_none = refl; no_some = refl; stands = refl; fit = refl; typed = refl }) h
operator_quiet n sc w (ExprTree.node at (ExprForm.compare c a b)) h =
    own_quiet n sc w (ExprTree.node at (ExprForm.compare c a b)) bool_kind (record { no_access = refl; no_word = refl; no_none = refl; no_some = refl; stands = refl; fit = refl; typed = refl }) h
operator_quiet n sc w (ExprTree.node at (ExprForm.plus a b)) h =
    own_quiet n sc w (ExprTree.node at (ExprForm.plus a b)) int_kind (record { no_access = refl; no_word = refl; no_none = refl; no_some = refl; stands = refl; fit = refl; typed = refl }) h
operator_quiet n sc w (ExprTree.node at (ExprForm.minus a b)) h =
    own_quiet n sc w (ExprTree.node at (ExprForm.minus a b)) int_kind (record { no_access = refl; no_word = refl; no_none = refl; no_some = refl; stands = refl; fit = refl; typed = refl }) h
operator_quiet n sc w (ExprTree.node at (ExprForm.forall p e)) h = absurd (true≢false (sym h))
operator_quiet n sc w (ExprTree.node at (ExprForm.exists p e)) h = absurd (true≢false (sym h))
operator_quiet n sc w (ExprTree.node at (ExprForm.int i)) h = absurd (true≢false (sym h))
operator_quiet n sc w (ExprTree.node at (ExprForm.str bytes)) h = absurd (true≢false (sym h))
operator_quiet n sc w (ExprTree.node at (ExprForm.truth b)) h = absurd (true≢false (sym h))
operator_quiet n sc w (ExprTree.node at ExprForm.none_word) h = absurd (true≢false (sym h))
operator_quiet n sc w (ExprTree.node at (ExprForm.some_of e)) h = absurd (true≢false (sym h))
operator_quiet n sc w (ExprTree.node at ExprForm.unreturned) h = absurd (true≢false (sym h))
operator_quiet n sc w (ExprTree.node at ExprForm.tx) h = absurd (true≢false (sym h))
operator_quiet n sc w (ExprTree.node at (ExprForm.call word es)) h = absurd (true≢false (sym h))
operator_quiet n sc w (ExprTree.node at (ExprForm.match e arms)) h = absurd (true≢false (sym h))
operator_quiet n sc w (ExprTree.node at (ExprForm.access a)) h = absurd (true≢false (sym h))

-- # Leaves

-- an expression in which no rule is broken and no query is used, and which is a plain term
pub record Right (n : Names) (sc : Scope) (w : Want) (e : ExprTree) : Type 0 where
  pub lawful : None ≡ first n (expr_sites n sc w e)
  pub unused : used n (expr_sites n sc w e) ≡ []
  pub plain : is_plain n sc.vars e ≡ true

abbrev name_at : Span → Ident → ExprTree
name_at at x = ExprTree.node at (ExprForm.access (AccessTree.path x StepTrees.no_steps ArgTrees.absent))

-- a name of a variable with a value
set_quiet : (n : Names) (sc : Scope) (w : Want) (at : Span) (x : Ident) (v : Var) → find_var sc.vars (text_of x) ≡ Some v → v.set ≡ true
    → takes w v.kind true ≡ true → None ≡ judged n (Site.place sc w (name_at at x))
set_quiet n sc w at x v found set h =
    let t = taken w v.kind true h in
    let e = name_at at x in
    let here = span_of x in
    let k = entry_named n (text_of x) in
    let typed = ap (λ o. access_kind n (of_name n x StepTrees.no_steps o)) found in
    let plain = ap (λ o. (is_plain_access n (of_name n x StepTrees.no_steps o) && true) && true) found in
    let wrong = λ (rule : ℕ). fitting rule n sc w e v.kind typed t.same in
    quiet n sc w e (record {
      by3 = ap (λ o. spec.when (not (is_some o) && spec.is_late_query sc.decl k) here) found;
      by4 = ap (λ o. spec.when ((not (is_some o) && not (is_some k)) && not (spec.is_later sc x)) here) found;
      by9 = unless_none sc.words;
      by10 = ap (λ a. spec.when ((a || false) || false) (start e)) (wrong 10);
      by11 = ap (λ b. spec.when (w.plain && not b) (start e)) plain ∙ ap (λ b. spec.when b (start e)) t.told;
      by12 = ap (λ o. spec.misfit_in (of_name n x StepTrees.no_steps o)) found;
      by13 = ap (λ o. spec.when (not (spec.access_stands w (of_name n x StepTrees.no_steps o))) (start e)) found;
      by14 = ap₂ (λ a o. spec.when (a || not (args_fit n (of_name n x StepTrees.no_steps o) ArgTrees.absent)) (start e)) (wrong 14) found;
      by15 = ap (λ o. spec.when ((not (is_some o) && not (is_some k)) && spec.is_later sc x) here) found;
      by16 = ap (λ o. spec.when (spec.is_unset o) here) found ∙ ap (λ b. spec.when (not b) here) set;
      by18 = ap (λ b. spec.when (b && not (spec.is_datatype_kind n (type_of n sc.vars w.asked e))) (start e)) t.no_match;
      by21 = ap (λ b. spec.when b (start e)) (wrong 21);
      by22 = ap (λ b. spec.when b (start e)) (wrong 22);
      by23 = ap (λ b. spec.when b (start e)) (wrong 23);
    })

set_by : (set : Bool) (w : Want) (k : Kind) → takes_own w (if set then Some k else None) true ≡ true → (set ≡ true) × (takes w k true ≡ true)
set_by true w k h = (refl, h)
set_by false w k h = absurd (true≢false (sym h))

named_right : (n : Names) (sc : Scope) (w : Want) (at : Span) (x : Ident) (o : Option Var) → find_var sc.vars (text_of x) ≡ o
    → takes_own w (read_kind o) true ≡ true → Right n sc w (name_at at x)
named_right n sc w at x None found h = absurd (true≢false (sym h))
named_right n sc w at x (Some v) found h =
    let by = set_by v.set w v.kind h in
    record {
      lawful = ap (λ f. sooner f None) (set_quiet n sc w at x v found by.0 by.1);
      unused = ap (λ o. used_by (of_name n x StepTrees.no_steps o) ++ []) found;
      plain = ap (λ o. (is_plain_access n (of_name n x StepTrees.no_steps o) && true) && true) found;
    }

-- a leaf whose place takes it
pub leaf_right : (n : Names) (sc : Scope) (w : Want) (e : ExprTree) → takes_own w (leaf_kind sc.vars e) true ≡ true → Right n sc w e
leaf_right n sc w (ExprTree.node at (ExprForm.int i)) h =
    let own = own_quiet n sc w (ExprTree.node at (ExprForm.int i)) int_kind (record { no_access = refl; no_word = refl; no_none = refl; no_some = refl; stands = refl; fit = refl; typed = refl }) h in
    record { lawful = ap (λ f. sooner f None) own; unused = refl; plain = refl }
leaf_right n sc w (ExprTree.node at (ExprForm.truth b)) h =
    let own = own_quiet n sc w (ExprTree.node at (ExprForm.truth b)) bool_kind (record { no_access = refl; no_word = refl; no_none = refl; no_some = refl; stands = refl; fit = refl; typed = refl }) h in
    record { lawful = ap (λ f. sooner f None) own; unused = refl; plain = refl }
leaf_right n sc w (ExprTree.node at (ExprForm.access (AccessTree.path x StepTrees.no_steps ArgTrees.absent))) h =
    named_right n sc w at x (find_var sc.vars (text_of x)) refl h
leaf_right n sc w (ExprTree.node at (ExprForm.access (AccessTree.path x StepTrees.no_steps (ArgTrees.given es)))) h = absurd (true≢false (sym h))
leaf_right n sc w (ExprTree.node at (ExprForm.access (AccessTree.path x (StepTrees.more_steps s steps) args))) h = absurd (true≢false (sym h))
leaf_right n sc w (ExprTree.node at (ExprForm.implies a b)) h = absurd (true≢false (sym h))
leaf_right n sc w (ExprTree.node at (ExprForm.or es)) h = absurd (true≢false (sym h))
leaf_right n sc w (ExprTree.node at (ExprForm.and es)) h = absurd (true≢false (sym h))
leaf_right n sc w (ExprTree.node at (ExprForm.not e)) h = absurd (true≢false (sym h))
leaf_right n sc w (ExprTree.node at (ExprForm.compare c a b)) h = absurd (true≢false (sym h))
leaf_right n sc w (ExprTree.node at (ExprForm.plus a b)) h = absurd (true≢false (sym h))
leaf_right n sc w (ExprTree.node at (ExprForm.minus a b)) h = absurd (true≢false (sym h))
leaf_right n sc w (ExprTree.node at (ExprForm.forall p e)) h = absurd (true≢false (sym h))
leaf_right n sc w (ExprTree.node at (ExprForm.exists p e)) h = absurd (true≢false (sym h))
leaf_right n sc w (ExprTree.node at (ExprForm.str bytes)) h = absurd (true≢false (sym h))
leaf_right n sc w (ExprTree.node at (ExprForm.some_of e)) h = absurd (true≢false (sym h))
leaf_right n sc w (ExprTree.node at (ExprForm.call word es)) h = absurd (true≢false (sym h))
leaf_right n sc w (ExprTree.node at (ExprForm.match e arms)) h = absurd (true≢false (sym h))
leaf_right n sc w (ExprTree.node at ExprForm.none_word) h = absurd (true≢false (sym h))
leaf_right n sc w (ExprTree.node at ExprForm.unreturned) h = absurd (true≢false (sym h))
leaf_right n sc w (ExprTree.node at ExprForm.tx) h = absurd (true≢false (sym h))
