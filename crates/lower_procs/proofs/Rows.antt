-- Rows of statements and of expressions: as many, and what passes among them.
use Rattle.std.proofs.Common.{◌≡◌, ℕ, ◌+◌, Bool, true, false, ◌||◌, List, [], ◌∷◌, ◌++◌, map, refl, ap, ap₂, sym, ◌∙◌, arith}
use Rattle.std.proofs.lemmas.List.{map_push}
use Rattle.rp_span.specs.declared.Span.{Span}
use Rattle.rp_lang.specs.declared.stmt.Stmt.{Stmt}
use Rattle.rp_lang.specs.Views.{stmt_view, stmts_view, sts_of}
use Rattle.rp_lang.specs.Exprs.{Ex, Exs, Slot, no_ex, also_ex}
use Rattle.rp_lang.specs.Formulas.{Fo, Holds}
use Rattle.rp_lang.specs.Stmts.{St, Sts, no_st, also_st, StArms, no_st_arm, also_st_arm, Atomic, If, Match}
use Rattle.rp_lang.specs.Sizes.{st_count, sts_count, st_arms_count}
use Rattle.type_rules.specs.declared.kind.Kind.{Kind}
use Rattle.type_rules.specs.Kinds.{bool_kind}
use Rattle.desugaring.specs.Limits.{Test, some_in, some_in_all, some_in_arms, some_term}
use Rattle.desugaring.specs.Statements as spec
use Rattle.desugaring.specs.Statements.{Made, MadeArms, append, assigned, branching, made, matching, one_st, set_apart}
use Rattle.desugaring.specs.Values.{Value, as_formula, formula, term}
use Rattle.desugaring.specs.Values as values
use Rattle.lower_procs.specs.Noting.{Passing, value_passing}
use Rattle.lower_procs.specs.Writing.{asking, hidden, hidden_kinds, on_of, test_of}
use Rattle.lower_procs.proofs.Noted.{or_assoc, or_none}

-- # Rows

pub append_none : (ss : Sts) → append ss no_st ≡ ss
append_none no_st = refl
append_none (also_st s ss) = ap (also_st s) (append_none ss)

pub append_append : (a b d : Sts) → append (append a b) d ≡ append a (append b d)
append_append no_st b d = refl
append_append (also_st s a) b d = ap (also_st s) (append_append a b d)

count_append : (a b : Sts) → sts_count (append a b) ≡ sts_count a + sts_count b
count_append no_st b = omega arith
count_append (also_st s a) b = let h = count_append a b in omega (arith, h)

-- two rows with as many statements as two others
pub count_both : (a b d e : Sts) → sts_count a ≡ sts_count d → sts_count b ≡ sts_count e → sts_count (append a b) ≡ sts_count (append d e)
count_both a b d e h i = count_append a b ∙ ap₂ (λ m n. m + n) h i ∙ sym (count_append d e)

pub some_append : (test : Test) (a b : Sts) → some_in_all test (append a b) ≡ (some_in_all test a || some_in_all test b)
some_append test no_st b = refl
some_append test (also_st s a) b =
    ap (λ x. some_in test s || x) (some_append test a b) ∙ or_assoc (some_in test s) (some_in_all test a) (some_in_all test b)

pub exs_append_none : (es : Exs) → values.append es no_ex ≡ es
exs_append_none no_ex = refl
exs_append_none (also_ex e es) = ap (also_ex e) (exs_append_none es)

pub exs_append : (a b d : Exs) → values.append (values.append a b) d ≡ values.append a (values.append b d)
exs_append no_ex b d = refl
exs_append (also_ex e a) b d = ap (also_ex e) (exs_append a b d)

pub some_terms : (test : Test) (a b : Exs) → some_term test (values.append a b) ≡ (some_term test a || some_term test b)
some_terms test no_ex b = refl
some_terms test (also_ex e a) b =
    ap (λ x. test.of_term e || x) (some_terms test a b) ∙ or_assoc (test.of_term e) (some_term test a) (some_term test b)

-- # Statements of one value

pub count_assigned : (at : Span) (slot : ℕ) (v : Value) → st_count (assigned at slot v) ≡ 1
count_assigned at slot (term e) = refl
count_assigned at slot (formula f) = refl

pub some_assigned : (test : Test) (at : Span) (slot : ℕ) (v : Value) → some_in test (assigned at slot v) ≡ value_passing v test
some_assigned test at slot (term e) = refl
some_assigned test at slot (formula f) = refl

pub count_apart : (b : Bool) (at : Span) (s t : St) → st_count s ≡ st_count t → st_count (set_apart b at s) ≡ st_count (set_apart b at t)
count_apart true at s t h = ap (λ n. 1 + (n + 0)) h
count_apart false at s t h = h

pub some_apart : (test : Test) (b : Bool) (at : Span) (s : St) → some_in_all test (one_st (set_apart b at s)) ≡ some_in test s
some_apart test true at s = or_none (some_in test s || false) ∙ or_none (some_in test s)
some_apart test false at s = or_none (some_in test s)

pub count_hidden : (b : Bool) (at : Span) (next : ℕ) (v w : Value) → sts_count (hidden b at next v) ≡ sts_count (hidden b at next w)
count_hidden false at next v w = refl
count_hidden true at next v w =
    ap (λ n. 1 + (n + 0) + 0) (count_assigned at next v ∙ sym (count_assigned at next w))

-- # An `if` and a `match`, in one form for both truths

pub branching_is : (b : Bool) (at : Span) (next : ℕ) (v : Value) (l r : Made) → branching b at next v l r
    ≡ made (append (hidden b at next v) (one_st (If at (test_of b next v) l.body r.body))) (hidden_kinds b bool_kind ++ l.slots ++ r.slots)
branching_is false at next v l r = refl
branching_is true at next v l r = refl

pub matching_is : (b : Bool) (at : Span) (next : ℕ) (k : Kind) (e : Ex) (arms : MadeArms) → matching b at next k e arms
    ≡ made (append (hidden b at next (term e)) (one_st (Match at (on_of b next e) arms.arms))) (hidden_kinds b k ++ arms.slots)
matching_is false at next k e arms = refl
matching_is true at next k e arms = refl

if_regroup : (h f l r : Bool) → (h || ((f || l || r) || false)) ≡ ((h || f) || l || r)
if_regroup true f l r = refl
if_regroup false f l r = or_none (f || l || r)

pub some_branching : (test : Test) (b : Bool) (at : Span) (next : ℕ) (v : Value) (l r : Sts)
    → some_in_all test (append (hidden b at next v) (one_st (If at (test_of b next v) l r)))
    ≡ (asking b at next v (formula (test_of b next v)) test || some_in_all test l || some_in_all test r)
some_branching test b at next v l r =
    some_append test (hidden b at next v) (one_st (If at (test_of b next v) l r))
    ∙ if_regroup (some_in_all test (hidden b at next v)) (test.of_formula (test_of b next v)) (some_in_all test l) (some_in_all test r)

match_regroup : (h f a : Bool) → (h || ((f || a) || false)) ≡ ((h || f) || a)
match_regroup true f a = refl
match_regroup false f a = or_none (f || a)

pub some_matching : (test : Test) (b : Bool) (at : Span) (next : ℕ) (e : Ex) (arms : StArms)
    → some_in_all test (append (hidden b at next (term e)) (one_st (Match at (on_of b next e) arms)))
    ≡ (asking b at next (term e) (term (on_of b next e)) test || some_in_arms test arms)
some_matching test b at next e arms =
    some_append test (hidden b at next (term e)) (one_st (Match at (on_of b next e) arms))
    ∙ match_regroup (some_in_all test (hidden b at next (term e))) (test.of_term (on_of b next e)) (some_in_arms test arms)

-- # Lists

rows_push : (ss : List St) (s : St) → sts_of (ss ++ s ∷ []) ≡ append (sts_of ss) (one_st s)
rows_push [] s = refl
rows_push (t ∷ ss) s = ap (also_st t) (rows_push ss s)

pub pushed : (old new : List Stmt) (s : Stmt) (st : St) → new ≡ old ++ s ∷ [] → stmt_view s ≡ st
    → stmts_view new ≡ append (stmts_view old) (one_st st)
pushed old new s st is same =
    ap (λ l. stmts_view l) is ∙ ap sts_of (map_push stmt_view old s) ∙ rows_push (map stmt_view old) (stmt_view s)
    ∙ ap (λ x. append (stmts_view old) (one_st x)) same
