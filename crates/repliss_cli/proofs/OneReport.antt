-- A text has one report: what it reads as and what its program is decide it.
use Rattle.std.proofs.Common.{◌≡◌, ℕ, List, [], ◌∷◌, length, Some, None, All, refl, sym, ap, subst, ◌∙◌}
use Rattle.std.proofs.lemmas.List.Elements.{All-head, All-tail}
use Rattle.rp_span.specs.Places.{place_of}
use Rattle.rp_grammar.specs.declared.LexFault.{LexFault}
use Rattle.rp_grammar.specs.Trees.{DeclTree}
use Rattle.rp_lang.specs.declared.limit.LimitName.{LimitName}
use Rattle.rp_lang.specs.declared.limit.LimitName.TheVariants as limit
use Rattle.rp_lang.specs.FirstForm.{IsFirstForm}
use Rattle.rp_lang.specs.Programs.{Prog}
use Rattle.event_machine.specs.Runs.{IsSafe}
use Rattle.event_machine.specs.Goals.{Goal, goals, IsFalseGoal}
use Rattle.event_machine.proofs.FalseLemmas.{none_false}
use Rattle.type_rules.specs.declared.fault.Fault.{Fault}
use Rattle.type_rules.specs.Faults.{IsFirstFault}
use Rattle.type_rules.proofs.Least.{one_fault}
use Rattle.desugaring.specs.Programs.{IsProgramOf}
use Rattle.desugaring.specs.Limits.{first_limit, HasProgram, PassesLimit}
use Rattle.rp_verify.specs.Verdicts.{IsWithinLimits}
use Rattle.repliss_cli.specs.declared.report.GoalLine.{GoalLine}
use Rattle.repliss_cli.specs.declared.report.Report.{Report}
use Rattle.repliss_cli.specs.declared.report.Report.TheVariants.{Verified, Unproved, Usage, Lex, Syntax, Limit, Rule, NotYet, Schedule}
use Rattle.repliss_cli.specs.ProgramText.{IsProgramText}
use Rattle.repliss_cli.specs.FirstText.{IsFirstText}
use Rattle.repliss_cli.specs.Refusals.{IsPastLimit, past_bytes, past_nesting, past_program, IsRefusalOf}
use Rattle.repliss_cli.specs.Answers.{line_of, NameFalse, no_goal, false_goal, other_goal, IsReportOf}
use Rattle.repliss_cli.proofs.Readings.{Reading, too_long, faulty, bad, too_deep, tree, Reads, reads_too_long, reads_faulty, reads_bad, reads_too_deep, reads_tree, one_reading, one_tree}

-- a tree is one program
abbrev pub OneProgram : Type 0
OneProgram = (t : List DeclTree) (p q : Prog) → IsProgramOf t p → IsProgramOf t q → p ≡ q

-- ---- lines of false goals

one_line_list : {content : List ℕ} {p : Prog} {n : ℕ} {goals : List Goal} {lines others : List GoalLine}
    → NameFalse content p n goals lines → NameFalse content p n goals others → lines ≡ others
one_line_list no_goal no_goal = refl
one_line_list {content = content} {p = p} {n = n} (false_goal {goal = goal} is rest) (false_goal also more) =
    ap (λ lines. line_of content p n goal ∷ lines) (one_line_list rest more)
one_line_list (false_goal is rest) (other_goal not more) = absurd (not is)
one_line_list (other_goal not rest) (false_goal is more) = absurd (not is)
one_line_list (other_goal not rest) (other_goal also more) = one_line_list rest more

no_lines : {content : List ℕ} {p : Prog} {n : ℕ} {goals : List Goal} {lines : List GoalLine}
    → All (λ goal. IsFalseGoal goal → ⊥) goals → NameFalse content p n goals lines → lines ≡ []
no_lines none no_goal = refl
no_lines none (false_goal {goal = goal} {goals = goals} is rest) = absurd (All-head (λ goal. IsFalseGoal goal → ⊥) goal goals none is)
no_lines none (other_goal {goal = goal} {goals = goals} not rest) = no_lines (All-tail (λ goal. IsFalseGoal goal → ⊥) goal goals none) rest

-- ---- what a tree is

pub data Found : Type 0 where
  broken : Fault → Found
  past : LimitName → Found
  program : Prog → Found

pub data Finds (t : List DeclTree) : Found → Type 0 where
  finds_broken : {f : Fault} → IsFirstFault t (Some f) → Finds t (broken f)
  finds_past : {l : LimitName} → PassesLimit t l → Finds t (past l)
  finds_program : {p : Prog} → HasProgram t p → Finds t (program p)

-- a broken tree has no program
not_broken : {t : List DeclTree} {f : Fault} {p : Prog} → IsFirstFault t (Some f) → IsProgramOf t p → ⊥
not_broken {f = f} first is = is.0 f first.0

-- a program passes one limit first, or none
one_limit : {t : List DeclTree} {p q : Prog} {l m : LimitName} → OneProgram → IsProgramOf t p → first_limit p ≡ Some l → IsProgramOf t q → first_limit q ≡ Some m → l ≡ m
one_limit {t = t} {p = p} {q = q} {l = l} {m = m} one is first also other =
    let both : Some l ≡ Some m = sym first ∙ ap first_limit (one t p q is also) ∙ other in
    cc

not_within : {t : List DeclTree} {p q : Prog} {l : LimitName} → OneProgram → IsProgramOf t p → first_limit p ≡ Some l → IsProgramOf t q → first_limit q ≡ None → ⊥
not_within {t = t} {p = p} {q = q} {l = l} one is first also none =
    let both : Some l ≡ None = sym first ∙ ap first_limit (one t p q is also) ∙ none in
    cc

one_found : {t : List DeclTree} {a b : Found} → OneProgram → Finds t a → Finds t b → a ≡ b
one_found {t = t} one (finds_broken {f = f} first) (finds_broken {f = g} least) =
    let same : f ≡ g = let e = one_fault t (Some f) (Some g) first least in cc in
    ap broken same
one_found one (finds_broken first) (finds_past (p, is, passed)) = absurd (not_broken first is)
one_found one (finds_broken first) (finds_program has) = absurd (not_broken first has.0)
one_found one (finds_past (p, is, passed)) (finds_broken first) = absurd (not_broken first is)
one_found one (finds_past (p, is, passed)) (finds_past (q, also, other)) = ap past (one_limit one is passed also other)
one_found one (finds_past (p, is, passed)) (finds_program has) = absurd (not_within one is passed has.0 has.1)
one_found one (finds_program has) (finds_broken first) = absurd (not_broken first has.0)
one_found one (finds_program has) (finds_past (q, also, other)) = absurd (not_within one also other has.0 has.1)
one_found {t = t} one (finds_program {p = p} has) (finds_program {p = q} other) = ap program (one t p q has.0 other.0)

-- ---- what is reported of a reading

-- of a program of the first form, within its limits
pub data OfProgram (content : List ℕ) (p : Prog) : Report → Type 0 where
  of_safe : IsSafe p → OfProgram content p (Verified (length (goals p)))
  of_unsafe : {lines : List GoalLine} → NameFalse content p 1 (goals p) lines → (lines ≡ [] → ⊥) → OfProgram content p (Unproved (length (goals p)) lines)

pub data OfFound (content : List ℕ) : Found → Report → Type 0 where
  of_broken : {f : Fault} → OfFound content (broken f) (Rule f.rule (place_of content f.span.from))
  of_past : {l : LimitName} → OfFound content (past l) (Limit l)
  of_first : {p : Prog} {r : Report} → IsFirstForm p → IsWithinLimits p → OfProgram content p r → OfFound content (program p) r
  of_other : {p : Prog} → (IsFirstForm p → IsWithinLimits p → ⊥) → OfFound content (program p) NotYet

pub data OfReading (content : List ℕ) : Reading → Report → Type 0 where
  of_too_long : OfReading content too_long (Limit limit.ProgramBytes)
  of_faulty : {p : ℕ} {f : LexFault} → OfReading content (faulty p f) (Lex f (place_of content p))
  of_bad : {p : ℕ} → OfReading content (bad p) (Syntax (place_of content p))
  of_too_deep : OfReading content too_deep (Limit limit.Depth)
  of_tree : {t : List DeclTree} {a : Found} {r : Report} → Finds t a → OfFound content a r → OfReading content (tree t) r

one_of_program : {content : List ℕ} {p : Prog} {r s : Report} → IsFirstForm p → OfProgram content p r → OfProgram content p s → r ≡ s
one_of_program form (of_safe safe) (of_safe also) = refl
one_of_program {p = p} form (of_safe safe) (of_unsafe named some) = absurd (some (no_lines (none_false p form safe) named))
one_of_program {p = p} form (of_unsafe named some) (of_safe safe) = absurd (some (no_lines (none_false p form safe) named))
one_of_program {p = p} form (of_unsafe named some) (of_unsafe also others) = ap (λ lines. Unproved (length (goals p)) lines) (one_line_list named also)

one_of_found : {content : List ℕ} {a : Found} {r s : Report} → OfFound content a r → OfFound content a s → r ≡ s
one_of_found of_broken of_broken = refl
one_of_found of_past of_past = refl
one_of_found (of_first form within of) (of_first also few and) = one_of_program form of and
one_of_found (of_first form within of) (of_other none) = absurd (none form within)
one_of_found (of_other none) (of_first form within of) = absurd (none form within)
one_of_found (of_other none) (of_other also) = refl

one_of_reading : {content : List ℕ} {a : Reading} {r s : Report} → OneProgram → OfReading content a r → OfReading content a s → r ≡ s
one_of_reading one of_too_long of_too_long = refl
one_of_reading one of_faulty of_faulty = refl
one_of_reading one of_bad of_bad = refl
one_of_reading one of_too_deep of_too_deep = refl
one_of_reading {content = content} {s = s} one (of_tree finds of) (of_tree also and) =
    one_of_found of (subst (λ a. OfFound content a s) (sym (one_found one finds also)) and)

-- ---- reports of texts

pub record IsOf (content : List ℕ) (a : Reading) (r : Report) : Type 0 where
  pub reads : Reads content a
  pub of : OfReading content a r

of_first_text : {content : List ℕ} {p : Prog} {r : Report} → IsFirstText content p → OfProgram content p r → (a : Reading) × IsOf content a r
of_first_text text of =
    let is = text.text in
    (tree is.tree, record { reads = reads_tree is.short is.text; of = of_tree (finds_program is.program) (of_first text.form text.within of) })

of_limit : {content : List ℕ} {l : LimitName} → IsPastLimit content l → (a : Reading) × IsOf content a (Limit l)
of_limit (past_bytes long) = (too_long, record { reads = reads_too_long long; of = of_too_long })
of_limit (past_nesting h) = (too_deep, record { reads = reads_too_deep h.short h.deep; of = of_too_deep })
of_limit (past_program h) = (tree h.tree, record { reads = reads_tree h.short h.text; of = of_tree (finds_past h.passes) of_past })

pub is_of : (content : List ℕ) (r : Report) → IsReportOf content r → (a : Reading) × IsOf content a r
is_of content (Verified n) h =
    of_first_text h.text (subst (λ n. OfProgram content h.program (Verified n)) (sym h.counts) (of_safe h.safe))
is_of content (Unproved n lines) h =
    of_first_text h.text (subst (λ n. OfProgram content h.program (Unproved n lines)) (sym h.counts) (of_unsafe h.named h.some))
is_of content Usage h = absurd h
is_of content (Lex f pos) h =
    (faulty h.at f, record { reads = reads_faulty h.short h.faulty; of = subst (λ pos. OfReading content (faulty h.at f) (Lex f pos)) (sym h.stands) of_faulty })
is_of content (Syntax pos) h =
    (bad h.at, record { reads = reads_bad h.short h.bad; of = subst (λ pos. OfReading content (bad h.at) (Syntax pos)) (sym h.stands) of_bad })
is_of content (Limit l) h = of_limit h
is_of content (Rule rule pos) h =
    let of : OfFound content (broken h.fault) (Rule h.fault.rule (place_of content h.fault.span.from)) = of_broken in
    let told : OfFound content (broken h.fault) (Rule rule (place_of content h.fault.span.from)) =
    subst (λ rule. OfFound content (broken h.fault) (Rule rule (place_of content h.fault.span.from))) (sym h.broken) of in
    let stands : OfFound content (broken h.fault) (Rule rule pos) = subst (λ pos. OfFound content (broken h.fault) (Rule rule pos)) (sym h.stands) told in
    (tree h.tree, record { reads = reads_tree h.short h.text; of = of_tree (finds_broken h.first) stands })
is_of content NotYet h =
    let is = h.text in
    (tree is.tree, record { reads = reads_tree is.short is.text; of = of_tree (finds_program is.program) (of_other h.other) })
is_of content (Schedule ending line) h = absurd h

pub one_report : OneProgram → (content : List ℕ) (r s : Report) → IsReportOf content r → IsReportOf content s → r ≡ s
one_report one content r s h g =
    let (a, is) = is_of content r h in
    let (b, also) = is_of content s g in
    let same : a ≡ b = one_reading is.reads also.reads in
    one_of_reading one is.of (subst (λ a. OfReading content a s) (sym same) also.of)

-- ---- refusals

-- what refuses a text is what is told of it
pub as_report : (content : List ℕ) (r : Report) → IsRefusalOf content r → IsReportOf content r
as_report content (Verified n) h = absurd h
as_report content (Unproved n lines) h = absurd h
as_report content Usage h = absurd h
as_report content (Lex f pos) h = h
as_report content (Syntax pos) h = h
as_report content (Limit l) h = h
as_report content (Rule rule pos) h = h
as_report content NotYet h = absurd h
as_report content (Schedule ending line) h = absurd h

told_of_program : {content : List ℕ} {p : Prog} {r : Report} → OfFound content (program p) r → IsRefusalOf content r → ⊥
told_of_program (of_first form within (of_safe safe)) h = h
told_of_program (of_first form within (of_unsafe named some)) h = h
told_of_program (of_other other) h = h

told_of_tree : {content : List ℕ} {t : List DeclTree} {p : Prog} {r : Report} → OneProgram → HasProgram t p → OfReading content (tree t) r → IsRefusalOf content r → ⊥
told_of_tree {content = content} {r = r} one has (of_tree finds of) h =
    told_of_program (subst (λ a. OfFound content a r) (one_found one finds (finds_program has)) of) h

-- a text with a program isn't refused
pub not_refused : OneProgram → (content : List ℕ) (p : Prog) (r : Report) → IsProgramText content p → IsRefusalOf content r → ⊥
not_refused one content p r text h =
    let (a, is) = is_of content r (as_report content r h) in
    let same : a ≡ tree text.tree = one_reading is.reads (reads_tree text.short text.text) in
    told_of_tree one text.program (subst (λ a. OfReading content a r) same is.of) h

-- a text has one program
pub one_program_text : OneProgram → (content : List ℕ) (p q : Prog) → IsProgramText content p → IsProgramText content q → p ≡ q
one_program_text one content p q text also =
    let same : also.tree ≡ text.tree = one_tree also.text text.text in
    one text.tree p q text.program.0 (subst (λ t. HasProgram t q) same also.program).0
