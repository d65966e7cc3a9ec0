-- Each text has some report.
use Rattle.std.proofs.Common.{◌≡◌, ℕ, ◌≤◌, List, [], ◌∷◌, map, length, Option, Some, None, All, refl, sym, ◌∙◌, ◌⊎◌, inl, inr}
use Rattle.std.proofs.Math.Decide.{dec_le}
use Rattle.std.proofs.lemmas.List.Elements.{All-nil, All-cons, All-head, All-tail}
use Rattle.rp_span.specs.Places.{place_of}
use Rattle.rp_grammar.specs.Trees.{DeclTree}
use Rattle.rp_lang.specs.declared.limit.LimitName.{LimitName}
use Rattle.rp_lang.specs.declared.limit.LimitName.TheVariants as limit
use Rattle.rp_lang.specs.FirstForm.{IsFirstForm}
use Rattle.rp_lang.specs.Programs.{Proc, Prog}
use Rattle.event_machine.specs.Goals.{goals}
use Rattle.event_machine.proofs.TestLemmas as tests
use Rattle.first_form.proofs.Bare.{first_form_or_not}
use Rattle.desugaring.specs.Programs.{IsProgramOf}
use Rattle.desugaring.specs.Limits.{first_limit}
use Rattle.type_rules.specs.declared.fault.Fault.{Fault}
use Rattle.type_rules.specs.Faults.{IsFirstFault, IsLawful, first_fault}
use Rattle.type_rules.proofs.Least.{fault_least}
use Rattle.rp_verify.specs.Verdicts.{unproved, proc_paths, HasFewPaths, IsWithinLimits}
use Rattle.rp_verify.specs.declared.verdict.Unproved as found
use Rattle.rp_verify.proofs.SafeFound.{safe_none_found}
use Rattle.repliss_cli.specs.declared.report.Report.{Report}
use Rattle.repliss_cli.specs.declared.report.Report.TheVariants.{Verified, Unproved, Lex, Syntax, Limit, Rule, NotYet}
use Rattle.repliss_cli.specs.ProgramText.{IsProgramText}
use Rattle.repliss_cli.specs.FirstText.{IsFirstText}
use Rattle.repliss_cli.specs.Refusals.{past_bytes, past_nesting, past_program}
use Rattle.repliss_cli.specs.Answers.{IsReportOf}
use Rattle.repliss_cli.specs.means.Lines.{line_for}
use Rattle.repliss_cli.proofs.Named.{Tells, unproved_report}
use Rattle.repliss_cli.proofs.Readings.{Reading, too_long, faulty, bad, too_deep, tree, Reads, reads_too_long, reads_faulty, reads_bad, reads_too_deep, reads_tree, some_reading}
use Rattle.repliss_cli.proofs.OneReport.{Found, broken, past, program, Finds, finds_broken, finds_past, finds_program}

-- a lawful tree is some program
abbrev pub SomeProgram : Type 0
SomeProgram = (t : List DeclTree) → IsLawful t → (p : Prog) × IsProgramOf t p

tells : Tells
tells goal = (tests.false_goal goal, tests.is_false-goal goal)

-- ---- limits

few_or_not : (procs : List Proc) → All HasFewPaths procs ⊎ (All HasFewPaths procs → ⊥)
few_or_not [] = inl (All-nil HasFewPaths)
few_or_not (q ∷ procs) = go (dec_le (proc_paths q) 1024) (few_or_not procs)
  where
    go : Dec (proc_paths q ≤ 1024) → All HasFewPaths procs ⊎ (All HasFewPaths procs → ⊥) → All HasFewPaths (q ∷ procs) ⊎ (All HasFewPaths (q ∷ procs) → ⊥)
    go (yes few) (inl all) = inl (All-cons HasFewPaths q procs few all)
    go (yes few) (inr some) = inr (λ all. some (All-tail HasFewPaths q procs all))
    go (no many) rest = inr (λ all. many (All-head HasFewPaths q procs all))

within_or_not : (p : Prog) → IsWithinLimits p ⊎ (IsWithinLimits p → ⊥)
within_or_not p = go (few_or_not p.procs) (dec_le (length (goals p)) 2048)
  where
    go : All HasFewPaths p.procs ⊎ (All HasFewPaths p.procs → ⊥) → Dec (length (goals p) ≤ 2048) → IsWithinLimits p ⊎ (IsWithinLimits p → ⊥)
    go (inl few) (yes short) = inl (record { few_paths = few; few_goals = short })
    go (inl few) (no many) = inr (λ within. many within.few_goals)
    go (inr many) any = inr (λ within. many within.few_paths)

-- ---- what a tree is

-- its program passes some limit first, or none
of_program : (t : List DeclTree) (p : Prog) → IsProgramOf t p → (a : Found) × Finds t a
of_program t p is = go (first_limit p) refl
  where
    go : (o : Option LimitName) → first_limit p ≡ o → (a : Found) × Finds t a
    go (Some l) first = (past l, finds_past (p, is, first))
    go None none = (program p, finds_program (is, none))

-- the first fault, if there is one, decides
of_fault : (t : List DeclTree) → SomeProgram → (o : Option Fault) → IsFirstFault t o → (a : Found) × Finds t a
of_fault t some (Some f) first = (broken f, finds_broken first)
of_fault t some None lawful = let (p, is) = some t lawful in of_program t p is

some_found : (t : List DeclTree) → SomeProgram → (a : Found) × Finds t a
some_found t some = of_fault t some (first_fault t) (fault_least t)

-- ---- reports

verified_or_not : (content : List ℕ) (p : Prog) → IsFirstText content p → (found : List found.Unproved) → unproved p ≡ found → (r : Report) × IsReportOf content r
verified_or_not content p text [] none = (Verified (length (goals p)), record { program = p; text = text; safe = safe_none_found p text.form none; counts = refl })
verified_or_not content p text (u ∷ us) is = (
  Unproved (length (goals p)) (map (line_for content p) (unproved p)),
  unproved_report tells content p (length (goals p)) (unproved p) (map (line_for content p) (unproved p)) text refl refl (λ none. let e : [] ≡ u ∷ us = sym none ∙ is in cc) refl,
)

first_or_other : (content : List ℕ) (p : Prog) → IsProgramText content p
    → IsFirstForm p ⊎ (IsFirstForm p → ⊥) → IsWithinLimits p ⊎ (IsWithinLimits p → ⊥) → (r : Report) × IsReportOf content r
first_or_other content p text (inl form) (inl within) = verified_or_not content p (record { text = text; form = form; within = within }) (unproved p) refl
first_or_other content p text (inl form) (inr many) = (NotYet, record { program = p; text = text; other = λ form. many })
first_or_other content p text (inr unlike) within = (NotYet, record { program = p; text = text; other = λ form. absurd (unlike form) })

of_found : (content : List ℕ) (t : List DeclTree) (a : Found) → Reads content (tree t) → Finds t a → (r : Report) × IsReportOf content r
of_found content t (broken f) (reads_tree short text) (finds_broken first) = (
  Rule f.rule (place_of content f.span.from),
  record { short = short; tree = t; text = text; fault = f; first = first; broken = refl; stands = refl },
)
of_found content t (past l) (reads_tree short text) (finds_past passes) =
    (Limit l, past_program (record { short = short; tree = t; text = text; passes = passes }))
of_found content t (program p) (reads_tree short text) (finds_program has) =
    first_or_other content p (record { short = short; tree = t; text = text; program = has }) (first_form_or_not p) (within_or_not p)

of_reading : (content : List ℕ) (a : Reading) → SomeProgram → Reads content a → (r : Report) × IsReportOf content r
of_reading content too_long some (reads_too_long long) = (Limit limit.ProgramBytes, past_bytes long)
of_reading content (faulty p f) some (reads_faulty short is) = (Lex f (place_of content p), record { short = short; at = p; faulty = is; stands = refl })
of_reading content (bad p) some (reads_bad short is) = (Syntax (place_of content p), record { short = short; at = p; bad = is; stands = refl })
of_reading content too_deep some (reads_too_deep {p = p} short is) = (Limit limit.Depth, past_nesting (record { short = short; at = p; deep = is }))
of_reading content (tree t) some reads = let (a, finds) = some_found t some in of_found content t a reads finds

pub some_report : SomeProgram → (content : List ℕ) → (r : Report) × IsReportOf content r
some_report some content = let (a, reads) = some_reading content in of_reading content a some reads
