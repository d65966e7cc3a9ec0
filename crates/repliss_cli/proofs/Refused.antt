-- Refusals of a text, from what its tokens and its tree are.
use Rattle.std.proofs.Common.{◌≡◌, ℕ, zero, suc, ◌<◌, ◌≤◌, List, [], ◌∷◌, length, Some, slice_get, All, refl, ap, subst, arith}
use Rattle.std.proofs.lemmas.List.Elements.{All-head, All-tail}
use Rattle.rp_span.specs.Places.{place_of}
use Rattle.rp_grammar.specs.declared.Token.{Token}
use Rattle.rp_grammar.specs.Lexed.{Lexed}
use Rattle.rp_grammar.specs.Terminals.{Tok}
use Rattle.rp_grammar.specs.Toks.{ToksOf}
use Rattle.rp_grammar.specs.Toks as toks
use Rattle.rp_grammar.specs.Trees.{DeclTree}
use Rattle.rp_grammar.specs.Begins.{IsFirstBad, IsTooDeep}
use Rattle.rp_grammar.specs.Texts.{HasToks, IsTextWithin, StandsAt}
use Rattle.rp_grammar.proofs.Unique.{one_lexing}
use Rattle.rp_lang.specs.declared.limit.LimitName.{LimitName}
use Rattle.rp_lang.specs.FirstForm.{IsFirstForm}
use Rattle.rp_lang.specs.Programs.{Proc, Prog}
use Rattle.type_rules.specs.declared.fault.Fault.{Fault}
use Rattle.type_rules.specs.Faults.{IsFirstFault}
use Rattle.desugaring.specs.Limits.{HasProgram, PassesLimit}
use Rattle.rp_parser.specs.Answers.{IsFault}
use Rattle.rp_parser.specs.declared.error.ParseErr.{ParseErr}
use Rattle.rp_parser.specs.declared.error.ParseErr.TheVariants as parse_err
use Rattle.rp_verify.specs.Verdicts.{proc_paths, HasFewPaths, IsPast, IsWithinLimits}
use Rattle.rp_verify.specs.declared.verdict.GoalErr.{GoalErr}
use Rattle.rp_verify.specs.declared.verdict.GoalErr.TheVariants as err
use Rattle.repliss_cli.specs.ProgramText.{IsProgramText}
use Rattle.repliss_cli.specs.FirstText.{IsFirstText}
use Rattle.repliss_cli.specs.Refusals.{IsSyntaxFault, IsTooDeepText, IsBrokenText, IsLimitText}
use Rattle.repliss_cli.specs.Answers.{IsOtherText}
use Rattle.repliss_cli.proofs.Readings.{some_place}

-- as many as the tokens
as_many : {text : List ℕ} {ts : List Token} {us : List Tok} → ToksOf text ts us → length us ≡ length ts
as_many toks.ToksOf.none = refl
as_many (toks.ToksOf.more is rest) = ap suc (as_many rest)

-- each stands where its token does
stands : {text : List ℕ} {ts : List Token} {us : List Tok} {t : Token} (k : ℕ) → ToksOf text ts us → slice_get ts k ≡ Some t → StandsAt us k t.span.from
stands k toks.ToksOf.none found = cc
stands {t = t} zero (toks.ToksOf.more {t = first} {k = terminal} is rest) found = let same : first ≡ t = cc in (terminal, first.span, refl, ap (λ t. t.span.from) same)
stands (suc k) (toks.ToksOf.more is rest) found = stands k rest found

lexed_as : {content : List ℕ} {ts rs : List Token} {us : List Tok} → Lexed 0 content ts → Lexed 0 content rs → ToksOf content rs us → ToksOf content ts us
lexed_as {content = content} {us = us} lexed also of = subst (λ ts. ToksOf content ts us) (one_lexing also lexed) of

-- what the parser names
pub bad_token : {bytes content : List ℕ} {e : ParseErr} {k : ℕ} → bytes ≡ content → e ≡ parse_err.Syntax k → IsFault bytes e → (us : List Tok) × HasToks content us × IsFirstBad 64 us k
bad_token {content = content} {e = e} same is fault = subst (λ e. IsFault content e) is (subst (λ bytes. IsFault bytes e) same fault)

pub deep_token : {bytes content : List ℕ} {e : ParseErr} {k : ℕ} → bytes ≡ content → e ≡ parse_err.TooDeep k → IsFault bytes e → (us : List Tok) × HasToks content us × IsTooDeep 64 us k
deep_token {content = content} {e = e} same is fault = subst (λ e. IsFault content e) is (subst (λ bytes. IsFault bytes e) same fault)

-- the number of a bad token is that of a token
pub within_tokens : {content : List ℕ} {ts : List Token} {k : ℕ} → Lexed 0 content ts → (us : List Tok) × HasToks content us × IsFirstBad 64 us k → k < length ts
within_tokens {k = k} lexed (us, (rs, also, of), is) = subst (λ n. k < n) (as_many (lexed_as lexed also of)) is.0

-- the token at fault stands there
pub syntax_fault : {content : List ℕ} {ts : List Token} {k : ℕ} {t : Token} → length content ≤ 262144 → Lexed 0 content ts
    → (us : List Tok) × HasToks content us × IsFirstBad 64 us k → slice_get ts k ≡ Some t → IsSyntaxFault content (place_of content t.span.from)
syntax_fault {k = k} {t = t} short lexed (us, (rs, also, of), is) found =
    record { short = short; at = t.span.from; bad = (us, k, (rs, also, of), is, stands k (lexed_as lexed also of) found); stands = refl }

-- some token is too deep
pub too_deep_text : {content : List ℕ} {k : ℕ} → length content ≤ 262144 → (us : List Tok) × HasToks content us × IsTooDeep 64 us k → IsTooDeepText content
too_deep_text {k = k} short (us, has, is) = let (p, there) = some_place us k is.0 in record { short = short; at = p; deep = (us, k, has, is, there) }

many_paths : (procs : List Proc) (n : ℕ) (q : Proc) → slice_get procs n ≡ Some q → 1024 < proc_paths q → All HasFewPaths procs → ⊥
many_paths [] n q is past all = cc
many_paths (first ∷ procs) zero q is past all =
    let same : first ≡ q = cc in
    let few : proc_paths q ≤ 1024 = subst HasFewPaths same (All-head HasFewPaths first procs all) in
    omega (arith, past, few)
many_paths (first ∷ procs) (suc n) q is past all = many_paths procs n q is past (All-tail HasFewPaths first procs all)

-- what passes a limit isn't within the limits
pub past_limits : (p : Prog) (e : GoalErr) → IsPast p e → (e ≡ err.Memory → ⊥) → IsWithinLimits p → ⊥
past_limits p (err.Paths n) first other within = let (q, is, past) = first.past in many_paths p.procs n q is past within.few_paths
past_limits p err.Goals (few, many) other within = let few = within.few_goals in omega (arith, many, few)
past_limits p err.Memory first other within = other refl

-- a text with this tree, and its program
pub program_text : {content : List ℕ} {t : List DeclTree} {p : Prog} → length content ≤ 262144 → IsTextWithin 64 content t → HasProgram t p → IsProgramText content p
program_text {t = t} short text has = record { short = short; tree = t; text = text; program = has }

-- the text's program is of the first form and within the limits
pub first_text : {content : List ℕ} {p : Prog} → IsProgramText content p → IsFirstForm p → IsWithinLimits p → IsFirstText content p
first_text text form within = record { text = text; form = form; within = within }

-- it isn't both
other_text : {content : List ℕ} {p : Prog} → IsProgramText content p → (IsFirstForm p → IsWithinLimits p → ⊥) → IsOtherText content
other_text {p = p} text other = record { program = p; text = text; other = other }

pub past_text : {content : List ℕ} {p : Prog} → IsProgramText content p → (IsWithinLimits p → ⊥) → IsOtherText content
past_text text past = other_text text (λ form. past)

pub unlike_text : {content : List ℕ} {p : Prog} → IsProgramText content p → (IsFirstForm p → ⊥) → IsOtherText content
unlike_text text unlike = other_text text (λ form. absurd (unlike form))

-- the first fault that was found is that of the text
pub broken_text : {content : List ℕ} {t : List DeclTree} {f : Fault}
    → length content ≤ 262144 → IsTextWithin 64 content t → IsFirstFault t (Some f)
    → IsBrokenText content f.rule (place_of content f.span.from)
broken_text {t = t} {f = f} short text first = record { short = short; tree = t; text = text; fault = f; first = first; broken = refl; stands = refl }

pub limit_text : {content : List ℕ} {t : List DeclTree} {passed : LimitName}
    → length content ≤ 262144 → IsTextWithin 64 content t → PassesLimit t passed → IsLimitText content passed
limit_text {t = t} short text passes = record { short = short; tree = t; text = text; passes = passes }
