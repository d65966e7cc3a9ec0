-- The answers of `lex` are the only ones.
use Rattle.std.proofs.Common.{ℕ, List, Result, Ok, Err, MatchResult, length, refl, subst, arith, ◌≡◌, ◌+◌}
use Rattle.std.specs.Prelude.{IfOk}
use Rattle.std.specs.List.{AllByRecursion}
use Rattle.rp_grammar.specs.Lexed.{Lexed, Faulty, EndsAt, Spelled}
use Rattle.rp_grammar.specs.declared.Token.{Token}
use Rattle.rp_grammar.specs.declared.LexFault.{LexFault}
use Rattle.rp_grammar.proofs.Unique.{one_lexing, one_fault, not_both}
use Rattle.rp_grammar.proofs.Places.{ends_at, all_spelled}
use Rattle.rp_lexer.specs.Answers.{IsFault, IsRead, IsRefused}
use Rattle.rp_lexer.specs.declared.error.LexErr.{LexErr}
use Rattle.rp_lexer.specs.declared.error.LexErr.TheVariants as err

abbrev pub Answers : List ℕ → Result (List Token) LexErr → Type 0
Answers bytes result = MatchResult result (Lexed 0 bytes) (IsFault bytes)

pub is_read : (bytes : List ℕ) (result : Result (List Token) LexErr) → Answers bytes result → (ts : List Token) → Lexed 0 bytes ts → IsRead ts result
is_read bytes (Ok tokens) a ts l = one_lexing a l
is_read bytes (Err (err.Fault at kind)) a ts l = not_both l a
is_read bytes (Err err.Memory) a ts l = tt

pub is_refused : (bytes : List ℕ) (result : Result (List Token) LexErr) → Answers bytes result → (at : ℕ) (kind : LexFault) → Faulty 0 bytes at kind → IsRefused at kind result
is_refused bytes (Ok tokens) a at kind l = not_both a l
is_refused bytes (Err (err.Fault i other)) a at kind l = one_fault a l
is_refused bytes (Err err.Memory) a at kind l = tt

pub spelled : (bytes : List ℕ) (result : Result (List Token) LexErr) → Answers bytes result → IfOk result (AllByRecursion (Spelled bytes))
spelled bytes (Ok tokens) a = all_spelled bytes refl (omega arith) a
spelled bytes (Err e) a = tt

pub ends : (bytes : List ℕ) (result : Result (List Token) LexErr) → Answers bytes result → IfOk result (EndsAt (length bytes))
ends bytes (Ok tokens) a =
    let whole : 0 + length bytes ≡ length bytes = omega arith in
    subst (λ n. EndsAt n tokens) whole (ends_at a)
ends bytes (Err e) a = tt
