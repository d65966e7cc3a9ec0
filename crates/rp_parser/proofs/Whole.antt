-- Answers on marks are answers on texts.
use Rattle.std.proofs.Common.{◌≡◌, ℕ, ◌-◌, ◌<◌, ◌≤◌, List, [], length, Result, Ok, Err, IfErr, refl, sym, ap, subst, arith, suc}
use Rattle.rp_grammar.specs.Terminals.{Tok}
use Rattle.rp_grammar.specs.Trees.{DeclTree}
use Rattle.rp_grammar.specs.declared.Token.{Token}
use Rattle.rp_grammar.specs.Toks.{ToksOf}
use Rattle.rp_grammar.specs.Toks as grammar
use Rattle.rp_grammar.specs.Begins.{IsTree, IsTreeWithin, IsFirstBad, IsTooDeep, EndsInEnd}
use Rattle.rp_grammar.specs.Texts.{HasToks, IsTextWithin}
use Rattle.rp_grammar.specs.Lexed.{Lexed}
use Rattle.rp_parser.specs.declared.mark.Mark.{Mark}
use Rattle.rp_parser.specs.means.Marks.{toks}
use Rattle.rp_parser.proofs.Steps.{length_toks}
use Rattle.rp_grammar.proofs.Toks.{one_text_toks}
use Rattle.rp_ast.specs.declared.decl.Ast.{Ast}
use Rattle.rp_ast.specs.View.{ast_view}
use Rattle.rp_tokens.specs.MachineStates.{in_decls}
use Rattle.rp_tokens.specs.Machine.{bounded}
use Rattle.rp_tokens.proofs.Places.{refused_left, deep_left}
use Rattle.rp_tokens.proofs.OneTree.{one_tree}
use Rattle.rp_tokens.proofs.OneAnswer.{one_bad, one_too_deep, tree_not_bad, tree_not_too_deep, bad_not_too_deep}
use Rattle.rp_parser.specs.declared.error.ParseErr.{ParseErr}
use Rattle.rp_parser.specs.declared.error.ParseErr.TheVariants as err
use Rattle.rp_parser.specs.declared.fault.Fault.{Fault}
use Rattle.rp_parser.specs.declared.fault.Fault.TheVariants as fault
use Rattle.rp_parser.specs.means.Reading.{Faults}
use Rattle.rp_parser.specs.Answers.{IsFault, IsRead, IsRefused, IsFoundTooDeep}
use Rattle.rp_parser.specs.means.TokenAnswers.{IsAnswer}

pub length_of : {text : List ℕ} {ts : List Token} {us : List Tok} → ToksOf text ts us → length ts ≡ length us
length_of grammar.ToksOf.none = refl
length_of (grammar.ToksOf.more i m) = ap suc (length_of m)

pub bad : (ts : List Tok) (e : Fault) (left : ℕ) → EndsInEnd ts → e ≡ fault.Syntax left → Faults e (bounded 64 (in_decls []) ts) → (left ≤ length ts) × IsFirstBad 64 ts (length ts - left)
bad ts e left ends is f =
    let (r, h, l) = subst (λ e. Faults e (bounded 64 (in_decls []) ts)) is f in
    subst (λ n. (n ≤ length ts) × IsFirstBad 64 ts (length ts - n)) l (refused_left 64 ts r ends h)

pub too_deep_at : (ts : List Tok) (e : Fault) (left : ℕ) → e ≡ fault.TooDeep left → Faults e (bounded 64 (in_decls []) ts) → (left ≤ length ts) × IsTooDeep 64 ts (length ts - left)
too_deep_at ts e left is f =
    let (r, h, l) = subst (λ e. Faults e (bounded 64 (in_decls []) ts)) is f in
    subst (λ n. (n ≤ length ts) × IsTooDeep 64 ts (length ts - n)) l (deep_left 64 ts r h)

plain_tree : (us : List Tok) (t : List DeclTree) → IsTreeWithin 64 us t → IsTree us t
plain_tree us t (ms, e, p, a) = (ms, e, p)

-- what is found is the text's
pub is_fault : (bytes : List ℕ) (us : List Tok) (e : ParseErr) → HasToks bytes us → IsAnswer us (Err e) → IsFault bytes e
is_fault bytes us (err.Syntax k) has a = (us, has, a)
is_fault bytes us (err.TooDeep k) has a = (us, has, a)
is_fault bytes us err.Memory has a = tt

pub every_tree : (bytes : List ℕ) (us : List Tok) (r : Result Ast ParseErr) → HasToks bytes us → IsAnswer us r → (tree : List DeclTree) → IsTextWithin 64 bytes tree → IsRead tree r
every_tree bytes us (Ok ast) has a tree (vs, other, h) = one_tree us (ast_view ast) tree (plain_tree us (ast_view ast) a) (plain_tree us tree (subst (λ vs. IsTreeWithin 64 vs tree) (one_text_toks bytes vs us other has) h))
every_tree bytes us (Err (err.Syntax k)) has a tree (vs, other, h) = tree_not_bad 64 us tree k (subst (λ vs. IsTreeWithin 64 vs tree) (one_text_toks bytes vs us other has) h) a
every_tree bytes us (Err (err.TooDeep k)) has a tree (vs, other, h) = tree_not_too_deep 64 us tree k (subst (λ vs. IsTreeWithin 64 vs tree) (one_text_toks bytes vs us other has) h) a
every_tree bytes us (Err err.Memory) has a tree h = tt

pub every_bad : (bytes : List ℕ) (us : List Tok) (r : Result Ast ParseErr) → HasToks bytes us → IsAnswer us r → (vs : List Tok) (k : ℕ) → HasToks bytes vs → IsFirstBad 64 vs k → IsRefused k r
every_bad bytes us (Ok ast) has a vs k other h = tree_not_bad 64 us (ast_view ast) k a (subst (λ vs. IsFirstBad 64 vs k) (one_text_toks bytes vs us other has) h)
every_bad bytes us (Err (err.Syntax j)) has a vs k other h = one_bad 64 us j k a (subst (λ vs. IsFirstBad 64 vs k) (one_text_toks bytes vs us other has) h)
every_bad bytes us (Err (err.TooDeep j)) has a vs k other h = bad_not_too_deep 64 us k j (subst (λ vs. IsFirstBad 64 vs k) (one_text_toks bytes vs us other has) h) a
every_bad bytes us (Err err.Memory) has a vs k other h = tt

pub every_too_deep : (bytes : List ℕ) (us : List Tok) (r : Result Ast ParseErr) → HasToks bytes us → IsAnswer us r → (vs : List Tok) (k : ℕ) → HasToks bytes vs → IsTooDeep 64 vs k → IsFoundTooDeep k r
every_too_deep bytes us (Ok ast) has a vs k other h = tree_not_too_deep 64 us (ast_view ast) k a (subst (λ vs. IsTooDeep 64 vs k) (one_text_toks bytes vs us other has) h)
every_too_deep bytes us (Err (err.Syntax j)) has a vs k other h = bad_not_too_deep 64 us j k a (subst (λ vs. IsTooDeep 64 vs k) (one_text_toks bytes vs us other has) h)
every_too_deep bytes us (Err (err.TooDeep j)) has a vs k other h = one_too_deep 64 us j k a (subst (λ vs. IsTooDeep 64 vs k) (one_text_toks bytes vs us other has) h)
every_too_deep bytes us (Err err.Memory) has a vs k other h = tt

pub fits : (n m l : ℕ) → n ≡ m → l ≤ n → l ≤ m
fits n m l e h = omega arith

-- what is answered on the marks of a text is answered on its tokens
pub text_toks : (bytes : List ℕ) (tokens seen : List Token) (ms items : List Mark) → Lexed 0 bytes tokens → seen ≡ tokens → ms ≡ items → ToksOf bytes seen (toks items) → HasToks bytes (toks ms)
text_toks bytes tokens seen ms items l e i t = (tokens, l, subst (λ ts. ToksOf bytes ts (toks ms)) e (subst (λ ms. ToksOf bytes seen (toks ms)) (sym i) t))

pub few_marks : (bytes : List ℕ) (tokens seen : List Token) (ms items : List Mark) → length tokens < 4294967295 → seen ≡ tokens → ms ≡ items → ToksOf bytes seen (toks items) → length ms < 4294967296
few_marks bytes tokens seen ms items few e i t = omega (arith, ap length e, ap length i, length_of t, length_toks items)

pub fault_of : (bytes : List ℕ) (us : List Tok) (r : Result Ast ParseErr) → HasToks bytes us → IsAnswer us r → IfErr r (IsFault bytes)
fault_of bytes us (Ok ast) has a = tt
fault_of bytes us (Err e) has a = is_fault bytes us e has a
