-- What arguments of words are to be.
use Rattle.std.proofs.Common.{◌≡◌, ℕ, suc, zero, ◌<◌, List, [], ◌∷◌, drop, refl, arith}
use Rattle.rp_grammar.specs.declared.operator.CallWord.{CallWord}
use Rattle.rp_grammar.specs.declared.operator.CallWord.TheVariants as called
use Rattle.rp_grammar.specs.Trees.{ExprTrees}
use Rattle.type_rules.specs.declared.kind.Kind.{Kind}
use Rattle.type_rules.specs.Names.{Names}
use Rattle.type_rules.specs.Accesses.{Var}
use Rattle.type_rules.specs.ExprSites.{before_kind, call_kind, first_type, invocation_kind, word_args}
use Rattle.type_rules.specs.Matches.{first_kind}
use Rattle.type_rules.specs.Rules.{word_takes}

one : (k : ℕ) → k < 1 → (x : Kind) → x ≡ first_kind (drop k (x ∷ []))
one zero h x = refl
one (suc k) h x = absurd (omega arith)

two : (k : ℕ) → k < 2 → (x : Kind) → x ≡ first_kind (drop k (x ∷ x ∷ []))
two zero h x = refl
two (suc zero) h x = refl
two (suc (suc k)) h x = absurd (omega arith)

-- all arguments of a word have one type
pub all_alike : (n : Names) (vs : List Var) (w : CallWord) (es : ExprTrees) (k : ℕ) → k < word_takes w
    → first_kind (word_args n vs w es) ≡ first_kind (drop k (word_args n vs w es))
all_alike n vs called.Visible es k h = one k h call_kind
all_alike n vs called.Before es k h = two k h (before_kind (first_type n vs es))
all_alike n vs called.Same es k h = two k h call_kind
all_alike n vs called.Op es k h = one k h call_kind
all_alike n vs called.Origin es k h = one k h call_kind
all_alike n vs called.Info es k h = one k h invocation_kind
all_alike n vs called.Result es k h = one k h invocation_kind
