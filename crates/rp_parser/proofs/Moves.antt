-- Tokens that begin no phrase of a kind.
use Rattle.std.proofs.Common.{◌≡◌, ℕ, List, [], ◌∷◌, ◌++◌, None, length, refl, ap, sym, ◌∙◌}
use denote.Bor.{Bor}
use Rattle.rp_span.specs.declared.Span.{Span}
use Rattle.rp_grammar.specs.declared.terminal.Word.{Word}
use Rattle.rp_grammar.specs.Trees.{Ident, ExprTree, DeclTree}
use Rattle.rp_grammar.specs.Parts.{Part}
use Rattle.rp_tokens.specs.MachineStates.{State, finished, in_decls, name_step, want_operand, want_prim, more_sum, more_cmp}
use Rattle.rp_tokens.specs.MachineExprs.{operand_step, cmp_step}
use Rattle.rp_tokens.specs.MachineDecls.{decl_word, decls_step}
use Rattle.rp_tokens.specs.Machine.{int_step, stuck, whole, bounded}
use Rattle.rp_parser.specs.declared.mark.Mark.{Mark}
use Rattle.rp_parser.specs.declared.mark.Kind.{Kind}
use Rattle.rp_parser.specs.declared.mark.Kind.TheVariants as kind
use Rattle.rp_parser.specs.means.Marks.{terminal_of, toks}
use Rattle.rp_parser.proofs.Steps.{alike}

pub no_name : (kd : Kind) (d : ℕ) (k : Ident → State) (v : Span) → ((bytes : Bor (List ℕ)) → kd ≡ kind.Name bytes → ⊥) → name_step d k (terminal_of kd) v ≡ None
no_name (kind.Name bytes) d k v h = absurd (h bytes refl)
no_name _ d k v h = refl

pub as_comparison : (d : ℕ) (k : Part ExprTree → State) (ms rest : List Mark) (m : Mark) → ms ≡ m ∷ rest → operand_step d k (terminal_of m.kind) m.span ≡ cmp_step d k (terminal_of m.kind) m.span → bounded 64 (want_operand d k) (toks ms) ≡ bounded 64 (want_prim d (λ a. more_sum d a (λ b. more_cmp d b k))) (toks ms)
as_comparison d k ms rest m h e =
    let t = want_prim d (λ a. more_sum d a (λ b. more_cmp d b k)) in
    ap (λ ms. bounded 64 (want_operand d k) (toks ms)) h ∙ alike (want_operand d k) t (terminal_of m.kind) m.span (toks rest) e ∙ ap (λ ms. bounded 64 t (toks ms)) (sym h)

pub no_int : (kd : Kind) (d : ℕ) (k : ℕ → Span → State) (v : Span) → ((i : ℕ) → kd ≡ kind.Int i → ⊥) → int_step d k (terminal_of kd) v ≡ None
no_int (kind.Int i) d k v h = absurd (h i refl)
no_int _ d k v h = refl

pub no_decl : (kd : Kind) (xs : List DeclTree) (v : Span) → ((w : Word) → kd ≡ kind.Word w → (k : DeclTree → State) (s : Span) → decl_word k w s ≡ None) → (kd ≡ kind.End → ⊥) → decls_step xs (terminal_of kd) v ≡ None
no_decl (kind.Word w) xs v h n = h w refl (λ x. in_decls (xs ++ x ∷ [])) v
no_decl kind.End xs v h n = absurd (n refl)
no_decl _ xs v h n = refl

pub not_at_end : (xs : List DeclTree) (ms : List Mark) → (length ms ≡ 0 → ⊥) → bounded 64 (finished xs) (toks ms) ≡ whole (stuck (toks ms))
not_at_end xs [] h = absurd (h refl)
not_at_end xs (m ∷ ms) h = refl
