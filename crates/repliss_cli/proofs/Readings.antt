-- How a text reads: it is too long, or it has a fault, or a tree. Each text reads in one way.
use Rattle.std.proofs.Common.{◌≡◌, ℕ, zero, suc, ◌<◌, ◌≤◌, List, [], ◌∷◌, length, Some, slice_get, refl, sym, ap, subst, ◌∙◌, arith, ◌⊎◌, inl, inr}
use Rattle.std.proofs.Math.Decide.{dec_le}
use Rattle.rp_grammar.specs.declared.LexFault.{LexFault}
use Rattle.rp_grammar.specs.declared.Token.{Token}
use Rattle.rp_grammar.specs.Lexed.{Lexed, Faulty}
use Rattle.rp_grammar.specs.Terminals.{Tok, at}
use Rattle.rp_grammar.specs.Trees.{DeclTree}
use Rattle.rp_grammar.specs.Begins.{IsTree, IsTreeWithin, IsFirstBad, IsTooDeep}
use Rattle.rp_grammar.specs.Texts.{HasToks, IsText, IsTextWithin, StandsAt, IsBadAt, IsTooDeepAt}
use Rattle.rp_grammar.proofs.Unique.{not_both, one_fault}
use Rattle.rp_grammar.proofs.Moving.{answer}
use Rattle.rp_grammar.proofs.Toks.{one_text_toks, some_text_toks, text_ends_in_end}
use Rattle.rp_tokens.proofs.OneAnswer.{some_answer, one_bad, tree_not_bad, tree_not_too_deep, bad_not_too_deep}
use Rattle.rp_tokens.proofs.OneTree as trees

pub data Reading : Type 0 where
  too_long : Reading
  faulty : (p : ℕ) (f : LexFault) → Reading
  bad : (p : ℕ) → Reading
  too_deep : Reading
  tree : List DeclTree → Reading

-- a text that isn't too long has no tokens, or a bad one, or one that is too deep, or a tree
pub data Reads (content : List ℕ) : Reading → Type 0 where
  reads_too_long : 262144 < length content → Reads content too_long
  reads_faulty : {p : ℕ} {f : LexFault} → length content ≤ 262144 → Faulty 0 content p f → Reads content (faulty p f)
  reads_bad : {p : ℕ} → length content ≤ 262144 → IsBadAt 64 content p → Reads content (bad p)
  reads_too_deep : {p : ℕ} → length content ≤ 262144 → IsTooDeepAt 64 content p → Reads content too_deep
  reads_tree : {t : List DeclTree} → length content ≤ 262144 → IsTextWithin 64 content t → Reads content (tree t)

-- a text with tokens has no fault among them
no_fault : {content : List ℕ} {us : List Tok} {p : ℕ} {f : LexFault} → HasToks content us → Faulty 0 content p f → ⊥
no_fault (ts, lexed, toks) found = not_both lexed found

same_place : (us : List Tok) {j k p q : ℕ} → j ≡ k → StandsAt us j p → StandsAt us k q → p ≡ q
same_place us {j = j} {k = k} same (t, s, is, from) (u, r, other, begins) =
    let both : Some (at t s) ≡ Some (at u r) = sym is ∙ (ap (slice_get us) same ∙ other) in
    let spans : s ≡ r = cc in
    sym from ∙ (ap (λ s. s.from) spans ∙ begins)

one_bad_place : {content : List ℕ} {p q : ℕ} → IsBadAt 64 content p → IsBadAt 64 content q → p ≡ q
one_bad_place {content = content} {p = p} {q = q} (us, j, has, is, there) (vs, k, other, also, stands) =
    let same : us ≡ vs = one_text_toks content us vs has other in
    let at_k : IsFirstBad 64 us k = subst (λ us. IsFirstBad 64 us k) (sym same) also in
    let stands : StandsAt us k q = subst (λ us. StandsAt us k q) (sym same) stands in
    same_place us (one_bad 64 us j k is at_k) there stands

bad_or_deep : {content : List ℕ} {p q : ℕ} → IsBadAt 64 content p → IsTooDeepAt 64 content q → ⊥
bad_or_deep {content = content} (us, j, has, is, there) (vs, k, other, also, stands) =
    bad_not_too_deep 64 us j k is (subst (λ us. IsTooDeep 64 us k) (sym (one_text_toks content us vs has other)) also)

tree_or_bad : {content : List ℕ} {t : List DeclTree} {p : ℕ} → IsTextWithin 64 content t → IsBadAt 64 content p → ⊥
tree_or_bad {content = content} {t = t} (us, has, is) (vs, k, other, also, stands) =
    tree_not_bad 64 us t k is (subst (λ us. IsFirstBad 64 us k) (sym (one_text_toks content us vs has other)) also)

tree_or_deep : {content : List ℕ} {t : List DeclTree} {p : ℕ} → IsTextWithin 64 content t → IsTooDeepAt 64 content p → ⊥
tree_or_deep {content = content} {t = t} (us, has, is) (vs, k, other, also, stands) =
    tree_not_too_deep 64 us t k is (subst (λ us. IsTooDeep 64 us k) (sym (one_text_toks content us vs has other)) also)

tree_of : {us : List Tok} {t : List DeclTree} → IsTreeWithin 64 us t → IsTree us t
tree_of (ms, plainly, program, within) = (ms, plainly, program)

-- a text within the nesting is a text
pub text_of : {content : List ℕ} {t : List DeclTree} → IsTextWithin 64 content t → IsText content t
text_of (us, has, is) = (us, has, tree_of is)

-- a text has one tree
pub one_tree : {content : List ℕ} {t u : List DeclTree} → IsTextWithin 64 content t → IsTextWithin 64 content u → t ≡ u
one_tree {content = content} {t = t} {u = u} (us, has, is) (vs, other, also) =
    trees.one_tree us t u (tree_of is) (tree_of (subst (λ us. IsTreeWithin 64 us u) (sym (one_text_toks content us vs has other)) also))

toks_of_bad : {content : List ℕ} {p : ℕ} → IsBadAt 64 content p → (us : List Tok) × HasToks content us
toks_of_bad (us, j, has, is, there) = (us, has)

toks_of_deep : {content : List ℕ} {p : ℕ} → IsTooDeepAt 64 content p → (us : List Tok) × HasToks content us
toks_of_deep (us, j, has, is, there) = (us, has)

toks_of_tree : {content : List ℕ} {t : List DeclTree} → IsTextWithin 64 content t → (us : List Tok) × HasToks content us
toks_of_tree (us, has, is) = (us, has)

pub one_reading : {content : List ℕ} {a b : Reading} → Reads content a → Reads content b → a ≡ b
one_reading (reads_too_long l) (reads_too_long m) = refl
one_reading (reads_too_long l) (reads_faulty s g) = absurd (omega (arith, l, s))
one_reading (reads_too_long l) (reads_bad s g) = absurd (omega (arith, l, s))
one_reading (reads_too_long l) (reads_too_deep s g) = absurd (omega (arith, l, s))
one_reading (reads_too_long l) (reads_tree s g) = absurd (omega (arith, l, s))
one_reading (reads_faulty s f) (reads_too_long l) = absurd (omega (arith, l, s))
one_reading (reads_faulty s f) (reads_faulty r g) = let same = one_fault f g in cc
one_reading (reads_faulty s f) (reads_bad r g) = absurd (no_fault (toks_of_bad g).1 f)
one_reading (reads_faulty s f) (reads_too_deep r g) = absurd (no_fault (toks_of_deep g).1 f)
one_reading (reads_faulty s f) (reads_tree r g) = absurd (no_fault (toks_of_tree g).1 f)
one_reading (reads_bad s f) (reads_too_long l) = absurd (omega (arith, l, s))
one_reading (reads_bad s f) (reads_faulty r g) = absurd (no_fault (toks_of_bad f).1 g)
one_reading (reads_bad s f) (reads_bad r g) = ap bad (one_bad_place f g)
one_reading (reads_bad s f) (reads_too_deep r g) = absurd (bad_or_deep f g)
one_reading (reads_bad s f) (reads_tree r g) = absurd (tree_or_bad g f)
one_reading (reads_too_deep s f) (reads_too_long l) = absurd (omega (arith, l, s))
one_reading (reads_too_deep s f) (reads_faulty r g) = absurd (no_fault (toks_of_deep f).1 g)
one_reading (reads_too_deep s f) (reads_bad r g) = absurd (bad_or_deep g f)
one_reading (reads_too_deep s f) (reads_too_deep r g) = refl
one_reading (reads_too_deep s f) (reads_tree r g) = absurd (tree_or_deep g f)
one_reading (reads_tree s f) (reads_too_long l) = absurd (omega (arith, l, s))
one_reading (reads_tree s f) (reads_faulty r g) = absurd (no_fault (toks_of_tree f).1 g)
one_reading (reads_tree s f) (reads_bad r g) = absurd (tree_or_bad f g)
one_reading (reads_tree s f) (reads_too_deep r g) = absurd (tree_or_deep f g)
one_reading (reads_tree s f) (reads_tree r g) = ap tree (one_tree f g)

-- ---- each text reads in some way

pub short_or_long : (m n : ℕ) → (n < m) ⊎ (m ≤ n)
short_or_long m n = elim (dec_le m n) [ yes short ↦ inr short | no long ↦ inl (omega (arith, long)) ]

-- the k-th of some tokens stands somewhere
pub some_place : (us : List Tok) (k : ℕ) → k < length us → (p : ℕ) × StandsAt us k p
some_place [] k lt = absurd (omega (arith, lt))
some_place (at t s ∷ us) zero lt = (s.from, (t, s, refl, refl))
some_place (at t s ∷ us) (suc k) lt = let (p, (u, r, is, from)) = some_place us k (omega (arith, lt)) in (p, (u, r, is, from))

reading_of_toks : (content : List ℕ) (us : List Tok) → length content ≤ 262144 → HasToks content us
    → ((t : List DeclTree) × IsTreeWithin 64 us t) ⊎ (((k : ℕ) × IsFirstBad 64 us k) ⊎ ((k : ℕ) × IsTooDeep 64 us k))
    → (r : Reading) × Reads content r
reading_of_toks content us short has (inl (t, is)) = (tree t, reads_tree short (us, has, is))
reading_of_toks content us short has (inr (inl (k, is))) = let (p, there) = some_place us k is.0 in (bad p, reads_bad short (us, k, has, is, there))
reading_of_toks content us short has (inr (inr (k, is))) = let (p, there) = some_place us k is.0 in (too_deep, reads_too_deep {p = p} short (us, k, has, is, there))

reading_of_tokens : (content : List ℕ) → length content ≤ 262144
    → ((ts : List Token) × Lexed 0 content ts) ⊎ ((p : ℕ) × (f : LexFault) × Faulty 0 content p f)
    → (r : Reading) × Reads content r
reading_of_tokens content short (inl (ts, lexed)) =
    let (us, has) = some_text_toks content ts lexed in
    reading_of_toks content us short has (some_answer 64 us (text_ends_in_end content us has))
reading_of_tokens content short (inr (p, f, found)) = (faulty p f, reads_faulty short found)

reading_of_size : (content : List ℕ) → (262144 < length content) ⊎ (length content ≤ 262144) → (r : Reading) × Reads content r
reading_of_size content (inl long) = (too_long, reads_too_long long)
reading_of_size content (inr short) = reading_of_tokens content short (answer content)

pub some_reading : (content : List ℕ) → (r : Reading) × Reads content r
some_reading content = reading_of_size content (short_or_long (length content) 262144)
