-- Appending what is printed.
use Rattle.std.proofs.Common.{◌≡◌, ℕ, zero, suc, ◌+◌, ◌<◌, length, get_or, drop, List, [], ◌∷◌, ◌++◌, refl, sym, ap, ◌∙◌, append_assoc, append-nil, add-one}
use Rattle.std.proofs.lemmas.List.{drop_more}
use Rattle.rp_grammar.specs.declared.terminal.Symbol.{Symbol}
use Rattle.rp_grammar.specs.Terminals.{Terminal}
use Rattle.rp_ast.specs.declared.decl.Decl.{Decl}
use Rattle.rp_print.specs.Printed.{spelled, followed, separator, separated, behind, line, printed, decl_terminals}
use Rattle.rp_ast.specs.View.{decl_view, decls_view}

pub followed-append : (a b : List Terminal) → followed (a ++ b) ≡ followed a ++ followed b
followed-append [] b = refl
followed-append (t ∷ a) b = ap (λ ts. 32 ∷ (spelled t ++ ts)) (followed-append a b) ∙ ap (λ ts. 32 ∷ ts) (sym (append_assoc (spelled t) (followed a) (followed b)))

pub ruleset appends = (followed-append, append_assoc)

-- the members from the one of number i on, with what stands before each
abbrev pub joined : Symbol → ℕ → List (List Terminal) → List Terminal
joined m zero xs = separated m xs
joined m (suc i) xs = behind m xs

joined-cons : (m : Symbol) (i : ℕ) (x : List Terminal) (xs : List (List Terminal)) → joined m i (x ∷ xs) ≡ separator m i ++ (x ++ joined m (suc i) xs)
joined-cons m zero x xs = refl
joined-cons m (suc i) x xs = refl

joined-nil : (m : Symbol) (i : ℕ) → joined m i [] ≡ []
joined-nil m zero = refl
joined-nil m (suc i) = refl

-- a separator and a member more
pub joined_step : (m : Symbol) (i : ℕ) (x : List Terminal) (xs : List (List Terminal)) (a b c whole : List ℕ)
    → a ++ followed (joined m i (x ∷ xs)) ≡ whole → b ≡ a ++ followed (separator m i) → c ≡ b ++ followed x
    → c ++ followed (joined m (i + 1) xs) ≡ whole
joined_step m i x xs a b c whole h s t =
    ap (λ v. v ++ followed (joined m (i + 1) xs)) (t ∙ ap (λ v. v ++ followed x) s)
    ∙ append_assoc (a ++ followed (separator m i)) (followed x) (followed (joined m (i + 1) xs))
    ∙ append_assoc a (followed (separator m i)) (followed x ++ followed (joined m (i + 1) xs))
    ∙ ap (λ v. a ++ (followed (separator m i) ++ v)) (sym (followed-append x (joined m (i + 1) xs)))
    ∙ ap (λ v. a ++ v) (sym (followed-append (separator m i) (x ++ joined m (i + 1) xs)))
    ∙ ap (λ n. a ++ followed (separator m i ++ (x ++ joined m n xs))) (add-one i)
    ∙ ap (λ v. a ++ followed v) (sym (joined-cons m i x xs))
    ∙ h

-- no member is left
pub joined_end : (m : Symbol) (i : ℕ) (xs : List (List Terminal)) (a whole : List ℕ) → xs ≡ [] → a ++ followed (joined m i xs) ≡ whole → a ≡ whole
joined_end m i xs a whole e h =
    sym (append-nil a) ∙ ap (λ v. a ++ followed v) (sym (joined-nil m i)) ∙ ap (λ v. a ++ followed (joined m i v)) (sym e) ∙ h

-- a piece more, without a separator
pub plain_step : (x rest : List Terminal) (a b whole : List ℕ)
    → a ++ followed (x ++ rest) ≡ whole → b ≡ a ++ followed x → b ++ followed rest ≡ whole
plain_step x rest a b whole h t =
    ap (λ v. v ++ followed rest) t ∙ append_assoc a (followed x) (followed rest) ∙ ap (λ v. a ++ v) (sym (followed-append x rest)) ∙ h

pub plain_end : (rest : List Terminal) (a whole : List ℕ) → rest ≡ [] → a ++ followed rest ≡ whole → a ≡ whole
plain_end rest a whole e h = sym (append-nil a) ∙ ap (λ v. a ++ followed v) (sym e) ∙ h

drop_item : {X : Type 0} (xs : List X) (i : ℕ) (x : X) → i < length xs → x ≡ get_or xs i x → drop i xs ≡ x ∷ drop (i + 1) xs
drop_item xs i x h e = drop_more xs i x h ∙ ap (λ y. y ∷ drop (i + 1) xs) (sym e)

-- the member of number i, printed in a loop
pub joined_item : {X : Type 0} (of : List X → List (List Terminal)) (m : Symbol) (xs : List X) (i : ℕ) (x : X) (t : List Terminal)
    → of (x ∷ drop (i + 1) xs) ≡ t ∷ of (drop (i + 1) xs) → i < length xs → x ≡ get_or xs i x
    → (a b c whole : List ℕ)
    → a ++ followed (joined m i (of (drop i xs))) ≡ whole → b ≡ a ++ followed (separator m i) → c ≡ b ++ followed t
    → c ++ followed (joined m (i + 1) (of (drop (i + 1) xs))) ≡ whole
joined_item of m xs i x t o l e a b c whole h s p =
    joined_step m i t (of (drop (i + 1) xs)) a b c whole
    (ap (λ v. a ++ followed (joined m i v)) (sym o) ∙ ap (λ v. a ++ followed (joined m i (of v))) (sym (drop_item xs i x l e)) ∙ h) s p

-- the same without separators
pub plain_item : {X : Type 0} (of : List X → List Terminal) (xs : List X) (i : ℕ) (x : X) (t : List Terminal)
    → of (x ∷ drop (i + 1) xs) ≡ t ++ of (drop (i + 1) xs) → i < length xs → x ≡ get_or xs i x
    → (a b whole : List ℕ)
    → a ++ followed (of (drop i xs)) ≡ whole → b ≡ a ++ followed t → b ++ followed (of (drop (i + 1) xs)) ≡ whole
plain_item of xs i x t o l e a b whole h p =
    plain_step t (of (drop (i + 1) xs)) a b whole
    (ap (λ v. a ++ followed v) (sym o) ∙ ap (λ v. a ++ followed (of v)) (sym (drop_item xs i x l e)) ∙ h) p

-- a declaration, printed in a loop
pub line_item : (xs : List Decl) (i : ℕ) (x : Decl) → i < length xs → x ≡ get_or xs i x → (a b whole : List ℕ)
    → a ++ printed (decls_view (drop i xs)) ≡ whole → b ≡ a ++ line (decl_terminals (decl_view x)) → b ++ printed (decls_view (drop (i + 1) xs)) ≡ whole
line_item xs i x l e a b whole h p =
    ap (λ v. v ++ printed (decls_view (drop (i + 1) xs))) p
    ∙ append_assoc a (line (decl_terminals (decl_view x))) (printed (decls_view (drop (i + 1) xs)))
    ∙ ap (λ v. a ++ printed (decls_view v)) (sym (drop_item xs i x l e)) ∙ h
