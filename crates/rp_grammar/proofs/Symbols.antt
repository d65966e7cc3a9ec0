-- The longest symbol, computed from three bytes.
use Rattle.std.proofs.Common.{◌≡◌, ◌≢◌, ℕ, zero, suc, Bool, true, false, cond, eqb, List, [], ◌∷◌, get_or, refl, sym, subst, arith, ⊎_elim, Option, Some, None}
use Rattle.std.proofs.lemmas.Bool.{cases_Bool, ne_eqb, cases_eq}
use Rattle.std.proofs.lemmas.Bool.Decides.{nat_tests, eqb_tells}
use Rattle.rp_grammar.specs.Bytes.{symbols}
use Rattle.rp_grammar.specs.Scan.{is_single, symbol_len}
use Rattle.rp_grammar.proofs.Words.{longest, after, longer, longest_none, longest_empty}

abbrev pub some_length : ℕ → Option ℕ
some_length zero = None
some_length (suc n) = Some (suc n)

flip : (a b : ℕ) (t : Bool) → eqb a b ≡ t → eqb b a ≡ t
flip a b true h = grind (arith, nat_tests)
flip a b false h = grind (arith, nat_tests)

single_after : (b : ℕ) → is_single b ≡ true → after b symbols ≡ [] ∷ []
single_after b h = grind (arith, nat_tests)

single : (b : ℕ) (rest : List ℕ) → is_single b ≡ true → longest symbols (b ∷ rest) ≡ Some 1
single b rest h = rw (single_after b h, longest_empty rest) refl

-- after `:` and `|`
doubled : (x : ℕ) (rest : List ℕ) → eqb 0 x ≡ false → longer (longest ([] ∷ (x ∷ []) ∷ []) rest) false ≡ some_length (cond (eqb (get_or rest 0 0) x) 2 1)
doubled x [] h = rw h refl
doubled x (c ∷ cs) h = ⊎_elim
    (λ e. rw (e.0, longest_empty cs, flip x c true (e.0)) refl)
    (λ e. rw (e.0, longest_none cs, flip x c false (e.0)) refl)
    (eqb_tells x c)

-- after `&`
needed : (x : ℕ) (rest : List ℕ) → eqb 0 x ≡ false → longer (longest ((x ∷ []) ∷ []) rest) false ≡ some_length (cond (eqb (get_or rest 0 0) x) 2 0)
needed x [] h = rw h refl
needed x (c ∷ cs) h = ⊎_elim
    (λ e. rw (e.0, longest_empty cs, flip x c true (e.0)) refl)
    (λ e. rw (e.0, longest_none cs, flip x c false (e.0)) refl)
    (eqb_tells x c)

-- after `==`
third : (rest : List ℕ) → longest ([] ∷ (62 ∷ []) ∷ []) rest ≡ cond (eqb (get_or rest 0 0) 62) (Some 1) (Some 0)
third [] = refl
third (c ∷ cs) = ⊎_elim
    (λ e. rw (e.0, longest_empty cs, flip 62 c true (e.0)) refl)
    (λ e. rw (e.0, longest_none cs, flip 62 c false (e.0)) refl)
    (eqb_tells 62 c)

third_length : (t : Bool) → longer (longer (cond t (Some 1) (Some 0)) true) false ≡ some_length (cond t 3 2)
third_length true = refl
third_length false = refl

-- after `=`
equals : (rest : List ℕ) → longest symbols (61 ∷ rest) ≡ some_length (symbol_len 61 (get_or rest 0 0) (get_or rest 1 0))
equals [] = refl
equals (c ∷ cs) = ⊎_elim
    (λ e. subst (λ c. longest symbols (61 ∷ c ∷ cs) ≡ some_length (symbol_len 61 c (get_or cs 0 0))) (e.1) (rw (third cs) (third_length (eqb (get_or cs 0 0) 62))))
    (λ e. ⊎_elim
    (λ g. subst (λ c. longest symbols (61 ∷ c ∷ cs) ≡ some_length (symbol_len 61 c (get_or cs 0 0))) (g.1) (rw (longest_empty cs) refl))
    (λ g. rw (e.0, flip 61 c false (e.0), g.0, flip 62 c false (g.0), longest_none cs) refl)
    (eqb_tells 62 c))
    (eqb_tells 61 c)

no_after : (b : ℕ) → is_single b ≡ false → b ≢ 58 → b ≢ 61 → b ≢ 33 → b ≢ 60 → b ≢ 62 → b ≢ 38 → b ≢ 124 → after b symbols ≡ []
no_after b s a1 a2 a3 a4 a5 a6 a7 = grind (arith, nat_tests)

compared : (b : ℕ) (rest : List ℕ) → after b symbols ≡ [] ∷ (61 ∷ []) ∷ [] → longest symbols (b ∷ rest) ≡ some_length (cond (eqb (get_or rest 0 0) 61) 2 1)
compared b rest h = rw h (doubled 61 rest refl)

doubled_first : (x : ℕ) (rest : List ℕ) → eqb 0 x ≡ false → longer (longest ((x ∷ []) ∷ [] ∷ []) rest) false ≡ some_length (cond (eqb (get_or rest 0 0) x) 2 1)
doubled_first x [] h = rw h refl
doubled_first x (c ∷ cs) h = ⊎_elim
    (λ e. rw (e.0, longest_empty cs, flip x c true (e.0)) refl)
    (λ e. rw (e.0, longest_none cs, flip x c false (e.0)) refl)
    (eqb_tells x c)

-- the longest symbol that the bytes begin with has this length
pub longest_symbol : (b : ℕ) (rest : List ℕ) → longest symbols (b ∷ rest) ≡ some_length (symbol_len b (get_or rest 0 0) (get_or rest 1 0))
longest_symbol b rest =
    let Goal : ℕ → Type 0 = λ b. longest symbols (b ∷ rest) ≡ some_length (symbol_len b (get_or rest 0 0) (get_or rest 1 0)) in
    let at = λ (n : ℕ) (e : b ≡ n) (g : Goal n). subst Goal (sym e) g in
    ⊎_elim (λ s. rw s (single b rest s)) (λ s.
    ⊎_elim (λ e. at 58 e (doubled 58 rest refl)) (λ n1.
    ⊎_elim (λ e. at 61 e (equals rest)) (λ n2.
    ⊎_elim (λ e. at 33 e (doubled_first 61 rest refl)) (λ n3.
    ⊎_elim (λ e. at 60 e (compared 60 rest refl)) (λ n4.
    ⊎_elim (λ e. at 62 e (compared 62 rest refl)) (λ n5.
    ⊎_elim (λ e. at 38 e (needed 38 rest refl)) (λ n6.
    ⊎_elim (λ e. at 124 e (doubled_first 124 rest refl)) (λ n7.
    rw (no_after b s n1 n2 n3 n4 n5 n6 n7, longest_none rest, s, ne_eqb b 58 n1, ne_eqb b 61 n2, ne_eqb b 33 n3, ne_eqb b 60 n4, ne_eqb b 62 n5, ne_eqb b 38 n6, ne_eqb b 124 n7) refl)
    (cases_eq b 124)) (cases_eq b 38)) (cases_eq b 62)) (cases_eq b 60)) (cases_eq b 33)) (cases_eq b 61)) (cases_eq b 58)) (cases_Bool (is_single b))
