-- Lists of formulas, one behind the other.
use Rattle.std.proofs.Common.{◌≡◌, ◌<◌, ◌≤◌, ◌≢◌, ℕ, suc, ◌+◌, Bool, true, false, List, [], ◌∷◌, ◌++◌, length, map, get_or, drop, if◌then◌else◌, refl, sym, ap, subst, ◌∙◌, arith, length-append, drop-cons}
use Rattle.std.proofs.lemmas.List.{drop_all}
use Rattle.rp_lang.specs.declared.op.OpDecl.{OpDecl}
use Rattle.rp_logic.specs.declared.formula.Fml.{Fml}
use Rattle.rp_logic.specs.Dual.{dual, duals}
use Rattle.rp_logic.specs.Formulas.{Fm, And, Or, Fms, no_fm, also_fm}
use Rattle.rp_logic.specs.Views.{formula_view, formulas_view, fms_of}
use Rattle.reshape.specs.Joined.{joined}
use Rattle.crdt_enc.specs.Builders.{all_of, any_of, for_each}

pub joined_none : (fs : Fms) → joined fs no_fm ≡ fs
joined_none no_fm = refl
joined_none (also_fm f fs) = ap (also_fm f) (joined_none fs)

pub joined_assoc : (fs gs hs : Fms) → joined (joined fs gs) hs ≡ joined fs (joined gs hs)
joined_assoc no_fm gs hs = refl
joined_assoc (also_fm f fs) gs hs = ap (also_fm f) (joined_assoc fs gs hs)

pub seen_append : (fs gs : List Fml) → formulas_view (fs ++ gs) ≡ joined (formulas_view fs) (formulas_view gs)
seen_append [] gs = refl
seen_append (f ∷ fs) gs = ap (also_fm (formula_view f)) (seen_append fs gs)

pub one_more : (fs old : List Fml) (f : Fml) → fs ≡ old ++ f ∷ [] → formulas_view fs ≡ joined (formulas_view old) (also_fm (formula_view f) no_fm)
one_more fs old f e = ap formulas_view e ∙ seen_append old (f ∷ [])

pub duals_seen : (fs : List Fml) → fms_of (map (λ f. dual (formula_view f)) fs) ≡ duals (formulas_view fs)
duals_seen [] = refl
duals_seen (f ∷ fs) = ap (also_fm (dual (formula_view f))) (duals_seen fs)

fms_append : (fs gs : List Fm) → fms_of (fs ++ gs) ≡ joined (fms_of fs) (fms_of gs)
fms_append [] gs = refl
fms_append (f ∷ fs) gs = ap (also_fm f) (fms_append fs gs)

pub seen_one : (fs : List Fml) (f : Fml) (g : Fm) → fs ≡ f ∷ [] → formula_view f ≡ g → formulas_view fs ≡ also_fm g no_fm
seen_one fs f g e is = ap formulas_view e ∙ ap (λ h. also_fm h no_fm) is

-- # One formula stands for itself

pub alone_all : (fs rest : List Fml) (f : Fml) → fs ≡ rest ++ f ∷ [] → length fs ≡ 1 → formula_view f ≡ all_of (formulas_view fs)
alone_all fs [] f e one = sym (ap (λ gs. all_of (formulas_view gs)) e)
alone_all fs (g ∷ rest) f e one = let many : length fs ≡ suc (length rest + 1) = ap length e ∙ ap suc (length-append rest (f ∷ [])) in absurd (omega (arith, many, one))

pub alone_any : (fs rest : List Fml) (f : Fml) → fs ≡ rest ++ f ∷ [] → length fs ≡ 1 → formula_view f ≡ any_of (formulas_view fs)
alone_any fs [] f e one = sym (ap (λ gs. any_of (formulas_view gs)) e)
alone_any fs (g ∷ rest) f e one = let many : length fs ≡ suc (length rest + 1) = ap length e ∙ ap suc (length-append rest (f ∷ [])) in absurd (omega (arith, many, one))

pub many_all : (fs : List Fml) → length fs ≢ 1 → And (formulas_view fs) ≡ all_of (formulas_view fs)
many_all [] h = refl
many_all (f ∷ []) h = absurd (h refl)
many_all (f ∷ g ∷ fs) h = refl

pub many_any : (fs : List Fml) → length fs ≢ 1 → Or (formulas_view fs) ≡ any_of (formulas_view fs)
many_any [] h = refl
many_any (f ∷ []) h = absurd (h refl)
many_any (f ∷ g ∷ fs) h = refl

-- # Two literals, then what is kept, then the rest

pub put_some : (one two three kept rest : List Fml) (a b : Fm) → map formula_view one ≡ a ∷ b ∷ [] → two ≡ one ++ kept → three ≡ two ++ rest
    → formulas_view three ≡ joined (also_fm a (also_fm b (formulas_view kept))) (formulas_view rest)
put_some one two three kept rest a b e q r =
    ap formulas_view (r ∙ ap (λ fs. fs ++ rest) q)
    ∙ (seen_append (one ++ kept) rest
    ∙ ap (λ fs. joined fs (formulas_view rest)) (seen_append one kept ∙ ap (λ fs. joined (fms_of fs) (formulas_view kept)) e))

pub put_each : (one two three kept rest : List Fml) (a b : Fm) → map formula_view one ≡ a ∷ b ∷ [] → map formula_view two ≡ map formula_view one ++ map (λ f. dual (formula_view f)) kept
    → three ≡ two ++ rest → formulas_view three ≡ joined (also_fm a (also_fm b (duals (formulas_view kept)))) (formulas_view rest)
put_each one two three kept rest a b e q r =
    let made = ap fms_of (q ∙ ap (λ fs. fs ++ map (λ f. dual (formula_view f)) kept) e) ∙ ap (λ fs. also_fm a (also_fm b fs)) (duals_seen kept) in
    ap formulas_view r ∙ (seen_append two rest ∙ ap (λ fs. joined fs (formulas_view rest)) made)

-- # One formula for each operation that passes

pub none_for : (test : OpDecl → Bool) (make : ℕ → OpDecl → Fm) (op : ℕ) (decl : OpDecl) (old : Fms) → test decl ≡ false → old ≡ joined old (for_each test make op (decl ∷ []))
none_for test make op decl old h = sym (ap (joined old) (ap (λ (b : Bool). if b then also_fm (make op decl) no_fm else no_fm) h) ∙ joined_none old)

pub one_for : (test : OpDecl → Bool) (make : ℕ → OpDecl → Fm) (op : ℕ) (decl : OpDecl) (fs old : List Fml) (f : Fml) → test decl ≡ true → fs ≡ old ++ f ∷ [] → formula_view f ≡ make op decl
    → formulas_view fs ≡ joined (formulas_view old) (for_each test make op (decl ∷ []))
one_for test make op decl fs old f h e is =
    one_more fs old f e ∙ (ap (λ g. joined (formulas_view old) (also_fm g no_fm)) is ∙ ap (joined (formulas_view old)) (sym (ap (λ (b : Bool). if b then also_fm (make op decl) no_fm else no_fm) h)))

cut : (b : Bool) (f : Fm) (rest : Fms) → (if b then also_fm f rest else rest) ≡ joined (if b then also_fm f no_fm else no_fm) rest
cut true f rest = refl
cut false f rest = refl

pub for_more : (test : OpDecl → Bool) (make : ℕ → OpDecl → Fm) (decls : List OpDecl) (i : ℕ) (decl : OpDecl) (now made whole : Fms) → i < length decls → decl ≡ get_or decls i decl
    → joined now (for_each test make i (drop i decls)) ≡ whole → made ≡ joined now (for_each test make i (decl ∷ []))
    → joined made (for_each test make (i + 1) (drop (i + 1) decls)) ≡ whole
for_more test make decls i decl now made whole l is h e =
    let here : drop i decls ≡ decl ∷ drop (suc i) decls = drop-cons decls i decl l ∙ ap (λ d. d ∷ drop (suc i) decls) (sym is) in
    let next : i + 1 ≡ suc i = omega arith in
    let rest = for_each test make (suc i) (drop (suc i) decls) in
    ap (λ fs. joined fs (for_each test make (i + 1) (drop (i + 1) decls))) e
    ∙ (ap (λ k. joined (joined now (for_each test make i (decl ∷ []))) (for_each test make k (drop k decls))) next
    ∙ (joined_assoc now (for_each test make i (decl ∷ [])) rest
    ∙ (ap (joined now) (sym (cut (test decl) (make i decl) rest)) ∙ (ap (λ ds. joined now (for_each test make i ds)) (sym here) ∙ h))))

pub for_next : (test : OpDecl → Bool) (make : ℕ → OpDecl → Fm) (decls xs : List OpDecl) (i op : ℕ) (decl : OpDecl) (now made whole : Fms) → xs ≡ decls → i < length xs → decl ≡ get_or xs i decl
    → op ≡ i → joined now (for_each test make i (drop i decls)) ≡ whole → made ≡ joined now (for_each test make op (decl ∷ []))
    → joined made (for_each test make (i + 1) (drop (i + 1) decls)) ≡ whole
for_next test make decls xs i op decl now made whole same l is at h e =
    for_more test make decls i decl now made whole (subst (λ ds. i < length ds) same l) (subst (λ ds. decl ≡ get_or ds i decl) same is) h (e ∙ ap (λ k. joined now (for_each test make k (decl ∷ []))) at)

pub for_done : (test : OpDecl → Bool) (make : ℕ → OpDecl → Fm) (decls xs : List OpDecl) (i : ℕ) (now whole : Fms) → xs ≡ decls → length xs ≤ i
    → joined now (for_each test make i (drop i decls)) ≡ whole → now ≡ whole
for_done test make decls xs i now whole same l h =
    sym (joined_none now) ∙ (sym (ap (λ ds. joined now (for_each test make i ds)) (drop_all i decls (subst (λ ds. length ds ≤ i) same l))) ∙ h)

pub ruleset joins = (joined_none, joined_assoc, seen_append)
