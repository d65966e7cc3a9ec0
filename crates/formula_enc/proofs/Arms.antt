-- Formulas of parts and of arms, each or its dual.
use Rattle.std.proofs.Common.{◌≡◌, ◌<◌, ◌≤◌, ℕ, zero, suc, ◌+◌, Bool, true, false, ◌||◌, nat_eq, List, [], ◌∷◌, ◌++◌, length, map, reverse, get_or, drop, if◌then◌else◌, refl, sym, ap, subst, ◌∙◌, arith, drop-cons}
use Rattle.std.proofs.lemmas.List.{drop_all, reverse-append}
use Rattle.std.proofs.lemmas.List.Folds.{list_any-append}
use Rattle.rp_lang.specs.declared.formula.Formula.{Formula}
use Rattle.rp_lang.specs.declared.formula.Arm.{Arm}
use Rattle.rp_lang.specs.Formulas.{Fo, Arms, also_arm}
use Rattle.rp_lang.specs.Programs.{Prog}
use Rattle.rp_lang.specs.Typing.{is_among}
use Rattle.rp_lang.specs.Sizes.{fo_nodes, fos_nodes, arms_nodes}
use Rattle.rp_lang.specs.Views as lang
use Rattle.rp_lang.proofs.FormulaViews.{arm_view-parts}
use Rattle.rp_logic.specs.declared.formula.Fml.{Fml}
use Rattle.rp_logic.specs.Formulas.{Fm, And, Fms, no_fm, also_fm}
use Rattle.rp_logic.specs.Terms.{Tm}
use Rattle.rp_logic.specs.Views.{formula_view, formulas_view, fms_of}
use Rattle.reshape.specs.Joined.{joined}
use Rattle.crdt_enc.specs.Builders.{one_fm}
use Rattle.crdt_enc.specs.FormulaFormulas.{Around, formula_of, formulas_of, arms_of, under_arm, is_built}
use Rattle.crdt_enc.specs.Places.{At}
use Rattle.query_enc.proofs.Joins.{joined_none, joined_assoc, one_more}
use Rattle.formula_enc.specs.means.Signs.{signed, signed_all, joint}
use Rattle.formula_enc.proofs.SignLaws.{signed_more, signed_none}

pub parts_seen : (b : Bool) (p : Prog) (at : At) (a : Around) (fs : List Formula) → fms_of (map (λ f. signed b (formula_of p at a (lang.formula_view f))) fs) ≡ signed_all b (formulas_of p at a (lang.formulas_view fs))
parts_seen b p at a [] = signed_none b
parts_seen b p at a (f ∷ fs) = ap (also_fm (signed b (formula_of p at a (lang.formula_view f)))) (parts_seen b p at a fs) ∙ signed_more b (formula_of p at a (lang.formula_view f)) (formulas_of p at a (lang.formulas_view fs))

-- # The constructors that were seen

either : (x y : Bool) → (x || (y || false)) ≡ (y || x)
either true true = refl
either true false = refl
either false true = refl
either false false = refl

-- among them in any order
pub among_reverse : (con : ℕ) (cons : List ℕ) → is_among con cons ≡ is_among con (reverse cons)
among_reverse con [] = refl
among_reverse con (x ∷ xs) =
    sym (ap (is_among con) (reverse-append (x ∷ []) xs) ∙ (list_any-append (nat_eq con) (reverse xs) (x ∷ []) ∙ (either (is_among con (reverse xs)) (nat_eq con x) ∙ ap (λ y. nat_eq con x || y) (sym (among_reverse con xs)))))

-- # Arms

-- an arm whose constructor was seen
pub seen_arm : (b : Bool) (p : Prog) (at : At) (a : Around) (t : Tm) (seen : List ℕ) (con : ℕ) (body : Fo) (now : Fms) → is_among con seen ≡ true
    → (rest : Arms) → joined now (signed_all b (arms_of p at a t seen rest)) ≡ joined now (signed_all b (arms_of p at a t seen (also_arm con body rest)))
seen_arm b p at a t seen con body now h rest =
    let new = also_fm (And (also_fm (is_built p con t) (one_fm (formula_of p at (under_arm p con t a) body)))) (arms_of p at a t (con ∷ seen) rest) in
    ap (λ fs. joined now (signed_all b fs)) (sym (ap (λ (x : Bool). if x then arms_of p at a t seen rest else new) h))

-- an arm of another constructor
pub new_arm : (b : Bool) (p : Prog) (at : At) (a : Around) (t : Tm) (seen all : List ℕ) (con : ℕ) (body : Fo) (fs old : List Fml) (f : Fml) → is_among con seen ≡ false → all ≡ con ∷ seen → fs ≡ old ++ f ∷ []
    → formula_view f ≡ joint b (also_fm (signed b (is_built p con t)) (also_fm (signed b (formula_of p at (under_arm p con t a) body)) no_fm))
    → (rest : Arms) → joined (formulas_view fs) (signed_all b (arms_of p at a t all rest)) ≡ joined (formulas_view old) (signed_all b (arms_of p at a t seen (also_arm con body rest)))
new_arm b p at a t seen all con body fs old f h more e is rest =
    let whole = And (also_fm (is_built p con t) (one_fm (formula_of p at (under_arm p con t a) body))) in
    let others = arms_of p at a t (con ∷ seen) rest in
    let made : formula_view f ≡ signed b whole = is ∙ made_of b (is_built p con t) (formula_of p at (under_arm p con t a) body) in
    ap (λ cons. joined (formulas_view fs) (signed_all b (arms_of p at a t cons rest))) more
    ∙ (ap (λ gs. joined gs (signed_all b others)) (one_more fs old f e)
    ∙ (joined_assoc (formulas_view old) (also_fm (formula_view f) no_fm) (signed_all b others)
    ∙ (ap (λ g. joined (formulas_view old) (also_fm g (signed_all b others))) made
    ∙ (ap (joined (formulas_view old)) (signed_more b whole others)
    ∙ ap (λ gs. joined (formulas_view old) (signed_all b gs)) (sym (ap (λ (x : Bool). if x then arms_of p at a t seen rest else also_fm whole others) h))))))
  where
    made_of : (b : Bool) (f g : Fm) → joint b (also_fm (signed b f) (also_fm (signed b g) no_fm)) ≡ signed b (And (also_fm f (one_fm g)))
    made_of true f g = refl
    made_of false f g = refl

-- one arm of a list, and those behind it
pub arms_cut : (arms xs : List Arm) (i : ℕ) (arm : Arm) → xs ≡ arms → i < length xs → arm ≡ get_or xs i arm
    → lang.arms_view (drop i arms) ≡ also_arm arm.con (lang.formula_view arm.body) (lang.arms_view (drop (i + 1) arms))
arms_cut arms xs i arm same l is =
    let low = subst (λ ys. i < length ys) same l in
    let here : drop i arms ≡ arm ∷ drop (suc i) arms = drop-cons arms i arm low ∙ ap (λ d. d ∷ drop (suc i) arms) (sym (subst (λ ys. arm ≡ get_or ys i arm) same is)) in
    let next : suc i ≡ i + 1 = omega arith in
    ap lang.arms_view here
    ∙ (ap (λ (a : lang.ArmView). also_arm a.0 a.1 (lang.arms_view (drop (suc i) arms))) (arm_view-parts arm) ∙ ap (λ k. also_arm arm.con (lang.formula_view arm.body) (lang.arms_view (drop k arms))) next)

-- none is left
pub arms_done : (b : Bool) (p : Prog) (at : At) (a : Around) (t : Tm) (seen : List ℕ) (arms : List Arm) (i : ℕ) (now whole : Fms) → length arms ≤ i
    → joined now (signed_all b (arms_of p at a t seen (lang.arms_view (drop i arms)))) ≡ whole → now ≡ whole
arms_done b p at a t seen arms i now whole l h =
    sym (joined_none now) ∙ (ap (joined now) (signed_none b) ∙ (sym (ap (λ ds. joined now (signed_all b (arms_of p at a t seen (lang.arms_view ds)))) (drop_all i arms l)) ∙ h))

-- # Sizes

pub part_nodes : (fs : List Formula) (i : ℕ) (f : Formula) → i < length fs → f ≡ get_or fs i f → fo_nodes (lang.formula_view f) ≤ fos_nodes (lang.formulas_view fs)
part_nodes [] i f l is = absurd (omega (arith, l))
part_nodes (g ∷ fs) zero f l is = let same = ap (λ x. fo_nodes (lang.formula_view x)) is in omega (arith, same)
part_nodes (g ∷ fs) (suc i) f l is = let below = part_nodes fs i f (omega (arith, l)) is in omega (arith, below)

pub arm_nodes : (arms : List Arm) (i : ℕ) (arm : Arm) → i < length arms → arm ≡ get_or arms i arm → fo_nodes (lang.formula_view arm.body) ≤ arms_nodes (lang.arms_view arms)
arm_nodes [] i arm l is = absurd (omega (arith, l))
arm_nodes (d ∷ arms) zero arm l is =
    let same = ap (λ (x : Arm). fo_nodes (lang.formula_view x.body)) is in
    let here = ap (λ (x : lang.ArmView). arms_nodes (also_arm x.0 x.1 (lang.arms_view arms))) (arm_view-parts d) in
    omega (arith, same, here)
arm_nodes (d ∷ arms) (suc i) arm l is =
    let below = arm_nodes arms i arm (omega (arith, l)) is in
    let here = ap (λ (x : lang.ArmView). arms_nodes (also_arm x.0 x.1 (lang.arms_view arms))) (arm_view-parts d) in
    omega (arith, below, here)
