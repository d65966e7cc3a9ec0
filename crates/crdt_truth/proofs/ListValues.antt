-- Several expressions, formulas and arms, one at a time.
use Rattle.std.proofs.Common.{◌≡◌, true, false, ◌<◌, ◌≤◌, ◌+◌, ℕ, List, [], ◌∷◌, zero, suc, map, length, get_or, drop, drop-cons, add-one, take, ◌++◌, refl, ap, sym, ◌∙◌, subst, arith}
use Rattle.std.specs.Prelude.{if◌then◌else◌}
use Rattle.std.proofs.lemmas.List.{map_push, map_more, take_all}
use Rattle.rp_value.specs.declared.value.Value.{Value}
use Rattle.rp_value.specs.Values.{Val, also_val}
use Rattle.rp_value.specs.ValueView.{value_view, values_view, vals_of}
use Rattle.rp_lang.specs.declared.expr.Expr.{Expr}
use Rattle.rp_lang.specs.declared.formula.Formula.{Formula}
use Rattle.rp_lang.specs.declared.formula.Arm.{Arm}
use Rattle.rp_lang.specs.Formulas.{Fo, Arms, no_arm, also_arm}
use Rattle.rp_lang.specs.Sizes.{ex_nodes, exs_nodes, fo_nodes, fos_nodes, arms_nodes}
use Rattle.rp_lang.specs.Views.{ArmView, expr_view, exprs_view, formula_view, formulas_view, arms_view}
use Rattle.rp_lang.proofs.FormulaViews.{arm_view-parts}
use Rattle.crdt_defs.specs.SameValues.{same_vals}
use Rattle.crdt_truth.specs.Meanings.{no_vals}
use Rattle.crdt_defs.specs.Truths.{Reading, value, values, list_of, truth, arm_true, is_built, bind_fields}
use Rattle.crdt_truth.specs.Within.{ExWithin, ExsWithin, FoWithin, FosWithin}

pub values_listed : (r : Reading) (b : List Val) (es : List Expr) → vals_of (map (λ e. value r b (expr_view e)) es) ≡ values r b (exprs_view es)
values_listed r b [] = refl
values_listed r b (e ∷ es) = ap (also_val (value r b (expr_view e))) (values_listed r b es)

pub list_back : (vs : List Val) → list_of (vals_of vs) ≡ vs
list_back [] = refl
list_back (v ∷ vs) = ap (λ l. v ∷ l) (list_back vs)

-- # What is known of all is known of each

pub ex_within_at : (r : Reading) (b : List Val) (es : List Expr) (i : ℕ) (e : Expr) → ExsWithin r b (exprs_view es) → i < length es → e ≡ get_or es i e
    → ExWithin r b (expr_view e)
ex_within_at r b [] i e h lt g = absurd (omega arith)
ex_within_at r b (x ∷ es) zero e h lt g = subst (λ y. ExWithin r b (expr_view y)) (sym g) h.0
ex_within_at r b (x ∷ es) (suc i) e h lt g = ex_within_at r b es i e h.1 (omega arith) g

pub fo_within_at : (r : Reading) (b : List Val) (fs : List Formula) (i : ℕ) (f : Formula) → FosWithin r b (formulas_view fs) → i < length fs → f ≡ get_or fs i f
    → FoWithin r b (formula_view f)
fo_within_at r b [] i f h lt g = absurd (omega arith)
fo_within_at r b (x ∷ fs) zero f h lt g = subst (λ y. FoWithin r b (formula_view y)) (sym g) h.0
fo_within_at r b (x ∷ fs) (suc i) f h lt g = fo_within_at r b fs i f h.1 (omega arith) g

-- # Sizes

pub ex_nodes_at : (es : List Expr) (i : ℕ) (e : Expr) → i < length es → e ≡ get_or es i e → ex_nodes (expr_view e) ≤ exs_nodes (exprs_view es)
ex_nodes_at [] i e lt g = absurd (omega arith)
ex_nodes_at (x ∷ es) zero e lt g = let same : ex_nodes (expr_view e) ≡ ex_nodes (expr_view x) = ap (λ y. ex_nodes (expr_view y)) g in omega arith
ex_nodes_at (x ∷ es) (suc i) e lt g = let rest : ex_nodes (expr_view e) ≤ exs_nodes (exprs_view es) = ex_nodes_at es i e (omega arith) g in omega arith

pub fo_nodes_at : (fs : List Formula) (i : ℕ) (f : Formula) → i < length fs → f ≡ get_or fs i f → fo_nodes (formula_view f) ≤ fos_nodes (formulas_view fs)
fo_nodes_at [] i f lt g = absurd (omega arith)
fo_nodes_at (x ∷ fs) zero f lt g = let same : fo_nodes (formula_view f) ≡ fo_nodes (formula_view x) = ap (λ y. fo_nodes (formula_view y)) g in omega arith
fo_nodes_at (x ∷ fs) (suc i) f lt g = let rest : fo_nodes (formula_view f) ≤ fos_nodes (formulas_view fs) = fo_nodes_at fs i f (omega arith) g in omega arith

-- # Arms

pub arms_cons : (arm : Arm) (arms : List Arm) → arms_view (arm ∷ arms) ≡ also_arm arm.con (formula_view arm.body) (arms_view arms)
arms_cons arm arms = ap (λ (a : ArmView). also_arm a.0 a.1 (arms_view arms)) (arm_view-parts arm)

-- the arms from one on are that one and those behind it
pub arms_from : (arms : List Arm) (i : ℕ) (arm : Arm) → i < length arms → arm ≡ get_or arms i arm
    → arms_view (drop i arms) ≡ also_arm arm.con (formula_view arm.body) (arms_view (drop (i + 1) arms))
arms_from arms i arm lt g =
    let split : drop i arms ≡ get_or arms i arm ∷ drop (suc i) arms = drop-cons arms i arm lt in
    let first : also_arm (get_or arms i arm).con (formula_view (get_or arms i arm).body) (arms_view (drop (suc i) arms)) ≡ also_arm arm.con (formula_view arm.body) (arms_view (drop (suc i) arms)) =
    ap (λ (y : Arm). also_arm y.con (formula_view y.body) (arms_view (drop (suc i) arms))) (sym g) in
    rw add-one (ap arms_view split ∙ arms_cons (get_or arms i arm) (drop (suc i) arms) ∙ first)

pub arm_nodes_at : (arms : List Arm) (i : ℕ) (arm : Arm) → i < length arms → arm ≡ get_or arms i arm → fo_nodes (formula_view arm.body) ≤ arms_nodes (arms_view arms)
arm_nodes_at [] i arm lt g = absurd (omega arith)
arm_nodes_at (x ∷ arms) zero arm lt g =
    let same : fo_nodes (formula_view arm.body) ≡ fo_nodes (formula_view x.body) = ap (λ (y : Arm). fo_nodes (formula_view y.body)) g in
    let all : arms_nodes (arms_view (x ∷ arms)) ≡ fo_nodes (formula_view x.body) + arms_nodes (arms_view arms) = ap arms_nodes (arms_cons x arms) in
    omega arith
arm_nodes_at (x ∷ arms) (suc i) arm lt g =
    let rest : fo_nodes (formula_view arm.body) ≤ arms_nodes (arms_view arms) = arm_nodes_at arms i arm (omega arith) g in
    let all : arms_nodes (arms_view (x ∷ arms)) ≡ fo_nodes (formula_view x.body) + arms_nodes (arms_view arms) = ap arms_nodes (arms_cons x arms) in
    omega arith

-- one value more
pub value_listed : (as_value : Expr → Val) (made : List Value) (v : Value) (es : List Expr) (i : ℕ) (e : Expr) → i < length es → e ≡ get_or es i e
    → map value_view made ≡ map as_value (take i es) → value_view v ≡ as_value e → map value_view (made ++ v ∷ []) ≡ map as_value (take (i + 1) es)
value_listed as_value made v es i e lt g before new =
    let last : map value_view made ++ value_view v ∷ [] ≡ map as_value (take i es) ++ as_value (get_or es i e) ∷ [] = λ j. before j ++ (new ∙ ap as_value g) j ∷ [] in
    map_push value_view made v ∙ last ∙ sym (map_more as_value es i e lt)

pub some_vals : (vs : List Value) → 1 ≤ length vs → no_vals (values_view vs) ≡ false
some_vals [] le = absurd (omega arith)
some_vals (v ∷ vs) le = refl

pub no_others : (vs ws : List Value) → length vs ≡ 0 → 1 ≤ length ws → same_vals (values_view vs) (values_view ws) ≡ false
no_others [] [] e le = absurd (omega arith)
no_others [] (w ∷ ws) e le = refl
no_others (v ∷ vs) ws e le = absurd (omega arith)

-- the values of all
pub all_listed : (r : Reading) (b : List Val) (es : List Expr) (made : List Value) (n : ℕ) → length es ≤ n
    → map value_view made ≡ map (λ e. value r b (expr_view e)) (take n es) → values_view made ≡ values r b (exprs_view es)
all_listed r b es made n le h = ap vals_of (h ∙ ap (map (λ e. value r b (expr_view e))) (take_all n es le)) ∙ values_listed r b es

pub arm_taken : (r : Reading) (b : List Val) (v : Val) (con : ℕ) (body : Fo) (rest : Arms) → is_built con v ≡ true → arm_true r b v (also_arm con body rest) ≡ truth r (bind_fields v b) body
arm_taken r b v con body rest e = ap (λ t. if t then truth r (bind_fields v b) body else arm_true r b v rest) e

pub arm_passed : (r : Reading) (b : List Val) (v : Val) (con : ℕ) (body : Fo) (rest : Arms) → is_built con v ≡ false → arm_true r b v (also_arm con body rest) ≡ arm_true r b v rest
arm_passed r b v con body rest e = ap (λ t. if t then truth r (bind_fields v b) body else arm_true r b v rest) e

-- a value that is built with no constructor has no arm
pub unbuilt : (r : Reading) (b : List Val) (v : Val) → ((con : ℕ) → is_built con v ≡ false) → (arms : Arms) → arm_true r b v arms ≡ false
unbuilt r b v none no_arm = refl
unbuilt r b v none (also_arm con body rest) = arm_passed r b v con body rest (none con) ∙ unbuilt r b v none rest
