-- When a call is of an operation, with these as its first arguments.
use Rattle.std.proofs.Common.{◌≡◌, ℕ, zero, suc, ◌+◌, ◌-◌, ◌≤◌, ◌<◌, List, [], ◌∷◌, ◌++◌, length, map, drop, slice_get, true, ◌↔◌, Some, refl, sym, ap, ap₂, ◌∙◌, arith}
use Rattle.rp_value.specs.Values.{Val}
use Rattle.rp_lang.specs.declared.op.OpDecl.{OpDecl}
use Rattle.rp_lang.specs.Programs.{Prog}
use Rattle.crdt_defs.specs.Calls.{Call}
use Rattle.crdt_defs.specs.Fitting.{fits, all_fit}
use Rattle.rp_logic.specs.Terms.{Tm}
use Rattle.rp_logic.specs.Elements.{Elem, Point, Made, no_elem, also_elem, same_elem}
use Rattle.rp_logic.specs.Structures.{apply, nth_elem}
use Rattle.rp_logic.specs.Truth.{Meaning, Holds, value, values}
use Rattle.rp_logic.proofs.ElementLaws.{same-is, same-self}
use Rattle.reshape.proofs.ReshapeLaws.{selected-is}
use Rattle.rp_symbols.specs.Numbers.{op_con, op_fn}
use Rattle.crdt_enc.specs.Elements.{elem_of, elems}
use Rattle.crdt_enc.specs.Builders.{tms_of, applied, selectors, built, is_call_of}
use Rattle.crdt_enc.specs.FitsParts.{FitsCalls}
use Rattle.crdt_enc.proofs.Starts.{Starts, starts_fit, starts-short, fit-count, starts-elems, elems-start}

-- # Lists of terms and of elements

pub values-in : (ts : List Tm) (M : Meaning) (vars : List Elem) → values M vars (tms_of ts) ≡ elems (map (value M vars) ts)
values-in [] M vars = refl
values-in (t ∷ ts) M vars = ap (also_elem (value M vars t)) (values-in ts M vars)

pub map-both : {A B : Type 0} (f : A → B) (xs ys : List A) → map f (xs ++ ys) ≡ map f xs ++ map f ys
map-both f [] ys = refl
map-both f (x ∷ xs) ys = ap (λ zs. f x ∷ zs) (map-both f xs ys)

pub map-count : {A B : Type 0} (f : A → B) (xs : List A) → length (map f xs) ≡ length xs
map-count f [] = refl
map-count f (x ∷ xs) = ap suc (map-count f xs)

pub one-list : (xs ys : List Elem) → elems xs ≡ elems ys → xs ≡ ys
one-list [] [] e = refl
one-list [] (y ∷ ys) e = cc
one-list (x ∷ xs) [] e = cc
one-list (x ∷ xs) (y ∷ ys) e = ap₂ (λ x xs. x ∷ xs) (let h : x ≡ y = cc in h) (one-list xs ys cc)

pub drop-all : (xs : List Elem) (i : ℕ) → i ≡ length xs → drop i xs ≡ []
drop-all [] zero e = refl
drop-all [] (suc i) e = refl
drop-all (x ∷ xs) zero e = absurd (omega arith)
drop-all (x ∷ xs) (suc i) e = drop-all xs i (omega arith)

drop-next : (xs : List Elem) (i : ℕ) → i < length xs → nth_elem (elems xs) i ∷ drop (suc i) xs ≡ drop i xs
drop-next [] i h = absurd (omega arith)
drop-next (x ∷ xs) zero h = refl
drop-next (x ∷ xs) (suc i) h = drop-next xs i (omega arith)

pub selectors-give : (M : Meaning) (vars : List Elem) (con i n : ℕ) (t : Tm) (xs : List Elem) → value M vars t ≡ Made con (elems xs) → i + n ≡ length xs
    → map (value M vars) (selectors con i n t) ≡ drop i xs
selectors-give M vars con i zero t xs h e = sym (drop-all xs i (omega arith))
selectors-give M vars con i (suc n) t xs h e =
    ap₂ (λ y ys. y ∷ ys) (selected-is M vars con i t (elems xs) (nth_elem (elems xs) i) h refl) (selectors-give M vars con (suc i) n t xs h (omega arith))
    ∙ drop-next xs i (omega arith)

-- # The literal

pub call-of : (p : Prog) (M : Meaning) (h : List Call) (fits : FitsCalls p M h) (vars : List Elem) (t : Tm) (c : ℕ) (call : Call) (o : ℕ) (decl : OpDecl) (given : List Tm) (gs : List Val)
    → value M vars t ≡ Point c → slice_get h c ≡ Some call → slice_get p.ops o ≡ Some decl → (call.op ≡ o → all_fit p decl.args call.args ≡ true)
    → starts_fit p decl.args gs ≡ true → map (value M vars) given ≡ map elem_of gs
    → Holds M vars (is_call_of p o decl given t) ↔ ((call.op ≡ o) × Starts gs call.args)
call-of p M h fits vars t c call o decl given gs et ec eo typed fit eg = (forward, back)
  where
    u : Tm
    u = applied op_fn t

    xs : List Elem
    xs = map elem_of call.args

    sels : List Tm
    sels = selectors (op_con p o) (length given) (length decl.args - length given) (applied op_fn t)

    is : value M vars (applied op_fn t) ≡ Made (op_con p call.op) (elems (map elem_of call.args))
    is = ap (λ e. apply (slice_get M.structure.fns op_fn) (also_elem e no_elem)) et ∙ fits.ops c call ec

    built-is : value M vars (built (op_con p o) (length decl.args) given (applied op_fn t))
        ≡ Made (op_con p o) (elems (map elem_of gs ++ map (value M vars) (selectors (op_con p o) (length given) (length decl.args - length given) (applied op_fn t))))
    built-is = ap (Made (op_con p o)) (values-in (given ++ sels) M vars ∙ ap elems (map-both (value M vars) given sels ∙ ap (λ ys. ys ++ map (value M vars) sels) eg))

    count : length given ≡ length gs
    count = sym (map-count (value M vars) given) ∙ (ap length eg ∙ map-count elem_of gs)

    rest : call.op ≡ o → map (value M vars) (selectors (op_con p o) (length given) (length decl.args - length given) (applied op_fn t)) ≡ drop (length gs) (map elem_of call.args)
    rest e =
        let many : length call.args ≡ length decl.args = fit-count p decl.args call.args (typed e) in
        let few : length gs ≤ length decl.args = starts-short p decl.args gs fit in
        let all : length xs ≡ length call.args = map-count elem_of call.args in
        selectors-give M vars (op_con p o) (length given) (length decl.args - length given) u xs (is ∙ ap (λ n. Made (op_con p n) (elems xs)) e) (omega (arith, many, few, all, count))
        ∙ ap (λ n. drop n xs) count

    forward : Holds M vars (is_call_of p o decl given t) → (call.op ≡ o) × Starts gs call.args
    forward k =
        let e = sym is ∙ (same-is _ _ k ∙ built-is) in
        let cons : op_con p call.op ≡ op_con p o = cc in
        let op : call.op ≡ o = omega (arith, cons) in
        let lists : elems xs ≡ elems (map elem_of gs ++ map (value M vars) sels) = cc in
        (op, starts-elems p decl.args gs call.args fit (typed op) (one-list _ _ lists ∙ ap (λ ys. map elem_of gs ++ ys) (rest op)))

    back : (call.op ≡ o) × Starts gs call.args → Holds M vars (is_call_of p o decl given t)
    back k =
        let e : value M vars u ≡ value M vars (built (op_con p o) (length decl.args) given (applied op_fn t)) =
        is ∙ (ap₂ (λ n ys. Made (op_con p n) (elems ys)) k.0 (elems-start gs call.args k.1 ∙ ap (λ ys. map elem_of gs ++ ys) (sym (rest k.0))) ∙ sym built-is) in
        ap (λ y. same_elem (value M vars u) y) (sym e) ∙ same-self (value M vars u)
