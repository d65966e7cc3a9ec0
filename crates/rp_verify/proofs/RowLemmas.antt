-- Rows with values from a place on.
use Rattle.std.proofs.Common.{◌≡◌, ℕ, zero, suc, ◌+◌, ◌-◌, ◌<◌, Bool, true, false, List, [], ◌∷◌, ◌++◌, length, map, set, Result, Ok, Err, OnOk, refl, sym, ◌∙◌, ap, arith, append_assoc}
use Rattle.std.proofs.lemmas.List.{map-append}
use Rattle.event_machine.specs.Tests.{all_values}
use Rattle.rp_verify.specs.means.Rows.{with_values}

pub OnOk-implies : {A E P Q : Type 0} (r : Result A E) → (P → Q) → OnOk r P → OnOk r Q
OnOk-implies (Ok x) f p = f p
OnOk-implies (Err e) f p = tt

pub with_values-none : (row : List Bool) (from : ℕ) → with_values row from [] ≡ row
with_values-none [] from = refl
with_values-none (b ∷ row) zero = refl
with_values-none (b ∷ row) (suc from) = ap (λ rest. b ∷ rest) (with_values-none row from)

with_values-set :
    (row : List Bool) (from : ℕ) (b : Bool) (values : List Bool) → from < length row
    → with_values (set row from b) (suc from) values ≡ with_values row from (b ∷ values)
with_values-set [] from b values within = absurd (omega arith)
with_values-set (c ∷ row) zero b values within = refl
with_values-set (c ∷ row) (suc from) b values within = ap (λ rest. c ∷ rest) (with_values-set row from b values (omega arith))

set_twice : (row : List Bool) (from : ℕ) (a b : Bool) → set (set row from a) from b ≡ set row from b
set_twice [] zero a b = refl
set_twice [] (suc from) a b = refl
set_twice (c ∷ row) zero a b = refl
set_twice (c ∷ row) (suc from) a b = ap (λ rest. c ∷ rest) (set_twice row from a b)

all_set :
    (row : List Bool) (from : ℕ) (b : Bool) (all : List (List Bool)) → from < length row
    → map (with_values (set row from b) (from + 1)) all ≡ map (with_values row from) (map (λ v. b ∷ v) all)
all_set row from b [] within = refl
all_set row from b (values ∷ all) within =
    let first : with_values (set row from b) (from + 1) values ≡ with_values row from (b ∷ values) =
    ap (λ n. with_values (set row from b) n values) (omega arith) ∙ with_values-set row from b values within in
    ap (λ first. first ∷ map (with_values (set row from b) (from + 1)) all) first
    ∙ ap (λ rest. with_values row from (b ∷ values) ∷ rest) (all_set row from b all within)

pub last_row : (row : List Bool) (from params : ℕ) (old new : List (List Bool)) → from ≡ params → new ≡ old ++ row ∷ [] → new ≡ old ++ map (with_values row from) (all_values (params - from))
last_row row from params old new done is =
    let none : params - from ≡ 0 = omega arith in
    is ∙ (ap (λ row. old ++ row ∷ []) (sym (with_values-none row from)) ∙ ap (λ n. old ++ map (with_values row from) (all_values n)) (sym none))

pub both_rows : (row : List Bool) (from params : ℕ) (old mid new : List (List Bool)) → from < params → from < length row
    → mid ≡ old ++ map (with_values (set row from false) (from + 1)) (all_values (params - (from + 1)))
    → new ≡ mid ++ map (with_values (set (set row from false) from true) (from + 1)) (all_values (params - (from + 1)))
    → new ≡ old ++ map (with_values row from) (all_values (params - from))
both_rows row from params old mid new more within first second =
    let k = params - (from + 1) in
    let one_more : suc k ≡ params - from = omega arith in
    let falses = map (λ v. false ∷ v) (all_values k) in
    let trues = map (λ v. true ∷ v) (all_values k) in
    let f = with_values row from in
    second
    ∙ (ap (λ mid. mid ++ map (with_values (set (set row from false) from true) (from + 1)) (all_values k)) first
    ∙ (ap (λ row'. (old ++ map (with_values (set row from false) (from + 1)) (all_values k)) ++ map (with_values row' (from + 1)) (all_values k)) (set_twice row from false true)
    ∙ (ap (λ xs. (old ++ xs) ++ map (with_values (set row from true) (from + 1)) (all_values k)) (all_set row from false (all_values k) within)
    ∙ (ap (λ ys. (old ++ map f falses) ++ ys) (all_set row from true (all_values k) within)
    ∙ (append_assoc old (map f falses) (map f trues)
    ∙ (ap (λ zs. old ++ zs) (sym (map-append f falses trues))
    ∙ ap (λ n. old ++ map f (all_values n)) one_more))))))
