-- Appending what is printed.
use Rattle.std.proofs.Common.{◌≡◌, ℕ, zero, suc, ◌+◌, ◌<◌, ◌≤◌, length, get_or, drop, map, List, [], ◌∷◌, ◌++◌, refl, sym, ap, ◌∙◌, arith, append_assoc, append-nil, add-one}
use Rattle.std.specs.Prelude.{Bool, ◌==◌, if◌then◌else◌}
use Rattle.std.proofs.lemmas.Bool.{ne_eqb}
use Rattle.std.proofs.Math.Seq.{drop-cons}
use Rattle.std.proofs.lemmas.List.{drop_all}
use Rattle.rp_value.specs.declared.value.Value.{Value}
use Rattle.rp_value.specs.Values.{Val, Vals, no_val, also_val}
use Rattle.rp_value.specs.ValueView.{value_view, values_view}
use Rattle.rp_lang.specs.Programs.{Prog}
use Rattle.schedule_fmt.specs.Texts.{value_text, args_text, more_args_text}

pub ruleset appends = (append_assoc, append-nil)

-- the arguments from the one of number i on, with what stands before each, and the closing parenthesis
abbrev pub args_rest : Prog → ℕ → Vals → List ℕ
args_rest p zero vs = args_text p vs
args_rest p (suc i) vs = more_args_text p vs

rest_opens : (p : Prog) (i : ℕ) (v : Val) (vs : Vals) → args_rest p i (also_val v vs) ≡ (if i == 0 then 40 else 44) ∷ (value_text p v ++ args_rest p (suc i) vs)
rest_opens p zero v vs = refl
rest_opens p (suc i) v vs = ap (λ (t : Bool). (if t then 40 else 44) ∷ (value_text p v ++ more_args_text p vs)) (sym (ne_eqb (suc i) 0 (λ x. omega arith)))

rest_closes : (p : Prog) (i : ℕ) → args_rest p i no_val ≡ (if i == 0 then [] else 41 ∷ [])
rest_closes p zero = refl
rest_closes p (suc i) = ap (λ (t : Bool). if t then [] else 41 ∷ []) (sym (ne_eqb (suc i) 0 (λ x. omega arith)))

drop_item : {X : Type 0} (xs : List X) (i : ℕ) (x : X) → i < length xs → x ≡ get_or xs i x → drop i xs ≡ x ∷ drop (i + 1) xs
drop_item xs i x h e = drop-cons xs i x h ∙ ap (λ y. y ∷ drop (suc i) xs) (sym e) ∙ ap (λ n. x ∷ drop n xs) (sym (add-one i))

pub arg_put : (p : Prog) (args : List Value) (i : ℕ) (arg : Value) (a b c whole : List ℕ) → i < length args → arg ≡ get_or args i arg
    → a ++ args_rest p i (values_view (drop i args)) ≡ whole → b ≡ a ++ (if i == 0 then 40 else 44) ∷ [] → c ≡ b ++ value_text p (value_view arg)
    → c ++ args_rest p (i + 1) (values_view (drop (i + 1) args)) ≡ whole
arg_put p args i arg a b c whole lt is h opened put =
    let o : ℕ = if i == 0 then 40 else 44 in
    let v = value_text p (value_view arg) in
    let vs = values_view (drop (i + 1) args) in
    ap (λ x. x ++ args_rest p (i + 1) vs) (put ∙ ap (λ x. x ++ v) opened)
    ∙ append_assoc (a ++ o ∷ []) v (args_rest p (i + 1) vs)
    ∙ append_assoc a (o ∷ []) (v ++ args_rest p (i + 1) vs)
    ∙ ap (λ n. a ++ o ∷ (v ++ args_rest p n vs)) (add-one i)
    ∙ ap (λ x. a ++ x) (sym (rest_opens p i (value_view arg) vs))
    ∙ ap (λ xs. a ++ args_rest p i (values_view xs)) (sym (drop_item args i arg lt is))
    ∙ h

pub args_put : (p : Prog) (args : List Value) (i n : ℕ) (a b whole : List ℕ) → i ≡ n → length args ≡ n
    → a ++ args_rest p i (values_view (drop i args)) ≡ whole → b ≡ a ++ (if n == 0 then [] else 41 ∷ []) → b ≡ whole
args_put p args i n a b whole e l h closed =
    closed ∙ ap (λ x. a ++ x) (sym (rest_closes p n)) ∙ ap (λ m. a ++ args_rest p m no_val) (sym e)
    ∙ ap (λ xs. a ++ args_rest p i (values_view xs)) (sym (drop_all i args (omega arith))) ∙ h

pub four_put : (o a b c d n1 n2 n3 n4 : List ℕ) → n1 ≡ o ++ a → n2 ≡ n1 ++ b → n3 ≡ n2 ++ c → n4 ≡ n3 ++ d → n4 ≡ o ++ (a ++ ((b ++ c) ++ d))
four_put o a b c d n1 n2 n3 n4 e f g h =
    h ∙ ap (λ x. x ++ d) (g ∙ ap (λ x. x ++ c) (f ∙ ap (λ x. x ++ b) e))
    ∙ ap (λ x. x ++ d) (append_assoc (o ++ a) b c)
    ∙ append_assoc (o ++ a) (b ++ c) d
    ∙ append_assoc o a ((b ++ c) ++ d)
