-- What the machine meets in a program over truth values: propositional formulas, checks, and truth values.
use Rattle.std.proofs.Common.{◌≡◌, ◌==◌, ℕ, zero, suc, ◌-◌, Bool, true, false, ◌&&◌, ◌||◌, not, List, [], ◌∷◌, ◌++◌, length, map, replicate, Option, Some, None, refl, ◌∙◌, ap, arith}
use Rattle.std.specs.List.{list_all}
use Rattle.rp_span.specs.declared.Span.{Span}
use Rattle.rp_value.specs.declared.tables.Ty.{Ty}
use Rattle.rp_value.specs.declared.tables.Ty.TheVariants.{Datatype}
use Rattle.rp_value.specs.Values.{Val, Con, no_val, also_val}
use Rattle.rp_lang.specs.Exprs.{Ex, Exs, Slot, no_ex}
use Rattle.rp_lang.specs.Exprs as ex
use Rattle.rp_lang.specs.FirstForm.{is_bool, is_truth, is_propositional, are_propositional, is_checking, are_checking, over_truth_values}
use Rattle.rp_lang.specs.Formulas.{Fo, Fos, And, Or, Not, Implies, Holds, no_fo, also_fo}
use Rattle.rp_lang.specs.Stmts as st
use Rattle.rp_lang.specs.Stmts.{St, Sts, no_st, also_st}
use Rattle.rp_lang.specs.Programs.{Proc}
use Rattle.crdt_defs.specs.Truths.{Reading, truth_val, is_true, value, truth, all_true, any_true}
use Rattle.event_machine.specs.Code as left
use Rattle.event_machine.specs.Code.{Code, code, codes, proc_code}
use Rattle.event_machine.specs.Checks.{Checks, Done, Assert, Choose, stmt_checks, stmts_checks}
use Rattle.event_machine.specs.Propositions as prop
use Rattle.event_machine.specs.Fitting.{fits, all_fit, all_atoms}

pub both_true : (x y : Bool) → (x && y) ≡ true → (x ≡ true) × (y ≡ true)
both_true true y h = (refl, h)
both_true false y h = cc

-- # Truth

truth_of_value : (n : ℕ) (r : Reading) (e : Ex) → is_truth n e ≡ true → value r [] e ≡ prop.value r.slots e
truth_of_value n r (Slot s) h = refl
truth_of_value n r (ex.Con con no_ex) h = refl
truth_of_value n r _ h = cc

mutual
  -- a propositional formula is true by its slots alone
  pub truth_by_slots : (n : ℕ) (r : Reading) (f : Fo) → is_propositional n f ≡ true → truth r [] f ≡ prop.truth r.slots f
  truth_by_slots n r (And parts) h = all_by_slots n r parts (both_true _ _ h).1
  truth_by_slots n r (Or parts) h = any_by_slots n r parts (both_true _ _ h).1
  truth_by_slots n r (Not f) h = ap not (truth_by_slots n r f h)
  truth_by_slots n r (Implies f g) h =
      let parts = both_true (is_propositional n f) (is_propositional n g) h in
      ap (λ t. not t || truth r [] g) (truth_by_slots n r f parts.0) ∙ ap (λ t. not (prop.truth r.slots f) || t) (truth_by_slots n r g parts.1)
  truth_by_slots n r (Holds e) h = ap is_true (truth_of_value n r e h)
  truth_by_slots n r _ h = cc

  all_by_slots : (n : ℕ) (r : Reading) (fs : Fos) → are_propositional n fs ≡ true → all_true r [] fs ≡ prop.all_true r.slots fs
  all_by_slots n r no_fo h = refl
  all_by_slots n r (also_fo f fs) h =
      let parts = both_true (is_propositional n f) (are_propositional n fs) h in
      ap (λ t. t && all_true r [] fs) (truth_by_slots n r f parts.0) ∙ ap (λ t. prop.truth r.slots f && t) (all_by_slots n r fs parts.1)

  any_by_slots : (n : ℕ) (r : Reading) (fs : Fos) → are_propositional n fs ≡ true → any_true r [] fs ≡ prop.any_true r.slots fs
  any_by_slots n r no_fo h = refl
  any_by_slots n r (also_fo f fs) h =
      let parts = both_true (is_propositional n f) (are_propositional n fs) h in
      ap (λ t. t || any_true r [] fs) (truth_by_slots n r f parts.0) ∙ ap (λ t. prop.truth r.slots f || t) (any_by_slots n r fs parts.1)

-- # Code

-- the code that does these checks, and returns at that place
abbrev pub code_of : Span → Checks → Code
code_of end Done = left.Return end None
code_of end (Assert at f next) = left.Assert at f (code_of end next)
code_of end (Choose f then_ else_) = left.Choose f (code_of end then_) (code_of end else_)

mutual
  code-checks : (n : ℕ) (end : Span) (s : St) (next : Checks) → is_checking n s ≡ true → code s (code_of end next) ≡ code_of end (stmt_checks s next)
  code-checks n end (st.Assert at f) next h = refl
  code-checks n end (st.If at f then_ else_) next h =
      let last = both_true _ _ h in
      let first = both_true _ _ last.0 in
      ap (λ c. left.Choose f c (codes else_ (code_of end next))) (codes-checks n end then_ next first.1)
      ∙ ap (λ c. left.Choose f (code_of end (stmts_checks then_ next)) c) (codes-checks n end else_ next last.1)
  code-checks n end _ next h = cc

  pub codes-checks : (n : ℕ) (end : Span) (ss : Sts) (next : Checks) → are_checking n ss ≡ true → codes ss (code_of end next) ≡ code_of end (stmts_checks ss next)
  codes-checks n end no_st next h = refl
  codes-checks n end (also_st s ss) next h =
      let parts = both_true (is_checking n s) (are_checking n ss) h in
      ap (code s) (codes-checks n end ss next parts.1) ∙ code-checks n end s (stmts_checks ss next) parts.0

-- the conditions and assertions are propositional
abbrev pub ArePropositional : ℕ → Checks → Type 0
ArePropositional n Done = Unit {0}
ArePropositional n (Assert at f next) = (is_propositional n f ≡ true) × ArePropositional n next
ArePropositional n (Choose f then_ else_) = (is_propositional n f ≡ true) × ArePropositional n then_ × ArePropositional n else_

mutual
  propositional : (n : ℕ) (s : St) (next : Checks) → is_checking n s ≡ true → ArePropositional n next → ArePropositional n (stmt_checks s next)
  propositional n (st.Assert at f) next h given = ((both_true _ _ h).1, given)
  propositional n (st.If at f then_ else_) next h given =
      let last = both_true _ _ h in
      let first = both_true _ _ last.0 in
      ((both_true _ _ first.0).1, all_propositional n then_ next first.1 given, all_propositional n else_ next last.1 given)
  propositional n _ next h given = cc

  pub all_propositional : (n : ℕ) (ss : Sts) (next : Checks) → are_checking n ss ≡ true → ArePropositional n next → ArePropositional n (stmts_checks ss next)
  all_propositional n no_st next h given = given
  all_propositional n (also_st s ss) next h given =
      let parts = both_true (is_checking n s) (are_checking n ss) h in
      propositional n s (stmts_checks ss next) parts.0 (all_propositional n ss next parts.1 given)

-- # Values

never : (x : Bool) → (x && false) ≡ true → ⊥
never true h = cc
never false h = cc

fits_truth : (procs : List Proc) (ty : Ty) (v : Val) → is_bool ty ≡ true → fits (over_truth_values procs) ty v ≡ true → (b : Bool) × (v ≡ truth_val b)
fits_truth procs (Datatype n) (Con zero no_val) is h = (false, refl)
fits_truth procs (Datatype n) (Con zero (also_val v vs)) is h = absurd (never _ h)
fits_truth procs (Datatype n) (Con (suc zero) no_val) is h = (true, refl)
fits_truth procs (Datatype n) (Con (suc zero) (also_val v vs)) is h = absurd (never _ h)
fits_truth procs (Datatype n) (Con (suc (suc con)) args) is h = cc
fits_truth procs (Datatype n) _ is h = cc
fits_truth procs _ v is h = cc

-- arguments that fit are truth values
pub values_of_args : (procs : List Proc) (types : List Ty) (args : List Val) → list_all is_bool types ≡ true → all_fit (over_truth_values procs) types args ≡ true
    → (values : List Bool) × (length values ≡ length types) × (args ≡ map truth_val values)
values_of_args procs [] [] bools h = ([], refl, refl)
values_of_args procs [] (v ∷ args) bools h = cc
values_of_args procs (ty ∷ types) [] bools h = cc
values_of_args procs (ty ∷ types) (v ∷ args) bools h =
    let is = both_true (is_bool ty) (list_all is_bool types) bools in
    let fit = both_true (fits (over_truth_values procs) ty v) (all_fit (over_truth_values procs) types args) h in
    let first = fits_truth procs ty v is.0 fit.0 in
    let others = values_of_args procs types args is.1 fit.1 in
    (first.0 ∷ others.0, omega arith, ap (λ v. v ∷ args) first.1 ∙ ap (λ args. truth_val first.0 ∷ args) others.2)

bool_type : (n : ℕ) → (n == 0) ≡ true → n ≡ 0
bool_type n h = grind arith

fits-truth_val : (procs : List Proc) (b : Bool) → fits (over_truth_values procs) (Datatype 0) (truth_val b) ≡ true
fits-truth_val procs true = refl
fits-truth_val procs false = refl

fits-bool : (procs : List Proc) (ty : Ty) (b : Bool) → is_bool ty ≡ true → fits (over_truth_values procs) ty (truth_val b) ≡ true
fits-bool procs (Datatype n) b is = ap (λ n. fits (over_truth_values procs) (Datatype n) (truth_val b)) (bool_type n is) ∙ fits-truth_val procs b
fits-bool procs _ b is = cc

pub all_fit-values : (procs : List Proc) (types : List Ty) (values : List Bool) → list_all is_bool types ≡ true → length values ≡ length types
    → all_fit (over_truth_values procs) types (map truth_val values) ≡ true
all_fit-values procs [] [] bools same = refl
all_fit-values procs [] (b ∷ values) bools same = absurd (omega arith)
all_fit-values procs (ty ∷ types) [] bools same = absurd (omega arith)
all_fit-values procs (ty ∷ types) (b ∷ values) bools same =
    let is = both_true (is_bool ty) (list_all is_bool types) bools in
    ap (λ t. t && all_fit (over_truth_values procs) types (map truth_val values)) (fits-bool procs ty b is.0)
    ∙ all_fit-values procs types values is.1 (omega arith)

-- truth values have no identifier inside
pub no_atoms : (values : List Bool) → all_atoms (map truth_val values) ≡ []
no_atoms [] = refl
no_atoms (true ∷ values) = no_atoms values
no_atoms (false ∷ values) = no_atoms values

-- # Slots

pub slots-values : (values : List Bool) → map (λ v. Some v) (map truth_val values) ≡ map (λ b. Some (truth_val b)) values
slots-values [] = refl
slots-values (b ∷ values) = ap (λ rest. Some (truth_val b) ∷ rest) (slots-values values)

append-none : (xs : List (Option Val)) (n : ℕ) → n ≡ 0 → xs ++ replicate n None ≡ xs
append-none [] n is = ap (λ n. replicate n None) is
append-none (x ∷ xs) n is = ap (λ xs. x ∷ xs) (append-none xs n is)

length-map : (values : List Bool) → length (map truth_val values) ≡ length values
length-map [] = refl
length-map (b ∷ values) = let rest = length-map values in omega arith

-- an invocation begins with the values in its slots
pub first_slots : (q : Proc) (values : List Bool) → length q.slots ≡ length q.params → length values ≡ length q.params
    → map (λ v. Some v) (map truth_val values) ++ replicate (length q.slots - length (map truth_val values)) None ≡ map (λ b. Some (truth_val b)) values
first_slots q values slots counted =
    let same = length-map values in
    append-none (map (λ v. Some v) (map truth_val values)) (length q.slots - length (map truth_val values)) (omega arith) ∙ slots-values values
