-- A walk finds the false goals, with their names.
use Rattle.std.proofs.Common.{◌≡◌, ℕ, ◌+◌, Bool, true, false, ◌&&◌, ◌||◌, not, cond, List, [], ◌∷◌, ◌++◌, length, map, filter, refl, sym, ◌∙◌, ap, arith, append_assoc}
use Rattle.std.specs.Bool.{if◌then◌else◌}
use Rattle.std.specs.List.{list_any, list_all}
use Rattle.std.proofs.lemmas.List.{length-append, map-append}
use Rattle.std.proofs.lemmas.List.Folds.{list_all-append}
use Rattle.rp_span.specs.declared.Span.{Span}
use Rattle.rp_lang.specs.Formulas.{Fo}
use Rattle.event_machine.specs.Checks.{Checks, Done, Assert, Choose}
use Rattle.event_machine.specs.Propositions.{truth}
use Rattle.event_machine.specs.Goals.{Choice, Goal, branch, chosen, check_goals, slots_of}
use Rattle.event_machine.specs.Tests.{all_values, as_chosen, follows, is_false}
use Rattle.rp_verify.specs.declared.verdict.Unproved.{Unproved}
use Rattle.rp_verify.specs.means.Counted.{assertions}
use Rattle.rp_verify.specs.means.Rows.{holds, fails}
use Rattle.rp_verify.specs.means.Found.{entry, found_at, found_in}
use Rattle.rp_verify.specs.Verdicts.{name_of, unproved_from}
use Rattle.rp_verify.proofs.PadLemmas.{padded, truth-padded}

-- ---- numbers of goals

pub length-check_goals : (proc params : ℕ) (choices : List Choice) (checks : Checks) → length (check_goals proc params choices checks) ≡ assertions checks
length-check_goals proc params choices Done = refl
length-check_goals proc params choices (Assert at f next) = let rest = length-check_goals proc params choices next in omega arith
length-check_goals proc params choices (Choose f then_ else_) =
    let first = length-check_goals proc params (chosen choices f true) then_ in
    let second = length-check_goals proc params (chosen choices f false) else_ in
    omega (arith, length-append (check_goals proc params (chosen choices f true) then_) (check_goals proc params (chosen choices f false) else_))

pub unproved_from-append : (n : ℕ) (a b : List Goal) → unproved_from n (a ++ b) ≡ unproved_from n a ++ unproved_from (n + length a) b
unproved_from-append n [] b = ap (λ k. unproved_from k b) (omega arith)
unproved_from-append n (goal ∷ a) b =
    let first : List Unproved = if is_false goal then record { goal = n; name = name_of goal } ∷ [] else [] in
    ap (λ rest. first ++ rest) (unproved_from-append (n + 1) a b ∙ ap (λ k. unproved_from (n + 1) a ++ unproved_from k b) (omega arith))
    ∙ sym (append_assoc first (unproved_from (n + 1) a) (unproved_from (n + length (goal ∷ a)) b))

-- ---- rows that come to a place

follows-true : (choices : List Choice) (f : Fo) (values : List Bool) → follows (chosen choices f true) values ≡ (follows choices values && truth (slots_of values) f)
follows-true choices f values =
    list_all-append (as_chosen values) choices (record { condition = f; holds = true } ∷ [])
    ∙ ap (λ t. follows choices values && t) (and-true (truth (slots_of values) f))
  where
    and-true : (b : Bool) → (b && true) ≡ b
    and-true true = refl
    and-true false = refl

follows-false : (choices : List Choice) (f : Fo) (values : List Bool) → follows (chosen choices f false) values ≡ (follows choices values && not (truth (slots_of values) f))
follows-false choices f values =
    list_all-append (as_chosen values) choices (record { condition = f; holds = false } ∷ [])
    ∙ ap (λ t. follows choices values && t) (and-true (not (truth (slots_of values) f)))
  where
    and-true : (b : Bool) → (b && true) ≡ b
    and-true true = refl
    and-true false = refl

filter_one :
    (q : List Bool → Bool) (v : List Bool) (b c d : Bool) (ys zs : List (List Bool)) → d ≡ (b && c) → q (padded v) ≡ c → filter q (map padded ys) ≡ map padded zs
    → filter q (map padded (cond b (v ∷ ys) ys)) ≡ map padded (cond d (v ∷ zs) zs)
filter_one q v true true d ys zs is kept same =
    ap (λ t. cond t (padded v ∷ filter q (map padded ys)) (filter q (map padded ys))) kept
    ∙ (ap (λ rest. padded v ∷ rest) same ∙ sym (ap (λ t. map padded (cond t (v ∷ zs) zs)) is))
filter_one q v true false d ys zs is kept same =
    ap (λ t. cond t (padded v ∷ filter q (map padded ys)) (filter q (map padded ys))) kept
    ∙ (same ∙ sym (ap (λ t. map padded (cond t (v ∷ zs) zs)) is))
filter_one q v false c d ys zs is kept same = same ∙ sym (ap (λ t. map padded (cond t (v ∷ zs) zs)) is)

filter-padded : (q p r : List Bool → Bool) (xs : List (List Bool)) → ((v : List Bool) → r v ≡ (p v && q (padded v))) → filter q (map padded (filter p xs)) ≡ map padded (filter r xs)
filter-padded q p r [] same = refl
filter-padded q p r (v ∷ xs) same = filter_one q v (p v) (q (padded v)) (r v) (filter p xs) (filter r xs) (same v) refl (filter-padded q p r xs same)

-- the rows that come to where these choices were made
abbrev pub rows_of : List Choice → ℕ → List (List Bool)
rows_of choices params = map padded (filter (follows choices) (all_values params))

rows-true : (choices : List Choice) (params : ℕ) (f : Fo) → filter (holds f) (rows_of choices params) ≡ rows_of (chosen choices f true) params
rows-true choices params f =
    filter-padded (holds f) (follows choices) (follows (chosen choices f true)) (all_values params)
    (λ v. follows-true choices f v ∙ ap (λ t. follows choices v && t) (sym (truth-padded f v)))

rows-false : (choices : List Choice) (params : ℕ) (f : Fo) → filter (fails f) (rows_of choices params) ≡ rows_of (chosen choices f false) params
rows-false choices params f =
    filter-padded (fails f) (follows choices) (follows (chosen choices f false)) (all_values params)
    (λ v. follows-false choices f v ∙ ap (λ t. follows choices v && not t) (sym (truth-padded f v)))

-- ---- one goal

hold_one :
    (f : Fo) (v : List Bool) (b t : Bool) (ys : List (List Bool)) (later : Bool) → holds f (padded v) ≡ t → list_all (holds f) (map padded ys) ≡ not later
    → list_all (holds f) (map padded (cond b (v ∷ ys) ys)) ≡ not ((b && not t) || later)
hold_one f v true true ys later is same = ap (λ t. t && list_all (holds f) (map padded ys)) is ∙ same
hold_one f v true false ys later is same = ap (λ t. t && list_all (holds f) (map padded ys)) is
hold_one f v false t ys later is same = same

all_hold : (p : List Bool → Bool) (f : Fo) (xs : List (List Bool))
    → list_all (holds f) (map padded (filter p xs)) ≡ not (list_any (λ v. p v && not (truth (slots_of v) f)) xs)
all_hold p f [] = refl
all_hold p f (v ∷ xs) =
    hold_one f v (p v) (truth (slots_of v) f) (filter p xs) (list_any (λ v. p v && not (truth (slots_of v) f)) xs) (truth-padded f v) (all_hold p f xs)

pub found_at-unproved : (proc params n : ℕ) (choices : List Choice) (at : Span) (f : Fo)
    → found_at proc (map branch choices) n (rows_of choices params) at f
    ≡ (if is_false (record { proc = proc; params = params; choices = choices; at = at; asserted = f }) then entry proc (map branch choices) n at ∷ [] else [])
found_at-unproved proc params n choices at f =
    ap (λ t. if t then [] else entry proc (map branch choices) n at ∷ []) (all_hold (follows choices) f (all_values params))
    ∙ turned (list_any (λ v. follows choices v && not (truth (slots_of v) f)) (all_values params))
  where
    turned : (b : Bool) → (if not b then [] else entry proc (map branch choices) n at ∷ []) ≡ (if b then entry proc (map branch choices) n at ∷ [] else [])
    turned true = refl
    turned false = refl

map-chosen : (choices : List Choice) (f : Fo) (holds : Bool) → map branch (chosen choices f holds) ≡ map branch choices ++ (if holds then 1 else 2) ∷ []
map-chosen choices f holds = map-append branch choices (record { condition = f; holds = holds } ∷ [])

pub found-unproved : (proc params n : ℕ) (choices : List Choice) (checks : Checks)
    → found_in proc (map branch choices) n (rows_of choices params) checks ≡ unproved_from n (check_goals proc params choices checks)
found-unproved proc params n choices Done = refl
found-unproved proc params n choices (Assert at f next) =
    ap (λ first. first ++ found_in proc (map branch choices) (n + 1) (rows_of choices params) next) (found_at-unproved proc params n choices at f)
    ∙ ap (λ rest. (if is_false (record { proc = proc; params = params; choices = choices; at = at; asserted = f }) then entry proc (map branch choices) n at ∷ [] else []) ++ rest)
    (found-unproved proc params (n + 1) choices next)
found-unproved proc params n choices (Choose f then_ else_) =
    let first : found_in proc (map branch choices ++ 1 ∷ []) n (filter (holds f) (rows_of choices params)) then_ ≡ unproved_from n (check_goals proc params (chosen choices f true) then_) =
    ap (λ path. found_in proc path n (filter (holds f) (rows_of choices params)) then_) (sym (map-chosen choices f true))
    ∙ (ap (λ rows. found_in proc (map branch (chosen choices f true)) n rows then_) (rows-true choices params f)
    ∙ found-unproved proc params n (chosen choices f true) then_) in
    let m = n + assertions then_ in
    let second : found_in proc (map branch choices ++ 2 ∷ []) m (filter (fails f) (rows_of choices params)) else_ ≡ unproved_from m (check_goals proc params (chosen choices f false) else_) =
    ap (λ path. found_in proc path m (filter (fails f) (rows_of choices params)) else_) (sym (map-chosen choices f false))
    ∙ (ap (λ rows. found_in proc (map branch (chosen choices f false)) m rows else_) (rows-false choices params f)
    ∙ found-unproved proc params m (chosen choices f false) else_) in
    ap (λ a. a ++ found_in proc (map branch choices ++ 2 ∷ []) m (filter (fails f) (rows_of choices params)) else_) first
    ∙ (ap (λ b. unproved_from n (check_goals proc params (chosen choices f true) then_) ++ b) second
    ∙ (ap (λ k. unproved_from n (check_goals proc params (chosen choices f true) then_) ++ unproved_from (n + k) (check_goals proc params (chosen choices f false) else_))
    (sym (length-check_goals proc params (chosen choices f true) then_))
    ∙ sym (unproved_from-append n (check_goals proc params (chosen choices f true) then_) (check_goals proc params (chosen choices f false) else_))))
