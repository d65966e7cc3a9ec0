-- Procedures one after another: their paths, their goals and what is found of them.
use Rattle.std.proofs.Common.{◌≡◌, ℕ, ◌+◌, ◌<◌, ◌≤◌, min, Bool, true, cond, filter, option_map, List, [], ◌∷◌, ◌++◌, length, map, sum_by, take, drop, get_or, All, Some, slice_get, refl, sym, ◌∙◌, ap, subst, arith, append_assoc, append-nil}
use Rattle.std.proofs.lemmas.List.{length-append, take-map, drop_more, drop_all, map_more, take_all}
use Rattle.std.proofs.lemmas.List.Elements.{All-push, All-same}
use Rattle.std.proofs.lemmas.List.Sums.{sum_by-append}
use Rattle.std.proofs.lemmas.Option.{slice_get-map, slice_get-get_or}
use Rattle.rp_lang.specs.declared.proc.ProcDecl.{ProcDecl}
use Rattle.rp_lang.specs.Programs.{Proc}
use Rattle.rp_lang.specs.Views.{proc_view}
use Rattle.event_machine.specs.Checks.{Done, stmts_checks}
use Rattle.event_machine.specs.Goals.{proc_goals, goals_from}
use Rattle.event_machine.specs.Tests.{all_values, follows}
use Rattle.rp_verify.specs.declared.verdict.Unproved.{Unproved}
use Rattle.rp_verify.specs.means.Counted.{proc_assertions}
use Rattle.rp_verify.specs.means.Found.{found_in}
use Rattle.rp_verify.specs.Verdicts.{proc_paths, HasFewPaths, IsFirstPast, unproved_from}
use Rattle.rp_verify.proofs.PadLemmas.{padded}
use Rattle.rp_verify.proofs.FoundLemmas.{length-check_goals, unproved_from-append, found-unproved}

sum_by-cons : {A : Type 0} (f : A → ℕ) (x : A) (xs : List A) → sum_by f (x ∷ xs) ≡ f x + sum_by f xs
sum_by-cons f x xs = sum_by-append f (x ∷ []) xs ∙ omega arith

pub length-goals_from : (first : ℕ) (procs : List Proc) → length (goals_from first procs) ≡ sum_by proc_assertions procs
length-goals_from first [] = refl
length-goals_from first (q ∷ others) =
    let here : length (proc_goals first q) ≡ proc_assertions q = length-check_goals first (length q.params) [] (stmts_checks q.body Done) in
    let later = length-goals_from (first + 1) others in
    length-append (proc_goals first q) (goals_from (first + 1) others)
    ∙ (ap (λ n. n + length (goals_from (first + 1) others)) here ∙ (ap (λ n. proc_assertions q + n) later ∙ sym (sum_by-cons proc_assertions q others)))

-- ---- the limits

view_more : (procs : List ProcDecl) (i : ℕ) (q : ProcDecl) → i < length procs → q ≡ get_or procs i q → map proc_view (take (i + 1) procs) ≡ map proc_view (take i procs) ++ proc_view q ∷ []
view_more procs i q within is = map_more proc_view procs i q within ∙ ap (λ q. map proc_view (take i procs) ++ proc_view q ∷ []) (sym is)

pub few_more : (procs : List ProcDecl) (i : ℕ) (q : ProcDecl) → i < length procs → q ≡ get_or procs i q
    → HasFewPaths (proc_view q) → All HasFewPaths (map proc_view (take i procs)) → All HasFewPaths (map proc_view (take (i + 1) procs))
few_more procs i q within is few all =
    All-same HasFewPaths _ _ (view_more procs i q within is) (All-push HasFewPaths (map proc_view (take i procs)) (proc_view q) all few)

pub counted_more : (procs : List ProcDecl) (i : ℕ) (q : ProcDecl) (old here new : ℕ) → i < length procs → q ≡ get_or procs i q
    → old ≡ min (sum_by proc_assertions (map proc_view (take i procs))) 2049 → here ≡ min (proc_assertions (proc_view q)) 2049 → new ≡ min (old + here) 2049
    → new ≡ min (sum_by proc_assertions (map proc_view (take (i + 1) procs))) 2049
counted_more procs i q old here new within is before counted sum =
    let more : sum_by proc_assertions (map proc_view (take (i + 1) procs)) ≡ sum_by proc_assertions (map proc_view (take i procs)) + proc_assertions (proc_view q) =
    ap (sum_by proc_assertions) (view_more procs i q within is)
    ∙ (sum_by-append proc_assertions (map proc_view (take i procs)) (proc_view q ∷ []) ∙ omega arith) in
    omega arith

pub first_past : (procs : List ProcDecl) (i : ℕ) (q : ProcDecl) → i < length procs → q ≡ get_or procs i q
    → 1024 < proc_paths (proc_view q) → All HasFewPaths (map proc_view (take i procs)) → IsFirstPast (map proc_view procs) i
first_past procs i q within is past few = record {
  before = All-same HasFewPaths _ _ (take-map proc_view i procs) few;
  past =
      let at : slice_get (map proc_view procs) i ≡ Some (proc_view q) =
      slice_get-map proc_view procs i ∙ (ap (λ o. option_map proc_view o) (slice_get-get_or procs i q within) ∙ ap (λ q. Some (proc_view q)) (sym is)) in
      (proc_view q, at, past);
}

-- at the end of the procedures
pub few_all : (procs : List ProcDecl) (i : ℕ) → length procs ≤ i → All HasFewPaths (map proc_view (take i procs)) → All HasFewPaths (map proc_view procs)
few_all procs i past few = subst (λ (procs : List ProcDecl). All HasFewPaths (map proc_view procs)) (take_all i procs past) few

pub counted_all : (procs : List ProcDecl) (i n : ℕ) → length procs ≤ i
    → n ≡ min (sum_by proc_assertions (map proc_view (take i procs))) 2049 → n ≡ min (length (goals_from 0 (map proc_view procs))) 2049
counted_all procs i n past counted =
    counted
    ∙ (ap (λ (procs : List ProcDecl). min (sum_by proc_assertions (map proc_view procs)) 2049) (take_all i procs past)
    ∙ ap (λ n. min n 2049) (sym (length-goals_from 0 (map proc_view procs))))

-- ---- what a walk finds

filter-all : (p : List Bool → Bool) (xs : List (List Bool)) → ((v : List Bool) → p v ≡ true) → filter p xs ≡ xs
filter-all p [] all = refl
filter-all p (v ∷ xs) all = ap (λ t. cond t (v ∷ filter p xs) (filter p xs)) (all v) ∙ ap (λ rest. v ∷ rest) (filter-all p xs all)

rest_of : (procs : List ProcDecl) (i : ℕ) (q : ProcDecl) → i < length procs → q ≡ get_or procs i q → map proc_view (drop i procs) ≡ proc_view q ∷ map proc_view (drop (i + 1) procs)
rest_of procs i q within is = ap (map proc_view) (drop_more procs i q within) ∙ ap (λ q. proc_view q ∷ map proc_view (drop (i + 1) procs)) (sym is)

pub sum_split : (procs : List ProcDecl) (i : ℕ) (q : ProcDecl) → i < length procs → q ≡ get_or procs i q
    → sum_by proc_assertions (map proc_view (drop i procs)) ≡ proc_assertions (proc_view q) + sum_by proc_assertions (map proc_view (drop (i + 1) procs))
sum_split procs i q within is =
    ap (sum_by proc_assertions) (rest_of procs i q within is) ∙ sum_by-cons proc_assertions (proc_view q) (map proc_view (drop (i + 1) procs))

pub room_more : (procs : List ProcDecl) (i : ℕ) (q : ProcDecl) (next new all : ℕ) → i < length procs → q ≡ get_or procs i q
    → new ≡ next + proc_assertions (proc_view q)
    → next + sum_by proc_assertions (map proc_view (drop i procs)) ≡ all
    → new + sum_by proc_assertions (map proc_view (drop (i + 1) procs)) ≡ all
room_more procs i q next new all within is more before = let split = sum_split procs i q within is in omega arith

-- a walk with all rows finds a procedure's false goals
pub found-proc : (number next : ℕ) (q : Proc)
    → found_in number [] next (map padded (all_values (length q.params))) (stmts_checks q.body Done) ≡ unproved_from next (proc_goals number q)
found-proc number next q =
    ap (λ rows. found_in number [] next (map padded rows) (stmts_checks q.body Done)) (sym (filter-all (follows []) (all_values (length q.params)) (λ values. refl)))
    ∙ found-unproved number (length q.params) next [] (stmts_checks q.body Done)

pub found_more : (procs : List ProcDecl) (i : ℕ) (q : ProcDecl) (next new : ℕ) (old list all : List Unproved) → i < length procs → q ≡ get_or procs i q
    → new ≡ next + proc_assertions (proc_view q)
    → list ≡ old ++ unproved_from next (proc_goals i (proc_view q))
    → old ++ unproved_from next (goals_from i (map proc_view (drop i procs))) ≡ all
    → list ++ unproved_from new (goals_from (i + 1) (map proc_view (drop (i + 1) procs))) ≡ all
found_more procs i q next new old list all within is more found told =
    let later = map proc_view (drop (i + 1) procs) in
    let here = proc_goals i (proc_view q) in
    let counted : next + length here ≡ new = ap (λ n. next + n) (length-check_goals i (length q.params) [] (stmts_checks (proc_view q).body Done)) ∙ sym more in
    ap (λ list. list ++ unproved_from new (goals_from (i + 1) later)) found
    ∙ (append_assoc old (unproved_from next here) (unproved_from new (goals_from (i + 1) later))
    ∙ (ap (λ n. old ++ (unproved_from next here ++ unproved_from n (goals_from (i + 1) later))) (sym counted)
    ∙ (ap (λ xs. old ++ xs) (sym (unproved_from-append next here (goals_from (i + 1) later)))
    ∙ (ap (λ procs. old ++ unproved_from next (goals_from i procs)) (sym (rest_of procs i q within is)) ∙ told))))

-- no procedure is left
pub found_all : (procs : List ProcDecl) (i next : ℕ) (list all : List Unproved) → length procs ≤ i
    → list ++ unproved_from next (goals_from i (map proc_view (drop i procs))) ≡ all → list ≡ all
found_all procs i next list all past told =
    sym (append-nil list) ∙ (ap (λ (rest : List ProcDecl). list ++ unproved_from next (goals_from i (map proc_view rest))) (sym (drop_all i procs past)) ∙ told)
