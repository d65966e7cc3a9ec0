-- The parts of datatypes, told one after the other, are those of the program's tables, as far as the limit asks.
use Rattle.std.proofs.Common.{◌≡◌, ℕ, zero, suc, ◌+◌, ◌<◌, ◌≤◌, min, Bool, true, false, ◌&&◌, List, [], ◌∷◌, ◌++◌, length, drop, get_or, Option, Some, None, refl, sym, ap, ap₂, subst, ◌∙◌, arith, inl, inr}
use Rattle.std.specs.Prelude.{nat_le, sum_by, unwrap_or}
use Rattle.std.specs.List.{flat_map, slice_get}
use Rattle.std.specs.Option.{option_and_then}
use Rattle.std.proofs.lemmas.List.{append_assoc, drop_more, length-append}
use Rattle.std.proofs.lemmas.List.Sums.{sum_by-append, sum_by-cons}
use Rattle.std.proofs.lemmas.Option.{same_Some}
use Rattle.rp_value.specs.declared.tables.Ty.{Ty}
use Rattle.rp_value.specs.declared.tables.Ty.TheVariants as ty
use Rattle.rp_value.specs.declared.tables.ConDecl.{ConDecl}
use Rattle.rp_value.specs.declared.tables.ConTable.{ConTable}
use Rattle.rp_value.specs.declared.tables.DataDecl.{DataDecl}
use Rattle.rp_lang.specs.Types.{are_within_parts, cons_in, cons_of, fields_in, fields_of, has_few_parts, parts}
use Rattle.type_rules.specs.declared.kind.Kind.{Kind}
use Rattle.type_rules.specs.Names.{Names}
use Rattle.type_rules.specs.Matches.{Case, cases_of}
use Rattle.desugaring.specs.Parts.{both, each}
use Rattle.desugaring.specs.Tables.{Con, Tables, con_decl, con_of, con_table, data_decls, datatype_number, table_with, ty_of, type_table, up_from}
use Rattle.desugaring.specs.Tables as spec
use Rattle.desugaring.proofs.Fields.{table_there}
use Rattle.desugaring.proofs.Options.{both_there, then_there}
use Rattle.text_tables.specs.means.Cases.{cons_with}
use Rattle.text_tables.specs.means.Limited as means
use Rattle.text_tables.specs.means.Limited.{all_cases, parts_told, sum_told, ty_parts}
use Rattle.text_names.proofs.Entries.{drop_past}
use Rattle.text_tables.proofs.Adding.{get_last, no_some}
use Rattle.text_tables.proofs.Growing.{each_both}

-- # The constructors of a datatype, by its number

-- those of the datatype of this number, with what stands before and behind
pub record Run (t : Tables) (cons : ConTable) (m : ℕ) (k : Kind) : Type 0 where
  pub before : List ConDecl
  pub own : List ConDecl
  pub behind : List ConDecl
  pub split : cons.cons ≡ before ++ (own ++ behind)
  pub made : each (con_decl t) (spec.cons_of t.names k) ≡ Some own
  pub numbers : cons_of (type_table t) m ≡ up_from (length before) (length own)

pub each_length : {X Y : Type 0} (f : X → Option Y) (xs : List X) (ys : List Y) → each f xs ≡ Some ys → length ys ≡ length xs
each_length f [] ys e = ap (λ o. length (unwrap_or o ys)) (sym e)
each_length f (x ∷ xs) ys e = both_there (λ zs. length zs ≡ suc (length xs)) ◌∷◌ (f x) (each f xs) ys e (λ z zs a b. ap suc (each_length f xs zs b))

run_from : (t : Tables) (before rest : List ConDecl) (next : ℕ) (ks : List Kind) (m : ℕ) (k : Kind) → each (con_decl t) (flat_map (spec.cons_of t.names) ks) ≡ Some rest
    → length before ≡ next → slice_get ks m ≡ Some k
    → (front : List ConDecl) × (own : List ConDecl) × (behind : List ConDecl) × (before ++ rest ≡ front ++ (own ++ behind))
    × (each (con_decl t) (spec.cons_of t.names k) ≡ Some own) × (cons_in (slice_get (data_decls t.names next ks) m) ≡ up_from (length front) (length own))
run_from t before rest next [] m k e long at = absurd cc
run_from t before rest next (j ∷ ks) m k e long at =
    both_there (λ rest. (front : List ConDecl) × (own : List ConDecl) × (behind : List ConDecl) × (before ++ rest ≡ front ++ (own ++ behind))
    × (each (con_decl t) (spec.cons_of t.names k) ≡ Some own) × (cons_in (slice_get (data_decls t.names next (j ∷ ks)) m) ≡ up_from (length front) (length own)))
    (λ a b. a ++ b) (each (con_decl t) (spec.cons_of t.names j)) (each (con_decl t) (flat_map (spec.cons_of t.names) ks)) rest
    (sym (each_both (con_decl t) (spec.cons_of t.names j) (flat_map (spec.cons_of t.names) ks)) ∙ e)
    (λ own behind a b. by m at own behind a b (λ i at. run_from t (before ++ own) behind (next + length (spec.cons_of t.names j)) ks i k b
    (length-append before own ∙ ap₂ (λ a b. a + b) long (each_length (con_decl t) (spec.cons_of t.names j) own a)) at))
  where
    by : (m : ℕ) → slice_get (j ∷ ks) m ≡ Some k → (own behind : List ConDecl) → each (con_decl t) (spec.cons_of t.names j) ≡ Some own
        → each (con_decl t) (flat_map (spec.cons_of t.names) ks) ≡ Some behind
        → ((i : ℕ) → slice_get ks i ≡ Some k
        → (front : List ConDecl) × (o : List ConDecl) × (more : List ConDecl) × ((before ++ own) ++ behind ≡ front ++ (o ++ more))
        × (each (con_decl t) (spec.cons_of t.names k) ≡ Some o)
        × (cons_in (slice_get (data_decls t.names (next + length (spec.cons_of t.names j)) ks) i) ≡ up_from (length front) (length o)))
        → (front : List ConDecl) × (o : List ConDecl) × (more : List ConDecl) × (before ++ (own ++ behind) ≡ front ++ (o ++ more))
        × (each (con_decl t) (spec.cons_of t.names k) ≡ Some o) × (cons_in (slice_get (data_decls t.names next (j ∷ ks)) m) ≡ up_from (length front) (length o))
    by zero at own behind a b rest =
        let same : j ≡ k = same_Some j k at in (
          before,
          own,
          behind,
          refl,
          ap (λ k. each (con_decl t) (spec.cons_of t.names k)) (sym same) ∙ a,
          ap₂ up_from (sym long) (sym (each_length (con_decl t) (spec.cons_of t.names j) own a)),
        )
    by (suc m) at own behind a b rest =
        let later = rest m at in
        (later.0, later.1, later.2, sym (append_assoc before own behind) ∙ later.3, later.4, later.5)

pub run_at : (t : Tables) (cons : ConTable) (m : ℕ) (k : Kind) → con_table t ≡ Some cons → slice_get t.datatypes m ≡ Some k → Run t cons m k
run_at t cons m k e at =
    let found = run_from t [] cons.cons 0 t.datatypes m k (table_there t cons e) refl at in
    record { before = found.0; own = found.1; behind = found.2; split = found.3; made = found.4; numbers = found.5 }

-- # Sums over a run

pub seam : {X : Type 0} (before : List X) (x : X) (behind : List X) → slice_get (before ++ x ∷ behind) (length before) ≡ Some x
seam [] x behind = refl
seam (y ∷ before) x behind = seam before x behind

run_sum : (f : List Ty → ℕ) (all before own behind : List ConDecl) → all ≡ before ++ (own ++ behind)
    → sum_by (λ con. f (fields_in (slice_get all con))) (up_from (length before) (length own)) ≡ sum_by (λ d. f d.fields) own
run_sum f all before [] behind e = refl
run_sum f all before (d ∷ own) behind e =
    let first : slice_get all (length before) ≡ Some d = ap (λ xs. slice_get xs (length before)) e ∙ seam before d (own ++ behind) in
    let next : length (before ++ d ∷ []) ≡ length before + 1 = length-append before (d ∷ []) in
    sum_by-cons (λ con. f (fields_in (slice_get all con))) (length before) (up_from (length before + 1) (length own))
    ∙ ap₂ (λ a b. a + b) (ap (λ o. f (fields_in o)) first)
    (ap (λ k. sum_by (λ con. f (fields_in (slice_get all con))) (up_from k (length own))) (sym next)
    ∙ run_sum f all (before ++ d ∷ []) own behind (e ∙ sym (append_assoc before (d ∷ []) (own ++ behind))))
    ∙ sym (sum_by-cons (λ d. f d.fields) d own)

flat_sum : (f : Ty → ℕ) (own : List ConDecl) → sum_by (λ d. sum_by f d.fields) own ≡ sum_by f (flat_map (λ d. d.fields) own)
flat_sum f [] = refl
flat_sum f (d ∷ own) =
    sum_by-cons (λ d. sum_by f d.fields) d own
    ∙ ap (λ k. sum_by f d.fields + k) (flat_sum f own) ∙ sym (sum_by-append f d.fields (flat_map (λ d. d.fields) own))

-- the types of all fields
fields_made : (t : Tables) (k : Kind) (cases : List Case) (own : List ConDecl) → each (con_decl t) (cons_with k cases) ≡ Some own
    → each (ty_of t) (means.fields_of cases) ≡ Some (flat_map (λ d. d.fields) own)
fields_made t k [] own e = ap (λ o. Some (flat_map (λ d. d.fields) (unwrap_or o own))) e
fields_made t k (c ∷ cases) own e =
    both_there (λ own. each (ty_of t) (c.fields ++ means.fields_of cases) ≡ Some (flat_map (λ d. d.fields) own)) ◌∷◌
    (con_decl t (record { name = c.name; of = k; fields = c.fields })) (each (con_decl t) (cons_with k cases)) own e
    (λ d ds a b.
    both_there (λ d. each (ty_of t) (c.fields ++ means.fields_of cases) ≡ Some (d.fields ++ flat_map (λ d. d.fields) ds)) (con_of c.name)
    (datatype_number t k) (each (ty_of t) c.fields) d a
    (λ of fields g h.
    each_both (ty_of t) c.fields (means.fields_of cases) ∙ ap₂ (both (λ a b. a ++ b)) h (fields_made t k cases ds b)))

-- the parts of a datatype, one level further
pub parts_are : (t : Tables) (cons : ConTable) (m : ℕ) (k : Kind) (depth : ℕ) → con_table t ≡ Some cons → slice_get t.datatypes m ≡ Some k
    → (tys : List Ty) × (each (ty_of t) (means.inside t.names k) ≡ Some tys)
    × (parts (type_table t) cons (suc depth) (ty.Datatype m) ≡ 1 + sum_by (parts (type_table t) cons depth) tys)
parts_are t cons m k depth e at =
    let run = run_at t cons m k e at in
    let f = λ (tys : List Ty). sum_by (parts (type_table t) cons depth) tys in (
      flat_map (λ d. d.fields) run.own,
      fields_made t k (all_cases t.names k) run.own run.made,
      ap (λ n. 1 + n)
          (ap (sum_by (λ con. f (fields_of cons con))) run.numbers
          ∙ run_sum f cons.cons run.before run.own run.behind run.split
          ∙ flat_sum (parts (type_table t) cons depth) run.own),
    )

-- # What is told

-- so far the two are the same
abbrev Agree : ℕ → ℕ → ℕ → Type 0
Agree end a b = min a end ≡ min b end

-- the parts of the first datatypes
abbrev pub IsTold : Tables → ConTable → List ℕ → Type 0
IsTold t cons rows = (j x : ℕ) → slice_get rows j ≡ Some x → (depth : ℕ) → depth ≤ 1000 → Agree (depth + 1) (parts (type_table t) cons depth (ty.Datatype j)) x

ty_told : (t : Tables) (cons : ConTable) (rows : List ℕ) → IsTold t cons rows → (depth : ℕ) → depth ≤ 1000 → (one : Ty) (p : ℕ) → ty_parts rows one ≡ Some p
    → Agree (depth + 1) (parts (type_table t) cons depth one) p
ty_told t cons rows told depth few (ty.Datatype m) p e = told m p e depth few
ty_told t cons rows told zero few ty.Int p e = ap (λ q. min q 1) (same_Some 1 p e)
ty_told t cons rows told (suc depth) few ty.Int p e = ap (λ q. min q (suc depth + 1)) (same_Some 1 p e)
ty_told t cons rows told zero few ty.Str p e = ap (λ q. min q 1) (same_Some 1 p e)
ty_told t cons rows told (suc depth) few ty.Str p e = ap (λ q. min q (suc depth + 1)) (same_Some 1 p e)
ty_told t cons rows told zero few (ty.Atom a) p e = ap (λ q. min q 1) (same_Some 1 p e)
ty_told t cons rows told (suc depth) few (ty.Atom a) p e = ap (λ q. min q (suc depth + 1)) (same_Some 1 p e)
ty_told t cons rows told zero few ty.Call p e = ap (λ q. min q 1) (same_Some 1 p e)
ty_told t cons rows told (suc depth) few ty.Call p e = ap (λ q. min q (suc depth + 1)) (same_Some 1 p e)
ty_told t cons rows told zero few ty.Inv p e = ap (λ q. min q 1) (same_Some 1 p e)
ty_told t cons rows told (suc depth) few ty.Inv p e = ap (λ q. min q (suc depth + 1)) (same_Some 1 p e)
ty_told t cons rows told zero few ty.Operation p e = ap (λ q. min q 1) (same_Some 1 p e)
ty_told t cons rows told (suc depth) few ty.Operation p e = ap (λ q. min q (suc depth + 1)) (same_Some 1 p e)
ty_told t cons rows told zero few ty.Info p e = ap (λ q. min q 1) (same_Some 1 p e)
ty_told t cons rows told (suc depth) few ty.Info p e = ap (λ q. min q (suc depth + 1)) (same_Some 1 p e)
ty_told t cons rows told zero few ty.Outcome p e = ap (λ q. min q 1) (same_Some 1 p e)
ty_told t cons rows told (suc depth) few ty.Outcome p e = ap (λ q. min q (suc depth + 1)) (same_Some 1 p e)

capped : (s p total end : ℕ) → end ≤ 1001 → Agree end (min (s + p) 1001 + total) (s + (p + total))
capped s p total end few = grind arith

sums_agree : (a b c d end : ℕ) → Agree end a b → Agree end c d → Agree end (a + c) (b + d)
sums_agree a b c d end e h = grind arith

-- the sum that is told is that of the parts
sum_is : (t : Tables) (cons : ConTable) (rows : List ℕ) → IsTold t cons rows → (depth : ℕ) → depth ≤ 1000 → (ks : List Kind) (tys : List Ty) (start row : ℕ)
    → each (ty_of t) ks ≡ Some tys → sum_told t rows start ks ≡ Some row
    → (total : ℕ) × Agree 1001 row (start + total) × Agree (depth + 1) (sum_by (parts (type_table t) cons depth) tys) total
sum_is t cons rows told depth few [] tys start row e h =
    (0, (let same : start ≡ row = same_Some start row h in omega (arith, same)), ap (λ o. min (sum_by (parts (type_table t) cons depth) (unwrap_or o tys)) (depth + 1)) (sym e))
sum_is t cons rows told depth few (k ∷ ks) tys start row e h =
    both_there (λ tys. (total : ℕ) × Agree 1001 row (start + total) × Agree (depth + 1) (sum_by (parts (type_table t) cons depth) tys) total) ◌∷◌
    (ty_of t k) (each (ty_of t) ks) tys e
    (λ one others a b.
    then_there (λ p. sum_told t rows (min (start + p) 1001) ks) (parts_told t rows k) row h
    (λ p is later.
    let rest = sum_is t cons rows told depth few ks others (min (start + p) 1001) row b later in
    let own = ty_told t cons rows told depth few one p (sym (ap (option_and_then (ty_parts rows)) a) ∙ is) in
    let cap = capped start p rest.0 1001 (omega arith) in
    (p + rest.0, rest.1 ∙ cap, ap (λ n. min n (depth + 1)) (sum_by-cons (parts (type_table t) cons depth) one others) ∙ sums_agree (parts (type_table t) cons depth one) p (sum_by (parts (type_table t) cons depth) others) rest.0 (depth + 1) own rest.2)))

pub sum_then : (t : Tables) (rows : List ℕ) (start : ℕ) (ks js : List Kind) (now : ℕ) → sum_told t rows start ks ≡ Some now
    → sum_told t rows start (ks ++ js) ≡ sum_told t rows now js
sum_then t rows start [] js now e = ap (λ s. sum_told t rows s js) (same_Some start now e)
sum_then t rows start (k ∷ ks) js now e = by (parts_told t rows k) e (λ p h. sum_then t rows (min (start + p) 1001) ks js now h)
  where
    by : (o : Option ℕ) → option_and_then (λ p. sum_told t rows (min (start + p) 1001) ks) o ≡ Some now
        → ((p : ℕ) → sum_told t rows (min (start + p) 1001) ks ≡ Some now → sum_told t rows (min (start + p) 1001) (ks ++ js) ≡ sum_told t rows now js)
        → option_and_then (λ p. sum_told t rows (min (start + p) 1001) (ks ++ js)) o ≡ sum_told t rows now js
    by None e later = absurd cc
    by (Some p) e later = later p e

pub get_end : {X : Type 0} (xs : List X) (x : X) → slice_get (xs ++ x ∷ []) (length xs) ≡ Some x
get_end [] x = refl
get_end (y ∷ xs) x = get_end xs x

pub at_drop : {X : Type 0} (xs : List X) (i : ℕ) (x : X) (rest : List X) → drop i xs ≡ x ∷ rest → slice_get xs i ≡ Some x
at_drop [] zero x rest e = absurd cc
at_drop [] (suc i) x rest e = absurd cc
at_drop (y ∷ xs) zero x rest e = ap (λ ys. slice_get ys 0) e
at_drop (y ∷ xs) (suc i) x rest e = at_drop xs i x rest e

-- of the next datatype
next_told : (t : Tables) (cons : ConTable) (rows : List ℕ) (k : Kind) (row : ℕ) → con_table t ≡ Some cons → IsTold t cons rows
    → slice_get t.datatypes (length rows) ≡ Some k → sum_told t rows 1 (means.inside t.names k) ≡ Some row
    → (depth : ℕ) → depth ≤ 1000 → Agree (depth + 1) (parts (type_table t) cons depth (ty.Datatype (length rows))) row
next_told t cons rows k row table told at is zero few =
    let whole = parts_are t cons (length rows) k 0 table at in
    let sum_ = sum_is t cons rows told 0 (omega arith) (means.inside t.names k) whole.0 1 row whole.1 is in
    at_least row sum_.0 sum_.1
  where
    at_least : (row total : ℕ) → Agree 1001 row (1 + total) → Agree (0 + 1) 1 row
    at_least row total e = grind arith
next_told t cons rows k row table told at is (suc depth) few =
    let whole = parts_are t cons (length rows) k depth table at in
    let sum_ = sum_is t cons rows told depth (omega (arith, few)) (means.inside t.names k) whole.0 1 row whole.1 is in
    one_more (sum_by (parts (type_table t) cons depth) whole.0) sum_.0 row depth (parts (type_table t) cons (suc depth) (ty.Datatype (length rows)))
    few whole.2 sum_.1 sum_.2
  where
    one_more : (a b row depth p : ℕ) → suc depth ≤ 1000 → p ≡ 1 + a → Agree 1001 row (1 + b) → Agree (depth + 1) a b → Agree (suc depth + 1) p row
    one_more a b row depth p few e h g = grind arith

-- with one datatype more
pub told_more : (t : Tables) (cons : ConTable) (rows : List ℕ) (k : Kind) (row : ℕ) → con_table t ≡ Some cons → IsTold t cons rows
    → slice_get t.datatypes (length rows) ≡ Some k → sum_told t rows 1 (means.inside t.names k) ≡ Some row → IsTold t cons (rows ++ row ∷ [])
told_more t cons rows k row table told at is j x there depth few = elim (get_last rows row j x there) [
  | inl before ↦ told j x before depth few
  | inr last ↦ subst (λ z. Agree (depth + 1) (parts (type_table t) cons depth (ty.Datatype j)) z) last.1
      (subst (λ m. Agree (depth + 1) (parts (type_table t) cons depth (ty.Datatype m)) row) (sym last.0)
      (next_told t cons rows k row table told at is depth few))
]

pub told_none : (t : Tables) (cons : ConTable) → IsTold t cons []
told_none t cons j x there = no_some x there

-- # The limit

few_are : (t : Tables) (cons : ConTable) (rows : List ℕ) (m x : ℕ) → IsTold t cons rows → slice_get rows m ≡ Some x
    → has_few_parts (type_table t) cons m ≡ nat_le x 1000
few_are t cons rows m x told at = by (parts (type_table t) cons 1000 (ty.Datatype m)) (told m x at 1000 (omega arith))
  where
    by : (p : ℕ) → Agree 1001 p x → nat_le p 1000 ≡ nat_le x 1000
    by p e = grind arith

decls_long : (n : Names) (next : ℕ) (ks : List Kind) → length (data_decls n next ks) ≡ length ks
decls_long n next [] = refl
decls_long n next (k ∷ ks) = ap suc (decls_long n (next + length (spec.cons_of n k)) ks)

pub within_step : (t : Tables) (cons : ConTable) (rows : List ℕ) (i x : ℕ) (few : Bool) → IsTold t cons rows → slice_get rows i ≡ Some x → i < length t.datatypes
    → ((few && nat_le x 1000) && are_within_parts (type_table t) cons (i + 1) (drop (i + 1) (type_table t).datatypes))
    ≡ (few && are_within_parts (type_table t) cons i (drop i (type_table t).datatypes))
within_step t cons rows i x few told at lt =
    let decls = (type_table t).datatypes in
    let none : DataDecl = record { name = []; cons = [] } in
    let rest : drop i decls ≡ get_or decls i none ∷ drop (i + 1) decls = drop_more decls i none (omega (arith, lt, decls_long t.names 0 t.datatypes)) in
    turned few (nat_le x 1000) (are_within_parts (type_table t) cons (i + 1) (drop (i + 1) decls))
    ∙ ap (λ b. few && (b && are_within_parts (type_table t) cons (i + 1) (drop (i + 1) decls))) (sym (few_are t cons rows i x told at))
    ∙ ap (λ ds. few && are_within_parts (type_table t) cons i ds) (sym rest)
  where
    turned : (a b c : Bool) → ((a && b) && c) ≡ (a && (b && c))
    turned true b c = refl
    turned false b c = refl

pub within_end : (t : Tables) (cons : ConTable) (i : ℕ) (few : Bool) → length t.datatypes ≤ i
    → (few && are_within_parts (type_table t) cons i (drop i (type_table t).datatypes)) ≡ few
within_end t cons i few past =
    ap (λ ds. few && are_within_parts (type_table t) cons i ds) (drop_past (type_table t).datatypes i (omega (arith, past, decls_long t.names 0 t.datatypes)))
    ∙ same few
  where
    same : (b : Bool) → (b && true) ≡ b
    same true = refl
    same false = refl

pub inside_are : (n : Names) (k : Kind) (o : Option (List Case)) → cases_of n k ≡ o → means.inside n k ≡ means.fields_of (unwrap_or o [])
inside_are n k o e = ap (λ o. means.fields_of (unwrap_or o [])) e
