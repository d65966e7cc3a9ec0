-- Lists that are gone through, and what of them is in sight.
use Rattle.std.proofs.Common.{◌≡◌, ℕ, zero, suc, ◌+◌, ◌<◌, Bool, true, false, ◌||◌, List, [], ◌∷◌, ◌++◌, length, take, drop, get_or, Option, Some, None, refl, sym, ap, ◌∙◌, append_assoc, append-nil, arith, true≢false}
use Rattle.std.specs.List.{slice_get}
use Rattle.std.specs.Option.{is_some, unwrap_or}
use Rattle.std.specs.Prelude.{if◌then◌else◌}
use Rattle.std.proofs.lemmas.List.{drop_more}
use Rattle.std.proofs.lemmas.Cmp.{nat_list_eq_equiv}
use Rattle.rp_grammar.specs.Trees.{Ident}
use Rattle.type_rules.specs.declared.kind.Kind.{Kind}
use Rattle.type_rules.specs.Names.{Name, is_among, same_name}
use Rattle.type_rules.specs.Accesses.{Var}
use Rattle.type_rules.specs.Matches.{bound_var, first_kind, other_kinds, with_bound}
use Rattle.type_rules.specs.Flow.{with_value}
use Rattle.type_tables.specs.Variables.{give_last}
use Rattle.type_tables.specs.Tables.{Entries, Table, number_in, with_first}
use Rattle.type_tables.proofs.Places.{first_at, same}
use Rattle.type_tables.specs.Counts.{IsCounted, count_in}
use Rattle.type_tables.specs.Flags.{flag_at}
use Rattle.type_tables.specs.Marks.{IsMarked}
use Rattle.type_terms.specs.Views.{IsTableOf}

-- the next of a list
pub next_in : {X Y : Type 0} (f : List X → Y) (xs : List X) (i : ℕ) (x : X) → i < length xs → x ≡ get_or xs i x
    → f (drop i xs) ≡ f (x ∷ drop (i + 1) xs)
next_in f xs i x h e = ap f (drop_more xs i x h) ∙ ap (λ y. f (y ∷ drop (i + 1) xs)) (sym e)

pub take_front : {X : Type 0} (xs ys : List X) → take (length xs) (xs ++ ys) ≡ xs
take_front [] ys = refl
take_front (x ∷ xs) ys = ap (λ l. x ∷ l) (take_front xs ys)

-- the kinds behind the first of those from a place on
pub other_drop : (ks : List Kind) (i m : ℕ) → m ≡ i + 1 → other_kinds (drop i ks) ≡ drop m ks
other_drop [] zero zero e = absurd (omega arith)
other_drop [] zero (suc m) e = refl
other_drop [] (suc i) zero e = absurd (omega arith)
other_drop [] (suc i) (suc m) e = refl
other_drop (k ∷ ks) zero zero e = absurd (omega arith)
other_drop (k ∷ ks) zero (suc zero) e = refl
other_drop (k ∷ ks) zero (suc (suc m)) e = absurd (omega arith)
other_drop (k ∷ ks) (suc i) zero e = absurd (omega arith)
other_drop (k ∷ ks) (suc i) (suc m) e = other_drop ks i m (omega arith)

-- # Variables of a pattern

-- they stand behind those that were in sight before
pub bound_behind : (vs : List Var) (xs : List Ident) (ks : List Kind) → (more : List Var) × (with_bound vs xs ks ≡ vs ++ more)
bound_behind vs [] ks = ([], sym (append-nil vs))
bound_behind vs (x ∷ xs) ks =
    let later = bound_behind (vs ++ bound_var x (first_kind ks) ∷ []) xs (other_kinds ks) in
    (bound_var x (first_kind ks) ∷ later.0, later.1 ∙ append_assoc vs (bound_var x (first_kind ks) ∷ []) later.0)

pub bound_gone : (vs : List Var) (xs : List Ident) (ks : List Kind) → take (length vs) (with_bound vs xs ks) ≡ vs
bound_gone vs xs ks =
    let behind = bound_behind vs xs ks in ap (take (length vs)) behind.1 ∙ take_front vs behind.0

-- # Tables of names

-- with a name more
pub table_more : (es after : Entries) (names : List Name) (y : Name) (k : ℕ) → IsTableOf es names
    → number_in after ≡ with_first (number_in es) y k → IsTableOf after (y ∷ names)
table_more es after names y k table given x =
    ap (λ (t : Table). is_some (t x)) given ∙ ap is_some (first_at (number_in es) y k x) ∙ by (number_in es y) refl (same_name y x) refl
  where
    t : Table
    t = number_in es

    or_true : (b : Bool) → (b || true) ≡ true
    or_true true = refl
    or_true false = refl

    alike : same_name y x ≡ same_name x y
    alike = nat_list_eq_equiv.symm y x

    by : (o : Option ℕ) → t y ≡ o → (b : Bool) → same_name y x ≡ b
        → is_some (if is_some o then t x else (if b then Some k else t x)) ≡ (same_name x y || is_among x names)
    by (Some q) e true h = ap is_some (ap t (sym (same y x h)) ∙ e) ∙ ap (λ b. b || is_among x names) (sym h ∙ alike)
    by None e true h = ap (λ b. b || is_among x names) (sym h ∙ alike)
    by (Some q) e false h = table x ∙ ap (λ b. b || is_among x names) (sym h ∙ alike)
    by None e false h = table x ∙ ap (λ b. b || is_among x names) (sym h ∙ alike)

pub no_names : {es : Entries} → es ≡ [] → IsTableOf es []
no_names e x = ap (λ (es : Entries). is_some (number_in es x)) e

-- the table has the names so far; with the rest it has all
pub record TableSo (table : Entries) (rest all : List Name) : Type 0 where
  pub names : List Name
  pub table_is : IsTableOf table names
  pub whole : (x : Name) → (is_among x names || is_among x rest) ≡ is_among x all

pub table_started : {table : Entries} {all : List Name} → table ≡ [] → TableSo table all all
table_started e = record { names = []; table_is = no_names e; whole = λ x. refl }

pub table_next : {table after : Entries} {y : Name} {rest all : List Name} → TableSo table (y ∷ rest) all
    → number_in after ≡ with_first (number_in table) y 0 → TableSo after rest all
table_next {table} {after} {y} {rest} {all} v given = record {
  names = y ∷ v.names;
  table_is = table_more table after v.names y 0 v.table_is given;
  whole = λ x. by (same_name x y) (is_among x v.names) (is_among x rest) ∙ v.whole x;
}
  where
    by : (a b c : Bool) → ((a || b) || c) ≡ (b || (a || c))
    by true true c = refl
    by true false c = refl
    by false b c = refl

pub table_ended : {table : Entries} {rest all : List Name} → TableSo table rest all → rest ≡ [] → IsTableOf table all
table_ended {table} {rest} {all} v e x =
    v.table_is x ∙ or_false (is_among x v.names) ∙ ap (λ l. is_among x v.names || is_among x l) (sym e) ∙ v.whole x
  where
    or_false : (b : Bool) → b ≡ (b || false)
    or_false true = refl
    or_false false = refl

-- the last variable has a value now
pub last_given : (vs : List Var) (v : Var) → give_last (vs ++ v ∷ []) ≡ vs ++ with_value v ∷ []
last_given [] v = refl
last_given (u ∷ []) v = refl
last_given (u ∷ w ∷ vs) v = ap (λ l. u ∷ l) (last_given (w ∷ vs) v)

pub drop_read : {X : Type 0} (xs : List X) (k m : ℕ) (x : X) → m ≡ k + 1 → slice_get xs k ≡ Some x → drop k xs ≡ x ∷ drop m xs
drop_read [] k m x e h = absurd (true≢false (sym (ap is_some h)))
drop_read (y ∷ xs) zero zero x e h = absurd (omega arith)
drop_read (y ∷ xs) zero (suc zero) x e h = ap (λ o. unwrap_or o y ∷ xs) h
drop_read (y ∷ xs) zero (suc (suc m)) x e h = absurd (omega arith)
drop_read (y ∷ xs) (suc k) zero x e h = absurd (omega arith)
drop_read (y ∷ xs) (suc k) (suc m) x e h = drop_read xs k m x (omega arith) h

-- # Nothing yet

pub none_flagged : {flags : List Bool} → flags ≡ [] → IsMarked flags []
none_flagged e k = ap (λ l. flag_at l k) e

pub none_counted : {es : Entries} → es ≡ [] → IsCounted es []
none_counted e x = ap (λ l. count_in l x) e
