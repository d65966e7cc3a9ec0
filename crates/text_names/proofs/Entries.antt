-- Names of a text, declaration by declaration.
use Rattle.std.proofs.Common.{◌≡◌, ℕ, zero, suc, ◌+◌, ◌<◌, ◌≤◌, Bool, true, false, ◌&&◌, ◌||◌, List, [], ◌∷◌, ◌++◌, length, map, take, drop, get_or, Option, Some, None, Result, Ok, Err, refl, sym, ap, ◌∙◌, subst, append_assoc, append-nil, arith, true≢false}
use Rattle.std.specs.Prelude.{if◌then◌else◌, IfOk}
use Rattle.std.specs.List.{list_any, slice_get}
use Rattle.std.specs.Option.{is_some, option_and_then, option_map, unwrap_or}
use Rattle.std.proofs.lemmas.List.{length-append, map-append, take_more}
use Rattle.std.proofs.lemmas.List.Folds.{list_any-append}
use Rattle.std.proofs.lemmas.Option.{slice_get-map}
use Rattle.rp_grammar.specs.Trees.{Ident, ConTree, DeclTree}
use Rattle.rp_ast.specs.declared.decl.ConNode.{ConNode}
use Rattle.rp_ast.specs.View.{con_view}
use Rattle.type_rules.specs.Names.{Name, Names, Entry, TypeSort, same_name, con_entry, type_entry, first_type, type_number_from, types_in, types_from, entries_in, entries_from}
use Rattle.type_rules.specs.Queries.{declared_names}
use Rattle.type_rules.specs.Rules.{is_no_con, is_taken_by}
use Rattle.type_tables.specs.Tables.{Entries, Table, number_in, place_from, with_first}
use Rattle.type_tables.proofs.Places.{first_at, first_seen, same}
use Rattle.text_names.specs.declared.declared.TypeItem.{TypeItem}
use Rattle.text_names.specs.declared.declared.Item.{Item}
use Rattle.text_names.specs.Views.{item_view, type_item_view}

-- # Types by their names

pub type_place : (k : ℕ) (types : List TypeItem) (x : Name)
    → place_from k (map (λ t. t.name.now) types) x ≡ type_number_from k (map type_item_view types) x
type_place k [] x = refl
type_place k (t ∷ types) x = ap (λ o. if same_name t.name.now x then Some k else o) (type_place (k + 1) types x)

get_view : {X Y : Type 0} (view : X → Y) (xs : List X) (o : Option ℕ)
    → option_and_then (slice_get (map view xs)) o ≡ option_map view (option_and_then (slice_get xs) o)
get_view view xs None = refl
get_view view xs (Some k) = slice_get-map view xs k

pub named_type : (types : List TypeItem) (x : Name)
    → option_and_then (slice_get (map type_item_view types)) (type_number_from 0 (map type_item_view types) x)
    ≡ first_type (map type_item_view types) x
named_type types x =
    ap (option_and_then (slice_get (map type_item_view types))) (sym (type_place 0 types x))
    ∙ get_view type_item_view types (place_from 0 (map (λ t. t.name.now) types) x)
    ∙ first_seen (λ t. t.name.now) type_item_view first_type (λ x. refl) (λ v ys x. refl) types x

-- # Names that are taken

taken_at : (x y : Name) (t : Table) (n : ℕ) → is_some (with_first t y n x) ≡ (is_some (t x) || (same_name y x && true))
taken_at x y t n = ap is_some (first_at t y n x) ∙ by (t y) refl (same_name y x) refl
  where
    or_false : (b : Bool) → b ≡ (b || false)
    or_false true = refl
    or_false false = refl

    or_true : (b : Bool) → true ≡ (b || true)
    or_true true = refl
    or_true false = refl

    by : (o : Option ℕ) → t y ≡ o → (b : Bool) → same_name y x ≡ b
        → is_some (if is_some o then t x else (if b then Some n else t x)) ≡ (is_some (t x) || (b && true))
    by (Some k) e true h = ap is_some (ap t (sym (same y x h)) ∙ e) ∙ or_true (is_some (t x))
    by None e true h = or_true (is_some (t x))
    by (Some k) e false h = or_false (is_some (t x))
    by None e false h = or_false (is_some (t x))

pub taken_more : (items : List Item) (item : Item) (taken after : Entries) (n : ℕ)
    → ((x : Name) → is_some (number_in taken x) ≡ list_any (is_taken_by x) (map item_view items))
    → number_in after
    ≡ (if is_no_con (item_view item).what then with_first (number_in taken) item.name.now n else number_in taken)
    → (x : Name) → is_some (number_in after x) ≡ list_any (is_taken_by x) (map item_view (items ++ item ∷ []))
taken_more items item taken after n found given x =
    let own : is_some (number_in after x) ≡ (is_some (number_in taken x) || (is_taken_by x (item_view item) || false)) =
    ap (λ (t : Table). is_some (t x)) given ∙ by (is_no_con (item_view item).what) (number_in taken) in
    let all : list_any (is_taken_by x) (map item_view (items ++ item ∷ []))
    ≡ (list_any (is_taken_by x) (map item_view items) || (is_taken_by x (item_view item) || false)) =
    ap (list_any (is_taken_by x)) (map-append item_view items (item ∷ []))
    ∙ list_any-append (is_taken_by x) (map item_view items) (item_view item ∷ []) in
    own ∙ ap (λ b. b || (is_taken_by x (item_view item) || false)) (found x) ∙ sym all
  where
    or_false : (a b : Bool) → (a || b) ≡ (a || (b || false))
    or_false true b = refl
    or_false false true = refl
    or_false false false = refl

    never : (a b : Bool) → a ≡ (a || ((b && false) || false))
    never true b = refl
    never false true = refl
    never false false = refl

    by : (b : Bool) (t : Table)
        → is_some ((if b then with_first t item.name.now n else t) x)
        ≡ (is_some (t x) || ((same_name item.name.now x && b) || false))
    by true t = taken_at x item.name.now t n ∙ or_false (is_some (t x)) (same_name item.name.now x && true)
    by false t = never (is_some (t x)) (same_name item.name.now x)

-- # Constructors

pub cons_next : (n made next : Names) (f : ConTree → Entry) (cs : List ConNode) (i : ℕ) (con : ConNode)
    → made ≡ record n { entries = n.entries ++ map f (map con_view (take i cs)) }
    → next ≡ record made { entries = made.entries ++ f (con_view con) ∷ [] }
    → i < length cs → con ≡ get_or cs i con
    → next ≡ record n { entries = n.entries ++ map f (map con_view (take (i + 1) cs)) }
cons_next n made next f cs i con before step h e =
    let last : map f (map con_view (take (i + 1) cs)) ≡ map f (map con_view (take i cs)) ++ f (con_view con) ∷ [] =
    ap (λ l. map f (map con_view l)) (take_more cs i con h)
    ∙ ap (map f) (map-append con_view (take i cs) (get_or cs i con ∷ []))
    ∙ map-append f (map con_view (take i cs)) (con_view (get_or cs i con) ∷ [])
    ∙ ap (λ c. map f (map con_view (take i cs)) ++ f (con_view c) ∷ []) (sym e) in
    step ∙ ap (λ (m : Names). record m { entries = m.entries ++ f (con_view con) ∷ [] }) before
    ∙ ap (λ es. record n { entries = es })
    (append_assoc n.entries (map f (map con_view (take i cs))) (f (con_view con) ∷ []) ∙ ap (λ es. n.entries ++ es) (sym last))

-- # Declarations

-- these are the names of the first k declarations
pub record IsDeclared (n : Names) (k : ℕ) (tree : List DeclTree) : Type 0 where
  pub types : n.types ++ types_from k (drop k tree) ≡ types_from 0 tree
  pub entries : n.entries ++ entries_from k (length n.types) (drop k tree) ≡ entries_from 0 0 tree
  pub formulas : n.formulas ≡ []

drop_at : {X : Type 0} (xs : List X) (k m : ℕ) (x : X) → m ≡ k + 1 → slice_get xs k ≡ Some x → drop k xs ≡ x ∷ drop m xs
drop_at [] k m x e h = absurd (true≢false (sym (ap is_some h)))
drop_at (y ∷ xs) zero zero x e h = absurd (omega arith)
drop_at (y ∷ xs) zero (suc zero) x e h = ap (λ o. unwrap_or o y ∷ xs) h
drop_at (y ∷ xs) zero (suc (suc m)) x e h = absurd (omega arith)
drop_at (y ∷ xs) (suc k) zero x e h = absurd (omega arith)
drop_at (y ∷ xs) (suc k) (suc m) x e h = drop_at xs k m x (omega arith) h

pub declared_next : (n m : Names) (k : ℕ) (tree : List DeclTree) (d : DeclTree) → IsDeclared n k tree → slice_get tree k ≡ Some d
    → m ≡ record n { types = n.types ++ types_in k d; entries = n.entries ++ entries_in k (length n.types) d }
    → IsDeclared m (k + 1) tree
declared_next n m k tree d before h e =
    let rest = drop (k + 1) tree in
    let split : drop k tree ≡ d ∷ rest = drop_at tree k (k + 1) d refl h in
    let more : length (n.types ++ types_in k d) ≡ length n.types + length (types_in k d) = length-append n.types (types_in k d) in
    subst (λ (m : Names). IsDeclared m (k + 1) tree) (sym e) (record {
      types = append_assoc n.types (types_in k d) (types_from (k + 1) rest)
          ∙ ap (λ ds. n.types ++ types_from k ds) (sym split) ∙ before.types;
      entries = ap (λ j. n.entries ++ entries_in k (length n.types) d ++ entries_from (k + 1) j rest) more
          ∙ append_assoc n.entries (entries_in k (length n.types) d) (entries_from (k + 1) (length n.types + length (types_in k d)) rest)
          ∙ ap (λ ds. n.entries ++ entries_from k (length n.types) ds) (sym split) ∙ before.entries;
      formulas = before.formulas;
    })

pub all_declared : (n : Names) (k : ℕ) (tree : List DeclTree) → IsDeclared n k tree → drop k tree ≡ [] → n ≡ declared_names tree
all_declared n k tree all none =
    let types = sym (append-nil n.types) ∙ ap (λ ds. n.types ++ types_from k ds) (sym none) ∙ all.types in
    let entries =
    sym (append-nil n.entries) ∙ ap (λ ds. n.entries ++ entries_from k (length n.types) ds) (sym none) ∙ all.entries in
    λ i. record { types = types i; entries = entries i; formulas = all.formulas i }

pub drop_past : {X : Type 0} (xs : List X) (n : ℕ) → length xs ≤ n → drop n xs ≡ []
drop_past [] zero h = refl
drop_past [] (suc n) h = refl
drop_past (x ∷ xs) zero h = absurd (omega arith)
drop_past (x ∷ xs) (suc n) h = drop_past xs n (omega arith)

pub nothing_declared : (n : Names) (tree : List DeclTree) → n ≡ declared_names [] → IsDeclared n 0 tree
nothing_declared n tree e =
    subst (λ (n : Names). IsDeclared n 0 tree) (sym e) (record { types = refl; entries = refl; formulas = refl })

-- a datatype is declared behind its constructors
pub datatype_declared : (n made : Names) (k type : ℕ) (x : Ident) (cons slice list : List ConTree)
    → made ≡ record n { entries = n.entries ++ map (con_entry k type) slice } → type ≡ length n.types → slice ≡ cons → list ≡ cons
    → record made { types = made.types ++ type_entry x k (TypeSort.datatype list) }
    ≡ record n {
      types = n.types ++ type_entry x k (TypeSort.datatype cons);
      entries = n.entries ++ map (con_entry k (length n.types)) cons;
    }
datatype_declared n made k type x cons slice list h e s l =
    ap (λ (m : Names). record m { types = m.types ++ type_entry x k (TypeSort.datatype list) }) h
    ∙ (λ i. record n {
      types = n.types ++ type_entry x k (TypeSort.datatype (l i));
      entries = n.entries ++ map (con_entry k (e i)) (s i);
    })

pub if_ok : {X E : Type 0} {P Q : X → Type 0} (r : Result X E) → ((x : X) → P x → Q x) → IfOk r P → IfOk r Q
if_ok (Ok x) f p = f x p
if_ok (Err e) f p = p
