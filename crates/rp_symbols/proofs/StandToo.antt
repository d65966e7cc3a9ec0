-- Where the relations and functions of a program's signature stand.
use Rattle.std.proofs.Common.{◌≡◌, ℕ, zero, suc, ◌+◌, ◌*◌, ◌-◌, ◌<◌, ◌≤◌, nat_lt, Bool, true, false, if◌then◌else◌, List, [], ◌∷◌, ◌++◌, length, map, filter, take, replicate, Some, slice_get, refl, sym, ap, ap₂, ◌∙◌, append_assoc, length-append, le-ltb, arith}
use Rattle.std.proofs.Math.Nat.{suc-mul}
use Rattle.std.proofs.lemmas.List.{length-map, length-replicate}
use Rattle.std.proofs.lemmas.List.Sums.{length-filter}
use Rattle.std.proofs.lemmas.Option.{none-some, same_Some}
use Rattle.rp_value.specs.declared.tables.AtomType.{AtomType}
use Rattle.rp_lang.specs.declared.query.QueryDecl.{QueryDecl}
use Rattle.rp_lang.specs.Typing.{is_get}
use Rattle.rp_lang.specs.Programs.{Prog}
use Rattle.rp_logic.specs.declared.sort.FnDecl.{FnDecl}
use Rattle.rp_symbols.specs.Numbers.{call_sort, inv_sort, atom_sort, ids, gets, id_rel, seen_rel, read_rel, added_rel, view_place, val_fn}
use Rattle.rp_symbols.specs.Signatures.{sort_of, id_decls, set_decl, set_decls, rel_decls, fn_of, val_decls, val_decls_at, fn_decls}
use Rattle.rp_symbols.proofs.LookUps.{get-front, get-behind, get-mapped}

-- # Relations of identifiers

abbrev ids_of : ℕ → List (List ℕ)
ids_of ty = (call_sort ∷ atom_sort ty ∷ []) ∷ (inv_sort ∷ atom_sort ty ∷ []) ∷ (inv_sort ∷ atom_sort ty ∷ []) ∷ []

abbrev named : List AtomType → List AtomType
named atoms = filter (λ (atom : AtomType). atom.is_id) atoms

ids-count : (ty : ℕ) (atoms : List AtomType) → length (id_decls ty atoms) ≡ 3 * length (named atoms)
ids-count ty [] = refl
ids-count ty (atom ∷ atoms) = go atom.is_id (ids-count (suc ty) atoms)
  where
    go : (b : Bool) → length (id_decls (suc ty) atoms) ≡ 3 * length (named atoms)
        → length ((if b then ids_of ty else []) ++ id_decls (suc ty) atoms) ≡ 3 * length (if b then atom ∷ named atoms else named atoms)
    go true r = omega (arith, r)
    go false r = r

first-three : (a b c : List ℕ) (rest : List (List ℕ)) (kind : ℕ) → kind < 3 → slice_get (a ∷ b ∷ c ∷ rest) kind ≡ slice_get (a ∷ b ∷ c ∷ []) kind
first-three a b c rest zero l = refl
first-three a b c rest (suc zero) l = refl
first-three a b c rest (suc (suc zero)) l = refl
first-three a b c rest (suc (suc (suc k))) l = absurd (omega (arith, l))

three-more : (m kind : ℕ) → 3 * suc m + kind ≡ suc (suc (suc (3 * m + kind)))
three-more m kind = omega arith

id-at : (ty : ℕ) (atoms : List AtomType) (rest : List (List ℕ)) (j kind : ℕ) (atom : AtomType) → slice_get atoms j ≡ Some atom → atom.is_id ≡ true → kind < 3
    → slice_get (id_decls ty atoms ++ rest) (3 * length (named (take j atoms)) + kind) ≡ slice_get (ids_of (ty + j)) kind
id-at ty [] rest j kind atom a e l = absurd (none-some atom a)
id-at ty (first ∷ atoms) rest zero kind atom a e l =
    let is : first.is_id ≡ true = ap (λ (x : AtomType). x.is_id) (same_Some first atom a) ∙ e in
    ap (λ b. slice_get (((if b then ids_of ty else []) ++ id_decls (suc ty) atoms) ++ rest) (3 * 0 + kind)) is
    ∙ (ap (slice_get ((ids_of ty ++ id_decls (suc ty) atoms) ++ rest)) (let q : 3 * 0 + kind ≡ kind = omega arith in q)
    ∙ (first-three _ _ _ (id_decls (suc ty) atoms ++ rest) kind l ∙ ap (λ t. slice_get (ids_of t) kind) (let q : ty ≡ ty + 0 = omega arith in q)))
id-at ty (first ∷ atoms) rest (suc j) kind atom a e l =
    go first.is_id (id-at (suc ty) atoms rest j kind atom a e l ∙ ap (λ t. slice_get (ids_of t) kind) (let q : suc ty + j ≡ ty + suc j = omega arith in q))
  where
    go : (b : Bool) → slice_get (id_decls (suc ty) atoms ++ rest) (3 * length (named (take j atoms)) + kind) ≡ slice_get (ids_of (ty + suc j)) kind
        → slice_get (((if b then ids_of ty else []) ++ id_decls (suc ty) atoms) ++ rest) (3 * length (if b then first ∷ named (take j atoms) else named (take j atoms)) + kind)
        ≡ slice_get (ids_of (ty + suc j)) kind
    go true r =
        ap (slice_get ((ids_of ty ++ id_decls (suc ty) atoms) ++ rest)) (three-more (length (named (take j atoms))) kind) ∙ r
    go false r = r

nine : (n : ℕ) → 9 + n ≡ suc (suc (suc (suc (suc (suc (suc (suc (suc n))))))))
nine n = omega arith

pub id-stands : (p : Prog) (begins ty kind : ℕ) (atom : AtomType) → slice_get p.types.atoms ty ≡ Some atom → atom.is_id ≡ true → kind < 3
    → slice_get (rel_decls p begins) (id_rel p ty kind) ≡ slice_get (ids_of ty) kind
id-stands p begins ty kind atom a e l =
    let c = length-filter (λ (atom : AtomType). atom.is_id) (take ty p.types.atoms) in
    ap (slice_get (rel_decls p begins)) (nine (3 * ids (take ty p.types.atoms) + kind))
    ∙ (ap (λ n. slice_get (id_decls 0 p.types.atoms ++ set_decls (begins + begins)) (3 * n + kind)) (sym c)
    ∙ (id-at 0 p.types.atoms (set_decls (begins + begins)) ty kind atom a e l ∙ ap (λ t. slice_get (ids_of t) kind) (let q : 0 + ty ≡ ty = omega arith in q)))

-- # Relations of views

replicated : {A : Type 0} (n i : ℕ) (x : A) → i < n → slice_get (replicate n x) i ≡ Some x
replicated zero i x l = absurd (omega (arith, l))
replicated (suc n) zero x l = refl
replicated (suc n) (suc i) x l = replicated n i x (omega (arith, l))

behind-ids : (p : Prog) (begins j : ℕ) → j < begins + begins → slice_get (rel_decls p begins) (9 + (3 * ids p.types.atoms + j)) ≡ Some set_decl
behind-ids p begins j l =
    let c : length (id_decls 0 p.types.atoms) ≡ 3 * ids p.types.atoms = ids-count 0 p.types.atoms ∙ ap (λ n. 3 * n) (length-filter (λ (atom : AtomType). atom.is_id) p.types.atoms) in
    ap (slice_get (rel_decls p begins)) (nine (3 * ids p.types.atoms + j))
    ∙ (get-behind (id_decls 0 p.types.atoms) (set_decls (begins + begins)) (3 * ids p.types.atoms) j c ∙ replicated (begins + begins) j set_decl l)

pub seen-stands : (p : Prog) (begins k : ℕ) → k < begins → slice_get (rel_decls p begins) (seen_rel p k) ≡ Some set_decl
seen-stands p begins k l = behind-ids p begins (k + k) (omega (arith, l))

pub read-stands : (p : Prog) (begins k : ℕ) → k < begins → slice_get (rel_decls p begins) (read_rel p k) ≡ Some set_decl
read-stands p begins k l = behind-ids p begins (suc (k + k)) (omega (arith, l))

-- the reading sets that a path adds
pub added-stands : (p : Prog) (begins reads j : ℕ) → j < reads → slice_get (rel_decls p begins ++ set_decls reads) (added_rel p begins j) ≡ Some set_decl
added-stands p begins reads j l =
    let rels = id_decls 0 p.types.atoms ++ set_decls (begins + begins) in
    let c : length (id_decls 0 p.types.atoms) ≡ 3 * ids p.types.atoms = ids-count 0 p.types.atoms ∙ ap (λ n. 3 * n) (length-filter (λ (atom : AtomType). atom.is_id) p.types.atoms) in
    let s : length (set_decls (begins + begins)) ≡ begins + begins = length-replicate (begins + begins) set_decl in
    let long : length rels ≡ 3 * ids p.types.atoms + (begins + begins) = length-append (id_decls 0 p.types.atoms) (set_decls (begins + begins)) ∙ ap₂ (λ a b. a + b) c s in
    ap (slice_get (rel_decls p begins ++ set_decls reads)) (nine (3 * ids p.types.atoms + (begins + begins + j)))
    ∙ (ap (slice_get (rels ++ set_decls reads)) (let q : 3 * ids p.types.atoms + (begins + begins + j) ≡ 3 * ids p.types.atoms + (begins + begins) + j = omega arith in q)
    ∙ (get-behind rels (set_decls reads) (3 * ids p.types.atoms + (begins + begins)) j long ∙ replicated reads j set_decl l))

-- # The place of a view among the views

abbrev chosen : Bool → Bool → Bool → ℕ → ℕ
chosen a b c n = if a then 0 else if b then 1 else if c then 2 else n

late : (n m : ℕ) → n ≤ m → nat_lt m n ≡ false
late n m l = le-ltb m n l

pub view-place : (p : Prog) (m j : ℕ) → m ≡ 3 * ids p.types.atoms + j → view_place p (9 + m) ≡ suc (suc (suc j))
view-place p m j e =
    let r : 9 + m - 9 - 3 * ids p.types.atoms + 3 ≡ suc (suc (suc j)) = omega (arith, e) in
    ap (λ a. chosen a (nat_lt (9 + m) 8) (nat_lt (9 + m) 9) (9 + m - 9 - 3 * ids p.types.atoms + 3)) (late 1 (9 + m) (omega arith))
    ∙ (ap (λ b. chosen false b (nat_lt (9 + m) 9) (9 + m - 9 - 3 * ids p.types.atoms + 3)) (late 8 (9 + m) (omega arith))
    ∙ (ap (λ c. chosen false false c (9 + m - 9 - 3 * ids p.types.atoms + 3)) (late 9 (9 + m) (omega arith)) ∙ r))

-- # Functions of queries

abbrev getting : List QueryDecl → List QueryDecl
getting queries = filter (λ (query : QueryDecl). is_get query.kind) queries

abbrev val_decl : Prog → QueryDecl → FnDecl
val_decl p query = fn_of (map (sort_of p) query.args) (sort_of p query.result)

filtered : (queries : List QueryDecl) (j : ℕ) (query : QueryDecl) → slice_get queries j ≡ Some query → is_get query.kind ≡ true
    → slice_get (getting queries) (length (getting (take j queries))) ≡ Some query
filtered [] j query a g = absurd (none-some query a)
filtered (first ∷ queries) zero query a g =
    let same = same_Some first query a in
    ap (λ b. slice_get (if b then first ∷ getting queries else getting queries) 0) (ap (λ (q : QueryDecl). is_get q.kind) same ∙ g) ∙ ap (λ q. Some q) same
filtered (first ∷ queries) (suc j) query a g = go (is_get first.kind) (filtered queries j query a g)
  where
    go : (b : Bool) → slice_get (getting queries) (length (getting (take j queries))) ≡ Some query
        → slice_get (if b then first ∷ getting queries else getting queries) (length (if b then first ∷ getting (take j queries) else getting (take j queries))) ≡ Some query
    go true r = r
    go false r = r

pub one-block : (n g i : ℕ) → suc n * g + i ≡ g + (n * g + i)
one-block n g i = go (n * g) (suc n * g) (suc-mul n g)
  where
    go : (a b : ℕ) → b ≡ a + g → b + i ≡ g + (a + i)
    go a b e = omega (arith, e)

pub no-block : (g i : ℕ) → 0 * g + i ≡ i
no-block g i = omega arith

in-blocks : (p : Prog) (n place i : ℕ) (decl : FnDecl) → place < n → slice_get (val_decls p) i ≡ Some decl → slice_get (val_decls_at p n) (place * gets p.queries + i) ≡ Some decl
in-blocks p zero place i decl l e = absurd (omega (arith, l))
in-blocks p (suc n) zero i decl l e =
    ap (slice_get (val_decls p ++ val_decls_at p n)) (no-block (gets p.queries) i) ∙ get-front (val_decls p) (val_decls_at p n) i decl e
in-blocks p (suc n) (suc place) i decl l e =
    let c : length (val_decls p) ≡ gets p.queries = length-map (getting p.queries) _ ∙ length-filter (λ (query : QueryDecl). is_get query.kind) p.queries in
    ap (slice_get (val_decls p ++ val_decls_at p n)) (one-block place (gets p.queries) i)
    ∙ (get-behind (val_decls p) (val_decls_at p n) (gets p.queries) (place * gets p.queries + i) c ∙ in-blocks p n place i decl (omega (arith, l)) e)

seven : (a b : ℕ) → 7 + a + b ≡ suc (suc (suc (suc (suc (suc (suc (a + b)))))))
seven a b = omega arith

blocks-join : (p : Prog) (m r k : ℕ) → m + r ≡ k → val_decls_at p m ++ val_decls_at p r ≡ val_decls_at p k
blocks-join p zero r k e = ap (val_decls_at p) (let q : r ≡ k = omega (arith, e) in q)
blocks-join p (suc m) r zero e = absurd (omega (arith, e))
blocks-join p (suc m) r (suc k) e = append_assoc (val_decls p) (val_decls_at p m) (val_decls_at p r) ∙ ap (λ ds. val_decls p ++ ds) (blocks-join p m r k (omega (arith, e)))

-- with those at the reading sets that a path adds
pub values-with : (p : Prog) (begins reads view n : ℕ) (query : QueryDecl) → slice_get p.queries n ≡ Some query → is_get query.kind ≡ true
    → view_place p view < 3 + (begins + begins) + reads
    → slice_get (fn_decls p begins ++ val_decls_at p reads) (val_fn p view n) ≡ Some (fn_of (map (sort_of p) query.args) (sort_of p query.result))
values-with p begins reads view n query a g l =
    let i = length-filter (λ (query : QueryDecl). is_get query.kind) (take n p.queries) in
    let place = view_place p view * gets p.queries + gets (take n p.queries) in
    ap (slice_get (fn_decls p begins ++ val_decls_at p reads)) (seven (view_place p view * gets p.queries) (gets (take n p.queries)))
    ∙ (ap (λ ds. slice_get ds place) (blocks-join p (3 + (begins + begins)) reads (3 + (begins + begins) + reads) refl)
    ∙ in-blocks p (3 + (begins + begins) + reads) (view_place p view) (gets (take n p.queries)) (val_decl p query) l
    (ap (slice_get (val_decls p)) (sym i) ∙ get-mapped (val_decl p) (getting p.queries) (length (getting (take n p.queries))) query (filtered p.queries n query a g)))

pub values-stand : (p : Prog) (begins view n : ℕ) (query : QueryDecl) → slice_get p.queries n ≡ Some query → is_get query.kind ≡ true → view_place p view < 3 + (begins + begins)
    → slice_get (fn_decls p begins) (val_fn p view n) ≡ Some (fn_of (map (sort_of p) query.args) (sort_of p query.result))
values-stand p begins view n query a g l =
    let i = length-filter (λ (query : QueryDecl). is_get query.kind) (take n p.queries) in
    ap (slice_get (fn_decls p begins)) (seven (view_place p view * gets p.queries) (gets (take n p.queries)))
    ∙ in-blocks p (3 + (begins + begins)) (view_place p view) (gets (take n p.queries)) (val_decl p query) l
    (ap (slice_get (val_decls p)) (sym i) ∙ get-mapped (val_decl p) (getting p.queries) (length (getting (take n p.queries))) query (filtered p.queries n query a g))
