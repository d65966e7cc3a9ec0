-- What the structure of a step gives at calls and invocations.
use Rattle.std.proofs.Common.{◌≡◌, ℕ, zero, suc, ◌+◌, ◌*◌, ◌<◌, Bool, true, false, if◌then◌else◌, List, [], ◌∷◌, ◌++◌, length, filter, take, refl, ap, sym, ◌∙◌, subst, ltb-true, arith, slice_get}
use Rattle.std.specs.declared.option.Option.TheVariants.{Some}
use Rattle.std.proofs.lemmas.List.Sums.{length-filter}
use Rattle.std.proofs.lemmas.Option.{none-some, same_Some}
use Rattle.rp_value.specs.declared.tables.AtomType.{AtomType}
use Rattle.crdt_defs.specs.Fitting.{names_ids}
use Rattle.rp_logic.specs.Signatures.{Signature, is_int, is_str}
use Rattle.rp_logic.specs.Elements.{Elem, Point, Whole, Text, Made}
use Rattle.rp_logic.specs.Structures.{Relation, is_related}
use Rattle.std.proofs.lemmas.Bool.{and_parts}
use Rattle.rp_logic.proofs.SortLaws.{no}
use Rattle.rp_symbols.specs.Numbers.{call_sort, inv_sort}
use Rattle.rp_symbols.specs.Numbers.{ids}
use Rattle.hist_struct.specs.Tables.{one_point, two_points, set_relation, pair_relation}
use Rattle.hist_struct.proofs.TableLaws.{found-at, in-pairs}
use Rattle.hist_struct.specs.Steps.{Step, begins, is_seen, is_read}
use Rattle.hist_struct.specs.Structure.{IsSig, meaning_of, rels_of, id_rels, view_rels, added_rels, rels_of_id}
use Rattle.rp_symbols.specs.Numbers.{seen_rel, read_rel, added_rel, id_rel}
use Rattle.rp_symbols.proofs.LookUps.{get-front}
use Rattle.crdt_enc.specs.FitsParts.{Is}
use Rattle.hist_struct.specs.Conditions.{EachCall, EachInv}

-- # Elements

pub point-of : (S : Signature) (x : Step) → IsSig S → (e : Elem) → Is (meaning_of S x) call_sort e → (c : ℕ) × (e ≡ Point c) × (c < length x.new.calls)
point-of S x g (Point c) h = (c, refl, ltb-true c (length x.new.calls) (and_parts _ _ h).1)
point-of S x g (Whole n) h = no (sym (ap (λ sorts. is_int (slice_get sorts 0)) g.are) ∙ h)
point-of S x g (Text bytes) h = no (sym (ap (λ sorts. is_str (slice_get sorts 0)) g.are) ∙ h)
point-of S x g (Made con args) h = no (sym (g.free con 0 (omega arith)) ∙ (and_parts _ _ h).0)

-- a condition on calls, by their numbers
pub each-call : (S : Signature) (x : Step) → IsSig S → (P : Elem → Type 0) → ((c : ℕ) → c < length x.new.calls → P (Point c)) → EachCall (meaning_of S x) P
each-call S x g P f e i = let k = point-of S x g e i in subst P (sym k.1) (f k.0 k.2)

-- # Sets and pairs

pub get-one : (f : ℕ → Bool) (n c : ℕ) (b : Bool) → c < n → is_related (Some (set_relation f n)) (one_point c) ≡ b → f c ≡ b
get-one f n c b l h = sym (found-at f false n c l) ∙ h

pub put-one : (f : ℕ → Bool) (n c : ℕ) (b : Bool) → c < n → f c ≡ b → is_related (Some (set_relation f n)) (one_point c) ≡ b
put-one f n c b l h = found-at f false n c l ∙ h

pub get-two : (f : ℕ → ℕ → Bool) (n c d : ℕ) (b : Bool) → c < n → d < n → is_related (Some (pair_relation f n)) (two_points c d) ≡ b → f c d ≡ b
get-two f n c d b l m h = sym (in-pairs f n c d l m) ∙ h

pub put-two : (f : ℕ → ℕ → Bool) (n c d : ℕ) (b : Bool) → c < n → d < n → f c d ≡ b → is_related (Some (pair_relation f n)) (two_points c d) ≡ b
put-two f n c d b l m h = in-pairs f n c d l m ∙ h

-- # Numbers of the relations of views

pub get-behind : {A : Type 0} (xs ys : List A) (i n : ℕ) → i ≡ length xs + n → slice_get (xs ++ ys) i ≡ slice_get ys n
get-behind [] ys i n e = ap (slice_get ys) (omega (arith, e))
get-behind (x ∷ xs) ys zero n e = absurd (omega (arith, e))
get-behind (x ∷ xs) ys (suc i) n e = get-behind xs ys i n (omega (arith, e))

count-of : (x : Step) (ty : ℕ) (atoms : List AtomType) → length (id_rels x ty atoms) ≡ 3 * length (filter (λ (atom : AtomType). atom.is_id) atoms)
count-of x ty [] = refl
count-of x ty (atom ∷ atoms) = go atom.is_id (count-of x (suc ty) atoms)
  where
    rest : List AtomType
    rest = filter (λ (atom : AtomType). atom.is_id) atoms

    go : (b : Bool) → length (id_rels x (suc ty) atoms) ≡ 3 * length (filter (λ (atom : AtomType). atom.is_id) atoms)
        → length ((if b then rels_of_id x ty else []) ++ id_rels x (suc ty) atoms) ≡ 3 * length (if b then atom ∷ filter (λ (atom : AtomType). atom.is_id) atoms else filter (λ (atom : AtomType). atom.is_id) atoms)
    go true ih = omega (arith, ih)
    go false ih = ih

view-at : (x : Step) (k n j : ℕ) → j < n
    → (slice_get (view_rels x k n) (j + j) ≡ Some (set_relation (is_seen x.old x.inv (k + j)) (length x.new.calls)))
    × (slice_get (view_rels x k n) (suc (j + j)) ≡ Some (set_relation (is_read x.old x.inv (k + j)) (length x.new.calls)))
view-at x k zero j l = absurd (omega (arith, l))
view-at x k (suc n) zero l =
    let e : k ≡ k + 0 = omega arith in
    (ap (λ m. Some (set_relation (is_seen x.old x.inv m) (length x.new.calls))) e, ap (λ m. Some (set_relation (is_read x.old x.inv m) (length x.new.calls))) e)
view-at x k (suc n) (suc j) l =
    let r = view-at x (suc k) n j (omega (arith, l)) in
    let a : suc j + suc j ≡ suc (suc (j + j)) = omega arith in
    let e : suc k + j ≡ k + suc j = omega arith in (
      ap (slice_get (view_rels x k (suc n))) a ∙ (r.0 ∙ ap (λ m. Some (set_relation (is_seen x.old x.inv m) (length x.new.calls))) e),
      ap (λ i. slice_get (view_rels x k (suc n)) (suc i)) a ∙ (r.1 ∙ ap (λ m. Some (set_relation (is_read x.old x.inv m) (length x.new.calls))) e),
    )

behind-fixed : (x : Step) (n m : ℕ) → m ≡ 3 * ids x.program.types.atoms + n → slice_get (rels_of x) (9 + m) ≡ slice_get (view_rels x 0 (begins x) ++ added_rels x x.reads) n
behind-fixed x n m e =
    let a : 9 + m ≡ suc (suc (suc (suc (suc (suc (suc (suc (suc m)))))))) = omega arith in
    let c = count-of x 0 x.program.types.atoms ∙ ap (λ n. 3 * n) (length-filter (λ (atom : AtomType). atom.is_id) x.program.types.atoms) in
    ap (slice_get (rels_of x)) a ∙ get-behind (id_rels x 0 x.program.types.atoms) (view_rels x 0 (begins x) ++ added_rels x x.reads) m n (omega (arith, c, e))

pub seen-at : (x : Step) (k : ℕ) → k < begins x → slice_get (rels_of x) (seen_rel x.program k) ≡ Some (set_relation (is_seen x.old x.inv k) (length x.new.calls))
seen-at x k l = behind-fixed x (k + k) _ refl ∙ (get-front (view_rels x 0 (begins x)) (added_rels x x.reads) (k + k) _ (view-at x 0 (begins x) k l).0 ∙ ap (λ m. Some (set_relation (is_seen x.old x.inv m) (length x.new.calls))) (let e : 0 + k ≡ k = omega arith in e))

pub read-at : (x : Step) (k : ℕ) → k < begins x → slice_get (rels_of x) (read_rel x.program k) ≡ Some (set_relation (is_read x.old x.inv k) (length x.new.calls))
read-at x k l = behind-fixed x (suc (k + k)) _ refl ∙ (get-front (view_rels x 0 (begins x)) (added_rels x x.reads) (suc (k + k)) _ (view-at x 0 (begins x) k l).1 ∙ ap (λ m. Some (set_relation (is_read x.old x.inv m) (length x.new.calls))) (let e : 0 + k ≡ k = omega arith in e))

views-count : (x : Step) (k n : ℕ) → length (view_rels x k n) ≡ n + n
views-count x k zero = refl
views-count x k (suc n) = let r = views-count x (suc k) n in omega (arith, r)

added-found : (x : Step) (reads : List (ℕ → Bool)) (j : ℕ) (set : ℕ → Bool) → slice_get reads j ≡ Some set → slice_get (added_rels x reads) j ≡ Some (set_relation set (length x.old.calls))
added-found x [] j set e = absurd (none-some set e)
added-found x (f ∷ fs) zero set e = ap (λ s. Some (set_relation s (length x.old.calls))) (same_Some f set e)
added-found x (f ∷ fs) (suc j) set e = added-found x fs j set e

pub added-at : (x : Step) (j : ℕ) (set : ℕ → Bool) → slice_get x.reads j ≡ Some set → slice_get (rels_of x) (added_rel x.program (begins x) j) ≡ Some (set_relation set (length x.old.calls))
added-at x j set e =
    behind-fixed x (begins x + begins x + j) _ refl
    ∙ (get-behind (view_rels x 0 (begins x)) (added_rels x x.reads) (begins x + begins x + j) j (let c = views-count x 0 (begins x) in omega (arith, c)) ∙ added-found x x.reads j set e)

-- # Invocations

pub inv-of : (S : Signature) (x : Step) → IsSig S → (e : Elem) → Is (meaning_of S x) inv_sort e → (i : ℕ) × (e ≡ Point i) × (i < length x.new.invocations)
inv-of S x g (Point c) h = (c, refl, ltb-true c (length x.new.invocations) (and_parts _ _ h).1)
inv-of S x g (Whole n) h = no (sym (ap (λ sorts. is_int (slice_get sorts 1)) g.are) ∙ h)
inv-of S x g (Text bytes) h = no (sym (ap (λ sorts. is_str (slice_get sorts 1)) g.are) ∙ h)
inv-of S x g (Made con args) h = no (sym (g.free con 1 (omega arith)) ∙ (and_parts _ _ h).0)

pub each-inv : (S : Signature) (x : Step) → IsSig S → (P : Elem → Type 0) → ((i : ℕ) → i < length x.new.invocations → P (Point i)) → EachInv (meaning_of S x) P
each-inv S x g P f e i = let k = inv-of S x g e i in subst P (sym k.1) (f k.0 k.2)

-- # Numbers of the relations of identifiers

first-three : {A : Type 0} (a b c : A) (rest : List A) (kind : ℕ) → kind < 3 → slice_get (a ∷ b ∷ c ∷ rest) kind ≡ slice_get (a ∷ b ∷ c ∷ []) kind
first-three a b c rest zero l = refl
first-three a b c rest (suc zero) l = refl
first-three a b c rest (suc (suc zero)) l = refl
first-three a b c rest (suc (suc (suc k))) l = absurd (omega (arith, l))

id-at : (x : Step) (ty : ℕ) (atoms : List AtomType) (rest : List Relation) (j kind : ℕ) → names_ids (slice_get atoms j) ≡ true → kind < 3
    → slice_get (id_rels x ty atoms ++ rest) (3 * length (filter (λ (atom : AtomType). atom.is_id) (take j atoms)) + kind) ≡ slice_get (rels_of_id x (ty + j)) kind
id-at x ty [] rest j kind e l = no e
id-at x ty (atom ∷ atoms) rest zero kind e l =
    ap (λ b. slice_get (((if b then rels_of_id x ty else []) ++ id_rels x (suc ty) atoms) ++ rest) (3 * 0 + kind)) e
    ∙ (ap (slice_get ((rels_of_id x ty ++ id_rels x (suc ty) atoms) ++ rest)) (let q : 3 * 0 + kind ≡ kind = omega arith in q)
    ∙ (first-three _ _ _ (id_rels x (suc ty) atoms ++ rest) kind l ∙ ap (λ t. slice_get (rels_of_id x t) kind) (let q : ty ≡ ty + 0 = omega arith in q)))
id-at x ty (atom ∷ atoms) rest (suc j) kind e l =
    go atom.is_id (id-at x (suc ty) atoms rest j kind e l ∙ ap (λ t. slice_get (rels_of_id x t) kind) (let q : suc ty + j ≡ ty + suc j = omega arith in q))
  where
    m : ℕ
    m = length (filter (λ (atom : AtomType). atom.is_id) (take j atoms))

    go : (b : Bool) → slice_get (id_rels x (suc ty) atoms ++ rest) (3 * length (filter (λ (atom : AtomType). atom.is_id) (take j atoms)) + kind) ≡ slice_get (rels_of_id x (ty + suc j)) kind
        → slice_get (((if b then rels_of_id x ty else []) ++ id_rels x (suc ty) atoms) ++ rest)
        (3 * length (if b then atom ∷ filter (λ (atom : AtomType). atom.is_id) (take j atoms) else filter (λ (atom : AtomType). atom.is_id) (take j atoms)) + kind)
        ≡ slice_get (rels_of_id x (ty + suc j)) kind
    go true r =
        ap (slice_get ((rels_of_id x ty ++ id_rels x (suc ty) atoms) ++ rest)) (let q : 3 * suc m + kind ≡ suc (suc (suc (3 * m + kind))) = omega arith in q) ∙ r
    go false r = r

pub id-rel-at : (x : Step) (ty kind : ℕ) → names_ids (slice_get x.program.types.atoms ty) ≡ true → kind < 3
    → slice_get (rels_of x) (id_rel x.program ty kind) ≡ slice_get (rels_of_id x ty) kind
id-rel-at x ty kind e l =
    let c = length-filter (λ (atom : AtomType). atom.is_id) (take ty x.program.types.atoms) in
    let a : id_rel x.program ty kind ≡ suc (suc (suc (suc (suc (suc (suc (suc (suc (3 * length (filter (λ (atom : AtomType). atom.is_id) (take ty x.program.types.atoms)) + kind)))))))))
    = omega (arith, c) in
    ap (slice_get (rels_of x)) a
    ∙ (id-at x 0 x.program.types.atoms (view_rels x 0 (begins x) ++ added_rels x x.reads) ty kind e l ∙ ap (λ t. slice_get (rels_of_id x t) kind) (let q : 0 + ty ≡ ty = omega arith in q))
