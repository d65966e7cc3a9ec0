-- In a well-formed program the arguments of queries fit where operations hold theirs.
use Rattle.std.proofs.Common.{◌≡◌, ℕ, zero, suc, ◌+◌, nat_eq, List, [], ◌∷◌, ◌++◌, length, take, slice_get, Bool, true, false, cond, ◌⊎◌, inl, inr, Option, Some, None, refl, sym, ap, ap₂, ◌∙◌, subst, eqb-true, append_assoc, arith}
use Rattle.std.proofs.lemmas.List.{append-nil}
use Rattle.std.proofs.lemmas.List.Sums.{sum_by-cons}
use Rattle.std.proofs.lemmas.Option.{same_Some}
use Rattle.rp_value.specs.declared.tables.Ty.{Ty}
use Rattle.rp_value.specs.Values.{Val}
use Rattle.rp_lang.specs.Crdts.{Cr, SetAw, SetRw, Reg, MvReg, Counter, MapUw, MapDw, Struct}
use Rattle.rp_lang.specs.declared.op.OpDecl.{OpDecl}
use Rattle.rp_lang.specs.declared.op.OpKind.TheVariants as op
use Rattle.rp_lang.specs.declared.op.OpKind.{OpKind}
use Rattle.rp_lang.specs.declared.op.OpKind.TheVariants.{Tx, Add, Remove, Assign, Increment}
use Rattle.rp_lang.specs.declared.op.PathStep.{PathStep}
use Rattle.rp_lang.specs.declared.op.PathStep.TheVariants.{Field, Key}
use Rattle.rp_lang.specs.declared.query.QueryDecl.{QueryDecl}
use Rattle.crdt_defs.specs.declared.asked.Winner.TheVariants.{Update, Delete}
use Rattle.rp_lang.specs.declared.query.QueryKind.{QueryKind}
use Rattle.rp_lang.specs.declared.query.QueryKind.TheVariants.{Contains, HasKey, GetReg, GetSum}
use Rattle.rp_lang.specs.Types.{same_ty, is_one}
use Rattle.rp_lang.specs.Paths as paths
use Rattle.rp_lang.specs.Paths.{held_at, stepped, reached, own_args, field_in, root_crdt, is_one_of, keys_of, op_fits, op_stands, query_fits, query_stands}
use Rattle.rp_lang.specs.Programs.{Prog}
use Rattle.crdt_defs.specs.Doing.{is_key, keys_in, is_field, is_some_key, same_kind}
use Rattle.crdt_defs.specs.Queries.{question, held_in, winner_in}
use Rattle.crdt_defs.specs.Fitting.{fits, all_fit}
use Rattle.std.proofs.lemmas.Bool.{and_parts}
use Rattle.rp_logic.proofs.SortLaws.{no}
use Rattle.crdt_enc.specs.Ways.{Way, Root, AtField, AtKey, depth, goes}
use Rattle.crdt_enc.specs.QueryFormulas.{is_delete, is_kind}
use Rattle.crdt_enc.specs.means.Counting.{Both, terms, vals, FitsAt, WayFits}
use Rattle.crdt_enc.proofs.QuestionLaws.{Leaf}
use Rattle.crdt_enc.proofs.AskLaws.{vals_of, LeafFits, AskFits}
use Rattle.rp_lang.proofs.TypeFacts.{same-type}
use Rattle.crdt_enc.proofs.StageFacts.{none-taken}

-- # Lists

get-behind : (front rest : List PathStep) (n : ℕ) → length front ≡ n → slice_get (front ++ rest) n ≡ slice_get rest 0
get-behind [] rest zero e = refl
get-behind [] rest (suc n) e = absurd (omega arith)
get-behind (x ∷ front) rest zero e = absurd (omega arith)
get-behind (x ∷ front) rest (suc n) e = get-behind front rest n (omega arith)

get-type : (front rest : List Ty) (n : ℕ) → length front ≡ n → slice_get (front ++ rest) n ≡ slice_get rest 0
get-type [] rest zero e = refl
get-type [] rest (suc n) e = absurd (omega arith)
get-type (x ∷ front) rest zero e = absurd (omega arith)
get-type (x ∷ front) rest (suc n) e = get-type front rest n (omega arith)

take-front : (front rest : List PathStep) (n : ℕ) → length front ≡ n → take n (front ++ rest) ≡ front
take-front [] rest zero e = refl
take-front [] rest (suc n) e = absurd (omega arith)
take-front (x ∷ front) rest zero e = absurd (omega arith)
take-front (x ∷ front) rest (suc n) e = ap (λ xs. x ∷ xs) (take-front front rest n (omega arith))

count-more : {A : Type 0} (xs : List A) (x : A) (n : ℕ) → length xs ≡ n → length (xs ++ x ∷ []) ≡ n + 1
count-more [] x n e = omega arith
count-more (y ∷ xs) x zero e = absurd (omega arith)
count-more (y ∷ xs) x (suc n) e = let r = count-more xs x n (omega arith) in omega (arith, r)

keys-more : (front : List PathStep) (step : PathStep) → keys_in (front ++ step ∷ []) ≡ keys_in front + cond (is_key step) 1 0
keys-more [] step = let e : keys_in (step ∷ []) ≡ cond (is_key step) 1 0 + keys_in [] = sum_by-cons (λ x. cond (is_key x) 1 0) step [] in omega (arith, e)
keys-more (x ∷ front) step =
    let e : keys_in (x ∷ front ++ step ∷ []) ≡ cond (is_key x) 1 0 + keys_in (front ++ step ∷ []) = sum_by-cons (λ x. cond (is_key x) 1 0) x (front ++ step ∷ []) in
    let f : keys_in (x ∷ front) ≡ cond (is_key x) 1 0 + keys_in front = sum_by-cons (λ x. cond (is_key x) 1 0) x front in
    let r = keys-more front step in omega (arith, e, f, r)

-- # Operations on the way

-- After so many steps, with so many keys, the operation's path leads on from this type.
pub record Along (decl : OpDecl) (steps keys : ℕ) (crdt : Cr) : Type 0 where
  front : List PathStep
  rest : List PathStep
  path : decl.path ≡ front ++ rest
  count : length front ≡ steps
  keys_are : keys_in front ≡ keys
  heads : List Ty
  own : List Ty
  args : decl.args ≡ heads ++ own
  heads_are : length heads ≡ keys
  stands : op_stands decl.kind (reached (Some crdt) rest) (own_args rest own) ≡ true

-- the operation that opens transactions, which is on no path
pub record IsTx (decl : OpDecl) : Type 0 where
  pub path : decl.path ≡ []
  pub kind : decl.kind ≡ Tx

abbrev pub WayAlong : Prog → Way Both → Cr → Type 0
WayAlong p w crdt = (o : ℕ) (decl : OpDecl) → slice_get p.ops o ≡ Some decl → goes (terms w) decl ≡ true → IsTx decl ⊎ Along decl (depth (terms w)) (length (vals w)) crdt

no-stand : {A : Type 0} (kind : OpKind) (own : Option (List Ty)) → op_stands kind None own ≡ true → A
no-stand kind own h = no h

-- the step that comes next
next-is : (decl : OpDecl) (steps keys : ℕ) (crdt : Cr) → (a : Along decl steps keys crdt) → slice_get decl.path steps ≡ slice_get a.rest 0
next-is decl steps keys crdt a = ap (λ xs. slice_get xs steps) a.path ∙ get-behind a.front a.rest steps a.count

pub field-step : (decl : OpDecl) (steps keys : ℕ) (crdt next : Cr) (n : ℕ) → Along decl steps keys crdt → is_field n (slice_get decl.path steps) ≡ true → field_in crdt n ≡ Some next → Along decl (steps + 1) keys next
field-step decl steps keys crdt next n a f e = go a.rest refl (ap (is_field n) (sym (next-is decl steps keys crdt a)) ∙ f)
  where
    go : (rest : List PathStep) → a.rest ≡ rest → is_field n (slice_get rest 0) ≡ true → Along decl (steps + 1) keys next
    go [] is h = no h
    go (Key ty ∷ rest) is h = no h
    go (Field m ∷ rest) is h =
        let leads : field_in crdt m ≡ Some next = ap (field_in crdt) (sym (eqb-true n m h)) ∙ e in
        record {
          front = a.front ++ Field m ∷ [];
          rest = rest;
          path = a.path ∙ (ap (λ r. a.front ++ r) is ∙ sym (append_assoc a.front (Field m ∷ []) rest));
          count = count-more a.front (Field m) steps a.count;
          keys_are = keys-more a.front (Field m) ∙ (let k = a.keys_are in omega (arith, k));
          heads = a.heads;
          own = a.own;
          args = a.args;
          heads_are = a.heads_are;
          stands = ap (λ o. op_stands decl.kind (reached o rest) (own_args rest a.own)) (sym leads) ∙ (ap (λ r. op_stands decl.kind (reached (Some crdt) r) (own_args r a.own)) (sym is) ∙ a.stands);
        }

-- a map, its keys' type and what it holds
pub record IsMap (crdt : Cr) (ty : Ty) (next : Cr) : Type 0 where
  pub held : held_in crdt ≡ Some next
  pub keys : keys_of crdt ≡ Some ty
  pub at : (t : Ty) → held_at t crdt ≡ cond (same_ty ty t) (Some next) None

pub record KeyStep (decl : OpDecl) (steps keys : ℕ) (ty : Ty) (next : Cr) : Type 0 where
  pub along : Along decl (steps + 1) (keys + 1) next
  pub arg : slice_get decl.args keys ≡ Some ty
  pub placed : keys_in (take steps decl.path) ≡ keys

key-step : (decl : OpDecl) (steps keys : ℕ) (crdt next : Cr) (ty : Ty) → IsMap crdt ty next → Along decl steps keys crdt → is_some_key (slice_get decl.path steps) ≡ true → KeyStep decl steps keys ty next
key-step decl steps keys crdt next ty m a f = go a.rest refl a.own refl (ap is_some_key (sym (next-is decl steps keys crdt a)) ∙ f)
  where
    made : (t arg : Ty) (own : List Ty) (rest : List PathStep) → a.rest ≡ Key t ∷ rest → a.own ≡ arg ∷ own → (x y : Bool) → same_ty ty t ≡ x → same_ty arg t ≡ y
        → op_stands decl.kind (reached (cond x (Some next) None) rest) (cond y (own_args rest own) None) ≡ true → KeyStep decl steps keys ty next
    made t arg own rest is os true true ex ey h =
        let same : arg ≡ ty = same-type arg t ey ∙ sym (same-type ty t ex) in record {
          along = record {
            front = a.front ++ Key t ∷ [];
            rest = rest;
            path = a.path ∙ (ap (λ r. a.front ++ r) is ∙ sym (append_assoc a.front (Key t ∷ []) rest));
            count = count-more a.front (Key t) steps a.count;
            keys_are = keys-more a.front (Key t) ∙ (let k = a.keys_are in omega (arith, k));
            heads = a.heads ++ arg ∷ [];
            own = own;
            args = a.args ∙ (ap (λ r. a.heads ++ r) os ∙ sym (append_assoc a.heads (arg ∷ []) own));
            heads_are = count-more a.heads arg keys a.heads_are;
            stands = h;
          };
          arg = ap (λ xs. slice_get xs keys) a.args ∙ (get-type a.heads a.own keys a.heads_are ∙ (ap (λ xs. slice_get xs 0) os ∙ ap (λ t. Some t) same));
          placed = ap keys_in (ap (take steps) a.path ∙ take-front a.front a.rest steps a.count) ∙ a.keys_are;
        }
    made t arg own rest is os false y ex ey h = no h
    made t arg own rest is os true false ex ey h = no (sym (nothing decl.kind (reached (Some next) rest)) ∙ h)
      where
        nothing : (kind : OpKind) (o : Option Cr) → op_stands kind o None ≡ false
        nothing kind None = refl
        nothing kind (Some c) = refl

    go : (rest : List PathStep) → a.rest ≡ rest → (own : List Ty) → a.own ≡ own → is_some_key (slice_get rest 0) ≡ true → KeyStep decl steps keys ty next
    go [] is own os h = no h
    go (Field n ∷ rest) is own os h = no h
    go (Key t ∷ rest) is [] os h = no (sym (nothing decl.kind (reached (held_at t crdt) rest)) ∙ (ap₂ (λ r own. op_stands decl.kind (reached (Some crdt) r) (own_args r own)) (sym is) (sym os) ∙ a.stands))
      where
        nothing : (kind : OpKind) (o : Option Cr) → op_stands kind o None ≡ false
        nothing kind None = refl
        nothing kind (Some c) = refl
    go (Key t ∷ rest) is (arg ∷ own) os h =
        made t arg own rest is os (same_ty ty t) (same_ty arg t) refl refl
        (ap (λ o. op_stands decl.kind (reached o rest) (own_args (Key t ∷ rest) (arg ∷ own))) (sym (m.at t)) ∙ (ap₂ (λ r own. op_stands decl.kind (reached (Some crdt) r) (own_args r own)) (sym is) (sym os) ∙ a.stands))

-- # Operations that end

pub record Ends (decl : OpDecl) (keys : ℕ) (crdt : Cr) : Type 0 where
  pub own : List Ty
  pub placed : keys_in decl.path ≡ keys
  pub fit : op_fits decl.kind crdt own ≡ true
  pub arg : slice_get decl.args keys ≡ slice_get own 0

ends-here : (decl : OpDecl) (steps keys : ℕ) (crdt : Cr) → (a : Along decl steps keys crdt) → a.rest ≡ [] → Ends decl keys crdt
ends-here decl steps keys crdt a e = record {
  own = a.own;
  placed = ap keys_in (a.path ∙ (ap (λ r. a.front ++ r) e ∙ append-nil a.front)) ∙ a.keys_are;
  fit = ap (λ r. op_stands decl.kind (reached (Some crdt) r) (own_args r a.own)) (sym e) ∙ a.stands;
  arg = ap (λ xs. slice_get xs keys) a.args ∙ get-type a.heads a.own keys a.heads_are;
}

-- nothing stands below a set, a register or a counter
leaf-ends : (decl : OpDecl) (steps keys : ℕ) (crdt : Cr) → ((step : PathStep) → stepped crdt step ≡ None) → (a : Along decl steps keys crdt) → Ends decl keys crdt
leaf-ends decl steps keys crdt none a = go a.rest refl
  where
    go : (rest : List PathStep) → a.rest ≡ rest → Ends decl keys crdt
    go [] is = ends-here decl steps keys crdt a is
    go (step ∷ rest) is =
        no (ap (λ o. op_stands decl.kind (reached o rest) (own_args (step ∷ rest) a.own)) (sym (none step)) ∙ (ap (λ r. op_stands decl.kind (reached (Some crdt) r) (own_args r a.own)) (sym is) ∙ a.stands))

long-behind : (front rest : List PathStep) → length (front ++ rest) ≡ length front + length rest
long-behind [] rest = omega arith
long-behind (x ∷ front) rest = let r = long-behind front rest in omega (arith, r)

full-ends : (decl : OpDecl) (steps keys : ℕ) (crdt : Cr) → length decl.path ≡ steps → (a : Along decl steps keys crdt) → Ends decl keys crdt
full-ends decl steps keys crdt full a = go a.rest refl
  where
    go : (rest : List PathStep) → a.rest ≡ rest → Ends decl keys crdt
    go [] is = ends-here decl steps keys crdt a is
    go (step ∷ rest) is =
        let e : length decl.path ≡ length a.front + length (step ∷ rest) = ap length (a.path ∙ ap (λ r. a.front ++ r) is) ∙ long-behind a.front (step ∷ rest) in
        let c = a.count in absurd (omega (arith, e, full, c))

one-type : (t : Ty) (own : List Ty) → is_one t own ≡ true → slice_get own 0 ≡ Some t
one-type t (u ∷ []) h = ap (λ t. Some t) (same-type u t h)
one-type t [] h = no h
one-type t (u ∷ v ∷ own) h = no h

kind-is : (a b : OpKind) → same_kind a b ≡ true → a ≡ b
kind-is Tx Tx h = refl
kind-is Add Add h = refl
kind-is Remove Remove h = refl
kind-is Assign Assign h = refl
kind-is Increment Increment h = refl
kind-is op.Delete op.Delete h = refl
kind-is _ _ h = no h

tx-apart : {A : Type 0} (kind : OpKind) (b : OpKind) → kind ≡ Tx → same_kind kind b ≡ true → same_kind Tx b ≡ false → A
tx-apart kind b e h n = no (sym n ∙ (ap (λ k. same_kind k b) (sym e) ∙ h))

-- the fit of an operation that ends at this type
ends-fit : (p : Prog) (decl : OpDecl) (keys : ℕ) (crdt : Cr) (kind : OpKind) (t : Ty) (k : Val) → Ends decl keys crdt → same_kind decl.kind kind ≡ true → paths.op_takes kind crdt ≡ Some t → fits p t k ≡ true
    → FitsAt p keys decl (keys_in decl.path) k
ends-fit p decl keys crdt kind t k e same takes f =
    let fit : is_one_of (paths.op_takes kind crdt) e.own ≡ true = ap (λ k. op_fits k crdt e.own) (sym (kind-is decl.kind kind same)) ∙ e.fit in record {
      placed = e.placed;
      ty = t;
      is = e.arg ∙ one-type t e.own (ap (λ o. is_one_of o e.own) (sym takes) ∙ fit);
      fit = f;
    }

pub leaf-fits : (p : Prog) (w : Way Both) (crdt : Cr) (kind : OpKind) (t : Ty) (k : Val) → WayAlong p w crdt → ((step : PathStep) → stepped crdt step ≡ None) → paths.op_takes kind crdt ≡ Some t → same_kind Tx kind ≡ false
    → fits p t k ≡ true → Leaf p w kind k
leaf-fits p w crdt kind t k along none takes apart f o decl e g =
    let b = and_parts (goes (terms w) decl) (is_kind kind decl) g in
    elim (along o decl e b.0) [
      | inl tx ↦ tx-apart decl.kind kind tx.kind b.1 apart
      | inr a ↦ ends-fit p decl (length (vals w)) crdt kind t k (leaf-ends decl (depth (terms w)) (length (vals w)) crdt none a) b.1 takes f
    ]

pub key-fits : (p : Prog) (w : Way Both) (crdt next : Cr) (ty : Ty) (b : Both) → WayFits p w → WayAlong p w crdt → IsMap crdt ty next → fits p ty b.val ≡ true → WayFits p (AtKey (winner_in crdt) b w)
key-fits p w crdt next ty b way along m f = (
  way,
  (λ o decl e g.
      let s = and_parts (goes (terms w) decl) (is_some_key (slice_get decl.path (depth (terms w)))) g in
      elim (along o decl e s.0) [
        | inl tx ↦ no (ap (λ path. is_some_key (slice_get path (depth (terms w)))) (sym tx.path) ∙ s.1)
        | inr a ↦ let k = key-step decl (depth (terms w)) (length (vals w)) crdt next ty m a s.1 in record { placed = k.placed; ty = ty; is = k.arg; fit = f }
      ]),
  λ o decl e g.
      let s = and_parts (goes (terms w) decl) (is_delete (depth (terms w)) decl) g in
      let d = and_parts (nat_eq (length decl.path) (depth (terms w))) (same_kind decl.kind op.Delete) s.1 in
      elim (along o decl e s.0) [
        | inl tx ↦ tx-apart decl.kind op.Delete tx.kind d.1 refl
        | inr a ↦ ends-fit p decl (length (vals w)) crdt op.Delete ty b.val (full-ends decl (depth (terms w)) (length (vals w)) crdt (eqb-true (length decl.path) (depth (terms w)) d.0) a) d.1 m.keys f
      ],
)

pub along-field : (p : Prog) (w : Way Both) (crdt next : Cr) (n : ℕ) → WayAlong p w crdt → field_in crdt n ≡ Some next → WayAlong p (AtField n w) next
along-field p w crdt next n along is o decl e g =
    let s = and_parts (goes (terms w) decl) (is_field n (slice_get decl.path (depth (terms w)))) g in
    elim (along o decl e s.0) [
      | inl tx ↦ inl tx
      | inr a ↦ inr (field-step decl (depth (terms w)) (length (vals w)) crdt next n a s.1 is)
    ]

pub along-key : (p : Prog) (w : Way Both) (crdt next : Cr) (ty : Ty) (b : Both) → WayAlong p w crdt → IsMap crdt ty next → WayAlong p (AtKey (winner_in crdt) b w) next
along-key p w crdt next ty b along m o decl e g =
    let s = and_parts (goes (terms w) decl) (is_some_key (slice_get decl.path (depth (terms w)))) g in
    elim (along o decl e s.0) [
      | inl tx ↦ inl tx
      | inr a ↦
          let k = key-step decl (depth (terms w)) (length (vals w)) crdt next ty m a s.1 in
          inr (subst (λ n. Along decl (depth (terms w) + 1) n next) (sym (count-more (vals w) b.val (length (vals w)) refl)) k.along)
    ]

-- # Along the path of a query

told-one : (p : Prog) (o : Option Ty) (ty : Ty) (own : List Ty) (x : Val) → o ≡ Some ty → is_one_of o own ≡ true → all_fit p own (x ∷ []) ≡ true → fits p ty x ≡ true
told-one p o ty own x e h f = go own (ap (λ o. is_one_of o own) (sym e) ∙ h) f
  where
    go : (own : List Ty) → is_one ty own ≡ true → all_fit p own (x ∷ []) ≡ true → fits p ty x ≡ true
    go (u ∷ []) h f = ap (λ t. fits p t x) (sym (same-type u ty h)) ∙ (and_parts (fits p u x) _ f).0
    go [] h f = no h
    go (u ∷ v ∷ own) h f = no h

leaf-SetAw : (ty : Ty) (step : PathStep) → stepped (SetAw ty) step ≡ None
leaf-SetAw ty (Field n) = refl
leaf-SetAw ty (Key t) = refl

leaf-SetRw : (ty : Ty) (step : PathStep) → stepped (SetRw ty) step ≡ None
leaf-SetRw ty (Field n) = refl
leaf-SetRw ty (Key t) = refl

leaf-MvReg : (ty : Ty) (step : PathStep) → stepped (MvReg ty) step ≡ None
leaf-MvReg ty (Field n) = refl
leaf-MvReg ty (Key t) = refl

leaf-of : (p : Prog) (w : Way Both) (crdt : Cr) (kind : QueryKind) (args : List Both) (own : List Ty) (result : Ty) → WayFits p w → WayAlong p w crdt → query_fits p.types p.cons kind crdt own result ≡ true
    → all_fit p own (vals_of args) ≡ true → LeafFits p w (question crdt kind) args
leaf-of p w (SetAw ty) Contains [] own result way along h f = tt
leaf-of p w (SetAw ty) Contains (x ∷ y ∷ ys) own result way along h f = tt
leaf-of p w (SetAw ty) Contains (x ∷ []) own result way along h f =
    let t = told-one p (Some ty) ty own x.val refl (and_parts (is_one_of (Some ty) own) _ h).0 f in
    (leaf-fits p w (SetAw ty) Add ty x.val along (λ step. leaf-SetAw ty step) refl refl t, leaf-fits p w (SetAw ty) Remove ty x.val along (λ step. leaf-SetAw ty step) refl refl t)
leaf-of p w (SetAw ty) HasKey args own result way along h f = tt
leaf-of p w (SetAw ty) GetReg args own result way along h f = tt
leaf-of p w (SetAw ty) GetSum args own result way along h f = tt
leaf-of p w (SetRw ty) Contains [] own result way along h f = tt
leaf-of p w (SetRw ty) Contains (x ∷ y ∷ ys) own result way along h f = tt
leaf-of p w (SetRw ty) Contains (x ∷ []) own result way along h f =
    let t = told-one p (Some ty) ty own x.val refl (and_parts (is_one_of (Some ty) own) _ h).0 f in
    (leaf-fits p w (SetRw ty) Add ty x.val along (λ step. leaf-SetRw ty step) refl refl t, leaf-fits p w (SetRw ty) Remove ty x.val along (λ step. leaf-SetRw ty step) refl refl t)
leaf-of p w (SetRw ty) HasKey args own result way along h f = tt
leaf-of p w (SetRw ty) GetReg args own result way along h f = tt
leaf-of p w (SetRw ty) GetSum args own result way along h f = tt
leaf-of p w (Reg ty) Contains args own result way along h f = tt
leaf-of p w (Reg ty) HasKey args own result way along h f = tt
leaf-of p w (Reg ty) GetReg args own result way along h f = tt
leaf-of p w (Reg ty) GetSum args own result way along h f = tt
leaf-of p w (MvReg ty) Contains [] own result way along h f = tt
leaf-of p w (MvReg ty) Contains (x ∷ y ∷ ys) own result way along h f = tt
leaf-of p w (MvReg ty) Contains (x ∷ []) own result way along h f =
    let t = told-one p (Some ty) ty own x.val refl (and_parts (is_one_of (Some ty) own) _ h).0 f in
    leaf-fits p w (MvReg ty) Assign ty x.val along (λ step. leaf-MvReg ty step) refl refl t
leaf-of p w (MvReg ty) HasKey args own result way along h f = tt
leaf-of p w (MvReg ty) GetReg args own result way along h f = tt
leaf-of p w (MvReg ty) GetSum args own result way along h f = tt
leaf-of p w Counter Contains args own result way along h f = tt
leaf-of p w Counter HasKey args own result way along h f = tt
leaf-of p w Counter GetReg args own result way along h f = tt
leaf-of p w Counter GetSum args own result way along h f = tt
leaf-of p w (MapUw ks c) Contains args own result way along h f = tt
leaf-of p w (MapUw ks c) HasKey [] own result way along h f = tt
leaf-of p w (MapUw ks c) HasKey (x ∷ y ∷ ys) own result way along h f = tt
leaf-of p w (MapUw ks c) HasKey (x ∷ []) own result way along h f =
    let t = told-one p (Some ks) ks own x.val refl (and_parts (is_one_of (Some ks) own) _ h).0 f in
    key-fits p w (MapUw ks c) c ks x way along (record { held = refl; keys = refl; at = λ t. refl }) t
leaf-of p w (MapUw ks c) GetReg args own result way along h f = tt
leaf-of p w (MapUw ks c) GetSum args own result way along h f = tt
leaf-of p w (MapDw ks c) Contains args own result way along h f = tt
leaf-of p w (MapDw ks c) HasKey [] own result way along h f = tt
leaf-of p w (MapDw ks c) HasKey (x ∷ y ∷ ys) own result way along h f = tt
leaf-of p w (MapDw ks c) HasKey (x ∷ []) own result way along h f =
    let t = told-one p (Some ks) ks own x.val refl (and_parts (is_one_of (Some ks) own) _ h).0 f in
    key-fits p w (MapDw ks c) c ks x way along (record { held = refl; keys = refl; at = λ t. refl }) t
leaf-of p w (MapDw ks c) GetReg args own result way along h f = tt
leaf-of p w (MapDw ks c) GetSum args own result way along h f = tt
leaf-of p w (Struct fs) Contains args own result way along h f = tt
leaf-of p w (Struct fs) HasKey args own result way along h f = tt
leaf-of p w (Struct fs) GetReg args own result way along h f = tt
leaf-of p w (Struct fs) GetSum args own result way along h f = tt

nothing-asked : {A : Type 0} (p : Prog) (kind : QueryKind) (own : Option (List Ty)) (result : Ty) → query_stands p.types p.cons kind None own result ≡ true → A
nothing-asked p kind own result h = no h

-- a step to a key: the map's key type is that of the argument
pub asked-key : (p : Prog) (kind : QueryKind) (ks ty arg : Ty) (next : Cr) (path : List PathStep) (tys : List Ty) (result : Ty) (x y : Bool) → same_ty ks ty ≡ x → same_ty arg ty ≡ y
    → query_stands p.types p.cons kind (reached (cond x (Some next) None) path) (cond y (own_args path tys) None) result ≡ true
    → (arg ≡ ks) × (query_stands p.types p.cons kind (reached (Some next) path) (own_args path tys) result ≡ true)
asked-key p kind ks ty arg next path tys result true true ex ey h = (same-type arg ty ey ∙ sym (same-type ks ty ex), h)
asked-key p kind ks ty arg next path tys result false y ex ey h = no h
asked-key p kind ks ty arg next path tys result true false ex ey h = no (sym (none-taken p.types p.cons kind (reached (Some next) path) result) ∙ h)

pub ask-fits : (p : Prog) (kind : QueryKind) (crdt : Option Cr) (path : List PathStep) (w : Way Both) (args : List Both) (tys : List Ty) (result : Ty) → WayFits p w
    → ((c : Cr) → crdt ≡ Some c → WayAlong p w c) → query_stands p.types p.cons kind (reached crdt path) (own_args path tys) result ≡ true → all_fit p tys (vals_of args) ≡ true
    → AskFits p kind crdt path w args
ask-fits p kind None path w args tys result way along h f = tt
ask-fits p kind (Some crdt) [] w args tys result way along h f = leaf-of p w crdt kind args tys result way (along crdt refl) h f
ask-fits p kind (Some crdt) (Field n ∷ path) w args tys result way along h f =
    ask-fits p kind (field_in crdt n) path (AtField n w) args tys result way (λ c e. along-field p w crdt c n (along crdt refl) e)
    h f
ask-fits p kind (Some crdt) (Key ty ∷ path) w [] tys result way along h f = tt
ask-fits p kind (Some crdt) (Key ty ∷ path) w (k ∷ args) [] result way along h f = no f
ask-fits p kind (Some (MapUw ks c)) (Key ty ∷ path) w (k ∷ args) (arg ∷ tys) result way along h f =
    let m : IsMap (MapUw ks c) ks c = record { held = refl; keys = refl; at = λ t. refl } in
    let q = asked-key p kind ks ty arg c path tys result (same_ty ks ty) (same_ty arg ty) refl refl h in
    let b = and_parts (fits p arg k.val) (all_fit p tys (vals_of args)) f in
    let way2 = key-fits p w (MapUw ks c) c ks k way (along (MapUw ks c) refl) m (ap (λ t. fits p t k.val) (sym q.0) ∙ b.0) in (
      way2,
      ask-fits p kind (Some c) path (AtKey Update k w) args tys result way2
          (λ d e. subst (λ d. WayAlong p (AtKey Update k w) d) (same_Some c d e) (along-key p w (MapUw ks c) c ks k (along (MapUw ks c) refl) m)) q.1 b.1,
    )
ask-fits p kind (Some (MapDw ks c)) (Key ty ∷ path) w (k ∷ args) (arg ∷ tys) result way along h f =
    let m : IsMap (MapDw ks c) ks c = record { held = refl; keys = refl; at = λ t. refl } in
    let q = asked-key p kind ks ty arg c path tys result (same_ty ks ty) (same_ty arg ty) refl refl h in
    let b = and_parts (fits p arg k.val) (all_fit p tys (vals_of args)) f in
    let way2 = key-fits p w (MapDw ks c) c ks k way (along (MapDw ks c) refl) m (ap (λ t. fits p t k.val) (sym q.0) ∙ b.0) in (
      way2,
      ask-fits p kind (Some c) path (AtKey Delete k w) args tys result way2
          (λ d e. subst (λ d. WayAlong p (AtKey Delete k w) d) (same_Some c d e) (along-key p w (MapDw ks c) c ks k (along (MapDw ks c) refl) m)) q.1 b.1,
    )
ask-fits p kind (Some (SetAw t)) (Key ty ∷ path) w (k ∷ args) (arg ∷ tys) result way along h f = no h
ask-fits p kind (Some (SetRw t)) (Key ty ∷ path) w (k ∷ args) (arg ∷ tys) result way along h f = no h
ask-fits p kind (Some (Reg t)) (Key ty ∷ path) w (k ∷ args) (arg ∷ tys) result way along h f = no h
ask-fits p kind (Some (MvReg t)) (Key ty ∷ path) w (k ∷ args) (arg ∷ tys) result way along h f = no h
ask-fits p kind (Some Counter) (Key ty ∷ path) w (k ∷ args) (arg ∷ tys) result way along h f = no h
ask-fits p kind (Some (Struct fs)) (Key ty ∷ path) w (k ∷ args) (arg ∷ tys) result way along h f = no h

-- # From the root

-- what a well-formed program keeps of its operations
abbrev pub OpsStand : Prog → Type 0
OpsStand p =
    (o : ℕ) (decl : OpDecl) → slice_get p.ops o ≡ Some decl
    → IsTx decl ⊎ (op_stands decl.kind (reached (root_crdt (slice_get p.roots decl.root)) decl.path) (own_args decl.path decl.args) ≡ true)

pub root-along : (p : Prog) → OpsStand p → (root : ℕ) (c : Cr) → root_crdt (slice_get p.roots root) ≡ Some c → WayAlong p (Root root) c
root-along p ops root c e o decl eo g = start (ops o decl eo)
  where
    start : IsTx decl ⊎ (op_stands decl.kind (reached (root_crdt (slice_get p.roots decl.root)) decl.path) (own_args decl.path decl.args) ≡ true) → IsTx decl ⊎ Along decl 0 0 c
    start (inl tx) = inl tx
    start (inr h) =
        let here : root_crdt (slice_get p.roots decl.root) ≡ Some c = ap (λ r. root_crdt (slice_get p.roots r)) (eqb-true decl.root root g) ∙ e in
        inr (record {
          front = [];
          rest = decl.path;
          path = refl;
          count = refl;
          keys_are = refl;
          heads = [];
          own = decl.args;
          args = refl;
          heads_are = refl;
          stands = ap (λ r. op_stands decl.kind (reached r decl.path) (own_args decl.path decl.args)) (sym here) ∙ h;
        })

pub question-fits : (p : Prog) → OpsStand p → (query : QueryDecl) (args : List Both)
    → query_stands p.types p.cons query.kind (reached (root_crdt (slice_get p.roots query.root)) query.path) (own_args query.path query.args) query.result ≡ true
    → all_fit p query.args (vals_of args) ≡ true → AskFits p query.kind (root_crdt (slice_get p.roots query.root)) query.path (Root query.root) args
question-fits p ops query args stands f =
    ask-fits p query.kind (root_crdt (slice_get p.roots query.root)) query.path (Root query.root) args query.args query.result tt
    (root-along p ops query.root)
    stands f
