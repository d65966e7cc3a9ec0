-- Values and truths are the same in a longer history, as long as none of the added calls is committed.
use Rattle.std.proofs.Common.{◌≡◌, ℕ, zero, suc, ◌<◌, ◌+ℤ◌, ◌-ℤ◌, int_lt, int_le, Bool, true, false, ◌&&◌, ◌||◌, not, if◌then◌else◌, List, [], ◌∷◌, length, refl, ap, ap₂, sym, ◌∙◌, subst, slice_get, inl, inr}
use Rattle.std.specs.declared.option.Option.{Option}
use Rattle.std.specs.declared.option.Option.TheVariants.{None, Some}
use Rattle.rp_value.specs.declared.tables.Ty.{Ty}
use Rattle.rp_value.specs.declared.tables.Ty.TheVariants as ty
use Rattle.rp_value.specs.Values as val
use Rattle.rp_value.specs.Values.{Val, Vals, no_val, also_val}
use Rattle.rp_lang.specs.Exprs.{Ex, Slot, Bound, Con, Plus, Add, Sub, Query, OpOf, OpTerm, OriginOf, InfoOf, InfoTerm, ResultOf, ResultTerm, ResultWith, Unreturned, Exs, no_ex, also_ex}
use Rattle.rp_lang.specs.Formulas as fo
use Rattle.rp_lang.specs.Formulas.{Fo, Fos, no_fo, also_fo, Arms, no_arm, also_arm}
use Rattle.rp_lang.specs.declared.op.OpDecl.{OpDecl}
use Rattle.rp_lang.specs.Programs.{Prog}
use Rattle.std.specs.List.{list_any}
use Rattle.std.specs.Prelude.{nat_eq}
use Rattle.std.proofs.lemmas.Bool.{and_parts}
use Rattle.crdt_defs.specs.Calls.{Call}
use Rattle.crdt_defs.specs.Counting.{all_below}
use Rattle.crdt_defs.specs.Doing.{own_argument, own_of, keys_in}
use Rattle.crdt_defs.specs.Histories.{call_is, before, some_call}
use Rattle.crdt_defs.specs.Parts.{Info, is_committed, each_member, some_member, is_done_by, is_before_all_of, inv_before}
use Rattle.crdt_defs.specs.Queries.{answer_in}
use Rattle.crdt_defs.specs.Snapshots.{bit}
use Rattle.crdt_defs.specs.Truths.{Reading, slot_value, or_false, number, list_of, truth_val, answer_val, asked, origin_of, operation_of, call_at, is_visible, is_before, is_same, value, values, Plain, Operation, Invoked, EndedWith, info_of, info_at, result_of, meant, same_meant, is_true, is_built, bind, bind_fields, truth, all_true, any_true, arm_true}
use Rattle.crdt_defs.proofs.AskedLemmas.{answer-visible, asked_is}
use Rattle.event_machine.specs.WellFormed as formed
use Rattle.crdt_defs.specs.Longer.{IsLonger, Bounded}
use Rattle.crdt_defs.proofs.BelowLonger.{any-same, all-same, any-longer, all-longer}
use Rattle.crdt_defs.proofs.QueryLonger.{answer-val-same, outside, guarded, call-same, query-same, some-same}
use Rattle.event_machine.proofs.PlaceLemmas.{in-call_is, at-lt}

-- # Values of which the calls inside are below n

abbrev mutual
  pub Old : ℕ → Val → Type 0
  Old n (val.Call c) = c < n
  Old n (val.Con con args) = AllOld n args
  Old n _ = Unit {0}

  pub AllOld : ℕ → Vals → Type 0
  AllOld n no_val = Unit {0}
  AllOld n (also_val v vs) = Old n v × AllOld n vs

abbrev pub OldList : ℕ → List Val → Type 0
OldList n [] = Unit {0}
OldList n (v ∷ vs) = Old n v × OldList n vs

old-truth : (n : ℕ) (b : Bool) → Old n (truth_val b)
old-truth n true = tt
old-truth n false = tt

old-bind : (n : ℕ) (vs : Vals) (bs : List Val) → AllOld n vs → OldList n bs → OldList n (bind vs bs)
old-bind n no_val bs h k = k
old-bind n (also_val v vs) bs h k = old-bind n vs (v ∷ bs) h.1 (h.0, k)

old-fields : (n : ℕ) (v : Val) (bs : List Val) → Old n v → OldList n bs → OldList n (bind_fields v bs)
old-fields n (val.Con con args) bs h k = old-bind n args bs h k
old-fields n _ bs h k = k

old-bound : (n k : ℕ) (bs : List Val) → OldList n bs → Old n (or_false (slice_get bs k))
old-bound n k [] h = tt
old-bound n zero (v ∷ bs) h = h.0
old-bound n (suc k) (v ∷ bs) h = old-bound n k bs h.1

-- # A longer history

abbrev pub over : Prog → ℕ → List Info → (ℕ → Bool) → List (Option Val) → List Call → List Bool → Reading
over p universe infos visible slots calls committed =
    record { program = p; parts = record { universe = universe; calls = calls; committed = committed; infos = infos }; visible = visible; slots = slots }

pub record IsExtended (h h' : List Call) (cm cm' : List Bool) (visible : ℕ → Bool) (slots : List (Option Val)) : Type 0 where
  pub more : IsLonger h h'
  pub comm : (c : ℕ) → call_is h' (λ call. bit cm' call.tx) c ≡ call_is h (λ call. bit cm call.tx) c
  pub seen : Bounded h visible
  pub args : (c : ℕ) (call : Call) (k : ℕ) (v : Val) → visible c ≡ true → formed.At h c call → formed.At call.args k v → Old (length h) v
  pub set : (k : ℕ) (v : Val) → formed.At slots k (Some v) → Old (length h) v

module _ (p : Prog) (u : ℕ) (infos : List Info) (visible : ℕ → Bool) (slots : List (Option Val)) (h h' : List Call) (cm cm' : List Bool) (e : IsExtended h h' cm cm' visible slots) where
  abbrev r : Reading
  r = over p u infos visible slots h cm

  abbrev r' : Reading
  r' = over p u infos visible slots h' cm'

  -- # Values

  own-old : (c : ℕ) → visible c ≡ true → (o : Option Call) → slice_get h c ≡ o → Old (length h) (or_false (own_argument p.ops o))
  own-old c m None is = tt
  own-old c m (Some call) is = by_op (slice_get p.ops call.op)
    where
      by_arg : (k : ℕ) (o : Option Val) → slice_get call.args k ≡ o → Old (length h) (or_false o)
      by_arg k None at = tt
      by_arg k (Some v) at = e.args c call k v m is at

      by_op : (o : Option OpDecl) → Old (length h) (or_false (own_of call o))
      by_op None = tt
      by_op (Some op) = by_arg (keys_in op.path) (slice_get call.args (keys_in op.path)) refl

  asked-old : (query : ℕ) (args : List Val) → Old (length h) (asked r query args)
  asked-old query args = elim (asked_is r query args) [
    | inl truth ↦ subst (Old (length h)) (sym truth.1) (old-truth (length h) truth.0)
    | inr others ↦ elim others [
      | inl number ↦ subst (Old (length h)) (sym number.1) tt
      | inr others ↦ elim others [
        | inl none ↦ subst (Old (length h)) (sym none.1) tt
        | inr some ↦ subst (Old (length h)) (sym some.3) (own-old some.1 some.2 (slice_get h some.1) refl, tt)
      ]
    ]
  ]

  slot-old : (o : Option (Option Val)) (k : ℕ) → slice_get slots k ≡ o → Old (length h) (slot_value o)
  slot-old None k is = tt
  slot-old (Some None) k is = tt
  slot-old (Some (Some v)) k is = e.set k v is

  origin-old : (o : Option Call) → Old (length h) (origin_of o)
  origin-old None = tt
  origin-old (Some call) = tt

  mutual
    pub value-old : (bs : List Val) → OldList (length h) bs → (x : Ex) → Old (length h) (value r bs x)
    value-old bs o (Slot s) = slot-old (slice_get slots s) s refl
    value-old bs o (Bound n) = old-bound (length h) n bs o
    value-old bs o (Con con args) = values-old bs o args
    value-old bs o (Query query args) = asked-old query (list_of (values r bs args))
    value-old bs o (OriginOf call) = origin-old (call_at r.parts (value r bs call))
    value-old bs o _ = tt

    values-old : (bs : List Val) → OldList (length h) bs → (xs : Exs) → AllOld (length h) (values r bs xs)
    values-old bs o no_ex = tt
    values-old bs o (also_ex x xs) = (value-old bs o x, values-old bs o xs)

  asked-same : (query : ℕ) (args : List Val) → asked r' query args ≡ asked r query args
  asked-same query args =
      ap (answer_val p h' (slice_get p.queries query)) (query-same h h' e.more p query visible e.seen args)
      ∙ answer-val-same h h' e.more p visible e.seen (slice_get p.queries query) (answer_in p query h visible args) (λ c is. answer-visible p query h visible args c is)

  call-at-same : (v : Val) → Old (length h) v → call_at r'.parts v ≡ call_at r.parts v
  call-at-same (val.Call c) o = e.more.kept c o
  call-at-same _ o = refl

  mutual
    pub value-same : (bs : List Val) → OldList (length h) bs → (x : Ex) → value r' bs x ≡ value r bs x
    value-same bs o (Con con args) = ap (val.Con con) (values-same bs o args)
    value-same bs o (Plus x n) = ap (λ v. val.Int (number v +ℤ n)) (value-same bs o x)
    value-same bs o (Add x y) = ap₂ (λ v w. val.Int (number v +ℤ number w)) (value-same bs o x) (value-same bs o y)
    value-same bs o (Sub x y) = ap₂ (λ v w. val.Int (number v -ℤ number w)) (value-same bs o x) (value-same bs o y)
    value-same bs o (Query query args) = ap (λ vs. asked r' query (list_of vs)) (values-same bs o args) ∙ asked-same query (list_of (values r bs args))
    value-same bs o (OriginOf call) = ap (λ v. origin_of (call_at r'.parts v)) (value-same bs o call) ∙ ap origin_of (call-at-same (value r bs call) (value-old bs o call))
    value-same bs o _ = refl

    pub values-same : (bs : List Val) → OldList (length h) bs → (xs : Exs) → values r' bs xs ≡ values r bs xs
    values-same bs o no_ex = refl
    values-same bs o (also_ex x xs) = ap₂ (λ v vs. also_val v vs) (value-same bs o x) (values-same bs o xs)

  meant-same : (bs : List Val) → OldList (length h) bs → (x : Ex) → meant r' bs x ≡ meant r bs x
  meant-same bs o (OpOf call) = ap (λ v. operation_of (call_at r'.parts v)) (value-same bs o call) ∙ ap operation_of (call-at-same (value r bs call) (value-old bs o call))
  meant-same bs o (OpTerm op args) = ap (Operation op) (values-same bs o args)
  meant-same bs o (InfoOf inv) = ap (λ v. info_of (info_at r'.parts v)) (value-same bs o inv)
  meant-same bs o (InfoTerm proc args) = ap (Invoked proc) (values-same bs o args)
  meant-same bs o (ResultOf inv) = ap (λ v. result_of (info_at r'.parts v)) (value-same bs o inv)
  meant-same bs o (ResultTerm proc) = refl
  meant-same bs o (ResultWith proc x) = ap (EndedWith proc) (value-same bs o x)
  meant-same bs o Unreturned = refl
  meant-same bs o x = ap Plain (value-same bs o x)

  -- # Calls

  comm-in : Bounded h (is_committed r.parts)
  comm-in c m = let k = in-call_is h (λ call. bit cm call.tx) c m in at-lt h c k.0 k.1

  done-in : (i : ℕ) → Bounded h (is_done_by r.parts i)
  done-in i c m = comm-in c (and_parts (is_committed r.parts c) _ m).0

  done-same : (i : ℕ) → is_done_by r'.parts i ≡ is_done_by r.parts i
  done-same i =
      let each : (c : ℕ) → is_done_by r'.parts i c ≡ is_done_by r.parts i c = λ c.
      ap (λ b. b && call_is h' (λ call. nat_eq call.inv i) c) (e.comm c)
      ∙ guarded h (is_committed r.parts) comm-in (call_is h' (λ call. nat_eq call.inv i)) (call_is h (λ call. nat_eq call.inv i)) c (λ l. call-same h h' e.more (λ call. nat_eq call.inv i) c l) in
      λ k c. each c k

  -- for each done call
  each-done : (i : ℕ) (f' f : ℕ → Bool) → ((c : ℕ) → c < length h → f' c ≡ f c)
      → all_below (λ c. not (is_done_by r'.parts i c) || f' c) (length h') ≡ all_below (λ c. not (is_done_by r.parts i c) || f c) (length h)
  each-done i f' f same =
      ap (λ (d : ℕ → Bool). all_below (λ c. not (d c) || f' c) (length h')) (done-same i)
      ∙ all-longer (λ c. not (is_done_by r.parts i c) || f' c) (λ c. not (is_done_by r.parts i c) || f c) (length h) (length h') e.more.longer
      (λ c l. ap (λ b. not (is_done_by r.parts i c) || b) (same c l))
      (λ c l. ap (λ b. not b || f' c) (outside h (is_done_by r.parts i) (done-in i) c l))

  inv-before-same : (i j : ℕ) → inv_before r'.parts i j ≡ inv_before r.parts i j
  inv-before-same i j =
      let all : all_below (λ c. not (is_done_by r'.parts i c) || is_before_all_of r'.parts j c) (length h') ≡ all_below (λ c. not (is_done_by r.parts i c) || is_before_all_of r.parts j c) (length h) =
      each-done i (is_before_all_of r'.parts j) (is_before_all_of r.parts j)
      (λ c l. each-done j (before h' c) (before h c) (λ d k. call-same h h' e.more (λ call. list_any (λ b. nat_eq b c) call.past) d k)) in
      let some : (i : ℕ) → some_call h' (is_done_by r'.parts i) ≡ some_call h (is_done_by r.parts i) = λ i. ap (some_call h') (done-same i) ∙ some-same h h' e.more (is_done_by r.parts i) (done-in i) in
      ap₂ (λ a b. a && b) (ap₂ (λ a b. a && b) (some i) (some j)) all

  before-same : (v w : Val) → Old (length h) v → Old (length h) w → is_before r'.parts v w ≡ is_before r.parts v w
  before-same (val.Call c) (val.Call d) o k = call-same h h' e.more (λ call. list_any (λ b. nat_eq b c) call.past) d k
  before-same (val.Inv i) (val.Inv j) o k = inv-before-same i j
  before-same _ _ o k = refl

  same-same : (v w : Val) → Old (length h) v → Old (length h) w → is_same r'.parts v w ≡ is_same r.parts v w
  same-same (val.Call c) (val.Call d) o k =
      let inner : (a : Call) → call_is h' (λ b. nat_eq a.tx b.tx) d ≡ call_is h (λ b. nat_eq a.tx b.tx) d = λ a. call-same h h' e.more (λ b. nat_eq a.tx b.tx) d k in
      let left : Call → Bool = λ a. call_is h' (λ b. nat_eq a.tx b.tx) d in
      let right : Call → Bool = λ a. call_is h (λ b. nat_eq a.tx b.tx) d in
      let inners : left ≡ right = λ i a. inner a i in
      ap (λ (t : Call → Bool). call_is h' t c) inners ∙ call-same h h' e.more (λ a. call_is h (λ b. nat_eq a.tx b.tx) d) c o
  same-same _ _ o k = refl

  visible-same : (v : Val) → is_visible r' v ≡ is_visible r v
  visible-same (val.Call c) = refl
  visible-same _ = refl

  -- # Quantifiers

  each-same : (over : Ty) (t' t : Val → Bool) → ((v : Val) → Old (length h) v → t' v ≡ t v) → each_member r'.parts over t' ≡ each_member r.parts over t
  each-same (ty.Atom atoms) t' t same = all-same _ _ u (λ n l. same (val.Atom atoms n) tt)
  each-same ty.Call t' t same =
      all-longer _ _ (length h) (length h') e.more.longer
      (λ c l. ap₂ (λ a b. not a || b) (e.comm c) (same (val.Call c) l))
      (λ c l. ap (λ b. not b || t' (val.Call c)) (e.comm c ∙ outside h (is_committed r.parts) comm-in c l))
  each-same ty.Inv t' t same = all-same _ _ (length infos) (λ n l. same (val.Inv n) tt)
  each-same _ t' t same = refl

  some-one-same : (over : Ty) (t' t : Val → Bool) → ((v : Val) → Old (length h) v → t' v ≡ t v) → some_member r'.parts over t' ≡ some_member r.parts over t
  some-one-same (ty.Atom atoms) t' t same = any-same _ _ u (λ n l. same (val.Atom atoms n) tt)
  some-one-same ty.Call t' t same =
      any-longer _ _ (length h) (length h') e.more.longer
      (λ c l. ap₂ (λ a b. a && b) (e.comm c) (same (val.Call c) l))
      (λ c l. ap (λ b. b && t' (val.Call c)) (e.comm c ∙ outside h (is_committed r.parts) comm-in c l))
  some-one-same ty.Inv t' t same = any-same _ _ (length infos) (λ n l. same (val.Inv n) tt)
  some-one-same _ t' t same = refl

  -- # Formulas

  mutual
    pub truth-same : (bs : List Val) → OldList (length h) bs → (f : Fo) → truth r' bs f ≡ truth r bs f
    truth-same bs o (fo.And fs) = all-true-same bs o fs
    truth-same bs o (fo.Or fs) = any-true-same bs o fs
    truth-same bs o (fo.Not f) = ap not (truth-same bs o f)
    truth-same bs o (fo.Implies f g) = ap₂ (λ a b. not a || b) (truth-same bs o f) (truth-same bs o g)
    truth-same bs o (fo.All over body) = each-same over _ _ (λ v k. truth-same (v ∷ bs) (k, o) body)
    truth-same bs o (fo.Any over body) = some-one-same over _ _ (λ v k. truth-same (v ∷ bs) (k, o) body)
    truth-same bs o (fo.Holds x) = ap is_true (value-same bs o x)
    truth-same bs o (fo.Equal x y) = ap₂ same_meant (meant-same bs o x) (meant-same bs o y)
    truth-same bs o (fo.Less x y) = ap₂ (λ v w. int_lt (number v) (number w)) (value-same bs o x) (value-same bs o y)
    truth-same bs o (fo.AtMost x y) = ap₂ (λ v w. int_le (number v) (number w)) (value-same bs o x) (value-same bs o y)
    truth-same bs o (fo.Visible x) = ap (is_visible r') (value-same bs o x) ∙ visible-same (value r bs x)
    truth-same bs o (fo.Before x y) = ap₂ (is_before r'.parts) (value-same bs o x) (value-same bs o y) ∙ before-same (value r bs x) (value r bs y) (value-old bs o x) (value-old bs o y)
    truth-same bs o (fo.Same x y) = ap₂ (is_same r'.parts) (value-same bs o x) (value-same bs o y) ∙ same-same (value r bs x) (value r bs y) (value-old bs o x) (value-old bs o y)
    truth-same bs o (fo.Match on arms) = ap (λ v. arm_true r' bs v arms) (value-same bs o on) ∙ arm-same bs o (value r bs on) (value-old bs o on) arms

    all-true-same : (bs : List Val) → OldList (length h) bs → (fs : Fos) → all_true r' bs fs ≡ all_true r bs fs
    all-true-same bs o no_fo = refl
    all-true-same bs o (also_fo f fs) = ap₂ (λ a b. a && b) (truth-same bs o f) (all-true-same bs o fs)

    any-true-same : (bs : List Val) → OldList (length h) bs → (fs : Fos) → any_true r' bs fs ≡ any_true r bs fs
    any-true-same bs o no_fo = refl
    any-true-same bs o (also_fo f fs) = ap₂ (λ a b. a || b) (truth-same bs o f) (any-true-same bs o fs)

    arm-same : (bs : List Val) → OldList (length h) bs → (v : Val) → Old (length h) v → (arms : Arms) → arm_true r' bs v arms ≡ arm_true r bs v arms
    arm-same bs o v k no_arm = refl
    arm-same bs o v k (also_arm con body rest) =
        ap₂ (λ a b. if is_built con v then a else b) (truth-same (bind_fields v bs) (old-fields (length h) v bs k o) body) (arm-same bs o v k rest)
