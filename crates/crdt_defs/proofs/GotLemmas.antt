-- What a query that gives a value answers: a counter a number, and a register what an assignment at its path holds.
use Rattle.std.proofs.Common.{◌≡◌, ℕ, zero, suc, ◌+◌, ℤ, Bool, true, false, if◌then◌else◌, List, [], ◌∷◌, length, drop, refl, ap, sym, ◌∙◌, subst, arith, slice_get, nat_eq, eqb-true, ◌⊎◌, inl, inr, true≢false}
use Rattle.std.specs.declared.option.Option.{Option}
use Rattle.std.specs.declared.option.Option.TheVariants.{None, Some}
use Rattle.std.proofs.lemmas.Bool.{and_parts}
use Rattle.std.proofs.lemmas.Option.{none-some, same_Some}
use Rattle.rp_value.specs.declared.tables.Ty.{Ty}
use Rattle.rp_value.specs.Values as val
use Rattle.rp_value.specs.Values.{Val, no_val, also_val}
use Rattle.rp_lang.specs.Crdts.{Cr, Reg, Counter, MapUw, MapDw}
use Rattle.rp_lang.specs.Paths.{field_in, held_at, reached, own_args, root_crdt}
use Rattle.rp_lang.specs.Types.{same_ty}
use Rattle.rp_lang.specs.Programs.{Prog}
use Rattle.rp_lang.specs.declared.op.OpDecl.{OpDecl}
use Rattle.rp_lang.specs.declared.op.OpKind.{OpKind}
use Rattle.rp_lang.specs.declared.op.OpKind.TheVariants.{Tx, Add, Remove, Assign, Increment, Delete}
use Rattle.rp_lang.specs.declared.op.PathStep.{PathStep}
use Rattle.rp_lang.specs.declared.op.PathStep.TheVariants.{Field, Key}
use Rattle.rp_lang.specs.declared.query.QueryDecl.{QueryDecl}
use Rattle.rp_lang.specs.declared.query.QueryKind.TheVariants.{GetReg, GetSum}
use Rattle.crdt_defs.specs.declared.asked.Answer.{Answer}
use Rattle.crdt_defs.specs.declared.asked.Answer.TheVariants.{Value}
use Rattle.crdt_defs.specs.declared.asked.Found.TheVariants.{Sum, At, Nothing}
use Rattle.crdt_defs.specs.Calls.{Call}
use Rattle.crdt_defs.specs.Doing.{same_kind, meets_op, op_is, is_of, on_root, is_field, is_some_key, goes_to_field, goes_to_key, own_argument}
use Rattle.crdt_defs.specs.Histories.{meets, call_is}
use Rattle.crdt_defs.specs.Meaning.{among, in_field, at_key, latest, counter_sum}
use Rattle.crdt_defs.specs.Queries.{question, at_call, answer_at, held_in, winner_in, ask, answer_to, answer_by}
use Rattle.crdt_defs.specs.Truths.{Reading, or_false, nth_con, answer_val, asked}
use Rattle.crdt_defs.proofs.AskedLemmas.{first-meets}

pub none-reached : (path : List PathStep) (end : Cr) → reached None path ≡ Some end → ⊥
none-reached path end h = none-some end h

-- what a map holds, whatever the type that the step asks of its keys
pub held-reached : (ty : Ty) (crdt : Cr) (path : List PathStep) (end : Cr) → reached (held_at ty crdt) path ≡ Some end → reached (held_in crdt) path ≡ Some end
held-reached ty (MapUw keys at_each) path end h = go (same_ty keys ty) h
  where
    go : (b : Bool) → reached (if b then Some at_each else None) path ≡ Some end → reached (Some at_each) path ≡ Some end
    go true h = h
    go false h = absurd (none-reached path end h)
held-reached ty (MapDw keys at_each) path end h = go (same_ty keys ty) h
  where
    go : (b : Bool) → reached (if b then Some at_each else None) path ≡ Some end → reached (Some at_each) path ≡ Some end
    go true h = h
    go false h = absurd (none-reached path end h)
held-reached ty _ path end h = absurd (none-reached path end h)

-- # The calls that count for a path

-- each such call's operation goes the same way, and from here on to where its own path leads
abbrev pub GoesAlong : List OpDecl → List Call → Option Cr → ℕ → Option Cr → (ℕ → Bool) → Type 0
GoesAlong ops h root depth crdt counted =
    (c : ℕ) → counted c ≡ true → (call : Call) × (op : OpDecl) × (slice_get h c ≡ Some call) × (slice_get ops call.op ≡ Some op)
    × ((end : Cr) → reached root op.path ≡ Some end → reached crdt (drop depth op.path) ≡ Some end)

pub met-call : (h : List Call) (test : Call → Bool) (c : ℕ) → call_is h test c ≡ true → (call : Call) × (slice_get h c ≡ Some call) × (test call ≡ true)
met-call h test c m = go (slice_get h c) refl m
  where
    go : (o : Option Call) → slice_get h c ≡ o → meets test o ≡ true → (call : Call) × (slice_get h c ≡ Some call) × (test call ≡ true)
    go None e m = absurd (true≢false (sym m))
    go (Some call) e m = (call, e, m)

pub met-op : (ops : List OpDecl) (test : OpDecl → Bool) (call : Call) → op_is ops test call ≡ true → (op : OpDecl) × (slice_get ops call.op ≡ Some op) × (test op ≡ true)
met-op ops test call m = go (slice_get ops call.op) refl m
  where
    go : (o : Option OpDecl) → slice_get ops call.op ≡ o → meets_op test o ≡ true → (op : OpDecl) × (slice_get ops call.op ≡ Some op) × (test op ≡ true)
    go None e m = absurd (true≢false (sym m))
    go (Some op) e m = (op, e, m)

drop-at : (path : List PathStep) (depth : ℕ) (step : PathStep) → slice_get path depth ≡ Some step → drop depth path ≡ step ∷ drop (depth + 1) path
drop-at [] depth step h = absurd (none-some step h)
drop-at (s ∷ path) zero step h = ap (λ s. s ∷ path) (same_Some s step h)
drop-at (s ∷ path) (suc depth) step h =
    let one_more : suc (depth + 1) ≡ suc depth + 1 = omega arith in
    drop-at path depth step h ∙ ap (λ k. step ∷ drop k (s ∷ path)) one_more

is-field : (n : ℕ) (o : Option PathStep) → is_field n o ≡ true → o ≡ Some (Field n)
is-field n (Some (Field m)) h = ap (λ k. Some (Field k)) (sym (eqb-true n m h))
is-field n (Some (Key ty)) h = absurd (true≢false (sym h))
is-field n None h = absurd (true≢false (sym h))

is-key : (o : Option PathStep) → is_some_key o ≡ true → (ty : Ty) × (o ≡ Some (Key ty))
is-key (Some (Key ty)) h = (ty, refl)
is-key (Some (Field m)) h = absurd (true≢false (sym h))
is-key None h = absurd (true≢false (sym h))

along-field : (ops : List OpDecl) (h : List Call) (root : Option Cr) (depth n : ℕ) (crdt : Cr) (counted : ℕ → Bool)
    → GoesAlong ops h root depth (Some crdt) counted → GoesAlong ops h root (depth + 1) (field_in crdt n) (in_field ops h depth n counted)
along-field ops h root depth n crdt counted along c m =
    let both = and_parts (counted c) _ m in
    let old = along c both.0 in
    let call = met-call h (goes_to_field ops depth n) c both.1 in
    let op = met-op ops (λ op. is_field n (slice_get op.path depth)) call.0 call.2 in
    let same : call.0 ≡ old.0 = same_Some call.0 old.0 (sym call.1 ∙ old.2) in
    let same_op : op.0 ≡ old.1 = same_Some op.0 old.1 (sym op.1 ∙ (ap (λ (x : Call). slice_get ops x.op) same ∙ old.3)) in
    let step = drop-at old.1.path depth (Field n) (ap (λ (o : OpDecl). slice_get o.path depth) (sym same_op) ∙ is-field n (slice_get op.0.path depth) op.2) in
    (old.0, old.1, old.2, old.3, λ end e. ap (reached (Some crdt)) (sym step) ∙ old.4 end e)

along-key : (ops : List OpDecl) (h : List Call) (root : Option Cr) (depth : ℕ) (k : Val) (crdt : Cr) (counted : ℕ → Bool)
    → GoesAlong ops h root depth (Some crdt) counted → GoesAlong ops h root (depth + 1) (held_in crdt) (at_key ops h (winner_in crdt) depth k counted)
along-key ops h root depth k crdt counted along c m =
    let both = and_parts (counted c) _ (and_parts _ _ m).0 in
    let old = along c both.0 in
    let call = met-call h (goes_to_key ops depth k) c both.1 in
    let op = met-op ops _ call.0 call.2 in
    let same : call.0 ≡ old.0 = same_Some call.0 old.0 (sym call.1 ∙ old.2) in
    let same_op : op.0 ≡ old.1 = same_Some op.0 old.1 (sym op.1 ∙ (ap (λ (x : Call). slice_get ops x.op) same ∙ old.3)) in
    let key = is-key (slice_get op.0.path depth) (and_parts _ _ op.2).0 in
    let step = drop-at old.1.path depth (Key key.0) (ap (λ (o : OpDecl). slice_get o.path depth) (sym same_op) ∙ key.1) in
    (old.0, old.1, old.2, old.3, λ end e. held-reached key.0 crdt (drop (depth + 1) old.1.path) end (ap (reached (Some crdt)) (sym step) ∙ old.4 end e))

-- # Counters

no_args : (args : List Val) → length args ≡ 0 → args ≡ []
no_args [] h = refl
no_args (a ∷ args) h = absurd (omega arith)

got-sum : (ops : List OpDecl) (h : List Call) (crdt : Option Cr) (path : List PathStep) (tys : List Ty) (depth : ℕ) (counted : ℕ → Bool) (args : List Val)
    → reached crdt path ≡ Some Counter → own_args path tys ≡ Some [] → length args ≡ length tys
    → (n : ℤ) × (ask ops h GetSum crdt path depth counted args ≡ Value (Sum n))
got-sum ops h None path tys depth counted args r o l = absurd (none-reached path Counter r)
got-sum ops h (Some crdt) [] tys depth counted args r o l =
    let same = same_Some crdt Counter r in
    let empty = same_Some tys [] o in
    let none = no_args args (l ∙ ap length empty) in
    (counter_sum ops h counted, ap (λ c. answer_at ops h depth counted (question c GetSum) args) same ∙ ap (λ a. answer_at ops h depth counted (question Counter GetSum) a) none)
got-sum ops h (Some crdt) (Field n ∷ path) tys depth counted args r o l =
    got-sum ops h (field_in crdt n) path tys (depth + 1) (in_field ops h depth n counted) args r o l
got-sum ops h (Some crdt) (Key ty ∷ path) [] depth counted args r o l = absurd (none-some [] o)
got-sum ops h (Some crdt) (Key ty ∷ path) (t ∷ tys) depth counted [] r o l = absurd (omega arith)
got-sum ops h (Some crdt) (Key ty ∷ path) (t ∷ tys) depth counted (k ∷ args) r o l =
    got-sum ops h (held_in crdt) path tys (depth + 1) (at_key ops h (winner_in crdt) depth k counted) args (held-reached ty crdt path Counter r) (keys (same_ty t ty) o) (omega arith)
  where
    keys : (b : Bool) → (if b then own_args path tys else None) ≡ Some [] → own_args path tys ≡ Some []
    keys true h = h
    keys false h = absurd (none-some [] h)

-- # Registers

-- a call of an assignment to a register of the type
pub record IsAssign (ops : List OpDecl) (h : List Call) (root : Option Cr) (ty : Ty) (c : ℕ) : Type 0 where
  pub call : Call
  pub op : OpDecl
  pub is : slice_get h c ≡ Some call
  pub does : slice_get ops call.op ≡ Some op
  pub kind : op.kind ≡ Assign
  pub leads : (end : Cr) → reached root op.path ≡ Some end → end ≡ Reg ty

is-assign : (kind : OpKind) → same_kind kind Assign ≡ true → kind ≡ Assign
is-assign Assign h = refl
is-assign Tx h = absurd (true≢false (sym h))
is-assign Add h = absurd (true≢false (sym h))
is-assign Remove h = absurd (true≢false (sym h))
is-assign Increment h = absurd (true≢false (sym h))
is-assign Delete h = absurd (true≢false (sym h))

-- a register is the end of each path
reg-end : (ty : Ty) (path : List PathStep) (end : Cr) → reached (Some (Reg ty)) path ≡ Some end → end ≡ Reg ty
reg-end ty [] end h = sym (same_Some (Reg ty) end h)
reg-end ty (Field n ∷ path) end h = absurd (none-reached path end h)
reg-end ty (Key t ∷ path) end h = absurd (none-reached path end h)

abbrev pub GotReg : List OpDecl → List Call → Option Cr → Ty → (ℕ → Bool) → Answer → Type 0
GotReg ops h root ty counted answer = (answer ≡ Value Nothing) ⊎ ((c : ℕ) × (answer ≡ Value (At c)) × (counted c ≡ true) × IsAssign ops h root ty c)

latest-assign : (ops : List OpDecl) (h : List Call) (root : Option Cr) (ty : Ty) (depth : ℕ) (counted : ℕ → Bool) → GoesAlong ops h root depth (Some (Reg ty)) counted
    → GotReg ops h root ty counted (answer_at ops h depth counted (question (Reg ty) GetReg) [])
latest-assign ops h root ty depth counted along = go (latest ops h counted) refl
  where
    go : (o : Option ℕ) → latest ops h counted ≡ o → GotReg ops h root ty counted (Value (at_call o))
    go None e = inl refl
    go (Some c) e =
        let met = and_parts (counted c) _ (and_parts _ _ (first-meets _ (length h) c e)).0 in
        let old = along c met.0 in
        let call = met-call h (is_of ops Assign) c met.1 in
        let op = met-op ops (λ op. same_kind op.kind Assign) call.0 call.2 in
        let same : call.0 ≡ old.0 = same_Some call.0 old.0 (sym call.1 ∙ old.2) in
        let same_op : op.0 ≡ old.1 = same_Some op.0 old.1 (sym op.1 ∙ (ap (λ (x : Call). slice_get ops x.op) same ∙ old.3)) in
        inr (
          c,
          refl,
          met.0,
          record {
            call = old.0;
            op = old.1;
            is = old.2;
            does = old.3;
            kind = ap (λ (o : OpDecl). o.kind) (sym same_op) ∙ is-assign op.0.kind op.2;
            leads = λ end r. reg-end ty (drop depth old.1.path) end (old.4 end r);
          },
        )

fewer : (ops : List OpDecl) (h : List Call) (root : Option Cr) (ty : Ty) (a b : ℕ → Bool) (answer : Answer) → ((c : ℕ) → a c ≡ true → b c ≡ true) → GotReg ops h root ty a answer → GotReg ops h root ty b answer
fewer ops h root ty a b answer f (inl none) = inl none
fewer ops h root ty a b answer f (inr (c, e, m, i)) = inr (c, e, f c m, i)

got-reg : (ops : List OpDecl) (h : List Call) (root : Option Cr) (ty : Ty) (crdt : Option Cr) (path : List PathStep) (tys : List Ty) (depth : ℕ) (counted : ℕ → Bool) (args : List Val)
    → reached crdt path ≡ Some (Reg ty) → own_args path tys ≡ Some [] → length args ≡ length tys → GoesAlong ops h root depth crdt counted
    → GotReg ops h root ty counted (ask ops h GetReg crdt path depth counted args)
got-reg ops h root ty None path tys depth counted args r o l along = absurd (none-reached path (Reg ty) r)
got-reg ops h root ty (Some crdt) [] tys depth counted args r o l along =
    let same = same_Some crdt (Reg ty) r in
    let empty = same_Some tys [] o in
    let none = no_args args (l ∙ ap length empty) in
    subst (λ c. GotReg ops h root ty counted (answer_at ops h depth counted (question c GetReg) args)) (sym same)
    (subst (λ a. GotReg ops h root ty counted (answer_at ops h depth counted (question (Reg ty) GetReg) a)) (sym none)
    (latest-assign ops h root ty depth counted (subst (λ c. GoesAlong ops h root depth (Some c) counted) same along)))
got-reg ops h root ty (Some crdt) (Field n ∷ path) tys depth counted args r o l along =
    fewer ops h root ty (in_field ops h depth n counted) counted _ (λ c m. (and_parts (counted c) _ m).0)
    (got-reg ops h root ty (field_in crdt n) path tys (depth + 1) (in_field ops h depth n counted) args r o l
    (along-field ops h root depth n crdt counted along))
got-reg ops h root ty (Some crdt) (Key t ∷ path) [] depth counted args r o l along = absurd (none-some [] o)
got-reg ops h root ty (Some crdt) (Key t ∷ path) (u ∷ tys) depth counted [] r o l along = absurd (omega arith)
got-reg ops h root ty (Some crdt) (Key t ∷ path) (u ∷ tys) depth counted (k ∷ args) r o l along =
    fewer ops h root ty (at_key ops h (winner_in crdt) depth k counted) counted _ (λ c m. (and_parts (counted c) _ (and_parts (among h counted (goes_to_key ops depth k) c) _ m).0).0)
    (got-reg ops h root ty (held_in crdt) path tys (depth + 1) (at_key ops h (winner_in crdt) depth k counted) args (held-reached t crdt path (Reg ty) r) (keys (same_ty u t) o) (omega arith)
    (along-key ops h root depth k crdt counted along))
  where
    keys : (b : Bool) → (if b then own_args path tys else None) ≡ Some [] → own_args path tys ≡ Some []
    keys true h = h
    keys false h = absurd (none-some [] h)

-- # Of a reading

at-root : (ops : List OpDecl) (h : List Call) (n : ℕ) (root : Option Cr) (visible : ℕ → Bool) → GoesAlong ops h root 0 root (among h visible (on_root ops n))
at-root ops h n root visible c m =
    let both = and_parts (visible c) _ m in
    let call = met-call h (on_root ops n) c both.1 in
    let op = met-op ops (λ op. nat_eq op.root n) call.0 call.2 in
    (call.0, op.0, call.1, op.1, λ end e. e)

pub asked-sum : (r : Reading) (n : ℕ) (query : QueryDecl) (args : List Val) → slice_get r.program.queries n ≡ Some query → query.kind ≡ GetSum
    → reached (root_crdt (slice_get r.program.roots query.root)) query.path ≡ Some Counter → own_args query.path query.args ≡ Some [] → length args ≡ length query.args
    → (m : ℤ) × (asked r n args ≡ val.Int m)
asked-sum r n query args is kind leads own counted =
    let p = r.program in
    let h = r.parts.calls in
    let k = got-sum p.ops h (root_crdt (slice_get p.roots query.root)) query.path query.args 0 (among h r.visible (on_root p.ops query.root)) args
    leads own counted in
    let answer : answer_to p.roots p.ops query h r.visible args ≡ Value (Sum k.0) =
    ap (λ kind. ask p.ops h kind (root_crdt (slice_get p.roots query.root)) query.path 0 (among h r.visible (on_root p.ops query.root)) args) kind ∙ k.1 in
    (k.0, ap (λ o. answer_val p h o (answer_by p o h r.visible args)) is ∙ ap (answer_val p h (Some query)) answer)

-- `none`, or `some` of what an assignment to a register of the type holds
abbrev pub IsGot : Reading → QueryDecl → Ty → Val → Type 0
IsGot r query ty v =
    (v ≡ val.Con (nth_con r.program query.result 0) no_val)
    ⊎ ((c : ℕ) × (among r.parts.calls r.visible (on_root r.program.ops query.root) c ≡ true) × IsAssign r.program.ops r.parts.calls (root_crdt (slice_get r.program.roots query.root)) ty c
    × (v ≡ val.Con (nth_con r.program query.result 1) (also_val (or_false (own_argument r.program.ops (slice_get r.parts.calls c))) no_val)))

pub asked-reg : (r : Reading) (n : ℕ) (query : QueryDecl) (ty : Ty) (args : List Val) → slice_get r.program.queries n ≡ Some query → query.kind ≡ GetReg
    → reached (root_crdt (slice_get r.program.roots query.root)) query.path ≡ Some (Reg ty) → own_args query.path query.args ≡ Some [] → length args ≡ length query.args
    → IsGot r query ty (asked r n args)
asked-reg r n query ty args is kind leads own counted = go (got-reg p.ops h root ty (root_crdt (slice_get p.roots query.root)) query.path query.args 0 visible args
    leads own counted
    (at-root p.ops h query.root root r.visible))
  where
    p : Prog
    p = r.program

    h : List Call
    h = r.parts.calls

    root : Option Cr
    root = root_crdt (slice_get r.program.roots query.root)

    visible : ℕ → Bool
    visible = among r.parts.calls r.visible (on_root r.program.ops query.root)

    answer : Answer
    answer = ask r.program.ops r.parts.calls GetReg (root_crdt (slice_get r.program.roots query.root)) query.path 0 visible args

    value_is : (a : Answer) → answer ≡ a → asked r n args ≡ answer_val p h (Some query) a
    value_is a e =
        ap (λ o. answer_val p h o (answer_by p o h r.visible args)) is
        ∙ ap (answer_val p h (Some query)) (ap (λ kind. ask p.ops h kind (root_crdt (slice_get p.roots query.root)) query.path 0 visible args) kind ∙ e)

    go : GotReg p.ops h root ty visible answer → IsGot r query ty (asked r n args)
    go (inl none) = inl (value_is (Value Nothing) none)
    go (inr (c, e, m, i)) = inr (c, m, i, value_is (Value (At c)) e)
