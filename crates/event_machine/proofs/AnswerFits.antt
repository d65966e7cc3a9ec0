-- What the store answers fits the type of the query.
use Rattle.std.proofs.Common.{◌≡◌, ℕ, zero, suc, ◌+◌, Bool, true, if◌then◌else◌, cond, nat_eq, List, [], ◌∷◌, length, Option, Some, None, slice_get, eqb-true, refl, sym, ◌∙◌, ap, arith, inl, inr, true≢false}
use Rattle.std.proofs.lemmas.Option.{none-some, same_Some}
use Rattle.std.proofs.lemmas.List.Sums.{sum_by-cons}
use Rattle.rp_value.specs.declared.tables.Ty.{Ty}
use Rattle.rp_value.specs.declared.tables.Ty.TheVariants as ty
use Rattle.rp_value.specs.Values as val
use Rattle.rp_value.specs.Values.{Val, no_val, also_val}
use Rattle.rp_lang.specs.declared.op.OpDecl.{OpDecl}
use Rattle.rp_lang.specs.declared.op.OpKind.{OpKind}
use Rattle.rp_lang.specs.declared.op.OpKind.TheVariants.{Assign}
use Rattle.rp_lang.specs.declared.op.PathStep.{PathStep}
use Rattle.rp_lang.specs.declared.op.PathStep.TheVariants.{Field, Key}
use Rattle.rp_lang.specs.declared.query.QueryDecl.{QueryDecl}
use Rattle.rp_lang.specs.declared.query.QueryKind.{QueryKind}
use Rattle.rp_lang.specs.declared.query.QueryKind.TheVariants.{Contains, HasKey, GetReg, GetSum}
use Rattle.rp_lang.specs.Crdts.{Cr, Reg, Counter}
use Rattle.rp_lang.specs.Types as types
use Rattle.rp_lang.specs.Types.{same_ty, is_ty}
use Rattle.rp_lang.specs.Typing.{query_args, is_get, value_asked}
use Rattle.rp_lang.specs.Paths.{reached, own_args, root_crdt, value_of, amounts_of, is_maybe_in, query_fits, query_stands, is_query, is_tx_kind, op_fits}
use Rattle.rp_lang.specs.Programs.{Prog}
use Rattle.crdt_defs.specs.Calls.{Call}
use Rattle.crdt_defs.specs.Doing.{is_key, keys_in, own_of, own_argument, on_root}
use Rattle.crdt_defs.specs.Meaning.{among}
use Rattle.crdt_defs.specs.Truths.{or_false, asked}
use Rattle.crdt_defs.proofs.GotLemmas.{met-call, met-op, IsAssign, IsGot, asked-sum, asked-reg}
use Rattle.event_machine.specs.Fitting.{fits, fields_fit, all_fit}
use Rattle.event_machine.specs.Machine.{Invocation, State, at_invocation}
use Rattle.event_machine.specs.WellFormed.{At}
use Rattle.event_machine.proofs.FormLemmas.{both_true}
use Rattle.event_machine.proofs.MoveLemmas.{and-make}
use Rattle.event_machine.proofs.ProgramFits.{each}
use Rattle.event_machine.proofs.TypedValues.{same-type, AskedFits, con-fits}
use Rattle.event_machine.proofs.ProgramFacts.{Facts, nothing, only, IsMaybe, maybe-of, op-is, op-stands, own-step}

-- the arguments of each call fit its operation
abbrev pub CallsFit : Prog → List Call → Type 0
CallsFit p calls = (c : ℕ) (call : Call) → At calls c call → (op : OpDecl) × At p.ops call.op op × (all_fit p op.args call.args ≡ true)

-- # The own argument of an operation

-- each value fits the type at its place
pub fit-at : (p : Prog) (ts : List Ty) (vs : List Val) (k : ℕ) (t : Ty) → all_fit p ts vs ≡ true → At ts k t → (v : Val) × At vs k v × (fits p t v ≡ true)
fit-at p [] vs k t h at = absurd (none-some t at)
fit-at p (u ∷ ts) [] k t h at = absurd (true≢false (sym h))
fit-at p (u ∷ ts) (v ∷ vs) zero t h at = (v, refl, ap (λ t. fits p t v) (sym (same_Some u t at)) ∙ (both_true _ _ h).0)
fit-at p (u ∷ ts) (v ∷ vs) (suc k) t h at = fit-at p ts vs k t (both_true _ _ h).1 at

field-keys : (n : ℕ) (path : List PathStep) → keys_in (Field n ∷ path) ≡ keys_in path
field-keys n path =
    let more : keys_in (Field n ∷ path) ≡ 0 + keys_in path = sum_by-cons (λ x. cond (is_key x) 1 0) (Field n) path in
    omega (arith, more)

key-keys : (ty : Ty) (path : List PathStep) → keys_in (Key ty ∷ path) ≡ suc (keys_in path)
key-keys ty path =
    let more : keys_in (Key ty ∷ path) ≡ 1 + keys_in path = sum_by-cons (λ x. cond (is_key x) 1 0) (Key ty) path in
    omega (arith, more)

-- it stands behind the keys of the path
own-at : (path : List PathStep) (tys : List Ty) (t : Ty) → own_args path tys ≡ Some (t ∷ []) → At tys (keys_in path) t
own-at [] tys t h = ap (λ xs. slice_get xs 0) (same_Some tys (t ∷ []) h)
own-at (Field n ∷ path) tys t h = ap (slice_get tys) (field-keys n path) ∙ own-at path tys t h
own-at (Key ty ∷ path) [] t h = absurd (none-some (t ∷ []) h)
own-at (Key ty ∷ path) (u ∷ tys) t h =
    ap (slice_get (u ∷ tys)) (key-keys ty path) ∙ own-at path tys t (own-step u ty path tys (t ∷ []) (same_ty u ty) refl h).1

no-tx : (kind : OpKind) → kind ≡ Assign → is_tx_kind kind ≡ true → ⊥
no-tx kind e h = true≢false (sym h ∙ ap is_tx_kind e)

-- what an assignment to a register of the type holds
assigned-fits : (p : Prog) (s : State) (root : ℕ) (ty : Ty) (c : ℕ) (visible : ℕ → Bool) → Facts p → CallsFit p s.calls
    → among s.calls visible (on_root p.ops root) c ≡ true → IsAssign p.ops s.calls (root_crdt (slice_get p.roots root)) ty c
    → fits p ty (or_false (own_argument p.ops (slice_get s.calls c))) ≡ true
assigned-fits p s root ty c visible f calls m a =
    let call = met-call s.calls (on_root p.ops root) c (both_true _ _ m).1 in
    let op = met-op p.ops (λ op. nat_eq op.root root) call.0 call.2 in
    let same : call.0 ≡ a.call = same_Some call.0 a.call (sym call.1 ∙ a.is) in
    let same_op : op.0 ≡ a.op = same_Some op.0 a.op (sym op.1 ∙ (ap (λ (x : Call). slice_get p.ops x.op) same ∙ a.does)) in
    let on : a.op.root ≡ root = ap (λ (o : OpDecl). o.root) (sym same_op) ∙ eqb-true op.0.root root op.2 in
    let typed = calls c a.call a.is in
    let typed_op : typed.0 ≡ a.op = same_Some typed.0 a.op (sym typed.1 ∙ a.does) in
    let fit : all_fit p a.op.args a.call.args ≡ true = ap (λ (o : OpDecl). all_fit p o.args a.call.args) (sym typed_op) ∙ typed.2 in
    elim (op-is p.roots p.ops a.call.op a.op f.ops a.does) [
      | inl tx ↦ absurd (no-tx a.op.kind a.kind (both_true _ _ (both_true _ _ (both_true _ _ tx).0).0).0)
      | inr is ↦
          let stands = op-stands a.op.kind _ _ (both_true _ _ is).1 in
          let end : stands.end ≡ Reg ty = a.leads stands.end (ap (λ n. reached (root_crdt (slice_get p.roots n)) a.op.path) (sym on) ∙ stands.leads) in
          let assigns : op_fits Assign stands.end stands.args ≡ true = ap (λ k. op_fits k stands.end stands.args) (sym a.kind) ∙ stands.fit in
          let fits_register : op_fits Assign (Reg ty) stands.args ≡ true = ap (λ c. op_fits Assign c stands.args) (sym end) ∙ assigns in
          let own : stands.args ≡ ty ∷ [] = only ty stands.args fits_register in
          let v = fit-at p a.op.args a.call.args (keys_in a.op.path) ty fit (own-at a.op.path a.op.args ty (stands.takes ∙ ap (λ ts. Some ts) own)) in
          let found : own_argument p.ops (slice_get s.calls c) ≡ Some v.0 = ap (own_argument p.ops) a.is ∙ (ap (own_of a.call) a.does ∙ v.1) in
          ap (λ o. fits p ty (or_false o)) found ∙ v.2
    ]

-- # Queries that give a value

pub counter-is : (crdt : Cr) (result : Ty) → is_ty (amounts_of crdt) result ≡ true → (crdt ≡ Counter) × (result ≡ ty.Int)
counter-is Counter result h = (refl, sym (same-type ty.Int result h))
counter-is _ result h = absurd (true≢false (sym h))

pub register-is : (p : Prog) (crdt : Cr) (result : Ty) → is_maybe_in p.types p.cons (value_of crdt) result ≡ true → (t : Ty) × (crdt ≡ Reg t) × (types.is_maybe_of p.types p.cons t result ≡ true)
register-is p (Reg t) result h = (t, refl, h)
register-is p _ result h = absurd (true≢false (sym h))

pub record QueryEnds (p : Prog) (query : QueryDecl) : Type 0 where
  pub crdt : Cr
  pub own : List Ty
  pub leads : reached (root_crdt (slice_get p.roots query.root)) query.path ≡ Some crdt
  pub takes : own_args query.path query.args ≡ Some own
  pub fit : query_fits p.types p.cons query.kind crdt own query.result ≡ true

pub query-leads : (p : Prog) (query : QueryDecl) → is_query p.types p.cons p.roots query ≡ true → QueryEnds p query
query-leads p query h = go (reached (root_crdt (slice_get p.roots query.root)) query.path) refl (own_args query.path query.args) refl (both_true _ _ h).1
  where
    go : (c : Option Cr) → reached (root_crdt (slice_get p.roots query.root)) query.path ≡ c → (own : Option (List Ty)) → own_args query.path query.args ≡ own
        → query_stands p.types p.cons query.kind c own query.result ≡ true → QueryEnds p query
    go (Some crdt) is (Some own) e h = record { crdt = crdt; own = own; leads = is; takes = e; fit = h }
    go (Some crdt) is None e h = absurd (true≢false (sym h))
    go None is own e h = absurd (true≢false (sym h))

-- `none`, or `some` of what fits
got-fits : (p : Prog) (s : State) (inv : Invocation) (query : QueryDecl) (t : Ty) (v : Val) → Facts p → CallsFit p s.calls → IsMaybe p t query.result
    → IsGot (at_invocation p s inv) query t v → fits p query.result v ≡ true
got-fits p s inv query t v f calls maybe (inl e) =
    ap (fits p query.result) (e ∙ ap (λ n. val.Con n no_val) maybe.none_is)
    ∙ con-fits p maybe.none no_val query.result maybe.none_makes (ap (λ ts. fields_fit p ts no_val) maybe.none_fields)
got-fits p s inv query t v f calls maybe (inr (c, m, a, e)) =
    let w = or_false (own_argument p.ops (slice_get s.calls c)) in
    ap (fits p query.result) (e ∙ ap (λ n. val.Con n (also_val w no_val)) maybe.some_is)
    ∙ con-fits p maybe.some (also_val w no_val) query.result maybe.some_makes
    (ap (λ ts. fields_fit p ts (also_val w no_val)) maybe.some_fields ∙ and-make (fits p t w) true (assigned-fits p s query.root t c (at_invocation p s inv).visible f calls m a) refl)

sum-fits : (p : Prog) (s : State) (inv : Invocation) (n : ℕ) (query : QueryDecl) (args : List Val) → At p.queries n query → query.kind ≡ GetSum → (l : QueryEnds p query)
    → length args ≡ length query.args → fits p query.result (asked (at_invocation p s inv) n args) ≡ true
sum-fits p s inv n query args at kind l count =
    let fit = both_true _ _ (ap (λ k. query_fits p.types p.cons k l.crdt l.own query.result) (sym kind) ∙ l.fit) in
    let c = counter-is l.crdt query.result fit.1 in
    let answer = asked-sum (at_invocation p s inv) n query args at kind (l.leads ∙ ap (λ c. Some c) c.0) (l.takes ∙ ap (λ ts. Some ts) (nothing l.own fit.0)) count in
    ap (fits p query.result) answer.1 ∙ ap (λ t. fits p t (val.Int answer.0)) c.1

reg-fits : (p : Prog) (s : State) (inv : Invocation) (n : ℕ) (query : QueryDecl) (args : List Val) → Facts p → CallsFit p s.calls → At p.queries n query → query.kind ≡ GetReg
    → (l : QueryEnds p query) → length args ≡ length query.args → fits p query.result (asked (at_invocation p s inv) n args) ≡ true
reg-fits p s inv n query args f calls at kind l count =
    let fit = both_true _ _ (ap (λ k. query_fits p.types p.cons k l.crdt l.own query.result) (sym kind) ∙ l.fit) in
    let c = register-is p l.crdt query.result fit.1 in
    got-fits p s inv query c.0 _ f calls (maybe-of p f c.0 query.result c.2)
    (asked-reg (at_invocation p s inv) n query c.0 args at kind (l.leads ∙ ap (λ c. Some c) c.1) (l.takes ∙ ap (λ ts. Some ts) (nothing l.own fit.0)) count)

-- what is asked of the store fits, where the arguments of calls fit
pub asked-fits : (p : Prog) (s : State) (inv : Invocation) → Facts p → CallsFit p s.calls → AskedFits p s inv
asked-fits p s inv f calls n args t e count = go (slice_get p.queries n) refl e count
  where
    by-kind : (query : QueryDecl) → At p.queries n query → (kind : QueryKind) → query.kind ≡ kind → (if is_get kind then Some query.result else None) ≡ Some t
        → length args ≡ length query.args → fits p t (asked (at_invocation p s inv) n args) ≡ true
    by-kind query at Contains is e count = absurd (none-some t e)
    by-kind query at HasKey is e count = absurd (none-some t e)
    by-kind query at GetSum is e count =
        ap (λ t. fits p t (asked (at_invocation p s inv) n args)) (sym (same_Some query.result t e))
        ∙ sum-fits p s inv n query args at is (query-leads p query (each (is_query p.types p.cons p.roots) p.queries n query f.queries at)) count
    by-kind query at GetReg is e count =
        ap (λ t. fits p t (asked (at_invocation p s inv) n args)) (sym (same_Some query.result t e))
        ∙ reg-fits p s inv n query args f calls at is (query-leads p query (each (is_query p.types p.cons p.roots) p.queries n query f.queries at)) count

    go : (o : Option QueryDecl) → slice_get p.queries n ≡ o → value_asked o ≡ Some t → length args ≡ length (query_args o) → fits p t (asked (at_invocation p s inv) n args) ≡ true
    go None is e count = absurd (none-some t e)
    go (Some query) is e count = by-kind query is query.kind refl e count
