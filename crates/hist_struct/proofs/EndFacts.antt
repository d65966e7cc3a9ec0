-- The calls that count for a query that gives a value have its keys as their first arguments.
use Rattle.std.proofs.Common.{◌≡◌, ℕ, zero, suc, ◌+◌, Bool, true, false, ◌&&◌, cond, if◌then◌else◌, List, [], ◌∷◌, ◌++◌, length, take, slice_get, Option, Some, None, nat_eq, refl, sym, ap, ◌∙◌, subst, append_assoc, arith}
use Rattle.std.proofs.lemmas.Bool.{and_parts}
use Rattle.std.proofs.lemmas.List.{append-nil}
use Rattle.std.proofs.lemmas.List.Sums.{sum_by-cons}
use Rattle.std.proofs.lemmas.Option.{none-some, same_Some}
use Rattle.rp_value.specs.declared.tables.Ty.{Ty}
use Rattle.rp_value.specs.Values.{Val}
use Rattle.rp_lang.specs.Crdts.{Cr}
use Rattle.rp_lang.specs.Paths.{field_in, reached, own_args}
use Rattle.rp_lang.specs.Types.{same_ty}
use Rattle.rp_lang.specs.declared.op.OpDecl.{OpDecl}
use Rattle.rp_lang.specs.declared.op.PathStep.{PathStep}
use Rattle.rp_lang.specs.declared.op.PathStep.TheVariants.{Field, Key}
use Rattle.rp_lang.specs.declared.query.QueryKind.{QueryKind}
use Rattle.crdt_defs.proofs.GotLemmas.{held-reached, none-reached}
use Rattle.crdt_defs.specs.declared.asked.Winner.{Winner}
use Rattle.crdt_defs.specs.Calls.{Call}
use Rattle.crdt_defs.specs.SameValues.{value_is}
use Rattle.crdt_defs.specs.Doing.{is_key, keys_in, is_field, is_some_key, on_root, goes_to_field, goes_to_key}
use Rattle.crdt_defs.specs.Meaning.{among, in_field, at_key}
use Rattle.crdt_defs.specs.Queries.{question, answer_at, held_in, winner_in, ask}
use Rattle.crdt_defs.proofs.GotLemmas.{met-call, met-op}
use Rattle.event_machine.specs.WellFormed.{At}
use Rattle.rp_logic.proofs.SortLaws.{no}
use Rattle.crdt_enc.proofs.Starts.{Starts, starts-more}
use Rattle.crdt_enc.proofs.WayLaws.{value-there}

-- # Keys of a path

-- one where the step is a key
abbrev one_key : PathStep → ℕ
one_key step = cond (is_key step) 1 0

keys-next : (path : List PathStep) (n : ℕ) (step : PathStep) → slice_get path n ≡ Some step → keys_in (take (suc n) path) ≡ keys_in (take n path) + one_key step
keys-next [] n step e = absurd (none-some step e)
keys-next (s ∷ path) zero step e =
    let a : keys_in (s ∷ []) ≡ cond (is_key s) 1 0 + keys_in [] = sum_by-cons (λ x. cond (is_key x) 1 0) s [] in
    let b : one_key s ≡ one_key step = ap one_key (same_Some s step e) in
    omega (arith, a, b)
keys-next (s ∷ path) (suc n) step e =
    let r = keys-next path n step e in
    let a : keys_in (s ∷ take (suc n) path) ≡ cond (is_key s) 1 0 + keys_in (take (suc n) path) = sum_by-cons (λ x. cond (is_key x) 1 0) s (take (suc n) path) in
    let b : keys_in (s ∷ take n path) ≡ cond (is_key s) 1 0 + keys_in (take n path) = sum_by-cons (λ x. cond (is_key x) 1 0) s (take n path) in
    omega (arith, a, b, r)

keys-then : (path : List PathStep) (n : ℕ) (step : PathStep) (b : Bool) → slice_get path n ≡ Some step → is_key step ≡ b → keys_in (take (n + 1) path) ≡ keys_in (take n path) + cond b 1 0
keys-then path n step b e k =
    let one : n + 1 ≡ suc n = omega arith in
    ap (λ m. keys_in (take m path)) one ∙ (keys-next path n step e ∙ ap (λ b. keys_in (take n path) + cond b 1 0) k)

step-field : (n : ℕ) (o : Option PathStep) → is_field n o ≡ true → (step : PathStep) × (o ≡ Some step) × (is_key step ≡ false)
step-field n (Some (Field m)) h = (Field m, refl, refl)
step-field n (Some (Key ty)) h = no h
step-field n None h = no h

step-key : (o : Option PathStep) → is_some_key o ≡ true → (step : PathStep) × (o ≡ Some step) × (is_key step ≡ true)
step-key (Some (Key ty)) h = (Key ty, refl, refl)
step-key (Some (Field m)) h = no h
step-key None h = no h

one-more : (xs : List Val) (x : Val) → length (xs ++ x ∷ []) ≡ length xs + 1
one-more [] x = omega arith
one-more (y ∷ xs) x = let r = one-more xs x in omega (arith, r)

-- # The calls that count

-- the call has these arguments first, which are the keys of so many steps of its path
record Has (ops : List OpDecl) (h : List Call) (depth : ℕ) (taken : List Val) (c : ℕ) : Type 0 where
  call : Call
  op : OpDecl
  is : At h c call
  does : At ops call.op op
  keys : keys_in (take depth op.path) ≡ length taken
  starts : Starts taken call.args

abbrev AllHave : List OpDecl → List Call → ℕ → List Val → (ℕ → Bool) → Type 0
AllHave ops h depth taken counted = (c : ℕ) → counted c ≡ true → Has ops h depth taken c

at-root : (ops : List OpDecl) (h : List Call) (n : ℕ) (visible : ℕ → Bool) → AllHave ops h 0 [] (among h visible (on_root ops n))
at-root ops h n visible c m =
    let call = met-call h (on_root ops n) c (and_parts (visible c) _ m).1 in
    let op = met-op ops (λ op. nat_eq op.root n) call.0 call.2 in
    record { call = call.0; op = op.0; is = call.1; does = op.1; keys = refl; starts = tt }

at-field : (ops : List OpDecl) (h : List Call) (depth n : ℕ) (taken : List Val) (counted : ℕ → Bool) → AllHave ops h depth taken counted
    → AllHave ops h (depth + 1) taken (in_field ops h depth n counted)
at-field ops h depth n taken counted has c m =
    let both = and_parts (counted c) _ m in
    let old = has c both.0 in
    let call = met-call h (goes_to_field ops depth n) c both.1 in
    let op = met-op ops (λ op. is_field n (slice_get op.path depth)) call.0 call.2 in
    let same : call.0 ≡ old.call = same_Some call.0 old.call (sym call.1 ∙ old.is) in
    let same_op : op.0 ≡ old.op = same_Some op.0 old.op (sym op.1 ∙ (ap (λ (x : Call). slice_get ops x.op) same ∙ old.does)) in
    let step = step-field n (slice_get old.op.path depth) (ap (λ (o : OpDecl). is_field n (slice_get o.path depth)) (sym same_op) ∙ op.2) in
    let k = keys-then old.op.path depth step.0 false step.1 step.2 in
    let old_keys = old.keys in
    record { call = old.call; op = old.op; is = old.is; does = old.does; keys = omega (arith, k, old_keys); starts = old.starts }

at-map : (ops : List OpDecl) (h : List Call) (winner : Winner) (depth : ℕ) (k : Val) (taken : List Val) (counted : ℕ → Bool) → AllHave ops h depth taken counted
    → AllHave ops h (depth + 1) (taken ++ k ∷ []) (at_key ops h winner depth k counted)
at-map ops h winner depth k taken counted has c m =
    let both = and_parts (counted c) _ (and_parts (among h counted (goes_to_key ops depth k) c) _ m).0 in
    let old = has c both.0 in
    let call = met-call h (goes_to_key ops depth k) c both.1 in
    let op = met-op ops (λ op. go call.0 op) call.0 call.2 in
    let same : call.0 ≡ old.call = same_Some call.0 old.call (sym call.1 ∙ old.is) in
    let same_op : op.0 ≡ old.op = same_Some op.0 old.op (sym op.1 ∙ (ap (λ (x : Call). slice_get ops x.op) same ∙ old.does)) in
    let goes : go old.call old.op ≡ true = ap (λ (x : Call). go x old.op) (sym same) ∙ (ap (go call.0) (sym same_op) ∙ op.2) in
    let parts = and_parts (is_some_key (slice_get old.op.path depth)) (value_is k (slice_get old.call.args (keys_in (take depth old.op.path)))) goes in
    let step = step-key (slice_get old.op.path depth) parts.0 in
    let next = keys-then old.op.path depth step.0 true step.1 step.2 in
    let old_keys = old.keys in
    let long = one-more taken k in
    record {
      call = old.call;
      op = old.op;
      is = old.is;
      does = old.does;
      keys = omega (arith, next, old_keys, long);
      starts = (starts-more taken old.call.args k).1 (old.starts, ap (slice_get old.call.args) (sym old_keys) ∙ (value-there k _).0 parts.1);
    }
  where
    go : Call → OpDecl → Bool
    go call op = is_some_key (slice_get op.path depth) && value_is k (slice_get call.args (keys_in (take depth op.path)))

-- # At the end of the path

-- what is asked there, and of which calls: those have all keys
pub record End (ops : List OpDecl) (h : List Call) (kind : QueryKind) (crdt : Option Cr) (path : List PathStep) (depth : ℕ) (counted : ℕ → Bool) (args taken : List Val) (end : Cr) : Type 0 where
  pub steps : ℕ
  pub those : ℕ → Bool
  pub asks : ask ops h kind crdt path depth counted args ≡ answer_at ops h steps those (question end kind) []
  pub have : (c : ℕ) → those c ≡ true → (call : Call) × At h c call × Starts (taken ++ args) call.args

no-args : (args : List Val) → length args ≡ 0 → args ≡ []
no-args [] h = refl
no-args (a ∷ args) h = absurd (omega (arith, h))

keys-taken : (b : Bool) (path : List PathStep) (types : List Ty) → (if b then own_args path types else None) ≡ Some [] → own_args path types ≡ Some []
keys-taken true path types h = h
keys-taken false path types h = absurd (none-some [] h)

end-of : (ops : List OpDecl) (h : List Call) (kind : QueryKind) (crdt : Option Cr) (path : List PathStep) (types : List Ty) (depth : ℕ) (counted : ℕ → Bool) (args taken : List Val) (end : Cr)
    → reached crdt path ≡ Some end → own_args path types ≡ Some [] → length args ≡ length types → AllHave ops h depth taken counted → End ops h kind crdt path depth counted args taken end
end-of ops h kind None path types depth counted args taken end r o l has = absurd (none-reached path end r)
end-of ops h kind (Some crdt) [] types depth counted args taken end r o l has =
    let same = same_Some crdt end r in
    let empty = same_Some types [] o in
    let none = no-args args (l ∙ ap length empty) in
    record {
      steps = depth;
      those = counted;
      asks = ap (λ c. answer_at ops h depth counted (question c kind) args) same ∙ ap (λ a. answer_at ops h depth counted (question end kind) a) none;
      have = λ c m. let k = has c m in (k.call, k.is, subst (λ a. Starts (taken ++ a) k.call.args) (sym none) (subst (λ t. Starts t k.call.args) (sym (append-nil taken)) k.starts));
    }
end-of ops h kind (Some crdt) (Field n ∷ path) types depth counted args taken end r o l has =
    let e = end-of ops h kind (field_in crdt n) path types (depth + 1) (in_field ops h depth n counted) args taken end r o l (at-field ops h depth n taken counted has) in
    record { steps = e.steps; those = e.those; asks = e.asks; have = e.have }
end-of ops h kind (Some crdt) (Key ty ∷ path) [] depth counted args taken end r o l has = absurd (none-some [] o)
end-of ops h kind (Some crdt) (Key ty ∷ path) (t ∷ types) depth counted [] taken end r o l has = absurd (omega (arith, l))
end-of ops h kind (Some crdt) (Key ty ∷ path) (t ∷ types) depth counted (k ∷ args) taken end r o l has =
    let e = end-of ops h kind (held_in crdt) path types (depth + 1) (at_key ops h (winner_in crdt) depth k counted) args (taken ++ k ∷ []) end
    (held-reached ty crdt path end r) (keys-taken (same_ty t ty) path types o) (omega (arith, l)) (at-map ops h (winner_in crdt) depth k taken counted has) in
    record {
      steps = e.steps;
      those = e.those;
      asks = e.asks;
      have = λ c m. let x = e.have c m in (x.0, x.1, subst (λ a. Starts a x.0.args) (append_assoc taken (k ∷ []) args) x.2);
    }

-- from the root on
pub root-end : (ops : List OpDecl) (h : List Call) (kind : QueryKind) (root : ℕ) (visible : ℕ → Bool) (crdt : Option Cr) (path : List PathStep) (types : List Ty) (args : List Val) (end : Cr)
    → reached crdt path ≡ Some end → own_args path types ≡ Some [] → length args ≡ length types → End ops h kind crdt path 0 (among h visible (on_root ops root)) args [] end
root-end ops h kind root visible crdt path types args end r o l =
    end-of ops h kind crdt path types 0 (among h visible (on_root ops root)) args [] end r o l (at-root ops h root visible)
