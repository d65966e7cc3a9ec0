-- What a query of a reading answers, as a value: a register gives what a visible call assigned.
use Rattle.std.proofs.Common.{◌≡◌, ℕ, zero, suc, ◌+◌, ℤ, Bool, true, false, if◌then◌else◌, List, [], ◌∷◌, length, refl, ap, sym, ◌∙◌, slice_get, ◌⊎◌, inl, inr}
use Rattle.std.specs.declared.option.Option.{Option}
use Rattle.std.specs.declared.option.Option.TheVariants.{None, Some}
use Rattle.std.proofs.lemmas.Bool.{and_parts}
use Rattle.std.proofs.lemmas.Option.{none-some, same_Some}
use Rattle.rp_value.specs.Values as val
use Rattle.rp_value.specs.Values.{Val, no_val, also_val, false_val}
use Rattle.rp_lang.specs.Crdts.{Cr}
use Rattle.rp_lang.specs.Programs.{Prog}
use Rattle.rp_lang.specs.declared.op.OpDecl.{OpDecl}
use Rattle.rp_lang.specs.declared.op.PathStep.{PathStep}
use Rattle.rp_lang.specs.declared.op.PathStep.TheVariants.{Field, Key}
use Rattle.rp_lang.specs.declared.query.QueryDecl.{QueryDecl}
use Rattle.rp_lang.specs.declared.query.QueryKind.{QueryKind}
use Rattle.crdt_defs.specs.declared.asked.Answer.{Answer}
use Rattle.crdt_defs.specs.declared.asked.Answer.TheVariants.{Truth, Value}
use Rattle.crdt_defs.specs.declared.asked.Found.TheVariants.{Sum, At, Nothing}
use Rattle.crdt_defs.specs.declared.asked.Question.{Question}
use Rattle.crdt_defs.specs.declared.asked.Question.TheVariants.{AddWins, RemoveWins, ManyValues, Latest, Total, AtKey}
use Rattle.crdt_defs.specs.Calls.{Call}
use Rattle.crdt_defs.specs.Counting.{or_this, first_below}
use Rattle.crdt_defs.specs.Doing.{own_argument, on_root, goes_to_key}
use Rattle.crdt_defs.specs.Meaning.{among, in_field, at_key, latest}
use Rattle.rp_lang.specs.Paths.{field_in}
use Rattle.crdt_defs.specs.Queries.{question, at_call, answer_at, held_in, winner_in, ask, answer_by, answer_in}
use Rattle.crdt_defs.specs.Truths.{Reading, truth_val, or_false, nth_con, answer_val, asked}

-- # The call that an answer names

pub first-meets : (test : ℕ → Bool) (n c : ℕ) → first_below test n ≡ Some c → test c ≡ true
first-meets test zero c h = absurd (none-some c h)
first-meets test (suc n) c h = go (λ e. first-meets test n c e) (first_below test n) refl h
  where
    here : (b : Bool) → test n ≡ b → (if b then Some n else None) ≡ Some c → test c ≡ true
    here true is e = ap test (sym (same_Some n c e)) ∙ is
    here false is e = absurd (none-some c e)

    go : (first_below test n ≡ Some c → test c ≡ true) → (o : Option ℕ) → first_below test n ≡ o → or_this o (test n) n ≡ Some c → test c ≡ true
    go earlier (Some b) is e = earlier (is ∙ e)
    go earlier None is e = here (test n) refl e

abbrev pub named_call : Answer → Option ℕ
named_call (Value (At c)) = Some c
named_call _ = None

answer-counted : (ops : List OpDecl) (h : List Call) (depth : ℕ) (counted : ℕ → Bool) (q : Question) (args : List Val) (c : ℕ)
    → named_call (answer_at ops h depth counted q args) ≡ Some c → counted c ≡ true
answer-counted ops h depth counted Latest [] c e = go (latest ops h counted) refl e
  where
    go : (o : Option ℕ) → latest ops h counted ≡ o → named_call (Value (at_call o)) ≡ Some c → counted c ≡ true
    go None is e = absurd (none-some c e)
    go (Some b) is e =
        let met = first-meets _ (length h) c (is ∙ e) in
        (and_parts (counted c) _ (and_parts _ _ met).0).0
answer-counted ops h depth counted Total [] c e = absurd (none-some c e)
answer-counted ops h depth counted AddWins (x ∷ []) c e = absurd (none-some c e)
answer-counted ops h depth counted RemoveWins (x ∷ []) c e = absurd (none-some c e)
answer-counted ops h depth counted ManyValues (x ∷ []) c e = absurd (none-some c e)
answer-counted ops h depth counted (AtKey winner) (x ∷ []) c e = absurd (none-some c e)
answer-counted ops h depth counted _ _ c e = absurd (none-some c e)

ask-counted : (ops : List OpDecl) (h : List Call) (kind : QueryKind) (crdt : Option Cr) (path : List PathStep) (depth : ℕ) (counted : ℕ → Bool) (args : List Val) (c : ℕ)
    → named_call (ask ops h kind crdt path depth counted args) ≡ Some c → counted c ≡ true
ask-counted ops h kind None path depth counted args c e = absurd (none-some c e)
ask-counted ops h kind (Some crdt) [] depth counted args c e = answer-counted ops h depth counted (question crdt kind) args c e
ask-counted ops h kind (Some crdt) (Field n ∷ path) depth counted args c e =
    (and_parts (counted c) _ (ask-counted ops h kind (field_in crdt n) path (depth + 1) (in_field ops h depth n counted) args c e)).0
ask-counted ops h kind (Some crdt) (Key ty ∷ path) depth counted [] c e = absurd (none-some c e)
ask-counted ops h kind (Some crdt) (Key ty ∷ path) depth counted (k ∷ args) c e =
    let kept = ask-counted ops h kind (held_in crdt) path (depth + 1) (at_key ops h (winner_in crdt) depth k counted) args c e in
    (and_parts (counted c) _ (and_parts (among h counted (goes_to_key ops depth k) c) _ kept).0).0

pub answer-visible : (p : Prog) (query : ℕ) (h : List Call) (visible : ℕ → Bool) (args : List Val) (c : ℕ)
    → named_call (answer_in p query h visible args) ≡ Some c → visible c ≡ true
answer-visible p query h visible args c e = go (slice_get p.queries query) e
  where
    go : (o : Option QueryDecl) → named_call (answer_by p o h visible args) ≡ Some c → visible c ≡ true
    go None e = absurd (none-some c e)
    go (Some q) e = (and_parts (visible c) _ (ask-counted p.ops h q.kind _ q.path 0 (among h visible (on_root p.ops q.root)) args c e)).0

-- # The answer as a value

-- a truth value, a number, a constructor without fields, or one with what a visible call assigned
abbrev pub IsAsked : Reading → Val → Type 0
IsAsked r v =
    ((b : Bool) × (v ≡ truth_val b))
    ⊎ ((n : ℤ) × (v ≡ val.Int n))
    ⊎ ((con : ℕ) × (v ≡ val.Con con no_val))
    ⊎ ((con c : ℕ) × (r.visible c ≡ true) × (v ≡ val.Con con (also_val (or_false (own_argument r.program.ops (slice_get r.parts.calls c))) no_val)))

pub asked_is : (r : Reading) (query : ℕ) (args : List Val) → IsAsked r (asked r query args)
asked_is r query args = go (slice_get r.program.queries query) (answer_in r.program query r.parts.calls r.visible args) refl
  where
    go : (q : Option QueryDecl) (a : Answer) → answer_in r.program query r.parts.calls r.visible args ≡ a → IsAsked r (answer_val r.program r.parts.calls q a)
    go q (Truth b) is = inl (b, refl)
    go None (Value found) is = inr (inr (inl (0, refl)))
    go (Some q) (Value (Sum n)) is = inr (inl (n, refl))
    go (Some q) (Value Nothing) is = inr (inr (inl (nth_con r.program q.result 0, refl)))
    go (Some q) (Value (At c)) is =
        inr (inr (inr (nth_con r.program q.result 1, c, answer-visible r.program query r.parts.calls r.visible args c (ap named_call is), refl)))
