-- What the store answers is whole, and its integers are those of calls, or sums of them.
use Rattle.std.proofs.Common.{◌≡◌, ℕ, ◌+◌, Bool, true, false, List, [], ◌∷◌, length, Option, Some, None, slice_get, refl, sym, ◌∙◌, ap, true≢false}
use Rattle.std.proofs.lemmas.Bool.{and_parts}
use Rattle.rp_value.specs.declared.tables.Ty.{Ty}
use Rattle.rp_value.specs.Values.{Val}
use Rattle.rp_lang.specs.Crdts.{Cr, SetAw, SetRw, Reg, MvReg, Counter, MapUw, MapDw, Struct}
use Rattle.rp_lang.specs.Paths.{field_in, root_crdt, query_fits, is_query}
use Rattle.rp_lang.specs.Programs.{Prog}
use Rattle.rp_lang.specs.Types as types
use Rattle.rp_lang.specs.declared.op.OpDecl.{OpDecl}
use Rattle.rp_lang.specs.declared.op.PathStep.{PathStep}
use Rattle.rp_lang.specs.declared.op.PathStep.TheVariants.{Field, Key}
use Rattle.rp_lang.specs.declared.query.QueryDecl.{QueryDecl}
use Rattle.rp_lang.specs.declared.query.QueryKind.{QueryKind}
use Rattle.rp_lang.specs.declared.query.QueryKind.TheVariants.{Contains, HasKey, GetReg, GetSum}
use Rattle.rp_lang.proofs.ProgramFacts.{Facts, bare-fields}
use Rattle.rp_lang.proofs.TypeFacts.{each}
use Rattle.crdt_defs.specs.declared.asked.Answer.{Answer}
use Rattle.crdt_defs.specs.declared.asked.Answer.TheVariants.{Truth, Value}
use Rattle.crdt_defs.specs.declared.asked.Found.TheVariants.{Sum, At, Nothing}
use Rattle.crdt_defs.specs.declared.asked.Question.{Question}
use Rattle.crdt_defs.specs.declared.asked.Question.TheVariants.{AddWins, RemoveWins, ManyValues, Latest, Total, AtKey, NoQuestion}
use Rattle.crdt_defs.specs.Calls.{Call}
use Rattle.crdt_defs.specs.Doing.{keys_in, own_of, own_argument, on_root}
use Rattle.crdt_defs.specs.Histories.{IsHistory, args_fit}
use Rattle.crdt_defs.specs.Meaning.{among, in_field, at_key, latest}
use Rattle.crdt_defs.specs.Queries.{question, at_call, answer_at, held_in, winner_in, ask, answer_by}
use Rattle.crdt_defs.specs.Truths.{Reading, truth_val, or_false, answer_val, asked}
use Rattle.event_machine.proofs.AnswerFits.{CallsFit, query-leads, register-is}
use Rattle.event_machine.proofs.ProgramFacts.{IsMaybe, maybe-of}
use Rattle.event_machine.specs.WellFormed as formed
use Rattle.machine_bounds.specs.Bounded.{IntWithin}
use Rattle.machine_bounds.proofs.IntLemmas.{counter-within}
use Rattle.machine_bounds.proofs.TameLemmas.{Tame, false-tame, args-tame}

-- # Answers by their kind

-- a sum is bounded, and calls are found in registers alone
abbrev Told : QueryKind → Answer → Type 0
Told kind (Truth b) = Unit {0}
Told kind (Value (Sum n)) = IntWithin 1 n
Told kind (Value (At c)) = kind ≡ GetReg
Told kind (Value Nothing) = kind ≡ GetReg

end-told : (ops : List OpDecl) (h : List Call) (depth : ℕ) (counted : ℕ → Bool) (kind : QueryKind) (q : Question) (args : List Val) → IsHistory h → (q ≡ Latest → kind ≡ GetReg)
    → Told kind (answer_at ops h depth counted q args)
end-told ops h depth counted kind AddWins [] history is = tt
end-told ops h depth counted kind AddWins (x ∷ []) history is = tt
end-told ops h depth counted kind AddWins (x ∷ y ∷ args) history is = tt
end-told ops h depth counted kind RemoveWins [] history is = tt
end-told ops h depth counted kind RemoveWins (x ∷ []) history is = tt
end-told ops h depth counted kind RemoveWins (x ∷ y ∷ args) history is = tt
end-told ops h depth counted kind ManyValues [] history is = tt
end-told ops h depth counted kind ManyValues (x ∷ []) history is = tt
end-told ops h depth counted kind ManyValues (x ∷ y ∷ args) history is = tt
end-told ops h depth counted kind (AtKey winner) [] history is = tt
end-told ops h depth counted kind (AtKey winner) (x ∷ []) history is = tt
end-told ops h depth counted kind (AtKey winner) (x ∷ y ∷ args) history is = tt
end-told ops h depth counted kind Latest [] history is = found (latest ops h counted)
  where
    found : (o : Option ℕ) → Told kind (Value (at_call o))
    found None = is refl
    found (Some c) = is refl
end-told ops h depth counted kind Latest (x ∷ args) history is = tt
end-told ops h depth counted kind Total [] history is = counter-within ops h counted history
end-told ops h depth counted kind Total (x ∷ args) history is = tt
end-told ops h depth counted kind NoQuestion args history is = tt

abbrev is-latest : Question → Bool
is-latest Latest = true
is-latest _ = false

latest-by : (q : Question) → is-latest q ≡ false → (kind : QueryKind) → q ≡ Latest → kind ≡ GetReg
latest-by q apart kind e = absurd (true≢false (sym (ap is-latest e) ∙ apart))

latest-asked : (crdt : Cr) (kind : QueryKind) → question crdt kind ≡ Latest → kind ≡ GetReg
latest-asked crdt GetReg e = refl
latest-asked (SetAw ty) Contains e = latest-by (question (SetAw ty) Contains) refl Contains e
latest-asked (SetRw ty) Contains e = latest-by (question (SetRw ty) Contains) refl Contains e
latest-asked (MvReg ty) Contains e = latest-by (question (MvReg ty) Contains) refl Contains e
latest-asked (Reg ty) Contains e = latest-by NoQuestion refl Contains e
latest-asked Counter Contains e = latest-by NoQuestion refl Contains e
latest-asked (MapUw keys at_each) Contains e = latest-by NoQuestion refl Contains e
latest-asked (MapDw keys at_each) Contains e = latest-by NoQuestion refl Contains e
latest-asked (Struct fields) Contains e = latest-by NoQuestion refl Contains e
latest-asked (SetAw ty) HasKey e = latest-by NoQuestion refl HasKey e
latest-asked (SetRw ty) HasKey e = latest-by NoQuestion refl HasKey e
latest-asked (MvReg ty) HasKey e = latest-by NoQuestion refl HasKey e
latest-asked (Reg ty) HasKey e = latest-by NoQuestion refl HasKey e
latest-asked Counter HasKey e = latest-by NoQuestion refl HasKey e
latest-asked (MapUw keys at_each) HasKey e = latest-by (question (MapUw keys at_each) HasKey) refl HasKey e
latest-asked (MapDw keys at_each) HasKey e = latest-by (question (MapDw keys at_each) HasKey) refl HasKey e
latest-asked (Struct fields) HasKey e = latest-by NoQuestion refl HasKey e
latest-asked (SetAw ty) GetSum e = latest-by NoQuestion refl GetSum e
latest-asked (SetRw ty) GetSum e = latest-by NoQuestion refl GetSum e
latest-asked (MvReg ty) GetSum e = latest-by NoQuestion refl GetSum e
latest-asked (Reg ty) GetSum e = latest-by NoQuestion refl GetSum e
latest-asked Counter GetSum e = latest-by Total refl GetSum e
latest-asked (MapUw keys at_each) GetSum e = latest-by NoQuestion refl GetSum e
latest-asked (MapDw keys at_each) GetSum e = latest-by NoQuestion refl GetSum e
latest-asked (Struct fields) GetSum e = latest-by NoQuestion refl GetSum e

ask-told : (ops : List OpDecl) (h : List Call) (kind : QueryKind) (crdt : Option Cr) (path : List PathStep) (depth : ℕ) (counted : ℕ → Bool) (args : List Val) → IsHistory h
    → Told kind (ask ops h kind crdt path depth counted args)
ask-told ops h kind None path depth counted args history = tt
ask-told ops h kind (Some crdt) [] depth counted args history = end-told ops h depth counted kind (question crdt kind) args history (latest-asked crdt kind)
ask-told ops h kind (Some crdt) (Field n ∷ path) depth counted args history =
    ask-told ops h kind (field_in crdt n) path (depth + 1) (in_field ops h depth n counted) args history
ask-told ops h kind (Some crdt) (Key ty ∷ path) depth counted [] history = tt
ask-told ops h kind (Some crdt) (Key ty ∷ path) depth counted (k ∷ args) history =
    ask-told ops h kind (held_in crdt) path (depth + 1) (at_key ops h (winner_in crdt) depth k counted) args history

-- # Answers as values

pub no-fields : (p : Prog) → Facts p → types.fields_of p.cons 0 ≡ []
no-fields p f = bare-fields _ (slice_get p.cons.cons 0) (and_parts _ _ (and_parts _ _ f.truths).0).1

truth-tame : (p : Prog) → Facts p → (b : Bool) → Tame p.cons 1 (truth_val b)
truth-tame p f true = ((sym (ap length (bare-fields _ (slice_get p.cons.cons 1) (and_parts _ _ f.truths).1)), tt), tt)
truth-tame p f false = false-tame p.cons 1 (no-fields p f)

own-tame : (p : Prog) → Facts p → (h : List Call) → IsHistory h → CallsFit p h → (c : ℕ) → Tame p.cons 1 (or_false (own_argument p.ops (slice_get h c)))
own-tame p f h history fit c = go (slice_get h c) refl
  where
    by-op : (call : Call) → formed.At h c call → (o : Option OpDecl) → Tame p.cons 1 (or_false (own_of call o))
    by-op call is None = false-tame p.cons 1 (no-fields p f)
    by-op call is (Some op) =
        let typed = fit c call is in
        args-tame p typed.0.args call.args (keys_in op.path) (no-fields p f) typed.2 (ap args_fit (sym is) ∙ history.ints c)

    go : (o : Option Call) → slice_get h c ≡ o → Tame p.cons 1 (or_false (own_argument p.ops o))
    go None is = false-tame p.cons 1 (no-fields p f)
    go (Some call) is = by-op call is (slice_get p.ops call.op)

maybe-result : (p : Prog) → Facts p → (n : ℕ) (query : QueryDecl) → formed.At p.queries n query → query.kind ≡ GetReg → (ty : Ty) × IsMaybe p ty query.result
maybe-result p f n query at kind =
    let l = query-leads p query (each (is_query p.types p.cons p.roots) p.queries n query f.queries at) in
    let fit = and_parts _ _ (ap (λ k. query_fits p.types p.cons k l.crdt l.own query.result) (sym kind) ∙ l.fit) in
    let c = register-is p l.crdt query.result fit.1 in
    (c.0, maybe-of p f c.0 query.result c.2)

pub asked-tame : (r : Reading) → Facts r.program → IsHistory r.parts.calls → CallsFit r.program r.parts.calls → (n : ℕ) (args : List Val) → Tame r.program.cons 1 (asked r n args)
asked-tame r f history fit n args = go (slice_get r.program.queries n) refl
  where
    by-answer : (query : QueryDecl) → formed.At r.program.queries n query → (a : Answer) → Told query.kind a → Tame r.program.cons 1 (answer_val r.program r.parts.calls (Some query) a)
    by-answer query is (Truth b) told = truth-tame r.program f b
    by-answer query is (Value (Sum m)) told = (tt, told)
    by-answer query is (Value (At c)) told =
        let maybe = (maybe-result r.program f n query is told).1 in
        let own = own-tame r.program f r.parts.calls history fit c in
        ((sym (ap length (ap (types.fields_of r.program.cons) maybe.some_is ∙ maybe.some_fields)), (own.0, tt)), (own.1, tt))
    by-answer query is (Value Nothing) told =
        let maybe = (maybe-result r.program f n query is told).1 in
        ((sym (ap length (ap (types.fields_of r.program.cons) maybe.none_is ∙ maybe.none_fields)), tt), tt)

    go : (o : Option QueryDecl) → slice_get r.program.queries n ≡ o → Tame r.program.cons 1 (answer_val r.program r.parts.calls o (answer_by r.program o r.parts.calls r.visible args))
    go None is = truth-tame r.program f false
    go (Some query) is =
        by-answer query is _
        (ask-told r.program.ops r.parts.calls query.kind (root_crdt (slice_get r.program.roots query.root)) query.path 0 (among r.parts.calls r.visible (on_root r.program.ops query.root)) args history)
