-- What an invocation's reading is, in the words of the machine.
use Rattle.std.proofs.Common.{◌≡◌, ℕ, zero, suc, ◌<◌, ◌≤◌, Bool, true, false, ◌||◌, ◌&&◌, nat_eq, if◌then◌else◌, refl, sym, ◌∙◌, ap, ap₂, arith, List, [], ◌∷◌, length, map, Option, Some, None, slice_get, inl, inr}
use Rattle.std.specs.Prelude.{option_map, Result, Ok, Err, IfOk}
use Rattle.std.specs.List.{list_any}
use Rattle.std.proofs.lemmas.Bool.{cases_lt, cases_eq, ne_eqb, eq-eqb}
use Rattle.std.proofs.lemmas.List.Folds.{list_any-append}
use Rattle.std.proofs.lemmas.Option.{none-some, same_Some, slice_get-map, slice_get_within, slice_get_past}
use Rattle.std.proofs.Math.Path.{fun_ext}
use Rattle.std.specs.FinSet as set
use Rattle.rp_value.specs.Values.{Val}
use Rattle.rp_value.specs.declared.value.Value.{Value}
use Rattle.rp_value.specs.ValueView.{value_view}
use Rattle.rp_lang.specs.declared.program.Program.{Program}
use Rattle.rp_lang.specs.ProgramView.{program_view}
use Rattle.crdt_defs.specs.Atoms.{ints_fit}
use Rattle.crdt_defs.specs.Calls.{Call, calls_view}
use Rattle.crdt_defs.specs.Histories.{IsHistory, meets}
use Rattle.crdt_defs.specs.Truths.{Reading}
use Rattle.crdt_truth.specs.Readings.{seen_in}
use Rattle.event_machine.specs.States as seen
use Rattle.event_machine.specs.Machine.{is_in, listed, calls_of, own_calls, proc_reading, at_invocation}
use Rattle.event_machine.specs.WellFormed.{At}
use Rattle.machine_bounds.specs.Bounded.{HasWords}
use Rattle.machine_reads.specs.Reads.{IsRead}
use Rattle.machine_state.specs.declared.state.Run.{Run}
use Rattle.machine_state.specs.declared.state.State.{State}
use Rattle.machine_state.specs.Fits.{Fits}
use Rattle.machine_state.specs.StateView.{inv_view, invs_view, state_view}
use Rattle.machine_state.proofs.StateLemmas.{one_found, invs_length, viewed}

-- # Members of a list of numbers

tail_has : (b : Bool) (n c : ℕ) → list_any (λ k. nat_eq k c) (if b then n ∷ [] else []) ≡ (b && nat_eq n c)
tail_has true n c = or_nothing (nat_eq n c)
  where
    or_nothing : (b : Bool) → (b || false) ≡ b
    or_nothing true = refl
    or_nothing false = refl
tail_has false n c = refl

and_false : (b : Bool) → (b && false) ≡ false
and_false true = refl
and_false false = refl

and_true : (b : Bool) → (b && true) ≡ b
and_true true = refl
and_true false = refl

or_false : (b : Bool) → (b || false) ≡ b
or_false true = refl
or_false false = refl

listed_more : (S : ℕ → Bool) (n c : ℕ) → list_any (λ k. nat_eq k c) (listed S (suc n)) ≡ (list_any (λ k. nat_eq k c) (listed S n) || (S n && nat_eq n c))
listed_more S n c =
    list_any-append (λ k. nat_eq k c) (listed S n) (if S n then n ∷ [] else [])
    ∙ ap (λ b. list_any (λ k. nat_eq k c) (listed S n) || b) (tail_has (S n) n c)

-- no number from n on
none_listed : (S : ℕ → Bool) (n c : ℕ) → n ≤ c → list_any (λ k. nat_eq k c) (listed S n) ≡ false
none_listed S zero c le = refl
none_listed S (suc n) c le =
    listed_more S n c
    ∙ ap₂ (λ a b. a || b) (none_listed S n c (omega arith)) (ap (λ b. S n && b) (ne_eqb n c (λ e. absurd (omega (arith, e)))) ∙ and_false (S n))

-- a number below n exactly where the set has it
one_listed : (S : ℕ → Bool) (n c : ℕ) → c < n → list_any (λ k. nat_eq k c) (listed S n) ≡ S c
one_listed S zero c lt = absurd (omega arith)
one_listed S (suc n) c lt = listed_more S n c ∙ elim (cases_eq n c) [
  | inl same ↦
      ap₂ (λ a b. a || b) (none_listed S n c (omega (arith, same))) (ap (λ b. S n && b) (eq-eqb n c same) ∙ and_true (S n))
      ∙ ap S same
  | inr other ↦
      ap₂ (λ a b. a || b) (one_listed S n c (below n c lt other)) (ap (λ b. S n && b) (ne_eqb n c other) ∙ and_false (S n))
      ∙ or_false (S c)
]
  where
    below : (n c : ℕ) → c < suc n → (n ≡ c → ⊥) → c < n
    below n c lt other = elim (cases_lt c n) [ inl less ↦ less | inr le ↦ absurd (other (omega arith)) ]

-- the members of a set below n are the set, where it has none from n on
pub seen_listed : (S : ℕ → Bool) (n : ℕ) → ((c : ℕ) → n ≤ c → S c ≡ false) → seen_in (listed S n) ≡ S
seen_listed S n none = fun_ext (λ c. set.contains-from_list_nat (listed S n) c ∙ elim (cases_lt c n) [
  | inl less ↦ one_listed S n c less
  | inr le ↦ none_listed S n c le ∙ sym (none c le)
])

-- # What an invocation reads

no_own : (calls : List Call) (tx : Option ℕ) (c : ℕ) → slice_get calls c ≡ None → own_calls calls tx c ≡ false
no_own calls None c past = refl
no_own calls (Some tx) c past = ap (meets (λ (call : Call). nat_eq call.tx tx)) past

none_read : (calls : List Call) (sees : List ℕ) (tx : Option ℕ) (c : ℕ) → length calls ≤ c → (calls_of calls sees c || own_calls calls tx c) ≡ false
none_read calls sees tx c le =
    let past : slice_get calls c ≡ None = slice_get_past calls c le in
    ap₂ (λ a b. a || b) (ap (meets (λ (call : Call). is_in sees call.tx)) past) (no_own calls tx c past)

pub reading_is : (p : Program) (s : State) (i : ℕ) (run : Run) (calls : List ℕ) (inv : seen.Invocation) → length s.infos ≡ length s.runs → At s.runs i run
    → calls ≡ listed (λ c. calls_of (calls_view s.history) run.seen c || own_calls (calls_view s.history) run.tx c) (length (calls_view s.history))
    → At (state_view (program_view p) s).invocations i inv
    → proc_reading (program_view p) s.universe (calls_view s.history) (map (option_map value_view) run.slots) (seen_in calls) ≡ at_invocation (program_view p) (state_view (program_view p) s) inv
reading_is p s i run calls inv same is_run is at =
    let v = program_view p in
    let h = calls_view s.history in
    let it = viewed v s i same (slice_get_within s.runs i run is_run) in
    let run_is : it.run ≡ run = one_found (slice_get s.runs i) it.run run it.is_run is_run in
    let inv_is : inv_view v h it.info run ≡ inv = ap (inv_view v h it.info) (sym run_is) ∙ one_found (slice_get (state_view v s).invocations i) _ inv it.is at in
    ap (λ set. proc_reading v s.universe h (map (option_map value_view) run.slots) set) (ap seen_in is ∙ seen_listed _ (length h) (λ c le. none_read h run.seen run.tx c le))
    ∙ ap (at_invocation v (state_view v s)) inv_is

-- # Integers of a state

slot_from : (o : Option (Option Value)) (v : Val) → option_map (option_map value_view) o ≡ Some (Some v) → (x : Value) × (o ≡ Some (Some x)) × (value_view x ≡ v)
slot_from None v e = absurd (none-some (Some v) e)
slot_from (Some None) v e = absurd (none-some v (same_Some None (Some v) e))
slot_from (Some (Some x)) v e = (x, refl, same_Some (value_view x) v (same_Some (Some (value_view x)) (Some v) e))

pub has_words : (p : Program) (s : State) → Fits p s → IsHistory (calls_view s.history) → HasWords (state_view (program_view p) s)
has_words p s fits history = record {
  calls = history;
  slots = λ i n inv v at_i at_n.
      let w = program_view p in
      let h = calls_view s.history in
      let same : length s.infos ≡ length s.runs = fits.kept.runs in
      let count : length (invs_view w h s.infos s.runs) ≡ length s.runs = invs_length w h s.infos s.runs same in
      let within : i < length (invs_view w h s.infos s.runs) = slice_get_within (invs_view w h s.infos s.runs) i inv at_i in
      let it = viewed w s i same (omega arith) in
      let inv_is : inv_view w h it.info it.run ≡ inv = one_found (slice_get (state_view w s).invocations i) _ inv it.is at_i in
      let slot : slice_get (map (option_map value_view) it.run.slots) n ≡ Some (Some v) = ap (λ (inv : seen.Invocation). slice_get inv.slots n) inv_is ∙ at_n in
      let x = slot_from (slice_get it.run.slots n) v (sym (slice_get-map (option_map value_view) it.run.slots n) ∙ slot) in
      ap ints_fit (sym x.2) ∙ fits.kept.ints i n it.run x.0 it.is_run x.1;
}

-- # Of the code's reading

-- an invocation stands at each number below how many there are
pub some_inv : (p : Program) (s : State) (i : ℕ) → Fits p s → i < length s.infos → (inv : seen.Invocation) × At (state_view (program_view p) s).invocations i inv
some_inv p s i fits within =
    let same : length s.infos ≡ length s.runs = fits.kept.runs in
    let it = viewed (program_view p) s i same (omega arith) in
    (inv_view (program_view p) (calls_view s.history) it.info it.run, it.is)

pub reads_as : (p : Program) (s : State) (i : ℕ) (calls view : List ℕ) (found : Reading) → Fits p s → i < length s.infos → IsRead s i calls → view ≡ calls
    → ((run : Run) → At s.runs i run → found ≡ proc_reading (program_view p) s.universe (calls_view s.history) (map (option_map value_view) run.slots) (seen_in view))
    → (inv : seen.Invocation) → At (state_view (program_view p) s).invocations i inv → found ≡ at_invocation (program_view p) (state_view (program_view p) s) inv
reads_as p s i calls view found fits within read is reads inv at =
    let same : length s.infos ≡ length s.runs = fits.kept.runs in
    let it = viewed (program_view p) s i same (omega arith) in
    reads it.run it.is_run
    ∙ ap (λ set. proc_reading (program_view p) s.universe (calls_view s.history) (map (option_map value_view) it.run.slots) set) (ap seen_in is)
    ∙ reading_is p s i it.run calls inv same it.is_run (read it.run it.is_run) at

pub ok_more : {A B : Type 0} (P Q : A → Type 0) (o : Result A B) → ((x : A) → P x → Q x) → IfOk o P → IfOk o Q
ok_more P Q (Ok x) more h = more x h
ok_more P Q (Err e) more h = tt
