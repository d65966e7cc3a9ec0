-- At each set of calls that formulas take for a snapshot the structure of a step is a stage for them.
use Rattle.std.proofs.Common.{◌≡◌, ℕ, ◌<◌, Bool, true, if◌then◌else◌, List, [], length, map, Option, Some, None, slice_get, refl, sym, ap, ◌∙◌, subst}
use Rattle.std.proofs.Math.Bool.{or-false}
use Rattle.std.proofs.lemmas.Option.{same_Some}
use Rattle.rp_value.specs.declared.tables.Ty.{Ty}
use Rattle.rp_value.specs.Values.{Val}
use Rattle.rp_lang.specs.declared.query.QueryDecl.{QueryDecl}
use Rattle.rp_lang.specs.Typing.{is_get, query_args, value_asked}
use Rattle.rp_lang.specs.WellFormed.{is_well_formed}
use Rattle.rp_lang.specs.Programs.{Proc, Prog}
use Rattle.rp_lang.proofs.ProgramFacts.{Facts, facts}
use Rattle.crdt_defs.specs.Calls.{Call}
use Rattle.crdt_defs.specs.Parts.{Info}
use Rattle.crdt_defs.specs.Fitting.{fits, all_fit}
use Rattle.event_machine.specs.Code.{Return}
use Rattle.event_machine.specs.Machine.{Standing, Running, Returned, Failed, Invocation, State, info, plain, reading_set, result_of}
use Rattle.event_machine.specs.WellFormed.{At}
use Rattle.event_machine.specs.Growth.{IsValid}
use Rattle.event_machine.specs.TypedStates.{result_fits}
use Rattle.event_machine.proofs.PlaceLemmas.{at-lt}
use Rattle.event_machine.proofs.AnswerFits.{asked-fits}
use Rattle.rp_logic.specs.Structures.{apply}
use Rattle.rp_logic.specs.Truth.{Meaning}
use Rattle.rp_logic.proofs.SortLaws.{no}
use Rattle.rp_symbols.specs.Numbers.{val_fn, old_rel, part_rel, seen_rel, read_rel, added_rel, snapshot_rel}
use Rattle.crdt_enc.specs.Elements.{elems_of}
use Rattle.crdt_enc.specs.Places as places
use Rattle.crdt_enc.specs.FitsParts.{FitsParts, FitsView}
use Rattle.crdt_enc.specs.Stages.{ResultFits, InfoFits, Stage}
use Rattle.crdt_enc.proofs.Starts.{fit-count}
use Rattle.hist_struct.specs.QueryValues.{answered, val_table}
use Rattle.hist_struct.specs.Snapshots.{before_at, after_at, reading, AreStages}
use Rattle.hist_struct.specs.Steps.{Step, begins, IsStep, is_done, is_part, is_seen, is_read}
use Rattle.hist_struct.specs.Structure.{sig_at, meaning_of}
use Rattle.hist_struct.proofs.FitLaws.{map-at, map-length}
use Rattle.hist_struct.proofs.PartLaws.{before-fits, after-fits}
use Rattle.hist_struct.proofs.ValueFacts.{table-is}
use Rattle.hist_struct.proofs.ValueNumbers.{old-found, snapshot-found, part-found, seen-found, read-found, added-found}
use Rattle.hist_struct.proofs.ViewLaws.{views-fit}

-- # What a valid state says of its parts

origins : (p : Prog) (s : State) → IsValid p s → (c : ℕ) (call : Call) → At s.calls c call → call.inv < length (map info s.invocations)
origins p s w c call a =
    let t = w.formed.history.has_tx c call a in
    let i = w.formed.linked.has_inv call.tx t.0 t.1 in
    subst (λ n. n < length (map info s.invocations)) (sym t.2)
    (subst (λ n. t.0.inv < n) (sym (map-length info s.invocations)) (at-lt s.invocations t.0.inv i.0 i.1))

result-fits : (p : Prog) (q : Proc) (standing : Standing) → ((found : Option Val) → standing ≡ Returned found → result_fits p q.result found ≡ true) → ResultFits p q (result_of standing)
result-fits p q Running h = tt
result-fits p q Failed h = tt
result-fits p q (Returned None) h = go q.result refl (h None refl)
  where
    go : (o : Option Ty) → q.result ≡ o → result_fits p o None ≡ true → q.result ≡ None
    go None e k = e
    go (Some t) e k = no k
result-fits p q (Returned (Some v)) h = go q.result refl (h (Some v) refl)
  where
    go : (o : Option Ty) → q.result ≡ o → result_fits p o (Some v) ≡ true → ResultFits p q (result_of (Returned (Some v)))
    go None e k = no k
    go (Some t) e k = (t, e, k)

infos-fit : (p : Prog) (s : State) → IsValid p s → (i : ℕ) (y : Info) → At (map info s.invocations) i y → InfoFits p y
infos-fit p s w i y a =
    let r = map-at info s.invocations i y a in
    let f = w.formed.invocations i r.0 r.1 in
    let t = w.typed.invocations i r.0 r.1 in
    let same : t.proc ≡ f.proc = same_Some t.proc f.proc (sym t.is ∙ f.is) in
    subst (λ (y : Info). InfoFits p y) r.2
    (f.proc, f.is, f.args, subst (λ (q : Proc). ResultFits p q (result_of r.0.standing)) same (result-fits p t.proc r.0.standing t.result))

-- an invocation that sees these calls
abbrev seer : (ℕ → Bool) → Invocation
seer visible = record { proc = 0; args = []; slots = []; left = Return (record { from = 0; to = 0 }) None; view = visible; tx = None; standing = Failed }

seen-alone : (calls : List Call) (visible : ℕ → Bool) → reading_set calls (seer visible) ≡ visible
seen-alone calls visible =
    let each : (c : ℕ) → reading_set calls (seer visible) c ≡ visible c = λ c. or-false (visible c) in
    λ i c. each c i

pub answers-fit : (p : Prog) → Facts p → (s : State) → IsValid p s → (visible : ℕ → Bool) (n : ℕ) (query : QueryDecl) (args : List Val) → At p.queries n query → is_get query.kind ≡ true
    → all_fit p query.args args ≡ true → fits p query.result (answered p s.calls visible n args) ≡ true
answers-fit p f s w visible n query args at get fit =
    let e : value_asked (slice_get p.queries n) ≡ Some query.result = ap value_asked at ∙ ap (λ b. if b then Some query.result else None) get in
    let count : length args ≡ length (query_args (slice_get p.queries n)) = fit-count p query.args args fit ∙ ap (λ o. length (query_args o)) (sym at) in
    ap (λ v. fits p query.result (answered p s.calls v n args)) (sym (seen-alone s.calls visible)) ∙ asked-fits p s (seer visible) f w.typed.calls n args query.result e count

-- # Stages

stage-at : (p : Prog) → is_well_formed p ≡ true → (s : State) → IsValid p s → (M : Meaning) (at : places.At) (visible : ℕ → Bool) (slots : List (Option Val))
    → FitsParts p M at (plain s) → FitsView M s.calls at.view visible
    → ((n : ℕ) (query : QueryDecl) → At p.queries n query → is_get query.kind ≡ true → slice_get M.structure.fns (val_fn p at.view n) ≡ Some (val_table p s.calls visible n query))
    → Stage (reading p s visible slots) M at
stage-at p formed s w M at visible slots parts view found = record {
  parts = parts;
  view = view;
  vals = record {
    asked_is = λ n query args is get fit.
        ap (λ o. apply o (elems_of args)) (found n query is get) ∙ table-is p (facts p formed) s.calls visible n query args is get fit;
  };
  program = formed;
  origins = origins p s w;
  calls_fit = λ c call a. w.typed.calls c call a;
  infos_fit = infos-fit p s w;
  answers = λ n query args is get fit. answers-fit p (facts p formed) s w visible n query args is get fit;
}

pub stages : (x : Step) (consts : List ℕ) → is_well_formed x.program ≡ true → IsStep x → (slots : List (Option Val)) → AreStages x (meaning_of (sig_at x consts) x) slots
stages x consts formed m slots =
    let M = meaning_of (sig_at x consts) x in
    let views = views-fit x consts formed m in
    let before = before-fits x consts formed m in
    record {
      old = stage-at x.program formed x.old m.before M (before_at old_rel) (is_done x.old) slots (before old_rel) views.old (old-found x);
      part = stage-at x.program formed x.old m.before M (before_at part_rel) (is_part x) slots (before part_rel) views.part (part-found x);
      seen = λ k l. stage-at x.program formed x.old m.before M (before_at (seen_rel x.program k)) (is_seen x.old x.inv k) slots (before (seen_rel x.program k)) (views.seen k l)
          (λ n query is get. seen-found x n query is get k l);
      read = λ k l. stage-at x.program formed x.old m.before M (before_at (read_rel x.program k)) (is_read x.old x.inv k) slots (before (read_rel x.program k)) (views.read k l)
          (λ n query is get. read-found x n query is get k l);
      added = λ j set e. stage-at x.program formed x.old m.before M (before_at (added_rel x.program (begins x) j)) set slots (before (added_rel x.program (begins x) j)) (views.added j set e)
          (λ n query is get. added-found x n query is get j set e);
      snapshot = stage-at x.program formed x.new m.after M (after_at snapshot_rel) x.snapshot slots (after-fits x consts formed m snapshot_rel) views.snapshot (snapshot-found x);
    }
