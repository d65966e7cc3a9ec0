-- Which steps there are: nothing yet, and each accepted label of a sound state.
use Rattle.std.proofs.Common.{◌≡◌, ℕ, ◌≤◌, Bool, true, List, refl, ap, sym, ◌∙◌, inl, inr, true≢false, arith}
use Rattle.std.proofs.lemmas.Option.{none-some}
use Rattle.rp_lang.specs.Programs.{Prog}
use Rattle.crdt_defs.specs.Snapshots.{IsSnapshot}
use Rattle.event_machine.specs.Machine.{Invocation, State, Label, refusal, effect, step, empty}
use Rattle.event_machine.proofs.RunLemmas.{running-here, accepted}
use Rattle.event_machine.specs.Runs.{Leads}
use Rattle.event_machine.specs.WellFormed.{commits_of}
use Rattle.event_machine.specs.Growth.{IsValid}
use Rattle.event_machine.proofs.PlaceLemmas.{at-lt, at-one}
use Rattle.event_machine.proofs.KeptLemmas.{step-formed, empty-formed}
use Rattle.event_machine.proofs.TypedKept.{empty-typed, step-typed}
use Rattle.event_machine.proofs.ProgramFits.{procs-fit}
use Rattle.rp_lang.specs.WellFormed.{is_well_formed}
use Rattle.rp_logic.specs.Elements.{Elem}
use Rattle.hist_struct.specs.Steps.{IsStep, Acts, step_of, nothing_yet}

-- # The steps

pub nothing-is : (p : Prog) (universe : ℕ) → 1 ≤ universe → IsStep (nothing_yet p universe)
nothing-is p universe l =
    let sound : IsValid p (empty universe) = record { formed = empty-formed p universe l; typed = empty-typed p universe } in
    record {
      before = sound;
      after = sound;
      moves = inl refl;
      acts = λ inv a. absurd (none-some inv a);
      snapshot = record { commits = λ c i. absurd (true≢false (sym i)); causes = λ c d i b. absurd (true≢false (sym i)); whole = λ c d i b. absurd (true≢false (sym i)) };
    }

pub label-is : (p : Prog) → is_well_formed p ≡ true → (s : State) (label : Label) (new : State) (i : ℕ) → IsValid p s → Leads s (step p s label) new → Acts s label i
    → (v : ℕ → Bool) → IsSnapshot new.calls (commits_of new.txs) v → (views : ℕ) (vals : List Elem) (reads : List (ℕ → Bool)) → IsStep (step_of p s new i v views vals reads)
label-is p w s label new i h l acts v snap views vals reads = record {
  before = h;
  after = record { formed = step-formed p (procs-fit p w) s label new h.formed l; typed = step-typed p w s label new h.typed l };
  moves = inr (label, l);
  acts = λ inv a. elim acts [
    | inl named ↦
        let r = running-here p s label i named (accepted s new (refusal p s label) (effect p s label) l) in
        ap (λ (x : Invocation). x.standing) (at-one s.invocations i inv r.0 a r.1) ∙ r.2
    | inr e ↦ let low = at-lt s.invocations i inv a in absurd (omega (arith, e, low))
  ];
  snapshot = snap;
}
