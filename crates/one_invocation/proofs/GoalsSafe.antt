-- A program whose goals are met starts safe.
use Rattle.std.proofs.Common.{◌≡◌, ℕ, zero, suc, ◌<◌, true, List, [], ◌∷◌, ◌++◌, All, length, refl, ap, sym, ◌∙◌, subst, inl, inr, true≢false, lt_irrefl}
use Rattle.std.specs.declared.option.Option.{Option}
use Rattle.std.specs.declared.option.Option.TheVariants.{Some}
use Rattle.std.proofs.lemmas.Option.{none-some, same_Some}
use Rattle.rp_span.specs.declared.Span.{Span}
use Rattle.rp_value.specs.Values.{Val}
use Rattle.rp_lang.specs.Exprs.{Ex}
use Rattle.rp_lang.specs.Programs.{Proc, Prog}
use Rattle.rp_lang.specs.WellFormed.{is_well_formed}
use Rattle.event_machine.specs.Code as left
use Rattle.event_machine.specs.Code.{Code}
use Rattle.event_machine.specs.Machine.{Invocation, State, Label, Invoke, Begin, Op, Local, New, Commit, Return, Fail, Check, named, started, committed, effect, refusal, step}
use Rattle.event_machine.specs.Runs.{Leads, IsSafe}
use Rattle.event_machine.specs.WellFormed.{At}
use Rattle.event_machine.specs.Growth.{IsValid}
use Rattle.event_machine.specs.LocalSafety.{HoldsAll, IsRunning, SafeFor, IsLocallySafe, StartsSafe}
use Rattle.event_machine.proofs.PlaceLemmas.{at-new, at-lt}
use Rattle.event_machine.proofs.ListLemmas.{All-left}
use Rattle.event_machine.proofs.MoveLemmas.{acted, step-moves}
use Rattle.event_machine.proofs.QuietLemmas.{quiet-holds}
use Rattle.event_machine.proofs.RunLemmas.{safe-starts}
use Rattle.one_invocation.specs.Trails.{Done, path_of}
use Rattle.one_invocation.specs.Trails as trails
use Rattle.one_invocation.specs.Places.{at_start}
use Rattle.one_invocation.specs.CameAlong.{CameAlong}
use Rattle.one_invocation.specs.Goals.{Goal, ToInit, ToInvoke, ToCommit, ToReturn, for_each, goals_from, goals, IsMet}
use Rattle.one_invocation.proofs.CameGrows.{came-grows}
use Rattle.one_invocation.proofs.MarkHolds.{hold-old}
use Rattle.one_invocation.proofs.TrailSteps.{IsOn, at-inv, accepted-effect, commit-code, return-code, label-next}
use Rattle.one_invocation.proofs.MetGoals.{met-each, met-init, met-of, met-at, stands-there, claims-hold}
use Rattle.one_invocation.proofs.NoViolation.{label-never, violated-effect}

-- # Each label keeps the invariants

module _ (p : Prog) (met : All (IsMet p) (goals p)) (s : State) (i : ℕ) (q : Proc) (inv : Invocation) (trail : List Done) (valid : IsValid p s) (holds : HoldsAll p s) (on : IsOn p s i q inv trail) where
  commit-holds : (new : State) → Leads s (step p s (Commit i)) new → HoldsAll p new
  commit-holds new l = elim (acted s new i _ (accepted-effect s new (refusal p s (Commit i)) (effect p s (Commit i)) l)) [
    | inl same ↦ subst (HoldsAll p) (sym same) holds
    | inr a ↦ elim (commit-code s new i a.0 a.0.tx a.0.left a.2) [
      | inl same ↦ subst (HoldsAll p) (sym same) holds
      | inr m ↦ go a.0 (at-inv p s i q inv a.0 trail on a.1) m.0 m.1 m.2 m.4 m.5
    ]
  ]
    where
      go : (v : Invocation) → IsOn p s i q v trail → (t : ℕ) (at : Span) (next : Code) → v.left ≡ left.End at next → new ≡ committed s i v t next → HoldsAll p new
      go v on' t at next point e =
          let path = path_of trail in
          let here : List Goal = for_each (ToCommit v.proc path at) 0 p.invs in
          let its = All-left (IsMet p) here (goals_from p.invs v.proc (trails.End ∷ path) next) (met-at p s i q v trail on' met (left.End at next) point) in
          claims-hold p s new valid holds (ap (λ (n : State). n.calls) e) (λ n claim atn.
          (met-each p (ToCommit v.proc path at) 0 p.invs its n claim atn).1 s i q v trail next new (stands-there p s i q v trail on' valid holds) point l)

  return-holds : (new : State) → Leads s (step p s (Return i)) new → HoldsAll p new
  return-holds new l = elim (acted s new i _ (accepted-effect s new (refusal p s (Return i)) (effect p s (Return i)) l)) [
    | inl same ↦ subst (HoldsAll p) (sym same) holds
    | inr a ↦ elim (return-code p s new i a.0 a.0.left a.2) [
      | inl same ↦ subst (HoldsAll p) (sym same) holds
      | inr m ↦ go a.0 (at-inv p s i q inv a.0 trail on a.1) m.0 m.1 m.2 (ap (λ (n : State). n.calls) m.3)
    ]
  ]
    where
      go : (v : Invocation) → IsOn p s i q v trail → (at : Span) (result : Option Ex) → v.left ≡ left.Return at result → new.calls ≡ s.calls → HoldsAll p new
      go v on' at result point same =
          let its = met-at p s i q v trail on' met (left.Return at result) point in
          claims-hold p s new valid holds same (λ n claim atn.
          (met-each p (ToReturn v.proc (path_of trail) at result) 0 p.invs its n claim atn).1 s i q v trail new (stands-there p s i q v trail on' valid holds) point l)

  label-holds : (new : State) (label : Label) → named label ≡ Some i → Leads s (step p s label) new → HoldsAll p new
  label-holds new (Invoke proc args) names l = absurd (none-some i names)
  label-holds new (Begin j stamp sees) names l = quiet-holds p s (Begin j stamp sees) new valid refl holds l
  label-holds new (Op j stamp) names l = quiet-holds p s (Op j stamp) new valid refl holds l
  label-holds new (Local j) names l = quiet-holds p s (Local j) new valid refl holds l
  label-holds new (New j id) names l = quiet-holds p s (New j id) new valid refl holds l
  label-holds new (Commit j) names l = commit-holds new (subst (λ j. Leads s (step p s (Commit j)) new) (same_Some j i names) l)
  label-holds new (Return j) names l = return-holds new (subst (λ j. Leads s (step p s (Return j)) new) (same_Some j i names) l)
  label-holds new (Fail j) names l = quiet-holds p s (Fail j) new valid refl holds l
  label-holds new (Check sees) names l = absurd (none-some i names)

-- # Local safety

safe-running : (p : Prog) (n : ℕ) (s : State) (i : ℕ) → (IsRunning s i → SafeFor p n s i) → SafeFor p n s i
safe-running p zero s i h = tt
safe-running p (suc n) s i h = λ run. h run run

safe-on : (p : Prog) → All (IsMet p) (goals p) → (n : ℕ) (s : State) (i : ℕ) (q : Proc) (inv : Invocation) (trail : List Done) → IsOn p s i q inv trail → SafeFor p n s i
safe-on p met zero s i q inv trail on = tt
safe-on p met (suc n) s i q inv trail on = λ run mid g holds label names.
    let on' : IsOn p mid i q inv trail = record { came = came-grows p s mid i q inv trail g on.came; behind = on.behind } in (
      (λ new l. (
        label-holds p met mid i q inv trail g.after holds on' new label names l,
        elim (label-next p mid i q trail g.after new inv on' label names l) [
          | inl go ↦ safe-on p met n new i q go.0 (go.1 ++ trail) (record { came = go.2; behind = go.3 })
          | inr stop ↦ safe-running p n new i (λ run. absurd (stop run))
        ],
      )),
      (λ v. label-never p mid i q inv trail g.after holds on' met label names (violated-effect (refusal p mid label) (effect p mid label) v)),
    )

pub came-started : (p : Prog) (s : State) (proc : ℕ) (q : Proc) (args : List Val) → IsValid p s → At p.procs proc q
    → CameAlong p (record s { invocations = s.invocations ++ started q proc args ∷ [] }) (length s.invocations) q (started q proc args) []
came-started p s proc q args valid at = record {
  is = at-new s.invocations (started q proc args);
  running = refl;
  proc = at;
  slots = refl;
  tx = refl;
  reads_are = λ c. refl;
  follows = tt;
  all = λ c call atc e.
      let x = valid.formed.history.has_tx c call atc in
      let y = valid.formed.linked.has_inv call.tx x.0 x.1 in
      absurd (lt_irrefl _ (subst (λ k. k < length s.invocations) (sym x.2 ∙ e) (at-lt s.invocations x.0.inv y.0 y.1)));
  hidden = λ x m. absurd (true≢false (sym m));
}

pub starts-safe : (p : Prog) → All (IsMet p) (goals p) → StartsSafe p
starts-safe p met = record {
  begin = λ universe one v snapshot n inv at. (met-each p ToInit 0 p.invs (met-init p met) n inv at).1 universe v one snapshot;
  invoke = λ s proc args new valid holds l. elim (step-moves p s (Invoke proc args) new valid.formed.history l) [
    | inl same ↦ subst (λ n. HoldsAll p n × IsLocallySafe p n (length s.invocations)) (sym same) (
      holds,
      λ n. safe-running p n s (length s.invocations) (λ run. absurd (lt_irrefl _ (at-lt s.invocations (length s.invocations) run.0 run.1))),
    )
    | inr m ↦ go s proc args new valid holds l m.0 m.1 m.4
  ];
}
  where
    go : (s : State) (proc : ℕ) (args : List Val) (new : State) → IsValid p s → HoldsAll p s → Leads s (step p s (Invoke proc args)) new → (q : Proc) → At p.procs proc q
        → new ≡ record s { invocations = s.invocations ++ started q proc args ∷ [] } → HoldsAll p new × IsLocallySafe p new (length s.invocations)
    go s proc args new valid holds l q at e = (
      claims-hold p s new valid holds (ap (λ (n : State). n.calls) e) (λ n claim atn.
          (met-each p (ToInvoke proc q.at) 0 p.invs (met-of p met proc q at).0 n claim atn).1 s args new valid (hold-old p s valid holds) l),
      λ n. subst (λ new. SafeFor p n new (length s.invocations)) (sym e)
          (safe-on p met n (record s { invocations = s.invocations ++ started q proc args ∷ [] }) (length s.invocations) q (started q proc args) []
          (record { came = came-started p s proc q args valid at; behind = at_start })),
    )

pub goals-safe : (p : Prog) → is_well_formed p ≡ true → All (IsMet p) (goals p) → IsSafe p
goals-safe p w met = safe-starts p w (starts-safe p met)
