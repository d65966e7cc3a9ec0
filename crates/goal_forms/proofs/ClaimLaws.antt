-- What the formulas of invariants mean in the structure of a step.
use Rattle.std.proofs.Common.{◌≡◌, ◌↔◌, ℕ, zero, suc, true, false, List, [], ◌∷◌, refl, sym, ◌∙◌, subst, true≢false}
use Rattle.std.specs.declared.option.Option.TheVariants.{Some}
use Rattle.std.proofs.lemmas.Bool.{and_parts}
use Rattle.std.proofs.lemmas.Option.{none-some}
use Rattle.rp_lang.specs.Bounds.{is_small_fo}
use Rattle.rp_lang.specs.Programs.{Inv, Prog}
use Rattle.rp_lang.specs.Typing.{in_invariant, is_typed}
use Rattle.rp_lang.specs.WellFormed.{is_invariant, is_well_formed}
use Rattle.rp_lang.proofs.TypeFacts.{each}
use Rattle.crdt_defs.specs.Truths.{Reading, truth}
use Rattle.event_machine.specs.WellFormed.{At}
use Rattle.rp_logic.specs.Truth.{Meaning, Holds, AllTrue}
use Rattle.rp_logic.proofs.DualLaws.{dual_law}
use Rattle.rp_symbols.specs.Numbers.{snapshot_rel}
use Rattle.crdt_enc.specs.Places as places
use Rattle.crdt_enc.specs.FormulaFormulas.{formula_of, nothing_around}
use Rattle.crdt_enc.specs.Stages.{Stage}
use Rattle.crdt_enc.proofs.ClosedLaws.{formula-law}
use Rattle.hist_struct.specs.Snapshots.{after_at}
use Rattle.hist_struct.specs.Steps.{Step, IsStep}
use Rattle.hist_struct.specs.Structure.{sig_at, meaning_of}
use Rattle.hist_struct.proofs.CallFacts.{is-false}
use Rattle.hist_struct.proofs.StageLaws.{stages}
use Rattle.goal_forms.specs.Claims.{all_at}
use Rattle.goal_forms.specs.Holding.{AreClaims}

-- # Invariants are typed

pub claim-typed : (p : Prog) → is_well_formed p ≡ true → (n : ℕ) (inv : Inv) → At p.invs n inv → is_typed p in_invariant [] inv.body ≡ true
claim-typed p w n inv at =
    let invs = (and_parts _ _ (and_parts _ _ (and_parts _ _ w).0).0).1 in
    let is = each (is_invariant p) p.invs n inv (and_parts _ _ invs).1 at in
    (and_parts (is_small_fo p.cons inv.body) (is_typed p in_invariant [] inv.body) is).1

-- # Of a list

-- of the first and of each other
of-each : (i : Inv) (others : List Inv) (P : Inv → Type 0) → P i → ((n : ℕ) (inv : Inv) → At others n inv → P inv)
    → (n : ℕ) (inv : Inv) → At (i ∷ others) n inv → P inv
of-each i others P h k zero inv a =
    let is : Some i ≡ Some inv = a in
    let same : i ≡ inv = cc in
    subst P same h
of-each i others P h k (suc n) inv a = k n inv a

pub all-is : (r : Reading) (M : Meaning) (at : places.At) → Stage r M at → (invs : List Inv)
    → ((n : ℕ) (inv : Inv) → At invs n inv → is_typed r.program in_invariant [] inv.body ≡ true)
    → AllTrue M (all_at r.program at invs) ↔ ((n : ℕ) (inv : Inv) → At invs n inv → truth r [] inv.body ≡ true)
all-is r M at stage [] t = ((λ h n inv a. absurd (none-some inv a)), λ h. tt)
all-is r M at stage (i ∷ others) t =
    let one = formula-law r M at stage i.body (t 0 i refl) [] in
    let rest = all-is r M at stage others (λ n. t (suc n)) in (
      (λ h. of-each i others (λ inv. truth r [] inv.body ≡ true) (one.0 h.0) (rest.0 h.1)),
      λ k. (one.1 (k 0 i refl), rest.1 (λ n. k (suc n))),
    )

-- # The denied one

pub denied-is : (r : Reading) (M : Meaning) (at : places.At) → Stage r M at → (inv : Inv) → is_typed r.program in_invariant [] inv.body ≡ true
    → ((Holds M [] (formula_of r.program at nothing_around inv.body) → ⊥) ↔ (truth r [] inv.body ≡ false))
denied-is r M at stage inv t =
    let one = formula-law r M at stage inv.body t [] in
    ((λ h. is-false (truth r [] inv.body) (λ e. h (one.1 e))), λ e h. true≢false (sym (one.0 h) ∙ e))

-- # In the structure of a step

pub claims : (x : Step) (consts : List ℕ) → is_well_formed x.program ≡ true → IsStep x → AreClaims x (meaning_of (sig_at x consts) x)
claims x consts w m =
    let s = stages x consts w m [] in
    let typed = claim-typed x.program w in
    record {
      old = all-is _ _ _ s.old x.program.invs typed;
      part = all-is _ _ _ s.part x.program.invs typed;
      seen = λ k l. all-is _ _ _ (s.seen k l) x.program.invs typed;
      denied_is = λ k claim at.
          let d = denied-is _ _ _ s.snapshot claim (typed k claim at) in
          let f = dual_law (formula_of x.program (after_at snapshot_rel) nothing_around claim.body) (meaning_of (sig_at x consts) x) [] in
          ((λ h. d.0 (f.0 h)), λ e. f.1 (d.1 e));
    }
