-- The goals at the start.
use Rattle.std.proofs.Common.{◌≡◌, ℕ, ◌≤◌, Bool, true, false, [], ◌∷◌, refl, subst, arith}
use Rattle.std.proofs.lemmas.Option.{none-some}
use Rattle.rp_lang.specs.Programs.{Inv, Prog}
use Rattle.rp_lang.specs.WellFormed.{is_well_formed}
use Rattle.crdt_defs.specs.Snapshots.{IsSnapshot}
use Rattle.crdt_defs.specs.Truths.{truth}
use Rattle.event_machine.specs.Machine.{empty, at_snapshot}
use Rattle.event_machine.specs.LocalSafety.{HoldsAll}
use Rattle.event_machine.specs.WellFormed.{At}
use Rattle.rp_logic.specs.Structures.{IsStructure}
use Rattle.rp_logic.specs.Truth.{meaning, AllTrue, IsRefuted}
use Rattle.rp_symbols.specs.Signatures.{sorts_of, fn_decls, rel_decls, con_decls, sig_of, with_path}
use Rattle.hist_struct.specs.Holding.{axioms}
use Rattle.hist_struct.specs.Steps.{IsStep}
use Rattle.hist_struct.specs.Structure.{sig_at, meaning_of, structure_of, ConstsFit}
use Rattle.hist_struct.proofs.Implied.{all-both}
use Rattle.hist_struct.proofs.MarkFacts.{and-nil}
use Rattle.hist_struct.proofs.StepRows.{nothing-is}
use Rattle.hist_struct.proofs.StructureLaws.{is-structure}
use Rattle.hist_struct.proofs.Together.{met, all-true}
use Rattle.one_invocation.specs.Goals.{ToInit, IsMet}
use Rattle.goal_forms.specs.Claims.{denied}
use Rattle.goal_forms.specs.Given.{given_at_start}
use Rattle.goal_forms.specs.Holding.{IsStartExact, start_with}
use Rattle.goal_forms.specs.Moves.{none_committed, nobody_there}
use Rattle.goal_forms.proofs.ClaimLaws.{claims}
use Rattle.goal_forms.proofs.MoveLaws.{moves}

-- # The start is a step, with each snapshot

start-is : (p : Prog) (universe : ℕ) (seen : ℕ → Bool) → 1 ≤ universe → IsSnapshot [] [] seen → IsStep (start_with p universe seen)
start-is p universe seen l s =
    let m = nothing-is p universe l in record { before = m.before; after = m.after; moves = m.moves; acts = m.acts; snapshot = s }

-- # All given formulas

pub start-exact : (p : Prog) → is_well_formed p ≡ true → (k : ℕ) (claim : Inv) → At p.invs k claim → IsStartExact p claim
start-exact p w k claim at universe seen l s =
    let x = start_with p universe seen in
    let m = start-is p universe seen l s in
    let d = (claims x [] w m).denied_is k claim at in
    let v = moves x [] w m in
    let b = all-both (axioms p 0 0) (none_committed ∷ nobody_there ∷ denied p claim ∷ []) (meaning_of (sig_at x []) x) in (
      (λ h. d.0 (b.0 h).1.1.1.0),
      λ e. b.1 (all-true p 0 0 (meaning_of (sig_at x []) x) (met x [] w m), (v.none_committed_is.1 (λ c. refl), (v.nobody_there_is.1 refl, (d.1 e, tt)))),
    )

-- # From refuted goals

-- nothing is added to the signature
no-path : (p : Prog) → with_path p [] 0 (sig_of p 0) ≡ sig_of p 0
no-path p = λ i. record { sorts = sorts_of p; consts = []; fns = and-nil (fn_decls p 0) i; rels = and-nil (rel_decls p 0) i; cons = con_decls p }

no-consts : (p : Prog) (universe : ℕ) (seen : ℕ → Bool) → ConstsFit (start_with p universe seen) []
no-consts p universe seen = record {
  none = λ e. refl;
  acts = λ n e. absurd (omega (arith, e));
  vals = λ k s e. absurd (none-some s e);
}

pub start-met : (p : Prog) → is_well_formed p ≡ true → (k : ℕ) (claim : Inv) → At p.invs k claim
    → IsRefuted (sig_of p 0) (given_at_start p claim) → IsMet p (ToInit k claim)
start-met p w k claim at r universe seen l s = decide (truth (at_snapshot p (empty universe) seen) [] claim.body) refl
  where
    none : truth (at_snapshot p (empty universe) seen) [] claim.body ≡ false → ⊥
    none e =
        let there = is-structure (start_with p universe seen) [] w (start-is p universe seen l s) (no-consts p universe seen) in
        let given = (start-exact p w k claim at universe seen l s).1 e in
        r (structure_of (start_with p universe seen))
        (subst (λ S. IsStructure S (structure_of (start_with p universe seen))) (no-path p) there)
        (subst (λ S. AllTrue (meaning S (structure_of (start_with p universe seen))) (given_at_start p claim)) (no-path p) given)

    decide : (b : Bool) → truth (at_snapshot p (empty universe) seen) [] claim.body ≡ b → truth (at_snapshot p (empty universe) seen) [] claim.body ≡ true
    decide true e = e
    decide false e = absurd (none e)

pub begins : (p : Prog) → is_well_formed p ≡ true → ((k : ℕ) (claim : Inv) → At p.invs k claim → IsRefuted (sig_of p 0) (given_at_start p claim))
    → (universe : ℕ) → 1 ≤ universe → HoldsAll p (empty universe)
begins p w r universe l visible s n inv at = start-met p w n inv at (r n inv at) universe visible l s
