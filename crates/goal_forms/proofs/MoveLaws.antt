-- What the formulas of a step's moves mean in its structure.
use Rattle.std.proofs.Common.{◌≡◌, ◌↔◌, ℕ, zero, suc, ◌<◌, ◌≤◌, Bool, true, false, List, [], ◌∷◌, length, nat_lt, refl, ap, sym, ◌∙◌, true≢false, ltb-true, arith}
use Rattle.rp_lang.specs.WellFormed.{is_well_formed}
use Rattle.event_machine.specs.States.{Invocation}
use Rattle.event_machine.proofs.PlaceLemmas.{at-lt}
use Rattle.rp_logic.specs.Elements.{Point}
use Rattle.rp_logic.specs.Truth.{Holds, AllTrue}
use Rattle.rp_symbols.specs.Numbers.{old_rel, new_rel, was_rel, there_rel}
use Rattle.crdt_enc.specs.Builders.{one_fm}
use Rattle.crdt_enc.specs.FitsParts.{holds_of}
use Rattle.hist_struct.specs.Axioms.{within}
use Rattle.hist_struct.specs.Steps.{Step, IsStep, is_done}
use Rattle.hist_struct.specs.Structure.{IsSig, sig_at, meaning_of}
use Rattle.hist_struct.proofs.CallFacts.{is-false, lt-true}
use Rattle.hist_struct.proofs.Implied.{each-call-is}
use Rattle.hist_struct.proofs.MoveFacts.{kept}
use Rattle.hist_struct.proofs.SetFacts.{in-done}
use Rattle.hist_struct.proofs.SigLaws.{sig-is}
use Rattle.hist_struct.proofs.TableFacts.{each-call, each-inv, get-one, put-one}
use Rattle.goal_forms.specs.Moves.{NoneCommitted, NobodyThere, AllWere, CommitsStay, none_committed, nobody_there, all_were, commits_stay}
use Rattle.goal_forms.specs.Holding.{AreMoves}

-- # Words

none-there : (invs : List Invocation) → ((i : ℕ) → i < length invs → ⊥) → invs ≡ []
none-there [] h = refl
none-there (inv ∷ invs) h = absurd (h 0 (omega arith))

not-more : (m n : ℕ) → ((i : ℕ) → i < m → i < n) → m ≤ n
not-more zero n h = omega arith
not-more (suc m) n h = let l = h m (omega arith) in omega (arith, l)

both-ways : (a b : Bool) → (a ≡ true → b ≡ true) → (b ≡ true → a ≡ true) → a ≡ b
both-ways true b f g = sym (f refl)
both-ways false b f g = sym (is-false b (λ e. true≢false (sym (g e))))

-- # In the structure of a step

module _ (x : Step) (consts : List ℕ) where
  its : IsSig (sig_at x consts)
  its = sig-is x.program x.views consts (length x.reads)

  none-committed-is : Holds (meaning_of (sig_at x consts) x) [] none_committed ↔ NoneCommitted x
  none-committed-is = (
    (λ h c. is-false (is_done x.new c) (λ e.
        let k = in-done x.new c e in
        let l = at-lt x.new.calls c k.0 k.1 in
        true≢false (sym e ∙ get-one (is_done x.new) (length x.new.calls) c false l (h (Point c) (lt-true c (length x.new.calls) l))))),
    λ k. each-call (sig_at x consts) x its (λ e. holds_of (meaning_of (sig_at x consts) x) new_rel e ≡ false)
        (λ c l. put-one (is_done x.new) (length x.new.calls) c false l (k c)),
  )

  nobody-there-is : Holds (meaning_of (sig_at x consts) x) [] nobody_there ↔ NobodyThere x
  nobody-there-is = (
    (λ h. none-there x.new.invocations (λ i l. true≢false (h (Point i) (lt-true i (length x.new.invocations) l)))),
    λ k. each-inv (sig_at x consts) x its (λ e. holds_of (meaning_of (sig_at x consts) x) there_rel e ≡ false)
        (λ i l. let e : length x.new.invocations ≡ 0 = ap length k in absurd (omega (arith, l, e))),
  )

  all-were-is : Holds (meaning_of (sig_at x consts) x) [] all_were ↔ AllWere x
  all-were-is = (
    (λ h. not-more (length x.new.invocations) (length x.old.invocations) (λ i l.
        ltb-true i (length x.old.invocations)
        (get-one (λ i. nat_lt i (length x.old.invocations)) (length x.new.invocations) i true l (h (Point i) (lt-true i (length x.new.invocations) l))))),
    λ k. each-inv (sig_at x consts) x its (λ e. holds_of (meaning_of (sig_at x consts) x) was_rel e ≡ true)
        (λ i l. put-one (λ i. nat_lt i (length x.old.invocations)) (length x.new.invocations) i true l
        (lt-true i (length x.old.invocations) (omega (arith, l, k)))),
  )

  module _ (w : is_well_formed x.program ≡ true) (m : IsStep x) where
    commits-stay-is : AllTrue (meaning_of (sig_at x consts) x) commits_stay ↔ CommitsStay x
    commits-stay-is =
        let on = each-call-is (meaning_of (sig_at x consts) x) (one_fm (within old_rel 0)) (within new_rel 0) in
        let back = each-call-is (meaning_of (sig_at x consts) x) (one_fm (within new_rel 0)) (within old_rel 0) in (
          (λ h c. both-ways (is_done x.new c) (is_done x.old c)
              (λ e.
              let k = in-done x.new c e in
              let l = at-lt x.new.calls c k.0 k.1 in
              get-one (is_done x.old) (length x.new.calls) c true l
              (back.0 h.1.0 (Point c) (lt-true c (length x.new.calls) l) (put-one (is_done x.new) (length x.new.calls) c true l e)))
              (λ e.
              let k = in-done x.old c e in
              let l = at-lt x.new.calls c k.0 ((kept x w m).grows.calls c k.0 k.1) in
              get-one (is_done x.new) (length x.new.calls) c true l
              (on.0 h.0 (Point c) (lt-true c (length x.new.calls) l) (put-one (is_done x.old) (length x.new.calls) c true l e)))),
          λ k. (
            on.1 (each-call (sig_at x consts) x its (λ e. holds_of (meaning_of (sig_at x consts) x) old_rel e ≡ true → holds_of (meaning_of (sig_at x consts) x) new_rel e ≡ true)
                (λ c l i. put-one (is_done x.new) (length x.new.calls) c true l (k c ∙ get-one (is_done x.old) (length x.new.calls) c true l i))),
            (
              back.1 (each-call (sig_at x consts) x its (λ e. holds_of (meaning_of (sig_at x consts) x) new_rel e ≡ true → holds_of (meaning_of (sig_at x consts) x) old_rel e ≡ true)
                  (λ c l i. put-one (is_done x.old) (length x.new.calls) c true l (sym (k c) ∙ get-one (is_done x.new) (length x.new.calls) c true l i))),
              tt,
            ),
          ),
        )

    pub moves : AreMoves x (meaning_of (sig_at x consts) x)
    moves = record { none_committed_is = none-committed-is; nobody_there_is = nobody-there-is; all_were_is = all-were-is; commits_stay_is = commits-stay-is }
