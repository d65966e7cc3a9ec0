-- What goals say beside the trail's own conditions follows from them.
use Rattle.std.proofs.Common.{◌≡◌, ℕ, ◌<◌, Bool, true, false, ◌&&◌, ◌||◌, if◌then◌else◌, List, [], ◌∷◌, ◌++◌, length, reverse, zero, suc, refl, ap, ap₂, sym, ◌∙◌, subst, arith, nat_eq, slice_set, ◌⊎◌, inl, inr, true≢false, eqb-true, eq-eqb}
use Rattle.std.proofs.lemmas.List.{append-nil}
use Rattle.std.proofs.lemmas.Grind.{reverse_onto}
use Rattle.std.specs.List.{list_any}
use Rattle.std.specs.declared.option.Option.TheVariants.{Some}
use Rattle.std.proofs.lemmas.Option.{none-some, same_Some}
use Rattle.std.proofs.lemmas.Bool.{and_parts}
use Rattle.rp_lang.specs.Programs.{Proc, Prog}
use Rattle.crdt_defs.specs.Calls.{Call}
use Rattle.crdt_defs.specs.Histories.{call_is, before}
use Rattle.event_machine.specs.Code.{Code}
use Rattle.event_machine.specs.Machine.{Invocation, Tx, State, is_in, listed, own_calls, committed}
use Rattle.event_machine.specs.WellFormed.{At, Committed, opened_by, IsCausal}
use Rattle.event_machine.specs.Growth.{IsValid}
use Rattle.event_machine.proofs.PlaceLemmas.{both-ways, at-one, at-lt, at-set_same, same-or, or-cases, or-left, or-right, in-call_is, to-call_is, in-own, to-own}
use Rattle.event_machine.proofs.CausalLemmas.{done_by, committed-set, committed-set_back}
use Rattle.event_machine.proofs.MoveLemmas.{by-cases}
use Rattle.one_invocation.specs.Trails.{Done, HasOperated, HasBegun, HasEnded, open_tx, last_mark, own}
use Rattle.one_invocation.specs.CameAlong.{Start, start_of, IsOwn, Follows, CameAlong}
use Rattle.event_machine.specs.OldCalls.{old}
use Rattle.one_invocation.specs.Facts.{last_own, marks, OthersSeen, AreMarks, AreOwn, ReadsAre}
use Rattle.one_invocation.specs.means.Descending.{Descend}
use Rattle.event_machine.proofs.MoveLemmas.{and-make}
use Rattle.event_machine.proofs.SnapshotLemmas.{in-old, to-old}
use Rattle.one_invocation.proofs.CameSteps.{own-read}

module _ (a : Start) (h : List Call) where
  in-past : (trail : List Done) (mark tx : ℕ) → Follows a h (HasBegun mark tx ∷ trail) → (c : ℕ) → is_in (own trail) c ≡ true → before h c mark ≡ true
  in-past trail mark tx f c m =
      to-call_is h (λ call. list_any (λ b. nat_eq b c) call.past) mark f.0.0.call f.0.0.at (f.0.1 f.0.0.call c f.0.0.at (own-read a h trail f.1 c m))

  pub others : (trail : List Done) → Follows a h trail → (c mark : ℕ) → is_in (own trail) c ≡ true → last_mark trail ≡ Some mark → (is_in (last_own trail) c ≡ true) ⊎ (before h c mark ≡ true)
  others [] f c mark m e = absurd (none-some mark e)
  others (HasBegun k tx ∷ earlier) f c mark m e = elim (or-cases (nat_eq k c) (is_in (own earlier) c) m) [
    | inl q ↦ inl (or-left (nat_eq k c) false q)
    | inr q ↦ inr (subst (λ k. before h c k ≡ true) (same_Some k mark e) (in-past earlier k tx f c q))
  ]
  others (HasOperated op args vs k ∷ earlier) f c mark m e = elim (or-cases (nat_eq k c) (is_in (own earlier) c) m) [
    | inl q ↦ inl (or-left (nat_eq k c) (is_in (last_own earlier) c) q)
    | inr q ↦ elim (others earlier f.1 c mark q e) [ inl l ↦ inl (or-right (nat_eq k c) (is_in (last_own earlier) c) l) | inr r ↦ inr r ]
  ]
  others (_ ∷ earlier) f c mark m e = others earlier f.1 c mark m e

  -- the marker of the open transaction is one of the marks
  mark-open : (trail : List Done) → Follows a h trail → (t : ℕ) → open_tx trail ≡ Some t → (m : ℕ) × IsOwn h m 0 [] a.inv t × (is_in (marks trail) m ≡ true)
  mark-open [] f t e = absurd (none-some t e)
  mark-open (HasBegun m tx ∷ earlier) f t e =
      subst (λ t. (n : ℕ) × IsOwn h n 0 [] a.inv t × (is_in (m ∷ marks earlier) n ≡ true)) (same_Some tx t e) (m, f.0.0, or-left (nat_eq m m) (is_in (marks earlier) m) (eq-eqb m m refl))
  mark-open (HasEnded ∷ earlier) f t e = absurd (none-some t e)
  mark-open (_ ∷ earlier) f t e = mark-open earlier f.1 t e

  module _ (txs : List Tx) (hist : IsCausal h txs) where
    is-mark : (trail : List Done) → Follows a h trail → (c : ℕ) (call : Call) → At h c call → call.op ≡ 0 → is_in (own trail) c ≡ true → is_in (marks trail) c ≡ true
    is-mark [] f c call at op m = m
    is-mark (HasBegun k tx ∷ earlier) f c call at op m = elim (or-cases (nat_eq k c) (is_in (own earlier) c) m) [
      | inl q ↦ or-left (nat_eq k c) (is_in (marks earlier) c) q
      | inr q ↦ or-right (nat_eq k c) (is_in (marks earlier) c) (is-mark earlier f.1 c call at op q)
    ]
    is-mark (HasOperated o args vs k ∷ earlier) f c call at op m = elim (or-cases (nat_eq k c) (is_in (own earlier) c) m) [
      | inl q ↦
          let w = mark-open earlier f.1 f.0.1.0 f.0.1.1 in
          let mine = f.0.1.2 in
          let same : mine.call ≡ call = at-one h c mine.call call (subst (λ k. At h k mine.call) (eqb-true k c q) mine.at) at in
          let tx : call.tx ≡ w.1.call.tx = ap (λ (x : Call). x.tx) (sym same) ∙ (mine.tx_is ∙ sym w.1.tx_is) in
          let l = hist.first c w.0 call w.1.call at op w.1.at (sym tx) in
          let g = hist.first w.0 c w.1.call call w.1.at w.1.op_is at tx in
          let e : w.0 ≡ c = omega (arith, l, g) in
          subst (λ c. is_in (marks earlier) c ≡ true) e w.2
      | inr q ↦ is-mark earlier f.1 c call at op q
    ]
    is-mark (_ ∷ earlier) f c call at op m = is-mark earlier f.1 c call at op m

    mark-is : (trail : List Done) → Follows a h trail → (c : ℕ) → is_in (marks trail) c ≡ true → (call : Call) × At h c call × (call.inv ≡ a.inv) × (call.op ≡ 0)
    mark-is [] f c m = absurd (true≢false (sym m))
    mark-is (HasBegun k tx ∷ earlier) f c m = elim (or-cases (nat_eq k c) (is_in (marks earlier) c) m) [
      | inl q ↦ (f.0.0.call, subst (λ k. At h k f.0.0.call) (eqb-true k c q) f.0.0.at, f.0.0.inv_is, f.0.0.op_is)
      | inr q ↦ mark-is earlier f.1 c q
    ]
    mark-is (_ ∷ earlier) f c m = mark-is earlier f.1 c m

    mark-own : (trail : List Done) (c : ℕ) → is_in (marks trail) c ≡ true → is_in (own trail) c ≡ true
    mark-own [] c m = m
    mark-own (HasBegun k tx ∷ earlier) c m = elim (or-cases (nat_eq k c) (is_in (marks earlier) c) m) [
      | inl q ↦ or-left (nat_eq k c) (is_in (own earlier) c) q
      | inr q ↦ or-right (nat_eq k c) (is_in (own earlier) c) (mark-own earlier c q)
    ]
    mark-own (HasOperated op args vs k ∷ earlier) c m = or-right (nat_eq k c) (is_in (own earlier) c) (mark-own earlier c m)
    mark-own (_ ∷ earlier) c m = mark-own earlier c m

    descend : (trail : List Done) → Follows a h trail → Descend (marks trail)
    descend [] f = tt
    descend (HasBegun k tx ∷ earlier) f =
        ((λ n m. hist.earlier k n f.0.0.call f.0.0.at (f.0.1 f.0.0.call n f.0.0.at (own-read a h earlier f.1 n (mark-own earlier n m)))), descend earlier f.1)
    descend (_ ∷ earlier) f = descend earlier f.1

-- # The calls of the invocation in their order

-- a descending list that has exactly the members of a set below n
listed-is : (set : ℕ → Bool) (n : ℕ) (xs : List ℕ) → Descend xs → ((c : ℕ) → is_in xs c ≡ true → c < n) → ((c : ℕ) → c < n → set c ≡ is_in xs c) → listed set n ≡ reverse xs
listed-is set zero [] d low same = refl
listed-is set zero (x ∷ xs) d low same = let l = low x (or-left (nat_eq x x) (is_in xs x) (eq-eqb x x refl)) in absurd (omega (arith, l))
listed-is set (suc n) xs d low same = go (set n) refl (λ ys. listed-is set n ys)
  where
    lower : (ys : List ℕ) → ((c : ℕ) → is_in ys c ≡ true → c < suc n) → is_in ys n ≡ false → (c : ℕ) → is_in ys c ≡ true → c < n
    lower ys low no' c m = elim (same-or c n) [
      | inl e ↦ absurd (true≢false (sym (ap (is_in ys) (sym e) ∙ m) ∙ no'))
      | inr e ↦ let l = low c m in omega (arith, l, e)
    ]

    top : (ys : List ℕ) → Descend ys → ((c : ℕ) → is_in ys c ≡ true → c < suc n) → is_in ys n ≡ true → (zs : List ℕ) × (ys ≡ n ∷ zs)
    top [] d low m = absurd (true≢false (sym m))
    top (y ∷ ys) d low m = elim (or-cases (nat_eq y n) (is_in ys n) m) [
      | inl e ↦ (ys, ap (λ y. y ∷ ys) (eqb-true y n e))
      | inr k ↦
          let below = d.0 n k in
          let l = low y (or-left (nat_eq y y) (is_in ys y) (eq-eqb y y refl)) in
          absurd (omega (arith, below, l))
    ]

    go : (b : Bool) → set n ≡ b → ((ys : List ℕ) → Descend ys → ((c : ℕ) → is_in ys c ≡ true → c < n) → ((c : ℕ) → c < n → set c ≡ is_in ys c) → listed set n ≡ reverse ys)
        → listed set n ++ (if set n then n ∷ [] else []) ≡ reverse xs
    go false e rest =
        ap (λ b. listed set n ++ (if b then n ∷ [] else [])) e
        ∙ (append-nil (listed set n) ∙ rest xs d (lower xs low (sym (same n (omega arith)) ∙ e)) (λ c l. same c (omega (arith, l))))
    go true e rest =
        let t = top xs d low (sym (same n (omega arith)) ∙ e) in
        let d' : Descend (n ∷ t.0) = subst Descend t.1 d in
        let below : (c : ℕ) → is_in t.0 c ≡ true → c < n = λ c m. d'.0 c m in
        ap (λ b. listed set n ++ (if b then n ∷ [] else [])) e
        ∙ (ap (λ ys. ys ++ n ∷ []) (rest t.0 d'.1 below (λ c l.
        same c (omega (arith, l)) ∙ (ap (λ ys. is_in ys c) t.1 ∙ ap (λ b. b || is_in t.0 c) (other n c l))))
        ∙ (sym (reverse_onto t.0 n []) ∙ ap reverse (sym t.1)))
      where
        other : (n c : ℕ) → c < n → nat_eq n c ≡ false
        other n c l = elim (by-cases (nat_eq n c)) [ inl e ↦ (let q = eqb-true n c e in absurd (omega (arith, q, l))) | inr e ↦ e ]

module _ (a : Start) (h : List Call) (txs : List Tx) (hist : IsCausal h txs) where
  pub own-descend : (trail : List Done) → Follows a h trail → Descend (own trail)
  own-descend [] f = tt
  own-descend (HasBegun k tx ∷ earlier) f =
      ((λ n m. hist.earlier k n f.0.0.call f.0.0.at (f.0.1 f.0.0.call n f.0.0.at (own-read a h earlier f.1 n m))), own-descend earlier f.1)
  own-descend (HasOperated op args vs k ∷ earlier) f = (
    (λ n m. hist.earlier k n f.0.1.2.call f.0.1.2.at (f.0.2 f.0.1.2.call f.0.1.2.at n ∙ own-read a h earlier f.1 n m)),
    own-descend earlier f.1,
  )
  own-descend (_ ∷ earlier) f = own-descend earlier f.1

  own-is : (trail : List Done) → Follows a h trail → (c : ℕ) → is_in (own trail) c ≡ true → (call : Call) × At h c call × (call.inv ≡ a.inv)
  own-is [] f c m = absurd (true≢false (sym m))
  own-is (HasBegun k tx ∷ earlier) f c m = elim (or-cases (nat_eq k c) (is_in (own earlier) c) m) [
    | inl q ↦ (f.0.0.call, subst (λ k. At h k f.0.0.call) (eqb-true k c q) f.0.0.at, f.0.0.inv_is)
    | inr q ↦ own-is earlier f.1 c q
  ]
  own-is (HasOperated op args vs k ∷ earlier) f c m = elim (or-cases (nat_eq k c) (is_in (own earlier) c) m) [
    | inl q ↦ (f.0.1.2.call, subst (λ k. At h k f.0.1.2.call) (eqb-true k c q) f.0.1.2.at, f.0.1.2.inv_is)
    | inr q ↦ own-is earlier f.1 c q
  ]
  own-is (_ ∷ earlier) f c m = own-is earlier f.1 c m

pub are-own : (p : Prog) (s : State) (i : ℕ) (q : Proc) (inv : Invocation) (trail : List Done) → IsValid p s → CameAlong p s i q inv trail → AreOwn s i trail
are-own p s i q inv trail valid came =
    let a = start_of p s i q inv in
    let hist = valid.formed.history in
    listed-is (λ c. call_is s.calls (λ call. nat_eq call.inv i) c) (length s.calls) (own trail) (own-descend a s.calls s.txs hist trail came.follows)
    (λ c m. let k = own-is a s.calls s.txs hist trail came.follows c m in at-lt s.calls c k.0 k.1)
    (λ c l. both-ways _ _
    (λ m. let k = in-call_is s.calls (λ call. nat_eq call.inv i) c m in came.all c k.0 k.1 (eqb-true k.0.inv i k.2))
    (λ m. let k = own-is a s.calls s.txs hist trail came.follows c m in to-call_is s.calls (λ call. nat_eq call.inv i) c k.0 k.1 (eq-eqb k.0.inv i k.2)))

pub others-seen : (p : Prog) (s : State) (i : ℕ) (q : Proc) (inv : Invocation) (trail : List Done) → CameAlong p s i q inv trail → OthersSeen s i trail
others-seen p s i q inv trail came c mark call at of e = others (start_of p s i q inv) s.calls trail came.follows c mark (came.all c call at of) e

pub are-marks : (p : Prog) (s : State) (i : ℕ) (q : Proc) (inv : Invocation) (trail : List Done) → IsValid p s → CameAlong p s i q inv trail → AreMarks s i trail
are-marks p s i q inv trail valid came =
    let a = start_of p s i q inv in
    let hist = valid.formed.history in
    let set : ℕ → Bool = λ c. call_is s.calls (λ call. nat_eq call.inv i && nat_eq call.op 0) c in
    listed-is set (length s.calls) (marks trail) (descend a s.calls s.txs hist trail came.follows)
    (λ c m. let k = mark-is a s.calls s.txs hist trail came.follows c m in at-lt s.calls c k.0 k.1)
    (λ c l. both-ways (set c) (is_in (marks trail) c)
    (λ m.
    let k = in-call_is s.calls (λ call. nat_eq call.inv i && nat_eq call.op 0) c m in
    let of = eqb-true k.0.inv i (and_parts (nat_eq k.0.inv i) (nat_eq k.0.op 0) k.2).0 in
    let op = eqb-true k.0.op 0 (and_parts (nat_eq k.0.inv i) (nat_eq k.0.op 0) k.2).1 in
    is-mark a s.calls s.txs hist trail came.follows c k.0 k.1 op (came.all c k.0 k.1 of))
    (λ m.
    let k = mark-is a s.calls s.txs hist trail came.follows c m in
    to-call_is s.calls (λ call. nat_eq call.inv i && nat_eq call.op 0) c k.0 k.1 (and-make (nat_eq k.0.inv i) (nat_eq k.0.op 0) (eq-eqb k.0.inv i k.2) (eq-eqb k.0.op 0 k.3))))

or-third : (a b c : Bool) → ((a || b) || c) ≡ (a || (c || b))
or-third true b c = refl
or-third false true true = refl
or-third false true false = refl
or-third false false true = refl
or-third false false false = refl

or-false : (b : Bool) → b ≡ (b || false)
or-false true = refl
or-false false = refl

same-way : (c k : ℕ) → nat_eq c k ≡ nat_eq k c
same-way c k = both-ways (nat_eq c k) (nat_eq k c) (λ e. eq-eqb k c (sym (eqb-true c k e))) (λ e. eq-eqb c k (sym (eqb-true k c e)))

pub reads-are : (calls : List Call) (trail : List Done) → ReadsAre calls trail
reads-are calls [] mark c e = absurd (none-some mark e)
reads-are calls (HasBegun k tx ∷ earlier) mark c e =
    subst (λ m. (before calls c k || nat_eq c k) ≡ (before calls c m || (nat_eq k c || false))) (same_Some k mark e)
    (ap (λ b. before calls c k || b) (same-way c k ∙ or-false (nat_eq k c)))
reads-are calls (HasOperated op args vs k ∷ earlier) mark c e =
    ap₂ (λ a b. a || b) (reads-are calls earlier mark c e) (same-way c k) ∙ or-third (before calls c mark) (is_in (last_own earlier) c) (nat_eq k c)
reads-are calls (_ ∷ earlier) mark c e = reads-are calls earlier mark c e

-- after a commit also the calls of the open transaction are committed
pub new-committed : (p : Prog) (s : State) (i t : ℕ) (inv : Invocation) (next : Code) → IsValid p s → At s.invocations i inv → inv.tx ≡ Some t
    → (c : ℕ) → old (committed s i inv t next) c ≡ (old s c || own_calls s.calls (Some t) c)
new-committed p s i t inv next valid at is c = both-ways _ _
    (λ m.
    let k = in-old new c m in
    elim (same-or k.0.tx t) [
      | inl e ↦ or-right (old s c) (own_calls s.calls (Some t) c) (to-own s.calls t c k.0 k.1 e)
      | inr n ↦ or-left (old s c) (own_calls s.calls (Some t) c) (to-old s c k.0 k.1 (committed-set_back s.txs i t k.0.tx n k.2))
    ])
    (λ m. elim (or-cases (old s c) (own_calls s.calls (Some t) c) m) [
      | inl o ↦ let k = in-old s c o in to-old new c k.0 k.1 (committed-set s.txs i t k.0.tx k.2)
      | inr o ↦
          let k = in-own s.calls t c o in
          let mine = valid.formed.linked.still_open i t inv at is in
          to-old new c k.0 k.1 (subst (Committed (slice_set s.txs t (done_by i))) (sym k.2) (done_by i, at-set_same s.txs t (done_by i) (opened_by i) mine, refl))
    ])
  where
    new : State
    new = committed s i inv t next
