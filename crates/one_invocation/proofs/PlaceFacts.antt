-- The own calls that are read at a place of a trail, told by the state alone.
use Rattle.std.proofs.Common.{◌≡◌, ℕ, ◌<◌, ◌≤◌, true, false, nat_le, List, [], ◌∷◌, ◌++◌, refl, ap, sym, ◌∙◌, subst, arith, nat_eq, inl, inr, true≢false, eqb-true, eq-eqb, leb-true, le-leb}
use Rattle.std.specs.List.{list_any}
use Rattle.std.specs.declared.option.Option.TheVariants.{Some}
use Rattle.std.proofs.lemmas.Option.{none-some, same_Some}
use Rattle.std.proofs.lemmas.Bool.{and_parts}
use Rattle.rp_lang.specs.Programs.{Proc, Prog}
use Rattle.crdt_defs.specs.Calls.{Call}
use Rattle.event_machine.specs.Machine.{Invocation, Tx, State, is_in, own_calls}
use Rattle.event_machine.specs.WellFormed.{At, IsCausal}
use Rattle.event_machine.specs.Growth.{IsValid}
use Rattle.event_machine.proofs.PlaceLemmas.{both-ways, at-one, or-cases, or-left, or-right, in-call_is, in-own, to-own, in-append, in-append_right}
use Rattle.one_invocation.specs.Trails.{Done, HasOperated, HasBegun, HasEnded, open_tx, last_mark, own}
use Rattle.one_invocation.specs.CameAlong.{Start, start_of, IsOwn, Follows, CameAlong}
use Rattle.one_invocation.specs.Facts.{last_own, last_tx, AreFirst}
use Rattle.one_invocation.specs.means.Descending.{Descend}
use Rattle.event_machine.proofs.MoveLemmas.{and-make}
use Rattle.one_invocation.proofs.CameSteps.{own-read}
use Rattle.one_invocation.proofs.TrailFacts.{others, own-descend}

own-app : (later earlier : List Done) → own (later ++ earlier) ≡ own later ++ own earlier
own-app [] earlier = refl
own-app (HasBegun k tx ∷ later) earlier = ap (λ xs. k ∷ xs) (own-app later earlier)
own-app (HasOperated op args vs k ∷ later) earlier = ap (λ xs. k ∷ xs) (own-app later earlier)
own-app (_ ∷ later) earlier = own-app later earlier

follows-app : (a : Start) (h : List Call) (later earlier : List Done) → Follows a h (later ++ earlier) → Follows a h earlier
follows-app a h [] earlier f = f
follows-app a h (step ∷ later) earlier f = follows-app a h later earlier f.1

descend-app : (xs ys : List ℕ) → Descend (xs ++ ys) → (x y : ℕ) → is_in xs x ≡ true → is_in ys y ≡ true → y < x
descend-app [] ys d x y m k = absurd (true≢false (sym m))
descend-app (z ∷ xs) ys d x y m k = elim (or-cases (nat_eq z x) (is_in xs x) m) [
  | inl e ↦ subst (λ z. y < z) (eqb-true z x e) (d.0 y (in-append_right xs ys y k))
  | inr q ↦ descend-app xs ys d.1 x y q k
]

last-sub : (trail : List Done) (c : ℕ) → is_in (last_own trail) c ≡ true → is_in (own trail) c ≡ true
last-sub [] c m = m
last-sub (HasBegun k tx ∷ earlier) c m = elim (or-cases (nat_eq k c) false m) [ inl e ↦ or-left (nat_eq k c) (is_in (own earlier) c) e | inr none ↦ absurd (true≢false (sym none)) ]
last-sub (HasOperated op args vs k ∷ earlier) c m = elim (or-cases (nat_eq k c) (is_in (last_own earlier) c) m) [
  | inl e ↦ or-left (nat_eq k c) (is_in (own earlier) c) e
  | inr q ↦ or-right (nat_eq k c) (is_in (own earlier) c) (last-sub earlier c q)
]
last-sub (_ ∷ earlier) c m = last-sub earlier c m

open-last : (trail : List Done) (t : ℕ) → open_tx trail ≡ Some t → last_tx trail ≡ Some t
open-last [] t e = e
open-last (HasBegun k tx ∷ earlier) t e = e
open-last (HasEnded ∷ earlier) t e = absurd (none-some t e)
open-last (_ ∷ earlier) t e = open-last earlier t e

head-is : (x y : ℕ) (xs ys : List ℕ) → (x ∷ xs) ≡ (y ∷ ys) → x ≡ y
head-is x y xs ys e = ap first e
  where
    first : List ℕ → ℕ
    first [] = 0
    first (z ∷ zs) = z

module _ (a : Start) (h : List Call) where
  last-of : (trail : List Done) → Follows a h trail → (t c : ℕ) → last_tx trail ≡ Some t → is_in (last_own trail) c ≡ true → (call : Call) × At h c call × (call.tx ≡ t)
  last-of [] f t c e m = absurd (true≢false (sym m))
  last-of (HasBegun k tx ∷ earlier) f t c e m = elim (or-cases (nat_eq k c) false m) [
    | inl q ↦ (f.0.0.call, subst (λ k. At h k f.0.0.call) (eqb-true k c q) f.0.0.at, f.0.0.tx_is ∙ same_Some tx t e)
    | inr none ↦ absurd (true≢false (sym none))
  ]
  last-of (HasOperated op args vs k ∷ earlier) f t c e m = elim (or-cases (nat_eq k c) (is_in (last_own earlier) c) m) [
    | inl q ↦
        let o = f.0.1.2 in
        (o.call, subst (λ k. At h k o.call) (eqb-true k c q) o.at, o.tx_is ∙ same_Some f.0.1.0 t (sym (open-last earlier f.0.1.0 f.0.1.1) ∙ e))
    | inr q ↦ last-of earlier f.1 t c e q
  ]
  last-of (_ ∷ earlier) f t c e m = last-of earlier f.1 t c e m

  mark-last : (trail : List Done) → Follows a h trail → (t : ℕ) → last_tx trail ≡ Some t → (m : ℕ) × (last_mark trail ≡ Some m) × IsOwn h m 0 [] a.inv t
  mark-last [] f t e = absurd (none-some t e)
  mark-last (HasBegun k tx ∷ earlier) f t e = subst (λ t. (m : ℕ) × (Some k ≡ Some m) × IsOwn h m 0 [] a.inv t) (same_Some tx t e) (k, refl, f.0.0)
  mark-last (_ ∷ earlier) f t e = mark-last earlier f.1 t e

  module _ (txs : List Tx) (hist : IsCausal h txs) where
    below-head : (trail : List Done) → Follows a h trail → (n c : ℕ) (ns : List ℕ) → last_own trail ≡ n ∷ ns → is_in (last_own trail) c ≡ true → c ≤ n
    below-head [] f n c ns e m = absurd (true≢false (sym m))
    below-head (HasBegun k tx ∷ earlier) f n c ns e m = elim (or-cases (nat_eq k c) false m) [
      | inl q ↦ let x = head-is k n [] ns e in let y = eqb-true k c q in omega (arith, x, y)
      | inr none ↦ absurd (true≢false (sym none))
    ]
    below-head (HasOperated op args vs k ∷ earlier) f n c ns e m = elim (or-cases (nat_eq k c) (is_in (last_own earlier) c) m) [
      | inl q ↦ let x = head-is k n (last_own earlier) ns e in let y = eqb-true k c q in omega (arith, x, y)
      | inr q ↦
          let x = head-is k n (last_own earlier) ns e in
          let o = f.0.1.2 in
          let l = hist.earlier k c o.call o.at (f.0.2 o.call o.at c ∙ own-read a h earlier f.1 c (last-sub earlier c q)) in
          omega (arith, x, l)
    ]
    below-head (_ ∷ earlier) f n c ns e m = below-head earlier f.1 n c ns e m

pub are-first : (p : Prog) (s : State) (i : ℕ) (q : Proc) (inv : Invocation) (trail : List Done) → IsValid p s → CameAlong p s i q inv trail → AreFirst s trail
are-first p s i q inv trail valid came later earlier n t c ns is tx head = both-ways _ _
    (λ m.
    let k = last-of a s.calls earlier f t c tx m in
    let l = below-head a s.calls s.txs hist earlier f n c ns head m in
    and-make (own_calls s.calls (Some t) c) (nat_le c n) (to-own s.calls t c k.0 k.1 k.2) (le-leb c n l))
    (λ m.
    let k = in-own s.calls t c (and_parts (own_calls s.calls (Some t) c) (nat_le c n) m).0 in
    let l = leb-true c n (and_parts (own_calls s.calls (Some t) c) (nat_le c n) m).1 in
    let w = mark-last a s.calls earlier f t tx in
    let u = hist.has_tx c k.0 k.1 in
    let v = hist.has_tx w.0 w.2.call w.2.at in
    let same : u.0 ≡ v.0 = at-one s.txs t u.0 v.0 (subst (λ t. At s.txs t u.0) k.2 u.1) (subst (λ t. At s.txs t v.0) w.2.tx_is v.1) in
    let of : k.0.inv ≡ i = u.2 ∙ (ap (λ (x : Tx). x.inv) same ∙ (sym v.2 ∙ w.2.inv_is)) in
    let mine : is_in (own later ++ own earlier) c ≡ true = subst (λ xs. is_in xs c ≡ true) (ap own is ∙ own-app later earlier) (came.all c k.0 k.1 of) in
    let down : Descend (own later ++ own earlier) = subst Descend (ap own is ∙ own-app later earlier) (own-descend a s.calls s.txs hist trail came.follows) in
    let top : is_in (own earlier) n ≡ true = last-sub earlier n (subst (λ xs. is_in xs n ≡ true) (sym head) (or-left (nat_eq n n) (is_in ns n) (eq-eqb n n refl))) in
    elim (in-append (own later) (own earlier) c mine) [
      | inl late ↦ let g = descend-app (own later) (own earlier) down c n late top in absurd (omega (arith, l, g))
      | inr here ↦ elim (others a s.calls earlier f c w.0 here w.1) [
        | inl last ↦ last
        | inr past ↦
            let x = in-call_is s.calls (λ call. list_any (λ b. nat_eq b c) call.past) w.0 past in
            let g = hist.earlier w.0 c x.0 x.1 x.2 in
            let first = hist.first w.0 c w.2.call k.0 w.2.at w.2.op_is k.1 (k.2 ∙ sym w.2.tx_is) in
            absurd (omega (arith, g, first))
      ]
    ])
  where
    a : Start
    a = start_of p s i q inv

    hist : IsCausal s.calls s.txs
    hist = valid.formed.history

    f : Follows a s.calls earlier
    f = follows-app a s.calls later earlier (subst (Follows a s.calls) is came.follows)
