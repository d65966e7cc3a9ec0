-- Formulas over the calls that count.
use Rattle.std.proofs.Common.{◌≡◌, ℕ, zero, suc, ◌<◌, nat_lt, List, [], ◌∷◌, ◌++◌, length, map, slice_get, Bool, true, ◌↔◌, Some, refl, sym, ap, ap₂, ◌∙◌, subst, ltb-true, lt-ltb, arith}
use Rattle.std.proofs.lemmas.Option.{same_Some}
use Rattle.rp_value.specs.Values.{Val}
use Rattle.rp_lang.specs.declared.op.OpDecl.{OpDecl}
use Rattle.rp_lang.specs.Programs.{Prog}
use Rattle.crdt_defs.specs.Calls.{Call}
use Rattle.crdt_defs.specs.Histories.{call_is}
use Rattle.crdt_defs.specs.Meaning.{among}
use Rattle.crdt_defs.specs.Fitting.{all_fit}
use Rattle.rp_logic.specs.Terms.{Tm, Var}
use Rattle.rp_logic.specs.Formulas.{Fms}
use Rattle.rp_logic.specs.Elements.{Elem, Point}
use Rattle.rp_logic.specs.Dual.{duals}
use Rattle.rp_logic.specs.Filling.{raised}
use Rattle.rp_logic.specs.Truth.{Meaning, Holds, AllHold, NoneHolds, value}
use Rattle.rp_logic.proofs.DualLaws.{duals_law}
use Rattle.rp_logic.proofs.FillingLaws.{raised-value}
use Rattle.std.proofs.lemmas.Bool.{and_parts, and_from}
use Rattle.rp_symbols.specs.Numbers.{call_sort}
use Rattle.crdt_enc.specs.Ways.{Way, Root, AtField, AtKey, keys, goes}
use Rattle.crdt_enc.specs.Elements.{elem_of}
use Rattle.reshape.specs.Joined.{joined}
use Rattle.crdt_enc.specs.Builders.{is_call_of}
use Rattle.crdt_enc.specs.QueryFormulas.{counting, passes, some_such, each_such}
use Rattle.crdt_enc.specs.FitsParts.{FitsCalls, FitsView, Is}
use Rattle.reshape.proofs.FlattenLaws.{joined-all, joined-none}
use Rattle.crdt_enc.proofs.BuilderLaws.{any-of, all-ops, no-ops}
use Rattle.crdt_enc.proofs.Starts.{Starts, starts_fit}
use Rattle.crdt_enc.proofs.CallLaws.{call-of, map-both}
use Rattle.crdt_enc.specs.means.Counting.{Both, terms, vals, counted, matches, KeysRead, WayFits, CallsFit}
use Rattle.crdt_enc.proofs.WayLaws.{matches-is, call-there}

pub call-at : (h : List Call) (d : ℕ) → d < length h → (call : Call) × (slice_get h d ≡ Some call)
call-at [] d lt = absurd (omega arith)
call-at (x ∷ h) zero lt = (x, refl)
call-at (x ∷ h) (suc d) lt = call-at h d (omega arith)

pub starts-front : (gs ks vs : List Val) → Starts (gs ++ ks) vs → Starts gs vs
starts-front [] ks vs h = tt
starts-front (g ∷ gs) ks [] h = elim h [ ]
starts-front (g ∷ gs) ks (v ∷ vs) h = (h.0, starts-front gs ks vs h.1)

pub raised-list : (ts : List Tm) (M : Meaning) (es base : List Elem) (n : ℕ) → n ≡ length es → map (value M (es ++ base)) (map (raised n) ts) ≡ map (value M base) ts
raised-list [] M es base n e = refl
raised-list (t ∷ ts) M es base n e = ap₂ (λ x xs. x ∷ xs) (raised-value t M es base n e) (raised-list ts M es base n e)

pub keys-read : (w : Way Both) (M : Meaning) (base : List Elem) → KeysRead M base w → map (value M base) (keys (terms w)) ≡ map elem_of (vals w)
keys-read (Root r) M base k = refl
keys-read (AtField n w) M base k = keys-read w M base k
keys-read (AtKey winner b w) M base k =
    map-both (value M base) (keys (terms w)) (b.term ∷ [])
    ∙ (ap₂ (λ xs x. xs ++ x ∷ []) (keys-read w M base k.0) k.1 ∙ sym (map-both elem_of (vals w) (b.val ∷ [])))

module _ (p : Prog) (M : Meaning) (h : List Call) (view : ℕ) (visible : ℕ → Bool) (base : List Elem) (fits : FitsCalls p M h) (seen : FitsView M h view visible) (typed : CallsFit p h) where
  -- under these elements `kept` says of each call whose operation goes the way that it counts
  abbrev pub Kept : Way Both → List Elem → Fms → Type 0
  Kept w es kept =
      (d : ℕ) → d < length h
      → (counted p.ops h visible w d ≡ true) ↔ ((visible d ≡ true) × (call_is h (matches p.ops w) d ≡ true) × AllHold M (Point d ∷ es ++ base) kept)

  -- what is wanted of a call is told by the test and the arguments behind the keys
  abbrev pub Wanted : Way Both → (OpDecl → Bool) → List Val → (Call → Bool) → Type 0
  Wanted w test ov want =
      (call : Call) (decl : OpDecl) → slice_get p.ops call.op ≡ Some decl → goes (terms w) decl ≡ true → Starts (vals w) call.args
      → (want call ≡ true) ↔ ((test decl ≡ true) × Starts (vals w ++ ov) call.args)

  abbrev pub OwnFits : Way Both → (OpDecl → Bool) → List Val → Type 0
  OwnFits w test ov = (o : ℕ) (decl : OpDecl) → slice_get p.ops o ≡ Some decl → passes (terms w) test decl ≡ true → starts_fit p decl.args (vals w ++ ov) ≡ true

  pub record Such (w : Way Both) (es : List Elem) (n : ℕ) (test : OpDecl → Bool) (own : List Tm) (ov : List Val) (kept : Fms) (want : Call → Bool) : Type 0 where
    pub way : WayFits p w
    pub read : KeysRead M base w
    pub count : n ≡ length es
    pub own_read : map (value M base) own ≡ map elem_of ov
    pub own_fits : OwnFits w test ov
    pub kept_is : Kept w es kept
    pub wanted : Wanted w test ov want

  typed-as : (call : Call) (c o : ℕ) (decl : OpDecl) → slice_get h c ≡ Some call → slice_get p.ops o ≡ Some decl → call.op ≡ o → all_fit p decl.args call.args ≡ true
  typed-as call c o decl ec eo e =
      let t = typed c call ec in
      let same : t.0 ≡ decl = same_Some t.0 decl (sym t.1 ∙ (ap (slice_get p.ops) e ∙ eo)) in
      ap (λ (d : OpDecl). all_fit p d.args call.args) (sym same) ∙ t.2

  -- the literal on the operation
  such-call : (w : Way Both) (es : List Elem) (n : ℕ) (test : OpDecl → Bool) (own : List Tm) (ov : List Val) (kept : Fms) (want : Call → Bool) → Such w es n test own ov kept want
      → (d : ℕ) (call : Call) → slice_get h d ≡ Some call → (o : ℕ) (decl : OpDecl) → slice_get p.ops o ≡ Some decl → passes (terms w) test decl ≡ true
      → Holds M (Point d ∷ es ++ base) (is_call_of p o decl (map (raised (suc n)) (keys (terms w) ++ own)) (Var 0)) ↔ ((call.op ≡ o) × Starts (vals w ++ ov) call.args)
  such-call w es n test own ov kept want s d call ec o decl eo t =
      call-of p M h fits (Point d ∷ es ++ base) (Var 0) d call o decl (map (raised (suc n)) (keys (terms w) ++ own)) (vals w ++ ov) refl ec eo
      (typed-as call d o decl ec eo) (s.own_fits o decl eo t)
      (raised-list (keys (terms w) ++ own) M (Point d ∷ es) base (suc n) (ap suc s.count)
      ∙ (map-both (value M base) (keys (terms w)) own ∙ (ap₂ (λ xs ys. xs ++ ys) (keys-read w M base s.read) s.own_read ∙ sym (map-both elem_of (vals w) ov))))

  -- such a call makes the formulas of its operation true
  pub to-counting : (w : Way Both) (es : List Elem) (n : ℕ) (test : OpDecl → Bool) (own : List Tm) (ov : List Val) (kept : Fms) (want : Call → Bool) → Such w es n test own ov kept want
      → (d : ℕ) → d < length h → among h (counted p.ops h visible w) want d ≡ true
      → (o : ℕ) × (decl : OpDecl) × (slice_get p.ops o ≡ Some decl) × (passes (terms w) test decl ≡ true)
      × AllHold M (Point d ∷ es ++ base) (counting p view (suc n) (terms w) o decl own (Var 0) kept)
  to-counting w es n test own ov kept want s d lt a =
      let call = call-at h d lt in
      let t = typed d call.0 call.1 in
      let b = and_parts (counted p.ops h visible w d) (call_is h want d) a in
      let k = (s.kept_is d lt).0 b.0 in
      let m = (matches-is p w s.way call.0 t.0 t.1).0 (sym (call-there h _ d call.0 call.1) ∙ k.1) in
      let x = (s.wanted call.0 t.0 t.1 m.0 m.1).0 (sym (call-there h _ d call.0 call.1) ∙ b.1) in
      let g : passes (terms w) test t.0 ≡ true = and_from (goes (terms w) t.0) (test t.0) m.0 x.0 in
      let is = seen.visible_calls d (fits.calls d lt) in
      (call.0.op, t.0, t.1, g, (is ∙ and_from (visible d) _ k.0 (lt-ltb d (length h) lt), ((such-call w es n test own ov kept want s d call.0 call.1 call.0.op t.0 t.1 g).1 (refl, x.1), k.2)))

  -- and where those of one are true it is such a call
  pub from-counting : (w : Way Both) (es : List Elem) (n : ℕ) (test : OpDecl → Bool) (own : List Tm) (ov : List Val) (kept : Fms) (want : Call → Bool) → Such w es n test own ov kept want
      → (d : ℕ) → Is M call_sort (Point d) → (o : ℕ) (decl : OpDecl) → slice_get p.ops o ≡ Some decl → passes (terms w) test decl ≡ true
      → AllHold M (Point d ∷ es ++ base) (counting p view (suc n) (terms w) o decl own (Var 0) kept)
      → (d < length h) × (among h (counted p.ops h visible w) want d ≡ true)
  from-counting w es n test own ov kept want s d id o decl eo t a =
      let v = and_parts (visible d) (nat_lt d (length h)) (sym (seen.visible_calls d id) ∙ a.0) in
      let lt : d < length h = ltb-true d (length h) v.1 in
      let call = call-at h d lt in
      let x = (such-call w es n test own ov kept want s d call.0 call.1 o decl eo t).0 a.1.0 in
      let eo2 : slice_get p.ops call.0.op ≡ Some decl = ap (slice_get p.ops) x.0 ∙ eo in
      let g = and_parts (goes (terms w) decl) (test decl) t in
      let st = starts-front (vals w) ov call.0.args x.1 in
      let m = (matches-is p w s.way call.0 decl eo2).1 (g.0, st) in (
        lt,
        and_from (counted p.ops h visible w d) (call_is h want d)
            ((s.kept_is d lt).1 (v.0, call-there h _ d call.0 call.1 ∙ m, a.1.1))
            (call-there h _ d call.0 call.1 ∙ (s.wanted call.0 decl eo2 g.0 st).1 (g.1, x.1)),
      )

  -- # Each such call, and some

  pub each-such : (w : Way Both) (es : List Elem) (n : ℕ) (test : OpDecl → Bool) (own : List Tm) (ov : List Val) (kept rest : Fms) (want : Call → Bool) → Such w es n test own ov kept want
      → AllHold M (es ++ base) (each_such p view n (terms w) test own kept rest)
      ↔ ((d : ℕ) → d < length h → among h (counted p.ops h visible w) want d ≡ true → ¬ NoneHolds M (Point d ∷ es ++ base) rest)
  each-such w es n test own ov kept rest want s = (
    (λ k d lt a r.
        let c = to-counting w es n test own ov kept want s d lt a in
        let f = (all-ops (passes (terms w) test) _ p.ops M (es ++ base)).0 k c.0 c.1 c.2 c.3 (Point d) (fits.calls d lt) in
        f ((joined-none (duals (counting p view (suc n) (terms w) c.0 c.1 own (Var 0) kept)) rest M (Point d ∷ es ++ base)).1
        ((duals_law (counting p view (suc n) (terms w) c.0 c.1 own (Var 0) kept) M (Point d ∷ es ++ base)).0.1 c.4, r))),
    λ k. (all-ops (passes (terms w) test) _ p.ops M (es ++ base)).1 (λ o decl eo t v i none.
        let c = fits.points v i in
        let parts = counting p view (suc n) (terms w) o decl own (Var 0) kept in
        let id : Is M call_sort (Point c.0) = subst (λ e. Is M call_sort e) c.1 i in
        let f = (joined-none (duals parts) rest M (Point c.0 ∷ es ++ base)).0 (subst (λ e. NoneHolds M (e ∷ es ++ base) (joined (duals parts) rest)) c.1 none) in
        let a = from-counting w es n test own ov kept want s c.0 id o decl eo t ((duals_law parts M (Point c.0 ∷ es ++ base)).0.0 f.0) in
        k c.0 a.0 a.1 f.1),
  )

  pub some-such : (w : Way Both) (es : List Elem) (n : ℕ) (test : OpDecl → Bool) (own : List Tm) (ov : List Val) (kept rest : Fms) (want : Call → Bool) → Such w es n test own ov kept want
      → Holds M (es ++ base) (some_such p view n (terms w) test own kept rest)
      ↔ (¬ ((d : ℕ) → d < length h → among h (counted p.ops h visible w) want d ≡ true → ¬ AllHold M (Point d ∷ es ++ base) rest))
  some-such w es n test own ov kept rest want s = (
    (λ k none. (any-of _ M (es ++ base)).0 k ((no-ops (passes (terms w) test) _ p.ops M (es ++ base)).1 (λ o decl eo t some.
        some (λ v i all.
        let c = fits.points v i in
        let parts = counting p view (suc n) (terms w) o decl own (Var 0) kept in
        let id : Is M call_sort (Point c.0) = subst (λ e. Is M call_sort e) c.1 i in
        let f = (joined-all parts rest M (Point c.0 ∷ es ++ base)).0 (subst (λ e. AllHold M (e ∷ es ++ base) (joined parts rest)) c.1 all) in
        let a = from-counting w es n test own ov kept want s c.0 id o decl eo t f.0 in
        none c.0 a.0 a.1 f.1)))),
    λ k. (any-of _ M (es ++ base)).1 (λ none. k (λ d lt a r.
        let c = to-counting w es n test own ov kept want s d lt a in
        let parts = counting p view (suc n) (terms w) c.0 c.1 own (Var 0) kept in
        (no-ops (passes (terms w) test) _ p.ops M (es ++ base)).0 none c.0 c.1 c.2 c.3
        (λ each. each (Point d) (fits.calls d lt) ((joined-all parts rest M (Point d ∷ es ++ base)).1 (c.4, r))))),
  )
