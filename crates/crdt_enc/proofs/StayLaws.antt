-- The calls that count at the end of a way, as formulas say it.
use Rattle.std.proofs.Common.{◌≡◌, ℕ, zero, suc, ◌<◌, nat_eq, List, [], ◌∷◌, ◌++◌, length, slice_get, Bool, true, false, not, ◌&&◌, ◌↔◌, Some, refl, sym, ap, ap₂, ◌∙◌, true≢false, inl, inr, arith}
use Rattle.std.proofs.lemmas.Bool.{or_left, or_right, or_from, cases_eq}
use Rattle.rp_value.specs.Values.{Val}
use Rattle.rp_lang.specs.declared.op.OpDecl.{OpDecl}
use Rattle.rp_lang.specs.declared.op.OpKind.{OpKind}
use Rattle.rp_lang.specs.declared.op.OpKind.TheVariants as op
use Rattle.rp_lang.specs.Programs.{Prog}
use Rattle.crdt_defs.specs.Calls.{Call}
use Rattle.crdt_defs.specs.declared.asked.Winner.{Winner}
use Rattle.crdt_defs.specs.declared.asked.Winner.TheVariants.{Update, Delete}
use Rattle.crdt_defs.specs.SameValues.{value_is}
use Rattle.crdt_defs.specs.Counting.{any_below}
use Rattle.crdt_defs.specs.Histories.{call_is, before}
use Rattle.crdt_defs.specs.Doing.{op_is, on_root, goes_to_field, goes_to_key, deletes, does, keys_in, same_kind}
use Rattle.crdt_defs.specs.Meaning.{among, loses}
use Rattle.rp_logic.specs.Terms.{Tm, Var}
use Rattle.rp_logic.specs.Formulas.{Fm}
use Rattle.rp_logic.specs.Elements.{Elem, Point}
use Rattle.rp_logic.specs.Filling.{raised}
use Rattle.rp_logic.specs.Truth.{Meaning, Holds, AllHold, NoneHolds, value}
use Rattle.rp_logic.proofs.DualLaws.{stable}
use Rattle.rp_logic.proofs.FillingLaws.{raised-value}
use Rattle.std.proofs.lemmas.Bool.{and_parts, and_from}
use Rattle.rp_symbols.specs.Numbers.{before_rel}
use Rattle.crdt_enc.specs.Ways.{Way, Root, AtField, AtKey, depth, goes}
use Rattle.crdt_enc.specs.Builders.{one_fm}
use Rattle.crdt_enc.specs.Builders.{is_before}
use Rattle.crdt_enc.specs.QueryFormulas.{passes, is_delete, is_kind, wins, stays, each_such}
use Rattle.crdt_enc.specs.FitsParts.{FitsCalls, FitsView, holds_of_two}
use Rattle.reshape.proofs.FlattenLaws.{joined-all}
use Rattle.crdt_enc.proofs.Starts.{Starts, starts_fit, starts-more, starts-fit-more}
use Rattle.crdt_enc.specs.means.Counting.{Both, terms, vals, counted, matches, KeysRead, OpsFit, WayFits, CallsFit}
use Rattle.crdt_enc.proofs.WayLaws.{op-is, value-there, call-and, way-starts-fit}
use Rattle.crdt_enc.proofs.CountLaws.{Such, Wanted, each-such}

-- # Tests below a bound

pub any-found : (f : ℕ → Bool) (n c : ℕ) → c < n → f c ≡ true → any_below f n ≡ true
any-found f zero c lt e = absurd (omega arith)
any-found f (suc n) c lt e =
    elim (cases_eq c n) [
      | inl same ↦ or_left (f n) (any_below f n) (ap f (sym same) ∙ e)
      | inr other ↦ or_right (f n) (any_below f n) (any-found f n c (omega arith) e)
    ]

pub none-below : (f : ℕ → Bool) (n : ℕ) → ((k : ℕ) → k < n → f k ≡ false) → any_below f n ≡ false
none-below f zero h = refl
none-below f (suc n) h = or_from (f n) (any_below f n) (h n (omega arith)) (none-below f n (λ k lt. h k (omega arith)))

pub is-false : (b : Bool) → ¬ (b ≡ true) → b ≡ false
is-false true h = absurd (h refl)
is-false false h = refl

pub is-true : (b : Bool) → ¬ (b ≡ false) → b ≡ true
is-true true h = refl
is-true false h = absurd (h refl)

pub not-both : (b : Bool) → b ≡ true → b ≡ false → ⊥
not-both b t f = true≢false (sym t ∙ f)

pub some-below : (f : ℕ → Bool) (n : ℕ) → (any_below f n ≡ true) ↔ (¬ ((k : ℕ) → k < n → ¬ (f k ≡ true)))
some-below f n = (
  (λ h none. not-both _ h (none-below f n (λ k lt. is-false (f k) (none k lt)))),
  λ h. is-true _ (λ e. h (λ k lt t. not-both _ (any-found f n k lt t) e)),
)

pub no-below : (f : ℕ → Bool) (n : ℕ) → (not (any_below f n) ≡ true) ↔ ((k : ℕ) → k < n → f k ≡ false)
no-below f n = (
  (λ h k lt. is-false (f k) (λ t. true≢false (sym h ∙ ap not (any-found f n k lt t)))),
  λ h. ap not (none-below f n h),
)

pub not-and : (a b : Bool) → (a && b ≡ false) ↔ (a ≡ true → b ≡ false)
not-and true b = ((λ h e. h), λ h. h refl)
not-and false b = ((λ h e. absurd (true≢false (sym e))), λ h. refl)

-- # What is wanted of a call

own-is : (p : Prog) (M : Meaning) (h : List Call) (base : List Elem) (w : Way Both) (kind : OpKind) (x : Val) (test : OpDecl → Bool)
    → OpsFit p (passes (terms w) test) (length (vals w)) (λ decl. keys_in decl.path) x → (call : Call) (o : ℕ) (decl : OpDecl) → slice_get p.ops o ≡ Some decl → passes (terms w) test decl ≡ true
    → Starts (vals w) call.args → (value_is x (slice_get call.args (keys_in decl.path)) ≡ true) ↔ Starts (vals w ++ x ∷ []) call.args
own-is p M h base w kind x test f call o decl eo t st =
    let place = (f o decl eo t).placed in
    let v = value-there x (slice_get call.args (keys_in decl.path)) in
    let m = starts-more (vals w) call.args x in (
      (λ e. m.1 (st, ap (slice_get call.args) (sym place) ∙ v.0 e)),
      λ s. v.1 (ap (slice_get call.args) place ∙ (m.0 s).1),
    )

pub own-fits : (p : Prog) (w : Way Both) (x : Val) (test : OpDecl → Bool) → WayFits p w → OpsFit p (passes (terms w) test) (length (vals w)) (λ decl. keys_in decl.path) x
    → (o : ℕ) (decl : OpDecl) → slice_get p.ops o ≡ Some decl → passes (terms w) test decl ≡ true → starts_fit p decl.args (vals w ++ x ∷ []) ≡ true
own-fits p w x test way f o decl eo t =
    let k = f o decl eo t in
    starts-fit-more p decl.args (vals w) k.ty x (way-starts-fit p w way o decl eo (and_parts (goes (terms w) decl) (test decl) t).0) k.is k.fit

module _ (p : Prog) (M : Meaning) (h : List Call) (view : ℕ) (visible : ℕ → Bool) (base : List Elem) (fits : FitsCalls p M h) (seen : FitsView M h view visible) (typed : CallsFit p h) where
  pub does-wanted : (w : Way Both) (kind : OpKind) (x : Val) → OpsFit p (passes (terms w) (is_kind kind)) (length (vals w)) (λ decl. keys_in decl.path) x
      → Wanted p M h view visible base fits seen typed w (is_kind kind) (x ∷ []) (does p.ops kind x)
  does-wanted w kind x f call decl e g st =
      let o = op-is p.ops (λ (d : OpDecl). same_kind d.kind kind && value_is x (slice_get call.args (keys_in d.path))) call decl e in (
        (λ k.
            let b = and_parts (same_kind decl.kind kind) _ (sym o ∙ k) in
            (b.0, (own-is p M h base w kind x (is_kind kind) f call call.op decl e (and_from (goes (terms w) decl) _ g b.0) st).0 b.1)),
        λ k. o ∙ and_from (same_kind decl.kind kind) _ k.0 ((own-is p M h base w kind x (is_kind kind) f call call.op decl e (and_from (goes (terms w) decl) _ g k.0) st).1 k.1),
      )

  pub deletes-wanted : (w : Way Both) (steps : ℕ) (x : Val) → OpsFit p (passes (terms w) (is_delete steps)) (length (vals w)) (λ decl. keys_in decl.path) x
      → Wanted p M h view visible base fits seen typed w (is_delete steps) (x ∷ []) (deletes p.ops steps x)
  deletes-wanted w steps x f call decl e g st =
      let l = op-is p.ops (λ (d : OpDecl). nat_eq (length d.path) steps) call decl e in
      let o = op-is p.ops (λ (d : OpDecl). same_kind d.kind op.Delete && value_is x (slice_get call.args (keys_in d.path))) call decl e in (
        (λ k.
            let a = and_parts (op_is p.ops (λ (d : OpDecl). nat_eq (length d.path) steps) call) (does p.ops op.Delete x call) k in
            let b = and_parts (same_kind decl.kind op.Delete) _ (sym o ∙ a.1) in
            let t : is_delete steps decl ≡ true = and_from (nat_eq (length decl.path) steps) _ (sym l ∙ a.0) b.0 in
            (t, (own-is p M h base w op.Delete x (is_delete steps) f call call.op decl e (and_from (goes (terms w) decl) _ g t) st).0 b.1)),
        λ k.
            let t = and_parts (nat_eq (length decl.path) steps) (same_kind decl.kind op.Delete) k.0 in
            and_from (op_is p.ops (λ (d : OpDecl). nat_eq (length d.path) steps) call) _ (l ∙ t.0)
            (o ∙ and_from (same_kind decl.kind op.Delete) _ t.1 ((own-is p M h base w op.Delete x (is_delete steps) f call call.op decl e (and_from (goes (terms w) decl) _ g k.0) st).1 k.1)),
      )

  -- # One literal

  pub one-none : (f : Fm) (vars : List Elem) → (¬ NoneHolds M vars (one_fm f)) ↔ Holds M vars f
  one-none f vars = ((λ k. stable f M vars (λ n. k (n, tt))), λ k n. n.0 k)

  pub before-is : (c d : ℕ) → c < length h → d < length h → (sign : Bool) (t u : Tm) (vars : List Elem) → value M vars t ≡ Point c → value M vars u ≡ Point d
      → Holds M vars (is_before sign t u) ↔ (before h c d ≡ sign)
  before-is c d ltc ltd sign t u vars et eu =
      let e = ap₂ (λ x y. holds_of_two M before_rel x y) et eu ∙ fits.before c d ltc ltd in ((λ k. sym e ∙ k), λ k. e ∙ k)

  wins-is : (winner : Winner) (c d : ℕ) → c < length h → d < length h → (t : Tm) (es : List Elem) → value M (es ++ base) t ≡ Point c
      → Holds M (Point d ∷ es ++ base) (wins winner (raised 1 t)) ↔ (loses h winner c d ≡ false)
  wins-is Update c d ltc ltd t es et =
      before-is c d ltc ltd false (raised 1 t) (Var 0) (Point d ∷ es ++ base) (raised-value t M (Point d ∷ []) (es ++ base) 1 refl ∙ et) refl
  wins-is Delete c d ltc ltd t es et =
      let r = before-is d c ltd ltc true (Var 0) (raised 1 t) (Point d ∷ es ++ base) refl (raised-value t M (Point d ∷ []) (es ++ base) 1 refl ∙ et) in
      ((λ k. ap not (r.0 k)), λ k. r.1 (is-true _ (λ e. true≢false (sym (ap not e) ∙ k))))

  -- # The law of the way

  pub stays-is : (w : Way Both) → WayFits p w → KeysRead M base w → (es : List Elem) (n : ℕ) → n ≡ length es → (t : Tm) (c : ℕ) → value M (es ++ base) t ≡ Point c → c < length h
      → (counted p.ops h visible w c ≡ true) ↔ ((visible c ≡ true) × (call_is h (matches p.ops w) c ≡ true) × AllHold M (es ++ base) (stays p view n (terms w) t))
  stays-is (Root r) f k es n en t c et lt =
      ((λ a. let b = and_parts (visible c) (call_is h (on_root p.ops r) c) a in (b.0, b.1, tt)), λ a. and_from (visible c) _ a.0 a.1)
  stays-is (AtField m w) f k es n en t c et lt =
      let r = stays-is w f k es n en t c et lt in
      let s = call-and h (matches p.ops w) (goes_to_field p.ops (depth (terms w)) m) c in (
        (λ a. let b = and_parts (counted p.ops h visible w c) _ a in let x = r.0 b.0 in (x.0, s ∙ and_from _ _ x.1 b.1, x.2)),
        λ a. let b = and_parts _ _ (sym s ∙ a.1) in and_from (counted p.ops h visible w c) _ (r.1 (a.0, b.0, a.2)) b.1,
      )
  stays-is (AtKey winner k w) f kr es n en t c et lt =
      let r = stays-is w f.0 kr.0 es n en t c et lt in
      let s = call-and h (matches p.ops w) (goes_to_key p.ops (depth (terms w)) k.val) c in
      let steps = depth (terms w) in
      let such : Such p M h view visible base fits seen typed w es n (is_delete steps) (k.term ∷ []) (k.val ∷ []) (stays p view (suc n) (terms w) (Var 0)) (deletes p.ops steps k.val) =
      record {
        way = f.0;
        read = kr.0;
        count = en;
        own_read = ap (λ x. x ∷ []) kr.1;
        own_fits = own-fits p w k.val (is_delete steps) f.0 f.2;
        kept_is = λ d ltd. stays-is w f.0 kr.0 (Point d ∷ es) (suc n) (ap suc en) (Var 0) d refl ltd;
        wanted = deletes-wanted w steps k.val f.2;
      } in
      let each = each-such p M h view visible base fits seen typed w es n (is_delete steps) (k.term ∷ []) (k.val ∷ []) (stays p view (suc n) (terms w) (Var 0))
      (one_fm (wins winner (raised 1 t))) (deletes p.ops steps k.val) such in
      let fol = joined-all (stays p view n (terms w) t) (each_such p view n (terms w) (is_delete steps) (k.term ∷ []) (stays p view (suc n) (terms w) (Var 0)) (one_fm (wins winner (raised 1 t)))) M (es ++ base) in
      let none = no-below (λ d. among h (counted p.ops h visible w) (deletes p.ops steps k.val) d && loses h winner c d) (length h) in (
        (λ a.
            let b = and_parts (among h (counted p.ops h visible w) (goes_to_key p.ops steps k.val) c) _ a in
            let g = and_parts (counted p.ops h visible w c) _ b.0 in
            let x = r.0 g.0 in (
              x.0,
              s ∙ and_from _ _ x.1 g.1,
              fol.1 (
                x.2,
                each.1 (λ d ltd m. (one-none (wins winner (raised 1 t)) (Point d ∷ es ++ base)).1
                    ((wins-is winner c d lt ltd t es et).1 ((not-and _ _).0 (none.0 b.1 d ltd) m))),
              ),
            )),
        λ a.
            let b = and_parts _ _ (sym s ∙ a.1) in
            let y = fol.0 a.2 in
            and_from (among h (counted p.ops h visible w) (goes_to_key p.ops steps k.val) c) _ (and_from (counted p.ops h visible w c) _ (r.1 (a.0, b.0, y.0)) b.1)
            (none.1 (λ d ltd. (not-and _ _).1 (λ m. (wins-is winner c d lt ltd t es et).0
            ((one-none (wins winner (raised 1 t)) (Point d ∷ es ++ base)).0 (each.0 y.1 d ltd m))))),
      )
