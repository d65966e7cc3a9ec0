-- What is asked of the calls that count: the formula is true exactly where the answer is.
use Rattle.std.proofs.Common.{◌≡◌, ℕ, suc, ◌<◌, List, [], ◌∷◌, length, slice_get, Bool, true, false, not, ◌&&◌, ◌↔◌, Some, refl, sym, ap, ◌∙◌, subst, true≢false}
use Rattle.std.proofs.lemmas.List.{append-nil}
use Rattle.rp_value.specs.Values.{Val}
use Rattle.rp_lang.specs.declared.op.OpDecl.{OpDecl}
use Rattle.rp_lang.specs.declared.op.OpKind.{OpKind}
use Rattle.rp_lang.specs.declared.op.OpKind.TheVariants.{Add, Remove, Assign}
use Rattle.rp_lang.specs.Programs.{Prog}
use Rattle.crdt_defs.specs.Calls.{Call}
use Rattle.crdt_defs.specs.Counting.{any_below}
use Rattle.crdt_defs.specs.Histories.{call_is, before}
use Rattle.crdt_defs.specs.Histories as hist
use Rattle.crdt_defs.specs.Doing.{does, is_of, keys_in}
use Rattle.crdt_defs.specs.Meaning.{among, is_before_one, one_stays, contains_add_wins, contains_remove_wins, contains_value}
use Rattle.rp_logic.specs.Terms.{Tm, Var}
use Rattle.rp_logic.specs.Formulas.{Fms, And, no_fm, also_fm}
use Rattle.rp_logic.specs.Elements.{Elem, Point}
use Rattle.rp_logic.specs.Truth.{Meaning, Holds, value}
use Rattle.std.proofs.lemmas.Bool.{and_parts, and_from}
use Rattle.crdt_enc.specs.Ways.{Way, goes}
use Rattle.crdt_enc.specs.Elements.{elem_of}
use Rattle.crdt_enc.specs.Builders.{one_fm}
use Rattle.crdt_enc.specs.Builders.{all_of, is_before}
use Rattle.crdt_enc.specs.QueryFormulas.{passes, is_kind, stays, some_such, each_such, some_call, each_call}
use Rattle.crdt_enc.specs.FitsParts.{FitsCalls, FitsView}
use Rattle.crdt_enc.proofs.BuilderLaws.{all-of}
use Rattle.crdt_enc.proofs.Starts.{Starts, starts_fit}
use Rattle.crdt_enc.specs.means.Counting.{Both, terms, vals, counted, KeysRead, OpsFit, WayFits, CallsFit}
use Rattle.crdt_enc.proofs.WayLaws.{op-is, way-starts-fit, call-there}
use Rattle.crdt_enc.proofs.CountLaws.{Such, each-such, some-such, call-at}
use Rattle.crdt_enc.proofs.StayLaws.{some-below, no-below, not-and, is-true, own-fits, does-wanted, one-none, before-is, stays-is}

-- operations of the kind that end this way have one argument behind the keys, which may be x
abbrev pub Leaf : Prog → Way Both → OpKind → Val → Type 0
Leaf p w kind x = OpsFit p (passes (terms w) (is_kind kind)) (length (vals w)) (λ decl. keys_in decl.path) x

module _ (p : Prog) (M : Meaning) (h : List Call) (view : ℕ) (visible : ℕ → Bool) (base : List Elem) (fits : FitsCalls p M h) (seen : FitsView M h view visible) (typed : CallsFit p h) where
  pub such-kind : (w : Way Both) → WayFits p w → KeysRead M base w → (es : List Elem) (n : ℕ) → n ≡ length es → (kind : OpKind) (x : Both) → value M base x.term ≡ elem_of x.val → Leaf p w kind x.val
      → Such p M h view visible base fits seen typed w es n (is_kind kind) (x.term ∷ []) (x.val ∷ []) (stays p view (suc n) (terms w) (Var 0)) (does p.ops kind x.val)
  such-kind w f k es n en kind x ex leaf = record {
    way = f;
    read = k;
    count = en;
    own_read = ap (λ y. y ∷ []) ex;
    own_fits = own-fits p w x.val (is_kind kind) f leaf;
    kept_is = λ d lt. stays-is p M h view visible base fits seen typed w f k (Point d ∷ es) (suc n) (ap suc en) (Var 0) d refl lt;
    wanted = does-wanted p M h view visible base fits seen typed w kind x.val leaf;
  }

  pub such-any : (w : Way Both) → WayFits p w → KeysRead M base w → (es : List Elem) (n : ℕ) → n ≡ length es → (test : OpDecl → Bool) (want : Call → Bool)
      → ((call : Call) (decl : OpDecl) → slice_get p.ops call.op ≡ Some decl → want call ≡ test decl)
      → Such p M h view visible base fits seen typed w es n test [] [] (stays p view (suc n) (terms w) (Var 0)) want
  such-any w f k es n en test want same = record {
    way = f;
    read = k;
    count = en;
    own_read = refl;
    own_fits = λ o decl e t. ap (starts_fit p decl.args) (append-nil (vals w)) ∙ way-starts-fit p w f o decl e (and_parts (goes (terms w) decl) (test decl) t).0;
    kept_is = λ d lt. stays-is p M h view visible base fits seen typed w f k (Point d ∷ es) (suc n) (ap suc en) (Var 0) d refl lt;
    wanted = λ call decl e g st. (
      (λ t. (sym (same call decl e) ∙ t, subst (λ xs. Starts xs call.args) (sym (append-nil (vals w))) st)),
      λ t. same call decl e ∙ t.0,
    );
  }

  -- # Some call is before none

  pub one-stays : (w : Way Both) (test test2 : OpDecl → Bool) (own own2 : List Tm) (ov ov2 : List Val) (kept kept2 : Fms) (want want2 : Call → Bool)
      → Such p M h view visible base fits seen typed w [] 0 test own ov kept want → ((c : ℕ) → Such p M h view visible base fits seen typed w (Point c ∷ []) 1 test2 own2 ov2 kept2 want2)
      → Holds M base (some_such p view 0 (terms w) test own kept (one_fm (all_of (each_such p view 1 (terms w) test2 own2 kept2 (one_fm (is_before false (Var 1) (Var 0)))))))
      ↔ (one_stays h (among h (counted p.ops h visible w) want) (among h (counted p.ops h visible w) want2) ≡ true)
  one-stays w test test2 own own2 ov ov2 kept kept2 want want2 s s2 =
      let these = among h (counted p.ops h visible w) want in
      let those = among h (counted p.ops h visible w) want2 in
      let last = one_fm (is_before false (Var 1) (Var 0)) in
      let inner = each_such p view 1 (terms w) test2 own2 kept2 last in
      let some = some-such p M h view visible base fits seen typed w [] 0 test own ov kept (one_fm (all_of inner)) want s in
      let each = λ (c : ℕ). each-such p M h view visible base fits seen typed w (Point c ∷ []) 1 test2 own2 ov2 kept2 last want2 (s2 c) in
      let found = some-below (λ c. these c && not (is_before_one h those c)) (length h) in
      let none = λ (c : ℕ). no-below (λ d. those d && before h c d) (length h) in
      let lit = λ (c d : ℕ) (ltc : c < length h) (ltd : d < length h).
      before-is p M h view visible base fits seen typed c d ltc ltd false (Var 1) (Var 0) (Point d ∷ Point c ∷ base) refl refl in
      let one = λ (c d : ℕ). one-none p M h view visible base fits seen typed (is_before false (Var 1) (Var 0)) (Point d ∷ Point c ∷ base) in (
        (λ k. found.1 (λ no-one. some.0 k (λ c lt a r.
            no-one c lt (and_from (these c) _ a ((none c).1 (λ d ltd. (not-and _ _).1 (λ m.
            (lit c d lt ltd).0 ((one c d).0 ((each c).0 ((all-of inner M (Point c ∷ base)).0 r.0) d ltd m))))))))),
        λ k. some.1 (λ no-one. found.0 k (λ c lt a.
            let b = and_parts (these c) (not (is_before_one h those c)) a in
            no-one c lt b.0 (
              (all-of inner M (Point c ∷ base)).1 ((each c).1 (λ d ltd m.
                  (one c d).1 ((lit c d lt ltd).1 ((not-and _ _).0 ((none c).0 b.1 d ltd) m)))),
              tt,
            ))),
      )

  pub add-wins : (w : Way Both) → WayFits p w → KeysRead M base w → (x : Both) → value M base x.term ≡ elem_of x.val → Leaf p w Add x.val → Leaf p w Remove x.val
      → Holds M base (some_call p view 0 (terms w) (is_kind Add) (x.term ∷ []) (one_fm (each_call p view 1 (terms w) (is_kind Remove) (x.term ∷ []) (one_fm (is_before false (Var 1) (Var 0))))))
      ↔ (contains_add_wins p.ops h (counted p.ops h visible w) x.val ≡ true)
  add-wins w f k x ex a r =
      one-stays w (is_kind Add) (is_kind Remove) (x.term ∷ []) (x.term ∷ []) (x.val ∷ []) (x.val ∷ []) (stays p view 1 (terms w) (Var 0)) (stays p view 2 (terms w) (Var 0))
      (does p.ops Add x.val) (does p.ops Remove x.val) (such-kind w f k [] 0 refl Add x ex a) (λ c. such-kind w f k (Point c ∷ []) 1 refl Remove x ex r)

  pub many-values : (w : Way Both) → WayFits p w → KeysRead M base w → (x : Both) → value M base x.term ≡ elem_of x.val → Leaf p w Assign x.val
      → Holds M base (some_call p view 0 (terms w) (is_kind Assign) (x.term ∷ []) (one_fm (each_call p view 1 (terms w) (is_kind Assign) [] (one_fm (is_before false (Var 1) (Var 0))))))
      ↔ (contains_value p.ops h (counted p.ops h visible w) x.val ≡ true)
  many-values w f k x ex a =
      one-stays w (is_kind Assign) (is_kind Assign) (x.term ∷ []) [] (x.val ∷ []) [] (stays p view 1 (terms w) (Var 0)) (stays p view 2 (terms w) (Var 0))
      (does p.ops Assign x.val) (is_of p.ops Assign) (such-kind w f k [] 0 refl Assign x ex a)
      (λ c. such-any w f k (Point c ∷ []) 1 refl (is_kind Assign) (is_of p.ops Assign) (λ call decl e. op-is p.ops _ call decl e))

  pub remove-wins : (w : Way Both) → WayFits p w → KeysRead M base w → (x : Both) → value M base x.term ≡ elem_of x.val → Leaf p w Add x.val → Leaf p w Remove x.val
      → Holds M base (And (also_fm (some_call p view 0 (terms w) (is_kind Add) (x.term ∷ []) no_fm) (one_fm (each_call p view 0 (terms w) (is_kind Remove) (x.term ∷ [])
      (one_fm (some_call p view 1 (terms w) (is_kind Add) (x.term ∷ []) (one_fm (is_before true (Var 1) (Var 0)))))))))
      ↔ (contains_remove_wins p.ops h (counted p.ops h visible w) x.val ≡ true)
  remove-wins w f k x ex a r =
      let adds = among h (counted p.ops h visible w) (does p.ops Add x.val) in
      let removes = among h (counted p.ops h visible w) (does p.ops Remove x.val) in
      let last = one_fm (is_before true (Var 1) (Var 0)) in
      let inner = some_call p view 1 (terms w) (is_kind Add) (x.term ∷ []) last in
      let kept = stays p view 1 (terms w) (Var 0) in
      let first = some-such p M h view visible base fits seen typed w [] 0 (is_kind Add) (x.term ∷ []) (x.val ∷ []) kept no_fm (does p.ops Add x.val) (such-kind w f k [] 0 refl Add x ex a) in
      let each = each-such p M h view visible base fits seen typed w [] 0 (is_kind Remove) (x.term ∷ []) (x.val ∷ []) kept (one_fm inner) (does p.ops Remove x.val) (such-kind w f k [] 0 refl Remove x ex r) in
      let some = λ (d : ℕ). some-such p M h view visible base fits seen typed w (Point d ∷ []) 1 (is_kind Add) (x.term ∷ []) (x.val ∷ []) (stays p view 2 (terms w) (Var 0)) last (does p.ops Add x.val)
      (such-kind w f k (Point d ∷ []) 1 refl Add x ex a) in
      let all = all-of (each_such p view 0 (terms w) (is_kind Remove) (x.term ∷ []) kept (one_fm inner)) M base in
      let one = λ (d : ℕ). one-none p M h view visible base fits seen typed inner (Point d ∷ base) in
      let lit = λ (d c : ℕ) (ltd : d < length h) (ltc : c < length h).
      before-is p M h view visible base fits seen typed d c ltd ltc true (Var 1) (Var 0) (Point c ∷ Point d ∷ base) refl refl in
      let found = some-below adds (length h) in
      let none = no-below (λ d. removes d && not (is_before_one h adds d)) (length h) in
      let later = λ (d : ℕ). some-below (λ c. adds c && before h d c) (length h) in (
        (λ t. and_from (any_below adds (length h)) _ (found.1 (λ z. first.0 t.0 (λ c lt m u. z c lt m)))
            (none.1 (λ d ltd. (not-and _ _).1 (λ m. ap not ((later d).1 (λ z.
            (some d).0 ((one d).0 (each.0 (all.0 t.1.0) d ltd m)) (λ c ltc n u. z c ltc (and_from (adds c) _ n ((lit d c ltd ltc).0 u.0))))))))),
        λ t.
            let b = and_parts (any_below adds (length h)) _ t in (
              first.1 (λ z. found.0 b.0 (λ c lt m. z c lt m tt)),
              (
                all.1 (each.1 (λ d ltd m. (one d).1 ((some d).1 (λ z.
                    (later d).0 (is-true _ (λ e. true≢false (ap not (sym e) ∙ (not-and _ _).0 (none.0 b.1 d ltd) m))) (λ c ltc n.
                    let q = and_parts (adds c) (before h d c) n in z c ltc q.0 ((lit d c ltd ltc).1 q.1, tt)))))),
                tt,
              ),
            ),
      )

  -- # Some call counts

  pub some-counts : (w : Way Both) → WayFits p w → KeysRead M base w
      → Holds M base (some_call p view 0 (terms w) (λ decl. true) [] no_fm) ↔ (hist.some_call h (counted p.ops h visible w) ≡ true)
  some-counts w f k =
      let first = some-such p M h view visible base fits seen typed w [] 0 (λ decl. true) [] [] (stays p view 1 (terms w) (Var 0)) no_fm (λ call. true)
      (such-any w f k [] 0 refl (λ decl. true) (λ call. true) (λ call decl e. refl)) in
      let found = some-below (counted p.ops h visible w) (length h) in (
        (λ t. found.1 (λ z. first.0 t (λ c lt m u. z c lt (and_parts (counted p.ops h visible w c) (call_is h (λ call. true) c) m).0))),
        λ t. first.1 (λ z. found.0 t (λ c lt m. let call = call-at h c lt in z c lt (and_from (counted p.ops h visible w c) _ m (call-there h (λ call. true) c call.0 call.1)) tt)),
      )
