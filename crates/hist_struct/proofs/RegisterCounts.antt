-- At a stage the condition on registers says of the calls that count what the last assign is.
use Rattle.std.proofs.Common.{◌≡◌, ◌↔◌, ℕ, suc, ◌<◌, Bool, true, false, ◌&&◌, List, [], ◌∷◌, length, Option, Some, None, slice_get, refl, sym, ap, ◌∙◌, true≢false}
use Rattle.std.proofs.lemmas.Bool.{and_parts, and_from, eqb-false, ne_eqb}
use Rattle.std.proofs.lemmas.Option.{none-some, same_Some}
use Rattle.rp_value.specs.Values.{Val}
use Rattle.rp_lang.specs.declared.op.OpDecl.{OpDecl}
use Rattle.rp_lang.specs.declared.op.OpKind.TheVariants.{Assign}
use Rattle.rp_lang.specs.Programs.{Prog}
use Rattle.crdt_defs.specs.Calls.{Call}
use Rattle.crdt_defs.specs.Doing.{does, is_of, keys_in, same_kind}
use Rattle.crdt_defs.specs.Histories.{call_is}
use Rattle.crdt_defs.specs.Meaning.{among, latest}
use Rattle.crdt_defs.specs.SameValues.{value_is}
use Rattle.crdt_defs.proofs.GotLemmas.{met-call, met-op}
use Rattle.event_machine.specs.Machine.{Tx}
use Rattle.event_machine.specs.WellFormed.{IsCausal}
use Rattle.rp_logic.specs.Elements.{Elem, Point}
use Rattle.rp_logic.specs.Formulas.{no_fm}
use Rattle.rp_logic.specs.Terms.{Var}
use Rattle.rp_logic.specs.Truth.{Meaning, Holds, value}
use Rattle.rp_symbols.specs.Numbers.{stamp_rel}
use Rattle.crdt_enc.specs.Builders.{one_fm}
use Rattle.crdt_enc.specs.Elements.{elem_of}
use Rattle.crdt_enc.specs.FitsParts.{FitsCalls, FitsView, holds_of_two}
use Rattle.crdt_enc.specs.QueryFormulas.{is_kind, stays, each_such}
use Rattle.crdt_enc.specs.Ways.{Way}
use Rattle.crdt_enc.specs.means.Counting.{Both, terms, counted, KeysRead, WayFits, CallsFit}
use Rattle.crdt_enc.proofs.BuilderLaws.{all-of}
use Rattle.crdt_enc.proofs.CountLaws.{Such, each-such, some-such}
use Rattle.crdt_enc.proofs.QuestionLaws.{Leaf, such-kind, such-any}
use Rattle.crdt_enc.proofs.WayLaws.{op-is, call-there}
use Rattle.hist_struct.specs.Axioms.{implied, rel, differ}
use Rattle.hist_struct.specs.Registers.{mapped, NoneAssigns, IsLatest, each_assign}
use Rattle.hist_struct.specs.Steps.{is_lesser}
use Rattle.hist_struct.proofs.Implied.{implied-is}
use Rattle.hist_struct.proofs.LatestFacts.{last-of, is-last}
use Rattle.hist_struct.proofs.RegisterExact.{latest-is, none-is}
use Rattle.hist_struct.proofs.RegisterForms.{one-none}

-- an assign of a value is an assign
does-assign : (ops : List OpDecl) (h : List Call) (set : ℕ → Bool) (x : Val) (c : ℕ) → among h set (does ops Assign x) c ≡ true → among h set (is_of ops Assign) c ≡ true
does-assign ops h set x c m =
    let both = and_parts (set c) (call_is h (does ops Assign x) c) m in
    let call = met-call h (does ops Assign x) c both.1 in
    let op = met-op ops (λ op. same_kind op.kind Assign && value_is x (slice_get call.0.args (keys_in op.path))) call.0 call.2 in
    and_from (set c) _ both.0
    (call-there h (is_of ops Assign) c call.0 call.1 ∙ (op-is ops (λ op. same_kind op.kind Assign) call.0 op.0 op.1 ∙ (and_parts (same_kind op.0.kind Assign) _ op.2).0))

module _ (p : Prog) (M : Meaning) (h : List Call) (view : ℕ) (visible : ℕ → Bool) (base : List Elem) (fits : FitsCalls p M h) (seen : FitsView M h view visible) (typed : CallsFit p h)
    (txs : List Tx) (history : IsCausal h txs) (stamps : (c d : ℕ) → c < length h → d < length h → holds_of_two M stamp_rel (Point c) (Point d) ≡ is_lesser h c d)
    (w : Way Both) (f : WayFits p w) (k : KeysRead M base w) where
  any : (es : List Elem) (n : ℕ) → n ≡ length es → Such p M h view visible base fits seen typed w es n (is_kind Assign) [] [] (stays p view (suc n) (terms w) (Var 0)) (is_of p.ops Assign)
  any es n e = such-any p M h view visible base fits seen typed w f k es n e (is_kind Assign) (is_of p.ops Assign) (λ call decl e. op-is p.ops _ call decl e)

  pub none-counts : NoneAssigns p M view (mapped (value M base) (terms w)) ↔ ((d : ℕ) → d < length h → among h (counted p.ops h visible w) (is_of p.ops Assign) d ≡ true → ⊥)
  none-counts =
      let z = none-is p M view base (terms w) in
      let fs = each_such p view 0 (terms w) (is_kind Assign) [] (stays p view 1 (terms w) (Var 0)) no_fm in
      let a = all-of fs M base in
      let each = each-such p M h view visible base fits seen typed w [] 0 (is_kind Assign) [] [] (stays p view 1 (terms w) (Var 0)) no_fm (is_of p.ops Assign) (any [] 0 refl) in (
        (λ n d l m. each.0 (a.0 (z.1 n)) d l m tt),
        λ n. z.0 (a.1 (each.1 (λ d l m t. n d l m))),
      )

  -- each other assign that counts has a lesser stamp
  abbrev Others : ℕ → Type 0
  Others c = (d : ℕ) → d < length h → among h (counted p.ops h visible w) (is_of p.ops Assign) d ≡ true → (d ≡ c → ⊥) → is_lesser h d c ≡ true

  others-are : (c : ℕ) → c < length h → Holds M (Point c ∷ base) (each_assign p view 1 (terms w) (implied (one_fm (differ 0 1)) (rel stamp_rel 0 1))) ↔ Others c
  others-are c lc =
      let rest = one_fm (implied (one_fm (differ 0 1)) (rel stamp_rel 0 1)) in
      let fs = each_such p view 1 (terms w) (is_kind Assign) [] (stays p view 2 (terms w) (Var 0)) rest in
      let a = all-of fs M (Point c ∷ base) in
      let each = each-such p M h view visible base fits seen typed w (Point c ∷ []) 1 (is_kind Assign) [] [] (stays p view 2 (terms w) (Var 0)) rest (is_of p.ops Assign) (any (Point c ∷ []) 1 refl) in
      let one = λ (d : ℕ). one-none (implied (one_fm (differ 0 1)) (rel stamp_rel 0 1)) M (Point d ∷ Point c ∷ base) in
      let imp = λ (d : ℕ). implied-is (one_fm (differ 0 1)) (rel stamp_rel 0 1) M (Point d ∷ Point c ∷ base) in (
        (λ t d l m n. sym (stamps d c l lc) ∙ (imp d).0 ((one d).0 (each.0 (a.0 t) d l m)) (ne_eqb d c n)),
        λ t. a.1 (each.1 (λ d l m. (one d).1 ((imp d).1 (λ q. stamps d c l lc ∙ t d l m (eqb-false d c q))))),
      )

  pub latest-counts : (x : Both) → value M base x.term ≡ elem_of x.val → Leaf p w Assign x.val
      → IsLatest p M view (mapped (value M base) (terms w)) (value M base x.term)
      ↔ ((c : ℕ) × (latest p.ops h (counted p.ops h visible w) ≡ Some c) × (among h (counted p.ops h visible w) (does p.ops Assign x.val) c ≡ true))
  latest-counts x ex leaf =
      let is = latest-is p M view base (terms w) x.term in
      let some = some-such p M h view visible base fits seen typed w [] 0 (is_kind Assign) (x.term ∷ []) (x.val ∷ []) (stays p view 1 (terms w) (Var 0))
      (one_fm (each_assign p view 1 (terms w) (implied (one_fm (differ 0 1)) (rel stamp_rel 0 1)))) (does p.ops Assign x.val) (such-kind p M h view visible base fits seen typed w f k [] 0 refl Assign x ex leaf) in (
        (λ t. found (some.0 (is.1 t))),
        λ t. is.0 (some.1 (λ none.
            let last = last-of p.ops h txs history (counted p.ops h visible w) t.0 t.1 in
            none t.0 last.below t.2 ((others-are t.0 last.below).1 last.others, tt))),
      )
    where
      found : (¬ ((c : ℕ) → c < length h → among h (counted p.ops h visible w) (does p.ops Assign x.val) c ≡ true
          → ¬ (Holds M (Point c ∷ base) (each_assign p view 1 (terms w) (implied (one_fm (differ 0 1)) (rel stamp_rel 0 1))) × Unit {0})))
          → (c : ℕ) × (latest p.ops h (counted p.ops h visible w) ≡ Some c) × (among h (counted p.ops h visible w) (does p.ops Assign x.val) c ≡ true)
      found t = by-last (latest p.ops h (counted p.ops h visible w)) refl
        where
          is-it : (c : ℕ) → c < length h → among h (counted p.ops h visible w) (does p.ops Assign x.val) c ≡ true
              → Holds M (Point c ∷ base) (each_assign p view 1 (terms w) (implied (one_fm (differ 0 1)) (rel stamp_rel 0 1))) → latest p.ops h (counted p.ops h visible w) ≡ Some c
          is-it c l m a = is-last p.ops h txs history (counted p.ops h visible w) c (record { below = l; itself = does-assign p.ops h (counted p.ops h visible w) x.val c m; others = (others-are c l).0 a })

          by-does : (c : ℕ) → latest p.ops h (counted p.ops h visible w) ≡ Some c → (b : Bool) → among h (counted p.ops h visible w) (does p.ops Assign x.val) c ≡ b
              → (c : ℕ) × (latest p.ops h (counted p.ops h visible w) ≡ Some c) × (among h (counted p.ops h visible w) (does p.ops Assign x.val) c ≡ true)
          by-does c e true m = (c, e, m)
          by-does c e false m = absurd (t (λ d l n a.
              let same = same_Some c d (sym e ∙ is-it d l n a.0) in
              true≢false (sym n ∙ (ap (among h (counted p.ops h visible w) (does p.ops Assign x.val)) (sym same) ∙ m))))

          by-last : (o : Option ℕ) → latest p.ops h (counted p.ops h visible w) ≡ o
              → (c : ℕ) × (latest p.ops h (counted p.ops h visible w) ≡ Some c) × (among h (counted p.ops h visible w) (does p.ops Assign x.val) c ≡ true)
          by-last (Some c) e = by-does c e (among h (counted p.ops h visible w) (does p.ops Assign x.val) c) refl
          by-last None e = absurd (t (λ d l n a. none-some d (sym e ∙ is-it d l n a.0)))
