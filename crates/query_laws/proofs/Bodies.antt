-- Uses of queries by the bodies of a text are those of the definitions.
use Rattle.std.proofs.Common.{◌≡◌, ◌<◌, ◌≤◌, ◌==◌, ℕ, zero, suc, Bool, true, false, cond, List, [], ◌∷◌, ◌++◌, length, Option, Some, None, if◌then◌else◌, slice_get, refl, ap, ap₂, subst, sym, ◌∙◌, arith, eqb-true}
use Rattle.std.proofs.Math.Path.{fun_ext}
use Rattle.std.proofs.lemmas.List.{length_push}
use Rattle.std.specs.Prelude.{option_and_then, unwrap_or}
use Rattle.rp_grammar.specs.Trees.{QueryTree, DeclTree}
use Rattle.rp_lang.specs.Exprs.{Exs}
use Rattle.type_rules.specs.Kinds.{kind_of}
use Rattle.type_rules.specs.Accesses.{proc_params}
use Rattle.desugaring.specs.Tables.{Tables}
use Rattle.desugaring.specs.Values.{Value}
use Rattle.desugaring.specs.Expressions as spec
use Rattle.desugaring.specs.Programs.{InvTree, ProcDecl, inv_with, inv_for, proc_made, proc_for, proc_body, body_place, param_stands}
use Rattle.query_bodies.specs.Terms.{Said}
use Rattle.query_bodies.specs.Expanded.{Uses, Given, given_of, Saids, said_at, said_under, uses_in, all_uses}
use Rattle.query_bodies.proofs.Grows.{use_below}
use Rattle.query_laws.specs.Sight.{Follows, uses_with}
use Rattle.query_laws.specs.Whole.{IsQueryAt, AreOf, AreEnough, IsBodyOf, IsSaidBody, AreBodiesOf, IsNext, inv_by, proc_by}
use Rattle.query_laws.proofs.Follows.{map_follows, then_follows, itself}
use Rattle.query_laws.proofs.Growing.{AreMore, value_more, block_more}
use Rattle.query_laws.proofs.Under.{body_vars, body_stands}

-- # The definitions' uses

-- a use is the body of a query before, by the queries before that
pub used_before : (t : Tables) (n k : ℕ) (q : QueryTree) (es : Exs) (v : Value) → spec.uses_before t n k q es ≡ Some v
    → (k < n) × (spec.body_value t (spec.uses_before t k) q es ≡ Some v)
used_before t zero k q es v e = absurd cc
used_before t (suc n) k q es v e = by_number t n k q es v (k == n) refl e (used_before t n k q es v) where
  by_number : (t : Tables) (n k : ℕ) (q : QueryTree) (es : Exs) (v : Value) (same : Bool) → (k == n) ≡ same
      → cond same (spec.body_value t (spec.uses_before t n) q es) (spec.uses_before t n k q es) ≡ Some v
      → (spec.uses_before t n k q es ≡ Some v → (k < n) × (spec.body_value t (spec.uses_before t k) q es ≡ Some v))
      → (k < suc n) × (spec.body_value t (spec.uses_before t k) q es ≡ Some v)
  by_number t n k q es v true is e rest =
      let same : k ≡ n = eqb-true k n is in
      let less : k < suc n = omega (arith, same) in
      (less, subst (λ m. spec.body_value t (spec.uses_before t m) q es ≡ Some v) (sym same) e)
  by_number t n k q es v false is e rest =
      let found = rest e in
      let less : k < suc n = omega (arith, found.0) in
      (less, found.1)

pub body_more : (t : Tables) (u w : spec.Uses) → AreMore t u w → (q : QueryTree) (es : Exs)
    → Follows (spec.body_value t u q es) (spec.body_value t w q es)
body_more t u w m (QueryTree.query x params result body) es =
    value_more t u w m (spec.with_args t.names params es) (Some (kind_of t.names result)) body

-- # Bodies of the first declarations

-- of any list that goes by declarations

pub said_before : {X : Type 0} (bodies more : List (Option X)) (i : ℕ) → i < length bodies
    → unwrap_or (slice_get (bodies ++ more) i) None ≡ unwrap_or (slice_get bodies i) None
said_before [] more i lt = absurd (omega (arith, lt))
said_before (o ∷ bodies) more zero lt = refl
said_before (o ∷ bodies) more (suc i) lt = said_before bodies more i (omega (arith, lt))

pub said_last : {X : Type 0} (bodies : List (Option X)) (o : Option X) (i : ℕ) → i ≡ length bodies
    → unwrap_or (slice_get (bodies ++ o ∷ []) i) None ≡ o
said_last [] o zero e = refl
said_last [] o (suc i) e = absurd (omega (arith, e))
said_last (p ∷ bodies) o zero e = absurd (omega (arith, e))
said_last (p ∷ bodies) o (suc i) e = said_last bodies o i (omega (arith, e))

pub uses_same : (bodies more : Saids) (n : ℕ) → n ≤ length bodies → uses_in (bodies ++ more) n ≡ uses_in bodies n
uses_same bodies more zero le = fun_ext (λ decl. fun_ext (λ given. refl))
uses_same bodies more (suc n) le =
    let before : uses_in (bodies ++ more) n ≡ uses_in bodies n = uses_same bodies more n (omega (arith, le)) in
    let said : said_at (bodies ++ more) n ≡ said_at bodies n = said_before bodies more n (omega (arith, le)) in
    fun_ext (λ decl. fun_ext (λ given.
    ap₂ (λ (u : Uses) (o : Option Said). if decl == n then option_and_then (said_under u given 0) o else u decl given) before
    said))

pub kept_before : (bodies more : Saids) (k : ℕ) (given : Given) → k < length bodies → k < length (bodies ++ more)
    → all_uses (bodies ++ more) k given ≡ all_uses bodies k given
kept_before bodies more k given lt whole =
    use_below (bodies ++ more) (length (bodies ++ more)) k given whole
    ∙ ap₂ (λ (u : Uses) (o : Option Said). option_and_then (said_under u given 0) o)
    (uses_same bodies more k (omega (arith, lt))) (said_before bodies more k lt)
    ∙ sym (use_below bodies (length bodies) k given lt)

last_used : (bodies : Saids) (o : Option Said) (k : ℕ) (given : Given) → k ≡ length bodies
    → all_uses (bodies ++ o ∷ []) k given ≡ option_and_then (said_under (all_uses bodies) given 0) o
last_used bodies o k given e =
    let len = length_push bodies o in
    let lt : k < length (bodies ++ o ∷ []) = omega (arith, len, e) in
    use_below (bodies ++ o ∷ []) (length (bodies ++ o ∷ [])) k given lt
    ∙ ap₂ (λ (u : Uses) (p : Option Said). option_and_then (said_under u given 0) p)
    (uses_same bodies (o ∷ []) k (omega (arith, e)) ∙ ap (uses_in bodies) e) (said_last bodies o k e)

-- # One declaration more

-- before the next declaration
more_before : (t : Tables) (tree : List DeclTree) (bodies : Saids) → AreOf t.names tree → AreBodiesOf t tree bodies
    → (n : ℕ) → n ≤ length bodies → AreMore t (spec.uses_before t n) (uses_with (all_uses bodies))
more_before t tree bodies of are n le = λ k q es named enough v e.
    let found = used_before t n k q es v e in
    are n k q es (omega (arith, found.0, le)) (of k q named) enough v e

newest : (t : Tables) (tree : List DeclTree) (bodies : Saids) (o : Option Said) → AreOf t.names tree → AreBodiesOf t tree bodies
    → IsNext t tree bodies o → (n k : ℕ) (q : QueryTree) (es : Exs) → k ≡ length bodies → IsQueryAt tree k q → AreEnough q es
    → Follows (spec.uses_before t n k q es) (all_uses (bodies ++ o ∷ []) k (given_of es))
newest t tree bodies o of are next n k q es here at enough v e =
    let found = used_before t n k q es v e in
    let le : k ≤ length bodies = omega (arith, here) in
    let body : spec.body_value t (uses_with (all_uses bodies)) q es ≡ Some v =
    body_more t (spec.uses_before t k) (uses_with (all_uses bodies)) (more_before t tree bodies of are k le) q es v found.1 in
    let said = next q (subst (λ m. IsQueryAt tree m q) here at) in
    last_used bodies o k (given_of es) here
    ∙ ap (option_and_then (said_under (all_uses bodies) (given_of es) 0)) said.1 ∙ said.2 es enough v body

pub next_bodies : (t : Tables) (tree : List DeclTree) (bodies : Saids) (o : Option Said) → AreOf t.names tree
    → AreBodiesOf t tree bodies → IsNext t tree bodies o
    → AreBodiesOf t tree (bodies ++ o ∷ [])
next_bodies t tree bodies o of are next n k q es lt at enough v e = by_place (k == length bodies) refl where
  by_place : (same : Bool) → (k == length bodies) ≡ same → all_uses (bodies ++ o ∷ []) k (given_of es) ≡ Some v
  by_place true is = newest t tree bodies o of are next n k q es (eqb-true k (length bodies) is) at enough v e
  by_place false is =
      let len = length_push bodies o in
      let less : k < suc (length bodies) = omega (arith, lt, len) in
      let before : k < length bodies = grind (arith, is, less) in
      kept_before bodies (o ∷ []) k (given_of es) before lt ∙ are n k q es before at enough v e

pub no_bodies : (t : Tables) (tree : List DeclTree) → AreBodiesOf t tree []
no_bodies t tree n k q es lt at enough v e = absurd (omega (arith, lt))

-- # The body of a query from what is said in its sight

pub body_said : (t : Tables) (u : Uses) (q : QueryTree) (s : Said) → IsSaidBody t u q s → IsBodyOf t u q s
body_said t u (QueryTree.query x params result body) s says es enough v e =
    says (given_of es) (body_stands t u params es enough) v
    (ap (λ vs. spec.value t (uses_with u) vs (Some (kind_of t.names result)) body) (body_vars t u params es enough) ∙ e)

-- # Invariants and procedures

there_below : {X : Type 0} (xs : List X) (k : ℕ) (x : X) → slice_get xs k ≡ Some x → k < length xs
there_below [] k x e = absurd cc
there_below (y ∷ xs) zero x e = omega arith
there_below (y ∷ xs) (suc k) x e = let lt = there_below xs k x e in omega (arith, lt)

all_more : (t : Tables) (tree : List DeclTree) (bodies : Saids) → AreOf t.names tree → AreBodiesOf t tree bodies
    → length bodies ≡ length tree → (n : ℕ) → AreMore t (spec.uses_before t n) (uses_with (all_uses bodies))
all_more t tree bodies of are long n k q es named enough v e =
    let at = of k q named in
    let below = there_below tree k _ at.1 in
    are n k q es (omega (arith, below, long)) at enough v e

pub inv_follows : (t : Tables) (tree : List DeclTree) (bodies : Saids) → AreOf t.names tree → AreBodiesOf t tree bodies
    → length bodies ≡ length tree → (d : InvTree) → Follows (inv_for t d) (inv_by t bodies d)
inv_follows t tree bodies of are long d =
    map_follows (inv_with d) _ _ (value_more t (spec.uses_before t d.decl) (uses_with (all_uses bodies))
    (all_more t tree bodies of are long d.decl) [] _ d.body)

pub proc_follows : (t : Tables) (tree : List DeclTree) (bodies : Saids) → AreOf t.names tree → AreBodiesOf t tree bodies
    → length bodies ≡ length tree → (d : ProcDecl) → Follows (proc_for t d) (proc_by t bodies d)
proc_follows t tree bodies of are long d =
    then_follows (proc_made t d) (proc_made t d) _ _ (λ m is. itself _)
    (block_more t (spec.uses_before t d.decl) (uses_with (all_uses bodies)) (all_more t tree bodies of are long d.decl)
    (body_place t.names d) (param_stands t.names d) (length (proc_params d.tree)) (proc_body d.tree))
