-- The formula of a query that holds or not is well sorted, at terms of the sorts of its arguments.
use Rattle.std.proofs.Common.{◌≡◌, ◌<◌, ℕ, suc, ◌+◌, List, [], ◌∷◌, ◌++◌, length, map, slice_get, Bool, true, false, Option, Some, None, refl, sym, ap, ◌∙◌, subst, eqb-true, length-append, arith}
use Rattle.std.proofs.lemmas.Bool.{and_parts}
use Rattle.std.proofs.lemmas.List.{append-nil, length-map}
use Rattle.std.proofs.lemmas.Option.{same_Some}
use Rattle.rp_value.specs.declared.tables.Ty.{Ty}
use Rattle.rp_value.specs.declared.tables.Ty.TheVariants as ty
use Rattle.rp_value.specs.declared.tables.ConDecl.{ConDecl}
use Rattle.rp_value.specs.Values as val
use Rattle.rp_value.specs.Values.{Val}
use Rattle.rp_lang.specs.Crdts.{Cr}
use Rattle.rp_lang.specs.declared.op.OpDecl.{OpDecl}
use Rattle.rp_lang.specs.declared.op.OpKind.{OpKind}
use Rattle.rp_lang.specs.declared.op.OpKind.TheVariants.{Add, Remove, Assign}
use Rattle.rp_lang.specs.declared.op.PathStep.{PathStep}
use Rattle.rp_lang.specs.declared.op.PathStep.TheVariants.{Field, Key}
use Rattle.rp_lang.specs.declared.query.QueryKind.{QueryKind}
use Rattle.rp_lang.specs.Paths.{field_in}
use Rattle.rp_lang.specs.Types as types
use Rattle.rp_lang.specs.Programs.{Prog}
use Rattle.crdt_defs.specs.Doing.{keys_in}
use Rattle.crdt_defs.specs.Fitting.{fits, fields_fit, fields_of, cons_to}
use Rattle.crdt_defs.specs.declared.asked.Winner.{Winner}
use Rattle.crdt_defs.specs.declared.asked.Winner.TheVariants.{Update, Delete}
use Rattle.crdt_defs.specs.declared.asked.Question.{Question}
use Rattle.crdt_defs.specs.declared.asked.Question.TheVariants as asks
use Rattle.crdt_defs.specs.declared.asked.Question.TheVariants.{AddWins, RemoveWins, ManyValues, Latest, Total, NoQuestion}
use Rattle.crdt_defs.specs.Queries.{question, held_in, winner_in}
use Rattle.rp_logic.specs.declared.sort.NewConst.{NewConst}
use Rattle.rp_logic.specs.Terms.{Tm, Var}
use Rattle.rp_logic.specs.Formulas.{Fms, no_fm}
use Rattle.rp_logic.specs.Dual.{duals}
use Rattle.rp_logic.specs.Filling.{raised}
use Rattle.rp_logic.specs.Signatures.{Signature}
use Rattle.rp_logic.specs.Sorted.{has_sort, IsSorted, AreSorted}
use Rattle.rp_logic.proofs.DualSorts.{duals-sorted}
use Rattle.rp_logic.proofs.KeptSorts.{raised-sort}
use Rattle.rp_logic.proofs.SortLaws.{no}
use Rattle.rp_symbols.specs.Numbers.{call_sort, op_sort, op_fn, op_con, before_rel}
use Rattle.rp_symbols.specs.Signatures.{sort_of, con_of, set_decl}
use Rattle.rp_symbols.proofs.LookUps.{get-mapped}
use Rattle.rp_symbols.proofs.Stand.{operations-stand}
use Rattle.crdt_enc.specs.Ways as ways
use Rattle.crdt_enc.specs.Ways.{Way, Root, AtField, depth, keys, goes}
use Rattle.crdt_enc.specs.Builders.{one_fm, applied, is_before}
use Rattle.crdt_enc.specs.QueryFormulas.{counting, passes, some_such, each_such, is_delete, wins, stays, is_kind, some_call, each_call, untrue, answer_formula, ask_formula}
use Rattle.crdt_enc.specs.means.Counting.{Both, terms, vals, FitsAt, OpsFit, WayFits, EachKey, EachBoth}
use Rattle.crdt_enc.proofs.QuestionLaws.{Leaf}
use Rattle.crdt_enc.proofs.AskLaws.{terms_of, LeafFits, AskFits}
use Rattle.well_sorted.specs.Symbols.{HasSymbols}
use Rattle.well_sorted.proofs.Pieces.{Front, under_calls, applied-sorted, built-sorted, front-more, front-raised, set-sorted, pair-sorted, joined-sorted, all-sorted, any-sorted, each-sorted}

-- # A value has one type

abbrev val_type : Prog → Val → Option Ty
val_type p (val.Int n) = Some ty.Int
val_type p (val.Str bytes) = Some ty.Str
val_type p (val.Atom s n) = Some (ty.Atom s)
val_type p (val.Con c args) = types.datatype_in (slice_get p.cons.cons c)
val_type p _ = None

fit-known : (p : Prog) (t : Ty) (v : Val) → fits p t v ≡ true → val_type p v ≡ Some t
fit-known p ty.Int (val.Int n) h = refl
fit-known p ty.Str (val.Str bytes) h = refl
fit-known p (ty.Atom a) (val.Atom s n) h = ap (λ n. Some (ty.Atom n)) (eqb-true s a h)
fit-known p (ty.Datatype d) (val.Con c args) h = go (slice_get p.cons.cons c) (and_parts (cons_to d (slice_get p.cons.cons c)) (fields_fit p (fields_of (slice_get p.cons.cons c)) args) h).0
  where
    go : (o : Option ConDecl) → cons_to d o ≡ true → types.datatype_in o ≡ Some (ty.Datatype d)
    go None h = no h
    go (Some decl) h = ap (λ n. Some (ty.Datatype n)) (eqb-true decl.of d h)
fit-known p _ v h = no h

pub fit-type : (p : Prog) (t u : Ty) (v : Val) → fits p t v ≡ true → fits p u v ≡ true → t ≡ u
fit-type p t u v h k = same_Some t u (sym (fit-known p t v h) ∙ fit-known p u v k)

-- # Calls that count

module _ (p : Prog) (S : Signature) (added : List NewConst) (has : HasSymbols p S) (view : ℕ) (seen : slice_get S.rels view ≡ Some set_decl) (scope : List ℕ) where
  -- the term is of the sort of a type that the value fits
  pub record Typed (b : Both) : Type 0 where
    pub ty : Ty
    pub fit : fits p ty b.val ≡ true
    pub sorted : has_sort S added scope (sort_of p ty) b.term ≡ true

  abbrev pub AllTyped : List Both → Type 0
  AllTyped bs = EachBoth Typed bs

  abbrev pub KeysTyped : Way Both → Type 0
  KeysTyped w = EachKey Typed w

  calls-are : call_sort < length S.sorts
  calls-are = subst (λ ss. call_sort < length ss) (sym has.sorts) (omega arith)

  abbrev IsCallAt : ℕ → Tm → Type 0
  IsCallAt n call = has_sort S added (under_calls n scope) call_sort call ≡ true

  key-count : (w : Way Both) → length (keys (terms w)) ≡ length (vals w)
  key-count (Root r) = refl
  key-count (AtField n w) = key-count w
  key-count (ways.AtKey winner b w) = length-append (keys (terms w)) (b.term ∷ []) ∙ (ap (λ n. n + 1) (key-count w) ∙ sym (length-append (vals w) (b.val ∷ [])))

  abbrev HasFront : OpDecl → List Tm → Type 0
  HasFront decl given = Front S added scope (map (sort_of p) decl.args) given

  -- one more where the operation has a place for it
  front-then : (decl : OpDecl) (w : Way Both) (place : ℕ) (b : Both) → Typed b → FitsAt p (length (vals w)) decl place b.val → HasFront decl (keys (terms w)) → HasFront decl (keys (terms w) ++ b.term ∷ [])
  front-then decl w place b t f front =
      let same = fit-type p t.ty f.ty b.val t.fit f.fit in
      front-more S added scope (map (sort_of p) decl.args) (keys (terms w)) (sort_of p f.ty) b.term front
      (ap (slice_get (map (sort_of p) decl.args)) (key-count w) ∙ get-mapped (sort_of p) decl.args (length (vals w)) f.ty f.is)
      (subst (λ t. has_sort S added scope (sort_of p t) b.term ≡ true) same t.sorted)

  way-front : (w : Way Both) → WayFits p w → KeysTyped w → (o : ℕ) (decl : OpDecl) → slice_get p.ops o ≡ Some decl → goes (terms w) decl ≡ true → HasFront decl (keys (terms w))
  way-front (Root r) f k o decl e g = record { heads = []; rest = map (sort_of p) decl.args; are = refl; have = refl }
  way-front (AtField n w) f k o decl e g = way-front w f k o decl e (and_parts (goes (terms w) decl) _ g).0
  way-front (ways.AtKey winner b w) f k o decl e g =
      front-then decl w _ b k.1 (f.1 o decl e g) (way-front w f.0 k.0 o decl e (and_parts (goes (terms w) decl) _ g).0)

  -- operations that pass begin with the way's keys and these
  abbrev Fronts : Way Both → (OpDecl → Bool) → List Tm → Type 0
  Fronts w test own = (o : ℕ) (decl : OpDecl) → slice_get p.ops o ≡ Some decl → passes (terms w) test decl ≡ true → HasFront decl (keys (terms w) ++ own)

  no-more : (w : Way Both) → WayFits p w → KeysTyped w → (test : OpDecl → Bool) → Fronts w test []
  no-more w f k test o decl e t = subst (HasFront decl) (sym (append-nil (keys (terms w)))) (way-front w f k o decl e (and_parts (goes (terms w) decl) (test decl) t).0)

  one-more : (w : Way Both) → WayFits p w → KeysTyped w → (test : OpDecl → Bool) (place : OpDecl → ℕ) (b : Both) → Typed b → OpsFit p (passes (terms w) test) (length (vals w)) place b.val → Fronts w test (b.term ∷ [])
  one-more w f k test place b t fit o decl e g = front-then decl w (place decl) b t (fit o decl e g) (way-front w f k o decl e (and_parts (goes (terms w) decl) (test decl) g).0)

  counting-sorted : (w : Way Both) (n o : ℕ) (decl : OpDecl) (own : List Tm) (call : Tm) (kept : Fms) → slice_get p.ops o ≡ Some decl → HasFront decl (keys (terms w) ++ own) → IsCallAt n call
      → AreSorted S added (under_calls n scope) kept → AreSorted S added (under_calls n scope) (counting p view n (terms w) o decl own call kept)
  counting-sorted w n o decl own call kept e front c k =
      let of : has_sort S added (under_calls n scope) (op_sort p) (applied op_fn call) ≡ true = applied-sorted S added (under_calls n scope) op_fn call_sort (op_sort p) call has.op c in (
        set-sorted S added (under_calls n scope) true view call_sort call seen c,
        (
          (
            op_sort p,
            of,
            built-sorted S added (under_calls n scope) (op_con p o) (con_of (op_sort p) (map (sort_of p) decl.args)) (length decl.args) (map (raised n) (keys (terms w) ++ own)) (applied op_fn call)
                (ap (λ cs. slice_get cs (op_con p o)) has.cons ∙ operations-stand p o decl e) (sym (length-map decl.args (sort_of p)))
                (front-raised S added scope (map (sort_of p) decl.args) (keys (terms w) ++ own) n front) of,
          ),
          k,
        ),
      )

  newest : (n : ℕ) → IsCallAt (suc n) (Var 0)
  newest n = refl

  some-sorted : (w : Way Both) (n : ℕ) (test : OpDecl → Bool) (own : List Tm) (kept rest : Fms) → Fronts w test own → AreSorted S added (under_calls (suc n) scope) kept
      → AreSorted S added (under_calls (suc n) scope) rest → IsSorted S added (under_calls n scope) (some_such p view n (terms w) test own kept rest)
  some-sorted w n test own kept rest f k r =
      any-sorted S added (under_calls n scope) _
      (each-sorted S added (under_calls n scope) (passes (terms w) test) _ p.ops
      (λ o decl e t. (
        calls-are,
        joined-sorted S added (under_calls (suc n) scope) (counting p view (suc n) (terms w) o decl own (Var 0) kept) rest
            (counting-sorted w (suc n) o decl own (Var 0) kept e (f o decl e t) (newest n) k) r,
      )))

  each-such-sorted : (w : Way Both) (n : ℕ) (test : OpDecl → Bool) (own : List Tm) (kept rest : Fms) → Fronts w test own → AreSorted S added (under_calls (suc n) scope) kept
      → AreSorted S added (under_calls (suc n) scope) rest → AreSorted S added (under_calls n scope) (each_such p view n (terms w) test own kept rest)
  each-such-sorted w n test own kept rest f k r =
      each-sorted S added (under_calls n scope) (passes (terms w) test) _ p.ops
      (λ o decl e t. (
        calls-are,
        joined-sorted S added (under_calls (suc n) scope) (duals (counting p view (suc n) (terms w) o decl own (Var 0) kept)) rest
            (duals-sorted (counting p view (suc n) (terms w) o decl own (Var 0) kept) S added (under_calls (suc n) scope)
            (counting-sorted w (suc n) o decl own (Var 0) kept e (f o decl e t) (newest n) k)) r,
      ))

  before-sorted : (n : ℕ) (sign : Bool) (t u : Tm) → IsCallAt n t → IsCallAt n u → IsSorted S added (under_calls n scope) (is_before sign t u)
  before-sorted n sign t u h k = pair-sorted S added (under_calls n scope) sign before_rel call_sort call_sort t u has.before h k

  wins-sorted : (winner : Winner) (n : ℕ) (call : Tm) → IsCallAt n call → IsSorted S added (under_calls (suc n) scope) (wins winner (raised 1 call))
  wins-sorted Update n call h = before-sorted (suc n) false (raised 1 call) (Var 0) (raised-sort call S added (under_calls n scope) call_sort call_sort ∙ h) (newest n)
  wins-sorted Delete n call h = before-sorted (suc n) true (Var 0) (raised 1 call) (newest n) (raised-sort call S added (under_calls n scope) call_sort call_sort ∙ h)

  pub stays-sorted : (w : Way Both) → WayFits p w → KeysTyped w → (n : ℕ) (call : Tm) → IsCallAt n call → AreSorted S added (under_calls n scope) (stays p view n (terms w) call)
  stays-sorted (Root r) f k n call h = tt
  stays-sorted (AtField m w) f k n call h = stays-sorted w f k n call h
  stays-sorted (ways.AtKey winner b w) f k n call h =
      joined-sorted S added (under_calls n scope) (stays p view n (terms w) call) _ (stays-sorted w f.0 k.0 n call h)
      (each-such-sorted w n (is_delete (depth (terms w))) (b.term ∷ []) (stays p view (suc n) (terms w) (Var 0)) (one_fm (wins winner (raised 1 call)))
      (one-more w f.0 k.0 (is_delete (depth (terms w))) (λ decl. keys_in decl.path) b k.1 f.2)
      (stays-sorted w f.0 k.0 (suc n) (Var 0) (newest n)) (wins-sorted winner n call h, tt))

  -- # What is asked of them

  pub some-call-sorted : (w : Way Both) → WayFits p w → KeysTyped w → (n : ℕ) (test : OpDecl → Bool) (own : List Tm) (rest : Fms) → Fronts w test own → AreSorted S added (under_calls (suc n) scope) rest
      → IsSorted S added (under_calls n scope) (some_call p view n (terms w) test own rest)
  some-call-sorted w f k n test own rest fr r = some-sorted w n test own (stays p view (suc n) (terms w) (Var 0)) rest fr (stays-sorted w f k (suc n) (Var 0) (newest n)) r

  pub each-call-sorted : (w : Way Both) → WayFits p w → KeysTyped w → (n : ℕ) (test : OpDecl → Bool) (own : List Tm) (rest : Fms) → Fronts w test own → AreSorted S added (under_calls (suc n) scope) rest
      → IsSorted S added (under_calls n scope) (each_call p view n (terms w) test own rest)
  each-call-sorted w f k n test own rest fr r =
      all-sorted S added (under_calls n scope) _ (each-such-sorted w n test own (stays p view (suc n) (terms w) (Var 0)) rest fr (stays-sorted w f k (suc n) (Var 0) (newest n)) r)

  pub of-kind : (w : Way Both) → WayFits p w → KeysTyped w → (kind : OpKind) (x : Both) → Typed x → Leaf p w kind x.val → Fronts w (is_kind kind) (x.term ∷ [])
  of-kind w f k kind x t l = one-more w f k (is_kind kind) (λ decl. keys_in decl.path) x t l

  pub of-any : (w : Way Both) → WayFits p w → KeysTyped w → (test : OpDecl → Bool) → Fronts w test []
  of-any w f k test = no-more w f k test

  untrue-sorted : IsSorted S added scope untrue
  untrue-sorted = tt

  answer-sorted : (w : Way Both) → WayFits p w → KeysTyped w → (q : Question) (args : List Both) → AllTyped args → LeafFits p w q args → IsSorted S added scope (answer_formula p view (terms w) q (terms_of args))
  answer-sorted w f k AddWins (x ∷ []) t l =
      some-call-sorted w f k 0 (is_kind Add) (x.term ∷ []) _ (of-kind w f k Add x t.0 l.0)
      (each-call-sorted w f k 1 (is_kind Remove) (x.term ∷ []) _ (of-kind w f k Remove x t.0 l.1) (before-sorted 2 false (Var 1) (Var 0) refl refl, tt), tt)
  answer-sorted w f k RemoveWins (x ∷ []) t l = (
    some-call-sorted w f k 0 (is_kind Add) (x.term ∷ []) no_fm (of-kind w f k Add x t.0 l.0) tt,
    (
      each-call-sorted w f k 0 (is_kind Remove) (x.term ∷ []) _ (of-kind w f k Remove x t.0 l.1)
          (some-call-sorted w f k 1 (is_kind Add) (x.term ∷ []) _ (of-kind w f k Add x t.0 l.0) (before-sorted 2 true (Var 1) (Var 0) refl refl, tt), tt),
      tt,
    ),
  )
  answer-sorted w f k ManyValues (x ∷ []) t l =
      some-call-sorted w f k 0 (is_kind Assign) (x.term ∷ []) _ (of-kind w f k Assign x t.0 l)
      (each-call-sorted w f k 1 (is_kind Assign) [] _ (of-any w f k (is_kind Assign)) (before-sorted 2 false (Var 1) (Var 0) refl refl, tt), tt)
  answer-sorted w f k (asks.AtKey winner) (x ∷ []) t l =
      some-call-sorted (ways.AtKey winner x w) l (k, t.0) 0 (λ decl. true) [] no_fm (of-any (ways.AtKey winner x w) l (k, t.0) (λ decl. true)) tt
  answer-sorted w f k AddWins [] t l = untrue-sorted
  answer-sorted w f k AddWins (x ∷ y ∷ ys) t l = untrue-sorted
  answer-sorted w f k RemoveWins [] t l = untrue-sorted
  answer-sorted w f k RemoveWins (x ∷ y ∷ ys) t l = untrue-sorted
  answer-sorted w f k ManyValues [] t l = untrue-sorted
  answer-sorted w f k ManyValues (x ∷ y ∷ ys) t l = untrue-sorted
  answer-sorted w f k (asks.AtKey winner) [] t l = untrue-sorted
  answer-sorted w f k (asks.AtKey winner) (x ∷ y ∷ ys) t l = untrue-sorted
  answer-sorted w f k Latest [] t l = untrue-sorted
  answer-sorted w f k Latest (x ∷ xs) t l = untrue-sorted
  answer-sorted w f k Total [] t l = untrue-sorted
  answer-sorted w f k Total (x ∷ xs) t l = untrue-sorted
  answer-sorted w f k NoQuestion [] t l = untrue-sorted
  answer-sorted w f k NoQuestion (x ∷ xs) t l = untrue-sorted

  pub ask-sorted : (kind : QueryKind) (crdt : Option Cr) (path : List PathStep) (w : Way Both) (args : List Both) → WayFits p w → KeysTyped w → AllTyped args → AskFits p kind crdt path w args
      → IsSorted S added scope (ask_formula p view kind crdt path (terms w) (terms_of args))
  ask-sorted kind None path w args f k t l = untrue-sorted
  ask-sorted kind (Some crdt) [] w args f k t l = answer-sorted w f k (question crdt kind) args t l
  ask-sorted kind (Some crdt) (Field n ∷ path) w args f k t l = ask-sorted kind (field_in crdt n) path (AtField n w) args f k t l
  ask-sorted kind (Some crdt) (Key ty ∷ path) w [] f k t l = untrue-sorted
  ask-sorted kind (Some crdt) (Key ty ∷ path) w (x ∷ args) f k t l = ask-sorted kind (held_in crdt) path (ways.AtKey (winner_in crdt) x w) args l.0 (k, t.0) t.1 l.1
