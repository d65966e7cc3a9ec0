-- Along the path of a query: its formula is true exactly where its answer is.
use Rattle.std.proofs.Common.{◌≡◌, ℕ, List, [], ◌∷◌, slice_get, Bool, true, false, ◌↔◌, Option, Some, None, sym, ap, ◌∙◌, subst}
use Rattle.rp_value.specs.Values.{Val}
use Rattle.rp_lang.specs.Crdts.{Cr}
use Rattle.rp_lang.specs.declared.op.OpKind.TheVariants.{Add, Remove, Assign}
use Rattle.rp_lang.specs.declared.op.PathStep.{PathStep}
use Rattle.rp_lang.specs.declared.op.PathStep.TheVariants.{Field, Key}
use Rattle.rp_lang.specs.declared.query.QueryDecl.{QueryDecl}
use Rattle.rp_lang.specs.declared.query.QueryKind.{QueryKind}
use Rattle.rp_lang.specs.Programs.{Prog}
use Rattle.crdt_defs.specs.Calls.{Call}
use Rattle.crdt_defs.specs.declared.asked.Question.TheVariants as asks
use Rattle.crdt_defs.specs.declared.asked.Question.{Question}
use Rattle.crdt_defs.specs.declared.asked.Question.TheVariants.{AddWins, RemoveWins, ManyValues, Latest, Total, NoQuestion}
use Rattle.crdt_defs.specs.Queries.{question, answer_at, ask, held_in, winner_in, answer_by, answer_in, is_true}
use Rattle.rp_lang.specs.Paths.{field_in, root_crdt}
use Rattle.rp_logic.specs.Terms.{Tm}
use Rattle.rp_logic.specs.Elements.{Elem}
use Rattle.rp_logic.specs.Truth.{Meaning, Holds}
use Rattle.rp_logic.proofs.SortLaws.{no}
use Rattle.crdt_enc.specs.Ways.{Way, Root, AtField, AtKey, depth}
use Rattle.crdt_enc.specs.QueryFormulas.{untrue, answer_formula, ask_formula, query_by, query_formula}
use Rattle.crdt_enc.specs.FitsParts.{FitsCalls, FitsView}
use Rattle.crdt_enc.specs.means.Counting.{Both, terms, counted, EachBoth, Read, KeysRead, WayFits, CallsFit}
use Rattle.crdt_enc.proofs.QuestionLaws.{Leaf, add-wins, remove-wins, many-values, some-counts}

abbrev pub terms_of : List Both → List Tm
terms_of [] = []
terms_of (b ∷ bs) = b.term ∷ terms_of bs

abbrev pub vals_of : List Both → List Val
vals_of [] = []
vals_of (b ∷ bs) = b.val ∷ vals_of bs

-- each term has the element of its value
abbrev pub AllRead : Meaning → List Elem → List Both → Type 0
AllRead M base bs = EachBoth (Read M base) bs

-- the arguments fit where operations hold theirs
abbrev pub LeafFits : Prog → Way Both → Question → List Both → Type 0
LeafFits p w AddWins (x ∷ []) = Leaf p w Add x.val × Leaf p w Remove x.val
LeafFits p w RemoveWins (x ∷ []) = Leaf p w Add x.val × Leaf p w Remove x.val
LeafFits p w ManyValues (x ∷ []) = Leaf p w Assign x.val
LeafFits p w (asks.AtKey winner) (k ∷ []) = WayFits p (AtKey winner k w)
LeafFits p w _ _ = Unit {0}

abbrev pub AskFits : Prog → QueryKind → Option Cr → List PathStep → Way Both → List Both → Type 0
AskFits p kind None path w args = Unit {0}
AskFits p kind (Some crdt) [] w args = LeafFits p w (question crdt kind) args
AskFits p kind (Some crdt) (Field n ∷ path) w args = AskFits p kind (field_in crdt n) path (AtField n w) args
AskFits p kind (Some crdt) (Key ty ∷ path) w [] = Unit {0}
AskFits p kind (Some crdt) (Key ty ∷ path) w (k ∷ args) = WayFits p (AtKey (winner_in crdt) k w) × AskFits p kind (held_in crdt) path (AtKey (winner_in crdt) k w) args

module _ (p : Prog) (M : Meaning) (h : List Call) (view : ℕ) (visible : ℕ → Bool) (base : List Elem) (fits : FitsCalls p M h) (seen : FitsView M h view visible) (typed : CallsFit p h) where
  untrue-is : Holds M base untrue ↔ (false ≡ true)
  untrue-is = ((λ k. absurd (k tt)), λ e. no e)

  answer-is : (w : Way Both) → WayFits p w → KeysRead M base w → (q : Question) (args : List Both) → AllRead M base args → LeafFits p w q args
      → Holds M base (answer_formula p view (terms w) q (terms_of args)) ↔ (is_true (answer_at p.ops h (depth (terms w)) (counted p.ops h visible w) q (vals_of args)) ≡ true)
  answer-is w f k AddWins (x ∷ []) r l = add-wins p M h view visible base fits seen typed w f k x r.0 l.0 l.1
  answer-is w f k RemoveWins (x ∷ []) r l = remove-wins p M h view visible base fits seen typed w f k x r.0 l.0 l.1
  answer-is w f k ManyValues (x ∷ []) r l = many-values p M h view visible base fits seen typed w f k x r.0 l
  answer-is w f k (asks.AtKey winner) (x ∷ []) r l = some-counts p M h view visible base fits seen typed (AtKey winner x w) l (k, r.0)
  answer-is w f k AddWins [] r l = untrue-is
  answer-is w f k AddWins (x ∷ y ∷ ys) r l = untrue-is
  answer-is w f k RemoveWins [] r l = untrue-is
  answer-is w f k RemoveWins (x ∷ y ∷ ys) r l = untrue-is
  answer-is w f k ManyValues [] r l = untrue-is
  answer-is w f k ManyValues (x ∷ y ∷ ys) r l = untrue-is
  answer-is w f k (asks.AtKey winner) [] r l = untrue-is
  answer-is w f k (asks.AtKey winner) (x ∷ y ∷ ys) r l = untrue-is
  answer-is w f k Latest [] r l = untrue-is
  answer-is w f k Latest (x ∷ xs) r l = untrue-is
  answer-is w f k Total [] r l = untrue-is
  answer-is w f k Total (x ∷ xs) r l = untrue-is
  answer-is w f k NoQuestion [] r l = untrue-is
  answer-is w f k NoQuestion (x ∷ xs) r l = untrue-is

  pub ask-is : (kind : QueryKind) (crdt : Option Cr) (path : List PathStep) (w : Way Both) (args : List Both) → WayFits p w → KeysRead M base w → AllRead M base args → AskFits p kind crdt path w args
      → Holds M base (ask_formula p view kind crdt path (terms w) (terms_of args)) ↔ (is_true (ask p.ops h kind crdt path (depth (terms w)) (counted p.ops h visible w) (vals_of args)) ≡ true)
  ask-is kind None path w args f k r l = untrue-is
  ask-is kind (Some crdt) [] w args f k r l = answer-is w f k (question crdt kind) args r l
  ask-is kind (Some crdt) (Field n ∷ path) w args f k r l = ask-is kind (field_in crdt n) path (AtField n w) args f k r l
  ask-is kind (Some crdt) (Key ty ∷ path) w [] f k r l = untrue-is
  ask-is kind (Some crdt) (Key ty ∷ path) w (x ∷ args) f k r l = ask-is kind (held_in crdt) path (AtKey (winner_in crdt) x w) args l.0 (k, r.0) r.1 l.1

  -- The law of queries: in each structure that fits the calls, at a relation that is the view, and over terms with the
  -- elements of the arguments.
  pub query-is : (n : ℕ) (query : QueryDecl) (args : List Both) → slice_get p.queries n ≡ Some query → AllRead M base args
      → AskFits p query.kind (root_crdt (slice_get p.roots query.root)) query.path (Root query.root) args
      → Holds M base (query_formula p view n (terms_of args)) ↔ (is_true (answer_in p n h visible (vals_of args)) ≡ true)
  query-is n query args e r l =
      let a = ask-is query.kind (root_crdt (slice_get p.roots query.root)) query.path (Root query.root) args tt tt r l in (
        (λ k. ap (λ q. is_true (answer_by p q h visible (vals_of args))) e ∙ a.0 (there k)),
        λ k. back (a.1 (ap (λ q. is_true (answer_by p q h visible (vals_of args))) (sym e) ∙ k)),
      )
    where
      there : Holds M base (query_formula p view n (terms_of args)) → Holds M base (query_by p view (Some query) (terms_of args))
      there k = subst (λ o. Holds M base (query_by p view o (terms_of args))) e k

      back : Holds M base (query_by p view (Some query) (terms_of args)) → Holds M base (query_formula p view n (terms_of args))
      back k = subst (λ o. Holds M base (query_by p view o (terms_of args))) (sym e) k
