-- How large values are, and what is told of them by measures of what becomes them.
use Rattle.std.specs.Prelude.{◌≡◌, ◌<◌, ◌≤◌, ◌↔◌, ℕ, ◌*◌, List, take, length, Option, Some}
use Rattle.rp_value.specs.declared.tables.ConTable.{ConTable}
use Rattle.rp_grammar.specs.Trees.{QueryTree, DeclTree}
use Rattle.rp_lang.specs.Sizes.{ex_depth, ex_nodes, fo_depth, fo_nodes}
use Rattle.rp_lang.specs.Bounds.{fo_binders}
use Rattle.rp_lang.specs.Types.{fields_of}
use Rattle.type_rules.specs.Accesses.{query_params}
use Rattle.desugaring.specs.Values.{Value, term, formula, reads}
use Rattle.query_bodies.specs.declared.bodies.Facts.{Facts}
use Rattle.query_bodies.specs.Terms as te
use Rattle.query_bodies.specs.Terms.{Te, Tes, no_te, also_te, Cl, Cls, no_cl, also_cl, ClArms, no_cl_arm, also_cl_arm, Said, said_term, said_claim}
use Rattle.query_bodies.specs.Expanded as put
use Rattle.query_bodies.specs.Expanded.{Uses, Given, Saids, said_at, said_under, uses_in}
use Rattle.query_bodies.specs.Measures.{Known, measured, most}
use Rattle.query_laws.specs.Sight.{Follows}
use Rattle.query_laws.specs.Whole.{IsQueryAt}

-- # Values

abbrev pub depth_of : Value → ℕ
depth_of (term e) = ex_depth e
depth_of (formula f) = fo_depth f

abbrev pub binders_of : ConTable → Value → ℕ
binders_of cons (term e) = 0
binders_of cons (formula f) = fo_binders cons f

abbrev pub nodes_of : Value → ℕ
nodes_of (term e) = ex_nodes e
nodes_of (formula f) = fo_nodes f

-- What is told of a value: below the greatest count which limits its depth and its binders pass, whether it reads, and its nodes,
-- each of which is counted once at least, and all of them not more than twice as often as they are.
pub record AreTold (cons : ConTable) (v : Value) (told : Facts) : Type 0 where
  pub depth : (limit : ℕ) → limit < most → (told.depth ≤ limit) ↔ (depth_of v ≤ limit)
  pub binders : (limit : ℕ) → limit < most → (told.binders ≤ limit) ↔ (binders_of cons v ≤ limit)
  pub reads_is : told.reads ≡ reads v
  pub least : (limit : ℕ) → limit < most → told.nodes ≤ limit → nodes_of v ≤ limit
  pub greatest : told.nodes ≤ 2 * nodes_of v

-- # What is measured

-- the query's body is a formula
abbrev pub IsClaimAt : Saids → ℕ → Type 0
IsClaimAt bodies decl = (f : Cl) × (said_at bodies decl ≡ Some (said_claim f))

-- arms bind the fields of their constructors, and what is used as a formula is one
abbrev mutual
  pub claim_fits : ConTable → Saids → Cl → Type 0
  claim_fits cons bodies (te.And parts) = claims_fit cons bodies parts
  claim_fits cons bodies (te.Or parts) = claims_fit cons bodies parts
  claim_fits cons bodies (te.Not part) = claim_fits cons bodies part
  claim_fits cons bodies (te.Implies a b) = claim_fits cons bodies a × claim_fits cons bodies b
  claim_fits cons bodies (te.All ty body) = claim_fits cons bodies body
  claim_fits cons bodies (te.Any ty body) = claim_fits cons bodies body
  claim_fits cons bodies (te.Holds e) = Unit {0}
  claim_fits cons bodies (te.Equal a b) = Unit {0}
  claim_fits cons bodies (te.Less a b) = Unit {0}
  claim_fits cons bodies (te.AtMost a b) = Unit {0}
  claim_fits cons bodies (te.Visible e) = Unit {0}
  claim_fits cons bodies (te.Before a b) = Unit {0}
  claim_fits cons bodies (te.Same a b) = Unit {0}
  claim_fits cons bodies (te.Match on arms) = arms_fit cons bodies arms
  claim_fits cons bodies (te.UseCl decl args) = IsClaimAt bodies decl

  pub claims_fit : ConTable → Saids → Cls → Type 0
  claims_fit cons bodies no_cl = Unit {0}
  claims_fit cons bodies (also_cl f fs) = claim_fits cons bodies f × claims_fit cons bodies fs

  pub arms_fit : ConTable → Saids → ClArms → Type 0
  arms_fit cons bodies no_cl_arm = Unit {0}
  arms_fit cons bodies (also_cl_arm con binds body rest) =
      (length (fields_of cons con) ≡ binds) × claim_fits cons bodies body × arms_fit cons bodies rest

abbrev pub Fits : ConTable → Saids → Said → Type 0
Fits cons bodies (said_term e) = Unit {0}
Fits cons bodies (said_claim f) = claim_fits cons bodies f

-- # What parameters it has

-- further arguments change nothing
abbrev pub Keeps : {X : Type 0} → ℕ → (Given → ℕ → Option X) → Type 0
Keeps n f = (given : Given) (bound : ℕ) → Follows (f given bound) (f (take n given) bound)

abbrev pub IsOver : Uses → ℕ → Said → Type 0
IsOver uses n s = Keeps n (λ given bound. said_under uses given bound s)

abbrev pub TermOver : Uses → ℕ → Te → Type 0
TermOver uses n e = Keeps n (λ given bound. put.term uses given bound e)

-- each of the terms
abbrev pub TermsOver : Uses → ℕ → Tes → Type 0
TermsOver uses n no_te = Unit {0}
TermsOver uses n (also_te e es) = TermOver uses n e × TermsOver uses n es

abbrev pub ClaimOver : Uses → ℕ → Cl → Type 0
ClaimOver uses n f = Keeps n (λ given bound. put.claim uses given bound f)

abbrev pub ClaimsOver : Uses → ℕ → Cls → Type 0
ClaimsOver uses n fs = Keeps n (λ given bound. put.claims uses given bound fs)

abbrev pub ArmsOver : Uses → ℕ → ClArms → Type 0
ArmsOver uses n arms = Keeps n (λ given bound. put.arms_of uses given bound arms)

-- # Bodies

-- the query's body was added with so many parameters, measured by what is known of the queries before
pub record IsAdded (k : Known) (decl params : ℕ) (s : Said) : Type 0 where
  pub below : Known
  pub before : (d : ℕ) → d < decl → below d ≡ k d
  pub is : k decl ≡ Some (measured below params s)

-- so it is what was added for each query of the text, with the parameters that this has
pub record IsAddedOf (tree : List DeclTree) (k : Known) (decl : ℕ) (s : Said) : Type 0 where
  pub query : QueryTree
  pub there : IsQueryAt tree decl query
  pub added : IsAdded k decl (length (query_params query)) s

abbrev pub AreAdded : List DeclTree → Saids → Known → Type 0
AreAdded tree bodies k = (decl : ℕ) (s : Said) → said_at bodies decl ≡ Some s → IsAddedOf tree k decl s

-- the body of the next declaration, if it is a query
pub record IsNextAdded (tree : List DeclTree) (bodies : Saids) (k later : Known) (s : Said) : Type 0 where
  pub query : QueryTree
  pub there : IsQueryAt tree (length bodies) query
  pub is : later (length bodies) ≡ Some (measured k (length (query_params query)) s)

-- it tells what a use becomes: it fits, and is over those parameters
pub record IsMeasured (cons : ConTable) (bodies : Saids) (k : Known) (decl : ℕ) (s : Said) : Type 0 where
  pub params : ℕ
  pub added : IsAdded k decl params s
  pub fits : Fits cons bodies s
  pub over : IsOver (uses_in bodies decl) params s

abbrev pub AreMeasured : ConTable → Saids → Known → Type 0
AreMeasured cons bodies k = (decl : ℕ) (s : Said) → said_at bodies decl ≡ Some s → IsMeasured cons bodies k decl s
