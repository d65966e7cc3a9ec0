-- A use becomes its query's body with the arguments put in.
use Rattle.std.proofs.Common.{◌≡◌, ℕ, ◌<◌, Some, option_map, option_and_then, sym, ap, ◌∙◌}
use Rattle.rp_lang.specs.Exprs.{Ex}
use Rattle.rp_lang.specs.Formulas.{Fo}
use Rattle.desugaring.specs.Values as values
use Rattle.desugaring.specs.Values.{as_term, as_formula}
use Rattle.query_bodies.specs.declared.bodies.Bodies.{Bodies}
use Rattle.query_bodies.specs.declared.expand.Expansion.{Expansion}
use Rattle.query_bodies.specs.Terms.{Te, Cl, said_term, said_claim}
use Rattle.query_bodies.specs.Expanded as spec
use Rattle.query_bodies.specs.Expanded.{Uses, Given, Saids, said_at, said_under, uses_in}
use Rattle.query_bodies.specs.means.Putting.{AreAmong}
use Rattle.query_bodies.specs.Expanding.{uses_before}
use Rattle.query_bodies.specs.Seen.{saids_in}
use Rattle.query_bodies.proofs.Grows.{term_grows, claim_grows, uses_grow, use_below}

pub term_used : (bodies : Saids) (before decl : ℕ) (few all : Given) (body : Te) (made : Ex) (u : Uses) → decl < before
    → AreAmong few all
    → said_at bodies decl ≡ Some (said_term body) → u ≡ uses_in bodies decl → spec.term u few 0 body ≡ Some made
    → option_and_then as_term (uses_in bodies before decl all) ≡ Some made
term_used bodies before decl few all body made u lt among is same found =
    let v = uses_in bodies decl in
    let here : spec.term v few 0 body ≡ Some made = sym (ap (λ w. spec.term w few 0 body) same) ∙ found in
    ap (option_and_then as_term) (use_below bodies before decl all lt ∙ ap (option_and_then (said_under v all 0)) is)
    ∙ ap (λ o. option_and_then as_term (option_map values.term o))
    (term_grows v (uses_grow bodies decl) few all among 0 body made here)

pub claim_used : (bodies : Saids) (before decl : ℕ) (few all : Given) (body : Cl) (made : Fo) (u : Uses) → decl < before
    → AreAmong few all
    → said_at bodies decl ≡ Some (said_claim body) → u ≡ uses_in bodies decl → spec.claim u few 0 body ≡ Some made
    → option_map as_formula (uses_in bodies before decl all) ≡ Some made
claim_used bodies before decl few all body made u lt among is same found =
    let v = uses_in bodies decl in
    let here : spec.claim v few 0 body ≡ Some made = sym (ap (λ w. spec.claim w few 0 body) same) ∙ found in
    ap (option_map as_formula) (use_below bodies before decl all lt ∙ ap (option_and_then (said_under v all 0)) is)
    ∙ ap (λ o. option_map as_formula (option_map values.formula o))
    (claim_grows v (uses_grow bodies decl) few all among 0 body made here)

pub same_uses : (inner : Expansion) (bodies : Bodies) (decl : ℕ) → inner.bodies.now ≡ bodies → inner.before ≡ decl
    → uses_before inner ≡ uses_in (saids_in bodies) decl
same_uses inner bodies decl same before =
    ap (λ (b : Bodies). uses_in (saids_in b) inner.before) same ∙ ap (uses_in (saids_in bodies)) before
