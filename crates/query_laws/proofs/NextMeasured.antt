-- The measures of bodies, one declaration after another.
use Rattle.std.proofs.Common.{◌≡◌, ◌<◌, ◌==◌, ℕ, zero, suc, Bool, true, false, List, [], ◌∷◌, ◌++◌, length, Option, Some, refl, ap, sym, subst, ◌∙◌, arith, eqb-true}
use Rattle.std.proofs.lemmas.List.{length_push}
use Rattle.rp_value.specs.declared.tables.ConTable.{ConTable}
use Rattle.rp_grammar.specs.Trees.{DeclTree}
use Rattle.type_rules.specs.Accesses.{query_params}
use Rattle.query_bodies.specs.Terms.{Said}
use Rattle.query_bodies.specs.Expanded.{Saids, said_at, uses_in}
use Rattle.query_bodies.specs.Measures.{Known, params_in}
use Rattle.query_laws.specs.Told.{Fits, IsOver, IsAdded, IsAddedOf, AreAdded, IsNextAdded, AreMeasured}
use Rattle.query_laws.proofs.Bodies.{said_before, said_last}
use Rattle.query_laws.proofs.Lengths.{measured_length}

said_below : (bodies : Saids) (decl : ℕ) (s : Said) → said_at bodies decl ≡ Some s → decl < length bodies
said_below [] decl s e = absurd cc
said_below (o ∷ bodies) zero s e = omega arith
said_below (o ∷ bodies) (suc decl) s e = let lt = said_below bodies decl s e in omega (arith, lt)

-- # One declaration after another

pub none_added : (tree : List DeclTree) (k : Known) → AreAdded tree [] k
none_added tree k decl s e = absurd cc

pub next_added : (tree : List DeclTree) (bodies : Saids) (k later : Known) (o : Option Said) → AreAdded tree bodies k
    → ((d : ℕ) → d < length bodies → later d ≡ k d) → ((s : Said) → o ≡ Some s → IsNextAdded tree bodies k later s)
    → AreAdded tree (bodies ++ o ∷ []) later
next_added tree bodies k later o all same next decl s there = by_place (decl == length bodies) refl where
  by_place : (here : Bool) → (decl == length bodies) ≡ here → IsAddedOf tree later decl s
  by_place true e =
      let at : decl ≡ length bodies = eqb-true decl (length bodies) e in
      let n = next s (sym (said_last bodies o decl at) ∙ there) in
      subst (λ d. IsAddedOf tree later d s) (sym at) (record {
        query = n.query;
        there = n.there;
        added = record { below = k; before = λ d lt. sym (same d lt); is = n.is };
      })
  by_place false e =
      let len = length_push bodies o in
      let within = said_below (bodies ++ o ∷ []) decl s there in
      let less : decl < suc (length bodies) = omega (arith, within, len) in
      let lt : decl < length bodies = grind (arith, e, less) in
      let m = all decl s (sym (said_before bodies (o ∷ []) decl lt) ∙ there) in
      record {
        query = m.query;
        there = m.there;
        added = record {
          below = m.added.below;
          before = λ d below. m.added.before d below ∙ sym (same d (omega (arith, below, lt)));
          is = same decl lt ∙ m.added.is;
        };
      }

-- # All of them

-- the parameters that it was added with
params_added : (k : Known) (decl n : ℕ) (s : Said) → IsAdded k decl n s → params_in (k decl) ≡ n
params_added k decl n s added = ap params_in added.is ∙ measured_length added.below n s

pub added_measured : (cons : ConTable) (tree : List DeclTree) (bodies : Saids) (k : Known) → AreAdded tree bodies k
    → ((decl : ℕ) (s : Said) → said_at bodies decl ≡ Some s → Fits cons bodies s)
    → ((decl : ℕ) (s : Said) → said_at bodies decl ≡ Some s → IsOver (uses_in bodies decl) (params_in (k decl)) s)
    → AreMeasured cons bodies k
added_measured cons tree bodies k all fit over decl s there =
    let m = all decl s there in
    let n = length (query_params m.query) in
    record {
      params = n;
      added = m.added;
      fits = fit decl s there;
      over = subst (λ n. IsOver (uses_in bodies decl) n s) (params_added k decl n s m.added) (over decl s there);
    }
