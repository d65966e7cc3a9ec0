-- Declarations from the last to the first.
use Rattle.std.proofs.Common.{◌≡◌, ℕ, ◌+◌, List, [], ◌∷◌, ◌++◌, Option, None, sym, ap, ap₂, ◌∙◌, subst}
use Rattle.rp_span.specs.declared.Span.{Span}
use Rattle.rp_grammar.specs.Trees.{DeclForm, DeclTree}
use Rattle.type_rules.specs.declared.fault.Fault.{Fault}
use Rattle.type_rules.specs.Names.{Names}
use Rattle.type_rules.specs.TextSites.{inner_sites, used_from}
use Rattle.type_rules.specs.Faults.{first, sooner}
use Rattle.type_rules.proofs.Order.{first_append}
use Rattle.type_tables.specs.Counts.{IsCounted}
use Rattle.type_tables.specs.Marks.{IsMarked}
use Rattle.type_faults.specs.declared.walk.Walk.{Walk}
use Rattle.type_faults.specs.Texts.{Enters, inner_from, used_with}
use Rattle.type_faults.specs.Walks.{names_at}
use Rattle.type_faults.proofs.Named.{used_is}

-- the declarations from number k on were walked
pub record EnteredSo (n : Names) (w : Walk) (best : Option Fault) (k : ℕ) (rest : List DeclTree) : Type 0 where
  pub names : names_at w ≡ n
  pub counted : IsCounted w.later []
  pub marked : IsMarked w.used (used_from n k rest)
  pub fault_is : best ≡ first n (inner_from n k rest)

pub entered_none : {n : Names} {w : Walk} (k : ℕ) (rest : List DeclTree) → names_at w ≡ n → IsCounted w.later [] → IsMarked w.used [] → rest ≡ []
    → EnteredSo n w None k rest
entered_none {n} {w} k rest e counted marked is = record {
  names = e;
  counted = counted;
  marked = subst (λ l. IsMarked w.used (used_from n k l)) (sym is) marked;
  fault_is = ap (λ l. first n (inner_from n k l)) (sym is);
}

pub entered_next : {n : Names} {w v : Walk} {best f h : Option Fault} {at : Span} {form : DeclForm} {rest all : List DeclTree} (k m : ℕ)
    → EnteredSo n w best m rest → m ≡ k + 1 → Enters (used_from n m rest) k w v f form → h ≡ sooner f best
    → all ≡ DeclTree.node at form ∷ rest → EnteredSo n v h k all
entered_next {n} {w} {v} {best} {f} {h} {at} {form} {rest} {all} k m before e entered is split =
    let used : used_from n k all ≡ used_with n k form (used_from n m rest) =
    ap (used_from n k) split ∙ used_is n k at form rest ∙ ap (λ m. used_with n k form (used_from n m rest)) (sym e) in
    let inside = inner_sites n k (used_from n m rest) form in
    let sites : inner_from n k all ≡ inside ++ inner_from n m rest =
    ap (inner_from n k) split ∙ ap (λ m. inner_sites n k (used_from n m rest) form ++ inner_from n m rest) (sym e) in
    let own : f ≡ first n inside = entered.fault_is ∙ ap (λ n'. first n' (inner_sites n' k (used_from n m rest) form)) before.names in
    record {
      names = entered.names ∙ before.names;
      counted = entered.counted;
      marked = subst (IsMarked v.used) (ap (λ n'. used_with n' k form (used_from n m rest)) before.names ∙ sym used) entered.marked;
      fault_is = is ∙ ap₂ sooner own before.fault_is ∙ sym (first_append n inside (inner_from n m rest)) ∙ ap (first n) (sym sites);
    }
