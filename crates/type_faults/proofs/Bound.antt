-- Variables of a pattern and parameters, one behind another.
use Rattle.std.proofs.Common.{◌≡◌, ℕ, ◌+◌, List, [], ◌∷◌, ◌++◌, drop, Option, Some, None, refl, sym, ap, ap₂, ◌∙◌, append_assoc, append-nil}
use Rattle.rp_grammar.specs.Trees.{Ident, ParamTree}
use Rattle.type_rules.specs.declared.kind.Kind.{Kind}
use Rattle.type_rules.specs.declared.fault.Fault.{Fault}
use Rattle.type_rules.specs.Names.{Name, Names, param_name}
use Rattle.type_rules.specs.Sites.{Site}
use Rattle.type_rules.specs.Flow.{Sight}
use Rattle.type_rules.specs.Queries.{param_var, param_vars}
use Rattle.type_rules.specs.DeclSites.{declares_all}
use Rattle.std.specs.Option.{option_map, option_map_or, unwrap_or}
use Rattle.type_rules.specs.Matches.{Case, bound_sites, bound_var, case_fields, first_kind, other_kinds, with_bound}
use Rattle.type_terms.specs.declared.cases.Case as code_case
use Rattle.type_terms.specs.Views.{fields_of}
use Rattle.type_rules.specs.Faults.{sooner}
use Rattle.type_tables.specs.Counts.{IsCounted}
use Rattle.type_faults.specs.declared.walk.Walk.{Walk}
use Rattle.type_faults.specs.Walks.{Stand, Walks, names_at, sight_of, stand_of}
use Rattle.type_faults.proofs.Lists.{other_drop}
use Rattle.type_faults.proofs.Walked.{both, here, recast}

pub record BoundSo (later : List Name) (a b : Walk) (best : Option Fault) (place : ℕ) (rest all : List Ident) (kinds : List Kind) : Type 0 where
  pub done : Stand → List Site
  pub to : Stand → Sight
  pub walks : Walks later a b best done to
  pub whole : done (stand_of a) ++ bound_sites (to (stand_of a)).vars rest (drop place kinds) ≡ bound_sites a.vars all kinds
  pub ends : record (to (stand_of a)) { vars = with_bound (to (stand_of a)).vars rest (drop place kinds) }
      ≡ record (sight_of a) { vars = with_bound a.vars all kinds }

pub bound_started : {later : List Name} {a : Walk} {all : List Ident} {kinds : List Kind} → IsCounted a.later later
    → BoundSo later a a None 0 all all kinds
bound_started {later} counted = record {
  done = λ p. [];
  to = λ p. p.sight;
  walks = here {later = later} (λ p. []) refl refl counted;
  whole = refl;
  ends = refl;
}

pub bound_next : {later : List Name} {a b c : Walk} {best f h : Option Fault} {place next : ℕ} {x : Ident} {rest all : List Ident} {kinds : List Kind} {kind : Kind}
    → BoundSo later a b best place (x ∷ rest) all kinds
    → Walks later b c f (λ p. Site.declares p.sight.vars x ∷ []) (λ p. record p.sight { vars = p.sight.vars ++ bound_var x kind ∷ [] })
    → kind ≡ first_kind (drop place kinds) → h ≡ sooner best f → next ≡ place + 1
    → BoundSo later a c h next rest all kinds
bound_next {later} {a} {b} {c} {best} {f} {h} {place} {next} {x} {rest} {all} {kinds} {kind} v walk is e m =
    let p = stand_of a in
    let vars = (v.to p).vars in
    let one = bound_var x kind in
    let kinds_are : other_kinds (drop place kinds) ≡ drop next kinds = other_drop kinds place next m in
    let own = ap (λ k. vars ++ bound_var x k ∷ []) is in
    record {
      done = λ p. v.done p ++ Site.declares (v.to p).vars x ∷ [];
      to = λ p. record (v.to p) { vars = (v.to p).vars ++ bound_var x kind ∷ [] };
      walks = both v.walks walk e;
      whole = append_assoc (v.done p) (Site.declares vars x ∷ []) (bound_sites (vars ++ one ∷ []) rest (drop next kinds))
          ∙ ap₂ (λ vs ks. v.done p ++ Site.declares vars x ∷ bound_sites vs rest ks) own (sym kinds_are) ∙ v.whole;
      ends = ap₂ (λ vs ks. record (v.to p) { vars = with_bound vs rest ks }) own (sym kinds_are) ∙ v.ends;
    }

-- at the end, for the fields of a constructor
pub bound_ended : {later : List Name} {a b : Walk} {best : Option Fault} {place : ℕ} {rest all : List Ident} (fields : Names → List Kind)
    → BoundSo later a b best place rest all (fields (names_at a)) → rest ≡ []
    → Walks later a b best (λ p. bound_sites p.sight.vars all (fields p.names))
    (λ p. record p.sight { vars = with_bound p.sight.vars all (fields p.names) })
bound_ended {later} {a} {b} {best} {place} {rest} {all} fields v e =
    let p = stand_of a in
    let vars = (v.to p).vars in
    let kinds = drop place (fields (names_at a)) in
    recast (λ p. bound_sites p.sight.vars all (fields p.names)) (λ p. record p.sight { vars = with_bound p.sight.vars all (fields p.names) })
    v.walks
    (sym (append-nil (v.done p)) ∙ ap (λ xs. v.done p ++ bound_sites vars xs kinds) (sym e) ∙ v.whole)
    (ap (λ xs. record (v.to p) { vars = with_bound vars xs kinds }) (sym e) ∙ v.ends)

-- # Parameters

pub record ParamsSo (later : List Name) (a b : Walk) (best : Option Fault) (rest all : List ParamTree) : Type 0 where
  pub done : Stand → List Site
  pub to : Stand → Sight
  pub walks : Walks later a b best done to
  pub whole : done (stand_of a) ++ declares_all (names_at a) (to (stand_of a)).vars rest ≡ declares_all (names_at a) a.vars all
  pub ends : record (to (stand_of a)) { vars = (to (stand_of a)).vars ++ param_vars (names_at a) rest }
      ≡ record (sight_of a) { vars = a.vars ++ param_vars (names_at a) all }

pub params_started : {later : List Name} {a : Walk} {all : List ParamTree} → IsCounted a.later later → ParamsSo later a a None all all
params_started {later} counted = record {
  done = λ p. [];
  to = λ p. p.sight;
  walks = here {later = later} (λ p. []) refl refl counted;
  whole = refl;
  ends = refl;
}

pub params_next : {later : List Name} {a b c : Walk} {best f h : Option Fault} {x : ParamTree} {rest all : List ParamTree}
    → ParamsSo later a b best (x ∷ rest) all
    → Walks later b c f (λ p. Site.declares p.sight.vars (param_name x) ∷ []) (λ p. record p.sight { vars = p.sight.vars ++ param_var p.names x ∷ [] })
    → h ≡ sooner best f → ParamsSo later a c h rest all
params_next {later} {a} {b} {c} {best} {f} {h} {x} {rest} {all} v walk e =
    let p = stand_of a in
    let vars = (v.to p).vars in
    let one = param_var p.names x in
    record {
      done = λ p. v.done p ++ Site.declares (v.to p).vars (param_name x) ∷ [];
      to = λ p. record (v.to p) { vars = (v.to p).vars ++ param_var p.names x ∷ [] };
      walks = both v.walks walk e;
      whole = append_assoc (v.done p) (Site.declares vars (param_name x) ∷ []) (declares_all p.names (vars ++ one ∷ []) rest) ∙ v.whole;
      ends = ap (λ vs. record (v.to p) { vars = vs }) (append_assoc vars (one ∷ []) (param_vars p.names rest)) ∙ v.ends;
    }

pub params_ended : {later : List Name} {a b : Walk} {best : Option Fault} {rest all : List ParamTree}
    → ParamsSo later a b best rest all → rest ≡ []
    → Walks later a b best (λ p. declares_all p.names p.sight.vars all) (λ p. record p.sight { vars = p.sight.vars ++ param_vars p.names all })
params_ended {later} {a} {b} {best} {rest} {all} v e =
    let p = stand_of a in
    let vars = (v.to p).vars in
    recast (λ p. declares_all p.names p.sight.vars all) (λ p. record p.sight { vars = p.sight.vars ++ param_vars p.names all }) v.walks
    (sym (append-nil (v.done p)) ∙ ap (λ xs. v.done p ++ declares_all p.names vars xs) (sym e) ∙ v.whole)
    (ap (λ vs. record (v.to p) { vars = vs }) (sym (append-nil vars))
    ∙ ap (λ xs. record (v.to p) { vars = vars ++ param_vars p.names xs }) (sym e) ∙ v.ends)

-- # Fields

pub fields_are : (n : Names) (case : Option code_case.Case) (found : Option Case)
    → option_map (fields_of n) case ≡ option_map (λ case. case.fields) found → option_map_or (fields_of n) case [] ≡ case_fields found
fields_are n case found e = read case ∙ ap (λ o. unwrap_or o []) e ∙ sym (spec_read found)
  where
    read : (case : Option code_case.Case) → option_map_or (fields_of n) case [] ≡ unwrap_or (option_map (fields_of n) case) []
    read None = refl
    read (Some k) = refl

    spec_read : (found : Option Case) → case_fields found ≡ unwrap_or (option_map (λ (case : Case). case.fields) found) []
    spec_read None = refl
    spec_read (Some k) = refl
