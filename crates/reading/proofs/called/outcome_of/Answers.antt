use Rattle.std.proofs.Common.{◌≡◌, List, [], ◌∷◌, ◌++◌, map, sym, ap, subst, ◌∙◌}
use Rattle.std.proofs.lemmas.List.{map_push}
use Rattle.text_names.proofs.Entries.{if_ok}
use Rattle.query_bodies.specs.Terms.{Te}
use Rattle.query_bodies.specs.Views.{body_view, term_view, tes_of}
use Rattle.query_laws.specs.Sight.{IsOutcome}
use Rattle.reading.proofs.Stored.{outcome_last}
use Rattle.reading.proofs.called.outcome_of.Goals as goal

pub returns-in-Some : goal.returns-in-Some
returns-in-Some c =
    let proc = c.args.proc in
    let all : map term_view c.args.args ≡ map term_view c.pop.new.self ++ term_view c.in-Some.value ∷ [] =
    ap (map term_view) c.in-Some.ensures ∙ map_push term_view c.pop.new.self c.in-Some.value in
    if_ok c.outcome_with.result
    (λ m is. subst (λ (l : List Te). IsOutcome proc (tes_of l) (body_view m)) (sym all)
    (outcome_last proc (map term_view c.pop.new.self) (term_view c.in-Some.value) (body_view m) is))
    c.outcome_with.ensures
