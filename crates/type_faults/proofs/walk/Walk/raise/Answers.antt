use Rattle.std.proofs.Common.{refl, sym, ap, ◌∙◌}
use Rattle.std.specs.Option.{option_map}
use Rattle.rp_ast.specs.View.{stmt_view}
use Rattle.type_tables.specs.Counts.{count_in, one_more}
use Rattle.type_faults.specs.Walks.{listed, own_names}
use Rattle.type_faults.proofs.Later.{none_raised, raised}
use Rattle.type_faults.proofs.walk.Walk.raise.Goals as goal

pub returns-in_ok-raise-in-Some : goal.returns-in_ok-raise-in-Some
returns-in_ok-raise-in-Some c =
    let w = c.args.self.now in
    let own = sym c.declared_in.ensures ∙ ap (λ o. listed (option_map (λ name. name.now.text) o)) c.in-Some.is in
    record {
      counts = raised w.later c.raise.new.self c.in-Some.name.now.text (own_names (stmt_view c.args.stmt.now))
          (c.in_ok-raise-in-Some.ensures ∙ ap (λ y. one_more y (count_in w.later)) c.as_slice.ensures.items) own;
      stands = refl;
      used = refl;
    }

pub returns-in-None : goal.returns-in-None
returns-in-None c =
    let own = sym c.declared_in.ensures ∙ ap (λ o. listed (option_map (λ name. name.now.text) o)) c.in-None.is in
    record {
      counts = none_raised c.args.self.now.later (own_names (stmt_view c.args.stmt.now)) own;
      stands = refl;
      used = refl;
    }
