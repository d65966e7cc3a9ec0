use Rattle.std.proofs.Common.{◌≡◌, List, [], ◌∷◌, reverse, subst, sym, ap}
use Rattle.std.proofs.lemmas.Result.{err_from_is_err_and}
use Rattle.rp_lang.specs.Views.{exprs_view}
use Rattle.rp_lang.specs.Exprs.{Exs}
use Rattle.query_bodies.specs.Terms.{Tes}
use Rattle.query_bodies.specs.Views.{terms_view}
use Rattle.lower_procs.proofs.Simple.{stopped}
use Rattle.lower_procs.proofs.Terms.{ArgsWay, args_begin, args_end, args_go_on, args_past, made_push, popped, turned_back}
use Rattle.lower_procs.proofs.stmts.made_args.Goals as goal

pub loop-arg-init : goal.loop-arg-init
loop-arg-init c measured wanted e =
    let m = c.args.maker.now in
    subst (λ (t : Tes). ArgsWay m wanted t m (exprs_view c.new-made.result)) (sym (turned_back c.args.args c.in_ok-turned.turned c.in_ok-turned.ensures))
    (subst (λ (x : Exs). ArgsWay m wanted (terms_view c.args.args) m x) (sym (ap (λ l. exprs_view l) c.new-made.ensures))
    (args_begin m (terms_view c.args.args) wanted e))

pub loop-arg-preserved : goal.loop-arg-preserved
loop-arg-preserved c measured wanted e =
    let m = c.args.maker.now in
    let way = subst (λ (t : Tes). ArgsWay m wanted t c.loop-arg.maker (exprs_view c.loop-arg.made))
    (popped c.loop-arg.turned c.pop.new.self c.in-Some.arg c.in-Some.ensures) (c.loop-arg.invariant measured wanted e) in
    subst (λ (x : Exs). ArgsWay m wanted (terms_view (reverse c.pop.new.self)) c.made_arg.new.maker x)
    (sym (made_push c.loop-arg.made c.push.new.self c.in_ok-e.e c.in_ok-push.ensures.ok)) (args_go_on way measured c.in_ok-e.ensures.made)

pub returns-clause-made : goal.returns-clause-made
returns-clause-made c measured wanted e =
    args_end (subst (λ (t : Tes). ArgsWay c.args.maker.now wanted t c.loop-arg.maker (exprs_view c.loop-arg.made))
    (ap (λ l. terms_view (reverse l)) c.in_default.ensures.0) (c.loop-arg.invariant measured wanted e))

pub returns-in_err-e-clause-nodes : goal.returns-in_err-e-clause-nodes
returns-in_err-e-clause-nodes c err measured wanted e =
    let way = subst (λ (t : Tes). ArgsWay c.args.maker.now wanted t c.loop-arg.maker (exprs_view c.loop-arg.made))
    (popped c.loop-arg.turned c.pop.new.self c.in-Some.arg c.in-Some.ensures) (c.loop-arg.invariant measured wanted e) in
    args_past way measured
    (c.in_err-e.ensures.nodes (stopped (err_from_is_err_and c.from_residual-in_err-e.result c.from_residual-in_err-e.ensures.1) err))
