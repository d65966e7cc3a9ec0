use Rattle.std.proofs.Common.{List, ℕ, [], ◌∷◌, ◌++◌, length, ◌∙◌, ap, arith}
use Rattle.std.proofs.lemmas.List.{length_push}
use Rattle.machine_tests.specs.means.Indexed.{listed_at}
use Rattle.machine_tests.proofs.IndexLemmas.{at_grown}
use Rattle.machine_tests.proofs.lists.grow.Goals as goal

pub loop-more-preserved : goal.loop-more-preserved
loop-more-preserved c =
    let lists : List (List ℕ) = c.loop-more.lists.items in
    let more = ap length c.in_ok-push.ensures.items in
    let one = length_push lists c.new.result in
    record {
      count = omega (arith, more, one, c.loop-more.invariant.count);
      same = λ n.
          ap (λ (ls : List (List ℕ)). listed_at ls n) c.in_ok-push.ensures.items
          ∙ ap (λ (x : List ℕ). listed_at (lists ++ x ∷ []) n) c.new.ensures
          ∙ at_grown lists n
          ∙ c.loop-more.invariant.same n;
    }

pub returns-in_err-push-clause-same : goal.returns-in_err-push-clause-same
returns-in_err-push-clause-same c = λ n. ap (λ (ls : List (List ℕ)). listed_at ls n) c.in_err-push.ensures.items ∙ c.loop-more.invariant.same n

pub returns-clause-there : goal.returns-clause-there
returns-clause-there c = omega (arith, c.loop-more.invariant.count)
