use Rattle.std.proofs.Common.{List, ℕ, ◌∙◌, ap}
use Rattle.std.proofs.lemmas.Result.{on_ok_weaker, on_err_weaker}
use Rattle.machine_tests.specs.means.Indexed.{listed_at}
use Rattle.machine_tests.proofs.IndexLemmas.{noted, at_place}
use Rattle.machine_tests.proofs.lists.note.Goals as goal

pub returns : goal.returns
returns c =
    let lists : List (List ℕ) = c.grow.new.lists.items in
    let place = c.args.place in
    let there = c.in_ok-grow.ensures.there in
    let same = c.in_ok-grow.ensures.same in
    record {
      ok = on_ok_weaker c.add.result (λ e n.
          ap (λ (ls : List (List ℕ)). listed_at ls n) (e (listed_at lists place) (at_place lists place there))
          ∙ noted lists (listed_at c.args.lists.now.items) place c.args.x there same n) c.add.ensures.ok;
      err = on_err_weaker c.add.result (λ e n. ap (λ (ls : List (List ℕ)). listed_at ls n) e ∙ same n) c.add.ensures.err;
    }
