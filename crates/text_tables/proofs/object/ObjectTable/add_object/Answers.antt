use Rattle.std.proofs.Common.{ℕ, List, ◌++◌, ◌∷◌, [], sym, subst, arith}
use Rattle.type_tables.proofs.Seen.{not_failed}
use Rattle.text_tables.specs.declared.object.Object.{Object}
use Rattle.text_tables.specs.means.Counted.{object}
use Rattle.text_tables.specs.means.Kept.{AreFound}
use Rattle.text_tables.proofs.Adding.{found_more}
use Rattle.text_tables.proofs.object.ObjectTable.add_object.Goals as goal

pub invariant_of-self-2 : goal.invariant_of-self-2
invariant_of-self-2 c =
    let self = c.args.self.now in
    let from = c.args.from in
    let o : Object = object from self.ops self.queries in
    let pushed = not_failed c.push-2.result c.if-is_err.ensures.value c.push-2.ensures.ok in
    record {
      found = subst (λ (ss : List ℕ). AreFound ss c.in_ok-end.end c.push-2.new.self) (sym c.in_ok-push.ensures.ok)
          (subst (λ (os : List Object). AreFound (self.starts ++ from ∷ []) c.in_ok-end.end os) (sym pushed)
          (subst (λ e. AreFound (self.starts ++ from ∷ []) e (self.objects ++ o ∷ [])) (sym c.in_ok-end.ensures)
          (found_more self.starts self.end self.objects o self.found (omega (arith, c.if-from-self.false)))));
    }
