use Rattle.std.proofs.Common.{◌≡◌, ℕ, List, length, refl, sym, ap, ◌∙◌, subst}
use Rattle.type_tables.specs.Tables.{number_in, without}
use Rattle.type_tables.proofs.Seen.{not_failed}
use Rattle.text_names.specs.declared.declared.Item.{Item}
use Rattle.text_names.specs.Indexed.{IsIndexed}
use Rattle.text_names.proofs.Entries.{taken_more}
use Rattle.text_names.proofs.Tables.{failed, index_back, indexed_one, pushed_back}
use Rattle.text_names.proofs.names.TextNames.add_item.Goals as goal

pub invariant_of-self-then-is_err : goal.invariant_of-self-then-is_err
invariant_of-self-then-is_err c =
    let names = c.args.self.now in
    let item : Item = record { name = c.as_slice-name.result; decl = c.args.decl; what = c.args.what } in
    let back : c.pop-gone.new.self ≡ names.items =
    pushed_back names.items c.push_named.new.items c.pop-gone.new.self item c.pop-gone.result c.in_ok-push_named.ensures.ok c.pop-gone.ensures in
    let taken : c.take.new.taken ≡ names.taken = failed c.take.result c.if-is_err.ensures.value c.take.ensures.err in
    let text : Item → List ℕ = λ e. e.name.now in
    record {
      indexed = subst (λ items. IsIndexed names.types items names.type_numbers c.remove.new.self c.take.new.taken) (sym back)
          (subst (λ taken. IsIndexed names.types names.items names.type_numbers c.remove.new.self taken) (sym taken)
          (record {
            types_found = names.indexed.types_found;
            items_found = index_back text names.items item names.item_numbers c.push_named.new.numbers c.remove.new.self
                names.indexed.items_found c.in_ok-push_named.ensures.numbered
                (c.remove.ensures ∙ ap (λ n. without (number_in c.push_named.new.numbers) (text item) n) c.count-place.ensures.length);
            taken_found = names.indexed.taken_found;
          }));
    }

pub invariant_of-self-else-is_err : goal.invariant_of-self-else-is_err
invariant_of-self-else-is_err c =
    let names = c.args.self.now in
    let item : Item = record { name = c.as_slice-name.result; decl = c.args.decl; what = c.args.what } in
    record {
      indexed = subst (λ items. IsIndexed names.types items names.type_numbers c.push_named.new.numbers c.take.new.taken)
          (sym c.in_ok-push_named.ensures.ok)
          (record {
            types_found = names.indexed.types_found;
            items_found = indexed_one (λ e. e.name.now) names.items item (length names.items) names.item_numbers
                c.push_named.new.numbers names.indexed.items_found refl c.in_ok-push_named.ensures.numbered;
            taken_found = taken_more names.items item names.taken c.take.new.taken c.args.decl names.indexed.taken_found
                (not_failed c.take.result c.if-is_err.ensures.value c.take.ensures.ok);
          });
    }
