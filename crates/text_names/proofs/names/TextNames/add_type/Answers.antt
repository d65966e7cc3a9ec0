use Rattle.text_names.specs.declared.declared.TypeItem.{TypeItem}
use Rattle.text_names.proofs.Tables.{indexed_or_not}
use Rattle.text_names.proofs.names.TextNames.add_type.Goals as goal

pub invariant_of-self : goal.invariant_of-self
invariant_of-self c =
    let names = c.args.self.now in
    let item : TypeItem = record { name = c.as_slice-name.result; decl = c.args.decl; sort = c.args.sort } in
    record {
      indexed = record {
        types_found = indexed_or_not (λ t. t.name.now) c.push_named.result names.types c.push_named.new.items item
            names.type_numbers c.push_named.new.numbers c.push_named.ensures.ok c.push_named.ensures.numbered
            c.push_named.ensures.err c.push_named.ensures.as_before names.indexed.types_found;
        items_found = names.indexed.items_found;
        taken_found = names.indexed.taken_found;
      };
    }
