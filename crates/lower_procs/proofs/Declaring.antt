-- Variables that are declared one after another, each in the next slot.
use Rattle.std.proofs.Common.{◌≡◌, ◌<◌, ◌≤◌, ℕ, suc, ◌+◌, List, [], ◌∷◌, ◌++◌, length, map, drop, get_or, refl, ap, ap₂, sym, subst, ◌∙◌, append_assoc, append-nil, arith}
use Rattle.std.proofs.lemmas.List.{drop_more}
use Rattle.rp_grammar.specs.Trees.{Ident, ParamTree}
use Rattle.type_rules.specs.declared.kind.Kind.{Kind}
use Rattle.type_rules.specs.Kinds.{kind_of, param_kinds}
use Rattle.type_rules.specs.Matches.{bound_var, first_kind, other_kinds}
use Rattle.type_rules.specs.Names.{Names, param_name, param_type}
use Rattle.text_names.proofs.Entries.{drop_past}
use Rattle.desugaring.specs.Statements.{slot_kinds}
use Rattle.desugaring.specs.Tables.{up_from}
use Rattle.text_tables.specs.Seen.{tables_view}
use Rattle.text_tables.specs.declared.tables.Tables as code_tables
use Rattle.reading.specs.declared.reader.Known.TheVariants as known
use Rattle.reading.specs.declared.reader.Reader.{Reader}
use Rattle.reading.specs.Reads.{with_var}
use Rattle.lower_exprs.specs.declared.values.Maker.{Maker}
use Rattle.lower_procs.specs.declared.writer.Writer.{Writer}
use Rattle.lower_procs.specs.Writing.{HaveSlots, with_slots}
use Rattle.lower_procs.proofs.Slots.{have_both, have_long, have_none}

abbrev declared_maker : Writer → List Ident → List Kind → Maker
declared_maker w xs ks = record w.maker { reader = with_slots w.maker.reader (length w.slots) xs ks }

-- of these variables with these types, the rest are still to come
pub record Declaring (start : Writer) (xs : List Ident) (ks : List Kind) (now : Writer) (rest : List Ident) (left : List Kind) : Type 0 where
  pub done : List Kind
  pub slots : HaveSlots start done now
  pub kinds : done ++ slot_kinds rest left ≡ slot_kinds xs ks
  pub maker : declared_maker now rest left ≡ declared_maker start xs ks
  pub tables : now.maker.reader.tables.now ≡ start.maker.reader.tables.now

pub declaring_begins : (w : Writer) (xs : List Ident) (ks : List Kind) → Declaring w xs ks w xs ks
declaring_begins w xs ks = record { done = []; slots = have_none w; kinds = refl; maker = refl; tables = refl }

pub declaring_goes_on : {start now new : Writer} {xs rest : List Ident} {ks left : List Kind} {x : Ident} {k : Kind}
    → Declaring start xs ks now (x ∷ rest) left → HaveSlots now (k ∷ []) new → k ≡ first_kind left
    → new.maker ≡ record now.maker { reader = with_var now.maker.reader (bound_var x k) (known.Slot (length now.slots)) }
    → Declaring start xs ks new rest (other_kinds left)
declaring_goes_on {start} {now} {new} {xs} {rest} {ks} {left} {x} {k} way have is maker =
    let first = first_kind left in
    let next = length now.slots in
    let long : length new.slots ≡ next + 1 = have_long have in
    record {
      done = way.done ++ k ∷ [];
      slots = have_both way.slots have (ap tables_view way.tables);
      kinds = ap (λ (j : Kind). (way.done ++ j ∷ []) ++ slot_kinds rest (other_kinds left)) is
          ∙ append_assoc way.done (first ∷ []) (slot_kinds rest (other_kinds left)) ∙ way.kinds;
      maker = ap₂ (λ (m : Maker) n. record m { reader = with_slots m.reader n rest (other_kinds left) }) maker long
          ∙ ap (λ (j : Kind). record now.maker {
            reader = with_slots (with_var now.maker.reader (bound_var x j) (known.Slot next)) (next + 1) rest (other_kinds left);
          }) is
          ∙ way.maker;
      tables = ap (λ (m : Maker). m.reader.tables.now) maker ∙ way.tables;
    }

pub declaring_ends_slots : {start now : Writer} {xs : List Ident} {ks left : List Kind} → Declaring start xs ks now [] left
    → HaveSlots start (slot_kinds xs ks) now
declaring_ends_slots {start} {now} {xs} {ks} {left} way =
    subst (λ (j : List Kind). HaveSlots start j now) (sym (append-nil way.done) ∙ way.kinds) way.slots

pub declaring_ends_maker : {start now : Writer} {xs : List Ident} {ks left : List Kind} → Declaring start xs ks now [] left
    → now.maker ≡ record start.maker { reader = with_slots start.maker.reader (length start.slots) xs ks }
declaring_ends_maker way = way.maker

-- # Parameters

pub kinds_are : (n : Names) (ps : List ParamTree) → slot_kinds (map param_name ps) (param_kinds n ps) ≡ param_kinds n ps
kinds_are n [] = refl
kinds_are n (p ∷ ps) = ap (λ (ks : List Kind). kind_of n (param_type p) ∷ ks) (kinds_are n ps)

-- # Numbers

-- the next slot's number comes next
pub number_next : {X : Type 0} (xs : List X) (i next : ℕ) (x : X) (numbers all : List ℕ) → i < length xs → x ≡ get_or xs i x
    → numbers ++ up_from next (length (drop i xs)) ≡ all
    → (numbers ++ next ∷ []) ++ up_from (next + 1) (length (drop (i + 1) xs)) ≡ all
number_next {X} xs i next x numbers all lt is e =
    append_assoc numbers (next ∷ []) (up_from (next + 1) (length (drop (i + 1) xs)))
    ∙ sym (ap (λ (l : List X). numbers ++ up_from next (length l)) (drop_more xs i x lt)) ∙ e

pub number_last : {X : Type 0} (xs : List X) (i next : ℕ) (numbers all : List ℕ) → length xs ≤ i
    → numbers ++ up_from next (length (drop i xs)) ≡ all → numbers ≡ all
number_last {X} xs i next numbers all past e =
    sym (append-nil numbers) ∙ sym (ap (λ (l : List X). numbers ++ up_from next (length l)) (drop_past xs i past)) ∙ e
