use Rattle.std.proofs.Common.{◌≡◌, ℕ, List, [], map, Some, ap, sym, subst, ◌∙◌, slice_get}
use Rattle.std.specs.Prelude.{option_and_then}
use Rattle.rp_lang.specs.Exprs.{Ex}
use Rattle.type_tables.specs.Tables.{place_from}
use Rattle.desugaring.specs.Callees.{Stand}
use Rattle.desugaring.specs.Statements.{slot_for, slot_in}
use Rattle.query_laws.specs.Sight.{Known, known_ex}
use Rattle.reading.specs.declared.reader.Known.TheVariants as known
use Rattle.reading.specs.Reads.{sight_of}
use Rattle.reading.proofs.Found.{known_found}
use Rattle.lower_procs.proofs.Sights.{named_there}
use Rattle.lower_procs.proofs.writer.Writer.slot_of.Goals as goal

pub returns-in-Slot : goal.returns-in-Slot
returns-in-Slot c s e =
    let r = c.args.self.now.maker.reader in
    let x = c.args.name.now.text in
    let there = named_there (sight_of r) x s e in
    let place = ap (λ (n : List ℕ). option_and_then (λ p. slice_get r.known p) (place_from 0 (map (λ v. v.name) r.vars) n)) (sym c.as_slice.ensures.items)
    ∙ c.in_ok-known.ensures ∙ ap (λ k. Some k) c.in-Slot.is in
    let stands = known_found r.vars r.known x (known.Slot c.in-Slot.slot) there.0 place there.1 in
    ap (λ (t : Stand Ex). slot_for t) (sym there.2) ∙ ap (λ (k : Known). slot_in (known_ex [] r.binders k)) stands
