-- Expressions as formulas.
use Rattle.std.proofs.Common.{◌≡◌, ℕ, [], Option, Some, ap, ap₂, sym, subst, ◌∙◌}
use Rattle.std.specs.Prelude.{option_map}
use Rattle.rp_grammar.specs.Trees.{ExprTree}
use Rattle.type_rules.specs.Kinds.{bool_kind}
use Rattle.desugaring.specs.Values.{Value, as_formula, formula}
use Rattle.desugaring.proofs.Options.{map_is, map_there}
use Rattle.query_bodies.specs.declared.bodies.Bodies.{Bodies}
use Rattle.query_bodies.specs.Terms.{Cl, said_claim}
use Rattle.query_bodies.specs.Expanded as put
use Rattle.query_bodies.specs.Expanded.{uses_of}
use Rattle.query_laws.specs.Sight.{SaysClaim}
use Rattle.reading.specs.declared.reader.Reader.{Reader}
use Rattle.reading.specs.Reads.{Reads, sight_of}
use Rattle.lower_exprs.specs.declared.values.Made.{Made}
use Rattle.lower_exprs.specs.declared.values.Maker.{Maker}
use Rattle.lower_exprs.specs.Making.{IsMade, IsPastOf, IsReady, NotesSaid, said_value}
use Rattle.lower_procs.specs.Writing.{IsPast, NotesValue, Turns, claim_in, value_in}

claim_said : (m : Maker) (e : ExprTree) (f : Cl) (v : Value) → IsReady m → SaysClaim (sight_of m.reader) e f → claim_in m e ≡ Some v
    → said_value m.work (said_claim f) ≡ Some v
claim_said m e f v ready says h =
    map_there (λ (v : Value). said_value m.work (said_claim f) ≡ Some v) (λ (x : Value). formula (as_formula x)) (value_in m (Some bool_kind) e) v h
    (λ x is. map_is formula (put.claim (uses_of m.work.bodies.now) [] 0 f) (as_formula x)
    (sym (ap₂ (λ (b : Bodies) n. put.claim (uses_of b) [] n f) ready.bodies ready.binders) ∙ says [] ready.stands x is))

-- behind what reads the formula
abbrev ReadsClaim : Maker → Reader → ExprTree → Cl → Type 0
ReadsClaim m r e f = Reads m.reader r (λ s. SaysClaim s e f)

pub claim_turns : (m : Maker) (r : Reader) (e : ExprTree) (f : Cl) (made : Made) → ReadsClaim m r e f → IsMade m.work (said_claim f) made
    → Turns m (claim_in m e) made
claim_turns m r e f made reads is ready v h = is ready.measured v (claim_said m e f v ready (reads.left ready.kept).says h)

pub claim_notes : (m new : Maker) (r : Reader) (e : ExprTree) (f : Cl) → ReadsClaim m r e f
    → NotesSaid (record m { reader = r }) (said_claim f) new → NotesValue m (claim_in m e) new
claim_notes m new r e f reads notes ready v h =
    let left = reads.left ready.kept in
    let noted = notes ready.measured v (claim_said m e f v ready left.says h) in
    record { work = noted.work; same = noted.same ∙ left.same; passed = noted.passed }

pub claim_past : (m : Maker) (r : Reader) (e : ExprTree) (f : Cl) → ReadsClaim m r e f → IsPastOf m.work (said_claim f)
    → IsPast m (claim_in m e)
claim_past m r e f reads past ready v h = past ready.measured v (claim_said m e f v ready (reads.left ready.kept).says h)
