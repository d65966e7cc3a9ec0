-- Where the machine stands behind the first token of a phrase: at the nesting d, the token at s, and k behind the phrase.
use Rattle.std.specs.Prelude.{ℕ}
use Rattle.rp_span.specs.declared.Span.{Span}
use Rattle.rp_grammar.specs.Trees.{TypeTree, TypeForm, CrdtTree, CrdtForm}
use Rattle.rp_tokens.specs.MachineStates.{State}
use Rattle.rp_tokens.specs.MachineTypes.{want_element, want_entry, want_struct}
use Rattle.rp_parser.specs.declared.starts.PlainType.{PlainType}
use Rattle.rp_parser.specs.declared.starts.PlainType.TheVariants as plain
use Rattle.rp_parser.specs.declared.starts.TypeStart.{TypeStart}
use Rattle.rp_parser.specs.declared.starts.TypeStart.TheVariants as ty
use Rattle.rp_parser.specs.declared.starts.Container.{Container}
use Rattle.rp_parser.specs.declared.starts.Container.TheVariants as container
use Rattle.rp_parser.specs.declared.starts.MapKind.{MapKind}
use Rattle.rp_parser.specs.declared.starts.MapKind.TheVariants as map_kind
use Rattle.rp_parser.specs.declared.starts.CrdtStart.{CrdtStart}
use Rattle.rp_parser.specs.declared.starts.CrdtStart.TheVariants as crdt

abbrev pub plain_form : PlainType → TypeForm
plain_form (plain.Named bytes) = TypeForm.named bytes.now
plain_form plain.Bool = TypeForm.bool
plain_form plain.Int = TypeForm.int
plain_form plain.Text = TypeForm.text
plain_form plain.Call = TypeForm.call
plain_form plain.Invocation = TypeForm.invocation

abbrev pub type_next : ℕ → (TypeTree → State) → Span → TypeStart → State
type_next d k s (ty.Plain p) = k (TypeTree.node s (plain_form p))
type_next d k s ty.Maybe = want_element d s (λ t e. k (TypeTree.node e (TypeForm.maybe t)))

abbrev pub container_form : Container → TypeTree → CrdtForm
container_form container.SetAw t = CrdtForm.set_aw t
container_form container.SetRw t = CrdtForm.set_rw t
container_form container.Reg t = CrdtForm.reg t
container_form container.MvReg t = CrdtForm.mv_reg t

abbrev pub map_form : MapKind → TypeTree → CrdtTree → CrdtForm
map_form map_kind.UpdateWins t c = CrdtForm.map_uw t c
map_form map_kind.DeleteWins t c = CrdtForm.map_dw t c

abbrev pub crdt_next : ℕ → (CrdtTree → State) → Span → CrdtStart → State
crdt_next d k s (crdt.Container h) = want_element d s (λ t e. k (CrdtTree.node e (container_form h t)))
crdt_next d k s crdt.Counter = k (CrdtTree.node s CrdtForm.counter)
crdt_next d k s (crdt.Map h) = want_entry d s (λ t v e. k (CrdtTree.node e (map_form h t v)))
crdt_next d k s crdt.Struct = want_struct d s k
