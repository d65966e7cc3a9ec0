-- What each form of a type and of a replicated type is seen as.
use Rattle.std.proofs.Common.{◌≡◌, ℕ, List, ap, sym, ◌∙◌}
use Rattle.rp_ast.specs.declared.ty.TypeNode.{TypeNode}
use Rattle.rp_ast.specs.declared.ty.TypeForm.TheVariants as made
use Rattle.rp_ast.specs.declared.ty.TypeForm.TheOpen as layer
use Rattle.rp_ast.specs.declared.ty.TypeForm.TheFolds.{fold-roll-TypeForm, fold_out-TypeNode}
use Rattle.rp_ast.specs.declared.crdt.CrdtNode.{CrdtNode}
use Rattle.rp_ast.specs.declared.crdt.FieldNode.{FieldNode}
use Rattle.rp_ast.specs.declared.crdt.CrdtForm.TheVariants as crdt_made
use Rattle.rp_ast.specs.declared.crdt.CrdtForm.TheOpen as crdt_layer
use Rattle.rp_ast.specs.declared.crdt.CrdtForm.TheFolds.{fold-roll-CrdtForm, fold_out-CrdtNode, fold_out-FieldNode}
use Rattle.rp_grammar.specs.Trees.{TypeTree, TypeForm, CrdtTree, CrdtForm, FieldTree}
use Rattle.rp_ast.specs.View.{ident_view, type_form_step, type_step, type_form_view, type_view, crdt_form_step, crdt_step, field_step, crdt_form_view, crdt_view, field_view, fields_view}

pub type_view-parts : (t : TypeNode) → type_view t ≡ TypeTree.node t.span (type_form_view t.what)
type_view-parts t = fold_out-TypeNode TypeForm TypeTree type_form_step type_step t

pub type_form_view-Named : (n : List ℕ) → type_form_view (made.Named n) ≡ TypeForm.named n
type_form_view-Named n = ap type_form_view (sym (made.rolls-Named n)) ∙ fold-roll-TypeForm TypeForm TypeTree type_form_step type_step (layer.Named n)

pub type_form_view-Bool : type_form_view made.Bool ≡ TypeForm.bool
type_form_view-Bool = ap type_form_view (sym made.rolls-Bool) ∙ fold-roll-TypeForm TypeForm TypeTree type_form_step type_step layer.Bool

pub type_form_view-Int : type_form_view made.Int ≡ TypeForm.int
type_form_view-Int = ap type_form_view (sym made.rolls-Int) ∙ fold-roll-TypeForm TypeForm TypeTree type_form_step type_step layer.Int

pub type_form_view-Text : type_form_view made.Text ≡ TypeForm.text
type_form_view-Text = ap type_form_view (sym made.rolls-Text) ∙ fold-roll-TypeForm TypeForm TypeTree type_form_step type_step layer.Text

pub type_form_view-Maybe : (t : TypeNode) → type_form_view (made.Maybe t) ≡ TypeForm.maybe (type_view t)
type_form_view-Maybe t = ap type_form_view (sym (made.rolls-Maybe t)) ∙ fold-roll-TypeForm TypeForm TypeTree type_form_step type_step (layer.Maybe t)

pub type_form_view-Call : type_form_view made.Call ≡ TypeForm.call
type_form_view-Call = ap type_form_view (sym made.rolls-Call) ∙ fold-roll-TypeForm TypeForm TypeTree type_form_step type_step layer.Call

pub type_form_view-Invocation : type_form_view made.Invocation ≡ TypeForm.invocation
type_form_view-Invocation = ap type_form_view (sym made.rolls-Invocation) ∙ fold-roll-TypeForm TypeForm TypeTree type_form_step type_step layer.Invocation

pub ruleset type_views = (type_view-parts, type_form_view-Named, type_form_view-Bool, type_form_view-Int, type_form_view-Text, type_form_view-Maybe, type_form_view-Call, type_form_view-Invocation)

pub crdt_view-parts : (c : CrdtNode) → crdt_view c ≡ CrdtTree.node c.span (crdt_form_view c.what)
crdt_view-parts c = fold_out-CrdtNode CrdtForm CrdtTree FieldTree crdt_form_step crdt_step field_step c

pub field_view-parts : (f : FieldNode) → field_view f ≡ FieldTree.field (ident_view f.name) (crdt_view f.crdt)
field_view-parts f = fold_out-FieldNode CrdtForm CrdtTree FieldTree crdt_form_step crdt_step field_step f

pub crdt_form_view-SetAw : (t : TypeNode) → crdt_form_view (crdt_made.SetAw t) ≡ CrdtForm.set_aw (type_view t)
crdt_form_view-SetAw t = ap crdt_form_view (sym (crdt_made.rolls-SetAw t)) ∙ fold-roll-CrdtForm CrdtForm CrdtTree FieldTree crdt_form_step crdt_step field_step (crdt_layer.SetAw t)

pub crdt_form_view-SetRw : (t : TypeNode) → crdt_form_view (crdt_made.SetRw t) ≡ CrdtForm.set_rw (type_view t)
crdt_form_view-SetRw t = ap crdt_form_view (sym (crdt_made.rolls-SetRw t)) ∙ fold-roll-CrdtForm CrdtForm CrdtTree FieldTree crdt_form_step crdt_step field_step (crdt_layer.SetRw t)

pub crdt_form_view-Reg : (t : TypeNode) → crdt_form_view (crdt_made.Reg t) ≡ CrdtForm.reg (type_view t)
crdt_form_view-Reg t = ap crdt_form_view (sym (crdt_made.rolls-Reg t)) ∙ fold-roll-CrdtForm CrdtForm CrdtTree FieldTree crdt_form_step crdt_step field_step (crdt_layer.Reg t)

pub crdt_form_view-MvReg : (t : TypeNode) → crdt_form_view (crdt_made.MvReg t) ≡ CrdtForm.mv_reg (type_view t)
crdt_form_view-MvReg t = ap crdt_form_view (sym (crdt_made.rolls-MvReg t)) ∙ fold-roll-CrdtForm CrdtForm CrdtTree FieldTree crdt_form_step crdt_step field_step (crdt_layer.MvReg t)

pub crdt_form_view-Counter : crdt_form_view crdt_made.Counter ≡ CrdtForm.counter
crdt_form_view-Counter = ap crdt_form_view (sym crdt_made.rolls-Counter) ∙ fold-roll-CrdtForm CrdtForm CrdtTree FieldTree crdt_form_step crdt_step field_step crdt_layer.Counter

pub crdt_form_view-MapUw : (t : TypeNode) (c : CrdtNode) → crdt_form_view (crdt_made.MapUw t c) ≡ CrdtForm.map_uw (type_view t) (crdt_view c)
crdt_form_view-MapUw t c = ap crdt_form_view (sym (crdt_made.rolls-MapUw t c)) ∙ fold-roll-CrdtForm CrdtForm CrdtTree FieldTree crdt_form_step crdt_step field_step (crdt_layer.MapUw t c)

pub crdt_form_view-MapDw : (t : TypeNode) (c : CrdtNode) → crdt_form_view (crdt_made.MapDw t c) ≡ CrdtForm.map_dw (type_view t) (crdt_view c)
crdt_form_view-MapDw t c = ap crdt_form_view (sym (crdt_made.rolls-MapDw t c)) ∙ fold-roll-CrdtForm CrdtForm CrdtTree FieldTree crdt_form_step crdt_step field_step (crdt_layer.MapDw t c)

pub crdt_form_view-Struct : (fs : List FieldNode) → crdt_form_view (crdt_made.Struct fs) ≡ CrdtForm.struct (fields_view fs)
crdt_form_view-Struct fs = ap crdt_form_view (sym (crdt_made.rolls-Struct fs)) ∙ fold-roll-CrdtForm CrdtForm CrdtTree FieldTree crdt_form_step crdt_step field_step (crdt_layer.Struct fs)

pub ruleset crdt_views = (crdt_view-parts, field_view-parts, crdt_form_view-SetAw, crdt_form_view-SetRw, crdt_form_view-Reg, crdt_form_view-MvReg, crdt_form_view-Counter, crdt_form_view-MapUw, crdt_form_view-MapDw, crdt_form_view-Struct)
