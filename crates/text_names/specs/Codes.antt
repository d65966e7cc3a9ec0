-- Trees of replicated types can be told apart: each is what some tree of the code is seen as.
use Rattle.std.proofs.Common.{◌≡◌, List, [], ◌∷◌, refl, ap, ap₂, ◌∙◌}
use Rattle.std.specs.Coded.{Coded, code_by}
use Rattle.rp_grammar.specs.Trees.{ident, TypeTree, TypeForm, CrdtTree, CrdtForm, FieldTree, FieldTrees}
use Rattle.rp_ast.specs.declared.ty.TypeNode.{TypeNode}
use Rattle.rp_ast.specs.declared.ty.TypeForm as code_type
use Rattle.rp_ast.specs.declared.ty.TypeForm.TheVariants as type_form
use Rattle.rp_ast.specs.declared.crdt.CrdtNode.{CrdtNode}
use Rattle.rp_ast.specs.declared.crdt.FieldNode.{FieldNode}
use Rattle.rp_ast.specs.declared.crdt.CrdtForm as code_crdt
use Rattle.rp_ast.specs.declared.crdt.CrdtForm.TheVariants as crdt_form
use Rattle.rp_ast.specs.contracts.crdt.CrdtNode as crdt_node
use Rattle.rp_ast.specs.View.{crdt_view, type_view, type_form_view, crdt_form_view, field_view, fields_view}
use Rattle.rp_ast.proofs.TypeViews.{type_view-parts, type_form_view-Named, type_form_view-Bool, type_form_view-Int, type_form_view-Text, type_form_view-Maybe, type_form_view-Call, type_form_view-Invocation, crdt_view-parts, field_view-parts, crdt_form_view-SetAw, crdt_form_view-SetRw, crdt_form_view-Reg, crdt_form_view-MvReg, crdt_form_view-Counter, crdt_form_view-MapUw, crdt_form_view-MapDw, crdt_form_view-Struct}

abbrev mutual
  type_made : TypeTree → TypeNode
  type_made (TypeTree.node at form) = record { span = at; what = type_form_made form }

  type_form_made : TypeForm → code_type.TypeForm
  type_form_made (TypeForm.named x) = type_form.Named x
  type_form_made TypeForm.bool = type_form.Bool
  type_form_made TypeForm.int = type_form.Int
  type_form_made TypeForm.text = type_form.Text
  type_form_made (TypeForm.maybe t) = type_form.Maybe (type_made t)
  type_form_made TypeForm.call = type_form.Call
  type_form_made TypeForm.invocation = type_form.Invocation

mutual
  type_back : (t : TypeTree) → type_view (type_made t) ≡ t
  type_back (TypeTree.node at form) =
      type_view-parts (type_made (TypeTree.node at form)) ∙ ap (λ what. TypeTree.node at what) (type_form_back form)

  type_form_back : (form : TypeForm) → type_form_view (type_form_made form) ≡ form
  type_form_back (TypeForm.named x) = type_form_view-Named x
  type_form_back TypeForm.bool = type_form_view-Bool
  type_form_back TypeForm.int = type_form_view-Int
  type_form_back TypeForm.text = type_form_view-Text
  type_form_back (TypeForm.maybe t) = type_form_view-Maybe (type_made t) ∙ ap (λ t. TypeForm.maybe t) (type_back t)
  type_form_back TypeForm.call = type_form_view-Call
  type_form_back TypeForm.invocation = type_form_view-Invocation

abbrev mutual
  crdt_made : CrdtTree → CrdtNode
  crdt_made (CrdtTree.node at form) = record { span = at; what = crdt_form_made form }

  crdt_form_made : CrdtForm → code_crdt.CrdtForm
  crdt_form_made (CrdtForm.set_aw t) = crdt_form.SetAw (type_made t)
  crdt_form_made (CrdtForm.set_rw t) = crdt_form.SetRw (type_made t)
  crdt_form_made (CrdtForm.reg t) = crdt_form.Reg (type_made t)
  crdt_form_made (CrdtForm.mv_reg t) = crdt_form.MvReg (type_made t)
  crdt_form_made CrdtForm.counter = crdt_form.Counter
  crdt_form_made (CrdtForm.map_uw t c) = crdt_form.MapUw (type_made t) (crdt_made c)
  crdt_form_made (CrdtForm.map_dw t c) = crdt_form.MapDw (type_made t) (crdt_made c)
  crdt_form_made (CrdtForm.struct parts) = crdt_form.Struct (fields_made parts)

  field_made : FieldTree → FieldNode
  field_made (FieldTree.field (ident x at) c) = record { name = record { text = x; span = at }; crdt = crdt_made c }

  fields_made : FieldTrees → List FieldNode
  fields_made FieldTrees.no_fields = []
  fields_made (FieldTrees.more_fields f parts) = field_made f ∷ fields_made parts

mutual
  crdt_back : (c : CrdtTree) → crdt_view (crdt_made c) ≡ c
  crdt_back (CrdtTree.node at form) =
      crdt_view-parts (crdt_made (CrdtTree.node at form)) ∙ ap (λ what. CrdtTree.node at what) (crdt_form_back form)

  crdt_form_back : (form : CrdtForm) → crdt_form_view (crdt_form_made form) ≡ form
  crdt_form_back (CrdtForm.set_aw t) = crdt_form_view-SetAw (type_made t) ∙ ap (λ t. CrdtForm.set_aw t) (type_back t)
  crdt_form_back (CrdtForm.set_rw t) = crdt_form_view-SetRw (type_made t) ∙ ap (λ t. CrdtForm.set_rw t) (type_back t)
  crdt_form_back (CrdtForm.reg t) = crdt_form_view-Reg (type_made t) ∙ ap (λ t. CrdtForm.reg t) (type_back t)
  crdt_form_back (CrdtForm.mv_reg t) = crdt_form_view-MvReg (type_made t) ∙ ap (λ t. CrdtForm.mv_reg t) (type_back t)
  crdt_form_back CrdtForm.counter = crdt_form_view-Counter
  crdt_form_back (CrdtForm.map_uw t c) =
      crdt_form_view-MapUw (type_made t) (crdt_made c) ∙ ap₂ (λ t c. CrdtForm.map_uw t c) (type_back t) (crdt_back c)
  crdt_form_back (CrdtForm.map_dw t c) =
      crdt_form_view-MapDw (type_made t) (crdt_made c) ∙ ap₂ (λ t c. CrdtForm.map_dw t c) (type_back t) (crdt_back c)
  crdt_form_back (CrdtForm.struct parts) =
      crdt_form_view-Struct (fields_made parts) ∙ ap (λ parts. CrdtForm.struct parts) (fields_back parts)

  field_back : (f : FieldTree) → field_view (field_made f) ≡ f
  field_back (FieldTree.field (ident x at) c) =
      field_view-parts (field_made (FieldTree.field (ident x at) c)) ∙ ap (λ c. FieldTree.field (ident x at) c) (crdt_back c)

  fields_back : (parts : FieldTrees) → fields_view (fields_made parts) ≡ parts
  fields_back FieldTrees.no_fields = refl
  fields_back (FieldTrees.more_fields f parts) =
      ap₂ (λ f parts. FieldTrees.more_fields f parts) (field_back f) (fields_back parts)

pub crdt_coded : Coded CrdtTree
crdt_coded = code_by CrdtNode crdt_node.the_row.coded crdt_made crdt_view crdt_back
