-- Types and replicated types are known by what they are seen as.
use Rattle.std.proofs.Common.{◌≡◌, List, [], ◌∷◌, map, ap, sym, ◌∙◌, refl, subst}
use Rattle.rp_ast.specs.declared.ident.Ident as code_ident
use Rattle.rp_ast.specs.declared.ty.TypeNode.{TypeNode}
use Rattle.rp_ast.specs.declared.ty.Param.{Param}
use Rattle.rp_ast.specs.declared.ty.TypeForm as code_type
use Rattle.rp_ast.specs.declared.ty.TypeForm.TheVariants as made
use Rattle.rp_ast.specs.declared.ty.TypeForm.TheOpen as layer
use Rattle.rp_ast.specs.declared.ty.TypeForm.TheViews.{roll-TypeForm, roll-TypeNode}
use Rattle.rp_ast.specs.declared.ty.TypeForm.TheFolds.{fold-roll-TypeForm, fold-roll-TypeNode, map-TypeForm, map-TypeNode, ind-TypeNode}
use Rattle.rp_ast.specs.declared.crdt.CrdtNode.{CrdtNode}
use Rattle.rp_ast.specs.declared.crdt.FieldNode.{FieldNode}
use Rattle.rp_ast.specs.declared.crdt.CrdtForm as code_crdt
use Rattle.rp_ast.specs.declared.crdt.CrdtForm.TheVariants as crdt_made
use Rattle.rp_ast.specs.declared.crdt.CrdtForm.TheOpen as crdt_layer
use Rattle.rp_ast.specs.declared.crdt.CrdtForm.TheViews.{roll-CrdtForm, roll-CrdtNode, roll-FieldNode}
use Rattle.rp_ast.specs.declared.crdt.CrdtForm.TheFolds.{fold-roll-CrdtForm, fold-roll-CrdtNode, fold-roll-FieldNode, map-CrdtForm, map-CrdtNode, map-FieldNode, ind-CrdtNode}
use Rattle.rp_grammar.specs.Trees.{Ident, ident, TypeTree, TypeForm, ParamTree, CrdtTree, CrdtForm, FieldTree, FieldTrees}
use Rattle.rp_ast.specs.View.{idents_view, type_form_step, type_step, type_form_view, type_view, param_view, params_view, crdt_form_step, crdt_step, field_step, crdt_form_view, crdt_view, field_view, fields_view}

pub ap2 : {A B C : Type 0} {a b : A} {x y : B} (f : A → B → C) → a ≡ b → x ≡ y → f a x ≡ f b y
ap2 f p q = λ i. f (p i) (q i)

pub ap3 : {A B C D : Type 0} {a b : A} {x y : B} {m n : C} (f : A → B → C → D) → a ≡ b → x ≡ y → m ≡ n → f a x m ≡ f b y n
ap3 f p q r = λ i. f (p i) (q i) (r i)

abbrev pub ident_of : Ident → code_ident.Ident
ident_of (ident n s) = record { text = n; span = s }

abbrev pub idents_of : List Ident → List code_ident.Ident
idents_of [] = []
idents_of (n ∷ ns) = ident_of n ∷ idents_of ns

pub idents_back : (ns : List code_ident.Ident) → idents_of (idents_view ns) ≡ ns
idents_back [] = refl
idents_back (n ∷ ns) = ap (λ ms. n ∷ ms) (idents_back ns)

-- # Types

abbrev mutual
  pub type_node_of : TypeTree → TypeNode
  type_node_of (TypeTree.node s f) = record { span = s; what = type_form_of f }

  type_form_of : TypeForm → code_type.TypeForm
  type_form_of (TypeForm.named n) = made.Named n
  type_form_of TypeForm.bool = made.Bool
  type_form_of TypeForm.int = made.Int
  type_form_of TypeForm.text = made.Text
  type_form_of (TypeForm.maybe t) = made.Maybe (type_node_of t)
  type_form_of TypeForm.call = made.Call
  type_form_of TypeForm.invocation = made.Invocation

abbrev FormBack : code_type.TypeForm → Type 0
FormBack f = type_form_of (type_form_view f) ≡ f

abbrev NodeBack : TypeNode → Type 0
NodeBack t = type_node_of (type_view t) ≡ t

abbrev plain_form : layer.TypeForm-F ((f : code_type.TypeForm) × FormBack f) ((t : TypeNode) × NodeBack t) → layer.TypeForm-F code_type.TypeForm TypeNode
plain_form = map-TypeForm ((f : code_type.TypeForm) × FormBack f) ((t : TypeNode) × NodeBack t) code_type.TypeForm TypeNode (λ e. e.0) (λ e. e.0)

abbrev plain_node : layer.TypeNode-F ((f : code_type.TypeForm) × FormBack f) ((t : TypeNode) × NodeBack t) → layer.TypeNode-F code_type.TypeForm TypeNode
plain_node = map-TypeNode ((f : code_type.TypeForm) × FormBack f) ((t : TypeNode) × NodeBack t) code_type.TypeForm TypeNode (λ e. e.0) (λ e. e.0)

seen_form : (x : layer.TypeForm-F code_type.TypeForm TypeNode) → type_form_of (type_form_view (roll-TypeForm x)) ≡ type_form_of (type_form_step (map-TypeForm code_type.TypeForm TypeNode TypeForm TypeTree type_form_view type_view x))
seen_form x = ap type_form_of (fold-roll-TypeForm TypeForm TypeTree type_form_step type_step x)

form_back : (y : layer.TypeForm-F ((f : code_type.TypeForm) × FormBack f) ((t : TypeNode) × NodeBack t)) → FormBack (roll-TypeForm (plain_form y))
form_back (layer.Named n) = seen_form (layer.Named n) ∙ sym (made.rolls-Named n)
form_back layer.Bool = seen_form layer.Bool ∙ sym made.rolls-Bool
form_back layer.Int = seen_form layer.Int ∙ sym made.rolls-Int
form_back layer.Text = seen_form layer.Text ∙ sym made.rolls-Text
form_back (layer.Maybe t) = seen_form (layer.Maybe t.0) ∙ ap made.Maybe t.1 ∙ sym (made.rolls-Maybe t.0)
form_back layer.Call = seen_form layer.Call ∙ sym made.rolls-Call
form_back layer.Invocation = seen_form layer.Invocation ∙ sym made.rolls-Invocation

node_back : (y : layer.TypeNode-F ((f : code_type.TypeForm) × FormBack f) ((t : TypeNode) × NodeBack t)) → NodeBack (roll-TypeNode (plain_node y))
node_back y =
    let node : code_type.TypeForm → TypeNode = λ f. record { span = y.span; what = f } in
    ap type_node_of (fold-roll-TypeNode TypeForm TypeTree type_form_step type_step (plain_node y)) ∙ ap node y.what.1

pub type_back : (t : TypeNode) → type_node_of (type_view t) ≡ t
type_back = ind-TypeNode FormBack NodeBack (λ x y is. subst (λ z. FormBack (roll-TypeForm z)) is (form_back y)) (λ x y is. subst (λ z. NodeBack (roll-TypeNode z)) is (node_back y))

abbrev pub param_of : ParamTree → Param
param_of (ParamTree.param n t) = record { name = ident_of n; ty = type_node_of t }

pub param_back : (p : Param) → param_of (param_view p) ≡ p
param_back p = let made : TypeNode → Param = λ t. record { name = p.name; ty = t } in ap made (type_back p.ty)

abbrev pub params_of : List ParamTree → List Param
params_of [] = []
params_of (p ∷ ps) = param_of p ∷ params_of ps

pub params_back : (ps : List Param) → params_of (params_view ps) ≡ ps
params_back [] = refl
params_back (p ∷ ps) = ap2 (λ q qs. q ∷ qs) (param_back p) (params_back ps)

-- # Replicated types

abbrev mutual
  pub crdt_node_of : CrdtTree → CrdtNode
  crdt_node_of (CrdtTree.node s f) = record { span = s; what = crdt_form_of f }

  crdt_form_of : CrdtForm → code_crdt.CrdtForm
  crdt_form_of (CrdtForm.set_aw t) = crdt_made.SetAw (type_node_of t)
  crdt_form_of (CrdtForm.set_rw t) = crdt_made.SetRw (type_node_of t)
  crdt_form_of (CrdtForm.reg t) = crdt_made.Reg (type_node_of t)
  crdt_form_of (CrdtForm.mv_reg t) = crdt_made.MvReg (type_node_of t)
  crdt_form_of CrdtForm.counter = crdt_made.Counter
  crdt_form_of (CrdtForm.map_uw t c) = crdt_made.MapUw (type_node_of t) (crdt_node_of c)
  crdt_form_of (CrdtForm.map_dw t c) = crdt_made.MapDw (type_node_of t) (crdt_node_of c)
  crdt_form_of (CrdtForm.struct fs) = crdt_made.Struct (field_nodes_of fs)

  field_node_of : FieldTree → FieldNode
  field_node_of (FieldTree.field n c) = record { name = ident_of n; crdt = crdt_node_of c }

  field_nodes_of : FieldTrees → List FieldNode
  field_nodes_of FieldTrees.no_fields = []
  field_nodes_of (FieldTrees.more_fields f fs) = field_node_of f ∷ field_nodes_of fs

abbrev CrdtFormBack : code_crdt.CrdtForm → Type 0
CrdtFormBack f = crdt_form_of (crdt_form_view f) ≡ f

abbrev CrdtBack : CrdtNode → Type 0
CrdtBack c = crdt_node_of (crdt_view c) ≡ c

abbrev FieldBack : FieldNode → Type 0
FieldBack f = field_node_of (field_view f) ≡ f

abbrev OfForm : Type 0
OfForm = (f : code_crdt.CrdtForm) × CrdtFormBack f

abbrev OfCrdt : Type 0
OfCrdt = (c : CrdtNode) × CrdtBack c

abbrev OfField : Type 0
OfField = (f : FieldNode) × FieldBack f

seen_crdt_form : (x : crdt_layer.CrdtForm-F code_crdt.CrdtForm CrdtNode FieldNode)
    → crdt_form_of (crdt_form_view (roll-CrdtForm x)) ≡ crdt_form_of (crdt_form_step (map-CrdtForm code_crdt.CrdtForm CrdtNode FieldNode CrdtForm CrdtTree FieldTree crdt_form_view crdt_view field_view x))
seen_crdt_form x = ap crdt_form_of (fold-roll-CrdtForm CrdtForm CrdtTree FieldTree crdt_form_step crdt_step field_step x)

each_field_back : (fs : List OfField) → field_nodes_of (fields_view (map (λ e. e.0) fs)) ≡ map (λ e. e.0) fs
each_field_back [] = refl
each_field_back (f ∷ fs) = ap2 (λ g gs. g ∷ gs) f.1 (each_field_back fs)

crdt_form_back : (y : crdt_layer.CrdtForm-F OfForm OfCrdt OfField) → CrdtFormBack (roll-CrdtForm (map-CrdtForm OfForm OfCrdt OfField code_crdt.CrdtForm CrdtNode FieldNode (λ e. e.0) (λ e. e.0) (λ e. e.0) y))
crdt_form_back (crdt_layer.SetAw t) = seen_crdt_form (crdt_layer.SetAw t) ∙ ap crdt_made.SetAw (type_back t) ∙ sym (crdt_made.rolls-SetAw t)
crdt_form_back (crdt_layer.SetRw t) = seen_crdt_form (crdt_layer.SetRw t) ∙ ap crdt_made.SetRw (type_back t) ∙ sym (crdt_made.rolls-SetRw t)
crdt_form_back (crdt_layer.Reg t) = seen_crdt_form (crdt_layer.Reg t) ∙ ap crdt_made.Reg (type_back t) ∙ sym (crdt_made.rolls-Reg t)
crdt_form_back (crdt_layer.MvReg t) = seen_crdt_form (crdt_layer.MvReg t) ∙ ap crdt_made.MvReg (type_back t) ∙ sym (crdt_made.rolls-MvReg t)
crdt_form_back crdt_layer.Counter = seen_crdt_form crdt_layer.Counter ∙ sym crdt_made.rolls-Counter
crdt_form_back (crdt_layer.MapUw t c) = seen_crdt_form (crdt_layer.MapUw t c.0) ∙ ap2 crdt_made.MapUw (type_back t) c.1 ∙ sym (crdt_made.rolls-MapUw t c.0)
crdt_form_back (crdt_layer.MapDw t c) = seen_crdt_form (crdt_layer.MapDw t c.0) ∙ ap2 crdt_made.MapDw (type_back t) c.1 ∙ sym (crdt_made.rolls-MapDw t c.0)
crdt_form_back (crdt_layer.Struct fs) = seen_crdt_form (crdt_layer.Struct (map (λ e. e.0) fs)) ∙ ap crdt_made.Struct (each_field_back fs) ∙ sym (crdt_made.rolls-Struct (map (λ e. e.0) fs))

crdt_node_back : (y : crdt_layer.CrdtNode-F OfForm OfCrdt OfField) → CrdtBack (roll-CrdtNode (map-CrdtNode OfForm OfCrdt OfField code_crdt.CrdtForm CrdtNode FieldNode (λ e. e.0) (λ e. e.0) (λ e. e.0) y))
crdt_node_back y =
    let node : code_crdt.CrdtForm → CrdtNode = λ f. record { span = y.span; what = f } in
    ap crdt_node_of (fold-roll-CrdtNode CrdtForm CrdtTree FieldTree crdt_form_step crdt_step field_step (map-CrdtNode OfForm OfCrdt OfField code_crdt.CrdtForm CrdtNode FieldNode (λ e. e.0) (λ e. e.0) (λ e. e.0) y)) ∙ ap node y.what.1

field_node_back : (y : crdt_layer.FieldNode-F OfForm OfCrdt OfField) → FieldBack (roll-FieldNode (map-FieldNode OfForm OfCrdt OfField code_crdt.CrdtForm CrdtNode FieldNode (λ e. e.0) (λ e. e.0) (λ e. e.0) y))
field_node_back y =
    let node : CrdtNode → FieldNode = λ c. record { name = y.name; crdt = c } in
    ap field_node_of (fold-roll-FieldNode CrdtForm CrdtTree FieldTree crdt_form_step crdt_step field_step (map-FieldNode OfForm OfCrdt OfField code_crdt.CrdtForm CrdtNode FieldNode (λ e. e.0) (λ e. e.0) (λ e. e.0) y)) ∙ ap node y.crdt.1

pub crdt_back : (c : CrdtNode) → crdt_node_of (crdt_view c) ≡ c
crdt_back = ind-CrdtNode CrdtFormBack CrdtBack FieldBack
    (λ x y is. subst (λ z. CrdtFormBack (roll-CrdtForm z)) is (crdt_form_back y))
    (λ x y is. subst (λ z. CrdtBack (roll-CrdtNode z)) is (crdt_node_back y))
    (λ x y is. subst (λ z. FieldBack (roll-FieldNode z)) is (field_node_back y))
