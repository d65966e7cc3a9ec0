-- What the code's operations and queries are seen as.
use Rattle.std.specs.Prelude.{Option, Some, None, codes}
use Rattle.rp_grammar.specs.Trees.{CrdtTree, CrdtForm}
use Rattle.rp_ast.specs.View.{type_view}
use Rattle.rp_ast.specs.declared.ty.TypeNode.{TypeNode}
use Rattle.std.specs.Borrow.{Bor}
use Rattle.type_rules.specs.declared.kind.Kind.{Kind}
use Rattle.type_rules.specs.Names.{Names}
use Rattle.type_rules.specs.Kinds.{kind_of, maybe_of, int_kind}
use Rattle.type_rules.specs.Paths.{Does, Member, operation, question, get}
use Rattle.type_terms.specs.declared.members.Does as code_does
use Rattle.type_terms.specs.declared.members.Does.TheVariants as does
use Rattle.type_terms.specs.declared.members.Member as code_member

abbrev pub does_view : code_does.Does → Does
does_view does.Adds = Does.adds
does_view does.Removes = Does.removes
does_view does.Assigns = Does.assigns
does_view does.Increments = Does.increments
does_view does.Deletes = Does.deletes
does_view does.Contains = Does.contains
does_view does.HasKey = Does.has_key
does_view does.GetsValue = Does.gets_value
does_view does.GetsSum = Does.gets_sum

-- what does this, over elements, a value or keys of this type
abbrev pub member_over : Kind → code_does.Does → Member
member_over k does.Adds = operation (codes "add") Does.adds k
member_over k does.Removes = operation (codes "remove") Does.removes k
member_over k does.Assigns = operation (codes "assign") Does.assigns k
member_over k does.Increments = operation (codes "increment") Does.increments k
member_over k does.Deletes = operation (codes "delete") Does.deletes k
member_over k does.Contains = question Does.contains k
member_over k does.HasKey = question Does.has_key k
member_over k does.GetsValue = get Does.gets_value (maybe_of k)
member_over k does.GetsSum = get Does.gets_sum k

-- the type that is written, or that of whole numbers
abbrev pub written_kind : Names → Option (Bor TypeNode) → Kind
written_kind n None = int_kind
written_kind n (Some t) = kind_of n (type_view t.now)

-- what the members of a replicated type are over; a struct has none
abbrev pub data_kind : Names → CrdtTree → Kind
data_kind n (CrdtTree.node at (CrdtForm.set_aw t)) = kind_of n t
data_kind n (CrdtTree.node at (CrdtForm.set_rw t)) = kind_of n t
data_kind n (CrdtTree.node at (CrdtForm.reg t)) = kind_of n t
data_kind n (CrdtTree.node at (CrdtForm.mv_reg t)) = kind_of n t
data_kind n (CrdtTree.node at (CrdtForm.map_uw t c)) = kind_of n t
data_kind n (CrdtTree.node at (CrdtForm.map_dw t c)) = kind_of n t
data_kind n (CrdtTree.node at CrdtForm.counter) = int_kind
data_kind n (CrdtTree.node at (CrdtForm.struct parts)) = int_kind

abbrev pub member_view : Names → code_member.Member → Member
member_view n m = member_over (written_kind n m.over) m.does
