-- What the code's declarations are seen as.
use Rattle.std.specs.Prelude.{map}
use Rattle.rp_grammar.specs.Trees.{CrdtTree}
use Rattle.type_rules.specs.Names.{TypeSort, TypeEntry, Declared, Entry}
use Rattle.rp_ast.specs.View.{con_view, query_view, proc_view}
use Rattle.text_names.specs.Parts.{part_at, trees_of}
use Rattle.text_names.specs.declared.part.Part.{Part}
use Rattle.text_names.specs.declared.declared.TypeSort as code_sort
use Rattle.text_names.specs.declared.declared.TypeSort.TheVariants as sort
use Rattle.text_names.specs.declared.declared.TypeItem.{TypeItem}
use Rattle.text_names.specs.declared.declared.Declared as code_declared
use Rattle.text_names.specs.declared.declared.Declared.TheVariants as declared
use Rattle.text_names.specs.declared.declared.Item.{Item}

-- the constructors of a datatype are seen as their list
abbrev pub sort_view : code_sort.TypeSort → TypeSort
sort_view sort.Id = TypeSort.id_type
sort_view sort.Opaque = TypeSort.opaque
sort_view (sort.Datatype cons) = TypeSort.datatype (map con_view cons.cons.now)

abbrev pub type_item_view : TypeItem → TypeEntry
type_item_view t = record { name = t.name.now; decl = t.decl; sort = sort_view t.sort }

abbrev pub part_view : Part → CrdtTree
part_view p = part_at (trees_of p.parts.now.items) p.place

abbrev pub declared_view : code_declared.Declared → Declared
declared_view (declared.Root p) = Declared.root (part_view p)
declared_view (declared.Query q) = Declared.query (query_view q.now)
declared_view (declared.Proc p) = Declared.proc (proc_view p.now)
declared_view (declared.Con type c) = Declared.con type (con_view c.now)

abbrev pub item_view : Item → Entry
item_view e = record { name = e.name.now; decl = e.decl; what = declared_view e.what }
