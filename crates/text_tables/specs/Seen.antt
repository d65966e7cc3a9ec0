-- What the code's tables are seen as.
use Rattle.std.specs.Prelude.{filter_map}
use Rattle.desugaring.specs.Objects.{path_ops, path_queries, roots_of}
use Rattle.desugaring.specs.Tables.{Tables, proc_in}
use Rattle.text_kinds.specs.Numbered.{Numbered}
use Rattle.text_kinds.specs.Seen.{kinds_view}
use Rattle.text_tables.specs.declared.tables.Tables as code

-- those of a text with these names and these datatypes
abbrev pub tables_with : Numbered → Tables
tables_with k = record {
  names = k.names;
  datatypes = k.kinds;
  roots = roots_of k.names;
  ops = path_ops k.names;
  queries = path_queries k.names;
  procs = filter_map (λ entry. proc_in entry.what) k.names.entries;
}

abbrev pub tables_view : code.Tables → Tables
tables_view t = tables_with (kinds_view t.kinds)
