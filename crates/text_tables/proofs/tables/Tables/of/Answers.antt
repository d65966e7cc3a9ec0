use Rattle.std.proofs.Common.{ap, sym, subst}
use Rattle.rp_ast.specs.View.{decls_view}
use Rattle.text_names.specs.Declarations.{names_view}
use Rattle.text_kinds.specs.Numbered.{Numbered}
use Rattle.text_kinds.specs.Seen.{kinds_view}
use Rattle.text_tables.specs.means.Kept.{AreTables}
use Rattle.text_tables.proofs.KnownLaw.{known, seen}
use Rattle.text_tables.proofs.tables.Tables.of.Goals as goal

pub invariant_of-result : goal.invariant_of-result
invariant_of-result c =
    let n = names_view c.args.names.now in
    let table = c.in_ok-objects.objects in
    let procs = c.in_ok-procs.procs in
    record {
      known = subst (λ n. AreTables n c.in_ok-atoms.atoms procs.numbers procs.count table.objects table.ops table.roots)
          (sym (ap (λ (k : Numbered). k.names) c.in_ok-kinds.ensures))
          (known n (decls_view c.args.decls.now) c.in_ok-atoms.atoms procs.numbers procs.count table.objects table.ops table.roots
          c.requires c.in_ok-atoms.ensures c.in_ok-procs.ensures c.in_ok-objects.ensures);
    }

pub returns : goal.returns
returns c =
    seen (kinds_view c.in_ok-kinds.kinds) (names_view c.args.names.now) (decls_view c.args.decls.now) c.in_ok-kinds.ensures c.requires
