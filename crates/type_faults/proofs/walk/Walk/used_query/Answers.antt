use Rattle.std.proofs.Common.{not, ap, ◌∙◌}
use Rattle.rp_ast.specs.View.{query_view}
use Rattle.type_rules.specs.DeclSites.{query_sites}
use Rattle.type_rules.specs.Faults.{first}
use Rattle.type_tables.specs.Flags.{flag_at}
use Rattle.text_names.proofs.Entries.{if_ok}
use Rattle.type_faults.specs.Walks.{names_at}
use Rattle.type_faults.proofs.Named.{query_marked}
use Rattle.type_faults.proofs.Walked.{same_names}
use Rattle.type_faults.proofs.walk.Walk.used_query.Goals as goal

pub returns : goal.returns
returns c = λ behind marked counted empty.
    let a = c.args.self.now in
    let n = names_at a in
    let q = query_view c.args.query.now in
    let words = ap not (c.has.ensures ∙ marked a.decl) in
    if_ok c.query.result
    (λ f w. record {
      fault_is = w.fault_is ∙ ap (λ b. first n (query_sites n a.decl b q)) words;
      marked = query_marked n a.decl q behind (flag_at a.used) (flag_at c.query.new.self.used) (not c.has.result) marked words w.marks;
      names = same_names w;
      counted = w.counted;
    })
    (c.query.ensures counted empty)
