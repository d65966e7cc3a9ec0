-- What was declared of a program with all uses put in: it passes no limit, or that on nodes.
use Rattle.std.proofs.Common.{◌≡◌, Bool, true, false, List, [], ◌∷◌, take, Some, None, refl, ap, sym, ◌∙◌}
use Rattle.rp_grammar.specs.Trees.{DeclTree}
use Rattle.rp_lang.specs.declared.limit.LimitName.TheVariants.{Nodes}
use Rattle.rp_lang.specs.Programs.{Prog}
use Rattle.desugaring.specs.Limits.{first_limit, is_large, limits, passed, some_expression}
use Rattle.lower_exprs.specs.declared.values.Work.{Work}
use Rattle.lower_procs.specs.Whole.{is_large_in}
use Rattle.resolve.specs.declared.decls.Declared.{Declared}
use Rattle.resolve.specs.Adds.{Adds, AreWanted, nothing, some_passes}
use Rattle.resolve.specs.Tested.{IsDeclaredIn, IsProgramFor, first_in}
use Rattle.resolve.proofs.Firsts.{kept, last_limit}
use Rattle.resolve.proofs.Large.{large_nodes}

-- built or not, the same is wanted
abbrev pub work_with : Bool → Work → Work
work_with building w = record w { building = building }

pub wanted_of : (building : Bool) (w : Work) (tree : List DeclTree) (p : Prog) → IsProgramFor w tree p
    → AreWanted (work_with building w) tree p.invs p.procs
wanted_of building w tree p h = record {
  measured = h.wanted.measured;
  invs_are = h.wanted.invs_are;
  procs_are = h.wanted.procs_are;
}

pub program_with : (building : Bool) (w : Work) (tree : List DeclTree) (p : Prog) → IsProgramFor w tree p
    → IsProgramFor (work_with building w) tree p
program_with building w tree p h = record {
  tables = h.tables;
  names = h.names;
  cons = h.cons;
  wanted = wanted_of building w tree p h;
}

pub declared_in : (w : Work) (p : Prog) (made : Declared) → Adds (work_with true w) nothing p.invs p.procs made → IsDeclaredIn p made
declared_in w p made a = record { invs_are = a.invs_are refl; procs_are = a.procs_are refl }

-- the last limit, where none before it is passed
nodes_told : (w : Work) (tree : List DeclTree) (p : Prog) (large : Bool) → IsProgramFor w tree p → None ≡ first_in None (take 10 (limits p))
    → some_passes (is_large_in w.cons.now) p.invs p.procs ≡ large → first_limit p ≡ first_in None (passed Nodes large ∷ [])
nodes_told w tree p large h none is =
    let told : some_expression (is_large p) p ≡ large = sym (large_nodes p w.cons.now h.cons (kept p none)) ∙ is in
    last_limit p None none ∙ ap (λ (b : Bool). first_in None (passed Nodes b ∷ [])) told

pub none_passed : (w : Work) (tree : List DeclTree) (p : Prog) (made : Declared) → IsProgramFor w tree p
    → None ≡ first_in None (take 10 (limits p)) → Adds (work_with true w) nothing p.invs p.procs made → first_limit p ≡ None
none_passed w tree p made h none a = nodes_told w tree p false h none (a.small refl)

pub nodes_passed : (w : Work) (tree : List DeclTree) (p : Prog) → IsProgramFor w tree p → None ≡ first_in None (take 10 (limits p))
    → some_passes (is_large_in w.cons.now) p.invs p.procs ≡ true → first_limit p ≡ Some Nodes
nodes_passed w tree p h none large = nodes_told w tree p true h none large
