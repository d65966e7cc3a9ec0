-- The program of a lawful text, by its tables and the bodies of its queries.
use Rattle.std.proofs.Common.{◌≡◌, suc, true, List, [], ◌∷◌, map, length, Option, Some, refl, ap, sym, subst, ◌∙◌}
use Rattle.rp_grammar.specs.Trees.{DeclTree}
use Rattle.rp_ast.specs.declared.decl.Decl.{Decl}
use Rattle.rp_ast.specs.View.{decls_view}
use Rattle.rp_value.specs.declared.tables.TypeTable.{TypeTable}
use Rattle.rp_value.specs.declared.tables.ConTable.{ConTable}
use Rattle.rp_lang.specs.declared.root.Root.{Root}
use Rattle.rp_lang.specs.declared.op.OpDecl.{OpDecl}
use Rattle.rp_lang.specs.declared.query.QueryDecl.{QueryDecl}
use Rattle.rp_lang.specs.Programs.{Prog}
use Rattle.rp_lang.specs.Views.{parts_view, root_view}
use Rattle.rp_lang.specs.WellFormed.{is_well_formed}
use Rattle.desugaring.specs.Parts.{each}
use Rattle.desugaring.specs.Programs.{IsProgram, inv_for, invs_from, proc_for, procs_from, program_with, schema_for}
use Rattle.desugaring.specs.Tables.{Tables, con_table, op_table, query_table, root_table, tables_of, type_table}
use Rattle.desugaring.proofs.Options.{both_is, both_there, three_there}
use Rattle.desugaring.proofs.Programs.{program_is}
use Rattle.text_tables.specs.Seen.{tables_view}
use Rattle.query_bodies.specs.Seen.{saids_in}
use Rattle.query_laws.specs.Sight.{Follows}
use Rattle.query_laws.specs.Whole.{AreBodiesOf, inv_by, proc_by}
use Rattle.query_laws.proofs.Bodies.{inv_follows, proc_follows}
use Rattle.query_laws.proofs.Names.{names_told}
use Rattle.lower_exprs.specs.Making.{AreMeasuredIn}
use Rattle.lower_exprs.specs.declared.values.Work.{Work}
use Rattle.resolve.specs.declared.decls.Declared.{Declared}
use Rattle.resolve.specs.Tested.{HasTables, IsDeclaredIn, IsProgramFor}

-- # The program by the bodies

follows_each : {X Y : Type 0} (f g : X → Option Y) → ((x : X) → Follows (f x) (g x)) → (xs : List X) (ys : List Y)
    → each f xs ≡ Some ys → each g xs ≡ Some ys
follows_each f g k [] ys h = h
follows_each f g k (x ∷ xs) ys h =
    both_there (λ zs. each g (x ∷ xs) ≡ Some zs) ◌∷◌ (f x) (each f xs) ys h
    (λ y zs a b. both_is ◌∷◌ (g x) (each g xs) y zs (k x y a) (follows_each f g k xs zs b))

record AreOwn (t : Tables) (tree : List DeclTree) (p : Prog) : Type 0 where
  invs : each (inv_for t) (invs_from 0 1 tree) ≡ Some p.invs
  procs : each (proc_for t) (procs_from 0 tree) ≡ Some p.procs

own : (tree : List DeclTree) (p : Prog) → IsProgram tree p → AreOwn (tables_of tree) tree p
own tree p is =
    three_there (AreOwn (tables_of tree) tree) (program_with (tables_of tree)) (schema_for (tables_of tree))
    (each (inv_for (tables_of tree)) (invs_from 0 1 tree)) (each (proc_for (tables_of tree)) (procs_from 0 tree)) p (program_is tree p is)
    (λ s invs procs is_s is_invs is_procs. record { invs = is_invs; procs = is_procs })

pub has_tables : (t : Tables) (tree : List DeclTree) (p : Prog) → t ≡ tables_of tree → IsProgram tree p → HasTables t p
has_tables t tree p same is =
    subst (λ (x : Tables). HasTables x p) (sym same)
    (record { types = is.types; cons = is.cons; roots = is.roots; ops = is.ops; queries = is.queries })

one_of : {X : Type 0} (o : Option X) (x y : X) → o ≡ Some x → o ≡ Some y → x ≡ y
one_of o x y h k = let same : Some x ≡ Some y = sym h ∙ k in cc

pub cons_is : (t : Tables) (p : Prog) (cons : ConTable) → HasTables t p → con_table t ≡ Some cons → cons ≡ p.cons
cons_is t p cons h is = one_of (con_table t) cons p.cons is h.cons

pub program_by_bodies : (w : Work) (tree : List DeclTree) (p : Prog) → tables_view w.tables.now ≡ tables_of tree → IsProgram tree p
    → con_table (tables_view w.tables.now) ≡ Some w.cons.now
    → AreBodiesOf (tables_view w.tables.now) tree (saids_in w.bodies.now) → length (saids_in w.bodies.now) ≡ length tree
    → AreMeasuredIn w → IsProgramFor w tree p
program_by_bodies w tree p same is cons bodies long measured =
    let t : Tables = tables_of tree in
    let tables : HasTables (tables_view w.tables.now) p = has_tables (tables_view w.tables.now) tree p same is in
    let so : AreBodiesOf t tree (saids_in w.bodies.now) = subst (λ (x : Tables). AreBodiesOf x tree (saids_in w.bodies.now)) same bodies in
    let of = own tree p is in
    let invs : each (inv_by t (saids_in w.bodies.now)) (invs_from 0 1 tree) ≡ Some p.invs =
    follows_each (inv_for t) (inv_by t (saids_in w.bodies.now)) (inv_follows t tree (saids_in w.bodies.now) (names_told tree) so long)
    (invs_from 0 1 tree) p.invs of.invs in
    let procs : each (proc_by t (saids_in w.bodies.now)) (procs_from 0 tree) ≡ Some p.procs =
    follows_each (proc_for t) (proc_by t (saids_in w.bodies.now)) (proc_follows t tree (saids_in w.bodies.now) (names_told tree) so long)
    (procs_from 0 tree) p.procs of.procs in
    record {
      tables = tables;
      names = ap (λ (x : Tables). x.names) same;
      cons = cons_is (tables_view w.tables.now) p w.cons.now tables cons;
      wanted = record {
        measured = measured;
        invs_are = subst (λ (x : Tables). each (inv_by x (saids_in w.bodies.now)) (invs_from 0 1 tree) ≡ Some p.invs) (sym same) invs;
        procs_are = subst (λ (x : Tables). each (proc_by x (saids_in w.bodies.now)) (procs_from 0 tree) ≡ Some p.procs) (sym same) procs;
      };
    }

pub decls_long : (ds : List Decl) → length ds ≡ length (decls_view ds)
decls_long [] = refl
decls_long (d ∷ ds) = ap suc (decls_long ds)

-- # Its parts

pub made_view : (t : Tables) (p : Prog) (types : TypeTable) (cons : ConTable) (roots : List Root) (ops : List OpDecl) (queries : List QueryDecl)
    (made : Declared) → HasTables t p → types ≡ type_table t → cons ≡ p.cons → root_table t ≡ Some (map root_view roots)
    → op_table t ≡ Some ops → query_table t ≡ Some queries → IsDeclaredIn p made
    → parts_view types cons roots ops queries made.invs made.procs ≡ p
made_view t p types cons roots ops queries made h is_types is_cons is_roots is_ops is_queries own =
    let same_types : types ≡ p.types = is_types ∙ sym h.types in
    let same_roots : map root_view roots ≡ p.roots = one_of (root_table t) _ _ is_roots h.roots in
    let same_ops : ops ≡ p.ops = one_of (op_table t) _ _ is_ops h.ops in
    let same_queries : queries ≡ p.queries = one_of (query_table t) _ _ is_queries h.queries in
    λ i. record {
      types = same_types i;
      cons = is_cons i;
      roots = same_roots i;
      ops = same_ops i;
      queries = same_queries i;
      invs = own.invs_are i;
      procs = own.procs_are i;
    }

-- that is well formed, where the program is
pub made_well : (p q : Prog) → q ≡ p → is_well_formed p ≡ true → is_well_formed q ≡ true
made_well p q same h = ap is_well_formed same ∙ h
