-- What is told of a program's expressions, invariants and procedures by those that were declared, blank or not.
use Rattle.std.proofs.Common.{◌≡◌, suc, Bool, List, [], ◌∷◌, length, refl, ap, sym, ◌∙◌, arith}
use Rattle.std.specs.Prelude.{◌||◌, map}
use Rattle.std.specs.List.{list_any}
use Rattle.rp_value.specs.declared.tables.ConTable.{ConTable}
use Rattle.rp_lang.specs.declared.limit.LimitName.TheVariants.{Depth, Procedures, Invariants, Statements, Quantifiers}
use Rattle.rp_lang.specs.declared.proc.ProcDecl.{ProcDecl}
use Rattle.rp_lang.specs.Programs.{Proc, Prog}
use Rattle.rp_lang.specs.Sizes.{sts_count}
use Rattle.rp_lang.specs.Views.{proc_view}
use Rattle.desugaring.specs.Limits.{is_past, is_deep, binds_much, some_expression}
use Rattle.lower_exprs.specs.declared.values.Work.{Work}
use Rattle.lower_procs.specs.Whole.{binds_many}
use Rattle.resolve.specs.declared.decls.Declared.{Declared}
use Rattle.resolve.specs.Adds.{Adds, counts, nothing, some_passes}

pub told_deep : (w : Work) (p : Prog) (made : Declared) → Adds w nothing p.invs p.procs made
    → is_past Depth made.passed.depth ≡ some_expression is_deep p
told_deep w p made a = a.passed.depth

pub told_binds : (w : Work) (p : Prog) (made : Declared) → w.cons.now ≡ p.cons → Adds w nothing p.invs p.procs made
    → is_past Quantifiers made.passed.binders ≡ some_expression (binds_much p) p
told_binds w p made same a = a.passed.binders ∙ ap (λ (cs : ConTable). some_passes (binds_many cs) p.invs p.procs) same

pub told_invs : (w : Work) (p : Prog) (made : Declared) → Adds w nothing p.invs p.procs made
    → is_past Invariants (length made.invs) ≡ is_past Invariants (length p.invs)
told_invs w p made a = let same : length made.invs ≡ length p.invs = omega (arith, a.inv_count) in ap (is_past Invariants) same

same_counts : (w : Work) (p : Prog) (made : Declared) → Adds w nothing p.invs p.procs made → counts (map proc_view made.procs) ≡ counts p.procs
same_counts w p made a = a.proc_counts

count_long : (procs : List Proc) → length (counts procs) ≡ length procs
count_long [] = refl
count_long (p ∷ procs) = ap suc (count_long procs)

viewed_long : (procs : List ProcDecl) → length (map proc_view procs) ≡ length procs
viewed_long [] = refl
viewed_long (p ∷ procs) = ap suc (viewed_long procs)

pub told_procs : (w : Work) (p : Prog) (made : Declared) → Adds w nothing p.invs p.procs made
    → is_past Procedures (length made.procs) ≡ is_past Procedures (length p.procs)
told_procs w p made a =
    ap (is_past Procedures)
    (sym (viewed_long made.procs) ∙ sym (count_long (map proc_view made.procs)) ∙ ap length (same_counts w p made a) ∙ count_long p.procs)

any_counts : (procs : List Proc) → list_any (is_past Statements) (counts procs) ≡ list_any (λ (q : Proc). is_past Statements (sts_count q.body)) procs
any_counts [] = refl
any_counts (p ∷ procs) = ap (λ (b : Bool). is_past Statements (sts_count p.body) || b) (any_counts procs)

pub told_long : (w : Work) (p : Prog) (made : Declared) → Adds w nothing p.invs p.procs made
    → list_any (λ (q : Proc). is_past Statements (sts_count q.body)) (map proc_view made.procs)
    ≡ list_any (λ (q : Proc). is_past Statements (sts_count q.body)) p.procs
told_long w p made a =
    sym (any_counts (map proc_view made.procs)) ∙ ap (list_any (is_past Statements)) (same_counts w p made a) ∙ any_counts p.procs
