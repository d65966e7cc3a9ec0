use Rattle.rp_grammar.specs.Trees.{DeclForm}
use Rattle.rp_parser.specs.means.DeclStarts.{decl_next}
use Rattle.rp_parser.proofs.Rests.{stands_at}
use Rattle.rp_parser.proofs.decls.read_decl.Goals as goal

pub returns-in-IdType-clause-reads : goal.returns-in-IdType-clause-reads
returns-in-IdType-clause-reads c = λ o k is.
    c.read_declared-name.ensures.reads o DeclForm.id_type k (stands_at c.args.rest (λ x. decl_next k c.args.start_span x) _ _ o c.in-IdType.is is)

pub returns-in-Opaque-clause-reads : goal.returns-in-Opaque-clause-reads
returns-in-Opaque-clause-reads c = λ o k is.
    c.read_declared-name-in-Opaque.ensures.reads o DeclForm.opaque k (stands_at c.args.rest (λ x. decl_next k c.args.start_span x) _ _ o c.in-Opaque.is is)

pub returns-in-Datatype-clause-reads : goal.returns-in-Datatype-clause-reads
returns-in-Datatype-clause-reads c = λ o k is.
    c.read_datatype.ensures.reads o k (stands_at c.args.rest (λ x. decl_next k c.args.start_span x) _ _ o c.in-Datatype.is is)

pub returns-in-Crdt-clause-reads : goal.returns-in-Crdt-clause-reads
returns-in-Crdt-clause-reads c = λ o k is.
    c.read_crdt_decl.ensures.reads o k (stands_at c.args.rest (λ x. decl_next k c.args.start_span x) _ _ o c.in-Crdt.is is)

pub returns-in-Query-clause-reads : goal.returns-in-Query-clause-reads
returns-in-Query-clause-reads c = λ o k is.
    c.read_query.ensures.reads o k (stands_at c.args.rest (λ x. decl_next k c.args.start_span x) _ _ o c.in-Query.is is)

pub returns-in-Invariant-clause-reads : goal.returns-in-Invariant-clause-reads
returns-in-Invariant-clause-reads c = λ o k is.
    c.read_invariant.ensures.reads o k (stands_at c.args.rest (λ x. decl_next k c.args.start_span x) _ _ o c.in-Invariant.is is)

pub returns-in-Proc-clause-reads : goal.returns-in-Proc-clause-reads
returns-in-Proc-clause-reads c = λ o k is.
    c.read_proc.ensures.reads o k (stands_at c.args.rest (λ x. decl_next k c.args.start_span x) _ _ o c.in-Proc.is is)
