-- What the code's operations and queries are.
use Rattle.std.proofs.Common.{◌≡◌, ℕ, List, [], ◌∷◌, ◌++◌, map, Option, Some, None, refl, sym, ap, subst, ◌∙◌}
use Rattle.std.specs.List.{cons_option}
use Rattle.std.specs.Option.{option_map}
use Rattle.rp_value.specs.declared.tables.Ty.{Ty}
use Rattle.rp_lang.specs.declared.op.OpDecl.{OpDecl}
use Rattle.rp_lang.specs.declared.op.OpKind.{OpKind}
use Rattle.rp_lang.specs.declared.query.QueryDecl.{QueryDecl}
use Rattle.rp_lang.specs.declared.query.QueryKind.{QueryKind}
use Rattle.type_rules.specs.declared.kind.Kind.{Kind}
use Rattle.type_rules.specs.Paths.{Does, Member}
use Rattle.desugaring.specs.Parts.{both, each}
use Rattle.desugaring.specs.Objects.{KindStep, OwnOp, OwnQuery, PathOp, PathQuery, keys_on, op_kind, op_kinds, own_op, own_query, query_kind, query_kinds}
use Rattle.desugaring.specs.Tables.{Tables, op_decl, op_with, query_decl, query_with, step_of, ty_of}
use Rattle.desugaring.proofs.Options.{both_is, three_is}
use Rattle.type_terms.specs.Members.{does_view, member_over}
use Rattle.type_terms.specs.declared.members.Does as code_does
use Rattle.type_terms.specs.declared.members.Does.TheVariants as does
use Rattle.text_tables.specs.declared.members.Members.{Members}
use Rattle.text_tables.specs.declared.spot.Spot.{Spot}
use Rattle.text_tables.specs.means.Rooted.{Declares, DeclaresOwn, HasArgs, IsAt}
use Rattle.text_tables.proofs.Growing.{each_both, grows_none, grows_one}

no_query : (d : Does) (kind : OpKind) → op_kind d ≡ Some kind → query_kind d ≡ None
no_query Does.adds kind e = refl
no_query Does.removes kind e = refl
no_query Does.assigns kind e = refl
no_query Does.increments kind e = refl
no_query Does.deletes kind e = refl
no_query Does.contains kind e = absurd cc
no_query Does.has_key kind e = absurd cc
no_query Does.gets_value kind e = absurd cc
no_query Does.gets_sum kind e = absurd cc

no_op : (d : Does) (kind : QueryKind) → query_kind d ≡ Some kind → op_kind d ≡ None
no_op Does.adds kind e = absurd cc
no_op Does.removes kind e = absurd cc
no_op Does.assigns kind e = absurd cc
no_op Does.increments kind e = absurd cc
no_op Does.deletes kind e = absurd cc
no_op Does.contains kind e = refl
no_op Does.has_key kind e = refl
no_op Does.gets_value kind e = refl
no_op Does.gets_sum kind e = refl

abbrev op_made : Member → OpKind → OwnOp
op_made m kind = record { name = m.name; kind = kind; args = m.args }

abbrev query_made : Member → QueryKind → OwnQuery
query_made m kind = record { name = m.name; kind = kind; args = m.args; result = m.result }

abbrev op_at : ℕ → List KindStep → OwnOp → PathOp
op_at root path own = record { root = root; path = path; own = own }

abbrev query_at : ℕ → List KindStep → OwnQuery → PathQuery
query_at root path own = record { root = root; path = path; own = own }

from_first : {X : Type 0} (a : List X) (o : Option (List X)) → both (λ a b. a ++ b) (Some a) o ≡ option_map (λ b. a ++ b) o
from_first a None = refl
from_first a (Some b) = refl

args_are : (t : Tables) (path : List KindStep) (spot : Spot) (ks : List Kind) (args : List Ty) → IsAt t path spot → HasArgs t spot.keys ks args
    → each (ty_of t) (keys_on path ++ ks) ≡ Some args
args_are t path spot ks args at e =
    each_both (ty_of t) (keys_on path) ks ∙ ap (λ o. both (λ a b. a ++ b) o (each (ty_of t) ks)) at.keys
    ∙ from_first spot.keys (each (ty_of t) ks) ∙ e

pub op_declared : (t : Tables) (path : List KindStep) (spot : Spot) (m : Member) (kind : OpKind) (args : List Ty) (old new : Members) → IsAt t path spot
    → op_kind m.does ≡ Some kind → HasArgs t spot.keys m.args args
    → new.ops ≡ old.ops ++ record { root = spot.root; path = spot.path; kind = kind; args = args } ∷ [] → new.queries ≡ old.queries
    → DeclaresOwn t spot.root path (m ∷ []) old new
op_declared t path spot m kind args old new at of has ops queries =
    let own : own_op m ≡ Some (op_made m kind) = ap (option_map (op_made m)) of in
    let none : own_query m ≡ None = ap (option_map (query_made m)) (no_query m.does kind of) in
    let o = op_at spot.root path (op_made m kind) in
    let d : OpDecl = record { root = spot.root; path = spot.path; kind = kind; args = args } in
    let made : op_decl t o ≡ Some d =
    both_is (op_with o) (each (step_of t) path) (each (ty_of t) (op_kinds o)) spot.path args at.steps (args_are t path spot m.args args at has) in
    subst (λ os. Declares t old os (map (query_at spot.root path) (cons_option (own_query m) [])) new) (sym (ap (λ p. map (op_at spot.root path) (cons_option p [])) own))
    (subst (λ qs. Declares t old (o ∷ []) qs new) (sym (ap (λ p. map (query_at spot.root path) (cons_option p [])) none))
    (record {
      ops_are = grows_one (op_decl t) old.ops o d made ∙ ap Some (sym ops);
      queries_are = grows_none (query_decl t) old.queries ∙ ap Some (sym queries);
    }))

pub query_declared : (t : Tables) (path : List KindStep) (spot : Spot) (m : Member) (kind : QueryKind) (args : List Ty) (result : Ty) (old new : Members) → IsAt t path spot
    → query_kind m.does ≡ Some kind → HasArgs t spot.keys m.args args → ty_of t m.result ≡ Some result
    → new.queries ≡ old.queries ++ record { root = spot.root; path = spot.path; kind = kind; args = args; result = result } ∷ [] → new.ops ≡ old.ops
    → DeclaresOwn t spot.root path (m ∷ []) old new
query_declared t path spot m kind args result old new at of has gives queries ops =
    let own : own_query m ≡ Some (query_made m kind) = ap (option_map (query_made m)) of in
    let none : own_op m ≡ None = ap (option_map (op_made m)) (no_op m.does kind of) in
    let q = query_at spot.root path (query_made m kind) in
    let d : QueryDecl = record { root = spot.root; path = spot.path; kind = kind; args = args; result = result } in
    let made : query_decl t q ≡ Some d =
    three_is (query_with q) (each (step_of t) path) (each (ty_of t) (query_kinds q)) (ty_of t m.result) spot.path args result at.steps
    (args_are t path spot m.args args at has) gives in
    subst (λ qs. Declares t old (map (op_at spot.root path) (cons_option (own_op m) [])) qs new) (sym (ap (λ p. map (query_at spot.root path) (cons_option p [])) own))
    (subst (λ os. Declares t old os (q ∷ []) new) (sym (ap (λ p. map (op_at spot.root path) (cons_option p [])) none))
    (record {
      ops_are = grows_none (op_decl t) old.ops ∙ ap Some (sym ops);
      queries_are = grows_one (query_decl t) old.queries q d made ∙ ap Some (sym queries);
    }))

pub nothing_declared : (t : Tables) (root : ℕ) (path : List KindStep) (m : Member) (ms : Members) → op_kind m.does ≡ None → query_kind m.does ≡ None
    → DeclaresOwn t root path (m ∷ []) ms ms
nothing_declared t root path m ms op query =
    subst (λ os. Declares t ms os (map (query_at root path) (cons_option (own_query m) [])) ms) (sym (ap (λ p. map (op_at root path) (cons_option (option_map (op_made m) p) [])) op))
    (subst (λ qs. Declares t ms [] qs ms) (sym (ap (λ p. map (query_at root path) (cons_option (option_map (query_made m) p) [])) query))
    (record { ops_are = grows_none (op_decl t) ms.ops; queries_are = grows_none (query_decl t) ms.queries }))

pub does_is : (k : Kind) (d : code_does.Does) → (member_over k d).does ≡ does_view d
does_is k does.Adds = refl
does_is k does.Removes = refl
does_is k does.Assigns = refl
does_is k does.Increments = refl
does_is k does.Deletes = refl
does_is k does.Contains = refl
does_is k does.HasKey = refl
does_is k does.GetsValue = refl
does_is k does.GetsSum = refl
