-- A term under a binder more has its type.
use Rattle.std.proofs.Common.{◌≡◌, ◌+◌, ℕ, suc, Bool, true, false, List, [], ◌∷◌, ◌++◌, Some, refl, ap, sym, ◌∙◌, arith}
use Rattle.std.specs.Prelude.{slice_get}
use Rattle.rp_value.specs.declared.tables.Ty.{Ty}
use Rattle.rp_lang.specs.Exprs.{Ex, Slot, Bound, Int, Str, Con, Plus, Add, Sub, Query, OpOf, OpTerm, OriginOf, InfoOf, InfoTerm, ResultOf, ResultTerm, ResultWith, Unreturned, Exs, no_ex, also_ex}
use Rattle.rp_lang.specs.Programs.{Prog}
use Rattle.rp_lang.specs.Types.{fields_of}
use Rattle.rp_lang.specs.Typing.{Frame, type_of, have_types, is_record_term, op_args, query_args, proc_params}
use Rattle.type_rules.specs.declared.kind.Kind.{Kind}
use Rattle.type_rules.specs.Names.{Name}
use Rattle.type_rules.specs.Accesses.{Var}
use Rattle.desugaring.specs.Tables.{Tables, ty_of}
use Rattle.desugaring.specs.Values.{lifted, all_lifted}
use Rattle.desugaring.specs.Callees.{Vars}
use Rattle.desugaring.specs.Expressions.{under}
use Rattle.lawful.specs.Typed.{IsTerm, Sees, nothing, another}

next : (n : ℕ) → n + 1 ≡ suc n
next n = omega arith

mutual
  pub type_lifted : (p : Prog) (f : Frame) (b : Ty) (bs : List Ty) (x : Ex) → type_of p f (b ∷ bs) (lifted x) ≡ type_of p f bs x
  type_lifted p f b bs (Slot s) = refl
  type_lifted p f b bs (Bound n) = ap (slice_get (b ∷ bs)) (next n)
  type_lifted p f b bs (Int n) = refl
  type_lifted p f b bs (Str bytes) = refl
  type_lifted p f b bs (Con con args) = rw (types_lifted p f b bs (fields_of p.cons con) args) refl
  type_lifted p f b bs (Plus e n) = rw (type_lifted p f b bs e) refl
  type_lifted p f b bs (Add x y) = rw (type_lifted p f b bs x, type_lifted p f b bs y) refl
  type_lifted p f b bs (Sub x y) = rw (type_lifted p f b bs x, type_lifted p f b bs y) refl
  type_lifted p f b bs (Query q args) = rw (types_lifted p f b bs (query_args (slice_get p.queries q)) args) refl
  type_lifted p f b bs (OpOf e) = rw (type_lifted p f b bs e) refl
  type_lifted p f b bs (OpTerm op args) = rw (types_lifted p f b bs (op_args (slice_get p.ops op)) args) refl
  type_lifted p f b bs (OriginOf e) = rw (type_lifted p f b bs e) refl
  type_lifted p f b bs (InfoOf e) = rw (type_lifted p f b bs e) refl
  type_lifted p f b bs (InfoTerm q args) = rw (types_lifted p f b bs (proc_params (slice_get p.procs q)) args) refl
  type_lifted p f b bs (ResultOf e) = rw (type_lifted p f b bs e) refl
  type_lifted p f b bs (ResultTerm q) = refl
  type_lifted p f b bs (ResultWith q e) = rw (type_lifted p f b bs e) refl
  type_lifted p f b bs Unreturned = refl

  types_lifted : (p : Prog) (f : Frame) (b : Ty) (bs : List Ty) (ts : List Ty) (xs : Exs)
      → have_types p f (b ∷ bs) ts (all_lifted xs) ≡ have_types p f bs ts xs
  types_lifted p f b bs [] no_ex = refl
  types_lifted p f b bs [] (also_ex x xs) = refl
  types_lifted p f b bs (t ∷ ts) no_ex = refl
  types_lifted p f b bs (t ∷ ts) (also_ex x xs) = rw (type_lifted p f b bs x, types_lifted p f b bs ts xs) refl

record_lifted : (x : Ex) → is_record_term (lifted x) ≡ is_record_term x
record_lifted (Slot s) = refl
record_lifted (Bound n) = refl
record_lifted (Int n) = refl
record_lifted (Str bytes) = refl
record_lifted (Con con args) = refl
record_lifted (Plus e n) = refl
record_lifted (Add x y) = refl
record_lifted (Sub x y) = refl
record_lifted (Query q args) = refl
record_lifted (OpOf e) = refl
record_lifted (OpTerm op args) = refl
record_lifted (OriginOf e) = refl
record_lifted (InfoOf e) = refl
record_lifted (InfoTerm q args) = refl
record_lifted (ResultOf e) = refl
record_lifted (ResultTerm q) = refl
record_lifted (ResultWith q e) = refl
record_lifted Unreturned = refl

pub term_lifted : (t : Tables) (p : Prog) (f : Frame) (b : Ty) (bs : List Ty) (a : Bool) (k : Kind) (x : Ex)
    → IsTerm t p f bs a k x → IsTerm t p f (b ∷ bs) a k (lifted x)
term_lifted t p f b bs a k x is = record {
  typed = (is.typed.0, type_lifted p f b bs x ∙ is.typed.1, is.typed.2);
  stands = λ e. is.stands (sym (record_lifted x) ∙ e);
}

-- the variables behind a binder more, and the binder
pub sees_under : (t : Tables) (p : Prog) (f : Frame) (b : Ty) (bs : List Ty) (vs : List Var) (ss : Vars) (x : Name) (k : Kind)
    → ty_of t k ≡ Some b → Sees t p f bs vs ss
    → Sees t p f (b ∷ bs) (vs ++ record { name = x; kind = k; set = true; fixed = true } ∷ []) (under ss x k)
sees_under t p f b bs vs ss x k of nothing =
    another (λ set. record { typed = (b, refl, of); stands = λ e. absurd cc }) nothing
sees_under t p f b bs vs ss x k of (another {kind = kind} {known = known} is others) =
    another (λ set. term_lifted t p f b bs false kind known (is set)) (sees_under t p f b bs _ _ x k of others)
