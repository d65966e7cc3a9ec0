-- A typed expression comes to a whole value, whose integers are bounded by the nodes of the expression.
use Rattle.std.proofs.Common.{◌≡◌, ℕ, suc, ◌+◌, ◌≤◌, true, List, [], ◌∷◌, length, Option, Some, None, slice_get, refl, sym, ap, arith, true≢false}
use Rattle.std.proofs.lemmas.Bool.{and_parts}
use Rattle.rp_value.specs.declared.tables.Ty.{Ty}
use Rattle.rp_value.specs.declared.tables.Ty.TheVariants as ty
use Rattle.rp_value.specs.Values.{Val}
use Rattle.rp_lang.specs.Bounds.{ex_weight, exs_weight}
use Rattle.rp_lang.specs.Exprs.{Ex, Slot, Bound, Int, Str, Con, Plus, Add, Sub, Query, OpOf, OpTerm, OriginOf, InfoOf, InfoTerm, ResultOf, ResultTerm, ResultWith, Unreturned, Exs, no_ex, also_ex}
use Rattle.rp_lang.specs.Types as types
use Rattle.rp_lang.specs.Types.{is_ty}
use Rattle.rp_lang.specs.Typing.{Frame, op_args, query_args, proc_params, proc_result, is_word, type_of, have_types}
use Rattle.rp_lang.proofs.TypeFacts.{given-some, is-type}
use Rattle.crdt_defs.specs.Calls.{Call}
use Rattle.crdt_defs.specs.Truths.{Reading, slot_value, list_of, number, origin_of, call_at, asked, value, values}
use Rattle.crdt_truth.specs.Within.{ExWithin, ExsWithin}
use Rattle.event_machine.proofs.WiderLemmas.{agrees-some}
use Rattle.machine_bounds.specs.Bounded.{AllWithin, AreWhole}
use Rattle.machine_bounds.proofs.IntLemmas.{word-within, grown, sum-within, difference-within, fits-within}
use Rattle.machine_bounds.proofs.TameLemmas.{Tame, BindersTame, wider, all-wider, number-within, false-tame}

-- what the reading gives
pub record GivesTame (r : Reading) : Type 0 where
  pub slots : (n : ℕ) → Tame r.program.cons 1 (slot_value (slice_get r.slots n))
  pub asks : (n : ℕ) (args : List Val) → Tame r.program.cons 1 (asked r n args)
  pub bare : types.fields_of r.program.cons 0 ≡ []

pub agreed : (a b : Option Ty) → types.agree a b ≡ true → (t : Ty) × (a ≡ Some t)
agreed a b h = let k = agrees-some a b h in (k.0, is-type a k.0 k.2)

pub agreed-right : (a b : Option Ty) → types.agree a b ≡ true → (t : Ty) × (b ≡ Some t)
agreed-right a b h = let k = agrees-some a b h in (k.0, k.1)

raised : (r : Reading) (x y : ℕ) (v : Val) → x ≤ y → Tame r.program.cons x v → Tame r.program.cons y v
raised r x y v l h = (h.0, wider x y l v h.1)

origin-tame : (r : Reading) → GivesTame r → (w : ℕ) (o : Option Call) → Tame r.program.cons w (origin_of o)
origin-tame r g w None = false-tame r.program.cons w g.bare
origin-tame r g w (Some call) = (tt, tt)

mutual
  pub value-tame : (r : Reading) → GivesTame r → (frame : Frame) (under : List Ty) (uses : List ℕ) (binders : List Val) → BindersTame r.program.cons uses binders
      → (e : Ex) (t : Ty) → type_of r.program frame under e ≡ Some t → Tame r.program.cons (ex_weight uses e) (value r binders e)
  value-tame r g frame under uses binders around (Slot n) t h = g.slots n
  value-tame r g frame under uses binders around (Bound n) t h = around n
  value-tame r g frame under uses binders around (Int n) t h = (tt, word-within n (given-some _ _ t h).0)
  value-tame r g frame under uses binders around (Str bytes) t h = (tt, tt)
  value-tame r g frame under uses binders around (Con con args) t h =
      let fields = values-tame r g frame under uses binders around (types.fields_of r.program.cons con) args (given-some _ _ t h).0 in
      ((fields.0, fields.1), all-wider (exs_weight uses args) (1 + exs_weight uses args) (omega arith) (values r binders args) fields.2)
  value-tame r g frame under uses binders around (Plus e n) t h =
      let both = and_parts (is_word n) (is_ty (type_of r.program frame under e) ty.Int) (given-some _ _ t h).0 in
      let v = value-tame r g frame under uses binders around e ty.Int (is-type _ ty.Int both.1) in (
        tt,
        grown (ex_weight uses e + 1) (1 + ex_weight uses e) _ (omega arith)
            (sum-within (ex_weight uses e) 1 (number (value r binders e)) n (number-within (ex_weight uses e) (value r binders e) v.1) (word-within n both.0)),
      )
  value-tame r g frame under uses binders around (Add a b) t h =
      let both = and_parts (is_ty (type_of r.program frame under a) ty.Int) (is_ty (type_of r.program frame under b) ty.Int) (given-some _ _ t h).0 in
      let v = value-tame r g frame under uses binders around a ty.Int (is-type _ ty.Int both.0) in
      let w = value-tame r g frame under uses binders around b ty.Int (is-type _ ty.Int both.1) in (
        tt,
        grown (ex_weight uses a + ex_weight uses b) (1 + ex_weight uses a + ex_weight uses b) _ (omega arith)
            (sum-within (ex_weight uses a) (ex_weight uses b) (number (value r binders a)) (number (value r binders b))
            (number-within (ex_weight uses a) (value r binders a) v.1)
            (number-within (ex_weight uses b) (value r binders b) w.1)),
      )
  value-tame r g frame under uses binders around (Sub a b) t h =
      let both = and_parts (is_ty (type_of r.program frame under a) ty.Int) (is_ty (type_of r.program frame under b) ty.Int) (given-some _ _ t h).0 in
      let v = value-tame r g frame under uses binders around a ty.Int (is-type _ ty.Int both.0) in
      let w = value-tame r g frame under uses binders around b ty.Int (is-type _ ty.Int both.1) in (
        tt,
        grown (ex_weight uses a + ex_weight uses b) (1 + ex_weight uses a + ex_weight uses b) _ (omega arith)
            (difference-within (ex_weight uses a) (ex_weight uses b) (number (value r binders a)) (number (value r binders b))
            (number-within (ex_weight uses a) (value r binders a) v.1)
            (number-within (ex_weight uses b) (value r binders b) w.1)),
      )
  value-tame r g frame under uses binders around (Query query args) t h =
      raised r 1 (1 + exs_weight uses args) (asked r query (list_of (values r binders args))) (omega arith) (g.asks query (list_of (values r binders args)))
  value-tame r g frame under uses binders around (OpOf call) t h = false-tame r.program.cons (1 + ex_weight uses call) g.bare
  value-tame r g frame under uses binders around (OpTerm op args) t h = false-tame r.program.cons (1 + exs_weight uses args) g.bare
  value-tame r g frame under uses binders around (OriginOf call) t h = origin-tame r g (1 + ex_weight uses call) (call_at r.parts (value r binders call))
  value-tame r g frame under uses binders around (InfoOf inv) t h = false-tame r.program.cons (1 + ex_weight uses inv) g.bare
  value-tame r g frame under uses binders around (InfoTerm proc args) t h = false-tame r.program.cons (1 + exs_weight uses args) g.bare
  value-tame r g frame under uses binders around (ResultOf inv) t h = false-tame r.program.cons (1 + ex_weight uses inv) g.bare
  value-tame r g frame under uses binders around (ResultTerm proc) t h = false-tame r.program.cons 1 g.bare
  value-tame r g frame under uses binders around (ResultWith proc e) t h = false-tame r.program.cons (1 + ex_weight uses e) g.bare
  value-tame r g frame under uses binders around Unreturned t h = false-tame r.program.cons 1 g.bare

  pub values-tame : (r : Reading) → GivesTame r → (frame : Frame) (under : List Ty) (uses : List ℕ) (binders : List Val) → BindersTame r.program.cons uses binders
      → (ts : List Ty) (es : Exs) → have_types r.program frame under ts es ≡ true
      → (length (list_of (values r binders es)) ≡ length ts) × AreWhole r.program.cons (values r binders es) × AllWithin (exs_weight uses es) (values r binders es)
  values-tame r g frame under uses binders around [] no_ex h = (refl, tt, tt)
  values-tame r g frame under uses binders around [] (also_ex e es) h = absurd (true≢false (sym h))
  values-tame r g frame under uses binders around (t ∷ ts) no_ex h = absurd (true≢false (sym h))
  values-tame r g frame under uses binders around (t ∷ ts) (also_ex e es) h =
      let both = and_parts (is_ty (type_of r.program frame under e) t) (have_types r.program frame under ts es) h in
      let first = value-tame r g frame under uses binders around e t (is-type _ t both.0) in
      let rest = values-tame r g frame under uses binders around ts es both.1 in (
        ap suc rest.0,
        (first.0, rest.1),
        (
          wider (ex_weight uses e) (ex_weight uses e + exs_weight uses es) (omega arith) (value r binders e) first.1,
          all-wider (exs_weight uses es) (ex_weight uses e + exs_weight uses es) (omega arith) (values r binders es) rest.2,
        ),
      )

mutual
  pub ex-within : (r : Reading) → GivesTame r → (frame : Frame) (under : List Ty) (uses : List ℕ) (binders : List Val) → BindersTame r.program.cons uses binders
      → (e : Ex) (t : Ty) → type_of r.program frame under e ≡ Some t → ex_weight uses e ≤ 100000 → ExWithin r binders e
  ex-within r g frame under uses binders around (Slot n) t h small = tt
  ex-within r g frame under uses binders around (Bound n) t h small = tt
  ex-within r g frame under uses binders around (Int n) t h small = tt
  ex-within r g frame under uses binders around (Str bytes) t h small = tt
  ex-within r g frame under uses binders around (Con con args) t h small =
      exs-within r g frame under uses binders around (types.fields_of r.program.cons con) args (given-some _ _ t h).0 (omega arith)
  ex-within r g frame under uses binders around (Plus e n) t h small =
      let both = and_parts (is_word n) (is_ty (type_of r.program frame under e) ty.Int) (given-some _ _ t h).0 in
      let is = is-type _ ty.Int both.1 in
      let v = value-tame r g frame under uses binders around e ty.Int is in (
        ex-within r g frame under uses binders around e ty.Int is (omega arith),
        fits-within (ex_weight uses e + 1) _ (omega arith)
            (sum-within (ex_weight uses e) 1 (number (value r binders e)) n (number-within (ex_weight uses e) (value r binders e) v.1) (word-within n both.0)),
      )
  ex-within r g frame under uses binders around (Add a b) t h small =
      let both = and_parts (is_ty (type_of r.program frame under a) ty.Int) (is_ty (type_of r.program frame under b) ty.Int) (given-some _ _ t h).0 in
      let left = is-type _ ty.Int both.0 in
      let right = is-type _ ty.Int both.1 in
      let v = value-tame r g frame under uses binders around a ty.Int left in
      let w = value-tame r g frame under uses binders around b ty.Int right in (
        ex-within r g frame under uses binders around a ty.Int left (omega arith),
        ex-within r g frame under uses binders around b ty.Int right (omega arith),
        fits-within (ex_weight uses a + ex_weight uses b) _ (omega arith)
            (sum-within (ex_weight uses a) (ex_weight uses b) (number (value r binders a)) (number (value r binders b))
            (number-within (ex_weight uses a) (value r binders a) v.1)
            (number-within (ex_weight uses b) (value r binders b) w.1)),
      )
  ex-within r g frame under uses binders around (Sub a b) t h small =
      let both = and_parts (is_ty (type_of r.program frame under a) ty.Int) (is_ty (type_of r.program frame under b) ty.Int) (given-some _ _ t h).0 in
      let left = is-type _ ty.Int both.0 in
      let right = is-type _ ty.Int both.1 in
      let v = value-tame r g frame under uses binders around a ty.Int left in
      let w = value-tame r g frame under uses binders around b ty.Int right in (
        ex-within r g frame under uses binders around a ty.Int left (omega arith),
        ex-within r g frame under uses binders around b ty.Int right (omega arith),
        fits-within (ex_weight uses a + ex_weight uses b) _ (omega arith)
            (difference-within (ex_weight uses a) (ex_weight uses b) (number (value r binders a)) (number (value r binders b))
            (number-within (ex_weight uses a) (value r binders a) v.1)
            (number-within (ex_weight uses b) (value r binders b) w.1)),
      )
  ex-within r g frame under uses binders around (Query query args) t h small =
      exs-within r g frame under uses binders around (query_args (slice_get r.program.queries query)) args (and_parts _ _ (given-some _ _ t h).0).1 (omega arith)
  ex-within r g frame under uses binders around (OpOf call) t h small =
      ex-within r g frame under uses binders around call ty.Call (is-type _ ty.Call (given-some _ _ t h).0) (omega arith)
  ex-within r g frame under uses binders around (OpTerm op args) t h small =
      exs-within r g frame under uses binders around (op_args (slice_get r.program.ops op)) args (and_parts _ _ (given-some _ _ t h).0).1 (omega arith)
  ex-within r g frame under uses binders around (OriginOf call) t h small =
      ex-within r g frame under uses binders around call ty.Call (is-type _ ty.Call (given-some _ _ t h).0) (omega arith)
  ex-within r g frame under uses binders around (InfoOf inv) t h small =
      ex-within r g frame under uses binders around inv ty.Inv (is-type _ ty.Inv (given-some _ _ t h).0) (omega arith)
  ex-within r g frame under uses binders around (InfoTerm proc args) t h small =
      exs-within r g frame under uses binders around (proc_params (slice_get r.program.procs proc)) args (and_parts _ _ (given-some _ _ t h).0).1 (omega arith)
  ex-within r g frame under uses binders around (ResultOf inv) t h small =
      ex-within r g frame under uses binders around inv ty.Inv (is-type _ ty.Inv (given-some _ _ t h).0) (omega arith)
  ex-within r g frame under uses binders around (ResultTerm proc) t h small = tt
  ex-within r g frame under uses binders around (ResultWith proc e) t h small =
      let k = agreed (type_of r.program frame under e) (proc_result (slice_get r.program.procs proc)) (given-some _ _ t h).0 in
      ex-within r g frame under uses binders around e k.0 k.1 (omega arith)
  ex-within r g frame under uses binders around Unreturned t h small = tt

  pub exs-within : (r : Reading) → GivesTame r → (frame : Frame) (under : List Ty) (uses : List ℕ) (binders : List Val) → BindersTame r.program.cons uses binders
      → (ts : List Ty) (es : Exs) → have_types r.program frame under ts es ≡ true → exs_weight uses es ≤ 100000 → ExsWithin r binders es
  exs-within r g frame under uses binders around [] no_ex h small = tt
  exs-within r g frame under uses binders around [] (also_ex e es) h small = absurd (true≢false (sym h))
  exs-within r g frame under uses binders around (t ∷ ts) no_ex h small = absurd (true≢false (sym h))
  exs-within r g frame under uses binders around (t ∷ ts) (also_ex e es) h small =
      let both = and_parts (is_ty (type_of r.program frame under e) t) (have_types r.program frame under ts es) h in (
        ex-within r g frame under uses binders around e t (is-type _ t both.0) (omega arith),
        exs-within r g frame under uses binders around ts es both.1 (omega arith),
      )
