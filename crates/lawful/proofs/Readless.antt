-- What doesn't read the store is typed as well where the store may not be read.
use Rattle.std.proofs.Common.{◌≡◌, true, false, List, [], ◌∷◌, refl, ap}
use Rattle.std.specs.Prelude.{slice_get}
use Rattle.std.proofs.lemmas.Bool.{or_parts, true≢false}
use Rattle.rp_value.specs.declared.tables.Ty.{Ty}
use Rattle.rp_value.specs.declared.tables.Ty.TheVariants as ty
use Rattle.rp_lang.specs.Exprs.{Ex, Slot, Bound, Int, Str, Con, Plus, Add, Sub, Query, OpOf, OpTerm, OriginOf, InfoOf, InfoTerm, ResultOf, ResultTerm, ResultWith, Unreturned, Exs, no_ex, also_ex}
use Rattle.rp_lang.specs.Formulas as fo
use Rattle.rp_lang.specs.Formulas.{Fo, Fos, no_fo, also_fo, Arms, no_arm, also_arm}
use Rattle.rp_lang.specs.Programs.{Prog}
use Rattle.rp_lang.specs.Types.{is_ty, fields_of, bool_ty}
use Rattle.rp_lang.specs.Typing.{Frame, type_of, have_types, op_args, proc_params, is_typed, are_typed, are_typed_arms, is_range, is_truth, under}
use Rattle.desugaring.specs.Values.{ex_reads, exs_read, fo_reads, fos_read, arms_read}

abbrev pub reading : Frame → Frame
reading f = record f { reads = true }

mutual
  pub type_readless : (p : Prog) (f : Frame) (bs : List Ty) (x : Ex) → ex_reads x ≡ false → type_of p (reading f) bs x ≡ type_of p f bs x
  type_readless p f bs (Slot s) e = refl
  type_readless p f bs (Bound n) e = refl
  type_readless p f bs (Int n) e = refl
  type_readless p f bs (Str bytes) e = refl
  type_readless p f bs (Con con args) e = rw (types_readless p f bs (fields_of p.cons con) args e) refl
  type_readless p f bs (Plus x n) e = rw (type_readless p f bs x e) refl
  type_readless p f bs (Add x y) e = let h = or_parts _ _ e in rw (type_readless p f bs x h.0, type_readless p f bs y h.1) refl
  type_readless p f bs (Sub x y) e = let h = or_parts _ _ e in rw (type_readless p f bs x h.0, type_readless p f bs y h.1) refl
  type_readless p f bs (Query q args) e = absurd (true≢false e)
  type_readless p f bs (OpOf x) e = rw (type_readless p f bs x e) refl
  type_readless p f bs (OpTerm op args) e = rw (types_readless p f bs (op_args (slice_get p.ops op)) args e) refl
  type_readless p f bs (OriginOf x) e = rw (type_readless p f bs x e) refl
  type_readless p f bs (InfoOf x) e = rw (type_readless p f bs x e) refl
  type_readless p f bs (InfoTerm q args) e = rw (types_readless p f bs (proc_params (slice_get p.procs q)) args e) refl
  type_readless p f bs (ResultOf x) e = rw (type_readless p f bs x e) refl
  type_readless p f bs (ResultTerm q) e = refl
  type_readless p f bs (ResultWith q x) e = rw (type_readless p f bs x e) refl
  type_readless p f bs Unreturned e = refl

  pub types_readless : (p : Prog) (f : Frame) (bs : List Ty) (ts : List Ty) (xs : Exs) → exs_read xs ≡ false
      → have_types p (reading f) bs ts xs ≡ have_types p f bs ts xs
  types_readless p f bs [] no_ex e = refl
  types_readless p f bs [] (also_ex x xs) e = refl
  types_readless p f bs (t ∷ ts) no_ex e = refl
  types_readless p f bs (t ∷ ts) (also_ex x xs) e =
      let h = or_parts _ _ e in rw (type_readless p f bs x h.0, types_readless p f bs ts xs h.1) refl

truth_readless : (p : Prog) (f : Frame) (bs : List Ty) (x : Ex) → ex_reads x ≡ false → is_truth p (reading f) bs x ≡ is_truth p f bs x
truth_readless p f bs (Query q args) e = absurd (true≢false e)
truth_readless p f bs (Slot s) e = refl
truth_readless p f bs (Bound n) e = refl
truth_readless p f bs (Con con args) e = ap (λ o. is_ty o bool_ty) (type_readless p f bs (Con con args) e)
truth_readless p f bs x e = first p f bs x e where
  first : (p : Prog) (f : Frame) (bs : List Ty) (x : Ex) → ex_reads x ≡ false → is_truth p (reading f) bs x ≡ is_truth p f bs x
  first p f bs (Query q args) e = absurd (true≢false e)
  first p f bs x e = ap (λ o. is_ty o bool_ty) (type_readless p f bs x e)

range_readless : (p : Prog) (f : Frame) (t : Ty) → is_range p (reading f) t ≡ is_range p f t
range_readless p f ty.Int = refl
range_readless p f ty.Str = refl
range_readless p f (ty.Atom n) = refl
range_readless p f (ty.Datatype n) = refl
range_readless p f ty.Call = refl
range_readless p f ty.Inv = refl
range_readless p f ty.Operation = refl
range_readless p f ty.Info = refl
range_readless p f ty.Outcome = refl

mutual
  pub typed_readless : (p : Prog) (f : Frame) (bs : List Ty) (g : Fo) → fo_reads g ≡ false → is_typed p (reading f) bs g ≡ is_typed p f bs g
  typed_readless p f bs (fo.And parts) e = all_readless p f bs parts e
  typed_readless p f bs (fo.Or parts) e = all_readless p f bs parts e
  typed_readless p f bs (fo.Not g) e = typed_readless p f bs g e
  typed_readless p f bs (fo.Implies a b) e = let h = or_parts _ _ e in rw (typed_readless p f bs a h.0, typed_readless p f bs b h.1) refl
  typed_readless p f bs (fo.All t g) e = rw (range_readless p f t, typed_readless p f (t ∷ bs) g e) refl
  typed_readless p f bs (fo.Any t g) e = rw (range_readless p f t, typed_readless p f (t ∷ bs) g e) refl
  typed_readless p f bs (fo.Holds x) e = truth_readless p f bs x e
  typed_readless p f bs (fo.Equal a b) e = let h = or_parts _ _ e in rw (type_readless p f bs a h.0, type_readless p f bs b h.1) refl
  typed_readless p f bs (fo.Less a b) e = let h = or_parts _ _ e in rw (type_readless p f bs a h.0, type_readless p f bs b h.1) refl
  typed_readless p f bs (fo.AtMost a b) e = let h = or_parts _ _ e in rw (type_readless p f bs a h.0, type_readless p f bs b h.1) refl
  typed_readless p f bs (fo.Visible x) e = rw (type_readless p f bs x e) refl
  typed_readless p f bs (fo.Before a b) e = let h = or_parts _ _ e in rw (type_readless p f bs a h.0, type_readless p f bs b h.1) refl
  typed_readless p f bs (fo.Same a b) e = let h = or_parts _ _ e in rw (type_readless p f bs a h.0, type_readless p f bs b h.1) refl
  typed_readless p f bs (fo.Match on arms) e = let h = or_parts _ _ e in rw (type_readless p f bs on h.0, arms_readless p f bs arms h.1) refl

  all_readless : (p : Prog) (f : Frame) (bs : List Ty) (gs : Fos) → fos_read gs ≡ false → are_typed p (reading f) bs gs ≡ are_typed p f bs gs
  all_readless p f bs no_fo e = refl
  all_readless p f bs (also_fo g gs) e = let h = or_parts _ _ e in rw (typed_readless p f bs g h.0, all_readless p f bs gs h.1) refl

  arms_readless : (p : Prog) (f : Frame) (bs : List Ty) (arms : Arms) → arms_read arms ≡ false
      → are_typed_arms p (reading f) bs arms ≡ are_typed_arms p f bs arms
  arms_readless p f bs no_arm e = refl
  arms_readless p f bs (also_arm con g rest) e =
      let h = or_parts _ _ e in rw (typed_readless p f (under (fields_of p.cons con) bs) g h.0, arms_readless p f bs rest h.1) refl
