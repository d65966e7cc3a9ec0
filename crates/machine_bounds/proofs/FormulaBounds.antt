-- The truth of a typed formula within the limits stays within 128 bits.
use Rattle.std.proofs.Common.{◌≡◌, ℕ, ◌+◌, ◌≤◌, true, ◌&&◌, not, List, ◌∷◌, ◌++◌, length, replicate, Option, Some, None, slice_get, refl, sym, arith, inl, inr, true≢false}
use Rattle.std.proofs.lemmas.Bool.{and_parts}
use Rattle.rp_value.specs.declared.tables.Ty.{Ty}
use Rattle.rp_value.specs.declared.tables.Ty.TheVariants as ty
use Rattle.rp_value.specs.Values.{Val}
use Rattle.rp_lang.specs.Bounds.{ex_weight, fo_weight, fos_weight, arms_weight}
use Rattle.rp_lang.specs.Exprs.{Ex, Query}
use Rattle.rp_lang.specs.Formulas as fo
use Rattle.rp_lang.specs.Formulas.{Fo, Fos, no_fo, also_fo, Arms, no_arm, also_arm}
use Rattle.rp_lang.specs.Types.{is_ty, agree, bool_ty, fields_of}
use Rattle.rp_lang.specs.Typing.{Frame, query_args, is_asked, type_of, have_types, is_record_term, is_question, are_both, is_range, under, are_cases, arm_cons, is_typed, are_typed, are_typed_arms}
use Rattle.rp_lang.specs.Programs.{Prog}
use Rattle.rp_lang.proofs.TypeFacts.{is-type}
use Rattle.crdt_defs.specs.Parts.{member}
use Rattle.crdt_defs.specs.Truths.{Reading, bind_fields, value}
use Rattle.crdt_truth.specs.Within.{ExWithin, FoWithin, FosWithin, ArmWithin}
use Rattle.event_machine.proofs.PlaceLemmas.{or-cases}
use Rattle.machine_bounds.proofs.TameLemmas.{Tame, BindersTame, member-tame, one-more, fields-bound}
use Rattle.machine_bounds.proofs.ExprBounds.{GivesTame, agreed, agreed-right, value-tame, ex-within, exs-within}

question-within : (r : Reading) → GivesTame r → (frame : Frame) (tys : List Ty) (uses : List ℕ) (binders : List Val) → BindersTame r.program.cons uses binders
    → (e : Ex) → is_question r.program frame tys e ≡ true → ex_weight uses e ≤ 100000 → ExWithin r binders e
question-within r g frame tys uses binders around (Query query args) h small =
    exs-within r g frame tys uses binders around (query_args (slice_get r.program.queries query)) args
    (and_parts (is_asked (slice_get r.program.queries query) && frame.reads) (have_types r.program frame tys (query_args (slice_get r.program.queries query)) args) h).1
    (omega arith)
question-within r g frame tys uses binders around _ h small = absurd (true≢false (sym h))

pair-within : (r : Reading) → GivesTame r → (frame : Frame) (tys : List Ty) (uses : List ℕ) (binders : List Val) → BindersTame r.program.cons uses binders
    → (t : Ty) (a b : Ex) → are_both r.program frame tys t a b ≡ true → 1 + ex_weight uses a + ex_weight uses b ≤ 100000 → ExWithin r binders a × ExWithin r binders b
pair-within r g frame tys uses binders around t a b h small =
    let both = and_parts (is_ty (type_of r.program frame tys a) t) (is_ty (type_of r.program frame tys b) t) h in (
      ex-within r g frame tys uses binders around a t (is-type _ t both.0) (omega arith),
      ex-within r g frame tys uses binders around b t (is-type _ t both.1) (omega arith),
    )

matched : (p : Prog) (o : Option Ty) (cons : List ℕ) → are_cases p o cons ≡ true → (t : Ty) × (o ≡ Some t)
matched p None cons h = absurd (true≢false (sym h))
matched p (Some t) cons h = (t, refl)

mutual
  pub fo-within : (r : Reading) → GivesTame r → (frame : Frame) (tys : List Ty) (uses : List ℕ) (binders : List Val) → BindersTame r.program.cons uses binders
      → (f : Fo) → is_typed r.program frame tys f ≡ true → fo_weight r.program.cons uses f ≤ 100000 → FoWithin r binders f
  fo-within r g frame tys uses binders around (fo.And parts) h small = fos-within r g frame tys uses binders around parts h (omega arith)
  fo-within r g frame tys uses binders around (fo.Or parts) h small = fos-within r g frame tys uses binders around parts h (omega arith)
  fo-within r g frame tys uses binders around (fo.Not f) h small = fo-within r g frame tys uses binders around f h (omega arith)
  fo-within r g frame tys uses binders around (fo.Implies f f') h small =
      let both = and_parts (is_typed r.program frame tys f) (is_typed r.program frame tys f') h in (
        fo-within r g frame tys uses binders around f both.0 (omega arith),
        fo-within r g frame tys uses binders around f' both.1 (omega arith),
      )
  fo-within r g frame tys uses binders around (fo.All over body) h small =
      let inside : fo_weight r.program.cons (1 ∷ uses) body ≤ 100000 = omega arith in
      λ n l i. fo-within r g frame (over ∷ tys) (1 ∷ uses) (member over n ∷ binders) (one-more r.program.cons 1 uses (member over n) binders (member-tame r.program.cons over n g.bare) around)
      body (and_parts (is_range r.program frame over) (is_typed r.program frame (over ∷ tys) body) h).1 inside
  fo-within r g frame tys uses binders around (fo.Any over body) h small =
      let inside : fo_weight r.program.cons (1 ∷ uses) body ≤ 100000 = omega arith in
      λ n l i. fo-within r g frame (over ∷ tys) (1 ∷ uses) (member over n ∷ binders) (one-more r.program.cons 1 uses (member over n) binders (member-tame r.program.cons over n g.bare) around)
      body (and_parts (is_range r.program frame over) (is_typed r.program frame (over ∷ tys) body) h).1 inside
  fo-within r g frame tys uses binders around (fo.Holds e) h small = elim (or-cases (is_question r.program frame tys e) (is_ty (type_of r.program frame tys e) bool_ty) h) [
    | inl k ↦ question-within r g frame tys uses binders around e k (omega (arith, small))
    | inr k ↦ ex-within r g frame tys uses binders around e bool_ty (is-type _ bool_ty k) (omega (arith, small))
  ]
  fo-within r g frame tys uses binders around (fo.Equal a b) h small =
      let same = (and_parts (agree (type_of r.program frame tys a) (type_of r.program frame tys b)) (not (is_record_term a && is_record_term b)) h).0 in
      let left = agreed (type_of r.program frame tys a) (type_of r.program frame tys b) same in
      let right = agreed-right (type_of r.program frame tys a) (type_of r.program frame tys b) same in (
        ex-within r g frame tys uses binders around a left.0 left.1 (omega arith),
        ex-within r g frame tys uses binders around b right.0 right.1 (omega arith),
      )
  fo-within r g frame tys uses binders around (fo.Less a b) h small = pair-within r g frame tys uses binders around ty.Int a b h small
  fo-within r g frame tys uses binders around (fo.AtMost a b) h small = pair-within r g frame tys uses binders around ty.Int a b h small
  fo-within r g frame tys uses binders around (fo.Visible call) h small = ex-within r g frame tys uses binders around call ty.Call (is-type _ ty.Call h) (omega arith)
  fo-within r g frame tys uses binders around (fo.Before a b) h small = elim (or-cases (are_both r.program frame tys ty.Call a b) (are_both r.program frame tys ty.Inv a b) h) [
    | inl k ↦ pair-within r g frame tys uses binders around ty.Call a b k small
    | inr k ↦ pair-within r g frame tys uses binders around ty.Inv a b k small
  ]
  fo-within r g frame tys uses binders around (fo.Same a b) h small = pair-within r g frame tys uses binders around ty.Call a b h small
  fo-within r g frame tys uses binders around (fo.Match on arms) h small =
      let both = and_parts (are_cases r.program (type_of r.program frame tys on) (arm_cons arms)) (are_typed_arms r.program frame tys arms) h in
      let t = matched r.program (type_of r.program frame tys on) (arm_cons arms) both.0 in (
        ex-within r g frame tys uses binders around on t.0 t.1 (omega arith),
        arms-within r g frame tys uses binders around (ex_weight uses on) (value r binders on) (value-tame r g frame tys uses binders around on t.0 t.1) arms both.1 (omega arith),
      )

  fos-within : (r : Reading) → GivesTame r → (frame : Frame) (tys : List Ty) (uses : List ℕ) (binders : List Val) → BindersTame r.program.cons uses binders
      → (fs : Fos) → are_typed r.program frame tys fs ≡ true → fos_weight r.program.cons uses fs ≤ 100000 → FosWithin r binders fs
  fos-within r g frame tys uses binders around no_fo h small = tt
  fos-within r g frame tys uses binders around (also_fo f fs) h small =
      let both = and_parts (is_typed r.program frame tys f) (are_typed r.program frame tys fs) h in (
        fo-within r g frame tys uses binders around f both.0 (omega arith),
        fos-within r g frame tys uses binders around fs both.1 (omega arith),
      )

  arms-within : (r : Reading) → GivesTame r → (frame : Frame) (tys : List Ty) (uses : List ℕ) (binders : List Val) → BindersTame r.program.cons uses binders
      → (w : ℕ) (v : Val) → Tame r.program.cons w v → (arms : Arms) → are_typed_arms r.program frame tys arms ≡ true → arms_weight r.program.cons uses w arms ≤ 100000
      → ArmWithin r binders v arms
  arms-within r g frame tys uses binders around w v tame no_arm h small = tt
  arms-within r g frame tys uses binders around w v tame (also_arm con body rest) h small =
      let both = and_parts (is_typed r.program frame (under (fields_of r.program.cons con) tys) body) (are_typed_arms r.program frame tys rest) h in
      let first : fo_weight r.program.cons (replicate (length (fields_of r.program.cons con)) w ++ uses) body ≤ 100000 = omega arith in
      let others : arms_weight r.program.cons uses w rest ≤ 100000 = omega arith in (
        λ built. fo-within r g frame (under (fields_of r.program.cons con) tys) (replicate (length (fields_of r.program.cons con)) w ++ uses) (bind_fields v binders)
            (fields-bound r.program.cons w con uses v binders built tame around) body both.0 first,
        λ other. arms-within r g frame tys uses binders around w v tame rest both.1 others,
      )
