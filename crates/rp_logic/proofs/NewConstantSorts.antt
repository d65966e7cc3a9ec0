-- A constant that stands nowhere changes no sort.
use Rattle.std.proofs.Common.{◌≡◌, ℕ, ◌≤◌, List, [], ◌∷◌, ◌++◌, length, Bool, true, false, not, cond, eqb, ltb, sym, refl, ap, ◌∙◌, subst, slice_get, Option, Some, None, eq-eqb, ltb-true, arith}
use Rattle.std.specs.Option.{option_or}
use Rattle.std.proofs.lemmas.Bool.{and_parts, and_from}
use Rattle.rp_logic.specs.declared.sort.NewConst.{NewConst}
use Rattle.rp_logic.specs.Terms.{Tm, Tms, Var, Const, Fn, Int, Str, Con, Sel, Plus, no_tm, also_tm, At, Equal, Le, Rel}
use Rattle.rp_logic.specs.Formulas.{Fm, Fms, And, Or, All, Ex, Lit, no_fm, also_fm}
use Rattle.rp_logic.specs.Signatures.{Signature, fields_of}
use Rattle.rp_logic.specs.Sorted.{added_sort, is_sort, takes, sort_of_con, has_sort, have_sorts, IsNumber, IsSortedAtom, IsSorted, AreSorted}
use Rattle.rp_logic.proofs.SortLaws.{no, or_assoc}
use Rattle.rp_logic.specs.Constants.{lacks, all_lack, atom_lacks, formula_lacks, formulas_lack, each_lacks}
use Rattle.rp_logic.proofs.EachSorted.{EachSorted}

-- the last of the added constants counts
or_found : (b : Bool) (s : ℕ) (o : Option ℕ)
    → option_or (cond b (Some s) None) o ≡ cond b (Some s) o
or_found true s o = refl
or_found false s o = refl

last_first : (added : List NewConst) (new : NewConst) (c : ℕ)
    → added_sort (added ++ new ∷ []) c ≡ option_or (cond (eqb new.number c) (Some new.sort) None) (added_sort added c)
last_first [] new c = or_none (cond (eqb new.number c) (Some new.sort) None)
  where
    or_none : (o : Option ℕ) → o ≡ option_or o None
    or_none None = refl
    or_none (Some s) = refl
last_first (old ∷ added) new c =
    let here = cond (eqb new.number c) (Some new.sort) None in
    let oldest = cond (eqb old.number c) (Some old.sort) None in
    ap (λ o. option_or o oldest) (last_first added new c) ∙ or_assoc here (added_sort added c) oldest

pub last_counts : (added : List NewConst) (new : NewConst) (c : ℕ)
    → added_sort (added ++ new ∷ []) c ≡ cond (eqb new.number c) (Some new.sort) (added_sort added c)
last_counts added new c =
    last_first added new c ∙ or_found (eqb new.number c) new.sort (added_sort added c)

unchanged : (a b : Bool) (o q r : Option ℕ) (n s : ℕ) → not b ≡ true → r ≡ cond b (Some n) q
    → is_sort (cond a o q) s ≡ true → is_sort (cond a o r) s ≡ true
unchanged a true o q r n s l e h = no l
unchanged true false o q r n s l e h = h
unchanged false false o q r n s l e h = subst (λ x. is_sort x s ≡ true) (sym e) h

mutual
  pub sort_new : (t : Tm) (S : Signature) (added : List NewConst) (new : NewConst) (scope : List ℕ) (s : ℕ)
      → lacks new.number t ≡ true → has_sort S added scope s t ≡ true
      → has_sort S (added ++ new ∷ []) scope s t ≡ true
  sort_new (Var n) S added new scope s l h = h
  sort_new (Const d) S added new scope s l h =
      unchanged (ltb d (length S.consts)) (eqb new.number d) (slice_get S.consts d) (added_sort added d) (added_sort (added ++ new ∷ []) d) new.sort s l (last_counts added new d) h
  sort_new (Fn f ts) S added new scope s l h =
      let b = and_parts _ _ h in
      and_from _ _ b.0 (sorts_new ts S added new scope (takes (slice_get S.fns f)) l b.1)
  sort_new (Int z) S added new scope s l h = h
  sort_new (Str y) S added new scope s l h = h
  sort_new (Con d ts) S added new scope s l h =
      let b = and_parts _ _ h in
      and_from _ _ b.0 (sorts_new ts S added new scope (fields_of (slice_get S.cons d)) l b.1)
  sort_new (Sel d i t) S added new scope s l h =
      let b = and_parts _ _ h in
      and_from _ _ b.0 (sort_new t S added new scope (sort_of_con (slice_get S.cons d)) l b.1)
  sort_new (Plus t z) S added new scope s l h =
      let b = and_parts _ _ h in
      and_from _ _ b.0 (sort_new t S added new scope s l b.1)

  pub sorts_new : (ts : Tms) (S : Signature) (added : List NewConst) (new : NewConst) (scope : List ℕ) (ss : List ℕ)
      → all_lack new.number ts ≡ true → have_sorts S added scope ss ts ≡ true
      → have_sorts S (added ++ new ∷ []) scope ss ts ≡ true
  sorts_new no_tm S added new scope [] l h = refl
  sorts_new no_tm S added new scope (s ∷ ss) l h = h
  sorts_new (also_tm t ts) S added new scope [] l h = h
  sorts_new (also_tm t ts) S added new scope (s ∷ ss) l h =
      let b = and_parts _ _ h in
      let d = and_parts _ _ l in
      and_from _ _ (sort_new t S added new scope s d.0 b.0) (sorts_new ts S added new scope ss d.1 b.1)

number_new : (t : Tm) (S : Signature) (added : List NewConst) (new : NewConst) (scope : List ℕ)
    → lacks new.number t ≡ true → IsNumber S added scope t → IsNumber S (added ++ new ∷ []) scope t
number_new t S added new scope l h = (h.0, h.1, sort_new t S added new scope h.0 l h.2)

atom_new : (a : At) (S : Signature) (added : List NewConst) (new : NewConst) (scope : List ℕ)
    → atom_lacks new.number a ≡ true → IsSortedAtom S added scope a
    → IsSortedAtom S (added ++ new ∷ []) scope a
atom_new (Equal a b) S added new scope l h =
    let d = and_parts _ _ l in
    (h.0, sort_new a S added new scope h.0 d.0 h.1, sort_new b S added new scope h.0 d.1 h.2)
atom_new (Le a b k) S added new scope l h =
    let d = and_parts _ _ l in
    (number_new a S added new scope d.0 h.0, number_new b S added new scope d.1 h.1)
atom_new (Rel q ts) S added new scope l h = (h.0, h.1, sorts_new ts S added new scope h.0 l h.2)

mutual
  pub formula_new : (f : Fm) (S : Signature) (added : List NewConst) (new : NewConst) (scope : List ℕ)
      → formula_lacks new.number f ≡ true → IsSorted S added scope f
      → IsSorted S (added ++ new ∷ []) scope f
  formula_new (And fs) S added new scope l h = formulas_new fs S added new scope l h
  formula_new (Or fs) S added new scope l h = formulas_new fs S added new scope l h
  formula_new (All s f) S added new scope l h = (h.0, formula_new f S added new (s ∷ scope) l h.1)
  formula_new (Ex s f) S added new scope l h = (h.0, formula_new f S added new (s ∷ scope) l h.1)
  formula_new (Lit b a) S added new scope l h = atom_new a S added new scope l h

  pub formulas_new : (fs : Fms) (S : Signature) (added : List NewConst) (new : NewConst) (scope : List ℕ)
      → formulas_lack new.number fs ≡ true → AreSorted S added scope fs
      → AreSorted S (added ++ new ∷ []) scope fs
  formulas_new no_fm S added new scope l h = tt
  formulas_new (also_fm f fs) S added new scope l h =
      let d = and_parts _ _ l in (formula_new f S added new scope d.0 h.0, formulas_new fs S added new scope d.1 h.1)

pub each_new : (fs : List Fm) (S : Signature) (added : List NewConst) (new : NewConst)
    → each_lacks new.number fs ≡ true → EachSorted S added fs → EachSorted S (added ++ new ∷ []) fs
each_new [] S added new l h = tt
each_new (f ∷ fs) S added new l h =
    let d = and_parts _ _ l in (formula_new f S added new [] d.0 h.0, each_new fs S added new d.1 h.1)

pub new_has_sort : (S : Signature) (added : List NewConst) (new : NewConst)
    → length S.consts ≤ new.number
    → has_sort S (added ++ new ∷ []) [] new.sort (Const new.number) ≡ true
new_has_sort S added new l =
    known (ltb new.number (length S.consts)) (eqb new.number new.number) (added_sort (added ++ new ∷ []) new.number) refl (eq-eqb new.number new.number refl) (last_counts added new new.number)
  where
    known : (a b : Bool) (o : Option ℕ) → ltb new.number (length S.consts) ≡ a → b ≡ true
        → o ≡ cond b (Some new.sort) (added_sort added new.number)
        → is_sort (cond a (slice_get S.consts new.number) o) new.sort ≡ true
    known true b o p q e = let x = ltb-true new.number (length S.consts) p in absurd (omega arith)
    known false true o p q e =
        subst (λ x. is_sort x new.sort ≡ true) (sym e) (eq-eqb new.sort new.sort refl)
    known false false o p q e = no q
