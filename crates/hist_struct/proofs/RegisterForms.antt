-- The calls that count: what formulas over them say of the elements of any structure.
use Rattle.std.proofs.Common.{◌≡◌, ◌↔◌, ℕ, zero, suc, ◌+◌, ◌-◌, List, [], ◌∷◌, ◌++◌, length, map, drop, slice_get, Bool, true, ◌&&◌, refl, sym, ap, ap₂, ◌∙◌, subst, arith}
use Rattle.rp_lang.specs.declared.op.OpDecl.{OpDecl}
use Rattle.rp_lang.specs.declared.op.OpKind.TheVariants.{Assign}
use Rattle.rp_lang.specs.Programs.{Prog}
use Rattle.crdt_defs.specs.declared.asked.Winner.{Winner}
use Rattle.crdt_defs.specs.declared.asked.Winner.TheVariants.{Update, Delete}
use Rattle.crdt_defs.specs.Doing.{is_field, is_some_key}
use Rattle.rp_logic.specs.Elements.{Elem, Made}
use Rattle.rp_logic.specs.Terms.{Tm, Var}
use Rattle.rp_logic.specs.Formulas.{Fm, Fms, All, Ex, And, Or, also_fm}
use Rattle.rp_logic.specs.Dual.{duals}
use Rattle.rp_logic.specs.Filling.{raised}
use Rattle.rp_logic.specs.Truth.{Meaning, Holds, AllHold, NoneHolds, value}
use Rattle.rp_logic.proofs.DualLaws.{stable, duals_law}
use Rattle.rp_logic.proofs.ElementLaws.{same-is, is-same}
use Rattle.rp_logic.proofs.FillingLaws.{raised-value}
use Rattle.reshape.specs.Joined.{joined}
use Rattle.reshape.proofs.FlattenLaws.{joined-all, joined-none}
use Rattle.rp_symbols.specs.Numbers.{call_sort, before_rel, op_fn, op_con}
use Rattle.crdt_enc.specs.Builders.{one_fm, over_one, applied, selectors, built, is_call_of, for_each}
use Rattle.crdt_enc.specs.Elements.{elems}
use Rattle.crdt_enc.specs.FitsParts.{holds_of_two}
use Rattle.crdt_enc.specs.QueryFormulas.{passes, is_delete, is_kind, wins, stays, some_call, each_call}
use Rattle.crdt_enc.specs.Ways as ways
use Rattle.crdt_enc.specs.Ways.{Way, Root, AtField, depth, keys, goes}
use Rattle.crdt_enc.proofs.BuilderLaws.{all-of, any-of, all-ops, no-ops}
use Rattle.crdt_enc.proofs.CallLaws.{values-in, map-both, map-count, selectors-give}
use Rattle.crdt_enc.proofs.CountLaws.{raised-list}
use Rattle.hist_struct.specs.Registers.{mapped, IsOp, EachSuch, Wins, deletes_at, Stays, EachAssign}
use Rattle.hist_struct.proofs.BuiltLaws.{selectors-count}

-- # Ways with other keys

pub depth-mapped : {K L : Type 0} (f : K → L) (way : Way K) → depth (mapped f way) ≡ depth way
depth-mapped f (Root root) = refl
depth-mapped f (AtField n way) = ap (λ d. d + 1) (depth-mapped f way)
depth-mapped f (ways.AtKey winner key way) = ap (λ d. d + 1) (depth-mapped f way)

pub goes-mapped : {K L : Type 0} (f : K → L) (way : Way K) (decl : OpDecl) → goes (mapped f way) decl ≡ goes way decl
goes-mapped f (Root root) decl = refl
goes-mapped f (AtField n way) decl = ap₂ (λ b d. b && is_field n (slice_get decl.path d)) (goes-mapped f way decl) (depth-mapped f way)
goes-mapped f (ways.AtKey winner key way) decl = ap₂ (λ b d. b && is_some_key (slice_get decl.path d)) (goes-mapped f way decl) (depth-mapped f way)

pub keys-mapped : {K L : Type 0} (f : K → L) (way : Way K) → keys (mapped f way) ≡ map f (keys way)
keys-mapped f (Root root) = refl
keys-mapped f (AtField n way) = keys-mapped f way
keys-mapped f (ways.AtKey winner key way) = ap (λ ks. ks ++ f key ∷ []) (keys-mapped f way) ∙ sym (map-both f (keys way) (key ∷ []))

-- # The operation of a call

drop-front : (xs ys : List Elem) (n : ℕ) → n ≡ length xs → drop n (xs ++ ys) ≡ ys
drop-front [] [] zero e = refl
drop-front [] (y ∷ ys) zero e = refl
drop-front [] ys (suc n) e = absurd (omega (arith, e))
drop-front (x ∷ xs) ys zero e = absurd (omega (arith, e))
drop-front (x ∷ xs) ys (suc n) e = drop-front xs ys n (omega (arith, e))

both-long : (xs ys : List Elem) → length (xs ++ ys) ≡ length xs + length ys
both-long [] ys = omega arith
both-long (x ∷ xs) ys = let r = both-long xs ys in omega (arith, r)

is-op : (p : Prog) (M : Meaning) (vars : List Elem) (op : ℕ) (decl : OpDecl) (given : List Tm) (t : Tm)
    → Holds M vars (is_call_of p op decl given t) ↔ IsOp p M op decl (map (value M vars) given) (value M vars t)
is-op p M vars op decl given t = (forward, back)
  where
    built-is : value M vars (built (op_con p op) (length decl.args) given (applied op_fn t)) ≡ Made (op_con p op) (elems (map (value M vars) given ++ map (value M vars) (selectors (op_con p op) (length given) (length decl.args - length given) (applied op_fn t))))
    built-is = ap (Made (op_con p op)) (values-in (given ++ selectors (op_con p op) (length given) (length decl.args - length given) (applied op_fn t)) M vars ∙ ap elems (map-both (value M vars) given (selectors (op_con p op) (length given) (length decl.args - length given) (applied op_fn t))))

    forward : Holds M vars (is_call_of p op decl given t) → IsOp p M op decl (map (value M vars) given) (value M vars t)
    forward h = (
      map (value M vars) (selectors (op_con p op) (length given) (length decl.args - length given) (applied op_fn t)),
      same-is _ _ h ∙ built-is,
      selectors-count M vars (op_con p op) (length given) (length decl.args - length given) (applied op_fn t) ∙ ap (λ n. length decl.args - n) (sym (map-count (value M vars) given)),
    )

    back : IsOp p M op decl (map (value M vars) given) (value M vars t) → Holds M vars (is_call_of p op decl given t)
    back (rest, e, l) =
        let c = map-count (value M vars) given in
        let b = both-long (map (value M vars) given) rest in
        let n : length rest ≡ length decl.args - length given = l ∙ ap (λ n. length decl.args - n) c in
        let s = selectors-give M vars (op_con p op) (length given) (length decl.args - length given) (applied op_fn t) (map (value M vars) given ++ rest) e (omega (arith, n, b, c)) in
        let g = s ∙ drop-front (map (value M vars) given) rest (length given) (sym c) in
        is-same _ _ (e ∙ sym (built-is ∙ ap (λ ys. Made (op_con p op) (elems (map (value M vars) given ++ ys))) g))

pub one-none : (f : Fm) (M : Meaning) (vars : List Elem) → (¬ NoneHolds M vars (one_fm f)) ↔ Holds M vars f
one-none f M vars = ((λ k. stable f M vars (λ n. k (n, tt))), λ k n. n.0 k)

-- the same by equal tests and with equal arguments
each-like : (p : Prog) (M : Meaning) (view : ℕ) (pass other : OpDecl → Bool) (given others : List Elem) (Kept P : Elem → Type 0) → ((decl : OpDecl) → pass decl ≡ other decl) → given ≡ others
    → EachSuch p M view pass given Kept P ↔ EachSuch p M view other others Kept P
each-like p M view pass other given others Kept P e g = (
  (λ h op decl a t c i v o k. h op decl a (e decl ∙ t) c i v (subst (λ g. IsOp p M op decl g c) (sym g) o) k),
  λ h op decl a t c i v o k. h op decl a (sym (e decl) ∙ t) c i v (subst (λ g. IsOp p M op decl g c) g o) k,
)

module _ (p : Prog) (M : Meaning) (view : ℕ) (base : List Elem) where
  op-here : (op : ℕ) (decl : OpDecl) (given : List Tm) (es : List Elem) (n : ℕ) (d : Elem) → n ≡ length es
      → Holds M (d ∷ es ++ base) (is_call_of p op decl (map (raised (suc n)) given) (Var 0)) ↔ IsOp p M op decl (map (value M base) given) d
  op-here op decl given es n d en =
      let r = is-op p M (d ∷ es ++ base) op decl (map (raised (suc n)) given) (Var 0) in
      let e = raised-list given M (d ∷ es) base (suc n) (ap suc en) in
      ((λ h. subst (λ g. IsOp p M op decl g d) e (r.0 h)), λ h. r.1 (subst (λ g. IsOp p M op decl g d) (sym e) h))

  abbrev parts : ℕ → OpDecl → List Tm → ℕ → Fms → Fms
  parts op decl given n kept = also_fm (over_one true view (Var 0)) (also_fm (is_call_of p op decl (map (raised (suc n)) given) (Var 0)) kept)

  pub each-such : (pass : OpDecl → Bool) (given : List Tm) (es : List Elem) (n : ℕ) → n ≡ length es → (kept rest : Fms) (Kept P : Elem → Type 0)
      → ((d : Elem) → AllHold M (d ∷ es ++ base) kept ↔ Kept d) → ((d : Elem) → (¬ NoneHolds M (d ∷ es ++ base) rest) ↔ P d)
      → AllHold M (es ++ base) (for_each pass (λ op decl. All call_sort (Or (joined (duals (parts op decl given n kept)) rest))) 0 p.ops)
      ↔ EachSuch p M view pass (map (value M base) given) Kept P
  each-such pass given es n en kept rest Kept P k r = (
    (λ h op decl a t d i v o s.
        let f = (all-ops pass _ p.ops M (es ++ base)).0 h op decl a t d i in
        (r d).0 (λ none. f ((joined-none (duals (parts op decl given n kept)) rest M (d ∷ es ++ base)).1
        ((duals_law (parts op decl given n kept) M (d ∷ es ++ base)).0.1 (v, ((op-here op decl given es n d en).1 o, (k d).1 s)), none)))),
    λ h. (all-ops pass _ p.ops M (es ++ base)).1 (λ op decl a t d i none.
        let f = (joined-none (duals (parts op decl given n kept)) rest M (d ∷ es ++ base)).0 none in
        let c = (duals_law (parts op decl given n kept) M (d ∷ es ++ base)).0.0 f.0 in
        (r d).1 (h op decl a t d i c.0 ((op-here op decl given es n d en).0 c.1.0) ((k d).0 c.1.1)) f.1),
  )

  pub some-such : (pass : OpDecl → Bool) (given : List Tm) (es : List Elem) (n : ℕ) → n ≡ length es → (kept rest : Fms) (Kept R : Elem → Type 0)
      → ((d : Elem) → AllHold M (d ∷ es ++ base) kept ↔ Kept d) → ((d : Elem) → AllHold M (d ∷ es ++ base) rest ↔ R d)
      → (¬ NoneHolds M (es ++ base) (for_each pass (λ op decl. Ex call_sort (And (joined (parts op decl given n kept) rest))) 0 p.ops))
      ↔ (EachSuch p M view pass (map (value M base) given) Kept (λ c. R c → ⊥) → ⊥)
  some-such pass given es n en kept rest Kept R k r = (
    (λ h none. h ((no-ops pass _ p.ops M (es ++ base)).1 (λ op decl a t some.
        some (λ d i all.
        let f = (joined-all (parts op decl given n kept) rest M (d ∷ es ++ base)).0 all in
        none op decl a t d i f.0.0 ((op-here op decl given es n d en).0 f.0.1.0) ((k d).0 f.0.1.1) ((r d).0 f.1))))),
    λ h none. h (λ op decl a t d i v o s m.
        (no-ops pass _ p.ops M (es ++ base)).0 none op decl a t (λ each.
        each d i ((joined-all (parts op decl given n kept) rest M (d ∷ es ++ base)).1 ((v, ((op-here op decl given es n d en).1 o, (k d).1 s)), (r d).1 m)))),
  )

  -- # What a delete takes away

  wins-is : (winner : Winner) (t : Tm) (es : List Elem) (d : Elem) → (¬ NoneHolds M (d ∷ es ++ base) (one_fm (wins winner (raised 1 t)))) ↔ Wins M winner (value M (es ++ base) t) d
  wins-is Update t es d =
      let o = one-none (wins Update (raised 1 t)) M (d ∷ es ++ base) in
      let e = ap (λ x. holds_of_two M before_rel x d) (raised-value t M (d ∷ []) (es ++ base) 1 refl) in
      ((λ h. sym e ∙ o.0 h), λ h. o.1 (e ∙ h))
  wins-is Delete t es d =
      let o = one-none (wins Delete (raised 1 t)) M (d ∷ es ++ base) in
      let e = ap (λ x. holds_of_two M before_rel d x) (raised-value t M (d ∷ []) (es ++ base) 1 refl) in
      ((λ h. sym e ∙ o.0 h), λ h. o.1 (e ∙ h))

  deletes-like : (way : Way Tm) (decl : OpDecl) → passes way (is_delete (depth way)) decl ≡ deletes_at (mapped (value M base) way) decl
  deletes-like way decl = sym (ap₂ (λ b d. b && is_delete d decl) (goes-mapped (value M base) way decl) (depth-mapped (value M base) way))

  given-like : (way : Way Tm) (own : List Tm) → map (value M base) (keys way ++ own) ≡ keys (mapped (value M base) way) ++ map (value M base) own
  given-like way own = map-both (value M base) (keys way) own ∙ ap (λ ks. ks ++ map (value M base) own) (sym (keys-mapped (value M base) way))

  pub stays-is : (way : Way Tm) (es : List Elem) (n : ℕ) → n ≡ length es → (t : Tm) → AllHold M (es ++ base) (stays p view n way t) ↔ Stays p M view (mapped (value M base) way) (value M (es ++ base) t)
  stays-is (Root root) es n en t = ((λ h. tt), λ h. tt)
  stays-is (AtField m way) es n en t = stays-is way es n en t
  stays-is (ways.AtKey winner key way) es n en t =
      let r = stays-is way es n en t in
      let each = each-such (passes way (is_delete (depth way))) (keys way ++ key ∷ []) es n en (stays p view (suc n) way (Var 0)) (one_fm (wins winner (raised 1 t)))
      (Stays p M view (mapped (value M base) way)) (Wins M winner (value M (es ++ base) t)) (λ d. stays-is way (d ∷ es) (suc n) (ap suc en) (Var 0)) (λ d. wins-is winner t es d) in
      let like = each-like p M view (passes way (is_delete (depth way))) (deletes_at (mapped (value M base) way)) (map (value M base) (keys way ++ key ∷ []))
      (keys (mapped (value M base) way) ++ value M base key ∷ []) (Stays p M view (mapped (value M base) way)) (Wins M winner (value M (es ++ base) t)) (deletes-like way) (given-like way (key ∷ [])) in
      let both = joined-all (stays p view n way t) (for_each (passes way (is_delete (depth way))) (λ op decl. All call_sort (Or (joined (duals (parts op decl (keys way ++ key ∷ []) n (stays p view (suc n) way (Var 0)))) (one_fm (wins winner (raised 1 t)))))) 0 p.ops) M (es ++ base) in (
        (λ h. let b = both.0 h in (r.0 b.0, like.0 (each.0 b.1))),
        λ h. both.1 (r.1 h.0, each.1 (like.1 h.1)),
      )

  -- # Assigns that count

  abbrev is_assign : Way Elem → OpDecl → Bool
  is_assign way decl = goes way decl && is_kind Assign decl

  assigns-like : (way : Way Tm) (decl : OpDecl) → passes way (is_kind Assign) decl ≡ is_assign (mapped (value M base) way) decl
  assigns-like way decl = ap (λ b. b && is_kind Assign decl) (sym (goes-mapped (value M base) way decl))

  pub each-assign : (way : Way Tm) (own : List Tm) (es : List Elem) (n : ℕ) → n ≡ length es → (rest : Fms) (P : Elem → Type 0) → ((d : Elem) → (¬ NoneHolds M (d ∷ es ++ base) rest) ↔ P d)
      → Holds M (es ++ base) (each_call p view n way (is_kind Assign) own rest) ↔ EachAssign p M view (mapped (value M base) way) (map (value M base) own) P
  each-assign way own es n en rest P r =
      let each = each-such (passes way (is_kind Assign)) (keys way ++ own) es n en (stays p view (suc n) way (Var 0)) rest
      (Stays p M view (mapped (value M base) way)) P (λ d. stays-is way (d ∷ es) (suc n) (ap suc en) (Var 0)) r in
      let like = each-like p M view (passes way (is_kind Assign)) (is_assign (mapped (value M base) way)) (map (value M base) (keys way ++ own))
      (keys (mapped (value M base) way) ++ map (value M base) own) (Stays p M view (mapped (value M base) way)) P (assigns-like way) (given-like way own) in
      let all = all-of (for_each (passes way (is_kind Assign)) (λ op decl. All call_sort (Or (joined (duals (parts op decl (keys way ++ own) n (stays p view (suc n) way (Var 0)))) rest))) 0 p.ops) M (es ++ base) in
      ((λ h. like.0 (each.0 (all.0 h))), λ h. all.1 (each.1 (like.1 h)))

  pub some-assign : (way : Way Tm) (own : List Tm) (es : List Elem) (n : ℕ) → n ≡ length es → (rest : Fms) (R : Elem → Type 0) → ((d : Elem) → AllHold M (d ∷ es ++ base) rest ↔ R d)
      → Holds M (es ++ base) (some_call p view n way (is_kind Assign) own rest) ↔ (EachAssign p M view (mapped (value M base) way) (map (value M base) own) (λ c. R c → ⊥) → ⊥)
  some-assign way own es n en rest R r =
      let some = some-such (passes way (is_kind Assign)) (keys way ++ own) es n en (stays p view (suc n) way (Var 0)) rest
      (Stays p M view (mapped (value M base) way)) R (λ d. stays-is way (d ∷ es) (suc n) (ap suc en) (Var 0)) r in
      let like = each-like p M view (passes way (is_kind Assign)) (is_assign (mapped (value M base) way)) (map (value M base) (keys way ++ own))
      (keys (mapped (value M base) way) ++ map (value M base) own) (Stays p M view (mapped (value M base) way)) (λ c. R c → ⊥) (assigns-like way) (given-like way own) in
      let any = any-of (for_each (passes way (is_kind Assign)) (λ op decl. Ex call_sort (And (joined (parts op decl (keys way ++ own) n (stays p view (suc n) way (Var 0))) rest))) 0 p.ops) M (es ++ base) in
      ((λ h k. some.0 (any.0 h) (like.1 k)), λ h. any.1 (some.1 (λ k. h (like.0 k))))
