-- Calls and invocations are the first sorts, and have no constructors.
use Rattle.std.proofs.Common.{◌≡◌, ℕ, zero, suc, ◌<◌, ◌≤◌, false, List, [], ◌∷◌, ◌++◌, map, refl, arith, slice_get, ne_eqb}
use Rattle.rp_value.specs.declared.tables.ConDecl.{ConDecl}
use Rattle.rp_lang.specs.declared.op.OpDecl.{OpDecl}
use Rattle.rp_lang.specs.Programs.{Prog, Proc}
use Rattle.rp_logic.specs.declared.sort.LogicCon.{LogicCon}
use Rattle.rp_logic.specs.Signatures.{is_con_of}
use Rattle.rp_symbols.specs.Numbers.{data_sort, op_sort, info_sort, outcome_sort}
use Rattle.hist_struct.specs.Structure.{IsSig}
use Rattle.rp_symbols.specs.Signatures.{result_list, sort_of, con_of, con_decls, sig_of, with_path}

-- each constructor is of a later sort
abbrev AllHigh : List LogicCon → Type 0
AllHigh [] = Unit {0}
AllHigh (c ∷ cs) = (2 ≤ c.sort) × AllHigh cs

high-both : (xs ys : List LogicCon) → AllHigh xs → AllHigh ys → AllHigh (xs ++ ys)
high-both [] ys h k = k
high-both (x ∷ xs) ys h k = (h.0, high-both xs ys h.1 k)

high-map : {A : Type 0} (f : A → LogicCon) (xs : List A) → ((x : A) → 2 ≤ (f x).sort) → AllHigh (map f xs)
high-map f [] h = tt
high-map f (x ∷ xs) h = (h x, high-map f xs h)

high-free : (cs : List LogicCon) (c s : ℕ) → AllHigh cs → s < 2 → is_con_of (slice_get cs c) s ≡ false
high-free [] c s h l = refl
high-free (x ∷ cs) zero s h l = ne_eqb x.sort s (λ e. let k = h.0 in omega (arith, e, k, l))
high-free (x ∷ cs) (suc c) s h l = high-free cs c s h.1 l

pub sig-is : (p : Prog) (views : ℕ) (consts : List ℕ) (reads : ℕ) → IsSig (with_path p consts reads (sig_of p views))
sig-is p views consts reads = record {
  sorts = _;
  are = refl;
  free = λ con s l. high-free (con_decls p) con s
      (high-both _ _ (high-map (λ (decl : ConDecl). con_of (data_sort p decl.of) (map (sort_of p) decl.fields)) p.cons.cons (λ decl. omega arith))
      (high-both _ _ (high-map (λ (decl : OpDecl). con_of (op_sort p) (map (sort_of p) decl.args)) p.ops (λ decl. omega arith))
      (high-both _ _ (high-map (λ (q : Proc). con_of (info_sort p) (map (sort_of p) q.params)) p.procs (λ q. omega arith))
      ((let l : 2 ≤ outcome_sort p = omega arith in l), high-map (λ (q : Proc). con_of (outcome_sort p) (map (sort_of p) (result_list q.result))) p.procs (λ q. omega arith))))) l;
}
