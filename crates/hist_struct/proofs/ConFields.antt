-- The fields of each constructor of a program's signature are of sorts of types of data.
use Rattle.std.proofs.Common.{◌≡◌, ℕ, zero, suc, true, inl, inr, List, [], ◌∷◌, ◌++◌, map, Option, Some, None, slice_get, refl, sym, ap, ◌∙◌}
use Rattle.std.proofs.lemmas.Bool.{and_from}
use Rattle.std.proofs.lemmas.Option.{same_Some}
use Rattle.rp_value.specs.declared.tables.Ty.{Ty}
use Rattle.rp_value.specs.declared.tables.ConDecl.{ConDecl}
use Rattle.rp_lang.specs.declared.op.OpDecl.{OpDecl}
use Rattle.rp_lang.specs.Types.{is_ordinary, are_ordinary}
use Rattle.rp_lang.specs.Programs.{Prog, Proc}
use Rattle.rp_lang.proofs.ProgramFacts.{Facts}
use Rattle.rp_lang.proofs.TypeFacts.{each}
use Rattle.rp_logic.specs.declared.sort.LogicCon.{LogicCon}
use Rattle.rp_symbols.specs.Numbers.{data_sort, op_sort, info_sort, outcome_sort}
use Rattle.rp_symbols.specs.Signatures.{sort_of, con_of, con_decls, result_list}
use Rattle.hist_struct.proofs.FitLaws.{map-at}
use Rattle.hist_struct.proofs.OrdinaryLaws.{op-ordinary, params-ordinary, result-ordinary}
use Rattle.hist_struct.proofs.SortKinds.{split-at}

pub record AreData (p : Prog) (con : LogicCon) : Type 0 where
  pub tys : List Ty
  pub args : con.args ≡ map (sort_of p) tys
  pub ordinary : are_ordinary p.types tys ≡ true

data-of : (p : Prog) (con made : LogicCon) (tys : List Ty) → made ≡ con → made.args ≡ map (sort_of p) tys → are_ordinary p.types tys ≡ true → AreData p con
data-of p con made tys e a o = record { tys = tys; args = ap (λ (c : LogicCon). c.args) (sym e) ∙ a; ordinary = o }

result-data : (p : Prog) → Facts p → (n : ℕ) (q : Proc) → slice_get p.procs n ≡ Some q → (o : Option Ty) → q.result ≡ o → are_ordinary p.types (result_list o) ≡ true
result-data p f n q a None e = refl
result-data p f n q a (Some t) e = and_from (is_ordinary p.types t) true (result-ordinary p f n q t a e) refl

outcome-data : (p : Prog) → Facts p → (i : ℕ) (con : LogicCon) → slice_get (con_of (outcome_sort p) [] ∷ map (λ (q : Proc). con_of (outcome_sort p) (map (sort_of p) (result_list q.result))) p.procs) i ≡ Some con
    → AreData p con
outcome-data p f zero con e = data-of p con (con_of (outcome_sort p) []) [] (same_Some _ con e) refl refl
outcome-data p f (suc i) con e =
    let q = map-at (λ (q : Proc). con_of (outcome_sort p) (map (sort_of p) (result_list q.result))) p.procs i con e in
    data-of p con (con_of (outcome_sort p) (map (sort_of p) (result_list q.0.result))) (result_list q.0.result) q.2 refl (result-data p f i q.0 q.1 q.0.result refl)

pub con-data : (p : Prog) → Facts p → (n : ℕ) (con : LogicCon) → slice_get (con_decls p) n ≡ Some con → AreData p con
con-data p f n con e = elim (split-at (map (λ (decl : ConDecl). con_of (data_sort p decl.of) (map (sort_of p) decl.fields)) p.cons.cons) _ n con e) [
  | inl h ↦
      let d = map-at (λ (decl : ConDecl). con_of (data_sort p decl.of) (map (sort_of p) decl.fields)) p.cons.cons n con h in
      data-of p con (con_of (data_sort p d.0.of) (map (sort_of p) d.0.fields)) d.0.fields d.2 refl (each (λ (c : ConDecl). are_ordinary p.types c.fields) p.cons.cons n d.0 f.fields d.1)
  | inr h ↦ behind h.0 h.2
]
  where
    last : (i : ℕ) → slice_get (map (λ (q : Proc). con_of (info_sort p) (map (sort_of p) q.params)) p.procs
        ++ (con_of (outcome_sort p) [] ∷ map (λ (q : Proc). con_of (outcome_sort p) (map (sort_of p) (result_list q.result))) p.procs)) i ≡ Some con → AreData p con
    last i e = elim (split-at (map (λ (q : Proc). con_of (info_sort p) (map (sort_of p) q.params)) p.procs) _ i con e) [
      | inl h ↦
          let q = map-at (λ (q : Proc). con_of (info_sort p) (map (sort_of p) q.params)) p.procs i con h in
          data-of p con (con_of (info_sort p) (map (sort_of p) q.0.params)) q.0.params q.2 refl (params-ordinary p f i q.0 q.1)
      | inr h ↦ outcome-data p f h.0 con h.2
    ]

    behind : (i : ℕ) → slice_get (map (λ (decl : OpDecl). con_of (op_sort p) (map (sort_of p) decl.args)) p.ops
        ++ (map (λ (q : Proc). con_of (info_sort p) (map (sort_of p) q.params)) p.procs
        ++ (con_of (outcome_sort p) [] ∷ map (λ (q : Proc). con_of (outcome_sort p) (map (sort_of p) (result_list q.result))) p.procs))) i ≡ Some con → AreData p con
    behind i e = elim (split-at (map (λ (decl : OpDecl). con_of (op_sort p) (map (sort_of p) decl.args)) p.ops) _ i con e) [
      | inl h ↦
          let q = map-at (λ (decl : OpDecl). con_of (op_sort p) (map (sort_of p) decl.args)) p.ops i con h in
          data-of p con (con_of (op_sort p) (map (sort_of p) q.0.args)) q.0.args q.2 refl (op-ordinary p f i q.0 q.1)
      | inr h ↦ last h.0 h.2
    ]
