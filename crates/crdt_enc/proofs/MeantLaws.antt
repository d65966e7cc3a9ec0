-- What expressions stand for beside values: operations, records and outcomes.
use Rattle.std.proofs.Common.{◌≡◌, ℕ, zero, suc, ◌<◌, nat_eq, List, [], ◌∷◌, length, slice_get, true, ◌↔◌, Option, Some, None, refl, sym, ap, ap₂, ◌∙◌, subst, eqb-true, eq-eqb, ltb-true, arith}
use Rattle.std.specs.Option.{is_none}
use Rattle.std.proofs.lemmas.Option.{none-some, same_Some}
use Rattle.rp_value.specs.declared.tables.Ty.{Ty}
use Rattle.rp_value.specs.declared.tables.Ty.TheVariants as ty
use Rattle.rp_value.specs.declared.tables.ConDecl.{ConDecl}
use Rattle.rp_value.specs.Values as val
use Rattle.rp_value.specs.Values.{Val, Vals, no_val, also_val}
use Rattle.rp_value.specs.ValueView as view
use Rattle.rp_lang.specs.declared.op.OpDecl.{OpDecl}
use Rattle.rp_lang.specs.Exprs as ex
use Rattle.rp_lang.specs.Exprs.{Ex, Exs, no_ex, also_ex}
use Rattle.rp_lang.specs.Types.{agree, datatype_in}
use Rattle.rp_lang.specs.Typing.{Frame, type_of, have_types, op_args, proc_params, proc_result, is_proc, is_proc_without_result}
use Rattle.rp_lang.specs.Programs.{Prog, Proc}
use Rattle.crdt_defs.specs.Parts.{Parts, Info, Result, Unreturned, Returned, ReturnedWith}
use Rattle.crdt_defs.specs.SameValues.{same_val, same_vals}
use Rattle.crdt_defs.specs.Fitting.{fits, fields_fit, all_fit}
use Rattle.crdt_defs.specs.Truths as truths
use Rattle.crdt_defs.specs.Truths.{Reading, call_at, info_at, operation_of, info_of, result_of, ended, Meant, Plain, Operation, Invoked, Running, Ended, EndedWith, meant, same_meant}
use Rattle.rp_logic.specs.Elements.{Elem, Point, Made, no_elem, also_elem, same_elem}
use Rattle.rp_logic.specs.Truth.{Meaning, value}
use Rattle.rp_logic.proofs.ElementLaws.{same-is, same-self}
use Rattle.std.proofs.lemmas.Bool.{and_parts, and_from}
use Rattle.rp_logic.proofs.SortLaws.{no}
use Rattle.rp_symbols.specs.Numbers.{op_con, info_con, outcome_con, unreturned_con, op_fn, info_fn}
use Rattle.crdt_enc.specs.Elements.{elem_of, elems_in}
use Rattle.crdt_enc.specs.Places.{At}
use Rattle.crdt_enc.specs.FormulaFormulas.{Around, term_of}
use Rattle.crdt_enc.specs.FitsParts.{value_at, elem_meant}
use Rattle.crdt_enc.proofs.ValueLaws.{one-value, one-values, val-is, vals-are, val-self, vals-self}
use Rattle.rp_lang.proofs.TypeFacts.{is-type, given-some}
use Rattle.crdt_enc.proofs.TermLaws.{is_plain, HasType, data-plain, data-fits, call-there, viewed-elems, bound-at, get-query, Reads, value-is, values-are}
use Rattle.crdt_enc.specs.Stages.{ResultFits}
use Rattle.crdt_enc.proofs.StageFacts.{Staged}

abbrev pub MeantFits : Prog → Parts → Ty → Meant → Type 0
MeantFits p parts t (Plain v) = (is_plain t ≡ true) × HasType p parts t v
MeantFits p parts t (Operation op args) = (t ≡ ty.Operation) × ((decl : OpDecl) × (slice_get p.ops op ≡ Some decl) × (fields_fit p decl.args args ≡ true))
MeantFits p parts t (Invoked proc args) = (t ≡ ty.Info) × ((q : Proc) × (slice_get p.procs proc ≡ Some q) × (fields_fit p q.params args ≡ true))
MeantFits p parts t Running = t ≡ ty.Outcome
MeantFits p parts t (Ended proc) = (t ≡ ty.Outcome) × ((q : Proc) × (slice_get p.procs proc ≡ Some q) × (q.result ≡ None))
MeantFits p parts t (EndedWith proc v) = (t ≡ ty.Outcome) × ((q : Proc) × (slice_get p.procs proc ≡ Some q) × ((u : Ty) × (q.result ≡ Some u) × (fits p u v ≡ true)))

fit-view : (p : Prog) (ts : List Ty) (vs : List Val) → all_fit p ts vs ≡ true → fields_fit p ts (view.vals_of vs) ≡ true
fit-view p [] [] h = refl
fit-view p [] (v ∷ vs) h = no h
fit-view p (t ∷ ts) [] h = no h
fit-view p (t ∷ ts) (v ∷ vs) h = let b = and_parts (fits p t v) (all_fit p ts vs) h in and_from (fits p t v) _ b.0 (fit-view p ts vs b.1)

proc-there : (procs : List Proc) (n : ℕ) → is_proc (slice_get procs n) ≡ true → (q : Proc) × (slice_get procs n ≡ Some q)
proc-there procs n h = go (slice_get procs n) refl h
  where
    go : (o : Option Proc) → slice_get procs n ≡ o → is_proc o ≡ true → (q : Proc) × (slice_get procs n ≡ Some q)
    go None e h = no h
    go (Some q) e h = (q, e)

none-is : (o : Option Ty) → is_none o ≡ true → o ≡ None
none-is None h = refl
none-is (Some t) h = no h

pub bare-there : (procs : List Proc) (n : ℕ) → is_proc_without_result (slice_get procs n) ≡ true → (q : Proc) × (slice_get procs n ≡ Some q) × (q.result ≡ None)
bare-there procs n h = go (slice_get procs n) refl h
  where
    go : (o : Option Proc) → slice_get procs n ≡ o → is_proc_without_result o ≡ true → (q : Proc) × (slice_get procs n ≡ Some q) × (q.result ≡ None)
    go None e h = no h
    go (Some q) e h = (q, e, none-is q.result h)

pub agree-is : (a b : Option Ty) → agree a b ≡ true → (t : Ty) × (a ≡ Some t) × (b ≡ Some t)
agree-is a None h = no h
agree-is a (Some t) h = (t, is-type a t h, refl)

pub result-there : (procs : List Proc) (n : ℕ) (t : Ty) → proc_result (slice_get procs n) ≡ Some t → (q : Proc) × (slice_get procs n ≡ Some q) × (q.result ≡ Some t)
result-there procs n t h = go (slice_get procs n) refl h
  where
    go : (o : Option Proc) → slice_get procs n ≡ o → proc_result o ≡ Some t → (q : Proc) × (slice_get procs n ≡ Some q) × (q.result ≡ Some t)
    go None e h = absurd (none-some t h)
    go (Some q) e h = (q, e, h)

info-there : (infos : List Info) (i : ℕ) → i < length infos → (info : Info) × (slice_get infos i ≡ Some info)
info-there [] i lt = absurd (omega arith)
info-there (x ∷ infos) zero lt = (x, refl)
info-there (x ∷ infos) (suc i) lt = info-there infos i (omega arith)

op-there : (ops : List OpDecl) (n : ℕ) → n < length ops → (decl : OpDecl) × (slice_get ops n ≡ Some decl)
op-there [] i lt = absurd (omega arith)
op-there (x ∷ ops) zero lt = (x, refl)
op-there (x ∷ ops) (suc i) lt = op-there ops i (omega arith)

ended-fits : (p : Prog) (parts : Parts) (t : Ty) (proc : ℕ) (q : Proc) (result : Result) → t ≡ ty.Outcome → slice_get p.procs proc ≡ Some q → ResultFits p q result → MeantFits p parts t (ended proc result)
ended-fits p parts t proc q Unreturned e is f = e
ended-fits p parts t proc q Returned e is f = (e, (q, is, f))
ended-fits p parts t proc q (ReturnedWith v) e is f = (e, (q, is, f))

has-plain : (p : Prog) (parts : Parts) (t : Ty) (v : Val) → HasType p parts t v → is_plain t ≡ true
has-plain p parts ty.Int v h = refl
has-plain p parts ty.Str v h = refl
has-plain p parts (ty.Atom n) v h = refl
has-plain p parts (ty.Datatype n) v h = refl
has-plain p parts ty.Call v h = refl
has-plain p parts ty.Inv v h = refl
has-plain p parts ty.Operation v h = no h
has-plain p parts ty.Info v h = no h
has-plain p parts ty.Outcome v h = no h

made-plain : (o : Option ConDecl) (t : Ty) → datatype_in o ≡ Some t → is_plain t ≡ true
made-plain None t h = absurd (none-some t h)
made-plain (Some decl) t h = subst (λ t. is_plain t ≡ true) (same_Some (ty.Datatype decl.of) t h) refl

module _ (r : Reading) (M : Meaning) (at : At) (stage : Staged r M at) (frame : Frame) where
  abbrev Is : Ty → List Elem → Around → List Val → Ex → Type 0
  Is t vars a bs e = (value M vars (term_of r.program at a e) ≡ elem_meant r.program (meant r bs e)) × MeantFits r.program r.parts t (meant r bs e)

  plain : (e : Ex) (t : Ty) (vars : List Elem) (a : Around) (tys : List Ty) (bs : List Val) → Reads r M at stage frame vars a tys bs → type_of r.program frame tys e ≡ Some t → is_plain t ≡ true
      → (value M vars (term_of r.program at a e) ≡ elem_of (truths.value r bs e)) × ((is_plain t ≡ true) × HasType r.program r.parts t (truths.value r bs e))
  plain e t vars a tys bs w h d = let k = value-is r M at stage frame e t vars a tys bs w h d in (k.0, (d, k.1))

  plain-by : (t u : Ty) → Some u ≡ Some t → is_plain u ≡ true → is_plain t ≡ true
  plain-by t u e d = subst (λ t. is_plain t ≡ true) (same_Some u t e) d

  pub meant-is : (e : Ex) (t : Ty) (vars : List Elem) (a : Around) (tys : List Ty) (bs : List Val) → Reads r M at stage frame vars a tys bs → type_of r.program frame tys e ≡ Some t → Is t vars a bs e
  meant-is (ex.Slot s) t vars a tys bs w h = plain (ex.Slot s) t vars a tys bs w h (data-plain t (w.0 s t h).0)
  meant-is (ex.Bound n) t vars a tys bs w h = plain (ex.Bound n) t vars a tys bs w h (has-plain r.program r.parts t _ (bound-at r.program r.parts M vars tys a.bounds bs w.1 n t h).typed)
  meant-is (ex.Int n) t vars a tys bs w h = plain (ex.Int n) t vars a tys bs w h (plain-by t ty.Int (given-some _ _ t h).1 refl)
  meant-is (ex.Str n) t vars a tys bs w h = plain (ex.Str n) t vars a tys bs w h (plain-by t ty.Str h refl)
  meant-is (ex.Con con args) t vars a tys bs w h = plain (ex.Con con args) t vars a tys bs w h (made-plain (slice_get r.program.cons.cons con) t (given-some _ _ t h).1)
  meant-is (ex.Plus b n) t vars a tys bs w h = plain (ex.Plus b n) t vars a tys bs w h (plain-by t ty.Int (given-some _ _ t h).1 refl)
  meant-is (ex.Add b c) t vars a tys bs w h = plain (ex.Add b c) t vars a tys bs w h (plain-by t ty.Int (given-some _ _ t h).1 refl)
  meant-is (ex.Sub b c) t vars a tys bs w h = plain (ex.Sub b c) t vars a tys bs w h (plain-by t ty.Int (given-some _ _ t h).1 refl)
  meant-is (ex.Query n args) t vars a tys bs w h =
      let q = get-query r.program.queries n t (given-some _ _ t h).1 in
      plain (ex.Query n args) t vars a tys bs w h (subst (λ t. is_plain t ≡ true) q.3 (data-plain q.0.result (stage.asks_data n q.0 q.1).1))
  meant-is (ex.OriginOf call) t vars a tys bs w h = plain (ex.OriginOf call) t vars a tys bs w h (plain-by t ty.Inv (given-some _ _ t h).1 refl)
  meant-is (ex.OpOf call) t vars a tys bs w h =
      let g = given-some _ _ t h in
      let k = value-is r M at stage frame call ty.Call vars a tys bs w (is-type _ ty.Call g.0) refl in
      let c = call-there r.parts.calls k.1.0 k.1.2 in
      let there : call_at r.parts (truths.value r bs call) ≡ Some c.0 = ap (call_at r.parts) k.1.1 ∙ c.1 in
      let f = stage.calls_fit k.1.0 c.0 c.1 in (
        ap (λ x. value_at M op_fn x) (k.0 ∙ ap elem_of k.1.1) ∙ (stage.parts.calls.ops k.1.0 c.0 c.1 ∙ (ap (Made (op_con r.program c.0.op)) (sym (viewed-elems c.0.args)) ∙ ap (λ o. elem_meant r.program (operation_of o)) (sym there))),
        subst (λ o. MeantFits r.program r.parts t (operation_of o)) (sym there) (sym (same_Some ty.Operation t g.1), (f.0, f.1, fit-view r.program f.0.args c.0.args f.2)),
      )
  meant-is (ex.OpTerm op args) t vars a tys bs w h =
      let g = given-some _ _ t h in
      let b = and_parts _ _ g.0 in
      let decl = op-there r.program.ops op (ltb-true op (length r.program.ops) b.0) in
      let k = values-are r M at stage frame decl.0.args args vars a tys bs w (ap (λ o. have_types r.program frame tys (op_args o) args) (sym decl.1) ∙ b.1) (stage.ops_data op decl.0 decl.1) in
      (ap (Made (op_con r.program op)) k.0, (sym (same_Some ty.Operation t g.1), (decl.0, decl.1, k.1)))
  meant-is (ex.InfoOf inv) t vars a tys bs w h =
      let g = given-some _ _ t h in
      let k = value-is r M at stage frame inv ty.Inv vars a tys bs w (is-type _ ty.Inv g.0) refl in
      let i = info-there r.parts.infos k.1.0 k.1.2 in
      let there : info_at r.parts (truths.value r bs inv) ≡ Some i.0 = ap (info_at r.parts) k.1.1 ∙ i.1 in
      let f = stage.infos_fit k.1.0 i.0 i.1 in (
        ap (λ x. value_at M info_fn x) (k.0 ∙ ap elem_of k.1.1) ∙ (stage.parts.infos k.1.0 i.0 i.1 ∙ (ap (λ xs. Made (info_con r.program i.0.proc) xs) (sym (viewed-elems i.0.args)) ∙ ap (λ o. elem_meant r.program (info_of o)) (sym there))),
        subst (λ o. MeantFits r.program r.parts t (info_of o)) (sym there) (sym (same_Some ty.Info t g.1), (f.0, f.1, fit-view r.program f.0.params i.0.args f.2)),
      )
  meant-is (ex.InfoTerm proc args) t vars a tys bs w h =
      let g = given-some _ _ t h in
      let b = and_parts _ _ g.0 in
      let q = proc-there r.program.procs proc b.0 in
      let k = values-are r M at stage frame q.0.params args vars a tys bs w (ap (λ o. have_types r.program frame tys (proc_params o) args) (sym q.1) ∙ b.1) (stage.params_data proc q.0 q.1) in
      (ap (Made (info_con r.program proc)) k.0, (sym (same_Some ty.Info t g.1), (q.0, q.1, k.1)))
  meant-is (ex.ResultOf inv) t vars a tys bs w h =
      let g = given-some _ _ t h in
      let k = value-is r M at stage frame inv ty.Inv vars a tys bs w (is-type _ ty.Inv g.0) refl in
      let i = info-there r.parts.infos k.1.0 k.1.2 in
      let there : info_at r.parts (truths.value r bs inv) ≡ Some i.0 = ap (info_at r.parts) k.1.1 ∙ i.1 in
      let f = stage.infos_fit k.1.0 i.0 i.1 in (
        ap (λ x. value_at M at.results x) (k.0 ∙ ap elem_of k.1.1) ∙ (stage.parts.results k.1.0 i.0 i.1 ∙ ap (λ o. elem_meant r.program (result_of o)) (sym there)),
        subst (λ o. MeantFits r.program r.parts t (result_of o)) (sym there) (ended-fits r.program r.parts t i.0.proc f.0 i.0.result (sym (same_Some ty.Outcome t g.1)) f.1 f.3),
      )
  meant-is (ex.ResultTerm proc) t vars a tys bs w h =
      let g = given-some _ _ t h in
      (refl, (sym (same_Some ty.Outcome t g.1), bare-there r.program.procs proc g.0))
  meant-is (ex.ResultWith proc v) t vars a tys bs w h =
      let g = given-some _ _ t h in
      let b = agree-is _ _ g.0 in
      let q = result-there r.program.procs proc b.0 b.2 in
      let d = stage.results_data proc q.0 b.0 q.1 q.2 in
      let k = value-is r M at stage frame v b.0 vars a tys bs w b.1 (data-plain b.0 d) in
      (ap (λ x. Made (outcome_con r.program proc) (also_elem x no_elem)) k.0, (sym (same_Some ty.Outcome t g.1), (q.0, q.1, (b.0, q.2, data-fits r.program r.parts b.0 _ d k.1))))
  meant-is ex.Unreturned t vars a tys bs w h = (refl, sym (same_Some ty.Outcome t h))

-- # Two of one type

type-one : (p : Prog) (parts : Parts) (t : Ty) (v w : Val) → is_plain t ≡ true → HasType p parts t v → HasType p parts t w → elem_of v ≡ elem_of w → v ≡ w
type-one p parts ty.Int v w d f g e = one-value p ty.Int v w f g e
type-one p parts ty.Str v w d f g e = one-value p ty.Str v w f g e
type-one p parts (ty.Atom n) v w d f g e = one-value p (ty.Atom n) v w f g e
type-one p parts (ty.Datatype n) v w d f g e = one-value p (ty.Datatype n) v w f g e
type-one p parts ty.Call v w d f g e =
    let k : Point f.0 ≡ Point g.0 = sym (ap elem_of f.1) ∙ (e ∙ ap elem_of g.1) in
    let n : f.0 ≡ g.0 = cc in f.1 ∙ (ap (λ n. val.Call n) n ∙ sym g.1)
type-one p parts ty.Inv v w d f g e =
    let k : Point f.0 ≡ Point g.0 = sym (ap elem_of f.1) ∙ (e ∙ ap elem_of g.1) in
    let n : f.0 ≡ g.0 = cc in f.1 ∙ (ap (λ n. val.Inv n) n ∙ sym g.1)
type-one p parts _ v w d f g e = no d

proc-one : (p : Prog) (n m : ℕ) (q s : Proc) → slice_get p.procs n ≡ Some q → slice_get p.procs m ≡ Some s → n ≡ m → q ≡ s
proc-one p n m q s e f h = same_Some q s (sym e ∙ (ap (slice_get p.procs) h ∙ f))

abbrev kind : Meant → Ty
kind (Plain v) = ty.Int
kind (Operation op args) = ty.Operation
kind (Invoked proc args) = ty.Info
kind _ = ty.Outcome

abbrev kind_of : Ty → Ty
kind_of ty.Operation = ty.Operation
kind_of ty.Info = ty.Info
kind_of ty.Outcome = ty.Outcome
kind_of _ = ty.Int

plain-kind : (t : Ty) → is_plain t ≡ true → ty.Int ≡ kind_of t
plain-kind ty.Operation h = no h
plain-kind ty.Info h = no h
plain-kind ty.Outcome h = no h
plain-kind _ h = refl

fits-kind : (p : Prog) (parts : Parts) (t : Ty) (m : Meant) → MeantFits p parts t m → kind m ≡ kind_of t
fits-kind p parts t (Plain v) f = plain-kind t f.0
fits-kind p parts t (Operation op args) f = ap kind_of (sym f.0)
fits-kind p parts t (Invoked op args) f = ap kind_of (sym f.0)
fits-kind p parts t Running f = ap kind_of (sym f)
fits-kind p parts t (Ended proc) f = ap kind_of (sym f.0)
fits-kind p parts t (EndedWith proc v) f = ap kind_of (sym f.0)

-- of one type, and with one element, are one
pub meant-one : (p : Prog) (parts : Parts) (t : Ty) (m k : Meant) → MeantFits p parts t m → MeantFits p parts t k → elem_meant p m ≡ elem_meant p k → m ≡ k
meant-one p parts t (Plain v) (Plain w) f g e = ap (λ v. Plain v) (type-one p parts t v w f.0 f.1 g.1 e)
meant-one p parts t (Operation a xs) (Operation b ys) f g e =
    let cons : op_con p a ≡ op_con p b = cc in
    let es : elems_in xs ≡ elems_in ys = cc in
    let n : a ≡ b = omega (arith, cons) in
    let d : f.1.0 ≡ g.1.0 = same_Some f.1.0 g.1.0 (sym f.1.1 ∙ (ap (slice_get p.ops) n ∙ g.1.1)) in
    ap₂ (λ n xs. Operation n xs) n (one-values p g.1.0.args xs ys (ap (λ (d : OpDecl). fields_fit p d.args xs) (sym d) ∙ f.1.2) g.1.2 es)
meant-one p parts t (Invoked a xs) (Invoked b ys) f g e =
    let cons : info_con p a ≡ info_con p b = cc in
    let es : elems_in xs ≡ elems_in ys = cc in
    let n : a ≡ b = omega (arith, cons) in
    let d = proc-one p a b f.1.0 g.1.0 f.1.1 g.1.1 n in
    ap₂ (λ n xs. Invoked n xs) n (one-values p g.1.0.params xs ys (ap (λ (d : Proc). fields_fit p d.params xs) (sym d) ∙ f.1.2) g.1.2 es)
meant-one p parts t Running Running f g e = refl
meant-one p parts t (Ended a) (Ended b) f g e =
    let cons : outcome_con p a ≡ outcome_con p b = cc in
    let n : a ≡ b = omega (arith, cons) in
    ap (λ n. Ended n) n
meant-one p parts t (EndedWith a v) (EndedWith b w) f g e =
    let cons : outcome_con p a ≡ outcome_con p b = cc in
    let es : elem_of v ≡ elem_of w = cc in
    let n : a ≡ b = omega (arith, cons) in
    let d = proc-one p a b f.1.0 g.1.0 f.1.1 g.1.1 n in
    let ts : f.1.2.0 ≡ g.1.2.0 = same_Some f.1.2.0 g.1.2.0 (sym f.1.2.1 ∙ (ap (λ (q : Proc). q.result) d ∙ g.1.2.1)) in
    ap₂ (λ n v. EndedWith n v) n (one-value p g.1.2.0 v w (ap (λ t. fits p t v) (sym ts) ∙ f.1.2.2) g.1.2.2 es)
meant-one p parts t Running (Ended b) f g e = let cons : unreturned_con p ≡ outcome_con p b = cc in absurd (omega (arith, cons))
meant-one p parts t Running (EndedWith b w) f g e = let cons : unreturned_con p ≡ outcome_con p b = cc in absurd (omega (arith, cons))
meant-one p parts t (Ended b) Running f g e = let cons : unreturned_con p ≡ outcome_con p b = cc in absurd (omega (arith, cons))
meant-one p parts t (EndedWith b w) Running f g e = let cons : unreturned_con p ≡ outcome_con p b = cc in absurd (omega (arith, cons))
meant-one p parts t (Ended a) (EndedWith b w) f g e = cc
meant-one p parts t (EndedWith a w) (Ended b) f g e = cc
meant-one p parts t (Plain v) k f g e = let d : kind (Plain v) ≡ kind k = fits-kind p parts t (Plain v) f ∙ sym (fits-kind p parts t k g) in cc
meant-one p parts t m (Plain v) f g e = let d : kind m ≡ kind (Plain v) = fits-kind p parts t m f ∙ sym (fits-kind p parts t (Plain v) g) in cc
meant-one p parts t (Operation a xs) k f g e = let d : kind (Operation a xs) ≡ kind k = fits-kind p parts t (Operation a xs) f ∙ sym (fits-kind p parts t k g) in cc
meant-one p parts t m (Operation a xs) f g e = let d : kind m ≡ kind (Operation a xs) = fits-kind p parts t m f ∙ sym (fits-kind p parts t (Operation a xs) g) in cc
meant-one p parts t (Invoked a xs) k f g e = let d : kind (Invoked a xs) ≡ kind k = fits-kind p parts t (Invoked a xs) f ∙ sym (fits-kind p parts t k g) in cc
meant-one p parts t m (Invoked a xs) f g e = let d : kind m ≡ kind (Invoked a xs) = fits-kind p parts t m f ∙ sym (fits-kind p parts t (Invoked a xs) g) in cc

meant-self : (m : Meant) → same_meant m m ≡ true
meant-self (Plain v) = val-self v
meant-self (Operation a xs) = and_from (nat_eq a a) _ (eq-eqb a a refl) (vals-self xs)
meant-self (Invoked a xs) = and_from (nat_eq a a) _ (eq-eqb a a refl) (vals-self xs)
meant-self Running = refl
meant-self (Ended a) = eq-eqb a a refl
meant-self (EndedWith a v) = and_from (nat_eq a a) _ (eq-eqb a a refl) (val-self v)

same-meant : (m k : Meant) → same_meant m k ≡ true → m ≡ k
same-meant (Plain v) (Plain w) h = ap (λ v. Plain v) (val-is v w h)
same-meant (Operation a xs) (Operation b ys) h = let c = and_parts (nat_eq a b) (same_vals xs ys) h in ap₂ (λ n xs. Operation n xs) (eqb-true a b c.0) (vals-are xs ys c.1)
same-meant (Invoked a xs) (Invoked b ys) h = let c = and_parts (nat_eq a b) (same_vals xs ys) h in ap₂ (λ n xs. Invoked n xs) (eqb-true a b c.0) (vals-are xs ys c.1)
same-meant Running Running h = refl
same-meant (Ended a) (Ended b) h = ap (λ n. Ended n) (eqb-true a b h)
same-meant (EndedWith a v) (EndedWith b w) h = let c = and_parts (nat_eq a b) (same_val v w) h in ap₂ (λ n v. EndedWith n v) (eqb-true a b c.0) (val-is v w c.1)
same-meant _ _ h = no h

pub equal-is : (p : Prog) (parts : Parts) (t : Ty) (m k : Meant) (x y : Elem) → MeantFits p parts t m → MeantFits p parts t k → x ≡ elem_meant p m → y ≡ elem_meant p k
    → (same_elem x y ≡ true) ↔ (same_meant m k ≡ true)
equal-is p parts t m k x y f g ex ey = (
  (λ h. ap (same_meant m) (sym (meant-one p parts t m k f g (sym ex ∙ (same-is x y h ∙ ey)))) ∙ meant-self m),
  λ h. ap (same_elem x) (ey ∙ (ap (elem_meant p) (sym (same-meant m k h)) ∙ sym ex)) ∙ same-self x,
)
