-- Along the path of a register's query: the way to the register, its keys, and what is asked there.
use Rattle.std.proofs.Common.{◌≡◌, ℕ, List, [], ◌∷◌, Bool, true, Option, Some, None, refl, sym, ap, ◌∙◌, subst, true≢false}
use Rattle.std.proofs.lemmas.Bool.{and_parts}
use Rattle.std.proofs.lemmas.Option.{same_Some}
use Rattle.rp_value.specs.declared.tables.Ty.{Ty}
use Rattle.rp_lang.specs.Crdts.{Cr, SetAw, SetRw, Reg, MvReg, Counter, MapUw, MapDw, Struct}
use Rattle.rp_lang.specs.Paths.{is_crdt, held_at, field_in, reached, own_args, query_stands}
use Rattle.rp_lang.specs.Types.{same_ty, is_ordinary, is_maybe_of}
use Rattle.rp_lang.specs.declared.op.PathStep.{PathStep}
use Rattle.rp_lang.specs.declared.op.PathStep.TheVariants.{Field, Key}
use Rattle.rp_lang.specs.declared.query.QueryKind.TheVariants.{GetReg}
use Rattle.rp_lang.specs.Programs.{Prog}
use Rattle.rp_lang.proofs.ProgramFacts.{nothing}
use Rattle.crdt_defs.specs.declared.asked.Answer.TheVariants.{Value}
use Rattle.crdt_defs.specs.declared.asked.Winner.TheVariants.{Update, Delete}
use Rattle.crdt_defs.specs.Calls.{Call}
use Rattle.crdt_defs.specs.Fitting.{fits, all_fit}
use Rattle.crdt_defs.specs.Meaning.{latest}
use Rattle.crdt_defs.specs.Queries.{question, at_call, answer_at, ask}
use Rattle.event_machine.proofs.AnswerFits.{register-is}
use Rattle.rp_logic.proofs.SortLaws.{no}
use Rattle.crdt_enc.specs.Ways.{Way, AtField, AtKey, depth}
use Rattle.crdt_enc.specs.means.Counting.{Both, terms, counted, EachKey, EachBoth, WayFits}
use Rattle.crdt_enc.proofs.AskLaws.{terms_of, vals_of}
use Rattle.crdt_enc.proofs.ProgramLaws.{WayAlong, IsMap, key-fits, along-field, along-key, asked-key}
use Rattle.crdt_enc.proofs.StageFacts.{in-field, none-taken}
use Rattle.hist_struct.specs.Registers.{register_here, register_at}

-- the register at the end of the path, and the way there
pub record RegEnd (p : Prog) (h : List Call) (visible : ℕ → Bool) (crdt : Option Cr) (path : List PathStep) (w : Way Both) (args : List Both) (result : Ty) : Type 1 where
  pub ty : Ty
  pub way : Way Both
  pub ordinary : is_ordinary p.types ty ≡ true
  pub is : register_at crdt path (terms w) (terms_of args) ≡ Some (record { ty = ty; way = terms way })
  pub asks : ask p.ops h GetReg crdt path (depth (terms w)) (counted p.ops h visible w) (vals_of args) ≡ Value (at_call (latest p.ops h (counted p.ops h visible way)))
  pub fit : WayFits p way
  pub along : WayAlong p way (Reg ty)
  -- its keys are those of the way to here and of the arguments
  pub keep : (P : Both → Type 0) → EachKey P w → EachBoth P args → EachKey P way
  pub maybe : is_maybe_of p.types p.cons ty result ≡ true

no-args : (p : Prog) (args : List Both) → all_fit p [] (vals_of args) ≡ true → args ≡ []
no-args p [] f = refl
no-args p (a ∷ args) f = no f

pub reg-end : (p : Prog) (h : List Call) (visible : ℕ → Bool) (crdt : Option Cr) (path : List PathStep) (w : Way Both) (args : List Both) (tys : List Ty) (result : Ty) → WayFits p w
    → ((c : Cr) → crdt ≡ Some c → WayAlong p w c) → ((c : Cr) → crdt ≡ Some c → is_crdt p.types c ≡ true)
    → query_stands p.types p.cons GetReg (reached crdt path) (own_args path tys) result ≡ true → all_fit p tys (vals_of args) ≡ true → RegEnd p h visible crdt path w args result
reg-end p h visible None path w args tys result way along fine s f = absurd (true≢false (sym s))
reg-end p h visible (Some crdt) [] w args tys result way along fine s f =
    let both = and_parts _ _ s in
    let c = register-is p crdt result both.1 in
    let none = no-args p args (subst (λ tys. all_fit p tys (vals_of args) ≡ true) (nothing tys both.0) f) in
    record {
      ty = c.0;
      way = w;
      ordinary = ap (is_crdt p.types) (sym c.1) ∙ fine crdt refl;
      is = ap (λ c. register_here c (terms w)) c.1;
      asks = ap (λ c. answer_at p.ops h (depth (terms w)) (counted p.ops h visible w) (question c GetReg) (vals_of args)) c.1
          ∙ ap (λ a. answer_at p.ops h (depth (terms w)) (counted p.ops h visible w) (question (Reg c.0) GetReg) (vals_of a)) none;
      fit = way;
      along = subst (λ c. WayAlong p w c) c.1 (along crdt refl);
      keep = λ P k r. k;
      maybe = c.2;
    }
reg-end p h visible (Some crdt) (Field n ∷ path) w args tys result way along fine s f =
    let e = reg-end p h visible (field_in crdt n) path (AtField n w) args tys result way (λ c e. along-field p w crdt c n (along crdt refl) e)
    (λ c q. in-field p.types crdt n c (fine crdt refl) q) s f in
    record { ty = e.ty; way = e.way; ordinary = e.ordinary; is = e.is; asks = e.asks; fit = e.fit; along = e.along; keep = λ P k r. e.keep P k r; maybe = e.maybe }
reg-end p h visible (Some crdt) (Key ty ∷ path) w [] [] result way along fine s f = absurd (true≢false (sym (sym (none-taken p.types p.cons GetReg (reached (held_at ty crdt) path) result) ∙ s)))
reg-end p h visible (Some crdt) (Key ty ∷ path) w [] (t ∷ tys) result way along fine s f = absurd (true≢false (sym f))
reg-end p h visible (Some crdt) (Key ty ∷ path) w (k ∷ args) [] result way along fine s f = absurd (true≢false (sym f))
reg-end p h visible (Some (MapUw ks c)) (Key ty ∷ path) w (k ∷ args) (arg ∷ tys) result way along fine s f =
    let m : IsMap (MapUw ks c) ks c = record { held = refl; keys = refl; at = λ t. refl } in
    let q = asked-key p GetReg ks ty arg c path tys result (same_ty ks ty) (same_ty arg ty) refl refl s in
    let b = and_parts (fits p arg k.val) (all_fit p tys (vals_of args)) f in
    let o = and_parts (is_ordinary p.types ks) _ (fine (MapUw ks c) refl) in
    let way2 = key-fits p w (MapUw ks c) c ks k way (along (MapUw ks c) refl) m (ap (λ t. fits p t k.val) (sym q.0) ∙ b.0) in
    let e = reg-end p h visible (Some c) path (AtKey Update k w) args tys result way2
    (λ d e. subst (λ d. WayAlong p (AtKey Update k w) d) (same_Some c d e) (along-key p w (MapUw ks c) c ks k (along (MapUw ks c) refl) m))
    (λ d e. ap (is_crdt p.types) (sym (same_Some c d e)) ∙ o.1) q.1 b.1 in
    record { ty = e.ty; way = e.way; ordinary = e.ordinary; is = e.is; asks = e.asks; fit = e.fit; along = e.along; keep = λ P k r. e.keep P (k, r.0) r.1; maybe = e.maybe }
reg-end p h visible (Some (MapDw ks c)) (Key ty ∷ path) w (k ∷ args) (arg ∷ tys) result way along fine s f =
    let m : IsMap (MapDw ks c) ks c = record { held = refl; keys = refl; at = λ t. refl } in
    let q = asked-key p GetReg ks ty arg c path tys result (same_ty ks ty) (same_ty arg ty) refl refl s in
    let b = and_parts (fits p arg k.val) (all_fit p tys (vals_of args)) f in
    let o = and_parts (is_ordinary p.types ks) _ (fine (MapDw ks c) refl) in
    let way2 = key-fits p w (MapDw ks c) c ks k way (along (MapDw ks c) refl) m (ap (λ t. fits p t k.val) (sym q.0) ∙ b.0) in
    let e = reg-end p h visible (Some c) path (AtKey Delete k w) args tys result way2
    (λ d e. subst (λ d. WayAlong p (AtKey Delete k w) d) (same_Some c d e) (along-key p w (MapDw ks c) c ks k (along (MapDw ks c) refl) m))
    (λ d e. ap (is_crdt p.types) (sym (same_Some c d e)) ∙ o.1) q.1 b.1 in
    record { ty = e.ty; way = e.way; ordinary = e.ordinary; is = e.is; asks = e.asks; fit = e.fit; along = e.along; keep = λ P k r. e.keep P (k, r.0) r.1; maybe = e.maybe }
reg-end p h visible (Some (SetAw t)) (Key ty ∷ path) w (k ∷ args) (arg ∷ tys) result way along fine s f = absurd (true≢false (sym s))
reg-end p h visible (Some (SetRw t)) (Key ty ∷ path) w (k ∷ args) (arg ∷ tys) result way along fine s f = absurd (true≢false (sym s))
reg-end p h visible (Some (Reg t)) (Key ty ∷ path) w (k ∷ args) (arg ∷ tys) result way along fine s f = absurd (true≢false (sym s))
reg-end p h visible (Some (MvReg t)) (Key ty ∷ path) w (k ∷ args) (arg ∷ tys) result way along fine s f = absurd (true≢false (sym s))
reg-end p h visible (Some Counter) (Key ty ∷ path) w (k ∷ args) (arg ∷ tys) result way along fine s f = absurd (true≢false (sym s))
reg-end p h visible (Some (Struct fs)) (Key ty ∷ path) w (k ∷ args) (arg ∷ tys) result way along fine s f = absurd (true≢false (sym s))
