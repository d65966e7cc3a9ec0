-- What is typed where some slots are set is typed where more are.
pub use Rattle.rp_lang.proofs.TypeFacts.{given-some, is_ty-some}
use Rattle.std.proofs.Common.{◌≡◌, ℕ, Bool, true, false, ◌&&◌, ◌||◌, if◌then◌else◌, List, [], ◌∷◌, Option, Some, None, slice_get, refl, sym, ◌∙◌, ap, inl, inr, true≢false}
use Rattle.std.proofs.lemmas.Option.{none-some}
use Rattle.rp_value.specs.declared.tables.Ty.{Ty}
use Rattle.rp_value.specs.declared.tables.Ty.TheVariants.{Atom, Datatype, Call, Inv, Operation, Info, Outcome}
use Rattle.rp_value.specs.declared.tables.Ty.TheVariants as ty
use Rattle.rp_lang.specs.Types.{same_ty, is_ty, agree, bool_ty, fields_of}
use Rattle.rp_lang.specs.Typing.{Frame, op_args, query_args, is_asked, proc_params, proc_result, slot_ty, is_word, given, type_of, have_types, is_question, are_both, is_range, under, are_cases, arm_cons, is_typed, are_typed, are_typed_arms}
use Rattle.rp_lang.specs.Exprs.{Ex, Slot, Bound, Int, Str, Con, Plus, Add, Sub, Query, OpOf, OpTerm, OriginOf, InfoOf, InfoTerm, ResultOf, ResultTerm, ResultWith, Unreturned, Exs, no_ex, also_ex}
use Rattle.rp_lang.specs.Formulas as fo
use Rattle.rp_lang.specs.Formulas.{Fo, Fos, no_fo, also_fo, Arms, no_arm, also_arm}
use Rattle.rp_lang.specs.Programs.{Prog}
use Rattle.event_machine.proofs.FormLemmas.{both_true}
use Rattle.event_machine.proofs.PlaceLemmas.{or-cases, or-left, or-right}
use Rattle.event_machine.proofs.MoveLemmas.{and-make}

-- the same frame with more slots set
pub record Wider (f g : Frame) : Type 0 where
  pub slots : f.slots ≡ g.slots
  pub reads : f.reads ≡ g.reads
  pub speaks : f.speaks ≡ g.speaks
  pub set : (s : ℕ) → f.set s ≡ true → g.set s ≡ true

pub some-given : (b : Bool) (o : Option Ty) (t : Ty) → b ≡ true → o ≡ Some t → given b o ≡ Some t
some-given true o t h k = k
some-given false o t h k = absurd (true≢false (sym h))

some-is_ty : (o : Option Ty) (u t : Ty) → o ≡ Some u → same_ty u t ≡ true → is_ty o t ≡ true
some-is_ty o u t e h = ap (λ o. is_ty o t) e ∙ h

-- both have a type, also in the wider frame
is_ty-wider : (o o' : Option Ty) (t : Ty) → ((u : Ty) → o ≡ Some u → o' ≡ Some u) → is_ty o t ≡ true → is_ty o' t ≡ true
is_ty-wider o o' t wide h = let k = is_ty-some o t h in some-is_ty o' k.0 t (wide k.0 k.1) k.2

agree-wider : (o o' other : Option Ty) → ((u : Ty) → o ≡ Some u → o' ≡ Some u) → agree o other ≡ true → agree o' other ≡ true
agree-wider o o' None wide h = absurd (true≢false (sym h))
agree-wider o o' (Some t) wide h = is_ty-wider o o' t wide h

both-wider : (a b a' b' : Bool) → (a ≡ true → a' ≡ true) → (b ≡ true → b' ≡ true) → (a && b) ≡ true → (a' && b') ≡ true
both-wider a b a' b' f g h = let k = both_true a b h in and-make a' b' (f k.0) (g k.1)

slot-wider : (f g : Frame) → Wider f g → (s : ℕ) (t : Ty) → slot_ty f s ≡ Some t → slot_ty g s ≡ Some t
slot-wider f g w s t h = go (f.set s) refl h
  where
    go : (b : Bool) → f.set s ≡ b → (if b then slice_get f.slots s else None) ≡ Some t → slot_ty g s ≡ Some t
    go true e h = ap (λ b. if b then slice_get g.slots s else None) (w.set s e) ∙ (ap (λ xs. slice_get xs s) (sym w.slots) ∙ h)
    go false e h = absurd (none-some t h)

mutual
  pub type-wider : (p : Prog) (f g : Frame) → Wider f g → (bs : List Ty) (e : Ex) (t : Ty) → type_of p f bs e ≡ Some t → type_of p g bs e ≡ Some t
  type-wider p f g w bs (Slot s) t h = slot-wider f g w s t h
  type-wider p f g w bs (Bound n) t h = h
  type-wider p f g w bs (Int n) t h = h
  type-wider p f g w bs (Str bytes) t h = h
  type-wider p f g w bs (Con con args) t h =
      let k = given-some _ _ t h in some-given _ _ t (have-wider p f g w bs (fields_of p.cons con) args k.0) k.1
  type-wider p f g w bs (Plus e n) t h =
      let k = given-some _ _ t h in
      some-given _ _ t (both-wider (is_word n) _ (is_word n) _ (λ x. x) (is_ty-wider (type_of p f bs e) (type_of p g bs e) ty.Int (type-wider p f g w bs e)) k.0) k.1
  type-wider p f g w bs (Add a b) t h =
      let k = given-some _ _ t h in
      some-given _ _ t (both-wider _ _ _ _ (is_ty-wider (type_of p f bs a) (type_of p g bs a) ty.Int (type-wider p f g w bs a)) (is_ty-wider (type_of p f bs b) (type_of p g bs b) ty.Int (type-wider p f g w bs b)) k.0) k.1
  type-wider p f g w bs (Sub a b) t h =
      let k = given-some _ _ t h in
      some-given _ _ t (both-wider _ _ _ _ (is_ty-wider (type_of p f bs a) (type_of p g bs a) ty.Int (type-wider p f g w bs a)) (is_ty-wider (type_of p f bs b) (type_of p g bs b) ty.Int (type-wider p f g w bs b)) k.0) k.1
  type-wider p f g w bs (Query query args) t h =
      let k = given-some _ _ t h in
      some-given _ _ t (both-wider f.reads _ g.reads _ (λ x. sym w.reads ∙ x) (have-wider p f g w bs (query_args (slice_get p.queries query)) args) k.0) k.1
  type-wider p f g w bs (OpOf call) t h =
      let k = given-some _ _ t h in some-given _ _ t (is_ty-wider (type_of p f bs call) (type_of p g bs call) Call (type-wider p f g w bs call) k.0) k.1
  type-wider p f g w bs (OpTerm op args) t h =
      let k = given-some _ _ t h in
      some-given _ _ t (both-wider _ _ _ _ (λ x. x) (have-wider p f g w bs (op_args (slice_get p.ops op)) args) k.0) k.1
  type-wider p f g w bs (OriginOf call) t h =
      let k = given-some _ _ t h in some-given _ _ t (is_ty-wider (type_of p f bs call) (type_of p g bs call) Call (type-wider p f g w bs call) k.0) k.1
  type-wider p f g w bs (InfoOf inv) t h =
      let k = given-some _ _ t h in some-given _ _ t (is_ty-wider (type_of p f bs inv) (type_of p g bs inv) Inv (type-wider p f g w bs inv) k.0) k.1
  type-wider p f g w bs (InfoTerm proc args) t h =
      let k = given-some _ _ t h in
      some-given _ _ t (both-wider _ _ _ _ (λ x. x) (have-wider p f g w bs (proc_params (slice_get p.procs proc)) args) k.0) k.1
  type-wider p f g w bs (ResultOf inv) t h =
      let k = given-some _ _ t h in some-given _ _ t (is_ty-wider (type_of p f bs inv) (type_of p g bs inv) Inv (type-wider p f g w bs inv) k.0) k.1
  type-wider p f g w bs (ResultTerm proc) t h = h
  type-wider p f g w bs (ResultWith proc value) t h =
      let k = given-some _ _ t h in
      some-given _ _ t (agree-wider (type_of p f bs value) (type_of p g bs value) (proc_result (slice_get p.procs proc)) (type-wider p f g w bs value) k.0) k.1
  type-wider p f g w bs Unreturned t h = h

  pub have-wider : (p : Prog) (f g : Frame) → Wider f g → (bs ts : List Ty) (es : Exs) → have_types p f bs ts es ≡ true → have_types p g bs ts es ≡ true
  have-wider p f g w bs [] no_ex h = h
  have-wider p f g w bs [] (also_ex e es) h = h
  have-wider p f g w bs (t ∷ ts) no_ex h = h
  have-wider p f g w bs (t ∷ ts) (also_ex e es) h =
      both-wider _ _ _ _ (is_ty-wider (type_of p f bs e) (type_of p g bs e) t (type-wider p f g w bs e)) (have-wider p f g w bs ts es) h

either-wider : (a b a' b' : Bool) → (a ≡ true → a' ≡ true) → (b ≡ true → b' ≡ true) → (a || b) ≡ true → (a' || b') ≡ true
either-wider a b a' b' f g h = elim (or-cases a b h) [ inl k ↦ or-left a' b' (f k) | inr k ↦ or-right a' b' (g k) ]

question-wider : (p : Prog) (f g : Frame) → Wider f g → (bs : List Ty) (e : Ex) → is_question p f bs e ≡ true → is_question p g bs e ≡ true
question-wider p f g w bs (Query query args) h =
    both-wider (is_asked (slice_get p.queries query) && f.reads) _ (is_asked (slice_get p.queries query) && g.reads) _
    (both-wider (is_asked (slice_get p.queries query)) f.reads (is_asked (slice_get p.queries query)) g.reads (λ x. x) (λ x. sym w.reads ∙ x))
    (have-wider p f g w bs (query_args (slice_get p.queries query)) args) h
question-wider p f g w bs _ h = absurd (true≢false (sym h))

are_both-wider : (p : Prog) (f g : Frame) → Wider f g → (bs : List Ty) (t : Ty) (a b : Ex) → are_both p f bs t a b ≡ true → are_both p g bs t a b ≡ true
are_both-wider p f g w bs t a b h =
    both-wider _ _ _ _ (is_ty-wider (type_of p f bs a) (type_of p g bs a) t (type-wider p f g w bs a)) (is_ty-wider (type_of p f bs b) (type_of p g bs b) t (type-wider p f g w bs b)) h

pub agrees-some : (a b : Option Ty) → agree a b ≡ true → (u : Ty) × (b ≡ Some u) × (is_ty a u ≡ true)
agrees-some a None h = absurd (true≢false (sym h))
agrees-some a (Some u) h = (u, refl, h)

pub agrees-wider : (a b a' b' : Option Ty) → ((u : Ty) → a ≡ Some u → a' ≡ Some u) → ((u : Ty) → b ≡ Some u → b' ≡ Some u) → agree a b ≡ true → agree a' b' ≡ true
agrees-wider a b a' b' f g h =
    let k = agrees-some a b h in
    ap (agree a') (g k.0 k.1) ∙ is_ty-wider a a' k.0 f k.2

range-wider : (p : Prog) (f g : Frame) → Wider f g → (t : Ty) → is_range p f t ≡ true → is_range p g t ≡ true
range-wider p f g w (Atom n) h = h
range-wider p f g w Call h = sym w.speaks ∙ h
range-wider p f g w Inv h = sym w.speaks ∙ h
range-wider p f g w _ h = absurd (true≢false (sym h))

cases-wider : (p : Prog) (o o' : Option Ty) (cons : List ℕ) → ((u : Ty) → o ≡ Some u → o' ≡ Some u) → are_cases p o cons ≡ true → are_cases p o' cons ≡ true
cases-wider p None o' cons f h = absurd (true≢false (sym h))
cases-wider p (Some t) o' cons f h = ap (λ o. are_cases p o cons) (f t refl) ∙ h

mutual
  pub typed-wider : (p : Prog) (f g : Frame) → Wider f g → (bs : List Ty) (x : Fo) → is_typed p f bs x ≡ true → is_typed p g bs x ≡ true
  typed-wider p f g w bs (fo.And parts) h = all-wider p f g w bs parts h
  typed-wider p f g w bs (fo.Or parts) h = all-wider p f g w bs parts h
  typed-wider p f g w bs (fo.Not x) h = typed-wider p f g w bs x h
  typed-wider p f g w bs (fo.Implies x y) h = both-wider _ _ _ _ (typed-wider p f g w bs x) (typed-wider p f g w bs y) h
  typed-wider p f g w bs (fo.All t body) h = both-wider _ _ _ _ (range-wider p f g w t) (typed-wider p f g w (t ∷ bs) body) h
  typed-wider p f g w bs (fo.Any t body) h = both-wider _ _ _ _ (range-wider p f g w t) (typed-wider p f g w (t ∷ bs) body) h
  typed-wider p f g w bs (fo.Holds e) h =
      either-wider _ _ _ _ (question-wider p f g w bs e) (is_ty-wider (type_of p f bs e) (type_of p g bs e) bool_ty (type-wider p f g w bs e)) h
  typed-wider p f g w bs (fo.Equal a b) h =
      both-wider _ _ _ _ (agrees-wider (type_of p f bs a) (type_of p f bs b) (type_of p g bs a) (type_of p g bs b) (type-wider p f g w bs a) (type-wider p f g w bs b)) (λ x. x) h
  typed-wider p f g w bs (fo.Less a b) h = are_both-wider p f g w bs ty.Int a b h
  typed-wider p f g w bs (fo.AtMost a b) h = are_both-wider p f g w bs ty.Int a b h
  typed-wider p f g w bs (fo.Visible call) h = is_ty-wider (type_of p f bs call) (type_of p g bs call) Call (type-wider p f g w bs call) h
  typed-wider p f g w bs (fo.Before a b) h = either-wider _ _ _ _ (are_both-wider p f g w bs Call a b) (are_both-wider p f g w bs Inv a b) h
  typed-wider p f g w bs (fo.Same a b) h = are_both-wider p f g w bs Call a b h
  typed-wider p f g w bs (fo.Match on arms) h =
      both-wider _ _ _ _ (cases-wider p (type_of p f bs on) (type_of p g bs on) (arm_cons arms) (type-wider p f g w bs on)) (arms-wider p f g w bs arms) h

  all-wider : (p : Prog) (f g : Frame) → Wider f g → (bs : List Ty) (xs : Fos) → are_typed p f bs xs ≡ true → are_typed p g bs xs ≡ true
  all-wider p f g w bs no_fo h = h
  all-wider p f g w bs (also_fo x xs) h = both-wider _ _ _ _ (typed-wider p f g w bs x) (all-wider p f g w bs xs) h

  arms-wider : (p : Prog) (f g : Frame) → Wider f g → (bs : List Ty) (arms : Arms) → are_typed_arms p f bs arms ≡ true → are_typed_arms p g bs arms ≡ true
  arms-wider p f g w bs no_arm h = h
  arms-wider p f g w bs (also_arm con body rest) h =
      both-wider _ _ _ _ (typed-wider p f g w (under (fields_of p.cons con) bs) body) (arms-wider p f g w bs rest) h
