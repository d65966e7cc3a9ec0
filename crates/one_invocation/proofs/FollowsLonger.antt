-- A trail's conditions hold in a longer history.
use Rattle.std.proofs.Common.{◌≡◌, ℕ, ◌<◌, Bool, true, false, ◌||◌, List, [], ◌∷◌, length, refl, ap, sym, ◌∙◌, subst, slice_get, slice_set, nat_eq, inl, inr, true≢false, eqb-true, lt_trans}
use Rattle.std.specs.List.{list_any}
use Rattle.std.specs.declared.option.Option.{Option}
use Rattle.std.specs.declared.option.Option.TheVariants.{None, Some}
use Rattle.std.proofs.lemmas.Option.{same_Some}
use Rattle.rp_value.specs.declared.tables.Ty.TheVariants as ty
use Rattle.rp_value.specs.Values.{Val, Vals, no_val, also_val}
use Rattle.rp_lang.specs.Exprs.{Ex, Exs}
use Rattle.rp_lang.specs.Formulas.{Fo}
use Rattle.crdt_defs.specs.Calls.{Call}
use Rattle.crdt_defs.specs.Histories.{meets, call_is, before}
use Rattle.crdt_defs.specs.Snapshots.{bit}
use Rattle.crdt_defs.specs.Truths.{truth_val, list_of, value, values, truth}
use Rattle.event_machine.specs.Machine.{proc_reading, filled}
use Rattle.event_machine.specs.WellFormed.{At, Past}
use Rattle.event_machine.proofs.PlaceLemmas.{at-set, at-lt, in-call_is, or-cases}
use Rattle.one_invocation.specs.Trails.{Done, HasPut, HasDecided, HasMade, HasOperated, HasTaken, HasTakenArm, HasBegun, HasEnded, slots_after, reads}
use Rattle.one_invocation.specs.CameAlong.{Start, reads_at, IsOwn, Brings, Follows}
use Rattle.crdt_defs.specs.Longer.{IsLonger, Bounded}
use Rattle.crdt_defs.proofs.QueryLonger.{call-same}
use Rattle.event_machine.proofs.DataValues.{fits-old}
use Rattle.event_machine.proofs.TruthLonger.{Old, AllOld, IsExtended, value-old, value-same, values-same, truth-same}

filled-old : (n : ℕ) (places : List ℕ) (vs : Vals) (slots : List (Option Val)) → AllOld n vs → ((k : ℕ) (v : Val) → At slots k (Some v) → Old n v)
    → (k : ℕ) (v : Val) → At (filled places vs slots) k (Some v) → Old n v
filled-old n (slot ∷ more) (also_val w vs) slots h old =
    filled-old n more vs (slice_set slots slot (Some w)) h.1 (λ k v at. elim (at-set slots slot (Some w) k (Some v) at) [
      | inl here ↦ subst (Old n) (same_Some w v (sym here.1)) h.0
      | inr other ↦ old k v other.1
    ])
filled-old n [] vs slots h old = old
filled-old n (slot ∷ more) no_val slots h old = old

set-old : (n slot : ℕ) (w : Val) (slots : List (Option Val)) → Old n w → ((k : ℕ) (v : Val) → At slots k (Some v) → Old n v)
    → (k : ℕ) (v : Val) → At (slice_set slots slot (Some w)) k (Some v) → Old n v
set-old n slot w slots h old k v at = elim (at-set slots slot (Some w) k (Some v) at) [
  | inl here ↦ subst (Old n) (same_Some w v (sym here.1)) h
  | inr other ↦ old k v other.1
]

truth-old : (n : ℕ) (b : Bool) → Old n (truth_val b)
truth-old n true = tt
truth-old n false = tt

none-committed : (h : List Call) (c : ℕ) → call_is h (λ call. bit [] call.tx) c ≡ false
none-committed h c = go (slice_get h c)
  where
    go : (o : Option Call) → meets (λ call. bit [] call.tx) o ≡ false
    go None = refl
    go (Some call) = refl

-- what a history keeps of values
pub record IsPlain (a : Start) (h : List Call) : Type 0 where
  pub earlier : (c d : ℕ) (call : Call) → At h c call → Past d call → d < c
  pub args : (c : ℕ) (call : Call) (k : ℕ) (v : Val) → At h c call → At call.args k v → Old (length h) v
  pub start : (k : ℕ) (v : Val) → At a.slots k (Some v) → Old (length h) v

module _ (a : Start) (h h' : List Call) (plain : IsPlain a h) (more : IsLonger h h') where
  pub reads-in : (trail : List Done) → Follows a h trail → Bounded h (reads h trail)
  reads-in [] f c m = absurd (true≢false (sym m))
  reads-in (HasBegun mark tx ∷ earlier) f c m = elim (or-cases (before h c mark) (nat_eq c mark) m) [
    | inl past ↦
        let k = in-call_is h (λ call. list_any (λ b. nat_eq b c) call.past) mark past in
        lt_trans (plain.earlier mark c k.0 k.1 k.2) (at-lt h mark k.0 k.1)
    | inr e ↦ subst (λ c. c < length h) (sym (eqb-true c mark e)) (at-lt h mark f.0.0.call f.0.0.at)
  ]
  reads-in (HasOperated op args vs own ∷ earlier) f c m = elim (or-cases (reads h earlier c) (nat_eq c own) m) [
    | inl old ↦ reads-in earlier f.1 c old
    | inr e ↦ subst (λ c. c < length h) (sym (eqb-true c own e)) (at-lt h own f.0.1.2.call f.0.1.2.at)
  ]
  reads-in (_ ∷ earlier) f c m = reads-in earlier f.1 c m

  pub reads-same : (trail : List Done) → Follows a h trail → (c : ℕ) → reads h' trail c ≡ reads h trail c
  reads-same [] f c = refl
  reads-same (HasBegun mark tx ∷ earlier) f c =
      ap (λ b. b || nat_eq c mark) (call-same h h' more (λ call. list_any (λ b. nat_eq b c) call.past) mark (at-lt h mark f.0.0.call f.0.0.at))
  reads-same (HasOperated op args vs own ∷ earlier) f c = ap (λ b. b || nat_eq c own) (reads-same earlier f.1 c)
  reads-same (_ ∷ earlier) f c = reads-same earlier f.1 c

  extended-by : (trail : List Done) → Follows a h trail → ((k : ℕ) (v : Val) → At (slots_after a.slots trail) k (Some v) → Old (length h) v)
      → IsExtended h h' [] [] (reads h trail) (slots_after a.slots trail)
  extended-by trail f set = record {
    more = more;
    comm = λ c. none-committed h' c ∙ sym (none-committed h c);
    seen = reads-in trail f;
    args = λ c call k v m at atk. plain.args c call k v at atk;
    set = set;
  }

  old-here : (trail : List Done) → Follows a h trail → ((k : ℕ) (v : Val) → At (slots_after a.slots trail) k (Some v) → Old (length h) v) → (x : Ex) → Old (length h) (value (reads_at a h trail) [] x)
  old-here trail f set x = value-old a.program a.universe [] (reads h trail) (slots_after a.slots trail) h h' [] [] (extended-by trail f set) [] tt x

  pub slots-old : (trail : List Done) → Follows a h trail → (k : ℕ) (v : Val) → At (slots_after a.slots trail) k (Some v) → Old (length h) v
  slots-old [] f = plain.start
  slots-old (HasPut slot e v ∷ earlier) f =
      set-old (length h) slot v (slots_after a.slots earlier) (subst (Old (length h)) f.0 (old-here earlier f.1 (slots-old earlier f.1) e)) (slots-old earlier f.1)
  slots-old (HasDecided slot g b ∷ earlier) f = set-old (length h) slot (truth_val b) (slots_after a.slots earlier) (truth-old (length h) b) (slots-old earlier f.1)
  slots-old (HasMade slot of id ∷ earlier) f = set-old (length h) slot id (slots_after a.slots earlier) (fits-old a.program (length h) id (ty.Atom of) f.0) (slots-old earlier f.1)
  slots-old (HasTakenArm on arm con slots fields ∷ earlier) f =
      filled-old (length h) slots fields (slots_after a.slots earlier) (subst (Old (length h)) f.0 (old-here earlier f.1 (slots-old earlier f.1) on)) (slots-old earlier f.1)
  slots-old (_ ∷ earlier) f = slots-old earlier f.1

  pub extended : (trail : List Done) → Follows a h trail → IsExtended h h' [] [] (reads h trail) (slots_after a.slots trail)
  extended trail f = extended-by trail f (slots-old trail f)

  reads-are : (trail : List Done) → Follows a h trail → reads h' trail ≡ reads h trail
  reads-are trail f = λ i c. reads-same trail f c i

  pub value-here : (trail : List Done) → Follows a h trail → (x : Ex) → value (reads_at a h' trail) [] x ≡ value (reads_at a h trail) [] x
  value-here trail f x =
      ap (λ visible. value (proc_reading a.program a.universe h' (slots_after a.slots trail) visible) [] x) (reads-are trail f)
      ∙ value-same a.program a.universe [] (reads h trail) (slots_after a.slots trail) h h' [] [] (extended trail f) [] tt x

  pub values-here : (trail : List Done) → Follows a h trail → (xs : Exs) → values (reads_at a h' trail) [] xs ≡ values (reads_at a h trail) [] xs
  values-here trail f xs =
      ap (λ visible. values (proc_reading a.program a.universe h' (slots_after a.slots trail) visible) [] xs) (reads-are trail f)
      ∙ values-same a.program a.universe [] (reads h trail) (slots_after a.slots trail) h h' [] [] (extended trail f) [] tt xs

  pub truth-here : (trail : List Done) → Follows a h trail → (g : Fo) → truth (reads_at a h' trail) [] g ≡ truth (reads_at a h trail) [] g
  truth-here trail f g =
      ap (λ visible. truth (proc_reading a.program a.universe h' (slots_after a.slots trail) visible) [] g) (reads-are trail f)
      ∙ truth-same a.program a.universe [] (reads h trail) (slots_after a.slots trail) h h' [] [] (extended trail f) [] tt g

  at-more : (c : ℕ) (call : Call) → At h c call → At h' c call
  at-more c call at = more.kept c (at-lt h c call at) ∙ at

  own-more : (c op : ℕ) (args : List Val) (inv tx : ℕ) → IsOwn h c op args inv tx → IsOwn h' c op args inv tx
  own-more c op args inv tx o = record { call = o.call; at = at-more c o.call o.at; op_is = o.op_is; args_are = o.args_are; inv_is = o.inv_is; tx_is = o.tx_is }

  brings-more : (step : Done) (earlier : List Done) → Follows a h earlier → Brings a h earlier step → Brings a h' earlier step
  brings-more (HasPut slot e v) earlier f b = value-here earlier f e ∙ b
  brings-more (HasDecided slot g t) earlier f b = truth-here earlier f g ∙ b
  brings-more (HasMade slot of id) earlier f b = b
  brings-more (HasOperated op args vs c) earlier f b = (
    ap list_of (values-here earlier f args) ∙ b.0,
    (b.1.0, b.1.1, own-more c op vs a.inv b.1.0 b.1.2),
    (λ call at d. b.2 call (sym (more.kept c (at-lt h c b.1.2.call b.1.2.at)) ∙ at) d ∙ sym (reads-same earlier f d)),
  )
  brings-more (HasTaken g t) earlier f b = truth-here earlier f g ∙ b
  brings-more (HasTakenArm on arm con slots fields) earlier f b = value-here earlier f on ∙ b
  brings-more (HasBegun mark tx) earlier f b = (
    own-more mark 0 [] a.inv tx b.0,
    (λ call d at m. b.1 call d (sym (more.kept mark (at-lt h mark b.0.call b.0.at)) ∙ at) (sym (reads-same earlier f d) ∙ m)),
  )
  brings-more HasEnded earlier f b = tt

  pub follows-more : (trail : List Done) → Follows a h trail → Follows a h' trail
  follows-more [] f = tt
  follows-more (step ∷ earlier) f = (brings-more step earlier f.1 f.0, follows-more earlier f.1)
