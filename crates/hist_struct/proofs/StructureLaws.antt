-- The structure of a step is one of its signature.
use Rattle.std.proofs.Common.{◌≡◌, ◌<◌, ◌≤◌, ℕ, zero, suc, ◌+◌, nat_lt, Bool, true, false, if◌then◌else◌, List, [], ◌∷◌, ◌++◌, length, map, get_or, Option, Some, None, slice_get, refl, sym, ap, ◌∙◌, subst, eqb-true, eq-eqb, ltb-true, lt-ltb, pos, arith}
use Rattle.std.proofs.lemmas.Bool.{and_parts, and_from}
use Rattle.std.proofs.lemmas.List.{length-map}
use Rattle.std.proofs.lemmas.Option.{none-some, same_Some}
use Rattle.rp_value.specs.declared.tables.Ty.{Ty}
use Rattle.rp_value.specs.declared.tables.Ty.TheVariants as ty
use Rattle.rp_value.specs.declared.tables.AtomType.{AtomType}
use Rattle.rp_value.specs.declared.tables.DataDecl.{DataDecl}
use Rattle.rp_value.specs.Values as val
use Rattle.rp_value.specs.Values.{Val, Vals, no_val, also_val}
use Rattle.rp_lang.specs.declared.op.OpDecl.{OpDecl}
use Rattle.rp_lang.specs.Types.{is_ordinary, cons_of, fields_of}
use Rattle.rp_lang.specs.Paths.{is_tx}
use Rattle.rp_lang.specs.Programs.{Prog, Proc}
use Rattle.rp_lang.specs.WellFormed.{is_well_formed, are_ops}
use Rattle.rp_lang.proofs.ProgramFacts.{Facts, facts, nothing}
use Rattle.rp_lang.proofs.TypeFacts.{each}
use Rattle.event_machine.proofs.PlaceLemmas.{at-exists}
use Rattle.rp_logic.specs.declared.sort.Sort.{Sort}
use Rattle.rp_logic.specs.declared.sort.LogicCon.{LogicCon}
use Rattle.rp_logic.specs.Signatures as signatures
use Rattle.rp_logic.specs.Signatures.{Signature, is_plain, is_int, is_str, is_con_of}
use Rattle.rp_logic.specs.Sorted.{const_sort}
use Rattle.rp_logic.specs.Elements.{Elem, Point, Whole, Text, Made, no_elem, junk}
use Rattle.rp_logic.specs.Structures.{is_elem, are_elems, own_consts, IsStructure}
use Rattle.rp_logic.proofs.SortLaws.{no}
use Rattle.rp_symbols.specs.Numbers.{call_sort, inv_sort, atom_sort, int_sort, str_sort, data_sort, op_sort, info_sort, outcome_sort, op_con, info_con, unreturned_con}
use Rattle.rp_symbols.specs.Signatures.{sort_of, const_decls, con_of, con_decls, sorts_of}
use Rattle.rp_symbols.proofs.LookUps.{get-front, get-behind, get-mapped}
use Rattle.rp_symbols.proofs.Stand.{ints-stand, strings-stand, operations-stand, records-stand, unreturned-stands, records-sort}
use Rattle.crdt_enc.specs.Elements.{elem_of, elems_in}
use Rattle.hist_struct.specs.Defaults.{first_of, each_by, default_in, default_at, default_val, most_parts, data_defaults, info_default, record_defaults, defaults_of}
use Rattle.hist_struct.specs.Steps.{Step, IsStep}
use Rattle.hist_struct.specs.Structure.{self_of, structure_of, sig_at, fns_of, ConstsFit}
use Rattle.hist_struct.proofs.ConFields.{con-data}
use Rattle.hist_struct.proofs.DefaultLaws.{default-is, defaults-are}
use Rattle.hist_struct.proofs.FitLaws.{map-at}
use Rattle.hist_struct.proofs.FunLaws.{funs-at, funs-fit, made-in, inv-in}
use Rattle.hist_struct.proofs.LowLaws.{low, all_low, value-is, fields-are}
use Rattle.hist_struct.proofs.OrdinaryLaws.{params-ordinary}
use Rattle.hist_struct.proofs.SigLaws.{sig-is}
use Rattle.hist_struct.proofs.SortKinds.{SortKind, as_call, as_inv, as_atom, as_int, as_str, as_data, as_op, as_info, as_outcome, kind-of, ConKind, is_own, is_op, is_info, is_outcome, con-kind}
use Rattle.hist_struct.proofs.TableFacts.{point-of, inv-of}

-- # Where defaults stand

got : (xs : List Elem) (n : ℕ) (e : Elem) → slice_get xs n ≡ Some e → get_or xs n junk ≡ e
got [] n e h = absurd (none-some e h)
got (x ∷ xs) zero e h = same_Some x e h
got (x ∷ xs) (suc n) e h = got xs n e h

late : (p : Prog) (n : ℕ) → slice_get (defaults_of p) (suc (suc (length p.types.atoms + n))) ≡ slice_get (Whole (pos 0) ∷ Text [] ∷ (data_defaults p 0 p.types.datatypes ++ record_defaults p)) n
late p n = get-behind (map (λ (atom : AtomType). junk) p.types.atoms) _ (length p.types.atoms) n (length-map p.types.atoms _)

datas-count : (p : Prog) (d : ℕ) (decls : List DataDecl) → length (data_defaults p d decls) ≡ length decls
datas-count p d [] = refl
datas-count p d (decl ∷ decls) = ap suc (datas-count p (suc d) decls)

data-found : (p : Prog) (k : ℕ) (decls : List DataDecl) (d : ℕ) → d < length decls → slice_get (data_defaults p k decls) d ≡ Some (elem_of (default_val p (ty.Datatype (k + d))))
data-found p k [] d l = absurd (omega (arith, l))
data-found p k (decl ∷ decls) zero l = ap (λ n. Some (elem_of (default_val p (ty.Datatype n)))) (let e : k ≡ k + 0 = omega arith in e)
data-found p k (decl ∷ decls) (suc d) l =
    data-found p (suc k) decls d (omega (arith, l)) ∙ ap (λ n. Some (elem_of (default_val p (ty.Datatype n)))) (let e : suc k + d ≡ k + suc d = omega arith in e)

atom-default : (p : Prog) (k : ℕ) → k < length p.types.atoms → get_or (defaults_of p) (atom_sort k) junk ≡ junk
atom-default p k l =
    let atom = at-exists p.types.atoms k l in
    got (defaults_of p) (atom_sort k) junk
    (ap (slice_get (defaults_of p)) (let e : 2 + k ≡ suc (suc k) = omega arith in e)
    ∙ get-front (map (λ (atom : AtomType). junk) p.types.atoms) _ k junk (get-mapped (λ (atom : AtomType). junk) p.types.atoms k atom.0 atom.1))

int-default : (p : Prog) → get_or (defaults_of p) (int_sort p) junk ≡ Whole (pos 0)
int-default p = got (defaults_of p) (int_sort p) _ (ap (slice_get (defaults_of p)) (let e : int_sort p ≡ suc (suc (length p.types.atoms + 0)) = omega arith in e) ∙ late p 0)

str-default : (p : Prog) → get_or (defaults_of p) (str_sort p) junk ≡ Text []
str-default p = got (defaults_of p) (str_sort p) _ (ap (slice_get (defaults_of p)) (let e : str_sort p ≡ suc (suc (length p.types.atoms + 1)) = omega arith in e) ∙ late p 1)

data-default : (p : Prog) (d : ℕ) → d < length p.types.datatypes → get_or (defaults_of p) (data_sort p d) junk ≡ elem_of (default_val p (ty.Datatype d))
data-default p d l =
    got (defaults_of p) (data_sort p d) _
    (ap (slice_get (defaults_of p)) (let e : data_sort p d ≡ suc (suc (length p.types.atoms + suc (suc d))) = omega arith in e)
    ∙ (late p (suc (suc d))
    ∙ (get-front (data_defaults p 0 p.types.datatypes) (record_defaults p) d _ (data-found p 0 p.types.datatypes d l) ∙ ap (λ n. Some (elem_of (default_val p (ty.Datatype n)))) (let e : 0 + d ≡ d = omega arith in e))))

last : (p : Prog) (i s : ℕ) (e : Elem) → s ≡ op_sort p + i → slice_get (record_defaults p) i ≡ Some e → get_or (defaults_of p) s junk ≡ e
last p i s e q h =
    got (defaults_of p) s e
    (ap (slice_get (defaults_of p)) (let r : s ≡ suc (suc (length p.types.atoms + suc (suc (length p.types.datatypes + i)))) = omega (arith, q) in r)
    ∙ (late p (suc (suc (length p.types.datatypes + i))) ∙ (get-behind (data_defaults p 0 p.types.datatypes) (record_defaults p) (length p.types.datatypes) i (datas-count p 0 p.types.datatypes) ∙ h)))

-- # Defaults have no identifier past the first

all-low : (u : ℕ) (f : Ty → Val) (tys : List Ty) → ((t : Ty) → low u (f t) ≡ true) → all_low u (each_by f tys) ≡ true
all-low u f [] h = refl
all-low u f (t ∷ tys) h = and_from (low u (f t)) _ (h t) (all-low u f tys h)

in-low : (p : Prog) (u : ℕ) (rec : Ty → Val) → 1 ≤ u → ((t : Ty) → low u (rec t) ≡ true) → (t : Ty) → low u (default_in p rec t) ≡ true
in-low p u rec l h ty.Int = refl
in-low p u rec l h ty.Str = refl
in-low p u rec l h (ty.Atom n) = lt-ltb 0 u (omega (arith, l))
in-low p u rec l h (ty.Datatype d) = all-low u rec (fields_of p.cons (first_of (cons_of p.types d))) h
in-low p u rec l h ty.Call = refl
in-low p u rec l h ty.Inv = refl
in-low p u rec l h ty.Operation = refl
in-low p u rec l h ty.Info = refl
in-low p u rec l h ty.Outcome = refl

at-low : (p : Prog) (u n : ℕ) → 1 ≤ u → (t : Ty) → low u (default_at p n t) ≡ true
at-low p u zero l t = in-low p u (λ t. val.Call 0) l (λ t. refl) t
at-low p u (suc n) l t = in-low p u (default_at p n) l (λ t. at-low p u n l t) t

-- # In the structure of a step

module _ (x : Step) (consts : List ℕ) (formed : is_well_formed x.program ≡ true) (m : IsStep x) where
  abbrev In : ℕ → Elem → Type 0
  In s e = is_elem (sig_at x consts) (structure_of x).sizes s e ≡ true

  -- the default of the sort is one of its elements
  abbrev Has : ℕ → Type 0
  Has s = In s (get_or (defaults_of x.program) s junk)

  its : Facts x.program
  its = facts x.program formed

  some : 1 ≤ x.new.universe
  some = m.after.formed.some

  told : (s : ℕ) (e : Elem) → get_or (defaults_of x.program) s junk ≡ e → In s e → Has s
  told s e q h = ap (is_elem (sig_at x consts) (structure_of x).sizes s) q ∙ h

  -- of types of data
  type-has : (t : Ty) → is_ordinary x.program.types t ≡ true → Has (sort_of x.program t)
  type-has ty.Int o = told (int_sort x.program) (Whole (pos 0)) (int-default x.program) (ap is_int (ints-stand x.program))
  type-has ty.Str o = told (str_sort x.program) (Text []) (str-default x.program) (ap is_str (strings-stand x.program))
  type-has (ty.Atom n) o =
      let l = ltb-true n (length x.program.types.atoms) o in
      told (atom_sort n) junk (atom-default x.program n l) (value-is x consts its (ty.Atom n) (val.Atom n 0) l (eq-eqb n n refl) (lt-ltb 0 x.new.universe (let u = some in omega (arith, u))))
  type-has (ty.Datatype d) o =
      told (data_sort x.program d) (elem_of (default_val x.program (ty.Datatype d))) (data-default x.program d (ltb-true d (length x.program.types.datatypes) o))
      (value-is x consts its (ty.Datatype d) (default_val x.program (ty.Datatype d)) tt (default-is x.program formed (ty.Datatype d) o) (at-low x.program x.new.universe most_parts some (ty.Datatype d)))
  type-has _ o = no o

  -- of records
  first-op : (ops : List OpDecl) → are_ops x.program.roots ops ≡ true → (op : OpDecl) × (slice_get ops 0 ≡ Some op) × (op.args ≡ [])
  first-op [] h = no h
  first-op (op ∷ ops) h = (op, refl, nothing op.args (and_parts _ _ (and_parts (is_tx op) _ (and_parts _ _ h).0).0).1)

  op-has : Has (op_sort x.program)
  op-has =
      let op = first-op x.program.ops its.ops in
      told (op_sort x.program) (Made (op_con x.program 0) no_elem) (last x.program 0 (op_sort x.program) _ (omega arith) refl)
      (made-in x consts formed m (op_con x.program 0) (con_of (op_sort x.program) (map (sort_of x.program) op.0.args)) no_elem (operations-stand x.program 0 op.0 op.1)
      (ap (λ tys. are_elems (sig_at x consts) (structure_of x).sizes (map (sort_of x.program) tys) no_elem) op.2))

  info-is : (q : Proc) → slice_get x.program.procs 0 ≡ Some q → (procs : List Proc) → slice_get procs 0 ≡ Some q → info_default x.program procs ≡ Made (info_con x.program 0) (elems_in (each_by (default_val x.program) q.params))
  info-is q a [] e = absurd (none-some q e)
  info-is q a (r ∷ procs) e = ap (λ (q : Proc). Made (info_con x.program 0) (elems_in (each_by (default_val x.program) q.params))) (same_Some r q e)

  info-has : (q : Proc) → slice_get x.program.procs 0 ≡ Some q → Has (info_sort x.program)
  info-has q a =
      let o = params-ordinary x.program its 0 q a in
      told (info_sort x.program) (Made (info_con x.program 0) (elems_in (each_by (default_val x.program) q.params)))
      (last x.program 1 (info_sort x.program) _ (omega arith) (ap (λ e. Some e) (info-is q a x.program.procs a)))
      (made-in x consts formed m (info_con x.program 0) (con_of (info_sort x.program) (map (sort_of x.program) q.params)) (elems_in (each_by (default_val x.program) q.params)) (records-stand x.program 0 q a)
      (fields-are x consts its q.params (each_by (default_val x.program) q.params) o (defaults-are x.program formed q.params o)
      (all-low x.new.universe (default_val x.program) q.params (λ t. at-low x.program x.new.universe most_parts some t))))

  outcome-has : Has (outcome_sort x.program)
  outcome-has =
      told (outcome_sort x.program) (Made (unreturned_con x.program) no_elem) (last x.program 2 (outcome_sort x.program) _ (omega arith) refl)
      (made-in x consts formed m (unreturned_con x.program) (con_of (outcome_sort x.program) []) no_elem (unreturned-stands x.program) refl)

  -- # Of each sort that has an element

  call-has : (s : ℕ) (v : Elem) → s ≡ call_sort → In s v → Has s
  call-has s v e h =
      let c = point-of (sig_at x consts) x (sig-is x.program x.views consts (length x.reads)) v (subst (λ s. In s v) e h) in
      let l = c.2 in
      subst Has (sym e) (lt-ltb 0 (length x.new.calls) (omega (arith, l)))

  inv-has : (s : ℕ) (v : Elem) → s ≡ inv_sort → In s v → Has s
  inv-has s v e h =
      let i = inv-of (sig_at x consts) x (sig-is x.program x.views consts (length x.reads)) v (subst (λ s. In s v) e h) in
      let l = i.2 in
      subst Has (sym e) (lt-ltb 0 (length x.new.invocations) (omega (arith, l)))

  record-by : (c : LogicCon) → c.sort ≡ info_sort x.program → ConKind x.program c → Has (info_sort x.program)
  record-by c same (is_own d l e) = absurd (omega (arith, same, l, e))
  record-by c same (is_op e) = absurd (omega (arith, same, e))
  record-by c same (is_info q a e) = info-has q a
  record-by c same (is_outcome e) = absurd (omega (arith, same, e))

  -- an element of the sort of records is built with a constructor, so there is a procedure
  record-has : (v : Elem) → In (info_sort x.program) v → Has (info_sort x.program)
  record-has (Point n) h = no (sym (ap is_plain (records-sort x.program)) ∙ (and_parts (is_plain (slice_get (sorts_of x.program) (info_sort x.program))) _ h).0)
  record-has (Whole n) h = no (sym (ap is_int (records-sort x.program)) ∙ h)
  record-has (Text b) h = no (sym (ap is_str (records-sort x.program)) ∙ h)
  record-has (Made con xs) h = go (slice_get (con_decls x.program) con) refl (and_parts (is_con_of (slice_get (con_decls x.program) con) (info_sort x.program)) _ h).0
    where
      go : (o : Option LogicCon) → slice_get (con_decls x.program) con ≡ o → is_con_of o (info_sort x.program) ≡ true → Has (info_sort x.program)
      go None e k = no k
      go (Some c) e k = record-by c (eqb-true c.sort (info_sort x.program) k) (con-kind x.program its con c e)

  kind-has : (s : ℕ) (v : Elem) → In s v → SortKind x.program s → Has s
  kind-has s v h (as_call e) = call-has s v e h
  kind-has s v h (as_inv e) = inv-has s v e h
  kind-has s v h (as_atom k l e) = subst Has (sym e) (type-has (ty.Atom k) (lt-ltb k (length x.program.types.atoms) l))
  kind-has s v h (as_int e) = subst Has (sym e) (type-has ty.Int refl)
  kind-has s v h (as_str e) = subst Has (sym e) (type-has ty.Str refl)
  kind-has s v h (as_data d l e) = subst Has (sym e) (type-has (ty.Datatype d) (lt-ltb d (length x.program.types.datatypes) l))
  kind-has s v h (as_op e) = subst Has (sym e) op-has
  kind-has s v h (as_info e) = subst Has (sym e) (record-has v (subst (λ s. In s v) e h))
  kind-has s v h (as_outcome e) = subst Has (sym e) outcome-has

  sort-there : (s : ℕ) (test : Option Sort → Bool) → test None ≡ false → test (slice_get (sorts_of x.program) s) ≡ true → SortKind x.program s
  sort-there s test none h = go (slice_get (sorts_of x.program) s) refl h
    where
      go : (o : Option Sort) → slice_get (sorts_of x.program) s ≡ o → test o ≡ true → SortKind x.program s
      go None e k = no (sym none ∙ k)
      go (Some z) e k = kind-of x.program s z e

  con-there : (s : ℕ) (o : Option LogicCon) (con : ℕ) → slice_get (con_decls x.program) con ≡ o → is_con_of o s ≡ true → SortKind x.program s
  con-there s None con e h = no h
  con-there s (Some c) con e h = go (eqb-true c.sort s h) (con-kind x.program its con c e)
    where
      go : c.sort ≡ s → ConKind x.program c → SortKind x.program s
      go same (is_own d l e) = as_data d l (sym same ∙ e)
      go same (is_op e) = as_op (sym same ∙ e)
      go same (is_info q a e) = as_info (sym same ∙ e)
      go same (is_outcome e) = as_outcome (sym same ∙ e)

  sort-of-elem : (s : ℕ) (v : Elem) → In s v → SortKind x.program s
  sort-of-elem s (Point n) h = sort-there s is_plain refl (and_parts (is_plain (slice_get (sorts_of x.program) s)) _ h).0
  sort-of-elem s (Whole n) h = sort-there s is_int refl h
  sort-of-elem s (Text b) h = sort-there s is_str refl h
  sort-of-elem s (Made con xs) h = con-there s (slice_get (con_decls x.program) con) con refl (and_parts (is_con_of (slice_get (con_decls x.program) con) s) _ h).0

  default-has : (s : ℕ) (v : Elem) → In s v → Has s
  default-has s v h = kind-has s v h (sort-of-elem s v h)

  -- # Fields of constructors

  field-of : (o : Option LogicCon) (con i s : ℕ) → slice_get (con_decls x.program) con ≡ o → slice_get (signatures.fields_of o) i ≡ Some s → Has s
  field-of None con i s e h = absurd (none-some s h)
  field-of (Some c) con i s e h =
      let d = con-data x.program its con c e in
      let t = map-at (sort_of x.program) d.tys i s (ap (λ ss. slice_get ss i) (sym d.args) ∙ h) in
      subst Has t.2 (type-has t.0 (each (is_ordinary x.program.types) d.tys i t.0 d.ordinary t.1))

  pub field-has : (con i s : ℕ) → slice_get (signatures.fields_of (slice_get (con_decls x.program) con)) i ≡ Some s → Has s
  field-has con i s h = field-of (slice_get (con_decls x.program) con) con i s refl h

  number-got : (xs : List ℕ) (i s : ℕ) → slice_get xs i ≡ Some s → get_or xs i 0 ≡ s
  number-got [] i s h = absurd (none-some s h)
  number-got (n ∷ xs) zero s h = same_Some n s h
  number-got (n ∷ xs) (suc i) s h = number-got xs i s h

  selector-has : (con i s : ℕ) → slice_get (signatures.fields_of (slice_get (con_decls x.program) con)) i ≡ Some s
      → In s (get_or (defaults_of x.program) (get_or (signatures.fields_of (slice_get (con_decls x.program) con)) i 0) junk)
  selector-has con i s h =
      ap (λ n. is_elem (sig_at x consts) (structure_of x).sizes s (get_or (defaults_of x.program) n junk)) (number-got (signatures.fields_of (slice_get (con_decls x.program) con)) i s h) ∙ field-has con i s h

  -- # Constants

  const-there : (c s : ℕ) → const_sort (sig_at x consts) [] c ≡ Some s → slice_get (sig_at x consts).consts c ≡ Some s
  const-there c s h = go (nat_lt c (length (sig_at x consts).consts)) h
    where
      go : (b : Bool) → (if b then slice_get (sig_at x consts).consts c else None) ≡ Some s → slice_get (sig_at x consts).consts c ≡ Some s
      go true h = h
      go false h = absurd (none-some s h)

  const-has : ConstsFit x consts → (c s : ℕ) → const_sort (sig_at x consts) [] c ≡ Some s → In s (own_consts (structure_of x) c)
  const-has k c s h = go x.views refl c (const-there c s h)
    where
      nowhere : (cs : List ℕ) (c : ℕ) → cs ≡ [] → slice_get cs c ≡ Some s → In s (get_or (self_of x 0) c junk)
      nowhere cs c e h = absurd (none-some s (ap (λ cs. slice_get cs c) (sym e) ∙ h))

      go : (v : ℕ) → x.views ≡ v → (c : ℕ) → slice_get (const_decls v ++ consts) c ≡ Some s → In s (get_or (self_of x v) c junk)
      go zero e c h = nowhere consts c (k.none e) h
      go (suc n) e zero h = subst (λ s. In s (Point x.inv)) (same_Some inv_sort s h) (inv-in x consts formed m x.inv (k.acts n e))
      go (suc n) e (suc c) h = k.vals c s h

  pub is-structure : ConstsFit x consts → IsStructure (sig_at x consts) (structure_of x)
  is-structure k = record {
    constants = const-has k;
    functions = λ f decl e xs h. funs-at (sig_at x consts) (structure_of x).sizes (sig_at x consts).fns (fns_of x) (funs-fit x consts formed m) f decl e xs h;
    defaults = default-has;
    fields = field-has;
    selectors = λ con i s h v w. selector-has con i s h;
  }
