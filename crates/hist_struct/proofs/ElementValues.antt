-- The elements of a type's sort are those of its values.
use Rattle.std.proofs.Common.{◌≡◌, ℕ, zero, suc, ◌+◌, ◌<◌, ◌≤◌, true, false, List, [], ◌∷◌, ◌++◌, length, map, Option, Some, None, slice_get, refl, sym, ap, ◌∙◌, eqb-true, eq-eqb, ltb-true, arith}
use Rattle.std.proofs.lemmas.Bool.{and_parts, and_from}
use Rattle.std.proofs.lemmas.Option.{none-some}
use Rattle.rp_value.specs.declared.tables.Ty.{Ty}
use Rattle.rp_value.specs.declared.tables.Ty.TheVariants as ty
use Rattle.rp_value.specs.declared.tables.ConDecl.{ConDecl}
use Rattle.rp_value.specs.Values as val
use Rattle.rp_value.specs.Values.{Val, Vals, no_val, also_val}
use Rattle.rp_lang.specs.Types.{is_ordinary, are_ordinary}
use Rattle.rp_lang.specs.Programs.{Prog, Proc}
use Rattle.rp_lang.specs.declared.op.OpDecl.{OpDecl}
use Rattle.rp_lang.proofs.ProgramFacts.{Facts}
use Rattle.rp_lang.proofs.TypeFacts.{each}
use Rattle.crdt_defs.specs.Fitting as fitting
use Rattle.crdt_defs.specs.Fitting.{fits, fields_fit, cons_to}
use Rattle.event_machine.specs.WellFormed.{At}
use Rattle.event_machine.proofs.PlaceLemmas.{at-exists}
use Rattle.rp_logic.specs.Signatures.{fields_of, is_plain, is_int, is_str, is_con_of}
use Rattle.rp_logic.specs.Elements.{Elem, Elems, Point, Whole, Text, Made, no_elem, also_elem}
use Rattle.rp_logic.specs.Structures.{is_elem, are_elems}
use Rattle.rp_logic.proofs.SortLaws.{no}
use Rattle.rp_symbols.specs.Numbers.{int_sort, str_sort, data_sort, op_sort, info_sort, outcome_sort}
use Rattle.rp_symbols.specs.Signatures.{sort_of, con_of, con_decls, result_list}
use Rattle.rp_symbols.proofs.Stand.{ints-stand, strings-stand, datatypes-stand, own-stand}
use Rattle.crdt_enc.specs.Elements.{elem_of, elems_in}
use Rattle.hist_struct.specs.Steps.{Step}
use Rattle.hist_struct.specs.Structure.{sig_at, structure_of}
use Rattle.hist_struct.proofs.AtomLaws.{High, high-both, high-map, high-free, all-high, plain-at, free-at}

-- # The constructors of a datatype's sort are its own

behind-none : {A B : Type 0} (f : A → B) (xs : List A) (ys : List B) (n : ℕ) → slice_get xs n ≡ None → (m : ℕ) × (slice_get (map f xs ++ ys) n ≡ slice_get ys m)
behind-none f [] ys n e = (n, refl)
behind-none f (x ∷ xs) ys zero e = absurd (none-some x (sym e))
behind-none f (x ∷ xs) ys (suc n) e = behind-none f xs ys n e

late-high : (p : Prog) → High (op_sort p) (map (λ (decl : OpDecl). con_of (op_sort p) (map (sort_of p) decl.args)) p.ops
    ++ (map (λ (q : Proc). con_of (info_sort p) (map (sort_of p) q.params)) p.procs
    ++ (con_of (outcome_sort p) [] ∷ map (λ (q : Proc). con_of (outcome_sort p) (map (sort_of p) (result_list q.result))) p.procs)))
late-high p =
    high-both (op_sort p) _ _ (high-map (op_sort p) (λ (decl : OpDecl). con_of (op_sort p) (map (sort_of p) decl.args)) p.ops (λ decl. omega arith))
    (high-both (op_sort p) _ _ (high-map (op_sort p) (λ (q : Proc). con_of (info_sort p) (map (sort_of p) q.params)) p.procs (λ q. omega arith))
    ((let l : op_sort p ≤ outcome_sort p = omega arith in l), high-map (op_sort p) (λ (q : Proc). con_of (outcome_sort p) (map (sort_of p) (result_list q.result))) p.procs (λ q. omega arith)))

record IsOwn (p : Prog) (con d : ℕ) : Type 0 where
  decl : ConDecl
  is : At p.cons.cons con decl
  of : decl.of ≡ d
  fields : fields_of (slice_get (con_decls p) con) ≡ map (sort_of p) decl.fields

own-con : (p : Prog) (con d : ℕ) → d < length p.types.datatypes → is_con_of (slice_get (con_decls p) con) (data_sort p d) ≡ true → IsOwn p con d
own-con p con d l h = go (slice_get p.cons.cons con) refl
  where
    go : (o : Option ConDecl) → slice_get p.cons.cons con ≡ o → IsOwn p con d
    go (Some decl) e =
        let s = own-stand p con decl e in
        let same : data_sort p decl.of ≡ data_sort p d = eqb-true _ _ (sym (ap (λ c. is_con_of c (data_sort p d)) s) ∙ h) in
        record { decl = decl; is = e; of = omega (arith, same); fields = ap fields_of s }
    go None e =
        let b = behind-none (λ (decl : ConDecl). con_of (data_sort p decl.of) (map (sort_of p) decl.fields)) p.cons.cons _ con e in
        no (sym (high-free (op_sort p) _ b.0 (data_sort p d) (late-high p) (omega (arith, l))) ∙ (ap (λ c. is_con_of c (data_sort p d)) (sym b.1) ∙ h))

-- # Values

abbrev IsValue : Prog → Ty → Elem → Type 0
IsValue p t e = (v : Val) × (fits p t v ≡ true) × (elem_of v ≡ e)

module _ (x : Step) (consts : List ℕ) (f : Facts x.program) where
  free : (con s : ℕ) → s < 4 + length x.program.types.atoms → is_con_of (slice_get (con_decls x.program) con) s ≡ false
  free con s l = high-free (4 + length x.program.types.atoms) (con_decls x.program) con s (all-high x.program) l

  mutual
    pub value-of : (t : Ty) (e : Elem) → is_ordinary x.program.types t ≡ true → is_elem (sig_at x consts) (structure_of x).sizes (sort_of x.program t) e ≡ true → IsValue x.program t e
    value-of ty.Int (Whole n) o h = (val.Int n, refl, refl)
    value-of ty.Int (Point n) o h = no (sym (ap is_plain (ints-stand x.program)) ∙ (and_parts _ _ h).0)
    value-of ty.Int (Text bytes) o h = no (sym (ap is_str (ints-stand x.program)) ∙ h)
    value-of ty.Int (Made con args) o h = no (sym (free con (int_sort x.program) (omega arith)) ∙ (and_parts _ _ h).0)
    value-of ty.Str (Text bytes) o h = (val.Str bytes, refl, refl)
    value-of ty.Str (Point n) o h = no (sym (ap is_plain (strings-stand x.program)) ∙ (and_parts _ _ h).0)
    value-of ty.Str (Whole n) o h = no (sym (ap is_int (strings-stand x.program)) ∙ h)
    value-of ty.Str (Made con args) o h = no (sym (free con (str_sort x.program) (omega arith)) ∙ (and_parts _ _ h).0)
    value-of (ty.Atom k) (Point n) o h = (val.Atom k n, eq-eqb k k refl, refl)
    value-of (ty.Atom k) (Whole n) o h = no (sym (ap is_int (plain-at x.program k (ltb-true k _ o))) ∙ h)
    value-of (ty.Atom k) (Text bytes) o h = no (sym (ap is_str (plain-at x.program k (ltb-true k _ o))) ∙ h)
    value-of (ty.Atom k) (Made con args) o h = no (sym (free-at x.program con k (ltb-true k _ o)) ∙ (and_parts _ _ h).0)
    value-of (ty.Datatype d) (Made con args) o h =
        let b = and_parts (is_con_of (slice_get (con_decls x.program) con) (data_sort x.program d)) _ h in
        let own = own-con x.program con d (ltb-true d _ o) b.0 in
        let ordinary = each (λ (c : ConDecl). are_ordinary x.program.types c.fields) x.program.cons.cons con own.decl f.fields own.is in
        let vs = values-of own.decl.fields args ordinary (ap (λ ss. are_elems (sig_at x consts) (structure_of x).sizes ss args) (sym own.fields) ∙ b.1) in (
          val.Con con vs.0,
          and_from (cons_to d (slice_get x.program.cons.cons con)) _ (ap (cons_to d) own.is ∙ eq-eqb own.decl.of d own.of)
              (ap (λ o. fields_fit x.program (fitting.fields_of o) vs.0) own.is ∙ vs.1),
          ap (Made con) vs.2,
        )
    value-of (ty.Datatype d) (Point n) o h = let decl = at-exists x.program.types.datatypes d (ltb-true d _ o) in no (sym (ap is_plain (datatypes-stand x.program d decl.0 decl.1)) ∙ (and_parts _ _ h).0)
    value-of (ty.Datatype d) (Whole n) o h = let decl = at-exists x.program.types.datatypes d (ltb-true d _ o) in no (sym (ap is_int (datatypes-stand x.program d decl.0 decl.1)) ∙ h)
    value-of (ty.Datatype d) (Text bytes) o h = let decl = at-exists x.program.types.datatypes d (ltb-true d _ o) in no (sym (ap is_str (datatypes-stand x.program d decl.0 decl.1)) ∙ h)
    value-of _ e o h = no o

    pub values-of : (ts : List Ty) (es : Elems) → are_ordinary x.program.types ts ≡ true → are_elems (sig_at x consts) (structure_of x).sizes (map (sort_of x.program) ts) es ≡ true
        → (vs : Vals) × (fields_fit x.program ts vs ≡ true) × (elems_in vs ≡ es)
    values-of [] no_elem o h = (no_val, refl, refl)
    values-of [] (also_elem y ys) o h = no h
    values-of (t ∷ ts) no_elem o h = no h
    values-of (t ∷ ts) (also_elem y ys) o h =
        let a = and_parts (is_ordinary x.program.types t) _ o in
        let b = and_parts (is_elem (sig_at x consts) (structure_of x).sizes (sort_of x.program t) y) _ h in
        let v = value-of t y a.0 b.0 in
        let vs = values-of ts ys a.1 b.1 in
        (also_val v.0 vs.0, and_from (fits x.program t v.0) _ v.1 vs.1, ap (λ y. also_elem y (elems_in vs.0)) v.2 ∙ ap (also_elem y) vs.2)
