-- A value of a type whose identifiers lie below the universe is an element of the type's sort.
use Rattle.std.proofs.Common.{◌≡◌, ℕ, nat_lt, ◌==◌, Bool, true, false, ◌&&◌, ◌||◌, List, [], ◌∷◌, length, map, get_or, Option, Some, None, slice_get, refl, ap, ◌∙◌, eqb-true, eq-eqb}
use Rattle.std.specs.List.{list_any, list_all}
use Rattle.std.proofs.lemmas.Bool.{and_parts, and_from}
use Rattle.rp_value.specs.declared.tables.Ty.{Ty}
use Rattle.rp_value.specs.declared.tables.Ty.TheVariants as ty
use Rattle.rp_value.specs.declared.tables.ConDecl.{ConDecl}
use Rattle.rp_value.specs.Values as val
use Rattle.rp_value.specs.Values.{Val, Vals, no_val, also_val}
use Rattle.rp_lang.specs.declared.op.OpDecl.{OpDecl}
use Rattle.rp_lang.specs.declared.query.QueryDecl.{QueryDecl}
use Rattle.rp_lang.specs.Types.{is_ordinary, are_ordinary}
use Rattle.rp_lang.specs.Programs.{Prog}
use Rattle.rp_lang.proofs.ProgramFacts.{Facts}
use Rattle.rp_lang.proofs.TypeFacts.{each}
use Rattle.crdt_defs.specs.declared.asked.Answer.{Answer}
use Rattle.crdt_defs.specs.declared.asked.Answer.TheVariants.{Truth, Value}
use Rattle.crdt_defs.specs.declared.asked.Found.{Found}
use Rattle.crdt_defs.specs.declared.asked.Found.TheVariants as found
use Rattle.crdt_defs.specs.Calls.{Call}
use Rattle.crdt_defs.specs.Doing.{keys_in, own_of, own_argument}
use Rattle.crdt_defs.specs.Fitting as fitting
use Rattle.crdt_defs.specs.Fitting.{fits, fields_fit, all_fit, cons_to, atoms, atoms_in_fields, all_atoms, is_below}
use Rattle.crdt_defs.specs.SameValues.{same_val}
use Rattle.crdt_defs.specs.Truths.{truth_val, or_false, found_val, answer_val}
use Rattle.event_machine.proofs.ReadLemmas.{any-left, any-right}
use Rattle.rp_logic.specs.Signatures.{is_plain, is_int, is_str, is_con_of, fields_of}
use Rattle.rp_logic.specs.Structures.{is_elem, are_elems}
use Rattle.rp_logic.proofs.SortLaws.{no}
use Rattle.rp_symbols.specs.Numbers.{atom_sort, data_sort}
use Rattle.rp_symbols.specs.Signatures.{sort_of, sorts_of}
use Rattle.rp_symbols.proofs.Stand.{atoms-stand, ints-stand, strings-stand, own-stand}
use Rattle.crdt_enc.specs.Elements.{elem_of, elems_in, elems_of}
use Rattle.crdt_enc.proofs.ValueLaws.{val-self}
use Rattle.hist_struct.specs.Steps.{Step}
use Rattle.hist_struct.specs.Structure.{sig_at, structure_of}
use Rattle.hist_struct.proofs.AtomLaws.{size-at}
use Rattle.hist_struct.proofs.OrdinaryLaws.{Ranged, ordinary-ranged}

-- # Values

-- each identifier and opaque value in it lies below the universe
abbrev mutual
  pub low : ℕ → Val → Bool
  low universe (val.Atom of n) = nat_lt n universe
  low universe (val.Con con args) = all_low universe args
  low universe _ = true

  pub all_low : ℕ → Vals → Bool
  all_low universe no_val = true
  all_low universe (also_val v vs) = low universe v && all_low universe vs

mutual
  pub low-of : (universe : ℕ) (v : Val) → ((x : Val) → list_any (same_val x) (atoms v) ≡ true → is_below universe x ≡ true) → low universe v ≡ true
  low-of universe (val.Atom of n) h = h (val.Atom of n) (ap (λ b. b || false) (val-self (val.Atom of n)))
  low-of universe (val.Con con args) h = all-low-of universe args h
  low-of universe (val.Int n) h = refl
  low-of universe (val.Str n) h = refl
  low-of universe (val.Call n) h = refl
  low-of universe (val.Inv n) h = refl

  all-low-of : (universe : ℕ) (vs : Vals) → ((x : Val) → list_any (same_val x) (atoms_in_fields vs) ≡ true → is_below universe x ≡ true) → all_low universe vs ≡ true
  all-low-of universe no_val h = refl
  all-low-of universe (also_val v vs) h =
      and_from (low universe v) _ (low-of universe v (λ x i. h x (any-left x (atoms v) (atoms_in_fields vs) i))) (all-low-of universe vs (λ x i. h x (any-right x (atoms v) (atoms_in_fields vs) i)))

abbrev pub are_low : ℕ → List Val → Bool
are_low universe vs = list_all (low universe) vs

pub are-low-of : (universe : ℕ) (vs : List Val) → ((x : Val) → list_any (same_val x) (all_atoms vs) ≡ true → is_below universe x ≡ true) → are_low universe vs ≡ true
are-low-of universe [] h = refl
are-low-of universe (v ∷ vs) h =
    and_from (low universe v) _ (low-of universe v (λ x i. h x (any-left x (atoms v) (all_atoms vs) i))) (are-low-of universe vs (λ x i. h x (any-right x (atoms v) (all_atoms vs) i)))

-- # What queries give

truth-low : (universe : ℕ) (b : Bool) → low universe (truth_val b) ≡ true
truth-low universe true = refl
truth-low universe false = refl

own-low : (universe : ℕ) (ops : List OpDecl) (o : Option Call) → ((call : Call) → o ≡ Some call → are_low universe call.args ≡ true) → low universe (or_false (own_argument ops o)) ≡ true
own-low universe ops None h = refl
own-low universe ops (Some call) h = go (slice_get ops call.op)
  where
    got : (o : Option Val) → ((v : Val) → o ≡ Some v → low universe v ≡ true) → low universe (or_false o) ≡ true
    got None k = refl
    got (Some v) k = k v refl

    go : (o : Option OpDecl) → low universe (or_false (own_of call o)) ≡ true
    go None = refl
    go (Some op) = got (slice_get call.args (keys_in op.path)) (λ v e. each (low universe) call.args (keys_in op.path) v (h call refl) e)

found-low : (universe : ℕ) (p : Prog) (h : List Call) (maybe : Ty) (found : Found) → ((c : ℕ) (call : Call) → slice_get h c ≡ Some call → are_low universe call.args ≡ true)
    → low universe (found_val p h maybe found) ≡ true
found-low universe p h maybe (found.Sum n) all = refl
found-low universe p h maybe (found.At c) all = and_from (low universe (or_false (own_argument p.ops (slice_get h c)))) true (own-low universe p.ops (slice_get h c) (λ call e. all c call e)) refl
found-low universe p h maybe found.Nothing all = refl

pub answer-low : (universe : ℕ) (p : Prog) (h : List Call) (o : Option QueryDecl) (a : Answer) → ((c : ℕ) (call : Call) → slice_get h c ≡ Some call → are_low universe call.args ≡ true)
    → low universe (answer_val p h o a) ≡ true
answer-low universe p h o (Truth b) all = truth-low universe b
answer-low universe p h None (Value f) all = refl
answer-low universe p h (Some query) (Value f) all = found-low universe p h query.result f all

-- # Elements

module _ (x : Step) (consts : List ℕ) (f : Facts x.program) where
  abbrev IsOf : Ty → Val → Type 0
  IsOf t v = is_elem (sig_at x consts) (structure_of x).sizes (sort_of x.program t) (elem_of v) ≡ true

  fields-ordinary : (c : ℕ) (o : Option ConDecl) → slice_get x.program.cons.cons c ≡ o → are_ordinary x.program.types (fitting.fields_of o) ≡ true
  fields-ordinary c None e = refl
  fields-ordinary c (Some decl) e = each (λ (con : ConDecl). are_ordinary x.program.types con.fields) x.program.cons.cons c decl f.fields e

  of-con : (d c : ℕ) (args : Vals) (o : Option ConDecl) → slice_get x.program.cons.cons c ≡ o → cons_to d o ≡ true
      → are_elems (sig_at x consts) (structure_of x).sizes (map (sort_of x.program) (fitting.fields_of o)) (elems_in args) ≡ true → IsOf (ty.Datatype d) (val.Con c args)
  of-con d c args None e h k = no h
  of-con d c args (Some decl) e h k =
      let n = eqb-true decl.of d h in
      ap (λ o. is_con_of o (data_sort x.program d) && are_elems (sig_at x consts) (structure_of x).sizes (fields_of o) (elems_in args)) (own-stand x.program c decl e)
      ∙ and_from (data_sort x.program decl.of == data_sort x.program d) _ (eq-eqb (data_sort x.program decl.of) (data_sort x.program d) (ap (data_sort x.program) n)) k

  mutual
    pub value-is : (t : Ty) (v : Val) → Ranged x.program t → fits x.program t v ≡ true → low x.new.universe v ≡ true → IsOf t v
    value-is ty.Int (val.Int n) r h l = ap is_int (ints-stand x.program)
    value-is ty.Str (val.Str bytes) r h l = ap is_str (strings-stand x.program)
    value-is (ty.Atom a) (val.Atom s n) r h l =
        and_from (is_plain (slice_get (sorts_of x.program) (atom_sort a))) (nat_lt n (get_or (structure_of x).sizes (atom_sort a) 0)) (ap is_plain (atoms-stand x.program a r))
        (ap (nat_lt n) (size-at (length x.new.calls) (length x.new.invocations) (length x.program.types.atoms) x.new.universe a r) ∙ l)
    value-is (ty.Datatype d) (val.Con c args) r h l = of-con d c args (slice_get x.program.cons.cons c) refl (and_parts (cons_to d (slice_get x.program.cons.cons c)) _ h).0
        (fields-are (fitting.fields_of (slice_get x.program.cons.cons c)) args (fields-ordinary c (slice_get x.program.cons.cons c) refl) (and_parts (cons_to d (slice_get x.program.cons.cons c)) _ h).1 l)
    value-is _ v r h l = no h

    pub fields-are : (ts : List Ty) (vs : Vals) → are_ordinary x.program.types ts ≡ true → fields_fit x.program ts vs ≡ true → all_low x.new.universe vs ≡ true
        → are_elems (sig_at x consts) (structure_of x).sizes (map (sort_of x.program) ts) (elems_in vs) ≡ true
    fields-are [] no_val o h l = refl
    fields-are [] (also_val v vs) o h l = no h
    fields-are (t ∷ ts) no_val o h l = no h
    fields-are (t ∷ ts) (also_val v vs) o h l =
        let a = and_parts (is_ordinary x.program.types t) (are_ordinary x.program.types ts) o in
        let b = and_parts (fits x.program t v) (fields_fit x.program ts vs) h in
        let c = and_parts (low x.new.universe v) (all_low x.new.universe vs) l in
        and_from (is_elem (sig_at x consts) (structure_of x).sizes (sort_of x.program t) (elem_of v)) _ (value-is t v (ordinary-ranged x.program t a.0) b.0 c.0) (fields-are ts vs a.1 b.1 c.1)

  pub values-are : (ts : List Ty) (vs : List Val) → are_ordinary x.program.types ts ≡ true → all_fit x.program ts vs ≡ true → are_low x.new.universe vs ≡ true
      → are_elems (sig_at x consts) (structure_of x).sizes (map (sort_of x.program) ts) (elems_of vs) ≡ true
  values-are [] [] o h l = refl
  values-are [] (v ∷ vs) o h l = no h
  values-are (t ∷ ts) [] o h l = no h
  values-are (t ∷ ts) (v ∷ vs) o h l =
      let a = and_parts (is_ordinary x.program.types t) (are_ordinary x.program.types ts) o in
      let b = and_parts (fits x.program t v) (all_fit x.program ts vs) h in
      let c = and_parts (low x.new.universe v) (are_low x.new.universe vs) l in
      and_from (is_elem (sig_at x consts) (structure_of x).sizes (sort_of x.program t) (elem_of v)) _ (value-is t v (ordinary-ranged x.program t a.0) b.0 c.0) (values-are ts vs a.1 b.1 c.1)
