-- Which sorts and constructors the signature of a program has.
use Rattle.std.proofs.Common.{◌≡◌, ◌≤◌, ◌<◌, ◌⊎◌, inl, inr, ℕ, zero, suc, ◌+◌, ◌==◌, nat_lt, Bool, true, false, List, [], ◌∷◌, ◌++◌, length, map, Some, slice_get, refl, sym, ap, ◌∙◌, eqb-true, ltb-true, ltb-false, arith}
use Rattle.std.proofs.lemmas.Bool.{and_parts}
use Rattle.std.proofs.lemmas.List.{length-map}
use Rattle.std.proofs.lemmas.Option.{none-some, same_Some}
use Rattle.rp_value.specs.declared.tables.Ty.TheVariants.{Datatype}
use Rattle.rp_value.specs.declared.tables.AtomType.{AtomType}
use Rattle.rp_value.specs.declared.tables.ConDecl.{ConDecl}
use Rattle.rp_value.specs.declared.tables.ConTable.{ConTable}
use Rattle.rp_value.specs.declared.tables.DataDecl.{DataDecl}
use Rattle.rp_lang.specs.declared.op.OpDecl.{OpDecl}
use Rattle.rp_lang.specs.Types.{is_ty, datatype_in, datatype_of, is_run, has_next, are_numbered}
use Rattle.rp_lang.specs.Programs.{Prog, Proc}
use Rattle.rp_lang.proofs.ProgramFacts.{Facts}
use Rattle.rp_lang.proofs.TypeFacts.{is-type}
use Rattle.event_machine.proofs.PlaceLemmas.{at-lt, same-or}
use Rattle.rp_logic.specs.declared.sort.Sort.{Sort}
use Rattle.rp_logic.specs.declared.sort.Sort.TheVariants as so
use Rattle.rp_logic.specs.declared.sort.LogicCon.{LogicCon}
use Rattle.rp_symbols.specs.Numbers.{call_sort, inv_sort, atom_sort, int_sort, str_sort, data_sort, op_sort, info_sort, outcome_sort}
use Rattle.rp_symbols.specs.Signatures.{sort_of, atom_sorts, data_sorts, record_sorts, sorts_of, con_of, result_list, con_decls}
use Rattle.hist_struct.proofs.DefaultLaws.{data_number}
use Rattle.hist_struct.proofs.FitLaws.{map-at}

pub split-at : {A : Type 0} (xs ys : List A) (n : ℕ) (z : A) → slice_get (xs ++ ys) n ≡ Some z → (slice_get xs n ≡ Some z) ⊎ ((m : ℕ) × (n ≡ length xs + m) × (slice_get ys m ≡ Some z))
split-at [] ys n z e = inr (n, omega arith, e)
split-at (x ∷ xs) ys zero z e = inl e
split-at (x ∷ xs) ys (suc n) z e = elim (split-at xs ys n z e) [
  | inl h ↦ inl h
  | inr h ↦ inr (h.0, ap suc h.1 ∙ (omega arith), h.2)
]

-- # Sorts

pub data SortKind (p : Prog) (s : ℕ) : Type 0 where
  as_call : (is : s ≡ call_sort) → SortKind p s
  as_inv : (is : s ≡ inv_sort) → SortKind p s
  as_atom : (k : ℕ) (below : k < length p.types.atoms) (is : s ≡ atom_sort k) → SortKind p s
  as_int : (is : s ≡ int_sort p) → SortKind p s
  as_str : (is : s ≡ str_sort p) → SortKind p s
  as_data : (d : ℕ) (below : d < length p.types.datatypes) (is : s ≡ data_sort p d) → SortKind p s
  as_op : (is : s ≡ op_sort p) → SortKind p s
  as_info : (is : s ≡ info_sort p) → SortKind p s
  as_outcome : (is : s ≡ outcome_sort p) → SortKind p s

-- those behind the types of atoms
abbrev sort_list : Prog → List Sort
sort_list p = so.Int ∷ so.Str ∷ (data_sorts p.types.datatypes ++ record_sorts p)

record-kind : (p : Prog) (s i : ℕ) (z : Sort) → s ≡ op_sort p + i → slice_get (record_sorts p) i ≡ Some z → SortKind p s
record-kind p s zero z q e = as_op (omega (arith, q))
record-kind p s (suc zero) z q e = as_info (omega (arith, q))
record-kind p s (suc (suc zero)) z q e = as_outcome (omega (arith, q))
record-kind p s (suc (suc (suc i))) z q e = absurd (none-some z e)

late-kind : (p : Prog) (s m : ℕ) (z : Sort) → s ≡ int_sort p + m → slice_get (sort_list p) m ≡ Some z → SortKind p s
late-kind p s zero z q e = as_int (omega (arith, q))
late-kind p s (suc zero) z q e = as_str (omega (arith, q))
late-kind p s (suc (suc j)) z q e =
    let c = length-map p.types.datatypes (λ (decl : DataDecl). so.Datatype decl.cons) in
    elim (split-at (data_sorts p.types.datatypes) (record_sorts p) j z e) [
      | inl h ↦ let l = at-lt (data_sorts p.types.datatypes) j z h in as_data j (omega (arith, l, c)) (omega (arith, q))
      | inr h ↦ let k = h.1 in record-kind p s h.0 z (omega (arith, q, c, k)) h.2
    ]

pub kind-of : (p : Prog) (s : ℕ) (z : Sort) → slice_get (sorts_of p) s ≡ Some z → SortKind p s
kind-of p zero z e = as_call refl
kind-of p (suc zero) z e = as_inv refl
kind-of p (suc (suc k)) z e =
    let c = length-map p.types.atoms (λ (atom : AtomType). so.Plain) in
    elim (split-at (atom_sorts p.types.atoms) (sort_list p) k z e) [
      | inl h ↦ let l = at-lt (atom_sorts p.types.atoms) k z h in as_atom k (omega (arith, l, c)) (omega arith)
      | inr h ↦ let n = h.1 in late-kind p (suc (suc k)) h.0 z (omega (arith, n, c)) h.2
    ]

-- # Constructors

pub run-in : (cons : ConTable) (n next : ℕ) (list : List ℕ) (c : ℕ) → is_run cons n next list ≡ true → next ≤ c → c < next + length list → datatype_of cons c ≡ Some (Datatype n)
run-in cons n next [] c h l k = absurd (omega (arith, l, k))
run-in cons n next (con ∷ others) c h l k =
    let b = and_parts _ (is_run cons n (next + 1) others) h in
    let a = and_parts (con == next) (is_ty (datatype_of cons con) (Datatype n)) b.0 in
    elim (same-or c next) [
      | inl e ↦ ap (datatype_of cons) (e ∙ sym (eqb-true con next a.0)) ∙ is-type (datatype_of cons con) (Datatype n) a.1
      | inr d ↦ run-in cons n (next + 1) others c b.1 (omega (arith, l, d)) (omega (arith, k))
    ]

numbered-in : (cons : ConTable) (n next : ℕ) (decls : List DataDecl) (c : ℕ) → are_numbered cons n next decls ≡ true → next ≤ c → c < length cons.cons
    → (i : ℕ) × (i < length decls) × (datatype_of cons c ≡ Some (Datatype (n + i)))
numbered-in cons n next [] c h l k = let e = eqb-true next (length cons.cons) h in absurd (omega (arith, e, l, k))
numbered-in cons n next (d ∷ decls) c h l k =
    go (nat_lt c (next + length d.cons)) refl (λ a. numbered-in cons (n + 1) (next + length d.cons) decls c (and_parts (has_next cons n next d.cons) _ h).1 a k)
  where
    b : (has_next cons n next d.cons ≡ true) × (are_numbered cons (n + 1) (next + length d.cons) decls ≡ true)
    b = and_parts (has_next cons n next d.cons) _ h

    go : (x : Bool) → nat_lt c (next + length d.cons) ≡ x
        → (next + length d.cons ≤ c → (i : ℕ) × (i < length decls) × (datatype_of cons c ≡ Some (Datatype (n + 1 + i))))
        → (i : ℕ) × (i < length (d ∷ decls)) × (datatype_of cons c ≡ Some (Datatype (n + i)))
    go true e rec =
        let plain : n ≡ n + 0 = omega arith in
        (0, omega arith, run-in cons n next d.cons c (and_parts _ (is_run cons n next d.cons) b.0).1 l (ltb-true c _ e) ∙ ap (λ n. Some (Datatype n)) plain)
    go false e rec =
        let r = rec (ltb-false c _ e) in
        let more : n + 1 + r.0 ≡ n + suc r.0 = omega arith in
        let below = r.1 in
        (suc r.0, omega (arith, below), r.2 ∙ ap (λ n. Some (Datatype n)) more)

-- each constructor of the program is of one of its datatypes
pub own-range : (p : Prog) → Facts p → (con : ℕ) (decl : ConDecl) → slice_get p.cons.cons con ≡ Some decl → decl.of < length p.types.datatypes
own-range p f con decl e =
    let r = numbered-in p.cons 0 0 p.types.datatypes con f.numbered (omega arith) (at-lt p.cons.cons con decl e) in
    let same : decl.of ≡ 0 + r.0 = ap data_number (same_Some (Datatype decl.of) (Datatype (0 + r.0)) (sym (ap datatype_in e) ∙ r.2)) in
    let below = r.1 in omega (arith, same, below)

pub data ConKind (p : Prog) (con : LogicCon) : Type 0 where
  is_own : (d : ℕ) (below : d < length p.types.datatypes) (is : con.sort ≡ data_sort p d) → ConKind p con
  is_op : (is : con.sort ≡ op_sort p) → ConKind p con
  is_info : (q : Proc) (there : slice_get p.procs 0 ≡ Some q) (is : con.sort ≡ info_sort p) → ConKind p con
  is_outcome : (is : con.sort ≡ outcome_sort p) → ConKind p con

first-proc : (procs : List Proc) (n : ℕ) (q : Proc) → slice_get procs n ≡ Some q → (q : Proc) × (slice_get procs 0 ≡ Some q)
first-proc [] n q e = absurd (none-some q e)
first-proc (r ∷ procs) n q e = (r, refl)

outcome-kind : (p : Prog) (i : ℕ) (con : LogicCon) → slice_get (con_of (outcome_sort p) [] ∷ map (λ (q : Proc). con_of (outcome_sort p) (map (sort_of p) (result_list q.result))) p.procs) i ≡ Some con
    → con.sort ≡ outcome_sort p
outcome-kind p zero con e = ap (λ (c : LogicCon). c.sort) (sym (same_Some _ con e))
outcome-kind p (suc i) con e = let q = map-at (λ (q : Proc). con_of (outcome_sort p) (map (sort_of p) (result_list q.result))) p.procs i con e in ap (λ (c : LogicCon). c.sort) (sym q.2)

pub con-kind : (p : Prog) → Facts p → (n : ℕ) (con : LogicCon) → slice_get (con_decls p) n ≡ Some con → ConKind p con
con-kind p f n con e = elim (split-at (map (λ (decl : ConDecl). con_of (data_sort p decl.of) (map (sort_of p) decl.fields)) p.cons.cons) _ n con e) [
  | inl h ↦
      let d = map-at (λ (decl : ConDecl). con_of (data_sort p decl.of) (map (sort_of p) decl.fields)) p.cons.cons n con h in
      is_own d.0.of (own-range p f n d.0 d.1) (ap (λ (c : LogicCon). c.sort) (sym d.2))
  | inr h ↦ behind h.0 h.2
]
  where
    last : (i : ℕ) → slice_get (map (λ (q : Proc). con_of (info_sort p) (map (sort_of p) q.params)) p.procs
        ++ (con_of (outcome_sort p) [] ∷ map (λ (q : Proc). con_of (outcome_sort p) (map (sort_of p) (result_list q.result))) p.procs)) i ≡ Some con → ConKind p con
    last i e = elim (split-at (map (λ (q : Proc). con_of (info_sort p) (map (sort_of p) q.params)) p.procs) _ i con e) [
      | inl h ↦
          let q = map-at (λ (q : Proc). con_of (info_sort p) (map (sort_of p) q.params)) p.procs i con h in
          let r = first-proc p.procs i q.0 q.1 in is_info r.0 r.1 (ap (λ (c : LogicCon). c.sort) (sym q.2))
      | inr h ↦ is_outcome (outcome-kind p h.0 con h.2)
    ]

    behind : (i : ℕ) → slice_get (map (λ (decl : OpDecl). con_of (op_sort p) (map (sort_of p) decl.args)) p.ops
        ++ (map (λ (q : Proc). con_of (info_sort p) (map (sort_of p) q.params)) p.procs
        ++ (con_of (outcome_sort p) [] ∷ map (λ (q : Proc). con_of (outcome_sort p) (map (sort_of p) (result_list q.result))) p.procs))) i ≡ Some con → ConKind p con
    behind i e = elim (split-at (map (λ (decl : OpDecl). con_of (op_sort p) (map (sort_of p) decl.args)) p.ops) _ i con e) [
      | inl h ↦ let q = map-at (λ (decl : OpDecl). con_of (op_sort p) (map (sort_of p) decl.args)) p.ops i con h in is_op (ap (λ (c : LogicCon). c.sort) (sym q.2))
      | inr h ↦ last h.0 h.2
    ]
