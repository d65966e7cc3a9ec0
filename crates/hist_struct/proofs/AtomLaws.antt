-- The sorts of atoms in the structure of a step, and its snapshots.
use Rattle.std.proofs.Common.{◌≡◌, ℕ, zero, suc, ◌+◌, ◌<◌, ◌≤◌, false, List, [], ◌∷◌, ◌++◌, length, map, replicate, get_or, nat_lt, refl, ap, sym, ◌∙◌, ltb-true, arith, slice_get, ne_eqb}
use Rattle.std.specs.declared.option.Option.TheVariants.{Some}
use Rattle.std.proofs.lemmas.List.{get_or-replicate}
use Rattle.rp_value.specs.declared.tables.AtomType.{AtomType}
use Rattle.rp_value.specs.declared.tables.ConDecl.{ConDecl}
use Rattle.rp_lang.specs.declared.op.OpDecl.{OpDecl}
use Rattle.rp_lang.specs.Programs.{Prog, Proc}
use Rattle.rp_logic.specs.declared.sort.Sort.{Sort}
use Rattle.rp_logic.specs.declared.sort.Sort.TheVariants as so
use Rattle.rp_logic.specs.declared.sort.LogicCon.{LogicCon}
use Rattle.rp_logic.specs.Signatures.{is_plain, is_int, is_str, is_con_of}
use Rattle.rp_logic.specs.Elements.{Elem, Point, Whole, Text, Made}
use Rattle.std.proofs.lemmas.Bool.{and_parts, and_from}
use Rattle.rp_logic.proofs.SortLaws.{no}
use Rattle.event_machine.proofs.MoveLemmas.{and-make}
use Rattle.event_machine.proofs.ViewLemmas.{Closed, closed-snapshot, snapshot-closed}
use Rattle.rp_symbols.specs.Numbers.{atom_sort, data_sort, op_sort, info_sort, outcome_sort}
use Rattle.hist_struct.specs.Steps.{Step, IsStep, is_done, is_seen, is_part}
use Rattle.hist_struct.proofs.StepPrograms.{IsProgram}
use Rattle.hist_struct.specs.Structure.{sig_at, meaning_of}
use Rattle.crdt_enc.specs.FitsParts.{Is}
use Rattle.rp_symbols.specs.Signatures.{result_list}
use Rattle.hist_struct.specs.means.Fitting.{FitsAtoms}
use Rattle.hist_struct.specs.Snapshots.{AreSnapshots}
use Rattle.rp_symbols.specs.Signatures.{sort_of, con_of, con_decls, sorts_of}
use Rattle.hist_struct.proofs.CallFacts.{lt-true}
use Rattle.hist_struct.proofs.SetFacts.{done-closed, in-done}
use Rattle.hist_struct.proofs.MoveFacts.{Kept, kept}
use Rattle.hist_struct.proofs.MarkFacts.{seen-closed}

-- # Atoms

all-plain : (atoms : List AtomType) (rest : List Sort) (n : ℕ) → n < length atoms → slice_get (map (λ (atom : AtomType). so.Plain) atoms ++ rest) n ≡ Some so.Plain
all-plain [] rest n l = absurd (omega (arith, l))
all-plain (a ∷ atoms) rest zero l = refl
all-plain (a ∷ atoms) rest (suc n) l = all-plain atoms rest n (omega (arith, l))

pub plain-at : (p : Prog) (n : ℕ) → n < length p.types.atoms → slice_get (sorts_of p) (atom_sort n) ≡ Some so.Plain
plain-at p n l = ap (slice_get (sorts_of p)) (let e : 2 + n ≡ suc (suc n) = omega arith in e) ∙ all-plain p.types.atoms _ n l

abbrev pub High : ℕ → List LogicCon → Type 0
High b [] = Unit {0}
High b (c ∷ cs) = (b ≤ c.sort) × High b cs

pub high-both : (b : ℕ) (xs ys : List LogicCon) → High b xs → High b ys → High b (xs ++ ys)
high-both b [] ys h k = k
high-both b (x ∷ xs) ys h k = (h.0, high-both b xs ys h.1 k)

pub high-map : {A : Type 0} (b : ℕ) (f : A → LogicCon) (xs : List A) → ((x : A) → b ≤ (f x).sort) → High b (map f xs)
high-map b f [] h = tt
high-map b f (x ∷ xs) h = (h x, high-map b f xs h)

pub high-free : (b : ℕ) (cs : List LogicCon) (c s : ℕ) → High b cs → s < b → is_con_of (slice_get cs c) s ≡ false
high-free b [] c s h l = refl
high-free b (x ∷ cs) zero s h l = ne_eqb x.sort s (λ e. let k = h.0 in omega (arith, e, k, l))
high-free b (x ∷ cs) (suc c) s h l = high-free b cs c s h.1 l

pub all-high : (p : Prog) → High (4 + length p.types.atoms) (con_decls p)
all-high p =
    high-both (4 + length p.types.atoms) _ _ (high-map (4 + length p.types.atoms) (λ (decl : ConDecl). con_of (data_sort p decl.of) (map (sort_of p) decl.fields)) p.cons.cons (λ decl. omega arith))
    (high-both (4 + length p.types.atoms) _ _ (high-map (4 + length p.types.atoms) (λ (decl : OpDecl). con_of (op_sort p) (map (sort_of p) decl.args)) p.ops (λ decl. omega arith))
    (high-both (4 + length p.types.atoms) _ _ (high-map (4 + length p.types.atoms) (λ (q : Proc). con_of (info_sort p) (map (sort_of p) q.params)) p.procs (λ q. omega arith))
    ((let l : 4 + length p.types.atoms ≤ outcome_sort p = omega arith in l), high-map (4 + length p.types.atoms) (λ (q : Proc). con_of (outcome_sort p) (map (sort_of p) (result_list q.result))) p.procs (λ q. omega arith))))

pub free-at : (p : Prog) (con n : ℕ) → n < length p.types.atoms → is_con_of (slice_get (con_decls p) con) (atom_sort n) ≡ false
free-at p con n l = high-free (4 + length p.types.atoms) (con_decls p) con (atom_sort n) (all-high p) (omega (arith, l))

pub size-at : (a b k u n : ℕ) → n < k → get_or (a ∷ b ∷ replicate k u) (atom_sort n) 0 ≡ u
size-at a b k u n l = ap (λ i. get_or (a ∷ b ∷ replicate k u) i 0) (let e : 2 + n ≡ suc (suc n) = omega arith in e) ∙ get_or-replicate k n u 0 l

pub atoms-fit : (x : Step) (consts : List ℕ) → FitsAtoms x.program (meaning_of (sig_at x consts) x) x.new.universe
atoms-fit x consts = record {
  atoms = λ n k l lk. and_from (is_plain (slice_get (sorts_of x.program) (atom_sort n))) (nat_lt k (size n)) (ap is_plain (plain-at x.program n l)) (ap (nat_lt k) (sized n l) ∙ lt-true k x.new.universe lk);
  atom_points = point;
}
  where
    size : ℕ → ℕ
    size n = get_or (length x.new.calls ∷ length x.new.invocations ∷ replicate (length x.program.types.atoms) x.new.universe) (atom_sort n) 0

    sized : (n : ℕ) → n < length x.program.types.atoms → get_or (length x.new.calls ∷ length x.new.invocations ∷ replicate (length x.program.types.atoms) x.new.universe) (atom_sort n) 0 ≡ x.new.universe
    sized n l = size-at (length x.new.calls) (length x.new.invocations) (length x.program.types.atoms) x.new.universe n l

    point : (n : ℕ) (e : Elem) → n < length x.program.types.atoms → Is (meaning_of (sig_at x consts) x) (atom_sort n) e → (k : ℕ) × (e ≡ Point k) × (k < x.new.universe)
    point n (Point k) l h = (
      k,
      refl,
      ltb-true k x.new.universe (sym (ap (nat_lt k) (sized n l)) ∙ (and_parts (is_plain (slice_get (sorts_of x.program) (atom_sort n)))
          (nat_lt k (get_or (length x.new.calls ∷ length x.new.invocations ∷ replicate (length x.program.types.atoms) x.new.universe) (atom_sort n) 0)) h).1),
    )
    point n (Whole z) l h = no (sym (ap is_int (plain-at x.program n l)) ∙ h)
    point n (Text z) l h = no (sym (ap is_str (plain-at x.program n l)) ∙ h)
    point n (Made con args) l h = no (sym (free-at x.program con n l) ∙ (and_parts (is_con_of (slice_get (con_decls x.program) con) (atom_sort n)) _ h).0)

-- # Snapshots

pub snapshots : (x : Step) → IsProgram x.program → IsStep x → AreSnapshots x
snapshots x keeps m = record {
  old = snapshot-closed x.old.calls x.old.txs (is_done x.old) done;
  seen = λ k. snapshot-closed x.old.calls x.old.txs (is_seen x.old x.inv k) (seen-closed x.program x.old m.before.formed x.inv m.acts k);
  part = snapshot-closed x.old.calls x.old.txs (is_part x) (record {
    committed = λ c i. in-done x.old c (and_parts (x.snapshot c) (is_done x.old c) i).1;
    down = λ c d call i a p.
        let b = and_parts (x.snapshot c) (is_done x.old c) i in
        and-make (x.snapshot d) (is_done x.old d) (new.down c d call b.0 (its.grows.calls c call a) p) (done.down c d call b.1 a p);
    whole = λ c d call e i a ad q.
        let b = and_parts (x.snapshot c) (is_done x.old c) i in
        and-make (x.snapshot d) (is_done x.old d) (new.whole c d call e b.0 (its.grows.calls c call a) (its.grows.calls d e ad) q) (done.whole c d call e b.1 a ad q);
  });
}
  where
    its : Kept x
    its = kept x keeps.formed m

    done : Closed x.old.calls x.old.txs (is_done x.old)
    done = done-closed x.old m.before.formed.history

    new : Closed x.new.calls x.new.txs x.snapshot
    new = closed-snapshot x.new.calls x.new.txs x.snapshot m.snapshot
