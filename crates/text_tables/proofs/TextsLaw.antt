-- Types as texts write them, and numbers one after the other.
use Rattle.std.proofs.Common.{◌≡◌, ℕ, zero, suc, ◌+◌, ◌-◌, ◌<◌, ◌≤◌, List, [], ◌∷◌, ◌++◌, length, take, Option, Some, None, refl, sym, ap, ◌∙◌, arith}
use Rattle.std.specs.Prelude.{codes, is_some, cond}
use Rattle.std.specs.List.{cons_option, slice_get}
use Rattle.std.specs.Option.{option_and_then}
use Rattle.std.proofs.lemmas.List.{append-nil, append_assoc}
use Rattle.rp_value.specs.declared.tables.AtomType.{AtomType}
use Rattle.type_rules.specs.declared.kind.Base.{Base}
use Rattle.type_rules.specs.Names.{Names, TypeEntry}
use Rattle.desugaring.specs.Tables.{atom_in, atoms, base_text, maybe_text, up_from}
use Rattle.text_tables.specs.means.Texts.{repeated}

commutes : (text : List ℕ) (m : ℕ) → text ++ repeated text m ≡ repeated text m ++ text
commutes text zero = append-nil text
commutes text (suc m) = sym (append_assoc text (repeated text m) text) ∙ ap (λ xs. xs ++ text) (commutes text m)

pub wrapped : (n : Names) (b : Base) (m : ℕ)
    → repeated (codes "Maybe[") m ++ base_text n b ++ repeated (codes "]") m ≡ maybe_text n b m
wrapped n b zero = append-nil (base_text n b)
wrapped n b (suc m) =
    let open_ = codes "Maybe[" in
    let close = codes "]" in
    ap (λ xs. xs ++ base_text n b ++ (repeated close m ++ close)) (sym (commutes open_ m))
    ∙ ap (λ xs. xs ++ (repeated close m ++ close)) (append_assoc open_ (repeated open_ m) (base_text n b))
    ∙ append_assoc open_ (repeated open_ m ++ base_text n b) (repeated close m ++ close)
    ∙ ap (λ xs. open_ ++ xs) (sym (append_assoc (repeated open_ m ++ base_text n b) (repeated close m) close) ∙ ap (λ xs. xs ++ close) (wrapped n b m))
    ∙ sym (append_assoc open_ (maybe_text n b m) close)

pub repeated_more : (text : List ℕ) (m : ℕ) → repeated text (m + 1) ≡ repeated text m ++ text
repeated_more text m = let next : m + 1 ≡ suc m = omega arith in ap (repeated text) next

pub up_one : (next end : ℕ) → next < end → up_from next (end - next) ≡ next ∷ up_from (next + 1) (end - (next + 1))
up_one next end lt =
    let more : end - next ≡ suc (end - (next + 1)) = omega (arith, lt) in ap (up_from next) more

pub up_none : (next end : ℕ) → end ≤ next → up_from next (end - next) ≡ []
up_none next end past = let none : end - next ≡ 0 = omega (arith, past) in ap (up_from next) none

-- # Id types and opaque types

pub count_more : (es : List TypeEntry) (i : ℕ) → i < length es
    → length (atoms (take (suc i) es)) ≡ length (atoms (take i es)) + cond (is_some (option_and_then atom_in (slice_get es i))) 1 0
count_more [] i lt = absurd (omega (arith, lt))
count_more (e ∷ es) zero lt = by (atom_in e)
  where
    by : (o : Option AtomType) → length (cons_option o []) ≡ 0 + cond (is_some o) 1 0
    by None = refl
    by (Some a) = refl
count_more (e ∷ es) (suc i) lt = by (atom_in e) (count_more es i (omega (arith, lt)))
  where
    by : (o : Option AtomType) → length (atoms (take (suc i) es)) ≡ length (atoms (take i es)) + cond (is_some (option_and_then atom_in (slice_get es i))) 1 0
        → length (cons_option o (atoms (take (suc i) es))) ≡ length (cons_option o (atoms (take i es))) + cond (is_some (option_and_then atom_in (slice_get es i))) 1 0
    by None later = later
    by (Some a) later = omega (arith, later)
