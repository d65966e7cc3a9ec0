-- The arms of a match that covers a datatype are of its constructors.
use Rattle.std.proofs.Common.{◌≡◌, ◌≤◌, ℕ, zero, suc, ◌+◌, nat_eq, ◌==◌, if◌then◌else◌, List, [], ◌∷◌, length, Bool, true, false, ◌||◌, Option, Some, None, slice_get, refl, sym, ap, ◌∙◌, eqb-true, ne_eqb, arith}
use Rattle.std.specs.List.{list_all}
use Rattle.std.proofs.lemmas.Bool.{and_parts, and_from}
use Rattle.std.proofs.lemmas.Option.{none-some, same_Some}
use Rattle.rp_value.specs.declared.tables.ConTable.{ConTable}
use Rattle.rp_value.specs.declared.tables.DataDecl.{DataDecl}
use Rattle.rp_value.specs.declared.tables.Ty.TheVariants.{Datatype}
use Rattle.rp_lang.specs.Types.{is_ty, datatype_of, cons_of, cons_in, is_run, has_next, are_numbered}
use Rattle.rp_lang.specs.Typing.{is_among, cover}
use Rattle.rp_lang.specs.Programs.{Prog}
use Rattle.rp_lang.proofs.ProgramFacts.{Facts, listed-of}
use Rattle.rp_logic.proofs.SortLaws.{no}

-- # Members

among-there : (c : ℕ) (xs : List ℕ) → is_among c xs ≡ true → (j : ℕ) × (slice_get xs j ≡ Some c)
among-there c [] h = no h
among-there c (x ∷ xs) h = go (nat_eq c x) refl h (λ k. among-there c xs k)
  where
    go : (b : Bool) → nat_eq c x ≡ b → (b || is_among c xs) ≡ true → (is_among c xs ≡ true → (j : ℕ) × (slice_get xs j ≡ Some c)) → (j : ℕ) × (slice_get (x ∷ xs) j ≡ Some c)
    go true e h rec = (0, ap (λ n. Some n) (sym (eqb-true c x e)))
    go false e h rec = let r = rec h in (suc r.0, r.1)

none-among : {A : Type 0} (c : ℕ) (xs : List ℕ) → length xs ≡ 0 → is_among c xs ≡ true → A
none-among c [] l h = no h
none-among c (x ∷ xs) l h = absurd (omega (arith, l))

-- the list without its first c
abbrev without : ℕ → List ℕ → List ℕ
without c [] = []
without c (x ∷ xs) = if nat_eq c x then xs else x ∷ without c xs

one-less : (c : ℕ) (xs : List ℕ) → is_among c xs ≡ true → length xs ≡ suc (length (without c xs))
one-less c [] h = no h
one-less c (x ∷ xs) h = go (nat_eq c x) h (λ k. one-less c xs k)
  where
    go : (b : Bool) → (b || is_among c xs) ≡ true → (is_among c xs ≡ true → length xs ≡ suc (length (without c xs))) → suc (length xs) ≡ suc (length (if b then xs else x ∷ without c xs))
    go true h rec = refl
    go false h rec = ap suc (rec h)

other-stays : (c e : ℕ) (xs : List ℕ) → nat_eq e c ≡ false → is_among e xs ≡ true → is_among e (without c xs) ≡ true
other-stays c e [] d h = no h
other-stays c e (x ∷ xs) d h = go (nat_eq c x) refl (λ k. other-stays c e xs d k)
  where
    rest : (b : Bool) → (b || is_among e xs) ≡ true → (is_among e xs ≡ true → is_among e (without c xs) ≡ true) → (b || is_among e (without c xs)) ≡ true
    rest true h rec = refl
    rest false h rec = rec h

    go : (b : Bool) → nat_eq c x ≡ b → (is_among e xs ≡ true → is_among e (without c xs) ≡ true) → is_among e (if b then xs else x ∷ without c xs) ≡ true
    go true same rec = ap (λ b. b || is_among e xs) (sym d ∙ ap (nat_eq e) (eqb-true c x same)) ∙ h
    go false same rec = rest (nat_eq e x) h rec

-- # As many, and each among them

run-above : (cons : ConTable) (n next : ℕ) (list : List ℕ) (j e : ℕ) → is_run cons n next list ≡ true → slice_get list j ≡ Some e → next ≤ e
run-above cons n next [] j e h at = absurd (none-some e at)
run-above cons n next (c ∷ list) zero e h at =
    let same = eqb-true c next (and_parts (c == next) (is_ty (datatype_of cons c) (Datatype n)) (and_parts _ (is_run cons n (next + 1) list) h).0).0 in
    let is = same_Some c e at in omega (arith, same, is)
run-above cons n next (c ∷ list) (suc j) e h at =
    let r = run-above cons n (next + 1) list j e (and_parts _ (is_run cons n (next + 1) list) h).1 at in omega (arith, r)

all-stay : (d : ℕ) (found list : List ℕ) → ((j e : ℕ) → slice_get list j ≡ Some e → nat_eq e d ≡ false) → list_all (λ con. is_among con found) list ≡ true
    → list_all (λ con. is_among con (without d found)) list ≡ true
all-stay d found [] f h = refl
all-stay d found (e ∷ list) f h =
    let b = and_parts (is_among e found) (list_all (λ con. is_among con found) list) h in
    and_from (is_among e (without d found)) _ (other-stays d e found (f 0 e refl) b.0) (all-stay d found list (λ j e at. f (suc j) e at) b.1)

pigeons : (cons : ConTable) (n next : ℕ) (list found : List ℕ) → is_run cons n next list ≡ true → list_all (λ con. is_among con found) list ≡ true → length found ≡ length list
    → (c : ℕ) → is_among c found ≡ true → is_among c list ≡ true
pigeons cons n next [] [] r all l c h = no h
pigeons cons n next [] (x ∷ found) r all l c h = absurd (omega (arith, l))
pigeons cons n next (d ∷ list) found r all l c h = go (nat_eq c d) refl (λ found r all l c h. pigeons cons n (next + 1) list found r all l c h)
  where
    here : is_among d found ≡ true
    here = (and_parts (is_among d found) (list_all (λ con. is_among con found) list) all).0

    later : is_run cons n (next + 1) list ≡ true
    later = (and_parts _ (is_run cons n (next + 1) list) r).1

    first : d ≡ next
    first = eqb-true d next (and_parts (d == next) (is_ty (datatype_of cons d) (Datatype n)) (and_parts _ (is_run cons n (next + 1) list) r).0).0

    apart : (j e : ℕ) → slice_get list j ≡ Some e → nat_eq e d ≡ false
    apart j e at = let above = run-above cons n (next + 1) list j e later at in ne_eqb e d (λ same. omega (arith, above, first, same))

    go : (b : Bool) → nat_eq c d ≡ b
        → ((found : List ℕ) → is_run cons n (next + 1) list ≡ true → list_all (λ con. is_among con found) list ≡ true → length found ≡ length list → (c : ℕ) → is_among c found ≡ true → is_among c list ≡ true)
        → (b || is_among c list) ≡ true
    go true e rec = refl
    go false e rec =
        rec (without d found) later
        (all-stay d found list apart (and_parts (is_among d found) (list_all (λ con. is_among con found) list) all).1)
        (let less = one-less d found here in omega (arith, less, l)) c (other-stays d c found e h)

-- # Of a datatype

run-at : (cons : ConTable) (n next : ℕ) (decls : List DataDecl) (i : ℕ) (decl : DataDecl) → are_numbered cons n next decls ≡ true → slice_get decls i ≡ Some decl
    → (k : ℕ) × (m : ℕ) × (is_run cons k m decl.cons ≡ true)
run-at cons n next [] i decl h at = absurd (none-some decl at)
run-at cons n next (d ∷ decls) zero decl h at =
    (n, next, ap (λ (d : DataDecl). is_run cons n next d.cons) (sym (same_Some d decl at)) ∙ (and_parts _ (is_run cons n next d.cons) (and_parts (has_next cons n next d.cons) _ h).0).1)
run-at cons n next (d ∷ decls) (suc i) decl h at = run-at cons (n + 1) (next + length d.cons) decls i decl (and_parts (has_next cons n next d.cons) _ h).1 at

pub covered : (p : Prog) → Facts p → (d : ℕ) (found : List ℕ) → cover found (cons_of p.types d) ≡ true → (c : ℕ) → is_among c found ≡ true → datatype_of p.cons c ≡ Some (Datatype d)
covered p f d found h c a = go (slice_get p.types.datatypes d) refl (and_parts (length found == length (cons_of p.types d)) _ h).0 (and_parts (length found == length (cons_of p.types d)) _ h).1
  where
    go : (o : Option DataDecl) → slice_get p.types.datatypes d ≡ o → (length found == length (cons_in o)) ≡ true → list_all (λ con. is_among con found) (cons_in o) ≡ true → datatype_of p.cons c ≡ Some (Datatype d)
    go None e l all = none-among c found (eqb-true (length found) 0 l) a
    go (Some decl) e l all =
        let run = run-at p.cons 0 0 p.types.datatypes d decl f.numbered e in
        let there = among-there c decl.cons (pigeons p.cons run.0 run.1 decl.cons found run.2 all (eqb-true (length found) (length decl.cons) l) c a) in
        listed-of p f d decl there.0 c e there.1
