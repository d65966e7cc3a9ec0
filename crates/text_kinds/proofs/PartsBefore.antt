-- The datatypes inside a declared type.
use Rattle.std.proofs.Common.{◌≡◌, ℕ, zero, suc, ◌+◌, ◌<◌, ◌≤◌, false, cond, List, [], ◌∷◌, ◌++◌, length, take, Option, Some, None, refl, sym, ap, ◌∙◌, arith, ◌⊎◌, inl, inr}
use Rattle.std.specs.Prelude.{reverse, slice_get}
use Rattle.std.proofs.lemmas.Bool.{cases_eq, cases_order, eq-eqb, ne_eqb}
use Rattle.std.proofs.lemmas.List.{append-nil, length-reverse, length-take, length-take-le, reverse-append, take_all, take_more}
use Rattle.std.proofs.lemmas.Option.{get_or_from_slice_get, same_Some, slice_get_within}
use Rattle.type_rules.specs.declared.kind.Kind.{Kind}
use Rattle.type_rules.specs.declared.kind.Base.{Base}
use Rattle.type_rules.specs.declared.kind.Base.TheVariants as base
use Rattle.type_rules.specs.Names.{Names, TypeEntry}
use Rattle.desugaring.specs.Appearances.{base_parts, is_declared, maybes_of, parts, sort_parts}
use Rattle.text_kinds.specs.means.Rows.{before, declared_number, declared_parts, parts_before}

reversed_more : (xs : List TypeEntry) (i : ℕ) (e : TypeEntry) → slice_get xs i ≡ Some e → reverse (take (i + 1) xs) ≡ e
    ∷ reverse (take i xs)
reversed_more xs i e h =
    let within = slice_get_within xs i e h in
    ap reverse (take_more xs i e within ∙ ap (λ d. take i xs ++ d ∷ []) (get_or_from_slice_get xs i e e h))
    ∙ turned (take i xs) e
  where
    turned : (xs : List TypeEntry) (e : TypeEntry) → reverse (xs ++ e ∷ []) ≡ e ∷ reverse xs
    turned xs e = reverse-append xs (e ∷ [])

past : (xs : List TypeEntry) (i : ℕ) → slice_get xs i ≡ None → length xs ≤ i
past [] i h = omega arith
past (x ∷ xs) zero h = absurd cc
past (x ∷ xs) (suc i) h = let later = past xs i h in omega arith

strictly : (types type : ℕ) → type < suc types → (types ≡ type → ⊥) → type < types
strictly types type h other = from (cases_order types type)
  where
    from : (types ≡ type) ⊎ ((types < type) ⊎ (type < types)) → type < types
    from (inl e) = absurd (other e)
    from (inr (inl more)) = absurd (omega arith)
    from (inr (inr less)) = less

-- # What isn't declared brings nothing

undeclared : (n : Names) (es : List TypeEntry) (type : ℕ) → length es ≤ type → base_parts n es (base.Declared type) ≡ []
undeclared n [] type h = refl
undeclared n (e ∷ es) type h =
    ap (λ b. cond b (sort_parts n (base_parts n es) (length es) e.sort) (base_parts n es (base.Declared type)))
    (ne_eqb type (length es) (λ same. omega arith))
    ∙ undeclared n es type (omega arith)

-- # What is declared

-- of a type that is declared there
pub declared_is : (n : Names) (type : ℕ) (e : TypeEntry) → slice_get n.types type ≡ Some e
    → declared_parts n type ≡ sort_parts n (base_parts n (before n type)) type e.sort
declared_is n type e h =
    append-nil (base_parts n (before n (type + 1)) (base.Declared type))
    ∙ ap (λ es. base_parts n es (base.Declared type)) (reversed_more n.types type e h)
    ∙ ap (λ b. cond b (sort_parts n (base_parts n (before n type)) (length (before n type)) e.sort)
    (base_parts n (before n type) (base.Declared type)))
    (eq-eqb type (length (before n type)) (sym long))
    ∙ ap (λ m. sort_parts n (base_parts n (before n type)) m e.sort) long
  where
    long : length (before n type) ≡ type
    long = length-reverse (take type n.types) ∙ length-take-le type n.types (omega (arith, slice_get_within n.types type e h))

pub declared_none : (n : Names) (type : ℕ) → slice_get n.types type ≡ None → declared_parts n type ≡ []
declared_none n type h =
    append-nil (base_parts n (before n (type + 1)) (base.Declared type))
    ∙ undeclared n (before n (type + 1)) type (omega (arith, long, past n.types type h))
  where
    long : length (before n (type + 1)) ≤ length n.types
    long = omega (arith, length-reverse (take (type + 1) n.types), length-take (type + 1) n.types)

-- the types that are declared later tell nothing
later_types : (n : Names) (types type : ℕ) → type < types → base_parts n (before n types) (base.Declared type)
    ≡ base_parts n (before n (type + 1)) (base.Declared type)
later_types n zero type h = absurd (omega arith)
later_types n (suc types) type h = by_place (cases_eq types type) (later_types n types type)
  where
    by_entry : (o : Option TypeEntry) → slice_get n.types types ≡ o → (types ≡ type → ⊥)
        → base_parts n (before n types) (base.Declared type) ≡ base_parts n (before n (type + 1)) (base.Declared type)
        → base_parts n (before n (suc types)) (base.Declared type) ≡ base_parts n (before n (type + 1)) (base.Declared type)
    by_entry (Some e) at other later =
        let plus : suc types ≡ types + 1 = omega arith in
        ap (λ m. base_parts n (before n m) (base.Declared type)) plus
        ∙ ap (λ es. base_parts n es (base.Declared type)) (reversed_more n.types types e at)
        ∙ ap (λ b. cond b (sort_parts n (base_parts n (before n types)) (length (before n types)) e.sort)
        (base_parts n (before n types) (base.Declared type)))
        (ne_eqb type (length (before n types)) (λ same. other (sym (same ∙ length-reverse (take types n.types)
        ∙ length-take-le types n.types (omega (arith, slice_get_within n.types types e at))))))
        ∙ later
    by_entry None at other later =
        ap (λ xs. base_parts n (reverse xs) (base.Declared type))
        (take_all (suc types) n.types (omega (arith, past n.types types at))
        ∙ sym (take_all types n.types (past n.types types at)))
        ∙ later

    by_place : (types ≡ type) ⊎ (types ≡ type → ⊥)
        → (type < types → base_parts n (before n types) (base.Declared type) ≡ base_parts n (before n (type + 1))
        (base.Declared type))
        → base_parts n (before n (suc types)) (base.Declared type) ≡ base_parts n (before n (type + 1)) (base.Declared type)
    by_place (inl e) later =
        let same : suc types ≡ type + 1 = omega arith in
        ap (λ m. base_parts n (before n m) (base.Declared type)) same
    by_place (inr other) later = by_entry (slice_get n.types types) refl other (later (strictly types type h other))

pub declared_before : (n : Names) (types type : ℕ) → type < types → base_parts n (before n types) (base.Declared type)
    ≡ declared_parts n type
declared_before n types type h =
    later_types n types type h ∙ sym (append-nil (base_parts n (before n (type + 1)) (base.Declared type)))

pub undeclared_before : (n : Names) (types type : ℕ) → types ≤ type → base_parts n (before n types) (base.Declared type) ≡ []
undeclared_before n types type h =
    undeclared n (before n types) type (omega (arith, length-reverse (take types n.types), length-take types n.types))

other_base : (b : Base) (type : ℕ) → declared_number b ≡ None → is_declared type b ≡ false
other_base (base.Declared k) type e = absurd cc
other_base base.Bool type e = refl
other_base base.Int type e = refl
other_base base.Text type e = refl
other_base base.Call type e = refl
other_base base.Invocation type e = refl
other_base base.Operation type e = refl
other_base base.Info type e = refl
other_base base.Outcome type e = refl
other_base base.Unknown type e = refl
other_base base.Open type e = refl

built_in : (n : Names) (es : List TypeEntry) (b : Base) → declared_number b ≡ None → base_parts n es b ≡ []
built_in n [] b h = refl
built_in n (e ∷ es) b h =
    ap (λ t. cond t (sort_parts n (base_parts n es) (length es) e.sort) (base_parts n es b)) (other_base b (length es) h)
    ∙ built_in n es b h

pub nothing_inside : (n : Names) (types : ℕ) (b : Base) → declared_number b ≡ None → base_parts n (before n types) b ≡ []
nothing_inside n types b h = built_in n (before n types) b h

pub number_inside : (b : Base) (type : ℕ) → declared_number b ≡ Some type → b ≡ base.Declared type
number_inside (base.Declared k) type e = ap base.Declared (same_Some k type e)
number_inside base.Bool type e = absurd cc
number_inside base.Int type e = absurd cc
number_inside base.Text type e = absurd cc
number_inside base.Call type e = absurd cc
number_inside base.Invocation type e = absurd cc
number_inside base.Operation type e = absurd cc
number_inside base.Info type e = absurd cc
number_inside base.Outcome type e = absurd cc
number_inside base.Unknown type e = absurd cc
number_inside base.Open type e = absurd cc

pub all_declared : (n : Names) (k : Kind) → parts n k ≡ parts_before n (length n.types) k
all_declared n k = ap (λ xs. base_parts n (reverse xs) k.base ++ maybes_of k.base k.maybes)
    (sym (take_all (length n.types) n.types (omega arith)))
