-- Slots that come one behind another.
use Rattle.std.proofs.Common.{◌≡◌, ℕ, ◌+◌, ◌||◌, List, [], ◌∷◌, ◌++◌, length, Option, Some, refl, ap, ap₂, sym, subst, ◌∙◌, append_assoc, append-nil, length-append, arith}
use Rattle.rp_value.specs.declared.tables.Ty.{Ty}
use Rattle.type_rules.specs.declared.kind.Kind.{Kind}
use Rattle.desugaring.specs.Limits.{Test}
use Rattle.desugaring.specs.Parts.{both, each}
use Rattle.desugaring.specs.Tables.{Tables, ty_of}
use Rattle.desugaring.proofs.Options.{both_is, both_there}
use Rattle.lower_exprs.specs.declared.values.Maker.{Maker}
use Rattle.lower_procs.specs.declared.writer.Writer.{Writer}
use Rattle.lower_procs.specs.Noting.{IsNoted, Passing, none_passing}
use Rattle.lower_procs.specs.Writing.{Brings, HaveSlots, sight_in}
use Rattle.lower_procs.proofs.Noted.{PassesNoSlot, noted_as, noted_both, noted_none}

each_append : {X Y : Type 0} (f : X → Option Y) (xs ys : List X) (zs ws : List Y) → each f xs ≡ Some zs → each f ys ≡ Some ws
    → each f (xs ++ ys) ≡ Some (zs ++ ws)
each_append {X} {Y} f [] ys zs ws h i = let none : [] ≡ zs = cc in i ∙ ap (λ (l : List Y). Some (l ++ ws)) none
each_append {X} {Y} f (x ∷ xs) ys zs ws h i =
    both_there (λ (l : List Y). both ◌∷◌ (f x) (each f (xs ++ ys)) ≡ Some (l ++ ws)) ◌∷◌ (f x) (each f xs) zs h
    (λ y rest a b. both_is ◌∷◌ (f x) (each f (xs ++ ys)) y (rest ++ ws) a (each_append f xs ys rest ws b i))

each_long : {X Y : Type 0} (f : X → Option Y) (xs : List X) (zs : List Y) → each f xs ≡ Some zs → length zs ≡ length xs
each_long {X} {Y} f [] zs h = let none : [] ≡ zs = cc in ap length (sym none)
each_long {X} {Y} f (x ∷ xs) zs h =
    both_there (λ (l : List Y). length l ≡ length (x ∷ xs)) ◌∷◌ (f x) (each f xs) zs h
    (λ y rest a b. let h = each_long f xs rest b in omega (arith, h))

pub have_none : (w : Writer) → HaveSlots w [] w
have_none w = record { tys = []; are = refl; behind = sym (append-nil w.slots) }

pub have_both : {a b d : Writer} {ks ls : List Kind} → HaveSlots a ks b → HaveSlots b ls d → (sight_in b).tables ≡ (sight_in a).tables
    → HaveSlots a (ks ++ ls) d
have_both {a} {b} {d} {ks} {ls} first second same =
    let are = subst (λ (t : Tables). each (ty_of t) ls ≡ Some second.tys) same second.are in
    record {
      tys = first.tys ++ second.tys;
      are = each_append (ty_of (sight_in a).tables) ks ls first.tys second.tys first.are are;
      behind = second.behind ∙ ap (λ (l : List Ty). l ++ second.tys) first.behind ∙ append_assoc a.slots first.tys second.tys;
    }

-- how many there are
pub have_long : {a b : Writer} {ks : List Kind} → HaveSlots a ks b → length b.slots ≡ length a.slots + length ks
have_long {a} {b} {ks} have =
    ap length have.behind ∙ length-append a.slots have.tys
    ∙ ap (λ n. length a.slots + n) (each_long (ty_of (sight_in a).tables) ks have.tys have.are)

-- the same slots, seen from another state with these tables and slots
pub have_from : {a b d : Writer} {ks : List Kind} → HaveSlots b ks d → (sight_in b).tables ≡ (sight_in a).tables → b.slots ≡ a.slots
    → HaveSlots a ks d
have_from {a} {b} {d} {ks} have same slots = record {
  tys = have.tys;
  are = subst (λ (t : Tables). each (ty_of t) ks ≡ Some have.tys) same have.are;
  behind = have.behind ∙ ap (λ (l : List Ty). l ++ have.tys) slots;
}

-- so do those that a state with the same slots has
pub have_to : {a b d : Writer} {ks : List Kind} → HaveSlots a ks b → d.slots ≡ b.slots → HaveSlots a ks d
have_to {a} {b} {d} {ks} have slots = record { tys = have.tys; are = have.are; behind = slots ∙ have.behind }

pub brings_none : (w : Writer) → Brings w [] none_passing w
brings_none w = record { slots = have_none w; noted = noted_none w.maker }

pub brings_both : {a b d : Writer} {ks ls : List Kind} {p q : Passing} → Brings a ks p b → Brings b ls q d
    → (sight_in b).tables ≡ (sight_in a).tables → Brings a (ks ++ ls) (λ test. p test || q test) d
brings_both first second same = record {
  slots = have_both first.slots second.slots same;
  noted = noted_both first.noted second.noted;
}

pub brings_as : {a b : Writer} {ks : List Kind} {p : Passing} (q : Passing) → Brings a ks p b
    → ((test : Test) → PassesNoSlot test → q test ≡ p test) → Brings a ks q b
brings_as q brings same = record { slots = brings.slots; noted = noted_as q brings.noted same }
