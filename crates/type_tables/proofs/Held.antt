-- What a map from lent names holds after a change.
use Rattle.std.proofs.Common.{◌≡◌, ℕ, ◌-◌, Bool, true, false, List, [], ◌∷◌, Option, None, refl, sym, ap, ◌∙◌, arith}
use Rattle.std.specs.Prelude.{map, cond, Some, if◌then◌else◌}
use Rattle.std.specs.Option.{is_some, unwrap_or}
use Rattle.std.specs.Borrow.{Bor}
use Rattle.std.specs.HashMap.{HashMap, UpdatesBy, get_by}
use Rattle.std.specs.Map.{count_at, lookup, update}
use Rattle.std.proofs.lemmas.Map.{count_at-update}
use Rattle.std.proofs.lemmas.Map.Text.{hash_map_updates_str}
use Rattle.type_rules.specs.Names.{Name, same_name}
use Rattle.type_tables.proofs.Places.{same}
use Rattle.type_tables.specs.Tables.{Table, entries_of, number_in, with_first}

found : (x : Name) (es : List (Bor Name × ℕ))
    → lookup (same_name x) (map (λ e. (e.0.now, e.1)) es) ≡ lookup (λ k. same_name x k.now) es
found x [] = refl
found x (e ∷ es) = ap (λ o. cond (same_name x e.0.now) (Some e.1) o) (found x es)

pub held : (x : Name) → {S : Type 0} (m : HashMap (Bor Name) ℕ S) → number_in (entries_of m) x ≡ get_by (λ k. same_name x k.now) m
held x m = found x m.entries

pub held_updates : (x : Name) → {S : Type 0} (m n : HashMap (Bor Name) ℕ S) (w : Option ℕ)
    → UpdatesBy (λ a b. same_name a.now b.now) (λ k. same_name x k.now) m n w
    → number_in (entries_of n) ≡ update same_name (number_in (entries_of m)) x w
held_updates x m n w h = λ j y.
    (held y n ∙ hash_map_updates_str x m n w h y ∙ ap (λ o. cond (same_name x y) w o) (sym (held y m))) j

-- where the name has no number yet, it is given one
pub first_new : (t : Table) (x : Name) (k : ℕ) → is_some (t x) ≡ false → with_first t x k ≡ update same_name t x (Some k)
first_new t x k h = rw h refl

-- the count of one name is another
pub count_updated : (t s : Table) (x : Name) (n : ℕ) → s ≡ update same_name t x (Some n)
    → (f : ℕ → ℕ) → n ≡ f (count_at t x) → (y : Name) → count_at s y ≡ (if same_name x y then f (count_at t y) else count_at t y)
count_updated t s x n e f h y = ap (λ (g : Table). count_at g y) e ∙ count_at-update same_name t x n y ∙ by (same_name x y) refl
  where
    by : (b : Bool) → same_name x y ≡ b → cond b n (count_at t y) ≡ (if b then f (count_at t y) else count_at t y)
    by true g = h ∙ ap (λ z. f (count_at t z)) (same x y g)
    by false g = refl

-- a name that isn't there is counted 0 times, also with one less
pub none_less : (t : Table) (x : Name) → None ≡ t x → (y : Name)
    → count_at t y ≡ (if same_name x y then count_at t y - 1 else count_at t y)
none_less t x e y = by (same_name x y) refl
  where
    by : (b : Bool) → same_name x y ≡ b → count_at t y ≡ (if b then count_at t y - 1 else count_at t y)
    by true g =
        let none : count_at t y ≡ 0 = ap (λ o. unwrap_or o 0) (sym (e ∙ ap t (same x y g))) in
        omega arith
    by false g = refl
