-- Datatypes that come to those that are there.
use Rattle.std.proofs.Common.{◌≡◌, ℕ, suc, ◌+◌, Bool, true, false, ◌||◌, cond, ◌<◌, List, [], ◌∷◌, ◌++◌, length, map, take, get_or, Some, None, refl, sym, ap, subst, ◌∙◌, arith}
use Rattle.std.specs.Prelude.{flat_map}
use Rattle.std.proofs.lemmas.Bool.{and_from, and_parts, eq-eqb, eqb-true, or_left}
use Rattle.std.proofs.lemmas.Grind.{flat_map-append}
use Rattle.std.proofs.lemmas.List.{append-nil, take_more}
use Rattle.std.proofs.lemmas.Option.{same_Some}
use Rattle.type_rules.specs.declared.kind.Kind.{Kind}
use Rattle.type_rules.specs.declared.kind.Base.{Base}
use Rattle.type_rules.specs.declared.kind.Base.TheVariants as base
use Rattle.type_rules.specs.Names.{Names}
use Rattle.type_rules.specs.Kinds.{same_base}
use Rattle.desugaring.specs.Appearances.{maybes_of, same_kind}
use Rattle.text_kinds.specs.Numbered.{Numbered, has_kind, numbered, with_each, with_kind, with_kinds}
use Rattle.text_kinds.specs.means.Rows.{Adds, are_there, place_of}

-- # One type

base_one : (a b : Base) → same_base a b ≡ true → a ≡ b
base_one base.Bool base.Bool e = refl
base_one base.Int base.Int e = refl
base_one base.Text base.Text e = refl
base_one (base.Declared a) (base.Declared b) e = ap base.Declared (eqb-true a b e)
base_one base.Call base.Call e = refl
base_one base.Invocation base.Invocation e = refl
base_one base.Operation base.Operation e = refl
base_one base.Info base.Info e = refl
base_one base.Outcome base.Outcome e = refl
base_one _ _ e = absurd cc

pub kind_one : (a b : Kind) → same_kind a b ≡ true → a ≡ b
kind_one a b e =
    let parts = and_parts (same_base a.base b.base) _ e in
    ap (λ x. record { base = x; maybes = a.maybes }) (base_one _ _ parts.0)
    ∙ ap (λ m. record { base = b.base; maybes = m }) (eqb-true a.maybes b.maybes parts.1)

base_self : (b : Base) (place : ℕ) → place_of b ≡ Some place → same_base b b ≡ true
base_self base.Bool p e = refl
base_self base.Int p e = refl
base_self base.Text p e = refl
base_self (base.Declared a) p e = eq-eqb a a refl
base_self base.Call p e = refl
base_self base.Invocation p e = refl
base_self base.Operation p e = refl
base_self base.Info p e = refl
base_self base.Outcome p e = refl
base_self base.Unknown p e = absurd cc
base_self base.Open p e = absurd cc

pub kind_self : (b : Base) (many place : ℕ) → place_of b ≡ Some place
    → same_kind (record { base = b; maybes = many }) (record { base = b; maybes = many }) ≡ true
kind_self b many place e = and_from _ _ (base_self b place e) (eq-eqb many many refl)

pub no_place : (b c : Base) → place_of b ≡ None → same_base b c ≡ false
no_place base.Unknown c e = refl
no_place base.Open c e = refl
no_place _ c e = absurd cc

pub place_one : (b c : Base) (p : ℕ) → place_of b ≡ Some p → place_of c ≡ Some p → b ≡ c
place_one base.Bool base.Bool p e h = refl
place_one base.Int base.Int p e h = refl
place_one base.Text base.Text p e h = refl
place_one base.Call base.Call p e h = refl
place_one base.Invocation base.Invocation p e h = refl
place_one base.Operation base.Operation p e h = refl
place_one base.Info base.Info p e h = refl
place_one base.Outcome base.Outcome p e h = refl
place_one (base.Declared a) (base.Declared b) p e h =
    let one = same_Some _ _ e in
    let other = same_Some _ _ h in
    let same : a ≡ b = omega arith in
    ap base.Declared same
place_one base.Unknown c p e h = absurd cc
place_one base.Open c p e h = absurd cc
place_one b base.Unknown p e h = absurd cc
place_one b base.Open p e h = absurd cc
place_one _ _ p e h = absurd (omega (arith, same_Some _ _ e, same_Some _ _ h))

-- # What is there stays

has_push : (xs : List Kind) (j k : Kind) → has_kind xs k ≡ true → has_kind (xs ++ j ∷ []) k ≡ true
has_push [] j k e = absurd cc
has_push (x ∷ xs) j k e = by (same_kind k x) (has_push xs j k) e
  where
    by : (b : Bool) → (has_kind xs k ≡ true → has_kind (xs ++ j ∷ []) k ≡ true) → (b || has_kind xs k) ≡ true
        → (b || has_kind (xs ++ j ∷ []) k) ≡ true
    by true later e = refl
    by false later e = later e

pub has_last : (xs : List Kind) (k : Kind) → same_kind k k ≡ true → has_kind (xs ++ k ∷ []) k ≡ true
has_last [] k e = or_left (same_kind k k) false e
has_last (x ∷ xs) k e = by (same_kind k x) (has_last xs k e)
  where
    by : (b : Bool) → has_kind (xs ++ k ∷ []) k ≡ true → (b || has_kind (xs ++ k ∷ []) k) ≡ true
    by true later = refl
    by false later = later

pub not_last : (xs : List Kind) (j k : Kind) → same_kind k j ≡ false → has_kind (xs ++ j ∷ []) k ≡ has_kind xs k
not_last [] j k e = ap (λ b. b || false) e
not_last (x ∷ xs) j k e = ap (λ b. same_kind k x || b) (not_last xs j k e)

has_one : (xs : List Kind) (j k : Kind) → has_kind xs k ≡ true → has_kind (with_kind xs j) k ≡ true
has_one xs j k e = by (has_kind xs j)
  where
    by : (b : Bool) → has_kind (cond b xs (xs ++ j ∷ [])) k ≡ true
    by true = e
    by false = has_push xs j k e

has_each : (js xs : List Kind) (k : Kind) → has_kind xs k ≡ true → has_kind (with_each xs js) k ≡ true
has_each [] xs k e = e
has_each (j ∷ js) xs k e = has_each js (with_kind xs j) k (has_one xs j k e)

pub there_after : (js xs ks : List Kind) → are_there xs ks ≡ true → are_there (with_each xs js) ks ≡ true
there_after js xs [] e = refl
there_after js xs (k ∷ ks) e =
    let parts = and_parts (has_kind xs k) (are_there xs ks) e in
    and_from _ _ (has_each js xs k parts.0) (there_after js xs ks parts.1)

pub there_push : (xs : List Kind) (j : Kind) (ks : List Kind) → are_there xs ks ≡ true → are_there (xs ++ j ∷ []) ks ≡ true
there_push xs j [] e = refl
there_push xs j (k ∷ ks) e =
    let parts = and_parts (has_kind xs k) (are_there xs ks) e in
    and_from _ _ (has_push xs j k parts.0) (there_push xs j ks parts.1)

pub there_both : (xs ks js : List Kind) → are_there xs ks ≡ true → are_there xs js ≡ true → are_there xs (ks ++ js) ≡ true
there_both xs [] js a b = b
there_both xs (k ∷ ks) js a b =
    let parts = and_parts (has_kind xs k) (are_there xs ks) a in
    and_from _ _ parts.0 (there_both xs ks js parts.1 b)

nothing_new : (ks xs : List Kind) → are_there xs ks ≡ true → with_each xs ks ≡ xs
nothing_new [] xs e = refl
nothing_new (k ∷ ks) xs e =
    let parts = and_parts (has_kind xs k) (are_there xs ks) e in
    ap (λ b. with_each (cond b xs (xs ++ k ∷ [])) ks) parts.0 ∙ nothing_new ks xs parts.1

pub each_both : (ks js xs : List Kind) → with_each xs (ks ++ js) ≡ with_each (with_each xs ks) js
each_both [] js xs = refl
each_both (k ∷ ks) js xs = each_both ks js (with_kind xs k)

-- # What is added

pub adds_there : (ks : List Kind) (t : Numbered) → are_there t.kinds ks ≡ true → Adds ks t t
adds_there ks t e = record { is = ap (numbered t.names) (sym (nothing_new ks t.kinds e)); there = e }

pub adds_none : (t : Numbered) → Adds [] t t
adds_none t = adds_there [] t refl

pub adds_both : (ks js : List Kind) (a b c : Numbered) → Adds ks a b → Adds js b c → Adds (ks ++ js) a c
adds_both ks js a b c one other =
    let at_b : b.kinds ≡ with_each a.kinds ks = ap (λ (t : Numbered). t.kinds) one.is in
    let names : b.names ≡ a.names = ap (λ (t : Numbered). t.names) one.is in
    let at_c : c.kinds ≡ with_each b.kinds js = ap (λ (t : Numbered). t.kinds) other.is in
    record {
      is = other.is ∙ ap (λ t. with_kinds js t) one.is ∙ ap (numbered a.names) (sym (each_both ks js a.kinds));
      there = there_both c.kinds ks js
          (subst (λ xs. are_there xs ks ≡ true) (sym at_c) (there_after js b.kinds ks one.there)) other.there;
    }

pub adds_kind : (k : Kind) (t new : Numbered) → has_kind t.kinds k ≡ false → same_kind k k ≡ true
    → new ≡ numbered t.names (t.kinds ++ k ∷ []) → Adds (k ∷ []) t new
adds_kind k t new none self is =
    let there : has_kind new.kinds k ≡ true =
    ap (λ (t : Numbered). has_kind t.kinds k) is ∙ has_last t.kinds k self in
    record {
      is = is ∙ ap (λ b. numbered t.names (cond b t.kinds (t.kinds ++ k ∷ []))) (sym none);
      there = and_from _ _ there refl;
    }

-- `Maybe` of that, too
pub adds_maybe : (b : Base) (m many : ℕ) (start old new : Numbered) → many ≡ m + 1
    → Adds (maybes_of b m) start old → Adds (record { base = b; maybes = m + 1 } ∷ []) old new → Adds (maybes_of b many) start
    new
adds_maybe b m many start old new e done next =
    let plus : m + 1 ≡ suc m = omega arith in
    let one : Adds (record { base = b; maybes = suc m } ∷ []) old new =
    subst (λ x. Adds (record { base = b; maybes = x } ∷ []) old new) plus next in
    subst (λ x. Adds (maybes_of b x) start new) (sym (e ∙ plus)) (adds_both (maybes_of b m) _ start old new done one)

-- the next of a list
pub adds_next : {X : Type 0} (f : Names → X → List Kind) (xs : List X) (i : ℕ) (x : X) (start old new : Numbered)
    → i < length xs → x ≡ get_or xs i x
    → Adds (flat_map (f start.names) (take i xs)) start old → Adds (f old.names x) old new
    → Adds (flat_map (f start.names) (take (i + 1) xs)) start new
adds_next f xs i x start old new h e done next =
    let names : old.names ≡ start.names = ap (λ (t : Numbered). t.names) done.is in
    let one : Adds (f start.names x) old new = subst (λ n. Adds (f n x) old new) names next in
    let all : flat_map (f start.names) (take (i + 1) xs) ≡ flat_map (f start.names) (take i xs) ++ f start.names x =
    ap (flat_map (f start.names)) (take_more xs i x h ∙ ap (λ y. take i xs ++ y ∷ []) (sym e))
    ∙ flat_map-append (f start.names) (take i xs) (x ∷ [])
    ∙ ap (λ z. flat_map (f start.names) (take i xs) ++ z) (append-nil (f start.names x)) in
    subst (λ ks. Adds ks start new) (sym all) (adds_both (flat_map (f start.names) (take i xs)) (f start.names x) start old new
    done one)

pub flat_two : {X Y Z : Type 0} (g : Z → List Kind) (h : Y → Z) (v : X → Y) (xs : List X) → flat_map g (map h (map v xs))
    ≡ flat_map (λ x. g (h (v x))) xs
flat_two g h v [] = refl
flat_two g h v (x ∷ xs) = ap (λ z. g (h (v x)) ++ z) (flat_two g h v xs)

pub flat_flat : {X Y : Type 0} (g : Kind → List Kind) (k : Y → List Kind) (v : X → Y) (xs : List X)
    → flat_map g (flat_map k (map v xs)) ≡ flat_map (λ x. flat_map g (k (v x))) xs
flat_flat g k v [] = refl
flat_flat g k v (x ∷ xs) =
    flat_map-append g (k (v x)) (flat_map k (map v xs)) ∙ ap (λ z. flat_map g (k (v x)) ++ z) (flat_flat g k v xs)
