-- Variables beside whether they have values.
use Rattle.std.proofs.Common.{◌≡◌, ℕ, zero, suc, ◌+◌, ◌-◌, ◌<◌, ◌≤◌, leb, Bool, true, false, List, [], ◌∷◌, ◌++◌, length, map, take, set, Option, Some, None, Result, Ok, Err, ◌⊎◌, inl, inr, refl, sym, ap, ap₂, ◌∙◌, subst, arith, true≢false}
use Rattle.std.specs.Prelude.{if◌then◌else◌, is_err, OnOk}
use Rattle.std.proofs.lemmas.Bool.Decides.{leb_tells}
use Rattle.std.proofs.lemmas.List.{length-append, length-map, length-take-le, map-append, map-id, take_all}
use Rattle.std.specs.List.{slice_get}
use Rattle.std.specs.Option.{is_some, option_and_then, option_map, unwrap_or}
use Rattle.type_rules.specs.Names.{Name, same_name}
use Rattle.type_rules.specs.Accesses.{Var, find_var}
use Rattle.type_rules.specs.Flow.{give, with_value}
use Rattle.type_tables.specs.Flags.{flag_at, merged}
use Rattle.type_tables.specs.Tables.{Entries, IsIndexOf, number_in, place_from, with_first, without}
use Rattle.type_tables.specs.Variables.{ArePlaces, vars_seen, known_names, known_view, set_flags, with_flags, and_flags, give_last}
use Rattle.type_tables.specs.declared.vars.Known.{Known}
use Rattle.type_tables.proofs.Places.{first_seen, indexed_pop, indexed_push}

pub length_seen : (ks : List Known) (bs : List Bool) → length bs ≡ length ks → length (vars_seen ks bs) ≡ length ks
length_seen [] bs h = refl
length_seen (k ∷ ks) [] h = h
length_seen (k ∷ ks) (b ∷ bs) h = ap suc (length_seen ks bs (omega arith))

pub names_seen : (ks : List Known) (bs : List Bool) → length bs ≡ length ks → map (λ v. v.name) (vars_seen ks bs) ≡ known_names ks
names_seen [] bs h = refl
names_seen (k ∷ ks) [] h = absurd (omega arith)
names_seen (k ∷ ks) (b ∷ bs) h = ap (λ names. k.name.now ∷ names) (names_seen ks bs (omega arith))

is_found : (k : ℕ) (vs : List Var) (x : Name) → is_some (place_from k (map (λ v. v.name) vs) x) ≡ is_some (find_var vs x)
is_found k [] x = refl
is_found k (v ∷ vs) x = by (same_name v.name x) (is_found (k + 1) vs x)
  where
    by : (b : Bool) → is_some (place_from (k + 1) (map (λ v. v.name) vs) x) ≡ is_some (find_var vs x)
        → is_some (if b then Some k else place_from (k + 1) (map (λ v. v.name) vs) x)
        ≡ is_some (if b then Some v else find_var vs x)
    by true later = refl
    by false later = later

pub is_seen : (ks : List Known) (bs : List Bool) (x : Name) → length bs ≡ length ks
    → is_some (place_from 0 (known_names ks) x) ≡ is_some (find_var (vars_seen ks bs) x)
is_seen ks bs x h = ap (λ names. is_some (place_from 0 names x)) (sym (names_seen ks bs h)) ∙ is_found 0 (vars_seen ks bs) x

get_seen : (ks : List Known) (bs : List Bool) (p : ℕ) → length bs ≡ length ks
    → option_map (λ k. known_view k (flag_at bs p)) (slice_get ks p) ≡ slice_get (vars_seen ks bs) p
get_seen [] bs p h = refl
get_seen (k ∷ ks) [] p h = absurd (omega arith)
get_seen (k ∷ ks) (b ∷ bs) zero h = refl
get_seen (k ∷ ks) (b ∷ bs) (suc p) h = get_seen ks bs p (omega arith)

itself : (o : Option Var) → option_map (λ v. v) o ≡ o
itself None = refl
itself (Some v) = refl

find_seen : (ks : List Known) (bs : List Bool) (x : Name) → length bs ≡ length ks
    → option_and_then (λ p. option_map (λ k. known_view k (flag_at bs p)) (slice_get ks p)) (place_from 0 (known_names ks) x)
    ≡ find_var (vars_seen ks bs) x
find_seen ks bs x h =
    ap (λ (f : ℕ → Option Var). option_and_then f (place_from 0 (known_names ks) x)) (λ i p. get_seen ks bs p h i)
    ∙ ap (λ names. option_and_then (slice_get (vars_seen ks bs)) (place_from 0 names x)) (sym (names_seen ks bs h))
    ∙ sym (itself (option_and_then (slice_get (vars_seen ks bs)) (place_from 0 (map (λ v. v.name) (vars_seen ks bs)) x)))
    ∙ first_seen (λ v. v.name) (λ v. v) find_var (λ x. refl) (λ v vs x. refl) (vars_seen ks bs) x
    ∙ ap (λ vs. find_var vs x) (map-id (vars_seen ks bs))

pub unplaced : (ks : List Known) (bs : List Bool) (x : Name) → length bs ≡ length ks
    → None ≡ place_from 0 (known_names ks) x → None ≡ find_var (vars_seen ks bs) x
unplaced ks bs x h e =
    ap (option_and_then (λ p. option_map (λ k. known_view k (flag_at bs p)) (slice_get ks p))) e ∙ find_seen ks bs x h

pub missing : (ks : List Known) (bs : List Bool) (x : Name) (p : ℕ) → length bs ≡ length ks
    → Some p ≡ place_from 0 (known_names ks) x → slice_get ks p ≡ None → None ≡ find_var (vars_seen ks bs) x
missing ks bs x p h e g =
    ap (option_map (λ k. known_view k (flag_at bs p))) (sym g)
    ∙ ap (option_and_then (λ p. option_map (λ k. known_view k (flag_at bs p)) (slice_get ks p))) e ∙ find_seen ks bs x h

pub placed : (ks : List Known) (bs : List Bool) (x : Name) (p : ℕ) (k : Known) (b : Bool) → length bs ≡ length ks
    → Some p ≡ place_from 0 (known_names ks) x → slice_get ks p ≡ Some k → b ≡ flag_at bs p
    → Some (known_view k b) ≡ find_var (vars_seen ks bs) x
placed ks bs x p k b h e g f =
    ap (λ b. Some (known_view k b)) f ∙ ap (option_map (λ k. known_view k (flag_at bs p))) (sym g)
    ∙ ap (option_and_then (λ p. option_map (λ k. known_view k (flag_at bs p)) (slice_get ks p))) e ∙ find_seen ks bs x h

-- # Which have values

pub push_seen : (ks : List Known) (bs : List Bool) (k : Known) (b : Bool) → length bs ≡ length ks
    → vars_seen (ks ++ k ∷ []) (bs ++ b ∷ []) ≡ vars_seen ks bs ++ known_view k b ∷ []
push_seen [] [] k b h = refl
push_seen [] (c ∷ bs) k b h = absurd (omega arith)
push_seen (j ∷ ks) [] k b h = absurd (omega arith)
push_seen (j ∷ ks) (c ∷ bs) k b h = ap (λ vs. known_view j c ∷ vs) (push_seen ks bs k b (omega arith))

-- the last is taken out
pop_seen : (ks : List Known) (k : Known) (bs : List Bool) → length bs ≡ length ks + 1
    → vars_seen ks (take (length ks) bs) ≡ take (length ks) (vars_seen (ks ++ k ∷ []) bs)
pop_seen [] k bs h = refl
pop_seen (j ∷ ks) k [] h = absurd (omega arith)
pop_seen (j ∷ ks) k (b ∷ bs) h = ap (λ vs. known_view j b ∷ vs) (pop_seen ks k bs (omega arith))

pub popped_seen : (items ks : List Known) (k : Known) (bs : List Bool) (n : ℕ) → items ≡ ks ++ k ∷ [] → length bs ≡ length items
    → n ≡ length ks → vars_seen ks (take n bs) ≡ take (length (vars_seen items bs) - 1) (vars_seen items bs)
popped_seen items ks k bs n e h m =
    let long : length bs ≡ length ks + 1 = h ∙ ap length e ∙ length-append ks (k ∷ []) in
    let last : length ks ≡ length (vars_seen items bs) - 1 = omega (arith, length_seen items bs h) in
    ap (λ n. vars_seen ks (take n bs)) m ∙ pop_seen ks k bs long
    ∙ ap₂ (λ n items. take n (vars_seen items bs)) last (sym e)

pub flags_seen : (ks : List Known) (bs : List Bool) → length bs ≡ length ks → bs ≡ set_flags (vars_seen ks bs)
flags_seen [] [] h = refl
flags_seen [] (b ∷ bs) h = absurd (omega arith)
flags_seen (k ∷ ks) [] h = absurd (omega arith)
flags_seen (k ∷ ks) (b ∷ bs) h = ap (λ cs. b ∷ cs) (flags_seen ks bs (omega arith))

pub restore_seen : (ks : List Known) (bs cs : List Bool) → vars_seen ks (merged false bs cs) ≡ with_flags (vars_seen ks bs) cs
restore_seen [] bs cs = refl
restore_seen (k ∷ ks) [] cs = refl
restore_seen (k ∷ ks) (b ∷ bs) [] = refl
restore_seen (k ∷ ks) (b ∷ bs) (c ∷ cs) = ap (λ vs. known_view k c ∷ vs) (restore_seen ks bs cs)

pub join_seen : (ks : List Known) (bs cs : List Bool) → vars_seen ks (merged true bs cs) ≡ and_flags (vars_seen ks bs) cs
join_seen [] bs cs = refl
join_seen (k ∷ ks) [] cs = refl
join_seen (k ∷ ks) (b ∷ bs) [] = refl
join_seen (k ∷ ks) (true ∷ bs) (c ∷ cs) = ap (λ vs. known_view k c ∷ vs) (join_seen ks bs cs)
join_seen (k ∷ ks) (false ∷ bs) (c ∷ cs) = ap (λ vs. known_view k false ∷ vs) (join_seen ks bs cs)

pub length_merged : (both : Bool) (bs cs : List Bool) → length (merged both bs cs) ≡ length bs
length_merged both [] cs = refl
length_merged both (b ∷ bs) [] = refl
length_merged both (b ∷ bs) (c ∷ cs) = ap suc (length_merged both bs cs)

pub fill_seen : (ks : List Known) (bs : List Bool) → vars_seen ks (map (λ flag. true) bs) ≡ map with_value (vars_seen ks bs)
fill_seen [] bs = refl
fill_seen (k ∷ ks) [] = refl
fill_seen (k ∷ ks) (b ∷ bs) = ap (λ vs. known_view k true ∷ vs) (fill_seen ks bs)

place_after : (k : ℕ) (names : List Name) (x : Name) (p : ℕ) → place_from k names x ≡ Some p → k < p + 1
place_after k [] x p h = absurd (true≢false (sym (ap is_some h)))
place_after k (y ∷ names) x p h = at (same_name y x) (place_after (k + 1) names x p) h
  where
    at : (b : Bool) → (place_from (k + 1) names x ≡ Some p → k + 1 < p + 1)
        → (if b then Some k else place_from (k + 1) names x) ≡ Some p → k < p + 1
    at true later e = let here : k ≡ p = ap (λ o. unwrap_or o k) e in omega arith
    at false later e = let behind = later e in omega arith

-- the first of a name has a value now
pub give_seen : (k : ℕ) (ks : List Known) (bs : List Bool) (x : Name) (p j : ℕ) → k + j ≡ p
    → place_from k (known_names ks) x ≡ Some p → vars_seen ks (set bs j true) ≡ give x (vars_seen ks bs)
give_seen k [] bs x p j e h = refl
give_seen k (v ∷ ks) [] x p j e h = refl
give_seen k (v ∷ ks) (b ∷ bs) x p j e h = by (same_name v.name.now x) j e (give_seen (k + 1) ks bs x p) h
  where
    by : (q : Bool) (j : ℕ) → k + j ≡ p
        → ((j : ℕ) → k + 1 + j ≡ p → place_from (k + 1) (known_names ks) x ≡ Some p
        → vars_seen ks (set bs j true) ≡ give x (vars_seen ks bs))
        → (if q then Some k else place_from (k + 1) (known_names ks) x) ≡ Some p
        → vars_seen (v ∷ ks) (set (b ∷ bs) j true)
        ≡ (if q then known_view v true ∷ vars_seen ks bs else known_view v b ∷ give x (vars_seen ks bs))
    by true zero e later h = refl
    by true (suc j) e later h = let here : k ≡ p = ap (λ o. unwrap_or o k) h in absurd (omega arith)
    by false zero e later h = let behind = place_after (k + 1) (known_names ks) x p h in absurd (omega arith)
    by false (suc j) e later h = ap (λ vs. known_view v b ∷ vs) (later j (omega arith) h)

none_given : (k : ℕ) (vs : List Var) (x : Name) → place_from k (map (λ v. v.name) vs) x ≡ None → vs ≡ give x vs
none_given k [] x h = refl
none_given k (v ∷ vs) x h = by (same_name v.name x) (none_given (k + 1) vs x) h
  where
    by : (b : Bool) → (place_from (k + 1) (map (λ v. v.name) vs) x ≡ None → vs ≡ give x vs)
        → (if b then Some k else place_from (k + 1) (map (λ v. v.name) vs) x) ≡ None
        → v ∷ vs ≡ (if b then with_value v ∷ vs else v ∷ give x vs)
    by true later e = absurd (true≢false (ap is_some e))
    by false later e = ap (λ ws. v ∷ ws) (later e)

pub none_seen : (ks : List Known) (bs : List Bool) (x : Name) → length bs ≡ length ks
    → place_from 0 (known_names ks) x ≡ None → vars_seen ks bs ≡ give x (vars_seen ks bs)
none_seen ks bs x h e = none_given 0 (vars_seen ks bs) x (ap (λ names. place_from 0 names x) (names_seen ks bs h) ∙ e)

pub last_seen : (ks : List Known) (bs : List Bool) (p : ℕ) → length bs ≡ length ks → length ks ≡ p + 1
    → vars_seen ks (set bs p true) ≡ give_last (vars_seen ks bs)
last_seen [] bs p h e = absurd (omega arith)
last_seen (k ∷ ks) [] p h e = absurd (omega arith)
last_seen (k ∷ []) (b ∷ []) zero h e = refl
last_seen (k ∷ []) (b ∷ c ∷ bs) p h e = absurd (omega arith)
last_seen (k ∷ []) (b ∷ []) (suc p) h e = absurd (omega arith)
last_seen (k ∷ j ∷ ks) (b ∷ []) p h e = absurd (omega arith)
last_seen (k ∷ j ∷ ks) (b ∷ c ∷ bs) zero h e = absurd (omega arith)
last_seen (k ∷ j ∷ ks) (b ∷ c ∷ bs) (suc p) h e =
    ap (λ vs. known_view k b ∷ vs) (last_seen (j ∷ ks) (c ∷ bs) p (omega arith) (omega arith))

-- # The table of places

pub pushed : (items : List Known) (k : Known) (bs : List Bool) (b : Bool) (places after : Entries) (n : ℕ)
    → ArePlaces items bs places → n ≡ length items → n < 4294967296
    → number_in after ≡ with_first (number_in places) k.name.now n → ArePlaces (items ++ k ∷ []) (bs ++ b ∷ []) after
pushed items k bs b places after n are e few given = record {
  found = subst (IsIndexOf after) (sym (map-append (λ (v : Known). v.name.now) items (k ∷ [])))
      (indexed_push (known_names items) k.name.now places after n are.found (e ∙ sym (length-map items (λ v. v.name.now))) given);
  long = length-append bs (b ∷ []) ∙ ap (λ n. n + 1) are.long ∙ sym (length-append items (k ∷ []));
  few = let more = length-append items (k ∷ []) in omega arith;
}

pub popped : (items ks : List Known) (k : Known) (bs : List Bool) (places after : Entries) (n : ℕ)
    → ArePlaces items bs places → items ≡ ks ++ k ∷ [] → n ≡ length ks
    → number_in after ≡ without (number_in places) k.name.now n → ArePlaces ks (take n bs) after
popped items ks k bs places after n are e m taken =
    let one_less : length items ≡ length ks + 1 = ap length e ∙ length-append ks (k ∷ []) in
    record {
      found =
          indexed_pop (known_names ks) k.name.now places after n
          (subst (IsIndexOf places) (ap known_names e ∙ map-append (λ (v : Known). v.name.now) ks (k ∷ [])) are.found)
          (m ∙ sym (length-map ks (λ v. v.name.now))) taken;
      long = let long = are.long in length-take-le n bs (omega arith) ∙ m;
      few = let few = are.few in omega arith;
    }

-- # Results and loops

pub not_failed : {X E P : Type 0} (r : Result X E) → false ≡ is_err r → OnOk r P → P
not_failed (Ok x) h p = p
not_failed (Err e) h p = absurd (true≢false (sym h))

pub cut : (vs : List Var) (gone len : ℕ) → gone ≡ length vs - len → take (length vs - gone) vs ≡ take len vs
cut vs gone len e = by (leb_tells len (length vs))
  where
    by : ((leb len (length vs) ≡ true) × (len ≤ length vs)) ⊎ ((leb len (length vs) ≡ false) × (length vs < len))
        → take (length vs - gone) vs ≡ take len vs
    by (inl h) = let within = h.1 in ap (λ n. take n vs) (omega arith)
    by (inr h) = let past = h.1 in take_all (length vs - gone) vs (omega arith) ∙ sym (take_all len vs (omega arith))
