-- How walks go on behind one another.
use Rattle.std.proofs.Common.{◌≡◌, ℕ, Bool, true, false, not, ◌||◌, nat_eq, List, [], ◌∷◌, ◌++◌, Option, Some, None, refl, sym, ap, ap₂, ◌∙◌, subst, append_assoc, append-nil}
use Rattle.std.specs.Prelude.{if◌then◌else◌}
use Rattle.std.proofs.lemmas.List.Folds.{list_any-append}
use Rattle.type_rules.specs.declared.fault.Fault.{Fault}
use Rattle.rp_grammar.specs.Trees.{AccessTree, ExprTree, ExprForm}
use Rattle.type_rules.specs.Names.{Name, Names}
use Rattle.type_rules.specs.Accesses.{access_of}
use Rattle.type_rules.specs.Sites.{Scope, Site}
use Rattle.type_rules.specs.Flow.{Sight}
use Rattle.type_rules.specs.Faults.{first, judged, sooner}
use Rattle.type_rules.specs.TextSites.{is_number_of, used, used_at, used_by, used_in}
use Rattle.type_rules.proofs.Order.{first_append, sooner_none}
use Rattle.type_tables.specs.Counts.{IsCounted}
use Rattle.type_tables.specs.Flags.{flag_at, with_flag}
use Rattle.type_tables.specs.Marks.{with_marks}
use Rattle.type_faults.specs.declared.walk.Walk.{Walk}
use Rattle.type_faults.specs.Walks.{Follows, Marks, Stand, Turns, Walks, accessed_in, names_at, quiet_at, scope_at, seeing, stand_of}

-- # Marks

pub used_append : (n : Names) (a b : List Site) → used n (a ++ b) ≡ used n a ++ used n b
used_append n [] b = refl
used_append n (s ∷ a) b = ap (λ l. used_at n s ++ l) (used_append n a b) ∙ sym (append_assoc (used_at n s) (used n a) (used n b))

pub none_marked : (made : Bool) (m : ℕ → Bool) → with_marks made [] m ≡ m
none_marked made m = λ j k. by made (m k) j
  where
    by : (made b : Bool) → (b || (if made then false else false)) ≡ b
    by true true = refl
    by true false = refl
    by false true = refl
    by false false = refl

pub marked_append : (made : Bool) (a b : List ℕ) (m : ℕ → Bool) → with_marks made (a ++ b) m ≡ with_marks made b (with_marks made a m)
marked_append made a b m = λ j k. at k j
  where
    by : (made m x y : Bool) → (m || (if made then (x || y) else false)) ≡ ((m || (if made then x else false)) || (if made then y else false))
    by made true x y = refl
    by true false x y = refl
    by false false x y = refl

    at : (k : ℕ) → with_marks made (a ++ b) m k ≡ with_marks made b (with_marks made a m) k
    at k = ap (λ x. m k || (if made then x else false)) (list_any-append (nat_eq k) a b) ∙ by made (m k) (is_number_of k a) (is_number_of k b)

-- where marks are made, one more
pub one_marked : (words : Bool) (u v : ℕ → Bool) (k : ℕ) → words ≡ false → v ≡ with_flag u k → v ≡ with_marks (not words) (k ∷ []) u
one_marked words u v k e f = λ j i. at i j
  where
    at : (i : ℕ) → v i ≡ with_marks (not words) (k ∷ []) u i
    at i =
        ap (λ (v : ℕ → Bool). v i) f ∙ ap (λ b. u i || b) (or_false (nat_eq i k))
        ∙ ap (λ b. u i || (if not b then is_number_of i (k ∷ []) else false)) (sym e)
      where
        or_false : (b : Bool) → b ≡ (b || false)
        or_false true = refl
        or_false false = refl

-- where they aren't, none
pub kept_marks : (words : Bool) (u : ℕ → Bool) (l : List ℕ) → words ≡ true → u ≡ with_marks (not words) l u
kept_marks words u l e = λ j i. at i j
  where
    at : (i : ℕ) → u i ≡ with_marks (not words) l u i
    at i = or_false (u i) ∙ ap (λ b. u i || (if not b then is_number_of i l else false)) (sym e)
      where
        or_false : (b : Bool) → b ≡ (b || false)
        or_false true = refl
        or_false false = refl

pub marks_same : {a b : Walk} {numbers others : List ℕ} → numbers ≡ others → Marks a b numbers → Marks a b others
marks_same {a} {b} e m = subst (Marks a b) e m

-- the queries of an access, if there is one
abbrev pub used_of : Names → Scope → Option AccessTree → List ℕ
used_of n sc None = []
used_of n sc (Some a) = used_by (access_of n sc.vars a)

pub used_in_access : (n : Names) (sc : Scope) (e : ExprTree) → used_of n sc (accessed_in e) ≡ used_in n sc e
used_in_access n sc (ExprTree.node at (ExprForm.implies a b)) = refl
used_in_access n sc (ExprTree.node at (ExprForm.or es)) = refl
used_in_access n sc (ExprTree.node at (ExprForm.and es)) = refl
used_in_access n sc (ExprTree.node at (ExprForm.not e)) = refl
used_in_access n sc (ExprTree.node at (ExprForm.forall p e)) = refl
used_in_access n sc (ExprTree.node at (ExprForm.exists p e)) = refl
used_in_access n sc (ExprTree.node at (ExprForm.compare c a b)) = refl
used_in_access n sc (ExprTree.node at (ExprForm.plus a b)) = refl
used_in_access n sc (ExprTree.node at (ExprForm.minus a b)) = refl
used_in_access n sc (ExprTree.node at (ExprForm.int i)) = refl
used_in_access n sc (ExprTree.node at (ExprForm.str bytes)) = refl
used_in_access n sc (ExprTree.node at (ExprForm.truth b)) = refl
used_in_access n sc (ExprTree.node at ExprForm.none_word) = refl
used_in_access n sc (ExprTree.node at (ExprForm.some_of e)) = refl
used_in_access n sc (ExprTree.node at ExprForm.unreturned) = refl
used_in_access n sc (ExprTree.node at ExprForm.tx) = refl
used_in_access n sc (ExprTree.node at (ExprForm.call w es)) = refl
used_in_access n sc (ExprTree.node at (ExprForm.match e arms)) = refl
used_in_access n sc (ExprTree.node at (ExprForm.access a)) = refl

-- # One place

-- what is judged in a scope that is the same
pub judged_at : {n m : Names} {sc sd : Scope} {f : Option Fault} (site : Scope → Site) → n ≡ m → sc ≡ sd → f ≡ judged n (site sc)
    → f ≡ judged m (site sd)
judged_at site a b e = e ∙ ap₂ (λ n sc. judged n (site sc)) a b

-- an expression or a statement itself, whose query is marked
pub placed : {a b : Walk} {f : Option Fault} {later : List Name} {numbers : List ℕ} (site : Stand → Site)
    → f ≡ judged (names_at a) (site (stand_of a)) → Marks a b numbers
    → used_at (names_at a) (site (stand_of a)) ≡ numbers → IsCounted a.later later
    → Walks later a b f (λ p. site p ∷ []) (λ p. p.sight)
placed {a} {b} {f} {later} {numbers} site e m same counted = record {
  fault_is = e ∙ sym (sooner_none (judged (names_at a) (site (stand_of a))));
  marks = m.marked ∙ ap (λ l. with_marks (not a.words) l (flag_at a.used)) (sym (append-nil (used_at (names_at a) (site (stand_of a))) ∙ same));
  stands = m.stands;
  counted = subst (λ entries. IsCounted entries later) (sym m.later) counted;
}

-- places that use no query, where the walk stays
pub here : {a : Walk} {f : Option Fault} {later : List Name} (sites : Stand → List Site) → f ≡ first (names_at a) (sites (stand_of a))
    → used (names_at a) (sites (stand_of a)) ≡ [] → IsCounted a.later later → Walks later a a f sites (λ p. p.sight)
here {a} {f} {later} sites e unused counted = record {
  fault_is = e;
  marks = sym (ap (λ l. with_marks (not a.words) l (flag_at a.used)) unused ∙ none_marked (not a.words) (flag_at a.used));
  stands = refl;
  counted = counted;
}

-- one of them
pub here_one : {a : Walk} {f : Option Fault} {later : List Name} (site : Stand → Site) → f ≡ judged (names_at a) (site (stand_of a))
    → used_at (names_at a) (site (stand_of a)) ≡ [] → IsCounted a.later later → Walks later a a f (λ p. site p ∷ []) (λ p. p.sight)
here_one {a} {f} {later} site e unused counted =
    here {later = later} (λ p. site p ∷ []) (e ∙ sym (sooner_none (judged (names_at a) (site (stand_of a)))))
    (append-nil (used_at (names_at a) (site (stand_of a))) ∙ unused) counted

-- no place
pub turned : {a b : Walk} {later : List Name} {to : Stand → Sight} → Turns a b to → IsCounted a.later later
    → Walks later a b None (λ p. []) to
turned {a} {b} {later} t counted = record {
  fault_is = refl;
  marks = ap flag_at t.used ∙ sym (none_marked (not a.words) (flag_at a.used));
  stands = t.stands;
  counted = subst (λ entries. IsCounted entries later) (sym t.later) counted;
}

-- # One behind another

pub both : {before later : List Name} {a b c : Walk} {f g h : Option Fault} {xs ys : Stand → List Site} {s t : Stand → Sight}
    → Walks before a b f xs s → Walks later b c g ys t → h ≡ sooner f g
    → Walks later a c h (λ p. xs p ++ ys (seeing p (s p))) (λ p. t (seeing p (s p)))
both {before} {later} {a} {b} {c} {f} {g} {h} {xs} {ys} {s} {t} v w e =
    let p = stand_of a in
    let q = seeing p (s p) in
    let n = names_at a in
    let second : g ≡ first n (ys q) = w.fault_is ∙ ap (λ (p : Stand). first p.names (ys p)) v.stands in
    let more : flag_at c.used ≡ with_marks (not a.words) (used n (ys q)) (flag_at b.used) =
    w.marks ∙ ap (λ (p : Stand). with_marks (not p.words) (used p.names (ys p)) (flag_at b.used)) v.stands in
    record {
      fault_is = e ∙ ap₂ sooner v.fault_is second ∙ sym (first_append n (xs p) (ys q));
      marks = more ∙ ap (with_marks (not a.words) (used n (ys q))) v.marks
          ∙ sym (marked_append (not a.words) (used n (xs p)) (used n (ys q)) (flag_at a.used))
          ∙ ap (λ l. with_marks (not a.words) l (flag_at a.used)) (sym (used_append n (xs p) (ys q)));
      stands = w.stands ∙ ap (λ (p : Stand). seeing p (t p)) v.stands;
      counted = w.counted;
    }

-- a turn behind a walk
pub then_turned : {later : List Name} {a b c : Walk} {f : Option Fault} {xs : Stand → List Site} {s t : Stand → Sight}
    → Walks later a b f xs s → Turns b c t → Walks later a c f xs (λ p. t (seeing p (s p)))
then_turned {later} {a} {b} {c} {f} {xs} {s} {t} v w = record {
  fault_is = v.fault_is;
  marks = ap flag_at w.used ∙ v.marks;
  stands = w.stands ∙ ap (λ (p : Stand). seeing p (t p)) v.stands;
  counted = subst (λ entries. IsCounted entries later) (sym w.later) v.counted;
}

-- the same told in other words
pub recast : {later : List Name} {a b : Walk} {f : Option Fault} {xs : Stand → List Site} {s : Stand → Sight}
    (ys : Stand → List Site) (t : Stand → Sight) → Walks later a b f xs s → xs (stand_of a) ≡ ys (stand_of a) → s (stand_of a) ≡ t (stand_of a)
    → Walks later a b f ys t
recast {later} {a} {b} ys t w e d = record {
  fault_is = w.fault_is ∙ ap (first (names_at a)) e;
  marks = w.marks ∙ ap (λ l. with_marks (not a.words) (used (names_at a) l) (flag_at a.used)) e;
  stands = w.stands ∙ ap (seeing (stand_of a)) d;
  counted = w.counted;
}

-- where the words mayn't stand
pub quiet : {later : List Name} {a b : Walk} {f : Option Fault} {s : Stand → Sight} (sites : Names → Scope → List Site)
    → a.words ≡ false → Walks later a b f (λ p. sites p.names (scope_at later p)) s → Walks later a b f (λ p. sites p.names (quiet_at later p)) s
quiet {later} {a} {b} {f} {s} sites e w =
    recast (λ p. sites p.names (quiet_at later p)) s w
    (ap (λ b. sites (names_at a) (record (quiet_at later (stand_of a)) { words = b })) e) refl

-- behind another fault
pub follows : {later : List Name} {b c : Walk} {best own h : Option Fault} {ys : Stand → List Site} {t : Stand → Sight}
    → Walks later b c own ys t → h ≡ sooner best own → Follows later b c best h ys t
follows {own = own} w e = record { own = own; walks = w; fault_is = e }

pub both_of : {before later : List Name} {a b c : Walk} {f h : Option Fault} {xs ys : Stand → List Site} {s t : Stand → Sight}
    → Walks before a b f xs s → Follows later b c f h ys t
    → Walks later a c h (λ p. xs p ++ ys (seeing p (s p))) (λ p. t (seeing p (s p)))
both_of v w = both v w.walks w.fault_is

-- what is known of names stays known
pub same_names : {later : List Name} {a b : Walk} {f : Option Fault} {xs : Stand → List Site} {s : Stand → Sight}
    → Walks later a b f xs s → names_at b ≡ names_at a
same_names w = ap (λ (p : Stand). p.names) w.stands

pub same_words : {later : List Name} {a b : Walk} {f : Option Fault} {xs : Stand → List Site} {s : Stand → Sight}
    → Walks later a b f xs s → b.words ≡ a.words
same_words w = ap (λ (p : Stand). p.words) w.stands

-- # Through a list

-- The walk from a to b has found what the places so far have. With the rest they are all.
pub record Walked (later : List Name) (a b : Walk) (best : Option Fault) (rest all : List Site) (to : Stand → Sight) : Type 0 where
  pub done : Stand → List Site
  pub walks : Walks later a b best done to
  pub whole : done (stand_of a) ++ rest ≡ all

pub started : {later : List Name} {a : Walk} {all : List Site} → IsCounted a.later later → Walked later a a None all all (λ p. p.sight)
started {later} {a} counted = record {
  done = λ p. [];
  walks = here {later = later} (λ p. []) refl refl counted;
  whole = refl;
}

pub stepped : {later before : List Name} {a b c : Walk} {best f h : Option Fault} {rest all : List Site} {ys : Stand → List Site} {s t : Stand → Sight}
    (next : List Site) → Walked before a b best rest all s → Walks later b c f ys t → h ≡ sooner best f
    → rest ≡ ys (seeing (stand_of a) (s (stand_of a))) ++ next
    → Walked later a c h next all (λ p. t (seeing p (s p)))
stepped {a = a} {ys = ys} {s = s} next v w e split = record {
  done = λ p. v.done p ++ ys (seeing p (s p));
  walks = both v.walks w e;
  whole = append_assoc (v.done (stand_of a)) (ys (seeing (stand_of a) (s (stand_of a)))) next
      ∙ ap (λ l. v.done (stand_of a) ++ l) (sym split) ∙ v.whole;
}

pub ended : {later : List Name} {a b : Walk} {best : Option Fault} {rest : List Site} {s : Stand → Sight}
    (all : Stand → List Site) → Walked later a b best rest (all (stand_of a)) s → rest ≡ [] → Walks later a b best all s
ended {a = a} {s = s} all v e =
    recast all s v.walks (sym (append-nil (v.done (stand_of a))) ∙ ap (λ l. v.done (stand_of a) ++ l) (sym e) ∙ v.whole) refl

-- what is judged with the names at the start of a walk is judged with those at its end
pub judged_in : {later : List Name} {a b : Walk} {f g : Option Fault} {xs : Stand → List Site} {s : Stand → Sight} (site : Names → Site)
    → Walks later a b f xs s → g ≡ judged (names_at a) (site (names_at a)) → g ≡ judged (names_at b) (site (names_at b))
judged_in site w e = e ∙ sym (ap (λ n. judged n (site n)) (same_names w))
