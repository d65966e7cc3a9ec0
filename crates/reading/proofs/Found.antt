-- What is found by its name or its number, and lists of keys and arguments.
use Rattle.std.proofs.Common.{◌≡◌, ℕ, zero, suc, ◌+◌, ◌<◌, Bool, true, false, cond, List, [], ◌∷◌, length, map, drop, get_or, Option, Some, None, refl, ap, sym, subst, ◌∙◌, arith}
use Rattle.std.specs.Prelude.{option_map, option_and_then, slice_get}
use Rattle.std.proofs.lemmas.List.{drop_more}
use Rattle.rp_value.specs.declared.tables.Ty.{Ty}
use Rattle.rp_grammar.specs.Trees.{ExprTree, ExprTrees, PatternTree, ArgTrees, StepTree, StepTrees}
use Rattle.type_rules.specs.declared.kind.Kind.{Kind}
use Rattle.type_rules.specs.Names.{Name, same_name}
use Rattle.type_rules.specs.Accesses.{Var}
use Rattle.type_rules.specs.Matches.{first_kind, other_kinds, pattern_name, pattern_vars}
use Rattle.type_rules.specs.Paths.{Way, stepped, key_kind}
use Rattle.type_tables.specs.Tables.{place_from}
use Rattle.lawful.specs.Typed.{Along}
use Rattle.desugaring.specs.Tables.{Tables, arm_number, con_number, cons, has_fields, ty_of, with_fields}
use Rattle.desugaring.specs.Callees.{Stand, stand_named}
use Rattle.query_bodies.specs.Terms.{Te, Tes, no_te, also_te}
use Rattle.query_bodies.specs.Views.{tes_of}
use Rattle.query_laws.specs.Sight.{IsNumber, IsTyOf, Known, Sight, SaysArgs, SaysKeys, SaysTerm, SaysTerms, seen}
use Rattle.query_laws.proofs.Said.{no_terms_say, more_terms_say}
use Rattle.query_laws.proofs.Accessed.{absent_says, dot_says, key_says, no_keys_say, returned_says}
use Rattle.reading.specs.declared.reader.Known as code_known
use Rattle.reading.specs.Args.{AddsKey}
use Rattle.reading.specs.Reads.{known_view}
use Rattle.reading.proofs.Reading.{Gathered, same_gathered, stepped as gathered}

-- # Numbers

pub number_is : (o : Option ℕ) (con : ℕ) → o ≡ Some con → IsNumber o con
number_is o con e wanted is = let both = sym is ∙ e in cc

pub ty_is : (t : Tables) (k : Kind) (ty : Ty) → ty_of t k ≡ Some ty → IsTyOf t k ty
ty_is t k ty e wanted is = let both = sym is ∙ e in cc

-- the constructor of an arm's name is the arm's, where it has one
pub arm_is : (t : Tables) (k : Kind) (p : PatternTree) (con : ℕ) → con_number t k (pattern_name p) ≡ Some con
    → IsNumber (arm_number t k p) con
arm_is t k p con e wanted is =
    by (has_fields (length (pattern_vars p)) (slice_get (cons t) con))
    (subst (λ (o : Option ℕ). option_and_then (with_fields (length (pattern_vars p)) (cons t)) o ≡ Some wanted) e is)
  where
    by : (b : Bool) → cond b (Some con) None ≡ Some wanted → wanted ≡ con
    by true h = cc
    by false h = absurd cc

-- # Lists that are gone through

pub next_in : {X Y : Type 0} (f : List X → Y) (xs : List X) (i : ℕ) (x : X) → i < length xs → x ≡ get_or xs i x
    → f (drop i xs) ≡ f (x ∷ drop (i + 1) xs)
next_in f xs i x h e = ap f (drop_more xs i x h) ∙ ap (λ y. f (y ∷ drop (i + 1) xs)) (sym e)

pub other_drop : (ks : List Kind) (i m : ℕ) → m ≡ i + 1 → other_kinds (drop i ks) ≡ drop m ks
other_drop [] zero zero e = absurd (omega arith)
other_drop [] zero (suc m) e = refl
other_drop [] (suc i) zero e = absurd (omega arith)
other_drop [] (suc i) (suc m) e = refl
other_drop (k ∷ ks) zero zero e = absurd (omega arith)
other_drop (k ∷ ks) zero (suc zero) e = refl
other_drop (k ∷ ks) zero (suc (suc m)) e = absurd (omega arith)
other_drop (k ∷ ks) (suc i) zero e = absurd (omega arith)
other_drop (k ∷ ks) (suc i) (suc m) e = other_drop ks i m (omega arith)

-- # Terms of these types

term_on : (s : Sight) (ks : List Kind) (k : Kind) (a : ExprTree) (es : ExprTrees) (x : Te) (xs : Tes) → k ≡ first_kind ks
    → SaysTerm s (Some k) a x → SaysTerms s (other_kinds ks) es xs → SaysTerms s ks (ExprTrees.more_exprs a es) (also_te x xs)
term_on s [] k a es x xs e says rest = λ given st z is. absurd cc
term_on s (j ∷ js) k a es x xs e says rest =
    more_terms_say s j js a es x xs (subst (λ (k : Kind). SaysTerm s (Some k) a x) e says) rest

pub term_next : (s : Sight) (ks : List Kind) (i : ℕ) (k : Kind) (a : ExprTree) (es : ExprTrees) (x : Te) (xs : Tes)
    → k ≡ first_kind (drop i ks) → SaysTerm s (Some k) a x → SaysTerms s (drop (i + 1) ks) es xs
    → SaysTerms s (drop i ks) (ExprTrees.more_exprs a es) (also_te x xs)
term_next s ks i k a es x xs e says rest =
    term_on s (drop i ks) k a es x xs e says
    (subst (λ (js : List Kind). SaysTerms s js es xs) (sym (other_drop ks i (i + 1) refl)) rest)

pub terms_end : (s : Sight) (ks : List Kind) → SaysTerms s ks ExprTrees.no_exprs no_te
terms_end s [] = no_terms_say s []
terms_end s (k ∷ ks) = λ given st z is. absurd cc

pub args_absent : (s : Sight) (ks : List Kind) → SaysArgs s ks ArgTrees.absent no_te
args_absent s [] = absent_says s []
args_absent s (k ∷ ks) = λ given st z is. absurd cc

-- # Keys along a path

abbrev pub KeysOn : Sight → Way → StepTrees → List Te → Type 0
KeysOn s way steps xs = (kinds : List Kind) → Along s.tables.names way steps kinds → SaysKeys s kinds steps (tes_of xs)

pub keys_end : (s : Sight) (way : Way) → KeysOn s way StepTrees.no_steps []
keys_end s way kinds Along.ends = no_keys_say s []

pub keys_next : (s : Sight) (way : Way) (st : StepTree) (steps : StepTrees) (old new : List Te) {W : List Te → Type 0}
    → Gathered (λ ys. KeysOn s way (StepTrees.more_steps st steps) ys) W old → AddsKey s way st old new
    → Gathered (λ ys. KeysOn s (stepped s.tables.names way st) steps ys) W new
keys_next s way (StepTree.dot x) steps old new {W} g is =
    same_gathered g (λ xs rest kinds al. by xs rest kinds al) is
  where
    by : (xs : List Te) → KeysOn s (stepped s.tables.names way (StepTree.dot x)) steps xs → (kinds : List Kind)
        → Along s.tables.names way (StepTrees.more_steps (StepTree.dot x) steps) kinds
        → SaysKeys s kinds (StepTrees.more_steps (StepTree.dot x) steps) (tes_of xs)
    by xs rest kinds (Along.dot al) = dot_says s kinds x steps (tes_of xs) (rest kinds al)
keys_next s way (StepTree.returned at) steps old new {W} g is =
    same_gathered g (λ xs rest kinds al. by xs rest kinds al) is
  where
    by : (xs : List Te) → KeysOn s (stepped s.tables.names way (StepTree.returned at)) steps xs → (kinds : List Kind)
        → Along s.tables.names way (StepTrees.more_steps (StepTree.returned at) steps) kinds
        → SaysKeys s kinds (StepTrees.more_steps (StepTree.returned at) steps) (tes_of xs)
    by xs rest kinds (Along.returned al) = returned_says s kinds at steps (tes_of xs) (rest kinds al)
keys_next s way (StepTree.key e) steps old new {W} g is =
    gathered {x = is.0} g (λ xs rest kinds al. by xs rest kinds al) is.1
  where
    by : (xs : List Te) → KeysOn s (stepped s.tables.names way (StepTree.key e)) steps xs → (kinds : List Kind)
        → Along s.tables.names way (StepTrees.more_steps (StepTree.key e) steps) kinds
        → SaysKeys s kinds (StepTrees.more_steps (StepTree.key e) steps) (tes_of (is.0 ∷ xs))
    by xs rest kinds (Along.key {ks = ks} al) = key_says s (key_kind s.tables.names way) ks e steps is.0 (tes_of xs) is.2 (rest ks al)

-- # Variables

place_up : (k : ℕ) (names : List Name) (x : Name) → place_from (k + 1) names x ≡ option_map suc (place_from k names x)
place_up k [] x = refl
place_up k (name ∷ names) x = by (same_name name x) (place_up (k + 1) names x) where
  by : (b : Bool) → place_from (k + 1 + 1) names x ≡ option_map suc (place_from (k + 1) names x)
      → cond b (Some (k + 1)) (place_from (k + 1 + 1) names x) ≡ option_map suc (cond b (Some k) (place_from (k + 1) names x))
  by true later = ap (λ n. Some n) (omega arith)
  by false later = later

past_first : {X : Type 0} (y : X) (ys : List X) (o : Option ℕ) → option_and_then (λ p. slice_get (y ∷ ys) p) (option_map suc o)
    ≡ option_and_then (λ p. slice_get ys p) o
past_first y ys None = refl
past_first y ys (Some p) = refl

-- what a variable stands for by its place, and by its name
pub known_found : (vs : List Var) (ks : List code_known.Known) (x : Name) (k : code_known.Known) (st : Stand Known)
    → option_and_then (λ p. slice_get ks p) (place_from 0 (map (λ v. v.name) vs) x) ≡ Some k
    → stand_named (seen vs (map known_view ks)) x ≡ Some st → st.known ≡ known_view k
known_found [] ks x k st e is = absurd cc
known_found (v ∷ vs) [] x k st e is = absurd cc
known_found (v ∷ vs) (y ∷ ys) x k st e is = by (same_name v.name x) e is (known_found vs ys x k st) where
  by : (b : Bool) → option_and_then (λ p. slice_get (y ∷ ys) p) (cond b (Some 0) (place_from 1 (map (λ v. v.name) vs) x)) ≡ Some k
      → cond b (Some (record { name = v.name; kind = v.kind; known = known_view y })) (stand_named (seen vs (map known_view ys)) x) ≡ Some st
      → (option_and_then (λ p. slice_get ys p) (place_from 0 (map (λ v. v.name) vs) x) ≡ Some k
      → stand_named (seen vs (map known_view ys)) x ≡ Some st → st.known ≡ known_view k)
      → st.known ≡ known_view k
  by true e is later =
      let same : y ≡ k = cc in
      let found : record { name = v.name; kind = v.kind; known = known_view y } ≡ st = cc in
      ap (λ (s : Stand Known). s.known) (sym found) ∙ ap known_view same
  by false e is later =
      later
      (sym (past_first y ys (place_from 0 (map (λ v. v.name) vs) x))
      ∙ ap (option_and_then (λ p. slice_get (y ∷ ys) p)) (sym (place_up 0 (map (λ v. v.name) vs) x)) ∙ e) is

pub one_number : (o : Option ℕ) (j k : ℕ) → o ≡ Some j → o ≡ Some k → j ≡ k
one_number o j k e is = let both = sym e ∙ is in cc
