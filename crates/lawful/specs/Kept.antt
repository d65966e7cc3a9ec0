-- Places at which no rule is broken, as the proof about expressions needs them.
use Rattle.std.specs.Prelude.{◌≡◌, ℕ, zero, suc, ◌+◌, Bool, true, not, ◌||◌, List, [], ◌∷◌, None}
use Rattle.rp_grammar.specs.Trees.{ExprTree, ExprForm, DeclTree}
use Rattle.rp_lang.specs.Typing.{is_word}
use Rattle.type_rules.specs.Names.{Names}
use Rattle.type_rules.specs.Accesses.{Access, access_of}
use Rattle.type_rules.specs.Queries.{names_of}
use Rattle.type_rules.specs.Sites.{Site}
use Rattle.type_rules.specs.TextSites.{is_number_of, used_from}
use Rattle.type_rules.specs.Rules.{rule03, rule04, rule08, rule09, rule10, rule12, rule13, rule14, rule15, rule16, rule18, rule21, rule22, rule23}

-- a fact of texts: a number is at most 2^63 - 1 in absolute value
abbrev pub number_fits : ExprTree → Bool
number_fits (ExprTree.node at (ExprForm.int i)) = is_word i
number_fits _ = true

abbrev pub has_number : Site → Bool
has_number (Site.place sc w e) = number_fits e
has_number _ = true

-- `words k`: calls may be spoken of in query k. Where they may not at the use, they may not in the query
abbrev pub uses_quietly : (ℕ → Bool) → Bool → Access → Bool
uses_quietly words speaks (Access.use_of k q) = speaks || not (words k)
uses_quietly words speaks _ = true

abbrev pub is_quiet : Names → (ℕ → Bool) → Site → Bool
is_quiet n words (Site.place sc w (ExprTree.node at (ExprForm.access a))) = uses_quietly words sc.words (access_of n sc.vars a)
is_quiet n words _ = true

-- what the procedures behind the declaration at a place use, where the first of these declarations has number k
abbrev pub uses_behind : Names → ℕ → List DeclTree → ℕ → List ℕ
uses_behind n k [] i = []
uses_behind n k (d ∷ ds) zero = used_from n (k + 1) ds
uses_behind n k (d ∷ ds) (suc i) = uses_behind n (k + 1) ds i

-- calls may be spoken of in the query of that number: no procedure uses it
abbrev pub may_speak : List DeclTree → ℕ → Bool
may_speak tree k = not (is_number_of k (uses_behind (names_of tree) 0 tree k))

pub record Kept (n : Names) (words : ℕ → Bool) (s : Site) : Type 0 where
  pub t03 : rule03 n s ≡ None
  pub t04 : rule04 n s ≡ None
  pub t08 : rule08 n s ≡ None
  pub t09 : rule09 n s ≡ None
  pub t10 : rule10 n s ≡ None
  pub t12 : rule12 n s ≡ None
  pub t13 : rule13 n s ≡ None
  pub t14 : rule14 n s ≡ None
  pub t15 : rule15 n s ≡ None
  pub t16 : rule16 n s ≡ None
  pub t18 : rule18 n s ≡ None
  pub t21 : rule21 n s ≡ None
  pub t22 : rule22 n s ≡ None
  pub t23 : rule23 n s ≡ None
  pub number : has_number s ≡ true
  pub quiet : is_quiet n words s ≡ true

abbrev pub AllKept : Names → (ℕ → Bool) → List Site → Type 0
AllKept n words [] = Unit {0}
AllKept n words (s ∷ ss) = Kept n words s × AllKept n words ss
