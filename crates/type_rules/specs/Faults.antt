-- Broken rules, and which of them is the first.
use Rattle.std.specs.Prelude.{◌≡◌, ℕ, Bool, false, ◌&&◌, ◌||◌, eqb, ltb, List, [], ◌∷◌, Option, Some, None, ◌⊎◌, if◌then◌else◌}
use Rattle.rp_span.specs.declared.Span.{Span}
use Rattle.rp_grammar.specs.Trees.{DeclTree}
use Rattle.type_rules.specs.declared.fault.Fault.{Fault}
use Rattle.type_rules.specs.Names.{Names}
use Rattle.type_rules.specs.Queries.{names_of}
use Rattle.type_rules.specs.Sites.{Site}
use Rattle.type_rules.specs.TextSites.{sites_of}
use Rattle.type_rules.specs.Rules.{Numbered, rules}

-- # What is broken

-- it is one of the list
abbrev pub IsOneOf : {X : Type 0} → X → List X → Type 0
IsOneOf x [] = ⊥
IsOneOf x (y ∷ ys) = (y ≡ x) ⊎ IsOneOf x ys

-- one of these rules says that it is broken at this place
abbrev pub BreaksAt : List Numbered → Names → Site → Fault → Type 0
BreaksAt rs n s f = (r : Numbered) × IsOneOf r rs × (r.number ≡ f.rule) × (r.rule n s ≡ Some f.span)

-- at one of these places
abbrev pub Breaks : Names → List Site → Fault → Type 0
Breaks n ss f = (s : Site) × IsOneOf s ss × BreaksAt rules n s f

-- the text's tree breaks the rule, at this token
abbrev pub IsBroken : List DeclTree → Fault → Type 0
IsBroken tree f = Breaks (names_of tree) (sites_of (names_of tree) tree) f

-- the tree breaks no rule
abbrev pub IsLawful : List DeclTree → Type 0
IsLawful tree = (f : Fault) → IsBroken tree f → ⊥

-- # The first

-- The one whose token starts first, and of those with one start the one of the least rule. In a text one token at most
-- starts at a place. The last comparison is for trees of no text: by it the order is total, and the first fault one.
abbrev pub is_before : Fault → Fault → Bool
is_before a b =
    ltb a.span.from b.span.from
    || (eqb a.span.from b.span.from && (ltb a.rule b.rule || (eqb a.rule b.rule && ltb a.span.to b.span.to)))

-- there is none, or it is one and none comes before it
abbrev pub IsLeast : (Fault → Type 0) → Option Fault → Type 0
IsLeast P None = (f : Fault) → P f → ⊥
IsLeast P (Some f) = P f × ((g : Fault) → P g → is_before g f ≡ false)

-- the text's first fault, if it has one
abbrev pub IsFirstFault : List DeclTree → Option Fault → Type 0
IsFirstFault tree f = IsLeast (IsBroken tree) f

-- # The same, computed

abbrev pub keep : Fault → Fault → Fault
keep x y = if is_before y x then y else x

abbrev pub sooner : Option Fault → Option Fault → Option Fault
sooner None b = b
sooner (Some x) None = Some x
sooner (Some x) (Some y) = Some (keep x y)

abbrev pub marked : ℕ → Option Span → Option Fault
marked rule None = None
marked rule (Some at) = Some (record { rule = rule; span = at })

-- the first fault at a place, of some rules
abbrev pub judged_by : List Numbered → Names → Site → Option Fault
judged_by [] n s = None
judged_by (r ∷ rs) n s = sooner (marked r.number (r.rule n s)) (judged_by rs n s)

abbrev pub judged : Names → Site → Option Fault
judged = judged_by rules

-- the first fault at some places
abbrev pub first : Names → List Site → Option Fault
first n [] = None
first n (s ∷ ss) = sooner (judged n s) (first n ss)

abbrev pub first_fault : List DeclTree → Option Fault
first_fault tree = first (names_of tree) (sites_of (names_of tree) tree)
