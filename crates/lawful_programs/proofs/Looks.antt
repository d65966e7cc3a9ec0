-- The variables in sight, by the type rules and by what they stand for.
use Rattle.std.proofs.Common.{◌≡◌, Bool, true, false, cond, List, [], ◌∷◌, ◌++◌, map, length, Option, Some, None, arith}
use Rattle.rp_grammar.specs.Trees.{Ident, ExprTree}
use Rattle.rp_lang.specs.Exprs.{Ex, Bound}
use Rattle.type_rules.specs.declared.kind.Kind.{Kind}
use Rattle.type_rules.specs.Names.{Name, Names, same_name, text_of}
use Rattle.type_rules.specs.Accesses.{Var, find_var}
use Rattle.type_rules.specs.Typing.{type_of}
use Rattle.type_rules.specs.Matches.{bound_var, with_bound, first_kind, other_kinds}
use Rattle.desugaring.specs.Tables.{Tables}
use Rattle.desugaring.specs.Callees.{Stand, stand, Vars, vars_of, stand_named}
use Rattle.desugaring.specs.Expressions.{raised, under, under_all}
use Rattle.lawful.proofs.Alike.{Alike, alike_type}
use Rattle.lawful.proofs.Places.{all_both}
use Rattle.lawful_programs.specs.Valued.{IsWhole, AllWhole, VarWhole, VarsWhole, Seen, nothing, another}

-- # One variable

pub data Looks (t : Tables) : Option Var → Option (Stand Ex) → Option Var → Type 0 where
  nowhere : Looks t None None None
  there : {name : Name} {kind : Kind} {set fixed : Bool} {known : Ex} → IsWhole t kind
      → Looks t (Some (record { name = name; kind = kind; set = set; fixed = fixed })) (Some (stand name kind known))
      (Some (record { name = name; kind = kind; set = true; fixed = true }))

pick : (t : Tables) (name : Name) (kind : Kind) (set fixed : Bool) (meant : Ex) (o : Option Var) (s : Option (Stand Ex)) (u : Option Var) (same : Bool)
    → IsWhole t kind → Looks t o s u
    → Looks t (cond same (Some (record { name = name; kind = kind; set = set; fixed = fixed })) o)
    (cond same (Some (stand name kind meant)) s) (cond same (Some (record { name = name; kind = kind; set = true; fixed = true })) u)
pick t name kind set fixed meant o s u true whole rest = Looks.there whole
pick t name kind set fixed meant o s u false whole rest = rest

pub look : (t : Tables) (vs : List Var) (ss : Vars) (x : Name) → Seen vs ss → VarsWhole t vs
    → Looks t (find_var vs x) (stand_named ss x) (find_var (vars_of ss) x)
look t vs ss x nothing whole = Looks.nowhere
look t vs ss x (another {name} {kind} {set} {fixed} {known = meant} {vs = others} {ss = stands} rest) whole =
    pick t name kind set fixed meant _ _ _ (same_name name x) whole.0 (look t others stands x rest whole.1)

-- # Types

seen_alike : (vs : List Var) (ss : Vars) → Seen vs ss → Alike vs ss
seen_alike vs ss nothing = Alike.nothing
seen_alike vs ss (another rest) = Alike.another (seen_alike _ _ rest)

pub seen_type : (n : Names) (vs : List Var) (ss : Vars) → Seen vs ss → (asked : Option Kind) (e : ExprTree)
    → type_of n vs asked e ≡ type_of n (vars_of ss) asked e
seen_type n vs ss seen asked e = alike_type n vs ss (seen_alike vs ss seen) asked e

-- # More variables

pub seen_also : (vs : List Var) (ss : Vars) (name : Name) (kind : Kind) (set fixed : Bool) (known : Ex) → Seen vs ss
    → Seen (vs ++ record { name = name; kind = kind; set = set; fixed = fixed } ∷ []) (ss ++ stand name kind known ∷ [])
seen_also vs ss name kind set fixed known nothing = another nothing
seen_also vs ss name kind set fixed known (another rest) = another (seen_also _ _ name kind set fixed known rest)

seen_raised : (vs : List Var) (ss : Vars) → Seen vs ss → Seen vs (map raised ss)
seen_raised vs ss nothing = nothing
seen_raised vs ss (another rest) = another (seen_raised _ _ rest)

pub seen_under : (vs : List Var) (ss : Vars) (x : Ident) (k : Kind) → Seen vs ss → Seen (vs ++ bound_var x k ∷ []) (under ss (text_of x) k)
seen_under vs ss x k seen = seen_also vs (map raised ss) (text_of x) k true true (Bound 0) (seen_raised vs ss seen)

pub seen_pattern : (vs : List Var) (ss : Vars) (xs : List Ident) (ks : List Kind) → Seen vs ss → Seen (with_bound vs xs ks) (under_all ss xs ks)
seen_pattern vs ss [] ks seen = seen
seen_pattern vs ss (x ∷ xs) ks seen =
    seen_pattern (vs ++ bound_var x (first_kind ks) ∷ []) (under ss (text_of x) (first_kind ks)) xs (other_kinds ks) (seen_under vs ss x (first_kind ks) seen)

pub whole_pattern : (t : Tables) (vs : List Var) (xs : List Ident) (ks : List Kind) → VarsWhole t vs → AllWhole t ks → length ks ≡ length xs
    → VarsWhole t (with_bound vs xs ks)
whole_pattern t vs [] ks vars whole many = vars
whole_pattern t vs (x ∷ xs) [] vars whole many = absurd (omega (arith, many))
whole_pattern t vs (x ∷ xs) (k ∷ ks) vars whole many =
    whole_pattern t (vs ++ bound_var x k ∷ []) xs ks (all_both (VarWhole t) vs (bound_var x k ∷ []) vars (whole.0, tt)) whole.1 (omega (arith, many))
