-- The first limit that is passed, and the last one, which is tested behind the others.
use Rattle.std.proofs.Common.{◌≡◌, Bool, true, false, cond, List, [], ◌∷◌, take, Option, Some, None, refl, ap, sym, ◌∙◌}
use Rattle.std.specs.Prelude.{find, option_map}
use Rattle.rp_lang.specs.Programs.{Prog}
use Rattle.rp_lang.specs.declared.limit.LimitName.{LimitName}
use Rattle.rp_lang.specs.declared.limit.LimitName.TheVariants.{Nodes}
use Rattle.desugaring.specs.Limits.{Passed, passed, limits, first_limit, some_expression, is_deep, binds_much, is_large}
use Rattle.resolve.specs.Tested.{first_in, or_limit}

pub some_first : (l : LimitName) (ls : List Passed) → first_in (Some l) ls ≡ Some l
some_first l [] = refl
some_first l (m ∷ ls) = some_first l ls

found_first : (ls : List Passed) → option_map (λ (l : Passed). l.limit) (find (λ (l : Passed). l.is_passed) ls) ≡ first_in None ls
found_first [] = refl
found_first (l ∷ ls) = by l.is_passed (found_first ls)
  where
    by : (b : Bool) → option_map (λ (m : Passed). m.limit) (find (λ (m : Passed). m.is_passed) ls) ≡ first_in None ls
        → option_map (λ (m : Passed). m.limit) (cond b (Some l) (find (λ (m : Passed). m.is_passed) ls)) ≡ first_in (cond b (Some l.limit) None) ls
    by true h = sym (some_first l.limit ls)
    by false h = h

-- the last limit is tested behind the ten before it
pub last_limit : (p : Prog) (o : Option LimitName) → o ≡ first_in None (take 10 (limits p))
    → first_limit p ≡ first_in o (passed Nodes (some_expression (is_large p) p) ∷ [])
last_limit p o h =
    found_first (limits p) ∙ ap (λ (x : Option LimitName). first_in x (passed Nodes (some_expression (is_large p) p) ∷ [])) (sym h)

-- none of these is passed
abbrev AllKept : List Passed → Type 0
AllKept [] = Unit {0}
AllKept (l ∷ ls) = (l.is_passed ≡ false) × AllKept ls

all_kept : (ls : List Passed) → first_in None ls ≡ None → AllKept ls
all_kept [] h = tt
all_kept (l ∷ ls) h = by l.is_passed refl h (λ k. all_kept ls k)
  where
    by : (b : Bool) → l.is_passed ≡ b → first_in (cond b (Some l.limit) None) ls ≡ None → (first_in None ls ≡ None → AllKept ls) → AllKept (l ∷ ls)
    by true e h rest = absurd (let clash : Some l.limit ≡ None = sym (some_first l.limit ls) ∙ h in cc)
    by false e h rest = (e, rest h)

-- where no limit before that on nodes is passed
pub record IsKept (p : Prog) : Type 0 where
  pub deep : some_expression is_deep p ≡ false
  pub binds : some_expression (binds_much p) p ≡ false

pub kept : (p : Prog) → None ≡ first_in None (take 10 (limits p)) → IsKept p
kept p h =
    let all : AllKept (take 10 (limits p)) = all_kept (take 10 (limits p)) (sym h) in
    record { deep = all.0; binds = all.1.1.1.1.1.1.1.1.1.0 }

-- three limits, one tested behind the other
pub three_in : (o p q r : Option LimitName) (a b c : LimitName) (x y z : Bool) (d e f : Bool)
    → p ≡ or_limit o a x → q ≡ or_limit p b y → r ≡ or_limit q c z
    → x ≡ d → y ≡ e → z ≡ f → r ≡ first_in o (passed a d ∷ passed b e ∷ passed c f ∷ [])
three_in o p q r a b c x y z d e f is_p is_q is_r is_x is_y is_z =
    is_r
    ∙ ap (λ w. or_limit q c w) is_z
    ∙ ap (λ w. or_limit w c f) (is_q ∙ ap (λ w. or_limit p b w) is_y ∙ ap (λ w. or_limit w b e) (is_p ∙ ap (λ w. or_limit o a w) is_x))

pub four_in : (o p q r s : Option LimitName) (a b c g : LimitName) (x y z u : Bool) (d e f v : Bool)
    → p ≡ or_limit o a x → q ≡ or_limit p b y → r ≡ or_limit q c z → s ≡ or_limit r g u
    → x ≡ d → y ≡ e → z ≡ f → u ≡ v → s ≡ first_in o (passed a d ∷ passed b e ∷ passed c f ∷ passed g v ∷ [])
four_in o p q r s a b c g x y z u d e f v is_p is_q is_r is_s is_x is_y is_z is_u =
    is_s
    ∙ ap (λ w. or_limit r g w) is_u
    ∙ ap (λ w. or_limit w g v) (three_in o p q r a b c x y z d e f is_p is_q is_r is_x is_y is_z)
