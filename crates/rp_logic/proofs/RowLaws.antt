-- The worked rows hold.
use Rattle.std.proofs.Common.{◌≡◌, ◌<◌, ℕ, zero, suc, ◌∷◌, [], Bool, true, false, cond, Some, None, nat_lt, sym, refl, ◌∙◌, true≢false, arith, ltb-true}
use Rattle.std.proofs.lemmas.Option.{none-some}
use Rattle.rp_logic.specs.Elements.{Elem, Point, Whole, Text, Made}
use Rattle.rp_logic.specs.Structures.{Is, own_consts}
use Rattle.rp_logic.specs.rows.EmptySorts.{one_sort, nothing, EmptySort, SortOfAConstant}
use Rattle.rp_logic.proofs.SortLaws.{no}

none_given : {A : Type 0} (b : Bool) (x : A) → cond b None None ≡ Some x → ⊥
none_given true x e = cc
none_given false x e = cc

-- no element is of any sort
no_element : (v : Elem) (s : ℕ) → Is (one_sort []) nothing s v → ⊥
no_element (Point n) zero h = let k : n < 0 = ltb-true n 0 h in omega arith
no_element (Point n) (suc s) h = no h
no_element (Whole n) zero h = no h
no_element (Whole n) (suc s) h = no h
no_element (Text bytes) zero h = no h
no_element (Text bytes) (suc s) h = no h
no_element (Made c xs) s h = no h

pub empty_sort : EmptySort
empty_sort = (
  record {
    constants = λ c s e. absurd (none_given (nat_lt c 0) s e);
    functions = λ f decl e. absurd (none-some decl e);
    defaults = λ s v h. absurd (no_element v s h);
    fields = λ con i s e. absurd (none-some s e);
    selectors = λ con i s e. absurd (none-some s e);
  },
  ((λ v h. absurd (no_element v 0 h)), ((λ v h. absurd (no_element v 0 h)), tt)),
)

pub sort_of_a_constant : SortOfAConstant
sort_of_a_constant M fits t =
    let v = own_consts M 0 in
    let is : Is (one_sort (0 ∷ [])) M 0 v = fits.constants 0 0 refl in
    true≢false (sym (t.0 v is) ∙ t.1.0 v is)
