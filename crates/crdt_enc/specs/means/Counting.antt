-- Ways whose keys are terms with their values.
use Rattle.std.specs.Prelude.{◌≡◌, ℕ, List, [], ◌∷◌, ◌++◌, length, take, slice_get, Bool, true, ◌&&◌, Some}
use Rattle.rp_value.specs.declared.tables.Ty.{Ty}
use Rattle.rp_value.specs.Values.{Val}
use Rattle.rp_lang.specs.declared.op.OpDecl.{OpDecl}
use Rattle.rp_lang.specs.Programs.{Prog}
use Rattle.crdt_defs.specs.Calls.{Call}
use Rattle.crdt_defs.specs.Doing.{on_root, goes_to_field, goes_to_key, keys_in}
use Rattle.crdt_defs.specs.Meaning.{among, in_field, at_key}
use Rattle.crdt_defs.specs.Fitting.{fits}
use Rattle.rp_logic.specs.Terms.{Tm}
use Rattle.rp_logic.specs.Elements.{Elem}
use Rattle.rp_logic.specs.Truth.{Meaning, value}
use Rattle.crdt_enc.specs.Ways.{Way, Root, AtField, AtKey, depth, goes}
use Rattle.crdt_enc.specs.Elements.{elem_of}
use Rattle.crdt_enc.specs.Stages.{CallFits}
use Rattle.crdt_enc.specs.QueryFormulas.{passes, is_delete}

pub record Both : Type 0 where
  pub term : Tm
  pub val : Val

abbrev pub terms : Way Both → Way Tm
terms (Root r) = Root r
terms (AtField n w) = AtField n (terms w)
terms (AtKey winner b w) = AtKey winner b.term (terms w)

abbrev pub vals : Way Both → List Val
vals (Root r) = []
vals (AtField n w) = vals w
vals (AtKey winner b w) = vals w ++ b.val ∷ []

-- the calls that count at the end of the way
abbrev pub counted : List OpDecl → List Call → (ℕ → Bool) → Way Both → ℕ → Bool
counted ops h visible (Root r) = among h visible (on_root ops r)
counted ops h visible (AtField n w) = in_field ops h (depth (terms w)) n (counted ops h visible w)
counted ops h visible (AtKey winner b w) = at_key ops h winner (depth (terms w)) b.val (counted ops h visible w)

-- the call's operation goes this way, with these keys
abbrev pub matches : List OpDecl → Way Both → Call → Bool
matches ops (Root r) call = on_root ops r call
matches ops (AtField n w) call = matches ops w call && goes_to_field ops (depth (terms w)) n call
matches ops (AtKey winner b w) call = matches ops w call && goes_to_key ops (depth (terms w)) b.val call

-- so it is with each key on the way, with each of a list
abbrev pub EachKey : (Both → Type 0) → Way Both → Type 0
EachKey P (Root r) = Unit {0}
EachKey P (AtField n w) = EachKey P w
EachKey P (AtKey winner b w) = EachKey P w × P b

abbrev pub EachBoth : (Both → Type 0) → List Both → Type 0
EachBoth P [] = Unit {0}
EachBoth P (b ∷ bs) = P b × EachBoth P bs

-- the term has the element of the value
abbrev pub Read : Meaning → List Elem → Both → Type 0
Read M base b = value M base b.term ≡ elem_of b.val

-- each key on the way is read so
abbrev pub KeysRead : Meaning → List Elem → Way Both → Type 0
KeysRead M base w = EachKey (Read M base) w

-- the value may stand there, right behind the keys
pub record FitsAt (p : Prog) (count : ℕ) (decl : OpDecl) (place : ℕ) (k : Val) : Type 0 where
  pub placed : place ≡ count
  pub ty : Ty
  pub is : slice_get decl.args count ≡ Some ty
  pub fit : fits p ty k ≡ true

abbrev pub OpsFit : Prog → (OpDecl → Bool) → ℕ → (OpDecl → ℕ) → Val → Type 0
OpsFit p test count place k =
    (o : ℕ) (decl : OpDecl) → slice_get p.ops o ≡ Some decl → test decl ≡ true → FitsAt p count decl (place decl) k

-- each key on the way fits its type, in all operations that go this way
abbrev pub WayFits : Prog → Way Both → Type 0
WayFits p (Root r) = Unit {0}
WayFits p (AtField n w) = WayFits p w
WayFits p (AtKey winner b w) =
    WayFits p w
    × OpsFit p (goes (terms (AtKey winner b w))) (length (vals w)) (λ decl. keys_in (take (depth (terms w)) decl.path)) b.val
    × OpsFit p (passes (terms w) (is_delete (depth (terms w)))) (length (vals w)) (λ decl. keys_in decl.path) b.val

-- the arguments of each call fit its operation
abbrev pub CallsFit : Prog → List Call → Type 0
CallsFit p h = (c : ℕ) (call : Call) → slice_get h c ≡ Some call → CallFits p call
