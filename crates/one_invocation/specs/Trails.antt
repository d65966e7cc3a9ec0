-- A path through the code of a procedure, and a trail: a path with what each of its statements brought.
use Rattle.std.specs.Prelude.{ℕ, Bool, true, false, ◌||◌, nat_eq, if◌then◌else◌, List, [], ◌∷◌, map, Option, Some, None, slice_set, ◌++◌}
use Rattle.rp_value.specs.Values.{Val, Vals}
use Rattle.rp_lang.specs.Exprs.{Ex, Exs}
use Rattle.rp_lang.specs.Formulas.{Fo}
use Rattle.crdt_defs.specs.Calls.{Call}
use Rattle.crdt_defs.specs.Histories.{before}
use Rattle.crdt_defs.specs.Truths.{truth_val}
use Rattle.event_machine.specs.Machine.{filled}

-- A statement of a path, and of a choice or a match where the path goes on. An assertion leaves no trace.
pub data Way : Type 0 where
  Put : (slot : ℕ) (e : Ex) → Way
  Decide : (slot : ℕ) (f : Fo) → Way
  New : (slot ty : ℕ) → Way
  Operate : (op : ℕ) (args : Exs) → Way
  Take : (f : Fo) (then_ : Bool) → Way
  TakeArm : (on : Ex) (arm con : ℕ) (slots : List ℕ) → Way
  Begin : Way
  End : Way

-- The same with what it brought: a value, a truth value, an identifier, a call with its arguments, the fields of an arm, the
-- marker call of a transaction.
pub data Done : Type 0 where
  HasPut : (slot : ℕ) (e : Ex) (v : Val) → Done
  HasDecided : (slot : ℕ) (f : Fo) (b : Bool) → Done
  HasMade : (slot ty : ℕ) (id : Val) → Done
  HasOperated : (op : ℕ) (args : Exs) (vs : List Val) (c : ℕ) → Done
  HasTaken : (f : Fo) (b : Bool) → Done
  HasTakenArm : (on : Ex) (arm con : ℕ) (slots : List ℕ) (fields : Vals) → Done
  HasBegun : (mark tx : ℕ) → Done
  HasEnded : Done

-- the statement without what it brought
abbrev pub way : Done → Way
way (HasPut slot e v) = Put slot e
way (HasDecided slot f b) = Decide slot f
way (HasMade slot ty id) = New slot ty
way (HasOperated op args vs c) = Operate op args
way (HasTaken f b) = Take f b
way (HasTakenArm on arm con slots fields) = TakeArm on arm con slots
way (HasBegun mark tx) = Begin
way HasEnded = End

-- Trails are written with what was done last in front.
abbrev pub path_of : List Done → List Way
path_of trail = map way trail

-- the numbers of its branches and arms from 1, the first choice first
abbrev pub choices : List Way → List ℕ
choices [] = []
choices (Take f true ∷ path) = choices path ++ 1 ∷ []
choices (Take f false ∷ path) = choices path ++ 2 ∷ []
choices (TakeArm on arm con slots ∷ path) = choices path ++ arm ∷ []
choices (_ ∷ path) = choices path

-- # What a trail leads to

-- the slots, from those at its start
abbrev pub slots_after : List (Option Val) → List Done → List (Option Val)
slots_after start [] = start
slots_after start (HasPut slot e v ∷ earlier) = slice_set (slots_after start earlier) slot (Some v)
slots_after start (HasDecided slot f b ∷ earlier) = slice_set (slots_after start earlier) slot (Some (truth_val b))
slots_after start (HasMade slot ty id ∷ earlier) = slice_set (slots_after start earlier) slot (Some id)
slots_after start (HasTakenArm on arm con slots fields ∷ earlier) = filled slots fields (slots_after start earlier)
slots_after start (_ ∷ earlier) = slots_after start earlier

-- the calls that are read: the past of the last marker, that marker, and the own calls behind it
abbrev pub reads : List Call → List Done → ℕ → Bool
reads calls [] c = false
reads calls (HasBegun mark tx ∷ earlier) c = before calls c mark || nat_eq c mark
reads calls (HasOperated op args vs own ∷ earlier) c = reads calls earlier c || nat_eq c own
reads calls (_ ∷ earlier) c = reads calls earlier c

-- the open transaction
abbrev pub open_tx : List Done → Option ℕ
open_tx [] = None
open_tx (HasBegun mark tx ∷ earlier) = Some tx
open_tx (HasEnded ∷ earlier) = None
open_tx (_ ∷ earlier) = open_tx earlier

-- the marker of the last transaction, open or not
abbrev pub last_mark : List Done → Option ℕ
last_mark [] = None
last_mark (HasBegun mark tx ∷ earlier) = Some mark
last_mark (_ ∷ earlier) = last_mark earlier

-- a call was done since the last begin
abbrev pub has_operated : List Done → Bool
has_operated [] = false
has_operated (HasBegun mark tx ∷ earlier) = false
has_operated (HasOperated op args vs c ∷ earlier) = true
has_operated (_ ∷ earlier) = has_operated earlier

-- the new identifiers that can't have been told: a commit tells all of them, where a call other than the marker is committed
abbrev pub untold : List Done → List Val
untold [] = []
untold (HasMade slot ty id ∷ earlier) = id ∷ untold earlier
untold (HasEnded ∷ earlier) = if has_operated earlier then [] else untold earlier
untold (_ ∷ earlier) = untold earlier

-- all calls of the trail
abbrev pub own : List Done → List ℕ
own [] = []
own (HasBegun mark tx ∷ earlier) = mark ∷ own earlier
own (HasOperated op args vs c ∷ earlier) = c ∷ own earlier
own (_ ∷ earlier) = own earlier
