-- Which schedules have a text, and which texts are those of a schedule.
pub use Rattle.program_names.specs.Called.{atom_is_called, con_is_called, proc_is_called, atom_called, con_called, proc_called, con_makes, con_making, con_meant}
use Rattle.std.specs.Prelude.{ℕ, suc, ◌+◌, ◌-◌, ◌^◌, ◌<◌, ◌≡◌, Bool, true, false, IsTrue, ◌&&◌, ◌||◌, ◌==◌, nat_le, nat_lt, if◌then◌else◌, List, [], ◌∷◌, ◌++◌, Option, Some, None, slice_get}
use Rattle.std.specs.List.{list_all}
use Rattle.rp_span.specs.Places.{newlines}
use Rattle.rp_value.specs.declared.tables.Ty.{Ty}
use Rattle.rp_value.specs.Values.{Val, Int, Str, Atom, Con, Call, Inv, Vals, no_val, also_val}
use Rattle.rp_value.specs.ValueView.{vals_of}
use Rattle.rp_grammar.specs.Bytes.{is_letter, is_name_byte, is_plain}
use Rattle.rp_lang.specs.Programs.{Prog}
use Rattle.rp_lang.specs.Types.{fields_of, datatype_of}
use Rattle.rp_lang.specs.Typing.{proc_params}
use Rattle.crdt_defs.specs.Atoms.{in_range}
use Rattle.event_machine.specs.States as label
use Rattle.event_machine.specs.States.{Label}
use Rattle.schedule_fmt.specs.Texts.{Sched, atom_name, con_name, proc_name, schedule_text}

-- # Names

-- a letter or `_`, and then letters, digits and `_`
abbrev pub is_name : List ℕ → Bool
is_name [] = false
is_name (b ∷ bs) = is_letter b && list_all is_name_byte bs

-- # Values that have a text

-- may stand in a string
abbrev pub is_char : ℕ → Bool
is_char b = b == 10 || b == 34 || b == 92 || is_plain b

abbrev pub Below32 : ℕ → Type 0
Below32 n = n < 2 ^ 32

-- the type has a name, and is the one that its name means
pub record AtomWritable (p : Prog) (ty : ℕ) : Type 0 where
  pub name : IsTrue (is_name (atom_name p ty))
  pub meant : atom_called p (atom_name p ty) ≡ Some ty

-- the constructor has a name, and is the one that its name means where its own type is asked
pub record ConWritable (p : Prog) (con : ℕ) : Type 0 where
  pub name : IsTrue (is_name (con_name p con))
  pub meant : con_meant p (datatype_of p.cons con) (con_name p con) ≡ Some con

pub record ProcWritable (p : Prog) (proc : ℕ) : Type 0 where
  pub name : IsTrue (is_name (proc_name p proc))
  pub meant : proc_called p (proc_name p proc) ≡ Some proc

-- all numbers and names in the value can be written
abbrev mutual
  pub Writable : Prog → Val → Type 0
  Writable p (Int n) = IsTrue (in_range n)
  Writable p (Str bytes) = IsTrue (list_all is_char bytes)
  Writable p (Atom ty n) = AtomWritable p ty × Below32 n
  Writable p (Con con args) = ConWritable p con × AllWritable p args
  Writable p (Call c) = ⊥
  Writable p (Inv i) = ⊥

  pub AllWritable : Prog → Vals → Type 0
  AllWritable p no_val = Unit {0}
  AllWritable p (also_val v vs) = Writable p v × AllWritable p vs

-- at most so many constructors stand inside each other
abbrev mutual
  pub nests_within : ℕ → Val → Bool
  nests_within k (Con con args) = nat_lt 0 k && all_nest_within (k - 1) args
  nests_within k _ = true

  pub all_nest_within : ℕ → Vals → Bool
  all_nest_within k no_val = true
  all_nest_within k (also_val v vs) = nests_within k v && all_nest_within k vs

-- the value has a text
abbrev pub HasText : Prog → Val → Type 0
HasText p v = Writable p v × IsTrue (nests_within 1000 v)

abbrev pub AllHaveText : Prog → Vals → Type 0
AllHaveText p vs = AllWritable p vs × IsTrue (all_nest_within 1000 vs)

-- # Places

-- Each constructor in the value is the one that its name means at its place. The place of an argument asks the type of
-- the constructor's field of the same number, and beyond the fields it asks none.
abbrev mutual
  pub Placed : Prog → Option Ty → Val → Type 0
  Placed p asked (Con con args) = (con_meant p asked (con_name p con) ≡ Some con) × AllPlaced p (fields_of p.cons con) 0 args
  Placed p asked _ = Unit {0}

  -- the values from number i on
  pub AllPlaced : Prog → List Ty → ℕ → Vals → Type 0
  AllPlaced p tys i no_val = Unit {0}
  AllPlaced p tys i (also_val v vs) = Placed p (slice_get tys i) v × AllPlaced p tys (i + 1) vs

-- Each constructor in the value makes the type that its place asks, and each argument stands at a field.
abbrev mutual
  pub Typed : Prog → Ty → Val → Type 0
  Typed p ty (Con con args) = (datatype_of p.cons con ≡ Some ty) × AllTyped p (fields_of p.cons con) 0 args
  Typed p ty _ = Unit {0}

  -- the values from number i on
  pub AllTyped : Prog → List Ty → ℕ → Vals → Type 0
  AllTyped p tys i no_val = Unit {0}
  AllTyped p tys i (also_val v vs) = ((ty : Ty) × (slice_get tys i ≡ Some ty) × Typed p ty v) × AllTyped p tys (i + 1) vs

-- # Lines

-- the numbers are at least `least`, strictly ascending, and below 2^32
abbrev pub are_ascending : ℕ → List ℕ → Bool
are_ascending least [] = true
are_ascending least (n ∷ ns) = nat_le least n && nat_lt n 4294967296 && are_ascending (n + 1) ns

abbrev pub Ascending : List ℕ → Type 0
Ascending ns = IsTrue (are_ascending 0 ns)

-- the label has a line
abbrev pub HasLine : Prog → Label → Type 0
HasLine p (label.Invoke proc args) = ProcWritable p proc × AllHaveText p (vals_of args)
HasLine p (label.Begin inv stamp sees) = Below32 inv × (stamp < 2 ^ 64) × Ascending sees
HasLine p (label.Op inv stamp) = Below32 inv × (stamp < 2 ^ 64)
HasLine p (label.Local inv) = Below32 inv
HasLine p (label.New inv id) = Below32 inv × HasText p id
HasLine p (label.Commit inv) = Below32 inv
HasLine p (label.Return inv) = Below32 inv
HasLine p (label.Fail inv) = Below32 inv
HasLine p (label.Check sees) = Ascending sees

-- the places of a procedure's arguments ask the types of its parameters, and that of a new identifier asks none
abbrev pub LinePlaced : Prog → Label → Type 0
LinePlaced p (label.Invoke proc args) = AllPlaced p (proc_params (slice_get p.procs proc)) 0 (vals_of args)
LinePlaced p (label.New inv id) = Placed p None id
LinePlaced p _ = Unit {0}

abbrev pub IsAtom : Val → Type 0
IsAtom (Atom ty n) = Unit {0}
IsAtom _ = ⊥

-- the arguments have the types of the parameters, as far as constructors go, and a new value is an identifier
abbrev pub LineTyped : Prog → Label → Type 0
LineTyped p (label.Invoke proc args) = AllTyped p (proc_params (slice_get p.procs proc)) 0 (vals_of args)
LineTyped p (label.New inv id) = IsAtom id
LineTyped p _ = Unit {0}

abbrev pub Each : (Label → Type 0) → List Label → Type 0
Each P [] = Unit {0}
Each P (label ∷ labels) = P label × Each P labels

-- # Schedules

-- the schedule has a text
pub record HasScheduleText (p : Prog) (s : Sched) : Type 0 where
  pub universe : Below32 s.universe
  pub labels : Each (HasLine p) s.labels

-- the bytes are the text of the schedule: they are written for it, and mean it
pub record IsText (p : Prog) (s : Sched) (bytes : List ℕ) : Type 0 where
  pub has_text : HasScheduleText p s
  pub placed : Each (LinePlaced p) s.labels
  pub written : bytes ≡ schedule_text p s

-- # Where bytes are no schedule

-- more bytes can make it the text of a schedule
abbrev pub Begins : Prog → List ℕ → Type 0
Begins p bytes = (more : List ℕ) × (s : Sched) × IsText p s (bytes ++ more)

-- the first n lines with their newlines, or all of it where there are no more
abbrev pub first_lines : ℕ → List ℕ → List ℕ
first_lines n [] = []
first_lines n (b ∷ bs) = if n == 0 then [] else b ∷ first_lines (if b == 10 then n - 1 else n) bs

-- Line n is the first such that the text up to its end begins no schedule. Where there is no such line the text ends
-- too early, and n is 1 plus the number of newlines.
pub record IsFaulty (p : Prog) (bytes : List ℕ) (n : ℕ) : Type 0 where
  pub no_text : (s : Sched) → IsText p s bytes → ⊥
  pub before : (m : ℕ) → n ≡ suc m → Begins p (first_lines m bytes)
  pub here : Begins p (first_lines n bytes) → n ≡ 1 + newlines bytes
