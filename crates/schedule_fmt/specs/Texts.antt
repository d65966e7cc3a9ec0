-- The text of a schedule, and of the values in it.
pub use Rattle.program_names.specs.Called.{atom_name_in, con_name_in, proc_name_in, atom_name, con_name, proc_name}
use Rattle.std.specs.Prelude.{ℕ, ◌||◌, ◌==◌, if◌then◌else◌, List, [], ◌∷◌, ◌++◌, codes}
use Rattle.std.specs.Fmt.{decimal, signed_decimal}
use Rattle.rp_value.specs.Values.{Val, Int, Str, Atom, Con, Vals, no_val, also_val}
use Rattle.rp_value.specs.ValueView.{vals_of}
use Rattle.rp_lang.specs.Programs.{Prog}
use Rattle.event_machine.specs.States.{Label, Invoke, Begin, Op, Local, New, Commit, Return, Fail, Check}

-- A schedule as definitions speak of it.
pub record Sched : Type 0 where
  pub universe : ℕ
  pub labels : List Label

abbrev pub sched : ℕ → List Label → Sched
sched u labels = record { universe = u; labels = labels }

-- # Values

-- a byte of a string as it is written
abbrev pub written : ℕ → List ℕ
written b = if b == 10 then 92 ∷ 110 ∷ [] else (if b == 34 || b == 92 then 92 ∷ b ∷ [] else b ∷ [])

abbrev pub escape : List ℕ → List ℕ
escape [] = []
escape (b ∷ bs) = written b ++ escape bs

abbrev pub string_text : List ℕ → List ℕ
string_text bytes = 34 ∷ (escape bytes ++ 34 ∷ [])

abbrev pub atom_text : Prog → ℕ → ℕ → List ℕ
atom_text p ty n = atom_name p ty ++ 35 ∷ decimal n

-- an Int in digits, a string in quotes, `NAME#N`, or a constructor with its arguments in parentheses
abbrev mutual
  pub value_text : Prog → Val → List ℕ
  value_text p (Int n) = signed_decimal n
  value_text p (Str bytes) = string_text bytes
  value_text p (Atom ty n) = atom_text p ty n
  value_text p (Con con args) = con_name p con ++ args_text p args
  value_text p _ = []

  pub args_text : Prog → Vals → List ℕ
  args_text p no_val = []
  args_text p (also_val v vs) = 40 ∷ (value_text p v ++ more_args_text p vs)

  pub more_args_text : Prog → Vals → List ℕ
  more_args_text p no_val = 41 ∷ []
  more_args_text p (also_val v vs) = 44 ∷ (value_text p v ++ more_args_text p vs)

-- # Lines

-- each number behind a space
abbrev pub numbers_text : List ℕ → List ℕ
numbers_text [] = []
numbers_text (n ∷ ns) = 32 ∷ (decimal n ++ numbers_text ns)

-- each value behind a space
abbrev pub values_text : Prog → Vals → List ℕ
values_text p no_val = []
values_text p (also_val v vs) = 32 ∷ (value_text p v ++ values_text p vs)

abbrev pub invoke_text : Prog → ℕ → Vals → List ℕ
invoke_text p proc args = codes "invoke " ++ (proc_name p proc ++ values_text p args)

abbrev pub begin_text : (inv stamp : ℕ) → List ℕ → List ℕ
begin_text inv stamp sees = codes "begin " ++ (decimal inv ++ (codes " stamp " ++ (decimal stamp ++ (codes " sees" ++ numbers_text sees))))

abbrev pub op_text : (inv stamp : ℕ) → List ℕ
op_text inv stamp = codes "op " ++ (decimal inv ++ (codes " stamp " ++ decimal stamp))

abbrev pub new_text : Prog → ℕ → Val → List ℕ
new_text p inv id = codes "new " ++ (decimal inv ++ 32 ∷ value_text p id)

abbrev pub check_text : List ℕ → List ℕ
check_text sees = codes "check" ++ numbers_text sees

abbrev pub label_text : Prog → Label → List ℕ
label_text p (Invoke proc args) = invoke_text p proc (vals_of args)
label_text p (Begin inv stamp sees) = begin_text inv stamp sees
label_text p (Op inv stamp) = op_text inv stamp
label_text p (Local inv) = codes "local " ++ decimal inv
label_text p (New inv id) = new_text p inv id
label_text p (Commit inv) = codes "commit " ++ decimal inv
label_text p (Return inv) = codes "return " ++ decimal inv
label_text p (Fail inv) = codes "fail " ++ decimal inv
label_text p (Check sees) = check_text sees

-- a line ends with a newline
abbrev pub line : List ℕ → List ℕ
line text = text ++ 10 ∷ []

abbrev pub labels_text : Prog → List Label → List ℕ
labels_text p [] = []
labels_text p (label ∷ labels) = line (label_text p label) ++ labels_text p labels

-- two lines, and one for each label
abbrev pub schedule_text : Prog → Sched → List ℕ
schedule_text p s = line (codes "repliss-schedule 1") ++ (line (codes "universe " ++ decimal s.universe) ++ labels_text p s.labels)
