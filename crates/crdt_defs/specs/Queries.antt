-- What a query answers, by the type of its root, its path and its kind.
use Rattle.std.specs.Prelude.{ℕ, ◌+◌, Bool, false, List, [], ◌∷◌, Option, Some, None, slice_get}
use Rattle.rp_value.specs.Values.{Val}
use Rattle.rp_lang.specs.Crdts.{Cr, SetAw, SetRw, Reg, MvReg, Counter, MapUw, MapDw}
use Rattle.rp_lang.specs.Paths.{field_in, root_crdt}
use Rattle.rp_lang.specs.Programs.{Rt, Prog}
use Rattle.rp_lang.specs.declared.op.OpDecl.{OpDecl}
use Rattle.rp_lang.specs.declared.op.PathStep.{PathStep}
use Rattle.rp_lang.specs.declared.op.PathStep.TheVariants.{Field, Key}
use Rattle.rp_lang.specs.declared.query.QueryDecl.{QueryDecl}
use Rattle.rp_lang.specs.declared.query.QueryKind.{QueryKind}
use Rattle.rp_lang.specs.declared.query.QueryKind.TheVariants.{Contains, HasKey, GetReg, GetSum}
use Rattle.crdt_defs.specs.declared.asked.Answer.{Answer}
use Rattle.crdt_defs.specs.declared.asked.Answer.TheVariants.{Truth, Value}
use Rattle.crdt_defs.specs.declared.asked.Found.{Found}
use Rattle.crdt_defs.specs.declared.asked.Found.TheVariants.{Sum, At, Nothing}
use Rattle.crdt_defs.specs.declared.asked.Question.{Question}
use Rattle.crdt_defs.specs.declared.asked.Question.TheVariants.{AddWins, RemoveWins, ManyValues, Latest, Total, AtKey, NoQuestion}
use Rattle.crdt_defs.specs.declared.asked.Winner.{Winner}
use Rattle.crdt_defs.specs.declared.asked.Winner.TheVariants.{Update, Delete}
use Rattle.crdt_defs.specs.Calls.{Call}
use Rattle.crdt_defs.specs.Histories.{some_call}
use Rattle.crdt_defs.specs.Doing.{on_root}
use Rattle.crdt_defs.specs.Meaning.{among, in_field, at_key, contains_add_wins, contains_remove_wins, contains_value, latest, counter_sum}

-- what a kind of query asks of a type
abbrev pub question : Cr → QueryKind → Question
question (SetAw ty) Contains = AddWins
question (SetRw ty) Contains = RemoveWins
question (MvReg ty) Contains = ManyValues
question (Reg ty) GetReg = Latest
question Counter GetSum = Total
question (MapUw ty at_each) HasKey = AtKey Update
question (MapDw ty at_each) HasKey = AtKey Delete
question _ _ = NoQuestion

abbrev pub at_call : Option ℕ → Found
at_call None = Nothing
at_call (Some c) = At c

-- the answer at the calls that count at the end of a path of `depth` steps
abbrev pub answer_at : List OpDecl → List Call → ℕ → (ℕ → Bool) → Question → List Val → Answer
answer_at ops h depth counted AddWins (x ∷ []) = Truth (contains_add_wins ops h counted x)
answer_at ops h depth counted RemoveWins (x ∷ []) = Truth (contains_remove_wins ops h counted x)
answer_at ops h depth counted ManyValues (x ∷ []) = Truth (contains_value ops h counted x)
answer_at ops h depth counted (AtKey winner) (k ∷ []) = Truth (some_call h (at_key ops h winner depth k counted))
answer_at ops h depth counted Latest [] = Value (at_call (latest ops h counted))
answer_at ops h depth counted Total [] = Value (Sum (counter_sum ops h counted))
answer_at ops h depth counted _ _ = Truth false

-- the type at each key of a map
abbrev pub held_in : Cr → Option Cr
held_in (MapUw keys at_each) = Some at_each
held_in (MapDw keys at_each) = Some at_each
held_in _ = None

-- what a map keeps
abbrev pub winner_in : Cr → Winner
winner_in (MapDw keys at_each) = Delete
winner_in _ = Update

-- the answer where so many steps were taken, to this type, and the path leads on
abbrev pub ask : List OpDecl → List Call → QueryKind → Option Cr → List PathStep → ℕ → (ℕ → Bool) → List Val → Answer
ask ops h kind None path depth counted args = Truth false
ask ops h kind (Some crdt) [] depth counted args = answer_at ops h depth counted (question crdt kind) args
ask ops h kind (Some crdt) (Field n ∷ path) depth counted args =
    ask ops h kind (field_in crdt n) path (depth + 1) (in_field ops h depth n counted) args
ask ops h kind (Some crdt) (Key ty ∷ path) depth counted [] = Truth false
ask ops h kind (Some crdt) (Key ty ∷ path) depth counted (k ∷ args) =
    ask ops h kind (held_in crdt) path (depth + 1) (at_key ops h (winner_in crdt) depth k counted) args

-- the answer of a query at the visible calls
abbrev pub answer_to : List Rt → List OpDecl → QueryDecl → List Call → (ℕ → Bool) → List Val → Answer
answer_to roots ops query h visible args =
    ask ops h query.kind (root_crdt (slice_get roots query.root)) query.path 0 (among h visible (on_root ops query.root)) args

abbrev pub answer_by : Prog → Option QueryDecl → List Call → (ℕ → Bool) → List Val → Answer
answer_by p None h visible args = Truth false
answer_by p (Some query) h visible args = answer_to p.roots p.ops query h visible args

-- the answer of a program's query by its number
abbrev pub answer_in : Prog → ℕ → List Call → (ℕ → Bool) → List Val → Answer
answer_in p query = answer_by p (slice_get p.queries query)

abbrev pub is_true : Answer → Bool
is_true (Truth holds) = holds
is_true (Value found) = false

abbrev pub found_in : Answer → Found
found_in (Truth holds) = Nothing
found_in (Value found) = found
