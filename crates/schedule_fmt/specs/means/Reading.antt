-- What reading computes: of a text and a place in it, what stands there and the place behind it.
pub use Rattle.rp_span.specs.Places.{is_newline}
pub use Rattle.rp_grammar.specs.Toks.{escaped as meant_by}
use Rattle.std.specs.Prelude.{ℕ, ℤ, zero, suc, pos, negsuc, not, ◌+◌, ◌-◌, ◌*◌, Bool, false, ◌&&◌, ◌||◌, ◌==◌, ◌++◌, max, Result, Ok, Err, nat_le, if◌then◌else◌, List, [], ◌∷◌, length, take, drop, codes, Option, Some, None, slice_get}
use Rattle.std.specs.List.{prefix_len}
use Rattle.std.specs.Option.{option_map, option_and_then, option_or}
use Rattle.std.specs.Str.{bytes_eq}
use Rattle.rp_value.specs.declared.tables.ConDecl.{ConDecl}
use Rattle.rp_value.specs.declared.tables.Ty.{Ty}
use Rattle.rp_value.specs.Values.{Val, Int, Str, Atom, Con, Vals, no_val, also_val}
use Rattle.rp_grammar.specs.Bytes.{is_digit, is_letter, is_name_byte, is_plain, is_escaped}
use Rattle.rp_lang.specs.Programs.{Prog}
use Rattle.rp_lang.specs.Types.{fields_of}
use Rattle.rp_lang.specs.Typing.{proc_params}
use Rattle.event_machine.specs.States.{Label, Invoke, Begin, Op, Local, New, Commit, Return, Fail, Check}
use Rattle.schedule_fmt.specs.Texts.{Sched}
use Rattle.schedule_fmt.specs.Schedules.{is_name, atom_called, con_meant, proc_called}

infixl 10 ◌>>=◌
abbrev pub ◌>>=◌ : {A B : Type 0} → Option A → (A → Option B) → Option B
o >>= f = option_and_then f o

-- # Bytes and words

abbrev pub begins_with : ℕ → List ℕ → Bool
begins_with b [] = false
begins_with b (c ∷ cs) = c == b

abbrev pub next_is : ℕ → List ℕ → ℕ → Bool
next_is b text at = begins_with b (drop at text)

-- the place behind the word
abbrev pub word : List ℕ → List ℕ → ℕ → Option ℕ
word w text at = if bytes_eq w (take (length w) (drop at text)) then Some (at + length w) else None

-- # Numbers

-- further digits, as long as the number is at most `most`
abbrev pub digits_from : ℕ → ℕ → List ℕ → ℕ → ℕ × ℕ
digits_from most v [] at = (v, at)
digits_from most v (b ∷ bs) at =
    if is_digit b && nat_le (v * 10 + (b - 48)) most then digits_from most (v * 10 + (b - 48)) bs (at + 1) else (v, at)

abbrev pub number_from : ℕ → List ℕ → ℕ → Option (ℕ × ℕ)
number_from most [] at = None
number_from most (b ∷ bs) at =
    if b == 48 then Some (0, at + 1) else (if is_digit b then Some (digits_from most (b - 48) bs (at + 1)) else None)

-- a number without a leading zero, as far as it is at most `most`
abbrev pub number : ℕ → List ℕ → ℕ → Option (ℕ × ℕ)
number most text at = number_from most (drop at text) at

abbrev pub negative : ℕ × ℕ → Option (ℤ × ℕ)
negative r = if r.0 == 0 then None else Some (negsuc (r.0 - 1), r.1)

-- an integer of 64 bits
abbrev pub int : List ℕ → ℕ → Option (ℤ × ℕ)
int text at =
    if next_is 45 text at then number 9223372036854775808 text (at + 1) >>= negative
    else (number 9223372036854775807 text at >>= λ r. Some (pos r.0, r.1))

-- # Strings

-- a byte behind the opening quote; before it the backslash of an escape may stand

abbrev pub ends_string : Bool → ℕ → Bool
ends_string escaped b = not escaped && b == 34

abbrev pub may_stand : Bool → ℕ → Bool
may_stand escaped b = if escaped then is_escaped b else (b == 92 || is_plain b)

abbrev pub opens_escape : Bool → ℕ → Bool
opens_escape escaped b = not escaped && b == 92

abbrev pub added_by : Bool → ℕ → List ℕ
added_by escaped b = if escaped then meant_by b ∷ [] else (if b == 92 then [] else b ∷ [])

abbrev pub put_front : {X : Type 0} → List X → List X × ℕ → List X × ℕ
put_front xs r = (xs ++ r.0, r.1)

-- the characters up to the closing quote
abbrev pub chars_from : List ℕ → Bool → ℕ → Option (List ℕ × ℕ)
chars_from [] escaped at = None
chars_from (b ∷ bs) escaped at =
    if ends_string escaped b then Some ([], at + 1)
    else (if may_stand escaped b then option_map (put_front (added_by escaped b)) (chars_from bs (opens_escape escaped b) (at + 1)) else None)

-- the string whose opening quote stands before the place
abbrev pub string : List ℕ → ℕ → Option (List ℕ × ℕ)
string text at = chars_from (drop at text) false at

-- # Names

abbrev pub name_from : List ℕ → ℕ → Option ℕ
name_from [] at = None
name_from (b ∷ bs) at = if is_letter b then Some (at + 1 + prefix_len is_name_byte bs) else None

-- the place behind the longest name
abbrev pub name_end : List ℕ → ℕ → Option ℕ
name_end text at = name_from (drop at text) at

abbrev pub slice : List ℕ → ℕ → ℕ → List ℕ
slice text from to = take (to - from) (drop from text)

-- # Values

abbrev pub also_arg : Val → Vals × ℕ → Vals × ℕ
also_arg v r = (also_val v r.0, r.1)

-- what stands behind an argument: the closing parenthesis, or a comma and later arguments
abbrev pub args_behind : (ℕ → Option (Vals × ℕ)) → List ℕ → Val × ℕ → Option (Vals × ℕ)
args_behind later text r =
    if next_is 41 text r.1 then Some (also_val r.0 no_val, r.1 + 1)
    else (if next_is 44 text r.1 then option_map (also_arg r.0) (later (r.1 + 1)) else None)

-- The arguments of a constructor behind its opening parenthesis, from number i on, so many at most, at places that ask
-- these types.
abbrev pub args_from : (Option Ty → ℕ → Option (Val × ℕ)) → List ℕ → ℕ → List Ty → ℕ → ℕ → Option (Vals × ℕ)
args_from read text zero tys i at = None
args_from read text (suc k) tys i at = read (slice_get tys i) at >>= args_behind (args_from read text k tys (i + 1)) text

abbrev pub args_by : (Option Ty → ℕ → Option (Val × ℕ)) → List ℕ → List Ty → ℕ → Option (Vals × ℕ)
args_by read text tys at = args_from read text (length text) tys 0 at

-- an id or an opaque value, whose type's name ends at `to`
abbrev pub atom : Prog → List ℕ → ℕ → ℕ → Option (Val × ℕ)
atom p text at to = atom_called p (slice text at to) >>= λ ty. number 4294967295 text (to + 1) >>= λ r. Some (Atom ty r.0, r.1)

abbrev pub con_with : ℕ → Vals × ℕ → Option (Val × ℕ)
con_with c r = Some (Con c r.0, r.1)

-- a constructor, whose name ends at `to`
abbrev pub con : Prog → List ℕ → (List Ty → ℕ → Option (Vals × ℕ)) → Option Ty → ℕ → ℕ → Option (Val × ℕ)
con p text read asked at to = con_meant p asked (slice text at to) >>= λ c.
    if next_is 40 text to then (read (fields_of p.cons c) (to + 1) >>= con_with c)
    else Some (Con c no_val, to)

abbrev pub int_value : List ℕ → ℕ → Option (Val × ℕ)
int_value text at = int text at >>= λ r. Some (Int r.0, r.1)

abbrev pub string_value : List ℕ → ℕ → Option (Val × ℕ)
string_value text at = string text at >>= λ r. Some (Str r.0, r.1)

-- the name at the place may end somewhere
abbrev pub named : Prog → List ℕ → (ℕ → ℕ → Option (Val × ℕ)) → ℕ → Option ℕ → Option (Val × ℕ)
named p text con at None = int_value text at
named p text con at (Some to) = if next_is 35 text to then atom p text at to else con at to

abbrev pub value_by : Prog → List ℕ → (ℕ → ℕ → Option (Val × ℕ)) → ℕ → Option (Val × ℕ)
value_by p text con at = if next_is 34 text at then string_value text (at + 1) else named p text con at (name_end text at)

-- a value with at most so many constructors inside each other, at a place that asks this type, if it asks one
abbrev pub value : Prog → List ℕ → ℕ → Option Ty → ℕ → Option (Val × ℕ)
value p text zero asked at = value_by p text (λ from to. None) at
value p text (suc d) asked at = value_by p text (con p text (args_by (value p text d) text) asked) at

-- the constructor among these values, whose name ends at `to`
abbrev pub con_within : Prog → List ℕ → ℕ → Option Ty → ℕ → ℕ → Option (Val × ℕ)
con_within p text zero asked at to = None
con_within p text (suc d) asked at to = con p text (args_by (value p text d) text) asked at to

unfoldable pub whole_value : Prog → List ℕ → Option Ty → ℕ → Option (Val × ℕ)
whole_value p text asked at = value p text 1000 asked at

-- # Lines

-- one of these, and later ones
abbrev pub also : {X : Type 0} → X → List X × ℕ → List X × ℕ
also x r = (x ∷ r.0, r.1)

abbrev pub numbers_behind : (ℕ → ℕ → Option (List ℕ × ℕ)) → ℕ → ℕ × ℕ → Option (List ℕ × ℕ)
numbers_behind later least r = if nat_le least r.0 then option_map (also r.0) (later (r.0 + 1) r.1) else None

-- numbers, each behind a space, strictly ascending from `least` on, so many at most
abbrev pub numbers_from : List ℕ → ℕ → ℕ → ℕ → Option (List ℕ × ℕ)
numbers_from text zero least at = Some ([], at)
numbers_from text (suc k) least at =
    if next_is 32 text at then (number 4294967295 text (at + 1) >>= numbers_behind (numbers_from text k) least) else Some ([], at)

abbrev pub values_behind : (ℕ → Option (List Val × ℕ)) → Val × ℕ → Option (List Val × ℕ)
values_behind later r = option_map (also r.0) (later r.1)

-- values, each behind a space, from number i on, so many at most, at places that ask these types
abbrev pub values_from : Prog → List ℕ → ℕ → List Ty → ℕ → ℕ → Option (List Val × ℕ)
values_from p text zero tys i at = Some ([], at)
values_from p text (suc k) tys i at =
    if next_is 32 text at then (whole_value p text (slice_get tys i) (at + 1) >>= values_behind (values_from p text k tys (i + 1)))
    else Some ([], at)

abbrev pub numbers : List ℕ → ℕ → Option (List ℕ × ℕ)
numbers text at = numbers_from text (length text) 0 at

abbrev pub values : Prog → List ℕ → List Ty → ℕ → Option (List Val × ℕ)
values p text tys at = values_from p text (length text) tys 0 at

abbrev pub invoke : Prog → List ℕ → ℕ → Option (Label × ℕ)
invoke p text at = name_end text at >>= λ to. proc_called p (slice text at to) >>= λ proc.
    values p text (proc_params (slice_get p.procs proc)) to >>= λ r. Some (Invoke proc r.0, r.1)

abbrev pub begin : List ℕ → ℕ → Option (Label × ℕ)
begin text at = number 4294967295 text at >>= λ i. word (codes " stamp ") text i.1 >>= λ a. number 18446744073709551615 text a >>= λ s.
    word (codes " sees") text s.1 >>= λ b. numbers text b >>= λ r. Some (Begin i.0 s.0 r.0, r.1)

abbrev pub op : List ℕ → ℕ → Option (Label × ℕ)
op text at = number 4294967295 text at >>= λ i. word (codes " stamp ") text i.1 >>= λ a. number 18446744073709551615 text a >>= λ s. Some (Op i.0 s.0, s.1)

abbrev pub new : Prog → List ℕ → ℕ → Option (Label × ℕ)
new p text at = number 4294967295 text at >>= λ i. word (codes " ") text i.1 >>= λ a. whole_value p text None a >>= λ v. Some (New i.0 v.0, v.1)

abbrev pub check : List ℕ → ℕ → Option (Label × ℕ)
check text at = numbers text at >>= λ r. Some (Check r.0, r.1)

-- a label that says its invocation alone
abbrev pub plain : (ℕ → Label) → List ℕ → ℕ → Option (Label × ℕ)
plain f text at = number 4294967295 text at >>= λ i. Some (f i.0, i.1)

-- what stands behind the word, or else the other
abbrev pub behind : Option ℕ → (ℕ → Option (Label × ℕ)) → Option (Label × ℕ) → Option (Label × ℕ)
behind None f other = other
behind (Some at) f other = f at

abbrev pub short_label : List ℕ → Option (Label × ℕ)
short_label text =
    behind (word (codes "local ") text 0) (plain Local text)
    (behind (word (codes "commit ") text 0) (plain Commit text)
    (behind (word (codes "return ") text 0) (plain Return text)
    (behind (word (codes "fail ") text 0) (plain Fail text)
    None)))

abbrev pub front_label : Prog → List ℕ → Option (Label × ℕ)
front_label p text =
    behind (word (codes "invoke ") text 0) (invoke p text)
    (behind (word (codes "begin ") text 0) (begin text)
    (behind (word (codes "op ") text 0) (op text)
    (behind (word (codes "new ") text 0) (new p text)
    (behind (word (codes "check") text 0) (check text)
    (short_label text)))))

-- the text ends at the place
abbrev pub ends : List ℕ → ℕ → Bool
ends text at = length (drop at text) == 0

abbrev pub whole_label : List ℕ → Label × ℕ → Option Label
whole_label text r = if ends text r.1 then Some r.0 else None

-- the label that the whole line is
unfoldable pub label : Prog → List ℕ → Option Label
label p text = front_label p text >>= whole_label text

-- # Schedules

abbrev pub put_label : Label → Result (List Label) ℕ → Result (List Label) ℕ
put_label l (Err n) = Err n
put_label l (Ok ls) = Ok (l ∷ ls)

abbrev pub line_ended : Option Label → Result (List Label) ℕ → ℕ → Result (List Label) ℕ
line_ended None later n = Err n
line_ended (Some l) later n = put_label l later

-- at the end of a text no line is open
abbrev pub at_end : List ℕ → ℕ → Result (List Label) ℕ
at_end [] n = Ok []
at_end (b ∷ front) n = Err n

-- the labels, of which the first bytes of the first line, number n, are read; or the number of the first faulty line
abbrev pub labels_from : Prog → List ℕ → List ℕ → ℕ → Result (List Label) ℕ
labels_from p front [] n = at_end front n
labels_from p front (b ∷ bs) n = if b == 10 then line_ended (label p front) (labels_from p [] bs (n + 1)) n else labels_from p (front ++ b ∷ []) bs n

abbrev pub with_universe : ℕ → Result (List Label) ℕ → Result Sched ℕ
with_universe u (Err n) = Err n
with_universe u (Ok ls) = Ok (record { universe = u; labels = ls })

-- the first line, of which the front is read, and what stands behind its newline
abbrev pub cut_line : List ℕ → List ℕ → Option (List ℕ × List ℕ)
cut_line front [] = None
cut_line front (b ∷ bs) = if b == 10 then Some (front, bs) else cut_line (front ++ b ∷ []) bs

-- the universe that the whole line tells
abbrev pub whole_universe : List ℕ → ℕ × ℕ → Option ℕ
whole_universe text r = if ends text r.1 then Some r.0 else None

unfoldable pub universe : List ℕ → Option ℕ
universe text = word (codes "universe ") text 0 >>= λ at. number 4294967295 text at >>= whole_universe text

abbrev pub labels_behind : Prog → List ℕ → Option ℕ → Result Sched ℕ
labels_behind p rest None = Err 2
labels_behind p rest (Some u) = with_universe u (labels_from p [] rest 3)

abbrev pub universe_behind : Prog → Option (List ℕ × List ℕ) → Result Sched ℕ
universe_behind p None = Err 2
universe_behind p (Some r) = labels_behind p r.1 (universe r.0)

abbrev pub header : List ℕ
header = codes "repliss-schedule 1"

abbrev pub header_behind : Prog → Option (List ℕ × List ℕ) → Result Sched ℕ
header_behind p None = Err 1
header_behind p (Some r) = if bytes_eq header r.0 then universe_behind p (cut_line [] r.1) else Err 1

-- the schedule, or the number of the first faulty line
abbrev pub schedule : Prog → List ℕ → Result Sched ℕ
schedule p text = header_behind p (cut_line [] text)

-- # Values that end where they may

-- the length of the constructor's name where the bytes begin with it
abbrev pub front_len : List ℕ → ConDecl → ℕ
front_len bytes con = if is_name con.name && bytes_eq con.name (take (length con.name) bytes) then length con.name else 0

abbrev pub longest_name : List ℕ → List ConDecl → ℕ
longest_name bytes [] = 0
longest_name bytes (con ∷ cons) = max (front_len bytes con) (longest_name bytes cons)

-- the longest constructor without arguments
abbrev pub bare_of : Prog → List ℕ → Option Ty → ℕ → ℕ → Option (Val × ℕ)
bare_of p text asked at n = if n == 0 then None else (con_meant p asked (slice text at (at + n)) >>= λ c. Some (Con c no_val, at + n))

abbrev pub bare : Prog → List ℕ → Option Ty → ℕ → Option (Val × ℕ)
bare p text asked at = bare_of p text asked at (longest_name (drop at text) p.cons.cons)

-- the longest value
abbrev pub longest_value : Prog → List ℕ → Option Ty → ℕ → Option (Val × ℕ)
longest_value p text asked at = option_or (whole_value p text asked at) (bare p text asked at)
