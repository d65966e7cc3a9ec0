-- What stands at the front, computed.
use Rattle.std.specs.Prelude.{ℕ, ◌+◌, ◌-◌, ◌*◌, Bool, true, false, ◌||◌, ◌==◌, nat_le, if◌then◌else◌, List, [], ◌∷◌, length, take, drop, slice_index}
use Rattle.std.specs.List.{prefix_len}
use Rattle.rp_grammar.specs.Bytes.{is_blank, is_letter, is_digit, is_name_byte, is_plain, is_escaped, is_inline, is_one_of, reserved, greatest}
use Rattle.rp_grammar.specs.declared.TokenKind.{TokenKind}
use Rattle.rp_grammar.specs.declared.TokenKind.TheVariants as kind
use Rattle.rp_grammar.specs.declared.LexFault.TheVariants as fault
use Rattle.rp_grammar.specs.declared.Piece.{Piece}
use Rattle.rp_grammar.specs.declared.Piece.TheVariants as piece

-- n bytes of a string are read; a backslash may be read besides
abbrev pub string_from : List ℕ → Bool → ℕ → Piece
string_from [] true n = piece.Fault n fault.BadByte
string_from [] false n = piece.Fault 0 fault.OpenString
string_from (b ∷ bs) true n = if is_escaped b then string_from bs false (n + 2) else piece.Fault n fault.BadByte
string_from (b ∷ bs) false n =
    if b == 34 then piece.Token kind.Str (n + 1)
    else (if b == 92 then string_from bs true n
    else (if is_plain b then string_from bs false (n + 1)
    else (if b == 10 then piece.Fault 0 fault.OpenString
    else piece.Fault n fault.BadByte)))

-- the digits' number, n of them read with value v, is in range
abbrev pub number_from : List ℕ → ℕ → ℕ → Piece
number_from [] v n = if nat_le v greatest then piece.Token kind.Int n else piece.Fault 0 fault.NumberRange
number_from (b ∷ bs) v n =
    if is_digit b then number_from bs (v * 10 + (b - 48)) (n + 1)
    else (if nat_le v greatest then piece.Token kind.Int n else piece.Fault 0 fault.NumberRange)

abbrev pub name_kind : List ℕ → TokenKind
name_kind text = if is_one_of reserved text then kind.Word else kind.Name

-- is a symbol and begins no longer one
abbrev pub is_single : ℕ → Bool
is_single b = b == 123 || b == 125 || b == 40 || b == 41 || b == 91 || b == 93 || b == 44 || b == 59 || b == 46 || b == 43 || b == 45

-- the length of the longest symbol that these bytes begin with, or 0
abbrev pub symbol_len : ℕ → ℕ → ℕ → ℕ
symbol_len a b c =
    if is_single a then 1
    else (if a == 58 then (if b == 58 then 2 else 1)
    else (if a == 61 then (if b == 61 then (if c == 62 then 3 else 2) else (if b == 62 then 2 else 1))
    else (if a == 33 || a == 60 || a == 62 then (if b == 61 then 2 else 1)
    else (if a == 38 then (if b == 38 then 2 else 0)
    else (if a == 124 then (if b == 124 then 2 else 1)
    else 0)))))

abbrev pub symbol_piece : ℕ → Piece
symbol_piece n = if n == 0 then piece.Fault 0 fault.BadByte else piece.Token kind.Symbol n

abbrev pub mark_piece : ℕ → List ℕ → Piece
mark_piece a rest =
    if a == 47 then (if slice_index rest 0 == 47 then piece.Gap (2 + prefix_len is_inline (drop 1 rest)) else piece.Fault 0 fault.BadByte)
    else symbol_piece (symbol_len a (slice_index rest 0) (slice_index rest 1))

abbrev pub piece_of : List ℕ → Piece
piece_of [] = piece.Ended
piece_of (b ∷ rest) =
    if is_letter b then (let n = 1 + prefix_len is_name_byte rest in piece.Token (name_kind (take n (b ∷ rest))) n)
    else (if is_blank b then piece.Gap 1
    else (if is_digit b then number_from (b ∷ rest) 0 0
    else (if b == 34 then string_from rest false 1
    else mark_piece b rest)))
