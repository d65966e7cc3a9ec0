-- Why bytes are no program's text: they are too many, they have a fault, or their program passes a limit.
use Rattle.std.specs.Prelude.{◌≡◌, ℕ, ◌<◌, ◌≤◌, List, length}
use Rattle.std.specs.declared.option.Option.TheVariants.{Some}
use Rattle.rp_lang.specs.declared.limit.LimitName.{LimitName}
use Rattle.rp_lang.specs.declared.limit.LimitName.TheVariants as limit
use Rattle.rp_grammar.specs.declared.LexFault.{LexFault}
use Rattle.rp_grammar.specs.Lexed.{Faulty}
use Rattle.rp_grammar.specs.Trees.{DeclTree}
use Rattle.rp_grammar.specs.Texts.{IsTextWithin, IsBadAt, IsTooDeepAt}
use Rattle.type_rules.specs.declared.fault.Fault.{Fault}
use Rattle.type_rules.specs.Faults.{IsFirstFault}
use Rattle.desugaring.specs.Limits.{PassesLimit}
use Rattle.rp_span.specs.declared.Pos.{Pos}
use Rattle.rp_span.specs.Places.{place_of}
use Rattle.repliss_cli.specs.declared.report.Report.{Report}
use Rattle.repliss_cli.specs.declared.report.Report.TheVariants.{Lex, Syntax, Limit, Rule}

-- The first fault among the tokens of the bytes is of this kind, and stands there.
pub record IsLexFault (content : List ℕ) (fault : LexFault) (pos : Pos) : Type 0 where
  pub short : length content ≤ 262144
  pub at : ℕ
  pub faulty : Faulty 0 content at fault
  pub stands : pos ≡ place_of content at

-- There stands the first token that can't follow in a program, and no earlier one is nested deeper than 64.
pub record IsSyntaxFault (content : List ℕ) (pos : Pos) : Type 0 where
  pub short : length content ≤ 262144
  pub at : ℕ
  pub bad : IsBadAt 64 content at
  pub stands : pos ≡ place_of content at

-- The bytes up to some token begin a program, and that token is the first that is nested deeper than 64.
pub record IsTooDeepText (content : List ℕ) : Type 0 where
  pub short : length content ≤ 262144
  pub at : ℕ
  pub deep : IsTooDeepAt 64 content at

-- The first broken type rule of the text is this one, and there stands the token at which the offending item begins.
pub record IsBrokenText (content : List ℕ) (rule : ℕ) (pos : Pos) : Type 0 where
  pub short : length content ≤ 262144
  pub tree : List DeclTree
  pub text : IsTextWithin 64 content tree
  pub fault : Fault
  pub first : IsFirstFault tree (Some fault)
  pub broken : rule ≡ fault.rule
  pub stands : pos ≡ place_of content fault.span.from

-- The bytes are a program's text, and the first limit that its program passes is this one.
pub record IsLimitText (content : List ℕ) (passed : LimitName) : Type 0 where
  pub short : length content ≤ 262144
  pub tree : List DeclTree
  pub text : IsTextWithin 64 content tree
  pub passes : PassesLimit tree passed

-- The limit that the bytes pass: on their number, on the nesting of their tokens, or on programs.
pub data IsPastLimit (content : List ℕ) : LimitName → Type 0 where
  past_bytes : 262144 < length content → IsPastLimit content limit.ProgramBytes
  past_nesting : IsTooDeepText content → IsPastLimit content limit.Depth
  past_program : {passed : LimitName} → IsLimitText content passed → IsPastLimit content passed

-- the report refuses the bytes as a program's text, and its cause stands
abbrev pub IsRefusalOf : List ℕ → Report → Type 0
IsRefusalOf content (Lex fault pos) = IsLexFault content fault pos
IsRefusalOf content (Syntax pos) = IsSyntaxFault content pos
IsRefusalOf content (Limit passed) = IsPastLimit content passed
IsRefusalOf content (Rule rule pos) = IsBrokenText content rule pos
IsRefusalOf content report = ⊥
