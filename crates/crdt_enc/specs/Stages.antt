-- What a formula reads, and a structure that fits it.
use Rattle.std.specs.Prelude.{◌≡◌, ◌<◌, IsTrue, ℕ, true, List, length, Some, None, slice_get}
use Rattle.rp_value.specs.declared.tables.Ty.{Ty}
use Rattle.rp_value.specs.Values.{Val}
use Rattle.rp_lang.specs.declared.op.OpDecl.{OpDecl}
use Rattle.rp_lang.specs.declared.query.QueryDecl.{QueryDecl}
use Rattle.rp_lang.specs.Typing.{is_get}
use Rattle.rp_lang.specs.Programs.{Prog, Proc}
use Rattle.rp_lang.specs.WellFormed.{is_well_formed}
use Rattle.crdt_defs.specs.Calls.{Call}
use Rattle.crdt_defs.specs.Parts.{Info, Result, Unreturned, Returned, ReturnedWith}
use Rattle.crdt_defs.specs.Fitting.{fits, all_fit}
use Rattle.crdt_defs.specs.Truths.{Reading, asked}
use Rattle.rp_logic.specs.Truth.{Meaning}
use Rattle.crdt_enc.specs.Places.{At}
use Rattle.crdt_enc.specs.FitsParts.{FitsParts, FitsView, FitsValues}

-- the call is one of an operation of the program, with arguments of its types
abbrev pub CallFits : Prog → Call → Type 0
CallFits p call = (decl : OpDecl) × (slice_get p.ops call.op ≡ Some decl) × (all_fit p decl.args call.args ≡ true)

-- the result is of the type that the procedure gives
abbrev pub ResultFits : Prog → Proc → Result → Type 0
ResultFits p q Unreturned = Unit {0}
ResultFits p q Returned = q.result ≡ None
ResultFits p q (ReturnedWith v) = (t : Ty) × (q.result ≡ Some t) × (fits p t v ≡ true)

-- the invocation is one of a procedure of the program, with arguments and a result of its types
abbrev pub InfoFits : Prog → Info → Type 0
InfoFits p info =
    (q : Proc) × (slice_get p.procs info.proc ≡ Some q) × (all_fit p q.params info.args ≡ true) × ResultFits p q info.result

-- A well-formed program, parts of a state whose values have their types, and a structure that fits the parts, their
-- snapshot and what the queries give there.
pub record Stage (r : Reading) (M : Meaning) (at : At) : Type 0 where
  pub parts : FitsParts r.program M at r.parts
  pub view : FitsView M r.parts.calls at.view r.visible
  pub vals : FitsValues r.program M at r
  pub program : IsTrue (is_well_formed r.program)
  pub origins : (c : ℕ) (call : Call) → slice_get r.parts.calls c ≡ Some call → call.inv < length r.parts.infos
  pub calls_fit : (c : ℕ) (call : Call) → slice_get r.parts.calls c ≡ Some call → CallFits r.program call
  pub infos_fit : (i : ℕ) (info : Info) → slice_get r.parts.infos i ≡ Some info → InfoFits r.program info
  pub answers : (n : ℕ) (query : QueryDecl) (args : List Val) → slice_get r.program.queries n ≡ Some query
      → is_get query.kind ≡ true → all_fit r.program query.args args ≡ true → fits r.program query.result (asked r n args) ≡ true
