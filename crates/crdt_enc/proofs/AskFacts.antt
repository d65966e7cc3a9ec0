-- A query that isn't a `get` answers a truth, and its arguments fit.
use Rattle.std.proofs.Common.{◌≡◌, ℕ, List, [], ◌∷◌, ◌+◌, slice_get, Bool, true, false, Option, Some, None, refl, sym, ap, ◌∙◌, ◌⊎◌, inl, inr}
use Rattle.rp_value.specs.Values.{Val}
use Rattle.rp_lang.specs.Crdts.{Cr, SetAw, SetRw, Reg, MvReg, Counter, MapUw, MapDw, Struct}
use Rattle.rp_lang.specs.declared.op.OpDecl.{OpDecl}
use Rattle.rp_lang.specs.declared.op.OpKind.{OpKind}
use Rattle.rp_lang.specs.declared.op.OpKind.TheVariants.{Tx}
use Rattle.rp_lang.specs.declared.op.PathStep.{PathStep}
use Rattle.rp_lang.specs.declared.op.PathStep.TheVariants.{Field, Key}
use Rattle.rp_lang.specs.declared.query.QueryKind.{QueryKind}
use Rattle.rp_lang.specs.declared.query.QueryKind.TheVariants.{Contains, HasKey, GetReg, GetSum}
use Rattle.rp_lang.specs.Paths.{is_tx, is_op, is_tx_kind, is_no_path, field_in, root_crdt}
use Rattle.rp_lang.specs.Typing.{is_get}
use Rattle.rp_lang.specs.Programs.{Prog}
use Rattle.crdt_defs.specs.Calls.{Call}
use Rattle.crdt_defs.specs.declared.asked.Answer.{Answer}
use Rattle.crdt_defs.specs.declared.asked.Answer.TheVariants.{Truth}
use Rattle.crdt_defs.specs.declared.asked.Question.TheVariants as asks
use Rattle.crdt_defs.specs.declared.asked.Question.{Question}
use Rattle.crdt_defs.specs.declared.asked.Question.TheVariants.{AddWins, RemoveWins, ManyValues, Latest, Total, NoQuestion}
use Rattle.crdt_defs.specs.Queries.{question, answer_at, ask, held_in, winner_in, answer_by}
use Rattle.crdt_defs.specs.Meaning.{among, in_field, at_key}
use Rattle.crdt_defs.specs.Doing.{on_root}
use Rattle.crdt_defs.specs.Truths.{Reading}
use Rattle.rp_logic.specs.Truth.{Meaning}
use Rattle.std.proofs.lemmas.Bool.{and_parts}
use Rattle.rp_logic.proofs.SortLaws.{no}
use Rattle.crdt_enc.specs.Places.{At}
use Rattle.crdt_enc.proofs.StageFacts.{Staged}
use Rattle.crdt_enc.proofs.ProgramLaws.{IsTx, OpsStand, question-fits}
use Rattle.crdt_enc.proofs.FormulaLaws.{Asks}

abbrev IsTruth : Answer → Type 0
IsTruth a = (b : Bool) × (a ≡ Truth b)

abbrev is_yes_no : Question → Bool
is_yes_no Latest = false
is_yes_no Total = false
is_yes_no _ = true

answers-truth : (ops : List OpDecl) (h : List Call) (depth : ℕ) (counted : ℕ → Bool) (q : Question) (args : List Val) → is_yes_no q ≡ true → IsTruth (answer_at ops h depth counted q args)
answers-truth ops h depth counted AddWins [] e = (_, refl)
answers-truth ops h depth counted AddWins (x ∷ []) e = (_, refl)
answers-truth ops h depth counted AddWins (x ∷ y ∷ ys) e = (_, refl)
answers-truth ops h depth counted RemoveWins [] e = (_, refl)
answers-truth ops h depth counted RemoveWins (x ∷ []) e = (_, refl)
answers-truth ops h depth counted RemoveWins (x ∷ y ∷ ys) e = (_, refl)
answers-truth ops h depth counted ManyValues [] e = (_, refl)
answers-truth ops h depth counted ManyValues (x ∷ []) e = (_, refl)
answers-truth ops h depth counted ManyValues (x ∷ y ∷ ys) e = (_, refl)
answers-truth ops h depth counted (asks.AtKey w) [] e = (_, refl)
answers-truth ops h depth counted (asks.AtKey w) (x ∷ []) e = (_, refl)
answers-truth ops h depth counted (asks.AtKey w) (x ∷ y ∷ ys) e = (_, refl)
answers-truth ops h depth counted NoQuestion [] e = (_, refl)
answers-truth ops h depth counted NoQuestion (x ∷ []) e = (_, refl)
answers-truth ops h depth counted NoQuestion (x ∷ y ∷ ys) e = (_, refl)
answers-truth ops h depth counted Latest args e = no e
answers-truth ops h depth counted Total args e = no e

yes-no : (crdt : Cr) (kind : QueryKind) → is_get kind ≡ false → is_yes_no (question crdt kind) ≡ true
yes-no (SetAw ty) Contains e = refl
yes-no (SetAw ty) HasKey e = refl
yes-no (SetRw ty) Contains e = refl
yes-no (SetRw ty) HasKey e = refl
yes-no (Reg ty) Contains e = refl
yes-no (Reg ty) HasKey e = refl
yes-no (MvReg ty) Contains e = refl
yes-no (MvReg ty) HasKey e = refl
yes-no Counter Contains e = refl
yes-no Counter HasKey e = refl
yes-no (MapUw ks c) Contains e = refl
yes-no (MapUw ks c) HasKey e = refl
yes-no (MapDw ks c) Contains e = refl
yes-no (MapDw ks c) HasKey e = refl
yes-no (Struct fs) Contains e = refl
yes-no (Struct fs) HasKey e = refl
yes-no crdt GetReg e = no (sym e)
yes-no crdt GetSum e = no (sym e)

asks-truth : (ops : List OpDecl) (h : List Call) (kind : QueryKind) → is_get kind ≡ false → (crdt : Option Cr) (path : List PathStep) (depth : ℕ) (counted : ℕ → Bool) (args : List Val)
    → IsTruth (ask ops h kind crdt path depth counted args)
asks-truth ops h kind e None path depth counted args = (false, refl)
asks-truth ops h kind e (Some crdt) [] depth counted args = answers-truth ops h depth counted (question crdt kind) args (yes-no crdt kind e)
asks-truth ops h kind e (Some crdt) (Field n ∷ path) depth counted args = asks-truth ops h kind e (field_in crdt n) path (depth + 1) (in_field ops h depth n counted) args
asks-truth ops h kind e (Some crdt) (Key ty ∷ path) depth counted [] = (false, refl)
asks-truth ops h kind e (Some crdt) (Key ty ∷ path) depth counted (k ∷ args) = asks-truth ops h kind e (held_in crdt) path (depth + 1) (at_key ops h (winner_in crdt) depth k counted) args

tx-is : (decl : OpDecl) → is_tx decl ≡ true → IsTx decl
tx-is decl h =
    let a = and_parts _ _ h in
    let b = and_parts _ _ a.0 in
    let c = and_parts _ _ b.0 in
    record { path = none decl.path b.1; kind = tx decl.kind c.0 }
  where
    none : (path : List PathStep) → is_no_path path ≡ true → path ≡ []
    none [] h = refl
    none (step ∷ path) h = no h

    tx : (kind : OpKind) → is_tx_kind kind ≡ true → kind ≡ Tx
    tx Tx h = refl
    tx _ h = no h

pub ops-stand : (p : Prog) → ((o : ℕ) (decl : OpDecl) → slice_get p.ops o ≡ Some decl → (is_tx decl ≡ true) ⊎ (is_op p.roots decl ≡ true)) → OpsStand p
ops-stand p h o decl e = elim (h o decl e) [
  | inl tx ↦ inl (tx-is decl tx)
  | inr is ↦ inr (and_parts _ _ is).1
]

pub asks-of : (r : Reading) (M : Meaning) (at : At) → Staged r M at → Asks r
asks-of r M at stage = record {
  fit = λ n query args e get f.
      question-fits r.program (ops-stand r.program stage.ops_stand) query args (and_parts _ _ (stage.queries_stand n query e)).1 f;
  answers = λ n query args e get.
      let t = asks-truth r.program.ops r.parts.calls query.kind get (root_crdt (slice_get r.program.roots query.root)) query.path 0 (among r.parts.calls r.visible (on_root r.program.ops query.root)) args in
      (t.0, ap (λ q. answer_by r.program q r.parts.calls r.visible args) e ∙ t.1);
}
