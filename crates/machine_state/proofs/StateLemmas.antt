-- What a state is seen as, one invocation or transaction at a time.
use Rattle.std.proofs.Common.{◌≡◌, ℕ, zero, suc, ◌<◌, Bool, false, refl, sym, ap, ◌∙◌, arith, List, [], ◌∷◌, length, Option, Some, None, slice_get}
use Rattle.std.specs.Prelude.{is_some, unwrap_or, not}
use Rattle.std.specs.Option.{option_map_or}
use Rattle.std.proofs.lemmas.Bool.{true≢false}
use Rattle.std.proofs.Math.Path.{fun_ext}
use Rattle.rp_lang.specs.Programs.{Prog}
use Rattle.crdt_defs.specs.Calls.{Call, calls_view}
use Rattle.crdt_defs.specs.Snapshots.{bit}
use Rattle.crdt_truth.specs.declared.reading.Info.{Info}
use Rattle.event_machine.specs.States as seen
use Rattle.event_machine.specs.Machine as spec
use Rattle.machine_state.specs.declared.state.Run.{Run}
use Rattle.machine_state.specs.declared.state.State.{State}
use Rattle.machine_state.specs.StateView.{inv_view, invs_view, txs_view, state_view}

pub nothing : {A : Type 0} (x : A) → None ≡ Some x → ⊥
nothing x e = true≢false (sym (ap is_some e))

-- what two look-ups find is one
pub one_found : {A : Type 0} (o : Option A) (x y : A) → o ≡ Some x → o ≡ Some y → x ≡ y
one_found o x y is_x is_y = ap (λ o. unwrap_or o x) (sym is_x ∙ is_y)

-- something stands at each place of a list
pub some_at : {A : Type 0} (xs : List A) (i : ℕ) → i < length xs → (x : A) × (slice_get xs i ≡ Some x)
some_at [] i lt = absurd (omega arith)
some_at (x ∷ xs) zero lt = (x, refl)
some_at (x ∷ xs) (suc i) lt = some_at xs i (omega arith)

-- # Invocations

pub invs_at : (p : Prog) (calls : List Call) (infos : List Info) (runs : List Run) (i : ℕ) (info : Info) (run : Run)
    → slice_get infos i ≡ Some info → slice_get runs i ≡ Some run → slice_get (invs_view p calls infos runs) i ≡ Some (inv_view p calls info run)
invs_at p calls [] runs i info run is_info is_run = absurd (nothing info is_info)
invs_at p calls (x ∷ infos) [] i info run is_info is_run = absurd (nothing run is_run)
invs_at p calls (x ∷ infos) (r ∷ runs) zero info run is_info is_run =
    ap (λ a. Some (inv_view p calls a r)) (one_found (Some x) x info refl is_info) ∙ ap (λ b. Some (inv_view p calls info b)) (one_found (Some r) r run refl is_run)
invs_at p calls (x ∷ infos) (r ∷ runs) (suc i) info run is_info is_run = invs_at p calls infos runs i info run is_info is_run

pub invs_length : (p : Prog) (calls : List Call) (infos : List Info) (runs : List Run) → length infos ≡ length runs → length (invs_view p calls infos runs) ≡ length runs
invs_length p calls [] [] e = refl
invs_length p calls [] (r ∷ runs) e = absurd (omega arith)
invs_length p calls (x ∷ infos) [] e = absurd (omega arith)
invs_length p calls (x ∷ infos) (r ∷ runs) e = ap suc (invs_length p calls infos runs (omega arith))

-- an invocation with what it is seen as
pub record Viewed (p : Prog) (s : State) (i : ℕ) : Type 0 where
  pub info : Info
  pub run : Run
  pub is_info : slice_get s.infos i ≡ Some info
  pub is_run : slice_get s.runs i ≡ Some run
  pub is : slice_get (state_view p s).invocations i ≡ Some (inv_view p (calls_view s.history) info run)

pub viewed_at : (p : Prog) (s : State) (i : ℕ) (info : Info) (run : Run) → slice_get s.infos i ≡ Some info → slice_get s.runs i ≡ Some run
    → slice_get (state_view p s).invocations i ≡ Some (inv_view p (calls_view s.history) info run)
viewed_at p s i info run is_info is_run = invs_at p (calls_view s.history) s.infos s.runs i info run is_info is_run

pub viewed : (p : Prog) (s : State) (i : ℕ) → length s.infos ≡ length s.runs → i < length s.runs → Viewed p s i
viewed p s i same lt =
    let info = some_at s.infos i (omega arith) in
    let run = some_at s.runs i lt in
    record { info = info.0; run = run.0; is_info = info.1; is_run = run.1; is = viewed_at p s i info.0 run.0 info.1 run.1 }

-- # Transactions

pub txs_length : (owners : List ℕ) (committed : List Bool) → length owners ≡ length committed → length (txs_view owners committed) ≡ length owners
txs_length [] [] e = refl
txs_length [] (b ∷ committed) e = absurd (omega arith)
txs_length (o ∷ owners) [] e = absurd (omega arith)
txs_length (o ∷ owners) (b ∷ committed) e = ap suc (txs_length owners committed (omega arith))

pub tx_committed : (owners : List ℕ) (committed : List Bool) (tx : ℕ) → length owners ≡ length committed
    → option_map_or (λ (t : seen.Tx). t.committed) (slice_get (txs_view owners committed) tx) false ≡ bit committed tx
tx_committed [] [] tx e = refl
tx_committed [] (b ∷ committed) tx e = absurd (omega arith)
tx_committed (o ∷ owners) [] tx e = absurd (omega arith)
tx_committed (o ∷ owners) (b ∷ committed) zero e = refl
tx_committed (o ∷ owners) (b ∷ committed) (suc tx) e = tx_committed owners committed tx (omega arith)

pub open_txs : (p : Prog) (s : State) → length s.owners ≡ length s.committed
    → ◌≡◌ {A = ℕ → Bool} (λ tx. not (bit s.committed tx)) (λ tx. not (spec.is_committed (state_view p s) tx))
open_txs p s e = fun_ext (λ tx. ap not (sym (tx_committed s.owners s.committed tx e)))
