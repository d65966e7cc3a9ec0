-- The truth of a parameter and of a constructor.
use Rattle.std.proofs.Common.{◌≡◌, ◌↔◌, ℕ, zero, suc, Bool, true, false, List, [], ◌∷◌, Option, slice_get, unwrap_or, IsTrue, refl, sym, ◌∙◌, ap}
use Rattle.rp_value.specs.Values.{Val, Con}
use Rattle.rp_lang.specs.declared.expr.Expr.{Expr}
use Rattle.rp_lang.specs.declared.expr.Expr.TheVariants as made
use Rattle.rp_lang.specs.Views.{expr_view, exprs_view}
use Rattle.rp_lang.proofs.ExprViews.{expr_view-Slot, expr_view-Con}
use Rattle.event_machine.specs.Propositions.{slot_value, value, values_of, is_true}
use Rattle.event_machine.specs.Goals.{slots_of}

slot_true : (values : List Bool) (slot : ℕ) → is_true (slot_value (slice_get (slots_of values) slot)) ≡ unwrap_or (slice_get values slot) false
slot_true [] slot = refl
slot_true (true ∷ values) zero = refl
slot_true (false ∷ values) zero = refl
slot_true (b ∷ values) (suc slot) = slot_true values slot

-- a parameter is true where its value is
pub is_true-Slot : (values : List Bool) (slot : ℕ) → is_true (value (slots_of values) (expr_view (made.Slot slot))) ≡ unwrap_or (slice_get values slot) false
is_true-Slot values slot = ap (λ e. is_true (value (slots_of values) e)) (expr_view-Slot slot) ∙ slot_true values slot

con_true : (slots : List (Option Val)) (con : ℕ) (args : List Expr) (empty : Bool) → con ≡ 1 → IsTrue empty ↔ (args ≡ []) → empty ≡ is_true (Con con (values_of slots (exprs_view args)))
con_true slots con [] true one is = sym (ap (λ con. is_true (Con con (values_of slots (exprs_view [])))) one)
con_true slots con [] false one is = let e = is.1 refl in cc
con_true slots con (arg ∷ args) true one is = let e = is.0 refl in cc
con_true slots con (arg ∷ args) false one is = sym (ap (λ con. is_true (Con con (values_of slots (exprs_view (arg ∷ args))))) one)

-- constructor 1 is true where it has no arguments
pub is_true-Con : (slots : List (Option Val)) (con : ℕ) (args : List Expr) (empty : Bool) → con ≡ 1 → IsTrue empty ↔ (args ≡ []) → empty ≡ is_true (value slots (expr_view (made.Con con args)))
is_true-Con slots con args empty one is = con_true slots con args empty one is ∙ sym (ap (λ e. is_true (value slots e)) (expr_view-Con con args))
