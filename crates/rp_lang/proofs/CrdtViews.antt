-- What each variant of a replicated data type is seen as.
use Rattle.std.proofs.Common.{◌≡◌, List, ap, sym, ◌∙◌}
use Rattle.rp_value.specs.declared.tables.Ty.{Ty}
use Rattle.rp_lang.specs.declared.crdt.Crdt.{Crdt}
use Rattle.rp_lang.specs.declared.crdt.Field.{Field}
use Rattle.rp_lang.specs.declared.crdt.Crdt.TheVariants as made
use Rattle.rp_lang.specs.declared.crdt.Crdt.TheOpen as layer
use Rattle.rp_lang.specs.declared.crdt.Crdt.TheFolds.{fold-roll-Crdt, fold_out-Field}
use Rattle.rp_lang.specs.Crdts as cr
use Rattle.rp_lang.specs.Crdts.{Cr}
use Rattle.rp_lang.specs.Views.{FieldView, crdt_step, field_step, crdt_view, crdt_field_view, crdt_fields_view}

pub crdt_view-SetAw : (ty : Ty) → crdt_view (made.SetAw ty) ≡ cr.SetAw ty
crdt_view-SetAw ty = ap crdt_view (sym (made.rolls-SetAw ty)) ∙ fold-roll-Crdt Cr FieldView crdt_step field_step (layer.SetAw ty)

pub crdt_view-SetRw : (ty : Ty) → crdt_view (made.SetRw ty) ≡ cr.SetRw ty
crdt_view-SetRw ty = ap crdt_view (sym (made.rolls-SetRw ty)) ∙ fold-roll-Crdt Cr FieldView crdt_step field_step (layer.SetRw ty)

pub crdt_view-Reg : (ty : Ty) → crdt_view (made.Reg ty) ≡ cr.Reg ty
crdt_view-Reg ty = ap crdt_view (sym (made.rolls-Reg ty)) ∙ fold-roll-Crdt Cr FieldView crdt_step field_step (layer.Reg ty)

pub crdt_view-MvReg : (ty : Ty) → crdt_view (made.MvReg ty) ≡ cr.MvReg ty
crdt_view-MvReg ty = ap crdt_view (sym (made.rolls-MvReg ty)) ∙ fold-roll-Crdt Cr FieldView crdt_step field_step (layer.MvReg ty)

pub crdt_view-Counter : crdt_view made.Counter ≡ cr.Counter
crdt_view-Counter = ap crdt_view (sym made.rolls-Counter) ∙ fold-roll-Crdt Cr FieldView crdt_step field_step layer.Counter

pub crdt_view-MapUw : (keys : Ty) (c : Crdt) → crdt_view (made.MapUw keys c) ≡ cr.MapUw keys (crdt_view c)
crdt_view-MapUw keys c = ap crdt_view (sym (made.rolls-MapUw keys c)) ∙ fold-roll-Crdt Cr FieldView crdt_step field_step (layer.MapUw keys c)

pub crdt_view-MapDw : (keys : Ty) (c : Crdt) → crdt_view (made.MapDw keys c) ≡ cr.MapDw keys (crdt_view c)
crdt_view-MapDw keys c = ap crdt_view (sym (made.rolls-MapDw keys c)) ∙ fold-roll-Crdt Cr FieldView crdt_step field_step (layer.MapDw keys c)

pub crdt_view-Struct : (fields : List Field) → crdt_view (made.Struct fields) ≡ cr.Struct (crdt_fields_view fields)
crdt_view-Struct fields = ap crdt_view (sym (made.rolls-Struct fields)) ∙ fold-roll-Crdt Cr FieldView crdt_step field_step (layer.Struct fields)

pub crdt_field_view-parts : (f : Field) → crdt_field_view f ≡ (f.name, crdt_view f.crdt)
crdt_field_view-parts f = fold_out-Field Cr FieldView crdt_step field_step f

pub ruleset crdt_views = (crdt_field_view-parts, crdt_view-SetAw, crdt_view-SetRw, crdt_view-Reg, crdt_view-MvReg, crdt_view-Counter, crdt_view-MapUw, crdt_view-MapDw, crdt_view-Struct)
