-- The types of fields and of roots.
use Rattle.std.proofs.Common.{◌≡◌, ℕ, zero, suc, List, [], ◌∷◌, map, Option, Some, None, slice_get, refl, ap, ◌∙◌}
use Rattle.std.specs.Option.{option_map}
use Rattle.std.proofs.lemmas.Option.{slice_get-map}
use Rattle.rp_lang.specs.declared.crdt.Field.{Field}
use Rattle.rp_lang.specs.declared.root.Root.{Root}
use Rattle.rp_lang.specs.Paths.{field_at, root_crdt}
use Rattle.rp_lang.specs.Views.{crdt_view, crdt_fields_view, root_view}
use Rattle.rp_lang.proofs.CrdtViews.{crdt_field_view-parts}

pub field_seen : (fields : List Field) (n : ℕ) → field_at (crdt_fields_view fields) n ≡ option_map (λ (field : Field). crdt_view field.crdt) (slice_get fields n)
field_seen [] n = refl
field_seen (field ∷ fields) zero = ap (λ part. Some part.1) (crdt_field_view-parts field)
field_seen (field ∷ fields) (suc n) = field_seen fields n

crdt_seen : (o : Option Root) → root_crdt (option_map root_view o) ≡ option_map (λ (root : Root). crdt_view root.crdt) o
crdt_seen None = refl
crdt_seen (Some root) = refl

pub root_seen : (roots : List Root) (n : ℕ) → root_crdt (slice_get (map root_view roots) n) ≡ option_map (λ (root : Root). crdt_view root.crdt) (slice_get roots n)
root_seen roots n = ap root_crdt (slice_get-map root_view roots n) ∙ crdt_seen (slice_get roots n)
