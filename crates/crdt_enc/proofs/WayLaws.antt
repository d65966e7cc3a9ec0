-- The calls that count at the end of a way, as the formula says it.
use Rattle.std.proofs.Common.{◌≡◌, ℕ, List, take, slice_get, Bool, true, ◌&&◌, ◌↔◌, Option, Some, None, refl, sym, ap, ◌∙◌}
use Rattle.std.proofs.lemmas.Option.{none-some, same_Some}
use Rattle.rp_value.specs.Values.{Val}
use Rattle.rp_lang.specs.declared.op.OpDecl.{OpDecl}
use Rattle.rp_lang.specs.Programs.{Prog}
use Rattle.crdt_defs.specs.Calls.{Call}
use Rattle.crdt_defs.specs.SameValues.{same_val, value_is}
use Rattle.crdt_defs.specs.Histories.{meets, call_is}
use Rattle.crdt_defs.specs.Doing.{meets_op, op_is, goes_to_field, goes_to_key, is_field, is_some_key, keys_in}
use Rattle.std.proofs.lemmas.Bool.{and_parts, and_from}
use Rattle.rp_logic.proofs.SortLaws.{no}
use Rattle.crdt_enc.specs.Ways.{Way, Root, AtField, AtKey, depth, goes}
use Rattle.crdt_enc.proofs.ValueLaws.{val-is, val-self}
use Rattle.crdt_enc.proofs.Starts.{Starts, starts_fit, starts-more, starts-fit-more}
use Rattle.crdt_enc.specs.means.Counting.{Both, terms, vals, matches, WayFits}

-- # Tests on a call

pub op-is : (ops : List OpDecl) (f : OpDecl → Bool) (call : Call) (decl : OpDecl) → slice_get ops call.op ≡ Some decl → op_is ops f call ≡ f decl
op-is ops f call decl e = ap (meets_op f) e

pub value-there : (k : Val) (o : Option Val) → (value_is k o ≡ true) ↔ (o ≡ Some k)
value-there k None = ((λ h. no h), λ h. absurd (none-some k h))
value-there k (Some y) = ((λ h. ap (λ v. Some v) (sym (val-is k y h))), λ h. ap (same_val k) (same_Some y k h) ∙ val-self k)

pub call-and : (h : List Call) (f g : Call → Bool) (c : ℕ) → call_is h (λ call. f call && g call) c ≡ call_is h f c && call_is h g c
call-and h f g c = go (slice_get h c)
  where
    go : (o : Option Call) → meets (λ call. f call && g call) o ≡ meets f o && meets g o
    go None = refl
    go (Some call) = refl

pub call-there : (h : List Call) (f : Call → Bool) (c : ℕ) (call : Call) → slice_get h c ≡ Some call → call_is h f c ≡ f call
call-there h f c call e = ap (meets f) e

and-parts : (a b : Bool) → (a && b ≡ true) ↔ ((a ≡ true) × (b ≡ true))
and-parts a b = ((λ h. and_parts a b h), λ h. and_from a b h.0 h.1)

-- the keys of the way are those that the call's arguments begin with
pub matches-is : (p : Prog) (w : Way Both) → WayFits p w → (call : Call) (decl : OpDecl) → slice_get p.ops call.op ≡ Some decl
    → (matches p.ops w call ≡ true) ↔ ((goes (terms w) decl ≡ true) × Starts (vals w) call.args)
matches-is p (Root r) f call decl e = ((λ h. (sym (op-is p.ops _ call decl e) ∙ h, tt)), λ h. op-is p.ops _ call decl e ∙ h.0)
matches-is p (AtField n w) f call decl e =
    let r = matches-is p w f call decl e in
    let o : goes_to_field p.ops (depth (terms w)) n call ≡ is_field n (slice_get decl.path (depth (terms w))) = op-is p.ops _ call decl e in (
      (λ h.
          let b = and_parts (matches p.ops w call) (goes_to_field p.ops (depth (terms w)) n call) h in
          (and_from (goes (terms w) decl) _ (r.0 b.0).0 (sym o ∙ b.1), (r.0 b.0).1)),
      λ h.
          let b = and_parts (goes (terms w) decl) (is_field n (slice_get decl.path (depth (terms w)))) h.0 in
          and_from (matches p.ops w call) _ (r.1 (b.0, h.1)) (o ∙ b.1),
    )
matches-is p (AtKey winner k w) f call decl e =
    let r = matches-is p w f.0 call decl e in
    let o = op-is p.ops (λ (d : OpDecl). is_some_key (slice_get d.path (depth (terms w))) && value_is k.val (slice_get call.args (keys_in (take (depth (terms w)) d.path)))) call decl e in (
      (λ h.
          let b = and_parts (matches p.ops w call) (goes_to_key p.ops (depth (terms w)) k.val call) h in
          let s = and_parts (is_some_key (slice_get decl.path (depth (terms w)))) (value_is k.val (slice_get call.args (keys_in (take (depth (terms w)) decl.path)))) (sym o ∙ b.1) in
          let m = r.0 b.0 in
          let g : goes (terms (AtKey winner k w)) decl ≡ true = and_from (goes (terms w) decl) _ m.0 s.0 in
          let t = f.1 call.op decl e g in
          (g, (starts-more (vals w) call.args k.val).1 (m.1, ap (slice_get call.args) (sym t.placed) ∙ (value-there k.val _).0 s.1))),
      λ h.
          let b = and_parts (goes (terms w) decl) (is_some_key (slice_get decl.path (depth (terms w)))) h.0 in
          let t = f.1 call.op decl e h.0 in
          let s = (starts-more (vals w) call.args k.val).0 h.1 in
          and_from (matches p.ops w call) _ (r.1 (b.0, s.0))
          (o ∙ and_from (is_some_key (slice_get decl.path (depth (terms w)))) _ b.1 ((value-there k.val _).1 (ap (slice_get call.args) t.placed ∙ s.1))),
    )

pub way-starts-fit : (p : Prog) (w : Way Both) → WayFits p w → (o : ℕ) (decl : OpDecl) → slice_get p.ops o ≡ Some decl → goes (terms w) decl ≡ true → starts_fit p decl.args (vals w) ≡ true
way-starts-fit p (Root r) f o decl e g = refl
way-starts-fit p (AtField n w) f o decl e g = way-starts-fit p w f o decl e (and_parts (goes (terms w) decl) _ g).0
way-starts-fit p (AtKey winner k w) f o decl e g =
    let t = f.1 o decl e g in
    starts-fit-more p decl.args (vals w) t.ty k.val (way-starts-fit p w f.0 o decl e (and_parts (goes (terms w) decl) _ g).0) t.is t.fit
