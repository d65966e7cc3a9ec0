use Rattle.std.proofs.Common.{◌≡◌, ℕ, ◌+◌, ◌<◌, Bool, List, length, map, drop, get_or, cond, Some, ap, sym, ◌∙◌}
use Rattle.std.specs.Prelude.{find}
use Rattle.std.proofs.lemmas.List.{drop_more}
use Rattle.type_rules.specs.Names.{same_name}
use Rattle.text_names.proofs.Entries.{drop_past}
use Rattle.type_terms.specs.Members.{member_over}
use Rattle.type_terms.specs.declared.members.Does.TheVariants as does
use Rattle.type_terms.proofs.members.named.Goals as goal

found_next : {X Y : Type 0} (p : Y → Bool) (v : X → Y) (xs : List X) (i : ℕ) (d : X) (b : Bool) → i < length xs
    → p (v (get_or xs i d)) ≡ b
    → find p (map v (drop i xs)) ≡ cond b (Some (v (get_or xs i d))) (find p (map v (drop (i + 1) xs)))
found_next p v xs i d b h e =
    ap (λ l. find p (map v l)) (drop_more xs i d h)
    ∙ ap (λ q. cond q (Some (v (get_or xs i d))) (find p (map v (drop (i + 1) xs)))) e

pub returns-then-eq : goal.returns-then-eq
returns-then-eq c = λ k.
    let name = c.args.name.now in
    sym (found_next (λ m. same_name m.name name) (member_over k) c.args.all.now c.loop-does.does-index does.Adds _
    c.loop-does-test.true
    (ap (λ y. same_name y name) (sym (c.name_of.ensures k)) ∙ sym c.eq.ensures ∙ c.if-eq.true))
    ∙ c.loop-does.invariant k

pub loop-does-preserved : goal.loop-does-preserved
loop-does-preserved c = λ k.
    let name = c.args.name.now in
    sym (found_next (λ m. same_name m.name name) (member_over k) c.args.all.now c.loop-does.does-index does.Adds _
    c.loop-does-test.true
    (ap (λ y. same_name y name) (sym (c.name_of.ensures k)) ∙ sym c.eq.ensures ∙ c.if-eq.false))
    ∙ c.loop-does.invariant k

pub returns : goal.returns
returns c = λ k.
    let name = c.args.name.now in
    ap (λ l. find (λ m. same_name m.name name) (map (member_over k) l))
    (sym (drop_past c.args.all.now c.loop-does.does-index c.loop-does-test.false))
    ∙ c.loop-does.invariant k
