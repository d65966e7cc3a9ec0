-- The invariants of a lawful text's program have different names.
use Rattle.std.proofs.Common.{◌≡◌, ◌+◌, ◌<◌, ◌≤◌, ◌^◌, ℕ, Bool, true, false, List, [], ◌∷◌, ◌++◌, map, length, codes, Some, None, refl, ap, subst, sym, ◌∙◌, arith}
use Rattle.std.specs.Prelude.{decimal}
use Rattle.std.specs.List.{AllByRecursion, IsDistinct, list_any}
use Rattle.std.specs.Str.Parse.{digits_value}
use Rattle.std.proofs.lemmas.Bool.{leb-true, or_parts, true≢false}
use Rattle.std.proofs.lemmas.Fmt.{decimal_is_IsNumeral}
use Rattle.std.proofs.lemmas.List.{length-map}
use Rattle.std.proofs.lemmas.Map.Keys.{IsDistinct-cons}
use Rattle.rp_span.specs.declared.Span.{Span}
use Rattle.rp_grammar.specs.declared.TokenKind.TheVariants as kind
use Rattle.rp_grammar.specs.Bytes.{is_letter}
use Rattle.rp_grammar.specs.Pieces.{Shape}
use Rattle.rp_grammar.specs.Trees.{ident, DeclForm, DeclTree}
use Rattle.rp_grammar.specs.Texts.{IsText}
use Rattle.rp_grammar.proofs.Formed.{FormedDecls}
use Rattle.rp_grammar.proofs.FormedTexts.{Lexable, text_formed}
use Rattle.rp_lang.specs.FirstForm.{are_distinct}
use Rattle.rp_lang.specs.Names.{inv_names}
use Rattle.rp_lang.specs.Programs.{Inv, Prog}
use Rattle.type_rules.specs.Names.{Name, Names, same_name}
use Rattle.type_rules.specs.Queries.{names_of}
use Rattle.type_rules.specs.TextSites.{Seen, declared_invariants, declared_others, declared_types, decl_sites, inner_sites, name_sites, nothing_seen, used_from, with_decl}
use Rattle.type_rules.specs.DeclSites.{named_all}
use Rattle.desugaring.specs.Limits.{HasProgram}
use Rattle.desugaring.specs.Programs.{InvTree, IsInv, inv, invs_from}
use Rattle.desugaring.specs.Tables.{Tables, tables_of}
use Rattle.lawful.proofs.Arms.{flipped, same_text}
use Rattle.lawful.proofs.Crdts.{names_distinct}
use Rattle.lawful.proofs.Distinct.{no_members}
use Rattle.lawful.proofs.Places.{Lawfully, all_lawful, all_parts, names_fresh}
use Rattle.lawful.proofs.ValueNames.{names_made}
use Rattle.lawful.proofs.Within.{within}

abbrev inv_text : InvTree → Name
inv_text d = d.name

inv_parts : (n : Names) (seen : Seen) (k : ℕ) (at : Span) (form : DeclForm) (ds : List DeclTree)
    → AllByRecursion (Lawfully n) (decl_sites n seen k (DeclTree.node at form ∷ ds))
    → AllByRecursion (Lawfully n) (named_all seen.invariants (declared_invariants form)) × AllByRecursion (Lawfully n) (decl_sites n (with_decl seen form) (k + 1) ds)
inv_parts n seen k at form ds all =
    let p = all_parts (Lawfully n) (name_sites seen form ++ inner_sites n k (used_from n (k + 1) ds) form) _ all in
    let q = all_parts (Lawfully n) (name_sites seen form) _ p.0 in
    ((all_parts (Lawfully n) (named_all seen.types (declared_types form) ++ named_all seen.others (declared_others form)) _ q.0).1, p.1)

-- # A name that the text gives, or a number

-- an invariant without a name
abbrev counted_name : ℕ → Name
counted_name m = codes "#" ++ decimal m

data InvName (seen : List Name) (number : ℕ) (y : Name) : Type 0 where
  named : list_any (same_name y) seen ≡ false → Shape kind.Name y → InvName seen number y
  counted : (m : ℕ) → y ≡ counted_name m → number ≤ m → m < 2 ^ 64 → InvName seen number y

no_number : (x : Name) (m : ℕ) → Shape kind.Name x → x ≡ counted_name m → ⊥
no_number x m (Shape.name letter all free) e = by_first _ _ m letter e where
  first_of : List ℕ → ℕ
  first_of [] = 0
  first_of (b ∷ bs) = b

  by_first : (b : ℕ) (bs : List ℕ) (m : ℕ) → is_letter b ≡ true → b ∷ bs ≡ counted_name m → ⊥
  by_first b bs m letter e = true≢false (sym letter ∙ ap is_letter (first_one e)) where
    first_one : {c d : ℕ} {cs ds : List ℕ} → c ∷ cs ≡ d ∷ ds → c ≡ d
    first_one e = cc

one_number : (m n : ℕ) → m < 2 ^ 64 → n < 2 ^ 64 → counted_name m ≡ counted_name n → m ≡ n
one_number m n h j e =
    sym (decimal_is_IsNumeral m h).1 ∙ ap (digits_value 10) (rest_one e) ∙ (decimal_is_IsNumeral n j).1 where
      rest_one : {b : ℕ} {as_ bs : List ℕ} → b ∷ as_ ≡ b ∷ bs → as_ ≡ bs
      rest_one e = cc

-- two names of which one holds wherever they are one
differ : (x y : Name) → (x ≡ y → ⊥) → same_name x y ≡ false
differ x y apart = by_value x y (same_name x y) refl apart where
  by_value : (x y : Name) (b : Bool) → same_name x y ≡ b → (x ≡ y → ⊥) → same_name x y ≡ false
  by_value x y false e apart = e
  by_value x y true e apart = absurd (apart (same_text x y e))

all_two : (P Q R : Name → Type 0) (xs : List Name) → ((y : Name) → P y → Q y × R y) → AllByRecursion P xs
    → AllByRecursion Q xs × AllByRecursion R xs
all_two P Q R [] f all = (tt, tt)
all_two P Q R (x ∷ xs) f all =
    let here = f x all.0 in
    let rest = all_two P Q R xs f all.1 in
    ((here.0, rest.0), (here.1, rest.1))

-- behind one with a name
past_named : (seen : List Name) (number : ℕ) (x y : Name) → Shape kind.Name x → InvName (x ∷ seen) (number + 1) y
    → InvName seen number y × (flipped x y ≡ false)
past_named seen number x y shape (InvName.named fresh own) =
    let parts = or_parts (same_name y x) (list_any (same_name y) seen) fresh in (InvName.named parts.1 own, parts.0)
past_named seen number x y shape (InvName.counted m is least small) =
    (InvName.counted m is (omega (arith, least)) small, differ y x (λ same. no_number x m shape (sym same ∙ is)))

-- behind one without
past_counted : (seen : List Name) (number : ℕ) (y : Name) → number < 2 ^ 64 → InvName seen (number + 1) y
    → InvName seen number y × (flipped (counted_name number) y ≡ false)
past_counted seen number y fits (InvName.named fresh own) = (InvName.named fresh own, differ y (counted_name number) (λ same. no_number y number own same))
past_counted seen number y fits (InvName.counted m is least small) = (
  InvName.counted m is (omega (arith, least)) small,
  differ y (counted_name number) (λ same. let one_m = one_number m number small fits (sym is ∙ same) in absurd (omega (arith, least, one_m))),
)

-- # The invariants of a text

abbrev Told : Seen → ℕ → List Name → Type 0
Told seen number xs = AllByRecursion (InvName seen.invariants number) xs × IsDistinct flipped xs

invs_told : (n : Names) (seen : Seen) (k number : ℕ) (ds : List DeclTree) → AllByRecursion (Lawfully n) (decl_sites n seen k ds)
    → FormedDecls Lexable ds
    → number + length (invs_from k number ds) < 2 ^ 64 → Told seen number (map inv_text (invs_from k number ds))
invs_told n seen k number [] laws h few = (tt, no_members flipped)
invs_told n seen k number (DeclTree.node at (DeclForm.invariant (Some (ident x s)) e) ∷ ds) laws h few =
    let form = DeclForm.invariant (Some (ident x s)) e in
    let p = inv_parts n seen k at form ds laws in
    let fresh = names_fresh n seen.invariants (ident x s ∷ []) p.0 in
    let rest = invs_told n (with_decl seen form) (k + 1) (number + 1) ds p.1 h.1 (omega (arith, few)) in
    let names_ = map inv_text (invs_from (k + 1) (number + 1) ds) in
    let both = all_two (InvName (x ∷ seen.invariants) (number + 1)) (InvName seen.invariants number) (λ y. flipped x y ≡ false) names_
    (λ y told. past_named seen.invariants number x y h.0.0 told) rest.0 in
    ((InvName.named fresh.0 h.0.0, both.0), IsDistinct-cons flipped x names_ both.1 rest.1)
invs_told n seen k number (DeclTree.node at (DeclForm.invariant None e) ∷ ds) laws h few =
    let form = DeclForm.invariant None e in
    let p = inv_parts n seen k at form ds laws in
    let fits : number < 2 ^ 64 = omega (arith, few) in
    let rest = invs_told n (with_decl seen form) (k + 1) (number + 1) ds p.1 h.1 (omega (arith, few)) in
    let names_ = map inv_text (invs_from (k + 1) (number + 1) ds) in
    let both = all_two (InvName seen.invariants (number + 1)) (InvName seen.invariants number) (λ y. flipped (counted_name number) y ≡ false) names_
    (λ y told. past_counted seen.invariants number y fits told) rest.0 in
    ((InvName.counted number refl (omega arith) fits, both.0), IsDistinct-cons flipped (counted_name number) names_ both.1 rest.1)
invs_told n seen k number (DeclTree.node at (DeclForm.id_type x) ∷ ds) laws h few =
    invs_told n (with_decl seen (DeclForm.id_type x)) (k + 1) number ds (inv_parts n seen k at (DeclForm.id_type x) ds laws).1 h.1 few
invs_told n seen k number (DeclTree.node at (DeclForm.opaque x) ∷ ds) laws h few =
    invs_told n (with_decl seen (DeclForm.opaque x)) (k + 1) number ds (inv_parts n seen k at (DeclForm.opaque x) ds laws).1 h.1 few
invs_told n seen k number (DeclTree.node at (DeclForm.datatype x cs) ∷ ds) laws h few =
    invs_told n (with_decl seen (DeclForm.datatype x cs)) (k + 1) number ds (inv_parts n seen k at (DeclForm.datatype x cs) ds laws).1 h.1 few
invs_told n seen k number (DeclTree.node at (DeclForm.crdt x c) ∷ ds) laws h few =
    invs_told n (with_decl seen (DeclForm.crdt x c)) (k + 1) number ds (inv_parts n seen k at (DeclForm.crdt x c) ds laws).1 h.1 few
invs_told n seen k number (DeclTree.node at (DeclForm.query q) ∷ ds) laws h few =
    invs_told n (with_decl seen (DeclForm.query q)) (k + 1) number ds (inv_parts n seen k at (DeclForm.query q) ds laws).1 h.1 few
invs_told n seen k number (DeclTree.node at (DeclForm.proc q) ∷ ds) laws h few =
    invs_told n (with_decl seen (DeclForm.proc q)) (k + 1) number ds (inv_parts n seen k at (DeclForm.proc q) ds laws).1 h.1 few

inv_named : (t : Tables) (d : InvTree) (i : Inv) → IsInv t d i → i.name ≡ d.name
inv_named t d i (inv m) = refl

pub invariant_names : (bytes : List ℕ) (tree : List DeclTree) → IsText bytes tree → (p : Prog) → HasProgram tree p
    → are_distinct (inv_names p.invs) ≡ true
invariant_names bytes tree text p has =
    let n = names_of tree in
    let t = tables_of tree in
    let made = has.0.1.invs in
    let list = names_made (IsInv t) inv_text (λ (i : Inv). i.name) (inv_named t) (invs_from 0 1 tree) p.invs made in
    let many : length p.invs ≤ 64 = leb-true (length p.invs) 64 (within p has.1).invs in
    let same : length (invs_from 0 1 tree) ≡ length p.invs =
    sym (length-map (invs_from 0 1 tree) inv_text) ∙ sym (ap length list) ∙ length-map p.invs (λ (i : Inv). i.name) in
    let told = invs_told n nothing_seen 0 1 tree (all_lawful tree has.0.0) (text_formed bytes tree text) (omega (arith, many, same)) in
    subst (λ xs. are_distinct xs ≡ true) (sym list) (names_distinct (map inv_text (invs_from 0 1 tree)) told.1)
