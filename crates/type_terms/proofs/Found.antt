-- What stands at a place of a list or under a name, and lists that are gone through.
use Rattle.std.proofs.Common.{◌≡◌, ℕ, suc, zero, ◌+◌, ◌<◌, Bool, true, false, not, ◌&&◌, List, [], ◌∷◌, ◌++◌, length, map, take, drop, get_or, Option, Some, None, refl, sym, ap, ◌∙◌, arith, true≢false}
use Rattle.std.specs.Prelude.{if◌then◌else◌}
use Rattle.std.specs.List.{slice_get}
use Rattle.std.specs.Option.{is_some, option_map, unwrap_or}
use Rattle.std.proofs.lemmas.List.{drop_more, map-append, take_more}
use Rattle.rp_grammar.specs.Trees.{ConTree}
use Rattle.rp_ast.specs.declared.decl.ConNode.{ConNode}
use Rattle.rp_ast.specs.declared.decl.Decl.{Decl}
use Rattle.rp_ast.specs.declared.expr.ExprNode.{ExprNode}
use Rattle.rp_ast.specs.View.{args_view, con_view, decl_view, decls_view, exprs_view}
use Rattle.type_rules.specs.declared.kind.Kind.{Kind}
use Rattle.type_rules.specs.Names.{Name, Names, con_name, is_among, same_name, text_of}
use Rattle.type_rules.specs.Accesses.{count, is_bare}
use Rattle.type_rules.specs.Matches.{con_case, find_case, first_kind}
use Rattle.type_rules.specs.Rules.{has_every_case}
use Rattle.type_rules.specs.Queries.{is_formula_decl, with_flag, with_formulas}
use Rattle.text_names.specs.Cons.{con_named}

-- # Places

pub first_read : {X Y : Type 0} (f : Y → Kind) (g : X → Y) (xs : List X) (k : ℕ) (x : X) → slice_get xs k ≡ Some x
    → first_kind (drop k (map f (map g xs))) ≡ f (g x)
first_read f g [] k x h = absurd (true≢false (sym (ap is_some h)))
first_read f g (y ∷ xs) zero x h = ap (λ o. f (g (unwrap_or o y))) h
first_read f g (y ∷ xs) (suc k) x h = first_read f g xs k x h

-- # Constructors

pub case_found : (n : Names) (cs : List ConTree) (x : Name)
    → find_case (map (con_case n) cs) x ≡ option_map (con_case n) (con_named cs x)
case_found n [] x = refl
case_found n (c ∷ cs) x = by (same_name (text_of (con_name c)) x) (case_found n cs x)
  where
    by : (b : Bool) → find_case (map (con_case n) cs) x ≡ option_map (con_case n) (con_named cs x)
        → (if b then Some (con_case n c) else find_case (map (con_case n) cs) x)
        ≡ option_map (con_case n) (if b then Some c else con_named cs x)
    by true later = refl
    by false later = later

-- whether the constructors from a place on are among the names, by the first of them
pub every_next : (n : Names) (names : List Name) (cs : List ConNode) (i : ℕ) (c : ConNode) (b : Bool) → i < length cs
    → c ≡ get_or cs i c
    → is_among c.name.text names ≡ b
    → has_every_case names (map (con_case n) (map con_view (drop i cs)))
    ≡ (b && has_every_case names (map (con_case n) (map con_view (drop (i + 1) cs))))
every_next n names cs i c b h e among =
    let rest = has_every_case names (map (con_case n) (map con_view (drop (i + 1) cs))) in
    ap (λ l. has_every_case names (map (con_case n) (map con_view l))) (drop_more cs i c h)
    ∙ ap (λ (c : ConNode). is_among c.name.text names && rest) (sym e)
    ∙ ap (λ b. b && rest) among

-- # Arguments

pub count_is : (es : List ExprNode) → count (exprs_view es) ≡ length es
count_is [] = refl
count_is (e ∷ es) =
    let later = count_is es in omega (arith, later)

pub bare_is : (args : Option (List ExprNode)) → not (is_some args) ≡ is_bare (args_view args)
bare_is None = refl
bare_is (Some es) = refl

-- # Parameters and declarations

pub mapped_next : {X Y Z : Type 0} (f : Y → Z) (g : X → Y) (xs : List X) (i : ℕ) (x : X) (zs after : List Z)
    → zs ≡ map f (map g (take i xs)) → after ≡ zs ++ f (g x) ∷ [] → i < length xs → x ≡ get_or xs i x
    → after ≡ map f (map g (take (i + 1) xs))
mapped_next f g xs i x zs after before more h e =
    more ∙ ap (λ zs. zs ++ f (g x) ∷ []) before
    ∙ sym (ap (λ l. map f (map g l)) (take_more xs i x h)
    ∙ ap (map f) (map-append g (take i xs) (get_or xs i x ∷ []))
    ∙ map-append f (map g (take i xs)) (g (get_or xs i x) ∷ [])
    ∙ ap (λ x. map f (map g (take i xs)) ++ f (g x) ∷ []) (sym e))

pub formulas_next : (n m : Names) (ds : List Decl) (i : ℕ) (d : Decl) → i < length ds → d ≡ get_or ds i d
    → m ≡ with_flag n (is_formula_decl n (decl_view d))
    → with_formulas n (decls_view (drop i ds)) ≡ with_formulas m (decls_view (drop (i + 1) ds))
formulas_next n m ds i d h e flagged =
    let rest = decls_view (drop (i + 1) ds) in
    ap (λ l. with_formulas n (decls_view l)) (drop_more ds i d h)
    ∙ ap (λ (d : Decl). with_formulas (with_flag n (is_formula_decl n (decl_view d))) rest) (sym e)
    ∙ ap (λ n. with_formulas n rest) (sym flagged)
