-- Lists in parentheses, which are left out where nothing stands in them.
use Rattle.std.proofs.Common.{◌≡◌, ◌==◌, false, List, [], ◌∷◌, length, map, refl}
use Rattle.rp_ast.specs.declared.ident.Ident.{Ident}
use Rattle.rp_ast.specs.declared.ty.Param.{Param}
use Rattle.rp_grammar.specs.declared.terminal.Symbol.TheVariants as symbol
use Rattle.rp_print.specs.Printed.{in_parens, separated, name_terminal, vars_terminals, params_terminals, con_fields_terminals}
use Rattle.rp_ast.specs.View.{idents_view, params_view}

pub some_vars : (vs : List Ident) → false ≡ (length vs == 0) → vars_terminals (idents_view vs) ≡ in_parens (separated symbol.Comma (map (λ n. name_terminal n ∷ []) (idents_view vs)))
some_vars [] h = cc
some_vars (v ∷ vs) h = refl

pub some_fields : (ps : List Param) → false ≡ (length ps == 0) → con_fields_terminals (params_view ps) ≡ in_parens (params_terminals (params_view ps))
some_fields [] h = cc
some_fields (p ∷ ps) h = refl
