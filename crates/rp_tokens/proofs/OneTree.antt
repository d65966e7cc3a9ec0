-- Tokens have one tree at most: the machine takes each of their trees, and takes one.
use Rattle.std.proofs.Common.{◌≡◌, List, [], subst}
use Rattle.rp_grammar.specs.Terminals.{Tok}
use Rattle.rp_grammar.specs.Trees.{DeclTree}
use Rattle.rp_grammar.specs.Begins.{IsTree}
use Rattle.rp_tokens.specs.MachineStates.{in_decls}
use Rattle.rp_tokens.specs.Machine.{done, run}
use Rattle.rp_tokens.proofs.AcceptsDecls.{accepts}

same_tree : (t u : List DeclTree) → done t ≡ done u → t ≡ u
same_tree t u h = cc

pub one_tree : (ts : List Tok) (t u : List DeclTree) → IsTree ts t → IsTree ts u → t ≡ u
one_tree ts t u (ms, a, p) (ns, b, q) =
    let x : run (in_decls []) ts ≡ done t = subst (λ l. run (in_decls []) l ≡ done t) a ((accepts ms t p).0) in
    let y : run (in_decls []) ts ≡ done u = subst (λ l. run (in_decls []) l ≡ done u) b ((accepts ns u q).0) in
    same_tree t u (cc (x, y))
