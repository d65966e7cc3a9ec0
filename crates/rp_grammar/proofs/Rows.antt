-- Derivations of the worked rows.
use Rattle.std.specs.Prelude.{codes}
use Rattle.std.proofs.Common.{◌≡◌, ℕ, List, [], ◌∷◌, true, map, take, drop, refl, ap, subst, ◌∙◌, arith, Option, Some, None}
use Rattle.std.proofs.Common.{lit<}
use Rattle.rp_grammar.specs.declared.TokenKind.TheVariants as kind
use Rattle.rp_grammar.specs.declared.terminal.Word.TheVariants as word
use Rattle.rp_grammar.specs.declared.terminal.Symbol.TheVariants as symbol
use Rattle.rp_grammar.specs.Lexed.{token_at}
use Rattle.rp_grammar.specs.Toks.{Means, ToksOf}
use Rattle.rp_grammar.specs.Terminals.{Terminal, name, word, str, symbol, end, Tok, at, Placed, on, plain, nesting}
use Rattle.rp_span.specs.declared.Span.{Span}
use Rattle.rp_grammar.specs.Trees.{ident, ExprTree, ExprForm, AccessTree, ArgTrees, DeclTree, steps}
use Rattle.rp_grammar.specs.Parts.{Part, part, built}
use Rattle.rp_grammar.specs.Exprs.{Expr, Notx, Prim}
use Rattle.rp_grammar.specs.Types as types
use Rattle.rp_grammar.specs.Exprs as exprs
use Rattle.rp_grammar.specs.Stmts as stmts
use Rattle.rp_grammar.specs.Decls as decls
use Rattle.rp_grammar.specs.Decls.{Program}
use Rattle.rp_grammar.specs.rows.Rows.{Reads, span, Tautology, ParenthesesOfAnOperand, ParenthesesOfANode, NestingsOfASum, TwoVariables, QuantifierInAChain, ElseIf, ReplicatedTypes, Datatypes, MatchesAndAccesses, WordsWithArguments, Statements, DeclaredTypes, Strings, TautologyTokens, ReplicatedTypesByName, Comparisons, WordsAlone, ShortStatements, tautology_text, tautology_tree, TautologyWithinTwo, TautologyPastNone, NoProgram}
use Rattle.std.specs.Prelude.{nat_le}
use Rattle.std.specs.List.{list_all}
use Rattle.std.proofs.lemmas.Bool.Decides.{nat_tests}
use Rattle.rp_grammar.specs.Begins.{AtMost}
use Rattle.std.proofs.lemmas.Bool.{and_parts}
use Rattle.rp_grammar.proofs.Computed.{lexed, toks_of, has_toks}

abbrev placed : List Tok → List ℕ → List Placed
placed (at k s ∷ us) (n ∷ ns) = on k s n ∷ placed us ns
placed _ _ = []

abbrev found : Option (List Tok) → List Tok
found (Some us) = us
found None = []

made : (text ns : List ℕ) {tree : List DeclTree} → let ms = placed (found (toks_of text)) ns in toks_of text ≡ Some (map plain ms) → map nesting ms ≡ ns → Program ms tree → Reads text ns tree
made text ns t n p = record { tokens = placed (found (toks_of text)) ns; of_text = has_toks text _ t; nested = n; program = p }

-- a name alone, as an operand
name_alone : {d : ℕ} {n : List ℕ} {s : Span} {r : List Placed} → Prim d (on (name n) s d ∷ r) (built s (ExprForm.access (AccessTree.path (ident n s) (steps []) ArgTrees.absent))) r
name_alone = exprs.access (exprs.rooted exprs.no_step exprs.not_called)

-- one operand without operators
operand : {d : ℕ} {ts r : List Placed} {e : Part ExprTree} → Prim d ts e r → Notx d ts e r
operand p = exprs.comparison (exprs.cmp (exprs.sum p exprs.no_sum) exprs.no_cmp)

-- an expression without a chain
alone : {d : ℕ} {ts r : List Placed} {x : ExprTree} {s : Span} → Notx d ts (part x s) r → Expr d ts (part x s) r
alone e = exprs.expr (exprs.or (exprs.and e exprs.no_and) exprs.no_or) exprs.no_right

abbrev tautology_placed : List Placed
tautology_placed = placed (found (toks_of tautology_text)) (0 ∷ 0 ∷ 0 ∷ 1 ∷ 1 ∷ 1 ∷ 0 ∷ 0 ∷ 1 ∷ 1 ∷ 1 ∷ 1 ∷ 2 ∷ 1 ∷ 0 ∷ 0 ∷ [])

tautology_program : Program tautology_placed tautology_tree
tautology_program =
    decls.more_decls
    (decls.proc (types.some_params (types.params (types.param types.bool) types.no_param)) decls.no_result
    (stmts.block
    (stmts.more_stmts
    (stmts.assert
    (exprs.expr
    (exprs.or (exprs.and (operand name_alone) exprs.no_and)
    (exprs.or_more (exprs.and (exprs.negated (operand name_alone)) exprs.no_and) exprs.no_or))
    exprs.no_right))
    stmts.no_stmt)))
    decls.end_

pub tautology : Tautology
tautology = record { tokens = tautology_placed; of_text = has_toks tautology_text _ refl; nested = refl; program = tautology_program }

pub parentheses_of_an_operand : ParenthesesOfAnOperand
parentheses_of_an_operand = made (codes "invariant (a) == b;") (0 ∷ 0 ∷ 1 ∷ 0 ∷ 0 ∷ 0 ∷ 0 ∷ 0 ∷ []) refl refl
    (decls.more_decls
    (decls.invariant
    (alone
    (exprs.comparison
    (exprs.cmp (exprs.sum (exprs.parens (alone (operand name_alone))) exprs.no_sum)
    (exprs.compared exprs.equal (exprs.sum name_alone exprs.no_sum))))))
    decls.end_)

pub parentheses_of_a_node : ParenthesesOfANode
parentheses_of_a_node = made (codes "proc p() { assert (x + 1); }") (0 ∷ 0 ∷ 0 ∷ 0 ∷ 0 ∷ 1 ∷ 1 ∷ 2 ∷ 2 ∷ 3 ∷ 1 ∷ 1 ∷ 0 ∷ 0 ∷ []) refl refl
    (decls.more_decls
    (decls.proc types.no_params decls.no_result
    (stmts.block
    (stmts.more_stmts
    (stmts.assert
    (alone
    (operand
    (exprs.parens
    (alone
    (exprs.comparison
    (exprs.cmp (exprs.sum name_alone (exprs.plus exprs.number exprs.no_sum)) exprs.no_cmp)))))))
    stmts.no_stmt)))
    decls.end_)

pub nestings_of_a_sum : NestingsOfASum
nestings_of_a_sum = made (codes "invariant a + b - (c) < d;") (0 ∷ 0 ∷ 0 ∷ 1 ∷ 1 ∷ 2 ∷ 3 ∷ 2 ∷ 0 ∷ 0 ∷ 0 ∷ 0 ∷ []) refl refl
    (decls.more_decls
    (decls.invariant
    (alone
    (exprs.comparison
    (exprs.cmp
    (exprs.sum name_alone (exprs.plus name_alone (exprs.minus (exprs.parens (alone (operand name_alone))) exprs.no_sum)))
    (exprs.compared exprs.less (exprs.sum name_alone exprs.no_sum))))))
    decls.end_)

pub two_variables : TwoVariables
two_variables = made (codes "invariant forall x: T, y: U :: e ==> f;") (0 ∷ 0 ∷ 1 ∷ 1 ∷ 1 ∷ 1 ∷ 1 ∷ 2 ∷ 2 ∷ 2 ∷ 2 ∷ 2 ∷ 3 ∷ 0 ∷ 0 ∷ []) refl refl
    (decls.more_decls
    (decls.invariant
    (alone
    (exprs.quantifier
    (exprs.for_all
    (exprs.next_variable types.named
    (exprs.last_variable types.named
    (exprs.expr (exprs.or (exprs.and (operand name_alone) exprs.no_and) exprs.no_or)
    (exprs.right (alone (operand name_alone))))))
    refl))))
    decls.end_)

pub quantifier_in_a_chain : QuantifierInAChain
quantifier_in_a_chain = made (codes "invariant a || exists x: T :: !b && c;") (0 ∷ 0 ∷ 0 ∷ 0 ∷ 1 ∷ 1 ∷ 1 ∷ 1 ∷ 1 ∷ 2 ∷ 1 ∷ 1 ∷ 0 ∷ 0 ∷ []) refl refl
    (decls.more_decls
    (decls.invariant
    (exprs.expr
    (exprs.or (exprs.and (operand name_alone) exprs.no_and)
    (exprs.or_more
    (exprs.and
    (exprs.quantifier
    (exprs.for_some
    (exprs.last_variable types.named
    (exprs.expr
    (exprs.or
    (exprs.and (exprs.negated (operand name_alone))
    (exprs.and_more (operand name_alone) exprs.no_and))
    exprs.no_or)
    exprs.no_right))
    refl))
    exprs.no_and)
    exprs.no_or))
    exprs.no_right))
    decls.end_)

pub else_if : ElseIf
else_if = made (codes "proc p() { if (a) { } else if (b) { } else { } }") (0 ∷ 0 ∷ 0 ∷ 0 ∷ 0 ∷ 1 ∷ 1 ∷ 2 ∷ 1 ∷ 1 ∷ 1 ∷ 1 ∷ 2 ∷ 2 ∷ 3 ∷ 2 ∷ 2 ∷ 2 ∷ 2 ∷ 2 ∷ 2 ∷ 0 ∷ 0 ∷ []) refl refl
    (decls.more_decls
    (decls.proc types.no_params decls.no_result
    (stmts.block
    (stmts.more_stmts
    (stmts.if_
    (stmts.branch (alone (operand name_alone)) (stmts.block stmts.no_stmt)
    (stmts.else_if
    (stmts.branch (alone (operand name_alone)) (stmts.block stmts.no_stmt)
    (stmts.else_block (stmts.block stmts.no_stmt))))))
    stmts.no_stmt)))
    decls.end_)

pub replicated_types : ReplicatedTypes
replicated_types = made (codes "crdt s: { a: MapUw[K, SetAw[V]], b: Counter };") (0 ∷ 0 ∷ 0 ∷ 0 ∷ 1 ∷ 1 ∷ 1 ∷ 1 ∷ 2 ∷ 2 ∷ 2 ∷ 2 ∷ 3 ∷ 2 ∷ 1 ∷ 1 ∷ 1 ∷ 1 ∷ 1 ∷ 0 ∷ 0 ∷ 0 ∷ []) refl refl
    (decls.more_decls
    (decls.crdt
    (types.struct (types.field (types.map_uw types.named (types.set_aw types.named)))
    (types.more_fields (types.field types.counter) types.no_field)))
    decls.end_)

pub datatypes : Datatypes
datatypes = made (codes "datatype D = A | B(x: Maybe[Int], y: D);") (0 ∷ 0 ∷ 0 ∷ 0 ∷ 0 ∷ 0 ∷ 0 ∷ 1 ∷ 1 ∷ 1 ∷ 1 ∷ 2 ∷ 1 ∷ 1 ∷ 1 ∷ 1 ∷ 1 ∷ 0 ∷ 0 ∷ 0 ∷ []) refl refl
    (decls.more_decls
    (decls.datatype decls.plain
    (decls.more_cons
    (decls.with_fields
    (types.params (types.param (types.maybe types.int)) (types.more_params (types.param types.named) types.no_param)))
    decls.no_con))
    decls.end_)

pub matches_and_accesses : MatchesAndAccesses
matches_and_accesses = made (codes "query q(a: D): Bool = match (a) { some(y) => y.z(1, -2), none => m[k].returned() };") (0 ∷ 0 ∷ 0 ∷ 1 ∷ 1 ∷ 1 ∷ 0 ∷ 0 ∷ 0 ∷ 0 ∷ 0 ∷ 0 ∷ 1 ∷ 0 ∷ 0 ∷ 1 ∷ 1 ∷ 2 ∷ 1 ∷ 1 ∷ 1 ∷ 1 ∷ 1 ∷ 1 ∷ 2 ∷ 2 ∷ 2 ∷ 2 ∷ 1 ∷ 1 ∷ 1 ∷ 1 ∷ 1 ∷ 1 ∷ 2 ∷ 1 ∷ 1 ∷ 1 ∷ 1 ∷ 1 ∷ 0 ∷ 0 ∷ 0 ∷ []) refl refl
    (decls.more_decls
    (decls.query (types.some_params (types.params (types.param types.named) types.no_param)) types.bool
    (alone
    (operand
    (exprs.match (alone (operand name_alone))
    (exprs.arm (exprs.binding exprs.ConName.some exprs.no_name)
    (alone
    (operand
    (exprs.access
    (exprs.rooted (exprs.more_steps exprs.dot exprs.no_step)
    (exprs.some_args
    (exprs.some_exprs (alone (operand exprs.number))
    (exprs.more_exprs (alone (operand exprs.negative)) exprs.no_expr))))))))
    (exprs.more_arms
    (exprs.arm (exprs.bare exprs.ConName.none)
    (alone
    (operand
    (exprs.access
    (exprs.rooted
    (exprs.more_steps (exprs.key (alone (operand name_alone)))
    (exprs.more_steps exprs.returned exprs.no_step))
    exprs.no_args)))))
    exprs.no_arm)))))
    decls.end_)

pub words_with_arguments : WordsWithArguments
words_with_arguments = made (codes "invariant n: (before(c, d) || tx == op(c)) ==> unreturned != result(i);") (0 ∷ 0 ∷ 0 ∷ 0 ∷ 1 ∷ 1 ∷ 2 ∷ 2 ∷ 2 ∷ 1 ∷ 1 ∷ 1 ∷ 1 ∷ 1 ∷ 1 ∷ 2 ∷ 1 ∷ 0 ∷ 0 ∷ 1 ∷ 1 ∷ 1 ∷ 1 ∷ 2 ∷ 1 ∷ 0 ∷ 0 ∷ []) refl refl
    (decls.more_decls
    (decls.named_invariant
    (exprs.expr
    (exprs.or
    (exprs.and
    (operand
    (exprs.parens
    (exprs.expr
    (exprs.or
    (exprs.and
    (operand
    (exprs.call exprs.before
    (exprs.some_exprs (alone (operand name_alone))
    (exprs.more_exprs (alone (operand name_alone)) exprs.no_expr))))
    exprs.no_and)
    (exprs.or_more
    (exprs.and
    (exprs.comparison
    (exprs.cmp (exprs.sum exprs.tx exprs.no_sum)
    (exprs.compared exprs.equal
    (exprs.sum
    (exprs.call exprs.op
    (exprs.some_exprs (alone (operand name_alone)) exprs.no_expr))
    exprs.no_sum))))
    exprs.no_and)
    exprs.no_or))
    exprs.no_right)))
    exprs.no_and)
    exprs.no_or)
    (exprs.right
    (alone
    (exprs.comparison
    (exprs.cmp (exprs.sum exprs.unreturned exprs.no_sum)
    (exprs.compared exprs.not_equal
    (exprs.sum (exprs.call exprs.result_ (exprs.some_exprs (alone (operand name_alone)) exprs.no_expr))
    exprs.no_sum))))))))
    decls.end_)

pub statements : Statements
statements = made (codes "proc p(): Int { var x: Int = 0; x = new U; m[x].add(x); match (x) { A => { } B(c) => { x = c; } } atomic { return x; } }") (0 ∷ 0 ∷ 0 ∷ 0 ∷ 0 ∷ 0 ∷ 0 ∷ 1 ∷ 1 ∷ 1 ∷ 1 ∷ 1 ∷ 1 ∷ 1 ∷ 1 ∷ 1 ∷ 1 ∷ 1 ∷ 1 ∷ 1 ∷ 1 ∷ 2 ∷ 1 ∷ 1 ∷ 1 ∷ 1 ∷ 2 ∷ 1 ∷ 1 ∷ 1 ∷ 1 ∷ 2 ∷ 1 ∷ 1 ∷ 2 ∷ 2 ∷ 2 ∷ 2 ∷ 2 ∷ 2 ∷ 3 ∷ 2 ∷ 2 ∷ 2 ∷ 3 ∷ 3 ∷ 3 ∷ 3 ∷ 2 ∷ 1 ∷ 1 ∷ 1 ∷ 2 ∷ 2 ∷ 2 ∷ 1 ∷ 0 ∷ 0 ∷ []) refl refl
    (decls.more_decls
    (decls.proc types.no_params (decls.some_result types.int)
    (stmts.block
    (stmts.more_stmts (stmts.var_set types.int (alone (operand exprs.number)))
    (stmts.more_stmts stmts.new
    (stmts.more_stmts
    (stmts.access
    (exprs.rooted
    (exprs.more_steps (exprs.key (alone (operand name_alone))) (exprs.more_steps exprs.dot exprs.no_step))
    (exprs.some_args (exprs.some_exprs (alone (operand name_alone)) exprs.no_expr))))
    (stmts.more_stmts
    (stmts.match (alone (operand name_alone))
    (stmts.more_arms (exprs.bare exprs.ConName.named) (stmts.block stmts.no_stmt)
    (stmts.more_arms (exprs.binding exprs.ConName.named exprs.no_name)
    (stmts.block (stmts.more_stmts (stmts.assign (alone (operand name_alone))) stmts.no_stmt))
    stmts.no_arm)))
    (stmts.more_stmts
    (stmts.atomic
    (stmts.block (stmts.more_stmts (stmts.return_value (alone (operand name_alone))) stmts.no_stmt)))
    stmts.no_stmt)))))))
    decls.end_)

pub declared_types : DeclaredTypes
declared_types = made (codes "idtype U; type T; // comment") (0 ∷ 0 ∷ 0 ∷ 0 ∷ 0 ∷ 0 ∷ 0 ∷ []) refl refl
    (decls.more_decls decls.id_type (decls.more_decls decls.opaque decls.end_))

pub strings : Strings
strings = record {
  tokens = on (word word.Invariant) (span 0 9) 0 ∷ on (name (codes "s")) (span 10 11) 0 ∷ on (symbol symbol.Equal) (span 12 14) 0 ∷ on (str (97 ∷ 34 ∷ 92 ∷ 10 ∷ [])) (span 15 24) 0 ∷ on (symbol symbol.Semicolon) (span 24 25) 0 ∷ on end (span 25 25) 0 ∷ [];
  of_text = (
    _,
    lexed 100 (codes "invariant s == \"a\\\"\\\\\\n\";") (token_at kind.Word 0 9 ∷ token_at kind.Name 10 11 ∷ token_at kind.Symbol 12 14 ∷ token_at kind.Str 15 24 ∷ token_at kind.Symbol 24 25 ∷ token_at kind.End 25 25 ∷ []) refl,
    ToksOf.more (word.Invariant, refl, refl) (ToksOf.more refl (ToksOf.more (symbol.Equal, refl, refl)
        (ToksOf.more (codes "a\\\"\\\\\\n", 97 ∷ 34 ∷ 92 ∷ 10 ∷ [], refl, Means.plain refl (Means.escape refl (Means.escape refl (Means.escape refl Means.none))), refl)
        (ToksOf.more (symbol.Semicolon, refl, refl) (ToksOf.more refl ToksOf.none))))),
  );
  nested = refl;
  program = decls.more_decls
      (decls.invariant
      (exprs.expr (exprs.or (exprs.and (exprs.comparison
      (exprs.cmp (exprs.sum (exprs.access (exprs.rooted exprs.no_step exprs.not_called)) exprs.no_sum)
      (exprs.compared exprs.equal (exprs.sum exprs.text exprs.no_sum)))) exprs.no_and) exprs.no_or) exprs.no_right))
      decls.end_;
}

pub replicated_types_by_name : ReplicatedTypesByName
replicated_types_by_name = made (codes "crdt s: { a: SetRw[Int], b: Reg[String], c: MvReg[Bool], d: MapDw[K, Counter] };") (0 ∷ 0 ∷ 0 ∷ 0 ∷ 1 ∷ 1 ∷ 1 ∷ 1 ∷ 2 ∷ 1 ∷ 1 ∷ 1 ∷ 1 ∷ 1 ∷ 1 ∷ 2 ∷ 1 ∷ 1 ∷ 1 ∷ 1 ∷ 1 ∷ 1 ∷ 2 ∷ 1 ∷ 1 ∷ 1 ∷ 1 ∷ 1 ∷ 1 ∷ 2 ∷ 2 ∷ 2 ∷ 1 ∷ 0 ∷ 0 ∷ 0 ∷ []) refl refl
    (decls.more_decls
    (decls.crdt
    (types.struct (types.field (types.set_rw types.int))
    (types.more_fields (types.field (types.reg types.text))
    (types.more_fields (types.field (types.mv_reg types.bool))
    (types.more_fields (types.field (types.map_dw types.named types.counter)) types.no_field)))))
    decls.end_)

pub comparisons : Comparisons
comparisons = made (codes "query q(a: call, b: invocation): Bool = 1 <= 2 && 3 > x && y >= z;") (0 ∷ 0 ∷ 0 ∷ 1 ∷ 1 ∷ 1 ∷ 1 ∷ 1 ∷ 1 ∷ 1 ∷ 0 ∷ 0 ∷ 0 ∷ 0 ∷ 0 ∷ 0 ∷ 0 ∷ 0 ∷ 0 ∷ 0 ∷ 0 ∷ 0 ∷ 0 ∷ 0 ∷ 0 ∷ 0 ∷ 0 ∷ []) refl refl
    (decls.more_decls
    (decls.query
    (types.some_params (types.params (types.param types.call) (types.more_params (types.param types.invocation) types.no_param)))
    types.bool
    (exprs.expr
    (exprs.or
    (exprs.and
    (exprs.comparison
    (exprs.cmp (exprs.sum exprs.number exprs.no_sum)
    (exprs.compared exprs.at_most (exprs.sum exprs.number exprs.no_sum))))
    (exprs.and_more
    (exprs.comparison
    (exprs.cmp (exprs.sum exprs.number exprs.no_sum)
    (exprs.compared exprs.greater (exprs.sum name_alone exprs.no_sum))))
    (exprs.and_more
    (exprs.comparison
    (exprs.cmp (exprs.sum name_alone exprs.no_sum)
    (exprs.compared exprs.at_least (exprs.sum name_alone exprs.no_sum))))
    exprs.no_and)))
    exprs.no_or)
    exprs.no_right))
    decls.end_)

pub words_alone : WordsAlone
words_alone = made (codes "invariant visible(true) || same(false, none) || origin(some(tx)) || info(c);") (0 ∷ 0 ∷ 0 ∷ 1 ∷ 0 ∷ 0 ∷ 0 ∷ 0 ∷ 1 ∷ 1 ∷ 1 ∷ 0 ∷ 0 ∷ 0 ∷ 0 ∷ 1 ∷ 1 ∷ 2 ∷ 1 ∷ 0 ∷ 0 ∷ 0 ∷ 0 ∷ 1 ∷ 0 ∷ 0 ∷ 0 ∷ []) refl refl
    (decls.more_decls
    (decls.invariant
    (exprs.expr
    (exprs.or
    (exprs.and (operand (exprs.call exprs.visible (exprs.some_exprs (alone (operand exprs.true_)) exprs.no_expr))) exprs.no_and)
    (exprs.or_more
    (exprs.and
    (operand
    (exprs.call exprs.same
    (exprs.some_exprs (alone (operand exprs.false_))
    (exprs.more_exprs (alone (operand exprs.none_)) exprs.no_expr))))
    exprs.no_and)
    (exprs.or_more
    (exprs.and
    (operand
    (exprs.call exprs.origin
    (exprs.some_exprs (alone (operand (exprs.some_ (alone (operand exprs.tx))))) exprs.no_expr)))
    exprs.no_and)
    (exprs.or_more
    (exprs.and (operand (exprs.call exprs.info (exprs.some_exprs (alone (operand name_alone)) exprs.no_expr)))
    exprs.no_and)
    exprs.no_or))))
    exprs.no_right))
    decls.end_)

pub short_statements : ShortStatements
short_statements = made (codes "proc p() { var x: T; if (x) { return; } assert x; }") (0 ∷ 0 ∷ 0 ∷ 0 ∷ 0 ∷ 1 ∷ 1 ∷ 1 ∷ 1 ∷ 1 ∷ 1 ∷ 1 ∷ 2 ∷ 1 ∷ 1 ∷ 2 ∷ 2 ∷ 1 ∷ 1 ∷ 1 ∷ 1 ∷ 0 ∷ 0 ∷ []) refl refl
    (decls.more_decls
    (decls.proc types.no_params decls.no_result
    (stmts.block
    (stmts.more_stmts (stmts.var types.named)
    (stmts.more_stmts
    (stmts.if_
    (stmts.branch (alone (operand name_alone)) (stmts.block (stmts.more_stmts stmts.return stmts.no_stmt))
    stmts.no_else))
    (stmts.more_stmts (stmts.assert (alone (operand name_alone))) stmts.no_stmt)))))
    decls.end_)

pub tautology_tokens : TautologyTokens
tautology_tokens = has_toks tautology_text _ refl

at_most : (n : ℕ) (ms : List Placed) → list_all (λ m. nat_le (nesting m) n) ms ≡ true → AtMost n ms
at_most n [] h = tt
at_most n (m ∷ ms) h =
    let (first, rest) = and_parts (nat_le (nesting m) n) (list_all (λ m. nat_le (nesting m) n) ms) h in
    (grind (arith, nat_tests), at_most n ms rest)

pub tautology_within_two : TautologyWithinTwo
tautology_within_two = (map plain tautology_placed, has_toks tautology_text _ refl, (tautology_placed, refl, tautology_program, at_most 2 tautology_placed refl))

pub tautology_past_none : TautologyPastNone
tautology_past_none = (
  map plain tautology_placed,
  3,
  has_toks tautology_text _ refl,
  (lit< tt, take 3 tautology_placed, drop 4 tautology_placed, on (name (codes "b")) (span 7 8) 1, tautology_tree, tautology_program, refl, at_most 0 (take 3 tautology_placed) refl, lit< tt),
  (_, _, refl, refl),
)

starts : {k : Terminal} {s : Span} {us : List Tok} (ms : List Placed) → map plain ms ≡ at k s ∷ us → (d : ℕ) × (ns : List Placed) × (ms ≡ on k s d ∷ ns)
starts [] h = cc
starts {k = k} {s = s} (on j t d ∷ ns) h =
    let kinds : j ≡ k = cc in
    let spans : t ≡ s = cc in
    (d, ns, ap (λ k. on k t d ∷ ns) kinds ∙ ap (λ s. on k s d ∷ ns) spans)

no_decl : {s : Span} {d : ℕ} {ts : List Placed} {tree : List DeclTree} → Program (on (symbol symbol.Semicolon) s d ∷ ts) tree → ⊥
no_decl (decls.more_decls x m) = elim x [ ]

pub no_program : NoProgram
no_program = (
  at (symbol symbol.Semicolon) (span 1 2) ∷ at end (span 2 2) ∷ [],
  0,
  has_toks (codes " ;") _ refl,
  (
    lit< tt,
    ([], on end (span 0 0) 0 ∷ [], [], decls.end_, refl, tt),
    λ (more, tree, (ms, h, p)). let (d, ns, g) = starts ms h in no_decl (subst (λ ms. Program ms tree) g p),
  ),
  (_, _, refl, refl),
)
