-- Variables that come in sight and go.
use Rattle.std.proofs.Common.{◌≡◌, ℕ, ◌+◌, List, [], ◌∷◌, ◌++◌, length, map, take, ap, ap₂, sym, ◌∙◌, append_assoc, append-nil, arith}
use Rattle.std.proofs.lemmas.List.{length_push, length-map, map_push}
use Rattle.rp_grammar.specs.Trees.{Ident, ParamTree}
use Rattle.type_rules.specs.declared.kind.Kind.{Kind}
use Rattle.type_rules.specs.Names.{Names, text_of, param_name, param_type}
use Rattle.type_rules.specs.Kinds.{kind_of}
use Rattle.type_rules.specs.Accesses.{Var}
use Rattle.type_rules.specs.Matches.{bound_var, first_kind, other_kinds}
use Rattle.desugaring.specs.Callees.{stand, var_of, vars_of}
use Rattle.desugaring.specs.Tables.{Tables}
use Rattle.text_tables.specs.Seen.{tables_view}
use Rattle.query_bodies.specs.Expanded.{Uses, uses_of}
use Rattle.query_laws.specs.Sight.{Known, Seen, Sight, at_level, in_body, of_param, params_from, seen, under, with_levels}
use Rattle.query_laws.proofs.Under.{seen_more}
use Rattle.reading.proofs.Cut.{take_front}
use Rattle.reading.specs.declared.reader.Known as code_known
use Rattle.reading.specs.declared.reader.Known.TheVariants as known
use Rattle.reading.specs.declared.reader.Reader.{Reader}
use Rattle.reading.specs.Reads.{IsKept, back_to, known_view, sight_of, under_var, under_vars, with_params, with_var}

abbrev seen_in : List Var → List code_known.Known → Seen
seen_in vs ks = seen vs (map known_view ks)

known_long : (r : Reader) → IsKept r → length r.vars ≡ length (map known_view r.known)
known_long r kept = kept.long ∙ sym (length-map r.known known_view)

seen_push : (r : Reader) (v : Var) (k : code_known.Known) → IsKept r
    → seen_in (r.vars ++ v ∷ []) (r.known ++ k ∷ []) ≡ seen_in r.vars r.known ++ stand v.name v.kind (known_view k) ∷ []
seen_push r v k kept =
    ap (λ (ks : List Known). seen (r.vars ++ v ∷ []) ks) (map_push known_view r.known k)
    ∙ seen_more r.vars (map known_view r.known) v (known_view k) (known_long r kept)

long_push : (r : Reader) (v : Var) (k : code_known.Known) → IsKept r → length (r.vars ++ v ∷ []) ≡ length (r.known ++ k ∷ [])
long_push r v k kept = length_push r.vars v ∙ ap (λ n. n + 1) kept.long ∙ sym (length_push r.known k)

rules_push : (r : Reader) (x : Ident) (kind : Kind) (k : code_known.Known) → IsKept r
    → vars_of (seen_in (r.vars ++ bound_var x kind ∷ []) (r.known ++ k ∷ [])) ≡ r.vars ++ bound_var x kind ∷ []
rules_push r x kind k kept =
    ap (λ (l : Seen). vars_of l) (seen_push r (bound_var x kind) k kept)
    ∙ map_push var_of (seen_in r.vars r.known) (stand (text_of x) kind (known_view k))
    ∙ ap (λ (l : List Var). l ++ bound_var x kind ∷ []) kept.rules

pub with_kept : (r : Reader) (x : Ident) (kind : Kind) (k : code_known.Known) → IsKept r → IsKept (with_var r (bound_var x kind) k)
with_kept r x kind k kept = record {
  long = long_push r (bound_var x kind) k kept;
  rules = rules_push r x kind k kept;
}

pub with_sight : (r : Reader) (x : Ident) (kind : Kind) (k : code_known.Known) → IsKept r
    → sight_of (with_var r (bound_var x kind) k)
    ≡ record (sight_of r) { vars = (sight_of r).vars ++ stand (text_of x) kind (known_view k) ∷ [] }
with_sight r x kind k kept =
    ap (λ (vars : Seen). record (sight_of r) { vars = vars }) (seen_push r (bound_var x kind) k kept)

pub under_kept : (r : Reader) (x : Ident) (kind : Kind) → IsKept r → IsKept (under_var r (bound_var x kind))
under_kept r x kind kept = record {
  long = long_push r (bound_var x kind) (known.Level r.binders) kept;
  rules = rules_push r x kind (known.Level r.binders) kept;
}

pub under_sight : (r : Reader) (x : Ident) (kind : Kind) → IsKept r
    → sight_of (under_var r (bound_var x kind)) ≡ under (sight_of r) (text_of x) kind
under_sight r x kind kept =
    ap (λ (vars : Seen). record (sight_of r) { vars = vars; binders = r.binders + 1 })
    (seen_push r (bound_var x kind) (known.Level r.binders) kept)

-- # Several variables of binders

record Behind (r new : Reader) : Type 0 where
  vars : List Var
  known : List code_known.Known
  binders : ℕ
  is : new ≡ record r { vars = r.vars ++ vars; known = r.known ++ known; binders = binders }

behind_none : (r : Reader) → Behind r r
behind_none r = record {
  vars = [];
  known = [];
  binders = r.binders;
  is = ap₂ (λ (vs : List Var) (ks : List code_known.Known). record r { vars = vs; known = ks }) (sym (append-nil r.vars))
      (sym (append-nil r.known));
}

behind_one : (r : Reader) (v : Var) (new : Reader) → Behind (under_var r v) new → Behind r new
behind_one r v new b = record {
  vars = v ∷ b.vars;
  known = known.Level r.binders ∷ b.known;
  binders = b.binders;
  is = b.is ∙ ap₂ (λ (vs : List Var) (ks : List code_known.Known). record r { vars = vs; known = ks; binders = b.binders })
      (append_assoc r.vars (v ∷ []) b.vars) (append_assoc r.known (known.Level r.binders ∷ []) b.known);
}

behind_all : (r : Reader) (xs : List Ident) (ks : List Kind) → Behind r (under_vars r xs ks)
behind_all r [] ks = behind_none r
behind_all r (x ∷ xs) ks =
    behind_one r (bound_var x (first_kind ks)) (under_vars r (x ∷ xs) ks)
    (behind_all (under_var r (bound_var x (first_kind ks))) xs (other_kinds ks))

behind_gone : (r new : Reader) (len binders : ℕ) → IsKept r → len ≡ length r.vars → binders ≡ r.binders → Behind r new
    → back_to len binders new ≡ r
behind_gone r new len binders kept is same b =
    ap (back_to len binders) b.is
    ∙ ap (λ n. record r { vars = take len (r.vars ++ b.vars); known = take len (r.known ++ b.known); binders = n }) same
    ∙ ap₂ (λ (vs : List Var) (ks : List code_known.Known). record r { vars = vs; known = ks })
    (take_front r.vars b.vars len is) (take_front r.known b.known len (is ∙ kept.long))

-- what came in sight goes again
pub all_gone : (r : Reader) (xs : List Ident) (ks : List Kind) (len binders : ℕ) → IsKept r → len ≡ length r.vars → binders ≡ r.binders
    → back_to len binders (under_vars r xs ks) ≡ r
all_gone r xs ks len binders kept is same =
    behind_gone r (under_vars r xs ks) len binders kept is same (behind_all r xs ks)

pub one_gone : (r : Reader) (x : Ident) (kind : Kind) (len binders : ℕ) → IsKept r → len ≡ length r.vars → binders ≡ r.binders
    → back_to len binders (under_var r (bound_var x kind)) ≡ r
one_gone r x kind len binders kept is same = all_gone r (x ∷ []) (kind ∷ []) len binders kept is same

pub all_kept : (r : Reader) (xs : List Ident) (ks : List Kind) → IsKept r → IsKept (under_vars r xs ks)
all_kept r [] ks kept = kept
all_kept r (x ∷ xs) ks kept =
    all_kept (under_var r (bound_var x (first_kind ks))) xs (other_kinds ks) (under_kept r x (first_kind ks) kept)

pub all_sight : (r : Reader) (xs : List Ident) (ks : List Kind) → IsKept r
    → sight_of (under_vars r xs ks)
    ≡ record (sight_of r) { vars = with_levels (sight_of r).vars r.binders xs ks; binders = r.binders + length xs }
all_sight r [] ks kept = ap (λ n. record (sight_of r) { binders = n }) (omega arith)
all_sight r (x ∷ xs) ks kept =
    let k = first_kind ks in
    let more = seen_in r.vars r.known ++ stand (text_of x) k (at_level r.binders) ∷ [] in
    all_sight (under_var r (bound_var x k)) xs (other_kinds ks) (under_kept r x k kept)
    ∙ ap₂ (λ (vars : Seen) n. record (sight_of r) { vars = with_levels vars (r.binders + 1) xs (other_kinds ks); binders = n })
    (seen_push r (bound_var x k) (known.Level r.binders) kept) (omega arith)

-- # Parameters

pub params_kept : (n : Names) (r : Reader) (ps : List ParamTree) → IsKept r → IsKept (with_params n r ps)
params_kept n r [] kept = kept
params_kept n r (p ∷ ps) kept =
    params_kept n (with_var r (bound_var (param_name p) (kind_of n (param_type p))) (known.Param (length r.known))) ps
    (with_kept r (param_name p) (kind_of n (param_type p)) (known.Param (length r.known)) kept)

pub params_sight : (n : Names) (r : Reader) (ps : List ParamTree) → IsKept r
    → sight_of (with_params n r ps) ≡ record (sight_of r) { vars = (sight_of r).vars ++ params_from n (length r.known) ps }
params_sight n r [] kept = ap (λ (vars : Seen). record (sight_of r) { vars = vars }) (sym (append-nil (sight_of r).vars))
params_sight n r (p ∷ ps) kept =
    let k = kind_of n (param_type p) in
    let one = stand (text_of (param_name p)) k (of_param (length r.known)) in
    let next = with_var r (bound_var (param_name p) k) (known.Param (length r.known)) in
    params_sight n next ps (with_kept r (param_name p) k (known.Param (length r.known)) kept)
    ∙ ap (λ (s : Sight). record s { vars = s.vars ++ params_from n (length next.known) ps })
    (with_sight r (param_name p) k (known.Param (length r.known)) kept)
    ∙ ap (λ m. record (sight_of r) { vars = ((sight_of r).vars ++ one ∷ []) ++ params_from n m ps })
    (length_push r.known (known.Param (length r.known)))
    ∙ ap (λ (vars : Seen). record (sight_of r) { vars = vars })
    (append_assoc (sight_of r).vars (one ∷ []) (params_from n (length r.known + 1) ps))

-- in the body of a query, where nothing was in sight before
pub body_kept : (n : Names) (r : Reader) (ps : List ParamTree) → r.vars ≡ [] → r.known ≡ [] → IsKept (with_params n r ps)
body_kept n r ps no_vars no_known =
    params_kept n r ps (record {
      long = ap length no_vars ∙ sym (ap length no_known);
      rules = ap₂ (λ (vs : List Var) (ks : List code_known.Known). vars_of (seen_in vs ks)) no_vars no_known ∙ sym no_vars;
    })

pub body_sight : (t : Tables) (u : Uses) (r : Reader) (ps : List ParamTree) → r.vars ≡ [] → r.known ≡ [] → r.binders ≡ 0
    → tables_view r.tables.now ≡ t → uses_of r.bodies.now ≡ u → sight_of (with_params t.names r ps) ≡ in_body t u ps
body_sight t u r ps no_vars no_known no_binders tables uses =
    params_sight t.names r ps (record {
      long = ap length no_vars ∙ sym (ap length no_known);
      rules = ap₂ (λ (vs : List Var) (ks : List code_known.Known). vars_of (seen_in vs ks)) no_vars no_known ∙ sym no_vars;
    })
    ∙ ap₂ (λ (vs : List Var) (ks : List code_known.Known). record (sight_of r) { vars = seen_in vs ks ++ params_from t.names (length ks) ps }) no_vars no_known
    ∙ ap (λ (b : ℕ). record (sight_of r) { vars = params_from t.names 0 ps; binders = b }) no_binders
    ∙ ap₂ (λ (t' : Tables) (u' : Uses). record { tables = t'; uses = u'; vars = params_from t.names 0 ps; binders = 0 }) tables uses
