-- Constructors and procedures that are called have numbers.
use Rattle.std.proofs.Common.{◌≡◌, ℕ, zero, suc, Bool, true, false, cond, List, [], ◌∷◌, map, length, Option, Some, None, refl, ap, subst, sym, ◌∙◌, arith, inl, inr}
use Rattle.std.specs.Prelude.{slice_get, filter_map, option_map}
use Rattle.std.specs.List.{cons_option}
use Rattle.std.proofs.lemmas.Cmp.{nat_list_eq_equiv}
use Rattle.std.proofs.lemmas.Option.{slice_get-map}
use Rattle.rp_value.specs.declared.tables.Ty.TheVariants as ty
use Rattle.rp_grammar.specs.Trees.{Ident, TypeTree, ConTree, ProcTree, StepTree, StepTrees}
use Rattle.rp_lang.specs.Exprs.{Con, InfoTerm, Exs, no_ex, also_ex}
use Rattle.type_rules.specs.declared.kind.Kind.{Kind}
use Rattle.type_rules.specs.declared.kind.Base.TheVariants as base
use Rattle.type_rules.specs.Names.{Name, Names, Declared, same_name, text_of, con_name, con_fields}
use Rattle.type_rules.specs.Kinds.{plain_kind, param_kinds}
use Rattle.type_rules.specs.Accesses.{of_entry, proc_params, proc_result, result_args}
use Rattle.type_rules.specs.Matches.{Case, find_case, cases_of, con_case, declared_cases, sort_cases}
use Rattle.type_rules.specs.Rules.{misfit_in}
use Rattle.type_rules.specs.Faults.{IsOneOf}
use Rattle.desugaring.specs.Tables.{Tables, con_number, proc_name, proc_number}
use Rattle.desugaring.specs.Values.{term, append}
use Rattle.desugaring.specs.Callees.{Vars, taking, constructor, procedure, outcome, outcome_with}
use Rattle.desugaring.specs.Expressions.{Uses}
use Rattle.desugaring.proofs.Options.{map_is}
use Rattle.lawful.specs.Typed.{Along}
use Rattle.lawful.proofs.Constructors.{entry_of}
use Rattle.lawful.proofs.Distinct.{at_place}
use Rattle.lawful.proofs.Entries.{IsConOf}
use Rattle.lawful.proofs.Listed.{position_there}
use Rattle.lawful.proofs.Places.{is_one_of}
use Rattle.lawful_programs.specs.Valued.{Callable, Valued, count_terms}
use Rattle.lawful_programs.proofs.Wholes.{bare_whole}
use Rattle.lawful_programs.proofs.Numbers.{con_there}
use Rattle.lawful_programs.proofs.Bases.{Numbered, EntryBased, TypesBased, base_whole, declared_whole}
use Rattle.lawful_programs.proofs.Fields.{CaseWhole, cons_whole}
use Rattle.lawful_programs.proofs.Sounds.{ProcHead}

-- # Constructors

find_there : (cs : List Case) (c : Case) (x : Name) → IsOneOf c cs → same_name c.name x ≡ true → (z : Case) × (find_case cs x ≡ Some z)
find_there [] c x at named = absurd at
find_there (y ∷ cs) c x at named = by_name y cs c x (same_name y.name x) refl at named (λ h. find_there cs c x h named) where
  by_name : (y : Case) (cs : List Case) (c : Case) (x : Name) (same : Bool) → same_name y.name x ≡ same → IsOneOf c (y ∷ cs) → same_name c.name x ≡ true
      → (IsOneOf c cs → (z : Case) × (find_case cs x ≡ Some z)) → (z : Case) × (cond same (Some y) (find_case cs x) ≡ Some z)
  by_name y cs c x true is at named rest = (y, refl)
  by_name y cs c x false is (inl h) named rest = absurd (apart (sym (subst (λ z. same_name z.name x ≡ true) (sym h) named) ∙ is)) where
    apart : true ≡ false → ⊥
    apart e = cc
  by_name y cs c x false is (inr h) named rest = rest h

pub con_callable : (t : Tables) → Numbered t → TypesBased t.names → (uses : Uses) (vs : Vars) (x : Ident) (steps : StepTrees) (name : Name) (decl type : ℕ) (c : ConTree)
    → IsConOf t.names.types (Declared.con type c) → misfit_in (of_entry t.names x steps (Some (entry_of name decl (Declared.con type c)))) ≡ None
    → Callable t uses vs x steps (Some (entry_of name decl (Declared.con type c)))
con_callable t numbered based uses vs x (StepTrees.more_steps s steps) name decl type c is fit = absurd cc
con_callable t numbered based uses vs x StepTrees.no_steps name decl type c is fit =
    let n = t.names in
    let k = plain_kind (base.Declared type) in
    let own = text_of (con_name c) in
    let known_ = base_whole t numbered (base.Declared type) (is.0, is.2) in
    let cases : cases_of n k ≡ Some (map (con_case n) is.1) = ap (declared_cases n) is.2 ∙ ap (sort_cases n) is.3 in
    let at : slice_get (map (con_case n) is.1) is.4.0 ≡ Some (con_case n c) = slice_get-map (con_case n) is.1 is.4.0 ∙ ap (option_map (con_case n)) is.4.1 in
    let found = find_there (map (con_case n) is.1) (con_case n c) own (is_one_of (map (con_case n) is.1) is.4.0 (con_case n c) at) (nat_list_eq_equiv.refl own) in
    let has = con_there t k own (map (con_case n) is.1) found.0 known_ refl cases found.1 in
    let fields = cons_whole t is.1 (declared_whole t numbered type is.0 is.1 is.2 is.3 (at_place (EntryBased n) n.types type is.0 based is.2)) in
    record {
      c = taking [] (param_kinds n (con_fields c)) (constructor has.con);
      is = map_is (λ i. taking [] (param_kinds n (con_fields c)) (constructor i)) (con_number t k own) has.con has.is;
      along = Along.ends;
      args = refl;
      keys_whole = tt;
      args_whole = at_place (CaseWhole t) (map (con_case n) is.1) is.4.0 (con_case n c) fields at;
      whole = bare_whole t (base.Declared type) known_;
      gives = λ keys es e h. (term (Con has.con (append keys es)), refl, tt);
      acts = λ m e h. absurd cc;
    }

-- # Procedures

pub in_part : {X Y : Type 0} (h : X → Option Y) (xs : List X) (i : ℕ) (x : X) (y : Y) → slice_get xs i ≡ Some x → h x ≡ Some y → IsOneOf y (filter_map h xs)
in_part h [] i x y at is = absurd cc
in_part {X} {Y} h (z ∷ xs) zero x y at is = by_part (h z) (filter_map h xs) y (subst (λ w. h w ≡ Some y) (sym (same at)) is) where
  same : {X : Type 0} {a b : X} → Some a ≡ Some b → a ≡ b
  same e = cc

  by_part : {Y : Type 0} (o : Option Y) (ys : List Y) (y : Y) → o ≡ Some y → IsOneOf y (cons_option o ys)
  by_part None ys y e = absurd cc
  by_part (Some w) ys y e = inl cc
in_part {X} {Y} h (z ∷ xs) (suc i) x y at is = by_part (h z) (filter_map h xs) y (in_part h xs i x y at is) where
  by_part : {Y : Type 0} (o : Option Y) (ys : List Y) (y : Y) → IsOneOf y ys → IsOneOf y (cons_option o ys)
  by_part None ys y at = at
  by_part (Some w) ys y at = inr at

proc_there : (t : Tables) (q : ProcTree) → IsOneOf q t.procs → (k : ℕ) × (proc_number t (proc_name q) ≡ Some k)
proc_there t q at = position_there (λ p. same_name (proc_name p) (proc_name q)) q t.procs (nat_list_eq_equiv.refl (proc_name q)) at

no_key : (keys : Exs) → count_terms keys ≡ 0 → keys ≡ no_ex
no_key no_ex e = refl
no_key (also_ex x xs) e = absurd (omega (arith, e))

outcome_value : (n : Names) (k : ℕ) (plain : Bool) (kind : Kind) (result : Option TypeTree) (es : Exs) → count_terms es ≡ length (result_args n result)
    → Valued kind plain (outcome_with k es)
outcome_value n k plain kind result no_ex e = (_, refl, tt)
outcome_value n k plain kind result (also_ex x no_ex) e = (_, refl, tt)
outcome_value n k plain kind None (also_ex x (also_ex y ys)) e = absurd (omega (arith, e))
outcome_value n k plain kind (Some ty) (also_ex x (also_ex y ys)) e = absurd (omega (arith, e))

pub proc_callable : (t : Tables) (uses : Uses) (vs : Vars) (x : Ident) (steps : StepTrees) (name : Name) (decl : ℕ) (q : ProcTree) → IsOneOf q t.procs → ProcHead t q
    → misfit_in (of_entry t.names x steps (Some (entry_of name decl (Declared.proc q)))) ≡ None
    → Callable t uses vs x steps (Some (entry_of name decl (Declared.proc q)))
proc_callable t uses vs x StepTrees.no_steps name decl q at head fit =
    let k = proc_there t q at in
    let kinds = param_kinds t.names (proc_params q) in
    record {
      c = taking [] kinds (procedure k.0);
      is = map_is (λ i. taking [] kinds (procedure i)) (proc_number t (proc_name q)) k.0 k.1;
      along = Along.ends;
      args = refl;
      keys_whole = tt;
      args_whole = head.params;
      whole = bare_whole t base.Info (ty.Info, refl);
      gives = λ keys es e h. (term (InfoTerm k.0 (append keys es)), refl, tt);
      acts = λ m e h. absurd cc;
    }
proc_callable t uses vs x (StepTrees.more_steps (StepTree.returned s) StepTrees.no_steps) name decl q at head fit =
    let k = proc_there t q at in
    let kinds = result_args t.names (proc_result q) in
    record {
      c = taking [] kinds (outcome k.0);
      is = map_is (λ i. taking [] kinds (outcome i)) (proc_number t (proc_name q)) k.0 k.1;
      along = Along.returned Along.ends;
      args = refl;
      keys_whole = tt;
      args_whole = head.result;
      whole = bare_whole t base.Outcome (ty.Outcome, refl);
      gives = λ keys es e h.
          subst (λ z. Valued (plain_kind base.Outcome) true (outcome_with k.0 (append z es))) (sym (no_key keys e))
          (outcome_value t.names k.0 true (plain_kind base.Outcome) (proc_result q) es h);
      acts = λ m e h. absurd cc;
    }
proc_callable t uses vs x (StepTrees.more_steps (StepTree.returned s) (StepTrees.more_steps z steps)) name decl q at head fit = absurd cc
proc_callable t uses vs x (StepTrees.more_steps (StepTree.dot y) steps) name decl q at head fit = absurd cc
proc_callable t uses vs x (StepTrees.more_steps (StepTree.key e) steps) name decl q at head fit = absurd cc
