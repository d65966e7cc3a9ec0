use Rattle.std.proofs.Common.{◌≡◌, List, ◌++◌, ◌∷◌, [], map, None, ap, ap₂, ◌∙◌}
use Rattle.rp_value.specs.declared.tables.ConDecl.{ConDecl}
use Rattle.rp_lang.specs.declared.op.OpDecl.{OpDecl}
use Rattle.rp_lang.specs.declared.proc.ProcDecl.{ProcDecl}
use Rattle.rp_lang.specs.Programs.{Proc}
use Rattle.rp_lang.specs.ProgramView.{program_view}
use Rattle.rp_lang.specs.Views.{proc_view}
use Rattle.rp_logic.specs.declared.sort.LogicCon.{LogicCon}
use Rattle.rp_symbols.specs.Numbers.{data_sort, op_sort, info_sort, outcome_sort}
use Rattle.rp_symbols.specs.Signatures.{con_of, result_list, sort_of}
use Rattle.program_sigs.proofs.Lists.{put_together}
use Rattle.program_sigs.proofs.constructors.con_decls.Goals as goal

pub returns : goal.returns
returns c =
    let p = program_view c.args.p.now in
    let own = λ (xs : List LogicCon) (ds : List ConDecl). xs ++ map (λ (decl : ConDecl). con_of (data_sort p decl.of) (map (sort_of p) decl.fields)) ds in
    let ops = λ (ds : List OpDecl). c.push_own.new.cons ++ map (λ (decl : OpDecl). con_of (op_sort p) (map (sort_of p) decl.args)) ds in
    let infos = λ (qs : List ProcDecl). c.push_ops.new.cons ++ map (λ (q : Proc). con_of (info_sort p) (map (sort_of p) q.params)) (map proc_view qs) in
    let outcomes = λ (qs : List ProcDecl). c.push.new.self ++ map (λ (q : Proc). con_of (outcome_sort p) (map (sort_of p) (result_list q.result))) (map proc_view qs) in
    put_together _ _ _ _ (con_of (outcome_sort p) []) _ _ _ _ _ (c.in_ok-push_own.ensures ∙ ap₂ own c.new-cons.ensures c.as_slice.ensures.items)
    (c.in_ok-push_ops.ensures ∙ ap ops c.as_slice-2.ensures.items)
    (c.in_ok-push_infos.ensures ∙ ap infos c.as_slice-3.ensures.items)
    (c.in_ok-push.ensures.ok ∙ ap (λ (x : LogicCon). c.push_infos.new.cons ++ x ∷ []) (c.in_ok-con_over.ensures ∙ ap (λ s. con_of s []) c.in_ok-outcome_sort.ensures))
    (c.in_ok-push_outcomes.ensures ∙ ap outcomes c.as_slice-4.ensures.items)
