-- What the code's places are seen as.
use Rattle.std.specs.Prelude.{List}
use Rattle.type_rules.specs.Names.{Name}
use Rattle.type_rules.specs.Sites.{Scope, Want, Leaving}
use Rattle.type_judges.specs.declared.scope.Scope as code_scope
use Rattle.type_judges.specs.declared.want.Want as code_want
use Rattle.type_judges.specs.declared.judge_stmts.Leaving as code_leaving

abbrev pub want_view : code_want.Want → Want
want_view w = record { asked = w.asked; rule = w.rule; plain = w.plain; across = w.across }

-- where these names are declared later
abbrev pub scope_view : code_scope.Scope → List Name → Scope
scope_view s later = record { vars = s.vars.now; later = later; decl = s.decl; words = s.words }

abbrev pub leaving_view : code_leaving.Leaving → Leaving
leaving_view l = record {
  inside_atomic = l.inside_atomic;
  last_in_block = l.last_in_block;
  has_value = l.has_value;
  has_result = l.has_result;
}
