-- What the code's paths, accesses and constructors are seen as.
use Rattle.std.specs.Prelude.{◌≡◌, List, [], ◌∷◌, is_some, map}
use Rattle.rp_ast.specs.View.{con_view, query_view, proc_view}
use Rattle.type_rules.specs.declared.kind.Kind.{Kind}
use Rattle.type_rules.specs.Names.{Name, Names, is_among}
use Rattle.type_rules.specs.Paths.{Way}
use Rattle.type_rules.specs.Accesses.{Access}
use Rattle.type_rules.specs.Matches.{Case, bool_cases, maybe_cases, con_case}
use Rattle.type_tables.specs.Tables.{Entries, number_in}
use Rattle.type_tables.specs.Variables.{var_view}
use Rattle.text_names.specs.Views.{part_view}
use Rattle.type_terms.specs.Members.{member_view}
use Rattle.type_terms.specs.declared.paths.Way as code_way
use Rattle.type_terms.specs.declared.paths.Way.TheVariants as way
use Rattle.type_terms.specs.declared.access.Access as code_access
use Rattle.type_terms.specs.declared.access.Access.TheVariants as access
use Rattle.type_terms.specs.declared.cases.Cases as code_cases
use Rattle.type_terms.specs.declared.cases.Cases.TheVariants as cases
use Rattle.type_terms.specs.declared.cases.Case as code_case
use Rattle.type_terms.specs.declared.cases.Case.TheVariants as one

-- # Paths

abbrev pub way_view : Names → code_way.Way → Way
way_view n (way.Came p) = Way.came (part_view p)
way_view n (way.Member m) = Way.member (member_view n m)
way_view n (way.Misfit at) = Way.misfit at

abbrev pub access_view : Names → code_access.Access → Access
access_view n access.Unknown = Access.unknown
access_view n (access.Misfit at) = Access.misfit at
access_view n (access.Variable v) = Access.variable (var_view v)
access_view n (access.Constructor type c) = Access.constructor type (con_view c.now)
access_view n (access.UseOf k q) = Access.use_of k (query_view q.now)
access_view n (access.Procedure p) = Access.procedure (proc_view p.now)
access_view n (access.Returned p) = Access.returned (proc_view p.now)
access_view n (access.Member m) = Access.member (member_view n m)

-- # Constructors

abbrev pub cases_view : Names → code_cases.Cases → List Case
cases_view n cases.Bool = bool_cases
cases_view n (cases.Maybe k) = maybe_cases k
cases_view n (cases.Declared cons) = map (con_case n) (map con_view cons.now.cons.now)

-- the fields of a constructor
abbrev pub fields_of : Names → code_case.Case → List Kind
fields_of n one.Bare = []
fields_of n (one.Holding k) = k ∷ []
fields_of n (one.Con c) = (con_case n (con_view c.now)).fields

-- the table has just these names
abbrev pub IsTableOf : Entries → List Name → Type 0
IsTableOf table names = (x : Name) → is_some (number_in table x) ≡ is_among x names
