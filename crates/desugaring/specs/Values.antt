-- What expressions become: plain terms, or formulas.
use Rattle.std.specs.Prelude.{◌+◌, ℤ, neg_ℤ, Bool, true, false, ◌||◌, Option, Some, None}
use Rattle.rp_grammar.specs.declared.operator.CompareOp.{CompareOp}
use Rattle.rp_grammar.specs.declared.operator.CompareOp.TheVariants as compare
use Rattle.rp_grammar.specs.declared.operator.CallWord.{CallWord}
use Rattle.rp_grammar.specs.declared.operator.CallWord.TheVariants as called
use Rattle.rp_lang.specs.Exprs.{Ex, Slot, Bound, Int, Str, Con, Plus, Add, Sub, Query, OpOf, OpTerm, OriginOf, InfoOf, InfoTerm, ResultOf, ResultTerm, ResultWith, Unreturned, Exs, no_ex, also_ex}
use Rattle.rp_lang.specs.Formulas as fo
use Rattle.rp_lang.specs.Formulas.{Fo, Fos, no_fo, also_fo, Arms, no_arm, also_arm}

pub data Value : Type 0 where
  term : Ex → Value
  formula : Fo → Value

-- as a formula a term of type Bool is true
abbrev pub as_formula : Value → Fo
as_formula (term e) = fo.Holds e
as_formula (formula f) = f

abbrev pub as_term : Value → Option Ex
as_term (term e) = Some e
as_term (formula f) = None

abbrev pub one_ex : Ex → Exs
one_ex e = also_ex e no_ex

abbrev pub append : Exs → Exs → Exs
append no_ex es = es
append (also_ex d ds) es = also_ex d (append ds es)

abbrev pub truth : Bool → Ex
truth false = Con 0 no_ex
truth true = Con 1 no_ex

-- # Sums

abbrev pub literal : Ex → Option ℤ
literal (Int n) = Some n
literal _ = None

-- a literal in front is added to a term that isn't one
abbrev pub sum_in_front : Option ℤ → Ex → Ex → Ex
sum_in_front (Some n) a b = Plus b n
sum_in_front None a b = Add a b

abbrev pub sum_behind : Option ℤ → Ex → Ex → Ex
sum_behind (Some n) a b = Plus a n
sum_behind None a b = sum_in_front (literal a) a b

abbrev pub sum : Ex → Ex → Ex
sum a b = sum_behind (literal b) a b

abbrev pub difference_of : Option ℤ → Ex → Ex → Ex
difference_of (Some n) a b = Plus a (neg_ℤ n)
difference_of None a b = Sub a b

abbrev pub difference : Ex → Ex → Ex
difference a b = difference_of (literal b) a b

-- # Comparisons and words

abbrev pub compared : CompareOp → Ex → Ex → Fo
compared compare.Equal a b = fo.Equal a b
compared compare.NotEqual a b = fo.Not (fo.Equal a b)
compared compare.Less a b = fo.Less a b
compared compare.AtMost a b = fo.AtMost a b
compared compare.Greater a b = fo.Less b a
compared compare.AtLeast a b = fo.AtMost b a

-- a word with one argument or two
abbrev pub word_of_one : CallWord → Ex → Option Value
word_of_one called.Visible e = Some (formula (fo.Visible e))
word_of_one called.Before e = None
word_of_one called.Same e = None
word_of_one called.Op e = Some (term (OpOf e))
word_of_one called.Origin e = Some (term (OriginOf e))
word_of_one called.Info e = Some (term (InfoOf e))
word_of_one called.Result e = Some (term (ResultOf e))

abbrev pub word_of_two : CallWord → Ex → Ex → Option Value
word_of_two called.Before a b = Some (formula (fo.Before a b))
word_of_two called.Same a b = Some (formula (fo.Same a b))
word_of_two _ a b = None

abbrev pub word_of : CallWord → Exs → Option Value
word_of w (also_ex a no_ex) = word_of_one w a
word_of w (also_ex a (also_ex b no_ex)) = word_of_two w a b
word_of w _ = None

-- # Under a binder more

abbrev mutual
  pub lifted : Ex → Ex
  lifted (Slot s) = Slot s
  lifted (Bound n) = Bound (n + 1)
  lifted (Int n) = Int n
  lifted (Str bytes) = Str bytes
  lifted (Con con args) = Con con (all_lifted args)
  lifted (Plus e n) = Plus (lifted e) n
  lifted (Add a b) = Add (lifted a) (lifted b)
  lifted (Sub a b) = Sub (lifted a) (lifted b)
  lifted (Query query args) = Query query (all_lifted args)
  lifted (OpOf call) = OpOf (lifted call)
  lifted (OpTerm op args) = OpTerm op (all_lifted args)
  lifted (OriginOf call) = OriginOf (lifted call)
  lifted (InfoOf inv) = InfoOf (lifted inv)
  lifted (InfoTerm proc args) = InfoTerm proc (all_lifted args)
  lifted (ResultOf inv) = ResultOf (lifted inv)
  lifted (ResultTerm proc) = ResultTerm proc
  lifted (ResultWith proc value) = ResultWith proc (lifted value)
  lifted Unreturned = Unreturned

  pub all_lifted : Exs → Exs
  all_lifted no_ex = no_ex
  all_lifted (also_ex e es) = also_ex (lifted e) (all_lifted es)

-- # What reads the store: it has a store query

abbrev mutual
  pub ex_reads : Ex → Bool
  ex_reads (Slot s) = false
  ex_reads (Bound n) = false
  ex_reads (Int n) = false
  ex_reads (Str bytes) = false
  ex_reads (Con con args) = exs_read args
  ex_reads (Plus e n) = ex_reads e
  ex_reads (Add a b) = ex_reads a || ex_reads b
  ex_reads (Sub a b) = ex_reads a || ex_reads b
  ex_reads (Query query args) = true
  ex_reads (OpOf call) = ex_reads call
  ex_reads (OpTerm op args) = exs_read args
  ex_reads (OriginOf call) = ex_reads call
  ex_reads (InfoOf inv) = ex_reads inv
  ex_reads (InfoTerm proc args) = exs_read args
  ex_reads (ResultOf inv) = ex_reads inv
  ex_reads (ResultTerm proc) = false
  ex_reads (ResultWith proc value) = ex_reads value
  ex_reads Unreturned = false

  pub exs_read : Exs → Bool
  exs_read no_ex = false
  exs_read (also_ex e es) = ex_reads e || exs_read es

abbrev mutual
  pub fo_reads : Fo → Bool
  fo_reads (fo.And parts) = fos_read parts
  fo_reads (fo.Or parts) = fos_read parts
  fo_reads (fo.Not f) = fo_reads f
  fo_reads (fo.Implies a b) = fo_reads a || fo_reads b
  fo_reads (fo.All ty body) = fo_reads body
  fo_reads (fo.Any ty body) = fo_reads body
  fo_reads (fo.Holds e) = ex_reads e
  fo_reads (fo.Equal a b) = ex_reads a || ex_reads b
  fo_reads (fo.Less a b) = ex_reads a || ex_reads b
  fo_reads (fo.AtMost a b) = ex_reads a || ex_reads b
  fo_reads (fo.Visible call) = ex_reads call
  fo_reads (fo.Before a b) = ex_reads a || ex_reads b
  fo_reads (fo.Same a b) = ex_reads a || ex_reads b
  fo_reads (fo.Match on arms) = ex_reads on || arms_read arms

  pub fos_read : Fos → Bool
  fos_read no_fo = false
  fos_read (also_fo f fs) = fo_reads f || fos_read fs

  pub arms_read : Arms → Bool
  arms_read no_arm = false
  arms_read (also_arm con body rest) = fo_reads body || arms_read rest

abbrev pub reads : Value → Bool
reads (term e) = ex_reads e
reads (formula f) = fo_reads f
