-- The default of a type of data is a value of the type.
use Rattle.std.proofs.Common.{◌≡◌, ℕ, zero, suc, ◌+◌, ◌<◌, ◌≤◌, nat_le, true, ◌&&◌, List, [], ◌∷◌, length, sum_by, Option, Some, None, slice_get, refl, sym, ap, ◌∙◌, subst, eq-eqb, ltb-true, arith}
use Rattle.std.proofs.lemmas.Bool.{and_parts, and_from}
use Rattle.std.proofs.lemmas.List.Sums.{sum_by-cons}
use Rattle.std.proofs.lemmas.Option.{none-some, same_Some}
use Rattle.rp_value.specs.declared.tables.Ty.{Ty}
use Rattle.rp_value.specs.declared.tables.Ty.TheVariants as ty
use Rattle.rp_value.specs.declared.tables.ConDecl.{ConDecl}
use Rattle.rp_value.specs.declared.tables.ConTable.{ConTable}
use Rattle.rp_value.specs.declared.tables.DataDecl.{DataDecl}
use Rattle.rp_value.specs.declared.tables.TypeTable.{TypeTable}
use Rattle.rp_value.specs.Values as val
use Rattle.rp_value.specs.Values.{Val}
use Rattle.rp_lang.specs.Types as types
use Rattle.rp_lang.specs.Types.{is_ordinary, are_ordinary, fields_in, datatype_in, cons_in, cons_of, has_next, are_numbered, parts, has_few_parts, are_within_parts}
use Rattle.rp_lang.specs.Programs.{Prog}
use Rattle.rp_lang.specs.WellFormed.{is_well_formed}
use Rattle.rp_lang.proofs.ProgramFacts.{Facts, facts, listed-of}
use Rattle.rp_lang.proofs.TypeFacts.{each}
use Rattle.crdt_defs.specs.Fitting as fitting
use Rattle.crdt_defs.specs.Fitting.{fits, fields_fit, all_fit, cons_to}
use Rattle.event_machine.proofs.PlaceLemmas.{at-exists}
use Rattle.rp_logic.proofs.SortLaws.{no}
use Rattle.hist_struct.specs.Defaults.{first_of, each_by, default_at, default_val, most_parts}

-- # Few parts

le-of : (a b : ℕ) → nat_le a b ≡ true → a ≤ b
le-of a b h = grind arith

few-at : (types : TypeTable) (cons : ConTable) (n : ℕ) (decls : List DataDecl) (i m : ℕ) (decl : DataDecl) → are_within_parts types cons n decls ≡ true → slice_get decls i ≡ Some decl → n + i ≡ m
    → has_few_parts types cons m ≡ true
few-at types cons n [] i m decl h at e = absurd (none-some decl at)
few-at types cons n (d ∷ decls) zero m decl h at e =
    subst (λ k. has_few_parts types cons k ≡ true) (let same : n ≡ m = omega (arith, e) in same) (and_parts (has_few_parts types cons n) (are_within_parts types cons (n + 1) decls) h).0
few-at types cons n (d ∷ decls) (suc i) m decl h at e =
    few-at types cons (n + 1) decls i m decl (and_parts (has_few_parts types cons n) (are_within_parts types cons (n + 1) decls) h).1 at (omega (arith, e))

within-parts : (p : Prog) → is_well_formed p ≡ true → are_within_parts p.types p.cons 0 p.types.datatypes ≡ true
within-parts p h =
    let names = and_parts _ _ h in
    let procs = and_parts _ _ names.0 in
    let invs = and_parts _ _ procs.0 in
    let queries = and_parts _ _ invs.0 in
    let ops = and_parts _ _ queries.0 in
    let roots = and_parts _ _ ops.0 in
    (and_parts _ _ roots.0).1

few-parts : (p : Prog) → is_well_formed p ≡ true → (d : ℕ) (decl : DataDecl) → slice_get p.types.datatypes d ≡ Some decl → has_few_parts p.types p.cons d ≡ true
few-parts p h d decl at = few-at p.types p.cons 0 p.types.datatypes d d decl (within-parts p h) at (omega arith)

few-most : (types : TypeTable) (cons : ConTable) (k d : ℕ) → k ≡ 1000 → has_few_parts types cons d ≡ true → parts types cons k (ty.Datatype d) ≤ k
few-most types cons k d e h = le-of _ _ (subst (λ n. nat_le (parts types cons n (ty.Datatype d)) n ≡ true) (sym e) h)

most-is : most_parts ≡ 1000
unfolding most_parts
most-is = refl

-- # The first constructor

has-con : (cons : ConTable) (n next : ℕ) (decls : List DataDecl) (i : ℕ) (decl : DataDecl) → are_numbered cons n next decls ≡ true → slice_get decls i ≡ Some decl
    → (c : ℕ) × (cs : List ℕ) × (decl.cons ≡ c ∷ cs)
has-con cons n next [] i decl h at = absurd (none-some decl at)
has-con cons n next (d ∷ decls) zero decl h at = go decl.cons refl (ap (λ (d : DataDecl). has_next cons n next d.cons) (sym (same_Some d decl at)) ∙ (and_parts (has_next cons n next d.cons) _ h).0)
  where
    go : (list : List ℕ) → decl.cons ≡ list → has_next cons n next list ≡ true → (c : ℕ) × (cs : List ℕ) × (decl.cons ≡ c ∷ cs)
    go [] e k = no k
    go (c ∷ cs) e k = (c, cs, e)
has-con cons n next (d ∷ decls) (suc i) decl h at = has-con cons (n + 1) (next + length d.cons) decls i decl (and_parts (has_next cons n next d.cons) _ h).1 at

abbrev pub data_number : Ty → ℕ
data_number (ty.Datatype n) = n
data_number _ = 0

pub record FirstCon (p : Prog) (d : ℕ) : Type 0 where
  pub con : ℕ
  pub others : List ℕ
  pub cons : cons_of p.types d ≡ con ∷ others
  pub decl : ConDecl
  pub is : slice_get p.cons.cons con ≡ Some decl
  pub of : decl.of ≡ d

pub first-con : (p : Prog) → Facts p → (d : ℕ) → d < length p.types.datatypes → FirstCon p d
first-con p f d l =
    let decl = at-exists p.types.datatypes d l in
    let c = has-con p.cons 0 0 p.types.datatypes d decl.0 f.numbered decl.1 in
    let made = listed-of p f d decl.0 0 c.0 decl.1 (ap (λ cs. slice_get cs 0) c.2) in
    go decl.0 c.0 c.1 (ap cons_in decl.1 ∙ c.2) (slice_get p.cons.cons c.0) refl made
  where
    go : (decl : DataDecl) (con : ℕ) (others : List ℕ) → cons_of p.types d ≡ con ∷ others → (o : Option ConDecl) → slice_get p.cons.cons con ≡ o → datatype_in o ≡ Some (ty.Datatype d) → FirstCon p d
    go decl con others e None is made = absurd (none-some _ made)
    go decl con others e (Some c) is made = record { con = con; others = others; cons = e; decl = c; is = is; of = ap data_number (same_Some (ty.Datatype c.of) (ty.Datatype d) made) }

-- # Values

pub part-le : (g : Ty → ℕ) (tys : List Ty) (i : ℕ) (t : Ty) → slice_get tys i ≡ Some t → g t ≤ sum_by g tys
part-le g [] i t e = absurd (none-some t e)
part-le g (u ∷ tys) zero t e = let s = sum_by-cons g u tys in let q = ap g (same_Some u t e) in omega (arith, s, q)
part-le g (u ∷ tys) (suc i) t e = let s = sum_by-cons g u tys in let r = part-le g tys i t e in omega (arith, s, r)

fields-default : (p : Prog) (f : Ty → Val) (tys : List Ty) → ((i : ℕ) (t : Ty) → slice_get tys i ≡ Some t → fits p t (f t) ≡ true) → fields_fit p tys (each_by f tys) ≡ true
fields-default p f [] h = refl
fields-default p f (t ∷ tys) h = and_from (fits p t (f t)) _ (h 0 t refl) (fields-default p f tys (λ i u e. h (suc i) u e))

of-first : (p : Prog) (rec : Ty → Val) (d : ℕ) → (c : FirstCon p d) → fields_fit p c.decl.fields (each_by rec c.decl.fields) ≡ true
    → fits p (ty.Datatype d) (val.Con (first_of (cons_of p.types d)) (each_by rec (types.fields_of p.cons (first_of (cons_of p.types d))))) ≡ true
of-first p rec d c h =
    ap (λ cs. fits p (ty.Datatype d) (val.Con (first_of cs) (each_by rec (types.fields_of p.cons (first_of cs))))) c.cons
    ∙ (ap (λ o. cons_to d o && fields_fit p (fitting.fields_of o) (each_by rec (fields_in o))) c.is
    ∙ and_from (cons_to d (Some c.decl)) _ (eq-eqb c.decl.of d c.of) h)

default-fits : (p : Prog) → Facts p → (n : ℕ) (t : Ty) → is_ordinary p.types t ≡ true → parts p.types p.cons n t ≤ n → fits p t (default_at p n t) ≡ true
default-fits p f zero t o l = absurd (omega (arith, l))
default-fits p f (suc n) ty.Int o l = refl
default-fits p f (suc n) ty.Str o l = refl
default-fits p f (suc n) (ty.Atom a) o l = eq-eqb a a refl
default-fits p f (suc n) (ty.Datatype d) o l =
    let c = first-con p f d (ltb-true d _ o) in
    let ordinary = each (λ (con : ConDecl). are_ordinary p.types con.fields) p.cons.cons c.con c.decl f.fields c.is in
    let all = ap (sum_by (λ con. sum_by (parts p.types p.cons n) (types.fields_of p.cons con))) c.cons in
    let first = sum_by-cons (λ con. sum_by (parts p.types p.cons n) (types.fields_of p.cons con)) c.con c.others in
    let fields = ap (λ o. sum_by (parts p.types p.cons n) (fields_in o)) c.is in
    of-first p (default_at p n) d c
    (fields-default p (default_at p n) c.decl.fields
    (λ i t e. default-fits p f n t (each (is_ordinary p.types) c.decl.fields i t ordinary e) (let part = part-le (parts p.types p.cons n) c.decl.fields i t e in omega (arith, l, all, first, fields, part))))
default-fits p f (suc n) _ o l = no o

-- at most so many parts are enough
default-by : (p : Prog) → Facts p → (n : ℕ) → ((d : ℕ) → d < length p.types.datatypes → parts p.types p.cons n (ty.Datatype d) ≤ n) → (t : Ty) → is_ordinary p.types t ≡ true → fits p t (default_at p n t) ≡ true
default-by p f n few (ty.Datatype d) o = default-fits p f n (ty.Datatype d) o (few d (ltb-true d _ o))
default-by p f zero few ty.Int o = refl
default-by p f zero few ty.Str o = refl
default-by p f zero few (ty.Atom a) o = eq-eqb a a refl
default-by p f zero few ty.Call o = no o
default-by p f zero few ty.Inv o = no o
default-by p f zero few ty.Operation o = no o
default-by p f zero few ty.Info o = no o
default-by p f zero few ty.Outcome o = no o
default-by p f (suc n) few ty.Int o = refl
default-by p f (suc n) few ty.Str o = refl
default-by p f (suc n) few (ty.Atom a) o = eq-eqb a a refl
default-by p f (suc n) few ty.Call o = no o
default-by p f (suc n) few ty.Inv o = no o
default-by p f (suc n) few ty.Operation o = no o
default-by p f (suc n) few ty.Info o = no o
default-by p f (suc n) few ty.Outcome o = no o

few-simple : (types : TypeTable) (cons : ConTable) (k : ℕ) → 1 ≤ k → (t : Ty) → ((d : ℕ) → t ≡ ty.Datatype d → parts types cons k (ty.Datatype d) ≤ k) → parts types cons k t ≤ k
few-simple types cons zero l t h = absurd (omega (arith, l))
few-simple types cons (suc k) l (ty.Datatype d) h = h d refl
few-simple types cons (suc k) l ty.Int h = omega arith
few-simple types cons (suc k) l ty.Str h = omega arith
few-simple types cons (suc k) l (ty.Atom n) h = omega arith
few-simple types cons (suc k) l ty.Call h = omega arith
few-simple types cons (suc k) l ty.Inv h = omega arith
few-simple types cons (suc k) l ty.Operation h = omega arith
few-simple types cons (suc k) l ty.Info h = omega arith
few-simple types cons (suc k) l ty.Outcome h = omega arith

-- no type of data has more
pub few-of : (p : Prog) → is_well_formed p ≡ true → (t : Ty) → is_ordinary p.types t ≡ true → parts p.types p.cons most_parts t ≤ most_parts
few-of p w t o =
    few-simple p.types p.cons most_parts (let e = most-is in omega (arith, e)) t
    (λ d q. let decl = at-exists p.types.datatypes d (ltb-true d _ (ap (is_ordinary p.types) (sym q) ∙ o)) in few-most p.types p.cons most_parts d most-is (few-parts p w d decl.0 decl.1))

pub default-is : (p : Prog) → is_well_formed p ≡ true → (t : Ty) → is_ordinary p.types t ≡ true → fits p t (default_val p t) ≡ true
default-is p w t o =
    default-by p (facts p w) most_parts
    (λ d l. let decl = at-exists p.types.datatypes d l in few-most p.types p.cons most_parts d most-is (few-parts p w d decl.0 decl.1)) t o

pub defaults-are : (p : Prog) → is_well_formed p ≡ true → (tys : List Ty) → are_ordinary p.types tys ≡ true → fields_fit p tys (each_by (default_val p) tys) ≡ true
defaults-are p w tys o = fields-default p (default_val p) tys (λ i t e. default-is p w t (each (is_ordinary p.types) tys i t o e))
