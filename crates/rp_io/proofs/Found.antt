-- The first entry of a name, found by a scan.
use Rattle.std.proofs.Common.{◌≡◌, ℕ, zero, suc, ◌+◌, ◌<◌, true, false, cond, List, [], ◌∷◌, length, get_or, drop, refl, ap, sym, ◌∙◌, arith, string_bytes, bytes_eq, Contains, IsSome, is_some, ◌⊎◌, inl, inr}
use Rattle.std.specs.declared.option.Option.{Option}
use Rattle.std.specs.declared.option.Option.TheVariants.{None, Some}
use Rattle.std.specs.declared.string.String.{String}
use Rattle.std.specs.declared.vec.Vec.{Vec}
use Rattle.std.specs.declared.alloc.Global.{Global}
use Rattle.std.specs.Cmp.Lexicographic.{slice_cmp}
use Rattle.std.specs.Ordering.{is_eq, nat_cmp}
use Rattle.std.specs.FinMap.{find, get, get-from_entries}
use Rattle.std.proofs.lemmas.Cmp.{nat_list_cmp_total}
use Rattle.std.proofs.lemmas.Map.Text.{is_eq-slice_cmp}
use Rattle.std.proofs.lemmas.List.{drop_more}
use Rattle.std.proofs.lemmas.Slice.Eq.{bytes_eq-Decides}
use Rattle.rp_io.specs.MemFiles.{Entry, contents_of, entries_of, names_of, sound_names}

abbrev pub File : Type 0
File = String Global × Vec ℕ Global

-- what a scan of the files finds under a name
abbrev pub first_under : List ℕ → List File → Option (List ℕ)
first_under name files = find (slice_cmp nat_cmp) name (entries_of files)

pub get-contents_of : (files : List File) (name : List ℕ) → get (contents_of (entries_of files)) name ≡ first_under name files
get-contents_of files name = get-from_entries nat_list_cmp_total (entries_of files) name

first_under-drop : (name : List ℕ) (files : List File) (i : ℕ) (file : File) → i < length files → file ≡ get_or files i file → first_under name (drop i files) ≡ cond (bytes_eq name (string_bytes file.0)) (Some file.1.items) (first_under name (drop (i + 1) files))
first_under-drop name files i file lt is =
    ap (first_under name) (drop_more files i file lt ∙ ap (λ x. x ∷ drop (i + 1) files) (sym is))
    ∙ ap (λ b. cond b (Some file.1.items) (first_under name (drop (i + 1) files))) (is_eq-slice_cmp name (string_bytes file.0))

pub first_under-here : (name : List ℕ) (files : List File) (i : ℕ) (file : File) → i < length files → file ≡ get_or files i file → bytes_eq name (string_bytes file.0) ≡ true → first_under name (drop i files) ≡ Some file.1.items
first_under-here name files i file lt is same =
    first_under-drop name files i file lt is ∙ ap (λ b. cond b (Some file.1.items) (first_under name (drop (i + 1) files))) same

pub first_under-later : (name : List ℕ) (files : List File) (i : ℕ) (file : File) → i < length files → file ≡ get_or files i file → bytes_eq name (string_bytes file.0) ≡ false → first_under name (drop (i + 1) files) ≡ first_under name (drop i files)
first_under-later name files i file lt is other =
    sym (first_under-drop name files i file lt is ∙ ap (λ b. cond b (Some file.1.items) (first_under name (drop (i + 1) files))) other)

is_some-listed : (entries : List Entry) (name : List ℕ) (k : ℕ) → k < length (names_of entries) → get_or (names_of entries) k name ≡ name → IsSome (find (slice_cmp nat_cmp) name entries)
is_some-listed [] name k lt is = absurd (omega arith)
is_some-listed (e ∷ entries) name zero lt is =
    ap (λ b. is_some (cond b (Some e.1) (find (slice_cmp nat_cmp) name entries))) (is_eq-slice_cmp name e.0 ∙ (ap (bytes_eq name) is ∙ (bytes_eq-Decides name name).1 refl))
is_some-listed (e ∷ entries) name (suc k) lt is =
    elim (is_eq (slice_cmp nat_cmp name e.0)) as (λ b. IsSome (cond b (Some e.1) (find (slice_cmp nat_cmp) name entries))) [ true ↦ refl | false ↦ is_some-listed entries name k (omega arith) is ]

-- a name that is listed has bytes
pub listed_has_bytes : (entries : List Entry) (name : List ℕ) → Contains (names_of entries) name → get (contents_of entries) name ≡ None → ⊥
listed_has_bytes entries name listed none =
    let some : IsSome (get (contents_of entries) name) = ap is_some (get-from_entries nat_list_cmp_total entries name) ∙ is_some-listed entries name listed.0 listed.1 listed.2 in
    let not : is_some (get (contents_of entries) name) ≡ false = ap is_some none in
    cc

-- no call on a sound name fails
pub sound_never_fails : (failing : List ℕ) (entries : List Entry) (calls : ℕ) (name : List ℕ) → Contains failing calls ⊎ (get (contents_of entries) name ≡ None) → Contains (sound_names failing (names_of entries)) name → ⊥
sound_never_fails [] entries calls name (inl listed) sound = absurd (omega (arith, listed.1))
sound_never_fails [] entries calls name (inr none) sound = listed_has_bytes entries name sound none
sound_never_fails (call ∷ failing) entries calls name fails sound = absurd (omega (arith, sound.1))
