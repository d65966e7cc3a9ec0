-- How hashes and their last numbers are kept.
use Rattle.std.specs.Prelude.{◌≡◌, ℕ, List, length, map, slice_get, Some, nat_eq}
use Rattle.std.specs.HashMap.{HashMap, get}
use Rattle.rp_terms.specs.declared.hashes.Link.{Link}
use Rattle.rp_terms.specs.means.Latest.{IsLatest}

abbrev pub hashes_of : List Link → List ℕ
hashes_of links = map (λ link. link.hash) links

pub record AreLinked {S : Type 0} (last : HashMap ℕ ℕ S) (links : List Link) : Type 0 where
  -- the map has the last number of each hash
  pub newest : (hash : ℕ) → IsLatest hash (hashes_of links) (length (hashes_of links)) (get nat_eq last hash)
  -- each number has the last one before it
  pub each : (i : ℕ) (link : Link) → slice_get links i ≡ Some link → IsLatest link.hash (hashes_of links) i link.before
