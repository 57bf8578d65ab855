-- Items of a list by their names: each item has a name, its key, or none.
use Rattle.std.specs.Prelude.{◌≡◌, ℕ, ◌+◌, ◌<◌, ◌≤◌, List, Option, Some, None, length, slice_get, get_or}
use Rattle.hls_text.specs.Lines.{Text}
use Rattle.hls_audit_threads.specs.declared.chains.Chains.{Chains}
use Rattle.hls_audit_stays.specs.Places.{place_in}

abbrev pub Keys : Type 0
Keys = List (Option Text)

abbrev pub HasKey : Keys → (name : Text) → (place : ℕ) → Type 0
HasKey keys name place = slice_get keys place ≡ Some (Some name)

-- a place of a name from one on, and none before it
pub record IsNextAt (keys : Keys) (name : Text) (from place : ℕ) : Type 0 where
  pub here : HasKey keys name place
  pub behind : from ≤ place
  pub none : (k : ℕ) → from ≤ k → k < place → ¬ HasKey keys name k

abbrev pub IsNext : Keys → (name : Text) → (from : ℕ) → Option ℕ → Type 0
IsNext keys name from None = (k : ℕ) → from ≤ k → ¬ HasKey keys name k
IsNext keys name from (Some place) = IsNextAt keys name from place

abbrev pub first_of : Chains → (name : Text) → Option ℕ
first_of c name = place_in c.first name

abbrev pub next_of : Chains → (place : ℕ) → Option ℕ
next_of c place = get_or c.next.items place None

-- items from one on are linked
pub record AreChainsFrom (keys : Keys) (c : Chains) (from : ℕ) : Type 0 where
  pub long : length c.next.items ≡ length keys
  pub first : (name : Text) → IsNext keys name from (first_of c name)
  pub next : (k : ℕ) (name : Text) → from ≤ k → HasKey keys name k → IsNext keys name (k + 1) (next_of c k)

abbrev pub AreChains : Keys → Chains → Type 0
AreChains keys c = AreChainsFrom keys c 0
