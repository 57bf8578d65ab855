-- Nodes of a hierarchy from the processor down to a thread.
use Rattle.std.specs.Prelude.{◌≡◌, ℕ, List, [], ◌∷◌, Option, Some, None, map}
use Rattle.hls_text.specs.Lines.{Text}
use Rattle.hls_machine.specs.Hierarchy.{Hierarchy, Seat, seat_of, name_of}
use Rattle.hls_machine.specs.Legal.{scheduler_at, IsThread}

-- a port of node k sits under a scheduler, or at the processor where there is none
pub record SitsBeneath (h : Hierarchy) (parent : Option ℕ) (k : ℕ) : Type 0 where
  pub port : ℕ
  pub seat : Seat
  pub sits : seat_of (h.nodes k) port ≡ Some seat
  pub under : scheduler_at seat.place ≡ parent

-- each sits under the one before, and the last is a thread
abbrev pub IsDescent : Hierarchy → (parent : Option ℕ) → List ℕ → Type 0
IsDescent h parent [] = ⊥
IsDescent h parent (k ∷ []) = SitsBeneath h parent k × IsThread (h.nodes k)
IsDescent h parent (k ∷ ks) = SitsBeneath h parent k × IsDescent h (Some k) ks

-- from the processor, through nodes of these names
pub record HasDescent (h : Hierarchy) (names : List Text) : Type 0 where
  pub nodes : List ℕ
  pub descent : IsDescent h None nodes
  pub named : map (λ k. name_of (h.nodes k)) nodes ≡ map Some names
