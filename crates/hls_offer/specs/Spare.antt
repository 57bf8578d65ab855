-- The lines that tell what is left on each loaded scheduler.
use Rattle.std.specs.Prelude.{◌≡◌, ℕ, List, [], ◌∷◌, Option, Some, unwrap_or}
use Rattle.hls_machine.specs.Hierarchy.{Hierarchy, Node, name_of, config_of, haves_of, book_of}
use Rattle.hls_offer_text.specs.OfferText.{Free}
use Rattle.hls_offer.specs.Left.{IsLeft}

-- the periods of the reservations that are told where the words state none
abbrev pub usual_periods : List ℕ
usual_periods = 1000 ∷ []

abbrev pub told_periods : Option (List ℕ) → List ℕ
told_periods stated = unwrap_or stated usual_periods

-- a scheduler's name, its configuration, what its ports are guaranteed, and what is left on it
pub record IsFree (periods : List ℕ) (node : Option Node) (f : Free) : Type 0 where
  pub name : name_of node ≡ Some f.name
  pub config : f.config ≡ config_of node
  pub haves : f.haves ≡ haves_of node
  pub left : IsLeft (config_of node) (book_of node) periods f.left

-- of each of these nodes, in their order
abbrev pub AreFree : (periods : List ℕ) → Hierarchy → List ℕ → List Free → Type 0
AreFree periods h [] [] = Unit {0}
AreFree periods h (k ∷ ks) (f ∷ fs) = IsFree periods (h.nodes k) f × AreFree periods h ks fs
AreFree periods h _ _ = ⊥
