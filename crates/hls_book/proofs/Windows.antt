-- A run of ticks, and the ticks that a seat has in it.
use Rattle.std.specs.Prelude.{◌≡◌, ℕ, ◌≤◌, ◌<◌, Bool, true, suc, Option, Some, is_some}
use Rattle.hls_chron.specs.Seats.{is_slot}
use Rattle.hls_chron.specs.Ticks.{count}
use Rattle.hls_book.proofs.Tags.{Tag, Clock, v_after, tag_after, SfqServes, HaveRoom, AreTags, IsChurn}

-- how many of the n ticks from t on are given, and how many serve the slot
abbrev pub given_in : (ℕ → Option ℕ) → ℕ → ℕ → ℕ
given_in to t n = count (λ z. is_some (to z)) t n

abbrev pub served_in : (ℕ → Option ℕ) → ℕ → ℕ → ℕ → ℕ
served_in to slot t n = count (λ z. is_slot (to z) slot) t n

-- The ticks from `from` on and before `until`. The clock and the tags stand after the marks of their tick and
-- before its choice.
pub record Passes (Q V T M n from until : ℕ) (clock : ℕ → Clock) (tags : ℕ → ℕ → Tag) (asks : ℕ → ℕ → Bool)
    (to : ℕ → Option ℕ) : Type 0 where
  pub kept : (t : ℕ) → from ≤ t → t < until → AreTags Q V n (clock t) (tags t)
  pub fits : (t : ℕ) → from ≤ t → t < until → HaveRoom T M n (tags t)
  pub serves : (t k : ℕ) → from ≤ t → t < until → to t ≡ Some k → SfqServes n (clock t) (tags t) (asks t) k
  pub taken : (t k : ℕ) → from ≤ t → t < until → k < n → asks t k ≡ true → 0 < (tags t k).w
  pub v : (t : ℕ) → from ≤ t → suc t < until → (clock (suc t)).v ≡ v_after (clock t) (tags t) (asks t) (to t)
  pub churn : (t : ℕ) → from ≤ t → suc t < until
      → IsChurn Q n (clock (suc t)).v (λ k. tag_after (clock t).v (tags t k) (to t) k) (tags (suc t))

-- a seat that is there and asks throughout
pub record AsksOn (from until i : ℕ) (clock : ℕ → Clock) (tags : ℕ → ℕ → Tag) (asks : ℕ → ℕ → Bool)
    (to : ℕ → Option ℕ) : Type 0 where
  pub ready : (t : ℕ) → from ≤ t → t < until → asks t i ≡ true
  pub stays : (t : ℕ) → from ≤ t → suc t < until → tags (suc t) i ≡ tag_after (clock t).v (tags t i) (to t) i
