-- Clap takes two options with their values in words of their own, whichever digits these begin with.
use Rattle.std.proofs.Common.{codes, true, [], ◌∷◌, ◌++◌, ◌≡◌, ℕ, ◌≤◌, ◌+◌, suc, zero, arith, refl}
use Rattle.clap.specs.Words.{Text, takes}
use Rattle.clap.proofs.OnLiterals.{clap_on_literals}
use Rattle.hls_view_words.specs.Inside.Commands.{hlsview}

-- what holds of the ten digits holds of each
pub ten : (P : ℕ → Type 0) → P 48 → P 49 → P 50 → P 51 → P 52 → P 53 → P 54 → P 55 → P 56 → P 57 → (k : ℕ) → k ≤ 9
    → P (48 + k)
ten P a b c d e f g h i j zero le = a
ten P a b c d e f g h i j (suc zero) le = b
ten P a b c d e f g h i j (suc (suc zero)) le = c
ten P a b c d e f g h i j (suc (suc (suc zero))) le = d
ten P a b c d e f g h i j (suc (suc (suc (suc zero)))) le = e
ten P a b c d e f g h i j (suc (suc (suc (suc (suc zero))))) le = f
ten P a b c d e f g h i j (suc (suc (suc (suc (suc (suc zero)))))) le = g
ten P a b c d e f g h i j (suc (suc (suc (suc (suc (suc (suc zero))))))) le = h
ten P a b c d e f g h i j (suc (suc (suc (suc (suc (suc (suc (suc zero)))))))) le = i
ten P a b c d e f g h i j (suc (suc (suc (suc (suc (suc (suc (suc (suc zero))))))))) le = j
ten P a b c d e f g h i j (suc (suc (suc (suc (suc (suc (suc (suc (suc (suc k)))))))))) le = absurd (omega arith)

abbrev pub with_value : (option value : Text) → Text
with_value option value = option ++ (codes "=" ++ value)

-- ---- from, then to

abbrev FromThen : (a b : ℕ) (v w : Text) → Type 0
FromThen a b v w = takes hlsview (codes "svg" ∷ codes "--from" ∷ (a ∷ v) ∷ codes "--to" ∷ (b ∷ w) ∷ []) ≡ true

from_0 : (k : ℕ) (v w : Text) → k ≤ 9 → FromThen 48 (48 + k) v w
unfolding clap_on_literals
from_0 k v w le = ten (λ b. FromThen 48 b v w) refl refl refl refl refl refl refl refl refl refl k le

from_1 : (k : ℕ) (v w : Text) → k ≤ 9 → FromThen 49 (48 + k) v w
unfolding clap_on_literals
from_1 k v w le = ten (λ b. FromThen 49 b v w) refl refl refl refl refl refl refl refl refl refl k le

from_2 : (k : ℕ) (v w : Text) → k ≤ 9 → FromThen 50 (48 + k) v w
unfolding clap_on_literals
from_2 k v w le = ten (λ b. FromThen 50 b v w) refl refl refl refl refl refl refl refl refl refl k le

from_3 : (k : ℕ) (v w : Text) → k ≤ 9 → FromThen 51 (48 + k) v w
unfolding clap_on_literals
from_3 k v w le = ten (λ b. FromThen 51 b v w) refl refl refl refl refl refl refl refl refl refl k le

from_4 : (k : ℕ) (v w : Text) → k ≤ 9 → FromThen 52 (48 + k) v w
unfolding clap_on_literals
from_4 k v w le = ten (λ b. FromThen 52 b v w) refl refl refl refl refl refl refl refl refl refl k le

from_5 : (k : ℕ) (v w : Text) → k ≤ 9 → FromThen 53 (48 + k) v w
unfolding clap_on_literals
from_5 k v w le = ten (λ b. FromThen 53 b v w) refl refl refl refl refl refl refl refl refl refl k le

from_6 : (k : ℕ) (v w : Text) → k ≤ 9 → FromThen 54 (48 + k) v w
unfolding clap_on_literals
from_6 k v w le = ten (λ b. FromThen 54 b v w) refl refl refl refl refl refl refl refl refl refl k le

from_7 : (k : ℕ) (v w : Text) → k ≤ 9 → FromThen 55 (48 + k) v w
unfolding clap_on_literals
from_7 k v w le = ten (λ b. FromThen 55 b v w) refl refl refl refl refl refl refl refl refl refl k le

from_8 : (k : ℕ) (v w : Text) → k ≤ 9 → FromThen 56 (48 + k) v w
unfolding clap_on_literals
from_8 k v w le = ten (λ b. FromThen 56 b v w) refl refl refl refl refl refl refl refl refl refl k le

from_9 : (k : ℕ) (v w : Text) → k ≤ 9 → FromThen 57 (48 + k) v w
unfolding clap_on_literals
from_9 k v w le = ten (λ b. FromThen 57 b v w) refl refl refl refl refl refl refl refl refl refl k le

pub from_to : (j k : ℕ) (v w : Text) → j ≤ 9 → k ≤ 9 → FromThen (48 + j) (48 + k) v w
from_to j k v w few le =
    ten (λ a. FromThen a (48 + k) v w) (from_0 k v w le) (from_1 k v w le) (from_2 k v w le) (from_3 k v w le)
    (from_4 k v w le) (from_5 k v w le) (from_6 k v w le) (from_7 k v w le) (from_8 k v w le) (from_9 k v w le)
    j few

-- ---- to, then from

abbrev ToThen : (a b : ℕ) (v w : Text) → Type 0
ToThen a b v w = takes hlsview (codes "svg" ∷ codes "--to" ∷ (a ∷ v) ∷ codes "--from" ∷ (b ∷ w) ∷ []) ≡ true

to_0 : (k : ℕ) (v w : Text) → k ≤ 9 → ToThen 48 (48 + k) v w
unfolding clap_on_literals
to_0 k v w le = ten (λ b. ToThen 48 b v w) refl refl refl refl refl refl refl refl refl refl k le

to_1 : (k : ℕ) (v w : Text) → k ≤ 9 → ToThen 49 (48 + k) v w
unfolding clap_on_literals
to_1 k v w le = ten (λ b. ToThen 49 b v w) refl refl refl refl refl refl refl refl refl refl k le

to_2 : (k : ℕ) (v w : Text) → k ≤ 9 → ToThen 50 (48 + k) v w
unfolding clap_on_literals
to_2 k v w le = ten (λ b. ToThen 50 b v w) refl refl refl refl refl refl refl refl refl refl k le

to_3 : (k : ℕ) (v w : Text) → k ≤ 9 → ToThen 51 (48 + k) v w
unfolding clap_on_literals
to_3 k v w le = ten (λ b. ToThen 51 b v w) refl refl refl refl refl refl refl refl refl refl k le

to_4 : (k : ℕ) (v w : Text) → k ≤ 9 → ToThen 52 (48 + k) v w
unfolding clap_on_literals
to_4 k v w le = ten (λ b. ToThen 52 b v w) refl refl refl refl refl refl refl refl refl refl k le

to_5 : (k : ℕ) (v w : Text) → k ≤ 9 → ToThen 53 (48 + k) v w
unfolding clap_on_literals
to_5 k v w le = ten (λ b. ToThen 53 b v w) refl refl refl refl refl refl refl refl refl refl k le

to_6 : (k : ℕ) (v w : Text) → k ≤ 9 → ToThen 54 (48 + k) v w
unfolding clap_on_literals
to_6 k v w le = ten (λ b. ToThen 54 b v w) refl refl refl refl refl refl refl refl refl refl k le

to_7 : (k : ℕ) (v w : Text) → k ≤ 9 → ToThen 55 (48 + k) v w
unfolding clap_on_literals
to_7 k v w le = ten (λ b. ToThen 55 b v w) refl refl refl refl refl refl refl refl refl refl k le

to_8 : (k : ℕ) (v w : Text) → k ≤ 9 → ToThen 56 (48 + k) v w
unfolding clap_on_literals
to_8 k v w le = ten (λ b. ToThen 56 b v w) refl refl refl refl refl refl refl refl refl refl k le

to_9 : (k : ℕ) (v w : Text) → k ≤ 9 → ToThen 57 (48 + k) v w
unfolding clap_on_literals
to_9 k v w le = ten (λ b. ToThen 57 b v w) refl refl refl refl refl refl refl refl refl refl k le

pub to_from : (j k : ℕ) (v w : Text) → j ≤ 9 → k ≤ 9 → ToThen (48 + j) (48 + k) v w
to_from j k v w few le =
    ten (λ a. ToThen a (48 + k) v w) (to_0 k v w le) (to_1 k v w le) (to_2 k v w le) (to_3 k v w le) (to_4 k v w le)
    (to_5 k v w le) (to_6 k v w le) (to_7 k v w le) (to_8 k v w le) (to_9 k v w le)
    j few
