-- A tournament in which one entry is new, and what playing each game above it again leaves.
use Rattle.std.proofs.Common.{◌≡◌, ◌≢◌, ◌⊎◌, ℕ, zero, suc, ◌+◌, ◌-◌, ◌*◌, ◌/◌, ◌<◌, ◌≤◌, List, [], ◌∷◌, None}
use Rattle.std.proofs.Common.{length, get_or, arith}
use Rattle.std.proofs.Common.{refl, sym, ap, ap₂, ◌∙◌, inl, inr, subst, get_or-set_same, get_or-set_other}
use Rattle.std.specs.Prelude.{Option, slice_set, replicate}
use Rattle.hls_order.specs.Order.{key_of, none, better, entry_of, IsTournament}
use Rattle.hls_order.specs.Inside.Rising.{up, IsAbove, IsRightBut}
use Rattle.hls_order.proofs.Ways.{parent_left, parent_right, up_more, up_le, beside}
use Rattle.hls_order.proofs.Playing.{same_game, game_swap}
use Rattle.hls_order.proofs.Winning.{stands}

sides : (a b : ℕ) → (a ≡ b) ⊎ (a ≢ b)
sides a b = grind arith

-- ---- what is new at a slot's entry

module _ (keys others : List (Option ℕ)) (winners : List ℕ) (t : IsTournament keys winners) (slot entry : ℕ)
    (few : slot < 32) (size : length winners ≡ 63)
    (same : (s : ℕ) → s ≢ slot → key_of others s ≡ key_of keys s) (is : entry ≡ entry_of slot
    (key_of others slot)) where
  unread : (at : ℕ) → at ≢ 31 + slot → get_or (slice_set winners (31 + slot) entry) at none ≡ get_or winners at none
  unread at ne = get_or-set_other winners (31 + slot) at entry none ne

  -- whoever plays an entry that the slot's entry does not lead to is another slot
  plays_same : (child at : ℕ) → child < 63 → at < 31 → (child - 1) / 2 ≡ at → (IsAbove at (31 + slot) → ⊥)
      → key_of keys (get_or winners child none) ≡ key_of others (get_or winners child none)
  plays_same child at within low over not = elim (sides (get_or winners child none) slot) [
    | inl here ↦
        let s = stands keys winners t child slot within here few in
        absurd (not (record {
          before = omega (arith, low);
          steps = suc s.steps;
          leads = up_more s.steps (31 + slot) ∙ ap (λ k. (k - 1) / 2) s.leads ∙ over;
        }))
    | inr other ↦ sym (same _ other)
  ]

  far : (child at : ℕ) → at < 31 → (child - 1) / 2 ≡ at → (IsAbove at (31 + slot) → ⊥) → child ≢ 31 + slot
  far child at low over not e = not (record {
    before = omega (arith, low);
    steps = 1;
    leads = ap (λ k. (k - 1) / 2) (sym e) ∙ over;
  })

  pub begun : IsRightBut others (slice_set winners (31 + slot) entry) (31 + slot)
  begun = record {
    slots = λ s lt. elim (sides s slot) [
      | inl here ↦
          let at : 31 + s ≡ 31 + slot = ap (λ k. 31 + k) here in
          ap (λ k. get_or (slice_set winners (31 + slot) entry) k none) at
          ∙ get_or-set_same winners (31 + slot) entry none (omega (arith, size, few)) ∙ is
          ∙ ap (λ k. entry_of k (key_of others k)) (sym here)
      | inr other ↦
          unread (31 + s) (λ e. other (omega (arith, e))) ∙ t.slots s lt ∙ ap (λ k. entry_of s k) (sym (same s other))
    ];
    rest = λ at low not.
        let left = far (2 * at + 1) at low (parent_left at) not in
        let right = far (2 * at + 2) at low (parent_right at) not in
        unread at (λ e. omega (arith, e, low)) ∙ t.rest at low
        ∙ same_game keys others _ _ (plays_same (2 * at + 1) at (omega (arith, low)) low (parent_left at) not)
        (plays_same (2 * at + 2) at (omega (arith, low)) low (parent_right at) not)
        ∙ ap₂ (λ a b. better others a b) (sym (unread (2 * at + 1) left)) (sym (unread (2 * at + 2) right));
  }

-- ---- one game more

-- the game above an entry is that of whoever stands there and whoever stands beside it
pub beside_game : (keys : List (Option ℕ)) (winners : List ℕ) (at first : ℕ) → 0 < at
    → get_or winners at none ≡ first
    → better keys (get_or winners (2 * ((at - 1) / 2) + 1) none) (get_or winners (2 * ((at - 1) / 2) + 2) none)
    ≡ better keys first (get_or winners (beside at) none)
beside_game keys winners at first some here = elim (side at some) [
  | inl left ↦
      ap₂ (λ a b. better keys a b) (ap (λ k. get_or winners k none) (sym left) ∙ here)
      (ap (λ k. get_or winners k none) (omega (arith, some, left)))
  | inr right ↦
      ap₂ (λ a b. better keys a b) (ap (λ k. get_or winners k none) (omega (arith, some, right)))
      (ap (λ k. get_or winners k none) (sym right) ∙ here)
      ∙ game_swap keys (get_or winners (beside at) none) first
]
  where
    side : (at : ℕ) → 0 < at → (at ≡ 2 * ((at - 1) / 2) + 1) ⊎ (at ≡ 2 * ((at - 1) / 2) + 2)
    side at some = grind arith

module _ (keys : List (Option ℕ)) (winners : List ℕ) (at : ℕ) (some : 0 < at) (within : at < 63)
    (size : length winners ≡ 63) (r : IsRightBut keys winners at) where
  abbrev above : ℕ
  above = (at - 1) / 2

  abbrev game : ℕ
  game = better keys (get_or winners (2 * above + 1) none) (get_or winners (2 * above + 2) none)

  kept : (k : ℕ) → k ≢ above → get_or (slice_set winners above game) k none ≡ get_or winners k none
  kept k ne = get_or-set_other winners above k game none ne

  -- what is not above the next entry, and is not that entry, is not above this one
  still : (k : ℕ) → k ≢ above → (IsAbove k above → ⊥) → IsAbove k at → ⊥
  still k ne not a = go a.steps a.leads
    where
      go : (steps : ℕ) → up steps at ≡ k → ⊥
      go zero e = let before = a.before in absurd (omega (arith, e, before))
      go (suc steps) e =
          let le : k ≤ above = subst (λ j. j ≤ above) e (up_le steps above) in
          not (record { before = omega (arith, le, ne); steps = steps; leads = e })

  child : (c k : ℕ) → (c - 1) / 2 ≡ k → k < c → (IsAbove k above → ⊥) → c ≢ above
  child c k over lt not e = not (record {
    before = omega (arith, lt, e);
    steps = 1;
    leads = ap (λ j. (j - 1) / 2) (sym e) ∙ over;
  })

  played : (k : ℕ) → k < 31 → (IsAbove k above → ⊥) → get_or (slice_set winners above game) k none
      ≡ better keys (get_or winners (2 * k + 1) none) (get_or winners (2 * k + 2) none)
  played k low not = elim (sides k above) [
    | inl here ↦
        ap (λ j. get_or (slice_set winners above game) j none) here
        ∙ get_or-set_same winners above game none (omega (arith, size, within))
        ∙ ap (λ j. better keys (get_or winners (2 * j + 1) none) (get_or winners (2 * j + 2) none)) (sym here)
    | inr other ↦ kept k other ∙ r.rest k low (still k other not)
  ]

  pub risen : IsRightBut keys (slice_set winners above game) above
  risen = record {
    slots = λ s lt. kept (31 + s) (λ e. omega (arith, e, within)) ∙ r.slots s lt;
    rest = λ k low not.
        played k low not
        ∙ ap₂ (λ a b. better keys a b)
        (sym (kept (2 * k + 1) (child (2 * k + 1) k (parent_left k) (omega arith) not)))
        (sym (kept (2 * k + 2) (child (2 * k + 2) k (parent_right k) (omega arith) not)));
  }

  pub risen_by : (first next : ℕ) → get_or winners at none ≡ first
      → next ≡ better keys first (get_or winners (beside at) none)
      → IsRightBut keys (slice_set winners above next) above
  risen_by first next here is =
      subst (λ entry. IsRightBut keys (slice_set winners above entry) above)
      (beside_game keys winners at first some here ∙ sym is) risen

-- nothing is above the first entry
pub won_all : (keys : List (Option ℕ)) (winners : List ℕ) → IsRightBut keys winners 0 → IsTournament keys winners
won_all keys winners r = record {
  slots = r.slots;
  rest = λ at low. r.rest at low (λ a. let before = a.before in omega (arith, before));
}

-- within a list no other value is read
pub same_default : (xs : List ℕ) (k : ℕ) → k < length xs → get_or xs k none ≡ get_or xs k 0
same_default [] k lt = absurd (omega (arith, lt))
same_default (x ∷ xs) zero lt = refl
same_default (x ∷ xs) (suc k) lt = same_default xs k (omega (arith, lt))

-- ---- nobody is there

all_none : (n k : ℕ) → get_or (replicate n none) k none ≡ none
all_none zero k = refl
all_none (suc n) zero = refl
all_none (suc n) (suc k) = all_none n k

no_key : (n k : ℕ) → key_of (replicate n None) k ≡ None
no_key zero k = refl
no_key (suc n) zero = refl
no_key (suc n) (suc k) = no_key n k

pub empty : IsTournament (replicate 32 None) (replicate 63 none)
empty = record {
  slots = λ slot lt. all_none 63 (31 + slot) ∙ sym (ap (entry_of slot) (no_key 32 slot));
  rest = λ at low.
      all_none 63 at
      ∙ sym (ap₂ (λ a b. better (replicate 32 None) a b) (all_none 63 (2 * at + 1)) (all_none 63 (2 * at + 2)));
}
