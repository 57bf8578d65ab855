-- Who stands at the entries of a tournament.
use Rattle.std.proofs.Common.{◌≡◌, ◌⊎◌, ℕ, zero, suc, ◌+◌, ◌-◌, ◌*◌, ◌/◌, ◌<◌, ◌≤◌, List, [], ◌∷◌, Some, None}
use Rattle.std.proofs.Common.{length, get_or, arith}
use Rattle.std.proofs.Common.{refl, sym, ap, ◌∙◌, inl, inr, subst}
use Rattle.std.specs.Prelude.{Option}
use Rattle.hls_order.specs.Order.{key_of, none, better, entry_of, IsTournament, IsEmpty, IsLeast}
use Rattle.hls_order.specs.Inside.Rising.{up}
use Rattle.hls_order.proofs.Ways.{parent_left, parent_right, up_more, up_slot}
use Rattle.hls_order.proofs.Playing.{better_either, Beats, beats_left, beats_right}

pub beyond : (keys : List (Option ℕ)) (slot : ℕ) → length keys ≤ slot → key_of keys slot ≡ None
beyond [] slot le = refl
beyond (key ∷ keys) zero le = absurd (omega (arith, le))
beyond (key ∷ keys) (suc slot) le = beyond keys slot (omega (arith, le))

none_some : {key : ℕ} → None ≡ Some key → ⊥
none_some e = cc

-- who has a key is one of the slots
pub present_within : (keys : List (Option ℕ)) (slot key : ℕ) → key_of keys slot ≡ Some key → slot < length keys
present_within keys slot key present = elim (side slot (length keys)) [
  | inl few ↦ few
  | inr many ↦ absurd (none_some (sym (beyond keys slot many) ∙ present))
]
  where
    side : (slot size : ℕ) → (slot < size) ⊎ (size ≤ slot)
    side slot size = grind arith

-- a slot that stands at an entry is present, and its own entry leads there
pub record Stands (keys : List (Option ℕ)) (at slot : ℕ) : Type 0 where
  pub key : ℕ
  pub present : key_of keys slot ≡ Some key
  pub steps : ℕ
  pub leads : up steps (31 + slot) ≡ at

own_entry : (keys : List (Option ℕ)) (slot its : ℕ) (key : Option ℕ) → key_of keys its ≡ key → entry_of its key ≡ slot
    → slot < 32 → Stands keys (31 + its) slot
own_entry keys slot its None is e few = absurd (omega (arith, e, few))
own_entry keys slot its (Some key) is e few =
    record {
      key = key;
      present = subst (λ s. key_of keys s ≡ Some key) e is;
      steps = 0;
      leads =
          ap (λ s. 31 + s) (sym e);
    }

-- from an entry to the one that it plays for
further : (keys : List (Option ℕ)) (at above slot : ℕ) → (at - 1) / 2 ≡ above → Stands keys at slot
    → Stands keys above slot
further keys at above slot over s =
    record {
      key = s.key;
      present = s.present;
      steps = suc s.steps;
      leads = up_more s.steps (31 + slot)
          ∙ ap (λ k. (k - 1) / 2) s.leads ∙ over;
    }

module _ (keys : List (Option ℕ)) (winners : List ℕ) (t : IsTournament keys winners) where
  stands_by : (fuel at slot : ℕ) → 63 ≤ fuel + at → at < 63 → get_or winners at none ≡ slot → slot < 32
      → Stands keys at slot
  stands_by zero at slot enough within e few = absurd (omega (arith, enough, within))
  stands_by (suc fuel) at slot enough within e few = elim (cases_at at) [
    | inl low ↦
        let game : better keys (get_or winners (2 * at + 1) none) (get_or winners (2 * at + 2) none) ≡ slot =
        sym (t.rest at low) ∙ e in
        elim (better_either keys _ _ slot game few) [
          | inl left ↦ further keys (2 * at + 1) at slot (parent_left at)
              (stands_by fuel (2 * at + 1) slot (omega (arith, enough)) (omega (arith, low)) left few)
          | inr right ↦ further keys (2 * at + 2) at slot (parent_right at)
              (stands_by fuel (2 * at + 2) slot (omega (arith, enough)) (omega (arith, low)) right few)
        ]
    | inr high ↦
        let is : 31 + (at - 31) ≡ at = omega (arith, high) in
        let own : get_or winners (31 + (at - 31)) none ≡ slot = ap (λ k. get_or winners k none) is ∙ e in
        subst (λ k. Stands keys k slot) is
        (own_entry keys slot (at - 31) (key_of keys (at - 31)) refl
        (sym (t.slots (at - 31) (omega (arith, within, high))) ∙ own) few)
  ]
    where
      cases_at : (at : ℕ) → (at < 31) ⊎ (31 ≤ at)
      cases_at at = grind arith

  pub stands : (at slot : ℕ) → at < 63 → get_or winners at none ≡ slot → slot < 32 → Stands keys at slot
  stands at slot within e few = stands_by 63 at slot (omega arith) within e few

  -- a present slot is beaten, or stands, at each entry above its own
  beaten : (slot key steps : ℕ) → slot < 32 → key_of keys slot ≡ Some key
      → Beats keys (get_or winners (up steps (31 + slot)) none) slot key
  beaten slot key zero few present =
      let own : get_or winners (31 + slot) none ≡ slot = t.slots slot few ∙ ap (λ k. entry_of slot k) present in
      subst (λ e. Beats keys e slot key) (sym own)
      (record { its = key; has = present; le = omega arith; tie = λ same. omega arith })
  beaten slot key (suc steps) few present =
      subst (λ k. Beats keys (get_or winners k none) slot key) (sym (up_more steps (31 + slot)))
      (next (up steps (31 + slot)) (up_within steps (31 + slot) (omega (arith, few)))
      (beaten slot key steps few present))
    where
      up_within : (steps at : ℕ) → at < 63 → up steps at < 63
      up_within zero at lt = lt
      up_within (suc steps) at lt = up_within steps ((at - 1) / 2) (omega (arith, lt))

      next : (at : ℕ) → at < 63 → Beats keys (get_or winners at none) slot key
          → Beats keys (get_or winners ((at - 1) / 2) none) slot key
      next zero within b = b
      next (suc k) within b = elim (side k) [
        | inl left ↦
            let over : (suc k - 1) / 2 ≡ k / 2 = omega arith in
            let is : suc k ≡ 2 * (k / 2) + 1 = omega (arith, left) in
            let at_left = subst (λ a. Beats keys (get_or winners a none) slot key) is b in
            rw (over, t.rest (k / 2) (omega (arith, within))) (beats_left keys _ _ slot key at_left)
        | inr right ↦
            let over : (suc k - 1) / 2 ≡ k / 2 = omega arith in
            let is : suc k ≡ 2 * (k / 2) + 2 = omega (arith, right) in
            let at_right = subst (λ a. Beats keys (get_or winners a none) slot key) is b in
            rw (over, t.rest (k / 2) (omega (arith, within))) (beats_right keys _ _ slot key at_right)
      ]
        where
          side : (k : ℕ) → (k ≡ 2 * (k / 2)) ⊎ (k ≡ 2 * (k / 2) + 1)
          side k = grind arith

  root_beats : (slot key : ℕ) → slot < 32 → key_of keys slot ≡ Some key → Beats keys (get_or winners 0 none) slot key
  root_beats slot key few present =
      subst (λ k. Beats keys (get_or winners k none) slot key) (up_slot slot few) (beaten slot key 5 few present)

  module _ (size : length keys ≡ 32) where
    within_keys : (slot key : ℕ) → key_of keys slot ≡ Some key → slot < 32
    within_keys slot key present = let few = present_within keys slot key present in omega (arith, few, size)

    pub root_none : 32 ≤ get_or winners 0 none → IsEmpty keys
    root_none many slot = go (key_of keys slot) refl
      where
        go : (key : Option ℕ) → key_of keys slot ≡ key → key_of keys slot ≡ None
        go None is = is
        go (Some key) is =
            let b = root_beats slot key (within_keys slot key is) is in
            let few = within_keys (get_or winners 0 none) b.its b.has in
            absurd (omega (arith, many, few))

    pub root_least : (slot : ℕ) → get_or winners 0 none ≡ slot → slot < 32 → IsLeast keys slot
    root_least slot e few =
        let s = stands 0 slot (omega arith) e few in
        let beats : (other its : ℕ) → key_of keys other ≡ Some its → Beats keys slot other its =
        λ other its present. subst (λ w. Beats keys w other its) e
        (root_beats other its (within_keys other its present) present) in
        record {
          key = s.key;
          present = s.present;
          least = λ other its present.
              let b = beats other its present in
              let same : s.key ≡ b.its = some_same (sym s.present ∙ b.has) in
              let le = b.le in
              omega (arith, same, le);
          first = λ other present.
              let b = beats other s.key present in
              b.tie (some_same (sym b.has ∙ s.present));
        }
      where
        some_same : {a b : ℕ} → Some a ≡ Some b → a ≡ b
        some_same e = cc
