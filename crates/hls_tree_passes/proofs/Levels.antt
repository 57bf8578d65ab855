-- Schedulers by their levels, and telling those of a level.
use Rattle.std.proofs.Common.{◌≡◌, ◌≢◌, inl, inr, ℕ, ◌+◌, ◌<◌, ◌≤◌, List, Some, true, length, get_or, set, replicate}
use Rattle.std.proofs.Common.{refl, sym, ap, ◌∙◌, subst, arith, slice_get, ◌^◌, ◌*◌, ◌%◌, w64}
use Rattle.std.specs.Int.{bit_at, bit_not, trailing_zeros}
use Rattle.std.specs.Prelude.{bit_and, bit_or}
use Rattle.std.proofs.lemmas.Bool.{cases_eq, cases_lt}
use Rattle.std.proofs.lemmas.List.{length-set, get_or-set_same, get_or-set_other, get_or-replicate}
use Rattle.std.proofs.lemmas.Option.{slice_get_within}
use Rattle.std.proofs.lemmas.Nat.{and_le_l}
use Rattle.std.proofs.lemmas.Nat.Bits.{bit_at-zero, bit_at-lt, bit_at_and, bit_at-trailing_zeros}
use Rattle.std.proofs.lemmas.Nat.Bits.{bit_at_set_same, bit_at_set_other, bit_at_clear_same, bit_at_clear_other}
use Rattle.hls_tree_nodes.specs.Shown.{level_in, is_sched, PostedIn}
use Rattle.hls_tree_nodes.specs.TreeOf.{IsAlike, IsLaid, IsRanked, IsTelling, Tells, IsRoll, AllFrom, AllUpTo}
use Rattle.hls_tree_nodes.specs.Levels.{IsLevel, AreByLevel}
use Rattle.hls_tree_nodes.proofs.Snapshots.{Nodes, rise, alike_refl, alike_then, laid_alike}
use Rattle.hls_tree_passes.proofs.Tells.{tells_step, tells_fewer, sched_below, sched_alike, entry_at, IsMost, low_level}

-- the places of a level before the place i of a list, of the first 64
pub record IsLevelTo (s : Nodes) (level : ℕ) (l : List ℕ) (i places : ℕ) : Type 0 where
  pub all : (at c : ℕ) → at < i → at < 64 → slice_get l at ≡ Some c → level_in (s c) ≡ level → bit_at places at ≡ 1
  pub only : (at : ℕ) → bit_at places at ≡ 1 → (c : ℕ) × (slice_get l at ≡ Some c) × (level_in (s c) ≡ level)

-- so far each level has its places
pub record AreLevels (s : Nodes) (l : List ℕ) (i : ℕ) (places : List ℕ) : Type 0 where
  pub many : length places ≡ 10
  pub each : (level : ℕ) → level < 10 → IsLevelTo s level l i (get_or places level 0)

no_bits : (s : Nodes) (level : ℕ) (l : List ℕ) (places : ℕ) → places ≡ 0 → IsLevelTo s level l 0 places
no_bits s level l places e = record {
  all = λ at c lt small f g. absurd (omega (arith, lt));
  only = λ at set. absurd (
      let off : bit_at places at ≡ 0 = ap (λ n. bit_at n at) e ∙ bit_at-zero at in
      omega (arith, set, off));
}

pub levels_none : (s : Nodes) (l : List ℕ) → AreLevels s l 0 (replicate 10 0)
levels_none s l = record {
  many = refl;
  each = λ level lt. no_bits s level l (get_or (replicate 10 0) level 0) (get_or-replicate {A = ℕ} 10 level 0 0 lt);
}

level_here : (s : Nodes) (level : ℕ) (l : List ℕ) (i key places : ℕ) → slice_get l i ≡ Some key → i < 64
    → level_in (s key) ≡ level → IsLevelTo s level l i places
    → IsLevelTo s level l (i + 1) (bit_or places (1 * 2 ^ i % 2 ^ 64))
level_here s level l i key places at in64 here so = record {
  all = λ k c lt small f g. elim (cases_eq k i) [
    | inl e ↦ subst (λ n. bit_at (bit_or places (1 * 2 ^ i % 2 ^ 64)) n ≡ 1) (sym e) (bit_at_set_same w64 places i in64)
    | inr ne ↦ bit_at_set_other w64 places i in64 k ne ∙ so.all k c (omega (arith, lt, ne)) small f g
  ];
  only = λ k on. elim (cases_eq k i) [
    | inl e ↦ (key, ap (slice_get l) e ∙ at, here)
    | inr ne ↦ so.only k (sym (bit_at_set_other w64 places i in64 k ne) ∙ on)
  ];
}

level_elsewhere : (s : Nodes) (level : ℕ) (l : List ℕ) (i key places : ℕ) → slice_get l i ≡ Some key
    → level_in (s key) ≢ level → IsLevelTo s level l i places → IsLevelTo s level l (i + 1) places
level_elsewhere s level l i key places at off so = record {
  all = λ k c lt small f g. elim (cases_eq k i) [
    | inl e ↦ absurd (off (ap (λ n. level_in (s n)) (sym (entry_at l i c key at (ap (slice_get l) (sym e) ∙ f))) ∙ g))
    | inr ne ↦ so.all k c (omega (arith, lt, ne)) small f g
  ];
  only = so.only;
}

levels_set : (s : Nodes) (l : List ℕ) (i key here : ℕ) (places : List ℕ) → slice_get l i ≡ Some key → i < 64
    → here ≡ level_in (s key) → here < 10 → AreLevels s l i places
    → AreLevels s l (i + 1) (set places here (bit_or (get_or places here 0) (1 * 2 ^ i % 2 ^ 64)))
levels_set s l i key here places at in64 is low so =
    let within : here < length places = (let many = so.many in omega (arith, low, many)) in
    record {
      many = length-set places here (bit_or (get_or places here 0) (1 * 2 ^ i % 2 ^ 64)) ∙ so.many;
      each = λ level lt. elim (cases_eq level here) [
        | inl e ↦ subst (IsLevelTo s level l (i + 1))
            (sym (ap (λ n. get_or (set places here (bit_or (get_or places here 0) (1 * 2 ^ i % 2 ^ 64))) n 0) e
            ∙ get_or-set_same places here (bit_or (get_or places here 0) (1 * 2 ^ i % 2 ^ 64)) 0 within
            ∙ ap (λ n. bit_or (get_or places n 0) (1 * 2 ^ i % 2 ^ 64)) (sym e)))
            (level_here s level l i key (get_or places level 0) at in64 (sym is ∙ sym e) (so.each level lt))
        | inr ne ↦ subst (IsLevelTo s level l (i + 1))
            (sym (get_or-set_other places here level (bit_or (get_or places here 0) (1 * 2 ^ i % 2 ^ 64)) 0 ne))
            (level_elsewhere s level l i key (get_or places level 0) at (λ f. ne (sym f ∙ sym is))
            (so.each level lt))
      ];
    }

pub levels_step : (s : Nodes) (l : List ℕ) (i key here : ℕ) (places new : List ℕ) → slice_get l i ≡ Some key → i < 64
    → here ≡ level_in (s key) → here < 10
    → new ≡ set places here (bit_or (get_or places here 0) (1 * 2 ^ i % 2 ^ 64))
    → AreLevels s l i places → AreLevels s l (i + 1) new
levels_step s l i key here places new at in64 is low e so =
    subst (AreLevels s l (i + 1)) (sym e) (levels_set s l i key here places at in64 is low so)

-- places behind the first 64 have no bit
levels_far : (s : Nodes) (l : List ℕ) (i : ℕ) (places : List ℕ) → 64 ≤ i → AreLevels s l i places
    → AreLevels s l (i + 1) places
levels_far s l i places far so = record {
  many = so.many;
  each = λ level lt. record {
    all = λ k c before small f g. (so.each level lt).all k c (omega (arith, small, far)) small f g;
    only = (so.each level lt).only;
  };
}

pub levels_past : (s : Nodes) (l : List ℕ) (i : ℕ) (places new : List ℕ) → 64 ≤ i → new ≡ places
    → AreLevels s l i places → AreLevels s l (i + 1) new
levels_past s l i places new far e so = subst (AreLevels s l (i + 1)) (sym e) (levels_far s l i places far so)

pub levels_all : (s : Nodes) (l : List ℕ) (i : ℕ) (places : List ℕ) → length l ≤ i → AreLevels s l i places
    → AreByLevel s l places
levels_all s l i places long so level lt = record {
  all = λ at c in64 f g. (so.each level lt).all at c
      (let within = slice_get_within l at c f in omega (arith, long, within)) in64 f g;
  only = (so.each level lt).only;
}

-- the levels with a place are below ten less so many
pub record IsPlacedBelow (places : List ℕ) (step : ℕ) : Type 0 where
  pub each : (level : ℕ) → level < 10 → get_or places level 0 ≢ 0 → level + step < 10

-- the deepest level with a place is the greatest level of the first 64
pub most_placed : (s : Nodes) (l : List ℕ) (places : List ℕ) (deep : ℕ) → IsRanked s → AreByLevel s l places
    → deep < 10 → ((level : ℕ) → level < 10 → get_or places level 0 ≢ 0 → level ≤ deep) → IsMost s l 64 deep
most_placed s l places deep ranked by within most = record {
  within = within;
  each = λ j c lt at. most (level_in (s c)) (low_level s c ranked) (λ none.
      let on : bit_at (get_or places (level_in (s c)) 0) j ≡ 1 =
      (by (level_in (s c)) (low_level s c ranked)).all j c lt at refl in
      let off : bit_at (get_or places (level_in (s c)) 0) j ≡ 0 = ap (λ n. bit_at n j) none ∙ bit_at-zero j in
      omega (arith, on, off));
}

pub level_alike : (old new : Nodes) (level : ℕ) (l : List ℕ) (places : ℕ) → IsAlike old new → IsLevel old level l places
    → IsLevel new level l places
level_alike old new level l places a so = record {
  all = λ at c lt f g. so.all at c lt f (sym (a.levels c) ∙ g);
  only = λ at on. let one = so.only at on in (one.0, one.1, a.levels one.0 ∙ one.2);
}

pub by_level_alike : (old new : Nodes) (l places : List ℕ) → IsAlike old new → AreByLevel old l places
    → AreByLevel new l places
by_level_alike old new l places a by level lt = level_alike old new level l (get_or places level 0) a (by level lt)

-- a place that has not had its turn
abbrev pub IsLeft : (left : ℕ) → List ℕ → ℕ → Type 0
IsLeft left l c = (at : ℕ) × (at < 64 → bit_at left at ≡ 1) × (slice_get l at ≡ Some c)

-- all but schedulers below a level, and but those at it that have not had their turn
abbrev pub AllBut : Nodes → (level : ℕ) → List ℕ → (left c : ℕ) → Type 0
AllBut s level l left c = is_sched (s c) ≡ true
    → (level ≤ level_in (s c)) × (level_in (s c) ≡ level → ¬ IsLeft left l c)

-- the least place that is left, and what is left without it
module _ (left : ℕ) (fits : left < 2 ^ 64) (some : left ≢ 0) where
  abbrev at : ℕ
  at = trailing_zeros w64 left

  abbrev next : ℕ
  next = bit_and left (bit_not w64 (1 * 2 ^ at % 2 ^ 64))

  low : (at < 64) × (bit_at left at ≡ 1)
  low = let least = bit_at-trailing_zeros w64 left (omega (arith, some)) fits in (least.0, least.1)

  pub least_on : bit_at left (trailing_zeros w64 left) ≡ 1
  least_on = low.1

  pub next_others : (k : ℕ) → k < 64 → k ≢ trailing_zeros w64 left
      → bit_at (bit_and left (bit_not w64 (1 * 2 ^ trailing_zeros w64 left % 2 ^ 64))) k ≡ bit_at left k
  next_others k lt ne = bit_at_clear_other w64 left at low.0 k lt ne

  pub next_fewer : (k : ℕ) → bit_at (bit_and left (bit_not w64 (1 * 2 ^ trailing_zeros w64 left % 2 ^ 64))) k ≡ 1
      → bit_at left k ≡ 1
  next_fewer k on = omega (
    arith,
    on,
    bit_at_and left (bit_not w64 (1 * 2 ^ at % 2 ^ 64)) k,
    bit_at-lt left k,
  )

  pub next_smaller : bit_and left (bit_not w64 (1 * 2 ^ trailing_zeros w64 left % 2 ^ 64)) < left
  next_smaller =
      let le : next ≤ left = and_le_l left (bit_not w64 (1 * 2 ^ at % 2 ^ 64)) in
      elim (cases_eq next left) [
        | inl same ↦ absurd (
            let off : bit_at next at ≡ 0 = bit_at_clear_same w64 left at low.0 in
            let on : bit_at next at ≡ 1 = ap (λ n. bit_at n at) same ∙ low.1 in
            omega (arith, off, on))
        | inr ne ↦ omega (arith, le, ne)
      ]

-- on the way through the places of a level
pub record IsAmong (old s : Nodes) (l : List ℕ) (places left : ℕ) : Type 0 where
  pub laid : IsLaid s
  pub posted : (k : ℕ) → PostedIn (s k)
  pub alike : IsAlike old s
  pub some : (at : ℕ) → bit_at left at ≡ 1 → bit_at places at ≡ 1
  pub telling : (level : ℕ) → IsLevel old level l places → IsTelling old (AllFrom old (level + 1))
      → IsTelling s (AllBut s level l left)

pub among_start : (s : Nodes) (l : List ℕ) (places : ℕ) → IsRoll s l → IsLaid s → ((k : ℕ) → PostedIn (s k))
    → IsAmong s s l places places
among_start s l places roll laid posted = record {
  laid = laid;
  posted = posted;
  alike = alike_refl s;
  some = λ at on. on;
  telling = λ level so t. tells_fewer s _ _ t (λ c then is.
      let both = then is in
      elim (cases_eq (level_in (s c)) level) [
        | inl e ↦ absurd (let on = roll.all c is in both.1 e (on.0, λ lt. so.all on.0 c lt on.1 e, on.1))
        | inr ne ↦ (let le : level ≤ level_in (s c) = both.0 in omega (arith, le, ne))
      ]);
}

pub among_step : (old s new : Nodes) (l : List ℕ) (places left next at key : ℕ) → slice_get l at ≡ Some key
    → bit_at left at ≡ 1 → ((k : ℕ) → k < 64 → k ≢ at → bit_at next k ≡ bit_at left k)
    → ((k : ℕ) → bit_at next k ≡ 1 → bit_at left k ≡ 1) → IsAmong old s l places left → Tells key s new
    → IsAmong old new l places next
among_step old s new l places left next at key here on others fewer so by = record {
  laid = laid_alike s new by.alike so.laid;
  posted = by.posted;
  alike = alike_then old s new so.alike by.alike;
  some = λ k set. so.some k (fewer k set);
  telling = λ level marked t.
      let one = marked.only at (so.some at on) in
      let same : one.0 ≡ key = entry_at l at one.0 key here one.1 in
      let level_is : level_in (s key) ≡ level = so.alike.levels key ∙ ap (λ n. level_in (old n)) (sym same) ∙ one.2 in
      let mid = so.telling level marked t in
      tells_step s new key _ _ mid by
      (λ c then ne is.
      let both = then (sched_alike s new by.alike c ∙ is) in
      let kept : level_in (new c) ≡ level_in (s c) = by.alike.levels c in
      let le : level ≤ level_in (new c) = both.0 in (
        omega (arith, le, kept),
        λ e w. elim (cases_eq w.0 at) [
          | inl j ↦ ne (entry_at l at c key here (ap (slice_get l) (sym j) ∙ w.2))
          | inr nj ↦ both.1 (kept ∙ e) (w.0, λ lt. others w.0 lt nj ∙ w.1 lt, w.2)
        ],
      ))
      (λ q c slot e then.
      let both = then (sched_alike s new by.alike c ∙ sched_below s key q c slot mid.laid e) in
      let kept : level_in (new c) ≡ level_in (s c) = by.alike.levels c in
      let le : level ≤ level_in (new c) = both.0 in
      let up : level_in (s c) < level_in (s key) = rise s mid.laid.ranked key q c slot e in
      omega (arith, le, kept, up, level_is));
}

pub among_end : (old s : Nodes) (l : List ℕ) (places left : ℕ) → left ≡ 0 → IsAmong old s l places left → (level : ℕ)
    → IsLevel old level l places → IsTelling old (AllFrom old (level + 1)) → IsTelling s (AllUpTo s level l 64)
among_end old s l places left none so level marked t = tells_fewer s _ _ (so.telling level marked t) (λ c then is.
    let both = then is in (
      both.0,
      λ e w. both.1 e (
        w.0,
        elim (cases_lt w.0 64) [
          | inl lt ↦ absurd (
              let on : bit_at left w.0 ≡ 1 = w.1 lt in
              let off : bit_at left w.0 ≡ 0 = ap (λ n. bit_at n w.0) none ∙ bit_at-zero w.0 in
              omega (arith, on, off))
          | inr ge ↦ ge
        ],
        w.2,
      ),
    ))
