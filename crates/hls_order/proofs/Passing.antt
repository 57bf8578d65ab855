-- A tournament with one slot taken out: only the games on its way up are played again.
use Rattle.std.proofs.Common.{◌≡◌, ◌≢◌, ℕ, zero, suc, ◌+◌, ◌-◌, ◌*◌, ◌/◌, ◌<◌, ◌≤◌, List, None}
use Rattle.std.proofs.Common.{length, get_or, arith, length-set}
use Rattle.std.proofs.Common.{refl, sym, ap, ◌∙◌, inl, inr, get_or-set_same, get_or-set_other}
use Rattle.std.specs.Prelude.{Option, slice_set}
use Rattle.std.proofs.lemmas.Bool.{cases_lt}
use Rattle.hls_order.specs.Order.{key_of, none, better, entry_of, IsTournament, IsLeast, IsEmpty}
use Rattle.hls_order.specs.Inside.Rising.{up, IsRightBut}
use Rattle.hls_order.proofs.Ways.{up_more, up_le, beside}
use Rattle.hls_order.proofs.Playing.{better_either, same_game}
use Rattle.hls_order.proofs.Winning.{beyond, stands, root_least, root_none}
use Rattle.hls_order.proofs.Replaying.{begun, beside_game, risen, won_all}

-- an entry does not lead to the one beside it
not_beside : (a b from at : ℕ) → 0 < at → up a from ≡ at → up b from ≡ beside at → ⊥
not_beside zero zero from at some here there = absurd (omega (arith, some, here, there))
not_beside zero (suc b) from at some here there =
    let le = up_le b ((from - 1) / 2) in absurd (omega (arith, some, here, there, le))
not_beside (suc a) zero from at some here there =
    let le = up_le a ((from - 1) / 2) in absurd (omega (arith, some, here, there, le))
not_beside (suc a) (suc b) from at some here there = not_beside a b ((from - 1) / 2) at some here there

-- a tournament without a slot, played anew up to an entry, where this one goes first of all but that slot
pub record IsPlayed (keys : List (Option ℕ)) (winners : List ℕ) (slot at first : ℕ) : Type 0 where
  pub new : List ℕ
  pub size : length new ≡ 63
  pub right : IsRightBut (slice_set keys slot None) new at
  pub here : get_or new at none ≡ first
  -- what is beside the way is as it was
  pub beside : 0 < at → (k : ℕ) → k ≤ at + 1 → k ≢ at → get_or new k none ≡ get_or winners k none
  pub steps : ℕ
  pub leads : up steps (31 + slot) ≡ at
  pub away : first ≢ slot

module _ (keys : List (Option ℕ)) (winners : List ℕ) (t : IsTournament keys winners) (slot : ℕ) (few : slot < 32)
    (size : length winners ≡ 63) where
  absent : key_of (slice_set keys slot None) slot ≡ None
  absent = elim (cases_lt slot (length keys)) [
    | inl lt ↦ get_or-set_same keys slot None None lt
    | inr le ↦
        let same = length-set keys slot None in
        beyond (slice_set keys slot None) slot (omega (arith, le, same))
  ]

  others : (s : ℕ) → s ≢ slot → key_of (slice_set keys slot None) s ≡ key_of keys s
  others s ne = get_or-set_other keys slot s None None ne

  pub played_none : IsPlayed keys winners slot (31 + slot) none
  played_none = record {
    new = slice_set winners (31 + slot) none;
    size = length-set winners (31 + slot) none ∙ size;
    right = begun keys (slice_set keys slot None) winners t slot none few size others
        (sym (ap (entry_of slot) absent));
    here = get_or-set_same winners (31 + slot) none none (omega (arith, size, few));
    beside = λ some k le ne. get_or-set_other winners (31 + slot) k none none ne;
    steps = 0;
    leads = refl;
    away = λ e. omega (arith, e, few);
  }

  -- who stands beside the way is another slot
  beside_away : (at steps : ℕ) → 0 < at → at < 63 → up steps (31 + slot) ≡ at
      → get_or winners (beside at) none ≢ slot
  beside_away at steps some within leads e =
      let s = stands keys winners t (beside at) slot (omega (arith, some, within)) e few in
      not_beside steps s.steps (31 + slot) at some leads s.leads

  pub played_more : (at first next : ℕ) → 0 < at → at < 63 → IsPlayed keys winners slot at first
      → next ≡ better keys first (get_or winners (beside at) none)
      → IsPlayed keys winners slot ((at - 1) / 2) next
  played_more at first next some within p is =
      let above = (at - 1) / 2 in
      let its = get_or winners (beside at) none in
      let its_away = beside_away at p.steps some within p.leads in
      let there = p.beside some (beside at) (omega (arith, some)) (λ e. omega (arith, some, e)) in
      let game = beside_game (slice_set keys slot None) p.new at first some p.here
      ∙ ap (better (slice_set keys slot None) first) there
      ∙ same_game (slice_set keys slot None) keys first its (others first p.away) (others its its_away) in
      let won = better (slice_set keys slot None) (get_or p.new (2 * above + 1) none)
      (get_or p.new (2 * above + 2) none) in
      let size = p.size in
      record {
        new = slice_set p.new above won;
        size = length-set p.new above won ∙ size;
        right = risen (slice_set keys slot None) p.new at some within size p.right;
        here = get_or-set_same p.new above won none (omega (arith, size, within)) ∙ game ∙ sym is;
        beside = λ more k le ne.
            get_or-set_other p.new above k won none ne
            ∙ p.beside some k (omega (arith, more, le)) (λ e. omega (arith, more, le, e));
        steps = suc p.steps;
        leads = up_more p.steps (31 + slot) ∙ ap (λ k. (k - 1) / 2) p.leads;
        away = λ e. elim (better_either keys first its slot (sym is ∙ e) few) [
          | inl mine ↦ p.away mine
          | inr theirs ↦ its_away theirs
        ];
      }

  pub played_least : (first : ℕ) → length keys ≡ 32 → IsPlayed keys winners slot 0 first → first < 32
      → IsLeast (slice_set keys slot None) first
  played_least first keys_size p few =
      root_least (slice_set keys slot None) p.new (won_all (slice_set keys slot None) p.new p.right)
      (length-set keys slot None ∙ keys_size) first
      p.here few

  pub played_empty : (first : ℕ) → length keys ≡ 32 → IsPlayed keys winners slot 0 first → 32 ≤ first
      → IsEmpty (slice_set keys slot None)
  played_empty first keys_size p many =
      let here = p.here in
      root_none (slice_set keys slot None) p.new (won_all (slice_set keys slot None) p.new p.right)
      (length-set keys slot None ∙ keys_size)
      (omega (arith, many, here))
