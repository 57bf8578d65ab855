-- What a seating leaves of a place.
use Rattle.std.proofs.Common.{◌≡◌, ℕ, ◌+◌, ◌-◌, ◌<◌, ◌≤◌, Some, true, false, arith, refl, ap, ◌∙◌}
use Rattle.std.specs.Prelude.{Option, is_none, nat_lt}
use Rattle.std.proofs.lemmas.Bool.{lt-ltb, le-ltb}
use Rattle.std.proofs.Math.Bool.{and-false}
use Rattle.hls_chron.specs.declared.plain.Terms.TheVariants.{Slots}
use Rattle.hls_chron.proofs.CountLaws.{count-add}
use Rattle.hls_kinds.specs.Frames.{owner_seated, free_below}

-- there are no fewer free places below a later place
free_below-le : (owners : ℕ → Option ℕ) (p q : ℕ) → p ≤ q → free_below owners p ≤ free_below owners q
free_below-le owners p q le =
    let split : q ≡ p + (q - p) = omega (arith, le) in
    let parts = ap (free_below owners) split ∙ count-add (λ at. is_none (owners at)) 0 p (q - p) in
    omega (arith, parts)

-- where as many places as are taken are free below a place, no place from it on is taken
pub none_taken_from : (owners : ℕ → Option ℕ) (slot places p q : ℕ) → places ≡ free_below owners p → p ≤ q
    → owner_seated owners slot (Slots places) q ≡ owners q
none_taken_from owners slot places p q all le =
    let full : nat_lt (free_below owners q) places ≡ false =
    le-ltb (free_below owners q) places (omega (arith, all, free_below-le owners p q le)) in
    rw (full, and-false (is_none (owners q))) refl

pub free_taken : (owners : ℕ → Option ℕ) (slot places p : ℕ) → is_none (owners p) ≡ true
    → free_below owners p < places → owner_seated owners slot (Slots places) p ≡ Some slot
free_taken owners slot places p free more = rw (free, lt-ltb (free_below owners p) places more) refl

pub owned_kept : (owners : ℕ → Option ℕ) (slot places p : ℕ) → is_none (owners p) ≡ false
    → owner_seated owners slot (Slots places) p ≡ owners p
owned_kept owners slot places p owned = rw owned refl
