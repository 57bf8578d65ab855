-- Rounds, one after the other.
use Rattle.std.proofs.Common.{◌≡◌, ℕ, suc, ◌*◌, refl, subst, sym}
use Rattle.hls_gen.specs.Generated.{Made, with_round, after_rounds}

pub rounds_none : (made : Made) → after_rounds 0 made ≡ made
unfolding after_rounds
rounds_none made = refl

pub rounds_more : (rounds : ℕ) (made : Made)
    → after_rounds (suc rounds) made ≡ with_round (10 * suc rounds) (after_rounds rounds made)
unfolding after_rounds
rounds_more rounds made = refl

pub rounds_next : (rounds next : ℕ) (made : Made) → next ≡ suc rounds
    → after_rounds next made ≡ with_round (10 * next) (after_rounds rounds made)
rounds_next rounds next made is =
    subst (λ n. after_rounds n made ≡ with_round (10 * n) (after_rounds rounds made)) (sym is) (rounds_more rounds made)
