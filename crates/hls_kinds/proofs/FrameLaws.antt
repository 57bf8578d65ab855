-- The owners of the places of a frame go by the owners of these places alone.
use Rattle.std.proofs.Common.{◌≡◌, ℕ, ◌+◌, ◌<◌, List, length, arith, refl, ap, fold, take}
use Rattle.std.proofs.Common.{get_or}
use Rattle.std.specs.Prelude.{Option, is_none}
use Rattle.hls_chron.specs.declared.book.Mark.{Mark}
use Rattle.hls_chron.specs.declared.book.Event.{Event}
use Rattle.hls_chron.specs.declared.book.Event.TheVariants.{Seat, Leave, Settle}
use Rattle.hls_chron.specs.declared.plain.Terms.{Terms}
use Rattle.hls_chron.specs.declared.plain.Terms.TheVariants as terms
use Rattle.hls_chron.proofs.CountLaws.{count-agree}
use Rattle.hls_kinds.specs.Frames.{owner_seated, owner_after, unowned}
use Rattle.std.proofs.lemmas.List.Sums.{fold_more}

seated-same : (f g : ℕ → Option ℕ) (slot : ℕ) (terms : Terms) (p : ℕ) → ((q : ℕ) → q < p + 1 → f q ≡ g q)
    → owner_seated f slot terms p ≡ owner_seated g slot terms p
seated-same f g slot (terms.Slots places) p same =
    rw (
      same p (omega arith),
      count-agree (λ q. is_none (f q)) (λ q. is_none (g q)) 0 p
          (λ q _ lt. ap is_none (same q (omega (arith, lt)))),
    ) refl
seated-same f g slot _ p same = same p (omega arith)

pub owner_after-same : (f g : ℕ → Option ℕ) (event : Event) (p : ℕ) → ((q : ℕ) → q < p + 1 → f q ≡ g q)
    → owner_after f event p ≡ owner_after g event p
owner_after-same f g (Seat slot terms) p same = seated-same f g slot terms p same
owner_after-same f g (Leave slot) p same = rw (same p (omega arith)) refl
owner_after-same f g Settle p same = same p (omega arith)

abbrev pub owners_after : List Mark → ℕ → Option ℕ
owners_after marks = fold (λ owners (m : Mark). owner_after owners m.event) unowned marks

-- one mark more
pub owners-more : (owners : ℕ → Option ℕ) (marks : List Mark) (i : ℕ) (d : Mark) (p : ℕ) → i < length marks
    → ((q : ℕ) → q < 1000 → owners q ≡ owners_after (take i marks) q) → p < 1000
    → owner_after owners (get_or marks i d).event p ≡ owners_after (take (i + 1) marks) p
owners-more owners marks i d p lt same within =
    rw (fold_more (λ owners (m : Mark). owner_after owners m.event) unowned marks i d lt)
    (owner_after-same owners (owners_after (take i marks)) (get_or marks i d).event p
    (λ q le. same q (omega (arith, le, within))))
