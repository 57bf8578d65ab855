-- The shares of what the first ports lend, in the order of these ports.
use Rattle.std.proofs.Common.{◌≡◌, ◌⊎◌, ℕ, ◌+◌, ◌≤◌, ◌<◌, inl, inr, List, length, refl, sym, ap, ◌∙◌, subst}
use Rattle.std.proofs.Common.{below_more, arith}
use Rattle.std.specs.Prelude.{Option, Some, None, Contains, slice_get, ◌↔◌, IfSome}
use Rattle.std.proofs.lemmas.Bool.{cases_lt}
use Rattle.std.proofs.lemmas.Option.{slice_get_within}
use Rattle.hls_guarantee.specs.declared.Guarantee.{Guarantee}
use Rattle.hls_search_laws.proofs.Makes.{narrow-valid}
use Rattle.hls_offer_laws.specs.Offered.{IsShareOf}
use Rattle.hls_offer_best.specs.declared.seat.Seat.{Seat}
use Rattle.hls_offer_lines.specs.Lines.{AreApart, AreInOrder, AreTopShares, IsAhead, IsCovered, IsOfferedShare}
use Rattle.hls_offer_lines.specs.Lines.{IsShareAt}
use Rattle.hls_offer_lines.specs.Inside.Listing.{IsOfferedThrough, IsValidShare}
use Rattle.hls_offer_lines.proofs.Coverings.{IsFound, share-is}
use Rattle.hls_offer_lines.proofs.HardOnes.{IsLentBy}

-- ---- one port

pub through-valid : (seat : Seat) (have share : Guarantee) → IsOfferedThrough seat have share → IsValidShare share
through-valid seat have share is = share-is is.lent share is.is_share (narrow-valid share is.narrow)

share-at : (seat : Seat) (port : ℕ) (have share : Guarantee) → slice_get seat.haves.now port ≡ Some have
    → IsOfferedThrough seat have share → IsShareAt seat port share
share-at seat port have share there is = record {
  lent = is.lent;
  is_lent = record { port = port; have = have; there = there; lends = is.lends; some = is.some };
  through = refl;
  is_share = is.is_share;
}

abbrev pub IsFoundThrough : Seat → (have : Guarantee) → Option Guarantee → Type 0
IsFoundThrough seat have found = (share : Guarantee) → (found ≡ Some share) ↔ IsOfferedThrough seat have share

pub through-some : (seat : Seat) (have lent : Guarantee) (found : Option Guarantee)
    → ((other : Guarantee) → (Some lent ≡ Some other) ↔ IsLentBy seat have other) → IsFound seat lent found
    → IsFoundThrough seat have found
through-some seat have lent found lends exact share = (
  λ same.
      let by = (lends lent).0 refl in
      let is = (exact share).0 same in
      record { lent = lent; lends = by.0; some = by.1; is_share = is.0; narrow = is.1; offered = is.2 },
  λ is.
      let both = (lends is.lent).1 (is.lends, is.some) in
      let same : lent ≡ is.lent = cc in
      (exact share).1 (subst (λ v. IsShareOf v share) (sym same) is.is_share, is.narrow, is.offered),
)

pub through-none : (seat : Seat) (have : Guarantee)
    → ((other : Guarantee) → (None ≡ Some other) ↔ IsLentBy seat have other) → IsFoundThrough seat have None
through-none seat have lends share = (
  λ same. absurd (let no : ⊥ = cc in no),
  λ is. (let both = (lends is.lent).1 (is.lends, is.some) in absurd (let no : ⊥ = cc in no)),
)

pub found-valid : (seat : Seat) (have : Guarantee) (found : Option Guarantee) → IsFoundThrough seat have found
    → IfSome found (λ g. IsValidShare g)
found-valid seat have None exact = tt
found-valid seat have (Some g) exact = through-valid seat have g ((exact g).0 refl)

-- ---- the first ports

-- a share is found through one of them
pub record IsFoundBelow (seat : Seat) (n : ℕ) (share : Guarantee) : Type 0 where
  pub port : ℕ
  pub below : port < n
  pub have : Guarantee
  pub there : slice_get seat.haves.now port ≡ Some have
  pub is : IsOfferedThrough seat have share

-- each one that is found through them is covered
abbrev pub CoveredBelow : Seat → (shares : List Guarantee) → (n : ℕ) → Type 0
CoveredBelow seat shares n = (port : ℕ) → port < n → (have : Guarantee) → slice_get seat.haves.now port ≡ Some have
    → (share : Guarantee) → IsOfferedThrough seat have share → IsCovered shares share

pub offered-below : (seat : Seat) (n : ℕ) (share : Guarantee) → IsFoundBelow seat n share → IsOfferedShare seat share
offered-below seat n share f = record {
  lent = f.is.lent;
  is_lent = record { port = f.port; have = f.have; there = f.there; lends = f.is.lends; some = f.is.some };
  is_share = f.is.is_share;
  narrow = f.is.narrow;
  offered = f.is.offered;
}

-- ---- one port more

pub covered-more : (seat : Seat) (shares more : List Guarantee) (n : ℕ) (have : Guarantee)
    → (found : Option Guarantee) → slice_get seat.haves.now n ≡ Some have → IsFoundThrough seat have found
    → ((g : Guarantee) → IsValidShare g → IsCovered shares g → IsCovered more g)
    → ((g : Guarantee) → found ≡ Some g → IsCovered more g) → CoveredBelow seat shares n
    → CoveredBelow seat more (n + 1)
covered-more seat shares more n have found there exact kept itself before =
    below_more (λ port. (other : Guarantee) → slice_get seat.haves.now port ≡ Some other → (share : Guarantee)
    → IsOfferedThrough seat other share → IsCovered more share) n
    (λ port under other at share is.
    kept share (through-valid seat other share is) (before port under other at share is))
    (λ other at share is.
    let same : other ≡ have = cc in
    itself share ((exact share).1 (subst (λ v. IsOfferedThrough seat v share) same is)))

pub each-more : (seat : Seat) (shares more : List Guarantee) (n : ℕ) (have : Guarantee) (found : Option Guarantee)
    → slice_get seat.haves.now n ≡ Some have → IsFoundThrough seat have found
    → ((g : Guarantee) → Contains more g → Contains shares g ⊎ (found ≡ Some g))
    → ((g : Guarantee) → Contains shares g → IsFoundBelow seat n g) → (g : Guarantee) → Contains more g
    → IsFoundBelow seat (n + 1) g
each-more seat shares more n have found there exact from each g has =
    elim (from g has) [
      | inl old ↦ (let f = each g old in
          record {
            port = f.port;
            below = let lt = f.below in omega (arith, lt);
            have = f.have;
            there = f.there;
            is = f.is;
          })
      | inr new ↦ record {
        port = n;
        below = omega arith;
        have = have;
        there = there;
        is = (exact g).0 new;
      }
    ]

-- what was found before has an earlier port than what is found now, and was not covered before
pub ahead-of : (seat : Seat) (shares : List Guarantee) (n : ℕ) (have : Guarantee) (found : Option Guarantee)
    → IsFoundThrough seat have found → ((g : Guarantee) → Contains shares g → IsFoundBelow seat n g)
    → CoveredBelow seat shares n → (g h : Guarantee) → Contains shares g → found ≡ Some h
    → (IsCovered shares h → ⊥) → IsAhead seat g h
ahead-of seat shares n have found exact each before g h has is free =
    let new = (exact h).0 is in
    let old = each g has in
    λ port at. elim (cases_lt port n) [
      | inl under ↦
          let there = ap (λ (k : ℕ). slice_get seat.haves.now k) (sym at.through) ∙ at.is_lent.there in
          absurd (free (before port under at.is_lent.have there h (record {
            lent = at.lent;
            lends = at.is_lent.lends;
            some = at.is_lent.some;
            is_share = at.is_share;
            narrow = new.narrow;
            offered = new.offered;
          })))
      | inr over ↦ (
        old.port,
        (let lt = old.below in omega (arith, lt, over)),
        share-at seat old.port old.have g old.there old.is,
      )
    ]

-- ---- all ports

pub top-shares : (seat : Seat) (shares : List Guarantee) (n : ℕ) → length seat.haves.now ≤ n
    → ((g : Guarantee) → Contains shares g → IsFoundBelow seat n g) → AreApart shares → CoveredBelow seat shares n
    → AreInOrder seat shares → AreTopShares seat shares
top-shares seat shares n ended each apart below order = record {
  each = λ g has. offered-below seat n g (each g has);
  apart = apart;
  cover = λ share is.
      let at = is.is_lent in
      let within = slice_get_within seat.haves.now at.port at.have at.there in
      below at.port (omega (arith, within, ended)) at.have at.there share (record {
        lent = is.lent;
        lends = at.lends;
        some = at.some;
        is_share = is.is_share;
        narrow = is.narrow;
        offered = is.offered;
      });
  in_order = order;
}
