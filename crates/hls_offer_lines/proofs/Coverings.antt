-- Shares that cover others: each covers itself, and what it covers it covers on.
use Rattle.std.proofs.Common.{◌≡◌, ℕ, ◌+◌, ◌≤◌, ◌<◌, ◌⊎◌, inl, inr, Bool, List, ◌∷◌}
use Rattle.std.proofs.Common.{[], ◌++◌, length, get_or, refl, sym, subst}
use Rattle.std.proofs.Common.{below_more, arith}
use Rattle.std.specs.Prelude.{Option, Some, None, Contains, slice_get}
use Rattle.std.specs.Prelude.{option_to_list, ◌↔◌, IfSome, IsNone, All as Each, AllPairs}
use Rattle.std.proofs.lemmas.Option.{slice_get_within, get_or_from_slice_get}
use Rattle.hls_frac.specs.declared.Frac.{Frac}
use Rattle.hls_guarantee.specs.declared.Guarantee.{Guarantee}
use Rattle.hls_guarantee.specs.declared.Guarantee.TheVariants.{All, Null, Resb, Resc, Psbe}
use Rattle.hls_guarantee.specs.declared.rule.RuleName.TheVariants.{R1}
use Rattle.hls_guarantee.specs.Conversions.{Converts}
use Rattle.hls_guarantee.specs.Limits.{IsNarrow, IsValid}
use Rattle.hls_search_laws.proofs.Quads.{IsBetter, quad, quad-ok, better-refl, better-trans}
use Rattle.hls_search_laws.proofs.Makes.{narrow-valid}
use Rattle.hls_offer_laws.specs.Offered.{IsLent, IsShareOf}
use Rattle.hls_offer_laws.proofs.Shares.{better-converts, share-one}
use Rattle.hls_offer_best.specs.declared.seat.Seat.{Seat}
use Rattle.hls_offer_best.specs.Best.{Offers}
use Rattle.hls_offer_lines.specs.Lines.{AreApart, AreInOrder, AreTopShares, CoverAll, Covers, HasNarrowShares, IsAhead}
use Rattle.hls_offer_lines.specs.Lines.{IsCovered, IsOfferedShare}
use Rattle.hls_offer_lines.specs.Inside.Listing.{IsValidShare}
use Rattle.hls_offer_lines.proofs.Pushes.{pushed-cases, pushed-kept, pushed-there, pushed-pairs}
use Rattle.hls_offer_lines.proofs.Pushes.{option-cases, option-kept, option-there, option-pairs, place-of, of-each}

pub share-ok : (g : Guarantee) → IsValidShare g → IsValid g
share-ok (Psbe s d) valid = valid
share-ok _ valid = absurd valid

pub covers-self : (g : Guarantee) → IsValidShare g → Covers g g
covers-self (Psbe s d) valid = better-converts s d s d valid valid (better-refl (quad (Psbe s d)))
covers-self _ valid = absurd valid

-- ---- what it covers it covers on

on-third : (s d t e : Frac) (c : Guarantee) → IsValidShare c → Covers (Psbe s d) (Psbe t e) → Covers (Psbe t e) c
    → Covers (Psbe s d) c
on-third s d t e (Psbe u f) valid first second =
    let one : IsBetter (quad (Psbe s d)) (quad (Psbe t e)) =
    record { rate = first.leads.0; delay = first.leads.1 } in
    let two : IsBetter (quad (Psbe t e)) (quad (Psbe u f)) =
    record { rate = second.leads.0; delay = second.leads.1 } in
    better-converts s d u f first.from second.to (better-trans (quad-ok (Psbe t e) first.to) one two)
on-third s d t e _ valid first second = absurd valid

on-second : (s d : Frac) (b c : Guarantee) → IsValidShare b → IsValidShare c → Covers (Psbe s d) b → Covers b c
    → Covers (Psbe s d) c
on-second s d (Psbe t e) c vb vc first second = on-third s d t e c vc first second
on-second s d _ c vb vc first second = absurd vb

pub covers-on : (a b c : Guarantee) → IsValidShare a → IsValidShare b → IsValidShare c → Covers a b → Covers b c
    → Covers a c
covers-on (Psbe s d) b c va vb vc first second = on-second s d b c vb vc first second
covers-on _ b c va vb vc first second = absurd va

-- ---- the share of a guarantee is a share

whole-is : (share : Guarantee) → IsShareOf All share → IsValid share → IsValidShare share
whole-is (Psbe s d) is valid = valid
whole-is _ is valid = absurd is

blocks-is : (hard : Bool) (x y : ℕ) (share : Guarantee) → IsShareOf (Resb hard x y) share → IsValid share
    → IsValidShare share
blocks-is hard x y (Psbe s d) is valid = valid
blocks-is hard x y _ is valid = absurd is.leads

windows-is : (hard : Bool) (x y : ℕ) (share : Guarantee) → IsShareOf (Resc hard x y) share → IsValid share
    → IsValidShare share
windows-is hard x y (Psbe s d) is valid = valid
windows-is hard x y _ is valid = absurd is.leads

pub share-is : (lent share : Guarantee) → IsShareOf lent share → IsValid share → IsValidShare share
share-is All share is valid = whole-is share is valid
share-is Null share is valid = absurd is
share-is (Resb hard x y) share is valid = blocks-is hard x y share is valid
share-is (Resc hard x y) share is valid = windows-is hard x y share is valid
share-is (Psbe s d) share is valid = subst IsValidShare (sym is) (subst IsValid is valid)

pub offered-share-ok : (seat : Seat) (share : Guarantee) → IsOfferedShare seat share → IsValidShare share
offered-share-ok seat share is = share-is is.lent share is.is_share (narrow-valid share is.narrow)

-- ---- one more share

pub with-from : (tops kept more : List Guarantee) (share g : Guarantee) → more ≡ kept ++ (share ∷ [])
    → ((g : Guarantee) → Contains kept g → Contains tops g × (Covers share g → ⊥)) → Contains more g
    → Contains tops g ⊎ (Some share ≡ Some g)
with-from tops kept more share g is from has =
    elim (pushed-cases kept more share g is has) [
      | inl old ↦ inl ((from g old).0)
      | inr new ↦ inr (let e : Some share ≡ Some g = cc in e)
    ]

pub with-kept : (tops kept more : List Guarantee) (share g : Guarantee) → more ≡ kept ++ (share ∷ [])
    → Each IsValidShare tops → IsValidShare share → IsValidShare g
    → ((g : Guarantee) → Contains tops g → Contains kept g ⊎ Covers share g) → IsCovered tops g → IsCovered more g
with-kept tops kept more share g is valid ok good each (top, has, covers) =
    elim (each top has) [
      | inl old ↦ (top, pushed-kept kept more share top is old, covers)
      | inr by ↦ (
        share,
        pushed-there kept more share share is refl,
        covers-on share top g ok (of-each IsValidShare tops valid top has) good by covers,
      )
    ]

pub with-itself : (kept more : List Guarantee) (share g : Guarantee) → more ≡ kept ++ (share ∷ [])
    → IsValidShare share → Some share ≡ Some g → IsCovered more g
with-itself kept more share g is ok same =
    let e : share ≡ g = cc in
    (share, pushed-there kept more share share is refl, subst (λ v. Covers share v) e (covers-self share ok))

pub with-apart : (tops kept more : List Guarantee) (share : Guarantee) → more ≡ kept ++ (share ∷ [])
    → ((g : Guarantee) → Contains kept g → Contains tops g × (Covers share g → ⊥)) → (IsCovered tops share → ⊥)
    → AreApart kept → AreApart more
with-apart tops kept more share is from free apart =
    pushed-pairs (λ one other. (Covers one other → ⊥) × (Covers other one → ⊥)) kept more share is apart
    (λ g has. (λ by. free (g, (from g has).0, by), (from g has).1))

pub with-order : (seat : Seat) (tops kept more : List Guarantee) (share : Guarantee) → more ≡ kept ++ (share ∷ [])
    → ((g : Guarantee) → Contains kept g → Contains tops g × (Covers share g → ⊥)) → AreInOrder seat kept
    → ((g : Guarantee) → Contains tops g → IsAhead seat g share) → AreInOrder seat more
with-order seat tops kept more share is from order ahead =
    pushed-pairs (λ one other. IsAhead seat one other) kept more share is order (λ g has. ahead g (from g has).0)

-- ---- those that one does not cover

abbrev pub StandBefore : (tops : List Guarantee) → (share : Guarantee) → (more : List Guarantee) → (n : ℕ) → Type 0
StandBefore tops share more n = (g : Guarantee) → Contains more g
    → (k : ℕ) × (k < n) × (slice_get tops k ≡ Some g) × (Covers share g → ⊥)

abbrev pub EachBefore : (tops : List Guarantee) → (share : Guarantee) → (more : List Guarantee) → (n : ℕ) → Type 0
EachBefore tops share more n =
    (k : ℕ) → k < n → (g : Guarantee) → slice_get tops k ≡ Some g → Contains more g ⊎ Covers share g

abbrev pub IsUnless : (share top : Guarantee) → Option Guarantee → Type 0
IsUnless share top None = Covers share top
IsUnless share top (Some g) = (g ≡ top) × (Covers share top → ⊥)

pub unless-of : (share top : Guarantee) (found : Option Guarantee)
    → IfSome found (λ g. (g ≡ top) × (Covers share top → ⊥)) → (IsNone found → Covers share top)
    → IsUnless share top found
unless-of share top None some none = none refl
unless-of share top (Some g) some none = some

stand-one : (tops : List Guarantee) (share top : Guarantee) (n : ℕ) (found : Option Guarantee) (g : Guarantee)
    → slice_get tops n ≡ Some top → IsUnless share top found → found ≡ Some g
    → (k : ℕ) × (k < n + 1) × (slice_get tops k ≡ Some g) × (Covers share g → ⊥)
stand-one tops share top n None g there unless is = absurd (let no : ⊥ = cc in no)
stand-one tops share top n (Some h) g there unless is =
    let first = unless.0 in
    let e : top ≡ g = cc in
    (n, omega arith, subst (λ v. slice_get tops n ≡ Some v) e there, subst (λ v. Covers share v → ⊥) e unless.1)

pub stand-more : (tops : List Guarantee) (share top : Guarantee) (more next : List Guarantee) (n : ℕ)
    → (found : Option Guarantee) → slice_get tops n ≡ Some top → next ≡ more ++ option_to_list found
    → IsUnless share top found → StandBefore tops share more n → StandBefore tops share next (n + 1)
stand-more tops share top more next n found there is unless before g has =
    elim (option-cases more next found g is has) [
      | inl old ↦ (let b = before g old in (b.0, omega (arith, b.1), b.2, b.3))
      | inr new ↦ stand-one tops share top n found g there unless new
    ]

each-one : (share top : Guarantee) (more next : List Guarantee) (found : Option Guarantee)
    → next ≡ more ++ option_to_list found → IsUnless share top found → Contains next top ⊎ Covers share top
each-one share top more next None is unless = inr unless
each-one share top more next (Some g) is unless =
    inl (option-there more next (Some g) top is (let e = unless.0 in let same : Some g ≡ Some top = cc in same))

pub each-more-share : (tops : List Guarantee) (share top : Guarantee) (more next : List Guarantee) (n : ℕ)
    → (found : Option Guarantee) → slice_get tops n ≡ Some top → next ≡ more ++ option_to_list found
    → IsUnless share top found → EachBefore tops share more n → EachBefore tops share next (n + 1)
each-more-share tops share top more next n found there is unless before =
    below_more (λ k. (g : Guarantee) → slice_get tops k ≡ Some g → Contains next g ⊎ Covers share g) n
    (λ k under g at. elim (before k under g at) [
      | inl old ↦ inl (option-kept more next found g is old)
      | inr by ↦ inr by
    ])
    (λ g at.
    let same : top ≡ g = cc in
    subst (λ v. Contains next v ⊎ Covers share v) same (each-one share top more next found is unless))

-- whatever holds of each two of the shares, the earlier one first
pub pairs-more : (R : Guarantee → Guarantee → Type 0) (tops : List Guarantee) (share top : Guarantee)
    (more next : List Guarantee) (n : ℕ) (found : Option Guarantee) → slice_get tops n ≡ Some top
    → next ≡ more ++ option_to_list found → IsUnless share top found → StandBefore tops share more n
    → AllPairs R tops → AllPairs R more → AllPairs R next
pairs-more R tops share top more next n found there is unless before whole pairs =
    option-pairs R more next found is pairs
    (λ y new g has.
    let b = before g has in
    let within = slice_get_within tops n top there in
    let pair = whole b.0 n g b.1 within in
    let left : get_or tops b.0 g ≡ g = get_or_from_slice_get tops b.0 g g b.2 in
    let right : get_or tops n g ≡ top = get_or_from_slice_get tops n top g there in
    let last : top ≡ y = top-same share top found y unless new in
    subst (λ v. R g v) last (subst (λ v. R g v) right (subst (λ v. R v (get_or tops n g)) left pair)))
  where
    top-same : (share top : Guarantee) (found : Option Guarantee) (y : Guarantee) → IsUnless share top found
        → found ≡ Some y → top ≡ y
    top-same share top None y unless new = absurd (let no : ⊥ = cc in no)
    top-same share top (Some h) y unless new = (let first = unless.0 in let e : top ≡ y = cc in e)

-- ---- all of them

pub covered-before : (tops : List Guarantee) (share : Guarantee) (n : ℕ) → length tops ≤ n
    → ((k : ℕ) → k < n → (g : Guarantee) → slice_get tops k ≡ Some g → Covers g share → ⊥) → IsCovered tops share
    → ⊥
covered-before tops share n ended none (top, has, covers) =
    let at = place-of tops top has in
    none at.0 (let less = at.1 in omega arith) top at.2 covers

abbrev pub IsFound : Seat → (one : Guarantee) → Option Guarantee → Type 0
IsFound seat one found =
    (share : Guarantee) → (found ≡ Some share) ↔ (IsShareOf one share × IsNarrow share × Offers seat share)

pub found-some : (seat : Seat) (one share other : Guarantee) → IsShareOf one share → IsNarrow share
    → Offers seat share
    → (Some share ≡ Some other) ↔ (IsShareOf one other × IsNarrow other × Offers seat other)
found-some seat one share other is narrow offers = (
  λ both.
      let same : share ≡ other = cc in
      subst (λ v. IsShareOf one v × IsNarrow v × Offers seat v) same (is, narrow, offers),
  λ all. (let same = share-one one share other is all.0 in let e : Some share ≡ Some other = cc in e),
)

pub found-none : (seat : Seat) (one share other : Guarantee) → IsShareOf one share
    → (IsNarrow share → Offers seat share → ⊥)
    → (None ≡ Some other) ↔ (IsShareOf one other × IsNarrow other × Offers seat other)
found-none seat one share other is lacks = (
  λ both. absurd (let no : ⊥ = cc in no),
  λ all.
      let same = share-one one other share all.0 is in
      absurd (lacks (subst IsNarrow same all.1) (subst (λ v. Offers seat v) same all.2)),
)

-- what the laws say of shares
abbrev pub HaveCandidates : Seat → Type 0
HaveCandidates seat = (s d : Frac) → IsNarrow (Psbe s d) → Offers seat (Psbe s d)
    → (lent share : Guarantee) × IsLent seat.place seat.haves.now lent × IsShareOf lent share
    × ((share ≡ Psbe s d) ⊎ Converts R1 share (Psbe s d)) × Offers seat share

cover-on : (seat : Seat) (shares : List Guarantee) (share lesser : Guarantee) → AreTopShares seat shares
    → IsOfferedShare seat share → IsValidShare lesser → (share ≡ lesser) ⊎ Covers share lesser
    → IsCovered shares lesser
cover-on seat shares share lesser are is valid (inl same) = subst (IsCovered shares) same (are.cover share is)
cover-on seat shares share lesser are is valid (inr less) =
    let by = are.cover share is in (
      by.0,
      by.1,
      covers-on by.0 share lesser (offered-share-ok seat by.0 (are.each by.0 by.1))
          (offered-share-ok seat share is) valid by.2 less,
    )

pub cover-all : (seat : Seat) (shares : List Guarantee) → AreTopShares seat shares → HaveCandidates seat
    → HasNarrowShares seat → CoverAll seat shares
cover-all seat shares are laws narrow s d small offers =
    let c = laws s d small offers in
    cover-on seat shares c.1 (Psbe s d) are
    (record {
      lent = c.0;
      is_lent = c.2;
      is_share = c.3;
      narrow = narrow c.0 c.1 c.2 c.3;
      offered = c.5;
    }) (narrow-valid (Psbe s d) small) c.4
