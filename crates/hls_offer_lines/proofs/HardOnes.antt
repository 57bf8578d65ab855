-- All that is lent, and the hard reservations that may be offered then.
use Rattle.std.proofs.Common.{◌≡◌, ℕ, ◌+◌, ◌≤◌, ◌<◌, ◌⊎◌, inl, inr, true, false}
use Rattle.std.proofs.Common.{List, [], ◌∷◌, ◌++◌, length, refl, sym, subst}
use Rattle.std.proofs.Common.{below_more, arith}
use Rattle.std.specs.Prelude.{Option, Some, Contains, slice_get, option_to_list, ◌↔◌, AllPairs}
use Rattle.std.proofs.lemmas.Option.{slice_get_within}
use Rattle.hls_guarantee.specs.declared.Guarantee.{Guarantee}
use Rattle.hls_guarantee.specs.declared.Guarantee.TheVariants.{All, Null, Resb, Resc}
use Rattle.hls_guarantee.specs.Limits.{IsValid}
use Rattle.hls_offer_laws.specs.Offered.{IsLent, IsLentOf}
use Rattle.hls_offer_best.specs.declared.seat.Seat.{Seat}
use Rattle.hls_offer_best.specs.declared.windows.Form.{Form}
use Rattle.hls_offer_best.specs.declared.windows.Form.TheVariants.{Blocks, Windows}
use Rattle.hls_offer_best.specs.Best.{CanAsk, Offers}
use Rattle.hls_search.proofs.Completing.{narrow-at}
use Rattle.hls_offer_best.proofs.Trying.{lent-of-valid}
use Rattle.hls_offer_lines.specs.Lines.{IsHardOf, ListsEach}
use Rattle.hls_offer_lines.specs.Inside.Listing.{AreLent, MayGive}
use Rattle.hls_offer_lines.proofs.Pushes.{none-in, option-cases, option-kept, option-there, place-of}
use Rattle.hls_offer_lines.proofs.Pushes.{each-of, pushed-cases, pushed-kept, pushed-there, pushed-pairs}

-- ---- all that is lent

abbrev pub IsLentBy : Seat → (have lent : Guarantee) → Type 0
IsLentBy seat have lent = IsLentOf seat.place.config seat.place.terms have lent × (lent ≡ Null → ⊥)

abbrev pub LentBelow : Seat → (haves all : List Guarantee) → (n : ℕ) → Type 0
LentBelow seat haves all n = (port : ℕ) → port < n → (have : Guarantee) → slice_get haves port ≡ Some have
    → (lent : Guarantee) → IsLentBy seat have lent → Contains all lent

pub lent-more : (seat : Seat) (haves all more : List Guarantee) (n : ℕ) (have : Guarantee)
    → (found : Option Guarantee) → slice_get haves n ≡ Some have → more ≡ all ++ option_to_list found
    → ((lent : Guarantee) → (found ≡ Some lent) ↔ IsLentBy seat have lent) → LentBelow seat haves all n
    → LentBelow seat haves more (n + 1)
lent-more seat haves all more n have found there is exact before =
    below_more (λ port. (other : Guarantee) → slice_get haves port ≡ Some other → (lent : Guarantee)
    → IsLentBy seat other lent → Contains more lent) n
    (λ port under other at lent by. option-kept all more found lent is (before port under other at lent by))
    (λ other at lent by.
    let same : other ≡ have = cc in
    option-there all more found lent is ((exact lent).1 (subst (λ v. IsLentBy seat v lent) same by)))

pub lent-each : (seat : Seat) (all more : List Guarantee) (port : ℕ) (have : Guarantee) (found : Option Guarantee)
    → slice_get seat.haves.now port ≡ Some have → more ≡ all ++ option_to_list found
    → ((lent : Guarantee) → (found ≡ Some lent) ↔ IsLentBy seat have lent)
    → ((lent : Guarantee) → Contains all lent → IsLent seat.place seat.haves.now lent) → (lent : Guarantee)
    → Contains more lent → IsLent seat.place seat.haves.now lent
lent-each seat all more port have found there is exact each lent has =
    elim (option-cases all more found lent is has) [
      | inl old ↦ each lent old
      | inr new ↦ (let by = (exact lent).0 new in
          record { port = port; have = have; there = there; lends = by.0; some = by.1 })
    ]

pub lent-valid-too : (seat : Seat) (lent : Guarantee) → CanAsk seat → IsLent seat.place seat.haves.now lent
    → IsValid lent
lent-valid-too seat lent can is =
    lent-of-valid seat.place.config seat.place.terms is.have lent can.config can.terms
    (narrow-at seat.haves.now is.port is.have can.each_have is.there) is.lends

pub all-lent : (seat : Seat) (all : List Guarantee) (n : ℕ) → CanAsk seat → length seat.haves.now ≤ n
    → ((lent : Guarantee) → Contains all lent → IsLent seat.place seat.haves.now lent)
    → LentBelow seat seat.haves.now all n → AreLent seat all
all-lent seat all n can ended each below = record {
  each = each;
  every = λ lent is.
      let within : is.port < length seat.haves.now = slice_get_within seat.haves.now is.port is.have is.there in
      below is.port (omega arith) is.have is.there lent (is.lends, is.some);
  valid = each-of IsValid all (λ lent has. lent-valid-too seat lent can (each lent has));
}

-- ---- hard ones

pub may-give-hard : (form : Form) (lent g : Guarantee) → MayGive form lent g → IsHardOf form g
may-give-hard Blocks (Resb hard x y) g may = subst (IsHardOf Blocks) (sym may.1) refl
may-give-hard Blocks (Resc hard x y) g may = subst (IsHardOf Blocks) (sym may.1) refl
may-give-hard Windows (Resc hard x y) g may = subst (IsHardOf Windows) (sym may.1) refl
may-give-hard _ _ g may = absurd may

abbrev pub TriedLent : Seat → Form → (lent lines : List Guarantee) → (n : ℕ) → Type 0
TriedLent seat form lent lines n = (k : ℕ) → k < n → (one : Guarantee) → slice_get lent k ≡ Some one
    → (g : Guarantee) → MayGive form one g → Offers seat g → Contains lines g

pub tried-lent-more : (seat : Seat) (form : Form) (lent lines more : List Guarantee) (n : ℕ) (one : Guarantee)
    → (found : Option Guarantee) → slice_get lent n ≡ Some one
    → ((g : Guarantee) → (found ≡ Some g) ↔ MayGive form one g)
    → ((g : Guarantee) → Contains more g ↔ (Contains lines g ⊎ ((found ≡ Some g) × Offers seat g)))
    → TriedLent seat form lent lines n → TriedLent seat form lent more (n + 1)
tried-lent-more seat form lent lines more n one found there exact both before =
    below_more (λ k. (other : Guarantee) → slice_get lent k ≡ Some other → (g : Guarantee) → MayGive form other g
    → Offers seat g → Contains more g) n
    (λ k under other at g may offers. (both g).1 (inl (before k under other at g may offers)))
    (λ other at g may offers.
    let same : other ≡ one = cc in
    (both g).1 (inr ((exact g).1 (subst (λ v. MayGive form v g) same may), offers)))

pub hard-from : (seat : Seat) (form : Form) (lines more : List Guarantee) (one : Guarantee) (found : Option Guarantee)
    → ((g : Guarantee) → (found ≡ Some g) ↔ MayGive form one g)
    → ((g : Guarantee) → Contains more g ↔ (Contains lines g ⊎ ((found ≡ Some g) × Offers seat g)))
    → ((g : Guarantee) → Contains lines g → IsHardOf form g × Offers seat g) → (g : Guarantee) → Contains more g
    → IsHardOf form g × Offers seat g
hard-from seat form lines more one found exact both from g has =
    elim ((both g).0 has) [
      | inl old ↦ from g old
      | inr new ↦ (may-give-hard form one g ((exact g).0 new.0), new.1)
    ]

-- what the laws say of hard offers
pub record HardAreLent (seat : Seat) : Type 0 where
  pub blocks : (x y : ℕ) → Offers seat (Resb true x y)
      → IsLent seat.place seat.haves.now (Resb true x y) ⊎ IsLent seat.place seat.haves.now (Resc true x y)
  pub windows : (x y : ℕ) → Offers seat (Resc true x y) → IsLent seat.place seat.haves.now (Resc true x y)

given-by : (seat : Seat) (form : Form) (lent : List Guarantee) (g : Guarantee) → AreLent seat lent
    → HardAreLent seat → IsHardOf form g → Offers seat g
    → (one : Guarantee) × Contains lent one × MayGive form one g
given-by seat Blocks lent (Resb true x y) are laws is offers =
    elim (laws.blocks x y offers) [
      | inl same ↦ (Resb true x y, are.every (Resb true x y) same, (refl, refl))
      | inr other ↦ (Resc true x y, are.every (Resc true x y) other, (refl, refl))
    ]
given-by seat Blocks lent (Resb false x y) are laws is offers = absurd (let no : ⊥ = cc in no)
given-by seat Windows lent (Resc true x y) are laws is offers =
    (Resc true x y, are.every (Resc true x y) (laws.windows x y offers), (refl, refl))
given-by seat Windows lent (Resc false x y) are laws is offers = absurd (let no : ⊥ = cc in no)
given-by seat _ lent _ are laws is offers = absurd is

pub hard-lines : (seat : Seat) (form : Form) (lent lines : List Guarantee) (n : ℕ) → AreLent seat lent
    → HardAreLent seat → length lent ≤ n
    → ((g : Guarantee) → Contains lines g → IsHardOf form g × Offers seat g)
    → TriedLent seat form lent lines n → AllPairs (λ g h. g ≡ h → ⊥) lines
    → ListsEach (λ g. IsHardOf form g × Offers seat g) lines
hard-lines seat form lent lines n are laws ended from tried once = record {
  exact = λ g. (
    from g,
    λ both.
        let by = given-by seat form lent g are laws both.0 both.1 in
        let at = place-of lent by.0 by.1 in
        tried at.0 (let less = at.1 in omega arith) by.0 at.2 g by.2 both.1,
  );
  once = once;
}

pub whole-lines : (seat : Seat) (before lines : List Guarantee) → before ≡ []
    → ((g : Guarantee) → Contains lines g ↔ (Contains before g ⊎ ((Some All ≡ Some g) × Offers seat g)))
    → AllPairs (λ g h. g ≡ h → ⊥) lines → ListsEach (λ g. (g ≡ All) × Offers seat g) lines
whole-lines seat before lines none both once = record {
  exact = λ g. (
    λ has. elim ((both g).0 has) [
      | inl old ↦ absurd (none-in g (subst (λ v. Contains v g) none old))
      | inr new ↦ ((let e = new.0 in let same : g ≡ All = cc in same), new.1)
    ],
    λ is. (both g).1 (inr ((let e = is.0 in let same : Some All ≡ Some g = cc in same), is.1)),
  );
  once = once;
}

-- ---- one line more

pub line-exact : (seat : Seat) (lines more : List Guarantee) (line g : Guarantee) (found : Option Guarantee)
    → found ≡ Some line → more ≡ lines ++ (line ∷ []) → Offers seat line
    → Contains more g ↔ (Contains lines g ⊎ ((found ≡ Some g) × Offers seat g))
line-exact seat lines more line g found by is offers = (
  λ has. elim (pushed-cases lines more line g is has) [
    | inl old ↦ inl old
    | inr same ↦ inr (subst (λ v. found ≡ Some v) (sym same) by, subst (λ v. Offers seat v) (sym same) offers)
  ],
  λ either. elim either [
    | inl old ↦ pushed-kept lines more line g is old
    | inr new ↦ (let both = new.0 in let same : g ≡ line = cc in pushed-there lines more line g is same)
  ],
)

pub line-once : (lines more : List Guarantee) (line : Guarantee) → more ≡ lines ++ (line ∷ [])
    → (Contains lines line → ⊥) → AllPairs (λ g h. g ≡ h → ⊥) lines → AllPairs (λ g h. g ≡ h → ⊥) more
line-once lines more line is free once =
    pushed-pairs (λ g h. g ≡ h → ⊥) lines more line is once
    (λ g has same. free (subst (λ v. Contains lines v) same has))
