-- The lines of each question make what is told.
use Rattle.std.proofs.Common.{◌≡◌, ℕ, ◌+◌, Bool, true, false, List, [], ◌∷◌, ◌++◌, Some, None, Option, refl, sym, ap}
use Rattle.std.proofs.Common.{◌∙◌}
use Rattle.std.proofs.Common.{take, slice_get, append_assoc, inl, inr}
use Rattle.std.specs.Prelude.{◌||◌, map}
use Rattle.std.specs.List.{list_any}
use Rattle.std.proofs.lemmas.List.{take_all, take_more, append-nil}
use Rattle.std.proofs.lemmas.Option.{slice_get_within, get_or_from_slice_get}
use Rattle.hls_text.specs.Lines.{Text}
use Rattle.hls_chron.specs.declared.plain.Terms.{Terms}
use Rattle.hls_guarantee.specs.declared.Guarantee.{Guarantee}
use Rattle.hls_report_text.specs.declared.refusal.Refusal.{Refusal}
use Rattle.hls_report_text.specs.ReportText.{with_end, ended}
use Rattle.hls_machine.specs.Hierarchy.{Hierarchy, name_of}
use Rattle.hls_legal.specs.Moment.{Moment}
use Rattle.hls_offer_words.specs.declared.asked.Question.TheVariants as questions
use Rattle.hls_offer_text.specs.OfferText.{Free, free_text, refused_text}
use Rattle.hls_offer_asks.specs.declared.wish.Wish.{Wish}
use Rattle.hls_offer_asks.specs.declared.needs.Need.{Need}
use Rattle.hls_offer_asks.specs.declared.needs.Had.{Had}
use Rattle.hls_offer_asks.specs.declared.needs.Had.TheVariants.{At, Refused}
use Rattle.hls_offer_asks.specs.Requests.{request_of}
use Rattle.hls_offer_asks.specs.Offers.{AreLinesFor, IsShutBy}
use Rattle.hls_offer_asks.specs.Needs.{IsHad, IsNowhereElse, wish_of}
use Rattle.hls_offer.specs.Spare.{AreFree, told_periods}
use Rattle.hls_offer.specs.Told.{open_told, shut_told, Place, IsPlaceOf, ArePlacesOf, places_told, had_text}
use Rattle.hls_offer.specs.Told.{is_at}
use Rattle.hls_offer.specs.Told.{at_text, IsTold}
use Rattle.hls_offer.specs.Inside.Told.{AddsTold, AddsPlace, AddsPlaces}
use Rattle.hls_offer.specs.Inside.Readings.{IsAskable}
use Rattle.hls_offer_words.specs.Table.{Rise, ArePeriods, IsAsked}
use Rattle.hls_offer_words.specs.declared.asked.Asked.{Asked}
use Rattle.hls_offer_lines.specs.Cost.{ArePeriods as AreTermPeriods}
use Rattle.hls_offer_lines.specs.Lines.{ArePeriodsAsked}
use Rattle.hls_guarantee.specs.Limits.{IsNarrow}
use Rattle.std.specs.List.{Contains, All, AllByRecursion}
use Rattle.std.proofs.Common.{get_or, arith, length, ◌≤◌}
use Rattle.std.proofs.lemmas.List.Elements.{All-contains_itself, All-from_recursion}

-- one line is a list of one
one_line : (line : Text) → with_end line ≡ ended (line ∷ [])
one_line line = sym (append-nil (with_end line))

pub told_open : (version : ℕ) (m : Moment) (tick : ℕ) (wish : Wish) (periods : Option (List ℕ)) (lines : List Guarantee)
    (old new : Text) → AreLinesFor m wish periods lines
    → new ≡ old ++ ended (open_told m.hierarchy tick wish lines).lines
    → AddsTold (IsTold version (questions.Offer wish.name wish.on wish.terms) m tick periods) true old new
told_open version m tick wish periods lines old new are text = record {
  told = open_told m.hierarchy tick wish lines;
  is = inl (record { offered = lines; are = are; told_is = refl });
  offers_is = refl;
  text = text;
}

pub told_shut : (version : ℕ) (m : Moment) (tick : ℕ) (wish : Wish) (periods : Option (List ℕ)) (refusal : Refusal)
    (old new : Text) → IsShutBy m wish refusal → new ≡ old ++ with_end (refused_text wish.on (Some wish.terms) refusal)
    → AddsTold (IsTold version (questions.Offer wish.name wish.on wish.terms) m tick periods) false old new
told_shut version m tick wish periods refusal old new shut text = record {
  told = shut_told wish refusal;
  is = inr (record { refusal = refusal; shut = shut; told_is = refl });
  offers_is = refl;
  text = text ∙ ap (λ (t : Text). old ++ t) (one_line (refused_text wish.on (Some wish.terms) refusal));
}

-- the line of a scheduler where it can be had, or where it cannot
pub place_at : (m : Moment) (tick : ℕ) (need : Need) (periods : Option (List ℕ)) (on : Text) (its : Terms)
    (had : Had) (old new : Text) → had ≡ At its → IsHad m need on periods had → IsNowhereElse m need on periods had
    → new ≡ old ++ with_end (at_text tick (request_of m.hierarchy (wish_of need on its) need.wanted))
    → AddsPlace m tick need on periods true old new
place_at m tick need periods on its had old new e is nowhere text = record {
  had = had;
  is = record { is = is; nowhere = nowhere };
  offers_is = ap is_at (sym e);
  text = text ∙ ap (λ (h : Had). old ++ with_end (had_text m.hierarchy tick need on h)) (sym e);
}

pub place_refused : (m : Moment) (tick : ℕ) (need : Need) (periods : Option (List ℕ)) (on : Text)
    (its : Option Terms) (refusal : Refusal) (had : Had) (old new : Text) → had ≡ Refused its refusal
    → IsHad m need on periods had → IsNowhereElse m need on periods had
    → new ≡ old ++ with_end (refused_text on its refusal) → AddsPlace m tick need on periods false old new
place_refused m tick need periods on its refusal had old new e is nowhere text = record {
  had = had;
  is = record { is = is; nowhere = nowhere };
  offers_is = ap is_at (sym e);
  text = text ∙ ap (λ (h : Had). old ++ with_end (had_text m.hierarchy tick need on h)) (sym e);
}

-- the one scheduler that is asked
pub told_one : (version : ℕ) (m : Moment) (tick : ℕ) (need : Need) (periods : Option (List ℕ)) (on : Text)
    (offers : Bool) (old new : Text) → AddsPlace m tick need on periods offers old new
    → AddsTold (IsTold version (questions.Need need.name need.wanted (Some on)) m tick periods) offers old new
told_one version m tick need periods on offers old new adds = record {
  told = places_told m.hierarchy tick need (record { on = on; had = adds.had } ∷ []);
  is = record {
    places = record { on = on; had = adds.had } ∷ [];
    asked = refl;
    are = (adds.is, tt);
    told_is = refl;
  };
  offers_is = adds.offers_is ∙ or_false (is_at adds.had);
  text = adds.text ∙ ap (λ (t : Text). old ++ t) (one_line (had_text m.hierarchy tick need on adds.had));
}
  where
    or_false : (b : Bool) → b ≡ (b || false)
    or_false true = refl
    or_false false = refl

-- each loaded scheduler
pub told_each : (version : ℕ) (m : Moment) (tick : ℕ) (need : Need) (periods : Option (List ℕ)) (count : ℕ)
    (offers : Bool) (old new : Text) → take count m.hierarchy.schedulers ≡ m.hierarchy.schedulers
    → AddsPlaces m tick need periods count offers old new
    → AddsTold (IsTold version (questions.Need need.name need.wanted None) m tick periods) offers old new
told_each version m tick need periods count offers old new all adds = record {
  told = places_told m.hierarchy tick need adds.places;
  is = record {
    places = adds.places;
    asked = adds.named ∙ ap (λ (ks : List ℕ). map (λ (k : ℕ). name_of (m.hierarchy.nodes k)) ks) all;
    are = adds.are;
    told_is = refl;
  };
  offers_is = adds.offers_is;
  text = adds.text;
}

pub told_spare : (version : ℕ) (m : Moment) (tick : ℕ) (periods : Option (List ℕ)) (frees : List Free) (old new : Text)
    → AreFree (told_periods periods) m.hierarchy m.hierarchy.schedulers frees
    → new ≡ old ++ ended (map (free_text version) frees)
    → AddsTold (IsTold version questions.Spare m tick periods) false old new
told_spare version m tick periods frees old new are text = record {
  told = record { lines = map (free_text version) frees; offers = false };
  is = record { frees = frees; are = are; told_is = refl };
  offers_is = refl;
  text = text;
}

-- ---- one scheduler more

places_are_more : (m : Moment) (need : Need) (periods : Option (List ℕ)) (places : List Place) (place : Place)
    → ArePlacesOf m need periods places → IsPlaceOf m need periods place
    → ArePlacesOf m need periods (places ++ place ∷ [])
places_are_more m need periods [] place are is = (is, tt)
places_are_more m need periods (one ∷ places) place are is =
    (are.0, places_are_more m need periods places place are.1 is)

any_more : {A : Type 0} (f : A → Bool) (xs : List A) (x : A) → list_any f (xs ++ x ∷ []) ≡ (list_any f xs || f x)
any_more f [] x = or_false (f x)
  where
    or_false : (b : Bool) → (b || false) ≡ b
    or_false true = refl
    or_false false = refl
any_more {A} f (y ∷ xs) x = ap (λ (b : Bool). f y || b) (any_more f xs x) ∙ assoc (f y) (list_any f xs) (f x)
  where
    assoc : (a b c : Bool) → (a || (b || c)) ≡ ((a || b) || c)
    assoc true b c = refl
    assoc false b c = refl

lines_more : {A : Type 0} (f : A → Text) (xs : List A) (x : A)
    → ended (map f (xs ++ x ∷ [])) ≡ ended (map f xs) ++ with_end (f x)
lines_more f [] x = append-nil (with_end (f x))
lines_more {A} f (y ∷ xs) x =
    ap (λ (t : Text). with_end (f y) ++ t) (lines_more f xs x)
    ∙ sym (append_assoc (with_end (f y)) (ended (map f xs)) (with_end (f x)))

map_more : {A B : Type 0} (f : A → B) (xs : List A) (x : A) → map f (xs ++ x ∷ []) ≡ map f xs ++ f x ∷ []
map_more f [] x = refl
map_more {A} {B} f (y ∷ xs) x = ap (λ (zs : List B). f y ∷ zs) (map_more f xs x)

first_more : {A : Type 0} (xs : List A) (at : ℕ) (x : A) → slice_get xs at ≡ Some x
    → take (at + 1) xs ≡ take at xs ++ x ∷ []
first_more {A} xs at x e =
    take_more xs at x (slice_get_within xs at x e)
    ∙ ap (λ (y : A). take at xs ++ y ∷ []) (get_or_from_slice_get xs at x x e)

module _ (m : Moment) (tick : ℕ) (need : Need) (periods : Option (List ℕ)) where
  pub no_places : (old : Text) → AddsPlaces m tick need periods 0 false old old
  no_places old = record { places = []; named = refl; are = tt; offers_is = refl; text = sym (append-nil old) }

  pub one_place : (at k : ℕ) (on : Text) (offers here : Bool) (old mid new : Text)
      → slice_get m.hierarchy.schedulers at ≡ Some k → name_of (m.hierarchy.nodes k) ≡ Some on
      → AddsPlaces m tick need periods at offers old mid → AddsPlace m tick need on periods here mid new
      → AddsPlaces m tick need periods (at + 1) (offers || here) old new
  one_place at k on offers here old mid new there name adds one =
      let place : Place = record { on = on; had = one.had } in
      let line : Place → Text = λ p. had_text m.hierarchy tick need p.on p.had in
      let named : ℕ → Option Text = λ n. name_of (m.hierarchy.nodes n) in
      record {
        places = adds.places ++ place ∷ [];
        named = map_more (λ (p : Place). Some p.on) adds.places place
            ∙ ap (λ (ns : List (Option Text)). ns ++ Some on ∷ []) adds.named
            ∙ ap (λ (n : Option Text). map named (take at m.hierarchy.schedulers) ++ n ∷ []) (sym name)
            ∙ sym (map_more named (take at m.hierarchy.schedulers) k)
            ∙ ap (λ (ks : List ℕ). map named ks) (sym (first_more m.hierarchy.schedulers at k there));
        are = places_are_more m need periods adds.places place adds.are one.is;
        offers_is = ap (λ (b : Bool). offers || b) one.offers_is
            ∙ ap (λ (b : Bool). b || is_at one.had) adds.offers_is
            ∙ sym (any_more (λ (p : Place). is_at p.had) adds.places place);
        text = one.text ∙ ap (λ (t : Text). t ++ with_end (line place)) adds.text
            ∙ append_assoc old (ended (map line adds.places)) (with_end (line place))
            ∙ ap (λ (t : Text). old ++ t) (sym (lines_more line adds.places place));
      }

  pub every_place : (at : ℕ) (offers : Bool) (old new : Text) → length m.hierarchy.schedulers ≤ at
      → AddsPlaces m tick need periods at offers old new
      → AddsPlaces m tick need periods (length m.hierarchy.schedulers) offers old new
  every_place at offers old new past adds =
      let ks : List ℕ = m.hierarchy.schedulers in
      record {
        places = adds.places;
        named = adds.named ∙ ap (λ (ns : List ℕ). map (λ (k : ℕ). name_of (m.hierarchy.nodes k)) ns)
            (take_all at ks past ∙ sym (take_all (length ks) ks (omega arith)));
        are = adds.are;
        offers_is = adds.offers_is;
        text = adds.text;
      }

-- ---- one request more

pub requests_more : (h : Hierarchy) (tick : ℕ) (wish : Wish) (lines : List Guarantee) (at : ℕ) (g : Guarantee)
    (old mid new : Text) → slice_get lines at ≡ Some g
    → mid ≡ old ++ ended (open_told h tick wish (take at lines)).lines
    → new ≡ mid ++ with_end (at_text tick (request_of h wish g))
    → new ≡ old ++ ended (open_told h tick wish (take (at + 1) lines)).lines
requests_more h tick wish lines at g old mid new there some one =
    let line : Guarantee → Text = λ w. at_text tick (request_of h wish w) in
    one ∙ ap (λ (t : Text). t ++ with_end (line g)) some
    ∙ append_assoc old (ended (map line (take at lines))) (with_end (line g))
    ∙ ap (λ (t : Text). old ++ t) (sym (lines_more line (take at lines) g))
    ∙ ap (λ (gs : List Guarantee). old ++ ended (map line gs)) (sym (first_more lines at g there))

-- ---- what the calls ask for

pub all_narrow : (lines : List Guarantee) → ((g : Guarantee) → Contains lines g → IsNarrow g) → All IsNarrow lines
all_narrow lines each = λ i d lt. each (get_or lines i d) (All-contains_itself lines i d lt)

pub askable : (words : List Text) (a : Asked) → IsAsked words a → IsAskable a
askable words a is = record { question = is.question; periods = is.periods; depth = is.depth }

-- periods that rise are within their bounds
within_most : (from most : ℕ) (ys : List ℕ) → Rise from most ys → AllByRecursion (λ (y : ℕ). y ≤ most) ys
within_most from most [] rise = tt
within_most from most (y ∷ ys) rise = (rise.1, within_most (y + 1) most ys rise.2)

within_both : (from most : ℕ) (ys : List ℕ) → 1 ≤ from → Rise from most ys
    → AllByRecursion (λ (y : ℕ). (1 ≤ y) × (y ≤ most)) ys
within_both from most [] some rise = tt
within_both from most (y ∷ ys) some rise =
    let low = rise.0 in
    ((omega (arith, some, low), rise.1), within_both (y + 1) most ys (omega arith) rise.2)

pub asked_periods : (periods : Option (List ℕ)) → ArePeriods 20000 periods → ArePeriodsAsked periods
asked_periods None are = tt
asked_periods (Some ys) are = All-from_recursion (λ (y : ℕ). y ≤ 20000) ys (within_most 1 20000 ys are.2)

pub term_periods : (periods : Option (List ℕ)) → ArePeriods 10000 periods → AreTermPeriods periods
term_periods None are = tt
term_periods (Some ys) are =
    All-from_recursion (λ (y : ℕ). (1 ≤ y) × (y ≤ 10000)) ys (within_both 1 10000 ys (omega arith) are.2)
