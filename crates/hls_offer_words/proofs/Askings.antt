-- The questions that words can ask.
use Rattle.std.proofs.Common.{◌≡◌, List, [], ◌∷◌, ◌++◌, refl, sym, ap, ◌∙◌, arith, codes, subst}
use Rattle.std.specs.Prelude.{Option}
use Rattle.hls_text.specs.Lines.{Text}
use Rattle.hls_chron.specs.Name.{IsName}
use Rattle.hls_chron.specs.declared.plain.Terms.{Terms}
use Rattle.hls_guarantee.specs.declared.Guarantee.{Guarantee}
use Rattle.hls_scenario.specs.Forms.{the, terms_forms, guarantee_forms}
use Rattle.hls_lang.proofs.Fronts.{Front, front_join, front_split}
use Rattle.hls_offer_words.specs.Table.{place_forms, question_forms, IsPlace, IsQuestion, IsNotAsked}
use Rattle.hls_offer_words.specs.Inside.Readings.{IsTermsIn, IsNoTermsIn, IsWantedIn, IsNoWantedIn}
use Rattle.hls_offer_words.specs.Inside.Readings.{IsPlaceIn, IsNoPlaceIn, IsBehind, IsQuestionIn}
use Rattle.hls_offer_words.specs.declared.asked.Question.{Question}
use Rattle.hls_offer_words.specs.declared.asked.Question.TheVariants.{Offer, Need, Spare}
use Rattle.hls_offer_words.specs.declared.asked.Asked.{Asked}
use Rattle.hls_offer_words.proofs.Rising.{heads, rests, words_apart}
use Rattle.hls_offer_words.proofs.Tails.{asked_behind}
use Rattle.hls_offer_words.proofs.Places.{one_terms, one_wanted, two_words, three_words, no_on}

abbrev NoName : List Text → Type 0
NoName words = (name : Text) (rest : List Text) → IsName name → words ≡ name ∷ rest → ⊥

abbrev NoWord : Text → List Text → Type 0
NoWord word words = (rest : List Text) → words ≡ word ∷ rest → ⊥

-- ---- what can be promised

record IsOffer (a : Asked) (words tail : List Text) : Type 0 where
  name : Text
  on : Text
  terms : Terms
  spelled : List Text
  is : a.question ≡ Offer name on terms
  named : IsName name
  placed : IsName on
  words_are : words ≡ name ∷ codes "on" ∷ on ∷ spelled
  begin : IsTermsIn spelled terms tail

offer_behind : (a : Asked) (words tail : List Text) → IsBehind a (codes "offer" ∷ words) tail → IsOffer a words tail
offer_behind a words tail is = by a.question refl is.within is.front
  where
    by : (q : Question) → a.question ≡ q → IsQuestion q → Front (question_forms q) (codes "offer" ∷ words) tail
        → IsOffer a words tail
    by (Offer name on terms) e within front =
        let behind = three_words name (codes "on") on (terms_forms terms) words tail front.1 in
        record {
          name = name;
          on = on;
          terms = terms;
          spelled = behind.0;
          is = e;
          named = within.0;
          placed = within.1;
          words_are = behind.1;
          begin = record { within = within.2; front = behind.2 };
        }
    by (Need name wanted on) e within front =
        absurd (words_apart 111 110 (codes "ffer") (codes "eed") (λ (n : 111 ≡ 110). omega (arith, n)) front.0)
    by Spare e within front =
        absurd (words_apart 111 115 (codes "ffer") (codes "pare") (λ (n : 111 ≡ 115). omega (arith, n)) front.0)

pub offer_unnamed : (words : List Text) → NoName words → IsNotAsked (codes "offer" ∷ words)
offer_unnamed words none = λ a asked.
    let behind = asked_behind a (codes "offer" ∷ words) asked in
    let o = offer_behind a words behind.0 behind.1 in
    none o.name (codes "on" ∷ o.on ∷ o.spelled) o.named o.words_are

pub offer_unplaced : (words : List Text) (name : Text) (more : List Text) → words ≡ name ∷ more
    → NoWord (codes "on") more → IsNotAsked (codes "offer" ∷ words)
offer_unplaced words name more e none = λ a asked.
    let behind = asked_behind a (codes "offer" ∷ words) asked in
    let o = offer_behind a words behind.0 behind.1 in
    none (o.on ∷ o.spelled) (rests name o.name more (codes "on" ∷ o.on ∷ o.spelled) (sym e ∙ o.words_are))

-- the words from the scheduler on
seat_of : (words : List Text) (name : Text) (more seat : List Text) → words ≡ name ∷ more → more ≡ codes "on" ∷ seat
    → (other on : Text) (spelled : List Text) → words ≡ other ∷ codes "on" ∷ on ∷ spelled → seat ≡ on ∷ spelled
seat_of words name more seat e is other on spelled same =
    rests (codes "on") (codes "on") seat (on ∷ spelled)
    (sym is ∙ rests name other more (codes "on" ∷ on ∷ spelled) (sym e ∙ same))

pub offer_nowhere : (words : List Text) (name : Text) (more seat : List Text) → words ≡ name ∷ more
    → more ≡ codes "on" ∷ seat → NoName seat → IsNotAsked (codes "offer" ∷ words)
offer_nowhere words name more seat e is none = λ a asked.
    let behind = asked_behind a (codes "offer" ∷ words) asked in
    let o = offer_behind a words behind.0 behind.1 in
    none o.on o.spelled o.placed (seat_of words name more seat e is o.name o.on o.spelled o.words_are)

pub offer_unstated : (words : List Text) (name : Text) (more seat : List Text) (on : Text) (spelled : List Text)
    → words ≡ name ∷ more → more ≡ codes "on" ∷ seat → seat ≡ on ∷ spelled → IsNoTermsIn spelled
    → IsNotAsked (codes "offer" ∷ words)
offer_unstated words name more seat on spelled e is placed none = λ a asked.
    let behind = asked_behind a (codes "offer" ∷ words) asked in
    let o = offer_behind a words behind.0 behind.1 in
    let same = rests o.on on o.spelled spelled
    (sym (seat_of words name more seat e is o.name o.on o.spelled o.words_are) ∙ placed) in
    none o.terms behind.0 (subst (λ (ws : List Text). IsTermsIn ws o.terms behind.0) same o.begin)

pub offer_stated : (words : List Text) (name : Text) (more seat : List Text) (on : Text) (spelled : List Text)
    (terms : Terms) (rest : List Text) → words ≡ name ∷ more → more ≡ codes "on" ∷ seat → seat ≡ on ∷ spelled
    → IsName name → IsName on → IsTermsIn spelled terms rest
    → IsQuestionIn (codes "offer" ∷ words) (Offer name on terms) rest
offer_stated words name more seat on spelled terms rest e is placed named on_named begin = record {
  within = (named, on_named, begin.within);
  front = (
    refl,
    subst (λ (ws : List Text). Front (the name ∷ the (codes "on") ∷ the on ∷ terms_forms terms) ws rest) (sym all)
        (refl, (refl, (refl, begin.front))),
  );
  only = by;
}
  where
    all : words ≡ name ∷ codes "on" ∷ on ∷ spelled
    all = e ∙ ap (λ (ws : List Text). name ∷ ws) (is ∙ ap (λ (ws : List Text). codes "on" ∷ ws) placed)

    by : (a : Asked) (tail : List Text) → IsBehind a (codes "offer" ∷ words) tail
        → (a.question ≡ Offer name on terms) × (tail ≡ rest)
    by a tail known =
        let o = offer_behind a words tail known in
        let same = sym o.words_are ∙ all in
        let its_name = heads o.name name (codes "on" ∷ o.on ∷ o.spelled) (codes "on" ∷ on ∷ spelled) same in
        let seats = sym (seat_of words name more seat e is o.name o.on o.spelled o.words_are) ∙ placed in
        let its_place = heads o.on on o.spelled spelled seats in
        let its_words = rests o.on on o.spelled spelled seats in
        let its_terms = one_terms spelled rest tail terms o.terms begin
        (subst (λ (ws : List Text). IsTermsIn ws o.terms tail) its_words o.begin) in (
          o.is ∙ ap (λ (n : Text). Offer n o.on o.terms) its_name ∙ ap (λ (n : Text). Offer name n o.terms) its_place
              ∙ ap (λ (t : Terms). Offer name on t) its_terms.0,
          its_terms.1,
        )

-- ---- by which terms a guarantee can be had

record IsNeed (a : Asked) (words tail : List Text) : Type 0 where
  name : Text
  wanted : Guarantee
  on : Option Text
  spelled : List Text
  last : List Text
  is : a.question ≡ Need name wanted on
  named : IsName name
  placed : IsPlace on
  words_are : words ≡ name ∷ codes "as" ∷ spelled
  begin : IsWantedIn spelled wanted last
  place : Front (place_forms on) last tail

need_behind : (a : Asked) (words tail : List Text) → IsBehind a (codes "need" ∷ words) tail → IsNeed a words tail
need_behind a words tail is = by a.question refl is.within is.front
  where
    by : (q : Question) → a.question ≡ q → IsQuestion q → Front (question_forms q) (codes "need" ∷ words) tail
        → IsNeed a words tail
    by (Offer name on terms) e within front =
        absurd (words_apart 110 111 (codes "eed") (codes "ffer") (λ (n : 110 ≡ 111). omega (arith, n)) front.0)
    by (Need name wanted on) e within front =
        let behind = two_words name (codes "as") (guarantee_forms wanted ++ place_forms on) words tail front.1 in
        let split = front_split (guarantee_forms wanted) (place_forms on) behind.0 tail behind.2 in
        record {
          name = name;
          wanted = wanted;
          on = on;
          spelled = behind.0;
          last = split.0;
          is = e;
          named = within.0;
          placed = within.2;
          words_are = behind.1;
          begin = record { within = within.1; front = split.1 };
          place = split.2;
        }
    by Spare e within front =
        absurd (words_apart 110 115 (codes "eed") (codes "pare") (λ (n : 110 ≡ 115). omega (arith, n)) front.0)

pub need_unnamed : (words : List Text) → NoName words → IsNotAsked (codes "need" ∷ words)
need_unnamed words none = λ a asked.
    let behind = asked_behind a (codes "need" ∷ words) asked in
    let n = need_behind a words behind.0 behind.1 in
    none n.name (codes "as" ∷ n.spelled) n.named n.words_are

pub need_without : (words : List Text) (name : Text) (more : List Text) → words ≡ name ∷ more
    → NoWord (codes "as") more → IsNotAsked (codes "need" ∷ words)
need_without words name more e none = λ a asked.
    let behind = asked_behind a (codes "need" ∷ words) asked in
    let n = need_behind a words behind.0 behind.1 in
    none n.spelled (rests name n.name more (codes "as" ∷ n.spelled) (sym e ∙ n.words_are))

-- the words from the guarantee on
wanted_of : (words : List Text) (name : Text) (more spelled : List Text) → words ≡ name ∷ more
    → more ≡ codes "as" ∷ spelled → (other : Text) (others : List Text) → words ≡ other ∷ codes "as" ∷ others
    → others ≡ spelled
wanted_of words name more spelled e is other others same =
    rests (codes "as") (codes "as") others spelled
    (rests other name (codes "as" ∷ others) more (sym same ∙ e) ∙ is)

pub need_unstated : (words : List Text) (name : Text) (more spelled : List Text) → words ≡ name ∷ more
    → more ≡ codes "as" ∷ spelled → IsNoWantedIn spelled → IsNotAsked (codes "need" ∷ words)
need_unstated words name more spelled e is none = λ a asked.
    let behind = asked_behind a (codes "need" ∷ words) asked in
    let n = need_behind a words behind.0 behind.1 in
    none n.wanted n.last
    (subst (λ (ws : List Text). IsWantedIn ws n.wanted n.last)
    (wanted_of words name more spelled e is n.name n.spelled n.words_are) n.begin)

pub need_unplaced : (words : List Text) (name : Text) (more spelled : List Text) (wanted : Guarantee)
    (last : List Text) → words ≡ name ∷ more → more ≡ codes "as" ∷ spelled → IsWantedIn spelled wanted last
    → IsNoPlaceIn last → IsNotAsked (codes "need" ∷ words)
need_unplaced words name more spelled wanted last e is begin none = λ a asked.
    let behind = asked_behind a (codes "need" ∷ words) asked in
    let n = need_behind a words behind.0 behind.1 in
    let same = one_wanted spelled last n.last wanted n.wanted begin
    (subst (λ (ws : List Text). IsWantedIn ws n.wanted n.last)
    (wanted_of words name more spelled e is n.name n.spelled n.words_are) n.begin) in
    none n.on behind.0 n.placed (subst (λ (ws : List Text). Front (place_forms n.on) ws behind.0) same.1 n.place)
    (λ others begins. no_on a behind.0 others behind.1.tail begins)

pub need_stated : (words : List Text) (name : Text) (more spelled : List Text) (wanted : Guarantee)
    (last : List Text) (on : Option Text) (rest : List Text) → words ≡ name ∷ more → more ≡ codes "as" ∷ spelled
    → IsName name → IsWantedIn spelled wanted last → IsPlaceIn last on rest
    → IsQuestionIn (codes "need" ∷ words) (Need name wanted on) rest
need_stated words name more spelled wanted last on rest e is named begin place = record {
  within = (named, begin.within, place.within);
  front = (
    refl,
    subst (λ (ws : List Text). Front (the name ∷ the (codes "as") ∷ (guarantee_forms wanted ++ place_forms on)) ws rest)
        (sym all) (
          refl,
          (refl, front_join (guarantee_forms wanted) (place_forms on) spelled last rest begin.front place.front),
        ),
  );
  only = by;
}
  where
    all : words ≡ name ∷ codes "as" ∷ spelled
    all = e ∙ ap (λ (ws : List Text). name ∷ ws) is

    by : (a : Asked) (tail : List Text) → IsBehind a (codes "need" ∷ words) tail
        → (a.question ≡ Need name wanted on) × (tail ≡ rest)
    by a tail known =
        let n = need_behind a words tail known in
        let its_name = heads n.name name (codes "as" ∷ n.spelled) (codes "as" ∷ spelled) (sym n.words_are ∙ all) in
        let its_wanted = one_wanted spelled last n.last wanted n.wanted begin
        (subst (λ (ws : List Text). IsWantedIn ws n.wanted n.last)
        (wanted_of words name more spelled e is n.name n.spelled n.words_are) n.begin) in
        let its_place = place.only n.on tail n.placed
        (subst (λ (ws : List Text). Front (place_forms n.on) ws tail) its_wanted.1 n.place)
        (λ others begins. no_on a tail others known.tail begins) in (
          n.is ∙ ap (λ (t : Text). Need t n.wanted n.on) its_name
              ∙ ap (λ (g : Guarantee). Need name g n.on) its_wanted.0
              ∙ ap (λ (o : Option Text). Need name wanted o) its_place.0,
          its_place.1,
        )

-- ---- what is left, and all other words

pub spare_stated : (words : List Text) → IsQuestionIn (codes "spare" ∷ words) Spare words
spare_stated words = record { within = tt; front = (refl, refl); only = by }
  where
    of : (a : Asked) (tail : List Text) (q : Question) → a.question ≡ q
        → Front (question_forms q) (codes "spare" ∷ words) tail → (a.question ≡ Spare) × (tail ≡ words)
    of a tail (Offer name on terms) e front =
        absurd (words_apart 115 111 (codes "pare") (codes "ffer") (λ (n : 115 ≡ 111). omega (arith, n)) front.0)
    of a tail (Need name wanted on) e front =
        absurd (words_apart 115 110 (codes "pare") (codes "eed") (λ (n : 115 ≡ 110). omega (arith, n)) front.0)
    of a tail Spare e front = (e, sym front.1)

    by : (a : Asked) (tail : List Text) → IsBehind a (codes "spare" ∷ words) tail
        → (a.question ≡ Spare) × (tail ≡ words)
    by a tail known = of a tail a.question refl known.front

pub nothing_asked : IsNotAsked []
nothing_asked a asked = by a.question behind.1.front
  where
    behind : (words : List Text) × IsBehind a [] words
    behind = asked_behind a [] asked

    by : (q : Question) → Front (question_forms q) [] behind.0 → ⊥
    by (Offer name on terms) front = front
    by (Need name wanted on) front = front
    by Spare front = front

pub none_asked : (first : Text) (words : List Text) → (first ≡ codes "offer" → ⊥) → (first ≡ codes "need" → ⊥)
    → (first ≡ codes "spare" → ⊥) → IsNotAsked (first ∷ words)
none_asked first words offer need spare a asked = by a.question behind.1.front
  where
    behind : (rest : List Text) × IsBehind a (first ∷ words) rest
    behind = asked_behind a (first ∷ words) asked

    by : (q : Question) → Front (question_forms q) (first ∷ words) behind.0 → ⊥
    by (Offer name on terms) front = offer front.0
    by (Need name wanted on) front = need front.0
    by Spare front = spare front.0
