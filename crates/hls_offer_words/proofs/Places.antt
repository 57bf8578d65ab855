-- Terms, guarantees and places are determined by the words that begin with them.
use Rattle.std.proofs.Common.{◌≡◌, ℕ, List, [], ◌∷◌, ◌++◌, refl, sym, ap, ◌∙◌, arith, codes, subst}
use Rattle.std.specs.Prelude.{Option, Some, None, Ok, decimal, map}
use Rattle.hls_text.specs.Lines.{Text}
use Rattle.hls_chron.specs.Name.{IsName}
use Rattle.hls_chron.specs.declared.plain.Terms.{Terms}
use Rattle.hls_guarantee.specs.declared.Guarantee.{Guarantee}
use Rattle.hls_scenario.specs.Forms.{Form, the}
use Rattle.hls_lang.specs.Words.{Found}
use Rattle.hls_lang.proofs.Fronts.{Front}
use Rattle.hls_lang.proofs.SeatLaws.{terms_next, guarantee_next}
use Rattle.hls_offer_words.specs.Table.{place_forms, IsPlace, over_words, option_words, moment_words}
use Rattle.hls_offer_words.specs.Inside.Readings.{IsTermsIn, IsWantedIn, IsPlaceIn, IsNoPlaceIn, IsTail}
use Rattle.hls_offer_words.specs.declared.asked.Asked.{Asked}
use Rattle.hls_offer_words.proofs.Rising.{heads, rests, no_empty, words_apart}

abbrev okay : {A : Type 0} → A × List Text → Found A
okay p = Ok p

same_found : {A : Type 0} (p q : A × List Text) → okay p ≡ okay q → p ≡ q
same_found p q e = cc

pub one_terms : (words rest tail : List Text) (t u : Terms) → IsTermsIn words t rest → IsTermsIn words u tail
    → (u ≡ t) × (tail ≡ rest)
one_terms words rest tail t u a b =
    let e = same_found (u, tail) (t, rest)
    (sym (terms_next u words tail b.within b.front) ∙ terms_next t words rest a.within a.front) in
    (ap (λ (p : Terms × List Text). p.0) e, ap (λ (p : Terms × List Text). p.1) e)

pub one_wanted : (words rest tail : List Text) (g h : Guarantee) → IsWantedIn words g rest → IsWantedIn words h tail
    → (h ≡ g) × (tail ≡ rest)
one_wanted words rest tail g h a b =
    let e = same_found (h, tail) (g, rest)
    (sym (guarantee_next h words tail b.within b.front) ∙ guarantee_next g words rest a.within a.front) in
    (ap (λ (p : Guarantee × List Text). p.0) e, ap (λ (p : Guarantee × List Text). p.1) e)

-- ---- words that begin with others

pub two_words : (x y : Text) (forms : List Form) (words tail : List Text) → Front (the x ∷ the y ∷ forms) words tail
    → (more : List Text) × (words ≡ x ∷ y ∷ more) × Front forms more tail
two_words x y forms [] tail front = absurd front
two_words x y forms (w ∷ []) tail front = absurd front.1
two_words x y forms (w ∷ v ∷ more) tail front =
    let first : w ≡ x = front.0 in
    let second : v ≡ y = front.1.0 in
    (more, cc, front.1.1)

pub three_words : (x y z : Text) (forms : List Form) (words tail : List Text)
    → Front (the x ∷ the y ∷ the z ∷ forms) words tail
    → (more : List Text) × (words ≡ x ∷ y ∷ z ∷ more) × Front forms more tail
three_words x y z forms [] tail front = absurd front
three_words x y z forms (w ∷ words) tail front =
    let first : w ≡ x = front.0 in
    let behind = two_words y z forms words tail front.1 in
    (behind.0, ap (λ (t : Text). t ∷ words) first ∙ ap (λ (ws : List Text). x ∷ ws) behind.1, behind.2)

-- ---- the word `on` does not stand behind a question

second_of : (a b c d : ℕ) (xs ys : Text) → a ∷ b ∷ xs ≡ c ∷ d ∷ ys → b ≡ d
second_of a b c d xs ys e = cc

depth_no_on : (depth : Option ℕ) (more : List Text) → option_words (codes "--depth") depth ≡ codes "on" ∷ more → ⊥
depth_no_on None more e = no_empty (codes "on") more e
depth_no_on (Some d) more e =
    words_apart 45 111 (codes "-depth") (codes "n") (λ (n : 45 ≡ 111). omega (arith, n))
    (heads (codes "--depth") (codes "on") (decimal d ∷ []) more e)

tail_no_on : (periods : Option (List ℕ)) (at depth : Option ℕ) (more : List Text)
    → over_words periods ++ moment_words at depth ≡ codes "on" ∷ more → ⊥
tail_no_on (Some periods) at depth more e =
    let second = second_of 111 118 111 110 (codes "er") []
    (heads (codes "over") (codes "on") (map decimal periods ++ moment_words at depth) more e) in
    absurd (omega (arith, second))
tail_no_on None (Some at) depth more e =
    words_apart 45 111 (codes "-at") (codes "n") (λ (n : 45 ≡ 111). omega (arith, n))
    (heads (codes "--at") (codes "on") (decimal at ∷ option_words (codes "--depth") depth) more e)
tail_no_on None None depth more e = depth_no_on depth more e

pub no_on : (a : Asked) (tail more : List Text) → IsTail a tail → tail ≡ codes "on" ∷ more → ⊥
no_on a tail more is e = tail_no_on a.periods a.at a.depth more (sym is.words_are ∙ e)

-- ---- places

pub no_place : (words : List Text) → ((more : List Text) → words ≡ codes "on" ∷ more → ⊥)
    → IsPlaceIn words None words
no_place words other = record { within = tt; front = refl; only = by }
  where
    by : (on : Option Text) (tail : List Text) → IsPlace on → Front (place_forms on) words tail
        → ((more : List Text) → tail ≡ codes "on" ∷ more → ⊥) → (on ≡ None) × (tail ≡ words)
    by None tail placed front bar = (refl, sym front)
    by (Some on) tail placed front bar =
        let behind = two_words (codes "on") on [] words tail front in absurd (other (on ∷ behind.0) behind.1)

pub some_place : (words behind : List Text) (name : Text) (rest : List Text) → words ≡ codes "on" ∷ behind
    → IsName name → behind ≡ name ∷ rest → IsPlaceIn words (Some name) rest
some_place words behind name rest e named is = record {
  within = named;
  front = subst (λ (ws : List Text). Front (place_forms (Some name)) ws rest) (sym all) (refl, (refl, refl));
  only = by;
}
  where
    all : words ≡ codes "on" ∷ name ∷ rest
    all = e ∙ ap (λ (ws : List Text). codes "on" ∷ ws) is

    by : (on : Option Text) (tail : List Text) → IsPlace on → Front (place_forms on) words tail
        → ((more : List Text) → tail ≡ codes "on" ∷ more → ⊥) → (on ≡ Some name) × (tail ≡ rest)
    by None tail placed front bar = absurd (bar behind (sym front ∙ e))
    by (Some on) tail placed front bar =
        let other = two_words (codes "on") on [] words tail front in
        let same = rests (codes "on") (codes "on") (on ∷ other.0) (name ∷ rest) (sym other.1 ∙ all) in
        (ap (λ (t : Text). Some t) (heads on name other.0 rest same), sym other.2 ∙ rests on name other.0 rest same)

pub bad_place : (words behind : List Text) → words ≡ codes "on" ∷ behind
    → ((name : Text) (rest : List Text) → IsName name → behind ≡ name ∷ rest → ⊥) → IsNoPlaceIn words
bad_place words behind e none = by
  where
    by : (on : Option Text) (tail : List Text) → IsPlace on → Front (place_forms on) words tail
        → ((more : List Text) → tail ≡ codes "on" ∷ more → ⊥) → ⊥
    by None tail placed front bar = bar behind (sym front ∙ e)
    by (Some on) tail placed front bar =
        let other = two_words (codes "on") on [] words tail front in
        none on other.0 placed (rests (codes "on") (codes "on") behind (on ∷ other.0) (sym e ∙ other.1))
