-- Words of a scenario, and the line that they make.
use Rattle.std.proofs.Common.{◌≡◌, ◌^◌, ◌<◌, Bool, true, false, List, [], ◌∷◌, ◌++◌, inl, inr}
use Rattle.std.proofs.Common.{refl, sym, ap, ◌∙◌, arith, codes, subst, append_assoc}
use Rattle.std.specs.Prelude.{◌&&◌, nat_le, map}
use Rattle.std.specs.List.{AllByRecursion, list_all}
use Rattle.std.proofs.lemmas.Bool.{leb-true, le-leb}
use Rattle.hls_text.specs.Lines.{Text}
use Rattle.hls_text.specs.Tokens.{tokens_of}
use Rattle.hls_chron.specs.declared.plain.Terms.{Terms}
use Rattle.hls_chron.specs.declared.plain.Terms.TheVariants as terms
use Rattle.hls_guarantee.specs.declared.Guarantee.{Guarantee}
use Rattle.hls_guarantee.specs.declared.Guarantee.TheVariants.{Null}
use Rattle.hls_guarantee.specs.Limits.{IsNarrow}
use Rattle.hls_scenario.specs.declared.scenario.Spot.TheVariants as spots
use Rattle.hls_scenario.specs.declared.scenario.Command.TheVariants.{Thread}
use Rattle.hls_scenario.specs.Forms.{Form, the, fraction, canonical, spaced, joined, terms_forms, guarantee_forms}
use Rattle.hls_scenario.specs.Grammar.{IsToken, IsLine, IsTerms}
use Rattle.hls_scenario.proofs.CanonicalLines.{Sign, IsWord, AreWords, all_append, joined_tokens}
use Rattle.hls_scenario.proofs.CanonicalLines.{decimal_word, ratio_word}
use Rattle.hls_scenario.proofs.CanonicalWords.{IsPrintable}
use Rattle.hls_scenario.proofs.CanonicalForms.{command_printable}
use Rattle.hls_lang.proofs.Binds.{and_both}
use Rattle.hls_offer_words.specs.Inside.Spellings.{is_sign, is_word, plain}

-- ---- the test of a word

both : (a b : Bool) → (a && b) ≡ true → (a ≡ true) × (b ≡ true)
both true b e = (refl, e)
both false b e = absurd cc

signs_by : (bs : Text) → list_all is_sign bs ≡ true → AllByRecursion Sign bs
signs_by [] e = tt
signs_by (b ∷ bs) e =
    let h = both (is_sign b) (list_all is_sign bs) e in
    let s = both (nat_le 36 b) (nat_le b 126) h.0 in
    (record { low = leb-true 36 b s.0; high = leb-true b 126 s.1 }, signs_by bs h.1)

signs_test : (bs : Text) → AllByRecursion Sign bs → list_all is_sign bs ≡ true
signs_test [] are = refl
signs_test (b ∷ bs) are =
    and_both (is_sign b) (list_all is_sign bs)
    (and_both (nat_le 36 b) (nat_le b 126) (le-leb 36 b are.0.low) (le-leb b 126 are.0.high)) (signs_test bs are.1)

word_by : (w : Text) → is_word w ≡ true → IsWord w
word_by [] e = absurd (let f : false ≡ true = e in cc)
word_by (b ∷ bs) e = signs_by (b ∷ bs) e

word_test : (w : Text) → IsWord w → is_word w ≡ true
word_test [] is = absurd is
word_test (b ∷ bs) is = signs_test (b ∷ bs) is

pub words_by : {A : Type 0} (f : A → Text) (xs : List A) → list_all (λ (x : A). is_word (f x)) xs ≡ true
    → AllByRecursion IsWord (map f xs)
words_by f [] e = tt
words_by {A} f (x ∷ xs) e =
    let h = both (is_word (f x)) (list_all (λ (y : A). is_word (f y)) xs) e in
    (word_by (f x) h.0, words_by f xs h.1)

pub words_test : {A : Type 0} (f : A → Text) (xs : List A) → AllByRecursion IsWord (map f xs)
    → list_all (λ (x : A). is_word (f x)) xs ≡ true
words_test f [] are = refl
words_test {A} f (x ∷ xs) are =
    and_both (is_word (f x)) (list_all (λ (y : A). is_word (f y)) xs) (word_test (f x) are.0) (words_test f xs are.1)

-- ---- what stands for terms and guarantees is words

token_word : (form : Form) (t : Text) → IsPrintable form → IsToken form t → IsWord t
token_word (the w) t is e = subst IsWord (sym e) is
token_word (fraction f) t is e =
    let num : e.num < 2 ^ 64 = let le = e.num_fits in omega (arith, le) in
    let den : e.den < 2 ^ 64 = let le = e.den_fits.1 in omega (arith, le) in
    elim e.spelled [
      | inl long ↦ subst IsWord (sym long) (ratio_word e.num e.den num den)
      | inr whole ↦ subst IsWord (sym whole.1) (decimal_word e.num num)
    ]

line_words : (forms : List Form) (ts : List Text) → AllByRecursion IsPrintable forms → IsLine forms ts
    → AllByRecursion IsWord ts
line_words [] [] are line = tt
line_words [] (t ∷ ts) are line = absurd line
line_words (f ∷ forms) [] are line = absurd line
line_words (f ∷ forms) (t ∷ ts) are line = (token_word f t are.0 line.0, line_words forms ts are.1 line.1)

all_left : {A : Type 0} (P : A → Type 0) (xs ys : List A) → AllByRecursion P (xs ++ ys) → AllByRecursion P xs
all_left P [] ys are = tt
all_left P (x ∷ xs) ys are = (are.0, all_left P xs ys are.1)

pub terms_words : (t : Terms) (ts : List Text) → IsTerms t → IsLine (terms_forms t) ts → AllByRecursion IsWord ts
terms_words t ts is line =
    let all = command_printable 1
    (Thread (codes "a") (record { spot = spots.Under (codes "a") t; want = Null }))
    (refl, record { spot = (refl, is); want = tt }) in
    line_words (terms_forms t) ts
    (all_left IsPrintable (terms_forms t) (the (codes "as") ∷ guarantee_forms Null) all.1.1.1.1) line

pub wanted_words : (g : Guarantee) (ts : List Text) → IsNarrow g → IsLine (guarantee_forms g) ts
    → AllByRecursion IsWord ts
wanted_words g ts is line =
    let all = command_printable 1
    (Thread (codes "a") (record { spot = spots.Under (codes "a") terms.Turn; want = g }))
    (refl, record { spot = (refl, tt); want = is }) in
    line_words (guarantee_forms g) ts all.1.1.1.1.1.1 line

-- ---- the tokens of the line

-- the line begins by admitting a thread on a scheduler
abbrev pub admits : List Text → List Text
admits words = codes "at" ∷ codes "0" ∷ codes "thread" ∷ codes "a" ∷ codes "on" ∷ codes "a" ∷ words

-- the words behind terms
abbrev pub as_null : List Text
as_null = codes "as" ∷ codes "NULL" ∷ []

admits_are : (words : List Text) → AllByRecursion IsWord words → AllByRecursion IsWord (admits words)
admits_are words are = (
  word_by (codes "at") refl,
  (
    word_by (codes "0") refl,
    (
      word_by (codes "thread") refl,
      (word_by (codes "a") refl, (word_by (codes "on") refl, (word_by (codes "a") refl, are))),
    ),
  ),
)

plain_are : (words : List Text) → AllByRecursion IsWord words → AreWords (plain words)
plain_are [] are = tt
plain_are (w ∷ words) are = (are.0, plain_are words are.1)

plain_canonical : (words : List Text) → map canonical (plain words) ≡ words
plain_canonical [] = refl
plain_canonical (w ∷ words) = ap (λ (ws : List Text). w ∷ ws) (plain_canonical words)

plain_tokens : (words : List Text) → AllByRecursion IsWord words → tokens_of (joined (plain words)) ≡ words
plain_tokens words are = joined_tokens (plain words) (plain_are words are) ∙ plain_canonical words

spaced_more : (words more : List Text) → spaced (plain words) ++ spaced (plain more) ≡ spaced (plain (words ++ more))
spaced_more [] more = refl
spaced_more (w ∷ words) more =
    append_assoc (32 ∷ w) (spaced (plain words)) (spaced (plain more))
    ∙ ap (λ (r : Text). (32 ∷ w) ++ r) (spaced_more words more)

terms_text : (words : List Text) → (codes "at 0 thread a on a" ++ spaced (plain words)) ++ codes " as NULL"
    ≡ joined (plain (admits (words ++ as_null)))
terms_text words = ap (λ (r : Text). codes "at 0 thread a on a" ++ r) (spaced_more words as_null)

pub terms_tokens : (words : List Text) → AllByRecursion IsWord words
    → tokens_of ((codes "at 0 thread a on a" ++ spaced (plain words)) ++ codes " as NULL")
    ≡ admits (words ++ as_null)
terms_tokens words are =
    ap tokens_of (terms_text words)
    ∙ plain_tokens (admits (words ++ as_null))
    (admits_are (words ++ as_null)
    (all_append IsWord words as_null are (word_by (codes "as") refl, (word_by (codes "NULL") refl, tt))))

pub wanted_tokens : (words : List Text) → AllByRecursion IsWord words
    → tokens_of (codes "at 0 thread a on a turn as" ++ spaced (plain words))
    ≡ admits (codes "turn" ∷ codes "as" ∷ words)
wanted_tokens words are =
    plain_tokens (admits (codes "turn" ∷ codes "as" ∷ words))
    (admits_are (codes "turn" ∷ codes "as" ∷ words)
    (word_by (codes "turn") refl, (word_by (codes "as") refl, are)))
