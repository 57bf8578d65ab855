-- How the words of the table stand: plain words, and the options behind them.
use Rattle.std.proofs.Common.{◌≡◌, ◌≤◌, ◌<◌, ◌^◌, ◌+◌, ℕ, true, false, List, []}
use Rattle.std.proofs.Common.{◌∷◌, ◌++◌, refl, sym, ap, ap₂, ◌∙◌, arith}
use Rattle.std.proofs.Common.{codes, subst, inl, inr, length}
use Rattle.std.specs.Prelude.{Option, Some, None, decimal, map, option_map, nat_le, ◌==◌, not}
use Rattle.std.specs.List.{AllByRecursion}
use Rattle.std.proofs.lemmas.Bool.{leb-true}
use Rattle.std.proofs.lemmas.Fmt.{decimal_nonempty}
use Rattle.std.proofs.lemmas.List.{append-nil, append_assoc, map-append}
use Rattle.hls_text.specs.Lines.{Text}
use Rattle.hls_text.specs.Numbers.{are_digits, is_digit}
use Rattle.hls_text.proofs.NumberLaws.{digits_of_decimal, and_left}
use Rattle.hls_chron.specs.Name.{IsName, is_letter}
use Rattle.hls_chron.specs.declared.plain.Terms.{Terms}
use Rattle.hls_chron.specs.declared.plain.Terms.TheVariants as terms
use Rattle.hls_guarantee.specs.declared.Guarantee.{Guarantee}
use Rattle.hls_guarantee.specs.declared.Guarantee.TheVariants.{All, Null, Resb, Resc, Psbe}
use Rattle.hls_guarantee.specs.Limits.{IsNarrow, IsReservation}
use Rattle.hls_scenario.specs.Forms.{Form, the, fraction, terms_forms, guarantee_forms}
use Rattle.hls_scenario.specs.Grammar.{IsToken, IsLine, IsTerms}
use Rattle.hls_lang.proofs.Fronts.{Front, front_split, front_of_line, line_of_front}
use Rattle.hls_offer_words.specs.Table.{IsAsked, IsAtMost, IsPlace, IsQuestion, Rise, ArePeriods, most_period}
use Rattle.hls_offer_words.specs.Table.{asked_forms, place_forms, question_forms}
use Rattle.hls_offer_words.specs.Table.{over_words, option_words, moment_words}
use Rattle.hls_offer_words.specs.Inside.Shapes.{IsPlain, IsPlainIfAny, IsAsking, stated_words, options_words}
use Rattle.hls_offer_words.specs.Inside.Shapes.{AreOptions, HasShape, timeless}
use Rattle.hls_offer_words.specs.declared.asked.Question.{Question}
use Rattle.hls_offer_words.specs.declared.asked.Question.TheVariants.{Offer, Need, Spare}
use Rattle.hls_offer_words.specs.declared.asked.Asked.{Asked}
use Rattle.hls_offer_words.proofs.Rising.{heads, rests, no_empty}
use Rattle.hls_offer_words.proofs.Tails.{plain_line, plain_words}

-- ---- each word of a question is plain

pub plain_from : (b : ℕ) (rest : Text) → 46 ≤ b → IsPlain (b ∷ rest)
plain_from b rest le = above (b == 45) refl
  where
    above : (same : _) → (b == 45) ≡ same → not (b == 45) ≡ true
    above true e = absurd (let is : b ≡ 45 = grind (arith, e) in omega (arith, le, is))
    above false e = rw e refl

digits_plain : (word more : Text) → 0 < length word → are_digits word ≡ true → IsPlain (word ++ more)
digits_plain [] more some digits = absurd (omega (arith, some))
digits_plain (b ∷ rest) more some digits =
    let low : nat_le 48 b ≡ true = and_left (nat_le 48 b) (nat_le b 57)
    (and_left (is_digit b) (are_digits rest) digits) in
    let least = leb-true 48 b low in
    plain_from b (rest ++ more) (omega (arith, least))

number_plain : (n : ℕ) (more : Text) → n < 2 ^ 64 → IsPlain (decimal n ++ more)
number_plain n more small =
    digits_plain (decimal n) more (decimal_nonempty n (omega (arith, small)))
    (digits_of_decimal n (omega (arith, small)))

pub decimal_plain : (n : ℕ) → n < 2 ^ 64 → IsPlain (decimal n)
decimal_plain n small = subst IsPlain (append-nil (decimal n)) (number_plain n [] small)

name_plain : (name : Text) → IsName name → IsPlain name
name_plain [] is = refl
name_plain (b ∷ rest) is =
    let letter = and_left (is_letter b) _ is in
    let low : nat_le 97 b ≡ true = and_left (nat_le 97 b) (nat_le b 122) letter in
    let least = leb-true 97 b low in
    plain_from b rest (omega (arith, least))

abbrev IsPlainForm : Form → Type 0
IsPlainForm (the word) = IsPlain word
IsPlainForm (fraction f) = Unit {0}

token_plain : (form : Form) (t : Text) → IsPlainForm form → IsToken form t → IsPlain t
token_plain (the word) t plain e = subst IsPlain (sym e) plain
token_plain (fraction f) t plain e =
    let small : e.num < 2 ^ 64 = let le = e.num_fits in omega (arith, le) in
    elim e.spelled [
      | inl long ↦ subst IsPlain (sym long) (number_plain e.num (codes "/" ++ decimal e.den) small)
      | inr whole ↦ subst IsPlain (sym whole.1) (decimal_plain e.num small)
    ]

line_plain : (forms : List Form) (ts : List Text) → AllByRecursion IsPlainForm forms → IsLine forms ts
    → AllByRecursion IsPlain ts
line_plain [] [] are line = tt
line_plain [] (t ∷ ts) are line = absurd line
line_plain (f ∷ forms) [] are line = absurd line
line_plain (f ∷ forms) (t ∷ ts) are line = (token_plain f t are.0 line.0, line_plain forms ts are.1 line.1)

pub plain_join : {A : Type 0} (P : A → Type 0) (xs ys : List A) → AllByRecursion P xs → AllByRecursion P ys
    → AllByRecursion P (xs ++ ys)
plain_join P [] ys a b = b
plain_join P (x ∷ xs) ys a b = (a.0, plain_join P xs ys a.1 b)

-- a number of a scenario's line
small_plain : (n : ℕ) → n ≤ 20000 → IsPlain (decimal n)
small_plain n le = decimal_plain n (omega (arith, le))

terms_plain : (t : Terms) → IsTerms t → AllByRecursion IsPlainForm (terms_forms t)
terms_plain terms.Cpu is = tt
terms_plain (terms.Prio priority) is = (refl, (small_plain priority (omega (arith, is)), tt))
terms_plain (terms.Res true x y) (low, mid, high) =
    (refl, (small_plain x (omega (arith, mid, high)), (small_plain y (omega (arith, high)), (refl, tt))))
terms_plain (terms.Res false x y) (low, mid, high) =
    (refl, (small_plain x (omega (arith, mid, high)), (small_plain y (omega (arith, high)), (refl, tt))))
terms_plain (terms.Weight weight) (low, high) = (refl, (small_plain weight (omega (arith, high)), tt))
terms_plain (terms.Slots places) (low, high) = (refl, (small_plain places (omega (arith, high)), tt))
terms_plain terms.Turn is = (refl, tt)
terms_plain terms.Sole is = (refl, tt)

window_plain : (x y : ℕ) → IsReservation x y
    → AllByRecursion IsPlainForm (the (decimal x) ∷ the (decimal y) ∷ [])
window_plain x y is =
    let mid = is.fits in
    let high = is.size in
    (small_plain x (omega (arith, mid, high)), (small_plain y (omega (arith, high)), tt))

wanted_plain : (g : Guarantee) → IsNarrow g → AllByRecursion IsPlainForm (guarantee_forms g)
wanted_plain All is = (refl, tt)
wanted_plain Null is = (refl, tt)
wanted_plain (Resb true x y) is = (refl, window_plain x y is)
wanted_plain (Resb false x y) is = (refl, window_plain x y is)
wanted_plain (Resc true x y) is = (refl, window_plain x y is)
wanted_plain (Resc false x y) is = (refl, window_plain x y is)
wanted_plain (Psbe s d) is = (refl, (tt, (tt, tt)))

place_plain : (on : Option Text) → IsPlace on → AllByRecursion IsPlainForm (place_forms on)
place_plain None is = tt
place_plain (Some on) is = (refl, (name_plain on is, tt))

question_plain : (q : Question) → IsQuestion q → AllByRecursion IsPlainForm (question_forms q)
question_plain (Offer name on its) is =
    (refl, (name_plain name is.0, (refl, (name_plain on is.1, terms_plain its is.2))))
question_plain (Need name wanted on) is = (
  refl,
  (
    name_plain name is.0,
    (
      refl,
      plain_join IsPlainForm (guarantee_forms wanted) (place_forms on)
          (wanted_plain wanted is.1) (place_plain on is.2),
    ),
  ),
)
question_plain Spare is = (refl, tt)

numbers_plain : (from most : ℕ) (numbers : List ℕ) → most ≤ 20000 → Rise from most numbers
    → AllByRecursion IsPlainForm (map (λ (word : Text). the word) (map decimal numbers))
numbers_plain from most [] le rise = tt
numbers_plain from most (n ∷ numbers) le rise =
    (small_plain n (let small = rise.1 in omega (arith, small, le)), numbers_plain (n + 1) most numbers le rise.2)

periods_plain : (most : ℕ) (periods : Option (List ℕ)) → most ≤ 20000 → ArePeriods most periods
    → AllByRecursion IsPlainForm (map (λ (word : Text). the word) (over_words periods))
periods_plain most None le are = tt
periods_plain most (Some numbers) le are = (refl, numbers_plain 1 most numbers le are.2)

most_small : (q : Question) → most_period q ≤ 20000
most_small (Offer name on its) = omega arith
most_small (Need name wanted on) = omega arith
most_small Spare = omega arith

-- the forms of a question and its periods
abbrev early_forms : Asked → List Form
early_forms a = question_forms a.question ++ map (λ (word : Text). the word) (over_words a.periods)

early_plain : (a : Asked) (words : List Text) → IsAsked words a → AllByRecursion IsPlainForm (early_forms a)
early_plain a words is = plain_join IsPlainForm (question_forms a.question)
    (map (λ (word : Text). the word) (over_words a.periods)) (question_plain a.question is.question)
    (periods_plain (most_period a.question) a.periods (most_small a.question) is.periods)

-- ---- a question's words are plain ones, and those of its moment

forms_are : (a : Asked) → asked_forms a ≡ early_forms a ++ map (λ (word : Text). the word) (moment_words a.at a.depth)
forms_are a =
    ap (λ (forms : List Form). question_forms a.question ++ forms)
    (map-append (λ (word : Text). the word) (over_words a.periods) (moment_words a.at a.depth))
    ∙ sym (append_assoc (question_forms a.question) (map (λ (word : Text). the word) (over_words a.periods))
    (map (λ (word : Text). the word) (moment_words a.at a.depth)))

forms_timeless : (a : Asked) → asked_forms (timeless a) ≡ early_forms a
forms_timeless a = ap (λ (words : List Text). question_forms a.question ++ map (λ (word : Text). the word) words)
    (append-nil (over_words a.periods))

front_line : (forms : List Form) (ts rest : List Text) → Front forms ts rest
    → (words : List Text) × (ts ≡ words ++ rest) × IsLine forms words
front_line [] ts rest front = ([], front, tt)
front_line (f ∷ forms) [] rest front = absurd front
front_line (f ∷ forms) (t ∷ ts) rest front =
    let more = front_line forms ts rest front.1 in
    (t ∷ more.0, ap (λ (ws : List Text). t ∷ ws) more.1, (front.0, more.2))

pub record IsSplit (words : List Text) (a : Asked) : Type 0 where
  pub early : List Text
  pub words_are : words ≡ early ++ moment_words a.at a.depth
  pub line : IsLine (early_forms a) early
  pub plain : AllByRecursion IsPlain early

pub split_of : (words : List Text) (a : Asked) → IsAsked words a → IsSplit words a
split_of words a is =
    let moment = moment_words a.at a.depth in
    let front = front_of_line (early_forms a ++ map (λ (word : Text). the word) moment) words
    (subst (λ (forms : List Form). IsLine forms words) (forms_are a) is.words_are) in
    let halves = front_split (early_forms a) (map (λ (word : Text). the word) moment) words [] front in
    let last = plain_words moment halves.0
    (line_of_front (map (λ (word : Text). the word) moment) halves.0 halves.2) in
    let first = front_line (early_forms a) words halves.0 halves.1 in
    record {
      early = first.0;
      words_are = first.1 ∙ ap (λ (ws : List Text). first.0 ++ ws) last;
      line = first.2;
      plain = line_plain (early_forms a) first.0 (early_plain a words is) first.2;
    }

line_join : (fs gs : List Form) (ts us : List Text) → IsLine fs ts → IsLine gs us → IsLine (fs ++ gs) (ts ++ us)
line_join [] gs [] us a b = b
line_join [] gs (t ∷ ts) us a b = absurd a
line_join (f ∷ fs) gs [] us a b = absurd a
line_join (f ∷ fs) gs (t ∷ ts) us a b = (a.0, line_join fs gs ts us a.1 b)

pub joined_asked : (words early : List Text) (a : Asked) → words ≡ early ++ moment_words a.at a.depth
    → IsAsked early (timeless a) → IsAtMost 99999 a.at → IsAtMost 6 a.depth → IsAsked words a
joined_asked words early a is asked tick conversions =
    let moment = moment_words a.at a.depth in
    let line = subst (λ (forms : List Form). IsLine forms early) (forms_timeless a) asked.words_are in
    let all = line_join (early_forms a) (map (λ (word : Text). the word) moment) early moment line
    (plain_line moment) in
    record {
      words_are = subst (λ (forms : List Form). IsLine forms words) (sym (forms_are a))
          (subst (λ (ws : List Text). IsLine (early_forms a ++ map (λ (word : Text). the word) moment) ws) (sym is)
          all);
      question = asked.question;
      periods = asked.periods;
      tick = tick;
      depth = conversions;
    }

pub early_asked : (words early : List Text) (a : Asked) → IsAsked words a → IsLine (early_forms a) early
    → IsAsked early (timeless a)
early_asked words early a is line = record {
  words_are = subst (λ (forms : List Form). IsLine forms early) (sym (forms_timeless a)) line;
  question = is.question;
  periods = is.periods;
  tick = tt;
  depth = tt;
}

-- ---- what stands so stands so in one way

abbrev pub IsStuck : List Text → Type 0
IsStuck words = (word : Text) (more : List Text) → words ≡ word ∷ more → ¬ IsPlain word

pub one_split : (xs ys zs ws : List Text) → xs ++ ys ≡ zs ++ ws → AllByRecursion IsPlain xs
    → AllByRecursion IsPlain zs → IsStuck ys → IsStuck ws → (xs ≡ zs) × (ys ≡ ws)
one_split [] ys [] ws e a b stuck bar = (refl, e)
one_split [] ys (z ∷ zs) ws e a b stuck bar = absurd (stuck z (zs ++ ws) e b.0)
one_split (x ∷ xs) ys [] ws e a b stuck bar = absurd (bar x (xs ++ ys) (sym e) a.0)
one_split (x ∷ xs) ys (z ∷ zs) ws e a b stuck bar =
    let first = heads x z (xs ++ ys) (zs ++ ws) e in
    let more = one_split xs ys zs ws (rests x z (xs ++ ys) (zs ++ ws) e) a.1 b.1 stuck bar in
    (ap₂ (λ (w : Text) (vs : List Text). w ∷ vs) first more.0, more.1)

option_stuck : (option word : Text) (rest more : List Text) → (IsPlain option → ⊥) → option ∷ rest ≡ word ∷ more
    → ¬ IsPlain word
option_stuck option word rest more bar e plain = bar (subst IsPlain (sym (heads option word rest more e)) plain)

no_plain_at : IsPlain (codes "--at") → ⊥
no_plain_at plain = absurd cc

no_plain_depth : IsPlain (codes "--depth") → ⊥
no_plain_depth plain = absurd cc

pub options_stuck : (at depth : Option Text) → IsStuck (options_words at depth)
options_stuck None None word more e = λ plain. no_empty word more e
options_stuck None (Some value) word more e = option_stuck (codes "--depth") word (value ∷ []) more no_plain_depth e
options_stuck (Some value) depth word more e =
    option_stuck (codes "--at") word (value ∷ stated_words (codes "--depth") depth) more no_plain_at e

-- the numbers of a moment as options state them
abbrev pub spelled : Option ℕ → Option Text
spelled = option_map decimal

stated_spelled : (option : Text) (n : Option ℕ) → stated_words option (spelled n) ≡ option_words option n
stated_spelled option None = refl
stated_spelled option (Some n) = refl

pub moment_spelled : (at depth : Option ℕ) → options_words (spelled at) (spelled depth) ≡ moment_words at depth
moment_spelled at depth =
    ap₂ (λ (xs ys : List Text). xs ++ ys) (stated_spelled (codes "--at") at) (stated_spelled (codes "--depth") depth)

pub spelled_plain : (most : ℕ) (n : Option ℕ) → most ≤ 99999 → IsAtMost most n → IsPlainIfAny (spelled n)
spelled_plain most None le is = tt
spelled_plain most (Some n) le is = decimal_plain n (omega (arith, le, is))

pub moment_options : (at depth : Option ℕ) → IsAtMost 99999 at → IsAtMost 6 depth
    → AreOptions (moment_words at depth) (spelled at) (spelled depth)
moment_options at depth tick conversions = record {
  is = sym (moment_spelled at depth);
  tick = spelled_plain 99999 at (omega arith) tick;
  conversions = spelled_plain 6 depth (omega arith) conversions;
}

-- the first word
pub first_asks : (a : Asked) (early : List Text) → IsLine (early_forms a) early
    → (first : Text) × (behind : List Text) × (early ≡ first ∷ behind) × IsAsking first
first_asks a early line = by a.question early line
  where
    by : (q : Question) (ts : List Text)
        → IsLine (question_forms q ++ map (λ (word : Text). the word) (over_words a.periods)) ts
        → (first : Text) × (behind : List Text) × (ts ≡ first ∷ behind) × IsAsking first
    by (Offer name on its) [] line = absurd line
    by (Offer name on its) (t ∷ ts) line = (t, ts, refl, inl line.0)
    by (Need name wanted on) [] line = absurd line
    by (Need name wanted on) (t ∷ ts) line = (t, ts, refl, inr (inl line.0))
    by Spare [] line = absurd line
    by Spare (t ∷ ts) line = (t, ts, refl, inr (inr line.0))

pub shape_of_asked : (words : List Text) (a : Asked) → IsAsked words a → HasShape words
shape_of_asked words a is =
    let s = split_of words a is in
    let f = first_asks a s.early s.line in
    record {
      first = f.0;
      behind = f.1;
      at = spelled a.at;
      depth = spelled a.depth;
      options = moment_words a.at a.depth;
      asking = f.3;
      plain = (subst (AllByRecursion IsPlain) f.2 s.plain).1;
      are = moment_options a.at a.depth is.tick is.depth;
      words_are = s.words_are ∙ ap (λ (ws : List Text). ws ++ moment_words a.at a.depth) f.2;
    }
