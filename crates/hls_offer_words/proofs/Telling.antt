-- What is told of words that stand as those of a question is what they ask for.
use Rattle.std.proofs.Common.{◌≡◌, ℕ, List, [], ◌∷◌, ◌++◌, refl, sym, ap, ap₂, ◌∙◌, codes, subst, inl, inr, arith}
use Rattle.std.specs.Prelude.{Option, Some, None, decimal, Result, Ok, Err, IfOk, MatchOption, map, option_map}
use Rattle.std.specs.Prelude.{unwrap_or}
use Rattle.std.specs.Borrow.{Bor}
use Rattle.std.proofs.lemmas.List.{append_assoc}
use Rattle.clap.specs.Words.{Row, all_of}
use Rattle.std.specs.List.{AllByRecursion}
use Rattle.hls_text.specs.Lines.{Text}
use Rattle.hls_offer_words.specs.Table.{IsAsked, IsNotAsked, IsAtMost, option_words, moment_words}
use Rattle.hls_offer_words.specs.Inside.Shapes.{IsPlain, IsPlainIfAny, IsAsking, stated_words, options_words}
use Rattle.hls_offer_words.specs.Inside.Shapes.{HasShape, IsBehindPlain, MayOption, MayTell, Told, timeless, words_in}
use Rattle.hls_offer_words.specs.Inside.Readings.{HasTail, HasNoTail, IsQuestionIn}
use Rattle.hls_offer_words.specs.declared.asked.Question.{Question}
use Rattle.hls_offer_words.specs.Inside.Shapes.{IsBehindOption, TellsNumber, TellsAsked}
use Rattle.hls_offer_words.specs.declared.asked.Asked.{Asked}
use Rattle.hls_offer_words.proofs.Rising.{heads, rests, no_empty}
use Rattle.hls_offer_words.proofs.Standing.{one_split, options_stuck, moment_spelled, spelled, split_of, early_asked}
use Rattle.hls_offer_words.proofs.Standing.{joined_asked, first_asks, shape_of_asked, spelled_plain, plain_join}
use Rattle.hls_offer_words.proofs.Tails.{asked_timeless, none_timeless}
use Rattle.hls_offer_words.proofs.Walking.{told_by, told_shape}

abbrev pub told_in : (words : List Text) → HasShape words → Told
told_in words s = record { first = s.first; behind = s.behind; at = s.at; depth = s.depth }

-- ---- what is told is asked for

number_stated : (option : Text) (most : ℕ) (text : Option Text) (n : Option ℕ) → TellsNumber most text n
    → stated_words option text ≡ option_words option n
number_stated option most None None tells = refl
number_stated option most None (Some n) tells = absurd tells
number_stated option most (Some text) None tells = absurd tells
number_stated option most (Some text) (Some n) tells = ap (λ (t : Text). option ∷ t ∷ []) tells.1

pub number_small : (most : ℕ) (text : Option Text) (n : Option ℕ) → TellsNumber most text n → IsAtMost most n
number_small most None None tells = tt
number_small most None (Some n) tells = absurd tells
number_small most (Some text) None tells = absurd tells
number_small most (Some text) (Some n) tells = tells.0

pub asks : (words : List Text) (s : HasShape words) (a : Asked) → TellsAsked (told_in words s) a → IsAsked words a
asks words s a tells = joined_asked words (s.first ∷ s.behind) a
    (s.words_are ∙ ap (λ (ws : List Text). s.first ∷ (s.behind ++ ws)) (s.are.is
    ∙ ap₂ (λ (xs ys : List Text). xs ++ ys) (number_stated (codes "--at") 99999 s.at a.at tells.tick)
    (number_stated (codes "--depth") 6 s.depth a.depth tells.conversions)))
    tells.question (number_small 99999 s.at a.at tells.tick) (number_small 6 s.depth a.depth tells.conversions)

-- ---- what is asked for is told

some_same : (one two : Text) (more others : List Text) (option : Text)
    → option ∷ one ∷ more ≡ option ∷ two ∷ others → (one ≡ two) × (more ≡ others)
some_same one two more others option e = (cc, cc)

at_is_no_depth : (more others : List Text) → codes "--at" ∷ more ≡ codes "--depth" ∷ others → ⊥
at_is_no_depth more others e = let same = heads (codes "--at") (codes "--depth") more others e in absurd cc

depths_told : (depth : Option Text) (n : Option ℕ) → IsAtMost 6 n
    → stated_words (codes "--depth") depth ≡ option_words (codes "--depth") n → TellsNumber 6 depth n
depths_told None None small e = tt
depths_told None (Some n) small e = absurd (no_empty (codes "--depth") (decimal n ∷ []) e)
depths_told (Some text) None small e = absurd (no_empty (codes "--depth") (text ∷ []) (sym e))
depths_told (Some text) (Some n) small e = (small, (some_same text (decimal n) [] [] (codes "--depth") e).0)

options_told : (at depth : Option Text) (m n : Option ℕ) → IsAtMost 99999 m → IsAtMost 6 n
    → options_words at depth ≡ moment_words m n → TellsNumber 99999 at m × TellsNumber 6 depth n
options_told None depth None n low high e = (tt, depths_told depth n high e)
options_told None None (Some m) n low high e = absurd
    (no_empty (codes "--at") (decimal m ∷ option_words (codes "--depth") n) e)
options_told None (Some text) (Some m) n low high e =
    absurd (at_is_no_depth (decimal m ∷ option_words (codes "--depth") n) (text ∷ []) (sym e))
options_told (Some text) depth None None low high e =
    absurd (no_empty (codes "--at") (text ∷ stated_words (codes "--depth") depth) (sym e))
options_told (Some text) depth None (Some n) low high e =
    absurd (at_is_no_depth (text ∷ stated_words (codes "--depth") depth) (decimal n ∷ []) e)
options_told (Some text) depth (Some m) n low high e =
    let both = some_same text (decimal m) (stated_words (codes "--depth") depth) (option_words (codes "--depth") n)
    (codes "--at") e in
    ((low, both.0), depths_told depth n high both.1)

asking_plain : (first : Text) → IsAsking first → IsPlain first
asking_plain first (inl is) = rw is refl
asking_plain first (inr (inl is)) = rw is refl
asking_plain first (inr (inr is)) = rw is refl

pub tells : (words : List Text) (s : HasShape words) (a : Asked) → IsAsked words a → TellsAsked (told_in words s) a
tells words s a is =
    let halves = split_of words a is in
    let same = one_split (s.first ∷ s.behind) s.options halves.early (moment_words a.at a.depth)
    (sym s.words_are ∙ halves.words_are) (asking_plain s.first s.asking, s.plain) halves.plain
    (subst (λ (ws : List Text). (word : Text) (more : List Text) → ws ≡ word ∷ more → ¬ IsPlain word) (sym s.are.is)
    (options_stuck s.at s.depth))
    (subst (λ (ws : List Text). (word : Text) (more : List Text) → ws ≡ word ∷ more → ¬ IsPlain word)
    (moment_spelled a.at a.depth) (options_stuck (spelled a.at) (spelled a.depth))) in
    let numbers = options_told s.at s.depth a.at a.depth is.tick is.depth (sym s.are.is ∙ same.1) in
    record {
      question = subst (λ (ws : List Text). IsAsked ws (timeless a)) (sym same.0)
          (early_asked words halves.early a is halves.line);
      tick = numbers.0;
      conversions = numbers.1;
    }

-- so what is made of clap's matches is what the words ask for
pub answered : {E : Type 0} (words : List Text) (result : Result (Option Asked) E) (found : Option Told)
    → HasShape words
    → found ≡ told_by words
    → IfOk result (λ asked. MatchOption asked ((a : Asked) → ¬ MayTell found a) (MayTell found))
    → IfOk result (λ asked. MatchOption asked (IsNotAsked words) (IsAsked words))
answered words (Err e) found s is made = tt
answered words (Ok None) found s is made = λ a asked.
    made a (subst (λ (f : Option Told). MayTell f a) (sym (is ∙ told_shape words s)) (tells words s a asked))
answered words (Ok (Some a)) found s is made =
    asks words s a (subst (λ (f : Option Told). MayTell f a) (is ∙ told_shape words s) made)

-- ---- words that do not stand so ask nothing

pub not_shaped : (first : Text) (behind options : List Text) → IsBehindPlain behind options
    → ((at depth : Option ℕ) → IsAtMost 99999 at → IsAtMost 6 depth → options ≡ moment_words at depth → ⊥)
    → IsNotAsked (first ∷ behind)
not_shaped first behind options split none a asked =
    let halves = split_of (first ∷ behind) a asked in
    let moment = moment_words a.at a.depth in
    let f = first_asks a halves.early halves.line in
    let rest = rests first f.0 behind (f.1 ++ moment)
    (halves.words_are ∙ ap (λ (ws : List Text). ws ++ moment) f.2) in
    none a.at a.depth asked.tick asked.depth (one_split split.behind options f.1 moment (sym split.words_are ∙ rest)
    split.plain
    (subst (AllByRecursion IsPlain) f.2 halves.plain).1 split.stuck
    (subst (λ (ws : List Text). (word : Text) (more : List Text) → ws ≡ word ∷ more → ¬ IsPlain word)
    (moment_spelled a.at a.depth) (options_stuck (spelled a.at) (spelled a.depth)))).1

pub not_asking : (first : Text) (behind : List Text) → (IsAsking first → ⊥) → IsNotAsked (first ∷ behind)
not_asking first behind none a asked =
    let s = shape_of_asked (first ∷ behind) a asked in
    none (subst IsAsking (sym (heads first s.first behind (s.behind ++ s.options) s.words_are)) s.asking)

pub empty_not : IsNotAsked []
empty_not a asked =
    let s = shape_of_asked [] a asked in no_empty s.first (s.behind ++ s.options) s.words_are

pub shaped : (first : Text) (behind options : List Text) → IsAsking first → IsBehindPlain behind options
    → MayOption options → HasShape (first ∷ behind)
shaped first behind options asking split may = record {
  first = first;
  behind = split.behind;
  at = may.0;
  depth = may.1;
  options = options;
  asking = asking;
  plain = split.plain;
  are = may.2;
  words_are = ap (λ (ws : List Text). first ∷ ws) split.words_are;
}

-- ---- options, one after the other

first_options : (m n : Option ℕ) (more : List Text) → moment_words m n ≡ codes "--at" ∷ more
    → (k : ℕ) × (m ≡ Some k) × (more ≡ decimal k ∷ option_words (codes "--depth") n)
first_options None None more e = absurd (no_empty (codes "--at") more e)
first_options None (Some n) more e = absurd (at_is_no_depth more (decimal n ∷ []) (sym e))
first_options (Some m) n more e =
    (m, refl, sym (rests (codes "--at") (codes "--at") (decimal m ∷ option_words (codes "--depth") n) more e))

-- behind the tick the depth is left
behind_tick : (words rest : List Text) (m n : Option ℕ) → IsBehindOption (codes "--at") words rest
    → words ≡ moment_words m n → IsPlainIfAny (spelled m) → rest ≡ option_words (codes "--depth") n
behind_tick words rest m n (inl begins) e plain =
    let first = first_options m n (begins.value ∷ rest) (sym e ∙ begins.words_are) in
    rests begins.value (decimal first.0) rest (option_words (codes "--depth") n) first.2
behind_tick words rest None n (inr (same, none)) e plain = same ∙ e
behind_tick words rest (Some m) n (inr (same, none)) e plain =
    absurd (none (option_words (codes "--depth") n) (record { value = decimal m; plain = plain; words_are = e }))

behind_depth : (words rest : List Text) (n : Option ℕ) → IsBehindOption (codes "--depth") words rest
    → words ≡ option_words (codes "--depth") n → IsPlainIfAny (spelled n) → rest ≡ []
behind_depth words rest None (inl begins) e plain =
    absurd (no_empty (codes "--depth") (begins.value ∷ rest) (sym e ∙ begins.words_are))
behind_depth words rest (Some n) (inl begins) e plain =
    rests begins.value (decimal n) rest []
    (rests (codes "--depth") (codes "--depth") (begins.value ∷ rest) (decimal n ∷ []) (sym begins.words_are ∙ e))
behind_depth words rest None (inr (same, none)) e plain = same ∙ e
behind_depth words rest (Some n) (inr (same, none)) e plain =
    absurd (none [] (record { value = decimal n; plain = plain; words_are = e }))

pub no_options : (words behind rest : List Text) (m n : Option ℕ) → IsBehindOption (codes "--at") words behind
    → IsBehindOption (codes "--depth") behind rest → IsAtMost 99999 m → IsAtMost 6 n → words ≡ moment_words m n
    → rest ≡ []
no_options words behind rest m n first second low high e =
    behind_depth behind rest n second
    (behind_tick words behind m n first e (spelled_plain 99999 m (omega arith) low))
    (spelled_plain 6 n (omega arith) high)

pub some_options : (words behind rest : List Text) → IsBehindOption (codes "--at") words behind
    → IsBehindOption (codes "--depth") behind rest → rest ≡ [] → MayOption words
some_options words behind rest (inl at) (inl depth) none = (
  Some at.value,
  Some depth.value,
  record {
    is = at.words_are ∙ ap (λ (ws : List Text). codes "--at" ∷ at.value ∷ ws) (depth.words_are
        ∙ ap (λ (ws : List Text). codes "--depth" ∷ depth.value ∷ ws) none);
    tick = at.plain;
    conversions = depth.plain;
  },
)
some_options words behind rest (inl at) (inr depth) none = (
  Some at.value,
  None,
  record {
    is = at.words_are ∙ ap (λ (ws : List Text). codes "--at" ∷ at.value ∷ ws) (sym depth.0 ∙ none);
    tick = at.plain;
    conversions = tt;
  },
)
some_options words behind rest (inr at) (inl depth) none = (
  None,
  Some depth.value,
  record {
    is = sym at.0 ∙ (depth.words_are ∙ ap (λ (ws : List Text). codes "--depth" ∷ depth.value ∷ ws) none);
    tick = tt;
    conversions = depth.plain;
  },
)
some_options words behind rest (inr at) (inr depth) none =
    (None, None, record { is = sym at.0 ∙ (sym depth.0 ∙ none); tick = tt; conversions = tt })

-- a further plain word
pub options_more : {A : Type 0} (f : A → Text) (all left rest : List A) (word : A) (behind : List Text)
    → AllByRecursion IsPlain behind → map f all ≡ behind ++ map f left → left ≡ word ∷ rest → IsPlain (f word)
    → (more : List Text) × AllByRecursion IsPlain more × (map f all ≡ more ++ map f rest)
options_more f all left rest word behind plain are is also = (
  behind ++ f word ∷ [],
  plain_join IsPlain behind (f word ∷ []) plain (also, tt),
  are ∙ (ap (λ (ws : List _). behind ++ map f ws) is ∙ sym (append_assoc behind (f word ∷ []) (map f rest))),
)

-- ---- what matches tell

pub found_words : (result : Option (Bor (List (Bor Text)))) (found : Bor (List (Bor Text))) (rows : List Row)
    → option_map (λ s. map (λ v. v.now) s.now) result ≡ all_of (codes "words") rows → result ≡ Some found
    → map (λ v. v.now) found.now ≡ words_in rows
found_words None found rows e is = absurd cc
found_words (Some other) found rows e is =
    let same : other ≡ found = cc in
    ap (λ (s : Bor (List (Bor Text))). map (λ v. v.now) s.now) (sym same)
    ∙ ap (λ (o : Option (List Text)). unwrap_or o []) e

pub no_words : (result : Option (Bor (List (Bor Text)))) (rows : List Row)
    → option_map (λ s. map (λ v. v.now) s.now) result ≡ all_of (codes "words") rows → result ≡ None
    → [] ≡ words_in rows
no_words None rows e is = ap (λ (o : Option (List Text)). unwrap_or o []) e
no_words (Some other) rows e is = absurd cc

pub told_question : {E : Type 0} (first : Text) (behind rest : List Text) (at depth : Option Text) (m n : Option ℕ)
    (question : Question) (result : Result (Option Asked) E) → TellsNumber 99999 at m → TellsNumber 6 depth n
    → IsQuestionIn (first ∷ behind) question rest
    → IfOk result (λ found. MatchOption found (HasNoTail question rest)
    (λ a. (a.at ≡ m) × (a.depth ≡ n) × HasTail question rest a))
    → IfOk result (λ found. MatchOption found
    ((a : Asked) → ¬ TellsAsked (record { first = first; behind = behind; at = at; depth = depth }) a)
    (TellsAsked (record { first = first; behind = behind; at = at; depth = depth })))
told_question first behind rest at depth m n question (Err e) tick conversions known made = tt
told_question first behind rest at depth m n question (Ok None) tick conversions known none = λ a tells.
    none_timeless (first ∷ behind) rest question known none a tells.question
told_question first behind rest at depth m n question (Ok (Some a)) tick conversions known (same, also, has) =
    record {
      question = asked_timeless (first ∷ behind) rest question a known has;
      tick = subst (λ (k : Option ℕ). TellsNumber 99999 at k) (sym same) tick;
      conversions = subst (λ (k : Option ℕ). TellsNumber 6 depth k) (sym also) conversions;
    }
