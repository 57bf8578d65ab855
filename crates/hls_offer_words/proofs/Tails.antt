-- The words behind a question.
use Rattle.std.proofs.Common.{◌≡◌, ℕ, ◌≤◌, List, [], ◌∷◌, ◌++◌, refl, sym, ap, ◌∙◌}
use Rattle.std.proofs.Common.{arith, codes, subst, length, Bool, true, false}
use Rattle.std.specs.Prelude.{Option, Some, None, decimal, map, ◌==◌}
use Rattle.hls_text.specs.Lines.{Text}
use Rattle.hls_scenario.specs.Forms.{the}
use Rattle.hls_scenario.specs.Grammar.{IsLine}
use Rattle.hls_lang.proofs.Fronts.{Front, front_join, front_split, line_of_front, front_of_line}
use Rattle.hls_offer_words.specs.Table.{over_words, option_words, moment_words, tail_words, ArePeriods}
use Rattle.hls_offer_words.specs.Table.{most_period, question_forms, asked_forms, IsQuestion, IsAsked}
use Rattle.hls_offer_words.specs.Inside.Readings.{AreFirst, IsOver, IsNoOver, IsTail, HasTail, HasNoTail}
use Rattle.hls_offer_words.specs.Inside.Shapes.{timeless}
use Rattle.hls_offer_words.specs.Inside.Readings.{IsBehind, IsQuestionIn}
use Rattle.hls_offer_words.specs.declared.asked.Question.{Question}
use Rattle.hls_offer_words.specs.declared.asked.Asked.{Asked}
use Rattle.hls_offer_words.proofs.Rising.{heads, rests, no_empty, words_apart, moment_no_number, only_first}

-- ---- words as they are

pub plain_line : (texts : List Text) → IsLine (map (λ (word : Text). the word) texts) texts
plain_line [] = tt
plain_line (t ∷ texts) = (refl, plain_line texts)

pub plain_words : (texts words : List Text) → IsLine (map (λ (word : Text). the word) texts) words → words ≡ texts
plain_words [] [] line = refl
plain_words [] (w ∷ words) line = absurd line
plain_words (t ∷ texts) [] line = absurd line
plain_words (t ∷ texts) (w ∷ words) line =
    ap (λ (x : Text). x ∷ words) line.0 ∙ ap (λ (ws : List Text). t ∷ ws) (plain_words texts words line.1)

-- ---- periods

-- no moment begins with the word of periods
depth_no_over : (depth : Option ℕ) (more : List Text) → option_words (codes "--depth") depth ≡ codes "over" ∷ more → ⊥
depth_no_over None more e = no_empty (codes "over") more e
depth_no_over (Some d) more e =
    words_apart 45 111 (codes "-depth") (codes "ver") (λ (n : 45 ≡ 111). omega (arith, n))
    (heads (codes "--depth") (codes "over") (decimal d ∷ []) more e)

moment_no_over : (at depth : Option ℕ) (more : List Text) → moment_words at depth ≡ codes "over" ∷ more → ⊥
moment_no_over None depth more e = depth_no_over depth more e
moment_no_over (Some at) depth more e =
    words_apart 45 111 (codes "-at") (codes "ver") (λ (n : 45 ≡ 111). omega (arith, n))
    (heads (codes "--at") (codes "over") (decimal at ∷ option_words (codes "--depth") depth) more e)

-- words of which the first is another state none
pub unstated : (most : ℕ) (words : List Text) → ((more : List Text) → words ≡ codes "over" ∷ more → ⊥)
    → IsOver most words None words
unstated most words other = record { within = tt; words_are = refl; only = by }
  where
    by : (others : Option (List ℕ)) (at depth : Option ℕ) → ArePeriods most others
        → words ≡ over_words others ++ moment_words at depth → words ≡ moment_words at depth
    by None at depth within e = e
    by (Some periods) at depth within e = absurd (other (map decimal periods ++ moment_words at depth) e)

-- the numbers behind the word are the periods, where there are as many as there may be
pub stated_over : (most : ℕ) (words : List Text) (numbers : List ℕ) (rest : List Text) → most ≤ 20000
    → AreFirst 1 most words numbers rest → 1 ≤ length numbers → length numbers ≤ 64
    → IsOver most (codes "over" ∷ words) (Some numbers) rest
stated_over most words numbers rest le first some few = record {
  within = (some, few, first.rise);
  words_are = ap (λ (ws : List Text). codes "over" ∷ ws) first.words_are;
  only = by;
}
  where
    by : (others : Option (List ℕ)) (at depth : Option ℕ) → ArePeriods most others
        → codes "over" ∷ words ≡ over_words others ++ moment_words at depth → rest ≡ moment_words at depth
    by None at depth within e = absurd (moment_no_over at depth words (sym e))
    by (Some periods) at depth within e =
        (only_first 1 most words numbers rest periods (moment_words at depth) le first within.2
        (rests (codes "over") (codes "over") words (map decimal periods ++ moment_words at depth) e)
        (λ n more small same. moment_no_number at depth n more small same)).1

-- and else they are none
pub stated_none : (most : ℕ) (words : List Text) (numbers : List ℕ) (rest : List Text) → most ≤ 20000
    → AreFirst 1 most words numbers rest → ((1 ≤ length numbers) → (length numbers ≤ 64) → ⊥)
    → IsNoOver most (codes "over" ∷ words)
stated_none most words numbers rest le first bar = by
  where
    by : (periods : Option (List ℕ)) (at depth : Option ℕ) → ArePeriods most periods
        → codes "over" ∷ words ≡ over_words periods ++ moment_words at depth → ⊥
    by None at depth within e = moment_no_over at depth words (sym e)
    by (Some periods) at depth within e =
        let same = (only_first 1 most words numbers rest periods (moment_words at depth) le first within.2
        (rests (codes "over") (codes "over") words (map decimal periods ++ moment_words at depth) e)
        (λ n more small same. moment_no_number at depth n more small same)).0 in
        bar (subst (λ (ns : List ℕ). 1 ≤ length ns) (sym same) within.0)
        (subst (λ (ns : List ℕ). length ns ≤ 64) (sym same) within.1)

-- ---- what stands behind a question

pub no_tail_over : (question : Question) (words : List Text) → IsNoOver (most_period question) words
    → HasNoTail question words
no_tail_over question words none a has =
    none a.periods None None
    (subst (λ (q : Question). ArePeriods (most_period q) a.periods) has.0 has.1.periods) has.1.words_are

-- words behind the periods state nothing
pub no_tail_more : (question : Question) (words : List Text) (periods : Option (List ℕ)) (rest : List Text)
    → IsOver (most_period question) words periods rest → (rest ≡ [] → ⊥) → HasNoTail question words
no_tail_more question words periods rest over some a has =
    some (over.only a.periods None None
    (subst (λ (q : Question). ArePeriods (most_period q) a.periods) has.0 has.1.periods) has.1.words_are)

pub tail_over : (a : Asked) (words rest : List Text) → IsOver (most_period a.question) words a.periods rest → rest ≡ []
    → HasTail a.question words a
tail_over a words rest over none = (
  refl,
  record {
    words_are = over.words_are ∙ ap (λ (ws : List Text). over_words a.periods ++ ws) none;
    periods = over.within;
    tick = tt;
    depth = tt;
  },
)

-- ---- a question with the words behind it

pub asked_of : (a : Asked) (all words : List Text) → IsBehind a all words → IsAsked all a
asked_of a all words behind = record {
  words_are = line_of_front (asked_forms a) all
      (front_join (question_forms a.question) (map (λ (word : Text). the word) (tail_words a)) all words []
      behind.front
      (front_of_line (map (λ (word : Text). the word) (tail_words a)) words
      (rw behind.tail.words_are (plain_line (tail_words a)))));
  question = behind.within;
  periods = behind.tail.periods;
  tick = behind.tail.tick;
  depth = behind.tail.depth;
}

pub asked_behind : (a : Asked) (all : List Text) → IsAsked all a → (words : List Text) × IsBehind a all words
asked_behind a all asked =
    let split = front_split (question_forms a.question) (map (λ (word : Text). the word) (tail_words a)) all []
    (front_of_line (asked_forms a) all asked.words_are) in (
      split.0,
      record {
        within = asked.question;
        front = split.1;
        tail = record {
          words_are = plain_words (tail_words a) split.0
              (line_of_front (map (λ (word : Text). the word) (tail_words a)) split.0 split.2);
          periods = asked.periods;
          tick = asked.tick;
          depth = asked.depth;
        };
      },
    )

-- the words ask what the question with the words behind it asks
pub asked_timeless : (all rest : List Text) (question : Question) (a : Asked) → IsQuestionIn all question rest
    → HasTail question rest a → IsAsked all (timeless a)
asked_timeless all rest question a known has = asked_of (timeless a) all rest (record {
  within = subst IsQuestion (sym has.0) known.within;
  front = subst (λ (q : Question). Front (question_forms q) all rest) (sym has.0) known.front;
  tail = has.1;
})

pub none_timeless : (all rest : List Text) (question : Question) → IsQuestionIn all question rest
    → HasNoTail question rest → (a : Asked) → ¬ IsAsked all (timeless a)
none_timeless all rest question known none a asked =
    let behind = asked_behind (timeless a) all asked in
    let same = known.only (timeless a) behind.0 behind.1 in
    none a (same.0, subst (λ (ws : List Text). IsTail (timeless a) ws) same.1 behind.1.tail)

-- ---- whether words are left

pub no_texts : {A : Type 0} (f : A → Text) (xs : List A) (b : Bool) → b ≡ (length xs == 0) → b ≡ true → map f xs ≡ []
no_texts f [] b is none = refl
no_texts f (x ∷ xs) b is none =
    let same : (length (x ∷ xs) == 0) ≡ true = sym is ∙ none in
    let zero : length (x ∷ xs) ≡ 0 = grind (arith, same) in
    absurd (omega (arith, zero))

pub some_texts : {A : Type 0} (f : A → Text) (xs : List A) (b : Bool) → b ≡ (length xs == 0) → b ≡ false
    → map f xs ≡ [] → ⊥
some_texts f [] b is some e = absurd cc
some_texts f (x ∷ xs) b is some e = no_empty (f x) (map f xs) (sym e)

pub empty_texts : {A : Type 0} (f : A → Text) (xs : List A) (b : Bool) → b ≡ (length xs == 0) → map f xs ≡ []
    → b ≡ true
empty_texts f [] b is e = is
empty_texts f (x ∷ xs) b is e = absurd (no_empty (f x) (map f xs) (sym e))
