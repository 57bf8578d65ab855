-- The words that ask a question.
use Rattle.std.specs.Prelude.{ℕ, ◌+◌, ◌≤◌, List, [], ◌∷◌, ◌++◌, Option, Some, None, codes, decimal, length, map}
use Rattle.hls_text.specs.Lines.{Text}
use Rattle.hls_chron.specs.Name.{IsName}
use Rattle.hls_guarantee.specs.Limits.{IsNarrow}
use Rattle.hls_scenario.specs.Forms.{Form, the, terms_forms, guarantee_forms}
use Rattle.hls_scenario.specs.Grammar.{IsLine, IsTerms}
use Rattle.hls_offer_words.specs.declared.asked.Question.{Question}
use Rattle.hls_offer_words.specs.declared.asked.Question.TheVariants.{Offer, Need, Spare}
use Rattle.hls_offer_words.specs.declared.asked.Asked.{Asked}

-- the one scheduler that is asked, or all
abbrev pub place_forms : Option Text → List Form
place_forms None = []
place_forms (Some on) = the (codes "on") ∷ the on ∷ []

-- the words of a question up to its periods
abbrev pub question_forms : Question → List Form
question_forms (Offer name on terms) = the (codes "offer") ∷ the name ∷ the (codes "on") ∷ the on ∷ terms_forms terms
question_forms (Need name wanted on) =
    the (codes "need") ∷ the name ∷ the (codes "as") ∷ (guarantee_forms wanted ++ place_forms on)
question_forms Spare = the (codes "spare") ∷ []

abbrev pub IsPlace : Option Text → Type 0
IsPlace None = Unit {0}
IsPlace (Some on) = IsName on

-- names, terms and guarantees are those of the scenario grammar
abbrev pub IsQuestion : Question → Type 0
IsQuestion (Offer name on terms) = IsName name × IsName on × IsTerms terms
IsQuestion (Need name wanted on) = IsName name × IsNarrow wanted × IsPlace on
IsQuestion Spare = Unit {0}

-- the periods of the reservations that are told, or none
abbrev pub over_words : Option (List ℕ) → List Text
over_words None = []
over_words (Some periods) = codes "over" ∷ map decimal periods

-- an option that may be left out, and its number
abbrev pub option_words : (option : Text) → Option ℕ → List Text
option_words option None = []
option_words option (Some n) = option ∷ decimal n ∷ []

-- the words behind the question itself: its tick, and behind that its depth
abbrev pub moment_words : (at depth : Option ℕ) → List Text
moment_words at depth = option_words (codes "--at") at ++ option_words (codes "--depth") depth

abbrev pub tail_words : Asked → List Text
tail_words a = over_words a.periods ++ moment_words a.at a.depth

abbrev pub asked_forms : Asked → List Form
asked_forms a = question_forms a.question ++ map (λ word. the word) (tail_words a)

-- a number that is stated is at most so great
abbrev pub IsAtMost : (most : ℕ) → Option ℕ → Type 0
IsAtMost most None = Unit {0}
IsAtMost most (Some n) = n ≤ most

-- the numbers rise strictly, from one on and up to the most
abbrev pub Rise : (from most : ℕ) → List ℕ → Type 0
Rise from most [] = Unit {0}
Rise from most (n ∷ ns) = (from ≤ n) × (n ≤ most) × Rise (n + 1) most ns

abbrev pub ArePeriods : (most : ℕ) → Option (List ℕ) → Type 0
ArePeriods most None = Unit {0}
ArePeriods most (Some periods) = (1 ≤ length periods) × (length periods ≤ 64) × Rise 1 most periods

-- the windows of an offer may be as long as guarantees are, and the periods of terms as long as theirs
abbrev pub most_period : Question → ℕ
most_period (Offer name on terms) = 20000
most_period (Need name wanted on) = 10000
most_period Spare = 10000

-- the words ask for this
pub record IsAsked (words : List Text) (a : Asked) : Type 0 where
  pub words_are : IsLine (asked_forms a) words
  pub question : IsQuestion a.question
  pub periods : ArePeriods (most_period a.question) a.periods
  pub tick : IsAtMost 99999 a.at
  pub depth : IsAtMost 6 a.depth

-- they ask for nothing
abbrev pub IsNotAsked : List Text → Type 0
IsNotAsked words = (a : Asked) → ¬ IsAsked words a
