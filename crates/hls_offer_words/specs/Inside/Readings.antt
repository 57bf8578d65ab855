-- What is read of the words of a question.
use Rattle.std.specs.Prelude.{◌≡◌, ℕ, ◌+◌, ◌≤◌, List, [], ◌∷◌, ◌++◌, Option, codes, decimal, map}
use Rattle.hls_text.specs.Lines.{Text}
use Rattle.hls_chron.specs.declared.plain.Terms.{Terms}
use Rattle.hls_guarantee.specs.declared.Guarantee.{Guarantee}
use Rattle.hls_guarantee.specs.Limits.{IsNarrow}
use Rattle.hls_scenario.specs.declared.scenario.Spot.TheVariants as spots
use Rattle.hls_scenario.specs.declared.scenario.Spot.TheVariants.{Under}
use Rattle.hls_scenario.specs.declared.scenario.Perch.{Perch}
use Rattle.hls_scenario.specs.declared.scenario.Command.TheVariants.{Thread}
use Rattle.hls_scenario.specs.declared.scenario.Item.{Item}
use Rattle.hls_scenario.specs.Forms.{terms_forms, guarantee_forms}
use Rattle.hls_scenario.specs.Grammar.{IsTerms, IsLine, IsItemLine}
use Rattle.hls_lang.proofs.Fronts.{Front}
use Rattle.hls_offer_words.specs.Table.{over_words, moment_words, tail_words, IsAtMost, Rise, ArePeriods, most_period}
use Rattle.hls_offer_words.specs.Table.{place_forms, question_forms, IsPlace, IsQuestion}
use Rattle.hls_offer_words.specs.Inside.Shapes.{timeless}
use Rattle.hls_offer_words.specs.declared.asked.Question.{Question}
use Rattle.hls_offer_words.specs.declared.asked.Asked.{Asked}

-- ---- seats

-- the line admits a thread at this perch, at the one tick that there is; each version spells admissions alike
pub record IsAdmission (tokens : List Text) (perch : Perch) : Type 0 where
  pub item : Item
  pub line : IsItemLine 1 1 0 tokens item
  pub name : Text
  pub admits : item.command ≡ Thread name perch

-- on these terms
pub record AdmitsOn (tokens : List Text) (its : Terms) : Type 0 where
  pub perch : Perch
  pub admission : IsAdmission tokens perch
  pub sched : Text
  pub spot : perch.spot ≡ Under sched its

-- on none: only the processor could be meant
abbrev pub AdmitsNowhere : List Text → Type 0
AdmitsNowhere tokens = (perch : Perch) → IsAdmission tokens perch → perch.spot ≡ spots.Cpu

-- with this guarantee
pub record AdmitsWith (tokens : List Text) (wanted : Guarantee) : Type 0 where
  pub perch : Perch
  pub admission : IsAdmission tokens perch
  pub want : perch.want ≡ wanted

abbrev pub AdmitsNobody : List Text → Type 0
AdmitsNobody tokens = (perch : Perch) → ¬ IsAdmission tokens perch

-- the words begin with these terms, and then the rest comes
pub record IsTermsIn (words : List Text) (terms : Terms) (rest : List Text) : Type 0 where
  pub within : IsTerms terms
  pub front : Front (terms_forms terms) words rest

abbrev pub IsNoTermsIn : List Text → Type 0
IsNoTermsIn words = (terms : Terms) (rest : List Text) → ¬ IsTermsIn words terms rest

-- with the words of a guarantee behind them they begin with these terms
pub record IsTermsBefore (words : List Text) (terms : Terms) : Type 0 where
  pub rest : List Text
  pub begin : IsTermsIn (words ++ codes "as" ∷ codes "NULL" ∷ []) terms rest

-- they are those of no terms
abbrev pub IsNoTerms : List Text → Type 0
IsNoTerms words = (terms : Terms) → IsTerms terms → ¬ IsLine (terms_forms terms) words

-- the words begin with this guarantee, and then the rest comes
pub record IsWantedIn (words : List Text) (wanted : Guarantee) (rest : List Text) : Type 0 where
  pub within : IsNarrow wanted
  pub front : Front (guarantee_forms wanted) words rest

abbrev pub IsNoWantedIn : List Text → Type 0
IsNoWantedIn words = (wanted : Guarantee) (rest : List Text) → ¬ IsWantedIn words wanted rest

-- they are those of this guarantee
pub record IsWanted (words : List Text) (wanted : Guarantee) : Type 0 where
  pub within : IsNarrow wanted
  pub line : IsLine (guarantee_forms wanted) words

abbrev pub IsNoWanted : List Text → Type 0
IsNoWanted words = (wanted : Guarantee) → ¬ IsWanted words wanted

-- ---- periods and the moment

-- the least number that may come behind numbers that rise from one on
abbrev pub behind : (from : ℕ) → List ℕ → ℕ
behind from [] = from
behind from (n ∷ ns) = behind (n + 1) ns

-- the words are the words of these numbers, which rise, and the rest, of which no further number can be taken
pub record AreFirst (from most : ℕ) (words : List Text) (numbers : List ℕ) (rest : List Text) : Type 0 where
  pub rise : Rise from most numbers
  pub words_are : words ≡ map decimal numbers ++ rest
  pub stuck : (n : ℕ) (more : List Text) → behind from numbers ≤ n → n ≤ most → rest ≡ decimal n ∷ more → ⊥

-- the words state these periods, and then the rest; with a moment behind them they state no others
pub record IsOver (most : ℕ) (words : List Text) (periods : Option (List ℕ)) (rest : List Text) : Type 0 where
  pub within : ArePeriods most periods
  pub words_are : words ≡ over_words periods ++ rest
  pub only : (others : Option (List ℕ)) (at depth : Option ℕ) → ArePeriods most others
      → words ≡ over_words others ++ moment_words at depth → rest ≡ moment_words at depth

-- they state none, with a moment behind them
abbrev pub IsNoOver : (most : ℕ) → List Text → Type 0
IsNoOver most words = (periods : Option (List ℕ)) (at depth : Option ℕ) → ArePeriods most periods
    → words ≡ over_words periods ++ moment_words at depth → ⊥

-- the words behind a question
pub record IsTail (a : Asked) (words : List Text) : Type 0 where
  pub words_are : words ≡ tail_words a
  pub periods : ArePeriods (most_period a.question) a.periods
  pub tick : IsAtMost 99999 a.at
  pub depth : IsAtMost 6 a.depth

-- the words behind this question, where it is asked of no moment
abbrev pub HasTail : Question → List Text → Asked → Type 0
HasTail question words a = (a.question ≡ question) × IsTail (timeless a) words

abbrev pub HasNoTail : Question → List Text → Type 0
HasNoTail question words = (a : Asked) → ¬ HasTail question words a

-- ---- questions

-- the words are those of a question, and then those behind it
pub record IsBehind (a : Asked) (all words : List Text) : Type 0 where
  pub within : IsQuestion a.question
  pub front : Front (question_forms a.question) all words
  pub tail : IsTail a words

-- they begin with this question, and then the rest comes; with the words behind a question they ask no other
pub record IsQuestionIn (all : List Text) (question : Question) (rest : List Text) : Type 0 where
  pub within : IsQuestion question
  pub front : Front (question_forms question) all rest
  pub only : (a : Asked) (words : List Text) → IsBehind a all words → (a.question ≡ question) × (words ≡ rest)

-- the words name the one scheduler that is asked, or none, and then the rest comes
pub record IsPlaceIn (words : List Text) (on : Option Text) (rest : List Text) : Type 0 where
  pub within : IsPlace on
  pub front : Front (place_forms on) words rest
  pub only : (other : Option Text) (tail : List Text) → IsPlace other → Front (place_forms other) words tail
      → ((more : List Text) → tail ≡ codes "on" ∷ more → ⊥) → (other ≡ on) × (tail ≡ rest)

-- they name neither
abbrev pub IsNoPlaceIn : List Text → Type 0
IsNoPlaceIn words = (on : Option Text) (tail : List Text) → IsPlace on → Front (place_forms on) words tail
    → ((more : List Text) → tail ≡ codes "on" ∷ more → ⊥) → ⊥
