-- How the words of the table stand, and what clap's matches of such words tell.
use Rattle.std.specs.Prelude.{◌≡◌, ◌⊎◌, ◌≤◌, ◌==◌, ℕ, Bool, true, not, List, [], ◌∷◌, ◌++◌, Option, Some, None}
use Rattle.std.specs.Prelude.{codes, decimal, option_map, unwrap_or}
use Rattle.std.specs.List.{AllByRecursion}
use Rattle.clap.specs.Words.{Row, all_of, first_of}
use Rattle.hls_text.specs.Lines.{Text}
use Rattle.hls_offer_words.specs.Table.{IsAsked}
use Rattle.hls_offer_words.specs.declared.asked.Asked.{Asked}

-- such a word is no option: it does not begin with a hyphen
abbrev pub is_plain : Text → Bool
is_plain [] = true
is_plain (letter ∷ rest) = not (letter == 45)

abbrev pub IsPlain : Text → Type 0
IsPlain word = is_plain word ≡ true

abbrev pub IsPlainIfAny : Option Text → Type 0
IsPlainIfAny None = Unit {0}
IsPlainIfAny (Some word) = IsPlain word

-- the first word of a question
abbrev pub IsAsking : Text → Type 0
IsAsking first = (first ≡ codes "offer") ⊎ ((first ≡ codes "need") ⊎ (first ≡ codes "spare"))

-- an option and what it states, where it is not left out
abbrev pub stated_words : (option : Text) → Option Text → List Text
stated_words option None = []
stated_words option (Some value) = option ∷ value ∷ []

-- the words behind the plain ones
abbrev pub options_words : (at depth : Option Text) → List Text
options_words at depth = stated_words (codes "--at") at ++ stated_words (codes "--depth") depth

pub record AreOptions (words : List Text) (at depth : Option Text) : Type 0 where
  pub is : words ≡ options_words at depth
  pub tick : IsPlainIfAny at
  pub conversions : IsPlainIfAny depth

abbrev pub MayOption : List Text → Type 0
MayOption words = (at depth : Option Text) × AreOptions words at depth

-- a first word, plain words, and the options behind them: all that the table has stands so, and more
pub record HasShape (words : List Text) : Type 0 where
  pub first : Text
  pub behind : List Text
  pub at : Option Text
  pub depth : Option Text
  pub options : List Text
  pub asking : IsAsking first
  pub plain : AllByRecursion IsPlain behind
  pub are : AreOptions options at depth
  pub words_are : words ≡ first ∷ (behind ++ options)

-- the words begin with plain ones, and then with an option or not at all
pub record IsBehindPlain (words options : List Text) : Type 0 where
  pub behind : List Text
  pub plain : AllByRecursion IsPlain behind
  pub words_are : words ≡ behind ++ options
  pub stuck : (word : Text) (more : List Text) → options ≡ word ∷ more → ¬ IsPlain word

-- the words begin with an option and its value, and then the rest comes
pub record BeginsWith (option : Text) (words rest : List Text) : Type 0 where
  pub value : Text
  pub plain : IsPlain value
  pub words_are : words ≡ option ∷ value ∷ rest

-- the words begin so, or not, and then this is all
abbrev pub IsBehindOption : (option : Text) → (words rest : List Text) → Type 0
IsBehindOption option words rest =
    BeginsWith option words rest ⊎ ((rest ≡ words) × ((more : List Text) → ¬ BeginsWith option words more))

-- ---- what is found

abbrev pub words_in : List Row → List Text
words_in rows = unwrap_or (all_of (codes "words") rows) []

abbrev pub at_in : List Row → Option Text
at_in rows = first_of (codes "at") rows

abbrev pub depth_in : List Row → Option Text
depth_in rows = first_of (codes "depth") rows

-- what is told of a question: its first word, the words behind it, and what the options state
pub record Told : Type 0 where
  pub first : Text
  pub behind : List Text
  pub at : Option Text
  pub depth : Option Text

abbrev pub told_of : Text → List Row → Told
told_of first rows =
    record { first = first; behind = words_in rows; at = at_in rows; depth = depth_in rows }

abbrev pub told : Option (Text × List Row) → Option Told
told = option_map (λ p. told_of p.0 p.1)

-- a number of at most so much that was found, or none
abbrev pub TellsNumber : (most : ℕ) → Option Text → Option ℕ → Type 0
TellsNumber most None None = Unit {0}
TellsNumber most (Some text) (Some n) = (n ≤ most) × (text ≡ decimal n)
TellsNumber most _ _ = ⊥

-- a question without its moment
abbrev pub timeless : Asked → Asked
timeless a = record a { at = None; depth = None }

-- the plain words ask the question, and the options state its moment
pub record TellsAsked (t : Told) (a : Asked) : Type 0 where
  pub question : IsAsked (t.first ∷ t.behind) (timeless a)
  pub tick : TellsNumber 99999 t.at a.at
  pub conversions : TellsNumber 6 t.depth a.depth

abbrev pub MayTell : Option Told → Asked → Type 0
MayTell None a = ⊥
MayTell (Some t) a = TellsAsked t a
