-- How the words of the table stand, and what clap's matches of such words tell.
use Rattle.std.specs.Prelude.{◌≡◌, ℕ, ◌≤◌, ◌<◌, ◌^◌, ◌⊎◌, Bool, true, false, List, [], ◌∷◌, ◌++◌, Option, Some, None}
use Rattle.std.specs.Prelude.{codes, decimal, option_map}
use Rattle.clap.specs.Words.{Row, first_of}
use Rattle.hls_text.specs.Lines.{Text}
use Rattle.hls_text.specs.Numbers.{is_digit}
use Rattle.hls_top_words.specs.Table.{usual_depth}
use Rattle.hls_top_words.specs.declared.jobs.Job.{Job}
use Rattle.hls_top_words.specs.declared.jobs.Job.TheVariants.{Run, Check, Gen, Trial}

-- such a word is no option
abbrev pub begins_with_digit : Text → Bool
begins_with_digit [] = false
begins_with_digit (letter ∷ rest) = is_digit letter

-- the words after `run`, with what they state for a depth
abbrev pub States : List Text → Option Text → Type 0
States words None = words ≡ []
States words (Some value) =
    ((words ≡ codes "--depth" ∷ value ∷ []) × (begins_with_digit value ≡ true))
    ⊎ (words ≡ (codes "--depth=" ++ value) ∷ [])

abbrev pub MayState : List Text → Type 0
MayState words = (value : Option Text) × States words value

-- the one word after `gen` or `trial`
pub record Gives (words : List Text) : Type 0 where
  pub value : Text
  pub is : words ≡ value ∷ []
  pub digit : begins_with_digit value ≡ true

-- all that the table has stands so, and more: what is stated may be no depth and no number
abbrev pub HasShape : List Text → Type 0
HasShape words = ((options : List Text) × (words ≡ codes "run" ∷ options) × MayState options)
    ⊎ ((words ≡ codes "check" ∷ [])
    ⊎ (((options : List Text) × (words ≡ codes "gen" ∷ options) × Gives options)
    ⊎ ((options : List Text) × (words ≡ codes "trial" ∷ options) × Gives options)))

-- a depth that was found, or none
abbrev pub TellsDepth : Option Text → ℕ → Type 0
TellsDepth None depth = depth ≡ usual_depth
TellsDepth (Some value) depth = (depth ≤ 6) × (value ≡ decimal depth)

abbrev pub TellsNumber : Option Text → ℕ → Type 0
TellsNumber found number = (number < 2 ^ 32) × (found ≡ Some (decimal number))

abbrev pub depth_in : List Row → Option Text
depth_in rows = first_of (codes "depth") rows

abbrev pub number_in : List Row → Option Text
number_in rows = first_of (codes "number") rows

-- what is told of a subcommand: its name, and the texts of its depth and its number
abbrev pub told : Option (Text × List Row) → Option (Text × Option Text × Option Text)
told = option_map (λ p. (p.0, depth_in p.1, number_in p.1))

abbrev pub TellsJob : Option (Text × Option Text × Option Text) → Job → Type 0
TellsJob (Some (name, depth, number)) (Run conversions) = (name ≡ codes "run") × TellsDepth depth conversions
TellsJob (Some (name, depth, number)) Check = name ≡ codes "check"
TellsJob (Some (name, depth, number)) (Gen n) = (name ≡ codes "gen") × TellsNumber number n
TellsJob (Some (name, depth, number)) (Trial n) = (name ≡ codes "trial") × TellsNumber number n
TellsJob None job = ⊥
