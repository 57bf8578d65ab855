-- The words that the program knows, and what they ask for.
use Rattle.std.specs.Prelude.{◌≡◌, ℕ, ◌≤◌, ◌<◌, ◌^◌, ◌⊎◌, List, [], ◌∷◌, ◌++◌, codes, decimal}
use Rattle.hls_text.specs.Lines.{Text}
use Rattle.hls_top_words.specs.declared.jobs.Job.{Job}
use Rattle.hls_top_words.specs.declared.jobs.Job.TheVariants.{Run, Check, Gen, Trial}

-- the depth where the words state none
abbrev pub usual_depth : ℕ
usual_depth = 3

-- the words after `run` leave the depth open, or state one of at most 6, in a word of its own or in one with the option
abbrev pub HasDepth : List Text → ℕ → Type 0
HasDepth words depth = ((words ≡ []) × (depth ≡ usual_depth)) ⊎ ((depth ≤ 6) × (
    (words ≡ codes "--depth" ∷ decimal depth ∷ []) ⊎ (words ≡ (codes "--depth=" ++ decimal depth) ∷ [])))

-- the words after `gen` or `trial` are a number of 32 bits
abbrev pub HasNumber : List Text → ℕ → Type 0
HasNumber words number = (number < 2 ^ 32) × (words ≡ decimal number ∷ [])

-- the words ask for this
abbrev pub IsJob : List Text → Job → Type 0
IsJob words (Run depth) = (options : List Text) × (words ≡ codes "run" ∷ options) × HasDepth options depth
IsJob words Check = words ≡ codes "check" ∷ []
IsJob words (Gen number) = (options : List Text) × (words ≡ codes "gen" ∷ options) × HasNumber options number
IsJob words (Trial number) = (options : List Text) × (words ≡ codes "trial" ∷ options) × HasNumber options number

-- they ask for none
abbrev pub IsNoJob : List Text → Type 0
IsNoJob words = (job : Job) → ¬ IsJob words job
