-- How the words of a path are read, and what was read.
use Rattle.std.specs.Prelude.{◌≡◌, ℕ, ◌^◌, ◌≤◌, ◌<◌, ◌==◌, ◌++◌, List, take, drop, length, codes}
use Rattle.std.specs.Prelude.{flat_map, Option, Some}
use Rattle.std.specs.List.{AllByRecursion, position_or_len}
use Rattle.hls_text.specs.Lines.{Text}
use Rattle.hls_text.specs.Options.{◌>>=◌}
use Rattle.hls_text.specs.Cuts.{after_words}
use Rattle.hls_report_text.specs.declared.report.Path.{Path}
use Rattle.hls_report_text.specs.Content.{path_names}
use Rattle.hls_report_text.specs.WellFormed.{IsPath, with_names}
use Rattle.hls_report_text.specs.Inside.Reading.{name_at}

-- each with a slash before it
abbrev pub names_text : List Text → Text
names_text names = flat_map (λ name. codes "/" ++ name) names

-- how many bytes stand before the first slash, or in all
abbrev pub name_length : Text → ℕ
name_length text = position_or_len (λ b. b == 47) text

-- the first name behind a slash, and what stands behind it
unfoldable pub first_name_at : Text → Option (Text × Text)
first_name_at text = after_words (codes "/") text >>= λ rest. name_at (take (name_length rest) rest) >>= λ
    name. Some (name, drop (name_length rest) rest)

-- names of a path that are not too many, with those that are known
abbrev pub FitIn : (known names : List Text) → Type 0
FitIn known names = IsPath (Some names) × (length (with_names known names) ≤ 2 ^ 16)

-- the places are those of the names that a text tells, of which some may be new
pub record IsPathRead (known new : List Text) (text : Text) (path : Path) : Type 0 where
  pub short : path.len ≤ 9
  pub is : IsPath (Some (path_names new path))
  pub told : text ≡ names_text (path_names new path)
  pub added : new ≡ with_names known (path_names new path)
  pub few : length new ≤ 2 ^ 16
  pub inside : AllByRecursion (λ place. place < length new) (take path.len path.names)
