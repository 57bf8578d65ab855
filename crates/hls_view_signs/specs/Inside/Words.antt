-- What words on a thread release.
use Rattle.std.specs.Prelude.{◌≡◌, ℕ, zero, suc, ◌<◌, ◌≤◌, ◌++◌, List, [], Option, Some, None, Bool}
use Rattle.std.specs.Prelude.{length, slice_get}
use Rattle.std.specs.List.{list_any, AllByRecursion}
use Rattle.hls_view_jobs.specs.declared.job.Word.{Word}
use Rattle.hls_view_jobs.specs.declared.job.Release.{Release}
use Rattle.hls_view_jobs.specs.Words.{first}
use Rattle.hls_view_jobs.specs.Jobs.{release_of, releases}

abbrev pub released : (last next : Option Word) → List Release
released None next = []
released (Some word) next = release_of word.tick word.sort next

-- one of the jobs that the last word, if there is one, and these behind it release passes
abbrev pub any_released : (test : Release → Bool) → (last : Option Word) → (words : List Word) → Bool
any_released test last words = list_any test (released last (first words) ++ releases words)

-- all come before a tick
abbrev pub AreEarly : (t : ℕ) → List Word → Type 0
AreEarly t words = AllByRecursion (λ (w : Word). w.tick < t) words

-- their ticks never fall
abbrev pub AreRising : List Word → Type 0
AreRising words = (i j : ℕ) (a b : Word) → i ≤ j → slice_get words i ≡ Some a → slice_get words j ≡ Some b
    → a.tick ≤ b.tick

-- each of the first so many comes before a tick, and none from a further place on does
pub record AreParted (words : List Word) (t low high : ℕ) : Type 0 where
  pub order : low ≤ high
  pub within : high ≤ length words
  pub early : (k : ℕ) (w : Word) → k < low → slice_get words k ≡ Some w → w.tick < t
  pub late : (k : ℕ) (w : Word) → high ≤ k → slice_get words k ≡ Some w → t ≤ w.tick

abbrev pub last_of : List Word → (count : ℕ) → Option Word
last_of words zero = None
last_of words (suc count) = slice_get words count
