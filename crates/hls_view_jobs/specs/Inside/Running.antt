-- Running values over the numbers of a list, and over jobs.
use Rattle.std.specs.Prelude.{◌≡◌, ℕ, List, Option, Some, None, length, max, nat_lt, if◌then◌else◌}
use Rattle.hls_view_jobs.specs.declared.job.Job.{Job}
use Rattle.hls_view_jobs.specs.Summaries.{IsLeastUpTo, IsMostUpTo, IsLongestUpTo, IsGreatestBound}

abbrev pub least_with : Option ℕ → ℕ → Option ℕ
least_with None number = Some number
least_with (Some least) number = if nat_lt number least then Some number else Some least

abbrev pub most_with : Option ℕ → ℕ → Option ℕ
most_with None number = Some number
most_with (Some most) number = if nat_lt most number then Some number else Some most

abbrev pub IsLeastSoFar : List ℕ → (i : ℕ) → Option ℕ → Type 0
IsLeastSoFar numbers i None = i ≡ 0
IsLeastSoFar numbers i (Some least) = IsLeastUpTo numbers i least

abbrev pub IsMostSoFar : List ℕ → (i : ℕ) → Option ℕ → Type 0
IsMostSoFar numbers i None = i ≡ 0
IsMostSoFar numbers i (Some most) = IsMostUpTo numbers i most

abbrev pub IsLongestSoFar : List Job → (i : ℕ) → Option Job → Type 0
IsLongestSoFar jobs i None = i ≡ 0
IsLongestSoFar jobs i (Some longest) = IsLongestUpTo jobs i longest

abbrev pub longer : Option Job → Job → Option Job
longer None job = Some job
longer (Some longest) job = if nat_lt longest.ticks job.ticks then Some job else Some longest

abbrev pub IsGreatestSoFar : List Job → (i : ℕ) → Option ℕ → Type 0
IsGreatestSoFar jobs i None = i ≡ 0
IsGreatestSoFar jobs i (Some most) = IsGreatestBound jobs i most

abbrev pub greater : Option ℕ → ℕ → ℕ
greater None bound = bound
greater (Some most) bound = max most bound

abbrev pub IsLongestWhole : List Job → Option Job → Type 0
IsLongestWhole jobs longest = IsLongestSoFar jobs (length jobs) longest
