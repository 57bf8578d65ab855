-- What a contract sees of a source in memory.
use Rattle.std.specs.Prelude.{◌≡◌, ℕ, List, drop}
use Rattle.hls_io.specs.declared.mem_source.MemSource.{MemSource}

-- the bytes that are left to be read
abbrev pub left_of : MemSource → List ℕ
left_of s = drop s.at s.bytes.items

-- how many bytes one call gives at most
abbrev pub most_of : MemSource → ℕ
most_of s = s.most

-- the numbers of the calls that fail
abbrev pub fail_of : MemSource → List ℕ
fail_of s = s.fail.items

-- how many calls there were, which is the number of the next
abbrev pub calls_of : MemSource → ℕ
calls_of s = s.calls

-- how many of them failed
abbrev pub faults_of : MemSource → ℕ
faults_of s = s.faults

-- what was settled when the source was made stays
pub record KeepsPlan (old new : MemSource) : Type 0 where
  pub most : most_of new ≡ most_of old
  pub fail : fail_of new ≡ fail_of old
