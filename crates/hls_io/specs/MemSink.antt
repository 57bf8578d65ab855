-- What a contract sees of a sink in memory.
use Rattle.std.specs.Prelude.{◌≡◌, ℕ, ◌-◌, List, [], length}
use Rattle.hls_io.specs.declared.mem_sink.MemSink.{MemSink}

-- the bytes that were taken
abbrev pub bytes_of : MemSink → List ℕ
bytes_of s = s.bytes.items

-- how many bytes it takes in all
abbrev pub room_of : MemSink → ℕ
room_of s = s.room

-- how many bytes it can still take
abbrev pub free_of : MemSink → ℕ
free_of s = room_of s - length (bytes_of s)

-- how many bytes one call takes at most
abbrev pub most_of : MemSink → ℕ
most_of s = s.most

-- the numbers of the calls that fail
abbrev pub fail_of : MemSink → List ℕ
fail_of s = s.fail.items

-- how many calls there were, which is the number of the next
abbrev pub calls_of : MemSink → ℕ
calls_of s = s.calls

-- how many of them failed
abbrev pub faults_of : MemSink → ℕ
faults_of s = s.faults

-- an empty sink of this size that was not called yet
pub record IsNew (size limit : ℕ) (numbers : List ℕ) (s : MemSink) : Type 0 where
  pub bytes : bytes_of s ≡ []
  pub room : room_of s ≡ size
  pub most : most_of s ≡ limit
  pub fail : fail_of s ≡ numbers
  pub calls : calls_of s ≡ 0
  pub faults : faults_of s ≡ 0

-- what was settled when the sink was made stays
pub record KeepsPlan (old new : MemSink) : Type 0 where
  pub room : room_of new ≡ room_of old
  pub most : most_of new ≡ most_of old
  pub fail : fail_of new ≡ fail_of old
