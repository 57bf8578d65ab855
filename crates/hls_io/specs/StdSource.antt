-- What a contract sees of a source over a reader.
use Rattle.std.specs.Prelude.{ℕ}
use Rattle.hls_io.specs.declared.std_source.StdSource.{StdSource}

-- the reader that is read from
abbrev pub reader_of : {R : Type 0} → StdSource R → R
reader_of s = s.reader

-- how many reads have failed
abbrev pub faults_of : {R : Type 0} → StdSource R → ℕ
faults_of s = s.faults
