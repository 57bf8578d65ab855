-- What a contract sees of a sink over a writer.
use Rattle.std.specs.Prelude.{ℕ}
use Rattle.hls_io.specs.declared.std_sink.StdSink.{StdSink}

-- the writer that is written to
abbrev pub writer_of : {W : Type 0} → StdSink W → W
writer_of s = s.writer

-- how many writes have failed
abbrev pub faults_of : {W : Type 0} → StdSink W → ℕ
faults_of s = s.faults
