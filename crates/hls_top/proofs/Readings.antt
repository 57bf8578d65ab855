-- What reading comes to, by cases, and what is written about what was read.
use Rattle.std.proofs.Common.{◌≡◌, ℕ, ◌+◌, ◌<◌, length, refl, inl, inr}
use Rattle.std.specs.Prelude.{Some, IfSome, Result, Ok, Err, IfErr, OnOk, IsErrOf, ◌⊎◌}
use Rattle.hls_io.specs.Bytes.{TakesFirst}
use Rattle.hls_io.specs.Faults.{Rose}
use Rattle.hls_io.specs.declared.source.ReadError.{ReadError}
use Rattle.hls_io.specs.declared.source.ReadError.TheVariants.{Fault, TooLong, Memory}
use Rattle.hls_top.specs.Exchange.{Drawn}
use Rattle.hls_top.specs.Ends.{Lacks}

-- the count of faults is as it was but where a read failed
pub quiet_if_ok : {B : Type 0} (result : Result B ReadError) (d : Drawn)
    → IsErrOf result Fault ⊎ (d.faults_after ≡ d.faults) → OnOk result (d.faults_after ≡ d.faults)
quiet_if_ok (Ok text) d (inl failed) = absurd cc
quiet_if_ok (Ok text) d (inr same) = same
quiet_if_ok (Err e) d h = tt

same_unless : {B : Type 0} (e : ReadError) (d : Drawn) (result : Result B ReadError) → result ≡ Err e
    → (e ≡ Fault → ⊥) → IsErrOf result Fault ⊎ (d.faults_after ≡ d.faults) → d.faults_after ≡ d.faults
same_unless e d result is other (inl failed) = absurd (other cc)
same_unless e d result is other (inr same) = same

pub lacks : {B : Type 0} (result : Result B ReadError) (most : ℕ) (d : Drawn)
    → (IsErrOf result TooLong → IfSome d.left (λ bytes. most < length bytes))
    → (IsErrOf result TooLong → TakesFirst (most + 1) d.left d.left_after)
    → (IsErrOf result Fault → Rose d.faults d.faults_after)
    → IsErrOf result Fault ⊎ (d.faults_after ≡ d.faults)
    → IfErr result (λ error. Lacks error (Some most) d)
lacks (Ok text) most d long past fault quiet = tt
lacks (Err Fault) most d long past fault quiet = fault refl
lacks (Err TooLong) most d long past fault quiet = record {
  longer = long refl;
  past = past refl;
  no_read_failed = same_unless TooLong d (Err TooLong) refl (λ e. absurd cc) quiet;
}
lacks (Err Memory) most d long past fault quiet = same_unless Memory d (Err Memory) refl (λ e. absurd cc) quiet
