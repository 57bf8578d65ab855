-- What a made book keeps, whatever its kind: its configuration, and how it admitted its seats.
use Rattle.std.proofs.Common.{◌≢◌}
use Rattle.std.proofs.Math.Logic.{∥∥₁_elim}
use Rattle.std.proofs.Props.{props}
use Rattle.hls_chron.specs.declared.book.Event.{Event}
use Rattle.hls_chron.specs.declared.book.Event.TheVariants.{Seat, Leave, Settle}
use Rattle.hls_chron.specs.declared.plain.Config.{Config}
use Rattle.hls_chron.specs.declared.plain.Kind.TheVariants as kinds
use Rattle.hls_chron.specs.Kinds.{kind_of}
use Rattle.hls_chron.specs.Ledger.{Ledger}
use Rattle.hls_chron.specs.Ranges.{ConfigInRange}
use Rattle.hls_kinds.specs.Made.{IsAllowed, Making, Begun, Marked, Ticked, IsMade}
use Rattle.hls_kinds.proofs.Props.{ranges_prop}
use Rattle.hls_book.specs.Admission.{KeepsAdmission}
use Rattle.hls_book.proofs.AdmissionLaws.{MayMark, admission-mark, admission-row, admission-unwritten}

-- the configuration
kind_making : (config : Config) (b : Ledger) → Making config b → kind_of config ≢ kinds.Cpu
kind_making config b (Begun _ kind range unwritten unmarked) = kind
kind_making config _ (Marked b event making may) = kind_making config b making
kind_making config _ (Ticked b row making is) = kind_making config b making

range_making : (config : Config) (b : Ledger) → Making config b → ConfigInRange config
range_making config b (Begun _ kind range unwritten unmarked) = range
range_making config _ (Marked b event making may) = range_making config b making
range_making config _ (Ticked b row making is) = range_making config b making

pub kind_made : (config : Config) (b : Ledger) → IsMade config b → kind_of config ≢ kinds.Cpu
kind_made config b made = ∥∥₁_elim made (hlevel props) (kind_making config b)

pub range_made : (config : Config) (b : Ledger) → IsMade config b → ConfigInRange config
range_made config b made = ∥∥₁_elim made (ranges_prop config) (range_making config b)

-- admission
may_mark : (config : Config) (b : Ledger) (event : Event) → IsAllowed config b event → MayMark config b event
may_mark config b (Seat slot terms) may = (may.2.within, may.1)
may_mark config b (Leave slot) may = tt
may_mark config b Settle may = tt

admission_making : (config : Config) (b : Ledger) → Making config b → KeepsAdmission config b
admission_making config b (Begun _ kind range unwritten unmarked) =
    admission-unwritten config b unwritten unmarked
admission_making config _ (Marked b event making may) =
    admission-mark config b event (may_mark config b event may) (admission_making config b making)
admission_making config _ (Ticked b row making is) =
    admission-row config b row is.seats (admission_making config b making)

pub admission_made : (config : Config) (b : Ledger) → IsMade config b → KeepsAdmission config b
admission_made config b made = ∥∥₁_elim made (hlevel props) (admission_making config b)
