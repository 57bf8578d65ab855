-- Short texts about seats and promises.
use Rattle.std.specs.Prelude.{ℕ, List, [], ◌++◌, ◌==◌, if◌then◌else◌, codes, Option, Some, None}
use Rattle.hls_text.specs.Lines.{Text}
use Rattle.hls_guarantee.specs.Spelling.{fraction_text}
use Rattle.hls_chron.specs.declared.plain.Config.{Config}
use Rattle.hls_chron.specs.declared.plain.Sharing.{Sharing}
use Rattle.hls_chron.specs.Kinds.{sharing_of}
use Rattle.hls_scenario.specs.Forms as forms
use Rattle.hls_scenario.specs.Forms.{Form, joined}
use Rattle.hls_audit_clauses.specs.declared.member.Sort.{Sort}
use Rattle.hls_audit_clauses.specs.declared.member.Sort.TheVariants.{Scheduler, Thread}
use Rattle.hls_view_margins.specs.declared.margin.Distance.{Distance}
use Rattle.hls_view_margins.specs.declared.margin.Distance.TheVariants.{Above, Below}

-- version 1's words where the quantum is 1
abbrev pub version_with : (quantum : ℕ) → ℕ
version_with quantum = if quantum == 1 then 1 else 2

abbrev pub version_by : Option Sharing → ℕ
version_by (Some sharing) = version_with sharing.quantum
version_by None = 1

abbrev pub version_for : Config → ℕ
version_for config = version_by (sharing_of config)

abbrev pub config_forms : Config → List Form
config_forms config = forms.config_forms (version_for config) config

-- the configuration of a scheduler, as a load spells it
abbrev pub sort_text : Sort → Text
sort_text (Scheduler config) = joined (config_forms config)
sort_text Thread = []

-- a fraction, with its sign where it is below 0
abbrev pub distance_text : Distance → Text
distance_text (Above by) = fraction_text by
distance_text (Below by) = codes "-" ++ fraction_text by
