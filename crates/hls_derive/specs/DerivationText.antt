-- The text of a derivation: one for each.
use Rattle.std.specs.Prelude.{ℕ, ◌++◌, List, codes, decimal, flat_map}
use Rattle.hls_chron.specs.declared.plain.Kind.{Kind}
use Rattle.hls_chron.specs.declared.plain.Kind.TheVariants.{Cpu, Fp, Edf, Sfq, Rr, Wheel, Join}
use Rattle.hls_guarantee.specs.declared.Guarantee.{Guarantee}
use Rattle.hls_guarantee.specs.declared.rule.RuleName.{RuleName}
use Rattle.hls_guarantee.specs.declared.rule.RuleName.TheVariants.{R1, R2, R3, R4, R5, R6, R7, R8, R9, R10, R11}
use Rattle.hls_guarantee.specs.Spelling.{spelling}
use Rattle.hls_derive.specs.declared.derivation.Step.{Step}
use Rattle.hls_derive.specs.declared.derivation.SchedStep.{SchedStep}
use Rattle.hls_derive.specs.declared.derivation.Derivation.{Derivation}

abbrev pub rule_text : RuleName → List ℕ
rule_text R1 = codes "R1"
rule_text R2 = codes "R2"
rule_text R3 = codes "R3"
rule_text R4 = codes "R4"
rule_text R5 = codes "R5"
rule_text R6 = codes "R6"
rule_text R7 = codes "R7"
rule_text R8 = codes "R8"
rule_text R9 = codes "R9"
rule_text R10 = codes "R10"
rule_text R11 = codes "R11"

-- the word of a kind, and for a join the port
abbrev pub scheduler_text : Kind → (port : ℕ) → List ℕ
scheduler_text Cpu port = codes "CPU"
scheduler_text Fp port = codes "FP"
scheduler_text Edf port = codes "EDF"
scheduler_text Sfq port = codes "SFQ"
scheduler_text Rr port = codes "RR"
scheduler_text Wheel port = codes "WHEEL"
scheduler_text Join port = codes "JOIN " ++ decimal port

-- a space, what led on, a space, and the guarantee reached
abbrev pub reached_text : (by : List ℕ) → Guarantee → List ℕ
reached_text by to = codes " " ++ by ++ codes " " ++ spelling to

abbrev pub step_text : Step → List ℕ
step_text s = reached_text (rule_text s.rule) s.to

abbrev pub sched_text : SchedStep → List ℕ
sched_text s = reached_text (scheduler_text s.kind s.port) s.to

abbrev pub steps_text : List Step → List ℕ
steps_text steps = flat_map step_text steps

unfoldable pub derivation_text : Derivation → List ℕ
derivation_text d = spelling d.from ++ steps_text d.before ++ sched_text d.sched ++ steps_text d.after
