use Rattle.std.proofs.Common.{arith, inl, inr}
use Rattle.hls_report_text.specs.ReportText.{path_text}
use Rattle.hls_report.proofs.run_reading.run_front.Goals as goal

pub returns-in_default : goal.returns-in_default
returns-in_default c = λ s at forward within e.
    let few = c.requires in
    c.in_default.ensures.exact s.from s.to (path_text s.path) (omega arith) (omega arith) e

pub returns-else-first-from : goal.returns-else-first-from
returns-else-first-from c = λ s at forward within e.
    let few = c.requires in
    let p = c.in-Some.ensures.exact s.from s.to (path_text s.path) (omega arith) (omega arith) e in
    let first = p.0 in
    let last = p.1 in
    elim c.else-first-from.either [
      | inl f ↦ let late = f.2 in omega (arith, late, within, last)
      | inr more ↦ elim more [
        | inl f ↦ let back = f.1 in omega (arith, back, forward, last, first, at)
        | inr f ↦ let wrong = f in absurd (wrong (omega (arith, first, at)))
      ]
    ]
