use Rattle.std.proofs.Common.{[], subst, sym}
use Rattle.std.specs.Prelude.{All, Option, Some, None, IfSome}
use Rattle.std.proofs.lemmas.List.Elements.{All-nil, All-cons, All-append}
use Rattle.hls_report_text.specs.Content.{Content, content_of}
use Rattle.hls_view_jobs.specs.declared.admissions.Admission.{Admission}
use Rattle.hls_view_jobs.specs.Threads.{lasting}
use Rattle.hls_view_jobs.specs.Inside.Sources.{IsAdmission, listed}
use Rattle.hls_view_jobs.proofs.AdmissionLaws.{lives_next}
use Rattle.hls_view_jobs.proofs.admissions.admissions.Goals as goal

listed_sound : (c : Content) (one : Option Admission) → IfSome one (IsAdmission c) → All (IsAdmission c) (listed one)
listed_sound c None is = All-nil (IsAdmission c)
listed_sound c (Some one) is = All-cons (IsAdmission c) one [] is (All-nil (IsAdmission c))

pub loop-place-preserved : goal.loop-place-preserved
loop-place-preserved c =
    let content = content_of c.args.report.now in
    record {
      are = subst (All (IsAdmission content)) (sym c.in_ok-add.ensures)
          (All-append (IsAdmission content) c.loop-place.all.items (listed c.admission_at.result)
          c.loop-place.invariant.are (listed_sound content c.admission_at.result c.admission_at.ensures.is));
      lives = lives_next c.args.report.now.horizon c.args.report.now.answered c.loop-place.place c.admission_at.result
          c.loop-place.all.items c.add.new.all.items c.admission_at.ensures.lives c.in_ok-add.ensures (lasting content)
          c.loop-place.invariant.lives;
    }
