-- What is drawn of a report is the picture that is asked for.
use Rattle.std.proofs.Common.{◌≡◌, ◌∙◌, ℕ, ◌+◌, ◌-◌, ◌≤◌, List, ap, sym, subst, length}
use Rattle.std.specs.Prelude.{Option}
use Rattle.hls_text.specs.Lines.{Text}
use Rattle.hls_report_text.specs.Content.{Content}
use Rattle.hls_audit.specs.declared.auditing.Outcome.{Outcome}
use Rattle.hls_view_scale.specs.declared.scale.Scale.{Scale}
use Rattle.hls_view_tale.specs.declared.label.Label.{Label}
use Rattle.hls_view_lanes.specs.declared.lanes.Lanes.{Lanes}
use Rattle.hls_view_lanes.specs.Lanes.{AreLanes}
use Rattle.hls_view_lanes.specs.Rows.{rows_of}
use Rattle.hls_view_picture_rows.specs.declared.picture.Picture.{Picture}
use Rattle.hls_view_picture.specs.Pictures.{picture_text}
use Rattle.hls_view_drawing.specs.Drawing.{IsDrawing}
use Rattle.hls_view.specs.Texts.{first_shown, last_shown, shown_rows, ShowsPicture}

pub picture_is : (c : Content) (audit : Outcome) (from to : Option ℕ) (s : Scale) (lanes : Lanes) (p : Picture)
    (output : Text) → s.from ≡ first_shown c from → s.to ≡ last_shown c from to → AreLanes c s lanes
    → (4096 ≤ length lanes.rows.items → ⊥) → IsDrawing c audit s p → output ≡ picture_text p
    → ShowsPicture c audit (first_shown c from) (last_shown c from to) output
picture_is c audit from to s lanes p output begins ends are few is spelled =
    let a : ℕ = first_shown c from in
    let all : lanes.rows.items ≡ shown_rows c a (last_shown c from to) =
    are.rows
    ∙ ap (λ (n : ℕ). rows_of c n (s.to + 1 - n)) begins
    ∙ ap (λ (n : ℕ). rows_of c a (n + 1 - a)) ends in
    record {
      few = λ tall. few (subst (λ (rs : List (List Label)). 4096 ≤ length rs) (sym all) tall);
      scale = s;
      begins = begins;
      ends = ends;
      picture = p;
      is = is;
      spelled = spelled;
    }
