-- The lines that may come from the first on are the lines of a content.
use Rattle.std.proofs.Common.{◌≡◌, ℕ, List, ◌∷◌, ◌++◌, refl, sym, ap, ◌∙◌, subst, flat_map}
use Rattle.std.specs.Prelude.{codes, map}
use Rattle.hls_text.specs.Lines.{Text}
use Rattle.hls_report_text.specs.declared.report.Report.{Report}
use Rattle.hls_report_text.specs.Content.{Content, content_of}
use Rattle.hls_report_text.specs.ReportText.{answered_lines, stretch_text, account_text, end_lines}
use Rattle.hls_report_text.specs.ReportText.{content_lines, ended, report_text}
use Rattle.hls_report_text.specs.WellFormed.{IsContent, IsReportText, Begins, IsFirstBad}
use Rattle.hls_report.specs.Inside.Rests.{HeaderRest, BeginsIn, IsStuck}
use Rattle.hls_report_text.proofs.Contents.{some_report}
use Rattle.hls_report.proofs.Sections.{content_one}
use Rattle.hls_report.proofs.RestLaws.{depth_line, horizon_line, header_line}
use Rattle.hls_report.proofs.Stuck.{front_of}
use Rattle.hls_report_text.proofs.Writings.{ended-append}

-- lines of a content
pub record AreOf (lines : List Text) : Type 0 where
  pub content : Content
  pub is : IsContent content
  pub text : lines ≡ content_lines content

pub header_content : (lines : List Text) → HeaderRest lines → AreOf lines
header_content lines r =
    let h = r.more in
    let d = h.more in
    let c = d.more in
    let s = c.more in
    let a = s.more in record {
      content = record {
        version = r.version;
        horizon = h.horizon;
        depth = d.depth;
        answered = c.answered;
        stretches = s.stretches;
        accounts = a.accounts;
        idle = a.idle;
      };
      is = record {
        version = r.is;
        horizon = h.is;
        depth = d.is;
        few = c.few;
        answered = c.are;
        cover = s.cover;
        names = s.few;
        accounts = a.are;
        idle = a.small;
      };
      text = r.text ∙ ap (λ ls. header_line r.version ∷ ls) (h.text
          ∙ ap (λ ls. horizon_line h.horizon ∷ ls) (d.text
          ∙ ap (λ ls. depth_line d.depth ∷ ls) (c.text
          ∙ ap (λ ls. flat_map (answered_lines r.version) c.answered ++ codes "schedule" ∷ ls) (s.text
          ∙ ap (λ ls. map stretch_text s.stretches ++ codes "accounts" ∷ ls) a.text))));
    }

account_part : Content → List Text
account_part c = map account_text c.accounts ++ end_lines c.idle

run_part : Content → List Text
run_part c = map stretch_text c.stretches ++ codes "accounts" ∷ account_part c

command_part : Content → List Text
command_part c = flat_map (answered_lines c.version) c.answered ++ codes "schedule" ∷ run_part c

pub content_header : (c : Content) → IsContent c → HeaderRest (content_lines c)
unfolding account_part run_part command_part
content_header c is = record {
  version = c.version;
  is = is.version;
  rest = horizon_line c.horizon ∷ depth_line c.depth ∷ command_part c;
  more = record {
    horizon = c.horizon;
    rest = depth_line c.depth ∷ command_part c;
    is = is.horizon;
    more = record {
      depth = c.depth;
      rest = command_part c;
      is = is.depth;
      more = record {
        answered = c.answered;
        rest = run_part c;
        are = is.answered;
        few = is.few;
        more = record {
          stretches = c.stretches;
          rest = account_part c;
          cover = is.cover;
          few = is.names;
          more = record {
            accounts = c.accounts;
            idle = c.idle;
            are = is.accounts;
            small = is.idle;
            text = refl;
          };
          text = refl;
        };
        text = refl;
      };
      text = refl;
    };
    text = refl;
  };
  text = refl;
}

-- ---- from lists of lines to reports

pub begins_report : (text : Text) (count : ℕ) → BeginsIn HeaderRest text count
    → Begins text count
unfolding report_text
begins_report text count b =
    let a = header_content (b.lines ++ b.more) b.may in
    let r = some_report a.content a.is in record {
      lines = b.lines;
      rest = b.rest;
      whole = b.whole;
      counted = b.counted;
      front = b.front;
      report = r.0;
      formed = r.1;
      more = ended b.more;
      begun = ap (λ c. ended (content_lines c)) r.2 ∙ ap ended (sym a.text)
          ∙ ended-append b.lines b.more;
    }

pub report_begins : (text : Text) (count : ℕ) → Begins text count → BeginsIn HeaderRest text count
unfolding report_text
report_begins text count b =
    let c = content_of b.report in
    let l = front_of (ended (content_lines c)) b.more b.lines (content_lines c) b.whole
    (content_one c b.formed.content) b.begun refl in
    record {
      lines = b.lines;
      rest = b.rest;
      more = l.more;
      whole = b.whole;
      counted = b.counted;
      front = b.front;
      may = subst HeaderRest l.is (content_header c b.formed.content);
    }

pub first_bad : (text : Text) (line : ℕ) → IsStuck HeaderRest text line → IsFirstBad text line
first_bad text line stuck = record {
  before = λ count lt. begins_report text count (stuck.before count lt);
  here = λ b. stuck.here (report_begins text line b);
}

-- the text of a report is never stuck
pub never_stuck : (text : Text) (line : ℕ) (r : Report) → IsStuck HeaderRest text line → IsReportText text r
    → ⊥
unfolding report_text
never_stuck text line r stuck is =
    let c = content_of r in
    stuck.none (content_lines c) (content_one c is.formed.content) (content_header c is.formed.content)
    is.spelled
