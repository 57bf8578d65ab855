-- What is written says that the report is kept.
use Rattle.std.specs.Prelude.{◌≡◌, ◌++◌, codes}
use Rattle.std.specs.Io.KnownBytes.{Appends}
use Rattle.hls_text.specs.Lines.{Text}
use Rattle.hls_report_text.specs.Content.{Content}
use Rattle.hls_audit.specs.declared.auditing.Outcome.TheVariants as outcomes
use Rattle.hls_view_words.specs.Table.{IsView}
use Rattle.hls_view_words.specs.declared.views.View.{View}
use Rattle.hls_view_words.specs.declared.views.View.TheVariants.{Margins, Tree, Jobs, Svg, Trace}
use Rattle.hls_view.specs.Viewing.{Viewing}
use Rattle.hls_view.specs.Texts.{tick_line, tick_shown, IsViewText}

pub record BeginsWith (text front : Text) : Type 0 where
  pub rest : Text
  pub is : text ≡ front ++ rest

pub record HasWords (text words : Text) : Type 0 where
  pub before : Text
  pub behind : Text
  pub is : text ≡ before ++ (words ++ behind)

-- the second line of margins and of jobs is `audit kept`, and so is the third of a tree; the picture has it in its
-- description, and the trace among its other data
abbrev pub SaysKept : View → Content → (output : Text) → Type 0
SaysKept Margins c output = BeginsWith output (codes "hlsview-margins 1\naudit kept\n")
SaysKept (Jobs of) c output = BeginsWith output (codes "hlsview-jobs 1\naudit kept\n")
SaysKept (Tree at) c output =
    BeginsWith output (codes "hlsview-tree 1\n" ++ (tick_line c (tick_shown c at) ++ codes "audit kept\n"))
SaysKept (Svg from to) c output = HasWords output (codes "<desc id=\"b\">audit kept; ")
SaysKept (Trace tick) c output = HasWords output (codes "\"audit\":\"kept\"},")

-- what was written is the view for which the words ask, of this content as that of a kept report, and says so
pub record ShowsItIsKept (x : Viewing) (c : Content) : Type 0 where
  pub view : View
  pub words : IsView x.words view
  pub output : Text
  pub written : Appends x.sink.written x.sink.written_after output
  pub is : IsViewText view c outcomes.Kept output
  pub says : SaysKept view c output
