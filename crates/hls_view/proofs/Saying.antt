-- What the view of a kept report says, view by view.
use Rattle.std.proofs.Common.{◌≡◌, ℕ, ◌∙◌, sym, ap, subst, List, [], ◌∷◌, ◌++◌, refl, codes, decimal}
use Rattle.std.specs.Prelude.{Some, None}
use Rattle.hls_text.specs.Lines.{Text}
use Rattle.hls_report_text.specs.Content.{Content}
use Rattle.hls_audit.specs.declared.auditing.Outcome.TheVariants as outcomes
use Rattle.hls_view_words.specs.declared.views.View.{View}
use Rattle.hls_view_words.specs.declared.views.View.TheVariants.{Margins, Tree, Jobs, Svg, Trace}
use Rattle.hls_view_rows.specs.Margins.{margins_text}
use Rattle.hls_view_rows.specs.Jobs.{lines_text, jobs_text}
use Rattle.hls_view_rows.specs.Trees.{tree_text}
use Rattle.hls_view_marks.specs.declared.page.Page.{Page}
use Rattle.hls_view_picture_rows.specs.declared.picture.Picture.{Picture}
use Rattle.hls_view_picture_frame.specs.Front as front
use Rattle.hls_view_picture_frame.specs.Commands.{refusal_lines}
use Rattle.hls_view_picture_rows.specs.Left.{page_of}
use Rattle.hls_view_picture.specs.Pictures.{opening_text, parts_text}
use Rattle.hls_view_trace.specs.declared.event.Trace as traces
use Rattle.hls_view_trace.specs.Traces.{head_text, trace_text}
use Rattle.hls_view.specs.Texts.{opening, opening_at, tick_line, tick_shown, IsViewText}
use Rattle.hls_view.specs.Texts.{ShowsMargins, ShowsThreads, ShowsJobs, ShowsPicture, ShowsTrace}
use Rattle.hls_view.specs.Kept.{BeginsWith, HasWords, SaysKept}
use Rattle.hls_view.proofs.Places.{begun, begins_on, begins_with_both, has_begun, has_behind, has_before}

-- ---- tables

pub margins_begin : (rest : Text) → opening (codes "margins") outcomes.Kept ++ rest
    ≡ codes "hlsview-margins 1\naudit kept\n" ++ rest
margins_begin rest = refl

jobs_begin : (rest : Text) → opening (codes "jobs") outcomes.Kept ++ rest
    ≡ codes "hlsview-jobs 1\naudit kept\n" ++ rest
jobs_begin rest = refl

margins_say : (c : Content) (output : Text) → ShowsMargins c outcomes.Kept output
    → BeginsWith output (codes "hlsview-margins 1\naudit kept\n")
margins_say c output shows =
    begun output (codes "hlsview-margins 1\naudit kept\n") (margins_text shows.margins)
    (shows.spelled ∙ margins_begin (margins_text shows.margins))

threads_say : (c : Content) (output : Text) → ShowsThreads c outcomes.Kept output
    → BeginsWith output (codes "hlsview-jobs 1\naudit kept\n")
threads_say c output shows =
    begun output (codes "hlsview-jobs 1\naudit kept\n") (lines_text shows.lines)
    (shows.spelled ∙ jobs_begin (lines_text shows.lines))

jobs_say : (c : Content) (name output : Text) → ShowsJobs c outcomes.Kept name output
    → BeginsWith output (codes "hlsview-jobs 1\naudit kept\n")
jobs_say c name output shows =
    let rest : Text = codes "thread " ++ (name ++ (10 ∷ jobs_text shows.jobs)) in
    begun output (codes "hlsview-jobs 1\naudit kept\n") rest (shows.spelled ∙ jobs_begin rest)

-- the line of the tick stands between the name and the audit
tree_begins : (line rest output : Text)
    → output ≡ (codes "hlsview-tree 1\n" ++ (line ++ codes "audit kept\n")) ++ rest
    → BeginsWith output (codes "hlsview-tree 1\n" ++ (line ++ codes "audit kept\n"))
tree_begins line rest output is = begun output (codes "hlsview-tree 1\n" ++ (line ++ codes "audit kept\n")) rest is

tree_says : (c : Content) (tick : ℕ) (output : Text)
    → output ≡ opening_at (codes "tree") c tick outcomes.Kept ++ tree_text c tick
    → BeginsWith output (codes "hlsview-tree 1\n" ++ (tick_line c tick ++ codes "audit kept\n"))
tree_says c tick output is = tree_begins (tick_line c tick) (tree_text c tick) output is

-- ---- pictures

audit_says : (verdict : Text) (threads schedulers : ℕ) → verdict ≡ codes "kept"
    → BeginsWith (front.audit_words verdict threads schedulers) (codes "audit kept; ")
unfolding front.audit_words
audit_says verdict threads schedulers is =
    begun (front.audit_words verdict threads schedulers) (codes "audit kept; ")
    (codes "threads " ++ (decimal threads ++ (codes ", schedulers " ++ (decimal schedulers ++ []))))
    (ap (λ (v : Text). front.audit_words v threads schedulers) is)

sums_say : (p : Picture) → p.verdict.items ≡ codes "kept" → BeginsWith (front.sums_line p) (codes "audit kept; ")
unfolding front.sums_line
sums_say p is = begins_on _ _ (codes "audit kept; ") (audit_says p.verdict.items p.threads p.schedulers is)

titles_say : (head sums : Text) → BeginsWith sums (codes "audit kept; ")
    → HasWords (front.titles_text head sums) (codes "<desc id=\"b\">audit kept; ")
unfolding front.titles_text
titles_say head sums it =
    let words : Text = codes "<desc id=\"b\">audit kept; " in
    has_behind (codes "<title id=\"a\">") _ words (has_behind head _ words
    (has_begun (codes "</title>\n") _ words
    (begins_with_both (codes "<desc id=\"b\">") (codes "audit kept; ") _ (begins_on sums _ (codes "audit kept; ") it))))

opening_says : (page : Page) (lines : List Text) (p : Picture) → p.verdict.items ≡ codes "kept"
    → HasWords (opening_text page lines p) (codes "<desc id=\"b\">audit kept; ")
unfolding opening_text
opening_says page lines p is =
    let words : Text = codes "<desc id=\"b\">audit kept; " in
    has_behind _ _ words (has_before (front.titles_text (front.head_line p) (front.sums_line p)) _ words
    (titles_say (front.head_line p) (front.sums_line p) (sums_say p is)))

parts_say : (page : Page) (lines : List Text) (p : Picture) → p.verdict.items ≡ codes "kept"
    → HasWords (parts_text page lines p) (codes "<desc id=\"b\">audit kept; ")
unfolding parts_text
parts_say page lines p is =
    has_before (opening_text page lines p) _ (codes "<desc id=\"b\">audit kept; ") (opening_says page lines p is)

picture_says : (c : Content) (from to : ℕ) (output : Text) → ShowsPicture c outcomes.Kept from to output
    → HasWords output (codes "<desc id=\"b\">audit kept; ")
picture_says c from to output shows =
    subst (λ (t : Text). HasWords t (codes "<desc id=\"b\">audit kept; ")) (sym shows.spelled)
    (parts_say (page_of shows.picture) (refusal_lines shows.picture.commands.items) shows.picture shows.is.verdict_is)

-- ---- traces

head_says : (horizon tick : ℕ) (verdict : Text) → verdict ≡ codes "kept"
    → HasWords (head_text horizon tick verdict) (codes "\"audit\":\"kept\"},")
unfolding head_text
head_says horizon tick verdict is =
    let words : Text = codes "\"audit\":\"kept\"}," in
    subst (λ (v : Text). HasWords (head_text horizon tick v) words) (sym is)
    (has_behind (codes "{\"displayTimeUnit\":\"ms\",\"otherData\":{\"horizon\":") _ words
    (has_behind (decimal horizon) _ words (has_behind (codes ",\"tick\":") _ words
    (has_behind (decimal tick) _ words
    (has_begun (codes ",") _ words (begun _ words (codes "\"traceEvents\":[\n") refl))))))

trace_begins : (t : traces.Trace) → t.verdict ≡ codes "kept" → HasWords (trace_text t) (codes "\"audit\":\"kept\"},")
unfolding trace_text
trace_begins t is = has_before _ _ (codes "\"audit\":\"kept\"},") (head_says t.horizon t.tick t.verdict is)

trace_says : (c : Content) (tick : ℕ) (output : Text) → ShowsTrace c outcomes.Kept tick output
    → HasWords output (codes "\"audit\":\"kept\"},")
trace_says c tick output shows =
    subst (λ (t : Text). HasWords t (codes "\"audit\":\"kept\"},")) (sym shows.spelled)
    (trace_begins shows.trace shows.is.verdict_is)

-- ---- all of them

pub says_kept : (view : View) (c : Content) (output : Text) → IsViewText view c outcomes.Kept output
    → SaysKept view c output
says_kept Margins c output is = margins_say c output is
says_kept (Jobs None) c output is = threads_say c output is
says_kept (Jobs (Some name)) c output is = jobs_say c name output is
says_kept (Tree at) c output is = tree_says c (tick_shown c at) output is
says_kept (Svg from to) c output is = picture_says c _ _ output is
says_kept (Trace tick) c output is = trace_says c _ output is
