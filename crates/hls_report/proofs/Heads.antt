-- The first lines of a report are read.
use Rattle.std.proofs.Common.{◌≡◌, ℕ, ◌≤◌, ◌++◌, List, ◌∷◌, sym, ap, ◌∙◌, arith}
use Rattle.std.specs.Prelude.{codes, decimal, Some}
use Rattle.hls_text.specs.Lines.{Text}
use Rattle.hls_chron.specs.Ranges.{IsWithin, IsVersion, most_ticks}
use Rattle.hls_text.specs.Cuts.{after_words}
use Rattle.hls_text.specs.Decimals.{number_below}
use Rattle.hls_report_text.specs.Inside.Reading.{count_at}
use Rattle.hls_report.specs.Inside.Rests.{HeaderRest, HorizonRest, DepthRest}
use Rattle.hls_report.proofs.Sections.{first_line}
use Rattle.hls_text.proofs.Marks.{number_again}
use Rattle.hls_report_text.proofs.RefusalTexts.{count_again}
use Rattle.hls_report_text.proofs.LineTexts.{horizon_fits}

pub some_text : (a b : Text) → Some a ≡ Some b → a ≡ b
some_text a b e = cc

pub horizon_read : (v : ℕ) (line rest : Text) (n : ℕ) → IsWithin 1 (most_ticks v) n → line
    ≡ codes "horizon " ++ decimal n
    → after_words (codes "horizon ") line ≡ Some rest → count_at rest ≡ Some n
horizon_read v line rest n is e read =
    let le = horizon_fits v n is in
    let same = some_text rest (decimal n) (sym read ∙ ap (after_words (codes "horizon ")) e) in
    ap count_at same ∙ count_again n (omega arith)

pub version_read : (line rest : Text) (v : ℕ) → IsVersion v → line ≡ codes "hls-report " ++ decimal v
    → after_words (codes "hls-report ") line ≡ Some rest → number_below 3 rest ≡ Some v
version_read line rest v is e read =
    let le : v ≤ 2 = is.1 in
    let same = some_text rest (decimal v) (sym read ∙ ap (after_words (codes "hls-report ")) e) in
    ap (number_below 3) same ∙ number_again 3 v (omega arith) (omega arith)

pub depth_read : (line rest : Text) (n : ℕ) → n ≤ 6 → line ≡ codes "depth " ++ decimal n
    → after_words (codes "depth ") line ≡ Some rest → number_below 7 rest ≡ Some n
depth_read line rest n le e read =
    let same = some_text rest (decimal n) (sym read ∙ ap (after_words (codes "depth ")) e) in
    ap (number_below 7) same ∙ number_again 7 n (omega arith) (omega arith)

pub some_number : (m n : ℕ) → Some m ≡ Some n → m ≡ n
some_number m n e = cc

-- no other line may come
pub no_header : (line : Text) (lines : List Text)
    → ((v : ℕ) → IsVersion v → line ≡ codes "hls-report " ++ decimal v → ⊥) → HeaderRest (line ∷ lines) → ⊥
no_header line lines none r = none r.version r.is (ap first_line r.text)

pub no_horizon : (v : ℕ) (line : Text) (lines : List Text)
    → ((n : ℕ) → IsWithin 1 (most_ticks v) n → line ≡ codes "horizon " ++ decimal n → ⊥) → HorizonRest v (line ∷ lines)
    → ⊥
no_horizon v line lines none r = none r.horizon r.is (ap first_line r.text)

pub no_depth : (v horizon : ℕ) (line : Text) (lines : List Text)
    → ((n : ℕ) → n ≤ 6 → line ≡ codes "depth " ++ decimal n → ⊥) → DepthRest v horizon (line ∷ lines) → ⊥
no_depth v horizon line lines none r = none r.depth r.is (ap first_line r.text)
