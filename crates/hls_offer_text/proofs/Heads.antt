-- Three lines, one after another.
use Rattle.std.proofs.Common.{◌≡◌, [], ◌∷◌, ◌++◌, append_assoc, sym, ap, ◌∙◌}
use Rattle.std.proofs.lemmas.List.{append-nil}
use Rattle.hls_text.specs.Lines.{Text}
use Rattle.hls_report_text.specs.ReportText.{with_end, ended}

pub three_lines : (out one two three : Text)
    → ((out ++ with_end one) ++ with_end two) ++ with_end three ≡ out ++ ended (one ∷ two ∷ three ∷ [])
three_lines out one two three =
    append_assoc (out ++ with_end one) (with_end two) (with_end three)
    ∙ append_assoc out (with_end one) (with_end two ++ with_end three)
    ∙ ap (λ (t : Text). out ++ (with_end one ++ (with_end two ++ t))) (sym (append-nil (with_end three)))
