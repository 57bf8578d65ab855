-- The labels of a member's seats, port by port.
use Rattle.std.proofs.Common.{◌≡◌, ℕ, ◌+◌, ◌<◌, ◌≤◌, List, ◌∷◌, ◌++◌, sym, ap, ◌∙◌, subst}
use Rattle.std.proofs.Common.{length, get_or, drop}
use Rattle.std.specs.Prelude.{Option}
use Rattle.std.proofs.Math.ListN.{drop_of_length-le}
use Rattle.std.proofs.lemmas.List.{append-nil, append_assoc, drop_more}
use Rattle.hls_text.specs.Lines.{Text}
use Rattle.hls_scenario.specs.declared.scenario.Perch.{Perch}
use Rattle.hls_audit_clauses.specs.declared.member.Member.{Member}
use Rattle.hls_view_tale.specs.declared.label.Label.{Label}
use Rattle.hls_view_tale.specs.Places.{label_if, labels_from}

-- these labels, and those of the ports that are still to come, are the whole
abbrev pub AreSoFar : (m : Member) (above : Option Text) (port : ℕ) (perches : List Perch) (items whole : List Label)
    → Type 0
AreSoFar m above port perches items whole = items ++ labels_from m above port (drop port perches) ≡ whole

pub labels_more : (m : Member) (above : Option Text) (port : ℕ) (perches : List Perch) (perch : Perch)
    (items more whole : List Label) → port < length perches → perch ≡ get_or perches port perch
    → more ≡ items ++ label_if m above port perch → AreSoFar m above port perches items whole
    → AreSoFar m above (port + 1) perches more whole
labels_more m above port perches perch items more whole lt is new are =
    let rest = labels_from m above (port + 1) (drop (port + 1) perches) in
    let here : drop port perches ≡ perch ∷ drop (port + 1) perches =
    drop_more perches port perch lt ∙ ap (λ (p : Perch). p ∷ drop (port + 1) perches) (sym is) in
    ap (λ (l : List Label). l ++ rest) new
    ∙ append_assoc items (label_if m above port perch) rest
    ∙ ap (λ (l : List Perch). items ++ labels_from m above port l) (sym here)
    ∙ are

pub labels_end : (m : Member) (above : Option Text) (port : ℕ) (perches : List Perch) (items whole : List Label)
    → length perches ≤ port → AreSoFar m above port perches items whole → items ≡ whole
labels_end m above port perches items whole le are =
    sym (append-nil items)
    ∙ subst (λ (l : List Perch). items ++ labels_from m above port l ≡ whole) (drop_of_length-le perches le) are
