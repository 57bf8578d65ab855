-- The words on threads, as they are told.
use Rattle.std.proofs.Common.{◌≡◌, ℕ, ◌+◌, ◌==◌, List, [], ◌∷◌, true, false, zero, suc, refl, sym, ap, ◌∙◌}
use Rattle.std.proofs.Common.{drop, get_or, subst}
use Rattle.std.specs.Prelude.{Option, Some, None, slice_get}
use Rattle.std.specs.Str.{bytes_eq}
use Rattle.std.proofs.lemmas.Bool.{eqb-true}
use Rattle.std.proofs.lemmas.Option.{get_or_from_slice_get}
use Rattle.std.proofs.lemmas.Slice.Eq.{bytes_eq-Decides}
use Rattle.hls_text.specs.Lines.{Text}
use Rattle.hls_report_text.specs.Content.{Content}
use Rattle.hls_report_text.specs.WellFormed.{IsContent}
use Rattle.hls_view_jobs.specs.declared.job.Word.{Word}
use Rattle.hls_view_jobs.specs.Words.{words_on}
use Rattle.hls_view_signs.specs.declared.event.Node.{Node}
use Rattle.hls_view_signs.specs.declared.heard.Heard.{Heard}
use Rattle.hls_view_signs.specs.Inside.Words.{AreEarly, AreRising}
use Rattle.hls_view_signs.specs.Inside.Heard.{IsHeard, AreHeard, is_of_node, IsHeardAt}
use Rattle.hls_view_signs.proofs.Tests.{first_of_two, second_of_two}
use Rattle.hls_view_signs.proofs.DropLaws.{early_behind, rising_behind}

same_bytes : (xs ys : Text) → bytes_eq xs ys ≡ true → xs ≡ ys
same_bytes xs ys on = (bytes_eq-Decides xs ys).0 on

one_of : (c : Content) (all : List Heard) (place : ℕ) (h : Heard) → AreHeard c all → slice_get all place ≡ Some h
    → IsHeard c h
one_of c [] place h are there = absurd (cc)
one_of c (x ∷ all) zero h are there = let same : x ≡ h = cc in subst (IsHeard c) same are.0
one_of c (x ∷ all) (suc place) h are there = one_of c all place h are.1 there

found_if : (c : Content) (all : List Heard) (node : Node) (place : ℕ) (got : Option Heard) → AreHeard c all
    → slice_get all place ≡ got → is_of_node node got ≡ true → IsHeardAt c all node place
found_if c all node place None are is on = absurd (let no : false ≡ true = on in cc)
found_if c all node place (Some h) are is on =
    let born : h.born ≡ node.standing.born =
    eqb-true h.born node.standing.born
    (first_of_two (h.born == node.standing.born) (bytes_eq h.name node.label.name) on) in
    let name : h.name ≡ node.label.name =
    same_bytes h.name node.label.name
    (second_of_two (h.born == node.standing.born) (bytes_eq h.name node.label.name) on) in
    record {
      heard = h;
      there = is;
      words = one_of c all place h are is ∙ ap (λ (n : Text). words_on c.horizon n (drop (h.born + 1) c.answered)) name
          ∙ ap (λ (n : ℕ). words_on c.horizon node.label.name (drop (n + 1) c.answered)) born;
    }

-- they stand at a place where those of such a thread do
pub found_at : (c : Content) (all : List Heard) (node : Node) (place : ℕ) → AreHeard c all
    → is_of_node node (slice_get all place) ≡ true → IsHeardAt c all node place
found_at c all node place are on = found_if c all node place (slice_get all place) are refl on

-- those that are read there
pub read_at : (c : Content) (all : List Heard) (node : Node) (place : ℕ) (h : Heard) → IsHeardAt c all node place
    → h ≡ get_or all place h
    → h.words.items ≡ words_on c.horizon node.label.name (drop (node.standing.born + 1) c.answered)
read_at c all node place h at is =
    ap (λ (x : Heard). x.words.items) (is ∙ get_or_from_slice_get all place at.heard h at.there) ∙ at.words

pub read_early : (c : Content) (node : Node) (ws : List Word) → IsContent c
    → ws ≡ words_on c.horizon node.label.name (drop (node.standing.born + 1) c.answered) → AreEarly c.horizon ws
read_early c node ws formed is =
    subst (AreEarly c.horizon) (sym is) (early_behind c node.label.name (node.standing.born + 1) formed)

pub read_rising : (c : Content) (node : Node) (ws : List Word) → IsContent c
    → ws ≡ words_on c.horizon node.label.name (drop (node.standing.born + 1) c.answered) → AreRising ws
read_rising c node ws formed is =
    subst AreRising (sym is) (rising_behind c node.label.name (node.standing.born + 1) formed)
