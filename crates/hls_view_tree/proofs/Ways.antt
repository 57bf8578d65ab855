-- One way as the first part of another, name by name.
use Rattle.std.proofs.Common.{◌≡◌, ℕ, ◌+◌, ◌<◌, ◌≤◌, List, [], ◌∷◌, sym, ap, ◌∙◌, length, get_or, drop}
use Rattle.std.proofs.Math.ListN.{drop_of_length-le}
use Rattle.std.specs.Prelude.{false}
use Rattle.std.proofs.lemmas.List.{drop_more}
use Rattle.hls_text.specs.Lines.{Text}
use Rattle.hls_view_tree.specs.Activities.{begins}

-- the rest decides
abbrev pub IsLeft : (names way : List Text) → (at : ℕ) → Type 0
IsLeft names way at = begins names way ≡ begins (drop at names) (drop at way)

-- a way that is too short
pub left_short : (names way : List Text) (at : ℕ) → at < length names → length way ≤ at → IsLeft names way at
    → false ≡ begins names way
left_short names way at lt le left =
    sym (left
    ∙ ap (λ (l : List Text). begins l (drop at way)) (drop_more names at [] lt)
    ∙ ap (λ (l : List Text). begins (get_or names at [] ∷ drop (at + 1) names) l) (drop_of_length-le way le))
