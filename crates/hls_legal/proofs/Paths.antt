-- The last name of a path, by its places in a list of names.
use Rattle.std.proofs.Common.{◌≡◌, ℕ, ◌-◌, List, [], Option, map, length, get_or, slice_get, ap, ◌∙◌}
use Rattle.std.specs.Prelude.{option_map}
use Rattle.std.proofs.lemmas.Option.{slice_get-map}
use Rattle.std.proofs.lemmas.List.{length-map}
use Rattle.hls_text.specs.Lines.{Text}
use Rattle.hls_legal.specs.Schedule.{last_name}

abbrev pub last_in : List ℕ → Option ℕ
last_in places = slice_get places (length places - 1)

pub last_of_path : (names : List Text) (places : List ℕ)
    → last_name (map (λ place. get_or names place []) places)
    ≡ option_map (λ place. get_or names place []) (last_in places)
last_of_path names places =
    ap (λ n. slice_get (map (λ place. get_or names place []) places) (n - 1))
    (length-map places (λ place. get_or names place []))
    ∙ slice_get-map (λ place. get_or names place []) places (length places - 1)
