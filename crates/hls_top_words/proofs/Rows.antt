-- The first value of an argument, by the rows of a parse.
use Rattle.std.proofs.Common.{◌≡◌, ℕ, List, [], ◌∷◌, Option, Some, None, true, false, map, slice_get, cond, refl, sym}
use Rattle.std.proofs.Common.{ap, ◌∙◌, ◌<◌, ◌^◌}
use Rattle.std.specs.Prelude.{find, option_map, option_and_then, decimal, IfSome}
use Rattle.std.specs.Str.{bytes_eq}
use Rattle.std.proofs.lemmas.Option.{slice_get-map}
use Rattle.clap.specs.Facts.{Entry}
use Rattle.clap.specs.Walk.{row_of}
use Rattle.clap.specs.Words.{Row, Text, first_of, first_value, rows_of}
use Rattle.clap.specs.declared.parser.matches.Found.{Found}
use Rattle.hls_top_words.specs.Inside.Shapes.{TellsNumber}

value_in : (entries : List Entry) (id : Text)
    → option_and_then (λ (r : Row). slice_get r.values 0) (find (λ (r : Row). bytes_eq r.id id) (map row_of entries))
    ≡ option_and_then (λ a. option_map (λ s. s.now) (slice_get a.vals.items 0))
    (option_map (λ (e : Entry). e.1) (find (λ (e : Entry). bytes_eq e.0.now id) entries))
value_in [] id = refl
value_in (entry ∷ entries) id =
    elim (bytes_eq entry.0.now id) as (λ b.
    option_and_then (λ (r : Row). slice_get r.values 0)
    (cond b (Some (row_of entry)) (find (λ (r : Row). bytes_eq r.id id) (map row_of entries)))
    ≡ option_and_then (λ a. option_map (λ s. s.now) (slice_get a.vals.items 0))
    (option_map (λ (e : Entry). e.1) (cond b (Some entry) (find (λ (e : Entry). bytes_eq e.0.now id) entries))))
    [ true ↦ slice_get-map (λ s. s.now) entry.1.vals.items 0 | false ↦ value_in entries id ]

pub first_of-rows : (found : Found) (id : Text) → first_of id (rows_of found) ≡ first_value found id
first_of-rows found id = value_in found.entries.items id

some_same : (one two : Text) → Some one ≡ Some two → one ≡ two
some_same one two e = cc

none_some : (one : Text) → None ≡ Some one → ⊥
none_some one e = cc

pub told_one : (result : Option ℕ) (text : Text) (found : Option Text) → Some text ≡ found
    → IfSome result (λ number. (number < 2 ^ 32) × (text ≡ decimal number)) → IfSome result (TellsNumber found)
told_one None text found is none = none
told_one (Some number) text found is (small, spelled) = (small, sym is ∙ ap (λ t. Some t) spelled)

pub none_told : (text : Text) (found : Option Text) → Some text ≡ found
    → ((number : ℕ) → number < 2 ^ 32 → text ≡ decimal number → ⊥) → (number : ℕ) → ¬ TellsNumber found number
none_told text found is none number (small, also) = none number small (some_same _ _ (is ∙ also))

pub not_told : (found : Option Text) → None ≡ found → (number : ℕ) → ¬ TellsNumber found number
not_told found is number (small, also) = none_some _ (is ∙ also)
