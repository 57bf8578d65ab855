-- Texts that are cut at a byte, and texts behind words.
use Rattle.std.specs.Prelude.{ℕ, ◌+◌, ◌==◌, List, length, take, drop, Option, Some, None, option_map}
use Rattle.std.specs.Prelude.{if◌then◌else◌}
use Rattle.std.specs.List.{position}
use Rattle.std.specs.Str.{bytes_eq}
use Rattle.hls_text.specs.Lines.{Text}

-- what stands before and after the first such byte
abbrev pub cut_at : ℕ → Text → Option (Text × Text)
cut_at byte text = option_map (λ i. (take i text, drop (i + 1) text)) (position (λ b. b == byte) text)

-- what stands after these words, where the text begins with them
abbrev pub after_words : List ℕ → List ℕ → Option (List ℕ)
after_words words text =
    if bytes_eq (take (length words) text) words then Some (drop (length words) text) else None
