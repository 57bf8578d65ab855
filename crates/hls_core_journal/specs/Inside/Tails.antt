-- Texts as they are kept: one behind the other, with where each lies.
use Rattle.std.specs.Prelude.{ℕ, ◌≤◌, List, All, map, length, slice_range}
use Rattle.hls_text.specs.Lines.{Text}
use Rattle.hls_core_journal.specs.declared.tails.Part.{Part}

abbrev pub text_at : List ℕ → Part → Text
text_at bytes part = slice_range bytes part.from part.to

abbrev pub texts_by : List ℕ → List Part → List Text
texts_by bytes parts = map (text_at bytes) parts

-- it lies among so many bytes
pub record IsPart (count : ℕ) (part : Part) : Type 0 where
  pub rising : part.from ≤ part.to
  pub within : part.to ≤ count

abbrev pub AreParts : List ℕ → List Part → Type 0
AreParts bytes parts = All (λ (part : Part). IsPart (length bytes) part) parts
