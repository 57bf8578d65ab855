-- An index of names.
use Rattle.std.specs.Prelude.{◌≡◌, ℕ, List, Option}
use Rattle.std.specs.Str.{bytes_eq}
use Rattle.indexmap.specs.IndexMap.{get, spare}
use Rattle.hls_text.specs.Lines.{Text}
use Rattle.hls_audit_clauses.specs.declared.member.Member.{Member}
use Rattle.hls_audit_clauses.specs.Names.{member_of}
use Rattle.hls_audit.specs.declared.known.Known.{Known}

-- who has a name by the index, and room for more names
abbrev pub known_as : Known → (name : Text) → Option Member
known_as known name = get bytes_eq known.members name

abbrev pub spare_of : Known → ℕ
spare_of known = spare known.members

-- the index finds for each name who has it first in a tree
abbrev pub IsIndex : Known → List Member → Type 0
IsIndex known tree = (name : Text) → known_as known name ≡ member_of tree name
