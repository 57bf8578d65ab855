-- The path of a tick.
use Rattle.std.proofs.Common.{◌≡◌, ℕ, zero, suc, ◌+◌, ◌-◌, ◌<◌, ◌≤◌, List, [], ◌∷◌}
use Rattle.std.proofs.Common.{refl, sym, ap, ◌∙◌, subst, arith}
use Rattle.std.proofs.Common.{length, get_or, take}
use Rattle.std.specs.Prelude.{Option, Some, None, Bool, true, false, ◌&&◌, nat_le, slice_get, option_map}
use Rattle.std.specs.List.{AllByRecursion}
use Rattle.hls_text.specs.Lines.{Text}
use Rattle.hls_chron.specs.Name.{IsName}
use Rattle.hls_report_text.specs.declared.stretch.Stretch.{Stretch}
use Rattle.hls_report_text.specs.declared.report.Path.{Path}
use Rattle.hls_report_text.specs.Content.{Content, path_names}
use Rattle.hls_report_text.specs.WellFormed.{Cover, IsPath, IsContent}
use Rattle.hls_legal.specs.Schedule.{has_tick, path_at, last_name}
use Rattle.hls_legal.proofs.TickLists.{path_first}
use Rattle.hls_legal.proofs.Paths.{last_of_path}

abbrev Way : Type 0
Way = Option (List Text)

-- ---- which ticks have paths, and what paths are

pub path_none : (t : ℕ) → path_at [] t ≡ None
unfolding path_at
path_none t = refl

cover_le : (from : ℕ) (last : Option Way) (ss : List Stretch) (end : ℕ) → Cover from last ss end → from ≤ end
cover_le from last [] end cover = omega (arith, cover)
cover_le from last (s ∷ ss) end cover =
    let ahead = cover.1 in
    let rest = cover_le (s.to + 1) (Some s.path) ss end cover.4 in
    omega (arith, ahead, rest)

both_true : (a b : Bool) → (a && b) ≡ true → b ≡ true
both_true true b e = e
both_true false b e = absurd (let wrong : false ≡ true = e in cc)

found_good : (from : ℕ) (last : Option Way) (ss : List Stretch) (end t : ℕ) (names : List Text)
    → Cover from last ss end → path_at ss t ≡ Some names → (t < end) × IsPath (Some names)
found_good from last [] end t names cover e =
    absurd (let wrong : None ≡ Some names = sym (path_none t) ∙ e in cc)
found_good from last (s ∷ ss) end t names cover e =
    by (has_tick t s) refl (found_good (s.to + 1) (Some s.path) ss end t names cover.4)
  where
    by : (b : Bool) → has_tick t s ≡ b → (path_at ss t ≡ Some names → (t < end) × IsPath (Some names))
        → (t < end) × IsPath (Some names)
    by true is later =
        let rest = cover_le (s.to + 1) (Some s.path) ss end cover.4 in
        let inside : t ≤ s.to = leb_le t s.to (both_true (nat_le s.from t) (nat_le t s.to) is) in
        let same : s.path ≡ Some names = sym (path_first s ss t true is) ∙ e in
        (omega (arith, rest, inside), subst IsPath same cover.2)
      where
        leb_le : (a b : ℕ) → nat_le a b ≡ true → a ≤ b
        leb_le a b le = grind (arith, le)
    by false is later = later (sym (path_first s ss t false is) ∙ e)

pub path_early : (c : Content) (t : ℕ) (names : List Text) → IsContent c → path_at c.stretches t ≡ Some names
    → t < c.horizon
path_early c t names formed e = (found_good 0 None c.stretches c.horizon t names formed.cover e).0

at_named : (names : List Text) (k : ℕ) (name : Text) → AllByRecursion IsName names → slice_get names k ≡ Some name
    → IsName name
at_named [] k name all e = absurd (cc)
at_named (n ∷ names) zero name all e = subst IsName (let same : n ≡ name = cc in same) all.0
at_named (n ∷ names) (suc k) name all e = at_named names k name all.1 e

pub path_named : (c : Content) (t : ℕ) (names : List Text) (name : Text) → IsContent c
    → path_at c.stretches t ≡ Some names → last_name names ≡ Some name → IsName name
path_named c t names name formed e last =
    at_named names (length names - 1) name (found_good 0 None c.stretches c.horizon t names formed.cover e).1.1 last

-- the name at the last place of a path
pub last_is : (names : List Text) (path : Path) (place : Option ℕ)
    → place ≡ slice_get (take path.len path.names) (length (take path.len path.names) - 1)
    → last_name (path_names names path) ≡ option_map (λ at. get_or names at []) place
last_is names path place e =
    last_of_path names (take path.len path.names) ∙ ap (option_map (λ at. get_or names at [])) (sym e)

pub no_name : (c : Content) (t : ℕ) (names : List Text) (name : Text) → IsContent c
    → path_at c.stretches t ≡ Some names → last_name names ≡ Some name → name ≡ [] → ⊥
no_name c t names name formed e last empty =
    let named : IsName [] = subst IsName empty (path_named c t names name formed e last) in
    let wrong : false ≡ true = named in cc

pub all_named : (c : Content) (t : ℕ) (names : List Text) → IsContent c → path_at c.stretches t ≡ Some names
    → AllByRecursion IsName names
all_named c t names formed e = (found_good 0 None c.stretches c.horizon t names formed.cover e).1.1
