-- Stretches that cover the ticks so far, and one tick more.
use Rattle.std.proofs.Common.{◌≡◌, ℕ, ◌+◌, ◌<◌, ◌≤◌, Bool, true, false, List, [], ◌∷◌, ◌++◌}
use Rattle.std.proofs.Common.{inl, inr, cond, refl, sym, ap, ◌∙◌, arith}
use Rattle.std.specs.Prelude.{Option, Some, None, find, option_and_then}
use Rattle.std.proofs.lemmas.Bool.{cases_lt}
use Rattle.std.proofs.lemmas.Bool.Decides.{nat_tests}
use Rattle.hls_text.specs.Lines.{Text}
use Rattle.hls_report_text.specs.declared.stretch.Stretch.{Stretch}
use Rattle.hls_report_text.specs.WellFormed.{Cover, IsPath}
use Rattle.hls_legal.specs.Schedule.{has_tick, path_at}

abbrev pub WayOf : Type 0
WayOf = Option (List Text)

abbrev pub stretch : (from to : ℕ) → WayOf → Stretch
stretch from to path = record { from = from; to = to; path = path }

pub cover_le : (from end : ℕ) (last : Option WayOf) (ss : List Stretch) → Cover from last ss end → from ≤ end
cover_le from end last [] c = omega (arith, c)
cover_le from end last (s ∷ ss) c =
    let le = cover_le (s.to + 1) end (Some s.path) ss c.4 in
    let forward = c.1 in omega (arith, le, forward)

-- the path of the last stretch, or the one before them
abbrev pub last_way : Option WayOf → List Stretch → Option WayOf
last_way last [] = last
last_way last (s ∷ ss) = last_way (Some s.path) ss

pub last_way_is : (last : Option WayOf) (ss : List Stretch) (s : Stretch)
    → last_way last (ss ++ s ∷ []) ≡ Some s.path
last_way_is last [] s = refl
last_way_is last (r ∷ ss) s = last_way_is (Some r.path) ss s

-- a stretch may follow others
pub record Follows (last : Option WayOf) (ss : List Stretch) (s : Stretch) : Type 0 where
  pub forward : s.from ≤ s.to
  pub path : IsPath s.path
  pub other : last_way last ss ≡ Some s.path → ⊥

pub cover_put : (from : ℕ) (last : Option WayOf) (ss : List Stretch) (s : Stretch) → Cover from last ss s.from
    → Follows last ss s → Cover from last (ss ++ s ∷ []) (s.to + 1)
cover_put from last [] s c f =
    (sym c, let forward = f.forward in omega (arith, c, forward), f.path, f.other, refl)
cover_put from last (r ∷ ss) s c f = (
  c.0,
  c.1,
  c.2,
  c.3,
  cover_put (r.to + 1) (Some r.path) ss s c.4
      (record { forward = f.forward; path = f.path; other = f.other }),
)

-- the last stretch is one that may follow
pub record Front (from : ℕ) (last : Option WayOf) (ss : List Stretch) (s : Stretch) (end : ℕ) : Type 0 where
  pub before : Cover from last ss s.from
  pub follows : Follows last ss s
  pub ends : s.to + 1 ≡ end

pub cover_front : (from end : ℕ) (last : Option WayOf) (ss : List Stretch) (s : Stretch)
    → Cover from last (ss ++ s ∷ []) end → Front from last ss s end
cover_front from end last [] s c = record {
  before = sym c.0;
  follows = record {
    forward = let start = c.0 in let forward = c.1 in omega (arith, start, forward);
    path = c.2;
    other = c.3;
  };
  ends = c.4;
}
cover_front from end last (r ∷ ss) s c =
    let f = cover_front (r.to + 1) end (Some r.path) ss s c.4 in
    record {
      before = (c.0, c.1, c.2, c.3, f.before);
      follows = record { forward = f.follows.forward; path = f.follows.path; other = f.follows.other };
      ends = f.ends;
    }

-- ---- the path of a tick

pub path_cons : (s : Stretch) (ss : List Stretch) (t : ℕ)
    → path_at (s ∷ ss) t ≡ cond (has_tick t s) s.path (path_at ss t)
unfolding path_at
path_cons s ss t =
    elim (has_tick t s) as (λ b. option_and_then (λ (r : Stretch). r.path)
    (cond b (Some s) (find (has_tick t) ss))
    ≡ cond b s.path (option_and_then (λ (r : Stretch). r.path) (find (has_tick t) ss)))
    [ true ↦ refl | false ↦ refl ]

tick_in : (t : ℕ) (s : Stretch) → s.from ≤ t → t ≤ s.to → has_tick t s ≡ true
tick_in t s from to = grind (arith, nat_tests)

tick_past : (t : ℕ) (s : Stretch) → s.to < t → has_tick t s ≡ false
tick_past t s past = grind (arith, nat_tests)

past_tick : (t : ℕ) (s : Stretch) → has_tick t s ≡ false → s.from ≤ t → s.to < t
past_tick t s e from = grind (arith, nat_tests)

-- ticks before the last stretch have the paths that they had
pub path_before : (from t : ℕ) (last : Option WayOf) (ss : List Stretch) (s : Stretch)
    → Cover from last ss s.from
    → from ≤ t → t < s.from → path_at (ss ++ s ∷ []) t ≡ path_at ss t
path_before from t last [] s c le lt = absurd (omega (arith, c, le, lt))
path_before from t last (r ∷ ss) s c le lt =
    path_cons r (ss ++ s ∷ []) t
    ∙ by_test (has_tick t r) refl (λ past. path_before (r.to + 1) t (Some r.path) ss s c.4 past lt)
    ∙ sym (path_cons r ss t)
  where
    by_test : (b : Bool) → has_tick t r ≡ b
        → (r.to + 1 ≤ t → path_at (ss ++ s ∷ []) t ≡ path_at ss t)
        → cond b r.path (path_at (ss ++ s ∷ []) t) ≡ cond b r.path (path_at ss t)
    by_test true e more = refl
    by_test false e more =
        let start = c.0 in
        let past = past_tick t r e (omega (arith, start, le)) in more (omega (arith, past))

-- the ticks of the last stretch have its path
pub path_in : (from t : ℕ) (last : Option WayOf) (ss : List Stretch) (s : Stretch) → Cover from last ss s.from
    → s.from ≤ t → t ≤ s.to → path_at (ss ++ s ∷ []) t ≡ s.path
path_in from t last [] s c le to =
    path_cons s [] t ∙ ap (λ (b : Bool). cond b s.path (path_at [] t)) (tick_in t s le to)
path_in from t last (r ∷ ss) s c le to =
    let more = cover_le (r.to + 1) s.from (Some r.path) ss c.4 in
    path_cons r (ss ++ s ∷ []) t
    ∙ ap (λ (b : Bool). cond b r.path (path_at (ss ++ s ∷ []) t)) (tick_past t r (omega (arith, more, le)))
    ∙ path_in (r.to + 1) t (Some r.path) ss s c.4 le to

-- ---- one tick more

-- the ticks so far have the paths that they had, and the present one has this path
pub record IsOneMore (old new : List Stretch) (now : ℕ) (path : WayOf) : Type 0 where
  pub cover : Cover 0 None new (now + 1)
  pub before : (t : ℕ) → t < now → path_at new t ≡ path_at old t
  pub present : path_at new now ≡ path

pub one_new : (ss : List Stretch) (now : ℕ) (path : WayOf) → Cover 0 None ss now → IsPath path
    → (last_way None ss ≡ Some path → ⊥) → IsOneMore ss (ss ++ stretch now now path ∷ []) now path
one_new ss now path c is other = record {
  cover = cover_put 0 None ss (stretch now now path) c
      (record { forward = omega arith; path = is; other = other });
  before = λ t lt. path_before 0 t None ss (stretch now now path) c (omega arith) lt;
  present = path_in 0 now None ss (stretch now now path) c (omega arith) (omega arith);
}

pub one_longer : (ss : List Stretch) (s : Stretch) (now : ℕ) → Cover 0 None (ss ++ s ∷ []) now
    → IsOneMore (ss ++ s ∷ []) (ss ++ stretch s.from now s.path ∷ []) now s.path
one_longer ss s now c =
    let f : Front 0 None ss s now = cover_front 0 now None ss s c in
    let forward : s.from ≤ s.to = f.follows.forward in
    let ends : s.to + 1 ≡ now = f.ends in
    let longer : Stretch = stretch s.from now s.path in
    let before : (t : ℕ) → t < now → path_at (ss ++ longer ∷ []) t ≡ path_at (ss ++ s ∷ []) t = λ t lt.
    (elim (cases_lt t s.from) [
      | inl less ↦ path_before 0 t None ss longer f.before (omega arith) less
          ∙ sym (path_before 0 t None ss s f.before (omega arith) less)
      | inr more ↦ path_in 0 t None ss longer f.before more (omega arith)
          ∙ sym (path_in 0 t None ss s f.before more (omega (arith, ends, lt)))
    ]) in
    record {
      cover = cover_put 0 None ss longer f.before
          (record { forward = omega arith; path = f.follows.path; other = f.follows.other });
      before = before;
      present = path_in 0 now None ss longer f.before (omega arith) (omega arith);
    }
