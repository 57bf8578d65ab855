-- The margin of one stay, by the ticks that it has; and margins one after another.
use Rattle.std.proofs.Common.{◌≡◌, ℕ, ◌+◌, ◌-◌, ◌≤◌, List, [], ◌∷◌, ◌++◌, length, filter, take, Bool}
use Rattle.std.proofs.Common.{sym, ap, ◌∙◌, subst, cond}
use Rattle.std.specs.Prelude.{Option, Some, None, slice_get}
use Rattle.std.proofs.lemmas.Option.{slice_get_within, get_or_from_slice_get}
use Rattle.std.proofs.lemmas.Bool.{lt-ltb, le-ltb}
use Rattle.std.proofs.lemmas.List.{take_more}
use Rattle.hls_chron.specs.Ticks.{count}
use Rattle.hls_report_text.specs.Content.{Content}
use Rattle.hls_legal.specs.declared.stay.Stay.{Stay}
use Rattle.hls_legal.specs.Accounts.{end_of}
use Rattle.hls_legal.specs.Stays.{stays}
use Rattle.hls_audit_stays.specs.Found.{lasts}
use Rattle.hls_audit_stays.proofs.Lists.{filter_append, take_all}
use Rattle.hls_audit_threads.specs.Inside.StayFindings.{has_tick}
use Rattle.hls_audit_threads.proofs.Found.{ticks_lasting}
use Rattle.hls_view_margins.specs.declared.margin.Margin.{Margin}
use Rattle.hls_view_margins.specs.Margins.{AreMargins, lasting}
use Rattle.hls_view_margins.specs.Inside.Listed.{listed, IsMarginOf}

margins_append : (c : Content) (all more : List Stay) (some others : List Margin) → AreMargins c all some
    → AreMargins c more others → AreMargins c (all ++ more) (some ++ others)
margins_append c [] more [] others are rest = rest
margins_append c [] more (m ∷ some) others are rest = absurd are
margins_append c (s ∷ all) more [] others are rest = absurd are
margins_append c (s ∷ all) more (m ∷ some) others are rest =
    (are.0, margins_append c all more some others are.1 rest)

margins_one : (c : Content) (stay : Stay) (margin : Option Margin) → IsMarginOf c stay margin
    → AreMargins c (filter (has_tick c) (stay ∷ [])) (listed margin)
margins_one c stay None none =
    subst (λ (b : Bool). AreMargins c (cond b (stay ∷ []) []) []) (sym (le-ltb stay.since (end_of c stay) none)) tt
margins_one c stay (Some m) some =
    subst (λ (b : Bool). AreMargins c (cond b (stay ∷ []) []) (m ∷ [])) (sym (lt-ltb stay.since (end_of c stay) some.0))
    (some.1, tt)

pub margins_next : (c : Content) (all : List Stay) (i : ℕ) (stay : Stay) (margin : Option Margin)
    (old new : List Margin) → slice_get all i ≡ Some stay → IsMarginOf c stay margin → new ≡ old ++ listed margin
    → AreMargins c (filter (has_tick c) (take i all)) old → AreMargins c (filter (has_tick c) (take (i + 1) all)) new
margins_next c all i stay margin old new there is put are =
    let lt = slice_get_within all i stay there in
    let here = get_or_from_slice_get all i stay stay there in
    let more : filter (has_tick c) (take (i + 1) all)
    ≡ filter (has_tick c) (take i all) ++ filter (has_tick c) (stay ∷ []) =
    ap (filter (has_tick c)) (take_more all i stay lt ∙ ap (λ (s : Stay). take i all ++ s ∷ []) here)
    ∙ filter_append (has_tick c) (take i all) (stay ∷ []) in
    subst (λ (l : List Stay). AreMargins c l new) (sym more)
    (subst (AreMargins c (filter (has_tick c) (take i all) ++ filter (has_tick c) (stay ∷ []))) (sym put)
    (margins_append c (filter (has_tick c) (take i all)) (filter (has_tick c) (stay ∷ [])) old (listed margin) are
    (margins_one c stay margin is)))

pub margins_all : (c : Content) (all : List Stay) (i : ℕ) (margins : List Margin) → length all ≤ i
    → all ≡ filter lasts (stays c.answered) → AreMargins c (filter (has_tick c) (take i all)) margins
    → AreMargins c (lasting c) margins
margins_all c all i margins end e are =
    subst (λ (l : List Stay). AreMargins c l margins)
    (ap (filter (has_tick c)) (take_all all i end ∙ e) ∙ ticks_lasting c (stays c.answered)) are

-- ---- the same between other names of the same ticks

pub moved : (P : ℕ → ℕ → Type 0) (lo hi since end : ℕ) → lo ≡ since → hi ≡ end → P lo hi → P since end
moved P lo hi since end from until is = subst (λ (k : ℕ). P since k) until (subst (λ (k : ℕ). P k hi) from is)

pub moved_count : (f : ℕ → Bool) (lo hi since end : ℕ) → lo ≡ since → hi ≡ end
    → count f lo (hi - lo) ≡ count f since (end - since)
moved_count f lo hi since end from until =
    ap (λ (k : ℕ). count f k (hi - k)) from ∙ ap (λ (k : ℕ). count f since (k - since)) until
