-- What a legal report says of its schedule: who runs is ready, and each stay has its windows and its cap.
use Rattle.std.proofs.Common.{◌≡◌, ℕ, zero, suc, inl, inr, ◌+◌, ◌<◌, ◌≤◌, List, [], ◌∷◌, Bool, true, false}
use Rattle.std.proofs.Common.{cond, slice_get, refl, sym, ap, ◌∙◌, subst, arith}
use Rattle.std.specs.Prelude.{Option, Some, None, find, nat_le, option_and_then}
use Rattle.std.specs.List.{AllByRecursion}
use Rattle.std.proofs.lemmas.Bool.{cases_lt, lt-leb, and_right}
use Rattle.std.proofs.lemmas.List.Elements.{recursion_from_All}
use Rattle.hls_text.specs.Lines.{Text}
use Rattle.hls_guarantee.proofs.Promises.{keeps_cap-part}
use Rattle.hls_report_text.specs.declared.stretch.Stretch.{Stretch}
use Rattle.hls_report_text.specs.Content.{Content}
use Rattle.hls_report_text.specs.WellFormed.{Cover, IsContent}
use Rattle.hls_machine.specs.Hierarchy.{start}
use Rattle.hls_machine.specs.Steps.{Step}
use Rattle.hls_machine.specs.Legal.{IsLegal}
use Rattle.hls_machine.proofs.Supply as supply
use Rattle.hls_legal.specs.declared.stay.Stay.{Stay}
use Rattle.hls_legal.specs.Schedule.{has_tick, path_at, last_name, is_name, is_served}
use Rattle.hls_legal.specs.Stays.{stays}
use Rattle.hls_legal.specs.Accounts.{end_of}
use Rattle.hls_legal.specs.Tells.{Tells}
use Rattle.hls_legal.specs.Agrees.{IsKeptBy}
use Rattle.hls_legal.proofs.Rousings.{names_same}
use Rattle.hls_legal.proofs.Told.{is_served-at}
use Rattle.hls_legal.proofs.Agreements.{ran_ready}
use Rattle.hls_legal.proofs.KeepingAccounts.{stays_kept}
use Rattle.hls_audit_clauses.specs.Clauses.{RunsUnready, IsStarved, IsOverCap}

-- ---- from the horizon on there is no path

cover_le : (from : ℕ) (last : Option (Option (List Text))) (stretches : List Stretch) (end : ℕ)
    → Cover from last stretches end → from ≤ end
cover_le from last [] end cover = omega (arith, cover)
cover_le from last (s ∷ stretches) end cover =
    let rest = cover_le (s.to + 1) (Some s.path) stretches end cover.4 in
    let ahead = cover.1 in
    omega arith

no_stretch : (from : ℕ) (last : Option (Option (List Text))) (stretches : List Stretch) (end t : ℕ)
    → Cover from last stretches end → end ≤ t → find (has_tick t) stretches ≡ None
no_stretch from last [] end t cover le = refl
no_stretch from last (s ∷ stretches) end t cover le =
    let high = cover_le (s.to + 1) (Some s.path) stretches end cover.4 in
    let off : has_tick t s ≡ false =
    and_right (nat_le s.from t) (nat_le t s.to) (lt-leb t s.to (omega arith)) in
    ap (λ (b : Bool). cond b (Some s) (find (has_tick t) stretches)) off
    ∙ no_stretch (s.to + 1) (Some s.path) stretches end t cover.4 le

no_path : (c : Content) → IsContent c → (t : ℕ) → c.horizon ≤ t → path_at c.stretches t ≡ None
unfolding path_at
no_path c is t le =
    ap (option_and_then (λ (s : Stretch). s.path)) (no_stretch 0 None c.stretches c.horizon t is.cover le)

pub path_early : (c : Content) → IsContent c → (t : ℕ) (names : List Text) → path_at c.stretches t ≡ Some names
    → t < c.horizon
path_early c is t names e = elim (cases_lt t c.horizon) [
  | inl lt ↦ lt
  | inr le ↦ (let wrong : None ≡ Some names = sym (no_path c is t le) ∙ e in absurd (cc))
]

-- ---- who runs is ready

pub ready_kept : (c : Content) (steps : List Step) → IsContent c → IsLegal start steps → Tells c steps → (t : ℕ)
    → ¬ RunsUnready c t
ready_kept c steps is legal tells t f =
    let served : is_served c.stretches f.name t ≡ true =
    is_served-at c f.name t
    ∙ ap (λ (p : Option (List Text)). is_name f.name (option_and_then last_name p)) f.path
    ∙ ap (is_name f.name) f.thread
    ∙ names_same f.name f.name refl in
    let lt = path_early c is t f.names f.path in
    let wrong : true ≡ false = sym (ran_ready c steps legal tells t f.name lt served) ∙ f.unready in
    cc

-- ---- stays

each_at : {X : Type 0} (P : X → Type 0) (xs : List X) (at : ℕ) (x : X) → AllByRecursion P xs
    → slice_get xs at ≡ Some x → P x
each_at P [] at x all e = absurd (cc)
each_at P (y ∷ xs) zero x all e = subst P (let same : y ≡ x = cc in same) all.0
each_at P (y ∷ xs) (suc at) x all e = each_at P xs at x all.1 e

stay_kept : (c : Content) (steps : List Step) → IsLegal start steps → Tells c steps → (stay : Stay) (number : ℕ)
    → slice_get (stays c.answered) number ≡ Some stay → IsKeptBy c stay
stay_kept c steps legal tells stay number e =
    each_at (IsKeptBy c) (stays c.answered) number stay
    (recursion_from_All (IsKeptBy c) (stays c.answered)
    (stays_kept c steps legal tells (supply.stays_kept steps legal))) e

pub supplied_kept : (c : Content) (steps : List Step) → IsLegal start steps → Tells c steps → (t : ℕ)
    → ¬ IsStarved c t
supplied_kept c steps legal tells t f =
    f.short ((stay_kept c steps legal tells f.stay f.now.number f.now.listed).windows f.from (t + 1)
    f.window.window)

pub capped_kept : (c : Content) (steps : List Step) → IsLegal start steps → Tells c steps → (t : ℕ)
    → ¬ IsOverCap c t
capped_kept c steps legal tells t f =
    let lt = f.now.until in
    f.over (keeps_cap-part f.stay.kept (is_served c.stretches f.stay.name) f.stay.since (end_of c f.stay)
    f.stay.since (t + 1) (omega arith) (omega arith)
    (stay_kept c steps legal tells f.stay f.now.number f.now.listed).cap)
