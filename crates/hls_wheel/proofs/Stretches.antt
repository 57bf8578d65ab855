-- The owner of the places, and for how long it stays, some ticks later.
use Rattle.std.proofs.Common.{◌≡◌, ◌≢◌, ℕ, zero, suc, ◌+◌, ◌-◌, ◌%◌, ◌<◌, ◌≤◌, Some, None, Bool, true, false, refl}
use Rattle.std.proofs.Common.{[], sym, ap, ◌∙◌, ◌^◌, arith, inl, inr, subst}
use Rattle.std.specs.Prelude.{List, Option, ◌==◌, if◌then◌else◌, replicate, length, slice_set, slice_index_or}
use Rattle.std.proofs.Math.Nat.{mod-lt}
use Rattle.std.proofs.lemmas.Bool.{cases_lt, cases_eq, eq-eqb}
use Rattle.std.proofs.lemmas.List.{get_or-replicate, get_or_past, length-replicate, get_or-set_same, get_or-set_other}
use Rattle.hls_chron.specs.Ledger.{Ledger, now_of}
use Rattle.hls_chron.specs.Kinds.{frame_of}
use Rattle.hls_chron.specs.declared.plain.Kind.TheVariants as kinds
use Rattle.hls_kinds.specs.Asks.{slot_asks}
use Rattle.hls_kinds.specs.Frames.{owner_in}
use Rattle.hls_kinds.specs.Stands.{always, same_slot, owned_for}
use Rattle.hls_sched.specs.Seen.{Seen, IsConfigured, config_of, leapt}
use Rattle.hls_box.specs.Inside.Sound.{IsSound}
use Rattle.hls_wheel.specs.declared.stretch.Run.{Run}
use Rattle.hls_wheel.specs.declared.stretch.Stretch.{Stretch}
use Rattle.hls_wheel.specs.Owners.{IsRun, AreRuns, unknown, IsStretch, IsTable, never, where_asking, choice_of}
use Rattle.hls_wheel.proofs.Owning.{owned_none, owned_more, owned_first, owned_same, found, round_again, ranges_here}
use Rattle.hls_wheel.proofs.Owning.{now_leapt}
use Rattle.hls_wheel.proofs.Seating.{owner_of_table}

same_itself : (slot : Option ℕ) → same_slot slot slot ≡ true
same_itself None = refl
same_itself (Some slot) = eq-eqb slot slot refl

-- none of n ticks has another owner
pub all_alike : (owner : ℕ → Option ℕ) (frame now n : ℕ)
    → ((k : ℕ) → k < n → owner ((now + k) % frame) ≡ owner (now % frame))
    → owned_for owner frame now n ≡ always
all_alike owner frame now zero alike = owned_none owner frame now
all_alike owner frame now (suc n) alike =
    let before : owned_for owner frame now n ≡ always =
    all_alike owner frame now n (λ k lt. alike k (omega (arith, lt))) in
    owned_more owner frame now n ∙ rw (before, alike n (omega arith), same_itself (owner (now % frame))) refl

-- the tick that is found has another one
differs_step : (same_at : ℕ → Bool) (n before : ℕ) (none same : Bool) → same_at n ≡ same
    → (before ≢ always → same_at before ≡ false)
    → (let next : ℕ = if none then (if same then always else n) else before in next ≢ always → same_at next ≡ false)
differs_step same_at n before true true here first = λ other. absurd (other refl)
differs_step same_at n before true false here first = λ other. here
differs_step same_at n before false same here first = first

differs : (owner : ℕ → Option ℕ) (frame now n : ℕ) → owned_for owner frame now n ≢ always
    → same_slot (owner ((now + owned_for owner frame now n) % frame)) (owner (now % frame)) ≡ false
differs owner frame now zero = λ other. absurd (other (owned_none owner frame now))
differs owner frame now (suc n) =
    let same_at = λ (k : ℕ). same_slot (owner ((now + k) % frame)) (owner (now % frame)) in
    subst (λ v. v ≢ always → same_at v ≡ false) (sym (owned_more owner frame now n))
    (differs_step same_at n (owned_for owner frame now n) (owned_for owner frame now n == always) (same_at n) refl
    (differs owner frame now n))

further : (now k j : ℕ) → (now + k) + j ≡ now + (k + j)
further now k j = omega arith

-- within a stretch
owner_within : (owner : ℕ → Option ℕ) (frame now k : ℕ) → frame ≤ 1000 → owned_for owner frame now frame ≢ always
    → k < owned_for owner frame now frame → owner ((now + k) % frame) ≡ owner (now % frame)
owner_within owner frame now k few other less =
    let lt = found owner frame now frame other in
    owned_same owner frame now frame k few (omega (arith, lt, less)) less

owned_within : (owner : ℕ → Option ℕ) (frame now k : ℕ) → frame ≤ 1000 → owned_for owner frame now frame ≢ always
    → k < owned_for owner frame now frame
    → owned_for owner frame now frame - k ≡ owned_for owner frame (now + k) frame
owned_within owner frame now k few other less =
    let all = owned_for owner frame now frame in
    let lt : all < frame = found owner frame now frame other in
    let here = owner_within owner frame now k few other less in
    let alike = all_alike owner frame (now + k) (all - k) (λ j before.
    ap (λ tick. owner (tick % frame)) (further now k j)
    ∙ owner_within owner frame now (k + j) few other (omega (arith, before, less)) ∙ sym here) in
    let end : now + all ≡ (now + k) + (all - k) = omega (arith, less) in
    owned_first owner frame (now + k) (all - k) false (owner ((now + all) % frame)) (owner (now % frame)) alike
    (omega (arith, lt)) few (sym (differs owner frame now frame other)) refl (ap (λ tick. owner (tick % frame)) end)
    (sym here)

-- where the owner is always the same
owner_always : (owner : ℕ → Option ℕ) (frame now k : ℕ) → 0 < frame → frame ≤ 1000
    → owned_for owner frame now frame ≡ always → owner ((now + k) % frame) ≡ owner (now % frame)
owner_always owner frame now k some few all =
    let lt = mod-lt k some in
    ap owner (round_again frame now k)
    ∙ owned_same owner frame now frame (k % frame) few lt (rw all (omega (arith, lt, few)))

owned_always : (owner : ℕ → Option ℕ) (frame now k : ℕ) → 0 < frame → frame ≤ 1000
    → owned_for owner frame now frame ≡ always → owned_for owner frame (now + k) frame ≡ always
owned_always owner frame now k some few all = all_alike owner frame (now + k) frame (λ j lt.
    ap (λ tick. owner (tick % frame)) (further now k j) ∙ owner_always owner frame now (k + j) some few all
    ∙ sym (owner_always owner frame now k some few all))

-- ticks of one place
owned_alike : (owner : ℕ → Option ℕ) (frame now other n : ℕ) → owner (now % frame) ≡ owner (other % frame)
    → ((k : ℕ) → owner ((now + k) % frame) ≡ owner ((other + k) % frame))
    → owned_for owner frame now n ≡ owned_for owner frame other n
owned_alike owner frame now other zero first alike = owned_none owner frame now ∙ sym (owned_none owner frame other)
owned_alike owner frame now other (suc n) first alike =
    owned_more owner frame now n ∙ rw (owned_alike owner frame now other n first alike, alike n, first) refl
    ∙ sym (owned_more owner frame other n)

pub same_round : (frame now k : ℕ) → (now + k) % frame ≡ (now % frame + k) % frame
same_round frame now k =
    let before : now + k ≡ k + now = omega arith in
    let after : k + now % frame ≡ now % frame + k = omega arith in
    ap (λ n. n % frame) before ∙ round_again frame k now ∙ ap (λ n. n % frame) after

pub owned_round : (owner : ℕ → Option ℕ) (frame now n : ℕ)
    → owned_for owner frame now n ≡ owned_for owner frame (now % frame) n
owned_round owner frame now n =
    let none : now + 0 ≡ now = omega arith in
    let none_there : now % frame + 0 ≡ now % frame = omega arith in
    let here : now % frame ≡ (now % frame) % frame =
    ap (λ k. k % frame) (sym none) ∙ same_round frame now 0 ∙ ap (λ k. k % frame) none_there in
    owned_alike owner frame now (now % frame) n (ap owner here) (λ k. ap owner (same_round frame now k))

-- the stretch some ticks later, while it lasts
lasts_always : (owner : ℕ → Option ℕ) (frame before now : ℕ) → 0 < frame → frame ≤ 1000 → before ≤ now
    → owned_for owner frame before frame ≡ always
    → (owner (before % frame) ≡ owner (now % frame)) × (owned_for owner frame now frame ≡ always)
lasts_always owner frame before now some few le all =
    let later : before + (now - before) ≡ now = omega (arith, le) in (
      sym (subst (λ n. owner (n % frame) ≡ owner (before % frame)) later
          (owner_always owner frame before (now - before) some few all)),
      subst (λ n. owned_for owner frame n frame ≡ always) later
          (owned_always owner frame before (now - before) some few all),
    )

lasts_within : (owner : ℕ → Option ℕ) (frame before now : ℕ) → frame ≤ 1000 → before ≤ now
    → owned_for owner frame before frame ≢ always → now < before + owned_for owner frame before frame
    → (owner (before % frame) ≡ owner (now % frame))
    × (owned_for owner frame before frame - (now - before) ≡ owned_for owner frame now frame)
lasts_within owner frame before now few le other less =
    let later : before + (now - before) ≡ now = omega (arith, le) in
    let within : now - before < owned_for owner frame before frame = omega (arith, le, less) in (
      sym (subst (λ n. owner (n % frame) ≡ owner (before % frame)) later
          (owner_within owner frame before (now - before) few other within)),
      subst (λ n. owned_for owner frame before frame - (now - before) ≡ owned_for owner frame n frame) later
          (owned_within owner frame before (now - before) few other within),
    )

still_known : (owners : List (Option ℕ)) (frame before now : ℕ) (stretch : Stretch) → frame ≤ 1000
    → before ≤ now → now < stretch.until → stretch.until ≢ never → IsStretch owners frame before stretch
    → IsStretch owners frame now stretch
still_known owners frame before now stretch few le less finite was =
    let known = was.some (omega (arith, le, less)) finite in
    let less_here : now < before + owned_for (owner_in owners) frame before frame = omega (arith, less, known.1) in
    let on = lasts_within (owner_in owners) frame before now few le known.0 less_here in
    let found_before = found (owner_in owners) frame before frame known.0 in
    let its = known.1 in
    let rest = on.1 in
    record {
      owner = was.owner ∙ on.0;
      all = λ ever. absurd (finite ever);
      some = λ _ _. (
        λ all. omega (arith, all, rest, found_before, few),
        omega (arith, its, rest, le, less_here),
      );
      runs = was.runs;
    }

pub stretch_lasts : (owners : List (Option ℕ)) (frame before now : ℕ) (stretch : Stretch) → 0 < frame
    → frame ≤ 1000 → before ≤ now → now < stretch.until → IsStretch owners frame before stretch
    → IsStretch owners frame now stretch
stretch_lasts owners frame before now stretch some few le less was = elim (cases_eq stretch.until never) [
  | inl ever ↦
      let on = lasts_always (owner_in owners) frame before now some few le (was.all ever) in
      record {
        owner = was.owner ∙ on.0;
        all = λ _. on.1;
        some = λ _ finite. absurd (finite ever);
        runs = was.runs;
      }
  | inr finite ↦ still_known owners frame before now stretch few le less finite was
]

-- a run more that is known
pub runs_noted : (owners : List (Option ℕ)) (frame at now place places : ℕ) (runs : List Run) → at < length runs
    → AreRuns owners frame runs → place ≡ now % frame → places ≡ owned_for (owner_in owners) frame now frame
    → places ≤ 1000 → AreRuns owners frame (slice_set runs at (record { place = place; places = places }))
runs_noted owners frame at now place places runs within known is its few = λ other. elim (cases_eq other at) [
  | inl same ↦ rw (same, get_or-set_same runs at (record { place = place; places = places }) unknown within)
      (record {
        places = λ _. its ∙ owned_round (owner_in owners) frame now frame
            ∙ ap (λ n. owned_for (owner_in owners) frame n frame) (sym is);
        few = few;
      })
  | inr differs ↦
      rw (get_or-set_other runs at other (record { place = place; places = places }) unknown differs) (known other)
]

pub run_few : (owners : List (Option ℕ)) (frame at : ℕ) (runs : List Run) → AreRuns owners frame runs
    → (slice_index_or runs at unknown).places ≤ 1000
run_few owners frame at runs known = (known at).few

pub run_known : (owners : List (Option ℕ)) (frame now at place : ℕ) (run : Run) (runs : List Run)
    → AreRuns owners frame runs → run ≡ slice_index_or runs at unknown → run.places ≢ 0 → run.place ≡ place
    → place ≡ now % frame → run.places ≡ owned_for (owner_in owners) frame now frame
run_known owners frame now at place run runs known is some here there =
    let here_known : IsRun owners frame run = rw is (known at) in
    here_known.places some ∙ ap (λ n. owned_for (owner_in owners) frame n frame) (here ∙ there)
    ∙ sym (owned_round (owner_in owners) frame now frame)

-- a stretch that begins
pub begun_here : (owners : List (Option ℕ)) (frame now ticks until : ℕ) (owner : Option ℕ) (runs : List Run)
    → now < 2 ^ 32 → ticks < 2 ^ 16 → until ≡ now + ticks → owner ≡ owner_in owners (now % frame)
    → ticks ≡ owned_for (owner_in owners) frame now frame → AreRuns owners frame runs
    → IsStretch owners frame now (record { owner = owner; until = until; runs = runs })
begun_here owners frame now ticks until owner runs early few is its found known = record {
  owner = its;
  all = λ ever. absurd (omega (arith, ever, is, early, few));
  some = λ _ _. (λ all. omega (arith, all, found, few), omega (arith, is, found));
  runs = known;
}

pub begun_for_ever : (owners : List (Option ℕ)) (frame now ticks : ℕ) (owner : Option ℕ) (runs : List Run)
    → frame ≤ ticks → owner ≡ owner_in owners (now % frame)
    → ticks ≡ owned_for (owner_in owners) frame now frame → AreRuns owners frame runs
    → IsStretch owners frame now (record { owner = owner; until = never; runs = runs })
begun_for_ever owners frame now ticks owner runs le its is known = record {
  owner = its;
  all = λ _. elim (cases_eq (owned_for (owner_in owners) frame now frame) always) [
    | inl all ↦ all
    | inr other ↦ absurd (let lt = found (owner_in owners) frame now frame other in omega (arith, lt, le, is))
  ];
  some = λ _ finite. absurd (finite refl);
  runs = known;
}

-- none is known
pub runs_unknown : (owners : List (Option ℕ)) (frame n : ℕ) → AreRuns owners frame (replicate n unknown)
runs_unknown owners frame n = λ at. elim (cases_lt at n) [
  | inl within ↦ rw (get_or-replicate n at unknown unknown within)
      (record { places = λ some. absurd (some refl); few = omega arith })
  | inr past ↦ rw (get_or_past (replicate n unknown) at unknown (rw length-replicate past))
      (record { places = λ some. absurd (some refl); few = omega arith })
]

-- nobody owns a place
pub unowned_place : (place : ℕ) → owner_in (replicate 1000 None) place ≡ None
unowned_place place = elim (cases_lt place 1000) [
  | inl within ↦ get_or-replicate 1000 place None None within
  | inr past ↦ get_or_past (replicate 1000 None) place None (rw length-replicate past)
]

pub stretch_unowned : (frame now n : ℕ)
    → IsStretch (replicate 1000 None) frame now
    (record { owner = None; until = never; runs = replicate n unknown })
stretch_unowned frame now n = record {
  owner = sym (unowned_place (now % frame));
  all = λ _. all_alike (owner_in (replicate 1000 None)) frame now frame (λ k lt.
      unowned_place ((now + k) % frame) ∙ sym (unowned_place (now % frame)));
  some = λ _ finite. absurd (finite refl);
  runs = runs_unknown (replicate 1000 None) frame n;
}

pub stretch_placeless : (frame now n : ℕ)
    → IsStretch [] frame now (record { owner = None; until = never; runs = replicate n unknown })
stretch_placeless frame now n = record {
  owner = refl;
  all = λ _. all_alike (owner_in []) frame now frame (λ k lt. refl);
  some = λ _ finite. absurd (finite refl);
  runs = runs_unknown [] frame n;
}

-- of a box
pub stretch_found : (owners : List (Option ℕ)) (frame : ℕ) (b : Ledger) (s t : Seen) (stretch : Stretch)
    → frame ≡ frame_of (config_of s) → config_of t ≡ config_of s → b ≡ t.book
    → IsStretch owners frame (now_of b) stretch → IsStretch owners (frame_of (config_of t)) (now_of t.book) stretch
stretch_found owners frame b s t stretch is same here found = rw (same, ← is, ← here) found

-- after ticks, where it lasted or began anew
pub stretch_renewed : (owners : List (Option ℕ)) (n : ℕ) (choice : Option ℕ) (s t : Seen) (was new : Stretch)
    → IsSound kinds.Wheel s → IsConfigured s → t ≡ leapt n choice s
    → IsStretch owners (frame_of (config_of s)) (now_of s.book) was
    → (now_of t.book < was.until → new ≡ was)
    → (was.until ≤ now_of t.book → IsStretch owners (frame_of (config_of t)) (now_of t.book) new)
    → IsStretch owners (frame_of (config_of t)) (now_of t.book) new
stretch_renewed owners n choice s t was new sound configured is before lasts begun =
    let range = ranges_here s sound configured in
    let same : config_of t ≡ config_of s = ap config_of is in
    let later : now_of t.book ≡ now_of s.book + n = ap (λ (s : Seen). now_of s.book) is ∙ now_leapt s choice n in
    elim (cases_lt (now_of t.book) was.until) [
      | inl on ↦ rw (same, lasts on) (stretch_lasts owners (frame_of (config_of s)) (now_of s.book) (now_of t.book) was
          range.0 range.1 (omega (arith, later)) on before)
      | inr over ↦ begun over
    ]

-- who is served
pub choice_from : (s : Seen) (owners : List (Option ℕ)) (stretch : Stretch) → IsSound kinds.Wheel s → IsConfigured s
    → IsTable owners s.book → IsStretch owners (frame_of (config_of s)) (now_of s.book) stretch
    → where_asking stretch.owner s.mask ≡ choice_of (config_of s) s.book s.mask
choice_from s owners stretch sound configured table present =
    let range = ranges_here s sound configured in
    ap (λ owner. where_asking owner s.mask) (present.owner
    ∙ owner_of_table owners s.book (frame_of (config_of s)) (now_of s.book % frame_of (config_of s)) table range.0
    range.1 refl)

pub owner_asks : (owner : Option ℕ) (mask slot : ℕ) → owner ≡ Some slot → slot_asks mask slot ≡ true
    → Some slot ≡ where_asking owner mask
owner_asks owner mask slot is on = rw (is, on) refl

pub owner_silent : (owner : Option ℕ) (mask slot : ℕ) → owner ≡ Some slot → slot_asks mask slot ≡ false
    → None ≡ where_asking owner mask
owner_silent owner mask slot is off = rw (is, off) refl
