-- Each line is offered, and within the limits of a scenario.
use Rattle.std.proofs.Common.{◌≡◌, ℕ, ◌<◌, ◌⊎◌, inl, inr, Bool, true, false}
use Rattle.std.proofs.Common.{List, [], ◌∷◌, ◌++◌, length, get_or, refl}
use Rattle.std.proofs.Common.{sym, subst, arith}
use Rattle.std.specs.Prelude.{Option, Some, None, Contains, option_to_list, if◌then◌else◌}
use Rattle.std.proofs.lemmas.Option.{slice_get_read}
use Rattle.std.proofs.lemmas.List.Elements.{Contains-append_cases}
use Rattle.hls_chron.specs.declared.plain.Config.{Config}
use Rattle.hls_chron.specs.declared.plain.Config.TheVariants as configs
use Rattle.hls_chron.proofs.ConfigLaws.{first_port, some_port}
use Rattle.hls_guarantee.specs.declared.Guarantee.{Guarantee}
use Rattle.hls_guarantee.specs.declared.Guarantee.TheVariants.{All, Null, Resb, Resc}
use Rattle.hls_guarantee.specs.Limits.{IsNarrow, IsValid}
use Rattle.hls_guarantee.specs.Steps.{LendsNothing}
use Rattle.hls_search_laws.proofs.Makes.{narrow-valid}
use Rattle.hls_search.proofs.Completing.{narrow-at}
use Rattle.hls_offer_laws.proofs.Leading.{offered}
use Rattle.hls_offer_laws.proofs.Offers.{offered-valid}
use Rattle.hls_offer_best.specs.declared.seat.Seat.{Seat}
use Rattle.hls_offer_best.specs.declared.windows.Form.{Form}
use Rattle.hls_offer_best.specs.declared.windows.Form.TheVariants.{Blocks, Windows}
use Rattle.hls_offer_best.specs.Best.{CanAsk, IsLeastIfAny, IsMostIfAny, Offers, Waits}
use Rattle.hls_offer_lines.specs.Lines.{AreOffers, AreOfPeriod, AreOfPeriods, IsHardOf}
use Rattle.hls_offer_lines.specs.Lines.{block_line, is_wait, or_nothing, wait_line, window_line}
use Rattle.hls_offer_lines.proofs.Pushes.{none-in, one-in, in-option}

abbrev pub IsLine : Seat → Guarantee → Type 0
IsLine seat g = Offers seat g × IsNarrow g

-- ---- nothing can be had of every scheduler

lends-nothing : (config : Config) → (config ≡ configs.Cpu → ⊥) → LendsNothing config Null
lends-nothing configs.Cpu loaded = absurd (loaded refl)
lends-nothing _ loaded = refl

nothing-offered : (seat : Seat) → CanAsk seat → (seat.place.config ≡ configs.Cpu → ⊥) → Offers seat Null
nothing-offered seat can loaded =
    let haves = seat.haves.now in
    let some = some_port seat.place.config can.config in
    let within : 0 < length haves = (let ports = can.ports in omega arith) in
    let have = get_or haves 0 Null in
    let there = slice_get_read haves (length haves) 0 have refl within (same-read haves within) in
    let valid = narrow-valid have (narrow-at haves 0 have can.each_have there) in
    offered seat.place haves Null seat.depth 0 0 0 have have Null [] [] there
    (record {
      from = valid;
      to = tt;
      port_of = first_port seat.place.config can.config;
      lends = inr (lends-nothing seat.place.config loaded);
    }) (record { follows = tt; ends = refl; fits = omega arith })
    (record { follows = tt; ends = refl; fits = omega arith }) (omega arith)
  where
    same-read : (haves : List Guarantee) → 0 < length haves
        → get_or haves 0 Null ≡ get_or haves 0 (get_or haves 0 Null)
    same-read [] within = absurd (omega arith)
    same-read (g ∷ haves) within = refl

-- ---- a reservation that is offered is within the limits

res-line : (seat : Seat) (form : Form) (g : Guarantee) → IsHardOf form g → Offers seat g → IsLine seat g
res-line seat form g is offers =
    (offers, ranged form g is (offered-valid seat.place seat.haves.now seat.depth g offers))
  where
    ranged : (form : Form) (g : Guarantee) → IsHardOf form g → IsValid g → IsNarrow g
    ranged Blocks (Resb hard x y) is valid = valid
    ranged Windows (Resc hard x y) is valid = valid
    ranged _ _ is valid = absurd is

blocks-line : (seat : Seat) (x y : ℕ) (g : Guarantee) → Offers seat (Resb false x y) → Resb false x y ≡ g
    → IsLine seat g
blocks-line seat x y g offers same =
    subst (λ v. IsLine seat v) same
    (offers, offered-valid seat.place seat.haves.now seat.depth (Resb false x y) offers)

windows-line : (seat : Seat) (x y : ℕ) (g : Guarantee) → Offers seat (Resc false x y) → Resc false x y ≡ g
    → IsLine seat g
windows-line seat x y g offers same =
    subst (λ v. IsLine seat v) same
    (offers, offered-valid seat.place seat.haves.now seat.depth (Resc false x y) offers)

-- ---- part by part

none-some : {X : Type 0} (g : X) → None ≡ Some g → ⊥
none-some g e = cc

wait-offered : (seat : Seat) (wait : Option ℕ) (g : Guarantee) → IsLeastIfAny (λ ticks. Waits seat ticks) wait
    → wait_line wait ≡ Some g → IsLine seat g
wait-offered seat None g least e = absurd (none-some g e)
wait-offered seat (Some ticks) g least e =
    windows-line seat 1 ticks g least.meets (let same : Resc false 1 ticks ≡ g = cc in same)

of-blocks : (seat : Seat) (y : ℕ) (most : Option ℕ) (g : Guarantee)
    → IsMostIfAny (λ x. Offers seat (Resb false x y)) most → block_line y most ≡ Some g → IsLine seat g
of-blocks seat y None g is e = absurd (none-some g e)
of-blocks seat y (Some x) g is e =
    blocks-line seat x y g is.meets (let same : Resb false x y ≡ g = cc in same)

told : (b : Bool) (line g : Guarantee) → (if b then None else Some line) ≡ Some g → line ≡ g
told true line g e = absurd (none-some g e)
told false line g e = cc

of-windows : (seat : Seat) (wait : Option ℕ) (y : ℕ) (most : Option ℕ) (g : Guarantee)
    → IsMostIfAny (λ x. Offers seat (Resc false x y)) most → window_line wait y most ≡ Some g → IsLine seat g
of-windows seat wait y None g is e = absurd (none-some g e)
of-windows seat wait y (Some x) g is e =
    windows-line seat x y g is.meets (told (is_wait wait x y) (Resc false x y) g e)

of-period : (seat : Seat) (wait : Option ℕ) (y : ℕ) (lines : List Guarantee) (g : Guarantee)
    → AreOfPeriod seat wait y lines → Contains lines g → IsLine seat g
of-period seat wait y lines g are has =
    let first = option_to_list (block_line y are.blocks) in
    let second = option_to_list (window_line wait y are.windows) in
    elim (Contains-append_cases first second g (subst (λ v. Contains v g) are.form has)) [
      | inl one ↦ of-blocks seat y are.blocks g are.most_blocks (in-option (block_line y are.blocks) g one)
      | inr other ↦ of-windows seat wait y are.windows g are.most_windows
          (in-option (window_line wait y are.windows) g other)
    ]

of-periods : (seat : Seat) (wait : Option ℕ) (periods : List ℕ) (lines : List Guarantee) (g : Guarantee)
    → AreOfPeriods seat wait periods lines → Contains lines g → IsLine seat g
of-periods seat wait [] lines g are has = absurd (none-in g (subst (λ v. Contains v g) are has))
of-periods seat wait (y ∷ periods) lines g (first, others, of, rest, form) has =
    elim (Contains-append_cases first others g (subst (λ v. Contains v g) form has)) [
      | inl one ↦ of-period seat wait y first g of one
      | inr other ↦ of-periods seat wait periods others g rest other
    ]

whole-line : (seat : Seat) (g : Guarantee) → (g ≡ All) × Offers seat g → IsLine seat g
whole-line seat g is = (is.1, subst IsNarrow (sym is.0) tt)

or-none : (lines : List Guarantee) (g : Guarantee) → Contains (or_nothing lines) g → Contains lines g ⊎ (g ≡ Null)
or-none [] g has = inr (one-in Null g has)
or-none (h ∷ lines) g has = inl has

pub line-offered : (seat : Seat) → CanAsk seat → (seat.place.config ≡ configs.Cpu → ⊥)
    → (list : Option (List ℕ)) (lines : List Guarantee) → AreOffers seat list lines → (g : Guarantee)
    → Contains lines g → IsLine seat g
line-offered seat can loaded list lines are g has =
    let one = are.whole in
    let two = one ++ are.hard_blocks in
    let three = two ++ are.hard_windows in
    let four = three ++ are.shares in
    let five = four ++ option_to_list (wait_line are.wait) in
    elim (or-none (five ++ are.spans) g (subst (λ v. Contains v g) are.form has)) [
      | inr none ↦ subst (λ v. IsLine seat v) (sym none) (nothing-offered seat can loaded, tt)
      | inl some ↦ elim (Contains-append_cases five are.spans g some) [
        | inr span ↦ of-periods seat are.wait are.are_spans.periods are.spans g are.are_spans.spans span
        | inl in5 ↦ elim (Contains-append_cases four (option_to_list (wait_line are.wait)) g in5) [
          | inr wait ↦ wait-offered seat are.wait g are.is_wait (in-option (wait_line are.wait) g wait)
          | inl in4 ↦ elim (Contains-append_cases three are.shares g in4) [
            | inr share ↦ (let is = are.are_shares.each g share in (is.offered, is.narrow))
            | inl in3 ↦ elim (Contains-append_cases two are.hard_windows g in3) [
              | inr hard ↦ (let is = (are.are_hard_windows.exact g).0 hard in
                  res-line seat Windows g is.0 is.1)
              | inl in2 ↦ elim (Contains-append_cases one are.hard_blocks g in2) [
                | inr hard ↦ (let is = (are.are_hard_blocks.exact g).0 hard in
                    res-line seat Blocks g is.0 is.1)
                | inl in1 ↦ whole-line seat g ((are.is_whole.exact g).0 in1)
              ]
            ]
          ]
        ]
      ]
    ]
