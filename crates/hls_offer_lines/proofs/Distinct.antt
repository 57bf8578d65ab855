-- No line stands twice, where the periods rise.
use Rattle.std.proofs.Common.{◌≡◌, ℕ, ◌+◌, ◌<◌, inl, inr, Bool, true, false, List, [], ◌∷◌, ◌++◌}
use Rattle.std.proofs.Common.{suc, refl, sym, ◌∙◌, subst, arith}
use Rattle.std.specs.Prelude.{Option, Some, None, Contains, option_to_list, AllPairs, ◌==◌, if◌then◌else◌}
use Rattle.std.proofs.lemmas.List.Elements.{Contains-append_cases}
use Rattle.std.proofs.lemmas.Bool.Decides.{nat_tests}
use Rattle.std.proofs.lemmas.List.Kept.{AllPairs-cons}
use Rattle.hls_guarantee.specs.declared.Guarantee.{Guarantee}
use Rattle.hls_guarantee.specs.declared.Guarantee.TheVariants.{All, Null, Resb, Resc, Psbe}
use Rattle.hls_offer_laws.specs.Candidates.{HasPeriod}
use Rattle.hls_offer_best.specs.declared.seat.Seat.{Seat}
use Rattle.hls_offer_best.specs.declared.windows.Form.TheVariants.{Blocks, Windows}
use Rattle.hls_offer_lines.specs.Lines.{AreOffers, AreOfPeriod, AreOfPeriods, ArePeriodsOf}
use Rattle.hls_offer_lines.specs.Lines.{AreTopShares, Covers, IsHardOf, IsRising}
use Rattle.hls_offer_lines.specs.Lines.{block_line, is_wait, or_nothing, wait_line, window_line}
use Rattle.hls_offer_lines.specs.Inside.Listing.{IsValidShare}
use Rattle.hls_offer_lines.proofs.Pushes.{none-in, in-option, no-pairs, each-of}
use Rattle.hls_offer_lines.proofs.Coverings.{covers-self, offered-share-ok}

abbrev pub Distinct : List Guarantee → Type 0
Distinct [] = Unit {0}
Distinct (x ∷ xs) = (Contains xs x → ⊥) × Distinct xs

pub to-pairs : (xs : List Guarantee) → Distinct xs → AllPairs (λ g h. g ≡ h → ⊥) xs
to-pairs [] d = no-pairs (λ (g h : Guarantee). g ≡ h → ⊥) [] refl
to-pairs (x ∷ xs) d =
    AllPairs-cons (λ g h. g ≡ h → ⊥) x xs
    (each-of (λ h. x ≡ h → ⊥) xs (λ h has same. d.0 (subst (λ v. Contains xs v) (sym same) has)))
    (to-pairs xs d.1)

later : {X : Type 0} (x : X) (xs : List X) (g : X) → Contains xs g → Contains (x ∷ xs) g
later x xs g (k, less, is) = (suc k, omega arith, is)

here : {X : Type 0} (x : X) (xs : List X) → Contains (x ∷ xs) x
here x xs = (0, omega arith, refl)

pairs-tail : {X : Type 0} (R : X → X → Type 0) (x : X) (xs : List X) → AllPairs R (x ∷ xs) → AllPairs R xs
pairs-tail R x xs pairs = λ i j d less within. pairs (suc i) (suc j) d (omega arith) (omega arith)

pairs-head : {X : Type 0} (R : X → X → Type 0) (x : X) (xs : List X) → AllPairs R (x ∷ xs) → (g : X)
    → Contains xs g → R x g
pairs-head R x xs pairs g (k, less, is) =
    subst (λ v. R x v) is (pairs 0 (suc k) g (omega arith) (omega arith))

of-pairs : (R : Guarantee → Guarantee → Type 0) (xs : List Guarantee)
    → ((g : Guarantee) → Contains xs g → R g g → ⊥) → AllPairs R xs → Distinct xs
of-pairs R [] apart pairs = tt
of-pairs R (x ∷ xs) apart pairs = (
  λ has. apart x (here x xs) (pairs-head R x xs pairs x has),
  of-pairs R xs (λ g has. apart g (later x xs g has)) (pairs-tail R x xs pairs),
)

join : (xs ys : List Guarantee) → Distinct xs → Distinct ys
    → ((g : Guarantee) → Contains xs g → Contains ys g → ⊥) → Distinct (xs ++ ys)
join [] ys dx dy apart = dy
join (x ∷ xs) ys dx dy apart = (
  λ has. elim (Contains-append_cases xs ys x has) [
    | inl old ↦ dx.0 old
    | inr new ↦ apart x (here x xs) new
  ],
  join xs ys dx.1 dy (λ g has. apart g (later x xs g has)),
)

-- ---- sorts of lines

sort : Guarantee → ℕ
sort All = 0
sort (Resb true x y) = 1
sort (Resc true x y) = 2
sort (Psbe s d) = 3
sort (Resb false x y) = 4
sort (Resc false x y) = 4
sort Null = 5

hard-sort : (g : Guarantee) → IsHardOf Blocks g → sort g ≡ 1
unfolding sort
hard-sort (Resb true x y) is = refl
hard-sort (Resb false x y) is = absurd (let no : ⊥ = cc in no)
hard-sort _ is = absurd is

windows-sort : (g : Guarantee) → IsHardOf Windows g → sort g ≡ 2
unfolding sort
windows-sort (Resc true x y) is = refl
windows-sort (Resc false x y) is = absurd (let no : ⊥ = cc in no)
windows-sort _ is = absurd is

share-sort : (g : Guarantee) → IsValidShare g → sort g ≡ 3
unfolding sort
share-sort (Psbe s d) is = refl
share-sort _ is = absurd is

whole-sort : (g : Guarantee) → g ≡ All → sort g ≡ 0
unfolding sort
whole-sort g is = subst (λ v. sort v ≡ 0) (sym is) refl

blocks-soft : (x y : ℕ) (g : Guarantee) → Resb false x y ≡ g → sort g ≡ 4
unfolding sort
blocks-soft x y g is = subst (λ v. sort v ≡ 4) is refl

windows-soft : (x y : ℕ) (g : Guarantee) → Resc false x y ≡ g → sort g ≡ 4
unfolding sort
windows-soft x y g is = subst (λ v. sort v ≡ 4) is refl

-- ---- one, if there is one

option-distinct : (found : Option Guarantee) → Distinct (option_to_list found)
option-distinct None = tt
option-distinct (Some g) = (λ has. none-in g has, tt)

none-some : {X : Type 0} (g : X) → None ≡ Some g → ⊥
none-some g e = cc

wait-is : (wait : Option ℕ) (g : Guarantee) → wait_line wait ≡ Some g
    → (ticks : ℕ) × (wait ≡ Some ticks) × (Resc false 1 ticks ≡ g)
wait-is None g e = absurd (none-some g e)
wait-is (Some ticks) g e = (ticks, refl, (let same : Resc false 1 ticks ≡ g = cc in same))

block-is : (y : ℕ) (most : Option ℕ) (g : Guarantee) → block_line y most ≡ Some g
    → (x : ℕ) × (Resb false x y ≡ g)
block-is y None g e = absurd (none-some g e)
block-is y (Some x) g e = (x, (let same : Resb false x y ≡ g = cc in same))

told : (b : Bool) (line g : Guarantee) → (if b then None else Some line) ≡ Some g → (line ≡ g) × (b ≡ false)
told true line g e = absurd (none-some g e)
told false line g e = ((let same : line ≡ g = cc in same), refl)

window-is : (wait : Option ℕ) (y : ℕ) (most : Option ℕ) (g : Guarantee) → window_line wait y most ≡ Some g
    → (x : ℕ) × (Resc false x y ≡ g) × (is_wait wait x y ≡ false)
window-is wait y None g e = absurd (none-some g e)
window-is wait y (Some x) g e = (let both = told (is_wait wait x y) (Resc false x y) g e in (x, both.0, both.1))

wait-again : (wait : Option ℕ) (ticks : ℕ) → wait ≡ Some ticks → is_wait wait 1 ticks ≡ true
wait-again wait ticks e = subst (λ v. is_wait v 1 ticks ≡ true) (sym e) (same-self ticks)
  where
    same-self : (n : ℕ) → (n == n) ≡ true
    same-self n = grind (arith, nat_tests)

-- ---- what stands for a period

record Told (wait : Option ℕ) (y : ℕ) (g : Guarantee) : Type 0 where
  soft : sort g ≡ 4
  period : HasPeriod g y
  no_wait : (ticks : ℕ) → wait ≡ Some ticks → Resc false 1 ticks ≡ g → ⊥

told-block : (wait : Option ℕ) (x y : ℕ) (g : Guarantee) → Resb false x y ≡ g → Told wait y g
told-block wait x y g is = record {
  soft = blocks-soft x y g is;
  period = subst (λ v. HasPeriod v y) is refl;
  no_wait = λ ticks e same. (let no : ⊥ = cc in no);
}

told-window : (wait : Option ℕ) (x y : ℕ) (g : Guarantee) → Resc false x y ≡ g → is_wait wait x y ≡ false
    → Told wait y g
told-window wait x y g is other = record {
  soft = windows-soft x y g is;
  period = subst (λ v. HasPeriod v y) is refl;
  no_wait = λ ticks e same.
      let one : x ≡ 1 = cc in
      let last : y ≡ ticks = cc in
      let again = wait-again wait ticks e in
      let told = subst (λ (n : ℕ). is_wait wait n ticks ≡ false) one
      (subst (λ (n : ℕ). is_wait wait x n ≡ false) last other) in
      (let no : ⊥ = (let both = sym again ∙ told in cc) in no);
}

of-period : (seat : Seat) (wait : Option ℕ) (y : ℕ) (lines : List Guarantee) (g : Guarantee)
    → AreOfPeriod seat wait y lines → Contains lines g → Told wait y g
of-period seat wait y lines g are has =
    let first = option_to_list (block_line y are.blocks) in
    let second = option_to_list (window_line wait y are.windows) in
    elim (Contains-append_cases first second g (subst (λ v. Contains v g) are.form has)) [
      | inl one ↦
          (let is = block-is y are.blocks g (in-option (block_line y are.blocks) g one) in
          told-block wait is.0 y g is.1)
      | inr other ↦
          (let is = window-is wait y are.windows g (in-option (window_line wait y are.windows) g other) in
          told-window wait is.0 y g is.1 is.2)
    ]

period-distinct : (seat : Seat) (wait : Option ℕ) (y : ℕ) (lines : List Guarantee) → AreOfPeriod seat wait y lines
    → Distinct lines
period-distinct seat wait y lines are =
    let first = option_to_list (block_line y are.blocks) in
    let second = option_to_list (window_line wait y are.windows) in
    subst Distinct (sym are.form)
    (join first second (option-distinct (block_line y are.blocks)) (option-distinct (window_line wait y are.windows))
    (λ g one other.
    let a = block-is y are.blocks g (in-option (block_line y are.blocks) g one) in
    let b = window-is wait y are.windows g (in-option (window_line wait y are.windows) g other) in
    let left = a.1 in
    let right = b.1 in
    (let no : ⊥ = cc in no)))

of-periods : (seat : Seat) (wait : Option ℕ) (periods : List ℕ) (lines : List Guarantee) (g : Guarantee)
    → AreOfPeriods seat wait periods lines → Contains lines g → (y : ℕ) × Contains periods y × Told wait y g
of-periods seat wait [] lines g are has = absurd (none-in g (subst (λ v. Contains v g) are has))
of-periods seat wait (y ∷ periods) lines g (first, others, of, rest, form) has =
    elim (Contains-append_cases first others g (subst (λ v. Contains v g) form has)) [
      | inl one ↦ (y, here y periods, of-period seat wait y first g of one)
      | inr other ↦
          (let its = of-periods seat wait periods others g rest other in
          (its.0, later y periods its.0 its.1, its.2))
    ]

one-period : (g : Guarantee) (y z : ℕ) → HasPeriod g y → HasPeriod g z → y ≡ z
one-period All y z a b = absurd a
one-period Null y z a b = absurd a
one-period (Resb hard u v) y z a b = a ∙ sym b
one-period (Resc hard u v) y z a b = a ∙ sym b
one-period (Psbe s d) y z a b = absurd a

periods-distinct : (seat : Seat) (wait : Option ℕ) (periods : List ℕ) (lines : List Guarantee)
    → AllPairs (λ y other. y < other) periods → AreOfPeriods seat wait periods lines → Distinct lines
periods-distinct seat wait [] lines rising are = subst Distinct (sym are) tt
periods-distinct seat wait (y ∷ periods) lines rising (first, others, of, rest, form) =
    subst Distinct (sym form)
    (join first others (period-distinct seat wait y first of)
    (periods-distinct seat wait periods others (pairs-tail (λ (a b : ℕ). a < b) y periods rising) rest)
    (λ g one other.
    let a = of-period seat wait y first g of one in
    let its = of-periods seat wait periods others g rest other in
    let less : y < its.0 = pairs-head (λ (a b : ℕ). a < b) y periods rising its.0 its.1 in
    let same : y ≡ its.0 = one-period g y its.0 a.period its.2.period in
    omega arith))

-- ---- all of them

rising-periods : (seat : Seat) (list : Option (List ℕ)) (periods : List ℕ) → ArePeriodsOf seat list periods
    → IsRising list → AllPairs (λ (y other : ℕ). y < other) periods
rising-periods seat None periods are rising = are.rising
rising-periods seat (Some list) periods are rising =
    subst (λ (v : List ℕ). AllPairs (λ y other. y < other) v) (sym are) rising

or-distinct : (lines : List Guarantee) → Distinct lines → Distinct (or_nothing lines)
or-distinct [] d = (λ has. none-in Null has, tt)
or-distinct (g ∷ lines) d = d

below : (n : ℕ) (xs ys : List Guarantee) → ((g : Guarantee) → Contains xs g → sort g < n)
    → ((g : Guarantee) → Contains ys g → sort g ≡ n) → (g : Guarantee) → Contains (xs ++ ys) g → sort g < n + 1
below n xs ys low at g has =
    elim (Contains-append_cases xs ys g has) [
      | inl old ↦ (let less = low g old in omega arith)
      | inr new ↦ (let same = at g new in omega arith)
    ]

join-next : (n : ℕ) (xs ys : List Guarantee) → Distinct xs → Distinct ys
    → ((g : Guarantee) → Contains xs g → sort g < n) → ((g : Guarantee) → Contains ys g → sort g ≡ n)
    → Distinct (xs ++ ys)
join-next n xs ys dx dy low at =
    join xs ys dx dy (λ g old new. (let less = low g old in let same = at g new in omega arith))

same-not : (xs : List Guarantee) → AllPairs (λ g h. g ≡ h → ⊥) xs → Distinct xs
same-not xs pairs = of-pairs (λ g h. g ≡ h → ⊥) xs (λ g has no. no refl) pairs

shares-distinct : (seat : Seat) (shares : List Guarantee) → AreTopShares seat shares → Distinct shares
shares-distinct seat shares are =
    of-pairs (λ share other. (Covers share other → ⊥) × (Covers other share → ⊥)) shares
    (λ g has no. no.0 (covers-self g (offered-share-ok seat g (are.each g has)))) are.apart

wait-soft : (wait : Option ℕ) (g : Guarantee) → Contains (option_to_list (wait_line wait)) g → sort g ≡ 4
wait-soft wait g has =
    let is = wait-is wait g (in-option (wait_line wait) g has) in windows-soft 1 is.0 g is.2

pub lines-once : (seat : Seat) (list : Option (List ℕ)) (lines : List Guarantee) → AreOffers seat list lines
    → IsRising list → AllPairs (λ g h. g ≡ h → ⊥) lines
lines-once seat list lines are rising =
    let one = are.whole in
    let two = one ++ are.hard_blocks in
    let three = two ++ are.hard_windows in
    let four = three ++ are.shares in
    let wait = option_to_list (wait_line are.wait) in
    let low1 = λ (g : Guarantee) (has : Contains one g).
    (let same = whole-sort g ((are.is_whole.exact g).0 has).0 in let less : sort g < 1 = omega arith in less) in
    let at2 = λ (g : Guarantee) (has : Contains are.hard_blocks g).
    hard-sort g ((are.are_hard_blocks.exact g).0 has).0 in
    let at3 = λ (g : Guarantee) (has : Contains are.hard_windows g).
    windows-sort g ((are.are_hard_windows.exact g).0 has).0 in
    let at4 = λ (g : Guarantee) (has : Contains are.shares g).
    share-sort g (offered-share-ok seat g (are.are_shares.each g has)) in
    let low2 = below 1 one are.hard_blocks low1 at2 in
    let low3 = below 2 two are.hard_windows low2 at3 in
    let low4 = below 3 three are.shares low3 at4 in
    let d2 =
    join-next 1 one are.hard_blocks (same-not one are.is_whole.once)
    (same-not are.hard_blocks are.are_hard_blocks.once) low1 at2 in
    let d3 =
    join-next 2 two are.hard_windows d2 (same-not are.hard_windows are.are_hard_windows.once) low2 at3 in
    let d4 = join-next 3 three are.shares d3 (shares-distinct seat are.shares are.are_shares) low3 at4 in
    let d5 = join-next 4 four wait d4 (option-distinct (wait_line are.wait)) low4 (wait-soft are.wait) in
    let spans = are.are_spans in
    let rise = rising-periods seat list spans.periods spans.are rising in
    let d6 =
    join (four ++ wait) are.spans d5 (periods-distinct seat are.wait spans.periods are.spans rise spans.spans)
    (λ g has told.
    let its = of-periods seat are.wait spans.periods are.spans g spans.spans told in
    elim (Contains-append_cases four wait g has) [
      | inl old ↦ (let less = low4 g old in let soft = its.2.soft in omega arith)
      | inr new ↦
          (let is = wait-is are.wait g (in-option (wait_line are.wait) g new) in
          its.2.no_wait is.0 is.1 is.2)
    ]) in
    to-pairs lines (subst Distinct (sym are.form) (or-distinct (four ++ wait ++ are.spans) d6))
