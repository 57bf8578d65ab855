-- Telling where some are quiet: they are behind, and ask as they told.
use Rattle.std.proofs.Common.{◌≡◌, ◌≢◌, inl, inr, ℕ, ◌<◌, ◌≤◌, true, false, List, Some}
use Rattle.std.proofs.Common.{sym, ap, ◌∙◌, arith, slice_get, ◌^◌, w64, ◌==◌}
use Rattle.std.specs.declared.dyn_box.DynBox.{DynBox}
use Rattle.std.specs.declared.alloc.Global.{Global}
use Rattle.std.specs.Int.{bit_at, bit_not}
use Rattle.std.specs.Prelude.{bit_and}
use Rattle.std.proofs.lemmas.Bool.{cases_eq, cases_lt, cases_Bool}
use Rattle.std.proofs.lemmas.Nat.Bits.{bit_at-zero, bit_at-lt, bit_at_and, bit_at_not}
use Rattle.hls_sched.specs.Seen.{Seen}
use Rattle.hls_tree_nodes.specs.Shown.{level_in, is_sched, asks_in, PostedIn}
use Rattle.hls_tree_nodes.specs.TreeOf.{IsLaid, Tells, IsRoll, ToldAt}
use Rattle.hls_tree_nodes.specs.Known.{HaveTold, has_bit}
use Rattle.hls_tree_nodes.specs.Views.{shown_at}
use Rattle.hls_tree_nodes.specs.Late.{IsLate, IsQuiet, StaysLate}
use Rattle.hls_tree_nodes.specs.declared.nodes.Nodes.{Nodes}
use Rattle.hls_tree_nodes.proofs.Snapshots as snapshots
use Rattle.hls_tree_nodes.proofs.Snapshots.{alike_refl}
use Rattle.hls_tree_passes.proofs.Levels.{IsAmong}
use Rattle.hls_tree_passes.proofs.Voices.{IsAsking, asking_skip, asking_step}
use Rattle.hls_tree_nodes.proofs.Late.{stays_refl, stays_then, quiet_stays, asks_shown}

-- places without those that are quiet
module _ (places quiet : ℕ) where
  abbrev left : ℕ
  left = bit_and places (bit_not w64 quiet)

  both : (at : ℕ) → bit_at left at ≡ 1 → (bit_at places at ≡ 1) × (bit_at (bit_not w64 quiet) at ≡ 1)
  both at on =
      let cut = bit_at_and places (bit_not w64 quiet) at in
      let a = bit_at-lt places at in
      let b = bit_at-lt (bit_not w64 quiet) at in
      (omega (arith, on, cut, a, b), omega (arith, on, cut, a, b))

  pub left_some : (at : ℕ) → bit_at left at ≡ 1 → bit_at places at ≡ 1
  left_some at on = (both at on).0

  -- who is left is not quiet
  pub left_loud : quiet < 2 ^ 64 → (at : ℕ) → at < 64 → bit_at left at ≡ 1 → has_bit quiet at ≡ false
  left_loud fits at lt on =
      let other : bit_at (bit_not w64 quiet) at ≡ 1 = (both at on).1 in
      let turned = bit_at_not w64 quiet at fits lt in
      let off : bit_at quiet at ≡ 0 = omega (arith, other, turned, bit_at-lt quiet at) in
      ap (λ n. n == 1) off

  -- and who is left out is
  pub left_quiet : quiet < 2 ^ 64 → (at : ℕ) → at < 64 → bit_at left at ≢ 1 → bit_at places at ≡ 1
      → has_bit quiet at ≡ true
  left_quiet fits at lt out on =
      let cut = bit_at_and places (bit_not w64 quiet) at in
      let turned = bit_at_not w64 quiet at fits lt in
      let a = bit_at-lt quiet at in
      let set : bit_at quiet at ≡ 1 = omega (arith, cut, turned, out, on, a) in
      ap (λ n. n == 1) set

-- the way through the places of a level begins as if those had told that are left out
among_without : (s : snapshots.Nodes) (l : List ℕ) (places left : ℕ) → IsRoll s l → IsLaid s
    → ((k : ℕ) → PostedIn (s k)) → ((at : ℕ) → bit_at left at ≡ 1 → bit_at places at ≡ 1)
    → ((at c port : ℕ) → at < 64 → bit_at left at ≢ 1 → bit_at places at ≡ 1 → slice_get l at ≡ Some c
    → is_sched (s c) ≡ true → ToldAt s c port)
    → IsAmong s s l places left
among_without s l places left roll laid posted some out = record {
  laid = laid;
  posted = posted;
  alike = alike_refl s;
  some = some;
  telling = λ level so t. record {
    laid = t.laid;
    posted = t.posted;
    free = t.free;
    told = λ c port then. elim (cases_Bool (is_sched (s c))) [
      | inr off ↦ t.told c port (λ is. absurd (cc))
      | inl is ↦
          let both = then is in
          elim (cases_eq (level_in (s c)) level) [
            | inr ne ↦ t.told c port (λ on. let le : level ≤ level_in (s c) = both.0 in omega (arith, le, ne))
            | inl e ↦
                let on = roll.all c is in
                elim (cases_lt on.0 64) [
                  | inr far ↦ absurd (both.1 e (on.0, λ lt. absurd (omega (arith, lt, far)), on.1))
                  | inl lt ↦ elim (cases_eq (bit_at left on.0) 1) [
                    | inl set ↦ absurd (both.1 e (on.0, λ small. set, on.1))
                    | inr ne ↦ out on.0 c port lt ne (so.all on.0 c lt on.1 e) on.1 is
                  ]
                ]
          ]
    ];
  };
}

module _ {V : Type 0} {P : V → Type 0} where
  -- on the way through the places of a level but for those that are quiet, by what each one told
  pub record IsHearing (show : DynBox V Global P → Seen) (old now : Nodes V P) (l : List ℕ) (places left told : ℕ)
      : Type 0 where
    pub asking : IsAsking (shown_at show old) (shown_at show now) l places left told
    pub late : StaysLate show old now
    pub quiet : IsQuiet show now l told
    pub loud : (at : ℕ) → at < 64 → bit_at left at ≡ 1 → has_bit now.quiet at ≡ false

  quiet_told : (show : DynBox V Global P → Seen) (nodes : Nodes V P) (l : List ℕ) (told : ℕ)
      → HaveTold (shown_at show nodes) l told → IsLate show nodes → IsQuiet show nodes l told
      → (at c port : ℕ) → at < 64 → has_bit nodes.quiet at ≡ true → slice_get l at ≡ Some c
      → is_sched (shown_at show nodes c) ≡ true → ToldAt (shown_at show nodes) c port
  quiet_told show nodes l told voices late quiet at c port lt bit here is p slot sits =
      voices at c port p slot lt here is sits ∙ sym (quiet.asks at c lt bit here) ∙ sym (asks_shown show nodes late c)

  pub hearing_start : (show : DynBox V Global P → Seen) (nodes : Nodes V P) (l : List ℕ) (places told : ℕ)
      → IsRoll (shown_at show nodes) l → IsLaid (shown_at show nodes) → ((k : ℕ) → PostedIn (shown_at show nodes k))
      → HaveTold (shown_at show nodes) l told → IsLate show nodes → IsQuiet show nodes l told → nodes.quiet < 2 ^ 64
      → IsHearing show nodes nodes l places (bit_and places (bit_not w64 nodes.quiet)) told
  hearing_start show nodes l places told roll laid posted voices late quiet fits = record {
    asking = record {
      among = among_without (shown_at show nodes) l places (bit_and places (bit_not w64 nodes.quiet)) roll laid posted
          (left_some places nodes.quiet)
          (λ at c port lt out on here is. quiet_told show nodes l told voices late quiet at c port lt
          (left_quiet places nodes.quiet fits at lt out on) here is);
      roll = roll;
      voices = voices;
    };
    late = stays_refl show nodes late;
    quiet = quiet;
    loud = left_loud places nodes.quiet fits;
  }

  pub hearing_skip : (show : DynBox V Global P → Seen) (old now : Nodes V P) (l : List ℕ)
      (places left next at key told : ℕ) → slice_get l at ≡ Some key → at < 64
      → ((k : ℕ) → k < 64 → k ≢ at → bit_at next k ≡ bit_at left k)
      → ((k : ℕ) → bit_at next k ≡ 1 → bit_at left k ≡ 1) → asks_in (shown_at show now key) ≡ has_bit told at
      → IsHearing show old now l places left told → IsHearing show old now l places next told
  hearing_skip show old now l places left next at key told here lt others fewer same so = record {
    asking = asking_skip (shown_at show old) (shown_at show now) l places left next at key told here lt others fewer
        same so.asking;
    late = so.late;
    quiet = so.quiet;
    loud = λ k small on. so.loud k small (fewer k on);
  }

  -- the voice of one that is not quiet is new
  quiet_new : (show : DynBox V Global P → Seen) (nodes : Nodes V P) (l : List ℕ) (at told now : ℕ)
      → has_bit nodes.quiet at ≡ false → ((k : ℕ) → k < 64 → k ≢ at → has_bit now k ≡ has_bit told k)
      → IsQuiet show nodes l told → IsQuiet show nodes l now
  quiet_new show nodes l at told now off kept quiet = record {
    behind = quiet.behind;
    there = quiet.there;
    asks = λ k c lt bit here. quiet.asks k c lt bit here ∙ sym (kept k lt (λ e.
        let on : has_bit nodes.quiet at ≡ true = ap (has_bit nodes.quiet) (sym e) ∙ bit in cc));
  }

  -- who was not quiet is not
  off_stays : (show : DynBox V Global P → Seen) (old new : Nodes V P) (at : ℕ) → at < 64
      → has_bit old.quiet at ≡ false → StaysLate show old new → has_bit new.quiet at ≡ false
  off_stays show old new at lt off stays = elim (cases_Bool (has_bit new.quiet at)) [
    | inr is ↦ is
    | inl on ↦ absurd (let was = stays.bits at lt on in cc)
  ]

  pub hearing_step : (show : DynBox V Global P → Seen) (old mid new : Nodes V P) (l : List ℕ)
      (places left next at key told now : ℕ) → slice_get l at ≡ Some key → at < 64 → bit_at left at ≡ 1
      → ((k : ℕ) → k < 64 → k ≢ at → bit_at next k ≡ bit_at left k)
      → ((k : ℕ) → bit_at next k ≡ 1 → bit_at left k ≡ 1) → has_bit now at ≡ asks_in (shown_at show mid key)
      → ((k : ℕ) → k < 64 → k ≢ at → has_bit now k ≡ has_bit told k)
      → IsHearing show old mid l places left told → Tells key (shown_at show mid) (shown_at show new)
      → StaysLate show mid new → IsHearing show old new l places next now
  hearing_step show old mid new l places left next at key told now here lt on others fewer set kept so by
      stays = record {
        asking = asking_step (shown_at show old) (shown_at show mid) (shown_at show new) l places left next at key
            told now
            here on others fewer set kept so.asking by;
        late = stays_then show old mid new so.late stays;
        quiet = quiet_new show new l at told now (off_stays show mid new at lt (so.loud at lt on) stays) kept
            (quiet_stays show mid new l told so.quiet stays);
        loud = λ k small set. off_stays show mid new k small (so.loud k small (fewer k set)) stays;
      }

  -- where no place of the list is quiet, nobody is, whatever was told
  pub quiet_none : (show : DynBox V Global P → Seen) (old new : Nodes V P) (l : List ℕ) (told : ℕ)
      → old.behind ≡ true → old.quiet ≡ 0 → StaysLate show old new → IsQuiet show new l told
  quiet_none show old new l told behind none stays =
      let never : (at : ℕ) → at < 64 → has_bit new.quiet at ≡ true → ⊥ = λ at lt bit.
      let was : has_bit old.quiet at ≡ true = stays.bits at lt bit in
      let off : has_bit old.quiet at ≡ false = ap (λ n. has_bit n at) none ∙ ap (λ n. n == 1) (bit_at-zero at) in
      cc in
      record {
        behind = stays.behind ∙ behind;
        there = λ at c lt bit here. absurd (never at lt bit);
        asks = λ at c lt bit here. absurd (never at lt bit);
      }
