-- What schedulers told, by a bit for each.
use Rattle.std.proofs.Common.{◌≡◌, ◌≢◌, inl, inr, ℕ, ◌<◌, ◌≤◌, Bool, true, false, List, Some}
use Rattle.std.proofs.Common.{refl, sym, ap, ◌∙◌, subst, arith, slice_get}
use Rattle.std.specs.Int.{bit_at}
use mathlib.Core.Bool.{not, beq}
use Rattle.std.proofs.lemmas.Bool.{cases_eq, cases_Bool}
use Rattle.hls_kinds.specs.Asks.{slot_asks}
use Rattle.hls_machine.specs.Hierarchy.{At}
use Rattle.hls_tree_nodes.specs.Shown.{place_in, mask_in, asks_in, is_sched, PostedIn}
use Rattle.hls_tree_nodes.specs.TreeOf.{IsAlike, IsLaid, IsTelling, Tells, TellsThread, IsRoll, Each, ToldAt}
use Rattle.hls_tree_nodes.specs.Known.{HaveTold, AreStill, has_bit}
use Rattle.hls_tree_nodes.proofs.Snapshots.{Nodes, alike_places}
use Rattle.hls_tree_passes.proofs.Tells.{sched_alike, entry_at, roll_alike}
use Rattle.hls_tree_passes.proofs.Levels.{IsAmong, among_start, among_step}

pub still_refl : (s : Nodes) → AreStill s s
still_refl s c port p slot is at = refl

pub still_then : (a b c : Nodes) → IsAlike a b → AreStill a b → AreStill b c → AreStill a c
still_then a b c alike x y k port p slot is at =
    y k port p slot (sched_alike a b alike k ∙ is) (alike_places a b alike k port ∙ at) ∙ x k port p slot is at

-- a thread that tells leaves what schedulers told
pub thread_still : (old new : Nodes) (key : ℕ) → TellsThread key old new → AreStill old new
thread_still old new key by c port p slot is at = elim (cases_Bool (is_sched (old key))) [
  | inl sched ↦ ap (λ o. slot_asks (mask_in o) slot) (by.scheduler sched p)
  | inr off ↦ (by.thread (λ is. cc)).still c port p slot
      (λ e. let on : is_sched (old key) ≡ true = ap (λ n. is_sched (old n)) (sym e) ∙ is in cc) at
]

pub voices_still : (old new : Nodes) (l : List ℕ) (voices : ℕ) → IsAlike old new → AreStill old new
    → HaveTold old l voices → HaveTold new l voices
voices_still old new l voices alike still told at c port p slot lt on is sits =
    let was : is_sched (old c) ≡ true = sym (sched_alike old new alike c) ∙ is in
    let sat : place_in (old c) port ≡ Some (At p slot) = sym (alike_places old new alike c port) ∙ sits in
    still c port p slot was sat ∙ told at c port p slot lt on was sat

-- one past the first 64 tells
pub voices_past : (old new : Nodes) (l : List ℕ) (i key voices : ℕ) → IsRoll old l → slice_get l i ≡ Some key → 64 ≤ i
    → Tells key old new → HaveTold old l voices → HaveTold new l voices
voices_past old new l i key voices roll here far by told at c port p slot lt on is sits =
    let was : is_sched (old c) ≡ true = sym (sched_alike old new by.alike c) ∙ is in
    let sat : place_in (old c) port ≡ Some (At p slot) = sym (alike_places old new by.alike c port) ∙ sits in
    by.still c port p slot (λ e.
    let same : at ≡ i = roll.once at i key (on ∙ ap Some e) here in
    omega (arith, same, lt, far)) sat
    ∙ told at c port p slot lt on was sat

-- one of the first 64 tells
pub voices_here : (old new : Nodes) (l : List ℕ) (i key was now : ℕ) → IsRoll old l → slice_get l i ≡ Some key
    → has_bit now i ≡ asks_in (old key) → ((k : ℕ) → k < 64 → k ≢ i → has_bit now k ≡ has_bit was k)
    → Tells key old new → HaveTold old l was → HaveTold new l now
voices_here old new l i key was now roll here set others by told at c port p slot lt on is sits =
    elim (cases_eq at i) [
      | inl e ↦
          let same : c ≡ key = entry_at l i c key here (ap (slice_get l) (sym e) ∙ on) in
          let its : place_in (new key) port ≡ Some (At p slot) = ap (λ n. place_in (new n) port) (sym same) ∙ sits in
          by.told port p slot its ∙ by.asks ∙ sym set ∙ ap (has_bit now) (sym e)
      | inr ne ↦
          let sched : is_sched (old c) ≡ true = sym (sched_alike old new by.alike c) ∙ is in
          let sat : place_in (old c) port ≡ Some (At p slot) = sym (alike_places old new by.alike c port) ∙ sits in
          by.still c port p slot (λ f. ne (roll.once at i key (on ∙ ap Some f) here)) sat
          ∙ told at c port p slot lt on sched sat ∙ sym (others at lt ne)
    ]

-- where all have told, their bits are what they ask
pub voices_all : (s : Nodes) (l : List ℕ) (voices : ℕ)
    → ((at c : ℕ) → at < 64 → slice_get l at ≡ Some c → has_bit voices at ≡ asks_in (s c)) → IsTelling s Each
    → HaveTold s l voices
voices_all s l voices asks t at c port p slot lt on is sits =
    t.told c port tt p slot sits ∙ sym (asks at c lt on)

pub agree : (a b : Bool) → not (beq a b) ≡ false → a ≡ b
agree true true e = refl
agree true false e = absurd cc
agree false true e = absurd cc
agree false false e = refl

-- on the way through the places of a level, by what each one told
pub record IsAsking (old s : Nodes) (l : List ℕ) (places left told : ℕ) : Type 0 where
  pub among : IsAmong old s l places left
  pub roll : IsRoll s l
  pub voices : HaveTold s l told

-- who asks as it told need not tell
told_here : (s : Nodes) (l : List ℕ) (at key told : ℕ) → at < 64 → slice_get l at ≡ Some key
    → asks_in (s key) ≡ has_bit told at → is_sched (s key) ≡ true → HaveTold s l told → (port : ℕ) → ToldAt s key port
told_here s l at key told lt here same is voices port p slot sits =
    voices at key port p slot lt here is sits ∙ sym same

among_skip : (old s : Nodes) (l : List ℕ) (places left next at key : ℕ) → slice_get l at ≡ Some key
    → ((k : ℕ) → k < 64 → k ≢ at → bit_at next k ≡ bit_at left k)
    → ((k : ℕ) → bit_at next k ≡ 1 → bit_at left k ≡ 1)
    → (is_sched (s key) ≡ true → (port : ℕ) → ToldAt s key port) → IsAmong old s l places left
    → IsAmong old s l places next
among_skip old s l places left next at key here others fewer has so = record {
  laid = so.laid;
  posted = so.posted;
  alike = so.alike;
  some = λ k set. so.some k (fewer k set);
  telling = λ level marked t.
      let mid = so.telling level marked t in
      record {
        laid = mid.laid;
        posted = mid.posted;
        free = mid.free;
        told = λ c port then. elim (cases_Bool (is_sched (s c))) [
          | inr off ↦ mid.told c port (λ is. absurd (cc))
          | inl is ↦ elim (cases_eq c key) [
            | inl e ↦ subst (λ n. ToldAt s n port) (sym e) (has (ap (λ n. is_sched (s n)) (sym e) ∙ is) port)
            | inr ne ↦ mid.told c port (λ on.
                let both = then on in (
                  both.0,
                  λ e w. elim (cases_eq w.0 at) [
                    | inl j ↦ ne (entry_at l at c key here (ap (slice_get l) (sym j) ∙ w.2))
                    | inr nj ↦ both.1 e (w.0, λ lt. others w.0 lt nj ∙ w.1 lt, w.2)
                  ],
                ))
          ]
        ];
      };
}

pub asking_start : (s : Nodes) (l : List ℕ) (places told : ℕ) → IsRoll s l → IsLaid s → ((k : ℕ) → PostedIn (s k))
    → HaveTold s l told → IsAsking s s l places places told
asking_start s l places told roll laid posted voices =
    record { among = among_start s l places roll laid posted; roll = roll; voices = voices }

pub asking_skip : (old s : Nodes) (l : List ℕ) (places left next at key told : ℕ) → slice_get l at ≡ Some key
    → at < 64 → ((k : ℕ) → k < 64 → k ≢ at → bit_at next k ≡ bit_at left k)
    → ((k : ℕ) → bit_at next k ≡ 1 → bit_at left k ≡ 1) → asks_in (s key) ≡ has_bit told at
    → IsAsking old s l places left told → IsAsking old s l places next told
asking_skip old s l places left next at key told here lt others fewer same so = record {
  among = among_skip old s l places left next at key here others fewer
      (λ is. told_here s l at key told lt here same is so.voices) so.among;
  roll = so.roll;
  voices = so.voices;
}

pub asking_step : (old s new : Nodes) (l : List ℕ) (places left next at key told now : ℕ) → slice_get l at ≡ Some key
    → bit_at left at ≡ 1 → ((k : ℕ) → k < 64 → k ≢ at → bit_at next k ≡ bit_at left k)
    → ((k : ℕ) → bit_at next k ≡ 1 → bit_at left k ≡ 1) → has_bit now at ≡ asks_in (s key)
    → ((k : ℕ) → k < 64 → k ≢ at → has_bit now k ≡ has_bit told k)
    → IsAsking old s l places left told → Tells key s new → IsAsking old new l places next now
asking_step old s new l places left next at key told now here on others fewer set kept so by = record {
  among = among_step old s new l places left next at key here on others fewer so.among by;
  roll = roll_alike s new l by.alike so.roll;
  voices = voices_here s new l at key told now so.roll here set kept by so.voices;
}
